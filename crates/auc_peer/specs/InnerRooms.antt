-- Inner facts: what only private contracts of this crate cite. Memory for a turn, and messages that fit into it.
use Rattle.std.specs.Prelude.{◌≡◌, ℕ, ◌≤◌, Bool, List, [], length}
use Rattle.auc_aes.specs.Cbc.{cbc_encrypted}
use Rattle.auc_attr.specs.Spelling.{spelling}
use Rattle.auc_attr.specs.declared.attr.Attr.{Attr}
use Rattle.auc_memory.specs.Reserved.{Reserved}
use Rattle.auc_hmac.specs.Mac.{no_mac}
use Rattle.auc_packet.specs.Sealed.{with_mac}
use Rattle.auc_packet.specs.Spelling.{MayBeWritten, packet_text}
use Rattle.auc_packet.specs.declared.packet.Packet.{Packet}
use Rattle.auc_packet.specs.declared.sealing.Draft.{Draft}
use Rattle.auc_hmac.specs.declared.method.Method.{Method}
use Rattle.auc_peer.specs.Messages.{client_error, counter_attrs, notified, reject, sync_failure}
use Rattle.auc_peer.specs.declared.messages.Plain.{Plain}
use Rattle.auc_peer.specs.declared.messages.Plain.TheVariants as message
use Rattle.auc_seal.specs.Encrypted.{padded}

-- memory for so many bytes, none of which is written
pub record HasRoom (room : Reserved ℕ) (size : ℕ) : Type 0 where
  pub empty : room.written ≡ []
  pub left : room.left ≡ size

-- an answer to a request
pub record Answer : Type 0 where
  pub request : List ℕ
  pub bytes : List ℕ

-- an answer isn't too long, and there is memory for a copy of it
pub record IsKeepable (bytes : List ℕ) (kept : Reserved ℕ) : Type 0 where
  pub short : length bytes ≤ 526
  pub empty : kept.written ≡ []
  pub left : length bytes ≤ kept.left

-- places for the attributes of a message before AT_MAC
pub record HasPlaces (places : Reserved Attr) : Type 0 where
  pub empty : places.written ≡ []
  pub left : places.left ≡ 2

-- places for the attributes of a Reauthentication response before AT_MAC
pub record HasThreePlaces (places : Reserved Attr) : Type 0 where
  pub empty : places.written ≡ []
  pub left : places.left ≡ 3

-- an initialisation vector is a block, and the ciphertext of a counter has one
pub record IsOneBlock (k_encr iv : List ℕ) (counter : ℕ) (small : Bool) : Type 0 where
  pub block : length iv ≡ 16
  pub ciphertext : length (cbc_encrypted k_encr iv (spelling (padded (counter_attrs counter small)))) ≡ 16

-- a message may be written, in at most 76 bytes
pub record IsShort (p : Packet) : Type 0 where
  pub may : MayBeWritten p
  pub size : length (packet_text p) ≤ 76

-- a message may be written with AT_MAC, in at most 76 bytes, whatever the value is
pub record IsShortDraft (draft : Draft) : Type 0 where
  pub zero : IsShort (with_mac draft no_mac)
  pub any : (mac : List ℕ) → length mac ≡ 16 → length (packet_text (with_mac draft mac)) ≤ 76

-- a message without AT_MAC
abbrev pub plain : Method → ℕ → Plain → Packet
plain m id message.ClientError = client_error m id
plain m id message.Reject = reject m id
plain m id message.Notified = notified m id
plain m id (message.SyncFailure auts) = sync_failure m id auts
