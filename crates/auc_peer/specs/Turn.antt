-- A turn of a peer: what was received, what the USIM was asked, what was decrypted, and that the rest is the table's.
use Rattle.std.specs.Prelude.{◌≡◌, ℕ, true, not, List, [], Option, Some, None, Ok, Err, if◌then◌else◌}
use Rattle.auc_attr.specs.declared.attr.Attr.{Attr}
use Rattle.auc_hmac.specs.declared.keys.KeySet.{KeySet}
use Rattle.auc_packet.specs.Messages.{is_missing}
use Rattle.auc_packet.specs.Received.{Seen, IsReceived, attrs_in, is_sealed}
use Rattle.auc_packet.specs.declared.subtype.Subtype.TheVariants as subtype
use Rattle.auc_peer.specs.Asking.{answer_noted}
use Rattle.auc_peer.specs.Attributes.{checkcode}
use Rattle.auc_peer.specs.Peer.{PeerEnd, answer_or_none}
use Rattle.auc_peer.specs.Rows.{peer_row}
use Rattle.auc_peer.specs.Subscription.{Subscription}
use Rattle.auc_request.specs.Request.{Gives}
use Rattle.auc_peer.specs.Table.{context_of, keys_at, kept_by, own_code, peer_step}
use Rattle.auc_peer.specs.declared.decrypted.Decrypted.{Decrypted}
use Rattle.auc_peer.specs.declared.decrypted.Decrypted.TheVariants as decrypted
use Rattle.auc_peer.specs.declared.peer.Challenge.{Challenge}
use Rattle.auc_peer.specs.declared.peer.Last.{Last}
use Rattle.auc_peer.specs.declared.rows.Row.{Row}
use Rattle.auc_peer.specs.declared.rows.Row.TheVariants as row
use Rattle.auc_seal.specs.Checkcode.{differs}
use Rattle.auc_vector.specs.declared.why.PeerWhy.{PeerWhy}
use Rattle.auc_reauth.specs.Device.{Keeps}
use Rattle.auc_reauth.specs.declared.context.Context.{Context}
use Rattle.auc_seal.specs.Encrypted.{Opens}
use Rattle.auc_seal.specs.declared.refusal.SealRefusal.{SealRefusal}
use Rattle.auc_sqn.specs.Past.{ArrayValue, Past, Remembers}
use Rattle.auc_usim.specs.Usim.{IsAnswer, past_after_answer}
use Rattle.auc_usim.specs.declared.answer.Answer.{Answer}
use Rattle.auc_usim.specs.declared.answer.Answer.TheVariants as answer
use Rattle.auc_vector.specs.declared.notes.UsimNote.{UsimNote}
use Rattle.auc_vector.specs.declared.turn.Step.{Step}
use Rattle.auc_vector.specs.declared.turn.Step.TheVariants as step
use Rattle.auc_vector.specs.declared.turn.Turn.{Turn}

-- ---- the USIM

-- the challenge that a row hands the USIM
abbrev pub asked : Row → Option Challenge
asked (row.Challenged c) = Some c
asked other = None

-- the USIM answered what it was asked by all that it had accepted, as the note tells, and accepted nothing else; it was
-- asked nothing else
abbrev pub AskedUsim : Subscription → Option Challenge → Option UsimNote → ArrayValue → ArrayValue → Type 0
AskedUsim s None n old new = (n ≡ None) × (new ≡ old)
AskedUsim s (Some c) None old new = ⊥
AskedUsim s (Some c) (Some n) old new = (past : Past) → Remembers old past
    → IsAnswer s.secret old.bits old.age past c.rand c.autn (answer_noted s.secret c n)
    × Remembers new (past_after_answer old.bits past (answer_noted s.secret c n))

-- ---- what is encrypted

-- what the encrypted attributes of a list are
abbrev pub IsInner : List ℕ → List Attr → Decrypted → Type 0
IsInner k_encr list decrypted.Unreadable = (refused : SealRefusal) × Opens k_encr list (Err refused)
IsInner k_encr list (decrypted.Attributes given) = (bytes : List ℕ) × Opens k_encr list (Ok bytes) × Gives bytes given

-- a decryption: under which key, and of which attributes
pub record Decryption : Type 0 where
  pub k_encr : List ℕ
  pub list : List Attr

-- the decryption of a Challenge that the USIM accepted, with a right AT_MAC and AT_CHECKCODE
abbrev pub decryption_under : PeerEnd → Seen → KeySet → Option Decryption
decryption_under p seen keys =
    if not (is_sealed p.options.method keys.k_aut [] seen) then None
    else if differs (own_code p) (checkcode seen) then None
    else Some (record { k_encr = keys.k_encr; list = attrs_in seen.reading })

abbrev pub decryption_by : PeerEnd → Seen → Challenge → Answer → Option Decryption
decryption_by p seen c (answer.Accepted res ck ik ak amf sqn) = decryption_under p seen (keys_at p seen c ik ck)
decryption_by p seen c other = None

abbrev pub decryption_noted : Subscription → PeerEnd → Seen → Option Challenge → Option UsimNote → Option Decryption
decryption_noted s p seen (Some c) (Some n) = decryption_by p seen c (answer_noted s.secret c n)
decryption_noted s p seen c n = None

-- the decryption of a Reauthentication that has what it must have, with a right AT_MAC and AT_CHECKCODE
abbrev pub decryption_resumed : PeerEnd → Seen → Option Context → Option Decryption
decryption_resumed p seen None = None
decryption_resumed p seen (Some c) =
    if is_missing subtype.Reauthentication true (attrs_in seen.reading) then None
    else if not (is_sealed p.options.method c.k_aut [] seen) then None
    else if differs (own_code p) (checkcode seen) then None
    else Some (record { k_encr = c.k_encr; list = attrs_in seen.reading })

-- the decryption that a row makes
abbrev pub decryption_made : Subscription → Keeps → PeerEnd → Seen → Row → Option UsimNote → Option Decryption
decryption_made s keeps p seen (row.Challenged c) n = decryption_noted s p seen (Some c) n
decryption_made s keeps p seen row.Reauthentication n = decryption_resumed p seen (context_of keeps p)
decryption_made s keeps p seen other n = None

-- what a decryption gives; without one nothing is said
abbrev pub Decrypts : Option Decryption → Decrypted → Type 0
Decrypts None inner = Unit {0}
Decrypts (Some d) inner = IsInner d.k_encr d.list inner

-- what was decrypted: the peer keeps it
abbrev pub inner_of : PeerEnd → Decrypted
inner_of new = new.inner

-- ---- what is sent

-- what a step sends is the answer that the peer keeps; a session ends without a message
abbrev pub SendsLast : Option Last → Step PeerWhy → Type 0
SendsLast last (step.Sent bytes) = bytes ≡ answer_or_none last
SendsLast last (step.Ended end bytes) = bytes ≡ []
SendsLast last (step.Ignored cause) = Unit {0}

-- ---- the turn

-- under a key of the random bytes, bytes were received as something; if the USIM remembers some past, the turn is the
-- table's; the USIM was asked what the row says, and answered as the note tells; what the row decrypted was as the new peer
-- tells; what is sent is the last answer of the new peer; and the device keeps what the row says
pub record Steps (key : List ℕ) (s : Subscription) (keeps : Keeps) (old : PeerEnd) (bytes : List ℕ) (before : ArrayValue) (new : PeerEnd) (turn : Turn PeerWhy) (kept : Keeps) (after : ArrayValue) : Type 0 where
  pub seen : Seen
  pub received : IsReceived seen
  pub of : seen.bytes ≡ bytes
  pub same : (past : Past) → Remembers before past → (new, turn) ≡ peer_step key s keeps old seen turn.notes.usim (inner_of new)
  pub usim : AskedUsim s (asked (peer_row old seen)) turn.notes.usim before after
  pub decrypts : (past : Past) → Remembers before past
      → Decrypts (decryption_made s keeps old seen (peer_row old seen) turn.notes.usim) (inner_of new)
  pub sent : SendsLast new.last turn.step
  pub stored : kept ≡ kept_by (peer_row old seen) old turn.notes.counter keeps
