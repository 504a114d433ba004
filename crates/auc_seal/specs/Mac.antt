-- The message authentication code of a packet (RFC 4187 §10.15, RFC 9048 §3.4.2). A packet is seen as
-- the list of its bytes; the place is that of the first of the 16 bytes of AT_MAC's value.
use Rattle.std.specs.Prelude.{◌≡◌, ◌≢◌, ℕ, List, Some, None}
use Rattle.auc_attr.specs.Frame.{length_of}
use Rattle.auc_attr.specs.Mac.{IsMacPlace}
use Rattle.auc_hmac.specs.Mac.{mac_at, mac_value}
use Rattle.auc_hmac.specs.declared.method.Method.{Method}
use Rattle.auc_seal.specs.declared.mac.Mac.{Mac}
use Rattle.auc_seal.specs.declared.mac.Mac.TheVariants as macs

-- the right value for a packet
abbrev pub right_mac : Method → List ℕ → List ℕ → ℕ → List ℕ → List ℕ
right_mac method k_aut packet place extra = mac_at method k_aut (length_of packet) packet place extra

-- the packet has AT_MAC, and its value is right
pub record IsRight (method : Method) (k_aut packet extra : List ℕ) : Type 0 where
  pub place : ℕ
  pub there : IsMacPlace packet (Some place)
  pub right : mac_value packet place ≡ right_mac method k_aut packet place extra

-- the packet has AT_MAC, and its value isn't right
pub record IsWrong (method : Method) (k_aut packet extra : List ℕ) : Type 0 where
  pub place : ℕ
  pub there : IsMacPlace packet (Some place)
  pub wrong : mac_value packet place ≢ right_mac method k_aut packet place extra

-- what a check answers: Absent if the bytes have a fault or no AT_MAC
abbrev pub Checks : Method → List ℕ → List ℕ → List ℕ → Mac → Type 0
Checks method k_aut packet extra macs.Right = IsRight method k_aut packet extra
Checks method k_aut packet extra macs.Wrong = IsWrong method k_aut packet extra
Checks method k_aut packet extra macs.Absent = IsMacPlace packet None
