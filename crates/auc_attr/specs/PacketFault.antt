-- The first fault of a packet's bytes: before its attributes, or in them.
use Rattle.std.specs.Prelude.{◌≡◌, ◌≢◌, ℕ, Bool, List, Err}
use Rattle.auc_attr.specs.declared.frame.FrameFault.{FrameFault}
use Rattle.auc_attr.specs.declared.refusal.AttrRefusal.{AttrRefusal}
use Rattle.auc_attr.specs.declared.refusal.AttrRefusal.TheVariants as refusal
use Rattle.auc_attr.specs.Frame.{Message, frame_at, IsFramed}
use Rattle.auc_attr.specs.Grammar.{FirstFault}

pub data PacketFault : Type 0 where
  Before : FrameFault → PacketFault
  Within : AttrRefusal → PacketFault

-- the bytes are a message up to its attributes, and those have this first fault
pub record IsFaultWithin (bytes : List ℕ) (fault : AttrRefusal) : Type 0 where
  pub request : Bool
  pub id : ℕ
  pub kind : ℕ
  pub subtype : ℕ
  pub attrs : List ℕ
  pub framed : IsFramed (Message request id kind subtype attrs) bytes
  pub first : FirstFault attrs fault

abbrev pub IsFirstFault : List ℕ → PacketFault → Type 0
IsFirstFault bytes (Before fault) = frame_at bytes ≡ Err fault
IsFirstFault bytes (Within fault) = (fault ≢ refusal.NoMemory) × IsFaultWithin bytes fault
