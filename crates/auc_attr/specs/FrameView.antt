-- What the code's frame is.
use Rattle.std.specs.Prelude.{◌≡◌, ℕ, ◌≤◌, List, length, Result, Ok, Err}
use Rattle.auc_attr.specs.declared.frame.FrameFault.{FrameFault}
use Rattle.auc_attr.specs.declared.frame.FrameFault.TheVariants as faults
use Rattle.auc_attr.specs.declared.frame.Framed.{Framed}
use Rattle.auc_attr.specs.declared.frame.Framed.TheVariants as framed
use Rattle.auc_attr.specs.Frame.{Frame, Ended, Named, Message}

abbrev pub frame_of : Framed → Frame
frame_of (framed.Ended success id) = Ended success id
frame_of (framed.Named request id text) = Named request id text.now
frame_of (framed.Message request id kind subtype attrs) = Message request id kind subtype attrs.now

abbrev pub Frames : Result Framed FrameFault → Result Frame FrameFault → Type 0
Frames (Ok frame) read = read ≡ Ok (frame_of frame)
Frames (Err fault) read = read ≡ Err fault

-- a fault of type or Subtype shows that there are code, Identifier and type
abbrev pub IsLongFor : FrameFault → List ℕ → Type 0
IsLongFor (faults.OtherType kind) bytes = 5 ≤ length bytes
IsLongFor (faults.UnknownSubtype subtype) bytes = 5 ≤ length bytes
IsLongFor fault bytes = Unit {0}
