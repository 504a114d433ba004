-- Code, Identifier and type of a packet's bytes, whatever follows them.
use Rattle.std.specs.Prelude.{ℕ, List, slice_index, Option, Some, None, Result, Ok, Err}
use Rattle.auc_attr.specs.declared.frame.FrameFault.{FrameFault}
use Rattle.auc_attr.specs.declared.frame.FrameFault.TheVariants as faults
use Rattle.auc_attr.specs.Frame.{Frame, Ended, Named, Message, frame_at, end_code, message_code}
use Rattle.auc_packet.specs.declared.packet.Head.{Head}

abbrev pub head_as : ℕ → ℕ → Option ℕ → Head
head_as code id kind = record { code = code; id = id; kind = kind }

-- a Success or Failure has no type
abbrev pub head_of_frame : Frame → Head
head_of_frame (Ended success id) = head_as (end_code success) id None
head_of_frame (Named request id text) = head_as (message_code request) id (Some 1)
head_of_frame (Message request id kind number attrs) = head_as (message_code request) id (Some kind)

-- none if the first fault is Short, BadCode or LengthDisagrees
abbrev pub head_from : Result Frame FrameFault → List ℕ → Option Head
head_from (Ok frame) bytes = Some (head_of_frame frame)
head_from (Err faults.Short) bytes = None
head_from (Err faults.BadCode) bytes = None
head_from (Err faults.LengthDisagrees) bytes = None
head_from (Err (faults.OtherType kind)) bytes = Some (head_as (slice_index bytes 0) (slice_index bytes 1) (Some kind))
head_from (Err (faults.UnknownSubtype number)) bytes = Some (head_as (slice_index bytes 0) (slice_index bytes 1) (Some (slice_index bytes 4)))

abbrev pub head_at : List ℕ → Option Head
head_at bytes = head_from (frame_at bytes) bytes
