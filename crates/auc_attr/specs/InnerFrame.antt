-- Inner facts: what only private contracts of this crate cite. The steps of reading what stands before the attributes.
use Rattle.std.specs.Prelude.{ℕ, ◌==◌, nat_lt, nat_le, Bool, not, ◌||◌, if◌then◌else◌, List, length, take, drop, slice_index, Result, Ok, Err}
use Rattle.auc_attr.specs.declared.frame.FrameFault.{FrameFault}
use Rattle.auc_attr.specs.declared.frame.FrameFault.TheVariants as faults
use Rattle.auc_attr.specs.declared.table.Table.{Table}
use Rattle.auc_attr.specs.Frame.{Frame, Ended, Named, Message, length_of, is_code, is_method_in, is_subtype_in, is_identity_in}

-- more bytes than there are, or not the 4 of Success and Failure, or fewer than the 5 of Request and Response
abbrev pub is_wrong_length : ℕ → ℕ → ℕ → Bool
is_wrong_length code size given = nat_lt given size || (if nat_le 3 code then not (size == 4) else nat_lt size 5)

-- the bytes of a Request or Response, as many as Length says
abbrev pub typed_at : Table → Bool → ℕ → ℕ → List ℕ → Result Frame FrameFault
typed_at table request id kind bytes =
    if is_identity_in table kind then Ok (Named request id (drop 5 bytes))
    else if not (is_method_in table kind) then Err (faults.OtherType kind)
    else if nat_lt (length bytes) 8 then Err faults.LengthDisagrees
    else if not (is_subtype_in table (slice_index bytes 5)) then Err (faults.UnknownSubtype (slice_index bytes 5))
    else Ok (Message request id kind (slice_index bytes 5) (drop 8 bytes))

abbrev pub sized_at : Table → ℕ → ℕ → ℕ → List ℕ → Result Frame FrameFault
sized_at table code id size bytes =
    if is_wrong_length code size (length bytes) then Err faults.LengthDisagrees
    else if nat_le 3 code then Ok (Ended (code == 3) id)
    else typed_at table (code == 1) id (slice_index bytes 4) (take size bytes)

-- what bytes are before their attributes, or the fault at the first step that fails
unfoldable pub frame_by_steps : Table → List ℕ → Result Frame FrameFault
frame_by_steps table bytes =
    if nat_lt (length bytes) 4 then Err faults.Short
    else if not (is_code (slice_index bytes 0)) then Err faults.BadCode
    else sized_at table (slice_index bytes 0) (slice_index bytes 1) (length_of bytes) bytes
