-- What stands before the attributes of a packet: EAP (RFC 3748 §4 and §5.1), EAP-AKA (RFC 4187 §8.1) and EAP-SIM
-- (RFC 4186 §8.1).
-- The bytes after those that Length counts are free.
use Rattle.std.specs.Prelude.{◌≡◌, ℕ, ◌+◌, ◌<◌, ◌==◌, nat_lt, nat_le, Bool, true, false, not, ◌&&◌, ◌||◌, if◌then◌else◌, List, [], ◌∷◌, ◌++◌, length, take, drop, slice_index, Result}
use Rattle.std.specs.Int.{w16, to_be_bytes, from_be_bytes}
use Rattle.auc_attr.specs.declared.frame.FrameFault.{FrameFault}
use Rattle.auc_attr.specs.declared.frame.FrameFault.TheVariants as faults
use Rattle.auc_attr.specs.declared.table.Table.{Table}
use Rattle.auc_attr.specs.declared.table.Table.TheVariants as tables
use Rattle.auc_attr.specs.Conditions.{first_of, unless}

-- Success or Failure; Identity with its text; a message of EAP-AKA (type 23), EAP-AKA' (type 50) or EAP-SIM (type 18)
-- with its Subtype and its attributes
pub data Frame : Type 0 where
  Ended : Bool → ℕ → Frame
  Named : Bool → ℕ → List ℕ → Frame
  Message : Bool → ℕ → ℕ → ℕ → List ℕ → Frame

-- the bytes that a packet says that it has
abbrev pub length_of : List ℕ → ℕ
length_of bytes = from_be_bytes w16 (drop 2 bytes)

-- Request, Response, Success, Failure
abbrev pub is_code : ℕ → Bool
is_code code = nat_le 1 code && nat_le code 4

-- EAP-AKA, EAP-AKA'
abbrev pub is_method : ℕ → Bool
is_method kind = kind == 23 || kind == 50

-- Challenge, Authentication-Reject, Synchronization-Failure, Identity, Notification, Reauthentication,
-- Client-Error (RFC 4187 §11)
abbrev pub is_subtype : ℕ → Bool
is_subtype n = n == 1 || n == 2 || n == 4 || n == 5 || n == 12 || n == 13 || n == 14

-- the methods by a table: that of EAP-SIM has type 18 alone (RFC 4186 §8.1)
abbrev pub is_method_in : Table → ℕ → Bool
is_method_in tables.Aka kind = is_method kind
is_method_in tables.Sim kind = kind == 18

-- the Subtypes by a table: Start, Challenge and Client-Error of EAP-SIM (RFC 4186 §11)
abbrev pub is_subtype_in : Table → ℕ → Bool
is_subtype_in tables.Aka n = is_subtype n
is_subtype_in tables.Sim n = n == 10 || n == 11 || n == 14

-- the type is Identity, which is read beside EAP-AKA alone
abbrev pub is_identity_in : Table → ℕ → Bool
is_identity_in tables.Aka kind = kind == 1
is_identity_in tables.Sim kind = false

-- code, Identifier, type and Subtype of a packet
abbrev pub code_at : List ℕ → ℕ
code_at bytes = slice_index bytes 0

abbrev pub id_at : List ℕ → ℕ
id_at bytes = slice_index bytes 1

abbrev pub type_at : List ℕ → ℕ
type_at bytes = slice_index bytes 4

abbrev pub subtype_at : List ℕ → ℕ
subtype_at bytes = slice_index bytes 5

-- whether a packet is Success or Failure
abbrev pub is_ended : List ℕ → Bool
is_ended bytes = nat_le 3 (code_at bytes)

-- whether it is a Request or Response of a method
abbrev pub is_message_in : Table → List ℕ → Bool
is_message_in table bytes = not (is_ended bytes) && is_method_in table (type_at bytes)

-- Length counts more bytes than there are, or other than the 4 of Success and Failure, or fewer than the 5 of Request
-- and Response
abbrev pub has_bad_length : List ℕ → Bool
has_bad_length bytes =
    nat_lt (length bytes) (length_of bytes) || (if is_ended bytes then not (length_of bytes == 4) else nat_lt (length_of bytes) 5)

-- it is a Request or Response of a type that is neither Identity nor a method
abbrev pub has_other_type_in : Table → List ℕ → Bool
has_other_type_in table bytes = not (is_ended bytes) && not (is_identity_in table (type_at bytes)) && not (is_method_in table (type_at bytes))

-- What can be wrong before the attributes: each fault beside a condition of its own, in the order in which they are
-- reported. No standard orders them; this order is the project's.
abbrev pub faults_before : Table → List ℕ → List (Bool × FrameFault)
faults_before table bytes =
    (nat_lt (length bytes) 4, faults.Short)
    ∷ (not (is_code (code_at bytes)), faults.BadCode)
    ∷ (has_bad_length bytes, faults.LengthDisagrees)
    ∷ (has_other_type_in table bytes, faults.OtherType (type_at bytes))
    ∷ (is_message_in table bytes && nat_lt (length_of bytes) 8, faults.LengthDisagrees)
    ∷ (is_message_in table bytes && not (is_subtype_in table (subtype_at bytes)), faults.UnknownSubtype (subtype_at bytes))
    ∷ []

-- the same in EAP-AKA, in EAP-SIM
unfoldable pub frame_faults : List ℕ → List (Bool × FrameFault)
frame_faults bytes = faults_before tables.Aka bytes

unfoldable pub sim_frame_faults : List ℕ → List (Bool × FrameFault)
sim_frame_faults bytes = faults_before tables.Sim bytes

-- what bytes without these faults are
abbrev pub frame_found_in : Table → List ℕ → Frame
frame_found_in table bytes =
    if is_ended bytes then Ended (code_at bytes == 3) (id_at bytes)
    else if is_identity_in table (type_at bytes) then Named (code_at bytes == 1) (id_at bytes) (drop 5 (take (length_of bytes) bytes))
    else Message (code_at bytes == 1) (id_at bytes) (type_at bytes) (subtype_at bytes) (drop 8 (take (length_of bytes) bytes))

-- what bytes are before their attributes, or their first fault there: in EAP-AKA, in EAP-SIM, by a table
unfoldable pub frame_at : List ℕ → Result Frame FrameFault
frame_at bytes = unless (first_of (frame_faults bytes)) (frame_found_in tables.Aka bytes)

unfoldable pub sim_frame_at : List ℕ → Result Frame FrameFault
sim_frame_at bytes = unless (first_of (sim_frame_faults bytes)) (frame_found_in tables.Sim bytes)

abbrev pub frame_at_in : Table → List ℕ → Result Frame FrameFault
frame_at_in tables.Aka = frame_at
frame_at_in tables.Sim = sim_frame_at

abbrev pub end_code : Bool → ℕ
end_code success = if success then 3 else 4

abbrev pub message_code : Bool → ℕ
message_code request = if request then 1 else 2

-- Success or Failure, and more bytes
pub record IsEnded (success : Bool) (id : ℕ) (bytes : List ℕ) : Type 0 where
  pub past : List ℕ
  pub parts : bytes ≡ end_code success ∷ id ∷ 0 ∷ 4 ∷ past

-- Identity, its text, and more bytes
pub record IsIdentityPacket (request : Bool) (id : ℕ) (text bytes : List ℕ) : Type 0 where
  pub size : 5 + length text < 65536
  pub past : List ℕ
  pub parts : bytes ≡ message_code request ∷ id ∷ (to_be_bytes w16 (5 + length text) ++ (1 ∷ (text ++ past)))

-- the same by a table
abbrev pub IsNamedIn : Table → Bool → ℕ → List ℕ → List ℕ → Type 0
IsNamedIn tables.Aka request id text bytes = IsIdentityPacket request id text bytes
IsNamedIn tables.Sim request id text bytes = ⊥

-- type, Subtype, two reserved bytes, attributes, and more bytes
pub record IsMessageIn (table : Table) (request : Bool) (id kind subtype : ℕ) (attrs bytes : List ℕ) : Type 0 where
  pub method : is_method_in table kind ≡ true
  pub known : is_subtype_in table subtype ≡ true
  pub size : 8 + length attrs < 65536
  pub reserved : List ℕ
  pub two : length reserved ≡ 2
  pub past : List ℕ
  pub parts : bytes ≡ message_code request ∷ id ∷ (to_be_bytes w16 (8 + length attrs) ++ (kind ∷ subtype ∷ (reserved ++ (attrs ++ past))))

-- the bytes are a frame and more bytes
abbrev pub IsFramedIn : Table → Frame → List ℕ → Type 0
IsFramedIn table (Ended success id) bytes = IsEnded success id bytes
IsFramedIn table (Named request id text) bytes = IsNamedIn table request id text bytes
IsFramedIn table (Message request id kind subtype attrs) bytes = IsMessageIn table request id kind subtype attrs bytes

-- the same by the table of EAP-AKA
abbrev pub IsMessage : Bool → ℕ → ℕ → ℕ → List ℕ → List ℕ → Type 0
IsMessage request id kind subtype attrs bytes = IsMessageIn tables.Aka request id kind subtype attrs bytes

abbrev pub IsFramed : Frame → List ℕ → Type 0
IsFramed f bytes = IsFramedIn tables.Aka f bytes
