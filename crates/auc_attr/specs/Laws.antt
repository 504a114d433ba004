-- What holds of all bytes and all lists of attributes.
use Rattle.std.specs.Prelude.{◌≡◌, ◌≢◌, ℕ, ◌<◌, ◌↔◌, Bool, true, nat_lt, List, [], length, slice_index, Option, Ok}
use Rattle.std.specs.List.{list_all}
use Rattle.auc_attr.specs.declared.attr.Attr.{Attr}
use Rattle.auc_attr.specs.declared.attr.Attr.TheVariants as attr
use Rattle.auc_attr.specs.declared.refusal.AttrRefusal.{AttrRefusal}
use Rattle.auc_attr.specs.declared.refusal.AttrRefusal.TheVariants as refusal
use Rattle.auc_attr.specs.declared.table.Table.{Table}
use Rattle.auc_attr.specs.declared.table.Table.TheVariants as tables
use Rattle.auc_attr.specs.Frame.{Frame, frame_at_in, IsFramedIn}
use Rattle.auc_attr.specs.Grammar.{WalksIn, ReadsIn, FirstFaultIn, ReadsAttrs, FirstFault}
use Rattle.auc_attr.specs.Item.{Item}
use Rattle.auc_attr.specs.Spelling.{writable_in, writable, texts_in, spelling}

-- each number is a byte
abbrev pub AreBytes : List ℕ → Type 0
AreBytes bytes = (i : ℕ) → slice_index bytes i < 256

-- each number of an attribute has 16 bits
abbrev pub is_value : Attr → Bool
is_value (attr.Notification n) = nat_lt n 65536
is_value (attr.Counter n) = nat_lt n 65536
is_value (attr.ClientErrorCode n) = nat_lt n 65536
is_value (attr.Kdf n) = nat_lt n 65536
is_value _ = true

-- by a table, bytes are one list of items and then end, or one list of items and then one fault
abbrev pub OneWalkIn : Table → Type 0
OneWalkIn table = (bytes : List ℕ) (is js : List Item) (e f : Option AttrRefusal) → WalksIn table [] bytes is e → WalksIn table [] bytes js f → (is ≡ js) × (e ≡ f)

-- bytes have one first fault
abbrev pub OneFaultIn : Table → Type 0
OneFaultIn table = (bytes : List ℕ) (f g : AttrRefusal) → f ≢ refusal.NoMemory → g ≢ refusal.NoMemory → FirstFaultIn table bytes f → FirstFaultIn table bytes g → f ≡ g

-- bytes with a fault are no list of items
abbrev pub RefusedIsNotReadIn : Table → Type 0
RefusedIsNotReadIn table = (bytes : List ℕ) (is : List Item) (f : AttrRefusal) → f ≢ refusal.NoMemory → FirstFaultIn table bytes f → ReadsIn table bytes is → ⊥

-- what is written of items is read as these items
abbrev pub WrittenIsReadIn : Table → Type 0
WrittenIsReadIn table = (is : List Item) → writable_in table is ≡ true → ReadsIn table (texts_in table is) is

-- items that were read may be written, in as many bytes
abbrev pub ReadIsWritableIn : Table → Type 0
ReadIsWritableIn table = (bytes : List ℕ) (is : List Item) → AreBytes bytes → ReadsIn table bytes is → (writable_in table is ≡ true) × (length (texts_in table is) ≡ length bytes)

-- bytes in which no fault stands before the attributes are what the grammar says, and the other way round
abbrev pub FoundIsFramedIn : Table → Type 0
FoundIsFramedIn table = (bytes : List ℕ) (f : Frame) → AreBytes bytes → (frame_at_in table bytes ≡ Ok f) ↔ IsFramedIn table f bytes

-- the same of attributes of EAP-AKA: bytes are one list of items and then end, or one list of items and then one fault
abbrev pub OneWalk : Type 0
OneWalk = OneWalkIn tables.Aka

-- bytes are one list of attributes
abbrev pub OneList : Type 0
OneList = (bytes : List ℕ) (list other : List Attr) → list_all is_value list ≡ true → list_all is_value other ≡ true → ReadsAttrs bytes list → ReadsAttrs bytes other → list ≡ other

-- bytes have one first fault
abbrev pub OneFault : Type 0
OneFault = OneFaultIn tables.Aka

-- bytes with a fault are no list of attributes
abbrev pub RefusedIsNotRead : Type 0
RefusedIsNotRead = (bytes : List ℕ) (list : List Attr) (f : AttrRefusal) → f ≢ refusal.NoMemory → FirstFault bytes f → ReadsAttrs bytes list → ⊥

-- what is written is read
abbrev pub WrittenIsRead : Type 0
WrittenIsRead = (list : List Attr) → writable list ≡ true → ReadsAttrs (spelling list) list

-- a list that was read may be written, in as many bytes
abbrev pub ReadIsWritable : Type 0
ReadIsWritable = (bytes : List ℕ) (list : List Attr) → AreBytes bytes → ReadsAttrs bytes list → (writable list ≡ true) × (length (spelling list) ≡ length bytes)

-- bytes in which no fault stands before the attributes are what the grammar says, and the other way round
abbrev pub FoundIsFramed : Type 0
FoundIsFramed = FoundIsFramedIn tables.Aka
