-- The place of the message authentication code (RFC 4187 §10.15, RFC 4186 §10.14) in a packet.
use Rattle.std.specs.Prelude.{◌≡◌, ℕ, ◌+◌, ◌==◌, if◌then◌else◌, List, [], ◌∷◌, length, Option, Some, None, Result, Ok, Err}
use Rattle.auc_attr.specs.declared.frame.FrameFault.{FrameFault}
use Rattle.auc_attr.specs.declared.refusal.AttrRefusal.{AttrRefusal}
use Rattle.auc_attr.specs.Frame.{Frame, Ended, Named, Message, frame_at_in}
use Rattle.auc_attr.specs.declared.table.Table.{Table}
use Rattle.auc_attr.specs.declared.table.Table.TheVariants as tables
use Rattle.auc_attr.specs.Grammar.{WalksIn}
use Rattle.auc_attr.specs.Item.{Item}
use Rattle.auc_attr.specs.Spelling.{item_text_in}

-- the value of the first AT_MAC of attributes that begin at a place, each of which takes as many bytes as
-- its spelling: it stands after type, length and two reserved bytes
abbrev pub mac_from_in : Table → ℕ → List Item → Option ℕ
mac_from_in table place [] = None
mac_from_in table place (i ∷ is) = if i.kind == 11 then Some (place + 4) else mac_from_in table (place + length (item_text_in table i)) is

-- attributes with a fault have none
abbrev pub mac_place_of_in : Table → Option AttrRefusal → List Item → Option ℕ
mac_place_of_in table None is = mac_from_in table 8 is
mac_place_of_in table (Some fault) is = None

-- the place in a packet whose attributes these bytes are
abbrev pub IsMacAmongIn : Table → List ℕ → Option ℕ → Type 0
IsMacAmongIn table attrs place = (is : List Item) × (end : Option AttrRefusal) × WalksIn table [] attrs is end × (place ≡ mac_place_of_in table end is)

abbrev pub IsMacOfIn : Table → Result Frame FrameFault → Option ℕ → Type 0
IsMacOfIn table (Err fault) place = place ≡ None
IsMacOfIn table (Ok (Ended success id)) place = place ≡ None
IsMacOfIn table (Ok (Named request id text)) place = place ≡ None
IsMacOfIn table (Ok (Message request id kind subtype attrs)) place = IsMacAmongIn table attrs place

-- the place is that of the first of the 16 bytes, or none if the bytes have a fault or no AT_MAC
abbrev pub IsMacPlaceIn : Table → List ℕ → Option ℕ → Type 0
IsMacPlaceIn table packet place = IsMacOfIn table (frame_at_in table packet) place

-- the same by the table of EAP-AKA
abbrev pub mac_from : ℕ → List Item → Option ℕ
mac_from place is = mac_from_in tables.Aka place is

abbrev pub mac_place_of : Option AttrRefusal → List Item → Option ℕ
mac_place_of end is = mac_place_of_in tables.Aka end is

abbrev pub IsMacIn : List ℕ → Option ℕ → Type 0
IsMacIn attrs place = IsMacAmongIn tables.Aka attrs place

abbrev pub IsMacOf : Result Frame FrameFault → Option ℕ → Type 0
IsMacOf frame place = IsMacOfIn tables.Aka frame place

abbrev pub IsMacPlace : List ℕ → Option ℕ → Type 0
IsMacPlace packet place = IsMacPlaceIn tables.Aka packet place
