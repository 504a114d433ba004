-- The laws by the table of EAP-AKA alone, for crates above.
use Rattle.std.proofs.Common.{◌≡◌, ℕ, ◌+◌, ◌≤◌, Bool, List, length, Option, Some, Ok, IfSome}
use Rattle.auc_attr.specs.declared.refusal.AttrRefusal.{AttrRefusal}
use Rattle.auc_attr.specs.declared.table.Table.TheVariants as tables
use Rattle.auc_attr.specs.Frame.{Frame, length_of, frame_at, IsMessage, IsFramed}
use Rattle.auc_attr.specs.Grammar.{IsAttr, Walks}
use Rattle.auc_attr.specs.Item.{Item}
use Rattle.auc_attr.specs.Laws.{OneFault, FoundIsFramed}
use Rattle.auc_attr.specs.Mac.{mac_from, IsMacPlace}
use Rattle.auc_attr.specs.Spelling.{item_text}
use Rattle.auc_attr.proofs.FrameLemmas.{attrs_within_in}
use Rattle.auc_attr.proofs.FrameFaultLemmas.{frame_again_in}
use Rattle.auc_attr.proofs.LawLemmas.{found_is_framed_in, one_fault_in}
use Rattle.auc_attr.proofs.MacLemmas.{mac_within_in}
use Rattle.auc_attr.proofs.PlaceLemmas.{one_place_in, place_fits_in}
use Rattle.auc_attr.proofs.SpellingLemmas.{attr_size_in}
use Rattle.auc_attr.proofs.Tools.{IsBytes}
use Rattle.auc_attr.proofs.WalkLemmas.{one_walk_in}

-- bytes have one reading, or one first fault
pub one_walk : (seen bytes : List ℕ) (is js : List Item) (e f : Option AttrRefusal) → Walks seen bytes is e → Walks seen bytes js f → (is ≡ js) × (e ≡ f)
one_walk seen bytes is js e f p q = one_walk_in tables.Aka seen bytes is js e f p q

-- bytes have one first fault
pub one_fault : OneFault
one_fault = one_fault_in tables.Aka

-- an attribute takes as many bytes as its spelling
pub attr_size : (seen : List ℕ) (i : Item) (bytes rest : List ℕ) → IsAttr seen i bytes rest → length bytes ≡ length (item_text i) + length rest
attr_size seen i bytes rest p = attr_size_in tables.Aka seen i bytes rest p

-- the attributes of a message stand within its Length
pub attrs_within : (request : Bool) (id kind subtype : ℕ) (attrs bytes : List ℕ) → IsMessage request id kind subtype attrs bytes
    → (length_of bytes ≡ 8 + length attrs) × (length_of bytes ≤ length bytes)
attrs_within request id kind subtype attrs bytes p = attrs_within_in tables.Aka request id kind subtype attrs bytes p

-- what stands there is found
pub frame_again : (f : Frame) (bytes : List ℕ) → IsFramed f bytes → frame_at bytes ≡ Ok f
frame_again f bytes p = frame_again_in tables.Aka f bytes p

-- what the tests of a packet find is what stands there
pub found_is_framed : FoundIsFramed
found_is_framed = found_is_framed_in tables.Aka

-- the 16 bytes of AT_MAC's value stand in the attributes
pub mac_within : (seen : List ℕ) (start : ℕ) (bytes : List ℕ) (is : List Item) (end : Option AttrRefusal) → Walks seen bytes is end
    → IfSome (mac_from start is) (λ place. place + 16 ≤ start + length bytes)
mac_within seen start bytes is end w = mac_within_in tables.Aka seen start bytes is end w

-- a packet's value has one place, or none
pub one_place : (packet : List ℕ) (place other : Option ℕ) → IsMacPlace packet place → IsMacPlace packet other → place ≡ other
one_place packet place other p q = one_place_in tables.Aka packet place other p q

-- the 16 bytes of a packet's value stand among those that Length counts
pub place_fits : (packet : List ℕ) (place : ℕ) → IsBytes packet → IsMacPlace packet (Some place) → (place + 16 ≤ length_of packet) × (length_of packet ≤ length packet)
place_fits packet place fits p = place_fits_in tables.Aka packet place fits p
