-- The value of AT_MAC has one place in a packet, or none, and its 16 bytes stand among those that Length counts.
use Rattle.std.proofs.Common.{◌≡◌, ℕ, ◌+◌, ◌≤◌, List, [], length, Option, Some, None, Result, Ok, Err, IfSome, refl, sym, ap, ◌∙◌, subst, arith}
use Rattle.auc_attr.specs.declared.frame.FrameFault.{FrameFault}
use Rattle.auc_attr.specs.declared.refusal.AttrRefusal.{AttrRefusal}
use Rattle.auc_attr.specs.declared.table.Table.{Table}
use Rattle.auc_attr.specs.Frame.{Frame, Ended, Named, Message, frame_at_in, length_of}
use Rattle.auc_attr.specs.Item.{Item}
use Rattle.auc_attr.specs.Mac.{mac_from_in, mac_place_of_in, IsMacAmongIn, IsMacOfIn, IsMacPlaceIn}
use Rattle.auc_attr.proofs.FrameFaultLemmas.{frame_sound_in}
use Rattle.auc_attr.proofs.FrameLemmas.{attrs_within_in}
use Rattle.auc_attr.proofs.MacLemmas.{mac_within_in}
use Rattle.auc_attr.proofs.Tools.{IsBytes}
use Rattle.auc_attr.proofs.WalkLemmas.{one_walk_in}

-- no place is none
none_or_some : (place : ℕ) → Some place ≡ None → ⊥
none_or_some place e = cc

module _ (table : Table) where
  -- in attributes
  one_in : (attrs : List ℕ) (place other : Option ℕ) → IsMacAmongIn table attrs place → IsMacAmongIn table attrs other → place ≡ other
  one_in attrs place other p q =
      let same = one_walk_in table [] attrs p.0 q.0 p.1 q.1 p.2 q.2 in
      p.3 ∙ ap (λ (e : Option AttrRefusal). mac_place_of_in table e p.0) same.1 ∙ ap (λ (is : List Item). mac_place_of_in table q.1 is) same.0 ∙ sym q.3

  -- in what a packet's bytes are
  one_of : (frame : Result Frame FrameFault) (place other : Option ℕ) → IsMacOfIn table frame place → IsMacOfIn table frame other → place ≡ other
  one_of (Err fault) place other p q = p ∙ sym q
  one_of (Ok (Ended success id)) place other p q = p ∙ sym q
  one_of (Ok (Named request id text)) place other p q = p ∙ sym q
  one_of (Ok (Message request id kind subtype attrs)) place other p q = one_in attrs place other p q

  -- a packet's value has one place, or none
  pub one_place_in : (packet : List ℕ) (place other : Option ℕ) → IsMacPlaceIn table packet place → IsMacPlaceIn table packet other → place ≡ other
  one_place_in packet place other p q = one_of (frame_at_in table packet) place other p q

  -- a place is that in attributes without a fault
  no_fault : (end : Option AttrRefusal) (is : List Item) (place : ℕ) → Some place ≡ mac_place_of_in table end is → mac_from_in table 8 is ≡ Some place
  no_fault None is place e = sym e
  no_fault (Some fault) is place e = absurd cc

  fits_of : (packet : List ℕ) (frame : Result Frame FrameFault) (place : ℕ) → IsBytes packet → frame_at_in table packet ≡ frame → IsMacOfIn table frame (Some place)
      → (place + 16 ≤ length_of packet) × (length_of packet ≤ length packet)
  fits_of packet (Err fault) place fits e p = absurd (none_or_some place p)
  fits_of packet (Ok (Ended success id)) place fits e p = absurd (none_or_some place p)
  fits_of packet (Ok (Named request id text)) place fits e p = absurd (none_or_some place p)
  fits_of packet (Ok (Message request id kind subtype attrs)) place fits e p =
      let within = attrs_within_in table request id kind subtype attrs packet (frame_sound_in table packet (Message request id kind subtype attrs) fits e) in
      let inside : place + 16 ≤ 8 + length attrs =
      subst (λ (o : Option ℕ). IfSome o (λ found. found + 16 ≤ 8 + length attrs)) (no_fault p.1 p.0 place p.3) (mac_within_in table [] 8 attrs p.0 p.1 p.2) in
      (omega (arith, inside, within.0), within.1)

  -- the 16 bytes of a packet's value stand among those that Length counts
  pub place_fits_in : (packet : List ℕ) (place : ℕ) → IsBytes packet → IsMacPlaceIn table packet (Some place) → (place + 16 ≤ length_of packet) × (length_of packet ≤ length packet)
  place_fits_in packet place fits p = fits_of packet (frame_at_in table packet) place fits refl p
