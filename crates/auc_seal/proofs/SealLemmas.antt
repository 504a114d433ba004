-- For a packet whose MAC was set: it reads as before, its MAC has the same place, and it is right.
use Rattle.std.proofs.Common.{◌≡◌, ℕ, ◌+◌, ◌-◌, ◌≤◌, Bool, true, false, cond, ◌==◌, List, [], ◌∷◌, ◌++◌, length, take, drop, Option, Some, None, Result, Ok, Err, IfSome, refl, sym, ap, ◌∙◌, subst, arith, append_assoc, length-append, length-drop}
use Rattle.std.specs.Int.{w16, to_be_bytes}
use Rattle.std.proofs.lemmas.Bool.{eqb-true}
use Rattle.std.proofs.lemmas.List.{take_at, drop_at, take-append-le, drop-append-le, length-take-le}
use Rattle.std.proofs.Math.Seq.{take-append-add, drop-append-add}
use Rattle.auc_attr.specs.declared.frame.FrameFault.{FrameFault}
use Rattle.auc_attr.specs.declared.refusal.AttrRefusal.{AttrRefusal}
use Rattle.auc_attr.specs.declared.table.Row.{Row}
use Rattle.auc_attr.specs.declared.table.Shape.{Shape}
use Rattle.auc_attr.specs.declared.table.Shape.TheVariants as shape
use Rattle.auc_attr.specs.Table.{row_of}
use Rattle.auc_attr.specs.Item.{Item, item}
use Rattle.auc_attr.specs.Spelling.{item_text}
use Rattle.auc_attr.specs.Grammar.{IsAfterReserved, IsBody, IsAttr, Walks}
use Rattle.auc_attr.specs.Frame.{Frame, Ended, Named, Message, length_of, frame_at, message_code, IsMessage}
use Rattle.auc_attr.specs.Mac.{mac_from, mac_place_of as mac_of, IsMacIn, IsMacOf, IsMacPlace}
use Rattle.auc_attr.proofs.Facts.{IsBytes, some_is, attr_size, mac_within, frame_again, found_is_framed}
use Rattle.auc_hmac.specs.declared.method.Method.{Method}
use Rattle.auc_aes.specs.Bytes.{with_block}
use Rattle.auc_hmac.specs.Mac.{no_mac, mac_input, mac_value}
use Rattle.auc_hmac.specs.Mac as value
use Rattle.auc_seal.specs.Mac.{right_mac, IsRight}

-- ---- a block set in bytes that have two parts

-- in the second part
block_behind : (front rest block : List ℕ) (n place : ℕ) → place ≡ length front + n → with_block (front ++ rest) place block ≡ front ++ with_block rest n block
block_behind front rest block n place e =
    let later : place + 16 ≡ length front + (n + 16) = omega arith in
    ap (λ (k : ℕ). take k (front ++ rest) ++ (block ++ drop (place + 16) (front ++ rest))) e
    ∙ ap (λ (t : List ℕ). t ++ (block ++ drop (place + 16) (front ++ rest))) (take-append-add front rest n)
    ∙ ap (λ (k : ℕ). (front ++ take n rest) ++ (block ++ drop k (front ++ rest))) later
    ∙ ap (λ (t : List ℕ). (front ++ take n rest) ++ (block ++ t)) (drop-append-add front rest (n + 16))
    ∙ append_assoc front (take n rest) (block ++ drop (n + 16) rest)

-- in the first part
block_before : (front rest block : List ℕ) (place : ℕ) → place + 16 ≤ length front → with_block (front ++ rest) place block ≡ with_block front place block ++ rest
block_before front rest block place fits =
    ap (λ (t : List ℕ). t ++ (block ++ drop (place + 16) (front ++ rest))) (take-append-le place front rest (omega arith))
    ∙ ap (λ (t : List ℕ). take place front ++ (block ++ t)) (drop-append-le (place + 16) front rest fits)
    ∙ ap (λ (t : List ℕ). take place front ++ t) (sym (append_assoc block (drop (place + 16) front) rest))
    ∙ sym (append_assoc (take place front) (block ++ drop (place + 16) front) rest)

-- for the first part
block_for : (value rest block : List ℕ) → length value ≡ 16 → with_block (value ++ rest) 0 block ≡ block ++ rest
block_for value rest block whole = ap (λ (t : List ℕ). block ++ t) (drop_at value rest 16 whole)

-- as many bytes as before
block_length : (bytes block : List ℕ) (place : ℕ) → length block ≡ 16 → place + 16 ≤ length bytes → length (with_block bytes place block) ≡ length bytes
block_length bytes block place whole fits =
    omega (arith, length-append (take place bytes) (block ++ drop (place + 16) bytes), length-append block (drop (place + 16) bytes), length-take-le place bytes (omega arith), length-drop (place + 16) bytes)

module _ (bytes block : List ℕ) (place : ℕ) (whole : length block ≡ 16) (fits : place + 16 ≤ length bytes) where
  -- the block, behind which the rest stands
  front_is : length (take place bytes) ≡ place
  front_is = length-take-le place bytes (omega arith)

  -- what is there is the block
  block_is : mac_value (with_block bytes place block) place ≡ block
  block_is =
      ap (take 16) (drop_at (take place bytes) (block ++ drop (place + 16) bytes) place front_is)
      ∙ take_at block (drop (place + 16) bytes) 16 whole

  -- another block in its place
  block_twice : (other : List ℕ) → with_block (with_block bytes place block) place other ≡ with_block bytes place other
  block_twice other =
      let both : length (take place bytes ++ block) ≡ place + 16 = omega (arith, length-append (take place bytes) block, front_is) in
      ap (λ (t : List ℕ). t ++ (other ++ drop (place + 16) (with_block bytes place block))) (take_at (take place bytes) (block ++ drop (place + 16) bytes) place front_is)
      ∙ ap (λ (t : List ℕ). take place bytes ++ (other ++ t))
      (ap (drop (place + 16)) (sym (append_assoc (take place bytes) block (drop (place + 16) bytes))) ∙ drop_at (take place bytes ++ block) (drop (place + 16) bytes) (place + 16) both)

-- ---- attributes

-- the row of AT_MAC
mac_shape : (kind : ℕ) (row : Row) → kind ≡ 11 → row_of kind ≡ Some row → row.shape ≡ shape.AfterReserved 16
unfolding row_of
mac_shape kind row e known = sym (ap (λ (r : Row). r.shape) (some_is (record { shape = shape.AfterReserved 16; once = true }) row (sym (ap (λ (k : ℕ). row_of k) e) ∙ known)))

-- its value is 16 bytes behind two reserved ones
mac_body : (body value : List ℕ) (s : Shape) → s ≡ shape.AfterReserved 16 → IsBody s body value → (length value ≡ 16) × IsAfterReserved body value
mac_body body value s e p = subst (λ (t : Shape). IsBody t body value) e p

-- so are 16 others
other_body : (free block : List ℕ) (s : Shape) → s ≡ shape.AfterReserved 16 → length free ≡ 2 → length block ≡ 16 → IsBody s (free ++ block) block
other_body free block s e two whole = subst (λ (t : Shape). IsBody t (free ++ block) block) (sym e) (whole, record { free = free; two = two; parts = refl })

above_by : (b : Bool) (start place later : ℕ) (o : Option ℕ) → start ≤ later → cond b (Some (start + 4)) o ≡ Some place → (o ≡ Some place → later + 4 ≤ place) → start + 4 ≤ place
above_by true start place later o h e f = omega (arith, some_is (start + 4) place e)
above_by false start place later o h e f = omega (arith, f e)

-- the value stands behind four bytes at least
place_above : (start place : ℕ) (is : List Item) → mac_from start is ≡ Some place → start + 4 ≤ place
place_above start place [] e = absurd cc
place_above start place (i ∷ is) e =
    let later = start + length (item_text i) in
    above_by (i.kind == 11) start place later (mac_from later is) (omega arith) e (place_above later place is)

-- bytes are attributes, and the value of their AT_MAC has this place
record IsPlaced (seen bytes : List ℕ) (start at' : ℕ) : Type 0 where
  is : List Item
  walk : Walks seen bytes is None
  placed : mac_from start is ≡ Some (start + at')

-- the AT_MAC itself
set_here : (seen : List ℕ) (start at' : ℕ) (bytes rest block : List ℕ) (i : Item) (is : List Item) → length block ≡ 16 → (i.kind == 11) ≡ true → IsAttr seen i bytes rest
    → Walks (seen ++ i.kind ∷ []) rest is None → at' ≡ 4 → IsPlaced seen (with_block bytes at' block) start at'
set_here seen start at' bytes rest block i is whole test p w four =
    let row = mac_shape i.kind p.row (eqb-true i.kind 11 test) p.known in
    let q = mac_body p.body i.value p.row.shape row p.value in
    let free = q.1.free in
    let front = i.kind ∷ p.units ∷ free in
    let parts : bytes ≡ front ++ (i.value ++ rest) =
    p.parts ∙ ap (λ (b : List ℕ). i.kind ∷ p.units ∷ (b ++ rest)) q.1.parts ∙ ap (λ (t : List ℕ). i.kind ∷ p.units ∷ t) (append_assoc free i.value rest) in
    let set : with_block bytes at' block ≡ front ++ (block ++ rest) =
    ap (λ (b : List ℕ). with_block b at' block) parts
    ∙ block_behind front (i.value ++ rest) block 0 at' (omega (arith, q.1.two))
    ∙ ap (λ (t : List ℕ). front ++ t) (block_for i.value rest block q.0) in
    let attr : IsAttr seen (item i.kind block) (with_block bytes at' block) rest = record {
      row = p.row;
      known = p.known;
      first = p.first;
      units = p.units;
      some = p.some;
      body = free ++ block;
      size = omega (arith, length-append free block, length-append free i.value, ap length q.1.parts, p.size, q.0);
      parts = set ∙ ap (λ (t : List ℕ). i.kind ∷ p.units ∷ t) (sym (append_assoc free block rest));
      value = other_body free block p.row.shape row q.1.two whole;
    } in
    record {
      is = item i.kind block ∷ is;
      walk = (rest, attr, w);
      placed = ap (λ b. cond b (Some (start + 4)) (mac_from (start + length (item_text (item i.kind block))) is)) test ∙ ap (λ (n : ℕ). Some (start + n)) (sym four);
    }

-- an attribute before it
set_later : (seen : List ℕ) (start at' n : ℕ) (bytes rest block : List ℕ) (i : Item) → (i.kind == 11) ≡ false → IsAttr seen i bytes rest
    → start + at' ≡ start + length (item_text i) + n → IsPlaced (seen ++ i.kind ∷ []) (with_block rest n block) (start + length (item_text i)) n → IsPlaced seen (with_block bytes at' block) start at'
set_later seen start at' n bytes rest block i test p e r =
    let later = start + length (item_text i) in
    let front = i.kind ∷ p.units ∷ p.body in
    let set : with_block bytes at' block ≡ front ++ with_block rest n block =
    ap (λ (b : List ℕ). with_block b at' block) p.parts
    ∙ block_behind front rest block n at' (omega (arith, attr_size seen i bytes rest p, ap length p.parts, length-append p.body rest)) in
    let attr : IsAttr seen i (with_block bytes at' block) (with_block rest n block) = record {
      row = p.row;
      known = p.known;
      first = p.first;
      units = p.units;
      some = p.some;
      body = p.body;
      size = p.size;
      parts = set;
      value = p.value;
    } in
    record {
      is = i ∷ r.is;
      walk = (with_block rest n block, attr, r.walk);
      placed = ap (λ b. cond b (Some (start + 4)) (mac_from later r.is)) test ∙ r.placed ∙ ap (λ (m : ℕ). Some m) (sym e);
    }

set_by_kind : (b : Bool) (seen : List ℕ) (start at' : ℕ) (bytes rest block : List ℕ) (i : Item) (is : List Item) → length block ≡ 16 → (i.kind == 11) ≡ b → IsAttr seen i bytes rest
    → Walks (seen ++ i.kind ∷ []) rest is None → cond b (Some (start + 4)) (mac_from (start + length (item_text i)) is) ≡ Some (start + at')
    → ((n : ℕ) → mac_from (start + length (item_text i)) is ≡ Some (start + length (item_text i) + n) → IsPlaced (seen ++ i.kind ∷ []) (with_block rest n block) (start + length (item_text i)) n)
    → IsPlaced seen (with_block bytes at' block) start at'
set_by_kind true seen start at' bytes rest block i is whole test p w e f =
    set_here seen start at' bytes rest block i is whole test p w (omega (arith, some_is (start + 4) (start + at') e))
set_by_kind false seen start at' bytes rest block i is whole test p w e f =
    let later = start + length (item_text i) in
    let n = start + at' - later in
    let same : start + at' ≡ later + n = omega (arith, place_above later (start + at') is e) in
    set_later seen start at' n bytes rest block i test p same (f n (e ∙ ap (λ (m : ℕ). Some m) same))

-- attributes whose MAC is set read as before, and it has the same place
set_walk : (seen : List ℕ) (start at' : ℕ) (bytes block : List ℕ) (is : List Item) → length block ≡ 16 → Walks seen bytes is None → mac_from start is ≡ Some (start + at')
    → IsPlaced seen (with_block bytes at' block) start at'
set_walk seen start at' bytes block [] whole w e = absurd cc
set_walk seen start at' bytes block (i ∷ is) whole w e =
    set_by_kind (i.kind == 11) seen start at' bytes w.0 block i is whole refl w.1 w.2 e
    (λ n f. set_walk (seen ++ i.kind ∷ []) (start + length (item_text i)) n w.0 block is whole w.2 f)

-- ---- packets

no_fault : (end : Option AttrRefusal) (is : List Item) (place : ℕ) → Some place ≡ mac_of end is → (end ≡ None) × (mac_from 8 is ≡ Some place)
no_fault None is place e = (refl, sym e)
no_fault (Some fault) is place e = absurd cc

-- a packet whose MAC is set: its MAC has the same place, it has the same Length, and the 16 bytes stand in it
record IsSet (packet block : List ℕ) (place : ℕ) : Type 0 where
  there : IsMacPlace (with_block packet place block) (Some place)
  size : length_of (with_block packet place block) ≡ length_of packet
  within : place + 16 ≤ length packet

set_message : (packet block : List ℕ) (place : ℕ) (request : Bool) (id kind subtype : ℕ) (attrs : List ℕ) → length block ≡ 16
    → IsMessage request id kind subtype attrs packet → IsMacIn attrs (Some place) → IsSet packet block place
set_message packet block place request id kind subtype attrs whole m p =
    let end = no_fault p.1 p.0 place p.3 in
    let walk : Walks [] attrs p.0 None = subst (λ (o : Option AttrRefusal). Walks [] attrs p.0 o) end.0 p.2 in
    let above : 8 + 4 ≤ place = place_above 8 place p.0 end.1 in
    let inside : place + 16 ≤ 8 + length attrs = subst (λ (o : Option ℕ). IfSome o (λ found. found + 16 ≤ 8 + length attrs)) end.1 (mac_within [] 8 attrs p.0 None walk) in
    let n = place - 8 in
    let same : place ≡ 8 + n = omega arith in
    let changed = with_block attrs n block in
    let s : IsPlaced [] changed 8 n = set_walk [] 8 n attrs block p.0 whole walk (end.1 ∙ ap (λ (k : ℕ). Some k) same) in
    let length_same : length changed ≡ length attrs = block_length attrs block n whole (omega arith) in
    let front = message_code request ∷ id ∷ (to_be_bytes w16 (8 + length attrs) ++ (kind ∷ subtype ∷ m.reserved)) in
    let eight : length front ≡ 8 = omega (arith, m.two) in
    let parts : packet ≡ front ++ (attrs ++ m.past) = m.parts in
    let set : with_block packet place block ≡ front ++ (changed ++ m.past) =
    ap (λ (b : List ℕ). with_block b place block) parts
    ∙ block_behind front (attrs ++ m.past) block n place (omega (arith, eight, same))
    ∙ ap (λ (t : List ℕ). front ++ t) (block_before attrs m.past block n (omega arith)) in
    let framed : IsMessage request id kind subtype changed (with_block packet place block) = record {
      method = m.method;
      known = m.known;
      size = omega (arith, m.size, length_same);
      reserved = m.reserved;
      two = m.two;
      past = m.past;
      parts = set ∙ ap (λ (k : ℕ). message_code request ∷ id ∷ (to_be_bytes w16 (8 + k) ++ (kind ∷ subtype ∷ (m.reserved ++ (changed ++ m.past))))) (sym length_same);
    } in
    record {
      there = subst (λ (r : Result Frame FrameFault). IsMacOf r (Some place)) (sym (frame_again (Message request id kind subtype changed) (with_block packet place block) framed))
          (s.is, None, s.walk, ap (λ (k : ℕ). Some k) same ∙ sym s.placed);
      size = ap (λ (b : List ℕ). length_of b) set ∙ sym (ap (λ (b : List ℕ). length_of b) parts);
      within = omega (arith, inside, ap length parts, length-append front (attrs ++ m.past), length-append attrs m.past, eight);
    }

no_place : (place : ℕ) → Some place ≡ None → ⊥
no_place place e = cc

set_frame : (packet block : List ℕ) (place : ℕ) (frame : Result Frame FrameFault) → IsBytes packet → length block ≡ 16 → frame_at packet ≡ frame → IsMacOf frame (Some place) → IsSet packet block place
set_frame packet block place (Err fault) fits whole e p = absurd (no_place place p)
set_frame packet block place (Ok (Ended success id)) fits whole e p = absurd (no_place place p)
set_frame packet block place (Ok (Named request id text)) fits whole e p = absurd (no_place place p)
set_frame packet block place (Ok (Message request id kind subtype attrs)) fits whole e p =
    set_message packet block place request id kind subtype attrs whole ((found_is_framed packet (Message request id kind subtype attrs) fits).0 e) p

-- a packet whose MAC is set to the right one has the right one
pub sealed_is_right : (method : Method) (k_aut packet extra sealed : List ℕ) (place : ℕ) → IsBytes packet → IsMacPlace packet (Some place)
    → length (right_mac method k_aut packet place extra) ≡ 16 → sealed ≡ with_block packet place (right_mac method k_aut packet place extra) → IsRight method k_aut sealed extra
sealed_is_right method k_aut packet extra sealed place fits there whole is =
    let block = right_mac method k_aut packet place extra in
    let s = set_frame packet block place (frame_at packet) fits whole refl there in
    let input : mac_input (length_of (with_block packet place block)) (with_block packet place block) place extra ≡ mac_input (length_of packet) packet place extra =
    ap (λ (b : List ℕ). take (length_of (with_block packet place block)) b ++ extra) (block_twice packet block place whole s.within no_mac)
    ∙ ap (λ (n : ℕ). take n (with_block packet place no_mac) ++ extra) s.size in
    subst (λ (b : List ℕ). IsRight method k_aut b extra) (sym is) (record {
      place = place;
      there = s.there;
      right = block_is packet block place whole s.within ∙ ap (λ (t : List ℕ). value.mac_of method k_aut t) (sym input);
    })
