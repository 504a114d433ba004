-- Writing and measuring a list from its front.
use Rattle.std.proofs.Common.{◌≡◌, ℕ, suc, ◌+◌, ◌-◌, ◌<◌, ◌≤◌, Bool, true, List, [], ◌∷◌, ◌++◌, length, get_or, drop, refl, sym, ap, subst, ◌∙◌, arith, append_assoc, length-append, add-one, drop-cons}
use Rattle.std.specs.List.{list_all}
use Rattle.std.proofs.lemmas.List.{append-nil, drop_all}
use Rattle.auc_attr.specs.declared.table.Table.TheVariants as tables
use Rattle.auc_attr.specs.Spelling.{stands_in, fits_item_in, item_text_in, may_follow_in, may_stand_row, writable_from_in, writable_in}
use Rattle.auc_attr.specs.Table.{row_in}
use Rattle.auc_attr.proofs.Facts.{and_parts, and_from}
use Rattle.auc_memory.specs.Reserved.{Reserved, wrote}
use Rattle.auc_sim_packet.specs.declared.attr.SimAttr.{SimAttr}
use Rattle.auc_sim_packet.specs.Attributes.{item_of, items, is_named}
use Rattle.auc_sim_packet.specs.Spelling.{spelling, writable}

-- whether an attribute has a spelling
abbrev pub has_spelling : SimAttr → Bool
has_spelling a = fits_item_in tables.Sim (item_of a)

-- the bytes of an attribute
abbrev pub text_of : SimAttr → List ℕ
text_of a = item_text_in tables.Sim (item_of a)

-- each attribute of items that may be written has a spelling
each_from : (seen : List ℕ) (list : List SimAttr) → writable_from_in tables.Sim seen (items list) ≡ true → list_all has_spelling list ≡ true
each_from seen [] e = refl
each_from seen (a ∷ list) e =
    let kind = (item_of a).kind in
    let p = and_parts (may_follow_in tables.Sim (item_of a) (stands_in seen kind)) (writable_from_in tables.Sim (seen ++ kind ∷ []) (items list)) e in
    and_from (has_spelling a) (list_all has_spelling list) (and_parts (has_spelling a) (may_stand_row (row_in tables.Sim kind) (stands_in seen kind)) p.0).0
    (each_from (seen ++ kind ∷ []) list p.1)

-- each attribute of a writable list has a spelling
each_has_spelling : (list : List SimAttr) → writable list ≡ true → list_all has_spelling list ≡ true
each_has_spelling list e = each_from [] list (and_parts (writable_in tables.Sim (items list)) (list_all is_named list) e).0

-- memory into which two strings of bytes were written one after the other
wrote_twice : (room : Reserved ℕ) (a b : List ℕ) → wrote (wrote room a) b ≡ wrote room (a ++ b)
wrote_twice room a b =
    ap (λ (w : List ℕ). record { written = w; left = room.left - length a - length b }) (append_assoc room.written a b)
    ∙ ap (λ (n : ℕ). record { written = room.written ++ (a ++ b); left = n }) (omega (arith, length-append a b))

-- what is still to be written, and that there is room for it
pub record IsPut (room : Reserved ℕ) (list : List SimAttr) (done : Reserved ℕ) : Type 0 where
  pub each : list_all has_spelling list ≡ true
  pub size : length (spelling list) ≤ room.left
  pub rest : wrote room (spelling list) ≡ done

-- the whole list is still to be written at first
pub put_begins : (room : Reserved ℕ) (list : List SimAttr) → writable list ≡ true → length (spelling list) ≤ room.left → IsPut room list (wrote room (spelling list))
put_begins room list e fits = record { each = each_has_spelling list e; size = fits; rest = refl }

-- the first attribute has a spelling, and there is room for it
pub put_first : (room : Reserved ℕ) (a : SimAttr) (list : List SimAttr) (done : Reserved ℕ) → IsPut room (a ∷ list) done
    → (fits_item_in tables.Sim (item_of a) ≡ true) × (length (text_of a) ≤ room.left)
put_first room a list done p =
    ((and_parts (has_spelling a) (list_all has_spelling list) p.each).0, omega (arith, p.size, length-append (text_of a) (spelling list)))

-- the first attribute is written
pub put_goes_on : (room : Reserved ℕ) (a : SimAttr) (list : List SimAttr) (done after : Reserved ℕ) → IsPut room (a ∷ list) done
    → after ≡ wrote room (text_of a) → IsPut after list done
put_goes_on room a list done after p e =
    let left : after.left ≡ room.left - length (text_of a) = ap (λ (r : Reserved ℕ). r.left) e in
    record {
      each = (and_parts (has_spelling a) (list_all has_spelling list) p.each).1;
      size = omega (arith, p.size, left, length-append (text_of a) (spelling list));
      rest = ap (λ (r : Reserved ℕ). wrote r (spelling list)) e ∙ wrote_twice room (text_of a) (spelling list) ∙ p.rest;
    }

-- nothing is left to be written
put_ends : (room done : Reserved ℕ) → IsPut room [] done → room ≡ done
put_ends room done p =
    ap (λ (w : List ℕ). record { written = w; left = room.left }) (sym (append-nil room.written))
    ∙ ap (λ (n : ℕ). record { written = room.written ++ []; left = n }) (omega arith) ∙ p.rest

-- a list from a place on is the item there, and the list from the next place on
pub rest_from : {X : Type 0} (xs : List X) (i : ℕ) (x : X) → i < length xs → x ≡ get_or xs i x → drop i xs ≡ x ∷ drop (i + 1) xs
rest_from xs i x lt e = rw add-one (drop-cons xs i x lt ∙ ap (λ y. y ∷ drop (suc i) xs) (sym e))

-- what is still to be written at a place of the list begins with the attribute there
pub put_at : (room done : Reserved ℕ) (xs : List SimAttr) (i : ℕ) (x : SimAttr) → i < length xs → x ≡ get_or xs i x → IsPut room (drop i xs) done → IsPut room (x ∷ drop (i + 1) xs) done
put_at room done xs i x lt e p = subst (λ (r : List SimAttr). IsPut room r done) (rest_from xs i x lt e) p

-- at the end of the list all is written
pub put_done : (room done : Reserved ℕ) (xs : List SimAttr) (i : ℕ) → length xs ≤ i → IsPut room (drop i xs) done → room ≡ done
put_done room done xs i le p = put_ends room done (subst (λ (r : List SimAttr). IsPut room r done) (drop_all i xs le) p)

-- the bytes of a list are those of its front and those of its rest
pub record IsCountedTo (size : ℕ) (rest : List SimAttr) (total : ℕ) : Type 0 where
  pub each : list_all has_spelling rest ≡ true
  pub sum : size + length (spelling rest) ≡ total

-- the first attribute is counted
pub count_goes_on : (size : ℕ) (a : SimAttr) (rest : List SimAttr) (total more after : ℕ) → IsCountedTo size (a ∷ rest) total → more ≡ length (text_of a)
    → after ≡ size + more → IsCountedTo after rest total
count_goes_on size a rest total more after p e f = record {
  each = (and_parts (has_spelling a) (list_all has_spelling rest) p.each).1;
  sum = omega (arith, p.sum, e, f, length-append (text_of a) (spelling rest));
}

-- what is still to be counted at a place of the list begins with the attribute there
pub count_at : (size total : ℕ) (xs : List SimAttr) (i : ℕ) (x : SimAttr) → i < length xs → x ≡ get_or xs i x → IsCountedTo size (drop i xs) total → IsCountedTo size (x ∷ drop (i + 1) xs) total
count_at size total xs i x lt e p = subst (λ (r : List SimAttr). IsCountedTo size r total) (rest_from xs i x lt e) p

-- nothing is counted at first
pub count_begins : (list : List SimAttr) → writable list ≡ true → IsCountedTo 0 list (length (spelling list))
count_begins list e = record { each = each_has_spelling list e; sum = omega arith }
