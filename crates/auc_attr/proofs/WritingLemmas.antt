-- Writing, measuring and judging a list from its front.
use Rattle.std.proofs.Common.{◌≡◌, ℕ, suc, ◌+◌, ◌-◌, ◌<◌, ◌≤◌, Bool, true, false, ◌&&◌, List, [], ◌∷◌, ◌++◌, length, get_or, drop, refl, sym, ap, subst, ◌∙◌, arith, append_assoc, length-append, add-one, drop-cons}
use Rattle.std.specs.List.{list_all}
use Rattle.std.proofs.lemmas.List.{append-nil, drop_all}
use Rattle.auc_memory.specs.Reserved.{Reserved, wrote}
use Rattle.auc_attr.specs.declared.attr.Attr.{Attr}
use Rattle.auc_attr.specs.Item.{item_of, is_named}
use Rattle.auc_attr.specs.Seen.{Marks}
use Rattle.auc_attr.specs.Spelling.{stands_in, fits_item, may_follow, writable_from, writable, item_text, spelling}
use Rattle.auc_attr.proofs.Tools.{and_parts, and_from}

-- whether an attribute has a spelling
abbrev pub has_spelling : Attr → Bool
has_spelling a = fits_item (item_of a)

-- each attribute of a writable list has a spelling
pub each_has_spelling : (seen : List ℕ) (list : List Attr) → writable_from seen list ≡ true → list_all has_spelling list ≡ true
each_has_spelling seen [] e = refl
each_has_spelling seen (a ∷ list) e =
    let p = and_parts (may_follow a (stands_in seen (item_of a).kind)) (writable_from (seen ++ (item_of a).kind ∷ []) list) e in
    let q = and_parts (has_spelling a && is_named a) _ p.0 in
    and_from (has_spelling a) (list_all has_spelling list) (and_parts (has_spelling a) (is_named a) q.0).0
    (each_has_spelling (seen ++ (item_of a).kind ∷ []) list p.1)

-- memory into which two strings of bytes were written one after the other
wrote_twice : (room : Reserved ℕ) (a b : List ℕ) → wrote (wrote room a) b ≡ wrote room (a ++ b)
wrote_twice room a b =
    ap (λ (w : List ℕ). record { written = w; left = room.left - length a - length b }) (append_assoc room.written a b)
    ∙ ap (λ (n : ℕ). record { written = room.written ++ (a ++ b); left = n }) (omega (arith, length-append a b))

-- what is still to be written, and that there is room for it
pub record IsPut (room : Reserved ℕ) (list : List Attr) (done : Reserved ℕ) : Type 0 where
  pub each : list_all has_spelling list ≡ true
  pub size : length (spelling list) ≤ room.left
  pub rest : wrote room (spelling list) ≡ done

-- the whole list is still to be written at first
pub put_begins : (room : Reserved ℕ) (list : List Attr) → writable list ≡ true → length (spelling list) ≤ room.left → IsPut room list (wrote room (spelling list))
put_begins room list e fits = record { each = each_has_spelling [] list e; size = fits; rest = refl }

-- the first attribute has a spelling, and there is room for it
pub put_first : (room : Reserved ℕ) (a : Attr) (list : List Attr) (done : Reserved ℕ) → IsPut room (a ∷ list) done
    → (fits_item (item_of a) ≡ true) × (length (item_text (item_of a)) ≤ room.left)
put_first room a list done p =
    ((and_parts (has_spelling a) (list_all has_spelling list) p.each).0, omega (arith, p.size, length-append (item_text (item_of a)) (spelling list)))

-- the first attribute is written
pub put_goes_on : (room : Reserved ℕ) (a : Attr) (list : List Attr) (done after : Reserved ℕ) → IsPut room (a ∷ list) done
    → after ≡ wrote room (item_text (item_of a)) → IsPut after list done
put_goes_on room a list done after p e =
    let text = item_text (item_of a) in
    let left : after.left ≡ room.left - length text = ap (λ (r : Reserved ℕ). r.left) e in
    record {
      each = (and_parts (has_spelling a) (list_all has_spelling list) p.each).1;
      size = omega (arith, p.size, left, length-append text (spelling list));
      rest = ap (λ (r : Reserved ℕ). wrote r (spelling list)) e ∙ wrote_twice room text (spelling list) ∙ p.rest;
    }

-- nothing is left to be written
pub put_ends : (room done : Reserved ℕ) → IsPut room [] done → room ≡ done
put_ends room done p =
    ap (λ (w : List ℕ). record { written = w; left = room.left }) (sym (append-nil room.written))
    ∙ ap (λ (n : ℕ). record { written = room.written ++ []; left = n }) (omega arith) ∙ p.rest

-- a list from a place on is the item there, and the list from the next place on
pub rest_from : {X : Type 0} (xs : List X) (i : ℕ) (x : X) → i < length xs → x ≡ get_or xs i x → drop i xs ≡ x ∷ drop (i + 1) xs
rest_from xs i x lt e = rw add-one (drop-cons xs i x lt ∙ ap (λ y. y ∷ drop (suc i) xs) (sym e))

-- what is still to be written at a place of the list begins with the attribute there
pub put_at : (room done : Reserved ℕ) (xs : List Attr) (i : ℕ) (x : Attr) → i < length xs → x ≡ get_or xs i x → IsPut room (drop i xs) done → IsPut room (x ∷ drop (i + 1) xs) done
put_at room done xs i x lt e p = subst (λ (r : List Attr). IsPut room r done) (rest_from xs i x lt e) p

-- at the end of the list all is written
pub put_done : (room done : Reserved ℕ) (xs : List Attr) (i : ℕ) → length xs ≤ i → IsPut room (drop i xs) done → room ≡ done
put_done room done xs i le p = put_ends room done (subst (λ (r : List Attr). IsPut room r done) (drop_all i xs le) p)

-- the bytes of a list are those of its front and those of its rest
pub record IsCountedTo (size : ℕ) (rest : List Attr) (total : ℕ) : Type 0 where
  pub each : list_all has_spelling rest ≡ true
  pub sum : size + length (spelling rest) ≡ total

-- the first attribute has a spelling
pub count_first : (size : ℕ) (a : Attr) (rest : List Attr) (total : ℕ) → IsCountedTo size (a ∷ rest) total → fits_item (item_of a) ≡ true
count_first size a rest total p = (and_parts (has_spelling a) (list_all has_spelling rest) p.each).0

-- the first attribute is counted
pub count_goes_on : (size : ℕ) (a : Attr) (rest : List Attr) (total more after : ℕ) → IsCountedTo size (a ∷ rest) total → more ≡ length (item_text (item_of a))
    → after ≡ size + more → IsCountedTo after rest total
count_goes_on size a rest total more after p e f = record {
  each = (and_parts (has_spelling a) (list_all has_spelling rest) p.each).1;
  sum = omega (arith, p.sum, e, f, length-append (item_text (item_of a)) (spelling rest));
}

-- a part of the bytes is no more than all
pub count_within : (size : ℕ) (a : Attr) (rest : List Attr) (total more : ℕ) → IsCountedTo size (a ∷ rest) total → more ≡ length (item_text (item_of a)) → size + more ≤ total
count_within size a rest total more p e = omega (arith, p.sum, e, length-append (item_text (item_of a)) (spelling rest))

-- what is still to be counted at a place of the list begins with the attribute there
pub count_at : (size total : ℕ) (xs : List Attr) (i : ℕ) (x : Attr) → i < length xs → x ≡ get_or xs i x → IsCountedTo size (drop i xs) total → IsCountedTo size (x ∷ drop (i + 1) xs) total
count_at size total xs i x lt e p = subst (λ (r : List Attr). IsCountedTo size r total) (rest_from xs i x lt e) p

-- nothing is counted at first
pub count_begins : (list : List Attr) → writable list ≡ true → IsCountedTo 0 list (length (spelling list))
count_begins list e = record { each = each_has_spelling [] list e; sum = omega arith }

-- at the end of the list all is counted
pub count_done : (size total : ℕ) (xs : List Attr) (i : ℕ) → length xs ≤ i → IsCountedTo size (drop i xs) total → size ≡ total
count_done size total xs i le p =
    let q = subst (λ (r : List Attr). IsCountedTo size r total) (drop_all i xs le) p in
    omega (arith, q.sum)

-- as much of the room for all bytes is left as the front leaves
pub record IsLeftTo (left : ℕ) (rest : List Attr) (most total : ℕ) : Type 0 where
  pub each : list_all has_spelling rest ≡ true
  pub sum : left + total ≡ most + length (spelling rest)

-- all the room is left at first
pub left_begins : (most : ℕ) (list : List Attr) → writable list ≡ true → IsLeftTo most list most (length (spelling list))
left_begins most list e = record { each = each_has_spelling [] list e; sum = refl }

-- what the rest leaves at a place of the list begins with the attribute there
pub left_at : (left most total : ℕ) (xs : List Attr) (i : ℕ) (x : Attr) → i < length xs → x ≡ get_or xs i x → IsLeftTo left (drop i xs) most total → IsLeftTo left (x ∷ drop (i + 1) xs) most total
left_at left most total xs i x lt e p = subst (λ (r : List Attr). IsLeftTo left r most total) (rest_from xs i x lt e) p

-- the first attribute has a spelling
pub left_first : (left : ℕ) (a : Attr) (rest : List Attr) (most total : ℕ) → IsLeftTo left (a ∷ rest) most total → fits_item (item_of a) ≡ true
left_first left a rest most total p = (and_parts (has_spelling a) (list_all has_spelling rest) p.each).0

-- the first attribute finds room
pub left_goes_on : (left : ℕ) (a : Attr) (rest : List Attr) (most total size after : ℕ) → IsLeftTo left (a ∷ rest) most total → size ≡ length (item_text (item_of a))
    → after + size ≡ left → IsLeftTo after rest most total
left_goes_on left a rest most total size after p e f = record {
  each = (and_parts (has_spelling a) (list_all has_spelling rest) p.each).1;
  sum = omega (arith, p.sum, e, f, length-append (item_text (item_of a)) (spelling rest));
}

-- or it finds none, and then there isn't room for all
pub left_short : (left : ℕ) (a : Attr) (rest : List Attr) (most total size : ℕ) → IsLeftTo left (a ∷ rest) most total → size ≡ length (item_text (item_of a)) → left < size → most < total
left_short left a rest most total size p e short = omega (arith, p.sum, e, short, length-append (item_text (item_of a)) (spelling rest))

-- at the end of the list there was room for all
pub left_done : (left most total : ℕ) (xs : List Attr) (i : ℕ) → length xs ≤ i → IsLeftTo left (drop i xs) most total → total ≤ most
left_done left most total xs i le p =
    let q = subst (λ (r : List Attr). IsLeftTo left r most total) (drop_all i xs le) p in
    omega (arith, q.sum)

-- whether the rest of a list may be written after attributes of these types
pub record IsJudgedTo (marks : List Bool) (rest : List Attr) (whole : Bool) : Type 0 where
  pub kinds : List ℕ
  pub marked : Marks marks kinds
  pub judged : writable_from kinds rest ≡ whole

-- what is still to be judged at a place of the list begins with the attribute there
pub judge_at : (marks : List Bool) (whole : Bool) (xs : List Attr) (i : ℕ) (x : Attr) → i < length xs → x ≡ get_or xs i x → IsJudgedTo marks (drop i xs) whole → IsJudgedTo marks (x ∷ drop (i + 1) xs) whole
judge_at marks whole xs i x lt e p = subst (λ (r : List Attr). IsJudgedTo marks r whole) (rest_from xs i x lt e) p

-- a list of which nothing is left may be written
pub judge_done : (marks : List Bool) (whole : Bool) (xs : List Attr) (i : ℕ) → length xs ≤ i → IsJudgedTo marks (drop i xs) whole → true ≡ whole
judge_done marks whole xs i le p = (subst (λ (r : List Attr). IsJudgedTo marks r whole) (drop_all i xs le) p).judged

module _ (marks : List Bool) (a : Attr) (rest : List Attr) (whole stood may : Bool) (kind : ℕ) (named : kind ≡ (item_of a).kind)
    (tells : (kinds : List ℕ) → Marks marks kinds → stood ≡ stands_in kinds kind) (is : may ≡ may_follow a stood) where
  -- the mark of its type tells whether an attribute may follow
  may_is : (kinds : List ℕ) → Marks marks kinds → may_follow a (stands_in kinds (item_of a).kind) ≡ may
  may_is kinds m = ap (λ k. may_follow a (stands_in kinds k)) (sym named) ∙ ap (λ b. may_follow a b) (sym (tells kinds m)) ∙ sym is

  -- the first that may not be written decides
  pub judge_fails : IsJudgedTo marks (a ∷ rest) whole → may ≡ false → false ≡ whole
  judge_fails p not =
      sym (ap (λ b. b && writable_from (p.kinds ++ (item_of a).kind ∷ []) rest) (may_is p.kinds p.marked ∙ not)) ∙ p.judged

  -- one that may be written leaves the rest to decide
  pub judge_goes_on : (after : List Bool) → IsJudgedTo marks (a ∷ rest) whole → may ≡ true
      → ((kinds : List ℕ) → Marks marks kinds → Marks after (kinds ++ kind ∷ [])) → IsJudgedTo after rest whole
  judge_goes_on after p so more =
      record {
        kinds = p.kinds ++ (item_of a).kind ∷ [];
        marked = subst (λ k. Marks after (p.kinds ++ k ∷ [])) named (more p.kinds p.marked);
        judged = sym (ap (λ b. b && writable_from (p.kinds ++ (item_of a).kind ∷ []) rest) (may_is p.kinds p.marked ∙ so)) ∙ p.judged;
      }
