-- Judging a list from its front.
use Rattle.std.proofs.Common.{◌≡◌, ℕ, ◌+◌, ◌-◌, ◌<◌, ◌≤◌, Bool, true, false, ◌&&◌, List, [], ◌∷◌, ◌++◌, length, get_or, drop, refl, sym, ap, subst, ◌∙◌, arith}
use Rattle.std.specs.List.{list_all}
use Rattle.std.proofs.lemmas.List.{drop_all}
use Rattle.auc_attr.specs.declared.table.Table.TheVariants as tables
use Rattle.auc_attr.specs.Seen.{Marks}
use Rattle.auc_attr.specs.Spelling.{stands_in, may_follow_in, writable_from_in}
use Rattle.auc_sim_packet.specs.declared.attr.SimAttr.{SimAttr}
use Rattle.auc_sim_packet.specs.Attributes.{item_of, items, is_named}
use Rattle.auc_sim_packet.specs.Spelling.{spelling, writable}
use Rattle.auc_sim_packet.proofs.WrittenLemmas.{IsCountedTo, text_of, count_at, count_begins, count_goes_on, rest_from}

-- whether the rest of a list may be written after attributes of these types
abbrev pub may_from : List ℕ → List SimAttr → Bool
may_from kinds rest = writable_from_in tables.Sim kinds (items rest) && list_all is_named rest

-- whether an attribute may follow, given whether its type stood before
abbrev pub may_next : SimAttr → Bool → Bool
may_next a stood = may_follow_in tables.Sim (item_of a) stood && is_named a

-- tests of the first and of the rest in another order
apart : (a b c d : Bool) → ((a && c) && (b && d)) ≡ ((a && b) && (c && d))
apart true true c d = refl
apart true false true d = refl
apart true false false d = refl
apart false b c d = refl

-- the rest of a list is judged as the whole
pub record IsJudgedTo (marks : List Bool) (rest : List SimAttr) (whole : Bool) : Type 0 where
  pub kinds : List ℕ
  pub marked : Marks marks kinds
  pub judged : may_from kinds rest ≡ whole

-- what is still to be judged at a place of the list begins with the attribute there
pub judge_at : (marks : List Bool) (whole : Bool) (xs : List SimAttr) (i : ℕ) (x : SimAttr) → i < length xs → x ≡ get_or xs i x → IsJudgedTo marks (drop i xs) whole → IsJudgedTo marks (x ∷ drop (i + 1) xs) whole
judge_at marks whole xs i x lt e p = subst (λ (r : List SimAttr). IsJudgedTo marks r whole) (rest_from xs i x lt e) p

-- a list of which nothing is left may be written
pub judge_done : (marks : List Bool) (whole : Bool) (xs : List SimAttr) (i : ℕ) → length xs ≤ i → IsJudgedTo marks (drop i xs) whole → true ≡ whole
judge_done marks whole xs i le p = (subst (λ (r : List SimAttr). IsJudgedTo marks r whole) (drop_all i xs le) p).judged

module _ (marks : List Bool) (a : SimAttr) (rest : List SimAttr) (whole stood may : Bool) (kind : ℕ) (named : kind ≡ (item_of a).kind)
    (tells : (kinds : List ℕ) → Marks marks kinds → stood ≡ stands_in kinds kind) (is : may ≡ may_next a stood) where
  -- the mark of its type tells whether an attribute may follow
  may_is : (kinds : List ℕ) → Marks marks kinds → may_next a (stands_in kinds (item_of a).kind) ≡ may
  may_is kinds m = ap (λ k. may_next a (stands_in kinds k)) (sym named) ∙ ap (λ b. may_next a b) (sym (tells kinds m)) ∙ sym is

  -- the first decides, and then the rest
  first_decides : (kinds : List ℕ) → Marks marks kinds → may_from kinds (a ∷ rest) ≡ (may && may_from (kinds ++ (item_of a).kind ∷ []) rest)
  first_decides kinds m =
      apart (may_follow_in tables.Sim (item_of a) (stands_in kinds (item_of a).kind)) (is_named a) (writable_from_in tables.Sim (kinds ++ (item_of a).kind ∷ []) (items rest)) (list_all is_named rest)
      ∙ ap (λ b. b && may_from (kinds ++ (item_of a).kind ∷ []) rest) (may_is kinds m)

  -- the first that may not be written decides
  pub judge_fails : IsJudgedTo marks (a ∷ rest) whole → may ≡ false → false ≡ whole
  judge_fails p not = sym (first_decides p.kinds p.marked ∙ ap (λ b. b && may_from (p.kinds ++ (item_of a).kind ∷ []) rest) not) ∙ p.judged

  -- one that may be written leaves the rest to decide
  pub judge_goes_on : (after : List Bool) → IsJudgedTo marks (a ∷ rest) whole → may ≡ true
      → ((kinds : List ℕ) → Marks marks kinds → Marks after (kinds ++ kind ∷ [])) → IsJudgedTo after rest whole
  judge_goes_on after p so more =
      record {
        kinds = p.kinds ++ (item_of a).kind ∷ [];
        marked = subst (λ k. Marks after (p.kinds ++ k ∷ [])) named (more p.kinds p.marked);
        judged = sym (first_decides p.kinds p.marked ∙ ap (λ b. b && may_from (p.kinds ++ (item_of a).kind ∷ []) rest) so) ∙ p.judged;
      }

-- so many bytes are left for the rest of a list
pub record IsLeft (most left : ℕ) (rest : List SimAttr) (total : ℕ) : Type 0 where
  pub used : ℕ
  pub counted : IsCountedTo used rest total
  pub sum : used + left ≡ most

-- all are left at first
pub left_begins : (most : ℕ) (list : List SimAttr) → writable list ≡ true → IsLeft most most list (length (spelling list))
left_begins most list e = record { used = 0; counted = count_begins list e; sum = omega arith }

-- what is left at a place of the list is for the attribute there and the rest
pub left_at : (most left total : ℕ) (xs : List SimAttr) (i : ℕ) (x : SimAttr) → i < length xs → x ≡ get_or xs i x → IsLeft most left (drop i xs) total → IsLeft most left (x ∷ drop (i + 1) xs) total
left_at most left total xs i x lt e p = record { used = p.used; counted = count_at p.used total xs i x lt e p.counted; sum = p.sum }

-- the first attribute takes its bytes
pub left_goes_on : (most left : ℕ) (a : SimAttr) (rest : List SimAttr) (total size after : ℕ) → IsLeft most left (a ∷ rest) total → size ≡ length (text_of a) → size ≤ left
    → after ≡ left - size → IsLeft most after rest total
left_goes_on most left a rest total size after p e le f = record {
  used = p.used + size;
  counted = count_goes_on p.used a rest total size (p.used + size) p.counted e refl;
  sum = omega (arith, p.sum, le, f);
}
