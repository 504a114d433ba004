-- For what a round says of all: a list whose items are taken from its end and put, changed, at another's.
use Rattle.std.proofs.Common.{◌≡◌, ◌∙◌, ◌++◌, ◌∷◌, [], All, List, Some, ap, append_assoc, map, reverse, sym}
use Rattle.std.proofs.lemmas.List.{map-append, reverse-append}
use Rattle.std.proofs.lemmas.List.Elements.{All-pop}

-- what is left of some items, which all have P, and what those that were taken became, the last one first
pub record IsTurned {A B : Type 0} (f : A → B) (P : A → Type 0) (all left : List A) (back : List B) : Type 0 where
  pub same : map f left ++ reverse back ≡ map f all
  pub each : All P left

-- it is taken
pub turns_on : {A B : Type 0} (f : A → B) (P : A → Type 0) (all left rest : List A) (back next : List B) (item : A) (became : B) → IsTurned f P all left back → left ≡ rest ++ item ∷ [] → became ≡ f item → next ≡ back ++ became ∷ [] → IsTurned f P all rest next
turns_on f P all left rest back next item became before split is put = record {
  same =
      ap (λ b. map f rest ++ reverse b) put
      ∙ ap (λ y. map f rest ++ reverse (back ++ y ∷ [])) is
      ∙ ap (λ b. map f rest ++ b) (reverse-append back (f item ∷ []))
      ∙ sym (append_assoc (map f rest) (f item ∷ []) (reverse back))
      ∙ ap (λ ys. ys ++ reverse back) (sym (map-append f rest (item ∷ [])))
      ∙ ap (λ xs. map f xs ++ reverse back) (sym split)
      ∙ before.same;
  each = (All-pop P left rest (Some item) split before.each).0;
}
