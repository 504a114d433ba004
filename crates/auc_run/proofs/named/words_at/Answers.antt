use Rattle.std.proofs.Common.{◌∙◌, ◌++◌, List, ℕ, [], ◌∷◌, ap, map, slice_index, sym, take}
use Rattle.std.proofs.lemmas.List.{map-append, take_all, take_more}
use Rattle.auc_run.proofs.named.words_at.Goals as goal

pub loop-place-init : goal.loop-place-init
loop-place-init c = c.new-words.ensures.items

pub loop-place-preserved : goal.loop-place-preserved
loop-place-preserved c =
    let word : ℕ → ℕ = λ place. slice_index c.args.state.now.words place in
    let at = c.loop-place.place-index in
    let places = c.args.places.now in
    c.in_ok-push.ensures.items ∙ ap (λ (words : List ℕ). words ++ c.word.result ∷ []) c.loop-place.invariant ∙ ap (λ (w : ℕ). map word (take at places) ++ w ∷ []) c.word.ensures
    ∙ sym (ap (map word) (take_more places at 0 c.loop-place-test.true) ∙ map-append word (take at places) (slice_index places at ∷ []))

pub returns : goal.returns
returns c = c.loop-place.invariant ∙ ap (map (λ place. slice_index c.args.state.now.words place)) (take_all c.loop-place.place-index c.args.places.now c.loop-place-test.false)
