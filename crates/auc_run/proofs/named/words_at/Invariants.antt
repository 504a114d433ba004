use Rattle.std.proofs.Common.{◌≡◌, map, slice_index, take}
use Rattle.auc_run.proofs.named.words_at.Given as goal

abbrev pub invariant-loop-place : goal.invariant-loop-place
invariant-loop-place l = l.words.items ≡ map (λ place. slice_index l.state.words place) (take l.place-index l.places)
