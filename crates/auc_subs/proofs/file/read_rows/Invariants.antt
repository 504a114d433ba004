use Rattle.std.proofs.Common.{◌≡◌, ℕ, ◌+◌, ◌-◌, List, length, Ok}
use Rattle.std.specs.Prelude.{fold}
use Rattle.auc_subs.specs.Subscriber.{most_subscribers}
use Rattle.auc_subs.specs.File.{with_record}
use Rattle.auc_subs.specs.InnerFile.{IsBefore}
use Rattle.auc_subs.proofs.file.read_rows.Given as goal

abbrev pub invariant-loop-subs : goal.invariant-loop-subs
invariant-loop-subs l = (left : List (List (List ℕ))) → IsBefore l.initial.file left
    → (rest : List (List (List ℕ))) × IsBefore l.file rest × (fold (with_record l.count) (Ok l.initial.subs) left ≡ fold (with_record l.count) (Ok l.subs) rest)

abbrev pub decreases-loop-subs : goal.decreases-loop-subs
decreases-loop-subs l = most_subscribers + 1 - length l.subs
