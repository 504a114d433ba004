use Rattle.std.proofs.Common.{◌≡◌, ◌++◌, drop}
use Rattle.auc_record.specs.Openings.{reopened}
use Rattle.auc_record.proofs.closing.reopened.Given as goal

abbrev pub invariant-loop-sub : goal.invariant-loop-sub
invariant-loop-sub l = l.openings ++ reopened (drop l.sub l.subs) (drop l.sub l.words) ≡ reopened l.subs l.words
