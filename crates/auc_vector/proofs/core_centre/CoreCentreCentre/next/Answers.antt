-- The core's step is the call's stretch, case by case.
use Rattle.auc_vector.proofs.CoreCentreLemmas.{number_goes, exhausted_goes}
use Rattle.auc_vector.proofs.core_centre.CoreCentreCentre.next.Goals as goal
use Rattle.auc_vector.proofs.core_centre.CoreCentreCentre.next.Goals.{in-Number, in-Exhausted}

pub returns-clause-goes : goal.returns-clause-goes
returns-clause-goes g c = elim c.match-apply.branch [
  | in-Number w ↦ number_goes c.self.inside.core c.args.self.now c.apply.new.self c.args.sub w.in-Number.n c.match-apply.result c.self.view_is w.in-Number.ensures.core c.requires w.in-Number.ensures.step w.result-is
  | in-Exhausted w ↦ exhausted_goes c.self.inside.core c.args.self.now c.apply.new.self c.args.sub w.in-Exhausted.word c.match-apply.result c.self.view_is w.in-Exhausted.ensures.core c.requires w.in-Exhausted.ensures.step w.result-is
]
