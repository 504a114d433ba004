-- The core's step is the call's stretch, case by case.
use Rattle.auc_vector.proofs.CoreCentreLemmas.{moved_goes, in_range_goes, beyond_goes, moved_answers, in_range_answers, beyond_answers}
use Rattle.auc_vector.proofs.core_centre.CoreCentreCentre.resync.Goals as goal
use Rattle.auc_vector.proofs.core_centre.CoreCentreCentre.resync.Goals.{in-Moved, in-InRange, in-Beyond}

pub returns-clause-answer : goal.returns-clause-answer
returns-clause-answer g c = elim c.match-apply.branch [
  | in-Moved w ↦ moved_answers c.self.inside.core c.args.self.now c.apply.new.self c.args.sub c.args.seq_ms w.in-Moved.from w.in-Moved.to c.match-apply.result
      (record { seen_as = c.self.view_is; holds = w.in-Moved.ensures.core; known = c.requires.sub; number = c.requires.number; steps = w.in-Moved.ensures.step }) w.result-is
  | in-InRange w ↦ in_range_answers c.self.inside.core c.args.self.now c.apply.new.self c.args.sub c.args.seq_ms w.in-InRange.seen w.in-InRange.seq c.match-apply.result
      (record { seen_as = c.self.view_is; holds = w.in-InRange.ensures.core; known = c.requires.sub; number = c.requires.number; steps = w.in-InRange.ensures.step }) w.result-is
  | in-Beyond w ↦ beyond_answers c.self.inside.core c.args.self.now c.apply.new.self c.args.sub c.args.seq_ms w.in-Beyond.seen w.in-Beyond.seq c.match-apply.result
      (record { seen_as = c.self.view_is; holds = w.in-Beyond.ensures.core; known = c.requires.sub; number = c.requires.number; steps = w.in-Beyond.ensures.step }) w.result-is
]

pub returns-clause-goes : goal.returns-clause-goes
returns-clause-goes g c = elim c.match-apply.branch [
  | in-Moved w ↦ moved_goes c.self.inside.core c.args.self.now c.apply.new.self c.args.sub c.args.seq_ms w.in-Moved.from w.in-Moved.to c.match-apply.result
      (record { seen_as = c.self.view_is; holds = w.in-Moved.ensures.core; known = c.requires.sub; number = c.requires.number; steps = w.in-Moved.ensures.step }) w.result-is
  | in-InRange w ↦ in_range_goes c.self.inside.core c.args.self.now c.apply.new.self c.args.sub c.args.seq_ms w.in-InRange.seen w.in-InRange.seq c.match-apply.result
      (record { seen_as = c.self.view_is; holds = w.in-InRange.ensures.core; known = c.requires.sub; number = c.requires.number; steps = w.in-InRange.ensures.step }) w.result-is
  | in-Beyond w ↦ beyond_goes c.self.inside.core c.args.self.now c.apply.new.self c.args.sub c.args.seq_ms w.in-Beyond.seen w.in-Beyond.seq c.match-apply.result
      (record { seen_as = c.self.view_is; holds = w.in-Beyond.ensures.core; known = c.requires.sub; number = c.requires.number; steps = w.in-Beyond.ensures.step }) w.result-is
]
