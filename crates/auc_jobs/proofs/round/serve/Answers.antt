use Rattle.std.proofs.Common.{◌∙◌, ◌++◌, List}
use Rattle.auc_journal.specs.Journal.{limits_of}
use Rattle.auc_record.specs.Lines.{all_lines}
use Rattle.auc_record.specs.declared.record.LineRecord.{LineRecord}
use Rattle.auc_jobs.specs.declared.round.Ran.{Ran}
use Rattle.auc_jobs.specs.declared.workers.RoundPieces.{RoundPieces}
use Rattle.auc_jobs.specs.InnerKeeping.{StaysNear}
use Rattle.auc_jobs.specs.InnerRound.{GoesByLimits, LeadsOn}
use Rattle.auc_jobs.specs.State.{StandsAt}
use Rattle.auc_jobs.proofs.KeepingLemmas.{if_ok_at, if_ok_map, served_round}
use Rattle.auc_jobs.proofs.round.serve.Goals as goal
use Rattle.auc_jobs.proofs.round.serve.Goals.{in-Ok, in-Err}

pub serve_pieces-pieces-requires-clause-round : goal.serve_pieces-pieces-requires-clause-round
serve_pieces-pieces-requires-clause-round g c = λ lifetimes within. record { round = c.requires.round; begins = c.requires.state }

pub returns-clause-served : goal.returns-clause-served
returns-clause-served g c = elim c.match-result.branch [
  | in-Ok w ↦
      let set = c.args.round.now.set.now in
      let journal = c.serve_pieces-pieces.result.journal in
      let result = c.serve_pieces-pieces.result.result in
      rw (w.result-is, w.state-is)
      (served_round g.D.Disk.seen g.D.Disk.may_leave g.D.Disk.moment g.D.Disk.left_since set c.args.state w.finish-result.new.state c.args.round.now.jobs.now c.args.journal journal w.in-Ok.done w.finish-result.result
      w.finish-result.ensures.leads w.finish-result.ensures.parts
      (c.serve_pieces-pieces.ensures.subscribers ∙ c.requires.journal.subscribers)
      (if_ok_at (λ (done : RoundPieces). GoesByLimits set done.stop done.jobs.records (limits_of c.args.journal) done.words (limits_of journal)) result w.in-Ok.done w.in-Ok.is c.serve_pieces-pieces.ensures.limits)
      (if_ok_at (λ (done : RoundPieces). StaysNear g.D.Disk.seen g.D.Disk.may_leave g.D.Disk.moment g.D.Disk.left_since c.args.journal done.words journal) result w.in-Ok.done w.in-Ok.is c.serve_pieces-pieces.ensures.near))
  | in-Err w ↦ rw w.result-is tt
]

pub returns-clause-next : goal.returns-clause-next
returns-clause-next g c = elim c.match-result.branch [
  | in-Ok w ↦
      let set = c.args.round.now.set.now in
      rw (w.result-is, w.state-is)
      (if_ok_map (λ (ran : Ran). (early : List LineRecord) → StandsAt set early c.args.state → LeadsOn set w.in-Ok.done.stop early c.args.state c.args.round.now.jobs.now ran.round w.in-Ok.done.words w.finish-result.new.state)
      (λ (ran : Ran). (early : List LineRecord) → StandsAt set early c.args.state → StandsAt set (early ++ all_lines ran.round.jobs) w.finish-result.new.state) w.finish-result.result
      (λ ran leads early stands. (leads early stands).stands) w.finish-result.ensures.leads)
  | in-Err w ↦ rw w.result-is tt
]
