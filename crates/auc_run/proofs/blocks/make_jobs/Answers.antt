use Rattle.std.proofs.Common.{◌≡◌, ℕ, List, OnErr, refl, subst}
use Rattle.auc_subs.specs.Setting.{Setting}
use Rattle.auc_world.specs.Transcript.{Course}
use Rattle.auc_record.specs.declared.record.LineRecord.{LineRecord}
use Rattle.auc_run.specs.Inner.{AreEnough, Covers, StandsAfter}
use Rattle.auc_run.specs.Output.{setting_of}
use Rattle.auc_run.proofs.blocks.make_jobs.Goals as goal

pub returns-clause-ends : goal.returns-clause-ends
returns-clause-ends g c =
    let set : Setting = record { key = c.new-rands.result; names = c.new-names.result; rows = c.args.input.now.subs; realm = c.as_slice.result.now } in
    let same : set ≡ setting_of c.args.input.now.subs c.args.input.now.script = rw (c.new-rands.ensures, c.new-names.ensures, c.as_slice.ensures) refl in
    subst (λ (s : Setting). OnErr c.make_round.result.result ((from : g.row.D.Denot) (reserved : List ℕ) (at : Course) (known : List LineRecord)
    → StandsAfter g.D.Disk.seen g.D.Disk.may_leave g.D.Disk.moment g.D.Disk.left_since s from reserved at known c.args.stand.number c.args.stand.state c.args.stand.journal → AreEnough c.args.jobs.now at.early known
    → Covers g.D.Disk.seen g.D.Disk.may_leave g.D.Disk.moment g.D.Disk.left_since s.rows from reserved at.early c.make_round.result.stand.journal)) same c.make_round.ensures.ends
