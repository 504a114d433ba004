use Rattle.auc_jobs.specs.InnerUsims.{usim_of, verdict_by}
use Rattle.std.proofs.Common.{◌≡◌, ◌++◌, ap, arith, sym, subst, ◌∙◌}
use Rattle.std.specs.Prelude.{Some, slice_get}
use Rattle.auc_subs.proofs.Facts.{top_at-row}
use Rattle.auc_subs.specs.Setting.{Setting}
use Rattle.auc_jobs.specs.InnerServing.{before_at, IsAnswered}
use Rattle.auc_jobs.specs.InnerWorker.{WorkerState}
use Rattle.auc_record.specs.Released.{AreReleased}
use Rattle.auc_jobs.specs.Numbers.{AreNumbers}
use Rattle.auc_jobs.specs.Usims.{AreBehind}
use Rattle.auc_jobs.proofs.JobLemmas.{answered_above, answered_present, answered_absent}
use Rattle.auc_record.specs.declared.record.GiveVerdict.TheVariants as given
use Rattle.auc_jobs.proofs.worker.Worker.answered.Goals as goal

pub present-requires-clause-last : goal.present-requires-clause-last
present-requires-clause-last g c =
    let at = subst (λ (set : Setting). slice_get set.rows c.args.sub ≡ Some c.row.result.now) c.set.view_is c.row.ensures.place in
    omega (arith, top_at-row c.self.inside.set.now.rows c.args.sub c.row.result.now at, c.top.ensures, c.if-n-top.false)

pub returns-then-n-top-clause-answered : goal.returns-then-n-top-clause-answered
returns-then-n-top-clause-answered g c = λ early beside released before here behind.
    let same = ap (λ (w : WorkerState g.row.C.Denot). w.set) c.self.view_is in
    let at = subst (λ (set : Setting). slice_get set.rows c.args.sub ≡ Some c.row.result.now) (c.set.view_is ∙ same) c.row.ensures.place in
    answered_above c.args.self.now.set.rows early beside c.args.self.now.lines c.args.sub c.args.n (usim_of c.args.self.now.set.rows c.args.self.now.world)
    (omega (arith, top_at-row c.args.self.now.set.rows c.args.sub c.row.result.now at, c.top.ensures, c.if-n-top.true)) before here behind

pub returns-then-branch-clause-answered : goal.returns-then-branch-clause-answered
returns-then-branch-clause-answered g c = λ early beside.
    subst (λ (w : WorkerState g.row.C.Denot). AreReleased w.released early → AreNumbers w.set.rows early → AreNumbers w.set.rows w.lines → AreBehind w.set.rows (early ++ beside ++ w.lines) (usim_of w.set.rows w.world)
    → IsAnswered w.set.rows (before_at early beside w.lines) c.args.sub c.args.n (verdict_by c.present.result) (usim_of w.set.rows c.present.new.world)) c.self.view_is
    (λ released before here behind.
    answered_present c.self.inside.set.now.rows c.self.inside.released.now early beside c.self.inside.lines c.args.sub c.args.n (verdict_by c.present.result) (usim_of c.self.inside.set.now.rows c.present.new.world)
    released (sym c.in_ok-is_released.ensures.value ∙ c.if-branch.true) (c.present.ensures.presented (early ++ beside ++ c.self.inside.lines) behind))

pub returns-else-branch-clause-answered : goal.returns-else-branch-clause-answered
returns-else-branch-clause-answered g c = λ early beside.
    subst (λ (w : WorkerState g.row.C.Denot). AreReleased w.released early → AreNumbers w.set.rows early → AreNumbers w.set.rows w.lines → AreBehind w.set.rows (early ++ beside ++ w.lines) (usim_of w.set.rows w.world)
    → IsAnswered w.set.rows (before_at early beside w.lines) c.args.sub c.args.n given.Absent (usim_of w.set.rows c.self.inside.world)) c.self.view_is
    (λ released before here behind.
    answered_absent c.self.inside.set.now.rows c.self.inside.released.now early beside c.self.inside.lines c.args.sub c.args.n (usim_of c.self.inside.set.now.rows c.self.inside.world)
    released (sym c.in_ok-is_released.ensures.value ∙ c.if-branch.false) behind)
