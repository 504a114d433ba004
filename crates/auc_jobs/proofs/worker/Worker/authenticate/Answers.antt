use Rattle.std.proofs.Common.{◌≡◌, ◌∙◌, [], ◌∷◌, List, ℕ, ap, sym, subst}
use Rattle.std.specs.Prelude.{Some, slice_get}
use Rattle.auc_5g.specs.Keys.{home_of}
use Rattle.auc_subs.specs.declared.row.Row.{Row}
use Rattle.auc_world.specs.Given.{Authenticates, Before, FivegFollows}
use Rattle.auc_record.specs.VectorAt.{vector_of_row}
use Rattle.auc_record.specs.Vectors.{IsOfRow}
use Rattle.auc_record.specs.declared.further.FivegOutcome.TheVariants as fiveg
use Rattle.auc_record.specs.declared.further.Further.TheVariants as further
use Rattle.auc_record.specs.declared.record.LineRecord.{LineRecord}
use Rattle.auc_record.specs.declared.record.LineRecord.TheVariants.{Further}
use Rattle.auc_jobs.specs.InnerWorker.{WorkerState}
use Rattle.auc_jobs.proofs.LineLemmas.{on_ok_map}
use Rattle.auc_jobs.proofs.SystemLemmas.{fiveg_authenticates, fiveg_is_refused}
use Rattle.auc_jobs.proofs.WorkerLemmas.{also_serves}
use Rattle.auc_jobs.proofs.worker.Worker.authenticate.Goals as goal

pub returns-then-is_separated-clause-given : goal.returns-then-is_separated-clause-given
returns-then-is_separated-clause-given g c =
    let of_row = subst (λ (w : WorkerState g.row.C.Denot). IsOfRow w.set.key w.set.rows c.args.line.now.sub c.args.n c.vector_at-vector.result) c.self.view_is c.vector_at-vector.ensures.row in
    on_ok_map c.challenge.result c.challenge.ensures.given (λ serves.
    also_serves g.C.Centre.kept g.C.Centre.goes c.args.self.now c.challenge.new.self
    (λ (before : Before) (lines : List LineRecord). (row : Row) → slice_get c.args.self.now.set.rows c.args.line.now.sub ≡ Some row
    → c.home.result ≡ home_of (vector_of_row c.args.self.now.set row c.args.line.now.sub c.args.n) c.args.line.now.home
    → Authenticates c.args.self.now.set before c.args.line.now row c.args.n lines)
    (λ before. FivegFollows c.args.self.now.set before c.args.line.now c.args.n)
    (λ before lines authenticates.
    fiveg_authenticates c.args.self.now.set before c.args.line.now c.args.n lines c.vector_at-vector.result c.home.result of_row (sym c.if-is_separated.ensures)
    (c.home.ensures ∙ ap (λ (name : List ℕ). home_of c.vector_at-vector.result name) c.as_slice.ensures) authenticates) serves)

pub returns-else-is_separated-clause-given : goal.returns-else-is_separated-clause-given
returns-else-is_separated-clause-given g c =
    let of_row = subst (λ (w : WorkerState g.row.C.Denot). IsOfRow w.set.key w.set.rows c.args.line.now.sub c.args.n c.vector_at-vector.result) c.self.view_is c.vector_at-vector.ensures.row in
    on_ok_map c.say_outcome.result c.say_outcome.ensures.told (λ serves.
    also_serves g.C.Centre.kept g.C.Centre.goes c.args.self.now c.say_outcome.new.self
    (λ (before : Before) (lines : List LineRecord). lines ≡ Further (further.Fiveg c.args.line.now.sub fiveg.NoSeparation) ∷ [])
    (λ before. FivegFollows c.args.self.now.set before c.args.line.now c.args.n)
    (λ before lines said. fiveg_is_refused c.args.self.now.set before c.args.line.now c.args.n lines c.vector_at-vector.result of_row (sym c.if-is_separated.ensures) said) serves)
