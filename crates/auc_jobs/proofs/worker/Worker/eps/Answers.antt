use Rattle.std.proofs.Common.{◌≡◌, ◌∙◌, [], ◌∷◌, List, ℕ, ap, subst}
use Rattle.std.specs.Prelude.{Option}
use Rattle.auc_world.specs.Given.{Before, EpsGives}
use Rattle.auc_subs.specs.Setting.{Setting}
use Rattle.auc_record.specs.Vectors.{IsOfRow}
use Rattle.auc_record.specs.declared.further.Further.TheVariants as further
use Rattle.auc_record.specs.declared.record.LineRecord.{LineRecord}
use Rattle.auc_record.specs.declared.record.LineRecord.TheVariants.{Further}
use Rattle.auc_jobs.specs.InnerServing.{IsNext}
use Rattle.auc_jobs.specs.InnerWorker.{WorkerState}
use Rattle.auc_jobs.proofs.LineLemmas.{on_ok_map}
use Rattle.auc_jobs.proofs.SystemLemmas.{eps_ends, eps_then}
use Rattle.auc_jobs.proofs.WorkerLemmas.{also_serves, more_serves}
use Rattle.auc_jobs.proofs.worker.Worker.eps.Goals as goal

pub returns-in_default-clause-given : goal.returns-in_default-clause-given
returns-in_default-clause-given g c =
    also_serves g.C.Centre.kept g.C.Centre.goes c.args.self.now c.draw_next.new.self (λ before. IsNext c.args.self.now.set c.args.sub c.in_ok-n.field-0)
    (λ before. EpsGives c.args.self.now.set c.args.sub c.args.snid)
    (λ before lines next.
    eps_ends c.args.self.now.set c.args.sub c.args.snid lines (subst (λ (o : Option ℕ). IsNext c.args.self.now.set c.args.sub o lines) c.in_default.is next)) c.in_ok-n.ensures.drawn

pub returns-clause-given : goal.returns-clause-given
returns-clause-given g c =
    let same = ap (λ (w : WorkerState g.row.C.Denot). w.set) c.self.view_is ∙ c.in_ok-n.ensures.same.worker.set in
    let of_row = subst (λ (s : Setting). IsOfRow s.key s.rows c.args.sub c.in-Some.n c.vector_at-vector.result) same c.vector_at-vector.ensures.row in
    on_ok_map c.say.result c.say.ensures.said (λ said.
    more_serves g.C.Centre.kept g.C.Centre.goes c.args.self.now c.draw_next.new.self c.say.new.self (λ before. IsNext c.args.self.now.set c.args.sub c.in_ok-n.field-0)
    (λ (s : Setting) (before : Before) (lines : List LineRecord). lines ≡ Further (further.Kasme c.eps_key.result) ∷ []) (λ before. EpsGives c.args.self.now.set c.args.sub c.args.snid)
    (λ i es fs ws vs. g.met.C.Centre.joins c.args.self.now.centre c.draw_next.new.self.centre c.say.new.self.centre i es fs ws vs)
    c.in_ok-n.ensures.same.worker.set c.in_ok-n.ensures.same.worker.released c.in_ok-n.ensures.drawn said
    (λ before front rest next told.
    eps_then c.args.self.now.set c.args.sub c.in-Some.n c.args.snid c.vector_at-vector.result c.eps_key.result front rest of_row c.eps_key.ensures
    (subst (λ (o : Option ℕ). IsNext c.args.self.now.set c.args.sub o front) c.in-Some.is next) told))
