use Rattle.std.proofs.Common.{◌≡◌, [], ◌∷◌, ◌∙◌, Bool, List, ℕ, ap, sym}
use Rattle.auc_world.specs.Given.{hxres_lines}
use Rattle.auc_record.specs.declared.further.Further.TheVariants as further
use Rattle.auc_record.specs.declared.record.LineRecord.TheVariants.{Further}
use Rattle.auc_jobs.proofs.LineLemmas.{on_ok_map}
use Rattle.auc_jobs.proofs.WorkerLemmas.{also_serves}
use Rattle.auc_jobs.proofs.worker.Worker.say_hxres_star.Goals as goal

pub returns-then-asked-clause-told : goal.returns-then-asked-clause-told
returns-then-asked-clause-told g c =
    on_ok_map c.say.result c.say.ensures.said (λ said.
    also_serves g.C.Centre.kept g.C.Centre.goes c.args.self.now c.say.new.self (λ before lines. lines ≡ Further (further.HxresStar c.standard_hxres_star.result) ∷ [])
    (λ before lines. lines ≡ hxres_lines c.args.asked c.args.home.now)
    (λ before lines is.
    is ∙ ap (λ (half : List ℕ). Further (further.HxresStar half) ∷ []) c.standard_hxres_star.ensures ∙ sym (ap (λ (b : Bool). hxres_lines b c.args.home.now) c.if-asked.true)) said)
