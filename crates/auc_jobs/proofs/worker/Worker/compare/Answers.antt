use Rattle.std.proofs.Common.{◌≡◌, [], ◌∷◌, List}
use Rattle.auc_world.specs.Given.{Before, hxres_lines, judged_lines}
use Rattle.auc_subs.specs.Setting.{Setting}
use Rattle.auc_record.specs.declared.further.Further.TheVariants as further
use Rattle.auc_record.specs.declared.record.GiveVerdict.TheVariants as given
use Rattle.auc_record.specs.declared.record.LineRecord.{LineRecord}
use Rattle.auc_record.specs.declared.record.LineRecord.TheVariants.{Further}
use Rattle.auc_jobs.proofs.LineLemmas.{on_ok_map}
use Rattle.auc_jobs.proofs.SystemLemmas.{compared}
use Rattle.auc_jobs.proofs.WorkerLemmas.{more_serves}
use Rattle.auc_jobs.proofs.worker.Worker.compare.Goals as goal

pub returns-clause-told : goal.returns-clause-told
returns-clause-told g c =
    on_ok_map c.say_outcome.result c.say_outcome.ensures.told (λ told.
    more_serves g.C.Centre.kept g.C.Centre.goes c.args.self.now c.say_hxres_star.new.self c.say_outcome.new.self (λ before lines. lines ≡ hxres_lines c.args.line.now.hxres c.args.home.now)
    (λ (s : Setting) (before : Before) (lines : List LineRecord). lines ≡ Further (further.Fiveg c.args.line.now.sub c.outcome_of.result) ∷ [])
    (λ before lines. lines ≡ judged_lines c.args.line.now c.args.home.now c.args.device.now given.Accepted)
    (λ i es fs ws vs. g.met.C.Centre.joins c.args.self.now.centre c.say_hxres_star.new.self.centre c.say_outcome.new.self.centre i es fs ws vs)
    c.in_ok-say_hxres_star.ensures.same.worker.set c.in_ok-say_hxres_star.ensures.same.worker.released c.in_ok-say_hxres_star.ensures.told told
    (λ before front rest first second.
    compared c.args.line.now c.args.home.now c.args.device.now c.turned-res_star.result c.outcome_of.result front rest c.turned-res_star.ensures c.outcome_of.ensures first second))
