use Rattle.std.proofs.Common.{◌≡◌, ◌∙◌, List, ℕ, ap, subst}
use Rattle.std.specs.Prelude.{Some, slice_get}
use Rattle.auc_5g.specs.Keys.{device_of, home_of}
use Rattle.auc_subs.specs.declared.row.Row.{Row}
use Rattle.auc_random.specs.Random.{rand_of}
use Rattle.auc_world.specs.Given.{Authenticates, Before, judged_lines}
use Rattle.auc_subs.specs.Setting.{Setting}
use Rattle.auc_record.specs.VectorAt.{vector_of_row}
use Rattle.auc_record.specs.declared.record.GiveVerdict.TheVariants as given
use Rattle.auc_record.specs.declared.record.LineRecord.{LineRecord}
use Rattle.auc_jobs.specs.declared.giving.UsimAnswer.{UsimAnswer}
use Rattle.auc_jobs.specs.InnerServing.{GivesVerdict}
use Rattle.auc_jobs.specs.InnerUsims.{HasKeys, verdict_by}
use Rattle.auc_jobs.proofs.LineLemmas.{on_ok_map}
use Rattle.auc_jobs.proofs.SystemLemmas.{fiveg_accepted, fiveg_ignored}
use Rattle.auc_jobs.proofs.WorkerLemmas.{also_serves, more_serves}
use Rattle.auc_jobs.proofs.worker.Worker.challenge.Goals as goal

pub returns-in_default-clause-given : goal.returns-in_default-clause-given
returns-in_default-clause-given g c =
    also_serves g.C.Centre.kept g.C.Centre.goes c.args.self.now c.presented.new.self
    (λ before. GivesVerdict c.args.self.now.set before c.args.line.now.sub c.args.n (verdict_by c.in_ok-usim.field-0))
    (λ (before : Before) (lines : List LineRecord). (row : Row) → slice_get c.args.self.now.set.rows c.args.line.now.sub ≡ Some row
    → c.args.home.now ≡ home_of (vector_of_row c.args.self.now.set row c.args.line.now.sub c.args.n) c.args.line.now.home
    → Authenticates c.args.self.now.set before c.args.line.now row c.args.n lines)
    (λ before lines gives row there home.
    fiveg_ignored c.args.self.now.set before c.args.line.now row c.args.n c.in_ok-usim.field-0 lines c.in_default.not-Accepted gives) c.in_ok-usim.ensures.given

pub returns-clause-given : goal.returns-clause-given
returns-clause-given g c =
    on_ok_map c.compare.result c.compare.ensures.told (λ told.
    more_serves g.C.Centre.kept g.C.Centre.goes c.args.self.now c.presented.new.self c.compare.new.self
    (λ before. GivesVerdict c.args.self.now.set before c.args.line.now.sub c.args.n (verdict_by c.in_ok-usim.field-0))
    (λ (s : Setting) (before : Before) (lines : List LineRecord). lines ≡ judged_lines c.args.line.now c.args.home.now c.device-device.result given.Accepted)
    (λ (before : Before) (lines : List LineRecord). (row : Row) → slice_get c.args.self.now.set.rows c.args.line.now.sub ≡ Some row
    → c.args.home.now ≡ home_of (vector_of_row c.args.self.now.set row c.args.line.now.sub c.args.n) c.args.line.now.home
    → Authenticates c.args.self.now.set before c.args.line.now row c.args.n lines)
    (λ i es fs ws vs. g.met.C.Centre.joins c.args.self.now.centre c.presented.new.self.centre c.compare.new.self.centre i es fs ws vs)
    c.in_ok-usim.ensures.same.worker.set c.in_ok-usim.ensures.same.worker.released c.in_ok-usim.ensures.given told
    (λ before front rest gives judged row there home.
    fiveg_accepted c.args.self.now.set before c.args.line.now row c.args.n c.args.home.now c.in-Accepted.usim c.device-device.result front rest
    (subst (HasKeys row c.args.n (rand_of c.args.self.now.set.key c.args.line.now.sub c.args.n)) c.in-Accepted.is (c.in_ok-usim.ensures.accepted row there))
    (c.device-device.ensures
    ∙ ap (λ (name : List ℕ). device_of c.in-Accepted.usim.res c.in-Accepted.usim.ck c.in-Accepted.usim.ik c.in-Accepted.usim.ak c.in-Accepted.usim.sqn c.args.home.now.rand name) c.as_slice-name.ensures)
    (subst (λ (a : UsimAnswer). GivesVerdict c.args.self.now.set before c.args.line.now.sub c.args.n (verdict_by a) front) c.in-Accepted.is gives) judged home))
