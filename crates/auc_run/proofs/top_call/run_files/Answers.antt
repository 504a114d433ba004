use Rattle.std.proofs.Common.{List, Option, refl, subst}
use Rattle.auc_edge.specs.Shelf.{File}
use Rattle.auc_input.specs.Words.{files_seen}
use Rattle.auc_input.specs.Reading.{AreRight}
use Rattle.auc_run.proofs.CauseLemmas.{right_wrong}
use Rattle.auc_run.proofs.RefusalLemmas.{right_read}
use Rattle.auc_run.proofs.AlwaysLemmas.{always_same}
use Rattle.auc_run.proofs.top_call.run_files.Goals as goal

pub returns-in-Ok-clause-drew_full : goal.returns-in-Ok-clause-drew_full
returns-in-Ok-clause-drew_full g c = c.run_input.ensures.drew_full (g.H.Shelf.files c.args.shelf.now) (files_seen c.args.files.now) c.in-Ok.ensures.read

pub returns-in-Ok-clause-unopened : goal.returns-in-Ok-clause-unopened
returns-in-Ok-clause-unopened g c = λ there cause told wrong.
    let files = files_seen c.args.files.now in
    let input = c.in-Ok.input in
    absurd (right_wrong there files cause
    (subst (λ (shelf : Option (List File)). AreRight shelf files) told (right_read (g.H.Shelf.files c.args.shelf.now) files input.subs input.script c.in-Ok.ensures.read)) wrong)

pub returns-in-Err-clause-always : goal.returns-in-Err-clause-always
returns-in-Err-clause-always g c =
    let laws = g.met.D.Disk g.world.𝓛 g.world.𝓜 g.world.𝓡 ((λ s x. x), (λ x. x), (λ x. x), λ x. x) in
    always_same g.D.Disk.seen g.D.Disk.may_leave g.D.Disk.moment g.D.Disk.left_since laws.only_now c.args.disk c.args.disk refl
