use Rattle.std.proofs.Common.{◌≡◌, refl, sym, subst}
use Rattle.auc_input.specs.Words.{files_seen, Files}
use Rattle.auc_run.specs.Outcome.{RunsFull}
use Rattle.auc_run.proofs.AlwaysLemmas.{always_same}
use Rattle.auc_run.proofs.CauseLemmas.{ends_before}
use Rattle.auc_run.proofs.TellingLemmas.{telling_needs}
use Rattle.auc_run.proofs.top_call.perform.Goals as goal

pub returns-in-Some-clause-untouched : goal.returns-in-Some-clause-untouched
returns-in-Some-clause-untouched g c = λ needs.
    c.run_files.ensures.untouched
    (ends_before c.args.words.now (g.H.Shelf.files c.args.shelf.now) (files_seen c.in-Some.files) (g.D.Disk.seen c.args.disk) c.run_files.result.result
    (sym c.in-Some.ensures) c.run_files.ensures.refused needs)

pub returns-in-Some-clause-drew_full : goal.returns-in-Some-clause-drew_full
returns-in-Some-clause-drew_full g c = λ files named full.
    let same : files_seen c.in-Some.files ≡ files = cc (c.in-Some.ensures, named) in
    subst (λ (fs : Files). RunsFull g.D.Disk.seen g.D.Disk.may_leave (g.H.Shelf.files c.args.shelf.now) fs c.args.disk c.run_files.result.disk
    (g.K.Sink.written c.args.out.now) (g.K.Sink.written c.run_files.new.out)) same (c.run_files.ensures.drew_full full)

pub returns-in-Some-journal_form-clause-untouched : goal.returns-in-Some-journal_form-clause-untouched
returns-in-Some-journal_form-clause-untouched g c = λ needs. absurd (telling_needs c.args.words.now c.in-Some-journal_form.form (g.D.Disk.seen c.args.disk) c.print_journal.result.result (sym c.in-Some-journal_form.ensures) c.print_journal.ensures.refused needs)

pub returns-in-Some-algorithm_words-clause-always : goal.returns-in-Some-algorithm_words-clause-always
returns-in-Some-algorithm_words-clause-always g c =
    let laws = g.met.D.Disk g.world.𝓛 g.world.𝓜 g.world.𝓡 ((λ s x. x), (λ x. x), (λ x. x), λ x. x) in
    always_same g.D.Disk.seen g.D.Disk.may_leave g.D.Disk.moment g.D.Disk.left_since laws.only_now c.args.disk c.args.disk refl

pub returns-clause-always : goal.returns-clause-always
returns-clause-always g c =
    let laws = g.met.D.Disk g.world.𝓛 g.world.𝓜 g.world.𝓡 ((λ s x. x), (λ x. x), (λ x. x), λ x. x) in
    always_same g.D.Disk.seen g.D.Disk.may_leave g.D.Disk.moment g.D.Disk.left_since laws.only_now c.args.disk c.args.disk refl
