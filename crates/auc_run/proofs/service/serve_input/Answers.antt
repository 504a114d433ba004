use Rattle.std.proofs.Common.{inl, inr, refl, subst}
use Rattle.auc_world.specs.Agreement.{IsRealm}
use Rattle.auc_run.proofs.KnownLemmas.{known}
use Rattle.auc_run.proofs.RememberLemmas.{remembers_unopened}
use Rattle.auc_run.proofs.ServiceTop.{early_journal, serves_ready}
use Rattle.auc_run.proofs.TopLemmas.{journal_stops}
use Rattle.auc_refusal.specs.Causes.{open_refusal}
use Rattle.auc_run.proofs.AlwaysLemmas.{always_opening}
use Rattle.auc_run.proofs.service.serve_input.Goals as goal

pub returns-in-Ok-clause-ran : goal.returns-in-Ok-clause-ran
returns-in-Ok-clause-ran g c = λ told subscribers start hears.
    let rows = c.args.input.now.subs in
    let script = c.args.input.now.script in
    let begins = c.in-Ok.ensures.opened in
    let realm = subst IsRealm c.as_slice.ensures c.is_realm.ensures in
    serves_ready c.laws_of_transcripts.ensures g.D.Disk.seen g.D.Disk.may_leave g.D.Disk.moment g.D.Disk.left_since g.D.Disk.faults told subscribers rows script c.args.ear.now.waiting.items c.args.disk c.serve_ready.result.disk c.in-Ok.journal
    c.serve_ready.result.result start (g.W.Wire.turns c.args.wire.now) (g.W.Wire.turns c.serve_ready.new.wire) (known rows script c.requires.within realm) begins hears
    (c.serve_ready.ensures.ran c.args.disk hears.hears.first start begins hears.hears.took)

pub returns-in-Ok-clause-store_full : goal.returns-in-Ok-clause-store_full
returns-in-Ok-clause-store_full g c = λ full. c.serve_ready.ensures.store_full full c.args.disk c.in-Ok.ensures.opened

pub returns-in-Err-clause-ran : goal.returns-in-Err-clause-ran
returns-in-Err-clause-ran g c = λ told subscribers start hears.
    let seen = g.D.Disk.seen c.args.disk in
    let why = c.in-Err.field-0.why in
    rw c.from.ensures (inr (early_journal told subscribers seen c.args.input.now.subs c.args.input.now.script c.args.ear.now.waiting.items (open_refusal why) start (g.W.Wire.turns c.args.wire.now) hears
    (journal_stops seen why c.in-Err.ensures.not_journal)))

pub returns-in-Err-clause-refused : goal.returns-in-Err-clause-refused
returns-in-Err-clause-refused g c = rw c.from.ensures (inl (journal_stops (g.D.Disk.seen c.args.disk) c.in-Err.field-0.why c.in-Err.ensures.not_journal))

pub returns-in-Err-clause-remembers : goal.returns-in-Err-clause-remembers
returns-in-Err-clause-remembers g c =
    rw c.from.ensures (remembers_unopened g.D.Disk.seen g.D.Disk.may_leave c.in-Err.field-0.why c.args.disk c.in-Err.field-0.disk c.in-Err.ensures.refused)

pub returns-in-Err-clause-always : goal.returns-in-Err-clause-always
returns-in-Err-clause-always g c =
    always_opening g.D.Disk.seen g.D.Disk.may_leave g.D.Disk.moment g.D.Disk.left_since c.args.disk c.in-Err.field-0.disk c.in-Err.field-0.disk c.in-Err.ensures.refused_moment refl

pub returns-in-Ok-clause-always : goal.returns-in-Ok-clause-always
returns-in-Ok-clause-always g c = c.serve_ready.ensures.always c.args.disk c.in-Ok.ensures.opened
