use Rattle.std.proofs.Common.{ap, inl, refl, subst}
use Rattle.auc_world.specs.Agreement.{IsRealm}
use Rattle.auc_run.specs.Crash.{MayHaveLeft, MayLeave}
use Rattle.auc_journal.specs.Journal.{limits_of}
use Rattle.auc_world.specs.Transcript.{beginning}
use Rattle.auc_refusal.specs.Refusal.{status_in}
use Rattle.auc_run.specs.Output.{setting_of}
use Rattle.auc_run.proofs.KnownLemmas.{known}
use Rattle.auc_run.proofs.OutcomeLemmas.{files_full, files_run}
use Rattle.auc_run.proofs.RefusalLemmas.{leave_runs}
use Rattle.auc_run.proofs.RememberLemmas.{remembers_parts, remembers_unopened}
use Rattle.auc_run.proofs.TopLemmas.{journal_stops}
use Rattle.auc_run.proofs.AlwaysLemmas.{always_opening, always_remembers}
use Rattle.auc_run.proofs.top_call.run_input.Goals as goal

pub returns-in-Ok-clause-ran : goal.returns-in-Ok-clause-ran
returns-in-Ok-clause-ran g c = λ told files read.
    let rows = c.args.input.now.subs in
    let script = c.args.input.now.script in
    let ended = status_in c.serve_parts.result.result in
    let old = g.K.Sink.written c.args.out.now in
    let new = g.K.Sink.written c.serve_parts.new.out in
    let begins = c.in-Ok.ensures.opened in
    let realm = subst IsRealm c.as_slice.ensures c.is_realm.ensures in
    leave_runs told files (g.D.Disk.seen c.args.disk) (MayLeave g.D.Disk.seen g.D.Disk.may_leave c.args.disk c.serve_parts.result.disk) (MayHaveLeft g.D.Disk.seen g.D.Disk.may_leave g.D.Disk.moment g.D.Disk.left_since c.args.disk c.serve_parts.result.disk) ended old new
    (files_run c.laws_of_transcripts.ensures g.D.Disk.seen g.D.Disk.may_leave g.D.Disk.moment g.D.Disk.left_since g.D.Disk.faults told files script rows c.args.disk c.serve_parts.result.disk c.in-Ok.journal ended old new
    read (known rows script c.requires realm) begins (c.serve_parts.ensures.ran c.args.disk begins))

pub returns-in-Ok-clause-drew_full : goal.returns-in-Ok-clause-drew_full
returns-in-Ok-clause-drew_full g c = λ told files read full.
    let begins = c.in-Ok.ensures.opened in
    files_full g.D.Disk.seen g.D.Disk.may_leave g.D.Disk.moment g.D.Disk.left_since g.D.Disk.faults told files c.args.input.now.script c.args.input.now.subs c.args.disk c.serve_parts.result.disk c.in-Ok.journal
    (status_in c.serve_parts.result.result) (g.K.Sink.written c.args.out.now) (g.K.Sink.written c.serve_parts.new.out)
    read begins (c.serve_parts.ensures.ran c.args.disk begins) (ap status_in full)

pub serve_parts-requires-clause-known : goal.serve_parts-requires-clause-known
serve_parts-requires-clause-known g c = λ κs within.
    (known c.args.input.now.subs c.args.input.now.script c.requires (subst IsRealm c.as_slice.ensures c.is_realm.ensures)).parts

pub returns-in-Err-clause-refused : goal.returns-in-Err-clause-refused
returns-in-Err-clause-refused g c =
    rw c.from.ensures (inl (journal_stops (g.D.Disk.seen c.args.disk) c.in-Err.field-0.why c.in-Err.ensures.not_journal))

pub returns-in-Ok-clause-remembers : goal.returns-in-Ok-clause-remembers
returns-in-Ok-clause-remembers g c =
    let rows = c.args.input.now.subs in
    let script = c.args.input.now.script in
    let limits = limits_of c.in-Ok.journal in
    remembers_parts g.D.Disk.seen g.D.Disk.may_leave g.D.Disk.moment g.D.Disk.left_since (setting_of rows script) script.full c.args.disk limits (beginning rows limits) script.parts
    (status_in c.serve_parts.result.result) c.serve_parts.result.disk (g.K.Sink.written c.args.out.now) (g.K.Sink.written c.serve_parts.new.out)
    (c.serve_parts.ensures.ran c.args.disk c.in-Ok.ensures.opened)

pub returns-in-Err-clause-remembers : goal.returns-in-Err-clause-remembers
returns-in-Err-clause-remembers g c =
    rw c.from.ensures (remembers_unopened g.D.Disk.seen g.D.Disk.may_leave c.in-Err.field-0.why c.args.disk c.in-Err.field-0.disk c.in-Err.ensures.refused)

pub returns-in-Ok-clause-always : goal.returns-in-Ok-clause-always
returns-in-Ok-clause-always g c =
    let runs = c.serve_parts.ensures.ran c.args.disk c.in-Ok.ensures.opened in
    always_remembers g.D.Disk.seen g.D.Disk.may_leave g.D.Disk.moment g.D.Disk.left_since (status_in c.serve_parts.result.result) c.args.input.now.subs c.args.disk c.serve_parts.result.disk
    (limits_of c.in-Ok.journal) runs.end runs.always

pub returns-in-Err-clause-always : goal.returns-in-Err-clause-always
returns-in-Err-clause-always g c =
    always_opening g.D.Disk.seen g.D.Disk.may_leave g.D.Disk.moment g.D.Disk.left_since c.args.disk c.in-Err.field-0.disk c.in-Err.field-0.disk c.in-Err.ensures.refused_moment refl
