use Rattle.auc_journal.specs.Image.{reserved_in}
use Rattle.auc_run.proofs.TellingLemmas.{done_found, limits_found, limits_unopened, remembers_limits, stops_found, unopened_stops}
use Rattle.auc_run.proofs.RememberLemmas.{remembers_unopened}
use Rattle.auc_refusal.specs.Refusal.{status_in}
use Rattle.std.proofs.Common.{refl}
use Rattle.auc_run.proofs.AlwaysLemmas.{always_opening}
use Rattle.auc_run.proofs.top_call.print_journal.Goals as goal

pub returns-in-Ok-clause-done : goal.returns-in-Ok-clause-done
returns-in-Ok-clause-done g c =
    done_found g.D.Disk.seen g.D.Disk.may_leave c.args.disk c.in-Ok.journal.disk c.args.form c.in-Ok.journal.limits c.listed.result.now.written c.in-Ok.journal.place c.write_limits-result.result
    (g.K.Sink.written c.args.out.now) (g.K.Sink.written c.write_limits-result.new.out) c.in-Ok.ensures.opened c.listed.ensures c.write_limits-result.ensures.written

pub returns-in-Ok-clause-refused : goal.returns-in-Ok-clause-refused
returns-in-Ok-clause-refused g c =
    stops_found g.D.Disk.seen g.D.Disk.may_leave c.args.disk c.in-Ok.journal.disk c.args.form c.in-Ok.journal.limits c.listed.result.now.written c.in-Ok.journal.place c.write_limits-result.result
    c.in-Ok.ensures.opened c.listed.ensures c.write_limits-result.ensures.refused

pub returns-in-Err-clause-refused : goal.returns-in-Err-clause-refused
returns-in-Err-clause-refused g c = rw c.from.ensures (unopened_stops c.args.form (g.D.Disk.seen c.args.disk) c.in-Err.field-0.why c.in-Err.ensures.not_journal)

pub returns-in-Ok-clause-ran : goal.returns-in-Ok-clause-ran
returns-in-Ok-clause-ran g c =
    limits_found g.D.Disk.seen g.D.Disk.may_leave c.args.disk c.in-Ok.journal.disk c.args.form c.in-Ok.journal.limits c.listed.result.now.written c.in-Ok.journal.place (status_in c.write_limits-result.result)
    (g.K.Sink.written c.args.out.now) (g.K.Sink.written c.write_limits-result.new.out) c.in-Ok.ensures.opened c.listed.ensures c.write_limits-result.ensures.ran

pub returns-in-Err-clause-ran : goal.returns-in-Err-clause-ran
returns-in-Err-clause-ran g c = rw c.from.ensures (limits_unopened c.args.form (g.D.Disk.seen c.args.disk) c.in-Err.field-0.why (g.K.Sink.written c.args.out.now))

pub returns-in-Ok-clause-remembers : goal.returns-in-Ok-clause-remembers
returns-in-Ok-clause-remembers g c =
    remembers_limits g.D.Disk.seen g.D.Disk.may_leave c.args.disk c.into_disk.result (λ imsi. reserved_in c.in-Ok.journal.limits imsi) c.in-Ok.journal c.args.form c.listed.result.now.written c.write_limits-result.result
    c.in-Ok.ensures.durable c.into_disk.ensures c.write_limits-result.ensures.refused

pub returns-in-Err-clause-remembers : goal.returns-in-Err-clause-remembers
returns-in-Err-clause-remembers g c =
    rw c.from.ensures (remembers_unopened g.D.Disk.seen g.D.Disk.may_leave c.in-Err.field-0.why c.args.disk c.in-Err.field-0.disk c.in-Err.ensures.refused)

pub returns-in-Ok-clause-always : goal.returns-in-Ok-clause-always
returns-in-Ok-clause-always g c =
    always_opening g.D.Disk.seen g.D.Disk.may_leave g.D.Disk.moment g.D.Disk.left_since c.args.disk c.in-Ok.journal.disk c.into_disk.result c.in-Ok.ensures.any_moment c.into_disk.ensures

pub returns-in-Err-clause-always : goal.returns-in-Err-clause-always
returns-in-Err-clause-always g c =
    always_opening g.D.Disk.seen g.D.Disk.may_leave g.D.Disk.moment g.D.Disk.left_since c.args.disk c.in-Err.field-0.disk c.in-Err.field-0.disk c.in-Err.ensures.refused_moment refl
