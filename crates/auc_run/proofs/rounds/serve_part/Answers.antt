use Rattle.std.proofs.Common.{◌≡◌, List, OnOk, subst}
use Rattle.auc_journal.specs.Journal.{limits_of}
use Rattle.auc_jobs.specs.State.{StandsAt}
use Rattle.auc_world.specs.Limits.{opened}
use Rattle.auc_subs.specs.Setting.{Setting}
use Rattle.auc_record.specs.declared.record.LineRecord.{LineRecord}
use Rattle.auc_run.specs.declared.rounds.RunOptions.{RunOptions}
use Rattle.auc_run.proofs.StepLemmas.{part_ends, part_goes, part_store, restart_ends, restart_goes}
use Rattle.auc_run.proofs.rounds.serve_part.Goals as goal

pub returns-in-Round-clause-goes : goal.returns-in-Round-clause-goes
returns-in-Round-clause-goes g c =
    let made = c.make_round.result in
    let wrote = c.write_round.result in
    rw (c.in-Round.is, c.write_round.ensures.number, c.make_round.ensures.number, c.write_round.ensures.state, c.write_round.ensures.journal)
    (part_goes g.D.Disk.seen g.D.Disk.may_leave g.D.Disk.moment g.D.Disk.left_since c.args.options.now.set c.args.options.now.full c.args.stand.number c.args.stand.state made.stand.state c.args.stand.journal made.stand.journal
    _ made.result wrote.result c.args.stand.text made.stand.text wrote.stand.text (g.K.Sink.written c.args.out.now) (g.K.Sink.written c.write_round.new.out) c.make_round.ensures.made c.write_round.ensures.wrote)

pub returns-in-Round-clause-ends : goal.returns-in-Round-clause-ends
returns-in-Round-clause-ends g c =
    let made = c.make_round.result in
    let wrote = c.write_round.result in
    rw (c.in-Round.is, c.write_round.ensures.journal)
    (part_ends g.D.Disk.seen g.D.Disk.may_leave g.D.Disk.moment g.D.Disk.left_since c.args.options.now.set c.args.options.now.full c.args.stand.number c.args.stand.state made.stand.state c.args.stand.journal made.stand.journal
    _ made.result wrote.result c.args.stand.text made.stand.text wrote.stand.text (g.K.Sink.written c.args.out.now) (g.K.Sink.written c.write_round.new.out) c.make_round.ensures.made c.make_round.ensures.ends c.write_round.ensures.wrote)

pub returns-in-Round-clause-store : goal.returns-in-Round-clause-store
returns-in-Round-clause-store g c =
    let made = c.make_round.result in
    let wrote = c.write_round.result in
    rw c.write_round.ensures.journal
    (part_store made.result wrote.result made.stand.text wrote.stand.text (g.K.Sink.written c.args.out.now) (g.K.Sink.written c.write_round.new.out) (g.D.Disk.faults c.args.stand.journal.disk) (g.D.Disk.faults made.stand.journal.disk)
    c.make_round.ensures.store c.write_round.ensures.wrote)

pub returns-in-Restart-clause-goes : goal.returns-in-Restart-clause-goes
returns-in-Restart-clause-goes g c =
    rw c.in-Restart.is (restart_goes g.D.Disk.seen g.D.Disk.may_leave g.D.Disk.moment g.D.Disk.left_since c.args.options.now.set c.args.options.now.full c.args.stand.number c.restart-result.new.stand.number
    c.args.stand.state c.restart-result.new.stand.state c.args.stand.journal c.restart-result.new.stand.journal c.restart-result.result c.args.stand.text c.restart-result.new.stand.text
    (g.K.Sink.written c.args.out.now) c.restart-result.ensures.kept.0 c.restart-result.ensures.kept.1
    (subst (λ (options : RunOptions). OnOk c.restart-result.result (c.restart-result.new.stand.state.words ≡ opened options.set.rows (limits_of c.args.stand.journal))) c.options.view_is c.restart-result.ensures.opened)
    c.restart-result.ensures.names
    (subst (λ (options : RunOptions). OnOk c.restart-result.result ((other : Setting) (early : List LineRecord) → other.rows ≡ options.set.rows
    → StandsAt other early c.args.stand.state → StandsAt other early c.restart-result.new.stand.state)) c.options.view_is c.restart-result.ensures.stands)
    c.restart-result.ensures.text)

pub returns-in-Restart-clause-ends : goal.returns-in-Restart-clause-ends
returns-in-Restart-clause-ends g c =
    rw c.in-Restart.is (restart_ends g.D.Disk.seen g.D.Disk.may_leave g.D.Disk.moment g.D.Disk.left_since c.args.options.now.set c.args.options.now.full c.args.stand.number c.args.stand.state c.args.stand.journal c.restart-result.new.stand.journal
    c.restart-result.result c.args.stand.text (g.K.Sink.written c.args.out.now) c.restart-result.ensures.kept.0 c.restart-result.ensures.refused)
