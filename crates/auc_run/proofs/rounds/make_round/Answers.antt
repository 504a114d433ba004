use Rattle.std.proofs.Common.{List, Option, subst, sym}
use Rattle.auc_memory.specs.declared.stop.Stop.{Stop}
use Rattle.auc_jobs.specs.Round.{ServesRound}
use Rattle.auc_lines.specs.declared.part.Line.{Line}
use Rattle.auc_world.specs.Round.{IsLawfulRound}
use Rattle.auc_run.specs.Inner.{EachLeads}
use Rattle.auc_run.specs.InnerFaults.{RoseInRound}
use Rattle.auc_run.specs.InnerNamed.{MayServe}
use Rattle.auc_run.proofs.OutputLemmas.{IfOk-ok}
use Rattle.auc_run.proofs.PrintableLemmas.{round_named}
use Rattle.auc_run.proofs.StandLemmas.{covers_more, round_leads}
use Rattle.auc_run.proofs.StepLemmas.{covers_round, each_stop, made_round}
use Rattle.auc_run.proofs.rounds.make_round.Goals as goal

pub serve_start-journal-requires-clause-may : goal.serve_start-journal-requires-clause-may
serve_start-journal-requires-clause-may g c = λ κs within.
    let on = c.requires.stands.4 in
    subst (λ (jobs : List (List Line)). MayServe c.args.options.now.set c.args.options.now.workers jobs c.args.stand.state c.args.stand.journal) (sym c.as_slice.ensures)
    (record {
      stands = (c.requires.stands.3, on.stands);
      known = c.requires.known.known;
      few = c.requires.known.few;
      apart = c.requires.known.apart;
      workers = c.requires.workers;
      subscribers = c.requires.subscribers;
      journal = record { subscribers = on.reserves.subscribers; ready = on.ready };
      all = on.reserves.all;
      limits = on.reserves.raises.within;
    })

pub returns-in-Err-clause-ends : goal.returns-in-Err-clause-ends
returns-in-Err-clause-ends g c = λ from reserved at known on enough.
    covers_more g.D.Disk.seen g.D.Disk.may_leave g.D.Disk.moment g.D.Disk.left_since c.args.options.now.set.rows from reserved at c.args.stand.journal c.serve_start-journal.result.journal on.reserves c.serve_start-journal.ensures.subscribers c.serve_start-journal.ensures.leaves

pub append_round-result-requires-clause-named : goal.append_round-result-requires-clause-named
append_round-result-requires-clause-named g c =
    let set = c.args.options.now.set in
    let round = c.in-Ok.ran.round in
    let known = c.requires.stands.3 in
    let on = c.requires.stands.4 in
    let serves = IfOk-ok c.serve_start-journal.result.result c.in-Ok.ran _ (cc c.in-Ok.is) c.serve_start-journal.ensures.served known on.stands in
    let lawful : IsLawfulRound set c.in-Ok.ran.stop known c.args.stand.state.kept c.args.stand.state.words c.args.jobs.now round serves.words =
    subst (λ (jobs : List (List Line)). IsLawfulRound set c.in-Ok.ran.stop known c.args.stand.state.kept c.args.stand.state.words jobs round serves.words) c.as_slice.ensures serves.lawful in
    round_named set c.in-Ok.ran.stop known c.args.stand.state.kept c.args.stand.state.words c.args.jobs.now round serves.words on.stands.subscribers.size c.requires.known.known lawful

pub returns-in-Ok-clause-made : goal.returns-in-Ok-clause-made
returns-in-Ok-clause-made g c =
    let set = c.args.options.now.set in
    let round = c.in-Ok.ran.round in
    let stop = c.in-Ok.ran.stop in
    let state = c.args.stand.state in
    let next = c.serve_start-journal.result.state in
    let journal = c.args.stand.journal in
    let after = c.serve_start-journal.result.journal in
    let each : EachLeads g.D.Disk.seen g.D.Disk.may_leave g.D.Disk.moment g.D.Disk.left_since set c.args.stand.number state journal c.args.jobs.now round stop next after = λ from reserved at known on enough.
    round_leads g.D.Disk.seen g.D.Disk.may_leave g.D.Disk.moment g.D.Disk.left_since set from reserved at c.args.stand.number state next journal after c.args.jobs.now round stop known on enough
    (IfOk-ok c.serve_start-journal.result.result c.in-Ok.ran _ (cc c.in-Ok.is) c.serve_start-journal.ensures.number) c.serve_start-journal.ensures.subscribers c.serve_start-journal.ensures.all c.requires.subscribers
    (subst (λ (jobs : List (List Line)). ServesRound g.D.Disk.seen g.D.Disk.may_leave g.D.Disk.moment g.D.Disk.left_since set known state jobs round stop journal next after) c.as_slice.ensures
    (IfOk-ok c.serve_start-journal.result.result c.in-Ok.ran _ (cc c.in-Ok.is) c.serve_start-journal.ensures.served known on.stands)) in
    made_round g.D.Disk.seen g.D.Disk.may_leave g.D.Disk.moment g.D.Disk.left_since set c.args.options.now.full c.args.stand.number state next journal after c.args.jobs.now stop round c.append_round-result.result c.args.stand.text c.append_round-result.new.text
    each (IfOk-ok c.serve_start-journal.result.result c.in-Ok.ran _ (cc c.in-Ok.is) c.serve_start-journal.ensures.next) (IfOk-ok c.serve_start-journal.result.result c.in-Ok.ran _ (cc c.in-Ok.is) c.serve_start-journal.ensures.ready)
    (IfOk-ok c.serve_start-journal.result.result c.in-Ok.ran _ (cc c.in-Ok.is) c.serve_start-journal.ensures.full) c.append_round-result.ensures.stop c.append_round-result.ensures.appended c.append_round-result.ensures.fits

pub returns-in-Ok-clause-ends : goal.returns-in-Ok-clause-ends
returns-in-Ok-clause-ends g c =
    let set = c.args.options.now.set in
    let round = c.in-Ok.ran.round in
    let stop = c.in-Ok.ran.stop in
    let state = c.args.stand.state in
    let next = c.serve_start-journal.result.state in
    let journal = c.args.stand.journal in
    let after = c.serve_start-journal.result.journal in
    let each : EachLeads g.D.Disk.seen g.D.Disk.may_leave g.D.Disk.moment g.D.Disk.left_since set c.args.stand.number state journal c.args.jobs.now round stop next after = λ from reserved at known on enough.
    round_leads g.D.Disk.seen g.D.Disk.may_leave g.D.Disk.moment g.D.Disk.left_since set from reserved at c.args.stand.number state next journal after c.args.jobs.now round stop known on enough
    (IfOk-ok c.serve_start-journal.result.result c.in-Ok.ran _ (cc c.in-Ok.is) c.serve_start-journal.ensures.number) c.serve_start-journal.ensures.subscribers c.serve_start-journal.ensures.all c.requires.subscribers
    (subst (λ (jobs : List (List Line)). ServesRound g.D.Disk.seen g.D.Disk.may_leave g.D.Disk.moment g.D.Disk.left_since set known state jobs round stop journal next after) c.as_slice.ensures
    (IfOk-ok c.serve_start-journal.result.result c.in-Ok.ran _ (cc c.in-Ok.is) c.serve_start-journal.ensures.served known on.stands)) in
    covers_round g.D.Disk.seen g.D.Disk.may_leave g.D.Disk.moment g.D.Disk.left_since set c.args.stand.number state next journal after c.args.jobs.now round stop c.append_round-result.result each

pub returns-in-Ok-clause-store : goal.returns-in-Ok-clause-store
returns-in-Ok-clause-store g c =
    let result = c.serve_start-journal.result.result in
    each_stop c.append_round-result.result c.in-Ok.ran.stop (λ (stop : Option Stop). RoseInRound stop (g.D.Disk.faults c.args.stand.journal.disk) (g.D.Disk.faults c.serve_start-journal.result.journal.disk)) c.append_round-result.ensures.stop
    (record {
      rose = IfOk-ok result c.in-Ok.ran _ (cc c.in-Ok.is) c.serve_start-journal.ensures.fault;
      same = IfOk-ok result c.in-Ok.ran _ (cc c.in-Ok.is) c.serve_start-journal.ensures.quiet;
    })
