use Rattle.std.proofs.Common.{◌≡◌, ◌≢◌, ◌∙◌, ◌+◌, ◌<◌, ◌^◌, ◌↔◌, true, List, [], AllPairs, Some, ap, arith, length, map, refl, rules, subst, sym}
use Rattle.std.proofs.lemmas.List.{length-map}
use Rattle.auc_memory.specs.Faults.{Rose}
use Rattle.auc_memory.specs.declared.stop.Stop.TheVariants.{Fault, Full}
use Rattle.auc_jobs.specs.Round.{LeavesMore}
use Rattle.auc_jobs.specs.State.{StandsAt}
use Rattle.auc_journal.specs.Journal.{JournalState}
use Rattle.auc_lines.specs.Part.{AreApart}
use Rattle.auc_lines.specs.declared.part.Line.{Line}
use Rattle.auc_named.specs.Named.{line_of}
use Rattle.auc_subs.specs.declared.row.Row.{Row}
use Rattle.auc_record.specs.Lines.{all_lines}
use Rattle.auc_subs.specs.Setting.{Setting}
use Rattle.auc_run.proofs.NamedLemmas.{all_served, among_all, both, lawful_of_all, none_served, own_names, own_releasable, plain_apart, served_by}
use Rattle.auc_run.proofs.OutputLemmas.{IfOk-ok}
use Rattle.auc_run.proofs.StandLemmas.{imsis_differ}
use Rattle.auc_run.proofs.named.serve_own.Goals as goal
use Rattle.auc_run.proofs.named.serve_own.Goals.{in-Ok, in-Err}

pub name_some-requires : goal.name_some-requires
name_some-requires g c =
    among_all c.args.options.now.set.rows c.args.own.named.rows c.args.own.named.places c.args.start.journal.all c.args.own.imsis.items c.requires.may.2.at
    (c.requires.may.1.all ∙ c.requires.may.1.journal.subscribers) c.requires.identities

pub serve-journal-requires-clause-state : goal.serve-journal-requires-clause-state
serve-journal-requires-clause-state g c = λ lifetimes within. ([], c.requires.stands _ c.subs.ensures)

pub serve-journal-requires-clause-round : goal.serve-journal-requires-clause-round
serve-journal-requires-clause-round g c = λ lifetimes within.
    let (jobs, may, named) = c.requires.may in
    let own = c.args.own.named.jobs in
    let places = c.args.own.named.places in
    let count : length c.jobs.result.now ≡ length jobs =
    ap (λ (js : List (List Line)). length js) c.jobs.ensures ∙ sym (length-map own (λ (job : List Line). map (line_of places) job)) ∙ ap (λ (js : List (List Line)). length js) named.are in
    record {
      subscribers = search rules;
      known = search rules;
      few = omega (arith, count, may.few);
      apart = subst (λ (js : List (List Line)). AllPairs AreApart js) (sym c.jobs.ensures) (plain_apart own named.plain);
      many = search rules;
    }

pub of_all-result-requires-clause-names : goal.of_all-result-requires-clause-names
of_all-result-requires-clause-names g c =
    let ran = c.in-Ok.ran in
    let own : Setting = record c.args.options.now.set { rows = c.args.own.named.rows } in
    let journal = record c.args.start.journal { imsis = c.args.own.imsis.items } in
    let serves = served_by g.D.Disk.seen g.D.Disk.may_leave g.D.Disk.moment g.D.Disk.left_since _ own c.args.own.state c.serve-journal.result.state _ c.args.own.named.jobs ran.round ran.stop _ journal c.serve-journal.result.journal c.serve-journal.result.journal
    (λ k. record (c.options.view_is k).set { rows = c.subs.ensures k }) c.jobs.ensures c.name_some.ensures refl (IfOk-ok c.serve-journal.result.result ran _ c.in-Ok.is c.serve-journal.ensures.served) (c.requires.stands _ c.subs.ensures) in
    own_names c.args.options.now.set c.args.own.named.rows c.args.own.named.places ran.stop c.args.own.state c.args.own.named.jobs ran.round serves.words c.requires.may.2.at.size (c.requires.stands own refl) c.requires.may.2.known serves.lawful

pub of_all-result-requires-clause-size : goal.of_all-result-requires-clause-size
of_all-result-requires-clause-size g c =
    let ran = c.in-Ok.ran in
    let stands = IfOk-ok c.serve-journal.result.result ran _ c.in-Ok.is c.serve-journal.ensures.next [] (c.requires.stands _ c.subs.ensures) in
    stands.subscribers.size ∙ ap (λ (rows : List Row). length rows) c.subs.ensures ∙ c.requires.may.2.at.size

pub of_all-result-requires-clause-releasable : goal.of_all-result-requires-clause-releasable
of_all-result-requires-clause-releasable g c =
    let set = c.args.options.now.set in
    let ran = c.in-Ok.ran in
    let may = c.requires.may.1 in
    let own : Setting = record set { rows = c.args.own.named.rows } in
    let journal = record c.args.start.journal { imsis = c.args.own.imsis.items } in
    let serves = served_by g.D.Disk.seen g.D.Disk.may_leave g.D.Disk.moment g.D.Disk.left_since _ own c.args.own.state c.serve-journal.result.state _ c.args.own.named.jobs ran.round ran.stop _ journal c.serve-journal.result.journal c.serve-journal.result.journal
    (λ k. record (c.options.view_is k).set { rows = c.subs.ensures k }) c.jobs.ensures c.name_some.ensures refl (IfOk-ok c.serve-journal.result.result ran _ c.in-Ok.is c.serve-journal.ensures.served) (c.requires.stands _ c.subs.ensures) in
    own_releasable set ran.stop may.stands.0 c.args.start.state.kept c.args.start.state.words _ c.requires.may.0 c.args.own.named.places ran.round
    (lawful_of_all set c.args.own.named.rows c.args.own.named.places c.requires.may.0 c.args.own.named.jobs c.args.start.state c.args.own.state ran.round ran.stop may.stands.0 serves.words c.requires.may.2 may.stands.1 c.requires.words serves.lawful)

pub returns : goal.returns
returns g c = λ jobs named.
    let set = c.args.options.now.set in
    let may = c.requires.may.1 in
    let own : Setting = record set { rows = c.args.own.named.rows } in
    let ids = c.args.own.imsis.items in
    let before = c.args.start.journal in
    let served = c.serve-journal.result.journal in
    let after = c.name_all.new.self in
    let all = may.journal.subscribers in
    let differ = imsis_differ set.rows before.imsis all may.subscribers.differ in
    let same_all : after.all ≡ before.all = ap (λ (j : JournalState g.row.D.Denot). j.all) c.name_all.ensures ∙ c.serve-journal.ensures.all ∙ ap (λ (j : JournalState g.row.D.Denot). j.all) c.name_some.ensures in
    let same : after.imsis ≡ before.imsis = ap (λ (j : JournalState g.row.D.Denot). j.imsis) c.name_all.ensures ∙ c.serve-journal.ensures.all ∙ ap (λ (j : JournalState g.row.D.Denot). j.all) c.name_some.ensures ∙ may.all in
    let still : served.imsis ≡ ids = c.serve-journal.ensures.subscribers ∙ ap (λ (j : JournalState g.row.D.Denot). j.imsis) c.name_some.ensures in
    let served_is : served ≡ record after { imsis = ids } = (λ k. record served { imsis = still k }) ∙ ap (λ (j : JournalState g.row.D.Denot). record j { imsis = ids }) (sym c.name_all.ensures) in
    let leaves = both (LeavesMore g.D.Disk.seen g.D.Disk.may_leave g.D.Disk.moment g.D.Disk.left_since) _ (record before { imsis = ids }) served (record after { imsis = ids }) c.name_some.ensures served_is c.serve-journal.ensures.leaves in
    let set_is : _ ≡ own = λ k. record (c.options.view_is k).set { rows = c.subs.ensures k } in
    elim c.match-result.branch [
      | in-Ok w ↦
          let ran = w.in-Ok.ran in
          let result = c.serve-journal.result.result in
          let serves = served_by g.D.Disk.seen g.D.Disk.may_leave g.D.Disk.moment g.D.Disk.left_since _ own c.args.own.state c.serve-journal.result.state _ c.args.own.named.jobs ran.round ran.stop _ (record before { imsis = ids }) served (record after { imsis = ids })
          set_is c.jobs.ensures c.name_some.ensures served_is (IfOk-ok result ran _ w.in-Ok.is c.serve-journal.ensures.served) (c.requires.stands _ c.subs.ensures) in
          let own_stands = subst (λ (s : Setting). StandsAt s (all_lines ran.round.jobs) c.serve-journal.result.state) set_is (IfOk-ok result ran _ w.in-Ok.is c.serve-journal.ensures.next [] (c.requires.stands _ c.subs.ensures)) in
          let ready = subst (λ (j : JournalState g.row.D.Denot). (j.failed ≡ true) ↔ (ran.stop ≡ Some Fault)) (sym c.name_all.ensures) (IfOk-ok result ran _ w.in-Ok.is c.serve-journal.ensures.ready) in
          let fault = both (λ (b a : JournalState g.row.D.Denot). ran.stop ≡ Some Fault → Rose (g.D.Disk.faults b.disk) (g.D.Disk.faults a.disk)) _ _ _ after c.name_some.ensures (sym c.name_all.ensures) (IfOk-ok result ran _ w.in-Ok.is c.serve-journal.ensures.fault) in
          let quiet = both (λ (b a : JournalState g.row.D.Denot). ran.stop ≢ Some Fault → g.D.Disk.faults a.disk ≡ g.D.Disk.faults b.disk) _ _ _ after c.name_some.ensures (sym c.name_all.ensures) (IfOk-ok result ran _ w.in-Ok.is c.serve-journal.ensures.quiet) in
          let full = subst (λ (j : JournalState g.row.D.Denot). ran.stop ≡ Some Full → 2 ^ 30 < j.place + 20) (sym c.name_all.ensures) (IfOk-ok result ran _ w.in-Ok.is c.serve-journal.ensures.full) in
          rw (w.result-is, w.start-is)
          (all_served g.D.Disk.seen g.D.Disk.may_leave g.D.Disk.moment g.D.Disk.left_since set c.args.own.named.rows c.args.own.named.places jobs c.args.own.named.jobs before after ids named all c.requires.identities differ same
          g.D.Disk.faults c.args.options.now.full c.args.start.number c.args.start.state w.of_all-result.new.state c.args.own.state c.serve-journal.result.state ran w.of_all-result.result may.limits c.requires.words serves own_stands
          (IfOk-ok result ran _ w.in-Ok.is c.serve-journal.ensures.number) same_all ready fault quiet full leaves w.of_all-result.ensures.round w.of_all-result.ensures.vectors w.of_all-result.ensures.led)
      | in-Err w ↦
          rw (w.result-is, w.start-is)
          (none_served g.D.Disk.seen g.D.Disk.may_leave g.D.Disk.moment g.D.Disk.left_since set c.args.own.named.rows c.args.own.named.places jobs c.args.own.named.jobs before after ids named all c.requires.identities differ same
          g.D.Disk.faults c.args.options.now.full c.args.start.number c.args.start.state c.args.start.state _ same_all leaves)
    ]
