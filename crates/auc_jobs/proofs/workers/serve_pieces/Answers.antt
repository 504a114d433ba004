use Rattle.std.proofs.Common.{◌≡◌, ℕ, ◌+◌, ◌≤◌, List, Option, All, ap, length, map, sym, ◌∙◌, subst, if◌then◌else◌, []}
use Rattle.std.specs.Prelude.{IfOk}
use Rattle.std.specs.Global.{Vec}
use Rattle.std.proofs.lemmas.List.{length-map}
use Rattle.auc_draw.specs.Values.{BookValue}
use Rattle.auc_memory.specs.Identity.{Identity}
use Rattle.auc_memory.specs.declared.stop.Stop.{Stop}
use Rattle.auc_journal.specs.Journal.{JournalState, limits_of}
use Rattle.auc_sqn.specs.Number.{max_seq}
use Rattle.auc_subs.specs.Subscriber.{tops_of}
use Rattle.auc_subs.specs.declared.row.Row.{Row}
use Rattle.auc_subs.proofs.Facts.{top_at-within}
use Rattle.auc_record.specs.Vectors.{vectors_in}
use Rattle.auc_record.specs.declared.record.LineRecord.{LineRecord}
use Rattle.auc_jobs.specs.declared.claiming.WorkerJobs.{WorkerJobs}
use Rattle.auc_jobs.specs.declared.workers.RoundPieces.{RoundPieces}
use Rattle.auc_jobs.specs.InnerClaims.{ClosesAs, HaveWorked, IsDone}
use Rattle.auc_jobs.specs.InnerKeeping.{StaysNear, TellsStop}
use Rattle.auc_jobs.specs.InnerPreparing.{AreReservable}
use Rattle.auc_jobs.specs.InnerRound.{AreServed, GoesByLimits}
use Rattle.auc_jobs.specs.InnerSharing.{IsAfter}
use Rattle.auc_jobs.proofs.KeepingLemmas.{can_keep, have_worked, if_ok_map, opened_for, stays_near, stop_told, unserved_leaves, worked_leaves}
use Rattle.auc_jobs.proofs.PreparingLemmas.{are_reservable}
use Rattle.auc_jobs.proofs.workers.serve_pieces.Goals as goal

pub work_all-worked-requires-clause-shared : goal.work_all-worked-requires-clause-shared
work_all-worked-requires-clause-shared g c = λ lifetimes within.
    let opened = c.in-Ok.opened in
    opened_for c.args.round.now c.args.journal opened.book opened.passes.items opened.keeper c.requires.round c.requires.journal c.in-Ok.ensures.opens

pub work_all-worked-requires-clause-keeper : goal.work_all-worked-requires-clause-keeper
work_all-worked-requires-clause-keeper g c = λ lifetimes within.
    let opened = c.in-Ok.opened in
    can_keep c.args.round.now.set.rows c.args.round.now.state.words (tops_of c.args.round.now.set.rows) c.args.round.now.workers c.args.journal opened.book opened.passes.items opened.keeper
    c.requires.round.round.subscribers c.requires.journal c.in-Ok.ensures.opens

pub work_all-worked-requires-clause-needed : goal.work_all-worked-requires-clause-needed
work_all-worked-requires-clause-needed g c = λ lifetimes within.
    let opened = c.in-Ok.opened in
    let opens = c.in-Ok.ensures.opens in
    let are = are_reservable c.args.round.now.jobs (tops_of c.args.round.now.set.rows) c.args.round.now.state.words (limits_of c.args.journal) opened.keeper (length opened.book.openings)
    (top_at-within c.args.round.now.set.rows) opens.seen opens.reserved (ap (λ (os : List ℕ). length os) (sym opens.numbers)) in
    subst (AreReservable (length opened.book.openings) opened.keeper) (sym c.in-Ok.ensures.needed) are

pub settle-requires-clause-worked : goal.settle-requires-clause-worked
settle-requires-clause-worked g c =
    let opened = c.in-Ok.opened in
    let worked = c.work_all-worked.result in
    if_ok_map (λ (all : Vec WorkerJobs). (length all.items ≡ length opened.passes.items) × All (IsDone opened.book.id opened.book.tops c.args.round.now) all.items)
    (λ all. HaveWorked c.args.round.now worked.book all.items worked.keeper worked.stop) worked.all
    (λ all done.
    subst (λ (book : BookValue). HaveWorked c.args.round.now book all.items worked.keeper worked.stop) (sym c.work_all-worked.ensures.book)
    (have_worked c.args.round.now (limits_of c.args.journal) opened.book opened.passes.items opened.keeper worked.keeper worked.stop all.items
    c.requires.round c.in-Ok.ensures.opens c.work_all-worked.ensures.own.0 c.work_all-worked.ensures.own.1 c.work_all-worked.ensures.stop done))
    c.work_all-worked.ensures.all

pub returns-in-Ok : goal.returns-in-Ok
returns-in-Ok g c =
    let round = c.args.round.now in
    let before = c.args.journal in
    let opened = c.in-Ok.opened in
    let opens = c.in-Ok.ensures.opens in
    let worked = c.work_all-worked.result in
    let since = c.work_all-worked.ensures.since in
    let after = c.settle.result.journal in
    let result = c.settle.result.result in
    let Closed : RoundPieces → Type 0 = ClosesAs round opened.book worked.keeper in
    let closes : IfOk result Closed = subst (λ (book : BookValue). IfOk result (ClosesAs round book worked.keeper)) c.work_all-worked.ensures.book c.settle.ensures.closes in
    record {
      served = if_ok_map Closed
          (λ done. (early : List LineRecord) → IsAfter round early → AreServed round.set early round.state.kept round.state.words round.jobs done.jobs.records done.jobs.devices done.jobs.sessions done.words) result
          (λ done closed early begins.
          subst (λ (os : List ℕ). AreServed round.set early round.state.kept os round.jobs done.jobs.records done.jobs.devices done.jobs.sessions done.words) opens.numbers (closed.served early begins))
          closes;
      limits = if_ok_map Closed (λ done. GoesByLimits round.set done.stop done.jobs.records (limits_of before) done.words (limits_of after)) result
          (λ done closed.
          subst (λ (ls : List ℕ). GoesByLimits round.set done.stop done.jobs.records ls done.words (limits_of after)) opens.limits
          (subst (λ (ls : List ℕ). GoesByLimits round.set done.stop done.jobs.records opened.book.limits done.words ls) (since.limits ∙ ap limits_of (sym c.settle.ensures.journal)) closed.limits))
          closes;
      vectors = if_ok_map Closed (λ done. done.jobs.vectors ≡ (if round.full then map (vectors_in round.set) done.jobs.records else [])) result (λ done closed. closed.vectors) closes;
      bound = if_ok_map Closed (λ done. All (λ word. word ≤ max_seq + 64) done.words) result (λ done closed. closed.bound) closes;
      subscribers = ap (λ (j : JournalState g.row.D.Denot). j.imsis) c.settle.ensures.journal ∙ since.subscribers;
      all = ap (λ (j : JournalState g.row.D.Denot). j.all) c.settle.ensures.journal ∙ since.all;
      leaves = rw c.settle.ensures.journal (worked_leaves g.D.Disk.seen g.D.Disk.may_leave g.D.Disk.faults g.D.Disk.moment g.D.Disk.left_since before worked.journal worked.keeper since);
      near = rw c.settle.ensures.journal
          (if_ok_map Closed (λ done. StaysNear g.D.Disk.seen g.D.Disk.may_leave g.D.Disk.moment g.D.Disk.left_since before done.words worked.journal) result
          (λ done closed.
          stays_near g.D.Disk.seen g.D.Disk.may_leave g.D.Disk.faults g.D.Disk.moment g.D.Disk.left_since before worked.journal worked.keeper done.words opened.book.openings since
          (ap (λ (imsis : List Identity). length imsis) c.requires.journal.subscribers ∙ length-map round.set.rows (λ (row : Row). row.imsi) ∙ sym c.requires.round.begins.1.subscribers.size
          ∙ sym (ap (λ (os : List ℕ). length os) opens.numbers)) closed.looked)
          closes);
      stop = rw c.settle.ensures.journal
          (if_ok_map Closed (λ done. TellsStop g.D.Disk.faults before done.stop worked.journal) result
          (λ done closed. subst (λ (stop : Option Stop). TellsStop g.D.Disk.faults before stop worked.journal) (sym closed.stop)
          (stop_told g.D.Disk.seen g.D.Disk.may_leave g.D.Disk.faults g.D.Disk.moment g.D.Disk.left_since before worked.journal worked.keeper done.jobs.records since))
          closes);
    }

pub returns-in-Err-clause-leaves : goal.returns-in-Err-clause-leaves
returns-in-Err-clause-leaves g c =
    let laws = g.met.D.Disk g.world.𝓛 g.world.𝓜 g.world.𝓡 ((λ s x. x), (λ x. x), (λ x. x), λ x. x) in
    unserved_leaves g.D.Disk.seen g.D.Disk.may_leave g.D.Disk.moment g.D.Disk.left_since laws.only_now c.args.journal
