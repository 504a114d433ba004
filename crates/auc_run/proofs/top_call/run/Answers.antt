use Rattle.std.proofs.Common.{◌≡◌, ◌∙◌, inl, inr, refl, subst}
use Rattle.auc_refusal.specs.Told.{Tells}
use Rattle.auc_refusal.specs.declared.refusal.Refusal.{Refusal}
use Rattle.auc_refusal.specs.declared.refusal.Refusal.TheVariants as refused
use Rattle.auc_refusal.specs.declared.status.Status.TheVariants as status
use Rattle.auc_run.proofs.CauseLemmas.{comes_at}
use Rattle.auc_run.proofs.EndLemmas.{algorithm_may, algorithm_told, ran_told, usage_told, write_told}
use Rattle.auc_run.specs.Crash.{MayHaveLeft, MayLeave}
use Rattle.auc_run.proofs.RememberLemmas.{remembers_told}
use Rattle.auc_run.proofs.TellingLemmas.{journal_comes, long_comes, telling_told}
use Rattle.auc_run.proofs.TopLemmas.{full_ends, full_runs, full_told, load_told, read_told, refused_told}
use Rattle.auc_run.proofs.top_call.run.Goals as goal

pub returns-in-Ok-clause-ran : goal.returns-in-Ok-clause-ran
returns-in-Ok-clause-ran g c = λ files named. inl (rw c.in-Ok.is at (c.perform-disk.ensures.ran files named))

pub returns-in-Err-clause-ran : goal.returns-in-Err-clause-ran
returns-in-Err-clause-ran g c = λ files named.
    ran_told c.args.words.now (g.H.Shelf.files c.args.shelf.now) files (g.D.Disk.seen c.args.disk) (MayLeave g.D.Disk.seen g.D.Disk.may_leave c.args.disk c.perform-disk.result.disk) (MayHaveLeft g.D.Disk.seen g.D.Disk.may_leave g.D.Disk.moment g.D.Disk.left_since c.args.disk c.perform-disk.result.disk) c.in-Err.refusal c.tell.result
    (g.K.Sink.written c.args.out.now) (g.K.Sink.written c.perform-disk.new.out) (g.K.Sink.written c.tell.new.out) named (rw c.in-Err.is at c.perform-disk.ensures.refused)
    (rw c.in-Err.is at (c.perform-disk.ensures.ran files named)) c.tell.ensures.told c.tell.ensures.front c.tell.ensures.spared

pub returns-in-Err-clause-refused : goal.returns-in-Err-clause-refused
returns-in-Err-clause-refused g c =
    inr (refused_told c.args.words.now (g.H.Shelf.files c.args.shelf.now) (g.D.Disk.seen c.args.disk) c.in-Err.refusal c.tell.result
    (g.K.Sink.written c.args.out.now) (g.K.Sink.written c.perform-disk.new.out) (g.K.Sink.written c.tell.new.out)
    (rw c.in-Err.is at c.perform-disk.ensures.refused) (rw c.in-Err.is at c.perform-disk.ensures.silent) c.tell.ensures.told)

pub returns-in-Err-clause-store_full : goal.returns-in-Err-clause-store_full
returns-in-Err-clause-store_full g c = λ full.
    let is = full_told c.in-Err.refusal c.tell.result (g.K.Sink.written c.perform-disk.new.out) (g.K.Sink.written c.tell.new.out) c.tell.ensures.told full in (
      full_runs c.args.words.now (g.H.Shelf.files c.args.shelf.now) (g.D.Disk.seen c.args.disk) (MayLeave g.D.Disk.seen g.D.Disk.may_leave c.args.disk c.perform-disk.result.disk) (MayHaveLeft g.D.Disk.seen g.D.Disk.may_leave g.D.Disk.moment g.D.Disk.left_since c.args.disk c.perform-disk.result.disk) c.in-Err.refusal c.tell.result
          (g.K.Sink.written c.args.out.now) (g.K.Sink.written c.perform-disk.new.out) (g.K.Sink.written c.tell.new.out)
          (rw c.in-Err.is at c.perform-disk.ensures.refused) (rw c.in-Err.is at c.perform-disk.ensures.ran) c.tell.ensures.told is,
      (rw (c.in-Err.is, is) at c.perform-disk.ensures.store_full) refl,
    )

pub returns-in-Err-clause-drew_full : goal.returns-in-Err-clause-drew_full
returns-in-Err-clause-drew_full g c = λ full.
    let is = full_told c.in-Err.refusal c.tell.result (g.K.Sink.written c.perform-disk.new.out) (g.K.Sink.written c.tell.new.out) c.tell.ensures.told full in
    full_ends g.D.Disk.seen g.D.Disk.may_leave c.args.words.now (g.H.Shelf.files c.args.shelf.now) c.args.disk c.perform-disk.result.disk c.in-Err.refusal c.tell.result
    (g.K.Sink.written c.args.out.now) (g.K.Sink.written c.perform-disk.new.out) (g.K.Sink.written c.tell.new.out)
    (rw c.in-Err.is at c.perform-disk.ensures.refused) (λ files named. (rw (c.in-Err.is, is) at (c.perform-disk.ensures.drew_full files named)) refl) c.tell.ensures.told is

pub returns-in-Ok-clause-load_ran : goal.returns-in-Ok-clause-load_ran
returns-in-Ok-clause-load_ran g c = λ load named. rw c.in-Ok.is at (c.perform-disk.ensures.load_ran load named)

pub returns-in-Err-clause-load_ran : goal.returns-in-Err-clause-load_ran
returns-in-Err-clause-load_ran g c = λ load named.
    load_told load c.in-Err.refusal c.tell.result (g.K.Sink.written c.args.out.now) (g.K.Sink.written c.perform-disk.new.out) (g.K.Sink.written c.tell.new.out)
    (rw c.in-Err.is at (c.perform-disk.ensures.load_ran load named)) c.tell.ensures.told

pub returns-in-Ok-clause-algorithm_ran : goal.returns-in-Ok-clause-algorithm_ran
returns-in-Ok-clause-algorithm_ran g c = λ form named. rw c.in-Ok.is at (c.perform-disk.ensures.algorithm_ran form named)

pub returns-in-Err-clause-algorithm_ran : goal.returns-in-Err-clause-algorithm_ran
returns-in-Err-clause-algorithm_ran g c = λ form named.
    algorithm_told form c.in-Err.refusal c.tell.result (g.K.Sink.written c.args.out.now) (g.K.Sink.written c.perform-disk.new.out) (g.K.Sink.written c.tell.new.out)
    (rw c.in-Err.is at (c.perform-disk.ensures.algorithm_ran form named)) c.tell.ensures.told

pub returns-in-Err-clause-algorithm_comes : goal.returns-in-Err-clause-algorithm_comes
returns-in-Err-clause-algorithm_comes g c = λ form named.
    algorithm_may form c.tell.result (g.K.Sink.written c.args.out.now) (g.K.Sink.written c.tell.new.out) (returns-in-Err-clause-algorithm_ran g c form named)

pub returns-in-Ok-clause-journal_ran : goal.returns-in-Ok-clause-journal_ran
returns-in-Ok-clause-journal_ran g c = λ form named. rw c.in-Ok.is at (c.perform-disk.ensures.limits_ran form named)

pub returns-in-Err-clause-journal_ran : goal.returns-in-Err-clause-journal_ran
returns-in-Err-clause-journal_ran g c = λ form named.
    telling_told c.args.words.now (g.H.Shelf.files c.args.shelf.now) (g.D.Disk.seen c.args.disk) form c.in-Err.refusal c.tell.result
    (g.K.Sink.written c.args.out.now) (g.K.Sink.written c.perform-disk.new.out) (g.K.Sink.written c.tell.new.out) named (rw c.in-Err.is at c.perform-disk.ensures.refused)
    (rw c.in-Err.is at (c.perform-disk.ensures.limits_ran form named)) c.tell.ensures.told c.tell.ensures.front c.tell.ensures.spared

pub returns-in-Ok-clause-journal_comes : goal.returns-in-Ok-clause-journal_comes
returns-in-Ok-clause-journal_comes g c = λ form found reading named told read.
    journal_comes form (g.D.Disk.seen c.args.disk) found reading status.Done (g.K.Sink.written c.args.out.now) (g.K.Sink.written c.perform-disk.new.out) told read (returns-in-Ok-clause-journal_ran g c form named)

pub returns-in-Err-clause-journal_comes : goal.returns-in-Err-clause-journal_comes
returns-in-Err-clause-journal_comes g c = λ form found reading named told read.
    journal_comes form (g.D.Disk.seen c.args.disk) found reading c.tell.result (g.K.Sink.written c.args.out.now) (g.K.Sink.written c.tell.new.out) told read (returns-in-Err-clause-journal_ran g c form named)

pub returns-in-Ok-clause-long_comes : goal.returns-in-Ok-clause-long_comes
returns-in-Ok-clause-long_comes g c = λ form found named told long.
    long_comes form (g.D.Disk.seen c.args.disk) found status.Done (g.K.Sink.written c.args.out.now) (g.K.Sink.written c.perform-disk.new.out) told long (returns-in-Ok-clause-journal_ran g c form named)

pub returns-in-Err-clause-long_comes : goal.returns-in-Err-clause-long_comes
returns-in-Err-clause-long_comes g c = λ form found named told long.
    long_comes form (g.D.Disk.seen c.args.disk) found c.tell.result (g.K.Sink.written c.args.out.now) (g.K.Sink.written c.tell.new.out) told long (returns-in-Err-clause-journal_ran g c form named)

pub returns-in-Err-clause-usage_ran : goal.returns-in-Err-clause-usage_ran
returns-in-Err-clause-usage_ran g c = λ unknown.
    usage_told c.args.words.now (g.H.Shelf.files c.args.shelf.now) (g.D.Disk.seen c.args.disk) c.in-Err.refusal c.tell.result
    (g.K.Sink.written c.args.out.now) (g.K.Sink.written c.perform-disk.new.out) (g.K.Sink.written c.tell.new.out) unknown (rw c.in-Err.is at c.perform-disk.ensures.refused)
    (rw c.in-Err.is at c.perform-disk.ensures.silent) c.tell.ensures.told c.tell.ensures.front

pub returns-in-Ok-clause-remembers : goal.returns-in-Ok-clause-remembers
returns-in-Ok-clause-remembers g c = rw c.in-Ok.is at c.perform-disk.ensures.remembers

pub returns-in-Err-clause-remembers : goal.returns-in-Err-clause-remembers
returns-in-Err-clause-remembers g c =
    remembers_told g.D.Disk.seen g.D.Disk.may_leave c.in-Err.refusal c.tell.result c.args.disk c.perform-disk.result.disk (g.K.Sink.written c.perform-disk.new.out) (g.K.Sink.written c.tell.new.out)
    (rw c.in-Err.is at c.perform-disk.ensures.remembers) c.tell.ensures.told

pub returns-in-Err-clause-quiet_shelf : goal.returns-in-Err-clause-quiet_shelf
returns-in-Err-clause-quiet_shelf g c = λ not_read.
    c.perform-disk.ensures.shelf.same (λ is. let same : c.in-Err.refusal ≡ refused.ReadFault = cc (is, c.in-Err.is) in not_read (read_told c.tell.result (g.K.Sink.written c.perform-disk.new.out) (g.K.Sink.written c.tell.new.out)
    (subst (λ (r : Refusal). Tells r c.tell.result (g.K.Sink.written c.perform-disk.new.out) (g.K.Sink.written c.tell.new.out)) same c.tell.ensures.told)))

pub returns-in-Err-clause-quiet_output : goal.returns-in-Err-clause-quiet_output
returns-in-Err-clause-quiet_output g c = λ not_write.
    c.tell.ensures.quiet not_write
    ∙ c.perform-disk.ensures.output.same (λ is. let same : c.in-Err.refusal ≡ refused.WriteFault = cc (is, c.in-Err.is) in not_write (write_told c.tell.result (g.K.Sink.written c.perform-disk.new.out) (g.K.Sink.written c.tell.new.out)
    (subst (λ (r : Refusal). Tells r c.tell.result (g.K.Sink.written c.perform-disk.new.out) (g.K.Sink.written c.tell.new.out)) same c.tell.ensures.told)))

pub returns-in-Err-clause-refused_comes : goal.returns-in-Err-clause-refused_comes
returns-in-Err-clause-refused_comes g c = λ there found cause told_is seen_is is.
    comes_at c.args.words.now (g.H.Shelf.files c.args.shelf.now) (g.D.Disk.seen c.args.disk) there found (MayLeave g.D.Disk.seen g.D.Disk.may_leave c.args.disk c.perform-disk.result.disk) (MayHaveLeft g.D.Disk.seen g.D.Disk.may_leave g.D.Disk.moment g.D.Disk.left_since c.args.disk c.perform-disk.result.disk)
    cause c.in-Err.refusal c.tell.result (g.K.Sink.written c.args.out.now) (g.K.Sink.written c.perform-disk.new.out) (g.K.Sink.written c.tell.new.out)
    told_is seen_is is (rw c.in-Err.is at c.perform-disk.ensures.refused) (rw c.in-Err.is at c.perform-disk.ensures.ran) c.tell.ensures.told
