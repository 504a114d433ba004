-- The IMSI is that of the subscriber's row.
use Rattle.std.proofs.Common.{codes}
use Rattle.auc_memory.specs.Identity.{digits_of}
use Rattle.auc_print.proofs.PieceLemmas.{imsi_at, prints_after, prints_from}
use Rattle.auc_print.proofs.writer.print_subject.Goals as goal

pub returns : goal.returns
returns c =
    let imsi = digits_of c.row.result.now.imsi in
    rw (imsi_at c.args.subs.now c.args.sub c.row.result.now c.row.ensures.place)
    (prints_after _ _ _ _ c.args.first.now _ c.in_ok-append.ensures.appended
    (prints_after _ _ _ _ (codes " ") imsi c.in_ok-append-2.ensures.appended
    (prints_from _ _ _ imsi c.write_to.ensures.written c.write_to.ensures.kept)))
