use Rattle.std.proofs.Common.{◌∙◌}
use Rattle.auc_input.proofs.OpeningLemmas.{opened_begins, opening_none}
use Rattle.auc_journal.proofs.Facts.{untouched_found}
use Rattle.auc_journal.specs.declared.open_why.OpenWhy.TheVariants as why
use Rattle.auc_input.proofs.opening.open_journal.Goals as goal

pub returns-in-Ok-clause-opened : goal.returns-in-Ok-clause-opened
returns-in-Ok-clause-opened g c =
    opened_begins g.D.Disk.seen g.D.Disk.may_leave g.D.Disk.moment g.D.Disk.left_since g.D.Disk.faults c.args.subs.now c.args.disk c.as_slice.result.now c.open.result (c.as_slice.ensures ∙ c.in-Ok.ensures)
    c.open.ensures.opened c.open.ensures.all c.open.ensures.subscribers c.open.ensures.ready c.open.ensures.quiet c.open.ensures.durable c.open.ensures.any_moment

pub returns-in-Err-clause-refused : goal.returns-in-Err-clause-refused
returns-in-Err-clause-refused g c = untouched_found g.D.Disk.seen g.D.Disk.may_leave why.NoMemory c.args.disk

pub returns-in-Err-clause-refused_moment : goal.returns-in-Err-clause-refused_moment
returns-in-Err-clause-refused_moment g c = opening_none g.D.Disk.seen g.D.Disk.may_leave g.D.Disk.moment g.D.Disk.left_since g.met.D.Disk.only_now c.args.disk
