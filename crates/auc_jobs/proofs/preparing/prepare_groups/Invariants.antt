-- The keeper after some groups, which may still reserve the rest.
use Rattle.std.proofs.Common.{◌≡◌, length}
use Rattle.auc_journal.specs.Journal.{JournalState}
use Rattle.auc_keeper.specs.Keeper.{Since}
use Rattle.auc_jobs.specs.InnerPreparing.{AreReservable}
use Rattle.auc_jobs.proofs.preparing.prepare_groups.Given as goal

abbrev pub invariant-loop-rest : goal.invariant-loop-rest
invariant-loop-rest g l = record {
  own : l.keeper.pass.id ≡ l.initial.keeper.pass.id;
  all : l.keeper.pass.passes ≡ l.initial.keeper.pass.passes;
  sized : length l.keeper.journal.imsis ≡ length l.book.openings;
  left : AreReservable (length l.book.openings) l.keeper.pass l.rest;
  since : (opening : JournalState g.row.D.Denot) → Since g.D.Disk.seen g.D.Disk.may_leave g.D.Disk.faults g.D.Disk.moment g.D.Disk.left_since opening l.initial.keeper → Since g.D.Disk.seen g.D.Disk.may_leave g.D.Disk.faults g.D.Disk.moment g.D.Disk.left_since opening l.keeper;
}

abbrev pub decreases-loop-rest : goal.decreases-loop-rest
decreases-loop-rest g l = length l.rest
