-- What was gathered, and what the subscribers from here on add to it.
use Rattle.std.proofs.Common.{◌≡◌, ◌++◌, drop}
use Rattle.auc_journal.specs.Journal.{limits_of}
use Rattle.auc_jobs.specs.InnerPreparing.{is_asked, needed_by, needed_from}
use Rattle.auc_jobs.proofs.preparing.needed.Given as goal

abbrev pub invariant-loop-sub : goal.invariant-loop-sub
invariant-loop-sub g l = l.needed ++ needed_from (is_asked l.jobs) l.tops (limits_of l.journal) l.sub (drop l.sub l.openings) ≡ needed_by l.jobs l.tops l.openings (limits_of l.journal)
