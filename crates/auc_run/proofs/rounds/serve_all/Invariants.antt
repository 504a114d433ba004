use Rattle.std.proofs.Common.{◌≡◌, ◌≤◌, ◌+◌, ℕ, List, drop}
use Rattle.auc_world.specs.Transcript.{Course}
use Rattle.auc_run.specs.Inner.{StandsOn}
use Rattle.auc_run.proofs.OutputLemmas.{Serving}
use Rattle.auc_run.proofs.rounds.serve_all.Given as goal

abbrev pub invariant-loop-part : goal.invariant-loop-part
invariant-loop-part g l = record {
  number : l.stand.number ≤ l.initial.stand.number + l.part-index;
  quiet : g.K.Sink.faults l.out ≡ g.K.Sink.faults l.initial.out;
  quiet_store : g.D.Disk.faults l.stand.journal.disk ≡ g.D.Disk.faults l.initial.stand.journal.disk;
  serving : (from : g.row.D.Denot) (reserved : List ℕ) (at : Course)
      → StandsOn g.D.Disk.seen g.D.Disk.may_leave g.D.Disk.moment g.D.Disk.left_since l.options.set from reserved at l.initial.stand.number l.initial.stand.state l.initial.stand.journal
      → Serving g.D.Disk.seen g.D.Disk.may_leave g.D.Disk.moment g.D.Disk.left_since l.options.set l.options.full from reserved at l.stand.number l.stand.state l.stand.journal l.stand.text
      (drop l.part-index l.parts) l.parts (g.K.Sink.written l.initial.out) (g.K.Sink.written l.out);
}
