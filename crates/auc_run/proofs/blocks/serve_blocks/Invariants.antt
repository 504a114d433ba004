use Rattle.std.proofs.Common.{◌≡◌, ◌≤◌, ◌+◌, [], length}
use Rattle.auc_run.specs.InnerService.{GoesOnServing}
use Rattle.auc_run.proofs.blocks.serve_blocks.Given as goal

abbrev pub invariant-loop : goal.invariant-loop
invariant-loop g l = record {
  number : l.stand.number ≤ l.initial.stand.number + l.counter;
  text : l.stand.text ≡ [];
  input : l.input ≡ l.initial.input;
  room : length l.ear.room.items ≡ length l.initial.ear.room.items;
  goes : GoesOnServing g.D.Disk.seen g.D.Disk.may_leave g.D.Disk.moment g.D.Disk.left_since l.initial.input.subs l.initial.input.script [] l.initial.ear.waiting.items l.ear.waiting.items l.initial.stand.number l.stand.number
      l.initial.stand.state l.stand.state l.initial.stand.journal l.stand.journal l.counter (g.W.Wire.turns l.initial.wire) (g.W.Wire.turns l.wire);
  quiet : g.W.Wire.faults l.wire ≡ g.W.Wire.faults l.initial.wire;
  quiet_store : g.D.Disk.faults l.stand.journal.disk ≡ g.D.Disk.faults l.initial.stand.journal.disk;
}
