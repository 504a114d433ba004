use Rattle.std.proofs.Common.{◌∙◌, [], arith, refl}
use Rattle.auc_refusal.specs.Refusal.{status_of}
use Rattle.auc_refusal.specs.declared.status.Status.TheVariants as status
use Rattle.auc_run.proofs.FaultLemmas.{done_on_disk, done_on_wire, late_on_disk, late_on_wire, so_on_disk, so_on_wire}
use Rattle.auc_run.proofs.ServiceEnds.{ends_late, ends_more, goes_more, goes_same, serves_any, turned_goes, turned_refused, turned_stops}
use Rattle.auc_run.proofs.blocks.serve_blocks.Goals as goal

pub loop-init : goal.loop-init
loop-init g c = record {
  number = omega arith;
  text = c.requires.text;
  input = refl;
  room = refl;
  goes = goes_same g.D.Disk.seen g.D.Disk.may_leave g.D.Disk.moment g.D.Disk.left_since c.args.input.now.subs c.args.input.now.script c.args.ear.now.waiting.items c.args.stand.number c.args.stand.state c.args.stand.journal (g.W.Wire.turns c.args.wire.now);
  quiet = refl;
  quiet_store = refl;
}

pub serve_next-next-requires-clause-within : goal.serve_next-next-requires-clause-within
serve_next-next-requires-clause-within g c κs within = rw c.loop.invariant.input c.requires.within

pub serve_next-next-requires-clause-number : goal.serve_next-next-requires-clause-number
serve_next-next-requires-clause-number g c κs within = let before = c.loop.invariant.number in let first = c.requires.number in omega (arith, before, first)

pub serve_next-next-requires-clause-text : goal.serve_next-next-requires-clause-text
serve_next-next-requires-clause-text g c κs within = c.loop.invariant.text

pub serve_next-next-requires-clause-room : goal.serve_next-next-requires-clause-room
serve_next-next-requires-clause-room g c κs within = let same = c.loop.invariant.room in let some = c.requires.room in omega (arith, same, some)

pub serve_next-next-requires-clause-serving : goal.serve_next-next-requires-clause-serving
serve_next-next-requires-clause-serving g c κs within =
    rw c.loop.invariant.input
    (serves_any g.D.Disk.seen g.D.Disk.may_leave g.D.Disk.moment g.D.Disk.left_since c.args.input.now.subs c.args.input.now.script c.args.ear.now.waiting.items c.loop.ear.waiting.items c.args.stand.number c.loop.stand.number c.args.stand.state c.loop.stand.state
    c.args.stand.journal c.loop.stand.journal c.loop.counter (g.W.Wire.turns c.args.wire.now) (g.W.Wire.turns c.loop.wire) c.requires.serving c.loop.invariant.goes)

pub loop-preserved : goal.loop-preserved
loop-preserved g c =
    let before = c.loop.invariant in
    let number = c.serve_next-next.ensures.number in
    let turned = rw before.input at c.serve_next-next.ensures.turned in
    let old = g.W.Wire.turns c.args.wire.now in
    let now = g.W.Wire.turns c.loop.wire in
    let new = g.W.Wire.turns c.serve_next-next.new.wire in
    record {
      number = omega (arith, before.number, number);
      text = c.serve_next-next.ensures.text (rw c.in-Ok-true.is refl);
      input = c.serve_next-next.ensures.input ∙ before.input;
      room = c.serve_next-next.ensures.room ∙ before.room;
      goes = goes_more g.D.Disk.seen g.D.Disk.may_leave g.D.Disk.moment g.D.Disk.left_since c.args.input.now.subs c.args.input.now.script c.args.ear.now.waiting.items c.loop.ear.waiting.items c.serve_next-next.new.ear.waiting.items
          c.args.stand.number c.loop.stand.number c.serve_next-next.result.stand.number c.args.stand.state c.loop.stand.state c.serve_next-next.result.stand.state
          c.args.stand.journal c.loop.stand.journal c.serve_next-next.result.stand.journal c.loop.counter old now new before.goes
          (turned_goes g.D.Disk.seen g.D.Disk.may_leave g.D.Disk.moment g.D.Disk.left_since c.args.input.now.subs c.args.input.now.script [] c.loop.ear.waiting.items c.serve_next-next.new.ear.waiting.items c.loop.stand.number c.serve_next-next.result.stand.number c.loop.stand.state c.serve_next-next.result.stand.state
          c.loop.stand.journal c.serve_next-next.result.stand.journal c.serve_next-next.result.result now new (cc (c.in-Ok-true.is, c.in-Ok-true.field-0-test)) turned);
      quiet = c.serve_next-next.ensures.wire.same (rw c.in-Ok-true.is tt) ∙ before.quiet;
      quiet_store = c.serve_next-next.ensures.store.same (rw c.in-Ok-true.is tt) ∙ before.quiet_store;
    }

pub returns-in-Ok-false-clause-ends : goal.returns-in-Ok-false-clause-ends
returns-in-Ok-false-clause-ends g c =
    let before = c.loop.invariant in
    let turned = rw before.input at c.serve_next-next.ensures.turned in
    let old = g.W.Wire.turns c.args.wire.now in
    let now = g.W.Wire.turns c.loop.wire in
    let new = g.W.Wire.turns c.serve_next-next.new.wire in
    rw c.into_disk.ensures
    (ends_more g.D.Disk.seen g.D.Disk.may_leave g.D.Disk.moment g.D.Disk.left_since c.args.input.now.subs c.args.input.now.script c.args.ear.now.waiting.items c.loop.ear.waiting.items c.args.stand.number c.loop.stand.number c.args.stand.state c.loop.stand.state
    c.args.stand.journal c.loop.stand.journal status.Done c.serve_next-next.result.stand.journal.disk c.loop.counter old now new before.goes
    (turned_stops g.D.Disk.seen g.D.Disk.may_leave g.D.Disk.moment g.D.Disk.left_since c.args.input.now.subs c.args.input.now.script [] c.loop.ear.waiting.items c.serve_next-next.new.ear.waiting.items c.loop.stand.number c.serve_next-next.result.stand.number c.loop.stand.state c.serve_next-next.result.stand.state
    c.loop.stand.journal c.serve_next-next.result.stand.journal c.serve_next-next.result.result now new (cc (c.in-Ok-false.is, c.in-Ok-false.field-0-test)) turned))

pub returns-in-Ok-false-clause-wire : goal.returns-in-Ok-false-clause-wire
returns-in-Ok-false-clause-wire g c = done_on_wire _ tt _ _ refl (c.serve_next-next.ensures.wire.same (rw c.in-Ok-false.is tt) ∙ c.loop.invariant.quiet)

pub returns-in-Ok-false-clause-store : goal.returns-in-Ok-false-clause-store
returns-in-Ok-false-clause-store g c =
    rw c.into_disk.ensures (done_on_disk _ tt _ _ refl (c.serve_next-next.ensures.store.same (rw c.in-Ok-false.is tt) ∙ c.loop.invariant.quiet_store))

pub returns-in-Err-clause-ends : goal.returns-in-Err-clause-ends
returns-in-Err-clause-ends g c =
    let before = c.loop.invariant in
    let turned = rw before.input at c.serve_next-next.ensures.turned in
    let old = g.W.Wire.turns c.args.wire.now in
    let now = g.W.Wire.turns c.loop.wire in
    let new = g.W.Wire.turns c.serve_next-next.new.wire in
    rw c.into_disk-in-Err.ensures
    (ends_more g.D.Disk.seen g.D.Disk.may_leave g.D.Disk.moment g.D.Disk.left_since c.args.input.now.subs c.args.input.now.script c.args.ear.now.waiting.items c.loop.ear.waiting.items c.args.stand.number c.loop.stand.number c.args.stand.state c.loop.stand.state
    c.args.stand.journal c.loop.stand.journal (status_of c.in-Err.refusal) c.serve_next-next.result.stand.journal.disk c.loop.counter old now new before.goes
    (turned_refused g.D.Disk.seen g.D.Disk.may_leave g.D.Disk.moment g.D.Disk.left_since c.args.input.now.subs c.args.input.now.script [] c.loop.ear.waiting.items c.serve_next-next.new.ear.waiting.items c.loop.stand.number c.serve_next-next.result.stand.number c.loop.stand.state c.serve_next-next.result.stand.state
    c.loop.stand.journal c.serve_next-next.result.stand.journal c.serve_next-next.result.result c.in-Err.refusal now new (cc c.in-Err.is) turned))

pub returns-in-Err-clause-wire : goal.returns-in-Err-clause-wire
returns-in-Err-clause-wire g c = so_on_wire c.serve_next-next.result.result _ c.in-Err.refusal _ _ _ (cc c.in-Err.is) refl c.loop.invariant.quiet c.serve_next-next.ensures.wire

pub returns-in-Err-clause-store : goal.returns-in-Err-clause-store
returns-in-Err-clause-store g c =
    rw c.into_disk-in-Err.ensures (so_on_disk c.serve_next-next.result.result _ c.in-Err.refusal _ _ _ (cc c.in-Err.is) refl c.loop.invariant.quiet_store c.serve_next-next.ensures.store)

pub returns-clause-ends : goal.returns-clause-ends
returns-clause-ends g c =
    let over = c.loop-test.false in
    rw c.into_disk-2.ensures
    (ends_late g.D.Disk.seen g.D.Disk.may_leave g.D.Disk.moment g.D.Disk.left_since c.args.input.now.subs c.args.input.now.script c.args.ear.now.waiting.items c.loop.ear.waiting.items c.args.stand.number c.loop.stand.number c.args.stand.state c.loop.stand.state
    c.args.stand.journal c.loop.stand.journal c.loop.counter (g.W.Wire.turns c.args.wire.now) (g.W.Wire.turns c.loop.wire) (omega (arith, over)) c.loop.invariant.goes)

pub returns-clause-wire : goal.returns-clause-wire
returns-clause-wire g c = late_on_wire _ _ _ refl c.loop.invariant.quiet

pub returns-clause-store : goal.returns-clause-store
returns-clause-store g c = rw c.into_disk-2.ensures (late_on_disk _ _ _ refl c.loop.invariant.quiet_store)
