use Rattle.std.proofs.Common.{arith, ◌-◌, ◌∙◌, refl, Some}
use Rattle.std.specs.Option.{option_copied}
use Rattle.auc_script.specs.Scenario.{after_line}
use Rattle.auc_script.specs.InnerSoFar.{scenario}
use Rattle.auc_script.proofs.ReadingLemmas.{after_front, keeps, lines_left, next_left, next_steps, nothing_read, reads_whole, refused_by, refuses, so_far_more}
use Rattle.auc_script.proofs.script.put_lines.Goals as goal

pub loop-rest-init : goal.loop-rest-init
loop-rest-init c = record {
  read = nothing_read (scenario c.args.subs.now c.args.so_far.now) c.args.bytes.now;
  kept = c.requires.kept;
  block = λ is. (refl, is);
  room = omega arith;
}

pub put-requires : goal.put-requires
put-requires c = c.loop-rest.invariant.kept

pub loop-rest-preserved : goal.loop-rest-preserved
loop-rest-preserved c = record {
  read = so_far_more (scenario c.args.subs.now c.args.so_far.now) c.args.bytes.now (Some c.in-Some.text.now) c.next_line.result.0.now (option_copied c.next_line.result.1) c.loop-rest.number (scenario c.loop-rest.subs c.loop-rest.so_far) (scenario c.put.new.subs c.put.new.self) (rw c.in-Some.is at c.loop-rest.invariant.read) (next_left c.in-Some.text.now c.next_line.result.0.now c.next_line.result.1 c.next_line.ensures.line) c.in-Ok.ensures.becomes;
  kept = c.in-Ok.ensures.kept;
  block = λ is.
      let before = c.loop-rest.invariant.block is in
      (c.put.ensures.block before.1 ∙ before.0, c.put.ensures.same ∙ before.1);
  room = let before = rw c.in-Some.is at c.loop-rest.invariant.room in omega (arith, before, next_steps c.in-Some.text.now c.next_line.result.1 c.next_line.ensures.shorter);
}

pub returns-in-Err-clause-refused : goal.returns-in-Err-clause-refused
returns-in-Err-clause-refused c line why same =
    let by = refused_by c.in-Err.refusal (after_line (scenario c.loop-rest.subs c.loop-rest.so_far) c.next_line.result.0.now) (scenario c.put.new.subs c.put.new.self) c.loop-rest.number line why c.in-Err.ensures.becomes (cc (c.at.ensures, same)) in
    rw by.1 (refuses (scenario c.args.subs.now c.args.so_far.now) c.args.bytes.now (Some c.in-Some.text.now) c.next_line.result.0.now (lines_left (option_copied c.next_line.result.1)) c.loop-rest.number (scenario c.loop-rest.subs c.loop-rest.so_far) why (rw c.in-Some.is at c.loop-rest.invariant.read) (next_left c.in-Some.text.now c.next_line.result.0.now c.next_line.result.1 c.next_line.ensures.line) by.0)

pub returns-in-Err-clause-kept : goal.returns-in-Err-clause-kept
returns-in-Err-clause-kept c =
    rw (c.at.ensures, c.in-Err.ensures.rows) (keeps (scenario c.args.subs.now c.args.so_far.now) c.args.bytes.now c.loop-rest.number c.in-Err.refusal c.loop-rest.subs (after_front (scenario c.args.subs.now c.args.so_far.now) c.args.bytes.now (option_copied c.loop-rest.rest) c.loop-rest.number (scenario c.loop-rest.subs c.loop-rest.so_far) c.loop-rest.invariant.read))

pub returns-clause-read : goal.returns-clause-read
returns-clause-read c =
    reads_whole (scenario c.args.subs.now c.args.so_far.now) c.args.bytes.now c.loop-rest.number (scenario c.loop-rest.subs c.loop-rest.so_far) (rw c.in_default.is at c.loop-rest.invariant.read)

pub returns-clause-within : goal.returns-clause-within
returns-clause-within c = c.loop-rest.invariant.kept

pub returns-clause-front : goal.returns-clause-front
returns-clause-front c =
    (c.loop-rest.number - 1, after_front (scenario c.args.subs.now c.args.so_far.now) c.args.bytes.now (option_copied c.loop-rest.rest) c.loop-rest.number (scenario c.loop-rest.subs c.loop-rest.so_far) c.loop-rest.invariant.read)

pub returns-clause-block : goal.returns-clause-block
returns-clause-block c = λ is. (c.loop-rest.invariant.block is).0

pub returns-in-Err-clause-block : goal.returns-in-Err-clause-block
returns-in-Err-clause-block c = λ is.
    let before = c.loop-rest.invariant.block is in
    c.put.ensures.block before.1 ∙ before.0
