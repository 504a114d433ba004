use Rattle.std.proofs.Common.{◌≡◌, ℕ, List, Ok, Err, sym, ◌∙◌, ap, subst}
use Rattle.std.proofs.lemmas.Result.{err_from_is_err_and}
use Rattle.auc_script.specs.Reading.{header_of}
use Rattle.auc_script.specs.declared.refusal.ScriptRefusal.TheVariants as wrong
use Rattle.auc_reading.specs.declared.refusal.ScriptWhy.TheVariants as why
use Rattle.auc_input.specs.Header.{IsHeaderStop}
use Rattle.auc_refusal.specs.Replies.{last_line}
use Rattle.auc_refusal.specs.declared.refusal.Refusal.TheVariants as refused
use Rattle.auc_input.proofs.HeaderLemmas.{next_long, next_long_rest, next_rest, next_took, next_trouble, next_wrong}
use Rattle.auc_input.proofs.header.hear_header.Goals as goal

pub returns-in_err-block-clause-refused : goal.returns-in_err-block-clause-refused
returns-in_err-block-clause-refused g c =
    let p = err_from_is_err_and c.from_residual.result c.from_residual.ensures.1 in
    rw (p.1, p.2) (next_trouble c.args.subs.now (g.W.Wire.turns c.args.wire.now) (g.W.Wire.turns c.hear_block.new.wire) c.args.ear.now.waiting.items c.hear_block.new.waiting.items
    (g.W.Wire.faults c.args.wire.now) (g.W.Wire.faults c.hear_block.new.wire) c.in_err-block.field-0.0 c.requires.nothing c.in_err-block.ensures.heard)

pub returns-in-TooLong-clause-refused : goal.returns-in-TooLong-clause-refused
returns-in-TooLong-clause-refused g c =
    next_long c.args.subs.now (g.W.Wire.turns c.args.wire.now) (g.W.Wire.turns c.hear_block.new.wire) c.args.ear.now.waiting.items c.hear_block.new.waiting.items c.in_ok-block.field-0
    (g.W.Wire.ended c.hear_block.new.wire) c.requires.nothing c.in-TooLong.is c.in_ok-block.ensures.heard

pub returns-in-EndedTooLong-clause-refused : goal.returns-in-EndedTooLong-clause-refused
returns-in-EndedTooLong-clause-refused g c =
    next_long_rest c.args.subs.now (g.W.Wire.turns c.args.wire.now) (g.W.Wire.turns c.hear_block.new.wire) c.args.ear.now.waiting.items c.hear_block.new.waiting.items c.in_ok-block.field-0
    (g.W.Wire.ended c.hear_block.new.wire) c.requires.nothing c.in-EndedTooLong.is c.in_ok-block.ensures.heard

pub returns-in-Whole-clause-refused : goal.returns-in-Whole-clause-refused
returns-in-Whole-clause-refused g c =
    let rows = c.args.subs.now in
    rw c.script_refusal.ensures (next_wrong rows (g.W.Wire.turns c.args.wire.now) (g.W.Wire.turns c.hear_block.new.wire) c.args.ear.now.waiting.items c.hear_block.new.waiting.items c.in-Whole.block c.in_ok-block.field-0
    (g.W.Wire.ended c.hear_block.new.wire) c.in-Err.refusal c.requires.nothing c.in-Whole.is c.in_ok-block.ensures.heard
    (λ line fault is. subst (λ (b : List ℕ). header_of rows b ≡ Err (wrong.Line line fault)) c.as_slice.ensures (c.in-Err.ensures.refused line fault (cc is))))

pub returns-in-Ok-clause-read : goal.returns-in-Ok-clause-read
returns-in-Ok-clause-read g c =
    let took = next_took (g.W.Wire.turns c.args.wire.now) (g.W.Wire.turns c.hear_block.new.wire) c.args.ear.now.waiting.items c.hear_block.new.waiting.items c.in-Whole.block c.in_ok-block.field-0
    (g.W.Wire.ended c.hear_block.new.wire) c.each_block_is_split_off.ensures c.requires.nothing c.in-Whole.is c.in_ok-block.ensures.heard in
    record {
      first = c.in-Whole.block;
      took = took.0;
      short = took.1;
      is_header = subst (λ (b : List ℕ). header_of c.args.subs.now b ≡ Ok (c.in-Ok.script, c.read_header.new.subs)) c.as_slice.ensures c.in-Ok.ensures.read;
    }

pub returns-clause-refused : goal.returns-clause-refused
returns-clause-refused g c =
    let old = g.W.Wire.turns c.args.wire.now in
    let new = g.W.Wire.turns c.hear_block.new.wire in
    let rows = c.args.subs.now in
    subst (λ (n : ℕ). IsHeaderStop rows old new (refused.Scenario n why.Unfinished)) (sym (c.last_line.ensures ∙ ap last_line c.as_slice-in-Ended.ensures.value))
    (next_rest rows old new c.args.ear.now.waiting.items c.hear_block.new.waiting.items c.in_ok-block.field-0 (g.W.Wire.ended c.hear_block.new.wire) c.requires.nothing c.in-Ended.is c.in_ok-block.ensures.heard)
