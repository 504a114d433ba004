use Rattle.std.proofs.Common.{◌∙◌, false, List, ℕ, Err, OnOk, IfErr, sym, subst, refl}
use Rattle.auc_block.specs.Turns.{Says}
use Rattle.auc_reading.specs.declared.refusal.ScriptWhy.TheVariants as why
use Rattle.auc_refusal.specs.Causes.{trouble_refusal}
use Rattle.auc_refusal.specs.Told.{IsSaidUpTo}
use Rattle.auc_run.specs.InnerService.{turned_by}
use Rattle.auc_refusal.specs.Replies.{refusal_reply}
use Rattle.auc_run.proofs.ServiceEnds.{answered, ended, long_answer, long_rest, nothing_served, serves_block, troubled, turned_heard, turned_taken}
use Rattle.auc_run.proofs.blocks.serve_next.Goals as goal

pub serve_block-requires-clause-serving : goal.serve_block-requires-clause-serving
serve_block-requires-clause-serving g c κs within =
    let rows = c.args.input.now.subs in
    let header = c.args.input.now.script in
    let waiting = c.args.ear.now.waiting.items in
    let split = c.each_block_is_split_off.ensures in
    let stand = c.earlier_blocks_stand.ensures in
    let old = g.W.Wire.turns c.args.wire.now in
    let mid = g.W.Wire.turns c.hear_block.new.wire in
    let heard = c.in-Ok-Whole.ensures.heard in
    let next = rw c.in-Ok-Whole.field-0-is at heard.2 in
    let waits = c.hear_block.new.waiting.items in
    (waits, serves_block g.D.Disk.seen g.D.Disk.may_leave g.D.Disk.moment g.D.Disk.left_since rows header waiting heard.0 c.in-Ok-Whole.block waits c.args.stand.number c.args.stand.state c.args.stand.journal old mid split stand c.requires.serving heard.1 next.0)

pub returns-in-Ok-Whole-clause-turned : goal.returns-in-Ok-Whole-clause-turned
returns-in-Ok-Whole-clause-turned g c =
    let rows = c.args.input.now.subs in
    let header = c.args.input.now.script in
    let waiting = c.args.ear.now.waiting.items in
    let split = c.each_block_is_split_off.ensures in
    let stand = c.earlier_blocks_stand.ensures in
    let old = g.W.Wire.turns c.args.wire.now in
    let mid = g.W.Wire.turns c.hear_block.new.wire in
    let heard = c.in-Ok-Whole.ensures.heard in
    let next = rw c.in-Ok-Whole.field-0-is at heard.2 in
    let waits = c.hear_block.new.waiting.items in
    let new = g.W.Wire.turns c.serve_block.new.wire in
    let result = c.serve_block.result in
    turned_heard g.D.Disk.seen g.D.Disk.may_leave g.D.Disk.moment g.D.Disk.left_since rows header waiting heard.0 waits c.args.stand.number result.stand.number c.args.stand.state result.stand.state c.args.stand.journal result.stand.journal result.result old mid new split stand heard.1
    (turned_taken g.D.Disk.seen g.D.Disk.may_leave g.D.Disk.moment g.D.Disk.left_since rows header heard.0 c.in-Ok-Whole.block waits c.args.stand.number result.stand.number c.args.stand.state result.stand.state c.args.stand.journal result.stand.journal result.result mid new split next.0
    (c.serve_block.ensures.turned waits))

pub returns-in-Ok-TooLong-clause-turned : goal.returns-in-Ok-TooLong-clause-turned
returns-in-Ok-TooLong-clause-turned g c =
    let rows = c.args.input.now.subs in
    let header = c.args.input.now.script in
    let waiting = c.args.ear.now.waiting.items in
    let split = c.each_block_is_split_off.ensures in
    let stand = c.earlier_blocks_stand.ensures in
    let old = g.W.Wire.turns c.args.wire.now in
    let mid = g.W.Wire.turns c.hear_block.new.wire in
    let heard = c.in-Ok-TooLong.ensures.heard in
    let next = rw c.in-Ok-TooLong.field-0-is at heard.2 in
    let waits = c.hear_block.new.waiting.items in
    let block = next.0 in
    let new = g.W.Wire.turns c.reply_refusal-result.new.wire in
    let is = c.args.stand in
    rw (c.turned.ensures.answer, c.turned.ensures.stand)
    (turned_heard g.D.Disk.seen g.D.Disk.may_leave g.D.Disk.moment g.D.Disk.left_since rows header waiting heard.0 waits is.number is.number is.state is.state is.journal is.journal _ old mid new split stand heard.1
    (turned_taken g.D.Disk.seen g.D.Disk.may_leave g.D.Disk.moment g.D.Disk.left_since rows header heard.0 block waits is.number is.number is.state is.state is.journal is.journal _ mid new split next.1
    (answered g.D.Disk.seen g.D.Disk.may_leave g.D.Disk.moment g.D.Disk.left_since rows header waits (nothing_served block (refusal_reply 0 why.Limit)) is.number is.state is.journal c.reply_refusal-result.result mid new
    (long_answer rows header block next.2) refl refl c.reply_refusal-result.ensures.said c.reply_refusal-result.ensures.stopped)))

pub returns-in-Ok-Ended-clause-turned : goal.returns-in-Ok-Ended-clause-turned
returns-in-Ok-Ended-clause-turned g c =
    let rows = c.args.input.now.subs in
    let header = c.args.input.now.script in
    let waiting = c.args.ear.now.waiting.items in
    let split = c.each_block_is_split_off.ensures in
    let stand = c.earlier_blocks_stand.ensures in
    let old = g.W.Wire.turns c.args.wire.now in
    let mid = g.W.Wire.turns c.hear_block.new.wire in
    let heard = c.in-Ok-Ended.ensures.heard in
    let next = rw c.in-Ok-Ended.field-0-is at heard.2 in
    let waits = c.hear_block.new.waiting.items in
    let new = g.W.Wire.turns c.reply_to_rest-result.new.wire in
    let is = c.args.stand in
    let whole = c.as_slice.ensures.value ∙ next.2 in
    rw (c.turned-in-Ok-Ended.ensures.answer, c.turned-in-Ok-Ended.ensures.stand)
    (turned_heard g.D.Disk.seen g.D.Disk.may_leave g.D.Disk.moment g.D.Disk.left_since rows header waiting heard.0 waits is.number is.number is.state is.state is.journal is.journal _ old mid new split stand heard.1
    (ended g.D.Disk.seen g.D.Disk.may_leave g.D.Disk.moment g.D.Disk.left_since rows header heard.0 waits is.number is.state is.journal c.reply_to_rest-result.result mid new split next.0
    (rw whole at c.reply_to_rest-result.ensures.said) (rw whole at c.reply_to_rest-result.ensures.stopped)))

pub returns-in-Ok-EndedTooLong-clause-turned : goal.returns-in-Ok-EndedTooLong-clause-turned
returns-in-Ok-EndedTooLong-clause-turned g c =
    let rows = c.args.input.now.subs in
    let header = c.args.input.now.script in
    let waiting = c.args.ear.now.waiting.items in
    let split = c.each_block_is_split_off.ensures in
    let stand = c.earlier_blocks_stand.ensures in
    let old = g.W.Wire.turns c.args.wire.now in
    let mid = g.W.Wire.turns c.hear_block.new.wire in
    let heard = c.in-Ok-EndedTooLong.ensures.heard in
    let next = rw c.in-Ok-EndedTooLong.field-0-is at heard.2 in
    let waits = c.hear_block.new.waiting.items in
    let said = c.reply_refusal-result-in-Ok-EndedTooLong in
    let new = g.W.Wire.turns said.new.wire in
    let is = c.args.stand in
    let rest = sym (long_rest heard.0 next.3) in
    rw (c.turned-in-Ok-EndedTooLong.ensures.answer, c.turned-in-Ok-EndedTooLong.ensures.stand)
    (turned_heard g.D.Disk.seen g.D.Disk.may_leave g.D.Disk.moment g.D.Disk.left_since rows header waiting heard.0 waits is.number is.number is.state is.state is.journal is.journal _ old mid new split stand heard.1
    (ended g.D.Disk.seen g.D.Disk.may_leave g.D.Disk.moment g.D.Disk.left_since rows header heard.0 waits is.number is.state is.journal said.result mid new split next.0
    (subst (λ (t : List ℕ). OnOk said.result (Says mid new t)) rest said.ensures.said) (subst (λ (t : List ℕ). IfErr said.result (IsSaidUpTo t mid new)) rest said.ensures.stopped)))

pub returns-in-Err-clause-turned : goal.returns-in-Err-clause-turned
returns-in-Err-clause-turned g c =
    let rows = c.args.input.now.subs in
    let header = c.args.input.now.script in
    let waiting = c.args.ear.now.waiting.items in
    let split = c.each_block_is_split_off.ensures in
    let stand = c.earlier_blocks_stand.ensures in
    let old = g.W.Wire.turns c.args.wire.now in
    let mid = g.W.Wire.turns c.hear_block.new.wire in
    let heard = c.in-Err.ensures.heard in
    let waits = c.hear_block.new.waiting.items in
    let is = c.args.stand in
    rw (c.turned-in-Err.ensures.answer, c.turned-in-Err.ensures.stand, c.from.ensures)
    (turned_heard g.D.Disk.seen g.D.Disk.may_leave g.D.Disk.moment g.D.Disk.left_since rows header waiting heard.0 waits is.number is.number is.state is.state is.journal is.journal (turned_by (Err (trouble_refusal c.in-Err.trouble)) false) old mid mid split stand heard.1
    (troubled g.D.Disk.seen g.D.Disk.may_leave g.D.Disk.moment g.D.Disk.left_since rows header heard.0 waits is.number is.state is.journal c.in-Err.trouble mid split (g.W.Wire.faults c.args.wire.now) (g.W.Wire.faults c.hear_block.new.wire) heard.2.0 heard.2.2))
