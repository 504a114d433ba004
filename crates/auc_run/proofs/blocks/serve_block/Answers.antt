use Rattle.std.proofs.Common.{◌≡◌, ◌∷◌, [], ◌∙◌, Ok, Err, None, refl}
use Rattle.auc_script.specs.declared.refusal.ScriptRefusal.TheVariants as wrong
use Rattle.auc_refusal.specs.Replies.{end_line, refusal_reply}
use Rattle.auc_run.specs.Service.{asked_of}
use Rattle.auc_run.proofs.ServiceEnds.{answered, asked_short, empty_answer, ends_memory, nothing_served, own_covers, refused_answer}
use Rattle.auc_run.proofs.blocks.serve_block.Goals as goal

pub returns-in-Ok-None-clause-turned : goal.returns-in-Ok-None-clause-turned
returns-in-Ok-None-clause-turned g c = λ waiting.
    let rows = c.args.input.now.subs in
    let header = c.args.input.now.script in
    let asked : asked_of rows c.args.block ≡ Ok None = asked_short rows c.args.block c.requires.short ∙ (rw (c.as_slice.ensures, c.in-Ok-None.field-0-is) at c.in-Ok-None.ensures.read) in
    rw (c.turned.ensures.answer, c.turned.ensures.stand)
    (answered g.D.Disk.seen g.D.Disk.may_leave g.D.Disk.moment g.D.Disk.left_since rows header waiting (nothing_served c.args.block end_line) c.args.stand.number c.args.stand.state c.args.stand.journal c.say_end-result.result
    (g.W.Wire.turns c.args.wire.now) (g.W.Wire.turns c.say_end-result.new.wire) (empty_answer rows header c.args.block asked) refl refl c.say_end-result.ensures.said c.say_end-result.ensures.stopped)

pub returns-in-Err-Line-clause-turned : goal.returns-in-Err-Line-clause-turned
returns-in-Err-Line-clause-turned g c = λ waiting.
    let rows = c.args.input.now.subs in
    let header = c.args.input.now.script in
    let line = c.in-Err-Line.line in
    let fault = c.in-Err-Line.why in
    let asked : asked_of rows c.args.block ≡ Err (wrong.Line line fault) = asked_short rows c.args.block c.requires.short ∙ (rw c.as_slice.ensures at (c.in-Err-Line.ensures.refused line fault (cc c.in-Err-Line.field-0-is))) in
    rw (c.turned-in-Err-Line.ensures.answer, c.turned-in-Err-Line.ensures.stand)
    (answered g.D.Disk.seen g.D.Disk.may_leave g.D.Disk.moment g.D.Disk.left_since rows header waiting (nothing_served c.args.block (refusal_reply line fault)) c.args.stand.number c.args.stand.state c.args.stand.journal c.reply_refusal-result.result
    (g.W.Wire.turns c.args.wire.now) (g.W.Wire.turns c.reply_refusal-result.new.wire) (refused_answer rows header c.args.block line fault asked) refl refl c.reply_refusal-result.ensures.said c.reply_refusal-result.ensures.stopped)

pub returns-clause-turned : goal.returns-clause-turned
returns-clause-turned g c = λ waiting.
    rw (c.turned-in-Err-NoMemory.ensures.answer, c.turned-in-Err-NoMemory.ensures.stand)
    (ends_memory g.D.Disk.seen g.D.Disk.may_leave g.D.Disk.moment g.D.Disk.left_since c.args.input.now.subs c.args.input.now.script (c.args.block ∷ []) waiting c.args.stand.number c.args.stand.state c.args.stand.journal c.args.stand.journal
    (g.W.Wire.turns c.args.wire.now) (g.W.Wire.turns c.args.wire.now) refl (own_covers g.D.Disk.seen g.D.Disk.may_leave g.D.Disk.moment g.D.Disk.left_since c.args.input.now.subs c.args.input.now.script c.args.stand.number c.args.stand.state c.args.stand.journal))
