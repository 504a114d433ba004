use Rattle.std.proofs.Common.{◌≡◌, ◌∙◌, sym, true}
use Rattle.std.specs.Prelude.{not}
use Rattle.auc_script.specs.Scenario.{is_block, may_stand_in_block}
use Rattle.auc_reading.specs.declared.refusal.ScriptWhy.TheVariants.{NotInBlock}
use Rattle.auc_reading.proofs.Facts.{must_hold}
use Rattle.auc_script.proofs.SoFarLemmas.{first_of, has_asked, may_stand, second_of}
use Rattle.auc_script.proofs.line_order.asked_with.Goals as goal
use Rattle.auc_script.proofs.line_order.asked_with.Goals.{then-not-is_block, else-not-is_block}

pub returns : goal.returns
returns c =
    let held = must_hold c.if-not-is_block.require NotInBlock c.in_ok-require.field-0 c.in_ok-require.ensures in
    let may : may_stand c.args.form c.args.line.now ≡ true = elim c.if-not-is_block.branch [
      | then-not-is_block w ↦ first_of (not (is_block c.args.form)) (may_stand_in_block c.args.line.now) (rw c.is_block.ensures at (sym w.require-is ∙ held))
      | else-not-is_block w ↦ second_of (not (is_block c.args.form)) (may_stand_in_block c.args.line.now) (rw w.may_stand_in_block.ensures at (sym w.require-is ∙ held))
    ] in
    rw c.count.ensures (has_asked c.args.sessions.now c.args.asked c.args.round.now c.args.line.now c.args.form c.in_ok-order.ensures (cc (c.is_busy.ensures, c.if-is_busy.false)) (cc (c.has_room.ensures, c.if-not-has_room.false)) (cc (c.has_fit_texts.ensures, c.if-not-has_fit_texts.false)) (rw c.count.ensures at c.if-sum-gt-MAX_VECTORS.false) may)
