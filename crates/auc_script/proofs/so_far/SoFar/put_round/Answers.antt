use Rattle.std.proofs.Common.{◌≡◌, ◌∙◌, ◌||◌, arith, false, is_some, refl, sym, true}
use Rattle.std.specs.Prelude.{not}
use Rattle.auc_text.specs.Text.{words_of}
use Rattle.auc_script.specs.InnerSoFar.{scenario}
use Rattle.auc_script.specs.Scenario.{is_block, is_header}
use Rattle.auc_reading.specs.declared.refusal.ScriptWhy.TheVariants.{NotInBlock, OutOfOrder}
use Rattle.auc_reading.proofs.Facts.{must_fail, must_hold}
use Rattle.auc_script.proofs.SoFarLemmas.{first_of, kept_round, round_becomes, second_of}
use Rattle.auc_script.proofs.so_far.SoFar.put_round.Goals as goal
use Rattle.auc_script.proofs.so_far.SoFar.put_round.Goals.{then-not-is_block, else-not-is_block}

pub returns-clause-kept : goal.returns-clause-kept
returns-clause-kept c = rw c.new.ensures (kept_round c.args.subs.now c.args.self.now c.end_round.new.self c.requires (omega arith) c.in_ok-end_round.ensures.between)

pub returns-clause-becomes : goal.returns-clause-becomes
returns-clause-becomes c =
    let may : is_header c.args.self.now.form ≡ false = rw c.is_header.ensures at (must_fail c.is_header.result OutOfOrder c.in_ok-require.field-0 c.in_ok-require.ensures) in
    let held = must_hold c.if-not-is_block.require NotInBlock c.in_ok-require-2.field-0 c.in_ok-require-2.ensures in
    let only : (not (is_block c.args.self.now.form) || not (is_some c.args.self.now.round)) ≡ true = elim c.if-not-is_block.branch [
      | then-not-is_block w ↦ first_of (not (is_block c.args.self.now.form)) (not (is_some c.args.self.now.round)) (rw c.is_block.ensures at (sym w.require-is ∙ held))
      | else-not-is_block w ↦ second_of (not (is_block c.args.self.now.form)) (not (is_some c.args.self.now.round)) (rw (w.is_none.ensures, ← w.require-is, held) refl)
    ] in
    rw (c.new.ensures, c.end_round.ensures.same, c.in_ok-end_round.ensures.between.header) (round_becomes (scenario c.args.subs.now c.args.self.now) (words_of c.args.fields.now) c.end_round.new.self.ended c.in_ok-no_field.field-0 c.args.self.now.rounds may (cc c.in_ok-no_field.ensures) c.requires.rounds c.if-self-ge-MAX_ROUNDS.false only c.in_ok-end_round.ensures.between.ended)
