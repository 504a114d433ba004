use Rattle.std.proofs.Common.{◌≡◌, false}
use Rattle.auc_text.specs.Text.{words_of}
use Rattle.auc_script.specs.InnerSoFar.{scenario}
use Rattle.auc_script.specs.Scenario.{is_block}
use Rattle.auc_reading.specs.declared.refusal.ScriptWhy.TheVariants.{NotInBlock}
use Rattle.auc_reading.proofs.Facts.{must_fail}
use Rattle.auc_script.proofs.SoFarLemmas.{kept_restart, restart_becomes}
use Rattle.auc_script.proofs.so_far.SoFar.put_restart.Goals as goal

pub returns-clause-kept : goal.returns-clause-kept
returns-clause-kept c =
    kept_restart c.args.subs.now c.args.self.now c.end_round.new.self c.push.new.self c.in-Some.field-0 c.requires (cc c.in-Some.is) c.in_ok-end_round.ensures.between c.in_ok-push.ensures.pushed

pub returns-clause-becomes : goal.returns-clause-becomes
returns-clause-becomes c =
    let whole : is_block c.args.self.now.form ≡ false = rw c.is_block.ensures at (must_fail c.is_block.result NotInBlock c.in_ok-require.field-0 c.in_ok-require.ensures) in
    rw (c.end_round.ensures.same, c.in_ok-end_round.ensures.between.header, c.in_ok-end_round.ensures.between.round) (restart_becomes (scenario c.args.subs.now c.args.self.now) (words_of c.args.fields.now) c.in-Some.field-0 c.push.new.self c.in_ok-no_field.field-0 (cc c.in-Some.is) (cc c.in_ok-no_field.ensures) whole (cc (c.in_ok-push.ensures.pushed, c.in_ok-end_round.ensures.between.ended)))
