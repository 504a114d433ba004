use Rattle.std.proofs.Common.{Ok, Err}
use Rattle.auc_text.specs.Text.{words_of}
use Rattle.auc_script.specs.InnerSoFar.{scenario}
use Rattle.auc_script.specs.Scenario.{is_block}
use Rattle.auc_reading.specs.declared.refusal.ScriptWhy.TheVariants.{OutOfOrder}
use Rattle.auc_reading.proofs.Facts.{must_hold}
use Rattle.auc_script.proofs.SoFarLemmas.{kept_rows, not_begun, not_both, subscriber_is}
use Rattle.auc_script.proofs.so_far.SoFar.put_subscriber.Goals as goal

pub returns-in-Ok-clause-becomes : goal.returns-in-Ok-clause-becomes
returns-in-Ok-clause-becomes c =
    let place = rw c.is_before_rounds.ensures at (must_hold c.is_before_rounds.result OutOfOrder c.in_ok-require.field-0 c.in_ok-require.ensures) in
    subscriber_is (scenario c.args.subs.now c.args.self.now) (words_of c.args.fields.now) (Ok c.add_words.new.self) place c.in-Ok.ensures.added

pub returns-in-Ok-clause-kept : goal.returns-in-Ok-clause-kept
returns-in-Ok-clause-kept c =
    let begun = not_begun (is_block c.args.self.now.form) c.args.self.now.round c.args.self.now.ended (rw c.is_before_rounds.ensures at (must_hold c.is_before_rounds.result OutOfOrder c.in_ok-require.field-0 c.in_ok-require.ensures)) in
    kept_rows c.args.subs.now c.add_words.new.self c.args.self.now c.requires begun.1 begun.2

pub returns-in-Err-Why-clause-becomes : goal.returns-in-Err-Why-clause-becomes
returns-in-Err-Why-clause-becomes c =
    let place = rw c.is_before_rounds.ensures at (must_hold c.is_before_rounds.result OutOfOrder c.in_ok-require.field-0 c.in_ok-require.ensures) in
    rw c.cause_of.ensures
    (subscriber_is (scenario c.args.subs.now c.args.self.now) (words_of c.args.fields.now) (Err c.in-Err-Why.fault) place (c.in-Err-Why.ensures.refused c.in-Err-Why.fault (cc c.in-Err-Why.field-0-is)))

pub returns-in-Ok-clause-block : goal.returns-in-Ok-clause-block
returns-in-Ok-clause-block c = λ is.
    let begun = not_begun (is_block c.args.self.now.form) c.args.self.now.round c.args.self.now.ended (rw c.is_before_rounds.ensures at (must_hold c.is_before_rounds.result OutOfOrder c.in_ok-require.field-0 c.in_ok-require.ensures)) in
    absurd (not_both c.args.self.now.form begun.0 is)
