use Rattle.std.proofs.Common.{arith, ◌-◌, take, drop, length}
use Rattle.std.proofs.lemmas.List.{take_all, length-drop}
use Rattle.auc_text.proofs.TextLemmas.{no_word, word_first, word_last}
use Rattle.auc_text.proofs.text.next_word.Goals as goal

pub returns-in_err-start-clause-word : goal.returns-in_err-start-clause-word
returns-in_err-start-clause-word c = rw c.from_residual.ensures (no_word c.args.text.now (cc c.in_err-start.ensures.place))

pub returns-in-Some-clause-word : goal.returns-in-Some-clause-word
returns-in-Some-clause-word c = word_first c.args.text.now (take (length c.args.text.now - c.in_ok-start.start) (drop c.in_ok-start.start c.args.text.now)) c.in_ok-start.start c.in-Some.end (take_all _ _ (omega (arith, length-drop c.in_ok-start.start c.args.text.now))) (cc c.in_ok-start.ensures.place) (cc c.in-Some.ensures.place)

pub returns-in-None-clause-word : goal.returns-in-None-clause-word
returns-in-None-clause-word c = word_last c.args.text.now (take (length c.args.text.now - c.in_ok-start.start) (drop c.in_ok-start.start c.args.text.now)) c.in_ok-start.start (take_all _ _ (omega (arith, length-drop c.in_ok-start.start c.args.text.now))) (cc c.in_ok-start.ensures.place) (cc c.in-None.ensures.place)
