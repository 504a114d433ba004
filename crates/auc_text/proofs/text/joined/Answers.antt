use Rattle.std.proofs.Common.{refl}
use Rattle.auc_text.specs.Text.{words_of}
use Rattle.auc_text.proofs.TextLemmas.{joined_is}
use Rattle.auc_text.proofs.text.joined.Goals as goal

pub loop-word-init : goal.loop-word-init
loop-word-init c = rw (c.in-Some.ensures.word, joined_is c.in-Some.word.now (words_of c.in-Some.behind.now), c.in_ok-append.ensures.appended, c.new-line.ensures) refl
