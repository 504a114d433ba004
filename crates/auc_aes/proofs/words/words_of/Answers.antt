use Rattle.std.proofs.Common.{arith}
use Rattle.auc_aes.proofs.WordLemmas.{words_are}
use Rattle.auc_aes.proofs.words.words_of.Goals as goal

pub returns : goal.returns
returns c =
    words_are c.args.block c.word.result c.word-2.result c.word-3.result c.word-4.result (omega arith)
    c.word.ensures c.word-2.ensures c.word-3.ensures c.word-4.ensures
