use Rattle.std.proofs.Common.{rules, sym}
use Rattle.auc_prf.proofs.NumberLemmas.{bytes_of-number_of}
use Rattle.auc_prf.proofs.GeneratorLemmas.{word_of-number_of}
use Rattle.auc_prf.proofs.generator.next_word.Goals as goal

pub returns-clause-word : goal.returns-clause-word
returns-clause-word c =
    rw (word_of-number_of c.args.xkey c.compressed-word.result (search rules) (search rules) c.compressed-word.ensures)
    (sym (bytes_of-number_of c.compressed-word.result (search rules) (search rules)))

pub returns-clause-next : goal.returns-clause-next
returns-clause-next c =
    rw (word_of-number_of c.args.xkey c.compressed-word.result (search rules) (search rules) c.compressed-word.ensures)
    c.next_xkey.ensures
