use Rattle.std.proofs.Common.{refl}
use Rattle.auc_aes.specs.Inner.{block_of_words}
use Rattle.auc_aes.proofs.words.block_of.Goals as goal

pub returns : goal.returns
unfolding block_of_words
returns c =
    rw (c.to_be_bytes.ensures, c.to_be_bytes-2.ensures, c.to_be_bytes-3.ensures, c.to_be_bytes-4.ensures) refl
