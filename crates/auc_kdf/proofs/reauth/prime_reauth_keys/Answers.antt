use Rattle.std.proofs.Common.{append_assoc, rules}
use Rattle.auc_kdf.proofs.PairLemmas.{key_pair_all}
use Rattle.auc_kdf.proofs.reauth.prime_reauth_keys.Goals as goal

pub returns : goal.returns
returns c =
    rw (c.piece_of.ensures, c.piece_of-2.ensures)
    (key_pair_all c.write_blocks.new.out _ (search rules) (rw (c.write_blocks.ensures, c.freshness.ensures) (simp append_assoc)))
