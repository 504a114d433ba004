use Rattle.std.proofs.Common.{refl, sym, ◌∙◌, arith}
use Rattle.auc_aes.proofs.CbcLemmas.{decrypted_first, decrypted_last}
use Rattle.auc_aes.proofs.key.Key.cbc_decrypt.Goals as goal

pub loop-at-init : goal.loop-at-init
loop-at-init c = record {
  aligned = refl;
  whole = c.requires;
  within = omega arith;
  so_far = decrypted_first c.args.self.now c.args.iv c.args.bytes.now;
}

pub returns : goal.returns
returns c =
    sym (decrypted_last c.args.self.now c.loop-at.last c.loop-at.bytes c.loop-at.at (omega arith)) ∙ c.loop-at.invariant.so_far
