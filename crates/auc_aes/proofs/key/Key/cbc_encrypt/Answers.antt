use Rattle.std.proofs.Common.{rules, ◌≡◌, ◌+◌, ◌-◌, ◌/◌, ◌++◌, length, take, drop, refl, sym, ap, ◌∙◌, arith}
use Rattle.auc_aes.specs.Bytes.{xor}
use Rattle.auc_aes.specs.Cipher.{aes}
use Rattle.auc_aes.specs.Cbc.{encrypted_blocks}
use Rattle.auc_aes.proofs.CbcLemmas.{encrypted_first, encrypted_more, encrypted_last}
use Rattle.auc_aes.proofs.key.Key.cbc_encrypt.Goals as goal

pub loop-at-init : goal.loop-at-init
loop-at-init c = record {
  aligned = refl;
  whole = c.requires;
  within = omega arith;
  so_far = encrypted_first c.args.self.now c.args.iv c.args.bytes.now;
}

pub loop-at-preserved : goal.loop-at-preserved
loop-at-preserved c =
    let size : length c.put_block.new.bytes ≡ length c.loop-at.bytes = c.put_block.auto.bytes in
    record {
      aligned = omega arith;
      whole = omega arith;
      within = omega arith;
      so_far =
          ap (λ n. take (c.loop-at.at + 16) c.put_block.new.bytes
          ++ encrypted_blocks c.args.self.now c.encrypt-last.result ((n - (c.loop-at.at + 16)) / 16) (drop (c.loop-at.at + 16) c.put_block.new.bytes)) size
          ∙ encrypted_more c.loop-at.bytes c.encrypt-last.result c.put_block.new.bytes c.loop-at.at (omega arith) (search rules) c.put_block.ensures
          c.args.self.now c.loop-at.last
          (c.encrypt-last.ensures ∙ ap (aes c.args.self.now) (c.xor.ensures ∙ ap (λ b. xor b c.loop-at.last) c.block_at.ensures))
          ∙ c.loop-at.invariant.so_far;
    }

pub returns : goal.returns
returns c =
    sym (encrypted_last c.args.self.now c.loop-at.last c.loop-at.bytes c.loop-at.at (omega arith)) ∙ c.loop-at.invariant.so_far
