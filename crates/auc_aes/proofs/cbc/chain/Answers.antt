use Rattle.std.proofs.Common.{rules, ◌≡◌, ◌+◌, ◌*◌, ℕ, take, sym, ap, ◌∙◌, arith}
use Rattle.auc_aes.specs.Bytes.{xor}
use Rattle.auc_aes.specs.Cipher.{aes_inverse}
use Rattle.auc_aes.proofs.CbcLemmas.{ahead_more, chain_more}
use Rattle.auc_aes.proofs.cbc.chain.Goals as goal

pub loop-i-preserved : goal.loop-i-preserved
loop-i-preserved c =
    let place : ℕ = c.args.at + 16 * c.loop-i.i in
    let next : c.args.at + 16 * (c.loop-i.i + 1) ≡ place + 16 = omega arith in
    record {
      size = c.put_block.auto.bytes ∙ c.loop-i.invariant.size;
      ahead = ahead_more c.loop-i.bytes c.args.bytes.now c.xor.result c.put_block.new.bytes place (c.args.at + 16 * (c.loop-i.i + 1)) (omega (arith, c.loop-i.invariant.size)) (search rules)
          c.put_block.ensures next c.loop-i.invariant.ahead;
      so_far = λ key given.
          chain_more key c.loop-i.bytes c.block_at-block.result c.xor.result c.put_block.new.bytes c.loop-i.before place (c.args.at + 16 * (c.loop-i.i + 1)) (omega (arith, c.loop-i.invariant.size)) (search rules)
          c.put_block.ensures c.put_block.auto.bytes next c.block_at-block.ensures
          (c.xor.ensures ∙ ap (λ b. xor b c.loop-i.before) (given c.loop-i.i (omega arith) ∙ sym (ap (λ rest. aes_inverse key (take 16 rest)) c.loop-i.invariant.ahead)))
          ∙ c.loop-i.invariant.so_far key given;
    }
