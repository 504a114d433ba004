use Rattle.std.proofs.Common.{rules, arith}
use Rattle.auc_aes.specs.Cipher.{aes}
use Rattle.auc_aes.specs.Lanes.{IsDone}
use Rattle.auc_aes.proofs.ManyLemmas.{none_done, four_done}
use Rattle.auc_aes.proofs.lanes.encrypt_groups.Goals as goal

pub loop-blocks-init : goal.loop-blocks-init
loop-blocks-init c = record { within = search rules; done = λ key hk keys. none_done (aes key) c.args.blocks.now }

pub loop-blocks-preserved : goal.loop-blocks-preserved
loop-blocks-preserved c = record {
  within = search rules;
  done = λ key hk keys.
      let h : IsDone (aes key) c.args.blocks.now _ c.loop-blocks.at = c.loop-blocks.invariant.done key hk keys in
      four_done (aes key) c.args.blocks.now _ c.loop-blocks.at c.encrypt_four-made.result h (omega (arith, h.size))
      (c.encrypt_four-made.ensures key hk keys);
}
