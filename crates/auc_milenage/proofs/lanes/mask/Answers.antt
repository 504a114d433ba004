use Rattle.std.proofs.Common.{List, ℕ, rules, ap, ◌∙◌, arith}
use Rattle.auc_aes.specs.Bytes.{xor}
use Rattle.auc_aes.specs.Lanes.{IsDone}
use Rattle.auc_aes.proofs.Facts.{all_done, none_done, one_done}
use Rattle.auc_milenage.proofs.lanes.mask.Goals as goal

pub loop-at-init : goal.loop-at-init
loop-at-init c = record { within = search rules; done = none_done (λ block. xor block c.args.opc) c.args.blocks.now }

pub loop-at-preserved : goal.loop-at-preserved
loop-at-preserved c =
    let masked : List ℕ → List ℕ = λ block. xor block c.args.opc in
    let h : IsDone masked c.args.blocks.now c.loop-at.blocks c.loop-at.at = c.loop-at.invariant.done in
    record {
      within = search rules;
      done = one_done masked c.args.blocks.now c.loop-at.blocks c.loop-at.at c.add.result h (omega (arith, h.size))
          (c.add.ensures ∙ ap masked (h.rest c.loop-at.at (omega arith)));
    }

pub returns : goal.returns
returns c =
    let masked : List ℕ → List ℕ = λ block. xor block c.args.opc in
    let h : IsDone masked c.args.blocks.now c.loop-at.blocks c.loop-at.at = c.loop-at.invariant.done in
    all_done masked c.args.blocks.now c.loop-at.blocks c.loop-at.at h (omega (arith, h.size))
