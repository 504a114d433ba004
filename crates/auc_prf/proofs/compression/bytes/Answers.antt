use Rattle.std.proofs.Common.{arith, refl, rules, ◌∙◌}
use Rattle.std.proofs.lemmas.Slice.{overwrites}
use Rattle.sha1.specs.Sha1.{digest_bytes}
use Rattle.sha1.proofs.Absorbing.{digest_more}
use Rattle.auc_prf.proofs.compression.bytes.Goals as goal

pub loop-i-init : goal.loop-i-init
unfolding digest_bytes
loop-i-init c = (refl, refl)

pub loop-i-preserved : goal.loop-i-preserved
loop-i-preserved c = (
  search (rules, overwrites),
  digest_more c.loop-i.out c.args.hash _ c.loop-i.i _ c.loop-i.invariant.1 (omega arith) (c.copy_from_slice.ensures.after ∙ c.to_be_bytes.ensures),
)
