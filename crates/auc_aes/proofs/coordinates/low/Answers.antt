use Rattle.std.proofs.Common.{bit_and}
use Rattle.std.proofs.lemmas.Simd.{zip2_splat}
use Rattle.auc_aes.proofs.coordinates.low.Goals as goal

pub returns : goal.returns
returns c = zip2_splat bit_and c.args.v 32 15 c.fits-v.0
