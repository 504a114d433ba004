use Rattle.std.proofs.Common.{arith}
use Rattle.auc_seal.proofs.PaddingLemmas.{pads_4, pads_8, pads_12}
use Rattle.auc_seal.proofs.encryption.padding_for.Goals as goal

pub returns-in-1 : goal.returns-in-1
returns-in-1 c = pads_12 c.args.size (omega (arith, c.in-1.is, c.requires))

pub returns-in-2 : goal.returns-in-2
returns-in-2 c = pads_8 c.args.size (omega (arith, c.in-2.is, c.requires))

pub returns-in-3 : goal.returns-in-3
returns-in-3 c = pads_4 c.args.size (omega (arith, c.in-3.is, c.requires))
