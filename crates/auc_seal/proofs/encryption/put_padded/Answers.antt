use Rattle.std.proofs.Common.{arith}
use Rattle.auc_seal.proofs.PaddingLemmas.{spelled_whole}
use Rattle.auc_seal.proofs.encryption.put_padded.Goals as goal

pub padding_for-requires : goal.padding_for-requires
padding_for-requires c = omega (arith, spelled_whole c.args.inner.now c.requires.inner.writable, c.size.ensures)
