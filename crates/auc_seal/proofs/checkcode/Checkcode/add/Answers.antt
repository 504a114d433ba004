use Rattle.auc_seal.proofs.CheckcodeLemmas.{one_more}
use Rattle.auc_seal.proofs.checkcode.Checkcode.add.Goals as goal

pub returns : goal.returns
returns c = λ method packets holds. one_more c.args.self.now _ method packets c.args.packet.now holds c.feed.ensures
