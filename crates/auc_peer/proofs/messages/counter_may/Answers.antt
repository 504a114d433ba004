use Rattle.std.proofs.Common.{sym, subst}
use Rattle.auc_seal.specs.Encrypted.{MayBeEncrypted}
use Rattle.auc_peer.proofs.CounterLemmas.{counter_may}
use Rattle.auc_peer.proofs.messages.counter_may.Goals as goal

pub returns : goal.returns
returns c = subst MayBeEncrypted (sym c.requires) (counter_may c.args.counter c.args.small)
