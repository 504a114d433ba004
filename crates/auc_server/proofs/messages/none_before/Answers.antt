use Rattle.std.proofs.Common.{sym, subst}
use Rattle.auc_seal.specs.Encrypted.{HasNoneEncrypted}
use Rattle.auc_server.proofs.MessageLemmas.{none_before}
use Rattle.auc_server.proofs.messages.none_before.Goals as goal

pub returns : goal.returns
returns c =
    subst HasNoneEncrypted (sym c.requires) (none_before c.args.options.now.method c.args.options.now.name c.args.options.now.bidding c.args.rand c.args.autn)
