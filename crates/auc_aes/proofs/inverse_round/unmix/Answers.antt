use Rattle.std.proofs.Common.{arith}
use Rattle.auc_aes.proofs.RoundLemmas.{unmixed_is}
use Rattle.auc_aes.proofs.inverse_round.unmix.Goals as goal

pub returns : goal.returns
returns c =
    unmixed_is c.args.state c.unmixed_column.result c.unmixed_column-2.result c.unmixed_column-3.result c.unmixed_column-4.result (omega arith)
    c.unmixed_column.ensures c.unmixed_column-2.ensures c.unmixed_column-3.ensures c.unmixed_column-4.ensures
