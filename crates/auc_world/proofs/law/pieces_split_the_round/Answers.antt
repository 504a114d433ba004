-- The law is a lemma on pieces.
use Rattle.auc_world.proofs.PieceLemmas.{pieces_split_the_round}
use Rattle.auc_world.proofs.law.pieces_split_the_round.Goals as goal

pub returns : goal.returns
returns c = pieces_split_the_round
