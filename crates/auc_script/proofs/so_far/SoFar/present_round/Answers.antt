use Rattle.std.proofs.Common.{◌≡◌, Some}
use Rattle.auc_script.proofs.SoFarLemmas.{block_within}
use Rattle.auc_script.proofs.so_far.SoFar.present_round.Goals as goal

pub returns-in_ok-end-in-Some-clause-within : goal.returns-in_ok-end-in-Some-clause-within
returns-in_ok-end-in-Some-clause-within c = λ rows kept.
    let is : c.args.self.round ≡ Some c.in-Some.round = cc (c.into_read-header.ensures, c.in-Some.is) in
    rw c.in_ok-end-in-Some.ensures (block_within rows c.args.self.ended (Some c.in-Some.round) (rw is at kept.parts))
