use Rattle.std.proofs.Common.{refl, rules}
use Rattle.auc_5g.proofs.JoinLemmas.{joined_is}
use Rattle.auc_5g.proofs.derivation.joined.Goals as goal

pub returns : goal.returns
returns c = rw (c.copy_from_slice.ensures.after, c.copy_from_slice-2.ensures.after) (joined_is c.args.ck c.args.ik _ (search rules) refl)
