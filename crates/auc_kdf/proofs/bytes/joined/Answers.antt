use Rattle.std.proofs.Common.{refl, rules}
use Rattle.auc_kdf.proofs.JoinLemmas.{joined_is}
use Rattle.auc_kdf.proofs.bytes.joined.Goals as goal

pub returns : goal.returns
returns c = rw (c.copy_from_slice.ensures.after, c.copy_from_slice-2.ensures.after) (joined_is c.args.front c.args.back _ (search rules) refl)
