use Rattle.std.proofs.Common.{rules}
use Rattle.auc_draw.proofs.BookLemmas.{splits_at}
use Rattle.auc_draw.proofs.book.split.Goals as goal

pub split_seat-own-requires : goal.split_seat-own-requires
split_seat-own-requires c = (c.loop-i.invariant.0, search rules, splits_at _ _ _ _ _ _ _ _ c.loop-i.invariant.1 c.loop-i.invariant.2 (search rules))
