use Rattle.std.proofs.Common.{rules}
use Rattle.auc_draw.proofs.SeatLemmas.{opens_ok}
use Rattle.auc_draw.proofs.book.Book.open.Goals as goal

pub of_words-requires : goal.of_words-requires
of_words-requires c = opens_ok _ _ _ _ (search rules) (search rules) (search rules) (search rules)
