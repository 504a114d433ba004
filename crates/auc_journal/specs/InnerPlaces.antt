-- Inner facts: what only private contracts of this crate cite. The subscribers of a journal.
use Rattle.std.specs.Prelude.{List}
use Rattle.auc_memory.specs.Identity.{Identity}

-- the identities of all, and of those that have places
pub record PlacesValue : Type 0 where
  pub all : List Identity
  pub imsis : List Identity
