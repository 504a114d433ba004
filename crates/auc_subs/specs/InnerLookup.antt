-- Inner facts: what only private contracts of this crate cite. How rows are looked up by identity: each
-- under the key of its own, in their order.
use Rattle.std.specs.Prelude.{◌≡◌, List, map}
use Rattle.auc_memory.specs.IdentityKey.{key_of}
use Rattle.auc_memory.specs.declared.identity_key.IdentityKey.{IdentityKey}
use Rattle.auc_subs.specs.declared.row.Row.{Row}
use Rattle.auc_subs.specs.Subscriber.{AreSubscribers}

-- subscribers under the keys of their identities
pub record IsLookup (keys : List IdentityKey) (rows : List Row) : Type 0 where
  pub subscribers : AreSubscribers rows
  pub keyed : keys ≡ map (λ row. key_of row.imsi) rows
