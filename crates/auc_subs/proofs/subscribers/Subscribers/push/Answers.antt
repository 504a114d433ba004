use Rattle.std.proofs.Common.{◌≡◌, ◌<◌, ap, false, is_some, length, refl}
use Rattle.indexmap.specs.IndexMap.{values}
use Rattle.auc_subs.specs.Subscriber.{most_subscribers, place_of}
use Rattle.auc_subs.proofs.LookupLemmas.{values_put, lookup_put}
use Rattle.auc_subs.proofs.subscribers.Subscribers.push.Goals as goal

-- no row had the identity
new_identity : (c : goal.In_ok-insert) → is_some (place_of (values c.self.inside.rows) c.args.row.imsi) ≡ false
new_identity c = rw c.self.view_is (ap is_some c.requires.new)

-- there was room for one more row
room : (c : goal.In_ok-insert) → length (values c.self.inside.rows) < most_subscribers
room c = rw c.self.view_is c.requires.room

pub returns-clause-added : goal.returns-clause-added
returns-clause-added c =
    rw (values_put c.self.inside.rows.entries c.insert.new.self.entries c.args.row c.self.invariant (new_identity c) (rw c.key.ensures at c.in_ok-insert.ensures.entries), ← c.self.view_is)
    refl

pub invariant_of-self-2 : goal.invariant_of-self-2
invariant_of-self-2 c =
    lookup_put c.self.inside.rows.entries c.insert.new.self.entries c.args.row c.self.invariant (new_identity c) (rw c.key.ensures at c.in_ok-insert.ensures.entries) c.requires.row (room c)
