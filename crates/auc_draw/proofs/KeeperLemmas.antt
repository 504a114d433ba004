-- The keeper's pass: what a step on it says of what contracts see.
use Rattle.std.proofs.Common.{◌≡◌, ◌⊎◌, ℕ, ◌+◌, ◌≤◌, slice_index, slice_set, None, ap, ◌∙◌, subst}
use Rattle.atomic_table.specs.Seated.{TableId}
use Rattle.atomic_table.specs.Table.{Me}
use Rattle.auc_sqn.specs.Number.{max_seq}
use Rattle.auc_draw.specs.declared.rule.View.{View}
use Rattle.auc_draw.specs.Values.{KeeperValue}
use Rattle.auc_draw.specs.InnerRule.{NotesLimit}
use Rattle.auc_draw.proofs.LimitLemmas.{MayRise}

-- what contracts see of a keeper's pass
abbrev seen_of : TableId → View → KeeperValue
seen_of id v = record { id = id; passes = v.split; limits = v.note.limits; seen = v.note.seen; stop = v.note.stop }

-- a limit that may be raised, as the conditions of the call say it
pub may_rise : (id : TableId) (v : View) (sub limit : ℕ) (keeper : KeeperValue) → seen_of id v ≡ keeper → keeper.stop ≡ None → limit ≤ max_seq → limit ≤ slice_index keeper.seen sub + 64
    → (limit ≡ max_seq) ⊎ (slice_index keeper.limits sub + 64 ≤ limit) → MayRise v.note sub limit
may_rise id v sub limit keeper is running number near step =
    let P : KeeperValue → Type 0 = λ k. k.stop ≡ None → limit ≤ slice_index k.seen sub + 64 → (limit ≡ max_seq) ⊎ (slice_index k.limits sub + 64 ≤ limit) → MayRise v.note sub limit in
    subst P is (λ r n s. record { running = r; number = number; near = n; step = s }) running near step

-- what contracts see after a limit was raised
pub noted_limit : (id next : TableId) (me new : Me (Unit {0}) View) (sub limit : ℕ) (keeper : KeeperValue) → seen_of id me.0 ≡ keeper → next ≡ id → NotesLimit sub limit me new
    → seen_of next new.0 ≡ record { id = keeper.id; passes = keeper.passes; limits = slice_set keeper.limits sub limit; seen = keeper.seen; stop = keeper.stop }
noted_limit id next me new sub limit keeper is same notes =
    ap (λ (z : TableId). seen_of z new.0) same ∙ ap (λ (m : Me (Unit {0}) View). seen_of id m.0) notes
    ∙ ap (λ (k : KeeperValue). record { id = k.id; passes = k.passes; limits = slice_set k.limits sub limit; seen = k.seen; stop = k.stop }) is
