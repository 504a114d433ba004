use Rattle.std.proofs.Common.{◌≡◌, ℕ, ◌-◌, ◌<◌, ◌≤◌, List, All, length, take, get_or, arith, ap, subst, sym}
use Rattle.std.proofs.lemmas.Bool.{ltb-true, lt-ltb}
use Rattle.std.proofs.lemmas.List.{get_or-take, length-take}
use Rattle.auc_sites.specs.Lease.{IsRising}
use Rattle.auc_sites.proofs.ListLemmas.{all_below}
use Rattle.auc_sites.proofs.lease.Lease.can_push.Goals as goal

-- all numbers of a front that rises are below a number exactly if the last one is
front_below : (xs now : List ℕ) (len n : ℕ) → len ≤ length xs → (len ≡ 0 → ⊥) → take len xs ≡ now → IsRising (take len xs)
    → (get_or xs (len - 1) 0 < n → All (λ m. m < n) now) × (All (λ m. m < n) now → get_or xs (len - 1) 0 < n)
front_below xs now len n within some view rising =
    let size = length-take len xs in
    let last_at = get_or-take len xs (len - 1) 0 (omega (arith, some)) in (
      λ below. subst (All (λ m. m < n)) view (all_below (take len xs) (len - 1) n (omega (arith, size, within, some)) rising (omega (arith, last_at, below))),
      λ all.
          let last = subst (All (λ m. m < n)) (sym view) all (len - 1) 0 (omega (arith, size, within, some)) in
          omega (arith, last_at, last),
    )

pub returns-else-self-eq0 : goal.returns-else-self-eq0
returns-else-self-eq0 c =
    let both = front_below c.self.inside.numbers c.args.self.now c.self.inside.len c.args.n (omega (arith, c.self.told, c.self.invariant.0)) c.if-self-eq0.false c.self.view_is c.self.invariant.1 in
    let size = length-take c.self.inside.len c.self.inside.numbers in
    let length_is = ap length c.self.view_is in (
      λ below. (omega (arith, size, length_is, c.if-self-lt-LEASE_SIZE.true), both.0 (ltb-true (get_or c.self.inside.numbers (c.self.inside.len - 1) 0) c.args.n below)),
      λ may. lt-ltb (get_or c.self.inside.numbers (c.self.inside.len - 1) 0) c.args.n (both.1 may.1),
    )
