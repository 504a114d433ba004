use Rattle.std.proofs.Common.{◌≡◌, ℕ, ◌<◌, List, All, length, take, arith, subst, sym}
use Rattle.std.proofs.lemmas.List.{length-take}
use Rattle.auc_sites.proofs.ListLemmas.{rising_more}
use Rattle.auc_sites.proofs.lease.Lease.push.Goals as goal

pub invariant_of-self : goal.invariant_of-self
invariant_of-self c =
    let numbers = c.self.inside.numbers in
    let view : take c.self.inside.len numbers ≡ c.args.self.now = c.self.view_is in
    let room : length (take c.self.inside.len numbers) < 32 = rw view c.requires.0 in
    let size : length numbers ≡ 32 = c.self.told in
    let within : c.self.inside.len < length numbers = omega (arith, room, size, c.self.invariant.0, length-take c.self.inside.len numbers) in
    (omega (arith, within, size), rising_more numbers c.self.inside.len c.args.n within c.self.invariant.1 (subst (λ (xs : List ℕ). All (λ (m : ℕ). m < c.args.n) xs) (sym view) c.requires.1))
