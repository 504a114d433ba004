use Rattle.std.proofs.Common.{◌≡◌, ℕ, ◌+◌, ◌<◌, List, All, length, take, drop, get_or, arith, ap, subst}
use Rattle.std.proofs.lemmas.List.{get_or-take, length-take}
use Rattle.auc_sites.specs.Lease.{IsRising}
use Rattle.auc_sites.proofs.ListLemmas.{above_place}
use Rattle.auc_sites.proofs.lease.Lease.number.Goals as goal

-- those behind a place of a rising front are above the number there
behind_above : (xs now : List ℕ) (len place : ℕ) → take len xs ≡ now → place < length now → IsRising (take len xs)
    → All (λ m. get_or xs place 0 < m) (drop (place + 1) now)
behind_above xs now len place view within rising =
    let size = length-take len xs in
    let length_is = ap length view in
    let at_place : get_or (take len xs) place 0 ≡ get_or xs place 0 = get_or-take len xs place 0 (omega (arith, size, length_is, within)) in
    let above : All (λ m. get_or (take len xs) place 0 < m) (drop (place + 1) (take len xs)) = above_place (take len xs) place rising in
    let same : All (λ m. get_or xs place 0 < m) (drop (place + 1) (take len xs)) = subst (λ (n : ℕ). All (λ m. n < m) (drop (place + 1) (take len xs))) at_place above in
    subst (λ (ys : List ℕ). All (λ m. get_or xs place 0 < m) (drop (place + 1) ys)) view same

pub returns-clause-least : goal.returns-clause-least
returns-clause-least c = behind_above c.self.inside.numbers c.args.self.now c.self.inside.len c.args.i c.self.view_is c.requires c.self.invariant.1
