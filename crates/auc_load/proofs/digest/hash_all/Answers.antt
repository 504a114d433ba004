use Rattle.std.proofs.Common.{◌<◌, ◌≤◌, ◌++◌, ◌∙◌, List, ℕ, get_or, length, take, ap, subst}
use Rattle.std.specs.List.{concat}
use Rattle.sha2.specs.Hashers.{Holds256}
use Rattle.std.proofs.lemmas.List.{take_all}
use Rattle.auc_load.proofs.PieceLemmas.{piece_hashed}
use Rattle.auc_load.proofs.digest.hash_all.Goals as goal

pub loop-bytes-preserved : goal.loop-bytes-preserved
loop-bytes-preserved c fed holds =
    let made = c.args.made in
    let i = c.loop-bytes.bytes-index in
    let same = c.as_slice-bytes-items.ensures in
    let inside = subst (λ (all : List (List ℕ)). i < length all) same c.loop-bytes-test.true in
    subst (Holds256 c.update.new.self)
    (ap (λ (bytes : List ℕ). (fed ++ concat (take i made)) ++ bytes) (c.as_slice.ensures ∙ c.bytes-item.is ∙ ap (λ (all : List (List ℕ)). get_or all i c.bytes-item.result) same)
    ∙ piece_hashed made i c.bytes-item.result fed inside)
    (c.update.ensures (fed ++ concat (take i made)) (c.loop-bytes.invariant fed holds))

pub returns : goal.returns
returns c fed holds =
    let made = c.args.made in
    let i = c.loop-bytes.bytes-index in
    let beyond = subst (λ (all : List (List ℕ)). length all ≤ i) c.as_slice-bytes-items.ensures c.loop-bytes-test.false in
    subst (λ (all : List (List ℕ)). Holds256 c.loop-bytes.hasher (fed ++ concat all)) (take_all i made beyond) (c.loop-bytes.invariant fed holds)
