-- The words at which limits open the subscribers.
use Rattle.std.proofs.Common.{◌≡◌, ℕ, zero, suc, ◌<◌, ◌≤◌, max, min, List, [], ◌∷◌, length, get_or, map, refl, ◌∙◌, ap, arith}
use Rattle.std.proofs.Math.ListN.{length-map}
use Rattle.auc_subs.proofs.Facts.{length-tops_of}
use Rattle.auc_subs.specs.Subscriber.{top_at, tops_of}
use Rattle.auc_subs.specs.declared.row.Row.{Row}
use Rattle.auc_world.specs.Limits.{greater, opened}
use Rattle.auc_world.specs.Transcript.{Course, EachRestartOpensAboveReleased}
use Rattle.auc_record.proofs.Facts.{get_or-lesser, length-lesser, lesser_within}

-- the greater ones of two lists are as many as the first list has
pub length-greater : (numbers others : List ℕ) → length (greater numbers others) ≡ length numbers
length-greater [] others = refl
length-greater (n ∷ numbers) [] = ap suc (length-greater numbers [])
length-greater (n ∷ numbers) (m ∷ others) = ap suc (length-greater numbers others)

-- each is the greater of the two at its place
pub get_or-greater : (numbers others : List ℕ) (i : ℕ) → i < length numbers → get_or (greater numbers others) i 0 ≡ max (get_or numbers i 0) (get_or others i 0)
get_or-greater [] others i inside = absurd (omega arith)
get_or-greater (n ∷ numbers) [] zero inside = omega arith
get_or-greater (n ∷ numbers) [] (suc i) inside = get_or-greater numbers [] i (omega arith)
get_or-greater (n ∷ numbers) (m ∷ others) zero inside = refl
get_or-greater (n ∷ numbers) (m ∷ others) (suc i) inside = get_or-greater numbers others i (omega arith)

-- limits open each subscriber at a word
pub length-opened : (rows : List Row) (limits : List ℕ) → length (opened rows limits) ≡ length rows
length-opened rows limits = length-lesser (tops_of rows) (greater (map (λ (row : Row). row.seq) rows) limits) ∙ length-tops_of rows

-- at most at the greatest number
pub opened_within : (rows : List Row) (limits : List ℕ) (sub : ℕ) → get_or (opened rows limits) sub 0 ≤ top_at rows sub
opened_within rows limits sub = lesser_within (tops_of rows) (greater (map (λ (row : Row). row.seq) rows) limits) sub

-- the word at which limits open a subscriber
pub opened_at : (rows : List Row) (limits : List ℕ) (sub : ℕ) → sub < length rows
    → get_or (opened rows limits) sub 0 ≡ min (top_at rows sub) (max (get_or (map (λ (row : Row). row.seq) rows) sub 0) (get_or limits sub 0))
opened_at rows limits sub inside =
    let seqs = map (λ (row : Row). row.seq) rows in
    let size = length-map rows (λ (row : Row). row.seq) in
    let tops = length-tops_of rows in
    let wide = length-greater seqs limits in
    get_or-lesser (tops_of rows) (greater seqs limits) sub (omega (arith, inside, tops)) (omega (arith, inside, size, wide))
    ∙ ap (λ (word : ℕ). min (top_at rows sub) word) (get_or-greater seqs limits sub (omega (arith, inside, size)))

-- it is no less than the limit, up to the greatest number
pub opened_above : (rows : List Row) (limits : List ℕ) (sub : ℕ) → sub < length rows → min (top_at rows sub) (get_or limits sub 0) ≤ get_or (opened rows limits) sub 0
opened_above rows limits sub inside = let at = opened_at rows limits sub inside in omega (arith, at)

-- a restart opens each subscriber at no less than each number that was released for it
pub restart_opens_above : EachRestartOpensAboveReleased
restart_opens_above set at next sub restarts inside within k d k<n =
    let low = restarts.raises.released sub inside k d k<n in
    let fits = within k d k<n in
    let high = opened_above set.rows restarts.limits sub inside in
    let same = ap (λ (c : Course). get_or c.openings sub 0) restarts.leads in omega (arith, low, fits, high, same)
