-- For the naming of subscribers: places that rise, their rows, and the lines over them.
use Rattle.std.proofs.Common.{◌≡◌, ◌∙◌, ◌<◌, ◌≤◌, ◌+◌, ◌++◌, ℕ, zero, suc, true, All, AllPairs, Contains, List, [], ◌∷◌, Option, None, Some, Err, length, map, nat_eq, slice_index, slice_get, get_or, refl, ap, sym, subst, take, arith}
use Rattle.std.specs.List.{dedup}
use Rattle.std.specs.List.Sorted.{IsBinarySearchResult, IsPermutation, IsSorted}
use Rattle.std.specs.Ordering.{nat_cmp}
use Rattle.std.proofs.lemmas.Grind.{common_steps}
use Rattle.std.proofs.lemmas.List.{map-append, map_more, take_more}
use Rattle.std.proofs.lemmas.List.Elements.{All-append, All-contains, All-contains_itself, All-cons, All-head, All-tail, All-nil, All-weaker}
use Rattle.std.proofs.lemmas.List.Filters.{All-dedup}
use Rattle.std.proofs.lemmas.List.Kept.{AllPairs-from_increasing, Contains-dedup_nat}
use Rattle.std.proofs.lemmas.List.Quantifiers.{position-Some}
use Rattle.std.proofs.lemmas.List.Sorted.{All-permutation, Contains-permutation, searched}
use Rattle.std.proofs.lemmas.Map.Keys.{IsStrictlyIncreasing-dedup}
use Rattle.std.proofs.lemmas.Option.{get_or_from_slice_get, slice_get-get_or, slice_get_within}
use Rattle.std.proofs.lemmas.Bool.Decides.{nat_tests}
use Rattle.auc_cards.specs.Known.{AreKnown, IsKnownLine}
use Rattle.auc_memory.specs.Identity.{Identity}
use Rattle.auc_lines.specs.declared.part.Line.{Line}
use Rattle.auc_lines.specs.declared.part.Line.TheVariants as line
use Rattle.auc_subs.specs.declared.row.Row.{Row}
use Rattle.auc_subs.specs.Subscriber.{AreSubscribers, most_subscribers, place_of, same_identity}
use Rattle.auc_named.specs.InnerNaming.{ArePlacesOf, IsAtAPlace}
use Rattle.auc_named.specs.Named.{ArePlain, is_plain, sub_of, subs_of}

-- ---- lists

-- the front of two lists that all have P
all_front : {A : Type 0} (P : A → Type 0) (xs ys : List A) → All P (xs ++ ys) → All P xs
all_front P [] ys all = All-nil P
all_front P (x ∷ xs) ys all = All-cons P x xs (All-head P x (xs ++ ys) all) (all_front P xs ys (All-tail P x (xs ++ ys) all))

-- and what is behind it
all_behind : {A : Type 0} (P : A → Type 0) (xs ys : List A) → All P (xs ++ ys) → All P ys
all_behind P [] ys all = all
all_behind P (x ∷ xs) ys all = all_behind P xs ys (All-tail P x (xs ++ ys) all)

-- the item at a place, after what is before it
pub map_next : {A B : Type 0} (f : A → B) (xs : List A) (k : ℕ) (x : A) → slice_get xs k ≡ Some x → map f (take (k + 1) xs) ≡ map f (take k xs) ++ f x ∷ []
map_next f xs k x there = map_more f xs k x (slice_get_within xs k x there) ∙ ap (λ y. map f (take k xs) ++ f y ∷ []) (get_or_from_slice_get xs k x x there)

-- what stands at each place of a list with one more item
one_more : {A : Type 0} (xs : List A) (x : A) (f : ℕ → Option A) → ((k : ℕ) → k < length xs → slice_get xs k ≡ f k) → f (length xs) ≡ Some x → (k : ℕ) → k < length xs + 1 → slice_get (xs ++ x ∷ []) k ≡ f k
one_more [] x f before last zero below = sym last
one_more [] x f before last (suc k) below = absurd (omega arith)
one_more (y ∷ xs) x f before last zero below = before zero (omega arith)
one_more (y ∷ xs) x f before last (suc k) below = one_more xs x (λ i. f (suc i)) (λ i less. before (suc i) (omega arith)) last k (omega arith)

-- the item at a place has what all have
pub at_item : {A : Type 0} (P : A → Type 0) (xs : List A) (i : ℕ) (x y : A) → All P xs → i < length xs → x ≡ get_or xs i x → y ≡ x → P y
at_item P xs i x y all within is same = subst P (sym (same ∙ is)) (all i x within)

-- one more of which f is the next item
pub became_more : {A B : Type 0} (f : A → B) (xs : List B) (own next : List A) (i : ℕ) (x : B) (y : A) → map f own ≡ take i xs → i < length xs → x ≡ get_or xs i x → f y ≡ x → next ≡ own ++ y ∷ [] → map f next ≡ take (i + 1) xs
became_more f xs own next i x y before within is same put =
    ap (map f) put
    ∙ map-append f own (y ∷ [])
    ∙ ap (λ zs. zs ++ f y ∷ []) before
    ∙ ap (λ z. take i xs ++ z ∷ []) (same ∙ is)
    ∙ sym (take_more xs i x within)

-- ---- places

-- places that rise are at least as great as their positions
pub place_below : (xs : List ℕ) → AllPairs ◌<◌ xs → (i : ℕ) → i < length xs → i ≤ slice_index xs i
place_below xs rising zero within = omega arith
place_below xs rising (suc i) within =
    let less : i < length xs = omega arith in
    let before = place_below xs rising i less in
    let next : slice_index xs i < slice_index xs (suc i) = rising i (suc i) 0 (omega arith) within in
    omega arith

-- and don't fall
never_falls : (xs : List ℕ) → AllPairs ◌<◌ xs → (i j : ℕ) → i ≤ j → j < length xs → get_or xs i 0 ≤ get_or xs j 0
never_falls xs rising i j least within = grind (arith, rising i j 0)

-- a place that is there is found
pub is_found : (xs : List ℕ) (x i : ℕ) → AllPairs ◌<◌ xs → IsBinarySearchResult (λ y. nat_cmp y x) xs (Err i) → Contains xs x → ⊥
is_found xs x i rising missed there =
    let s = searched xs x (Err i) missed (never_falls xs rising) in
    let k = there.0 in
    let here : get_or xs k 0 ≡ x = get_or_from_slice_get xs k x 0 (slice_get-get_or xs k x there.1 ∙ ap (λ y. Some y) there.2) in
    let low : k < i → get_or xs k 0 < x = s.1 k in
    let high : i ≤ k → x < get_or xs k 0 = λ least. s.2 k least there.1 in
    grind (arith, here, low, high)

-- subscribers in order, each once, are their places
pub places_are : (subs sorted places : List ℕ) → IsPermutation subs sorted → IsSorted nat_cmp sorted → places ≡ dedup nat_eq sorted → ArePlacesOf subs places
places_are subs sorted places moved inorder is = record {
  rising = subst (AllPairs ◌<◌) (sym is) (AllPairs-from_increasing _ (IsStrictlyIncreasing-dedup sorted inorder));
  each = subst (λ (ps : List ℕ). All (Contains ps) subs) (sym is) (All-weaker (Contains subs) (Contains (dedup nat_eq sorted)) (λ x there. Contains-dedup_nat sorted x (Contains-permutation subs sorted x moved there)) subs (All-contains_itself subs));
  only = subst (All (Contains subs)) (sym is) (All-dedup nat_eq (Contains subs) sorted (All-permutation (Contains subs) subs sorted moved (All-contains_itself subs)));
}

-- ---- rows

-- the first so many places have these rows
pub record AreFirst (rows : List Row) (places : List ℕ) (count : ℕ) (own : List Row) : Type 0 where
  pub size : length own ≡ count
  pub same : (sub : ℕ) → sub < count → slice_get own sub ≡ slice_get rows (slice_index places sub)

is_identity : (a b : Identity) → same_identity a b ≡ true → a ≡ b
is_identity a b same =
    let digits : a.digits ≡ b.digits = grind (arith, nat_tests) in
    let number : a.number ≡ b.number = grind (arith, nat_tests) in
    let one : (d n : ℕ) → Identity = λ (d n : ℕ). record { digits = d; number = n } in
    ap (λ (d : ℕ). one d a.number) digits ∙ ap (λ (n : ℕ). one b.digits n) number

-- no row before has the identity of the next one
pub is_new : (rows : List Row) (places : List ℕ) (count : ℕ) (own : List Row) (row : Row) → AreSubscribers rows → AllPairs ◌<◌ places → All (λ place. place < length rows) places → AreFirst rows places count own → count < length places → slice_get rows (slice_index places count) ≡ Some row → place_of own row.imsi ≡ None
is_new rows places count own row are rising within first less there = cases (place_of own row.imsi) refl
  where
    cases : (found : Option ℕ) → place_of own row.imsi ≡ found → found ≡ None
    cases None e = refl
    cases (Some k) e =
        let found = position-Some (λ (r : Row). same_identity r.imsi row.imsi) own k row e in
        let below = found.0 in
        let before : k < count = omega (arith, below, first.size) in
        let old : slice_get rows (slice_index places k) ≡ Some (get_or own k row) = sym (first.same k before) ∙ slice_get-get_or own k row below in
        let one : get_or rows (slice_index places k) row ≡ get_or own k row = get_or_from_slice_get rows (slice_index places k) (get_or own k row) row old in
        let two : get_or rows (slice_index places count) row ≡ row = get_or_from_slice_get rows (slice_index places count) row row there in
        let same : (get_or own k row).imsi ≡ row.imsi = is_identity (get_or own k row).imsi row.imsi found.1 in
        absurd (are.differ (slice_index places k) (slice_index places count) row (rising k count 0 before less) (within count 0 less)
        (ap (λ (r : Row). r.imsi) one ∙ same ∙ ap (λ (r : Row). r.imsi) (sym two)))

-- there is room for the next row
pub is_room : (rows : List Row) (places : List ℕ) (count : ℕ) (own : List Row) → AreSubscribers rows → AllPairs ◌<◌ places → All (λ place. place < length rows) places → AreFirst rows places count own → count < length places → length own < most_subscribers
is_room rows places count own are rising within first less =
    let least = place_below places rising count less in
    let below : slice_index places count < length rows = within count 0 less in
    omega (arith, first.size, are.limit)

-- the next row
pub first_more : (rows : List Row) (places : List ℕ) (count : ℕ) (own next : List Row) (row : Row) → AreFirst rows places count own → slice_get rows (slice_index places count) ≡ Some row → next ≡ own ++ row ∷ [] → AreFirst rows places (count + 1) next
first_more rows places count own next row first there put = subst (AreFirst rows places (count + 1)) (sym put) (record {
  size = grind (arith, common_steps, first.size);
  same = λ sub below. one_more own row (λ k. slice_get rows (slice_index places k)) (λ k less. first.same k (omega (arith, less, first.size)))
      (ap (λ k. slice_get rows (slice_index places k)) first.size ∙ there) sub (omega (arith, below, first.size));
})

-- ---- lines

-- the subscribers of the lines of a job have places
job_there : (places : List ℕ) (job : List Line) → All (λ line. is_plain line ≡ true) job → All (Contains places) (map sub_of job) → All (IsAtAPlace places) job
job_there places [] plain there = All-nil (IsAtAPlace places)
job_there places (one ∷ job) plain there =
    All-cons (IsAtAPlace places) one job (record { plain = All-head (λ line. is_plain line ≡ true) one job plain; there = All-head (Contains places) (sub_of one) (map sub_of job) there })
    (job_there places job (All-tail (λ line. is_plain line ≡ true) one job plain) (All-tail (Contains places) (sub_of one) (map sub_of job) there))

-- and those of jobs
pub jobs_there : (places : List ℕ) (jobs : List (List Line)) → ArePlain jobs → All (Contains places) (subs_of jobs) → All (λ job. All (IsAtAPlace places) job) jobs
jobs_there places [] plain there = All-nil (λ job. All (IsAtAPlace places) job)
jobs_there places (job ∷ jobs) plain there =
    All-cons (λ job. All (IsAtAPlace places) job) job jobs
    (job_there places job (All-head (λ job. All (λ line. is_plain line ≡ true) job) job jobs plain) (all_front (Contains places) (map sub_of job) (subs_of jobs) there))
    (jobs_there places jobs (All-tail (λ job. All (λ line. is_plain line ≡ true) job) job jobs plain) (all_behind (Contains places) (map sub_of job) (subs_of jobs) there))

-- the subscriber of a plain line that is known has a row
line_within : (rows : List Row) (one : Line) → is_plain one ≡ true → IsKnownLine rows one → sub_of one < length rows
line_within rows (line.Draw sub count) plain known = known
line_within rows (line.Sync sub report count) plain known = known.0
line_within rows (line.Give sub n) plain known = absurd (cc)
line_within rows (line.Eps sub snid) plain known = absurd (cc)
line_within rows (line.Fiveg fiveg) plain known = absurd (cc)
line_within rows (line.Sites sites) plain known = absurd (cc)
line_within rows (line.Sim sim) plain known = absurd (cc)
line_within rows (line.Session opening) plain known = absurd (cc)
line_within rows (line.Start session) plain known = absurd (cc)
line_within rows (line.Deliver session end packet) plain known = absurd (cc)
line_within rows (line.Repeat session) plain known = absurd (cc)
line_within rows (line.GiveUp session end) plain known = absurd (cc)
line_within rows (line.Plain session) plain known = absurd (cc)
line_within rows (line.Tamper packet place byte) plain known = absurd (cc)
line_within rows (line.Cut packet length) plain known = absurd (cc)

job_within : (rows : List Row) (job : List Line) → All (λ line. is_plain line ≡ true) job → AreKnown rows job → All (λ sub. sub < length rows) (map sub_of job)
job_within rows [] plain known = All-nil (λ sub. sub < length rows)
job_within rows (one ∷ job) plain known =
    All-cons (λ sub. sub < length rows) (sub_of one) (map sub_of job)
    (line_within rows one (All-head (λ line. is_plain line ≡ true) one job plain) (All-head (IsKnownLine rows) one job known))
    (job_within rows job (All-tail (λ line. is_plain line ≡ true) one job plain) (All-tail (IsKnownLine rows) one job known))

jobs_within : (rows : List Row) (jobs : List (List Line)) → ArePlain jobs → All (AreKnown rows) jobs → All (λ sub. sub < length rows) (subs_of jobs)
jobs_within rows [] plain known = All-nil (λ sub. sub < length rows)
jobs_within rows (job ∷ jobs) plain known =
    All-append (λ sub. sub < length rows) (map sub_of job) (subs_of jobs)
    (job_within rows job (All-head (λ job. All (λ line. is_plain line ≡ true) job) job jobs plain) (All-head (AreKnown rows) job jobs known))
    (jobs_within rows jobs (All-tail (λ job. All (λ line. is_plain line ≡ true) job) job jobs plain) (All-tail (AreKnown rows) job jobs known))

-- the places of the subscribers of plain lines that are known have rows
pub places_within : (rows : List Row) (jobs : List (List Line)) (places : List ℕ) → ArePlain jobs → All (AreKnown rows) jobs → ArePlacesOf (subs_of jobs) places → All (λ place. place < length rows) places
places_within rows jobs places plain known are = All-weaker (Contains (subs_of jobs)) (λ place. place < length rows)
    (λ place there. All-contains (λ sub. sub < length rows) (subs_of jobs) place (jobs_within rows jobs plain known) there) places are.only
