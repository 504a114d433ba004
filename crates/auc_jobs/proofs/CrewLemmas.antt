-- For the workers of a round: from what each of them served to the jobs in their order.
use Rattle.std.proofs.Common.{◌≡◌, ◌⊎◌, ℕ, zero, suc, ◌+◌, ◌<◌, ◌≤◌, ◌==◌, ◌||◌, Bool, true, false, cond, List, [], ◌∷◌, ◌++◌, length, map, slice_index, All, AllPairs, Any, Contains, IsPermutation, Option, Some, None, flat_map, sum_by, slice_get, arith, refl, sym, ap, ◌∙◌, subst, ⊎_elim, inl, inr, eq-eqb, append-nil, append_assoc}
use Rattle.std.specs.Prelude.{if◌then◌else◌}
use Rattle.std.proofs.lemmas.Bool.{eqb-true}
use Rattle.std.proofs.lemmas.Grind.{flat_map-append}
use Rattle.std.proofs.lemmas.List.{map-append}
use Rattle.std.proofs.lemmas.List.Elements.{All-append, All-cons, All-head, All-nil, All-tail, Contains-append_cases}
use Rattle.std.proofs.lemmas.List.Folds.{list_any-append}
use Rattle.std.proofs.lemmas.List.Sums.{get_or-le-sum_by, sum_by-cons}
use Rattle.std.proofs.lemmas.List.Sorted.{All-permutation, Contains-permutation, sum_by-IsPermutation}
use Rattle.atomic_table.specs.Seated.{TableId}
use Rattle.auc_draw.specs.Book.{Closes}
use Rattle.auc_draw.specs.Deeds.{entries_of, claims_of, released_of, held_of as pass_held}
use Rattle.auc_draw.specs.Values.{PassValue, BookValue, KeeperValue, ClosedValue}
use Rattle.auc_draw.specs.declared.rule.Deed.{Deed}
use Rattle.auc_draw.proofs.Facts.{each_job_is_claimed_once}
use Rattle.auc_memory.specs.declared.stop.Stop.{Stop}
use Rattle.auc_history.specs.declared.entry.Entry.{Entry}
use Rattle.auc_history.specs.History.{IsInOrder}
use Rattle.auc_history.specs.Recut.{RecutSplitIsASplit}
use Rattle.auc_history.specs.Split.{Splits, all_entries, times}
use Rattle.auc_history.proofs.Facts.{times-cons, times-append, AllPairs-head, AllPairs-tail}
use Rattle.auc_lines.specs.declared.part.Line.{Line}
use Rattle.auc_lines.specs.Part.{AreApart}
use Rattle.auc_reauth.specs.Device.{Keeps}
use Rattle.auc_server.specs.declared.setting.HomeRow.{HomeRow}
use Rattle.auc_sqn.specs.Number.{max_seq}
use Rattle.auc_subs.specs.Subscriber.{top_at, tops_of}
use Rattle.auc_subs.specs.declared.row.Row.{Row}
use Rattle.auc_subs.proofs.Facts.{top_at-within}
use Rattle.auc_record.specs.declared.record.LineRecord.{LineRecord}
use Rattle.auc_record.specs.Entries.{reports, is_reported}
use Rattle.auc_world.specs.Given.{JobGives}
use Rattle.auc_record.specs.Lines.{accepted, all_lines}
use Rattle.auc_world.specs.Pieces.{Piece, IsQuiet, PiecesGive, ReportsAreEarlier, entries_of_pieces, lines_of_pieces}
use Rattle.auc_world.specs.Net.{Net}
use Rattle.auc_world.specs.Sessions.{job_sessions}
use Rattle.auc_world.specs.Start.{start_of}
use Rattle.auc_record.specs.declared.record.JobSessions.{JobSessions}
use Rattle.auc_record.specs.Vectors.{vectors_in}
use Rattle.auc_world.proofs.Facts.{accepted-append, job_quiet}
use Rattle.auc_vector.specs.declared.parts.Vector.{Vector as AuthVector}
use Rattle.auc_jobs.specs.declared.claiming.ClaimedJob.{ClaimedJob}
use Rattle.auc_jobs.specs.declared.claiming.WorkerJobs.{WorkerJobs}
use Rattle.auc_jobs.specs.InnerClaims.{ServedTurn, turns, entries_of_turn, IsGiven, IsSettledAt, IsPrinted, ClaimsAre, HasServed, IsLast, IsDone, AreCollected}
use Rattle.auc_jobs.specs.InnerKeeping.{told_stop}
use Rattle.auc_jobs.specs.InnerRound.{AreSettled, AreServed, GoesByLimits, IsSettled, left_in, left_on}
use Rattle.auc_jobs.specs.InnerServing.{before_at}
use Rattle.auc_jobs.specs.InnerSharing.{Shared, IsAfter, IsServable}
use Rattle.auc_jobs.specs.InnerUsims.{OwnDevices, usim_in}
use Rattle.auc_jobs.specs.Serving.{AreAllKnown, AreKnown}
use Rattle.auc_jobs.proofs.LimitLemmas.{AreLimited, above_limit, flat_limited, flat_lines, withholds_by}
use Rattle.auc_jobs.proofs.LineLemmas.{all_at}
use Rattle.auc_jobs.proofs.OrderLemmas.{up, places_of, places, Placed, placed, sorted_up, all_front, all_back}
use Rattle.auc_jobs.proofs.PieceLemmas.{not_given}
use Rattle.auc_jobs.proofs.StoppingLemmas.{full_holds, withholds_told}
use Rattle.auc_jobs.proofs.TellingLemmas.{IsOwn, job_own, numbers_within}
use Rattle.auc_jobs.proofs.TurnLemmas.{apart_at}

-- ---- lists

-- what follows from what holds of each element
all_from : {X : Type 0} (P Q : X → Type 0) (xs : List X) → ((x : X) → P x → Q x) → All P xs → All Q xs
all_from P Q xs f each k d within = f _ (each k d within)

both : {X : Type 0} (P Q R : X → Type 0) (xs : List X) → ((x : X) → P x → Q x → R x) → All P xs → All Q xs → All R xs
both P Q R xs f p q k d within = f _ (p k d within) (q k d within)

-- a list has its head, what its rest has, and each of its elements
has_head : {X : Type 0} (x : X) (xs : List X) → Contains (x ∷ xs) x
has_head x xs = (0, omega arith, refl)

has_tail : {X : Type 0} (x y : X) (xs : List X) → Contains xs y → Contains (x ∷ xs) y
has_tail x y xs (k, within, at) = (suc k, omega (arith, within), at)

contained : {X : Type 0} (P : X → Type 0) (xs : List X) (x : X) → Contains xs x → All P xs → P x
contained P xs x (k, within, at) each = subst P at (each k x within)

all_has : {X : Type 0} (xs : List X) → All (Contains xs) xs
all_has [] = All-nil (Contains [])
all_has (x ∷ xs) = All-cons (Contains (x ∷ xs)) x xs (has_head x xs) (all_from (Contains xs) (Contains (x ∷ xs)) xs (λ y has. has_tail x y xs has) (all_has xs))

-- some element of a front
any_front : (P : ℕ → Type 0) (xs ys : List ℕ) → Any P xs → Any P (xs ++ ys)
any_front P [] ys (k, y, within, at, p) = absurd (omega (arith, within))
any_front P (x ∷ xs) ys (zero, y, within, at, p) = (zero, y, omega arith, at, p)
any_front P (x ∷ xs) ys (suc k, y, within, at, p) = let rest = any_front P xs ys (k, y, omega (arith, within), at, p) in (suc rest.0, rest.1, omega (arith, rest.2), rest.3, rest.4)

-- if what is counted comes once, the elements that count are one
alone : {X : Type 0} (f : X → ℕ) (xs : List X) (x y : X) → sum_by f xs ≤ 1 → Contains xs x → Contains xs y → 1 ≤ f x → 1 ≤ f y → x ≡ y
alone f [] x y few (i, i<n, at_i) (j, j<n, at_j) some_x some_y = absurd (omega arith)
alone f (z ∷ zs) x y few (zero, i<n, at_i) (zero, j<n, at_j) some_x some_y = sym at_i ∙ at_j
alone f (z ∷ zs) x y few (zero, i<n, at_i) (suc j, j<n, at_j) some_x some_y =
    let cut = sum_by-cons f z zs in
    let least = get_or-le-sum_by f zs j y (omega arith) in
    let first = ap f at_i in
    let second = ap f at_j in
    absurd (omega (arith, cut, least, first, second))
alone f (z ∷ zs) x y few (suc i, i<n, at_i) (zero, j<n, at_j) some_x some_y =
    let cut = sum_by-cons f z zs in
    let least = get_or-le-sum_by f zs i x (omega arith) in
    let first = ap f at_i in
    let second = ap f at_j in
    absurd (omega (arith, cut, least, first, second))
alone f (z ∷ zs) x y few (suc i, i<n, at_i) (suc j, j<n, at_j) some_x some_y =
    let cut = sum_by-cons f z zs in
    alone f zs x y (omega (arith, cut)) (i, omega arith, at_i) (j, omega arith, at_j) some_x some_y

-- ---- each job has one turn

places_turns : (earlier : List LineRecord) (done : List ClaimedJob) → places_of (turns earlier done) ≡ places done
places_turns earlier [] = refl
places_turns earlier (c ∷ done) = ap (λ (ks : List ℕ). c.job ∷ ks) (places_turns (earlier ++ c.served.lines) done)

abbrev all_turns : List WorkerJobs → List ServedTurn
all_turns all = flat_map (λ d. turns [] d.jobs.items) all

abbrev all_jobs : List WorkerJobs → List ClaimedJob
all_jobs all = flat_map (λ d. d.jobs.items) all

abbrev lists_of : List WorkerJobs → List (List Deed)
lists_of all = map (λ d. d.pass.deeds) all

all_places : (all : List WorkerJobs) → places_of (all_turns all) ≡ places (all_jobs all)
all_places [] = refl
all_places (d ∷ all) = map-append (λ t. t.claimed.job) (turns [] d.jobs.items) (all_turns all) ∙ ap (λ (ks : List ℕ). ks ++ places_of (all_turns all)) (places_turns [] d.jobs.items)
    ∙ ap (λ (ks : List ℕ). places d.jobs.items ++ ks) (all_places all) ∙ sym (map-append (λ c. c.job) d.jobs.items (all_jobs all))

-- a place of a job is claimed as often as its job was served
claim_times : (jobs j : ℕ) (ended : Option ℕ) (claims served : List ℕ) → j < jobs → ClaimsAre jobs ended claims served → times j claims ≡ times j served
claim_times jobs j None claims served low are = ap (times j) are
claim_times jobs j (Some n) claims served low are =
    ap (times j) are.0 ∙ times-append j served (n ∷ []) ∙ (let none = times-cons j n [] in let far : ◌≡◌ {A = ℕ} (cond (n == j) 1 0) 0 = apart (n == j) refl in omega (arith, none, far))
  where
    apart : (b : Bool) → (n == j) ≡ b → ◌≡◌ {A = ℕ} (cond b 1 0) 0
    apart true same = absurd (omega (arith, low, are.1, eqb-true n j same))
    apart false other = refl

all_times : (shared : Shared) (early : List LineRecord) (all : List WorkerJobs) (j : ℕ) → j < length shared.jobs → All (λ d. HasServed shared early d.pass d.jobs.items) all
    → times j (flat_map claims_of (lists_of all)) ≡ times j (places (all_jobs all))
all_times shared early [] j low each = refl
all_times shared early (d ∷ all) j low each =
    let here = All-head (λ x. HasServed shared early x.pass x.jobs.items) d all each in
    times-append j (claims_of d.pass.deeds) (flat_map claims_of (lists_of all))
    ∙ ap (λ k. k + times j (flat_map claims_of (lists_of all))) (claim_times (length shared.jobs) j d.pass.ended (claims_of d.pass.deeds) (places d.jobs.items) low here.claims)
    ∙ ap (λ k. times j (places d.jobs.items) + k) (all_times shared early all j low (All-tail (λ x. HasServed shared early x.pass x.jobs.items) d all each))
    ∙ sym (times-append j (places d.jobs.items) (places (all_jobs all))) ∙ ap (times j) (sym (map-append (λ c. c.job) d.jobs.items (all_jobs all)))

-- what holds of each worker's turns, or jobs, holds of all
gather_turns : (P : ServedTurn → Type 0) (all : List WorkerJobs) → All (λ d. All P (turns [] d.jobs.items)) all → All P (all_turns all)
gather_turns P [] each = All-nil P
gather_turns P (d ∷ all) each =
    All-append P (turns [] d.jobs.items) (all_turns all) (All-head (λ x. All P (turns [] x.jobs.items)) d all each) (gather_turns P all (All-tail (λ x. All P (turns [] x.jobs.items)) d all each))

gather_jobs : (P : ClaimedJob → Type 0) (all : List WorkerJobs) → All (λ d. All P d.jobs.items) all → All P (all_jobs all)
gather_jobs P [] each = All-nil P
gather_jobs P (d ∷ all) each = All-append P d.jobs.items (all_jobs all) (All-head (λ x. All P x.jobs.items) d all each) (gather_jobs P all (All-tail (λ x. All P x.jobs.items) d all each))

-- what holds of each job holds of its turn
of_jobs : (P : ClaimedJob → Type 0) (earlier : List LineRecord) (done : List ClaimedJob) → All P done → All (λ t. P t.claimed) (turns earlier done)
of_jobs P earlier [] each = All-nil (λ t. P t.claimed)
of_jobs P earlier (c ∷ done) each =
    All-cons (λ t. P t.claimed) (record { earlier = earlier; claimed = c }) (turns (earlier ++ c.served.lines) done) (All-head P c done each)
    (of_jobs P (earlier ++ c.served.lines) done (All-tail P c done each))

-- ---- a worker's earlier lines are of lower jobs

-- some turn of a lower job reports the word
abbrev Lower : List ServedTurn → ℕ → ℕ → ℕ → Type 0
Lower all sub word job = (u : ServedTurn) × Contains all u × (u.claimed.job < job) × (is_reported sub word u.claimed.served.lines ≡ true)

or_cases : (a b : Bool) → (a || b) ≡ true → (a ≡ true) ⊎ (b ≡ true)
or_cases true b is = inl refl
or_cases false b is = inr is

-- if a worker's earlier lines report a word, a turn of a lower job does
abbrev IsFromLower : List ServedTurn → ℕ → ℕ → ServedTurn → Type 0
IsFromLower all sub word t = is_reported sub word t.earlier ≡ true → Lower all sub word t.claimed.job

lower_from : (all : List ServedTurn) (sub word : ℕ) (earlier : List LineRecord) (done : List ClaimedJob) → AllPairs (λ b c. b.job < c.job) done
    → (is_reported sub word earlier ≡ true → All (λ c. Lower all sub word c.job) done) → All (Contains all) (turns earlier done) → All (IsFromLower all sub word) (turns earlier done)
lower_from all sub word earlier [] rising before within = All-nil (IsFromLower all sub word)
lower_from all sub word earlier (c ∷ done) rising before within =
    let t : ServedTurn = record { earlier = earlier; claimed = c } in
    All-cons (IsFromLower all sub word) t (turns (earlier ++ c.served.lines) done)
    (λ said. All-head (λ b. Lower all sub word b.job) c done (before said))
    (lower_from all sub word (earlier ++ c.served.lines) done (AllPairs-tail (λ a b. a.job < b.job) c done rising)
    (λ said. ⊎_elim
    (λ (was : is_reported sub word earlier ≡ true). All-tail (λ b. Lower all sub word b.job) c done (before was))
    (λ (now : is_reported sub word c.served.lines ≡ true). all_from (λ b. c.job < b.job) (λ b. Lower all sub word b.job) done
    (λ b above. (t, All-head (Contains all) t (turns (earlier ++ c.served.lines) done) within, above, now)) (AllPairs-head (λ a b. a.job < b.job) c done rising))
    (or_cases (is_reported sub word earlier) (is_reported sub word c.served.lines) (sym (list_any-append (reports sub word) earlier c.served.lines) ∙ said)))
    (All-tail (Contains all) t (turns (earlier ++ c.served.lines) done) within))

lower_all : (shared : Shared) (early : List LineRecord) (every : List ServedTurn) (sub word : ℕ) (all : List WorkerJobs) → All (λ d. HasServed shared early d.pass d.jobs.items) all
    → All (Contains every) (all_turns all) → All (IsFromLower every sub word) (all_turns all)
lower_all shared early every sub word [] each within = All-nil (IsFromLower every sub word)
lower_all shared early every sub word (d ∷ all) each within =
    All-append (IsFromLower every sub word) (turns [] d.jobs.items) (all_turns all)
    (lower_from every sub word [] d.jobs.items (All-head (λ x. HasServed shared early x.pass x.jobs.items) d all each).rising (λ said. let no : ⊥ = cc in absurd no)
    (all_front (Contains every) (turns [] d.jobs.items) (all_turns all) within))
    (lower_all shared early every sub word all (All-tail (λ x. HasServed shared early x.pass x.jobs.items) d all each) (all_back (Contains every) (turns [] d.jobs.items) (all_turns all) within))

-- in the jobs' order they stand before
abbrev lines_in : List ServedTurn → List LineRecord
lines_in ts = flat_map (λ t. t.claimed.served.lines) ts

reported_in : (sub word : ℕ) (ts : List ServedTurn) (u : ServedTurn) → Contains ts u → is_reported sub word u.claimed.served.lines ≡ true → is_reported sub word (lines_in ts) ≡ true
reported_in sub word [] u (k, within, at) said = absurd (omega (arith, within))
reported_in sub word (t ∷ ts) u (zero, within, at) said =
    list_any-append (reports sub word) t.claimed.served.lines (lines_in ts) ∙ ap (λ b. b || is_reported sub word (lines_in ts)) (ap (λ (x : ServedTurn). is_reported sub word x.claimed.served.lines) at ∙ said)
reported_in sub word (t ∷ ts) u (suc k, within, at) said =
    list_any-append (reports sub word) t.claimed.served.lines (lines_in ts) ∙ or_right (is_reported sub word t.claimed.served.lines) (is_reported sub word (lines_in ts)) (reported_in sub word ts u (k, omega (arith, within), at) said)
  where
    or_right : (a b : Bool) → b ≡ true → (a || b) ≡ true
    or_right true b is = refl
    or_right false b is = is

-- the first place of some in the jobs' order, and the others
place_first : (t : ServedTurn) (ts : List ServedTurn) (from count : ℕ) → places_of (t ∷ ts) ≡ up from (suc count) → t.claimed.job ≡ from
place_first t ts from count is = cc

place_rest : (t : ServedTurn) (ts : List ServedTurn) (from count : ℕ) → places_of (t ∷ ts) ≡ up from (suc count) → places_of ts ≡ up (from + 1) count
place_rest t ts from count is = cc

job_first : (c : ClaimedJob) (done : List ClaimedJob) (from count : ℕ) → places (c ∷ done) ≡ up from (suc count) → c.job ≡ from
job_first c done from count is = cc

job_rest : (c : ClaimedJob) (done : List ClaimedJob) (from count : ℕ) → places (c ∷ done) ≡ up from (suc count) → places done ≡ up (from + 1) count
job_rest c done from count is = cc

places_low : (from count : ℕ) (ts : List ServedTurn) → places_of ts ≡ up from count → All (λ t. from ≤ t.claimed.job) ts
places_low from count [] is = All-nil (λ t. from ≤ t.claimed.job)
places_low from zero (t ∷ ts) is = let no : ⊥ = cc in absurd no
places_low from (suc count) (t ∷ ts) is =
    All-cons (λ u. from ≤ u.claimed.job) t ts (omega (arith, place_first t ts from count is))
    (all_from (λ u. from + 1 ≤ u.claimed.job) (λ u. from ≤ u.claimed.job) ts (λ u low. omega (arith, low)) (places_low (from + 1) count ts (place_rest t ts from count is)))

-- the turns as pieces
abbrev pieces_in : List ServedTurn → List Piece
pieces_in ts = map (λ t. record { earlier = t.earlier; lines = t.claimed.served.lines }) ts

reports_earlier : (sub : ℕ) (front ts : List ServedTurn) (from count : ℕ) → places_of ts ≡ up from count
    → ((word : ℕ) → All (IsFromLower (front ++ ts) sub word) ts) → ReportsAreEarlier sub (lines_in front) (pieces_in ts)
reports_earlier sub front [] from count placed lower = tt
reports_earlier sub front (t ∷ ts) from zero placed lower = let no : ⊥ = cc in absurd no
reports_earlier sub front (t ∷ ts) from (suc count) placed lower = (
  (λ word said. let found = All-head (IsFromLower (front ++ t ∷ ts) sub word) t ts (lower word) said in
      ⊎_elim
      (λ (before : Contains front found.0). reported_in sub word front found.0 before found.3)
      (λ (after : Contains (t ∷ ts) found.0). absurd (omega (arith, found.2, place_first t ts from count placed, contained (λ x. from ≤ x.claimed.job) (t ∷ ts) found.0 after (places_low from (suc count) (t ∷ ts) placed))))
      (Contains-append_cases front (t ∷ ts) found.0 found.1)),
  subst (λ (ls : List LineRecord). ReportsAreEarlier sub ls (pieces_in ts))
      (flat_map-append (λ x. x.claimed.served.lines) front (t ∷ []) ∙ ap (λ (ls : List LineRecord). lines_in front ++ ls) (append-nil t.claimed.served.lines))
      (reports_earlier sub (front ++ t ∷ []) ts (from + 1) count (place_rest t ts from count placed)
      (λ word. subst (λ (all : List ServedTurn). All (IsFromLower all sub word) ts) (sym (append_assoc front (t ∷ []) ts))
      (All-tail (IsFromLower (front ++ t ∷ ts) sub word) t ts (lower word)))),
)

-- ---- USIMs that accepted nothing before

-- by these lines the USIMs of the job of a place accepted nothing
abbrev IsQuietAt : List (List Line) → List LineRecord → ℕ → Type 0
IsQuietAt jobs lines j = (job : List Line) → slice_get jobs j ≡ Some job → IsQuiet lines job

quiet_from : (shared : Shared) (early earlier : List LineRecord) (done : List ClaimedJob) → AllPairs AreApart shared.jobs → AllPairs (λ b c. b.job < c.job) done
    → All (λ c. c.job < length shared.jobs) done → All (IsGiven shared early) (turns earlier done) → All (λ c. IsQuietAt shared.jobs earlier c.job) done
    → All (λ t. IsQuietAt shared.jobs t.earlier t.claimed.job) (turns earlier done)
quiet_from shared early earlier [] apart rising below given quiet = All-nil (λ t. IsQuietAt shared.jobs t.earlier t.claimed.job)
quiet_from shared early earlier (c ∷ done) apart rising below given quiet =
    let t : ServedTurn = record { earlier = earlier; claimed = c } in
    let here = All-head (IsGiven shared early) t (turns (earlier ++ c.served.lines) done) given in
    All-cons (λ t. IsQuietAt shared.jobs t.earlier t.claimed.job) t (turns (earlier ++ c.served.lines) done) (All-head (λ b. IsQuietAt shared.jobs earlier b.job) c done quiet)
    (quiet_from shared early (earlier ++ c.served.lines) done apart (AllPairs-tail (λ a b. a.job < b.job) c done rising) (All-tail (λ b. b.job < length shared.jobs) c done below)
    (All-tail (IsGiven shared early) t (turns (earlier ++ c.served.lines) done) given)
    (both (λ b. (c.job < b.job) × (b.job < length shared.jobs)) (λ b. IsQuietAt shared.jobs earlier b.job) (λ b. IsQuietAt shared.jobs (earlier ++ c.served.lines) b.job) done
    (λ b between before job there bits sub gives. accepted-append bits sub earlier c.served.lines ∙ ap (λ (ns : List (List ℕ)). ns ++ accepted bits sub c.served.lines) (before job there bits sub gives)
    ∙ job_quiet shared.set (before_at early earlier []) shared.state.kept here.asked bits sub c.served.lines here.net here.given
    (not_given sub here.asked job (apart_at shared.jobs c.job b.job here.asked job apart between.0 between.1 here.there there) gives))
    (both (λ b. c.job < b.job) (λ b. b.job < length shared.jobs) (λ b. (c.job < b.job) × (b.job < length shared.jobs)) done (λ b low high. (low, high)) (AllPairs-head (λ a b. a.job < b.job) c done rising)
    (All-tail (λ b. b.job < length shared.jobs) c done below))
    (All-tail (λ b. IsQuietAt shared.jobs earlier b.job) c done quiet)))

-- ---- in the jobs' order each turn is what its job gives

some_job : (a b : List Line) → Some a ≡ Some b → a ≡ b
some_job a b e = cc

-- the jobs from a place on
abbrev AreJobsFrom : List (List Line) → List (List Line) → ℕ → Type 0
AreJobsFrom all jobs from = (i : ℕ) (job : List Line) → slice_get all (from + i) ≡ Some job → slice_get jobs i ≡ Some job

first_job : (all jobs : List (List Line)) (job asked : List Line) (from place : ℕ) → AreJobsFrom all (job ∷ jobs) from → place ≡ from → slice_get all place ≡ Some asked → job ≡ asked
first_job all jobs job asked from place reads is there =
    some_job job asked (reads 0 asked (ap (slice_get all) (let at : from + 0 ≡ place = omega (arith, is) in at) ∙ there))

jobs_on : (all jobs : List (List Line)) (job : List Line) (from : ℕ) → AreJobsFrom all (job ∷ jobs) from → AreJobsFrom all jobs (from + 1)
jobs_on all jobs job from reads i next at = reads (suc i) next (ap (slice_get all) (let there : from + suc i ≡ from + 1 + i = omega arith in there) ∙ at)

pieces_give : (shared : Shared) (early : List LineRecord) (jobs : List (List Line)) (ts : List ServedTurn) (from : ℕ) → places_of ts ≡ up from (length jobs) → AreJobsFrom shared.jobs jobs from
    → All (IsGiven shared early) ts → All (λ t. IsQuietAt shared.jobs t.earlier t.claimed.job) ts
    → (nets : List Net) × PiecesGive shared.set early shared.state.kept jobs (pieces_in ts) nets × (map (λ t. t.claimed.served.sessions) ts ≡ map job_sessions nets)
    × (map (λ t. left_on t.claimed.served.devices) ts ≡ map left_in nets)
pieces_give shared early [] [] from placed reads given quiet = ([], (refl, refl), refl, refl)
pieces_give shared early [] (t ∷ ts) from placed reads given quiet = let no : ⊥ = cc in absurd no
pieces_give shared early (job ∷ jobs) [] from placed reads given quiet = let no : ⊥ = cc in absurd no
pieces_give shared early (job ∷ jobs) (t ∷ ts) from placed reads given quiet =
    let here = All-head (IsGiven shared early) t ts given in
    let same : job ≡ here.asked = first_job shared.jobs jobs job here.asked from t.claimed.job reads (place_first t ts from (length jobs) placed) here.there in
    let (nets, more, ends, left) = pieces_give shared early jobs ts (from + 1) (place_rest t ts from (length jobs) placed) (jobs_on shared.jobs jobs job from reads)
    (All-tail (IsGiven shared early) t ts given) (All-tail (λ x. IsQuietAt shared.jobs x.earlier x.claimed.job) t ts quiet) in (
      here.net ∷ nets,
      (
        subst (λ (x : List Line). IsQuiet t.earlier x) (sym same) (All-head (λ x. IsQuietAt shared.jobs x.earlier x.claimed.job) t ts quiet here.asked here.there),
        subst (λ (x : List Line). JobGives shared.set (before_at early t.earlier []) (start_of shared.set shared.state.kept x) x t.claimed.served.lines here.net) (sym same) here.given,
        more,
      ),
      ap (λ (j : JobSessions). j ∷ map (λ (x : ServedTurn). x.claimed.served.sessions) ts) here.ends ∙ ap (λ (js : List JobSessions). job_sessions here.net ∷ js) ends,
      ap (λ (l : List HomeRow × List Keeps). l ∷ map (λ (x : ServedTurn). left_on x.claimed.served.devices) ts) here.left
          ∙ ap (λ (ls : List (List HomeRow × List Keeps)). left_in here.net ∷ ls) left,
    )

-- ---- and its USIMs are settled

settled_all : (shared : Shared) (early : List LineRecord) (jobs : List (List Line)) (done : List ClaimedJob) (from : ℕ) → places done ≡ up from (length jobs) → AreJobsFrom shared.jobs jobs from
    → All (IsSettledAt shared early) done → AreSettled shared.set.rows early jobs (map (λ c. c.served.lines) done) (map (λ c. c.served.devices) done)
settled_all shared early [] [] from placed reads settled = (refl, refl)
settled_all shared early [] (c ∷ done) from placed reads settled = let no : ⊥ = cc in absurd no
settled_all shared early (job ∷ jobs) [] from placed reads settled = let no : ⊥ = cc in absurd no
settled_all shared early (job ∷ jobs) (c ∷ done) from placed reads settled =
    let here = All-head (IsSettledAt shared early) c done settled in
    let same : job ≡ here.asked = first_job shared.jobs jobs job here.asked from c.job reads (job_first c done from (length jobs) placed) here.there in (
      subst (λ (x : List Line). IsSettled shared.set.rows early x c.served.lines (usim_in c.served.devices)) (sym same) here.settled,
      settled_all shared early jobs done (from + 1) (job_rest c done from (length jobs) placed) (jobs_on shared.jobs jobs job from reads) (All-tail (IsSettledAt shared early) c done settled),
    )

-- ---- the sorted jobs have the lines of the turns in that order

counts : (j : ℕ) (done : List ClaimedJob) → sum_by (λ c. cond (c.job == j) 1 0) done ≡ times j (places done)
counts j [] = refl
counts j (c ∷ done) = sum_by-cons (λ x. cond (x.job == j) 1 0) c done ∙ ap (λ k. cond (c.job == j) 1 0 + k) (counts j done) ∙ sym (times-cons j c.job (places done))

same_jobs : {X : Type 0} (f : ClaimedJob → X) (all : List ClaimedJob) (ts : List ServedTurn) (done : List ClaimedJob) (from count : ℕ) → ((j : ℕ) → times j (places all) ≤ 1) → places_of ts ≡ up from count → places done ≡ up from count
    → All (λ t. Contains all t.claimed) ts → All (Contains all) done → map (λ t. f t.claimed) ts ≡ map f done
same_jobs f all [] [] from count once placed sorted has in_all = refl
same_jobs f all [] (c ∷ done) from zero once placed sorted has in_all = let no : ⊥ = cc in absurd no
same_jobs f all [] (c ∷ done) from (suc count) once placed sorted has in_all = let no : ⊥ = cc in absurd no
same_jobs f all (t ∷ ts) [] from zero once placed sorted has in_all = let no : ⊥ = cc in absurd no
same_jobs f all (t ∷ ts) [] from (suc count) once placed sorted has in_all = let no : ⊥ = cc in absurd no
same_jobs f all (t ∷ ts) (c ∷ done) from zero once placed sorted has in_all = let no : ⊥ = cc in absurd no
same_jobs {X = X} f all (t ∷ ts) (c ∷ done) from (suc count) once placed sorted has in_all =
    let key : t.claimed.job ≡ from = place_first t ts from count placed in
    let other : c.job ≡ from = job_first c done from count sorted in
    let same : t.claimed ≡ c = alone (λ b. cond (b.job == from) 1 0) all t.claimed c (omega (arith, once from, counts from all))
    (All-head (λ x. Contains all x.claimed) t ts has) (All-head (Contains all) c done in_all)
    (omega (arith, ap {B = ℕ} (λ b. cond b 1 0) (eq-eqb t.claimed.job from key))) (omega (arith, ap {B = ℕ} (λ b. cond b 1 0) (eq-eqb c.job from other))) in
    ap (λ (b : ClaimedJob). f b ∷ map (λ x. f x.claimed) ts) same
    ∙ ap (λ (ls : List X). f c ∷ ls) (same_jobs f all ts done (from + 1) count once (place_rest t ts from count placed) (job_rest c done from count sorted)
    (All-tail (λ x. Contains all x.claimed) t ts has) (All-tail (Contains all) c done in_all))

-- ---- the entries

-- the passes' entries are those of the turns
entries_all : (shared : Shared) (early : List LineRecord) (sub : ℕ) (all : List WorkerJobs) → All (λ d. HasServed shared early d.pass d.jobs.items) all
    → all_entries (map (entries_of sub) (lists_of all)) ≡ flat_map (entries_of_turn sub) (all_turns all)
entries_all shared early sub [] each = refl
entries_all shared early sub (d ∷ all) each =
    ap (λ (es : List Entry). es ++ all_entries (map (entries_of sub) (lists_of all))) ((All-head (λ x. HasServed shared early x.pass x.jobs.items) d all each).made sub)
    ∙ ap (λ (es : List Entry). flat_map (entries_of_turn sub) (turns [] d.jobs.items) ++ es) (entries_all shared early sub all (All-tail (λ x. HasServed shared early x.pass x.jobs.items) d all each))
    ∙ sym (flat_map-append (entries_of_turn sub) (turns [] d.jobs.items) (all_turns all))

entries_in : (sub : ℕ) (ts : List ServedTurn) → flat_map (entries_of_turn sub) ts ≡ all_entries (entries_of_pieces sub (pieces_in ts))
entries_in sub [] = refl
entries_in sub (t ∷ ts) = ap (λ (es : List Entry). entries_of_turn sub t ++ es) (entries_in sub ts)

orders_in : (sub : ℕ) (ts : List ServedTurn) → All (λ t. IsInOrder (entries_of_turn sub t)) ts → All IsInOrder (entries_of_pieces sub (pieces_in ts))
orders_in sub [] each = All-nil IsInOrder
orders_in sub (t ∷ ts) each =
    All-cons IsInOrder (entries_of_turn sub t) (entries_of_pieces sub (pieces_in ts)) (All-head (λ x. IsInOrder (entries_of_turn sub x)) t ts each) (orders_in sub ts (All-tail (λ x. IsInOrder (entries_of_turn sub x)) t ts each))

lines_pieces : (ts : List ServedTurn) → lines_of_pieces (pieces_in ts) ≡ map (λ t. t.claimed.served.lines) ts
lines_pieces [] = refl
lines_pieces (t ∷ ts) = ap (λ (ls : List (List LineRecord)). t.claimed.served.lines ∷ ls) (lines_pieces ts)

-- ---- the assembly

-- the passes' lists
pub lists_are : (all : List WorkerJobs) (passes : List PassValue) → passes ≡ map (λ d. d.pass) all → map (λ p. p.deeds) passes ≡ lists_of all
lists_are all passes is = ap (map (λ (p : PassValue). p.deeds)) is ∙ twice all
  where
    twice : (ds : List WorkerJobs) → map (λ (p : PassValue). p.deeds) (map (λ (d : WorkerJobs). d.pass) ds) ≡ map (λ (d : WorkerJobs). d.pass.deeds) ds
    twice [] = refl
    twice (d ∷ ds) = ap (λ (ls : List (List Deed)). d.pass.deeds ∷ ls) (twice ds)

-- the last claim of a worker is one of all claims
last_of_all : (jobs : ℕ) (all : List WorkerJobs) → 1 ≤ length all → All (λ d. IsLast jobs (claims_of d.pass.deeds)) all → IsLast jobs (flat_map claims_of (lists_of all))
last_of_all jobs [] some each = absurd (omega (arith, some))
last_of_all jobs (d ∷ all) some each = ⊎_elim (λ (none : jobs ≡ 0). inl none)
    (λ (any : Any (λ n. jobs ≤ n + 1) (claims_of d.pass.deeds)). inr (any_front (λ n. jobs ≤ n + 1) (claims_of d.pass.deeds) (flat_map claims_of (lists_of all)) any))
    (All-head (λ x. IsLast jobs (claims_of x.pass.deeds)) d all each)

none_above : (n j : ℕ) (done : List ClaimedJob) → n ≤ j → All (λ c. c.job < n) done → times j (places done) ≡ 0
none_above n j [] high each = refl
none_above n j (c ∷ done) high each =
    omega (arith, times-cons j c.job (places done), none_above n j done high (All-tail (λ b. b.job < n) c done each), apart (c.job == j) refl)
  where
    apart : (b : Bool) → (c.job == j) ≡ b → ◌≡◌ {A = ℕ} (cond b 1 0) 0
    apart true same = absurd (omega (arith, high, eqb-true c.job j same, All-head (λ b. b.job < n) c done each))
    apart false other = refl

-- ---- limits

-- what each worker's jobs release and withhold is so by the limit, if what its pass released and withheld is
workers_limited : (shared : Shared) (early : List LineRecord) (sub limit : ℕ) (stop : Option Stop) (all : List WorkerJobs) → All (λ d. HasServed shared early d.pass d.jobs.items) all
    → All (λ deeds. All (λ n. n ≤ limit) (released_of sub deeds)) (lists_of all) → All (λ deeds. All (λ held. (limit < held.0) × (stop ≡ Some held.1)) (pass_held sub deeds)) (lists_of all)
    → All (λ d. All (λ c. AreLimited sub limit stop c.served.lines) d.jobs.items) all
workers_limited shared early sub limit stop [] served low high = All-nil (λ d. All (λ c. AreLimited sub limit stop c.served.lines) d.jobs.items)
workers_limited shared early sub limit stop (d ∷ all) served low high =
    All-cons (λ d. All (λ c. AreLimited sub limit stop c.served.lines) d.jobs.items) d all here
    (workers_limited shared early sub limit stop all (All-tail (λ d. HasServed shared early d.pass d.jobs.items) d all served)
    (All-tail (λ deeds. All (λ n. n ≤ limit) (released_of sub deeds)) d.pass.deeds (lists_of all) low)
    (All-tail (λ deeds. All (λ held. (limit < held.0) × (stop ≡ Some held.1)) (pass_held sub deeds)) d.pass.deeds (lists_of all) high))
  where
    own : HasServed shared early d.pass d.jobs.items
    own = All-head (λ d. HasServed shared early d.pass d.jobs.items) d all served

    lows : All (λ n. n ≤ limit) (released_of sub d.pass.deeds)
    lows = All-head (λ deeds. All (λ n. n ≤ limit) (released_of sub deeds)) d.pass.deeds (lists_of all) low

    highs : All (λ held. (limit < held.0) × (stop ≡ Some held.1)) (pass_held sub d.pass.deeds)
    highs = All-head (λ deeds. All (λ held. (limit < held.0) × (stop ≡ Some held.1)) (pass_held sub deeds)) d.pass.deeds (lists_of all) high

    here : All (λ c. AreLimited sub limit stop c.served.lines) d.jobs.items
    here = λ k c within. record {
      releases = λ i n inside. contained (λ n. n ≤ limit) (released_of sub d.pass.deeds) _ (own.released sub k c within i n inside) lows;
      withholds = λ i held inside. contained (λ held. (limit < held.0) × (stop ≡ Some held.1)) (pass_held sub d.pass.deeds) _ (own.withheld sub k c within i held inside) highs;
    }

-- the lines of a worker's jobs name subscribers
own_turns : (shared : Shared) (early earlier : List LineRecord) (done : List ClaimedJob) → AreAllKnown shared.set.rows shared.jobs → All (IsGiven shared early) (turns earlier done)
    → All (λ c. All (IsOwn shared.set.rows) c.served.lines) done
own_turns shared early earlier [] known given = All-nil (λ c. All (IsOwn shared.set.rows) c.served.lines)
own_turns shared early earlier (c ∷ done) known given =
    let t : ServedTurn = record { earlier = earlier; claimed = c } in
    let here = All-head (IsGiven shared early) t (turns (earlier ++ c.served.lines) done) given in
    All-cons (λ c. All (IsOwn shared.set.rows) c.served.lines) c done
    (job_own shared.set (before_at early earlier []) (start_of shared.set shared.state.kept here.asked) here.net here.asked c.served.lines (all_at (AreKnown shared.set.rows) shared.jobs c.job here.asked known here.there) here.given)
    (own_turns shared early (earlier ++ c.served.lines) done known (All-tail (IsGiven shared early) t (turns (earlier ++ c.served.lines) done) given))

-- a book that was closed, by its openings and greatest numbers
pub record IsClosed (rows : List Row) (openings : List ℕ) (book : BookValue) (keeper : KeeperValue) (lists : List (List Deed)) (closed : ClosedValue) : Type 0 where
  pub numbers : book.openings ≡ openings
  pub tops : book.tops ≡ tops_of rows
  pub closes : Closes book lists keeper closed

-- the lists split a history of each subscriber
closed_splits : (rows : List Row) (openings : List ℕ) (book : BookValue) (keeper : KeeperValue) (lists : List (List Deed)) (closed : ClosedValue) → IsClosed rows openings book keeper lists closed → (sub : ℕ) → sub < length openings
    → Splits (top_at rows sub) (slice_index openings sub) (slice_index closed.words sub) (map (entries_of sub) lists)
closed_splits rows openings book keeper lists closed is sub known =
    let P : List ℕ → Type 0 = λ os. sub < length os → Splits (top_at rows sub) (slice_index os sub) (slice_index closed.words sub) (map (entries_of sub) lists) in
    let Q : List ℕ → Type 0 = λ ts. sub < length book.openings → Splits (slice_index ts sub) (slice_index book.openings sub) (slice_index closed.words sub) (map (entries_of sub) lists) in
    subst P is.numbers (subst Q is.tops (is.closes.splits sub)) known

-- what all workers come to, and the book that was closed after them
pub record Assembles (shared : Shared) (early : List LineRecord) (openings : List ℕ) (book : BookValue) (keeper : KeeperValue) (all : List WorkerJobs) (closed : ClosedValue) (sorted : List ClaimedJob) : Type 0 where
  pub recut : RecutSplitIsASplit
  pub some : 1 ≤ length all
  pub served : All (λ d. HasServed shared early d.pass d.jobs.items) all
  pub last : All (λ d. IsLast (length shared.jobs) (claims_of d.pass.deeds)) all
  pub closes : IsClosed shared.set.rows openings book keeper (lists_of all) closed
  pub same : IsPermutation (all_jobs all) sorted
  pub rising : AllPairs (λ b c. b.job ≤ c.job) sorted
  pub apart : AllPairs AreApart shared.jobs
  pub known : AreAllKnown shared.set.rows shared.jobs
  pub sized : length openings ≡ length shared.set.rows

module _ (shared : Shared) (early : List LineRecord) (openings : List ℕ) (book : BookValue) (keeper : KeeperValue) (all : List WorkerJobs) (closed : ClosedValue) (sorted : List ClaimedJob) (a : Assembles shared early openings book keeper all closed sorted) where
  abbrev n : ℕ
  n = length shared.jobs

  abbrev ts : List ServedTurn
  ts = all_turns all

  -- what holds of each worker's jobs, or turns, holds of all
  of_all_jobs : (P : ClaimedJob → Type 0) → ((d : WorkerJobs) → HasServed shared early d.pass d.jobs.items → All P d.jobs.items) → All P (all_jobs all)
  of_all_jobs P f = gather_jobs P all (all_from (λ d. HasServed shared early d.pass d.jobs.items) (λ d. All P d.jobs.items) all f a.served)

  of_all_turns : (P : ServedTurn → Type 0) → ((d : WorkerJobs) → HasServed shared early d.pass d.jobs.items → All P (turns [] d.jobs.items)) → All P ts
  of_all_turns P f = gather_turns P all (all_from (λ d. HasServed shared early d.pass d.jobs.items) (λ d. All P (turns [] d.jobs.items)) all f a.served)

  below_jobs : All (λ c. c.job < n) (all_jobs all)
  below_jobs = of_all_jobs (λ c. c.job < n) (λ d s. s.below)

  once_jobs : (j : ℕ) → j < n → times j (places (all_jobs all)) ≡ 1
  once_jobs j low = sym (all_times shared early all j low a.served) ∙ each_job_is_claimed_once book (lists_of all) keeper closed n a.closes.closes (last_of_all n all a.some a.last) j low

  once_turns : (j : ℕ) → j < n → times j (places_of ts) ≡ 1
  once_turns j low = ap (times j) (all_places all) ∙ once_jobs j low

  in_place : Placed n ts
  in_place = placed n ts once_turns (of_all_turns (λ t. t.claimed.job < n) (λ d s. of_jobs (λ c. c.job < n) [] d.jobs.items s.below))

  abbrev os : List ServedTurn
  os = in_place.ordered

  times_same : (j : ℕ) → times j (places sorted) ≡ times j (places (all_jobs all))
  times_same j = sym (counts j sorted) ∙ sum_by-IsPermutation (λ c. cond (c.job == j) 1 0) (all_jobs all) sorted a.same ∙ counts j (all_jobs all)

  at_most : (j : ℕ) → times j (places sorted) ≤ 1
  at_most j = ⊎_elim (λ (low : j < n). omega (arith, times_same j, once_jobs j low)) (λ (high : n ≤ j). omega (arith, times_same j, none_above n j (all_jobs all) high below_jobs)) (sides j n)
    where
      sides : (i m : ℕ) → (i < m) ⊎ (m ≤ i)
      sides i zero = inr (omega arith)
      sides zero (suc m) = inl (omega arith)
      sides (suc i) (suc m) = ⊎_elim (λ (low : i < m). inl (omega (arith, low))) (λ (high : m ≤ i). inr (omega (arith, high))) (sides i m)

  sorted_places : places sorted ≡ up 0 n
  sorted_places = sorted_up 0 n sorted a.rising (λ j low high. times_same j ∙ once_jobs j (omega (arith, high)))
      (all_from (λ c. c.job < n) (λ c. (0 ≤ c.job) × (c.job < 0 + n)) sorted (λ c under. (omega arith, omega (arith, under))) (All-permutation (λ c. c.job < n) (all_jobs all) sorted a.same below_jobs))

  jobs_first : AreJobsFrom shared.jobs shared.jobs 0
  jobs_first i job at = ap (slice_get shared.jobs) (let here : i ≡ 0 + i = omega arith in here) ∙ at

  -- each turn's job is among the sorted ones
  turns_sorted : All (λ t. Contains sorted t.claimed) os
  turns_sorted = All-permutation (λ t. Contains sorted t.claimed) ts os in_place.same
      (all_from (λ t. Contains (all_jobs all) t.claimed) (λ t. Contains sorted t.claimed) ts (λ t has. Contains-permutation (all_jobs all) sorted t.claimed a.same has) (contain_in all (all_has (all_jobs all))))
    where
      contain_in : (ds : List WorkerJobs) → All (Contains (all_jobs all)) (all_jobs ds) → All (λ t. Contains (all_jobs all) t.claimed) (all_turns ds)
      contain_in [] within = All-nil (λ t. Contains (all_jobs all) t.claimed)
      contain_in (d ∷ ds) within =
          All-append (λ t. Contains (all_jobs all) t.claimed) (turns [] d.jobs.items) (all_turns ds)
          (of_jobs (Contains (all_jobs all)) [] d.jobs.items (all_front (Contains (all_jobs all)) d.jobs.items (all_jobs ds) within))
          (contain_in ds (all_back (Contains (all_jobs all)) d.jobs.items (all_jobs ds) within))

  lines_same : map (λ c. c.served.lines) sorted ≡ lines_of_pieces (pieces_in os)
  lines_same = sym (lines_pieces os ∙ same_jobs (λ c. c.served.lines) sorted os sorted 0 n at_most in_place.keyed sorted_places turns_sorted (all_has sorted))

  given : All (IsGiven shared early) os
  given = All-permutation (IsGiven shared early) ts os in_place.same (of_all_turns (IsGiven shared early) (λ d s. s.given))

  quiet : All (λ t. IsQuietAt shared.jobs t.earlier t.claimed.job) os
  quiet = All-permutation (λ t. IsQuietAt shared.jobs t.earlier t.claimed.job) ts os in_place.same (of_all_turns (λ t. IsQuietAt shared.jobs t.earlier t.claimed.job)
      (λ d s. quiet_from shared early [] d.jobs.items a.apart s.rising s.below s.given (λ k c within job there bits sub gives. refl)))

  lower : (sub word : ℕ) → All (IsFromLower os sub word) os
  lower sub word = all_from (IsFromLower ts sub word) (IsFromLower os sub word) os
      (λ t before said. let u = before said in (u.0, Contains-permutation ts os u.0 in_place.same u.1, u.2, u.3))
      (All-permutation (IsFromLower ts sub word) ts os in_place.same (lower_all shared early ts sub word all a.served (all_has ts)))

  split : (sub : ℕ) → sub < length openings → Splits (top_at shared.set.rows sub) (slice_index openings sub) (slice_index closed.words sub) (entries_of_pieces sub (pieces_in os))
  split sub known = a.recut (top_at shared.set.rows sub) (slice_index openings sub) (slice_index closed.words sub) (map (entries_of sub) (lists_of all)) (entries_of_pieces sub (pieces_in os)) (closed_splits shared.set.rows openings book keeper (lists_of all) closed a.closes sub known)
      (subst (λ (es : List Entry). IsPermutation es (all_entries (entries_of_pieces sub (pieces_in os)))) (sym (entries_all shared early sub all a.served))
      (subst (λ (es : List Entry). IsPermutation (flat_map (entries_of_turn sub) ts) es) (entries_in sub os) (in_place.flat (entries_of_turn sub))))
      (orders_in sub os (All-permutation (λ t. IsInOrder (entries_of_turn sub t)) ts os in_place.same (of_all_turns (λ t. IsInOrder (entries_of_turn sub t)) (λ d s. s.ordered sub))))

  gave : (nets : List Net) × PiecesGive shared.set early shared.state.kept shared.jobs (pieces_in os) nets × (map (λ t. t.claimed.served.sessions) os ≡ map job_sessions nets)
      × (map (λ t. left_on t.claimed.served.devices) os ≡ map left_in nets)
  gave = pieces_give shared early shared.jobs os 0 in_place.keyed jobs_first given quiet

  -- its lines name its subscribers
  own : All (IsOwn shared.set.rows) (all_lines (map (λ c. c.served.lines) sorted))
  own = flat_lines (IsOwn shared.set.rows) sorted
      (All-permutation (λ c. All (IsOwn shared.set.rows) c.served.lines) (all_jobs all) sorted a.same
      (of_all_jobs (λ c. All (IsOwn shared.set.rows) c.served.lines) (λ d s. own_turns shared early [] d.jobs.items a.known s.given)))

  pub assembled : AreServed shared.set early shared.state.kept openings shared.jobs (map (λ c. c.served.lines) sorted) (map (λ c. c.served.devices) sorted) (map (λ c. c.served.sessions) sorted) closed.words
  assembled = record {
    pieces = record {
      pieces = pieces_in os;
      lines = lines_same;
      nets = gave.0;
      give = gave.1;
      ends = sym (same_jobs (λ c. c.served.sessions) sorted os sorted 0 n at_most in_place.keyed sorted_places turns_sorted (all_has sorted)) ∙ gave.2;
      left = lefts sorted ∙ sym (same_jobs (λ c. left_on c.served.devices) sorted os sorted 0 n at_most in_place.keyed sorted_places turns_sorted (all_has sorted)) ∙ gave.3;
      reports = λ sub. reports_earlier sub [] os 0 n in_place.keyed (λ word. lower sub word);
      split = split;
    };
    settled = settled_all shared early shared.jobs sorted 0 sorted_places jobs_first
        (All-permutation (IsSettledAt shared early) (all_jobs all) sorted a.same (of_all_jobs (IsSettledAt shared early) (λ d s. s.settled)));
    size = a.closes.closes.many ∙ ap (λ (ns : List ℕ). length ns) a.closes.numbers;
    numbers = λ sub. numbers_within shared.set.rows sub (all_lines (map (λ c. c.served.lines) sorted)) own;
  }
    where
      lefts : (done : List ClaimedJob) → map left_on (map (λ c. c.served.devices) done) ≡ map (λ c. left_on c.served.devices) done
      lefts [] = refl
      lefts (c ∷ done) = ap (λ (ls : List (List HomeRow × List Keeps)). left_on c.served.devices ∷ ls) (lefts done)

  in_book : (sub : ℕ) → sub < length shared.set.rows → sub < length book.openings
  in_book sub known = let numbers = ap (λ (ns : List ℕ). length ns) a.closes.numbers in let sized = a.sized in omega (arith, known, numbers, sized)

  -- what they release and withhold of a subscriber is so by its limit
  limited : (sub : ℕ) → sub < length shared.set.rows
      → AreLimited sub (slice_index keeper.limits sub) keeper.stop (all_lines (map (λ c. c.served.lines) sorted))
  limited sub known =
      let limit = slice_index keeper.limits sub in
      let P : ClaimedJob → Type 0 = λ c. AreLimited sub limit keeper.stop c.served.lines in
      flat_limited sub limit keeper.stop sorted
      (All-permutation P (all_jobs all) sorted a.same
      (gather_jobs P all (workers_limited shared early sub limit keeper.stop all a.served (a.closes.closes.released sub (in_book sub known)) (a.closes.closes.withheld sub (in_book sub known)))))

  pub by_limits : GoesByLimits shared.set (told_stop keeper.stop (map (λ c. c.served.lines) sorted)) (map (λ c. c.served.lines) sorted) book.limits closed.words keeper.limits
  by_limits = record {
    raises = record {
      step = λ sub known. a.closes.closes.step sub (in_book sub known);
      released = λ sub known. (limited sub known).releases;
      near = λ sub known. a.closes.closes.near sub (in_book sub known);
      within = λ sub known. a.closes.closes.within sub (in_book sub known);
    };
    withholds = withholds_told keeper.stop (map (λ c. c.served.lines) sorted)
        (withholds_by keeper.stop shared.set.rows (all_lines (map (λ c. c.served.lines) sorted)) (slice_index keeper.limits) own limited);
    above = λ sub known. above_limit sub (slice_index keeper.limits sub) keeper.stop (all_lines (map (λ c. c.served.lines) sorted)) (limited sub known);
    full = full_holds keeper.stop shared.set.rows (map (λ c. c.served.lines) sorted) (slice_index keeper.limits) own limited;
  }

  -- the printed vectors of the sorted jobs
  pub all_printed : All (λ c. IsPrinted shared c.served) sorted
  all_printed = All-permutation (λ c. IsPrinted shared c.served) (all_jobs all) sorted a.same (of_all_jobs (λ c. IsPrinted shared c.served) (λ d s. s.printed))

-- what a worker that had the memory owes
abbrev HasFinishedAt : Shared → List LineRecord → WorkerJobs → Type 0
HasFinishedAt shared early d = HasServed shared early d.pass d.jobs.items × IsLast (length shared.jobs) (claims_of d.pass.deeds)

-- what the calls of a round say
pub record Closing (id : TableId) (shared : Shared) (openings : List ℕ) (book : BookValue) (keeper : KeeperValue) (all : List WorkerJobs) (passes : List PassValue) (closed : ClosedValue) (done sorted : List ClaimedJob) : Type 0 where
  pub recut : RecutSplitIsASplit
  pub some : 1 ≤ length all
  pub finished : All (IsDone id book.tops shared) all
  pub collected : AreCollected all passes done
  pub closes : IsClosed shared.set.rows openings book keeper (map (λ p. p.deeds) passes) closed
  pub same : IsPermutation done sorted
  pub rising : AllPairs (λ b c. b.job ≤ c.job) sorted
  pub apart : AllPairs AreApart shared.jobs
  pub known : AreAllKnown shared.set.rows shared.jobs
  pub sized : length openings ≡ length shared.set.rows

assembles : (id : TableId) (shared : Shared) (openings : List ℕ) (book : BookValue) (keeper : KeeperValue) (all : List WorkerJobs) (passes : List PassValue) (closed : ClosedValue) (done sorted : List ClaimedJob)
    → Closing id shared openings book keeper all passes closed done sorted → (early : List LineRecord) → IsAfter shared early → Assembles shared early openings book keeper all closed sorted
assembles id shared openings book keeper all passes closed done sorted c early begins =
    let finish : All (HasFinishedAt shared early) all = both (IsDone id book.tops shared) (λ d. d.is_whole ≡ true) (HasFinishedAt shared early) all
    (λ d is whole. ((is.whole whole).served early begins, (is.whole whole).last)) c.finished c.collected.whole in
    record {
      recut = c.recut;
      some = c.some;
      served = all_from (HasFinishedAt shared early) (λ d. HasServed shared early d.pass d.jobs.items) all (λ d f. f.0) finish;
      last = all_from (HasFinishedAt shared early) (λ d. IsLast (length shared.jobs) (claims_of d.pass.deeds)) all (λ d f. f.1) finish;
      closes = subst (λ (ls : List (List Deed)). IsClosed shared.set.rows openings book keeper ls closed) (lists_are all passes c.collected.passed) c.closes;
      same = subst (λ (cs : List ClaimedJob). IsPermutation cs sorted) c.collected.served c.same;
      rising = c.rising;
      apart = c.apart;
      known = c.known;
      sized = c.sized;
    }

-- the round is served
pub served_by_workers : (id : TableId) (shared : Shared) (openings : List ℕ) (book : BookValue) (keeper : KeeperValue) (all : List WorkerJobs) (passes : List PassValue) (closed : ClosedValue) (done sorted : List ClaimedJob) (records : List (List LineRecord)) (usims : List OwnDevices) (sessions : List JobSessions) (words : List ℕ)
    → Closing id shared openings book keeper all passes closed done sorted → records ≡ map (λ c. c.served.lines) sorted → usims ≡ map (λ c. c.served.devices) sorted → sessions ≡ map (λ c. c.served.sessions) sorted → words ≡ closed.words
    → (early : List LineRecord) → IsAfter shared early → AreServed shared.set early shared.state.kept openings shared.jobs records usims sessions words
served_by_workers id shared openings book keeper all passes closed done sorted records usims sessions words c lines own came ends early begins =
    subst (λ (ws : List ℕ). AreServed shared.set early shared.state.kept openings shared.jobs records usims sessions ws) (sym ends)
    (subst (λ (js : List JobSessions). AreServed shared.set early shared.state.kept openings shared.jobs records usims js closed.words) (sym came)
    (subst (λ (us : List OwnDevices). AreServed shared.set early shared.state.kept openings shared.jobs records us (map (λ c. c.served.sessions) sorted) closed.words) (sym own)
    (subst (λ (rs : List (List LineRecord)). AreServed shared.set early shared.state.kept openings shared.jobs rs (map (λ c. c.served.devices) sorted) (map (λ c. c.served.sessions) sorted) closed.words) (sym lines)
    (assembled shared early openings book keeper all closed sorted (assembles id shared openings book keeper all passes closed done sorted c early begins)))))

-- the limits that its lines go by
pub limited_by_workers : (id : TableId) (shared : Shared) (openings : List ℕ) (book : BookValue) (keeper : KeeperValue) (all : List WorkerJobs) (passes : List PassValue) (closed : ClosedValue) (done sorted : List ClaimedJob) (records : List (List LineRecord)) (words : List ℕ) (stop : Option Stop)
    → Closing id shared openings book keeper all passes closed done sorted → IsServable shared → records ≡ map (λ c. c.served.lines) sorted → words ≡ closed.words → stop ≡ keeper.stop
    → GoesByLimits shared.set (told_stop stop records) records book.limits words keeper.limits
limited_by_workers id shared openings book keeper all passes closed done sorted records words stop c servable lines ends why =
    let (early, begins) = servable.begins in
    subst (λ (s : Option Stop). GoesByLimits shared.set (told_stop s records) records book.limits words keeper.limits) (sym why)
    (subst (λ (ws : List ℕ). GoesByLimits shared.set (told_stop keeper.stop records) records book.limits ws keeper.limits) (sym ends)
    (subst (λ (rs : List (List LineRecord)). GoesByLimits shared.set (told_stop keeper.stop rs) rs book.limits closed.words keeper.limits) (sym lines)
    (by_limits shared early openings book keeper all closed sorted (assembles id shared openings book keeper all passes closed done sorted c early begins))))

-- the vectors of a full print
printed_in : (shared : Shared) (sorted : List ClaimedJob) → shared.full ≡ true → All (λ c. IsPrinted shared c.served) sorted → map (λ c. c.served.vectors) sorted ≡ map (vectors_in shared.set) (map (λ c. c.served.lines) sorted)
printed_in shared [] full each = refl
printed_in shared (c ∷ sorted) full each =
    ap (λ (v : List AuthVector). v ∷ map (λ b. b.served.vectors) sorted) (All-head (λ b. IsPrinted shared b.served) c sorted each ∙ ap (λ (b : Bool). if b then vectors_in shared.set c.served.lines else []) full)
    ∙ ap (λ (vs : List (List AuthVector)). vectors_in shared.set c.served.lines ∷ vs) (printed_in shared sorted full (All-tail (λ b. IsPrinted shared b.served) c sorted each))

pub printed_by_workers : (id : TableId) (shared : Shared) (openings : List ℕ) (book : BookValue) (keeper : KeeperValue) (all : List WorkerJobs) (passes : List PassValue) (closed : ClosedValue) (done sorted : List ClaimedJob) (records : List (List LineRecord)) (vectors : List (List AuthVector)) (full : Bool)
    → Closing id shared openings book keeper all passes closed done sorted → IsServable shared → full ≡ shared.full → records ≡ map (λ c. c.served.lines) sorted → vectors ≡ (if full then map (λ c. c.served.vectors) sorted else [])
    → vectors ≡ (if shared.full then map (vectors_in shared.set) records else [])
printed_by_workers id shared openings book keeper all passes closed done sorted records vectors full c servable same lines are =
    are ∙ ap (λ (b : Bool). if b then map (λ c. c.served.vectors) sorted else []) same ∙ by shared.full refl
    ∙ ap (λ (rs : List (List LineRecord)). if shared.full then map (vectors_in shared.set) rs else []) (sym lines)
  where
    each : All (λ c. IsPrinted shared c.served) sorted
    each =
        let (early, begins) = servable.begins in
        all_printed shared early openings book keeper all closed sorted (assembles id shared openings book keeper all passes closed done sorted c early begins)

    by : (b : Bool) → shared.full ≡ b → (if b then map (λ c. c.served.vectors) sorted else []) ≡ (if b then map (vectors_in shared.set) (map (λ c. c.served.lines) sorted) else [])
    by true is = printed_in shared sorted is each
    by false is = refl

-- ---- the words

-- all words are within the bound of each
bounded_words : (words : List ℕ) (bound : ℕ) → ((sub : ℕ) → sub < length words → slice_index words sub ≤ bound) → All (λ word. word ≤ bound) words
bounded_words [] bound each = All-nil (λ word. word ≤ bound)
bounded_words (word ∷ words) bound each =
    All-cons (λ x. x ≤ bound) word words (each 0 (omega arith)) (bounded_words words bound (λ sub known. each (suc sub) (omega (arith, known))))

pub closed_within : (rows : List Row) (book : BookValue) (lists : List (List Deed)) (keeper : KeeperValue) (closed : ClosedValue) (words : List ℕ) → book.tops ≡ tops_of rows → Closes book lists keeper closed → words ≡ closed.words
    → All (λ word. word ≤ max_seq + 64) words
closed_within rows book lists keeper closed words tops closes is =
    subst (λ (ws : List ℕ). All (λ word. word ≤ max_seq + 64) ws) (sym is)
    (bounded_words closed.words (max_seq + 64) (λ sub known.
    let low = top_at-within rows sub in
    let near = subst (λ (ts : List ℕ). slice_index closed.words sub ≤ slice_index ts sub + 64) tops (closes.bounded sub (omega (arith, known, closes.many))) in
    omega (arith, low, near)))

-- a closed book, by the words that were read of it and the lists of its passes
pub closes_at : (book : BookValue) (lists : List (List Deed)) (keeper : KeeperValue) (closed : ClosedValue) (words : List ℕ) → Closes book lists keeper closed → words ≡ closed.words
    → Closes book lists keeper (record { words = words; lists = lists })
closes_at book lists keeper closed words closes is =
    subst (λ (ws : List ℕ). Closes book lists keeper (record { words = ws; lists = lists })) (sym is)
    (subst (λ (ls : List (List Deed)). Closes book lists keeper (record { words = closed.words; lists = ls })) closes.same closes)
