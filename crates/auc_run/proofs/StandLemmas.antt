-- For a part of a scenario: where it begins, and where a round or a restart leads.
use Rattle.std.proofs.Common.{◌≡◌, ◌≢◌, ℕ, ◌<◌, ◌≤◌, max, List, [], ◌∷◌, ◌++◌, length, map, All, AllPairs, Option, refl, sym, ◌∙◌, ap, subst, arith}
use Rattle.std.specs.Prelude.{slice_index}
use Rattle.std.proofs.lemmas.List.Concat.{flat_map-append}
use Rattle.std.proofs.lemmas.List.Elements.{All-nil, All-cons, All-head, All-map, All-tail, All-weaker}
use Rattle.auc_memory.specs.Identity.{Identity}
use Rattle.auc_memory.specs.declared.stop.Stop.{Stop}
use Rattle.auc_history.proofs.Facts.{AllPairs-cons, AllPairs-head, AllPairs-tail}
use Rattle.auc_journal.specs.Durable.{IsDurable}
use Rattle.auc_journal.specs.Image.{reserved_in}
use Rattle.auc_journal.specs.Journal.{JournalState, imsi_at, limits_of, reserved_at}
use Rattle.auc_journal.proofs.Facts.{limits_at}
use Rattle.auc_keeper.specs.Keeper.{IsAbove}
use Rattle.auc_jobs.specs.Round.{LeavesMore, ServesRound}
use Rattle.auc_jobs.specs.State.{Standing, StandsAt}
use Rattle.auc_lines.specs.declared.part.Line.{Line}
use Rattle.auc_sqn.specs.Number.{max_seq}
use Rattle.auc_subs.specs.Subscriber.{AreSubscribers}
use Rattle.auc_subs.specs.declared.row.Row.{Row}
use Rattle.auc_transcript.proofs.Facts.{raises_again, raises_first, raises_round}
use Rattle.auc_world.proofs.Facts.{get_or-greater}
use Rattle.auc_world.specs.Limits.{opened}
use Rattle.auc_record.specs.Lines.{all_lines, numbers_of, released_by}
use Rattle.auc_world.specs.Round.{IsLawfulRound}
use Rattle.auc_subs.specs.Setting.{Setting}
use Rattle.auc_world.specs.Start.{Kept, fresh_kept, kept_by_jobs}
use Rattle.auc_world.specs.Transcript.{Course, Restarts, after_restart, after_round, beginning}
use Rattle.auc_record.specs.declared.record.LineRecord.{LineRecord}
use Rattle.auc_record.specs.declared.record.RoundRecord.{RoundRecord}
use Rattle.auc_input.specs.Opening.{limits_in, Begins}
use Rattle.auc_run.specs.Crash.{IsKept, MayLeave}
use Rattle.auc_run.specs.Inner.{AreEnough, Covers, Reserves, RoundLeads, StandsAfter, StandsOn, most_at}
use Rattle.auc_run.proofs.BoundLemmas.{near_is, raised_admits, raised_by}
use Rattle.auc_run.proofs.QuietLemmas.{lawful_after}
use Rattle.auc_refusal.specs.declared.status.Status.{Status}
use Rattle.auc_refusal.specs.declared.status.Status.TheVariants.{NoMemory}
use Rattle.auc_run.proofs.AlwaysLemmas.{count_of, limit_in, since_opening, since_round}

-- what holds of the lines of two lists holds of the first
front_numbers : (sub : ℕ) (P : ℕ → Type 0) (early lines : List LineRecord) → All P (numbers_of sub (early ++ lines)) → All P (numbers_of sub early)
front_numbers sub P early lines all =
    left (numbers_of sub early) (numbers_of sub lines) (subst (λ (numbers : List ℕ). All P numbers) (flat_map-append (released_by sub) early lines) all)
  where
    left : (xs ys : List ℕ) → All P (xs ++ ys) → All P xs
    left [] ys all = All-nil P
    left (x ∷ xs) ys all = All-cons P x xs (All-head P x (xs ++ ys) all) (left xs ys (All-tail P x (xs ++ ys) all))

-- ---- what a crash leaves

kept_between : {D : Type 0} (seen : D → Option (List ℕ)) (may_leave : D → List ℕ → Type 0) (status : Status) (rows : List Row) (from disk : D) (reserved : List ℕ) (end : Course) (most : Identity → ℕ) (journal : JournalState D)
    → journal.imsis ≡ map (λ row. row.imsi) rows → ((sub : ℕ) → sub < length rows → All (λ n. n ≤ slice_index (limits_of journal) sub) (numbers_of sub end.early))
    → IsDurable seen may_leave from most journal → (status ≢ NoMemory → (sub : ℕ) → sub < length rows → most (imsi_at journal.imsis sub) ≤ most_at reserved end sub) → disk ≡ journal.disk
    → (image : List ℕ) → MayLeave seen may_leave from disk image → IsKept status rows reserved end image
kept_between {D} seen may_leave status rows from disk reserved end most journal subscribers covers durable near same image (told, leaves) =
    let between = durable.images told image (subst (λ (d : D). may_leave d image) same leaves) in
    let count = count_of rows journal subscribers in
    record {
      reading = between.0;
      is_read = between.1;
      released = λ sub inside.
          let within : sub < length journal.imsis = omega (arith, count, inside) in
          let at = limit_in rows journal between.0.frames sub subscribers inside in
          let here = limits_at journal sub within in
          let low = (between.2 (imsi_at journal.imsis sub)).0 in
          All-weaker (λ n. n ≤ slice_index (limits_of journal) sub) (λ n. n ≤ slice_index (limits_in rows between.0.frames) sub)
          (λ n under. omega (arith, at, here, low, under)) (numbers_of sub end.early) (covers sub inside);
      near = λ whole sub inside.
          let at = limit_in rows journal between.0.frames sub subscribers inside in
          let high = (between.2 (imsi_at journal.imsis sub)).1 in
          let bound = near whole sub inside in
          omega (arith, at, high, bound);
    }

-- after rounds whose limits are such as a restart may have
pub kept_reserves : {D : Type 0} (seen : D → Option (List ℕ)) (may_leave : D → List ℕ → Type 0) (moment : D → ℕ) (left_since : D → ℕ → List ℕ → Type 0) (status : Status) (rows : List Row) (from disk : D) (reserved : List ℕ) (end : Course) (journal : JournalState D)
    → Reserves seen may_leave moment left_since rows from reserved end journal → disk ≡ journal.disk → (image : List ℕ) → MayLeave seen may_leave from disk image → IsKept status rows reserved end image
kept_reserves seen may_leave moment left_since status rows from disk reserved end journal reserves same =
    kept_between seen may_leave status rows from disk reserved end reserves.most journal reserves.subscribers reserves.raises.released reserves.durable
    (λ whole. reserves.near) same

-- if memory ran out
pub kept_covers : {D : Type 0} (seen : D → Option (List ℕ)) (may_leave : D → List ℕ → Type 0) (moment : D → ℕ) (left_since : D → ℕ → List ℕ → Type 0) (rows : List Row) (from disk : D) (reserved : List ℕ) (end : Course) (journal : JournalState D)
    → Covers seen may_leave moment left_since rows from reserved end.early journal → disk ≡ journal.disk → (image : List ℕ) → MayLeave seen may_leave from disk image → IsKept NoMemory rows reserved end image
kept_covers seen may_leave moment left_since rows from disk reserved end journal covers same =
    kept_between seen may_leave NoMemory rows from disk reserved end covers.most journal covers.subscribers covers.released covers.durable
    (λ whole sub inside. absurd (whole refl)) same

-- limits that a restart may have cover what was released, and what was released before its last lines
pub covers_of : {D : Type 0} (seen : D → Option (List ℕ)) (may_leave : D → List ℕ → Type 0) (moment : D → ℕ) (left_since : D → ℕ → List ℕ → Type 0) (rows : List Row) (from : D) (reserved : List ℕ) (at : Course) (journal : JournalState D)
    → Reserves seen may_leave moment left_since rows from reserved at journal → Covers seen may_leave moment left_since rows from reserved at.early journal
covers_of seen may_leave moment left_since rows from reserved at journal reserves =
    record {
      subscribers = reserves.subscribers;
      released = reserves.raises.released;
      most = reserves.most;
      durable = reserves.durable;
      always = λ told. (most_at reserved at, reserves.always told);
    }

pub covers_before : {D : Type 0} (seen : D → Option (List ℕ)) (may_leave : D → List ℕ → Type 0) (moment : D → ℕ) (left_since : D → ℕ → List ℕ → Type 0) (rows : List Row) (from : D) (reserved : List ℕ) (early lines : List LineRecord) (at : Course) (journal : JournalState D)
    → at.early ≡ early ++ lines → Reserves seen may_leave moment left_since rows from reserved at journal → Covers seen may_leave moment left_since rows from reserved early journal
covers_before seen may_leave moment left_since rows from reserved early lines at journal is reserves = record {
  subscribers = reserves.subscribers;
  released = λ sub inside.
      front_numbers sub (λ n. n ≤ slice_index (limits_of journal) sub) early lines
      (subst (λ (ls : List LineRecord). All (λ n. n ≤ slice_index (limits_of journal) sub) (numbers_of sub ls)) is (reserves.raises.released sub inside));
  most = reserves.most;
  durable = reserves.durable;
  always = λ told. (most_at reserved at, reserves.always told);
}

-- so do limits that are no lower
pub covers_more : {D : Type 0} (seen : D → Option (List ℕ)) (may_leave : D → List ℕ → Type 0) (moment : D → ℕ) (left_since : D → ℕ → List ℕ → Type 0) (rows : List Row) (from : D) (reserved : List ℕ) (at : Course) (journal after : JournalState D)
    → Reserves seen may_leave moment left_since rows from reserved at journal → after.imsis ≡ journal.imsis → LeavesMore seen may_leave moment left_since journal after → Covers seen may_leave moment left_since rows from reserved at.early after
covers_more seen may_leave moment left_since rows from reserved at journal after reserves same more =
    let leaves = more.durable from reserves.most reserves.durable in
    let count = count_of rows journal reserves.subscribers in
    let counts = ap length same in
    record {
      subscribers = same ∙ reserves.subscribers;
      released = λ sub inside.
          let within : sub < length journal.imsis = omega (arith, count, inside) in
          let here = limits_at journal sub within in
          let there = limits_at after sub (omega (arith, counts, within)) in
          let up = more.rises (imsi_at journal.imsis sub) in
          let own : reserved_at after sub ≡ reserved_in after.limits (imsi_at journal.imsis sub) = ap (λ (imsis : List Identity). reserved_in after.limits (imsi_at imsis sub)) same in
          All-weaker (λ n. n ≤ slice_index (limits_of journal) sub) (λ n. n ≤ slice_index (limits_of after) sub)
          (λ n under. omega (arith, here, there, up, own, under)) (numbers_of sub at.early) (reserves.raises.released sub inside);
      most = leaves.0;
      durable = leaves.1;
      always = λ told.
          let left = more.always from reserves.most reserves.durable told in
          let highest : ℕ → ℕ = λ i. max (most_at reserved at i) (left.0 (imsi_at journal.imsis i)) in (
            highest,
            since_round moment left_since told.0 rows from reserved (most_at reserved at) highest left.0 journal after reserves.subscribers reserves.above
                (λ sub inside. (omega arith, omega arith)) (reserves.always told) left.1,
          );
    }

-- ---- from part to part

-- where the first part begins
pub begins_stand : {D : Type 0} (seen : D → Option (List ℕ)) (may_leave : D → List ℕ → Type 0) (moment : D → ℕ) (left_since : D → ℕ → List ℕ → Type 0) (faults : D → ℕ) (set : Setting) (from : D) (state : Standing) (journal : JournalState D)
    → Begins seen may_leave moment left_since faults set.rows from journal → state.words ≡ opened set.rows (limits_of journal) → state.kept ≡ map (λ row. fresh_kept) set.rows → StandsAt set [] state
    → ((sub : ℕ) → sub < length set.rows → slice_index (limits_of journal) sub ≤ max_seq)
    → StandsOn seen may_leave moment left_since set from (limits_of journal) (beginning set.rows (limits_of journal)) 1 state journal
begins_stand seen may_leave moment left_since faults set from state journal begins opens kept stands within =
    let reserved = limits_of journal in
    record {
      numbered = refl;
      stands = stands;
      kept = kept;
      opens = opens;
      ready = begins.ready;
      reserves = record {
        subscribers = begins.subscribers;
        all = begins.all;
        raises = raises_first set.rows reserved [] within;
        most = λ imsi. reserved_in journal.limits imsi;
        near = λ sub inside.
            let count = count_of set.rows journal begins.subscribers in
            let here = limits_at journal sub (omega (arith, count, inside)) in
            omega (arith, here);
        durable = begins.durable;
        above = λ sub inside. omega arith;
        always = since_opening seen may_leave moment left_since set.rows from journal.disk reserved (most_at reserved (beginning set.rows reserved)) begins.always;
      };
    }

-- where a restart leads
pub restart_stands : {D : Type 0} (seen : D → Option (List ℕ)) (may_leave : D → List ℕ → Type 0) (moment : D → ℕ) (left_since : D → ℕ → List ℕ → Type 0) (set : Setting) (from : D) (reserved : List ℕ) (at : Course) (number : ℕ) (state next : Standing) (journal : JournalState D)
    → StandsOn seen may_leave moment left_since set from reserved at number state journal → next.words ≡ opened set.rows (limits_of journal) → next.kept ≡ state.kept → StandsAt set at.early next
    → Restarts set at (after_restart set.rows at (limits_of journal))
    × StandsOn seen may_leave moment left_since set from reserved (after_restart set.rows at (limits_of journal)) number next journal
restart_stands seen may_leave moment left_since set from reserved at number state next journal on opens kept stands = (
  record { limits = limits_of journal; raises = on.reserves.raises; leads = refl },
  record {
    numbered = on.numbered;
    stands = stands;
    kept = kept ∙ on.kept;
    opens = opens;
    ready = on.ready;
    reserves = record {
      subscribers = on.reserves.subscribers;
      all = on.reserves.all;
      raises = raises_again set.rows at.early at.limits at.highs (limits_of journal) on.reserves.raises;
      most = on.reserves.most;
      near = on.reserves.near;
      durable = on.reserves.durable;
      above = on.reserves.above;
      always = on.reserves.always;
    };
  },
)

-- the identities of subscribers differ
pub imsis_differ : (rows : List Row) (imsis : List Identity) → imsis ≡ map (λ row. row.imsi) rows → AllPairs (λ a b. a.imsi ≢ b.imsi) rows → AllPairs (λ a b. a ≢ b) imsis
imsis_differ rows imsis is differ = subst (AllPairs (λ (a b : Identity). a ≢ b)) (sym is) (by rows differ)
  where
    by : (rows : List Row) → AllPairs (λ a b. a.imsi ≢ b.imsi) rows → AllPairs (λ (a b : Identity). a ≢ b) (map (λ row. row.imsi) rows)
    by [] differ = λ i j d low within. absurd (omega (arith, low, within))
    by (row ∷ rows) differ =
        AllPairs-cons (λ (a b : Identity). a ≢ b) row.imsi (map (λ row. row.imsi) rows)
        (All-map (λ imsi. row.imsi ≢ imsi) (λ (r : Row). r.imsi) rows (AllPairs-head (λ a b. a.imsi ≢ b.imsi) row rows differ))
        (by rows (AllPairs-tail (λ a b. a.imsi ≢ b.imsi) row rows differ))

-- a lawful round, and what homes and devices keep after it
abbrev IsKeptBy : Setting → Option Stop → List LineRecord → List Kept → List ℕ → List (List Line) → RoundRecord → List ℕ → List Kept → Type 0
IsKeptBy set stop early kept openings jobs round words next =
    (lawful : IsLawfulRound set stop early kept openings jobs round words) × (next ≡ kept_by_jobs kept lawful.nets)

-- a round that was served leads on
pub round_leads : {D : Type 0} (seen : D → Option (List ℕ)) (may_leave : D → List ℕ → Type 0) (moment : D → ℕ) (left_since : D → ℕ → List ℕ → Type 0) (set : Setting) (from : D) (reserved : List ℕ) (at : Course) (number : ℕ) (state next : Standing) (journal after : JournalState D)
    (jobs : List (List Line)) (round : RoundRecord) (stop : Option Stop) (known : List LineRecord)
    → StandsAfter seen may_leave moment left_since set from reserved at known number state journal → AreEnough jobs at.early known → round.number ≡ number → after.imsis ≡ journal.imsis → after.all ≡ journal.all → AreSubscribers set.rows
    → ServesRound seen may_leave moment left_since set known state jobs round stop journal next after → RoundLeads seen may_leave moment left_since set from reserved at jobs round stop next after
round_leads seen may_leave moment left_since set from reserved at number state next journal after jobs round stop known on enough numbered same all subscribers serves =
    let words = serves.words in
    let begins : IsKeptBy set stop known state.kept at.openings jobs round words next.kept =
    subst (λ (openings : List ℕ). IsKeptBy set stop known state.kept openings jobs round words next.kept) on.opens (serves.lawful, serves.keeps) in
    let knows : IsKeptBy set stop known at.kept at.openings jobs round words next.kept =
    subst (λ (kept : List Kept). IsKeptBy set stop known kept at.openings jobs round words next.kept) on.kept begins in
    let (lawful, nets) = lawful_after set stop known at.early at.kept at.openings jobs round words enough knows.0 in
    let leads : IsKeptBy set stop at.early at.kept at.openings jobs round words next.kept = (lawful, knows.1 ∙ ap (kept_by_jobs at.kept) (sym nets)) in
    let sizes = serves.lawful.sizes in
    let size = on.stands.subscribers.size in
    let count = count_of set.rows journal on.reserves.subscribers in
    let counts = ap length same in
    let more : Identity → ℕ = raised_by journal.imsis words on.reserves.most in
    let above : IsAbove journal.imsis words on.reserves.most more = raised_admits journal.imsis words on.reserves.most in
    let differ = imsis_differ set.rows journal.imsis on.reserves.subscribers subscribers.differ in
    let end = after_round set.rows at round words leads.0.nets in
    let near : (sub : ℕ) → sub < length set.rows → more (imsi_at after.imsis sub) ≤ most_at reserved end sub = λ sub inside.
    let within : sub < length journal.imsis = omega (arith, count, inside) in
    let own : more (imsi_at after.imsis sub) ≡ more (imsi_at journal.imsis sub) = ap (λ (imsis : List Identity). more (imsi_at imsis sub)) same in
    let step = near_is journal.imsis words sub differ within in
    let first = on.reserves.near sub inside in
    let greatest = get_or-greater words at.highs sub (omega (arith, inside, sizes, size)) in
    omega (arith, own, step, first, greatest) in
    record {
      next = after_round set.rows at round words leads.0.nets;
      served = record { numbered = numbered ∙ sym on.numbered; words = words; lawful = leads.0; leads = refl };
      early = refl;
      number = refl;
      kept = leads.1;
      opens = serves.opens;
      reserves = record {
        subscribers = same ∙ on.reserves.subscribers;
        all = all ∙ on.reserves.all ∙ sym same;
        raises = raises_round set.rows at.early (all_lines round.jobs) at.limits at.highs (limits_of journal) words (limits_of after) (sizes ∙ size) on.reserves.raises serves.limits;
        most = more;
        near = near;
        durable = serves.durable from on.reserves.most more above on.reserves.durable;
        above = λ sub inside.
            let within : sub < length journal.imsis = omega (arith, count, inside) in
            let here = limits_at journal sub within in
            let there = limits_at after sub (omega (arith, counts, within)) in
            let step = serves.limits.step sub inside in
            let first = on.reserves.above sub inside in
            omega (arith, first, here, there, step);
        always = λ told.
            since_round moment left_since told.0 set.rows from reserved (most_at reserved at) (most_at reserved end) more journal after on.reserves.subscribers on.reserves.above
            (λ sub inside.
            let greatest = get_or-greater words at.highs sub (omega (arith, inside, sizes, size)) in
            let last = near sub inside in
            let own : more (imsi_at after.imsis sub) ≡ more (imsi_at journal.imsis sub) = ap (λ (imsis : List Identity). more (imsi_at imsis sub)) same in
            (omega (arith, greatest), omega (arith, own, last)))
            (on.reserves.always told) (serves.always from on.reserves.most more above on.reserves.durable told);
      };
      needs = serves.needs;
    }
