-- For a round of some of the subscribers: what it leaves, of all of them.
use Rattle.std.proofs.Common.{◌≡◌, ◌≢◌, ℕ, zero, suc, ◌+◌, ◌<◌, ◌≤◌, ◌⊎◌, inl, inr, ⊎_elim, max, min, List, [], ◌∷◌, ◌++◌, length, map, All, AllPairs, Contains, Option, Some, ◌↔◌, true≢false, refl, sym, ◌∙◌, ap, subst, arith}
use Rattle.std.specs.Prelude.{Bool, true, false, IfOk, OnOk, Result, Ok, Err, get_or, if◌then◌else◌, slice_get, slice_index, slice_set, ◌^◌}
use Rattle.std.proofs.lemmas.List.{append-nil, get_or-map, length-map}
use Rattle.std.proofs.lemmas.List.Elements.{All-append, All-cons, All-contains, All-head, All-map, All-nil, All-tail, Contains-get_or}
use Rattle.std.proofs.lemmas.Option.{get_or_from_slice_get, slice_get_within}
use Rattle.auc_memory.specs.Faults.{Rose}
use Rattle.auc_memory.specs.Identity.{Identity}
use Rattle.auc_memory.specs.declared.no_memory.NoMemory.{NoMemory}
use Rattle.auc_memory.specs.declared.stop.Stop.{Stop}
use Rattle.auc_memory.specs.declared.stop.Stop.TheVariants.{Fault, Full}
use Rattle.auc_jobs.specs.Round.{DrewFull, LeavesMore, ServesRound}
use Rattle.auc_jobs.specs.Serving.{AreAllKnown}
use Rattle.auc_jobs.specs.State.{Standing, StandsAt}
use Rattle.auc_jobs.specs.Usims.{AreOfRows}
use Rattle.auc_jobs.specs.declared.round.Ran.{Ran}
use Rattle.auc_jobs.proofs.Facts.{job_releasable, numbers_of-append, some_at}
use Rattle.auc_journal.specs.Image.{reserved_in}
use Rattle.auc_journal.specs.Journal.{JournalState, imsi_at, limits_of}
use Rattle.auc_journal.specs.Settled.{LeavesOnly}
use Rattle.auc_journal.proofs.Facts.{durable_named, limits_at, one_place}
use Rattle.auc_keeper.specs.Keeper.{IsAbove, IsLeft}
use Rattle.auc_keeper.proofs.Facts.{begins_left, leaves_less}
use Rattle.auc_lines.specs.Part.{AreApart, holds, is_held_by}
use Rattle.auc_lines.specs.declared.part.Line.{Line}
use Rattle.auc_lines.specs.declared.part.Line.TheVariants.{Draw, Sync as SyncLine, Give as GiveLine, Eps, Fiveg, Sites, Sim, Session, Start as Begin, Deliver, Repeat, GiveUp, Plain, Tamper, Cut}
use Rattle.auc_named.specs.Law.{IsOfAll}
use Rattle.auc_named.specs.Named.{AreAt, AreNamed, ArePlain, is_plain, put_words, record_of, records_of, round_of}
use Rattle.auc_named.proofs.Facts.{ArePlainRecords, HasPlace, IsPlainRecord, IsUnnamed, drawn_named, each_named_round_is_lawful, held_named, length-put_words, numbers_named, numbers_unnamed, place_or_none, put_at, put_elsewhere, round_is_plain, top_named, withheld_named, withheld_unnamed}
use Rattle.auc_sqn.specs.Number.{max_seq}
use Rattle.auc_subs.specs.Subscriber.{top_at}
use Rattle.auc_subs.specs.declared.row.Row.{Row}
use Rattle.auc_subs.proofs.Facts.{top_at-within}
use Rattle.auc_sqn.specs.Past.{Remembers}
use Rattle.auc_usim.specs.Usim.{Memory}
use Rattle.auc_world.specs.Given.{JobsGive, past_of}
use Rattle.auc_world.specs.Limits.{Raises, least_step}
use Rattle.auc_record.specs.Lines.{accepted, all_lines, numbers_of, withheld_of}
use Rattle.auc_record.specs.Released.{AreReleased}
use Rattle.auc_world.specs.Round.{IsLawfulRound}
use Rattle.auc_subs.specs.Setting.{Setting}
use Rattle.auc_world.specs.Net.{Net}
use Rattle.auc_record.specs.Record.{NamesBelow}
use Rattle.auc_world.specs.Start.{Kept, start_of}
use Rattle.auc_record.specs.Openings.{reopened}
use Rattle.auc_record.specs.Vectors.{IsReleasableLine, vectors_in}
use Rattle.auc_record.specs.declared.record.LineRecord.{LineRecord}
use Rattle.auc_record.specs.declared.record.LineRecord.TheVariants.{Number, Sync, Give, Further, Event}
use Rattle.auc_record.specs.declared.record.RoundRecord.{RoundRecord}
use Rattle.auc_world.proofs.Facts.{accepted-append}
use Rattle.auc_record.proofs.Facts.{get_or-reopened, length-reopened}
use Rattle.auc_run.specs.InnerNamed.{IsLed, IsServed}
use Rattle.auc_input.proofs.Facts.{imsi_here}
use Rattle.auc_run.proofs.PrintableLemmas.{round_named}

-- what holds of two values holds of those that they are equal to
pub both : {A B : Type 0} (P : A → B → Type 0) (a a' : A) (b b' : B) → a ≡ a' → b ≡ b' → P a b → P a' b'
both P a a' b b' first second holds = subst (P a') second (subst (λ x. P x b) first holds)

-- ---- lists

-- two lists of as many numbers, each of which is the other's
same_list : (xs ys : List ℕ) → length xs ≡ length ys → ((i : ℕ) → i < length xs → slice_index xs i ≡ slice_index ys i) → xs ≡ ys
same_list [] [] size each = refl
same_list [] (y ∷ ys) size each = absurd (omega (arith, size))
same_list (x ∷ xs) [] size each = absurd (omega (arith, size))
same_list (x ∷ xs) (y ∷ ys) size each =
    ap (λ (n : ℕ). n ∷ xs) (each zero (omega arith))
    ∙ ap (λ (rest : List ℕ). y ∷ rest) (same_list xs ys (omega (arith, size)) (λ i inside. each (suc i) (omega (arith, inside))))

-- what holds of each subscriber that has a place, and of each other one, holds of all
each_sub : (places : List ℕ) (P : ℕ → Type 0) → ((i : ℕ) → i < length places → P (slice_index places i)) → ((sub : ℕ) → IsUnnamed places sub → P sub) → (sub : ℕ) → P sub
each_sub places P here elsewhere sub =
    ⊎_elim (λ (has : HasPlace places sub). subst P has.2 (here has.0 has.1)) (λ (none : IsUnnamed places sub). elsewhere sub none) (place_or_none places sub)

-- the words of all after one more place became another one
pub put_more : (words places own : List ℕ) (place word : ℕ) → length own ≡ length places → put_words words (places ++ place ∷ []) (own ++ word ∷ []) ≡ slice_set (put_words words places own) place word
put_more words [] [] place word size = refl
put_more words [] (w ∷ own) place word size = absurd (omega (arith, size))
put_more words (p ∷ places) [] place word size = absurd (omega (arith, size))
put_more words (p ∷ places) (w ∷ own) place word size = put_more (slice_set words p w) places own place word (omega (arith, size))

-- ---- identities

-- the identity of a row at a place
imsi_named : (rows own : List Row) (places : List ℕ) (imsis ids : List Identity) → AreAt rows places own → imsis ≡ map (λ row. row.imsi) rows → ids ≡ map (λ row. row.imsi) own
    → (i : ℕ) → i < length places → imsi_at ids i ≡ imsi_at imsis (slice_index places i)
imsi_named rows own places imsis ids at all some i inside =
    let within : i < length own = let size = at.size in omega (arith, inside, size) in
    let (row, there) = some_at own i within in
    let among : slice_get rows (slice_index places i) ≡ Some row = sym (at.same i inside) ∙ there in
    ap (λ (is : List Identity). imsi_at is i) some ∙ imsi_here own i row there within
    ∙ sym (ap (λ (is : List Identity). imsi_at is (slice_index places i)) all ∙ imsi_here rows (slice_index places i) row among (slice_get_within rows (slice_index places i) row among))

-- the identity of a subscriber without a place is that of none of the rows
other_imsi : (rows own : List Row) (places : List ℕ) (imsis ids : List Identity) → AreAt rows places own → imsis ≡ map (λ row. row.imsi) rows → ids ≡ map (λ row. row.imsi) own → AllPairs (λ a b. a ≢ b) imsis
    → (sub : ℕ) → sub < length rows → IsUnnamed places sub → All (λ id. id ≢ imsi_at imsis sub) ids
other_imsi rows own places imsis ids at all some differ sub inside none =
    subst (All (λ (id : Identity). id ≢ imsi_at imsis sub)) (sym some)
    (All-map (λ (id : Identity). id ≢ imsi_at imsis sub) (λ (row : Row). row.imsi) own (λ i d within same.
    let size = at.size in
    let placed : i < length places = omega (arith, within, size) in
    let (row, there) = some_at own i within in
    let own_is : imsi_at ids i ≡ row.imsi = ap (λ (is : List Identity). imsi_at is i) some ∙ imsi_here own i row there within in
    let got : get_or own i d ≡ row = get_or_from_slice_get own i row d there in
    let count : length imsis ≡ length rows = ap length all ∙ length-map rows (λ (r : Row). r.imsi) in
    let low : slice_index places i < length rows = at.within i 0 placed in
    none i 0 placed
    (one_place imsis differ (slice_index places i) sub (omega (arith, low, count)) (omega (arith, inside, count))
    (sym (imsi_named rows own places imsis ids at all some i placed) ∙ own_is ∙ ap (λ (r : Row). r.imsi) (sym got) ∙ same))))

-- the identities of some of the rows are among those of all
pub among_all : (rows own : List Row) (places : List ℕ) (imsis ids : List Identity) → AreAt rows places own → imsis ≡ map (λ row. row.imsi) rows → ids ≡ map (λ row. row.imsi) own → All (Contains imsis) ids
among_all rows own places imsis ids at all some =
    subst (All (Contains imsis)) (sym some) (All-map (Contains imsis) (λ (row : Row). row.imsi) own (λ i d within.
    let size = at.size in
    let placed : i < length places = omega (arith, within, size) in
    let (row, there) = some_at own i within in
    let got : get_or own i d ≡ row = get_or_from_slice_get own i row d there in
    let own_is : imsi_at ids i ≡ row.imsi = ap (λ (is : List Identity). imsi_at is i) some ∙ imsi_here own i row there within in
    let same : imsi_at imsis (slice_index places i) ≡ row.imsi = sym (imsi_named rows own places imsis ids at all some i placed) ∙ own_is in
    let count : length imsis ≡ length rows = ap length all ∙ length-map rows (λ (r : Row). r.imsi) in
    let low : slice_index places i < length rows = at.within i 0 placed in
    subst (λ (r : Row). Contains imsis r.imsi) (sym got)
    (subst (Contains imsis) same (Contains-get_or imsis (slice_index places i) (record { digits = 0; number = 0 }) (omega (arith, low, count))))))

-- ---- a round

-- the limits before a round of some rows and after it, with all subscribers' identities and with theirs
module _ {D : Type 0} (rows own : List Row) (places : List ℕ) (before after : JournalState D) (ids : List Identity) (at : AreAt rows places own)
    (all : before.imsis ≡ map (λ row. row.imsi) rows) (some : ids ≡ map (λ row. row.imsi) own) (differ : AllPairs (λ a b. a ≢ b) before.imsis) (same : after.imsis ≡ before.imsis) where
  abbrev Named : JournalState D → JournalState D
  Named journal = record journal { imsis = ids }

  count : length before.imsis ≡ length rows
  count = ap length all ∙ length-map rows (λ (r : Row). r.imsi)

  counts : length ids ≡ length places
  counts = ap length some ∙ length-map own (λ (r : Row). r.imsi) ∙ at.size

  -- the limit of a subscriber that has a place
  limit_before : (i : ℕ) → i < length places → slice_index (limits_of (Named before)) i ≡ slice_index (limits_of before) (slice_index places i)
  limit_before i inside =
      let low : slice_index places i < length rows = at.within i 0 inside in
      limits_at (Named before) i (omega (arith, inside, counts))
      ∙ ap (λ (imsi : Identity). reserved_in before.limits imsi) (imsi_named rows own places before.imsis ids at all some i inside)
      ∙ sym (limits_at before (slice_index places i) (omega (arith, low, count)))

  limit_after : (i : ℕ) → i < length places → slice_index (limits_of (Named after)) i ≡ slice_index (limits_of after) (slice_index places i)
  limit_after i inside =
      let low : slice_index places i < length rows = at.within i 0 inside in
      let lengths = ap length same in
      limits_at (Named after) i (omega (arith, inside, counts))
      ∙ ap (λ (imsi : Identity). reserved_in after.limits imsi) (imsi_named rows own places before.imsis ids at all some i inside)
      ∙ ap (λ (imsis : List Identity). reserved_in after.limits (imsi_at imsis (slice_index places i))) (sym same)
      ∙ sym (limits_at after (slice_index places i) (omega (arith, low, count, lengths)))

  -- that of each other one stands
  limit_stands : ((imsi : Identity) → All (λ id. id ≢ imsi) ids → reserved_in after.limits imsi ≡ reserved_in before.limits imsi) → (sub : ℕ) → sub < length rows → IsUnnamed places sub
      → slice_index (limits_of after) sub ≡ slice_index (limits_of before) sub
  limit_stands others sub inside none =
      let lengths = ap length same in
      limits_at after sub (omega (arith, inside, count, lengths))
      ∙ ap (λ (imsis : List Identity). reserved_in after.limits (imsi_at imsis sub)) same
      ∙ others (imsi_at before.imsis sub) (other_imsi rows own places before.imsis ids at all some differ sub inside none)
      ∙ sym (limits_at before sub (omega (arith, inside, count)))

  -- a bound that admits the words of all admits those of some
  above_named : (words next : List ℕ) (most more : Identity → ℕ) → length words ≡ length rows → length next ≡ length places → IsAbove before.imsis (put_words words places next) most more → IsAbove ids next most more
  above_named words next most more size sizes above = record {
    keeps = above.keeps;
    admits = λ i inside.
        let placed : i < length places = omega (arith, inside, counts) in
        let low : slice_index places i < length rows = at.within i 0 placed in
        let admits = above.admits (slice_index places i) (omega (arith, low, count)) in
        let word = put_at words places next i at.rising (λ k d within. let below : get_or places k d < length rows = at.within k d within in omega (arith, below, size)) sizes placed in
        let imsi : more (imsi_at ids i) ≡ more (imsi_at before.imsis (slice_index places i)) = ap more (imsi_named rows own places before.imsis ids at all some i placed) in
        omega (arith, admits, word, imsi);
  }

  -- limits that a restart may have
  raises_named : (records : List (List LineRecord)) (words next : List ℕ) → ArePlainRecords (length places) records → length words ≡ length rows → length next ≡ length places
      → ((imsi : Identity) → All (λ id. id ≢ imsi) ids → reserved_in after.limits imsi ≡ reserved_in before.limits imsi)
      → ((sub : ℕ) → sub < length rows → slice_index (limits_of before) sub ≤ max_seq)
      → Raises own (all_lines records) (limits_of (Named before)) next (limits_of (Named after))
      → Raises rows (all_lines (records_of places records)) (limits_of before) (put_words words places next) (limits_of after)
  raises_named records words next plain size sizes others within raises = record {
    step = each_sub places (λ sub. sub < length rows → (slice_index (limits_of after) sub ≡ slice_index (limits_of before) sub) ⊎ ((slice_index (limits_of after) sub ≡ max_seq) ⊎ (slice_index (limits_of before) sub + least_step ≤ slice_index (limits_of after) sub)))
        (λ i inside low.
        let old = limit_before i inside in
        let new = limit_after i inside in
        ⊎_elim (λ (stays : slice_index (limits_of (Named after)) i ≡ slice_index (limits_of (Named before)) i). inl (sym new ∙ stays ∙ old))
        (λ (other : (slice_index (limits_of (Named after)) i ≡ max_seq) ⊎ (slice_index (limits_of (Named before)) i + least_step ≤ slice_index (limits_of (Named after)) i)).
        ⊎_elim (λ (top : slice_index (limits_of (Named after)) i ≡ max_seq). inr (inl (sym new ∙ top)))
        (λ (up : slice_index (limits_of (Named before)) i + least_step ≤ slice_index (limits_of (Named after)) i). inr (inr (omega (arith, up, old, new)))) other)
        (raises.step i (let own_size = at.size in omega (arith, inside, own_size))))
        (λ sub none low. inl (limit_stands others sub low none));
    released = each_sub places (λ sub. sub < length rows → All (λ n. n ≤ slice_index (limits_of after) sub) (numbers_of sub (all_lines (records_of places records))))
        (λ i inside low.
        subst (λ (l : ℕ). All (λ n. n ≤ l) (numbers_of (slice_index places i) (all_lines (records_of places records)))) (limit_after i inside)
        (subst (All (λ n. n ≤ slice_index (limits_of (Named after)) i)) (sym (numbers_named places records i at.rising plain inside)) (raises.released i (let own_size = at.size in omega (arith, inside, own_size)))))
        (λ sub none low. subst (All (λ n. n ≤ slice_index (limits_of after) sub)) (sym (numbers_unnamed places records sub plain none)) (All-nil (λ n. n ≤ slice_index (limits_of after) sub)));
    near = each_sub places (λ sub. sub < length rows → slice_index (limits_of after) sub ≤ max (slice_index (limits_of before) sub) (slice_index (put_words words places next) sub + least_step))
        (λ i inside low.
        let old = limit_before i inside in
        let new = limit_after i inside in
        let word = put_at words places next i at.rising (λ k d within'. let below : get_or places k d < length rows = at.within k d within' in omega (arith, below, size)) sizes inside in
        let high = raises.near i (let own_size = at.size in omega (arith, inside, own_size)) in
        omega (arith, old, new, word, high))
        (λ sub none low. let stands = limit_stands others sub low none in omega (arith, stands));
    within = each_sub places (λ sub. sub < length rows → slice_index (limits_of after) sub ≤ max_seq)
        (λ i inside low.
        let new = limit_after i inside in
        let high = raises.within i (let own_size = at.size in omega (arith, inside, own_size)) in
        omega (arith, new, high))
        (λ sub none low. let stands = limit_stands others sub low none in let high = within sub low in omega (arith, stands, high));
  }

-- ---- a round that was served

-- the words at which the next round opens all subscribers
opens_named : (rows own : List Row) (places words next : List ℕ) → AreAt rows places own → length words ≡ length rows → length next ≡ length places → ((sub : ℕ) → sub < length rows → slice_index words sub ≤ top_at rows sub)
    → put_words words places (reopened own next) ≡ reopened rows (put_words words places next)
opens_named rows own places words next at size sizes within =
    same_list (put_words words places (reopened own next)) (reopened rows (put_words words places next))
    (length-put_words words places (reopened own next) ∙ size ∙ sym (length-reopened rows (put_words words places next)))
    (λ sub inside. each_sub places (λ s. s < length rows → slice_index (put_words words places (reopened own next)) s ≡ slice_index (reopened rows (put_words words places next)) s)
    (λ i placed low.
    let own_size = at.size in
    let all_words = length-put_words words places next in
    let some_words : length (reopened own next) ≡ length places = length-reopened own next ∙ own_size in
    let below : All (λ place. place < length words) places = λ k d within'. let is : get_or places k d < length rows = at.within k d within' in omega (arith, is, size) in
    put_at words places (reopened own next) i at.rising below some_words placed
    ∙ get_or-reopened own next i (omega (arith, placed, own_size)) (omega (arith, placed, sizes))
    ∙ (λ k. min (top_named rows own places i at placed k) (sym (put_at words places next i at.rising below sizes placed) k))
    ∙ sym (get_or-reopened rows (put_words words places next) (slice_index places i) low (omega (arith, low, size, all_words))))
    (λ s none low.
    let all_words = length-put_words words places next in
    let top = within s low in
    let stays = put_elsewhere words places next s none in
    put_elsewhere words places (reopened own next) s none
    ∙ least (top_at rows s) (slice_index words s) (slice_index (put_words words places next) s) top stays
    ∙ sym (get_or-reopened rows (put_words words places next) s low (omega (arith, low, size, all_words))))
    sub (let lengths = length-put_words words places (reopened own next) in omega (arith, inside, lengths, size)))
  where
    least : (top word same : ℕ) → word ≤ top → same ≡ word → word ≡ min top same
    least top word same low is = omega (arith, low, is)

-- a lawful round of some is one of all
pub lawful_of_all : (set : Setting) (own : List Row) (places : List ℕ) (jobs lines : List (List Line)) (state own_state : Standing) (round : RoundRecord) (stop : Option Stop) (early : List LineRecord) (words : List ℕ) → AreNamed set.rows jobs places own lines
    → StandsAt set early state → own_state.words ≡ map (λ place. slice_index state.words place) places → IsLawfulRound (record set { rows = own }) stop [] own_state.kept own_state.words lines round words
    → IsOfAll set stop early state.kept state.words jobs (round_of places round) (put_words state.words places words)
lawful_of_all set own places jobs lines state own_state round stop early words named stands opening lawful =
    each_named_round_is_lawful set own stop [] early own_state.kept state.kept state.words jobs lines places round words named stands.subscribers.size
    (λ sub inside.
    let size = stands.subscribers.size in
    let low = stands.subscribers.numbers sub (omega (arith, inside, size)) in
    let top = top_at-within set.rows sub in
    omega (arith, low, top))
    (subst (λ (openings : List ℕ). IsLawfulRound (record set { rows = own }) stop [] own_state.kept openings lines round words) opening lawful)

module _ {D : Type 0} (seen : D → Option (List ℕ)) (may_leave : D → List ℕ → Type 0) (moment : D → ℕ) (left_since : D → ℕ → List ℕ → Type 0) (set : Setting) (own : List Row) (places : List ℕ) (jobs lines : List (List Line))
    (before after : JournalState D) (ids : List Identity) (named : AreNamed set.rows jobs places own lines) (all : before.imsis ≡ map (λ row. row.imsi) set.rows) (some : ids ≡ map (λ row. row.imsi) own)
    (differ : AllPairs (λ a b. a ≢ b) before.imsis) (same : after.imsis ≡ before.imsis) where
  -- what a crash leaves
  left_named : (told : List ℕ) (more : Identity → ℕ) → LeavesOnly moment left_since before.disk after.disk (IsLeft told (record before { imsis = ids }) more) → LeavesOnly moment left_since before.disk after.disk (IsLeft told before more)
  left_named told more leaves =
      leaves_less moment left_since before.disk after.disk (IsLeft told (record before { imsis = ids }) more) (IsLeft told before more)
      (λ image is. record { between = is.between; keeps = is.keeps; closable = is.closable }) leaves

  pub leaves_named : LeavesMore seen may_leave moment left_since (record before { imsis = ids }) (record after { imsis = ids }) → LeavesMore seen may_leave moment left_since before after
  leaves_named leaves = record {
    rises = leaves.rises;
    durable = λ from most was.
        let left = leaves.durable from most (durable_named seen may_leave from most before ids was) in
        (left.0, durable_named seen may_leave from left.0 (record after { imsis = ids }) after.imsis left.1);
    always = λ from most was told.
        let left = leaves.always from most (durable_named seen may_leave from most before ids was) told in
        (left.0, left_named told.0 left.0 left.1);
  }

  -- a round of all subscribers was served
  module _ (state next own_state own_next : Standing) (round : RoundRecord) (stop : Option Stop) (early : List LineRecord) (opening : own_state.words ≡ map (λ place. slice_index state.words place) places)
      (stands : StandsAt set early state)
      (serves : ServesRound seen may_leave moment left_since (record set { rows = own }) [] own_state lines round stop (record before { imsis = ids }) own_next (record after { imsis = ids })) where
    plain : ArePlainRecords (length places) round.jobs
    plain = round_is_plain set own stop [] own_state.kept own_state.words jobs lines places round serves.words named serves.lawful

    sizes : length serves.words ≡ length places
    sizes = serves.lawful.sizes ∙ ap length opening ∙ length-map places (λ place. slice_index state.words place)

    of_all : IsOfAll set stop early state.kept state.words jobs (round_of places round) (put_words state.words places serves.words)
    of_all = lawful_of_all set own places jobs lines state own_state round stop early serves.words named stands opening serves.lawful

    full_named : stop ≡ Some Full → (drew : DrewFull set.rows (round_of places round)) × (reserved_in after.limits drew.row.imsi < drew.number)
    full_named full =
        let (drew, above) = serves.needs full in
        let size = named.at.size in
        let within : drew.sub < length own = slice_get_within own drew.sub drew.row drew.there in
        let inside : drew.sub < length places = omega (arith, within, size) in (
          record {
            sub = slice_index places drew.sub;
            row = drew.row;
            there = sym (named.at.same drew.sub inside) ∙ drew.there;
            number = drew.number;
            drew = subst (λ (numbers : List ℕ). Contains numbers drew.number) (sym (drawn_named places round.jobs drew.sub named.at.rising plain inside)) drew.drew;
            withheld = subst (λ (held : List (ℕ × Stop)). Contains held (drew.number, Full)) (sym (held_named places round.jobs drew.sub named.at.rising plain inside)) drew.withheld;
          },
          above,
        )

    withheld_is : (sub : ℕ) (row : Row) → slice_get set.rows sub ≡ Some row → All (λ n. reserved_in after.limits row.imsi < n) (withheld_of sub (all_lines (records_of places round.jobs)))
    withheld_is = each_sub places (λ sub. (row : Row) → slice_get set.rows sub ≡ Some row → All (λ n. reserved_in after.limits row.imsi < n) (withheld_of sub (all_lines (records_of places round.jobs))))
        (λ i inside row there.
        subst (All (λ n. reserved_in after.limits row.imsi < n)) (sym (withheld_named places round.jobs i named.at.rising plain inside)) (serves.withheld i row (named.at.same i inside ∙ there)))
        (λ sub none row there. subst (All (λ n. reserved_in after.limits row.imsi < n)) (sym (withheld_unnamed places round.jobs sub plain none)) (All-nil (λ n. reserved_in after.limits row.imsi < n)))

    pub serves_named : ((sub : ℕ) → sub < length set.rows → slice_index (limits_of before) sub ≤ max_seq) → next.words ≡ put_words state.words places own_next.words → next.kept ≡ state.kept
        → ServesRound seen may_leave moment left_since set early state jobs (round_of places round) stop before next after
    serves_named within words kept = record {
      words = put_words state.words places serves.words;
      lawful = of_all.lawful;
      opens = words ∙ ap (put_words state.words places) serves.opens
          ∙ opens_named set.rows own places state.words serves.words named.at stands.subscribers.size sizes stands.subscribers.numbers;
      keeps = kept ∙ sym of_all.keeps;
      limits = raises_named set.rows own places before after ids named.at all some differ same round.jobs state.words serves.words plain stands.subscribers.size sizes serves.others within serves.limits;
      withheld = withheld_is;
      needs = full_named;
      others = λ imsi others.
          serves.others imsi (λ k d inside. All-contains (λ (id : Identity). id ≢ imsi) before.imsis (get_or ids k d) others (among_all set.rows own places before.imsis ids named.at all some k d inside));
      durable = λ from most more above was.
          durable_named seen may_leave from more (record after { imsis = ids }) after.imsis
          (serves.durable from most more (above_named set.rows own places before after ids named.at all some differ same state.words serves.words most more stands.subscribers.size sizes above) (durable_named seen may_leave from most before ids was));
      always = λ from most more above was told.
          left_named told.0 more
          (serves.always from most more (above_named set.rows own places before after ids named.at all some differ same state.words serves.words most more stands.subscribers.size sizes above) (durable_named seen may_leave from most before ids was) told);
    }

    -- by the lines of such a round no USIM accepts anything
    line_accepts : (bits sub : ℕ) (ls : List LineRecord) → All (IsPlainRecord (length places)) ls → accepted bits sub (map (record_of places) ls) ≡ []
    line_accepts bits sub [] all_plain = refl
    line_accepts bits sub (Number s note ∷ ls) all_plain = line_accepts bits sub ls (All-tail (IsPlainRecord (length places)) (Number s note) ls all_plain)
    line_accepts bits sub (Sync s note ∷ ls) all_plain = line_accepts bits sub ls (All-tail (IsPlainRecord (length places)) (Sync s note) ls all_plain)
    line_accepts bits sub (Give s n verdict ∷ ls) all_plain = absurd (All-head (IsPlainRecord (length places)) (Give s n verdict) ls all_plain)
    line_accepts bits sub (Further said ∷ ls) all_plain = absurd (All-head (IsPlainRecord (length places)) (Further said) ls all_plain)
    line_accepts bits sub (Event r ∷ ls) all_plain = absurd (All-head (IsPlainRecord (length places)) (Event r) ls all_plain)

    jobs_accept : (bits sub : ℕ) (records : List (List LineRecord)) → ArePlainRecords (length places) records → accepted bits sub (all_lines (records_of places records)) ≡ []
    jobs_accept bits sub [] all_plain = refl
    jobs_accept bits sub (ls ∷ records) all_plain =
        accepted-append bits sub (map (record_of places) ls) (all_lines (records_of places records))
        ∙ ap (λ (sqns : List (List ℕ)). sqns ++ accepted bits sub (all_lines (records_of places records))) (line_accepts bits sub ls (All-head (All (IsPlainRecord (length places))) ls records all_plain))
        ∙ jobs_accept bits sub records (All-tail (All (IsPlainRecord (length places))) ls records all_plain)

    after_lines : (bits sub : ℕ) → accepted bits sub early ≡ accepted bits sub (early ++ all_lines (records_of places round.jobs))
    after_lines bits sub =
        sym (accepted-append bits sub early (all_lines (records_of places round.jobs)) ∙ ap (λ (sqns : List (List ℕ)). accepted bits sub early ++ sqns) (jobs_accept bits sub round.jobs plain) ∙ append-nil (accepted bits sub early))

    -- what the next round begins with
    pub stands_named : StandsAt (record set { rows = own }) (all_lines round.jobs) own_next → next.words ≡ put_words state.words places own_next.words → next.kept ≡ state.kept → next.usims ≡ state.usims
        → ((lines : List LineRecord) → AreReleased state.released lines → AreReleased next.released (lines ++ all_lines (records_of places round.jobs)))
        → StandsAt set (early ++ all_lines (records_of places round.jobs)) next
    stands_named own_stands words kept usims noted =
        let count : length own_next.words ≡ length places = own_stands.subscribers.size ∙ named.at.size in
        let below : All (λ place. place < length state.words) places = λ k d within. let is : get_or places k d < length set.rows = named.at.within k d within in let size = stands.subscribers.size in omega (arith, is, size) in
        record {
          subscribers = record {
            size = ap length words ∙ length-put_words state.words places own_next.words ∙ stands.subscribers.size;
            numbers = λ sub inside.
                subst (λ (ws : List ℕ). slice_index ws sub ≤ top_at set.rows sub) (sym words)
                (each_sub places (λ s. s < length set.rows → slice_index (put_words state.words places own_next.words) s ≤ top_at set.rows s)
                (λ i placed low.
                let put = put_at state.words places own_next.words i named.at.rising below count placed in
                let top = top_named set.rows own places i named.at placed in
                let number = own_stands.subscribers.numbers i (let size = named.at.size in omega (arith, placed, size)) in
                omega (arith, put, top, number))
                (λ s none low.
                let stays = put_elsewhere state.words places own_next.words s none in
                let number = stands.subscribers.numbers s low in
                omega (arith, stays, number)) sub inside);
            secrets = subst (AreOfRows set.rows) (sym usims) stands.subscribers.secrets;
            kept = ap length kept ∙ stands.subscribers.kept;
          };
          pasts = λ sub row usim here its.
              subst (λ (sqns : List (List ℕ)). Remembers usim.array (past_of row.bits row.usim sqns)) (after_lines row.bits sub)
              (stands.pasts sub row usim here (subst (λ (us : List Memory). slice_get us sub ≡ Some usim) usims its));
          earlier = noted early stands.earlier;
          numbers = λ sub.
              subst (All (λ n. n ≤ top_at set.rows sub)) (sym (numbers_of-append sub early (all_lines (records_of places round.jobs))))
              (All-append (λ n. n ≤ top_at set.rows sub) (numbers_of sub early) (numbers_of sub (all_lines (records_of places round.jobs))) (stands.numbers sub)
              (each_sub places (λ s. All (λ n. n ≤ top_at set.rows s) (numbers_of s (all_lines (records_of places round.jobs))))
              (λ i placed.
              subst (All (λ n. n ≤ top_at set.rows (slice_index places i))) (sym (numbers_named places round.jobs i named.at.rising plain placed))
              (subst (λ (top : ℕ). All (λ n. n ≤ top) (numbers_of i (all_lines round.jobs))) (top_named set.rows own places i named.at placed) (own_stands.numbers i)))
              (λ s none. subst (All (λ n. n ≤ top_at set.rows s)) (sym (numbers_unnamed places round.jobs s plain none)) (All-nil (λ n. n ≤ top_at set.rows s))) sub));
        }

  -- what came of the round of some, if memory ran out
  pub none_served : (faults : D → ℕ) (printed : Bool) (first : ℕ) (state next : Standing) (error : NoMemory) → after.all ≡ before.all
      → LeavesMore seen may_leave moment left_since (record before { imsis = ids }) (record after { imsis = ids }) → IsServed seen may_leave faults moment left_since set printed jobs first state before (Err error) next after
  none_served faults printed first state next error same_all leaves = record {
    served = tt;
    next = tt;
    number = tt;
    vectors = tt;
    subscribers = same;
    all = same_all;
    ready = tt;
    fault = tt;
    quiet = tt;
    full = tt;
    leaves = leaves_named leaves;
  }

  -- and said of all if it sufficed
  pub all_served : (faults : D → ℕ) (printed : Bool) (first : ℕ) (state next own_state own_next : Standing) (ran : Ran) (result : Result Ran NoMemory) → ((sub : ℕ) → sub < length set.rows → slice_index (limits_of before) sub ≤ max_seq)
      → own_state.words ≡ map (λ place. slice_index state.words place) places
      → ServesRound seen may_leave moment left_since (record set { rows = own }) [] own_state lines ran.round ran.stop (record before { imsis = ids }) own_next (record after { imsis = ids })
      → StandsAt (record set { rows = own }) (all_lines ran.round.jobs) own_next → ran.round.number ≡ first → after.all ≡ before.all → ((after.failed ≡ true) ↔ (ran.stop ≡ Some Fault))
      → (ran.stop ≡ Some Fault → Rose (faults before.disk) (faults after.disk)) → (ran.stop ≢ Some Fault → faults after.disk ≡ faults before.disk) → (ran.stop ≡ Some Full → 2 ^ 30 < after.place + 20)
      → LeavesMore seen may_leave moment left_since (record before { imsis = ids }) (record after { imsis = ids })
      → IfOk result (λ said. (said.round ≡ round_of places ran.round) × (said.stop ≡ ran.stop)) → IfOk result (λ said. said.vectors ≡ (if printed then map (vectors_in set) said.round.jobs else []))
      → OnOk result (IsLed places own_next.words (records_of places ran.round.jobs) state next) → IsServed seen may_leave faults moment left_since set printed jobs first state before result next after
  all_served faults printed first state next own_state own_next ran (Ok said) within opening serves own_stands numbered same_all ready fault quiet full leaves is vectors led = record {
    served = λ early stands.
        let wide : ServesRound seen may_leave moment left_since set early state jobs (round_of places ran.round) ran.stop before next after =
        serves_named state next own_state own_next ran.round ran.stop early opening stands serves within led.words led.kept in
        let by_round : ServesRound seen may_leave moment left_since set early state jobs said.round ran.stop before next after =
        subst (λ (r : RoundRecord). ServesRound seen may_leave moment left_since set early state jobs r ran.stop before next after) (sym is.0) wide in
        subst (λ (why : Option Stop). ServesRound seen may_leave moment left_since set early state jobs said.round why before next after) (sym is.1) by_round;
    next = λ early stands.
        subst (λ (r : RoundRecord). StandsAt set (early ++ all_lines r.jobs) next) (sym is.0)
        (stands_named state next own_state own_next ran.round ran.stop early opening stands serves own_stands led.words led.kept led.usims led.noted);
    number = ap (λ (r : RoundRecord). r.number) is.0 ∙ numbered;
    vectors = vectors;
    subscribers = same;
    all = same_all;
    ready = (λ failed. is.1 ∙ ready.0 failed, λ why. ready.1 (sym is.1 ∙ why));
    fault = λ why. fault (sym is.1 ∙ why);
    quiet = λ other. quiet (λ why. other (is.1 ∙ why));
    full = λ why. full (sym is.1 ∙ why);
    leaves = leaves_named leaves;
  }
  all_served faults printed first state next own_state own_next ran (Err error) within opening serves own_stands numbered same_all ready fault quiet full leaves is vectors led = none_served faults printed first state next error same_all leaves

-- a journal that nothing was done to
leaves_same : {D : Type 0} (seen : D → Option (List ℕ)) (may_leave : D → List ℕ → Type 0) (moment : D → ℕ) (left_since : D → ℕ → List ℕ → Type 0) → ((disk : D) (image : List ℕ) → left_since disk (moment disk) image → may_leave disk image)
    → (journal : JournalState D) → LeavesMore seen may_leave moment left_since journal journal
leaves_same seen may_leave moment left_since only_now journal = record {
  rises = λ imsi. omega arith;
  durable = λ from most was. (most, was);
  always = λ from most was told. (most, begins_left seen may_leave moment left_since only_now from most journal was told);
}

pub not_served : {D : Type 0} (seen : D → Option (List ℕ)) (may_leave : D → List ℕ → Type 0) (faults moment : D → ℕ) (left_since : D → ℕ → List ℕ → Type 0) → ((disk : D) (image : List ℕ) → left_since disk (moment disk) image → may_leave disk image)
    → (set : Setting) (printed : Bool) (jobs : List (List Line)) (first : ℕ) (state : Standing) (journal : JournalState D) (error : NoMemory)
    → IsServed seen may_leave faults moment left_since set printed jobs first state journal (Err error) state journal
not_served seen may_leave faults moment left_since only_now set printed jobs first state journal error = record {
  served = tt;
  next = tt;
  number = tt;
  vectors = tt;
  subscribers = refl;
  all = refl;
  ready = tt;
  fault = tt;
  quiet = tt;
  full = tt;
  leaves = leaves_same seen may_leave moment left_since only_now journal;
}

-- ---- what the round of some begins with

-- plain lines hold no USIM
plain_line_holds : (sub : ℕ) (l : Line) → is_plain l ≡ true → is_held_by sub l ≡ false
plain_line_holds sub (Draw who count) plain = refl
plain_line_holds sub (SyncLine who report count) plain = refl
plain_line_holds sub (GiveLine who n) plain = absurd (true≢false (sym plain))
plain_line_holds sub (Eps who snid) plain = refl
plain_line_holds sub (Fiveg line) plain = absurd (true≢false (sym plain))
plain_line_holds sub (Sites line) plain = refl
plain_line_holds sub (Sim line) plain = refl
plain_line_holds sub (Session line) plain = absurd (true≢false (sym plain))
plain_line_holds sub (Begin session) plain = refl
plain_line_holds sub (Deliver session at' packet) plain = refl
plain_line_holds sub (Repeat session) plain = refl
plain_line_holds sub (GiveUp session at') plain = refl
plain_line_holds sub (Plain session) plain = refl
plain_line_holds sub (Tamper packet place byte) plain = refl
plain_line_holds sub (Cut packet count) plain = refl

plain_holds : (sub : ℕ) (job : List Line) → All (λ line. is_plain line ≡ true) job → holds sub job ≡ false
plain_holds sub [] plain = refl
plain_holds sub (l ∷ job) plain =
    rw (plain_line_holds sub l (All-head (λ line. is_plain line ≡ true) l job plain)) (plain_holds sub job (All-tail (λ line. is_plain line ≡ true) l job plain))

pub plain_apart : (jobs : List (List Line)) → ArePlain jobs → AllPairs AreApart jobs
plain_apart jobs plain i j d less inside sub held = plain_holds sub (get_or jobs j d) (plain j d inside)

-- the words at the places are at most the greatest numbers
pub own_within : (set : Setting) (early : List LineRecord) (state : Standing) (own : List Row) (places : List ℕ) (words : List ℕ) → AreAt set.rows places own → StandsAt set early state → words ≡ map (λ place. slice_index state.words place) places
    → (sub : ℕ) → sub < length own → slice_index words sub ≤ top_at own sub
own_within set early state own places words at stands is sub inside =
    let size = at.size in
    let placed : sub < length places = omega (arith, inside, size) in
    let low : slice_index places sub < length set.rows = at.within sub 0 placed in
    let number = stands.subscribers.numbers (slice_index places sub) low in
    let top = top_named set.rows own places sub at placed in
    let here : slice_index words sub ≡ slice_index state.words (slice_index places sub) = ap (λ (ws : List ℕ). slice_index ws sub) is ∙ get_or-map (λ place. slice_index state.words place) places sub 0 0 placed in
    omega (arith, number, top, here)

-- each line of lawful rounds releases numbers that a vector may have
pub jobs_releasable : (set : Setting) (early : List LineRecord) (kept : List Kept) (beside : List LineRecord) (jobs : List (List Line)) (records : List (List LineRecord)) (nets : List Net) → JobsGive set early kept beside jobs records nets → All (All (IsReleasableLine set)) records
jobs_releasable set early kept beside [] records nets (none, ends) = subst (All (All (IsReleasableLine set))) (sym none) (All-nil (All (IsReleasableLine set)))
jobs_releasable set early kept beside (job ∷ jobs) [] nets gives = absurd gives
jobs_releasable set early kept beside (job ∷ jobs) (lines ∷ records) [] gives = absurd gives
jobs_releasable set early kept beside (job ∷ jobs) (lines ∷ records) (net ∷ nets) (first, more) =
    All-cons (All (IsReleasableLine set)) lines records
    (job_releasable set (record { early = early; beside = beside; own = [] }) (start_of set kept job) net job lines first)
    (jobs_releasable set early kept (beside ++ lines) jobs records nets more)

-- ---- the round of some, as it was served

-- what was served with equal parts
pub served_by : {D : Type 0} (seen : D → Option (List ℕ)) (may_leave : D → List ℕ → Type 0) (moment : D → ℕ) (left_since : D → ℕ → List ℕ → Type 0) (set own : Setting) (state next : Standing) (jobs lines : List (List Line)) (round : RoundRecord) (stop : Option Stop)
    (journal before served after : JournalState D) → set ≡ own → jobs ≡ lines → journal ≡ before → served ≡ after
    → ((early : List LineRecord) → StandsAt set early state → ServesRound seen may_leave moment left_since set early state jobs round stop journal next served) → StandsAt set [] state
    → ServesRound seen may_leave moment left_since own [] state lines round stop before next after
served_by {D} seen may_leave moment left_since set own state next jobs lines round stop journal before served after set_is jobs_are before_is after_is serves stands =
    both (λ (s : Setting) (js : List (List Line)). ServesRound seen may_leave moment left_since s [] state js round stop before next after) set own jobs lines set_is jobs_are
    (both (λ (b a : JournalState D). ServesRound seen may_leave moment left_since set [] state jobs round stop b next a) journal before served after before_is after_is (serves [] stands))

-- its record names its subscribers alone
pub own_names : (set : Setting) (own : List Row) (places : List ℕ) (stop : Option Stop) (state : Standing) (lines : List (List Line)) (round : RoundRecord) (words : List ℕ) → length own ≡ length places → StandsAt (record set { rows = own }) [] state
    → AreAllKnown own lines → IsLawfulRound (record set { rows = own }) stop [] state.kept state.words lines round words → NamesBelow (length places) round
own_names set own places stop state lines round words size stands known lawful =
    subst (λ (n : ℕ). NamesBelow n round) size (round_named (record set { rows = own }) stop [] state.kept state.words lines round words stands.subscribers.size known lawful)

-- and, said of all, it releases numbers that vectors may have
pub own_releasable : (set : Setting) (stop : Option Stop) (early : List LineRecord) (kept : List Kept) (words next : List ℕ) (jobs : List (List Line)) (places : List ℕ) (round : RoundRecord) → IsOfAll set stop early kept words jobs (round_of places round) next
    → All (All (IsReleasableLine set)) (records_of places round.jobs)
own_releasable set stop early kept words next jobs places round is = jobs_releasable set early kept [] jobs (records_of places round.jobs) is.lawful.nets is.lawful.given
