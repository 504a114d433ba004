-- For a round: what its pieces make of its record, and of the state after it.
use Rattle.std.proofs.Common.{◌≡◌, ℕ, zero, suc, ◌+◌, ◌-◌, ◌<◌, ◌≤◌, Bool, true, false, List, [], ◌∷◌, ◌++◌, length, get_or, refl, sym, ◌∙◌, ap, subst, arith, append-nil}
use Rattle.std.specs.Prelude.{All, AllPairs, Option, Some, None, slice_get, slice_index, if◌then◌else◌}
use Rattle.std.proofs.lemmas.List.{length-append, length-map}
use Rattle.std.proofs.lemmas.Grind.{flat_map-append}
use Rattle.std.proofs.lemmas.List.Sums.{sum_by-append, sum_by-cons}
use Rattle.std.proofs.lemmas.Option.{slice_get_within}
use Rattle.auc_memory.specs.declared.stop.Stop.{Stop}
use Rattle.auc_history.specs.declared.entry.Entry.{Entry}
use Rattle.auc_history.specs.declared.entry.Entry.TheVariants.{Drawn, Moved as moved, Look}
use Rattle.auc_history.specs.History.{drawn, drawn_by, skipped, skipped_by}
use Rattle.auc_history.specs.Split.{all_entries, Splits}
use Rattle.auc_history.proofs.Facts.{split_counts_its_numbers}
use Rattle.auc_lines.specs.declared.part.Line.{Line}
use Rattle.auc_lines.specs.Part.{AreApart}
use Rattle.auc_sqn.specs.Number.{max_seq}
use Rattle.auc_subs.specs.Subscriber.{top_at}
use Rattle.auc_subs.specs.declared.row.Row.{Row}
use Rattle.auc_vector.specs.declared.notes.NumberNote.{NumberNote}
use Rattle.auc_vector.specs.declared.notes.NumberNote.TheVariants as number
use Rattle.auc_vector.specs.declared.notes.ResyncNote.{ResyncNote}
use Rattle.auc_vector.specs.declared.notes.ResyncNote.TheVariants as resync
use Rattle.auc_record.specs.Event.{number_passed, number_released, number_withheld}
use Rattle.auc_record.specs.Entries.{is_reported, entries_of_line, entries_of_lines, entries_of_jobs, entries_of_number, entries_of_resync}
use Rattle.auc_world.specs.Given.{JobsGive}
use Rattle.auc_subs.specs.Setting.{Setting}
use Rattle.auc_world.specs.Start.{Kept}
use Rattle.auc_world.proofs.Facts.{jobs_give_after_all_lines, pieces_split_the_round}
use Rattle.auc_record.proofs.Facts.{length-reopened}
use Rattle.auc_world.specs.Net.{Net}
use Rattle.auc_world.specs.Pieces.{Piece, PiecesGive}
use Rattle.auc_record.specs.Lines.{number_by, numbers_of, released_by, resync_by, withheld_by, withheld_of, all_lines}
use Rattle.auc_world.specs.Round.{closing_of, closings_from, IsLawfulRound, Withholds}
use Rattle.auc_world.specs.Sessions.{AreVerdicts, job_sessions, premise_from}
use Rattle.auc_record.specs.declared.record.JobSessions.{JobSessions}
use Rattle.auc_record.specs.declared.record.Premise.{Premise}
use Rattle.auc_record.specs.declared.record.SessionVerdict.{SessionVerdict}
use Rattle.auc_record.specs.declared.record.Closing.{Closing}
use Rattle.auc_record.specs.declared.record.LineRecord.{LineRecord}
use Rattle.auc_record.specs.declared.counting.Count.{Count}
use Rattle.auc_record.specs.Counts.{passed_by, passed_in, capped, counted_in, AreCounted, counted_closing, counted_closings}
use Rattle.auc_jobs.specs.Usims.{AreBehind}
use Rattle.auc_jobs.specs.InnerRound.{ArePieces, AreServed, IsAdvanced, LeadsOn}
use Rattle.auc_jobs.specs.InnerUsims.{OwnDevices}
use Rattle.auc_jobs.specs.State.{Standing, StandsAt}
use Rattle.auc_jobs.proofs.PutLemmas.{ArePlaced, length-put_all, placed_jobs, put_all_alike}
use Rattle.auc_jobs.proofs.JobLemmas.{numbers_added}
use Rattle.auc_jobs.proofs.LineLemmas.{entries_of_lines-append}

-- the entries of all jobs are those of all lines
pub all_entries-of_jobs : (sub : ℕ) (before : List LineRecord) (jobs : List (List LineRecord))
    → all_entries (entries_of_jobs sub before jobs) ≡ entries_of_lines sub before (all_lines jobs)
all_entries-of_jobs sub before [] = refl
all_entries-of_jobs sub before (job ∷ jobs) =
    ap (λ (es : List Entry). entries_of_lines sub before job ++ es) (all_entries-of_jobs sub (before ++ job) jobs)
    ∙ sym (entries_of_lines-append sub before job (all_lines jobs))

-- ---- what lines pass over, and how many they release

-- an entry that passes over nothing, if it is there
passes_unless : (b : Bool) (entry : Entry) → skipped_by entry ≡ 0 → skipped (if b then [] else entry ∷ []) ≡ 0
passes_unless true entry none = refl
passes_unless false entry none = let e = sum_by-cons skipped_by entry [] in omega (arith, e, none)

-- the entries of a resynchronisation pass over what it passed over, those of a draw over nothing
passes_resync : (sub : ℕ) (before : List LineRecord) (o : Option ResyncNote) → skipped (entries_of_resync sub before o) ≡ number_passed o
passes_resync sub before None = refl
passes_resync sub before (Some (resync.Moved from to)) = let e = sum_by-cons skipped_by (moved from to) [] in omega (arith, e)
passes_resync sub before (Some (resync.InRange seen seq)) = passes_unless (is_reported sub seen before) (Look seen) refl
passes_resync sub before (Some (resync.Beyond seen seq)) = passes_unless (is_reported sub seen before) (Look seen) refl
passes_resync sub before (Some resync.BadAuts) = refl

passes_number : (sub : ℕ) (before : List LineRecord) (o : Option NumberNote) → skipped (entries_of_number sub before o) ≡ 0
passes_number sub before None = refl
passes_number sub before (Some (number.Drew n)) = passes_unless false (Drawn n) refl
passes_number sub before (Some (number.Exhausted word)) = passes_unless (is_reported sub word before) (Drawn (word + 1)) refl
passes_number sub before (Some (number.Withheld n stop)) = passes_unless false (Drawn n) refl

passes_line : (sub : ℕ) (before : List LineRecord) (line : LineRecord) → skipped (entries_of_line sub before line) ≡ passed_by sub line
passes_line sub before line =
    let cut = sum_by-append skipped_by (entries_of_resync sub before (resync_by sub line)) (entries_of_number sub before (number_by sub line)) in
    let first = passes_resync sub before (resync_by sub line) in
    let second = passes_number sub before (number_by sub line) in
    omega (arith, cut, first, second)

pub passes_lines : (sub : ℕ) (before lines : List LineRecord) → skipped (entries_of_lines sub before lines) ≡ passed_in sub lines
passes_lines sub before [] = refl
passes_lines sub before (line ∷ lines) =
    let e = sum_by-append skipped_by (entries_of_line sub before line) (entries_of_lines sub (before ++ line ∷ []) lines) in
    let f = sum_by-cons (passed_by sub) line lines in
    let here = passes_line sub before line in
    let rest = passes_lines sub (before ++ line ∷ []) lines in
    omega (arith, e, f, here, rest)

-- a released or withheld number was drawn
draws_line : (sub : ℕ) (before : List LineRecord) (line : LineRecord) → length (released_by sub line) + length (withheld_by sub line) ≤ length (drawn (entries_of_line sub before line))
draws_line sub before line =
    let front = entries_of_resync sub before (resync_by sub line) in
    let back = entries_of_number sub before (number_by sub line) in
    let cut : drawn (front ++ back) ≡ drawn front ++ drawn back = flat_map-append drawn_by front back in
    let both = ap (λ (ns : List ℕ). length ns) cut ∙ length-append (drawn front) (drawn back) in
    let here = by (number_by sub line) in
    omega (arith, both, here)
  where
    by : (o : Option NumberNote) → length (number_released o) + length (number_withheld o) ≤ length (drawn (entries_of_number sub before o))
    by None = omega arith
    by (Some (number.Drew n)) = omega arith
    by (Some (number.Exhausted word)) = omega arith
    by (Some (number.Withheld n stop)) = omega arith

draws_lines : (sub : ℕ) (before lines : List LineRecord) → length (numbers_of sub lines) + length (withheld_of sub lines) ≤ length (drawn (entries_of_lines sub before lines))
draws_lines sub before [] = omega arith
draws_lines sub before (line ∷ lines) =
    let here = draws_line sub before line in
    let rest = draws_lines sub (before ++ line ∷ []) lines in
    let e = length-append (released_by sub line) (numbers_of sub lines) in
    let h = length-append (withheld_by sub line) (withheld_of sub lines) in
    let f : drawn (entries_of_line sub before line ++ entries_of_lines sub (before ++ line ∷ []) lines)
    ≡ drawn (entries_of_line sub before line) ++ drawn (entries_of_lines sub (before ++ line ∷ []) lines) =
    flat_map-append drawn_by (entries_of_line sub before line) (entries_of_lines sub (before ++ line ∷ []) lines) in
    let g = ap (λ (ns : List ℕ). length ns) f ∙ length-append (drawn (entries_of_line sub before line)) (drawn (entries_of_lines sub (before ++ line ∷ []) lines)) in
    omega (arith, here, rest, e, h, g)

-- ---- a subscriber's count

-- what the jobs of a round made of a subscriber, from an opening to a closing
pub record Makes (sub opening closing : ℕ) (jobs : List (List LineRecord)) : Type 0 where
  pub top : ℕ
  pub split : Splits top opening closing (entries_of_jobs sub [] jobs)
  pub bound : closing ≤ max_seq + 64

-- the parts of its count
pub record Counts (sub opening closing : ℕ) (lines : List LineRecord) : Type 0 where
  pub whole : closing ≡ opening + length (drawn (entries_of_lines sub [] lines)) + passed_in sub lines
  pub skips : capped (passed_in sub lines) ≡ passed_in sub lines
  pub releases : capped (length (numbers_of sub lines)) ≡ length (numbers_of sub lines)
  pub withholds : capped (length (withheld_of sub lines)) ≡ length (withheld_of sub lines)

pub counts_made : (sub opening closing : ℕ) (jobs : List (List LineRecord)) → Makes sub opening closing jobs → Counts sub opening closing (all_lines jobs)
counts_made sub opening closing jobs m =
    record { whole = whole; skips = omega (arith, whole, bound); releases = omega (arith, whole, bound, few); withholds = omega (arith, whole, bound, few) }
  where
    whole : closing ≡ opening + length (drawn (entries_of_lines sub [] (all_lines jobs))) + passed_in sub (all_lines jobs)
    whole =
        let e = split_counts_its_numbers m.top opening closing (entries_of_jobs sub [] jobs) m.split in
        let d = ap (λ (es : List Entry). length (drawn es)) (all_entries-of_jobs sub [] jobs) in
        let s = ap skipped (all_entries-of_jobs sub [] jobs) in
        let f = passes_lines sub [] (all_lines jobs) in omega (arith, e, d, s, f)

    bound : closing ≤ max_seq + 64
    bound = m.bound

    few : length (numbers_of sub (all_lines jobs)) + length (withheld_of sub (all_lines jobs)) ≤ length (drawn (entries_of_lines sub [] (all_lines jobs)))
    few = draws_lines sub [] (all_lines jobs)

-- the closing by the lines and their entries is the counted one
closing_is : (sub opening closing : ℕ) (jobs : List (List LineRecord)) (count : Count) → length (drawn (all_entries (entries_of_jobs sub [] jobs))) ≡ closing - opening - count.skipped
    → skipped (all_entries (entries_of_jobs sub [] jobs)) ≡ count.skipped → length (numbers_of sub (all_lines jobs)) ≡ count.released
    → length (withheld_of sub (all_lines jobs)) ≡ count.withheld → closing_of sub opening closing jobs ≡ counted_closing sub opening closing count
closing_is sub opening closing jobs count draws passes releases withholds = rw (draws, passes, releases, withholds) refl

pub closing_counted : (sub opening closing : ℕ) (jobs : List (List LineRecord)) → Makes sub opening closing jobs
    → closing_of sub opening closing jobs ≡ counted_closing sub opening closing (counted_in sub (all_lines jobs))
closing_counted sub opening closing jobs m =
    let c = counts_made sub opening closing jobs m in
    let whole = c.whole in let skips = c.skips in
    let entries = all_entries-of_jobs sub [] jobs in
    let draws : length (drawn (all_entries (entries_of_jobs sub [] jobs))) ≡ closing - opening - capped (passed_in sub (all_lines jobs)) =
    ap (λ (es : List Entry). length (drawn es)) entries ∙ omega (arith, whole, skips) in
    let passes : skipped (all_entries (entries_of_jobs sub [] jobs)) ≡ capped (passed_in sub (all_lines jobs)) =
    ap skipped entries ∙ passes_lines sub [] (all_lines jobs) ∙ sym skips in
    closing_is sub opening closing jobs (counted_in sub (all_lines jobs)) draws passes (sym c.releases) (sym c.withholds)

-- all closings are the counted ones where each is
pub closings_counted : (sub : ℕ) (openings words : List ℕ) (counts : List Count) (jobs : List (List LineRecord)) → length counts ≡ length openings
    → ((k : ℕ) (count : Count) → k < length openings → slice_get counts k ≡ Some count
    → closing_of (sub + k) (get_or openings k 0) (get_or words k 0) jobs ≡ counted_closing (sub + k) (get_or openings k 0) (get_or words k 0) count)
    → closings_from sub openings words jobs ≡ counted_closings sub openings words counts
closings_counted sub [] words counts jobs size each = refl
closings_counted sub (opening ∷ openings) [] counts jobs size each = refl
closings_counted sub (opening ∷ openings) (word ∷ words) [] jobs size each = absurd (omega arith)
closings_counted sub (opening ∷ openings) (word ∷ words) (count ∷ counts) jobs size each =
    let here : sub + 0 ≡ sub = omega arith in
    let first : closing_of sub opening word jobs ≡ counted_closing sub opening word count =
    subst (λ (s : ℕ). closing_of s opening word jobs ≡ counted_closing s opening word count) here (each 0 count (omega arith) refl) in
    let rest = closings_counted (sub + 1) openings words counts jobs (omega arith) (λ k other k<n at.
    let there : sub + suc k ≡ sub + 1 + k = omega arith in
    subst (λ (s : ℕ). closing_of s (get_or openings k 0) (get_or words k 0) jobs ≡ counted_closing s (get_or openings k 0) (get_or words k 0) other) there (each (suc k) other (omega arith) at)) in
    rw (first, rest) refl

-- ---- the round

-- a word is within the bound of all
below_at : (words : List ℕ) (sub bound : ℕ) → All (λ word. word ≤ bound) words → slice_index words sub ≤ bound
below_at [] sub bound within = omega arith
below_at (word ∷ words) zero bound within = within 0 0 (omega arith)
below_at (word ∷ words) (suc sub) bound within = below_at words sub bound (λ k d lt. within (suc k) d (omega arith))

-- the pieces of a round split each subscriber's history by its jobs
pub pieces_make : (set : Setting) (early : List LineRecord) (stores : List Kept) (openings words : List ℕ) (jobs : List (List Line)) (records : List (List LineRecord)) (own : List OwnDevices) (sessions : List JobSessions) (sub : ℕ)
    → ArePieces set early stores openings jobs records own sessions words → All (λ word. word ≤ max_seq + 64) words → sub < length openings → Makes sub (slice_index openings sub) (slice_index words sub) records
pieces_make set early stores openings words jobs records own sessions sub p bound known = record {
  top = top_at set.rows sub;
  split = subst (λ (rs : List (List LineRecord)). Splits (top_at set.rows sub) (slice_index openings sub) (slice_index words sub) (entries_of_jobs sub [] rs)) (sym p.lines)
      (pieces_split_the_round (top_at set.rows sub) (slice_index openings sub) (slice_index words sub) sub p.pieces (p.reports sub) (p.split sub known));
  bound = below_at words sub (max_seq + 64) bound;
}

-- no closing is below the opening and what was passed over
pub closes_above : (set : Setting) (early : List LineRecord) (stores : List Kept) (openings words : List ℕ) (jobs : List (List Line)) (records : List (List LineRecord)) (own : List OwnDevices) (sessions : List JobSessions) (counts : List Count) (k : ℕ) (count : Count)
    → length counts ≡ length openings → ArePieces set early stores openings jobs records own sessions words → All (λ word. word ≤ max_seq + 64) words → AreCounted (all_lines records) counts → slice_get counts k ≡ Some count
    → slice_index openings k + count.skipped ≤ slice_index words k
closes_above set early stores openings words jobs records own sessions counts k count sizes p bound counted there =
    let within : k < length counts = slice_get_within counts k count there in
    let c = counts_made k (slice_index openings k) (slice_index words k) records (pieces_make set early stores openings words jobs records own sessions k p bound (omega (arith, within, sizes))) in
    let is : count ≡ counted_in k (all_lines records) = some_is count (counted_in k (all_lines records)) (sym there ∙ counted.each k within) in
    let whole = c.whole in let skips = c.skips in let same = ap (λ (n : Count). n.skipped) is in
    omega (arith, whole, skips, same)
  where
    some_is : (a b : Count) → Some a ≡ Some b → a ≡ b
    some_is a b e = cc

-- the round is lawful
lawful_round : (set : Setting) (stop : Option Stop) (early : List LineRecord) (stores : List Kept) (openings words : List ℕ) (jobs : List (List Line)) (records : List (List LineRecord)) (own : List OwnDevices) (sessions : List JobSessions) (counts : List Count)
    (number : ℕ) (closings : List Closing) (verdicts : List SessionVerdict) (kept : Premise) → AllPairs AreApart jobs → ArePieces set early stores openings jobs records own sessions words → All (λ word. word ≤ max_seq + 64) words
    → length words ≡ length openings → length counts ≡ length openings → AreCounted (all_lines records) counts → closings ≡ counted_closings 0 openings words counts → Withholds stop (all_lines records)
    → AreVerdicts sessions verdicts → kept ≡ premise_from 1 sessions
    → IsLawfulRound set stop early stores openings jobs (record { number = number; jobs = records; closings = closings; sessions = verdicts; premise = kept }) words
unfolding pieces_make
lawful_round set stop early stores openings words jobs records own sessions counts number closings verdicts kept apart p bound size sizes counted is withholds agree holds = record {
  nets = p.nets;
  sizes = size;
  fits = λ sub inside. let below = below_at words sub (max_seq + 64) bound in omega (arith, below);
  given = subst (λ (rs : List (List LineRecord)). JobsGive set early stores [] jobs rs p.nets) (sym p.lines) (jobs_give_after_all_lines set early stores jobs p.pieces p.nets apart p.give);
  split = λ sub inside. (pieces_make set early stores openings words jobs records own sessions sub p bound inside).split;
  closings = is ∙ sym (closings_counted 0 openings words counts records sizes (λ k count inside there.
      let here : k ≡ 0 + k = omega arith in
      let same : counted_in k (all_lines records) ≡ count = some_is (counted_in k (all_lines records)) count (sym (counted.each k (omega arith)) ∙ there) in
      subst (λ (s : ℕ). closing_of s (get_or openings k 0) (get_or words k 0) records ≡ counted_closing s (get_or openings k 0) (get_or words k 0) count) here
      (closing_counted k (slice_index openings k) (slice_index words k) records (pieces_make set early stores openings words jobs records own sessions k p bound inside)
      ∙ ap (counted_closing k (slice_index openings k) (slice_index words k)) same)));
  withheld = withholds;
  sessions = subst (λ (ss : List JobSessions). AreVerdicts ss verdicts) p.ends agree;
  premise = holds ∙ ap (premise_from 1) p.ends;
}
  where
    some_is : (a b : Count) → Some a ≡ Some b → a ≡ b
    some_is a b e = cc

-- and it leads to the next state
pub leads_on : (set : Setting) (stop : Option Stop) (early : List LineRecord) (state new : Standing) (words : List ℕ) (jobs : List (List Line)) (records : List (List LineRecord)) (own : List OwnDevices) (sessions : List JobSessions) (counts : List Count)
    (number : ℕ) (closings : List Closing) (verdicts : List SessionVerdict) (kept : Premise) → AllPairs AreApart jobs → ArePieces set early state.kept state.words jobs records own sessions words → All (λ word. word ≤ max_seq + 64) words
    → length words ≡ length state.words → length counts ≡ length state.words → AreCounted (all_lines records) counts → closings ≡ counted_closings 0 state.words words counts → Withholds stop (all_lines records)
    → AreVerdicts sessions verdicts → kept ≡ premise_from 1 sessions → IsAdvanced set.rows state records own words new → StandsAt set (early ++ all_lines records) new
    → LeadsOn set stop early state jobs (record { number = number; jobs = records; closings = closings; sessions = verdicts; premise = kept }) words new
unfolding lawful_round
leads_on set stop early state new words jobs records own sessions counts number closings verdicts kept apart p bound size sizes counted is withholds agree holds advanced stands = record {
  lawful = lawful_round set stop early state.kept state.words words jobs records own sessions counts number closings verdicts kept apart p bound size sizes counted is withholds agree holds;
  opens = advanced.opened;
  keeps = advanced.keeps ∙ put_all_alike state.kept own p.nets p.left;
  stands = stands;
}

-- each job has a network
as_many_nets : (set : Setting) (early : List LineRecord) (stores : List Kept) (jobs : List (List Line)) (pieces : List Piece) (nets : List Net) → PiecesGive set early stores jobs pieces nets → length nets ≡ length jobs
as_many_nets set early stores [] pieces nets (none, is) = ap (λ (ns : List Net). length ns) is
as_many_nets set early stores (job ∷ jobs) [] nets give = absurd give
as_many_nets set early stores (job ∷ jobs) (piece ∷ pieces) [] give = absurd give
as_many_nets set early stores (job ∷ jobs) (piece ∷ pieces) (net ∷ nets) (quiet, gives, more) = ap suc (as_many_nets set early stores jobs pieces nets more)

-- what the sessions came to is told of each job
pub as_many_sessions : (set : Setting) (early : List LineRecord) (stores : List Kept) (openings words : List ℕ) (jobs : List (List Line)) (records : List (List LineRecord)) (own : List OwnDevices) (sessions : List JobSessions)
    → ArePieces set early stores openings jobs records own sessions words → length sessions ≡ length jobs
as_many_sessions set early stores openings words jobs records own sessions p =
    ap (λ (ss : List JobSessions). length ss) p.ends ∙ length-map p.nets job_sessions ∙ as_many_nets set early stores jobs p.pieces p.nets p.give

-- the state after the round, by equal parts
pub advanced_as : (rows same_rows : List Row) (a b : Standing) (records others : List (List LineRecord)) (own same : List OwnDevices) (words ends : List ℕ) (new : Standing) → rows ≡ same_rows → a ≡ b → records ≡ others
    → own ≡ same → words ≡ ends → IsAdvanced rows a records own words new → IsAdvanced same_rows b others same ends new
advanced_as rows same_rows a b records others own same words ends new m p q r s is =
    subst (λ (x : List Row). IsAdvanced x b others same ends new) m
    (subst (λ (x : Standing). IsAdvanced rows x others same ends new) p
    (subst (λ (x : List (List LineRecord)). IsAdvanced rows a x same ends new) q
    (subst (λ (x : List OwnDevices). IsAdvanced rows a records x ends new) r (subst (λ (x : List ℕ). IsAdvanced rows a records own x new) s is))))

-- it is the next round's
pub stands_after : (set : Setting) (early : List LineRecord) (state new : Standing) (jobs : List (List Line)) (records : List (List LineRecord)) (own : List OwnDevices) (sessions : List JobSessions) (words : List ℕ)
    → AllPairs AreApart jobs → StandsAt set early state → AreServed set early state.kept state.words jobs records own sessions words → IsAdvanced set.rows state records own words new
    → StandsAt set (early ++ all_lines records) new
stands_after set early state new jobs records own sessions words apart stands served advanced = record {
  subscribers = record {
    size = ap (λ (ws : List ℕ). length ws) advanced.opened ∙ length-reopened set.rows words;
    numbers = advanced.within;
    secrets = placed.of_rows;
    kept = ap (λ (ks : List Kept). length ks) advanced.keeps ∙ length-put_all state.kept own ∙ stands.subscribers.kept;
  };
  pasts = placed.behind;
  earlier = advanced.noted early stands.earlier;
  numbers = numbers_added set.rows early (all_lines records) (early ++ all_lines records) refl stands.numbers served.numbers;
}
  where
    placed : ArePlaced set.rows (early ++ ([] ++ all_lines records)) new.usims
    placed = placed_jobs set.rows early [] state.usims new.usims jobs records own apart (λ k d within bits sub to. refl) served.settled advanced.put
        (record { of_rows = stands.subscribers.secrets; behind = subst (λ (lines : List LineRecord). AreBehind set.rows lines (slice_get state.usims)) (sym (append-nil early)) stands.pasts })
