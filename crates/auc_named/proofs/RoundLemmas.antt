-- For the law: a lawful round of some subscribers, which its plain lines name, is one of all.
use Rattle.std.proofs.Common.{◌≡◌, ℕ, ◌<◌, ◌^◌, ◌≢◌, List, [], length, map, All, AllPairs, get_or, slice_index, Option, Some, None, sym, ap, ◌∙◌, subst, ⊎_elim, arith}
use Rattle.std.proofs.lemmas.List.{get_or-map, get_or_default, length-map}
use Rattle.std.proofs.lemmas.List.Elements.{All-map, All-weaker}
use Rattle.auc_memory.specs.declared.stop.Stop.{Stop}
use Rattle.auc_history.proofs.Facts.{IsLegal-nil, cut_history_is_a_split}
use Rattle.auc_history.specs.History.{IsLegal}
use Rattle.auc_history.specs.Split.{Splits, all_entries}
use Rattle.auc_history.specs.declared.entry.Entry.{Entry}
use Rattle.auc_lines.specs.declared.part.Line.{Line}
use Rattle.auc_named.specs.Law.{EachNamedRoundIsLawful}
use Rattle.auc_named.specs.Named.{AreNamed, closing_of, put_words, record_of, records_of}
use Rattle.auc_subs.specs.Subscriber.{top_at}
use Rattle.auc_subs.specs.declared.row.Row.{Row}
use Rattle.auc_record.specs.Entries.{entries_of_jobs}
use Rattle.auc_world.specs.Given.{JobsGive}
use Rattle.auc_record.specs.Lines.{all_lines, numbers_of, withheld_of}
use Rattle.auc_world.specs.Round.{IsLawfulRound, NamesStop, Withholds}
use Rattle.auc_subs.specs.Setting.{Setting}
use Rattle.auc_world.specs.Start.{Kept}
use Rattle.auc_record.specs.declared.record.LineRecord.{LineRecord}
use Rattle.auc_record.specs.declared.record.LineRecord.TheVariants as said
use Rattle.auc_record.specs.declared.record.RoundRecord.{RoundRecord}
use Rattle.auc_named.proofs.ClosingLemmas.{closings_named}
use Rattle.auc_named.proofs.GivenLemmas.{jobs_keep, jobs_named, jobs_plain, top_named, with_rows}
use Rattle.auc_named.proofs.PlaceLemmas.{HasPlace, IsUnnamed, length-put_words, place_or_none, put_at, put_elsewhere}
use Rattle.auc_named.proofs.RecordLemmas.{ArePlainRecords, all_lines-records_of, entries_named, entries_unnamed, numbers_named, withheld_named, withheld_unnamed}

-- the words of some subscribers among those of all
abbrev pub words_at : List ℕ → List ℕ → List ℕ
words_at words places = map (λ place. slice_index words place) places

-- ---- what is withheld

-- a line about the subscriber of a place names the same cause
names_named : (places : List ℕ) (stop : Stop) (line : LineRecord) → NamesStop stop line → NamesStop stop (record_of places line)
names_named places stop (said.Number s note) names = names
names_named places stop (said.Sync s note) names = names
names_named places stop (said.Give s n answer) names = names
names_named places stop (said.Further further) names = names
names_named places stop (said.Event r) names = names

-- all of a list is above all of another
abbrev AreAbove : List ℕ → List ℕ → Type 0
AreAbove numbers held = All (λ m. All (λ n. n < m) numbers) held

-- a round of all withholds what the round of some does
withholds_named : (places : List ℕ) (jobs : List (List LineRecord)) (stop : Option Stop) → AllPairs ◌<◌ places → ArePlainRecords (length places) jobs
    → Withholds stop (all_lines jobs) → Withholds stop (all_lines (records_of places jobs))
withholds_named places jobs None rising plain withholds = λ sub. ⊎_elim
    (λ (has : HasPlace places sub). subst (λ k. withheld_of k (all_lines (records_of places jobs)) ≡ []) has.2 (withheld_named places jobs has.0 rising plain has.1 ∙ withholds has.0))
    (λ (none : IsUnnamed places sub). withheld_unnamed places jobs sub plain none)
    (place_or_none places sub)
withholds_named places jobs (Some stop) rising plain withholds = record {
  causes = subst (λ (lines : List LineRecord). All (NamesStop stop) lines) (sym (all_lines-records_of places jobs))
      (All-map (NamesStop stop) (record_of places) (all_lines jobs)
      (All-weaker (NamesStop stop) (λ (line : LineRecord). NamesStop stop (record_of places line)) (names_named places stop) (all_lines jobs) withholds.causes));
  above = λ sub. ⊎_elim
      (λ (has : HasPlace places sub). subst (λ k. AreAbove (numbers_of k (all_lines (records_of places jobs))) (withheld_of k (all_lines (records_of places jobs)))) has.2
      (subst (λ (numbers : List ℕ). AreAbove numbers (withheld_of (slice_index places has.0) (all_lines (records_of places jobs)))) (sym (numbers_named places jobs has.0 rising plain has.1))
      (subst (λ (held : List ℕ). AreAbove (numbers_of has.0 (all_lines jobs)) held) (sym (withheld_named places jobs has.0 rising plain has.1)) (withholds.above has.0))))
      (λ (none : IsUnnamed places sub). subst (λ (held : List ℕ). AreAbove (numbers_of sub (all_lines (records_of places jobs))) held) (sym (withheld_unnamed places jobs sub plain none))
      (λ k d inside. absurd (omega (arith, inside))))
      (place_or_none places sub);
}

-- ---- histories

-- a split by equal words and entries
splits_same : (top opening closing : ℕ) (lists : List (List Entry)) (t o c : ℕ) (ls : List (List Entry)) → top ≡ t → opening ≡ o → closing ≡ c → lists ≡ ls → Splits top opening closing lists → Splits t o c ls
splits_same top opening closing lists t o c ls tops openings closings same splits =
    subst (λ k. Splits k o c ls) tops (subst (λ k. Splits top k c ls) openings (subst (λ k. Splits top opening k ls) closings (subst (λ (es : List (List Entry)). Splits top opening closing es) same splits)))

-- no entries split a history in which nothing happened
splits_none : (top word : ℕ) (lists : List (List Entry)) → all_entries lists ≡ [] → Splits top word word lists
splits_none top word lists none = cut_history_is_a_split top word word lists (subst (λ (es : List Entry). IsLegal top word word es) (sym none) (IsLegal-nil top word))

-- ---- the round

-- the records of a lawful round of some subscribers are plain, if its lines are
pub round_is_plain : (set : Setting) (own : List Row) (stop : Option Stop) (before : List LineRecord) (held : List Kept) (openings : List ℕ) (jobs lines : List (List Line)) (places : List ℕ) (round : RoundRecord) (next : List ℕ)
    → AreNamed set.rows jobs places own lines → IsLawfulRound (record set { rows = own }) stop before held openings lines round next → ArePlainRecords (length places) round.jobs
round_is_plain set own stop before held openings jobs lines places round next named is =
    jobs_plain (with_rows set own) (length places) before held [] lines round.jobs is.nets named.at.size named.plain named.known is.given

-- and the round, said of all, is lawful
pub each_named_round_is_lawful : EachNamedRoundIsLawful
each_named_round_is_lawful set own stop before early held kept words jobs lines places round next named size fits is =
    let at = named.at in
    let rising = at.rising in
    let openings = words_at words places in
    let put = put_words words places next in
    let opens : length openings ≡ length places = length-map places (λ place. slice_index words place) in
    let closes : length next ≡ length places = is.sizes ∙ opens in
    let within : All (λ place. place < length words) places = λ k d inside. let below = at.within k d inside in omega (arith, below, size) in
    let plain : ArePlainRecords (length places) round.jobs = round_is_plain set own stop before held openings jobs lines places round next named is in
    let opened : (j : ℕ) → j < length places → slice_index words (slice_index places j) ≡ slice_index openings j =
    λ j inside. sym (get_or-map (λ place. slice_index words place) places j 0 0 inside) in
    let closed : (j : ℕ) → j < length places → slice_index put (slice_index places j) ≡ slice_index next j = λ j inside. put_at words places next j rising within closes inside in
    record {
      lawful = record {
        sizes = length-put_words words places next;
        fits = λ sub inside. ⊎_elim
            (λ (has : HasPlace places sub). subst (λ word. word < 2 ^ 64) (sym (closed has.0 has.1) ∙ ap (slice_index put) has.2) (is.fits has.0 (subst (λ k. has.0 < k) (sym closes) has.1)))
            (λ (none : IsUnnamed places sub). subst (λ word. word < 2 ^ 64) (sym (put_elsewhere words places next sub none)) (fits sub (subst (λ k. sub < k) (length-put_words words places next) inside)))
            (place_or_none places sub);
        nets = is.nets;
        given = subst (λ (js : List (List Line)). JobsGive set early kept [] js (records_of places round.jobs) is.nets) named.are
            (jobs_named set own places before early held kept [] [] lines round.jobs is.nets at named.plain named.known is.given);
        split = λ sub inside. ⊎_elim
            (λ (has : HasPlace places sub). subst (λ k. Splits (top_at set.rows k) (slice_index words k) (slice_index put k) (entries_of_jobs k [] (records_of places round.jobs))) has.2
            (splits_same (top_at own has.0) (slice_index openings has.0) (slice_index next has.0) (entries_of_jobs has.0 [] round.jobs)
            (top_at set.rows (slice_index places has.0)) (slice_index words (slice_index places has.0)) (slice_index put (slice_index places has.0)) (entries_of_jobs (slice_index places has.0) [] (records_of places round.jobs))
            (top_named set.rows own places has.0 at has.1) (sym (opened has.0 has.1)) (sym (closed has.0 has.1)) (sym (entries_named places round.jobs has.0 rising plain has.1))
            (is.split has.0 (subst (λ k. has.0 < k) (sym opens) has.1))))
            (λ (none : IsUnnamed places sub). subst (λ word. Splits (top_at set.rows sub) (slice_index words sub) word (entries_of_jobs sub [] (records_of places round.jobs))) (sym (put_elsewhere words places next sub none))
            (splits_none (top_at set.rows sub) (slice_index words sub) (entries_of_jobs sub [] (records_of places round.jobs)) (entries_unnamed places round.jobs sub plain none)))
            (place_or_none places sub);
        closings = ap (map (closing_of places)) is.closings
            ∙ sym (closings_named places words put openings next round.jobs rising plain (λ j inside. within j 0 inside) (length-put_words words places next) opens closes opened closed
            (λ k none. sym (put_elsewhere words places next k (λ j d inside. none_at k none j d inside))));
        withheld = withholds_named places round.jobs stop rising plain is.withheld;
        sessions = is.sessions;
        premise = is.premise;
      };
      keeps = jobs_keep (with_rows set own) before held [] kept lines round.jobs is.nets named.plain is.given;
    }
  where
    none_at : (k : ℕ) → ((j : ℕ) → j < length places → slice_index places j ≢ k) → (j d : ℕ) → j < length places → get_or places j d ≢ k
    none_at k none j d inside place = none j inside (get_or_default places j 0 d inside ∙ place)
