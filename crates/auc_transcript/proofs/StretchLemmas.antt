-- For the laws: the stretches of a lawful transcript. Each covers a range of numbers once, and draws numbers above all
-- that were released before it.
use Rattle.std.proofs.Common.{◌≡◌, ℕ, ◌+◌, ◌<◌, ◌≤◌, List, [], ◌∷◌, ◌++◌, Option, length, get_or, refl, sym, ap, subst, arith, inl, inr}
use Rattle.std.proofs.lemmas.Bool.{cases_lt}
use Rattle.std.proofs.lemmas.Bool.Decides.{nat_tests}
use Rattle.std.specs.Prelude.{if◌then◌else◌, nat_lt, nat_le, ◌&&◌, min, max}
use Rattle.auc_memory.specs.declared.stop.Stop.{Stop}
use Rattle.auc_subs.specs.Subscriber.{top_at}
use Rattle.auc_history.specs.declared.entry.Entry.{Entry}
use Rattle.auc_history.specs.History.{covered, drawn}
use Rattle.auc_history.specs.Split.{all_entries, times}
use Rattle.auc_history.proofs.Facts.{times-drawn}
use Rattle.auc_lines.specs.declared.part.Line.{Line}
use Rattle.auc_lines.specs.declared.part.Part.{Part}
use Rattle.auc_lines.specs.declared.part.Part.TheVariants.{Round, Restart}
use Rattle.auc_record.specs.declared.record.LineRecord.{LineRecord}
use Rattle.auc_record.specs.declared.record.PartRecord.{PartRecord}
use Rattle.auc_record.specs.declared.record.PartRecord.TheVariants as record_of
use Rattle.auc_record.specs.declared.record.RoundRecord.{RoundRecord}
use Rattle.auc_record.specs.Lines.{numbers_of, all_lines}
use Rattle.auc_subs.specs.Setting.{Setting}
use Rattle.auc_world.specs.Limits.{opened}
use Rattle.auc_world.specs.Round.{IsLawfulRound}
use Rattle.auc_world.specs.Start.{Kept}
use Rattle.auc_world.specs.Transcript.{Course, Leads, after_round, after_restart, stop_before, lines_of, entries_of, before_first, stretches_of}
use Rattle.auc_record.specs.Openings.{reopened}
use Rattle.auc_transcript.proofs.LineLemmas.{All-times, times-numbers-append}
use Rattle.auc_record.proofs.Facts.{get_or-reopened, length-reopened}
use Rattle.auc_world.proofs.Facts.{length-opened, opened_above}
use Rattle.auc_transcript.proofs.RoundLemmas.{CoversRange, covers_nothing, times-drawn-append, round_joined, round_drawn, round_told}
use Rattle.auc_transcript.proofs.ServedLemmas.{round_served}

-- what stretches draw is above some numbers
pub record AreAbove (top : ℕ) (numbers : List ℕ) (stretches : List (List Entry)) : Type 0 where
  pub above : (m n : ℕ) → m ≤ top → n ≤ top → 1 ≤ times m numbers → 1 ≤ times n (drawn (all_entries stretches)) → m < n

-- each stretch covers a range of numbers, each once, and the later ones draw greater numbers than it
abbrev pub AreStretches : ℕ → List (List Entry) → Type 0
AreStretches top [] = Unit {0}
AreStretches top (entries ∷ more) =
    ((low : ℕ) × (high : ℕ) × CoversRange top low high entries) × AreAbove top (drawn entries) more × AreStretches top more

-- the stretches after some released numbers, if the first goes on from an opening
abbrev pub GoOn : ℕ → ℕ → List ℕ → List (List Entry) → Type 0
GoOn top opening released [] = ⊥
GoOn top opening released (entries ∷ more) =
    ((high : ℕ) × CoversRange top opening high entries) × AreAbove top released more × AreAbove top (drawn entries) more × AreStretches top more

-- the stretches after the first
abbrev pub later_ones : List (List Entry) → List (List Entry)
later_ones [] = []
later_ones (first ∷ more) = more

-- no stretches draw a number that isn't above
none_above : (top : ℕ) (numbers : List ℕ) → AreAbove top numbers []
none_above top numbers = record { above = λ m n low high some there. absurd (omega (arith, there)) }

-- what stretches draw is above no numbers
above_none : (top : ℕ) (stretches : List (List Entry)) → AreAbove top [] stretches
above_none top stretches = record { above = λ m n low high some there. absurd (omega (arith, some)) }

-- stretches that go on are stretches
pub go_on_stretches : (top opening : ℕ) (released : List ℕ) (stretches : List (List Entry)) → GoOn top opening released stretches → AreStretches top stretches
go_on_stretches top opening released [] go = absurd go
go_on_stretches top opening released (entries ∷ more) ((high, covers), above, apart, are) = ((opening, high, covers), apart, are)

-- ---- a round

-- a round before stretches
round_goes_on : (top sub opening closing next : ℕ) (early : List LineRecord) (round : RoundRecord) (stretches : List (List Entry))
    → next ≡ min top closing → opening ≤ closing
    → ((n : ℕ) → times n (covered (entries_of sub round)) ≡ (if nat_lt opening n && nat_le n closing then 1 else 0))
    → AreAbove top (drawn (entries_of sub round)) (later_ones stretches)
    → GoOn top next (numbers_of sub (early ++ all_lines round.jobs)) stretches
    → GoOn top opening (numbers_of sub early) (before_first (entries_of sub round) stretches)
round_goes_on top sub opening closing next early round [] again forward once apart go = absurd go
round_goes_on top sub opening closing next early round (entries ∷ more) again forward once apart ((high, covers), above, others, are) = (
  (max opening high, round_joined top opening closing next high (entries_of sub round) entries again forward once covers),
  record {
    above = λ m n low within some there.
        let cut = times-numbers-append m sub early (all_lines round.jobs) in
        above.above m n low within (omega (arith, cut, some)) there;
  },
  record {
    above = λ m n low within some there.
        let cut = times-drawn-append m (entries_of sub round) entries in
        elim (cases_lt 0 (times m (drawn (entries_of sub round)))) [
          | inl here ↦ apart.above m n low within (omega (arith, here)) there
          | inr none ↦ others.above m n low within (omega (arith, cut, none, some)) there
        ];
  },
  are,
)

-- the later stretches of a transcript draw greater numbers than a round draws, since it released these
above_round : (set : Setting) (sub opening : ℕ) (early : List LineRecord) (kept : List Kept) (jobs : List (List Line)) (openings words : List ℕ) (stop : Option Stop) (round : RoundRecord)
    (records : List PartRecord) → IsLawfulRound set (stop_before stop records) early kept openings jobs round words
    → (stretches : List (List Entry)) → stretches ≡ stretches_of sub records → GoOn (top_at set.rows sub) opening (numbers_of sub (early ++ all_lines round.jobs)) stretches
    → AreAbove (top_at set.rows sub) (drawn (entries_of sub round)) (later_ones stretches)
above_round set sub opening early kept jobs openings words stop round [] lawful stretches same go =
    subst (λ (ss : List (List Entry)). AreAbove (top_at set.rows sub) (drawn (entries_of sub round)) (later_ones ss)) (sym same)
    (none_above (top_at set.rows sub) (drawn (entries_of sub round)))
above_round set sub opening early kept jobs openings words stop round (next ∷ records) lawful [] same go = absurd go
above_round set sub opening early kept jobs openings words stop round (next ∷ records) lawful (entries ∷ more) same ((high, covers), above, others, are) = record {
  above = λ m n low within some there.
      let told = round_told set m sub early round low (round_served set early kept jobs round.jobs lawful.nets lawful.given) in
      let none = ap (times m) (lawful.withheld sub) in
      let cut = times-numbers-append m sub early (all_lines round.jobs) in
      above.above m n low within (omega (arith, told, none, cut, some)) there;
}

-- ---- a restart

-- what is counted at all is above the low end
above_low : (n low high : ℕ) → 1 ≤ (if nat_lt low n && nat_le n high then 1 else 0) → low < n
above_low n low high = grind (arith, nat_tests)

-- what a stretch draws is above the low end of its range
drawn_above : (top low high n : ℕ) (entries : List Entry) → CoversRange top low high entries → n ≤ top → 1 ≤ times n (drawn entries) → low < n
drawn_above top low high n entries covers within there =
    let more = times-drawn n entries in let once = covers.once n within in above_low n low high (omega (arith, there, more, once))

-- a restart before stretches
restart_goes_on : (top opening next : ℕ) (released : List ℕ) (stretches : List (List Entry)) → ((m : ℕ) → m ≤ top → 1 ≤ times m released → m ≤ next)
    → GoOn top next released stretches → GoOn top opening released ([] ∷ stretches)
restart_goes_on top opening next released [] below go = absurd go
restart_goes_on top opening next released (entries ∷ more) below ((high, covers), above, apart, are) = (
  (opening, covers_nothing top opening),
  record {
    above = λ m n low within some there.
        let cut = times-drawn-append n entries (all_entries more) in
        elim (cases_lt 0 (times n (drawn entries))) [
          | inl here ↦ let lower = below m low some in let higher = drawn_above top next high n entries covers within (omega (arith, here)) in omega (arith, lower, higher)
          | inr none ↦ above.above m n low within some (omega (arith, cut, none, there))
        ];
  },
  above_none top (entries ∷ more),
  ((next, high, covers), apart, are),
)

-- ---- transcripts

-- the stretches of the parts of a lawful transcript
pub parts_go_on : (set : Setting) (stop : Option Stop) (sub : ℕ) (at : Course) (parts : List Part) (records : List PartRecord) (end : Course) → sub < length set.rows
    → length at.openings ≡ length set.rows → Leads set stop at parts records end
    → GoOn (top_at set.rows sub) (get_or at.openings sub 0) (numbers_of sub at.early) (stretches_of sub records)
parts_go_on set stop sub at [] records end inside sizes (none, same) =
    let top = top_at set.rows sub in
    subst (λ (rs : List PartRecord). GoOn top (get_or at.openings sub 0) (numbers_of sub at.early) (stretches_of sub rs)) (sym none)
    ((get_or at.openings sub 0, covers_nothing top (get_or at.openings sub 0)), none_above top (numbers_of sub at.early), above_none top [], tt)
parts_go_on set stop sub at (part ∷ parts) [] end inside sizes leads = absurd leads
parts_go_on set stop sub at (Round jobs ∷ parts) (record_of.Round round ∷ records) end inside sizes (next, serves, rest) =
    let words = serves.words in
    let more = subst (λ (c : Course). Leads set stop c parts records end) serves.leads rest in
    let same = serves.lawful.sizes in
    let go = parts_go_on set stop sub (after_round set.rows at round words serves.lawful.nets) parts records end inside (length-reopened set.rows words) more in
    let splits = serves.lawful.split sub (omega (arith, inside, sizes)) in
    round_goes_on (top_at set.rows sub) sub (get_or at.openings sub 0) (get_or words sub 0) (get_or (reopened set.rows words) sub 0) at.early round (stretches_of sub records)
    (get_or-reopened set.rows words sub inside (omega (arith, same, sizes, inside))) splits.forward splits.once
    (above_round set sub (get_or (reopened set.rows words) sub 0) at.early at.kept jobs at.openings words stop round records serves.lawful (stretches_of sub records) refl go) go
parts_go_on set stop sub at (Round jobs ∷ parts) (record_of.Restart ∷ records) end inside sizes (next, serves, rest) = absurd serves
parts_go_on set stop sub at (Restart ∷ parts) (record_of.Round round ∷ records) end inside sizes (next, serves, rest) = absurd serves
parts_go_on set stop sub at (Restart ∷ parts) (record_of.Restart ∷ records) end inside sizes (next, restarts, rest) =
    let limits = restarts.limits in
    let more = subst (λ (c : Course). Leads set stop c parts records end) restarts.leads rest in
    let go = parts_go_on set stop sub (after_restart set.rows at limits) parts records end inside (length-opened set.rows limits) more in
    restart_goes_on (top_at set.rows sub) (get_or at.openings sub 0) (get_or (opened set.rows limits) sub 0) (numbers_of sub at.early) (stretches_of sub records)
    (λ m within some.
    let low = All-times (λ (n : ℕ). n ≤ get_or limits sub 0) m (numbers_of sub at.early) (restarts.raises.released sub inside) some in
    let high = opened_above set.rows limits sub inside in omega (arith, low, within, high))
    go

-- ---- released numbers are drawn

-- entries before those of the first stretch
first_drawn : (n : ℕ) (entries : List Entry) (stretches : List (List Entry))
    → times n (drawn (all_entries (before_first entries stretches))) ≡ times n (drawn entries) + times n (drawn (all_entries stretches))
first_drawn n entries [] = times-drawn-append n entries []
first_drawn n entries (first ∷ more) =
    let outer = times-drawn-append n (entries ++ first) (all_entries more) in
    let inner = times-drawn-append n entries first in
    let those = times-drawn-append n first (all_entries more) in
    omega (arith, outer, inner, those)

-- the numbers of all vectors
pub records_drawn : (n sub : ℕ) (records : List PartRecord) → times n (numbers_of sub (lines_of records)) ≤ times n (drawn (all_entries (stretches_of sub records)))
records_drawn n sub [] = omega arith
records_drawn n sub (record_of.Round round ∷ records) =
    let here = round_drawn n sub round in
    let others = records_drawn n sub records in
    let these = times-numbers-append n sub (all_lines round.jobs) (lines_of records) in
    let those = first_drawn n (entries_of sub round) (stretches_of sub records) in
    omega (arith, here, others, these, those)
records_drawn n sub (record_of.Restart ∷ records) = records_drawn n sub records
