-- For runs: the lines with which the job begins, so that it holds the USIMs of some subscribers. They change nothing.
use Rattle.std.proofs.Common.{◌≡◌, ℕ, zero, suc, ◌<◌, ◌≤◌, Bool, true, false, List, [], ◌∷◌, ◌++◌, length, map, refl, sym, ◌∙◌, ap, subst, append_assoc, append-nil, arith}
use Rattle.std.specs.Prelude.{All, ◌==◌, Option, Some, None, slice_index, if◌then◌else◌}
use Rattle.std.proofs.lemmas.Bool.Decides.{nat_tests}
use Rattle.std.proofs.lemmas.List.Elements.{All-head, All-nil, All-tail}
use Rattle.auc_jobs.proofs.Facts.{numbers_of-append, some_at}
use Rattle.auc_jobs.specs.InnerServing.{IsTold, before_at}
use Rattle.auc_lines.specs.declared.part.Line.{Line}
use Rattle.auc_lines.specs.declared.part.Line.TheVariants as line
use Rattle.auc_sqn.specs.Past.{Remembers}
use Rattle.auc_subs.specs.Subscriber.{AreSubscribers, IsRow, top_at}
use Rattle.auc_subs.specs.declared.row.Row.{Row}
use Rattle.auc_vector.specs.Stretch.{kept_at}
use Rattle.auc_record.specs.Entries.{entries_of_lines, is_reported}
use Rattle.auc_world.specs.Given.{GiveGives, IsGiven, JobGives, is_released, past_before, past_of}
use Rattle.auc_record.specs.Lines.{is_in, accepted, held_of, numbers_of}
use Rattle.auc_world.specs.Net.{Net, device_place}
use Rattle.auc_subs.specs.Setting.{Setting}
use Rattle.auc_world.specs.World.{WorldState}
use Rattle.auc_world.specs.declared.net.Session.{Session}
use Rattle.auc_record.specs.declared.record.GiveVerdict.TheVariants as given
use Rattle.auc_record.specs.declared.record.LineRecord.{LineRecord}
use Rattle.auc_record.specs.declared.record.LineRecord.TheVariants.{Give}
use Rattle.auc_events.specs.Run.{AreOpened, first_core, first_words}
use Rattle.auc_events.proofs.StepLemmas.{Holds}

-- the lines, and their records
abbrev pub holding : List ℕ → List Line
holding subs = map (λ sub. line.Give sub 1) subs

abbrev pub absent : List ℕ → List LineRecord
absent subs = map (λ sub. Give sub 1 given.Absent) subs

-- ---- what the records say

pub held_absent : (sub : ℕ) (subs : List ℕ) (more : List LineRecord) → held_of sub (absent subs ++ more) ≡ held_of sub more
held_absent sub [] more = refl
held_absent sub (s ∷ subs) more = held_absent sub subs more

pub numbers_absent : (sub : ℕ) (subs : List ℕ) (more : List LineRecord) → numbers_of sub (absent subs ++ more) ≡ numbers_of sub more
numbers_absent sub [] more = refl
numbers_absent sub (s ∷ subs) more = numbers_absent sub subs more

accepted_none : (b : Bool) → ◌≡◌ {A = List (List ℕ)} (if b then [] else []) []
accepted_none true = refl
accepted_none false = refl

pub accepted_absent : (bits sub : ℕ) (subs : List ℕ) (more : List LineRecord) → accepted bits sub (absent subs ++ more) ≡ accepted bits sub more
accepted_absent bits sub [] more = refl
accepted_absent bits sub (s ∷ subs) more =
    ap (λ (sqns : List (List ℕ)). sqns ++ accepted bits sub (absent subs ++ more)) (accepted_none (s == sub)) ∙ accepted_absent bits sub subs more

pub entries_absent : (sub : ℕ) (before : List LineRecord) (subs : List ℕ) (more : List LineRecord) → entries_of_lines sub before (absent subs ++ more) ≡ entries_of_lines sub (before ++ absent subs) more
entries_absent sub before [] more = ap (λ (lines : List LineRecord). entries_of_lines sub lines more) (sym (append-nil before))
entries_absent sub before (s ∷ subs) more =
    entries_absent sub (before ++ Give s 1 given.Absent ∷ []) subs more
    ∙ ap (λ (lines : List LineRecord). entries_of_lines sub lines more) (append_assoc before (Give s 1 given.Absent ∷ []) (absent subs))

reported_absent : (sub word : ℕ) (subs : List ℕ) → is_reported sub word (absent subs) ≡ false
reported_absent sub word [] = refl
reported_absent sub word (s ∷ subs) = reported_absent sub word subs

-- ---- what they give

-- no number was released before them, so the vectors are absent
give_absent : (set : Setting) (own : List LineRecord) (sub : ℕ) → sub < length set.rows → numbers_of sub own ≡ [] → GiveGives set (before_at [] [] own) sub 1 (Give sub 1 given.Absent ∷ [])
give_absent set own sub known none =
    let (row, there) = some_at set.rows sub known in
    let nothing : is_released (before_at [] [] own) sub 1 ≡ false = ap (λ (ns : List ℕ). is_in 1 ns) none in
    record {
      row = row;
      there = there;
      answer = given.Absent;
      lines_are = refl;
      given = subst (λ (b : Bool). IsGiven row b (past_before (before_at [] [] own) row sub) 1 given.Absent) (sym nothing) refl;
    }

pub holding_gives : (set : Setting) (own : List LineRecord) (subs : List ℕ) (net last : Net) (lines : List Line) (records : List LineRecord) → All (λ sub. sub < length set.rows) subs
    → ((sub : ℕ) → numbers_of sub own ≡ []) → JobGives set (before_at [] [] (own ++ absent subs)) net lines records last
    → JobGives set (before_at [] [] own) net (holding subs ++ lines) (absent subs ++ records) last
holding_gives set own [] net last lines records known none rest = subst (λ (ls : List LineRecord). JobGives set (before_at [] [] ls) net lines records last) (append-nil own) rest
holding_gives set own (s ∷ subs) net last lines records known none rest = (
  Give s 1 given.Absent ∷ [],
  absent subs ++ records,
  net,
  refl,
  (give_absent set own s (All-head (λ (sub : ℕ). sub < length set.rows) s subs known) (none s), refl),
  holding_gives set (own ++ Give s 1 given.Absent ∷ []) subs net last lines records (All-tail (λ (sub : ℕ). sub < length set.rows) s subs known)
      (λ sub. numbers_of-append sub own (Give s 1 given.Absent ∷ []) ∙ append-nil (numbers_of sub own) ∙ none sub)
      (subst (λ (ls : List LineRecord). JobGives set (before_at [] [] ls) net lines records last) (sym (append_assoc own (Give s 1 given.Absent ∷ []) (absent subs))) rest),
)

-- ---- what holds after them

-- a row's number is no mark
opening_is : (rows : List Row) (sub : ℕ) → All IsRow rows → slice_index (first_words rows) sub ≤ top_at rows sub
opening_is [] zero each = omega arith
opening_is [] (suc sub) each = omega arith
opening_is (row ∷ rows) zero each = (All-head IsRow row rows each).drawn
opening_is (row ∷ rows) (suc sub) each = opening_is rows sub (All-tail IsRow row rows each)

kept_nothing : (top word : ℕ) → word ≤ top → kept_at top word ≡ None
kept_nothing top word = grind (arith, nat_tests)

pub holds_first : (set : Setting) (subs : List ℕ) (first : WorldState) → AreSubscribers set.rows → AreOpened set.rows first → first.net.sessions ≡ []
    → Holds set (absent subs) first (first_core set.rows)
holds_first set subs first are fresh none = record {
  stands = record {
    told = λ sub.
        subst (λ (o : Option ℕ). IsTold sub o (absent subs)) (sym (kept_nothing (top_at set.rows sub) (slice_index (first_words set.rows) sub) (opening_is set.rows sub are.each)))
        (λ word. reported_absent sub word subs);
    earlier = λ sub n. refl;
    numbers = (λ sub. All-nil (λ n. n ≤ top_at set.rows sub), λ sub. subst (All (λ n. n ≤ top_at set.rows sub)) (sym (no_number sub)) (All-nil (λ n. n ≤ top_at set.rows sub)));
    pasts = λ sub row usim at there.
        subst (λ (sqns : List (List ℕ)). Remembers usim.array (past_of row.bits row.usim sqns)) (sym (nothing row.bits sub)) (fresh sub row usim at there).past;
  };
  secrets = λ sub row usim at there. (fresh sub row usim at there).own;
  placed = subst (All (λ s. device_place set.rows first.net.devices s.sub ≡ Some s.device)) (sym none) (All-nil (λ (s : Session). device_place set.rows first.net.devices s.sub ≡ Some s.device));
  low = λ sub. let low = opening_is set.rows sub are.each in omega (arith, low);
  tops = refl;
}
  where
    nothing : (bits sub : ℕ) → accepted bits sub (absent subs) ≡ []
    nothing bits sub = ap (accepted bits sub) (sym (append-nil (absent subs))) ∙ accepted_absent bits sub subs []

    no_number : (sub : ℕ) → numbers_of sub (absent subs) ≡ []
    no_number sub = ap (numbers_of sub) (sym (append-nil (absent subs))) ∙ numbers_absent sub subs []
