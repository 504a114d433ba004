-- The law of genuine SQNs: without sessions a USIM accepts SQNs alone that were drawn for its subscriber.
use Rattle.std.proofs.Common.{◌≡◌, ◌≢◌, ℕ, ◌≤◌, ◌==◌, Bool, true, false, List, [], ◌∷◌, ◌++◌, map, All, refl, sym, ap, ◌∙◌, subst, arith, append_assoc, append-nil}
use Rattle.std.specs.Prelude.{if◌then◌else◌}
use Rattle.std.proofs.lemmas.Bool.{eqb-true}
use Rattle.std.proofs.lemmas.List.Elements.{All-append, All-cons, All-head, All-nil, All-tail}
use Rattle.auc_history.specs.History.{drawn}
use Rattle.auc_history.specs.Split.{all_entries, times}
use Rattle.auc_history.specs.declared.entry.Entry.{Entry}
use Rattle.auc_sqn.specs.Number.{top_of}
use Rattle.auc_record.specs.Lines.{accepted, accepted_by, numbers_of, taken}
use Rattle.auc_subs.specs.Setting.{Setting}
use Rattle.auc_world.specs.Transcript.{lines_of, stretches_of}
use Rattle.auc_record.specs.declared.record.GiveVerdict.{GiveVerdict}
use Rattle.auc_record.specs.declared.record.GiveVerdict.TheVariants as given
use Rattle.auc_record.specs.declared.record.LineRecord.{LineRecord}
use Rattle.auc_record.specs.declared.record.LineRecord.TheVariants.{Number, Sync, Give, Further, Event}
use Rattle.auc_record.specs.declared.record.PartRecord.TheVariants as record_of
use Rattle.auc_transcript.specs.Headline.{EachSqnOutsideSessionsIsGenuine, IsGenuine, IsOutsideSessions}
use Rattle.auc_transcript.specs.Rounds.{EachSqnInRoundsIsGenuine, entries_of_rounds}
use Rattle.auc_transcript.proofs.FailureLemmas.{vector_is_drawn}
use Rattle.auc_transcript.proofs.LineLemmas.{Contains-from_times, times-numbers-append}
use Rattle.auc_transcript.proofs.ServedLemmas.{AreServed, IsAnswered, IsServed}
use Rattle.auc_transcript.proofs.SingleLemmas.{one_stretch}
use Rattle.auc_transcript.proofs.VectorLemmas.{numbers_within, row_within, transcript_served}

-- each number that some lines release was drawn by some entries
abbrev AreDrawnBy : ℕ → ℕ → List Entry → List LineRecord → Type 0
AreDrawnBy bits sub entries lines = (n : ℕ) → 1 ≤ times n (numbers_of sub lines) → (n ≤ top_of bits) × (1 ≤ times n (drawn entries))

-- a presented number
given_genuine : (set : Setting) (bits sub s n : ℕ) (entries : List Entry) (answer : GiveVerdict) (b : Bool) (before : List LineRecord) → (s == sub) ≡ b
    → (answer ≢ given.Absent → IsAnswered set before s n answer) → AreDrawnBy bits sub entries before → All (IsGenuine bits entries) (if b then taken bits n answer else [])
given_genuine set bits sub s n entries answer false before mine is all = All-nil (IsGenuine bits entries)
given_genuine set bits sub s n entries (given.Sync sqn_ms) true before mine is all = All-nil (IsGenuine bits entries)
given_genuine set bits sub s n entries given.Absent true before mine is all = All-nil (IsGenuine bits entries)
given_genuine set bits sub s n entries given.Accepted true before mine is all =
    let answered = is (λ same. let bad : ⊥ = cc in bad) in
    let (within, there) = all n (subst (λ (k : ℕ). 1 ≤ times n (numbers_of k before)) (eqb-true s sub mine) answered.released) in
    All-cons (IsGenuine bits entries) _ [] (n, within, Contains-from_times n (drawn entries) there, refl) (All-nil (IsGenuine bits entries))

line_genuine : (set : Setting) (bits sub : ℕ) (entries : List Entry) (before : List LineRecord) (line : LineRecord) → IsServed set before line → IsOutsideSessions line → AreDrawnBy bits sub entries before
    → All (IsGenuine bits entries) (accepted_by bits sub line)
line_genuine set bits sub entries before (Number s note) is none all = All-nil (IsGenuine bits entries)
line_genuine set bits sub entries before (Sync s answer) is none all = All-nil (IsGenuine bits entries)
line_genuine set bits sub entries before (Give s n answer) is none all = given_genuine set bits sub s n entries answer (s == sub) before refl is all
line_genuine set bits sub entries before (Further said) is none all = All-nil (IsGenuine bits entries)
line_genuine set bits sub entries before (Event r) is none all = absurd none

lines_genuine : (set : Setting) (bits sub : ℕ) (entries : List Entry) (before lines : List LineRecord) → AreServed set before lines → All IsOutsideSessions lines
    → AreDrawnBy bits sub entries (before ++ lines) → All (IsGenuine bits entries) (accepted bits sub lines)
lines_genuine set bits sub entries before [] served none all = All-nil (IsGenuine bits entries)
lines_genuine set bits sub entries before (line ∷ lines) (first, more) none all =
    All-append (IsGenuine bits entries) (accepted_by bits sub line) (accepted bits sub lines)
    (line_genuine set bits sub entries before line first (All-head IsOutsideSessions line lines none)
    (λ n some. let cut = times-numbers-append n sub before (line ∷ lines) in all n (omega (arith, cut, some))))
    (lines_genuine set bits sub entries (before ++ line ∷ []) lines more (All-tail IsOutsideSessions line lines none)
    (subst (AreDrawnBy bits sub entries) (sym (append_assoc before (line ∷ []) lines)) all))

-- the first of some lines
front_served : (set : Setting) (before xs ys : List LineRecord) → AreServed set before (xs ++ ys) → AreServed set before xs
front_served set before [] ys served = tt
front_served set before (x ∷ xs) ys (first, more) = (first, front_served set (before ++ x ∷ []) xs ys more)

-- without sessions each accepted SQN was drawn
pub each_sqn_is_genuine : EachSqnOutsideSessionsIsGenuine
each_sqn_is_genuine set reserved stop parts records before after sub row lawful lines none there =
    let served = transcript_served set reserved stop parts records lawful in
    let within = row_within set.rows sub row (numbers_of sub (lines_of records)) there (numbers_within set sub [] (lines_of records) served) in
    lines_genuine set row.bits sub (all_entries (stretches_of sub records)) [] before (front_served set [] before after (subst (AreServed set []) lines served)) none
    (λ n some.
    let cut = ap (λ (ls : List LineRecord). times n (numbers_of sub ls)) lines ∙ times-numbers-append n sub before after in
    vector_is_drawn (top_of row.bits) sub records n within (omega (arith, cut, some)))

-- the same of the entries of all rounds
pub each_sqn_in_rounds_is_genuine : EachSqnInRoundsIsGenuine
each_sqn_in_rounds_is_genuine set reserved stop parts rounds before after sub row lawful lines none there =
    let whole = ap all_entries (one_stretch sub rounds) ∙ append-nil (entries_of_rounds sub rounds) in
    subst (λ (es : List Entry). All (IsGenuine row.bits es) (accepted row.bits sub before)) whole
    (each_sqn_is_genuine set reserved stop parts (map record_of.Round rounds) before after sub row lawful lines none there)
