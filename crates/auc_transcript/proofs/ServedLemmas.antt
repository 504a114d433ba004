-- For the laws: what each line of a lawful transcript is, by all lines before it.
use Rattle.std.proofs.Common.{◌≡◌, ◌≢◌, ℕ, ◌≤◌, Bool, true, false, Option, List, [], ◌∷◌, ◌++◌, Some, None, refl, sym, subst, arith, inl, inr, append_assoc, append-nil}
use Rattle.std.specs.Prelude.{slice_get}
use Rattle.std.proofs.lemmas.Bool.{or_cases}
use Rattle.auc_memory.specs.declared.stop.Stop.{Stop}
use Rattle.auc_history.specs.Split.{times}
use Rattle.auc_lines.specs.declared.part.End.{End}
use Rattle.auc_lines.specs.declared.part.End.TheVariants as end
use Rattle.auc_lines.specs.declared.part.Line.{Line}
use Rattle.auc_lines.specs.declared.part.Part.{Part}
use Rattle.auc_lines.specs.declared.part.Part.TheVariants.{Round, Restart}
use Rattle.auc_subs.specs.Subscriber.{top_at}
use Rattle.auc_subs.specs.declared.row.Row.{Row}
use Rattle.auc_record.specs.declared.record.GiveVerdict.{GiveVerdict}
use Rattle.auc_record.specs.declared.record.GiveVerdict.TheVariants as given
use Rattle.auc_record.specs.declared.record.LineRecord.{LineRecord}
use Rattle.auc_record.specs.declared.record.LineRecord.TheVariants.{Number, Sync, Give, Further, Event}
use Rattle.auc_record.specs.declared.record.PartRecord.{PartRecord}
use Rattle.auc_record.specs.declared.record.PartRecord.TheVariants as record_of
use Rattle.auc_record.specs.Lines.{number_by, numbers_of, all_lines}
use Rattle.auc_world.specs.Given.{Before, EventGives, PlainGives, RelayGives, is_released, packet_of, past_before, past_by, verdict_by, UsimAnswers, IsGiven, LineGives, behind, JobGives, JobsGive}
use Rattle.auc_world.specs.Net.{Net, other}
use Rattle.auc_world.specs.Start.{Kept, start_of}
use Rattle.auc_record.specs.declared.event.Event.{Event as Happens}
use Rattle.auc_record.specs.declared.event.Event.TheVariants as event
use Rattle.auc_subs.specs.Setting.{Setting}
use Rattle.auc_world.specs.Transcript.{Course, Leads, after_round, after_restart, lines_of}
use Rattle.auc_transcript.proofs.EventLemmas.{IsEventServed, IsNoteServed, all_before, event_served, note_served}
use Rattle.auc_transcript.proofs.KindLemmas.{AreKnown, IsKnown, by_kind, event_gives}
use Rattle.auc_transcript.proofs.LineLemmas.{times-from_is_in, times-numbers-append}

-- a presented vector was released, and its USIM answered by all that it had accepted
pub record IsAnswered (set : Setting) (before : List LineRecord) (sub n : ℕ) (answer : GiveVerdict) : Type 0 where
  pub row : Row
  pub there : slice_get set.rows sub ≡ Some row
  pub released : 1 ≤ times n (numbers_of sub before)
  pub answers : UsimAnswers row.bits (verdict_by row (past_by row sub before) n) (past_by row sub before) answer

-- what a line is, after the lines before it: the centre's note is one that it may give, a presented vector was answered, and an event
-- was served
abbrev pub IsServed : Setting → List LineRecord → LineRecord → Type 0
IsServed set before (Number s note) = IsNoteServed (top_at set.rows s) (Some note)
IsServed set before (Sync s answer) = Unit {0}
IsServed set before (Give s n answer) = answer ≢ given.Absent → IsAnswered set before s n answer
IsServed set before (Further said) = Unit {0}
IsServed set before (Event r) = IsEventServed set before r.result

-- the note of such a line is so for each subscriber
pub note_of_line_served : (set : Setting) (before : List LineRecord) (sub : ℕ) (line : LineRecord) → IsServed set before line → IsNoteServed (top_at set.rows sub) (number_by sub line)
note_of_line_served set before sub (Number s note) is = note_served set s sub (Some note) is
note_of_line_served set before sub (Sync s note) is = tt
note_of_line_served set before sub (Give s n answer) is = tt
note_of_line_served set before sub (Further said) is = tt
note_of_line_served set before sub (Event r) is = is.numbers sub

-- what lines are, one after the other
abbrev pub AreServed : Setting → List LineRecord → List LineRecord → Type 0
AreServed set before [] = Unit {0}
AreServed set before (line ∷ lines) = IsServed set before line × AreServed set (before ++ line ∷ []) lines

-- two lists of lines
pub AreServed-append : (set : Setting) (before xs ys : List LineRecord) → AreServed set before xs → AreServed set (before ++ xs) ys → AreServed set before (xs ++ ys)
AreServed-append set before [] ys these those = subst (λ (ls : List LineRecord). AreServed set ls ys) (append-nil before) those
AreServed-append set before (x ∷ xs) ys (first, these) those = (
  first,
  AreServed-append set (before ++ x ∷ []) xs ys these
      (subst (λ (ls : List LineRecord). AreServed set ls ys) (sym (append_assoc before (x ∷ []) xs)) those),
)

-- one line of many
pub served_at : (set : Setting) (start before after : List LineRecord) (line : LineRecord) → AreServed set start (before ++ line ∷ after) → IsServed set (start ++ before) line
served_at set start [] after line (here, rest) = subst (λ (ls : List LineRecord). IsServed set ls line) (sym (append-nil start)) here
served_at set start (x ∷ before) after line (first, rest) =
    subst (λ (ls : List LineRecord). IsServed set ls line) (append_assoc start (x ∷ []) before) (served_at set (start ++ x ∷ []) before after line rest)

-- ---- the lines of a job

-- a released number stands among the numbers of all lines before
released_before : (place : Before) (sub n : ℕ) → is_released place sub n ≡ true → 1 ≤ times n (numbers_of sub (all_before place))
released_before place sub n released =
    let outer = times-numbers-append n sub (place.early ++ place.beside) place.own in
    let inner = times-numbers-append n sub place.early place.beside in
    elim (or_cases _ _ released) [
      | inl early ↦ let some = times-from_is_in n (numbers_of sub place.early) early in omega (arith, outer, inner, some)
      | inr own ↦ let some = times-from_is_in n (numbers_of sub place.own) own in omega (arith, outer, inner, some)
    ]

-- what a presented vector is
given_answered : (set : Setting) (place : Before) (sub n : ℕ) (row : Row) (answer : GiveVerdict) (b : Bool) → is_released place sub n ≡ b
    → slice_get set.rows sub ≡ Some row → IsGiven row b (past_before place row sub) n answer → answer ≢ given.Absent → IsAnswered set (all_before place) sub n answer
given_answered set place sub n row answer false is there given present = absurd (present given)
given_answered set place sub n row answer true is there given present =
    record { row = row; there = there; released = released_before place sub n is; answers = given }

-- the lines before what comes after some lines of the same job
pub all_behind : (place : Before) (front : List LineRecord) → all_before (behind place front) ≡ all_before place ++ front
all_behind place front = sym (append_assoc (place.early ++ place.beside) place.own front)

-- some lines, and what comes after them
served_then : (set : Setting) (place : Before) (front rest : List LineRecord) → AreServed set (all_before place) front → AreServed set (all_before (behind place front)) rest
    → AreServed set (all_before place) (front ++ rest)
served_then set place front rest first more =
    AreServed-append set (all_before place) front rest first (subst (λ (ls : List LineRecord). AreServed set ls rest) (all_behind place front) more)

-- lines of known kinds
known_served : (set : Setting) (place : Before) (lines : List LineRecord) → AreKnown set place lines → AreServed set (all_before place) lines
known_served set place [] known = tt
known_served set place (line ∷ lines) (first, more) =
    (one line first, subst (λ (ls : List LineRecord). AreServed set ls lines) (all_behind place (line ∷ [])) (known_served set (behind place (line ∷ [])) lines more))
  where
    one : (l : LineRecord) → IsKnown set place l → IsServed set (all_before place) l
    one (Number s note) is = is
    one (Sync s answer) is = tt
    one (Give s n answer) (row, there, given) = given_answered set place s n row answer (is_released place s n) refl there given
    one (Further said) is = tt
    one (Event r) is = absurd is

-- an event
event_line_served : (set : Setting) (place : Before) (net next : Net) (e : Happens) (lines : List LineRecord) → EventGives set place net e lines next
    → AreServed set (all_before place) lines
event_line_served set place net next e lines gives =
    subst (λ (ls : List LineRecord). AreServed set (all_before place) ls) (sym gives.lines_are) (event_served set place net e gives.told gives.notes gives.centre gives.usim, tt)

-- deliveries until one makes no packet
relay_served : (set : Setting) (place : Before) (net next : Net) (session : ℕ) (at' : End) (o : Option ℕ) (lines : List LineRecord)
    → RelayGives set place net session at' o lines next → AreServed set (all_before place) lines
relay_served set place net next session at' None [] gives = tt
relay_served set place net next session at' None (line ∷ lines) gives = absurd gives
relay_served set place net next session at' (Some packet) [] gives = absurd gives
relay_served set place net next session at' (Some packet) (line ∷ lines) (mid, first, more) =
    served_then set place (line ∷ []) lines (event_line_served set place net mid (event.Deliver session at' packet) (line ∷ []) first)
    (relay_served set (behind place (line ∷ [])) mid next session (other at') (packet_of line) lines more)

plain_served : (set : Setting) (place : Before) (net next : Net) (session : ℕ) (lines : List LineRecord) → PlainGives set place net session lines next
    → AreServed set (all_before place) lines
plain_served set place net next session [] gives = absurd gives
plain_served set place net next session (line ∷ lines) (mid, first, more) =
    served_then set place (line ∷ []) lines (event_line_served set place net mid (event.Start session) (line ∷ []) first)
    (relay_served set (behind place (line ∷ [])) mid next session end.Peer (packet_of line) lines more)

-- what a line of a job gives
line_served : (set : Setting) (place : Before) (net next : Net) (l : Line) (lines : List LineRecord) → LineGives set place net l lines next → AreServed set (all_before place) lines
line_served set place net next l lines = by_kind (λ x. LineGives set place net x lines next → AreServed set (all_before place) lines)
    (λ x is gives. known_served set place lines (is.gives set place net next lines gives).0)
    (λ e gives. event_line_served set place net next e lines (event_gives set place net next e lines gives))
    (λ session gives. plain_served set place net next session lines gives) l

-- what a job gives
job_served : (set : Setting) (place : Before) (net last : Net) (job : List Line) (records : List LineRecord) → JobGives set place net job records last
    → AreServed set (all_before place) records
job_served set place net last [] records (none, is) = subst (λ (ls : List LineRecord). AreServed set (all_before place) ls) (sym none) tt
job_served set place net last (l ∷ job) records (front, rest, next, cut, gives, more) =
    subst (λ (ls : List LineRecord). AreServed set (all_before place) ls) (sym cut)
    (served_then set place front rest (line_served set place net next l front gives) (job_served set (behind place front) next last job rest more))

-- what the jobs of a round give
pub jobs_served : (set : Setting) (early : List LineRecord) (kept : List Kept) (beside : List LineRecord) (jobs : List (List Line)) (records : List (List LineRecord)) (nets : List Net)
    → JobsGive set early kept beside jobs records nets → AreServed set (early ++ beside) (all_lines records)
jobs_served set early kept beside [] records nets (none, is) = subst (λ (rs : List (List LineRecord)). AreServed set (early ++ beside) (all_lines rs)) (sym none) tt
jobs_served set early kept beside (job ∷ jobs) [] nets gives = absurd gives
jobs_served set early kept beside (job ∷ jobs) (lines ∷ records) [] gives = absurd gives
jobs_served set early kept beside (job ∷ jobs) (lines ∷ records) (net ∷ nets) (gives, more) =
    let first = job_served set (record { early = early; beside = beside; own = [] }) (start_of set kept job) net job lines gives in
    AreServed-append set (early ++ beside) lines (all_lines records)
    (subst (λ (ls : List LineRecord). AreServed set ls lines) (append-nil (early ++ beside)) first)
    (subst (λ (ls : List LineRecord). AreServed set ls (all_lines records)) (sym (append_assoc early beside lines)) (jobs_served set early kept (beside ++ lines) jobs records nets more))

-- what a round has, after the lines of earlier rounds
pub round_served : (set : Setting) (early : List LineRecord) (kept : List Kept) (jobs : List (List Line)) (records : List (List LineRecord)) (nets : List Net)
    → JobsGive set early kept [] jobs records nets → AreServed set early (all_lines records)
round_served set early kept jobs records nets gives =
    subst (λ (ls : List LineRecord). AreServed set ls (all_lines records)) (append-nil early) (jobs_served set early kept [] jobs records nets gives)

-- what the parts of a lawful transcript have
pub parts_served : (set : Setting) (stop : Option Stop) (at : Course) (parts : List Part) (records : List PartRecord) (end : Course)
    → Leads set stop at parts records end → AreServed set at.early (lines_of records)
parts_served set stop at [] records end (none, same) = subst (λ (rs : List PartRecord). AreServed set at.early (lines_of rs)) (sym none) tt
parts_served set stop at (part ∷ parts) [] end leads = absurd leads
parts_served set stop at (Round jobs ∷ parts) (record_of.Round round ∷ records) end (next, serves, rest) =
    let more = subst (λ (c : Course). Leads set stop c parts records end) serves.leads rest in
    AreServed-append set at.early (all_lines round.jobs) (lines_of records) (round_served set at.early at.kept jobs round.jobs serves.lawful.nets serves.lawful.given)
    (parts_served set stop (after_round set.rows at round serves.words serves.lawful.nets) parts records end more)
parts_served set stop at (Round jobs ∷ parts) (record_of.Restart ∷ records) end (next, serves, rest) = absurd serves
parts_served set stop at (Restart ∷ parts) (record_of.Round round ∷ records) end (next, serves, rest) = absurd serves
parts_served set stop at (Restart ∷ parts) (record_of.Restart ∷ records) end (next, restarts, rest) =
    let more = subst (λ (c : Course). Leads set stop c parts records end) restarts.leads rest in
    parts_served set stop (after_restart set.rows at restarts.limits) parts records end more
