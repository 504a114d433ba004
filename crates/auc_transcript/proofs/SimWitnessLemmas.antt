-- For the witnesses of the law of sessions of EAP-SIM: what is drawn for a line, and what is said of its session.
use Rattle.std.proofs.Common.{◌≡◌, ◌≢◌, ℕ, zero, suc, Bool, true, false, List, [], ◌∷◌, ◌++◌, length, All, AllPairs, refl, sym, ap, ◌∙◌, subst, arith, append-nil}
use Rattle.std.proofs.lemmas.List.Elements.{All-head}
use Rattle.auc_memory.specs.declared.stop.Stop.{Stop}
use Rattle.auc_lines.specs.Sim.{IsSchedule, IsSimValue}
use Rattle.auc_lines.specs.declared.sim.SimSchedule.{SimSchedule}
use Rattle.auc_lines.specs.declared.sim.SimSchedule.TheVariants.{Plain}
use Rattle.auc_random.specs.Random.{rand_of}
use Rattle.auc_sim.specs.SessionLaws.{Succeeds}
use Rattle.auc_vector.specs.declared.sim_note.SimNote.{SimNote}
use Rattle.auc_vector.specs.declared.sim_note.SimNote.TheVariants as sim_note
use Rattle.auc_record.specs.Draws.{DrawGives}
use Rattle.auc_record.specs.Lines.{numbers_of}
use Rattle.auc_world.specs.Net.{Net}
use Rattle.auc_subs.specs.Setting.{Setting}
use Rattle.auc_record.specs.declared.further.Further.TheVariants as further
use Rattle.auc_record.specs.declared.record.LineRecord.{LineRecord}
use Rattle.auc_record.specs.declared.record.LineRecord.TheVariants.{Number, Further}
use Rattle.auc_vector.specs.declared.notes.NumberNote.TheVariants as number
use Rattle.auc_world.proofs.Facts.{noted}
use Rattle.auc_transcript.specs.SimSessions.{HasSession, SimLineHolds, SimSessionsAgree}
use Rattle.auc_transcript.specs.Witnesses.{SimEndsAgree, SimSessionIsNone, SimSessionSucceeds, setting, sim_line, sim_lines, sim_round, transcript_of}
use Rattle.auc_transcript.proofs.OneLineLemmas.{heads, tails}

-- ---- what is drawn

-- the line of a number that was drawn, and that of the second number if it was withheld
abbrev drew : ℕ → LineRecord
drew n = Number 0 (number.Drew n)

abbrev held : Stop → LineRecord
held stop = Number 0 (number.Withheld 2 stop)

-- two vectors are as many as are asked for
two_drawn : (set : Setting) (said drawn rest : List LineRecord) → drew 1 ∷ drew 2 ∷ said ≡ drawn ++ rest → DrawGives set 0 2 drawn
    → (drawn ≡ drew 1 ∷ drew 2 ∷ []) × (said ≡ rest)
two_drawn set said [] rest are draws = absurd draws
two_drawn set said (x ∷ xs) rest are draws =
    let first = heads (drew 1) x (drew 2 ∷ said) (xs ++ rest) are in
    let second = next xs (tails (drew 1) x (drew 2 ∷ said) (xs ++ rest) are)
    (subst (λ (l : LineRecord). DrawGives set 0 2 (l ∷ xs)) (sym first) draws).2 in
    (ap (λ (l : LineRecord). l ∷ xs) (sym first) ∙ ap (λ (ls : List LineRecord). drew 1 ∷ ls) second.0, second.1)
  where
    next : (ys : List LineRecord) → drew 2 ∷ said ≡ ys ++ rest → DrawGives set 0 1 ys → (ys ≡ drew 2 ∷ []) × (said ≡ rest)
    next [] here more = absurd more
    next (y ∷ ys) here more =
        let is = heads (drew 2) y said (ys ++ rest) here in
        let none = (subst (λ (l : LineRecord). DrawGives set 0 1 (l ∷ ys)) (sym is) more).2 in (
          ap (λ (l : LineRecord). l ∷ ys) (sym is) ∙ ap (λ (ls : List LineRecord). drew 2 ∷ ls) none,
          tails (drew 2) y said (ys ++ rest) here ∙ ap (λ (ls : List LineRecord). ls ++ rest) none,
        )

-- a withheld number is the last thing that is drawn
withheld_drawn : (set : Setting) (stop : Stop) (said drawn rest : List LineRecord) → drew 1 ∷ held stop ∷ said ≡ drawn ++ rest → DrawGives set 0 2 drawn
    → (drawn ≡ drew 1 ∷ held stop ∷ []) × (said ≡ rest)
withheld_drawn set stop said [] rest are draws = absurd draws
withheld_drawn set stop said (x ∷ xs) rest are draws =
    let first = heads (drew 1) x (held stop ∷ said) (xs ++ rest) are in
    let second = next xs (tails (drew 1) x (held stop ∷ said) (xs ++ rest) are)
    (subst (λ (l : LineRecord). DrawGives set 0 2 (l ∷ xs)) (sym first) draws).2 in
    (ap (λ (l : LineRecord). l ∷ xs) (sym first) ∙ ap (λ (ls : List LineRecord). drew 1 ∷ ls) second.0, second.1)
  where
    next : (ys : List LineRecord) → held stop ∷ said ≡ ys ++ rest → DrawGives set 0 1 ys → (ys ≡ held stop ∷ []) × (said ≡ rest)
    next [] here more = absurd more
    next (y ∷ ys) here more =
        let is = heads (held stop) y said (ys ++ rest) here in
        let none = (subst (λ (l : LineRecord). DrawGives set 0 1 (l ∷ ys)) (sym is) more).3 in (
          ap (λ (l : LineRecord). l ∷ ys) (sym is) ∙ ap (λ (ls : List LineRecord). held stop ∷ ls) none,
          tails (held stop) y said (ys ++ rest) here ∙ ap (λ (ls : List LineRecord). ls ++ rest) none,
        )

-- ---- what is said

said_notes : (a b : SimNote) → Further (further.Sim 0 a) ≡ Further (further.Sim 0 b) → a ≡ b
said_notes a b e = cc

one_notes : (xs ys : List SimNote) → noted 0 xs ≡ noted 0 ys → xs ≡ ys
one_notes [] [] e = refl
one_notes [] (y ∷ ys) e = absurd (let no : ⊥ = cc in no)
one_notes (x ∷ xs) [] e = absurd (let no : ⊥ = cc in no)
one_notes (x ∷ xs) (y ∷ ys) e =
    let first = said_notes x y (heads (Further (further.Sim 0 x)) (Further (further.Sim 0 y)) (noted 0 xs) (noted 0 ys) e) in
    let rest = one_notes xs ys (tails (Further (further.Sim 0 x)) (Further (further.Sim 0 y)) (noted 0 xs) (noted 0 ys) e) in
    ap (λ (n : SimNote). n ∷ xs) first ∙ ap (λ (ns : List SimNote). y ∷ ns) rest

-- ---- the promise of the one line

within : (schedule : SimSchedule) → IsSchedule schedule → IsSimValue (sim_line schedule)
within schedule is = record { least = omega arith; most = omega arith; schedule = is }

line_of_promise : (key : List ℕ) (schedule : SimSchedule) (lines : List LineRecord) (net : Net) → IsSchedule schedule
    → SimSessionsAgree (setting key) (sim_round schedule ∷ []) (transcript_of lines) ((net ∷ []) ∷ []) → SimLineHolds (setting key) (sim_line schedule) lines
line_of_promise key schedule lines net is promise =
    let gave = promise.0.0 [] [] (sim_line schedule) refl (within schedule is) in
    let own : lines ≡ gave.own =
    gave.records_are ∙ ap (λ (ls : List LineRecord). ls ++ (gave.own ++ gave.late)) gave.first.0 ∙ ap (λ (ls : List LineRecord). gave.own ++ ls) gave.rest.0 ∙ append-nil gave.own in
    subst (SimLineHolds (setting key) (sim_line schedule)) (sym own) gave.holds

-- the session of two vectors
session_of_two : (key : List ℕ) (schedule : SimSchedule) (notes : List SimNote) → SimLineHolds (setting key) (sim_line schedule) (sim_lines notes)
    → HasSession (setting key) (sim_line schedule) (1 ∷ 2 ∷ []) (noted 0 notes)
session_of_two key schedule notes line =
    let (drawn, rest) = two_drawn (setting key) (noted 0 notes) line.drawn line.rest line.lines_are line.draws in
    by line.drawn line.rest drawn rest line.all
  where
    by : (drawn rest : List LineRecord) → drawn ≡ drew 1 ∷ drew 2 ∷ [] → noted 0 notes ≡ rest
        → (length (numbers_of 0 drawn) ≡ 2 → HasSession (setting key) (sim_line schedule) (numbers_of 0 drawn) rest)
        → HasSession (setting key) (sim_line schedule) (1 ∷ 2 ∷ []) (noted 0 notes)
    by drawn rest are is session =
        let numbers : numbers_of 0 drawn ≡ 1 ∷ 2 ∷ [] = ap (numbers_of 0) are in
        subst (HasSession (setting key) (sim_line schedule) (1 ∷ 2 ∷ [])) (sym is)
        (subst (λ (ns : List ℕ). HasSession (setting key) (sim_line schedule) ns rest) numbers (session (ap length numbers)))

not_different : (agree : Bool) → sim_note.Ended agree ≢ sim_note.Ended false → agree ≡ true
not_different true differs = refl
not_different false differs = absurd (differs refl)

pub sim_ends_agree : SimEndsAgree
sim_ends_agree key schedule agree net is promise =
    let notes = sim_note.Ended agree ∷ [] in
    let session = session_of_two key schedule notes (line_of_promise key schedule (sim_lines notes) net is promise) in
    let same = one_notes notes session.notes session.lines_are in
    not_different agree
    (All-head (λ (note : SimNote). note ≢ sim_note.Ended false) (sim_note.Ended agree) []
    (subst (All (λ (note : SimNote). note ≢ sim_note.Ended false)) (sym same) session.agree))

two_differ : (x y : List ℕ) → x ≢ y → AllPairs ◌≢◌ (x ∷ y ∷ [])
two_differ x y differ zero zero d i<j j<n = absurd (omega arith)
two_differ x y differ zero (suc zero) d i<j j<n = differ
two_differ x y differ zero (suc (suc j)) d i<j j<n = absurd (omega arith)
two_differ x y differ (suc i) zero d i<j j<n = absurd (omega arith)
two_differ x y differ (suc i) (suc zero) d i<j j<n = absurd (omega arith)
two_differ x y differ (suc i) (suc (suc j)) d i<j j<n = absurd (omega arith)

pub sim_session_succeeds : SimSessionSucceeds
sim_session_succeeds key notes net differ promise =
    let session = session_of_two key Plain notes (line_of_promise key Plain (sim_lines notes) net tt promise) in
    subst Succeeds (sym (one_notes notes session.notes session.lines_are)) (session.complete refl (two_differ (rand_of key 0 1) (rand_of key 0 2) differ))

pub sim_session_is_none : SimSessionIsNone
sim_session_is_none key schedule stop notes net is promise =
    let line = line_of_promise key schedule (drew 1 ∷ held stop ∷ noted 0 notes) net is promise in
    let (drawn, rest) = withheld_drawn (setting key) stop (noted 0 notes) line.drawn line.rest line.lines_are line.draws in
    one_notes notes [] (rest ∙ line.fewer (λ all. one_is_two (sym (ap (λ (ls : List LineRecord). length (numbers_of 0 ls)) drawn) ∙ all)))
  where
    one_is_two : ◌≡◌ {A = ℕ} 1 2 → ⊥
    one_is_two e = omega (arith, e)
