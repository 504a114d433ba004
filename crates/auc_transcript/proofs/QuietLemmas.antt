-- For plain sessions: what lines of no event in a session record of it tells of no number.
use Rattle.std.proofs.Common.{◌≡◌, ◌≢◌, ℕ, ◌==◌, Bool, true, false, List, [], ◌∷◌, ◌++◌, All, Option, Some, None, refl, sym, ap, ◌∙◌, subst}
use Rattle.std.specs.Prelude.{flat_map, if◌then◌else◌}
use Rattle.std.proofs.lemmas.Bool.{cond-false, eqb-true}
use Rattle.std.proofs.lemmas.List.Concat.{flat_map-append}
use Rattle.std.proofs.lemmas.List.Elements.{All-head, All-tail, filter-append}
use Rattle.auc_lines.specs.Part.{is_that}
use Rattle.auc_lines.specs.declared.part.End.{End}
use Rattle.auc_lines.specs.declared.part.End.TheVariants as end
use Rattle.auc_lines.specs.declared.part.Line.{Line}
use Rattle.auc_lines.specs.declared.part.SessionLine.{SessionLine}
use Rattle.auc_record.specs.Event.{Came, number_in, number_released}
use Rattle.auc_world.specs.Came.{came, came_opened}
use Rattle.auc_world.specs.Given.{Before, EventGives, JobGives, LineGives, PlainGives, RelayGives, behind, packet_of}
use Rattle.auc_world.specs.Net.{Net, device_place, other, session_place}
use Rattle.auc_world.specs.Plain.{came_of, results}
use Rattle.auc_subs.specs.Setting.{Setting}
use Rattle.auc_record.specs.declared.event.Event.{Event as Happens}
use Rattle.auc_record.specs.declared.event.Event.TheVariants as event
use Rattle.auc_record.specs.declared.record.LineRecord.{LineRecord}
use Rattle.auc_record.specs.declared.record.LineRecord.TheVariants.{Number, Sync, Give, Further, Event}
use Rattle.auc_transcript.specs.Completeness.{is_of_session, records_of, session_in, session_named}
use Rattle.auc_transcript.specs.Headline.{IsOutsideSessions}
use Rattle.auc_transcript.proofs.KindLemmas.{by_kind, line_of, quiet_gives}

-- the numbers that lines tell were released
abbrev pub numbers_told : List LineRecord → List ℕ
numbers_told lines = flat_map (λ c. number_released (number_in c)) (results lines)

-- the records of a session among some lines tell of no number
abbrev pub DrawsNone : ℕ → List LineRecord → Type 0
DrawsNone session lines = numbers_told (records_of session lines) ≡ []

pub numbers-append : (xs ys : List LineRecord) → numbers_told (xs ++ ys) ≡ numbers_told xs ++ numbers_told ys
numbers-append xs ys =
    ap (flat_map (λ (c : Came). number_released (number_in c))) (flat_map-append came_of xs ys) ∙ flat_map-append (λ (c : Came). number_released (number_in c)) (results xs) (results ys)

pub none-append : (session : ℕ) (xs ys : List LineRecord) → DrawsNone session xs → DrawsNone session ys → DrawsNone session (xs ++ ys)
none-append session xs ys first second =
    ap numbers_told (filter-append (is_of_session session) xs ys) ∙ numbers-append (records_of session xs) (records_of session ys)
    ∙ ap (λ (ns : List ℕ). ns ++ numbers_told (records_of session ys)) first ∙ second

none_in : (session : ℕ) (lines : List LineRecord) → records_of session lines ≡ [] → DrawsNone session lines
none_in session lines none = ap numbers_told none

-- ---- lines without events

pub outside_none : (session : ℕ) (lines : List LineRecord) → All IsOutsideSessions lines → records_of session lines ≡ []
outside_none session [] all = refl
outside_none session (l ∷ lines) all =
    cond-false (is_of_session session l) (l ∷ records_of session lines) (records_of session lines) (one l (All-head IsOutsideSessions l lines all))
    ∙ outside_none session lines (All-tail IsOutsideSessions l lines all)
  where
    one : (l : LineRecord) → IsOutsideSessions l → is_of_session session l ≡ false
    one (Number sub note) is = refl
    one (Sync sub answer) is = refl
    one (Give sub n answer) is = refl
    one (Further said) is = refl
    one (Event r) is = absurd is

-- ---- events

differ : (a b : ℕ) → a ≢ b → (a == b) ≡ false
differ a b apart = by (a == b) refl
  where
    by : (t : Bool) → (a == b) ≡ t → t ≡ false
    by true is = absurd (apart (eqb-true a b is))
    by false is = refl

differ_in : (session : ℕ) (o : Option ℕ) → o ≢ Some session → is_that session o ≡ false
differ_in session None apart = refl
differ_in session (Some own) apart = differ own session (λ same. apart (ap Some same))

-- of another session, or of none
event_none : (set : Setting) (before : Before) (w next : Net) (e : Happens) (session : ℕ) (lines : List LineRecord) → session_in e ≢ Some session → EventGives set before w e lines next
    → records_of session lines ≡ []
event_none set before w next e session lines apart gives =
    let line = Event (record { event = e; result = came set w e gives.told }) in
    ap (records_of session) gives.lines_are ∙ cond-false (is_of_session session line) (line ∷ []) [] (differ_in session (session_in e) apart)

-- that opens a session
opened_none : (first place : Option ℕ) → number_in (came_opened first place) ≡ None
opened_none (Some first) place = refl
opened_none None None = refl
opened_none None (Some place) = refl

open_none : (set : Setting) (before : Before) (w next : Net) (opening : SessionLine) (session : ℕ) (lines : List LineRecord) → EventGives set before w (event.Open opening) lines next
    → DrawsNone session lines
open_none set before w next opening session lines gives =
    ap (λ (ls : List LineRecord). numbers_told (records_of session ls)) gives.lines_are ∙ by (opening.session == session)
  where
    result : Came
    result = came_opened (session_place w.sessions opening.session) (device_place set.rows w.devices opening.sub)

    line : LineRecord
    line = Event (record { event = event.Open opening; result = result })

    by : (b : Bool) → numbers_told (if b then line ∷ [] else []) ≡ []
    by true = ap (λ ns. ns ++ []) (ap number_released (opened_none (session_place w.sessions opening.session) (device_place set.rows w.devices opening.sub)))
    by false = refl

relay_none : (set : Setting) (before : Before) (w next : Net) (own session : ℕ) (at' : End) (o : Option ℕ) (lines : List LineRecord) → ◌≢◌ {A = Option ℕ} (Some own) (Some session)
    → RelayGives set before w own at' o lines next → records_of session lines ≡ []
relay_none set before w next own session at' None [] apart gives = refl
relay_none set before w next own session at' None (l ∷ lines) apart gives = absurd gives
relay_none set before w next own session at' (Some packet) [] apart gives = absurd gives
relay_none set before w next own session at' (Some packet) (l ∷ lines) apart (mid, first, more) =
    filter-append (is_of_session session) (l ∷ []) lines
    ∙ ap (λ (ls : List LineRecord). ls ++ records_of session lines) (event_none set before w mid (event.Deliver own at' packet) session (l ∷ []) apart first)
    ∙ relay_none set (behind before (l ∷ [])) mid next own session (other at') (packet_of l) lines apart more

plain_none : (set : Setting) (before : Before) (w next : Net) (own session : ℕ) (lines : List LineRecord) → ◌≢◌ {A = Option ℕ} (Some own) (Some session)
    → PlainGives set before w own lines next → records_of session lines ≡ []
plain_none set before w next own session [] apart gives = absurd gives
plain_none set before w next own session (l ∷ lines) apart (mid, first, more) =
    filter-append (is_of_session session) (l ∷ []) lines
    ∙ ap (λ (ls : List LineRecord). ls ++ records_of session lines) (event_none set before w mid (event.Start own) session (l ∷ []) apart first)
    ∙ relay_none set (behind before (l ∷ [])) mid next own session end.Peer (packet_of l) lines apart more

-- ---- lines and jobs

pub line_none : (set : Setting) (before : Before) (w next : Net) (l : Line) (session : ℕ) (lines : List LineRecord) → session_named l ≢ Some session → LineGives set before w l lines next
    → DrawsNone session lines
line_none set before w next l session lines = by_kind NoneBy
    (λ x is apart gives. none_in session lines (outside_none session lines (quiet_gives x is set before w next lines gives).0)) at_event
    (λ own apart gives. none_in session lines (plain_none set before w next own session lines apart gives)) l
  where
    NoneBy : Line → Type 0
    NoneBy x = session_named x ≢ Some session → LineGives set before w x lines next → DrawsNone session lines

    of_other : (e : Happens) → session_in e ≢ Some session → EventGives set before w e lines next → DrawsNone session lines
    of_other e apart gives = none_in session lines (event_none set before w next e session lines apart gives)

    at_event : (e : Happens) → NoneBy (line_of e)
    at_event (event.Open opening) apart gives = open_none set before w next opening session lines gives
    at_event (event.Start own) apart gives = of_other (event.Start own) apart gives
    at_event (event.Deliver own at' packet) apart gives = of_other (event.Deliver own at' packet) apart gives
    at_event (event.Repeat own) apart gives = of_other (event.Repeat own) apart gives
    at_event (event.GiveUp own at') apart gives = of_other (event.GiveUp own at') apart gives
    at_event (event.Tamper packet place byte) apart gives = of_other (event.Tamper packet place byte) apart gives
    at_event (event.Cut packet count) apart gives = of_other (event.Cut packet count) apart gives

pub job_none : (set : Setting) (before : Before) (w last : Net) (job : List Line) (session : ℕ) (lines : List LineRecord) → All (λ l. session_named l ≢ Some session) job
    → JobGives set before w job lines last → DrawsNone session lines
job_none set before w last [] session lines apart (none, same) = none_in session lines (ap (records_of session) none)
job_none set before w last (l ∷ job) session lines apart (front, rest, next, cut, gives, more) =
    let P : Line → Type 0 = λ (x : Line). session_named x ≢ Some session in
    subst (DrawsNone session) (sym cut)
    (none-append session front rest (line_none set before w next l session front (All-head P l job apart) gives)
    (job_none set (behind before front) next last job session rest (All-tail P l job apart) more))
