-- For the laws: each line of a job is an event's or a plain one, or it gives lines of known kinds and leaves the network of the job's
-- sessions as it is. So the lemmas on lines go by these three kinds.
use Rattle.std.proofs.Common.{◌≡◌, ℕ, zero, suc, ◌≤◌, ◌==◌, Bool, true, false, List, [], ◌∷◌, ◌++◌, length, map, All, Option, Some, None, refl, sym, ap, ◌∙◌, subst, append_assoc, append-nil}
use Rattle.std.specs.Prelude.{if◌then◌else◌, slice_get}
use Rattle.std.proofs.lemmas.Bool.{eqb-true}
use Rattle.std.proofs.lemmas.List.Elements.{All-cons, All-nil}
use Rattle.auc_5g.specs.Keys.{home_of}
use Rattle.auc_5g.specs.declared.device_keys.DeviceKeys.{DeviceKeys}
use Rattle.auc_5g.specs.declared.home_keys.HomeKeys.{HomeKeys}
use Rattle.auc_lines.specs.Sim.{SimValue}
use Rattle.auc_lines.specs.declared.part.FivegLine.{FivegLine}
use Rattle.auc_lines.specs.declared.part.Line.{Line}
use Rattle.auc_lines.specs.declared.part.Line.TheVariants as line
use Rattle.auc_lines.specs.declared.part.SessionLine.{SessionLine}
use Rattle.auc_lines.specs.declared.sites.SiteEvent.{SiteEvent}
use Rattle.auc_lines.specs.declared.part.Report.{Report}
use Rattle.auc_random.specs.Random.{rand_of}
use Rattle.auc_request.specs.Request.{is_separated}
use Rattle.auc_vector.specs.declared.sim_note.SimNote.{SimNote}
use Rattle.auc_sites.specs.Network.{Network, SitesTurn, after_event}
use Rattle.auc_sites.specs.Run.{judgement_in}
use Rattle.auc_sites.specs.declared.master.Judged.{Judged}
use Rattle.auc_sites.specs.declared.master.Judged.TheVariants as judged
use Rattle.auc_subs.specs.Subscriber.{top_at}
use Rattle.auc_subs.specs.declared.row.Row.{Row}
use Rattle.auc_vector.specs.declared.parts.Vector.{Vector as AuthVector}
use Rattle.auc_world.specs.Given.{AuthenticatesIf, Before, EpsGives, EventGives, FivegFollows, FivegGives, GiveGives, IsGiven, LineGives, SyncGives, VectorsFollow, behind, device_of_row, hxres_lines, is_released, judged_lines, kasme_line, outcome_of, past_before, turned}
use Rattle.auc_record.specs.Draws.{DrawGives, OneGives}
use Rattle.auc_record.specs.Lines.{numbers_of}
use Rattle.auc_world.specs.Net.{Net}
use Rattle.auc_subs.specs.Setting.{Setting}
use Rattle.auc_world.specs.Sim.{SimFollowsIf, SimGives}
use Rattle.auc_world.specs.Sites.{LeaseGives, SiteEventGives, SitesGo, event_of, note_of, sites_start}
use Rattle.auc_record.specs.VectorAt.{vector_at, vector_of_row}
use Rattle.auc_record.specs.declared.event.Event.{Event as Happens}
use Rattle.auc_record.specs.declared.event.Event.TheVariants as event
use Rattle.auc_record.specs.declared.further.Further.TheVariants as further
use Rattle.auc_record.specs.declared.record.GiveVerdict.{GiveVerdict}
use Rattle.auc_record.specs.declared.record.GiveVerdict.TheVariants as given
use Rattle.auc_record.specs.declared.record.LineRecord.{LineRecord}
use Rattle.auc_record.specs.declared.record.LineRecord.TheVariants.{Number, Sync, Give, Further, Event}
use Rattle.auc_vector.specs.declared.notes.NumberNote.TheVariants as number
use Rattle.auc_vector.specs.declared.notes.ResyncNote.{ResyncNote}
use Rattle.auc_vector.specs.declared.notes.ResyncNote.TheVariants as resync
use Rattle.auc_world.proofs.Facts.{noted}
use Rattle.auc_transcript.specs.Completeness.{opening_by}
use Rattle.auc_transcript.specs.Headline.{IsOutsideSessions}
use Rattle.auc_transcript.proofs.EventLemmas.{IsNoteServed}

-- ---- the lines before

-- after no line
pub behind_none : (place : Before) → behind place [] ≡ place
behind_none place = ap (λ (own : List LineRecord). record { early = place.early; beside = place.beside; own = own }) (append-nil place.own)

-- after some lines, and then others
pub behind_on : (place : Before) (front rest : List LineRecord) → behind (behind place front) rest ≡ behind place (front ++ rest)
behind_on place front rest = ap (λ (own : List LineRecord). record { early = place.early; beside = place.beside; own = own }) (append_assoc place.own front rest)

-- ---- lines of known kinds

-- a line that is no event's, after the lines before it: the centre's note is one that it may give, and a presented vector was answered
abbrev pub IsKnown : Setting → Before → LineRecord → Type 0
IsKnown set place (Number s note) = IsNoteServed (top_at set.rows s) (Some note)
IsKnown set place (Sync s answer) = Unit {0}
IsKnown set place (Give s n answer) = (row : Row) × (slice_get set.rows s ≡ Some row) × IsGiven row (is_released place s n) (past_before place row s) n answer
IsKnown set place (Further said) = Unit {0}
IsKnown set place (Event r) = ⊥

-- such lines, one after the other
abbrev pub AreKnown : Setting → Before → List LineRecord → Type 0
AreKnown set place [] = Unit {0}
AreKnown set place (line ∷ lines) = IsKnown set place line × AreKnown set (behind place (line ∷ [])) lines

known-append : (set : Setting) (place : Before) (xs ys : List LineRecord) → AreKnown set place xs → AreKnown set (behind place xs) ys → AreKnown set place (xs ++ ys)
known-append set place [] ys these those = subst (λ (p : Before). AreKnown set p ys) (behind_none place) those
known-append set place (x ∷ xs) ys (first, these) those =
    (first, known-append set (behind place (x ∷ [])) xs ys these (subst (λ (p : Before). AreKnown set p ys) (sym (behind_on place (x ∷ []) xs)) those))

none_known : (set : Setting) (place : Before) (lines : List LineRecord) → lines ≡ [] → AreKnown set place lines
none_known set place lines none = subst (AreKnown set place) (sym none) tt

-- none of them is an event's
pub known_outside : (set : Setting) (place : Before) (lines : List LineRecord) → AreKnown set place lines → All IsOutsideSessions lines
known_outside set place [] known = All-nil IsOutsideSessions
known_outside set place (line ∷ lines) (first, more) = All-cons IsOutsideSessions line lines (one line first) (known_outside set (behind place (line ∷ [])) lines more)
  where
    one : (l : LineRecord) → IsKnown set place l → IsOutsideSessions l
    one (Number s note) is = tt
    one (Sync s answer) is = tt
    one (Give s n answer) is = tt
    one (Further said) is = tt
    one (Event r) is = absurd is

-- ---- what lines give

-- a request for one vector, and what follows its number
pub one_known : (set : Setting) (place : Before) (sub : ℕ) (Follows : ℕ → List LineRecord → Type 0) (lines : List LineRecord)
    → ((n : ℕ) (rest : List LineRecord) → Follows n rest → AreKnown set (behind place (Number sub (number.Drew n) ∷ [])) rest) → OneGives set sub Follows lines → AreKnown set place lines
one_known set place sub Follows [] known gives = absurd gives
one_known set place sub Follows (Number s (number.Drew n) ∷ lines) known (same, is, more) = (
  subst (λ (t : ℕ). n ≤ top_at set.rows t) (sym same) is.last,
  subst (λ (t : ℕ). AreKnown set (behind place (Number t (number.Drew n) ∷ [])) lines) (sym same) (known n lines more),
)
one_known set place sub Follows (Number s (number.Withheld n stop) ∷ lines) known (same, first, last, none) = (tt, none_known set (behind place (Number s (number.Withheld n stop) ∷ [])) lines none)
one_known set place sub Follows (Number s (number.Exhausted word) ∷ lines) known (same, spent, none) =
    (subst (λ (t : ℕ). top_at set.rows t ≤ word) (sym same) spent, none_known set (behind place (Number s (number.Exhausted word) ∷ [])) lines none)
one_known set place sub Follows (Sync s answer ∷ lines) known gives = absurd gives
one_known set place sub Follows (Give s n answer ∷ lines) known gives = absurd gives
one_known set place sub Follows (Further said ∷ lines) known gives = absurd gives
one_known set place sub Follows (Event r ∷ lines) known gives = absurd gives

-- a request for so many
draw_known : (set : Setting) (place : Before) (sub count : ℕ) (lines : List LineRecord) → DrawGives set sub count lines → AreKnown set place lines
draw_known set place sub zero lines none = none_known set place lines none
draw_known set place sub (suc count) lines gives =
    one_known set place sub (λ n rest. DrawGives set sub count rest) lines (λ n rest more. draw_known set (behind place (Number sub (number.Drew n) ∷ [])) sub count rest more) gives

-- an AUTS
follows_known : (set : Setting) (place : Before) (sub count : ℕ) (note : ResyncNote) (lines : List LineRecord) → VectorsFollow set sub count note lines → AreKnown set place lines
follows_known set place sub count (resync.Moved seen seq_ms) lines gives = draw_known set place sub count lines gives
follows_known set place sub count (resync.InRange seen seq_ms) lines gives = draw_known set place sub count lines gives
follows_known set place sub count (resync.Beyond seen seq_ms) lines none = none_known set place lines none
follows_known set place sub count resync.BadAuts lines none = none_known set place lines none

sync_known : (set : Setting) (place : Before) (sub : ℕ) (report : Report) (count : ℕ) (lines : List LineRecord) → SyncGives set sub report count lines → AreKnown set place lines
sync_known set place sub report count lines gives =
    subst (AreKnown set place) (sym gives.lines_are)
    (tt, follows_known set (behind place (Sync sub gives.note ∷ [])) sub count gives.note gives.more gives.follows)

-- a presented vector
give_known : (set : Setting) (place : Before) (sub n : ℕ) (lines : List LineRecord) → GiveGives set place sub n lines → AreKnown set place lines
give_known set place sub n lines gives = subst (AreKnown set place) (sym gives.lines_are) ((gives.row, gives.there, gives.given), tt)

-- K_ASME
kasme_known : (set : Setting) (place : Before) (snid : List ℕ) (vectors : List AuthVector) → AreKnown set place (map (kasme_line snid) vectors)
kasme_known set place snid [] = tt
kasme_known set place snid (v ∷ vectors) = (tt, kasme_known set (behind place (kasme_line snid v ∷ [])) snid vectors)

eps_known : (set : Setting) (place : Before) (sub : ℕ) (snid : List ℕ) (lines : List LineRecord) → EpsGives set sub snid lines → AreKnown set place lines
eps_known set place sub snid lines gives =
    one_known set place sub (λ n rest. rest ≡ map (kasme_line snid) (vector_at set sub n)) lines
    (λ n rest is. subst (AreKnown set (behind place (Number sub (number.Drew n) ∷ []))) (sym is) (kasme_known set (behind place (Number sub (number.Drew n) ∷ [])) snid (vector_at set sub n))) gives

-- a 5G authentication: what follows the USIM's answer, what follows the vector, and both with it
judged_known : (set : Setting) (place : Before) (l : FivegLine) (home : HomeKeys) (device : DeviceKeys) (answer : GiveVerdict) → AreKnown set place (judged_lines l home device answer)
judged_known set place l home device given.Accepted = by l.hxres
  where
    by : (told : Bool) → AreKnown set place (hxres_lines told home ++ Further (further.Fiveg l.sub (outcome_of home device (turned l.bit device.res_star))) ∷ [])
    by true = (tt, (tt, tt))
    by false = (tt, tt)
judged_known set place l home device (given.Sync sqn_ms) = tt
judged_known set place l home device given.Absent = tt

follows_vector_known : (set : Setting) (place : Before) (l : FivegLine) (n : ℕ) (lines : List LineRecord) → FivegFollows set place l n lines → AreKnown set place lines
follows_vector_known set place l n lines f = by (is_separated (vector_of_row set f.row l.sub n).autn) f.follows
  where
    by : (separated : Bool) → AuthenticatesIf separated set place l f.row n lines → AreKnown set place lines
    by false is = subst (AreKnown set place) (sym is) (tt, tt)
    by true is =
        let home = home_of (vector_of_row set f.row l.sub n) l.home in
        let device = device_of_row f.row n (rand_of set.key l.sub n) l.device in
        subst (AreKnown set place) (sym is.lines_are)
        (known-append set place is.front is.more (give_known set place l.sub n is.front is.gives)
        (subst (AreKnown set (behind place is.front)) (sym is.judged) (judged_known set (behind place is.front) l home device is.gives.answer)))

fiveg_known : (set : Setting) (place : Before) (l : FivegLine) (lines : List LineRecord) → FivegGives set place l lines → AreKnown set place lines
fiveg_known set place l lines gives =
    one_known set place l.sub (λ n rest. FivegFollows set (behind place (Number l.sub (number.Drew n) ∷ [])) l n rest) lines
    (λ n rest f. follows_vector_known set (behind place (Number l.sub (number.Drew n) ∷ [])) l n rest f) gives

-- sites: what is drawn for a request, an event, and all of them
lease_known : (set : Setting) (place : Before) (sub size : ℕ) (made : Option Judged) (lines : List LineRecord) → LeaseGives set sub size made lines → AreKnown set place lines
lease_known set place sub size None lines none = none_known set place lines none
lease_known set place sub size (Some (judged.Again g)) lines none = none_known set place lines none
lease_known set place sub size (Some (judged.Old last)) lines none = none_known set place lines none
lease_known set place sub size (Some judged.New) lines gives = draw_known set place sub size lines gives

site_event_known : (set : Setting) (place : Before) (sub size : ℕ) (w : Network) (e : SiteEvent) (lines : List LineRecord) (turn : SitesTurn) → SiteEventGives set sub size w e lines turn → AreKnown set place lines
site_event_known set place sub size w e lines turn gives =
    subst (AreKnown set place) (sym gives.lines_are)
    (known-append set place gives.drawn (Further (further.Sites sub (note_of w e turn)) ∷ []) (lease_known set place sub size (judgement_in w (event_of w e)) gives.drawn gives.draws) (tt, tt))

sites_known : (set : Setting) (place : Before) (sub size : ℕ) (w : Network) (events : List SiteEvent) (lines : List LineRecord) (turns : List SitesTurn) → SitesGo set sub size w events lines turns
    → AreKnown set place lines
sites_known set place sub size w [] lines turns (none, ends) = none_known set place lines none
sites_known set place sub size w (e ∷ events) lines [] goes = absurd goes
sites_known set place sub size w (e ∷ events) lines (turn ∷ turns) (front, rest, cut, gives, more) =
    subst (AreKnown set place) (sym cut)
    (known-append set place front rest (site_event_known set place sub size w e front turn gives)
    (sites_known set (behind place front) sub size (after_event w turn.event turn.numbers turn.end) events rest turns more))

-- a session of EAP-SIM: what is said of it, and what is drawn before
notes_known : (set : Setting) (place : Before) (sub : ℕ) (notes : List SimNote) → AreKnown set place (noted sub notes)
notes_known set place sub [] = tt
notes_known set place sub (note ∷ notes) = (tt, notes_known set (behind place (Further (further.Sim sub note) ∷ [])) sub notes)

sim_known : (set : Setting) (place : Before) (l : SimValue) (lines : List LineRecord) → SimGives set l lines → AreKnown set place lines
sim_known set place l lines gives =
    subst (AreKnown set place) (sym gives.lines_are)
    (known-append set place gives.drawn gives.rest (draw_known set place l.sub l.count gives.drawn gives.draws)
    (by (length (numbers_of l.sub gives.drawn) == l.count) gives.follows))
  where
    after : Before
    after = behind place gives.drawn

    by : (all : Bool) → SimFollowsIf all set l (numbers_of l.sub gives.drawn) gives.rest → AreKnown set after gives.rest
    by false none = none_known set after gives.rest none
    by true follows = subst (AreKnown set after) (sym follows.lines_are) (notes_known set after l.sub follows.notes)

-- ---- the three kinds

-- a line without an event: it opens no session, gives lines of known kinds, and leaves the network as it is
pub record IsQuiet (l : Line) : Type 0 where
  pub opens : (session : ℕ) → opening_by session l ≡ None
  pub gives : (set : Setting) (place : Before) (w next : Net) (lines : List LineRecord) → LineGives set place w l lines next → AreKnown set place lines × (next ≡ w)

-- the line of an event
abbrev pub line_of : Happens → Line
line_of (event.Open opening) = line.Session opening
line_of (event.Start session) = line.Start session
line_of (event.Deliver session at' packet) = line.Deliver session at' packet
line_of (event.Repeat session) = line.Repeat session
line_of (event.GiveUp session at') = line.GiveUp session at'
line_of (event.Tamper packet place byte) = line.Tamper packet place byte
line_of (event.Cut packet count) = line.Cut packet count

-- it gives what the event gives
pub event_gives : (set : Setting) (place : Before) (w next : Net) (e : Happens) (lines : List LineRecord) → LineGives set place w (line_of e) lines next → EventGives set place w e lines next
event_gives set place w next (event.Open opening) lines gives = gives
event_gives set place w next (event.Start session) lines gives = gives
event_gives set place w next (event.Deliver session at' packet) lines gives = gives
event_gives set place w next (event.Repeat session) lines gives = gives
event_gives set place w next (event.GiveUp session at') lines gives = gives
event_gives set place w next (event.Tamper packet position byte) lines gives = gives
event_gives set place w next (event.Cut packet count) lines gives = gives

-- what holds of each line without an event, of each event's and of each plain one holds of each line. A further kind of line costs a
-- lemma that it gives lines of known kinds, and its case here
module _ (P : Line → Type 0) (quiet : (l : Line) → IsQuiet l → P l) (happens : (e : Happens) → P (line_of e)) (plain : (session : ℕ) → P (line.Plain session)) where
  pub by_kind : (l : Line) → P l
  by_kind (line.Draw sub count) =
      quiet _ (record { opens = λ session. refl; gives = λ set place w next lines g. (draw_known set place sub count lines g.0, g.1) })
  by_kind (line.Sync sub report count) =
      quiet _ (record { opens = λ session. refl; gives = λ set place w next lines g. (sync_known set place sub report count lines g.0, g.1) })
  by_kind (line.Give sub n) =
      quiet _ (record { opens = λ session. refl; gives = λ set place w next lines g. (give_known set place sub n lines g.0, g.1) })
  by_kind (line.Eps sub snid) =
      quiet _ (record { opens = λ session. refl; gives = λ set place w next lines g. (eps_known set place sub snid lines g.0, g.1) })
  by_kind (line.Fiveg l) =
      quiet _ (record { opens = λ session. refl; gives = λ set place w next lines g. (fiveg_known set place l lines g.0, g.1) })
  by_kind (line.Sites l) =
      quiet _ (record { opens = λ session. refl; gives = λ set place w next lines g. (sites_known set place l.sub l.size (sites_start l) l.schedule lines g.0.0 g.0.1, g.1) })
  by_kind (line.Sim l) =
      quiet _ (record { opens = λ session. refl; gives = λ set place w next lines g. (sim_known set place l lines g.0, g.1) })
  by_kind (line.Session opening) = happens (event.Open opening)
  by_kind (line.Start session) = happens (event.Start session)
  by_kind (line.Deliver session at' packet) = happens (event.Deliver session at' packet)
  by_kind (line.Repeat session) = happens (event.Repeat session)
  by_kind (line.GiveUp session at') = happens (event.GiveUp session at')
  by_kind (line.Plain session) = plain session
  by_kind (line.Tamper packet place byte) = happens (event.Tamper packet place byte)
  by_kind (line.Cut packet count) = happens (event.Cut packet count)

-- a line without an event gives lines outside sessions
pub quiet_gives : (l : Line) → IsQuiet l → (set : Setting) (place : Before) (w next : Net) (lines : List LineRecord) → LineGives set place w l lines next
    → All IsOutsideSessions lines × (next ≡ w)
quiet_gives l is set place w next lines gives = let (known, same) = is.gives set place w next lines gives in (known_outside set place lines known, same)

-- ---- lines that open sessions

-- if these are the options with which a line opens a session under a number, then it is their session line, and has the number
abbrev OpensOnly : ℕ → SessionLine → Line → Type 0
OpensOnly session other l = opening_by session l ≡ Some other → (l ≡ line.Session other) × (other.session ≡ session)

pub opens_only : (session : ℕ) (other : SessionLine) (l : Line) → OpensOnly session other l
opens_only session other l = by_kind (OpensOnly session other) (λ x is first. absurd (nothing (sym (is.opens session) ∙ first))) at_event (λ plain first. absurd (nothing first)) l
  where
    nothing : ◌≡◌ {A = Option SessionLine} None (Some other) → ⊥
    nothing e = cc

    under : (opening : SessionLine) (b : Bool) → (opening.session == session) ≡ b → (if b then Some opening else None) ≡ Some other
        → (line.Session opening ≡ line.Session other) × (other.session ≡ session)
    under opening true is first =
        let one : opening ≡ other = cc in (ap line.Session one, ap (λ (o : SessionLine). o.session) (sym one) ∙ eqb-true opening.session session is)
    under opening false is first = absurd (nothing first)

    at_event : (e : Happens) → OpensOnly session other (line_of e)
    at_event (event.Open opening) first = under opening (opening.session == session) refl first
    at_event (event.Start started) first = absurd (nothing first)
    at_event (event.Deliver delivered at' packet) first = absurd (nothing first)
    at_event (event.Repeat repeated) first = absurd (nothing first)
    at_event (event.GiveUp ended at') first = absurd (nothing first)
    at_event (event.Tamper packet place byte) first = absurd (nothing first)
    at_event (event.Cut packet count) first = absurd (nothing first)
