-- For Pieces: jobs that hold USIMs of their own give the same lines whatever other jobs' lines came before.
use Rattle.std.proofs.Common.{◌≡◌, ℕ, zero, suc, ◌==◌, true, false, if◌then◌else◌, List, [], ◌∷◌, ◌++◌, map, All, AllPairs, Bool, refl, sym, ap, ◌∙◌, subst, eq-eqb}
use Rattle.std.proofs.lemmas.Bool.{false_from_ne_true, or_left, or_parts, or_right, true≢false}
use Rattle.std.proofs.lemmas.List.Concat.{flat_map-append}
use Rattle.std.proofs.lemmas.List.Elements.{All-head, All-nil, All-tail}
use Rattle.auc_history.proofs.Facts.{AllPairs-head, AllPairs-tail}
use Rattle.auc_5g.specs.declared.device_keys.DeviceKeys.{DeviceKeys}
use Rattle.auc_5g.specs.declared.home_keys.HomeKeys.{HomeKeys}
use Rattle.auc_lines.specs.declared.part.FivegLine.{FivegLine}
use Rattle.auc_lines.specs.declared.part.Line.{Line}
use Rattle.auc_lines.specs.declared.part.Line.TheVariants as line
use Rattle.auc_lines.specs.declared.part.End.{End}
use Rattle.auc_lines.specs.declared.part.End.TheVariants as end
use Rattle.auc_lines.specs.declared.sites.SiteEvent.{SiteEvent}
use Rattle.auc_lines.specs.Sim.{SimValue}
use Rattle.auc_lines.specs.Part.{AreApart, holds, is_held_by, is_that}
use Rattle.auc_sqn.specs.Past.{Past}
use Rattle.auc_subs.specs.declared.row.Row.{Row}
use Rattle.auc_5g.specs.Keys.{home_of}
use Rattle.auc_random.specs.Random.{rand_of}
use Rattle.auc_request.specs.Request.{is_separated}
use Rattle.auc_sites.specs.Network.{Network, SitesTurn, after_event}
use Rattle.auc_sites.specs.Run.{judgement_in}
use Rattle.auc_sites.specs.declared.master.Judged.{Judged}
use Rattle.auc_sites.specs.declared.master.Judged.TheVariants as judged
use Rattle.auc_vector.specs.declared.parts.Vector.{Vector as AuthVector}
use Rattle.auc_record.specs.declared.further.Further.TheVariants as further
use Rattle.auc_record.specs.declared.record.GiveVerdict.{GiveVerdict}
use Rattle.auc_record.specs.declared.record.GiveVerdict.TheVariants as given
use Rattle.auc_record.specs.declared.record.LineRecord.{LineRecord}
use Rattle.auc_record.specs.declared.record.LineRecord.TheVariants.{Number, Sync, Give, Further, Event as Told}
use Rattle.auc_vector.specs.declared.notes.NumberNote.TheVariants as number
use Rattle.auc_vector.specs.declared.notes.ResyncNote.{ResyncNote}
use Rattle.auc_vector.specs.declared.notes.ResyncNote.TheVariants as resync
use Rattle.std.specs.Prelude.{Option, Some, None}
use Rattle.auc_world.specs.Came.{Presented, came, presented_by}
use Rattle.auc_record.specs.Event.{device_in, sqn_accepted, usim_in}
use Rattle.auc_record.specs.Lines.{accepted, accepted_by, taken}
use Rattle.auc_world.specs.Net.{Net, other}
use Rattle.auc_world.specs.Start.{Kept, start_of}
use Rattle.auc_record.specs.declared.event.Event.{Event}
use Rattle.auc_record.specs.declared.event.Event.TheVariants as event
use Rattle.auc_record.specs.declared.event.EventRecord.{EventRecord}
use Rattle.auc_world.proofs.SimLemmas.{sim_gives_drawn}
use Rattle.auc_world.proofs.NetLemmas.{AreOf, IsOf, IsPresentedTo, Opens, device_is_of, presented_is_of, sessions_stay}
use Rattle.auc_subs.specs.Setting.{Setting}
use Rattle.auc_world.specs.Given.{AuthenticatesIf, Before, EventGives, FivegFollows, GiveGives, IsUsimAsked, JobGives, JobsGive, LineGives, PlainGives, RelayGives, UsimNotes, VectorsFollow, IsGiven, behind, hxres_lines, is_released, judged_lines, device_of_row, kasme_line, outcome_of, packet_of, past_of, past_before, turned}
use Rattle.auc_record.specs.Draws.{DrawGives, OneGives}
use Rattle.auc_world.specs.Sim.{SimGives}
use Rattle.auc_world.specs.Sites.{LeaseGives, SiteEventGives, SitesGo, event_of, note_of, sites_start}
use Rattle.auc_record.specs.VectorAt.{vector_at, vector_of_row}
use Rattle.auc_world.specs.Pieces.{Piece, lines_of_pieces, IsQuiet, PiecesGive, JobsGiveAfterAllLines}

-- what a USIM accepted by two lists of lines
pub accepted-append : (bits sub : ℕ) (xs ys : List LineRecord) → accepted bits sub (xs ++ ys) ≡ accepted bits sub xs ++ accepted bits sub ys
accepted-append bits sub xs ys = flat_map-append (accepted_by bits sub) xs ys

-- ---- a job that doesn't give to a USIM

-- nothing is accepted by a draw
draw_quiet : (set : Setting) (who count bits sub : ℕ) (lines : List LineRecord) → DrawGives set who count lines → accepted bits sub lines ≡ []
draw_quiet set who zero bits sub lines gives = ap (accepted bits sub) gives
draw_quiet set who (suc count) bits sub [] gives = refl
draw_quiet set who (suc count) bits sub (Number s (number.Drew n) ∷ lines) gives = draw_quiet set who count bits sub lines gives.2
draw_quiet set who (suc count) bits sub (Number s (number.Withheld n stop) ∷ lines) gives = ap (accepted bits sub) gives.3
draw_quiet set who (suc count) bits sub (Number s (number.Exhausted word) ∷ lines) gives = ap (accepted bits sub) gives.2
draw_quiet set who (suc count) bits sub (Sync s answer ∷ lines) gives = absurd gives
draw_quiet set who (suc count) bits sub (Give s n answer ∷ lines) gives = absurd gives
draw_quiet set who (suc count) bits sub (Further said ∷ lines) gives = absurd gives
draw_quiet set who (suc count) bits sub (Told r ∷ lines) gives = absurd gives

-- nor after a resynchronisation
follows_quiet : (set : Setting) (who count bits sub : ℕ) (note : ResyncNote) (lines : List LineRecord) → VectorsFollow set who count note lines → accepted bits sub lines ≡ []
follows_quiet set who count bits sub (resync.Moved seen seq_ms) lines follows = draw_quiet set who count bits sub lines follows
follows_quiet set who count bits sub (resync.InRange seen seq_ms) lines follows = draw_quiet set who count bits sub lines follows
follows_quiet set who count bits sub (resync.Beyond seen seq_ms) lines follows = ap (accepted bits sub) follows
follows_quiet set who count bits sub resync.BadAuts lines follows = ap (accepted bits sub) follows

-- nor by another subscriber's USIM
give_quiet : (bits sub s n : ℕ) (answer : GiveVerdict) → (s == sub) ≡ false → accepted bits sub (Give s n answer ∷ []) ≡ []
give_quiet bits sub s n answer other = ap (λ b. (if b then taken bits n answer else []) ++ []) other

-- nor by what follows from a vector
one_quiet : (set : Setting) (who bits sub : ℕ) (Follows : ℕ → List LineRecord → Type 0) (lines : List LineRecord) → OneGives set who Follows lines
    → ((n : ℕ) (rest : List LineRecord) → Follows n rest → accepted bits sub rest ≡ []) → accepted bits sub lines ≡ []
one_quiet set who bits sub Follows [] gives quiet = refl
one_quiet set who bits sub Follows (Number s (number.Drew n) ∷ lines) gives quiet = quiet n lines gives.2
one_quiet set who bits sub Follows (Number s (number.Withheld n stop) ∷ lines) gives quiet = ap (accepted bits sub) gives.3
one_quiet set who bits sub Follows (Number s (number.Exhausted word) ∷ lines) gives quiet = ap (accepted bits sub) gives.2
one_quiet set who bits sub Follows (Sync s answer ∷ lines) gives quiet = absurd gives
one_quiet set who bits sub Follows (Give s n answer ∷ lines) gives quiet = absurd gives
one_quiet set who bits sub Follows (Further said ∷ lines) gives quiet = absurd gives
one_quiet set who bits sub Follows (Told r ∷ lines) gives quiet = absurd gives

keys_quiet : (snid : List ℕ) (bits sub : ℕ) (vectors : List AuthVector) → accepted bits sub (map (kasme_line snid) vectors) ≡ []
keys_quiet snid bits sub [] = refl
keys_quiet snid bits sub (v ∷ vectors) = keys_quiet snid bits sub vectors

judged_quiet : (l : FivegLine) (home : HomeKeys) (device : DeviceKeys) (answer : GiveVerdict) (bits sub : ℕ) → accepted bits sub (judged_lines l home device answer) ≡ []
judged_quiet l home device given.Accepted bits sub = by l.hxres
  where
    by : (told : Bool) → accepted bits sub (hxres_lines told home ++ Further (further.Fiveg l.sub (outcome_of home device (turned l.bit device.res_star))) ∷ []) ≡ []
    by true = refl
    by false = refl
judged_quiet l home device (given.Sync sqn_ms) bits sub = refl
judged_quiet l home device given.Absent bits sub = refl

fiveg_quiet : (set : Setting) (before : Before) (l : FivegLine) (n bits sub : ℕ) (lines : List LineRecord) → (l.sub == sub) ≡ false → FivegFollows set before l n lines → accepted bits sub lines ≡ []
fiveg_quiet set before l n bits sub lines other f = by (is_separated (vector_of_row set f.row l.sub n).autn) f.follows
  where
    by : (separated : Bool) → AuthenticatesIf separated set before l f.row n lines → accepted bits sub lines ≡ []
    by false is = ap (accepted bits sub) is
    by true is =
        ap (accepted bits sub) is.lines_are ∙ accepted-append bits sub is.front is.more
        ∙ ap (λ (sqns : List (List ℕ)). sqns ++ accepted bits sub is.more) (ap (accepted bits sub) is.gives.lines_are ∙ give_quiet bits sub l.sub n is.gives.answer other)
        ∙ ap (accepted bits sub) is.judged ∙ judged_quiet l (home_of (vector_of_row set f.row l.sub n) l.home) (device_of_row f.row n (rand_of set.key l.sub n) l.device) is.gives.answer bits sub

-- nor by sites
lease_quiet : (set : Setting) (who size bits sub : ℕ) (o : Option Judged) (lines : List LineRecord) → LeaseGives set who size o lines → accepted bits sub lines ≡ []
lease_quiet set who size bits sub None lines gives = ap (accepted bits sub) gives
lease_quiet set who size bits sub (Some (judged.Again g)) lines gives = ap (accepted bits sub) gives
lease_quiet set who size bits sub (Some (judged.Old last)) lines gives = ap (accepted bits sub) gives
lease_quiet set who size bits sub (Some judged.New) lines gives = draw_quiet set who size bits sub lines gives

site_event_quiet : (set : Setting) (who size bits sub : ℕ) (w : Network) (e : SiteEvent) (lines : List LineRecord) (turn : SitesTurn) → SiteEventGives set who size w e lines turn → accepted bits sub lines ≡ []
site_event_quiet set who size bits sub w e lines turn gives =
    ap (accepted bits sub) gives.lines_are ∙ accepted-append bits sub gives.drawn (Further (further.Sites who (note_of w e turn)) ∷ [])
    ∙ ap (λ (sqns : List (List ℕ)). sqns ++ []) (lease_quiet set who size bits sub (judgement_in w (event_of w e)) gives.drawn gives.draws)

sites_quiet : (set : Setting) (who size bits sub : ℕ) (w : Network) (events : List SiteEvent) (lines : List LineRecord) (turns : List SitesTurn) → SitesGo set who size w events lines turns
    → accepted bits sub lines ≡ []
sites_quiet set who size bits sub w [] lines turns (none, ends) = ap (accepted bits sub) none
sites_quiet set who size bits sub w (e ∷ events) lines [] go = absurd go
sites_quiet set who size bits sub w (e ∷ events) lines (turn ∷ turns) (front, rest, is, first, more) =
    ap (accepted bits sub) is ∙ accepted-append bits sub front rest ∙ ap (λ (sqns : List (List ℕ)). sqns ++ accepted bits sub rest) (site_event_quiet set who size bits sub w e front turn first)
    ∙ sites_quiet set who size bits sub (after_event w turn.event turn.numbers turn.end) events rest turns more

-- nor by a session of EAP-SIM
sim_quiet : (set : Setting) (l : SimValue) (bits sub : ℕ) (lines : List LineRecord) → SimGives set l lines → accepted bits sub lines ≡ []
sim_quiet set l bits sub lines gives = sim_gives_drawn (accepted_by bits sub) set l lines (λ note. refl) gives ∙ draw_quiet set l.sub l.count bits sub gives.drawn gives.draws

-- nor in an event, if its device is another's
event_quiet : (bits sub : ℕ) (r : EventRecord) → IsOf (λ other. (other == sub) ≡ false) (device_in r.result) → accepted bits sub (Told r ∷ []) ≡ []
event_quiet bits sub r other = by (device_in r.result) other
  where
    by : (o : Option ℕ) → IsOf (λ other. (other == sub) ≡ false) o → sqn_accepted (if is_that sub o then usim_in r.result else None) ++ [] ≡ []
    by None other = refl
    by (Some device) other = ap (λ b. sqn_accepted (if b then usim_in r.result else None) ++ []) other

-- the sessions are at devices of other subscribers
abbrev AreOthers : ℕ → Net → Type 0
AreOthers sub net = AreOf (λ other. (other == sub) ≡ false) net.sessions

event_line_quiet : (set : Setting) (before : Before) (net next : Net) (e : Event) (bits sub : ℕ) (lines : List LineRecord) → EventGives set before net e lines next → AreOthers sub net
    → accepted bits sub lines ≡ []
event_line_quiet set before net next e bits sub lines gives others =
    ap (accepted bits sub) gives.lines_are ∙ event_quiet bits sub (record { event = e; result = came set net e gives.told }) (device_is_of (λ other. (other == sub) ≡ false) set net e gives.told others)

others_stay : (set : Setting) (before : Before) (net next : Net) (e : Event) (sub : ℕ) (lines : List LineRecord) → EventGives set before net e lines next → AreOthers sub net
    → Opens (λ other. (other == sub) ≡ false) e → AreOthers sub next
others_stay set before net next e sub lines gives others opens =
    subst (AreOthers sub) (sym gives.leads) (sessions_stay (λ other. (other == sub) ≡ false) set net e gives.told others opens)

-- nor by the packets that follow one
relay_quiet : (set : Setting) (before : Before) (net next : Net) (session : ℕ) (at' : End) (o : Option ℕ) (bits sub : ℕ) (lines : List LineRecord)
    → RelayGives set before net session at' o lines next → AreOthers sub net → (accepted bits sub lines ≡ []) × AreOthers sub next
relay_quiet set before net next session at' None bits sub [] gives others = (refl, subst (AreOthers sub) (sym gives) others)
relay_quiet set before net next session at' None bits sub (line ∷ lines) gives others = absurd gives
relay_quiet set before net next session at' (Some packet) bits sub [] gives others = absurd gives
relay_quiet set before net next session at' (Some packet) bits sub (line ∷ lines) (mid, first, more) others =
    let (quiet, last) = relay_quiet set (behind before (line ∷ [])) mid next session (other at') (packet_of line) bits sub lines more
    (others_stay set before net mid (event.Deliver session at' packet) sub (line ∷ []) first others tt) in
    (accepted-append bits sub (line ∷ []) lines ∙ ap (λ (sqns : List (List ℕ)). sqns ++ accepted bits sub lines) (event_line_quiet set before net mid (event.Deliver session at' packet) bits sub (line ∷ []) first others) ∙ quiet, last)

plain_quiet : (set : Setting) (before : Before) (net next : Net) (session : ℕ) (bits sub : ℕ) (lines : List LineRecord) → PlainGives set before net session lines next → AreOthers sub net
    → (accepted bits sub lines ≡ []) × AreOthers sub next
plain_quiet set before net next session bits sub [] gives others = absurd gives
plain_quiet set before net next session bits sub (line ∷ lines) (mid, first, more) others =
    let (quiet, last) = relay_quiet set (behind before (line ∷ [])) mid next session end.Peer (packet_of line) bits sub lines more
    (others_stay set before net mid (event.Start session) sub (line ∷ []) first others tt) in
    (accepted-append bits sub (line ∷ []) lines ∙ ap (λ (sqns : List (List ℕ)). sqns ++ accepted bits sub lines) (event_line_quiet set before net mid (event.Start session) bits sub (line ∷ []) first others) ∙ quiet, last)

-- a line that doesn't hold the USIM, in a network whose sessions are at other devices
line_quiet : (set : Setting) (before : Before) (net next : Net) (l : Line) (bits sub : ℕ) (lines : List LineRecord) → LineGives set before net l lines next → is_held_by sub l ≡ false → AreOthers sub net
    → (accepted bits sub lines ≡ []) × AreOthers sub next
line_quiet set before net next (line.Draw who count) bits sub lines (gives, is) none others = (draw_quiet set who count bits sub lines gives, subst (AreOthers sub) (sym is) others)
line_quiet set before net next (line.Sync who report count) bits sub lines (gives, is) none others =
    (ap (accepted bits sub) gives.lines_are ∙ follows_quiet set who count bits sub gives.note gives.more gives.follows, subst (AreOthers sub) (sym is) others)
line_quiet set before net next (line.Give who n) bits sub lines (gives, is) none others = (ap (accepted bits sub) gives.lines_are ∙ give_quiet bits sub who n gives.answer none, subst (AreOthers sub) (sym is) others)
line_quiet set before net next (line.Eps who snid) bits sub lines (gives, is) none others = (
  one_quiet set who bits sub (λ n rest. rest ≡ map (kasme_line snid) (vector_at set who n)) lines gives
      (λ n rest is. ap (accepted bits sub) is ∙ keys_quiet snid bits sub (vector_at set who n)),
  subst (AreOthers sub) (sym is) others,
)
line_quiet set before net next (line.Fiveg l) bits sub lines (gives, is) none others = (
  one_quiet set l.sub bits sub (λ n rest. FivegFollows set (behind before (Number l.sub (number.Drew n) ∷ [])) l n rest) lines gives
      (λ n rest f. fiveg_quiet set (behind before (Number l.sub (number.Drew n) ∷ [])) l n bits sub rest none f),
  subst (AreOthers sub) (sym is) others,
)
line_quiet set before net next (line.Sites l) bits sub lines ((turns, go), is) none others =
    (sites_quiet set l.sub l.size bits sub (sites_start l) l.schedule lines turns go, subst (AreOthers sub) (sym is) others)
line_quiet set before net next (line.Sim l) bits sub lines (gives, is) none others = (sim_quiet set l bits sub lines gives, subst (AreOthers sub) (sym is) others)
line_quiet set before net next (line.Session opening) bits sub lines gives none others =
    (event_line_quiet set before net next (event.Open opening) bits sub lines gives others, others_stay set before net next (event.Open opening) sub lines gives others none)
line_quiet set before net next (line.Start session) bits sub lines gives none others =
    (event_line_quiet set before net next (event.Start session) bits sub lines gives others, others_stay set before net next (event.Start session) sub lines gives others tt)
line_quiet set before net next (line.Deliver session at' packet) bits sub lines gives none others =
    (event_line_quiet set before net next (event.Deliver session at' packet) bits sub lines gives others, others_stay set before net next (event.Deliver session at' packet) sub lines gives others tt)
line_quiet set before net next (line.Repeat session) bits sub lines gives none others =
    (event_line_quiet set before net next (event.Repeat session) bits sub lines gives others, others_stay set before net next (event.Repeat session) sub lines gives others tt)
line_quiet set before net next (line.GiveUp session at') bits sub lines gives none others =
    (event_line_quiet set before net next (event.GiveUp session at') bits sub lines gives others, others_stay set before net next (event.GiveUp session at') sub lines gives others tt)
line_quiet set before net next (line.Plain session) bits sub lines gives none others = plain_quiet set before net next session bits sub lines gives others
line_quiet set before net next (line.Tamper packet at' byte) bits sub lines gives none others =
    (event_line_quiet set before net next (event.Tamper packet at' byte) bits sub lines gives others, others_stay set before net next (event.Tamper packet at' byte) sub lines gives others tt)
line_quiet set before net next (line.Cut packet count) bits sub lines gives none others =
    (event_line_quiet set before net next (event.Cut packet count) bits sub lines gives others, others_stay set before net next (event.Cut packet count) sub lines gives others tt)

-- a job that doesn't
lines_quiet : (set : Setting) (before : Before) (net last : Net) (job : List Line) (bits sub : ℕ) (lines : List LineRecord) → JobGives set before net job lines last → holds sub job ≡ false → AreOthers sub net
    → accepted bits sub lines ≡ []
lines_quiet set before net last [] bits sub lines (none, is) other others = ap (accepted bits sub) none
lines_quiet set before net last (l ∷ job) bits sub lines (front, rest, next, is, first, more) other others =
    let (here, there) = or_parts (is_held_by sub l) (holds sub job) other in
    let (quiet, still) = line_quiet set before net next l bits sub front first here others in
    ap (accepted bits sub) is ∙ accepted-append bits sub front rest
    ∙ ap (λ (sqns : List (List ℕ)). sqns ++ accepted bits sub rest) quiet ∙ lines_quiet set (behind before front) next last job bits sub rest more there still

pub job_quiet : (set : Setting) (before : Before) (kept : List Kept) (job : List Line) (bits sub : ℕ) (lines : List LineRecord) (last : Net) → JobGives set before (start_of set kept job) job lines last → holds sub job ≡ false
    → accepted bits sub lines ≡ []
job_quiet set before kept job bits sub lines last gives other = lines_quiet set before (start_of set kept job) last job bits sub lines gives other (All-nil (λ s. (s.sub == sub) ≡ false))

-- ---- other lines before a job

-- the lines before a line: those of earlier rounds, of other jobs, and of its own job
abbrev place : List LineRecord → List LineRecord → List LineRecord → Before
place early beside own = record { early = early; beside = beside; own = own }

-- a USIM's past is the same after other lines of the round by which it has accepted nothing
same_past : (early own beside done : List LineRecord) (row : Row) (sub : ℕ) → accepted row.bits sub own ≡ [] → accepted row.bits sub beside ≡ []
    → past_before (place early own done) row sub ≡ past_before (place early beside done) row sub
same_past early own beside done row sub quiet still =
    ap (past_of row.bits row.usim) (accepted-append row.bits sub (early ++ own) done
    ∙ ap (λ (sqns : List (List ℕ)). sqns ++ accepted row.bits sub done) (accepted-append row.bits sub early own ∙ ap (λ (sqns : List (List ℕ)). accepted row.bits sub early ++ sqns) (quiet ∙ sym still) ∙ sym (accepted-append row.bits sub early beside))
    ∙ sym (accepted-append row.bits sub (early ++ beside) done))

-- by lines of a worker and by those of other workers, the USIM has accepted nothing
record IsStill (own beside : List LineRecord) (sub : ℕ) : Type 0 where
  pub own_none : (bits : ℕ) → accepted bits sub own ≡ []
  pub beside_none : (bits : ℕ) → accepted bits sub beside ≡ []

-- an event gives the same after such lines, in a network whose sessions are at such USIMs
event_beside : (set : Setting) (early own beside done : List LineRecord) (net next : Net) (e : Event) (lines : List LineRecord) → AreOf (IsStill own beside) net.sessions
    → EventGives set (place early own done) net e lines next → EventGives set (place early beside done) net e lines next
event_beside set early own beside done net next e lines still gives = record {
  told = gives.told;
  lines_are = gives.lines_are;
  leads = gives.leads;
  received = gives.received;
  notes = gives.notes;
  replies = gives.replies;
  centre = gives.centre;
  usim = by (presented_by net e gives.told) (presented_is_of (IsStill own beside) net e gives.told still) gives.usim;
}
  where
    by : (o : Option Presented) → IsPresentedTo (IsStill own beside) o → IsUsimAsked set (place early own done) o gives.told → IsUsimAsked set (place early beside done) o gives.told
    by None still asked = tt
    by (Some p) still asked = record {
      row = asked.row;
      there = asked.there;
      answers = subst (λ (past : Past). UsimNotes p.device.secret asked.row past p.challenge gives.told.notes.usim)
          (same_past early own beside done asked.row p.delivery.session.sub (still.own_none asked.row.bits) (still.beside_none asked.row.bits)) asked.answers;
      decrypts = asked.decrypts;
    }

event_still : (set : Setting) (before : Before) (own beside : List LineRecord) (net next : Net) (e : Event) (lines : List LineRecord) → AreOf (IsStill own beside) net.sessions
    → Opens (IsStill own beside) e → EventGives set before net e lines next → AreOf (IsStill own beside) next.sessions
event_still set before own beside net next e lines still opens gives =
    subst (λ (w : Net). AreOf (IsStill own beside) w.sessions) (sym gives.leads) (sessions_stay (IsStill own beside) set net e gives.told still opens)

relay_beside : (set : Setting) (early own beside done : List LineRecord) (net next : Net) (session : ℕ) (at' : End) (o : Option ℕ) (lines : List LineRecord) → AreOf (IsStill own beside) net.sessions
    → RelayGives set (place early own done) net session at' o lines next → RelayGives set (place early beside done) net session at' o lines next × AreOf (IsStill own beside) next.sessions
relay_beside set early own beside done net next session at' None [] still gives = (gives, subst (λ (w : Net). AreOf (IsStill own beside) w.sessions) (sym gives) still)
relay_beside set early own beside done net next session at' None (line ∷ lines) still gives = absurd gives
relay_beside set early own beside done net next session at' (Some packet) [] still gives = absurd gives
relay_beside set early own beside done net next session at' (Some packet) (line ∷ lines) still (mid, first, more) =
    let e = event.Deliver session at' packet in
    let (rest, last) = relay_beside set early own beside (done ++ line ∷ []) mid next session (other at') (packet_of line) lines
    (event_still set (place early own done) own beside net mid e (line ∷ []) still tt first) more in
    ((mid, event_beside set early own beside done net mid e (line ∷ []) still first, rest), last)

plain_beside : (set : Setting) (early own beside done : List LineRecord) (net next : Net) (session : ℕ) (lines : List LineRecord) → AreOf (IsStill own beside) net.sessions
    → PlainGives set (place early own done) net session lines next → PlainGives set (place early beside done) net session lines next × AreOf (IsStill own beside) next.sessions
plain_beside set early own beside done net next session [] still gives = absurd gives
plain_beside set early own beside done net next session (line ∷ lines) still (mid, first, more) =
    let e = event.Start session in
    let (rest, last) = relay_beside set early own beside (done ++ line ∷ []) mid next session end.Peer (packet_of line) lines
    (event_still set (place early own done) own beside net mid e (line ∷ []) still tt first) more in
    ((mid, event_beside set early own beside done net mid e (line ∷ []) still first, rest), last)

-- a vector that is presented to such a USIM gives the same
give_beside : (set : Setting) (early own beside done : List LineRecord) (who n : ℕ) (lines : List LineRecord) → IsStill own beside who
    → GiveGives set (place early own done) who n lines → GiveGives set (place early beside done) who n lines
give_beside set early own beside done who n lines still gives = record {
  row = gives.row;
  there = gives.there;
  answer = gives.answer;
  lines_are = gives.lines_are;
  given = subst (λ (past : Past). IsGiven gives.row (is_released (place early own done) who n) past n gives.answer)
      (same_past early own beside done gives.row who (still.own_none gives.row.bits) (still.beside_none gives.row.bits)) gives.given;
}

-- so does what follows a vector
one_beside : (set : Setting) (who : ℕ) (F G : ℕ → List LineRecord → Type 0) (lines : List LineRecord) → ((n : ℕ) (rest : List LineRecord) → F n rest → G n rest)
    → OneGives set who F lines → OneGives set who G lines
one_beside set who F G [] f gives = absurd gives
one_beside set who F G (Number s (number.Drew n) ∷ lines) f gives = (gives.0, gives.1, f n lines gives.2)
one_beside set who F G (Number s (number.Withheld n stop) ∷ lines) f gives = gives
one_beside set who F G (Number s (number.Exhausted word) ∷ lines) f gives = gives
one_beside set who F G (Sync s answer ∷ lines) f gives = absurd gives
one_beside set who F G (Give s n answer ∷ lines) f gives = absurd gives
one_beside set who F G (Further said ∷ lines) f gives = absurd gives
one_beside set who F G (Told r ∷ lines) f gives = absurd gives

fiveg_beside : (set : Setting) (early own beside done : List LineRecord) (l : FivegLine) (n : ℕ) (lines : List LineRecord) → IsStill own beside l.sub
    → FivegFollows set (place early own done) l n lines → FivegFollows set (place early beside done) l n lines
unfolding give_beside
fiveg_beside set early own beside done l n lines still f =
    record { row = f.row; there = f.there; follows = by (is_separated (vector_of_row set f.row l.sub n).autn) f.follows }
  where
    by : (separated : Bool) → AuthenticatesIf separated set (place early own done) l f.row n lines → AuthenticatesIf separated set (place early beside done) l f.row n lines
    by false is = is
    by true is = record {
      front = is.front;
      more = is.more;
      lines_are = is.lines_are;
      gives = give_beside set early own beside done l.sub n is.front still is.gives;
      judged = is.judged;
    }

-- a line gives the same after such lines
line_beside : (set : Setting) (early own beside done : List LineRecord) (net next : Net) (l : Line) (lines : List LineRecord) → ((sub : ℕ) → is_held_by sub l ≡ true → IsStill own beside sub)
    → AreOf (IsStill own beside) net.sessions → LineGives set (place early own done) net l lines next
    → LineGives set (place early beside done) net l lines next × AreOf (IsStill own beside) next.sessions
line_beside set early own beside done net next (line.Draw who count) lines held still gives = (gives, subst (λ (w : Net). AreOf (IsStill own beside) w.sessions) (sym gives.1) still)
line_beside set early own beside done net next (line.Sync who report count) lines held still gives = (gives, subst (λ (w : Net). AreOf (IsStill own beside) w.sessions) (sym gives.1) still)
line_beside set early own beside done net next (line.Give who n) lines held still (gives, is) =
    ((give_beside set early own beside done who n lines (held who (eq-eqb who who refl)) gives, is), subst (λ (w : Net). AreOf (IsStill own beside) w.sessions) (sym is) still)
line_beside set early own beside done net next (line.Eps who snid) lines held still gives = (gives, subst (λ (w : Net). AreOf (IsStill own beside) w.sessions) (sym gives.1) still)
line_beside set early own beside done net next (line.Fiveg l) lines held still (gives, is) = (
  (
    one_beside set l.sub (λ n rest. FivegFollows set (place early own (done ++ Number l.sub (number.Drew n) ∷ [])) l n rest) (λ n rest. FivegFollows set (place early beside (done ++ Number l.sub (number.Drew n) ∷ [])) l n rest) lines
        (λ n rest f. fiveg_beside set early own beside (done ++ Number l.sub (number.Drew n) ∷ []) l n rest (held l.sub (eq-eqb l.sub l.sub refl)) f) gives,
    is,
  ),
  subst (λ (w : Net). AreOf (IsStill own beside) w.sessions) (sym is) still,
)
line_beside set early own beside done net next (line.Sites l) lines held still gives = (gives, subst (λ (w : Net). AreOf (IsStill own beside) w.sessions) (sym gives.1) still)
line_beside set early own beside done net next (line.Sim l) lines held still gives = (gives, subst (λ (w : Net). AreOf (IsStill own beside) w.sessions) (sym gives.1) still)
line_beside set early own beside done net next (line.Session opening) lines held still gives =
    let e = event.Open opening in
    (event_beside set early own beside done net next e lines still gives, event_still set (place early own done) own beside net next e lines still (held opening.sub (eq-eqb opening.sub opening.sub refl)) gives)
line_beside set early own beside done net next (line.Start session) lines held still gives =
    let e = event.Start session in (event_beside set early own beside done net next e lines still gives, event_still set (place early own done) own beside net next e lines still tt gives)
line_beside set early own beside done net next (line.Deliver session at' packet) lines held still gives =
    let e = event.Deliver session at' packet in (event_beside set early own beside done net next e lines still gives, event_still set (place early own done) own beside net next e lines still tt gives)
line_beside set early own beside done net next (line.Repeat session) lines held still gives =
    let e = event.Repeat session in (event_beside set early own beside done net next e lines still gives, event_still set (place early own done) own beside net next e lines still tt gives)
line_beside set early own beside done net next (line.GiveUp session at') lines held still gives =
    let e = event.GiveUp session at' in (event_beside set early own beside done net next e lines still gives, event_still set (place early own done) own beside net next e lines still tt gives)
line_beside set early own beside done net next (line.Plain session) lines held still gives = plain_beside set early own beside done net next session lines still gives
line_beside set early own beside done net next (line.Tamper packet at' byte) lines held still gives =
    let e = event.Tamper packet at' byte in (event_beside set early own beside done net next e lines still gives, event_still set (place early own done) own beside net next e lines still tt gives)
line_beside set early own beside done net next (line.Cut packet count) lines held still gives =
    let e = event.Cut packet count in (event_beside set early own beside done net next e lines still gives, event_still set (place early own done) own beside net next e lines still tt gives)

-- so does a job
job_beside : (set : Setting) (early own beside done : List LineRecord) (net last : Net) (job : List Line) (lines : List LineRecord) → ((sub : ℕ) → holds sub job ≡ true → IsStill own beside sub)
    → AreOf (IsStill own beside) net.sessions → JobGives set (place early own done) net job lines last → JobGives set (place early beside done) net job lines last
job_beside set early own beside done net last [] lines held still gives = gives
job_beside set early own beside done net last (l ∷ job) lines held still (front, rest, next, is, first, more) =
    let (here, later) = line_beside set early own beside done net next l front (λ sub is. held sub (or_left (is_held_by sub l) (holds sub job) is)) still first in
    (front, rest, next, is, here, job_beside set early own beside (done ++ front) next last job rest (λ sub is. held sub (or_right (is_held_by sub l) (holds sub job) is)) later more)

-- ---- all jobs

-- a fact of each element, from two others
all_from_both : {X : Type 0} (P Q R : X → Type 0) (xs : List X) → ((x : X) → P x → Q x → R x) → All P xs → All Q xs → All R xs
all_from_both P Q R xs f ps qs k d within = f _ (ps k d within) (qs k d within)

-- the USIMs of one job are none of another's
not_given : (sub : ℕ) (job other : List Line) → AreApart job other → holds sub other ≡ true → holds sub job ≡ false
not_given sub job other apart to = false_from_ne_true (holds sub job) (λ is. true≢false (sym to ∙ apart sub is))

-- jobs that are apart give their pieces' lines after the lines of all earlier jobs
jobs_beside : (set : Setting) (early : List LineRecord) (kept : List Kept) (beside : List LineRecord) (jobs : List (List Line)) (pieces : List Piece) (nets : List Net) → AllPairs AreApart jobs → All (IsQuiet beside) jobs
    → PiecesGive set early kept jobs pieces nets → JobsGive set early kept beside jobs (lines_of_pieces pieces) nets
jobs_beside set early kept beside [] pieces nets apart still (none, is) = (ap lines_of_pieces none, is)
jobs_beside set early kept beside (job ∷ jobs) [] nets apart still give = absurd give
jobs_beside set early kept beside (job ∷ jobs) (piece ∷ pieces) [] apart still give = absurd give
jobs_beside set early kept beside (job ∷ jobs) (piece ∷ pieces) (net ∷ nets) apart still (quiet, gives, more) = (
  job_beside set early piece.earlier beside [] (start_of set kept job) net job piece.lines
      (λ sub is. record { own_none = λ bits. quiet bits sub is; beside_none = λ bits. All-head (IsQuiet beside) job jobs still bits sub is }) (All-nil (λ s. IsStill piece.earlier beside s.sub)) gives,
  jobs_beside set early kept (beside ++ piece.lines) jobs pieces nets (AllPairs-tail AreApart job jobs apart)
      (all_from_both (IsQuiet beside) (AreApart job) (IsQuiet (beside ++ piece.lines)) jobs
      (λ other was far bits sub to. accepted-append bits sub beside piece.lines ∙ ap (λ (sqns : List (List ℕ)). sqns ++ accepted bits sub piece.lines) (was bits sub to)
      ∙ job_quiet set (place early piece.earlier []) kept job bits sub piece.lines net gives (not_given sub job other far to))
      (All-tail (IsQuiet beside) job jobs still) (AllPairs-head AreApart job jobs apart)) more,
)

-- the same of a round
pub jobs_give_after_all_lines : JobsGiveAfterAllLines
jobs_give_after_all_lines set early kept jobs pieces nets apart give = jobs_beside set early kept [] jobs pieces nets apart (λ k d within bits sub to. refl) give
