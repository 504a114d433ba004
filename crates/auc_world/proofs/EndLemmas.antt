-- In a lawful transcript what comes of each event is a step of the end that the event concerns.
use Rattle.std.proofs.Common.{ℕ, ◌≡◌, refl, sym, subst, Bool, true, false, List, [], ◌∷◌, ◌++◌, length, map, ◌==◌, Option, Some, None, zero, suc, All}
use Rattle.std.proofs.lemmas.List.Elements.{All-nil, All-cons, All-append, All-map}
use Rattle.auc_5g.specs.Keys.{home_of}
use Rattle.auc_5g.specs.declared.device_keys.DeviceKeys.{DeviceKeys}
use Rattle.auc_5g.specs.declared.home_keys.HomeKeys.{HomeKeys}
use Rattle.auc_memory.specs.declared.stop.Stop.{Stop}
use Rattle.auc_lines.specs.Sim.{SimValue}
use Rattle.auc_lines.specs.declared.part.End.{End}
use Rattle.auc_lines.specs.declared.part.End.TheVariants as end
use Rattle.auc_lines.specs.declared.part.FivegLine.{FivegLine}
use Rattle.auc_lines.specs.declared.part.Line.{Line}
use Rattle.auc_lines.specs.declared.part.Line.TheVariants as line
use Rattle.auc_lines.specs.declared.part.Part.{Part}
use Rattle.auc_lines.specs.declared.part.Part.TheVariants as part
use Rattle.auc_lines.specs.declared.sites.SiteEvent.{SiteEvent}
use Rattle.auc_peer.specs.Subscription.{Subscription}
use Rattle.auc_random.specs.Random.{rand_of}
use Rattle.auc_request.specs.Request.{is_separated}
use Rattle.auc_server.specs.Server.{ServerEnd}
use Rattle.auc_server.specs.declared.options.ServerOptions.{ServerOptions}
use Rattle.auc_sites.specs.Network.{Network, SitesTurn, after_event}
use Rattle.auc_sites.specs.Run.{judgement_in}
use Rattle.auc_sites.specs.declared.master.Judged.{Judged}
use Rattle.auc_sites.specs.declared.master.Judged.TheVariants as judged
use Rattle.auc_subs.specs.declared.row.Row.{Row}
use Rattle.auc_vector.specs.declared.parts.Vector.{Vector as AuthVector}
use Rattle.auc_record.specs.Event.{Came}
use Rattle.auc_world.specs.Came.{came, came_at_peer, came_at_server, came_changed, came_delivered, came_given_up, came_in, came_opened, came_repeated, came_started, server_came_to_give_up, session_of}
use Rattle.auc_record.specs.Draws.{DrawGives, OneGives}
use Rattle.auc_world.specs.Given.{Authenticates, AuthenticatesIf, Before, EventGives, FivegFollows, GiveGives, JobGives, JobsGive, LineGives, PlainGives, RelayGives, VectorsFollow, behind, device_of_row, hxres_lines, judged_lines, kasme_line, outcome_of, packet_of, turned}
use Rattle.auc_world.specs.Happened.{Delivery, ToldEvent, changed_in, delivery_in}
use Rattle.auc_record.specs.Lines.{numbers_of}
use Rattle.auc_world.specs.Net.{Net, device_place, other, packet_at, session_place}
use Rattle.auc_subs.specs.Setting.{Setting}
use Rattle.auc_world.specs.Sim.{SimFollowsIf, SimGives}
use Rattle.auc_world.specs.Sites.{LeaseGives, SiteEventGives, SitesGo, event_of, note_of, sites_start}
use Rattle.auc_world.specs.Start.{Kept, start_of}
use Rattle.auc_world.specs.Transcript.{Course, Leads, ServesPart, stop_before}
use Rattle.auc_record.specs.declared.event.Event.{Event}
use Rattle.auc_record.specs.declared.event.Event.TheVariants as event
use Rattle.auc_record.specs.VectorAt.{vector_at, vector_of_row}
use Rattle.auc_record.specs.declared.further.FivegOutcome.TheVariants as fiveg
use Rattle.auc_record.specs.declared.further.Further.{Further}
use Rattle.auc_record.specs.declared.further.Further.TheVariants as further
use Rattle.auc_world.specs.declared.net.SentPacket.{SentPacket}
use Rattle.auc_world.specs.declared.net.Session.{Session}
use Rattle.auc_record.specs.declared.record.GiveVerdict.{GiveVerdict}
use Rattle.auc_record.specs.declared.record.GiveVerdict.TheVariants as given
use Rattle.auc_record.specs.declared.record.LineRecord.{LineRecord}
use Rattle.auc_record.specs.declared.record.LineRecord.TheVariants as record_of
use Rattle.auc_vector.specs.declared.notes.NumberNote.TheVariants as number
use Rattle.auc_record.specs.declared.record.PartRecord.{PartRecord}
use Rattle.auc_record.specs.declared.record.PartRecord.TheVariants as made
use Rattle.auc_vector.specs.declared.notes.ResyncNote.{ResyncNote}
use Rattle.auc_vector.specs.declared.notes.ResyncNote.TheVariants as resync
use Rattle.auc_record.specs.Ends.{AreAtTheirEnds, CameAt, IsAtItsEnd, PartIsAtItsEnds, end_of}

-- ---- an event

opened_at : (first place : Option ℕ) → CameAt None (came_opened first place)
opened_at (Some first) place = tt
opened_at None None = tt
opened_at None (Some place) = tt

started_at : (w : Net) (options : ServerOptions) (s : Option ServerEnd) → CameAt (Some end.Server) (came_started w options s)
started_at w options None = tt
started_at w options (Some s) = tt

repeated_at : (w : Net) (s : Option ServerEnd) → CameAt (Some end.Server) (came_repeated w s)
repeated_at w None = tt
repeated_at w (Some s) = tt

server_given_up_at : (w : Net) (s : Option ServerEnd) → CameAt (Some end.Server) (server_came_to_give_up w s)
server_given_up_at w None = tt
server_given_up_at w (Some s) = tt

given_up_at : (w : Net) (at' : End) (s : Session) → CameAt (Some at') (came_given_up w at' s)
given_up_at w end.Server s = server_given_up_at w s.server
given_up_at w end.Peer s = tt

at_server : (set : Setting) (w : Net) (told : ToldEvent) (s : Option ServerEnd) → CameAt (Some end.Server) (came_at_server set w told s)
at_server set w told None = tt
at_server set w told (Some s) = tt

at_peer : (set : Setting) (w : Net) (d : Delivery) (told : ToldEvent) (device : Option Subscription) → CameAt (Some end.Peer) (came_at_peer set w d told device)
at_peer set w d told None = tt
at_peer set w d told (Some device) = tt

delivered_at : (set : Setting) (w : Net) (at' : End) (told : ToldEvent) (sent : Option SentPacket) (d : Option Delivery)
    → CameAt (Some at') (came_delivered set w at' told sent d)
delivered_at set w at' told None d = tt
delivered_at set w at' told (Some sent) None = tt
delivered_at set w end.Server told (Some sent) (Some d) = at_server set w told d.session.server
delivered_at set w end.Peer told (Some sent) (Some d) = at_peer set w d told _

in_session : (at' : Option End) (does : Session → Came) → ((s : Session) → CameAt at' (does s)) → (found : Option Session) → CameAt at' (came_in does found)
in_session at' does each None = tt
in_session at' does each (Some s) = each s

changed_at_none : (packets : List SentPacket) (sent : Option SentPacket) (copy : Option (List ℕ)) → CameAt None (came_changed packets sent copy)
changed_at_none packets None copy = tt
changed_at_none packets (Some sent) None = tt
changed_at_none packets (Some sent) (Some bytes) = tt

-- what comes of an event is a step of its end
pub came_at_end : (set : Setting) (w : Net) (e : Event) (told : ToldEvent) → CameAt (end_of e) (came set w e told)
came_at_end set w (event.Open opening) told = opened_at (session_place w.sessions opening.session) (device_place set.rows w.devices opening.sub)
came_at_end set w (event.Start session) told =
    in_session (Some end.Server) (λ s. came_started w s.options s.server) (λ s. started_at w s.options s.server) (session_of w session)
came_at_end set w (event.Deliver session at' packet) told = delivered_at set w at' told (packet_at w.packets packet) (delivery_in w session packet)
came_at_end set w (event.Repeat session) told =
    in_session (Some end.Server) (λ s. came_repeated w s.server) (λ s. repeated_at w s.server) (session_of w session)
came_at_end set w (event.GiveUp session at') told = in_session (Some at') (came_given_up w at') (given_up_at w at') (session_of w session)
came_at_end set w (event.Tamper packet place byte) told =
    changed_at_none w.packets (packet_at w.packets packet) (changed_in w.packets (event.Tamper packet place byte))
came_at_end set w (event.Cut packet count) told =
    changed_at_none w.packets (packet_at w.packets packet) (changed_in w.packets (event.Cut packet count))

-- ---- lines

-- the same of some lines
abbrev AreAt : List LineRecord → Type 0
AreAt lines = All IsAtItsEnd lines

none_at : (lines : List LineRecord) → lines ≡ [] → AreAt lines
none_at lines none = subst AreAt (sym none) (All-nil IsAtItsEnd)

event_at : (set : Setting) (before : Before) (net : Net) (e : Event) (lines : List LineRecord) (next : Net) → EventGives set before net e lines next → AreAt lines
event_at set before net e lines next gives =
    subst AreAt (sym gives.lines_are)
    (All-cons IsAtItsEnd (record_of.Event (record { event = e; result = came set net e gives.told })) [] (came_at_end set net e gives.told) (All-nil IsAtItsEnd))

relay_at : (set : Setting) (before : Before) (net : Net) (session : ℕ) (at' : End) (packet : Option ℕ) (lines : List LineRecord) (next : Net)
    → RelayGives set before net session at' packet lines next → AreAt lines
relay_at set before net session at' None [] next gives = All-nil IsAtItsEnd
relay_at set before net session at' None (first ∷ lines) next gives = absurd gives
relay_at set before net session at' (Some packet) [] next gives = absurd gives
relay_at set before net session at' (Some packet) (first ∷ lines) next (mid, here, rest) =
    All-append IsAtItsEnd (first ∷ []) lines (event_at set before net (event.Deliver session at' packet) (first ∷ []) mid here)
    (relay_at set (behind before (first ∷ [])) mid session (other at') (packet_of first) lines next rest)

plain_at : (set : Setting) (before : Before) (net : Net) (session : ℕ) (lines : List LineRecord) (next : Net)
    → PlainGives set before net session lines next → AreAt lines
plain_at set before net session [] next gives = absurd gives
plain_at set before net session (first ∷ lines) next (mid, here, rest) =
    All-append IsAtItsEnd (first ∷ []) lines (event_at set before net (event.Start session) (first ∷ []) mid here)
    (relay_at set (behind before (first ∷ [])) mid session end.Peer (packet_of first) lines next rest)

-- what a request for a vector gives, if what follows the vector's number is so
one_at : (set : Setting) (sub : ℕ) (Follows : ℕ → List LineRecord → Type 0) (lines : List LineRecord) → OneGives set sub Follows lines
    → ((n : ℕ) (rest : List LineRecord) → Follows n rest → AreAt rest) → AreAt lines
one_at set sub Follows [] gives each = absurd gives
one_at set sub Follows (record_of.Number s (number.Drew n) ∷ lines) gives each =
    All-cons IsAtItsEnd (record_of.Number s (number.Drew n)) lines tt (each n lines gives.2)
one_at set sub Follows (record_of.Number s (number.Withheld n stop) ∷ lines) gives each =
    All-cons IsAtItsEnd (record_of.Number s (number.Withheld n stop)) lines tt (none_at lines gives.3)
one_at set sub Follows (record_of.Number s (number.Exhausted word) ∷ lines) gives each =
    All-cons IsAtItsEnd (record_of.Number s (number.Exhausted word)) lines tt (none_at lines gives.2)
one_at set sub Follows (record_of.Sync s answer ∷ lines) gives each = absurd gives
one_at set sub Follows (record_of.Give s n answer ∷ lines) gives each = absurd gives
one_at set sub Follows (record_of.Further said ∷ lines) gives each = absurd gives
one_at set sub Follows (record_of.Event r ∷ lines) gives each = absurd gives

draw_at : (set : Setting) (sub count : ℕ) (lines : List LineRecord) → DrawGives set sub count lines → AreAt lines
draw_at set sub zero lines gives = none_at lines gives
draw_at set sub (suc count) lines gives =
    one_at set sub (λ n rest. DrawGives set sub count rest) lines gives (λ n rest more. draw_at set sub count rest more)

vectors_at : (set : Setting) (sub count : ℕ) (note : ResyncNote) (lines : List LineRecord) → VectorsFollow set sub count note lines → AreAt lines
vectors_at set sub count (resync.Moved seen seq_ms) lines follow = draw_at set sub count lines follow
vectors_at set sub count (resync.InRange seen seq_ms) lines follow = draw_at set sub count lines follow
vectors_at set sub count (resync.Beyond seen seq_ms) lines follow = none_at lines follow
vectors_at set sub count resync.BadAuts lines follow = none_at lines follow

give_at : (set : Setting) (before : Before) (sub n : ℕ) (lines : List LineRecord) → GiveGives set before sub n lines → AreAt lines
give_at set before sub n lines gives =
    subst AreAt (sym gives.lines_are) (All-cons IsAtItsEnd (record_of.Give sub n gives.answer) [] tt (All-nil IsAtItsEnd))

-- what follows from a vector
further_at : (said : Further) (lines : List LineRecord) → lines ≡ record_of.Further said ∷ [] → AreAt lines
further_at said lines is = subst AreAt (sym is) (All-cons IsAtItsEnd (record_of.Further said) [] tt (All-nil IsAtItsEnd))

keys_at : (snid : List ℕ) (vectors : List AuthVector) → AreAt (map (kasme_line snid) vectors)
keys_at snid vectors = All-map IsAtItsEnd (kasme_line snid) vectors (λ k d within. tt)

judged_at : (l : FivegLine) (home : HomeKeys) (device : DeviceKeys) (answer : GiveVerdict) → AreAt (judged_lines l home device answer)
judged_at l home device given.Accepted = by l.hxres
  where
    last : LineRecord
    last = record_of.Further (further.Fiveg l.sub (outcome_of home device (turned l.bit device.res_star)))

    by : (told : Bool) → AreAt (hxres_lines told home ++ last ∷ [])
    by true =
        All-append IsAtItsEnd (hxres_lines true home) (last ∷ []) (further_at _ (hxres_lines true home) refl) (further_at _ (last ∷ []) refl)
    by false = further_at _ (last ∷ []) refl
judged_at l home device (given.Sync sqn_ms) = All-nil IsAtItsEnd
judged_at l home device given.Absent = All-nil IsAtItsEnd

authenticates_at : (set : Setting) (before : Before) (l : FivegLine) (row : Row) (n : ℕ) (lines : List LineRecord)
    → Authenticates set before l row n lines → AreAt lines
authenticates_at set before l row n lines is =
    subst AreAt (sym is.lines_are)
    (All-append IsAtItsEnd is.front is.more (give_at set before l.sub n is.front is.gives)
    (subst AreAt (sym is.judged)
    (judged_at l (home_of (vector_of_row set row l.sub n) l.home) (device_of_row row n (rand_of set.key l.sub n) l.device) is.gives.answer)))

fiveg_at : (set : Setting) (before : Before) (l : FivegLine) (n : ℕ) (lines : List LineRecord) → FivegFollows set before l n lines → AreAt lines
fiveg_at set before l n lines f = by (is_separated (vector_of_row set f.row l.sub n).autn) f.follows
  where
    by : (separated : Bool) → AuthenticatesIf separated set before l f.row n lines → AreAt lines
    by false is = further_at (further.Fiveg l.sub fiveg.NoSeparation) lines is
    by true is = authenticates_at set before l f.row n lines is

-- what the events of a line for sites give
lease_at : (set : Setting) (sub size : ℕ) (found : Option Judged) (lines : List LineRecord) → LeaseGives set sub size found lines → AreAt lines
lease_at set sub size None lines gives = none_at lines gives
lease_at set sub size (Some (judged.Again g)) lines gives = none_at lines gives
lease_at set sub size (Some (judged.Old last)) lines gives = none_at lines gives
lease_at set sub size (Some judged.New) lines gives = draw_at set sub size lines gives

site_event_at : (set : Setting) (sub size : ℕ) (w : Network) (e : SiteEvent) (lines : List LineRecord) (turn : SitesTurn)
    → SiteEventGives set sub size w e lines turn → AreAt lines
site_event_at set sub size w e lines turn gives =
    subst AreAt (sym gives.lines_are)
    (All-append IsAtItsEnd gives.drawn (record_of.Further (further.Sites sub (note_of w e turn)) ∷ [])
    (lease_at set sub size (judgement_in w (event_of w e)) gives.drawn gives.draws)
    (further_at (further.Sites sub (note_of w e turn)) _ refl))

sites_at : (set : Setting) (sub size : ℕ) (w : Network) (events : List SiteEvent) (lines : List LineRecord) (turns : List SitesTurn)
    → SitesGo set sub size w events lines turns → AreAt lines
sites_at set sub size w [] lines turns go = none_at lines go.0
sites_at set sub size w (e ∷ events) lines [] go = absurd go
sites_at set sub size w (e ∷ events) lines (turn ∷ turns) (front, rest, parts, here, more) =
    subst AreAt (sym parts)
    (All-append IsAtItsEnd front rest (site_event_at set sub size w e front turn here)
    (sites_at set sub size (after_event w turn.event turn.numbers turn.end) events rest turns more))

-- what a line for a session of EAP-SIM gives
sim_at : (set : Setting) (l : SimValue) (lines : List LineRecord) → SimGives set l lines → AreAt lines
sim_at set l lines gives =
    subst AreAt (sym gives.lines_are)
    (All-append IsAtItsEnd gives.drawn gives.rest (draw_at set l.sub l.count gives.drawn gives.draws)
    (by (length (numbers_of l.sub gives.drawn) == l.count) gives.follows))
  where
    by : (all : Bool) → SimFollowsIf all set l (numbers_of l.sub gives.drawn) gives.rest → AreAt gives.rest
    by false none = none_at gives.rest none
    by true is =
        subst AreAt (sym is.lines_are) (All-map IsAtItsEnd (λ note. record_of.Further (further.Sim l.sub note)) is.notes (λ k d within. tt))

line_at : (set : Setting) (before : Before) (net : Net) (asked : Line) (lines : List LineRecord) (next : Net) → LineGives set before net asked lines next → AreAt lines
line_at set before net (line.Draw sub count) lines next gives = draw_at set sub count lines gives.0
line_at set before net (line.Sync sub report count) lines next gives =
    let did = gives.0 in
    subst AreAt (sym did.lines_are)
    (All-cons IsAtItsEnd (record_of.Sync sub did.note) did.more tt (vectors_at set sub count did.note did.more did.follows))
line_at set before net (line.Give sub n) lines next gives = give_at set before sub n lines gives.0
line_at set before net (line.Eps sub snid) lines next gives =
    one_at set sub (λ n rest. rest ≡ map (kasme_line snid) (vector_at set sub n)) lines gives.0
    (λ n rest is. subst AreAt (sym is) (keys_at snid (vector_at set sub n)))
line_at set before net (line.Fiveg l) lines next gives =
    one_at set l.sub (λ n rest. FivegFollows set (behind before (record_of.Number l.sub (number.Drew n) ∷ [])) l n rest) lines gives.0
    (λ n rest f. fiveg_at set (behind before (record_of.Number l.sub (number.Drew n) ∷ [])) l n rest f)
line_at set before net (line.Sites l) lines next gives =
    let run = gives.0 in sites_at set l.sub l.size (sites_start l) l.schedule lines run.0 run.1
line_at set before net (line.Sim l) lines next gives = sim_at set l lines gives.0
line_at set before net (line.Session opening) lines next gives = event_at set before net (event.Open opening) lines next gives
line_at set before net (line.Start session) lines next gives = event_at set before net (event.Start session) lines next gives
line_at set before net (line.Deliver session at' packet) lines next gives = event_at set before net (event.Deliver session at' packet) lines next gives
line_at set before net (line.Repeat session) lines next gives = event_at set before net (event.Repeat session) lines next gives
line_at set before net (line.GiveUp session at') lines next gives = event_at set before net (event.GiveUp session at') lines next gives
line_at set before net (line.Plain session) lines next gives = plain_at set before net session lines next gives
line_at set before net (line.Tamper packet place byte) lines next gives = event_at set before net (event.Tamper packet place byte) lines next gives
line_at set before net (line.Cut packet count) lines next gives = event_at set before net (event.Cut packet count) lines next gives

-- ---- jobs and parts

job_at : (set : Setting) (before : Before) (net : Net) (asked : List Line) (records : List LineRecord) (last : Net) → JobGives set before net asked records last → AreAt records
job_at set before net [] records last (none, same) = none_at records none
job_at set before net (first ∷ asked) records last (front, rest, next, parts, here, more) =
    subst AreAt (sym parts) (All-append IsAtItsEnd front rest (line_at set before net first front next here)
    (job_at set (behind before front) next asked rest last more))

jobs_at : (set : Setting) (early : List LineRecord) (kept : List Kept) (beside : List LineRecord) (jobs : List (List Line)) (records : List (List LineRecord)) (nets : List Net)
    → JobsGive set early kept beside jobs records nets → All AreAt records
jobs_at set early kept beside [] records nets (none, same) = subst (All AreAt) (sym none) (All-nil AreAt)
jobs_at set early kept beside (job ∷ jobs) [] nets gives = absurd gives
jobs_at set early kept beside (job ∷ jobs) (lines ∷ records) [] gives = absurd gives
jobs_at set early kept beside (job ∷ jobs) (lines ∷ records) (net ∷ nets) (here, rest) =
    All-cons AreAt lines records (job_at set (record { early = early; beside = beside; own = [] }) (start_of set kept job) job lines net here)
    (jobs_at set early kept (beside ++ lines) jobs records nets rest)

part_at : (set : Setting) (stop : Option Stop) (at : Course) (part : Part) (made : PartRecord) (next : Course) → ServesPart set stop at part made next → PartIsAtItsEnds made
part_at set stop at (part.Round jobs) (made.Round round) next serves =
    jobs_at set at.early at.kept [] jobs round.jobs serves.lawful.nets serves.lawful.given
part_at set stop at (part.Round jobs) made.Restart next serves = absurd serves
part_at set stop at part.Restart (made.Round round) next serves = absurd serves
part_at set stop at part.Restart made.Restart next serves = tt

-- in a lawful transcript what comes of each event is a step of its end
pub lawful_at_ends : (set : Setting) (stop : Option Stop) (at : Course) (parts : List Part) (records : List PartRecord) (last : Course)
    → Leads set stop at parts records last → AreAtTheirEnds records
lawful_at_ends set stop at [] records last (none, same) = subst AreAtTheirEnds (sym none) (All-nil PartIsAtItsEnds)
lawful_at_ends set stop at (part ∷ parts) [] last leads = absurd leads
lawful_at_ends set stop at (part ∷ parts) (first ∷ records) last (next, serves, rest) =
    All-cons PartIsAtItsEnds first records (part_at set (stop_before stop records) at part first next serves)
    (lawful_at_ends set stop next parts records last rest)
