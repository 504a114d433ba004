-- For the rounds: the lines of a lawful round name subscribers alone.
use Rattle.std.proofs.Common.{◌≡◌, ℕ, zero, suc, ◌<◌, List, [], ◌∷◌, ◌++◌, length, ◌==◌, All, Bool, true, false, map, Option, Some, None, arith}
use Rattle.std.specs.Prelude.{slice_get}
use Rattle.std.proofs.lemmas.List.Elements.{All-nil, All-cons, All-append, All-same}
use Rattle.auc_5g.specs.Keys.{home_of, standard_of}
use Rattle.auc_5g.specs.declared.device_keys.DeviceKeys.{DeviceKeys}
use Rattle.auc_5g.specs.declared.home_keys.HomeKeys.{HomeKeys}
use Rattle.auc_jobs.specs.Serving.{IsKnownLine, AreAllKnown}
use Rattle.auc_lines.specs.Sim.{SimValue}
use Rattle.auc_lines.specs.declared.part.End.{End}
use Rattle.auc_lines.specs.declared.part.End.TheVariants as end
use Rattle.auc_lines.specs.declared.part.FivegLine.{FivegLine}
use Rattle.auc_lines.specs.declared.part.Line.{Line}
use Rattle.auc_lines.specs.declared.part.Line.TheVariants as line
use Rattle.auc_lines.specs.declared.sites.SiteEvent.{SiteEvent}
use Rattle.auc_lines.specs.declared.part.Report.{Report}
use Rattle.auc_random.specs.Random.{rand_of}
use Rattle.auc_request.specs.Request.{is_separated}
use Rattle.auc_sites.specs.Network.{Network, SitesTurn, after_event}
use Rattle.auc_sites.specs.Run.{judgement_in}
use Rattle.auc_sites.specs.declared.master.Judged.{Judged}
use Rattle.auc_sites.specs.declared.master.Judged.TheVariants as judged
use Rattle.auc_vector.specs.declared.sim_note.SimNote.{SimNote}
use Rattle.auc_server.specs.Server.{ServerEnd}
use Rattle.auc_server.specs.declared.options.ServerOptions.{ServerOptions}
use Rattle.auc_vector.specs.Notes.{Asking}
use Rattle.auc_vector.specs.declared.notes.Notes.{Notes}
use Rattle.auc_vector.specs.declared.notes.NumberNote.TheVariants as number
use Rattle.auc_vector.specs.declared.notes.ResyncNote.{ResyncNote}
use Rattle.auc_vector.specs.declared.notes.ResyncNote.TheVariants as resync
use Rattle.auc_world.specs.Came.{asked_sub, asking_at, asking_in, asking_of, came, came_at_peer, came_at_server, came_changed, came_delivered, came_given_up, came_in, came_opened, came_repeated, came_started, server_came_to_give_up, session_of}
use Rattle.auc_peer.specs.Subscription.{Subscription}
use Rattle.auc_record.specs.Event.{asked_in}
use Rattle.auc_vector.specs.declared.parts.Vector.{Vector as AuthVector}
use Rattle.auc_record.specs.VectorAt.{vector_at, vector_of_row}
use Rattle.auc_record.specs.declared.further.FivegOutcome.TheVariants as fiveg
use Rattle.auc_record.specs.declared.further.Further.TheVariants as further
use Rattle.auc_record.specs.declared.record.GiveVerdict.{GiveVerdict}
use Rattle.auc_record.specs.declared.record.GiveVerdict.TheVariants as given
use Rattle.auc_world.specs.Given.{AuthenticatesIf, Before, EventGives, FivegFollows, GiveGives, device_of_row, hxres_lines, judged_lines, kasme_line, outcome_of, turned, IsCentreAsked, JobGives, JobsGive, LineGives, PlainGives, RelayGives, SyncGives, VectorsFollow, behind, packet_of}
use Rattle.auc_record.specs.Draws.{DrawGives, OneGives}
use Rattle.auc_world.specs.Happened.{Delivery, ToldEvent, changed_in, delivery_in}
use Rattle.auc_record.specs.Lines.{numbers_of}
use Rattle.auc_world.specs.Net.{Net, device_place, other, packet_at, session_place}
use Rattle.auc_record.specs.Record.{IsBelow, subscriber_of}
use Rattle.auc_subs.specs.Setting.{Setting}
use Rattle.auc_world.specs.Sim.{SimFollowsIf, SimGives}
use Rattle.auc_world.specs.Sites.{LeaseGives, SiteEventGives, SitesGo, event_of, note_of, sites_start}
use Rattle.auc_world.specs.Start.{Kept, start_of}
use Rattle.auc_record.specs.declared.event.Event.{Event}
use Rattle.auc_record.specs.declared.event.Event.TheVariants as event
use Rattle.auc_world.specs.declared.net.SentPacket.{SentPacket}
use Rattle.auc_world.specs.declared.net.Session.{Session}
use Rattle.auc_record.specs.declared.record.LineRecord.{LineRecord}
use Rattle.auc_record.specs.declared.record.LineRecord.TheVariants as record_of

-- a line names one of so many subscribers, if it names one
abbrev pub IsNamed : ℕ → LineRecord → Type 0
IsNamed count line = IsBelow count (subscriber_of line)

-- no lines
none_named : (count : ℕ) (lines : List LineRecord) → lines ≡ [] → All (IsNamed count) lines
none_named count lines none = All-same (IsNamed count) lines [] none (All-nil (IsNamed count))

-- ---- draws and resynchronisations

-- what a request gives
draw_named : (set : Setting) (sub count : ℕ) (lines : List LineRecord) → sub < length set.rows → DrawGives set sub count lines → All (IsNamed (length set.rows)) lines
draw_named set sub zero lines inside gives = none_named (length set.rows) lines gives
draw_named set sub (suc count) [] inside gives = absurd gives
draw_named set sub (suc count) (record_of.Number s (number.Drew n) ∷ lines) inside (same, is, more) =
    All-cons (IsNamed (length set.rows)) (record_of.Number s (number.Drew n)) lines (omega (arith, same, inside)) (draw_named set sub count lines inside more)
draw_named set sub (suc count) (record_of.Number s (number.Withheld n stop) ∷ lines) inside (same, first, last, none) =
    All-cons (IsNamed (length set.rows)) (record_of.Number s (number.Withheld n stop)) lines (omega (arith, same, inside)) (none_named (length set.rows) lines none)
draw_named set sub (suc count) (record_of.Number s (number.Exhausted word) ∷ lines) inside (same, spent, none) =
    All-cons (IsNamed (length set.rows)) (record_of.Number s (number.Exhausted word)) lines (omega (arith, same, inside)) (none_named (length set.rows) lines none)
draw_named set sub (suc count) (record_of.Sync s note ∷ lines) inside gives = absurd gives
draw_named set sub (suc count) (record_of.Give s n answer ∷ lines) inside gives = absurd gives
draw_named set sub (suc count) (record_of.Further said ∷ lines) inside gives = absurd gives
draw_named set sub (suc count) (record_of.Event r ∷ lines) inside gives = absurd gives

-- a request for one vector, and what follows it
one_named : (set : Setting) (sub : ℕ) (Follows : ℕ → List LineRecord → Type 0) (lines : List LineRecord) → sub < length set.rows → OneGives set sub Follows lines
    → ((n : ℕ) (rest : List LineRecord) → Follows n rest → All (IsNamed (length set.rows)) rest) → All (IsNamed (length set.rows)) lines
one_named set sub Follows [] inside gives named = absurd gives
one_named set sub Follows (record_of.Number s (number.Drew n) ∷ lines) inside (same, is, more) named =
    All-cons (IsNamed (length set.rows)) (record_of.Number s (number.Drew n)) lines (omega (arith, same, inside)) (named n lines more)
one_named set sub Follows (record_of.Number s (number.Withheld n stop) ∷ lines) inside (same, first, last, none) named =
    All-cons (IsNamed (length set.rows)) (record_of.Number s (number.Withheld n stop)) lines (omega (arith, same, inside)) (none_named (length set.rows) lines none)
one_named set sub Follows (record_of.Number s (number.Exhausted word) ∷ lines) inside (same, spent, none) named =
    All-cons (IsNamed (length set.rows)) (record_of.Number s (number.Exhausted word)) lines (omega (arith, same, inside)) (none_named (length set.rows) lines none)
one_named set sub Follows (record_of.Sync s note ∷ lines) inside gives named = absurd gives
one_named set sub Follows (record_of.Give s n answer ∷ lines) inside gives named = absurd gives
one_named set sub Follows (record_of.Further said ∷ lines) inside gives named = absurd gives
one_named set sub Follows (record_of.Event r ∷ lines) inside gives named = absurd gives

-- the keys of vectors name nobody
keys_named : (count : ℕ) (snid : List ℕ) (vectors : List AuthVector) → All (IsNamed count) (map (kasme_line snid) vectors)
keys_named count snid [] = All-nil (IsNamed count)
keys_named count snid (v ∷ vectors) = All-cons (IsNamed count) (kasme_line snid v) (map (kasme_line snid) vectors) tt (keys_named count snid vectors)

-- a 5G authentication names its subscriber
judged_named : (count : ℕ) (l : FivegLine) (home : HomeKeys) (device : DeviceKeys) (answer : GiveVerdict) → l.sub < count → All (IsNamed count) (judged_lines l home device answer)
judged_named count l home device given.Accepted inside = by l.hxres
  where
    last : LineRecord
    last = record_of.Further (further.Fiveg l.sub (outcome_of home device (turned l.bit device.res_star)))

    by : (told : Bool) → All (IsNamed count) (hxres_lines told home ++ last ∷ [])
    by true =
        All-cons (IsNamed count) (record_of.Further (further.HxresStar (standard_of home.rand home.xres_star))) (last ∷ []) tt (All-cons (IsNamed count) last [] inside (All-nil (IsNamed count)))
    by false = All-cons (IsNamed count) last [] inside (All-nil (IsNamed count))
judged_named count l home device (given.Sync sqn_ms) inside = All-nil (IsNamed count)
judged_named count l home device given.Absent inside = All-nil (IsNamed count)

-- a presented vector
give_named : (set : Setting) (before : Before) (sub n : ℕ) (lines : List LineRecord) → sub < length set.rows → GiveGives set before sub n lines → All (IsNamed (length set.rows)) lines
give_named set before sub n lines inside gives =
    All-same (IsNamed (length set.rows)) lines (record_of.Give sub n gives.answer ∷ []) gives.lines_are
    (All-cons (IsNamed (length set.rows)) (record_of.Give sub n gives.answer) [] inside (All-nil (IsNamed (length set.rows))))

fiveg_named : (set : Setting) (before : Before) (l : FivegLine) (n : ℕ) (lines : List LineRecord) → l.sub < length set.rows → FivegFollows set before l n lines
    → All (IsNamed (length set.rows)) lines
fiveg_named set before l n lines inside f = by (is_separated (vector_of_row set f.row l.sub n).autn) f.follows
  where
    by : (separated : Bool) → AuthenticatesIf separated set before l f.row n lines → All (IsNamed (length set.rows)) lines
    by false is =
        let last = record_of.Further (further.Fiveg l.sub fiveg.NoSeparation) in
        All-same (IsNamed (length set.rows)) lines (last ∷ []) is (All-cons (IsNamed (length set.rows)) last [] inside (All-nil (IsNamed (length set.rows))))
    by true is =
        let judged = judged_lines l (home_of (vector_of_row set f.row l.sub n) l.home) (device_of_row f.row n (rand_of set.key l.sub n) l.device) is.gives.answer in
        All-same (IsNamed (length set.rows)) lines (is.front ++ is.more) is.lines_are
        (All-append (IsNamed (length set.rows)) is.front is.more (give_named set before l.sub n is.front inside is.gives)
        (All-same (IsNamed (length set.rows)) is.more judged is.judged
        (judged_named (length set.rows) l (home_of (vector_of_row set f.row l.sub n) l.home) (device_of_row f.row n (rand_of set.key l.sub n) l.device) is.gives.answer inside)))

-- what follows a resynchronisation
follows_named : (set : Setting) (sub count : ℕ) (note : ResyncNote) (lines : List LineRecord) → sub < length set.rows
    → VectorsFollow set sub count note lines → All (IsNamed (length set.rows)) lines
follows_named set sub count (resync.Moved seen seq_ms) lines inside follows = draw_named set sub count lines inside follows
follows_named set sub count (resync.InRange seen seq_ms) lines inside follows = draw_named set sub count lines inside follows
follows_named set sub count (resync.Beyond seen seq_ms) lines inside follows = none_named (length set.rows) lines follows
follows_named set sub count resync.BadAuts lines inside follows = none_named (length set.rows) lines follows

-- what an AUTS gives
sync_named : (set : Setting) (sub : ℕ) (report : Report) (count : ℕ) (lines : List LineRecord) → sub < length set.rows
    → SyncGives set sub report count lines → All (IsNamed (length set.rows)) lines
sync_named set sub report count lines inside gives =
    All-same (IsNamed (length set.rows)) lines (record_of.Sync sub gives.note ∷ gives.more) gives.lines_are
    (All-cons (IsNamed (length set.rows)) (record_of.Sync sub gives.note) gives.more inside
    (follows_named set sub count gives.note gives.more inside gives.follows))

-- ---- sites

-- what is drawn for a lease
lease_named : (set : Setting) (sub size : ℕ) (found : Option Judged) (lines : List LineRecord) → sub < length set.rows → LeaseGives set sub size found lines
    → All (IsNamed (length set.rows)) lines
lease_named set sub size None lines inside none = none_named (length set.rows) lines none
lease_named set sub size (Some (judged.Again g)) lines inside none = none_named (length set.rows) lines none
lease_named set sub size (Some (judged.Old last)) lines inside none = none_named (length set.rows) lines none
lease_named set sub size (Some judged.New) lines inside gives = draw_named set sub size lines inside gives

-- an event of sites names their subscriber
site_event_named : (set : Setting) (sub size : ℕ) (w : Network) (e : SiteEvent) (lines : List LineRecord) (turn : SitesTurn) → sub < length set.rows
    → SiteEventGives set sub size w e lines turn → All (IsNamed (length set.rows)) lines
site_event_named set sub size w e lines turn inside gives =
    let said = record_of.Further (further.Sites sub (note_of w e turn)) in
    All-same (IsNamed (length set.rows)) lines (gives.drawn ++ said ∷ []) gives.lines_are
    (All-append (IsNamed (length set.rows)) gives.drawn (said ∷ [])
    (lease_named set sub size (judgement_in w (event_of w e)) gives.drawn inside gives.draws)
    (All-cons (IsNamed (length set.rows)) said [] inside (All-nil (IsNamed (length set.rows)))))

-- their events, one after the other
sites_named : (set : Setting) (sub size : ℕ) (w : Network) (events : List SiteEvent) (lines : List LineRecord) (turns : List SitesTurn) → sub < length set.rows
    → SitesGo set sub size w events lines turns → All (IsNamed (length set.rows)) lines
sites_named set sub size w [] lines turns inside (none, same) = none_named (length set.rows) lines none
sites_named set sub size w (e ∷ events) lines [] inside go = absurd go
sites_named set sub size w (e ∷ events) lines (turn ∷ turns) inside (front, rest, cut, gives, more) =
    All-same (IsNamed (length set.rows)) lines (front ++ rest) cut
    (All-append (IsNamed (length set.rows)) front rest (site_event_named set sub size w e front turn inside gives)
    (sites_named set sub size (after_event w turn.event turn.numbers turn.end) events rest turns inside more))

-- ---- sessions of EAP-SIM

-- what happens in a session names its subscriber
said_named : (count sub : ℕ) (notes : List SimNote) → sub < count → All (IsNamed count) (map (λ note. record_of.Further (further.Sim sub note)) notes)
said_named count sub [] inside = All-nil (IsNamed count)
said_named count sub (first ∷ notes) inside =
    All-cons (IsNamed count) (record_of.Further (further.Sim sub first)) (map (λ note. record_of.Further (further.Sim sub note)) notes) inside
    (said_named count sub notes inside)

-- what is said if all vectors were released
sim_said_named : (all : Bool) (set : Setting) (l : SimValue) (numbers : List ℕ) (lines : List LineRecord) → l.sub < length set.rows
    → SimFollowsIf all set l numbers lines → All (IsNamed (length set.rows)) lines
sim_said_named false set l numbers lines inside none = none_named (length set.rows) lines none
sim_said_named true set l numbers lines inside is =
    All-same (IsNamed (length set.rows)) lines (map (λ note. record_of.Further (further.Sim l.sub note)) is.notes) is.lines_are
    (said_named (length set.rows) l.sub is.notes inside)

-- what a line gives
sim_named : (set : Setting) (l : SimValue) (lines : List LineRecord) → l.sub < length set.rows → SimGives set l lines → All (IsNamed (length set.rows)) lines
sim_named set l lines inside gives =
    All-same (IsNamed (length set.rows)) lines (gives.drawn ++ gives.rest) gives.lines_are
    (All-append (IsNamed (length set.rows)) gives.drawn gives.rest (draw_named set l.sub l.count gives.drawn inside gives.draws)
    (sim_said_named (length (numbers_of l.sub gives.drawn) == l.count) set l (numbers_of l.sub gives.drawn) gives.rest inside gives.follows))

-- ---- events

-- for whom the centre was asked
asked_below : (set : Setting) (asking : Option Asking) (notes : Notes) → IsCentreAsked set asking notes → IsBelow (length set.rows) (asked_sub asking)
asked_below set None notes asks = tt
asked_below set (Some asking) notes asks = asks.known

server_below : (set : Setting) (w : Net) (told : ToldEvent) (server : Option ServerEnd) → IsCentreAsked set (asking_at set w told server) told.notes
    → IsBelow (length set.rows) (asked_in (came_at_server set w told server))
server_below set w told None asks = tt
server_below set w told (Some s) asks = asked_below set (asking_at set w told (Some s)) told.notes asks

peer_below : (set : Setting) (w : Net) (d : Delivery) (told : ToldEvent) (device : Option Subscription) → IsBelow (length set.rows) (asked_in (came_at_peer set w d told device))
peer_below set w d told None = tt
peer_below set w d told (Some device) = tt

delivered_below : (set : Setting) (w : Net) (at' : End) (told : ToldEvent) (packet : Option SentPacket) (d : Option Delivery)
    → IsCentreAsked set (asking_in set w at' told d) told.notes → IsBelow (length set.rows) (asked_in (came_delivered set w at' told packet d))
delivered_below set w at' told None d asks = tt
delivered_below set w at' told (Some sent) None asks = tt
delivered_below set w end.Server told (Some sent) (Some d) asks = server_below set w told d.session.server asks
delivered_below set w end.Peer told (Some sent) (Some d) asks = peer_below set w d told (slice_get w.devices d.session.device)

opened_below : (count : ℕ) (first place : Option ℕ) → IsBelow count (asked_in (came_opened first place))
opened_below count (Some first) place = tt
opened_below count None None = tt
opened_below count None (Some place) = tt

started_below : (count : ℕ) (w : Net) (options : ServerOptions) (server : Option ServerEnd) → IsBelow count (asked_in (came_started w options server))
started_below count w options None = tt
started_below count w options (Some s) = tt

start_below : (count : ℕ) (w : Net) (session : Option Session) → IsBelow count (asked_in (came_in (λ s. came_started w s.options s.server) session))
start_below count w None = tt
start_below count w (Some s) = started_below count w s.options s.server

repeated_below : (count : ℕ) (w : Net) (server : Option ServerEnd) → IsBelow count (asked_in (came_repeated w server))
repeated_below count w None = tt
repeated_below count w (Some s) = tt

repeat_below : (count : ℕ) (w : Net) (session : Option Session) → IsBelow count (asked_in (came_in (λ s. came_repeated w s.server) session))
repeat_below count w None = tt
repeat_below count w (Some s) = repeated_below count w s.server

given_up_below : (count : ℕ) (w : Net) (server : Option ServerEnd) → IsBelow count (asked_in (server_came_to_give_up w server))
given_up_below count w None = tt
given_up_below count w (Some s) = tt

give_up_below : (count : ℕ) (w : Net) (at' : End) (session : Option Session) → IsBelow count (asked_in (came_in (came_given_up w at') session))
give_up_below count w at' None = tt
give_up_below count w end.Server (Some s) = given_up_below count w s.server
give_up_below count w end.Peer (Some s) = tt

changed_below : (count : ℕ) (packets : List SentPacket) (sent : Option SentPacket) (copy : Option (List ℕ)) → IsBelow count (asked_in (came_changed packets sent copy))
changed_below count packets None copy = tt
changed_below count packets (Some sent) None = tt
changed_below count packets (Some sent) (Some bytes) = tt

came_below : (set : Setting) (w : Net) (e : Event) (told : ToldEvent) → IsCentreAsked set (asking_of set w e told) told.notes
    → IsBelow (length set.rows) (asked_in (came set w e told))
came_below set w (event.Open line) told asks = opened_below (length set.rows) (session_place w.sessions line.session) (device_place set.rows w.devices line.sub)
came_below set w (event.Start session) told asks = start_below (length set.rows) w (session_of w session)
came_below set w (event.Deliver session at' packet) told asks = delivered_below set w at' told (packet_at w.packets packet) (delivery_in w session packet) asks
came_below set w (event.Repeat session) told asks = repeat_below (length set.rows) w (session_of w session)
came_below set w (event.GiveUp session at') told asks = give_up_below (length set.rows) w at' (session_of w session)
came_below set w (event.Tamper packet place byte) told asks =
    changed_below (length set.rows) w.packets (packet_at w.packets packet) (changed_in w.packets (event.Tamper packet place byte))
came_below set w (event.Cut packet count) told asks =
    changed_below (length set.rows) w.packets (packet_at w.packets packet) (changed_in w.packets (event.Cut packet count))

-- what an event gives
event_named : (set : Setting) (before : Before) (net : Net) (e : Event) (lines : List LineRecord) (next : Net) → EventGives set before net e lines next
    → All (IsNamed (length set.rows)) lines
event_named set before net e lines next gives =
    let made = record_of.Event (record { event = e; result = came set net e gives.told }) in
    All-same (IsNamed (length set.rows)) lines (made ∷ []) gives.lines_are
    (All-cons (IsNamed (length set.rows)) made []
    (came_below set net e gives.told gives.centre) (All-nil (IsNamed (length set.rows))))

-- a first line, and those after it
first_named : (count : ℕ) (line : LineRecord) (lines : List LineRecord) → All (IsNamed count) (line ∷ []) → All (IsNamed count) lines → All (IsNamed count) (line ∷ lines)
first_named count line lines first rest = All-append (IsNamed count) (line ∷ []) lines first rest

-- what a relay gives
relay_named : (set : Setting) (before : Before) (net : Net) (session : ℕ) (at' : End) (packet : Option ℕ) (lines : List LineRecord) (next : Net)
    → RelayGives set before net session at' packet lines next → All (IsNamed (length set.rows)) lines
relay_named set before net session at' None [] next gives = All-nil (IsNamed (length set.rows))
relay_named set before net session at' None (line ∷ lines) next gives = absurd gives
relay_named set before net session at' (Some packet) [] next gives = absurd gives
relay_named set before net session at' (Some packet) (line ∷ lines) next (mid, gives, more) =
    first_named (length set.rows) line lines (event_named set before net (event.Deliver session at' packet) (line ∷ []) mid gives)
    (relay_named set (behind before (line ∷ [])) mid session (other at') (packet_of line) lines next more)

-- what a plain session gives
plain_named : (set : Setting) (before : Before) (net : Net) (session : ℕ) (lines : List LineRecord) (next : Net)
    → PlainGives set before net session lines next → All (IsNamed (length set.rows)) lines
plain_named set before net session [] next gives = absurd gives
plain_named set before net session (line ∷ lines) next (mid, gives, more) =
    first_named (length set.rows) line lines (event_named set before net (event.Start session) (line ∷ []) mid gives)
    (relay_named set (behind before (line ∷ [])) mid session end.Peer (packet_of line) lines next more)

-- ---- jobs

-- what a line of a job gives
line_named : (set : Setting) (before : Before) (net : Net) (asked : Line) (lines : List LineRecord) (next : Net) → IsKnownLine set.rows asked
    → LineGives set before net asked lines next → All (IsNamed (length set.rows)) lines
line_named set before net (line.Draw sub count) lines next known (gives, same) = draw_named set sub count lines known gives
line_named set before net (line.Sync sub report count) lines next known (gives, same) = sync_named set sub report count lines known.0 gives
line_named set before net (line.Give sub n) lines next known (gives, same) = give_named set before sub n lines known.0 gives
line_named set before net (line.Eps sub snid) lines next known (gives, same) =
    one_named set sub (λ n rest. rest ≡ map (kasme_line snid) (vector_at set sub n)) lines known gives
    (λ n rest is. All-same (IsNamed (length set.rows)) rest (map (kasme_line snid) (vector_at set sub n)) is (keys_named (length set.rows) snid (vector_at set sub n)))
line_named set before net (line.Fiveg l) lines next known (gives, same) =
    one_named set l.sub (λ n rest. FivegFollows set (behind before (record_of.Number l.sub (number.Drew n) ∷ [])) l n rest) lines known.sub gives
    (λ n rest f. fiveg_named set (behind before (record_of.Number l.sub (number.Drew n) ∷ [])) l n rest known.sub f)
line_named set before net (line.Sites l) lines next known ((turns, go), same) =
    sites_named set l.sub l.size (sites_start l) l.schedule lines turns known.0 go
line_named set before net (line.Sim l) lines next known (gives, same) = sim_named set l lines known.0 gives
line_named set before net (line.Session opened) lines next known gives = event_named set before net (event.Open opened) lines next gives
line_named set before net (line.Start session) lines next known gives = event_named set before net (event.Start session) lines next gives
line_named set before net (line.Deliver session at' packet) lines next known gives = event_named set before net (event.Deliver session at' packet) lines next gives
line_named set before net (line.Repeat session) lines next known gives = event_named set before net (event.Repeat session) lines next gives
line_named set before net (line.GiveUp session at') lines next known gives = event_named set before net (event.GiveUp session at') lines next gives
line_named set before net (line.Plain session) lines next known gives = plain_named set before net session lines next gives
line_named set before net (line.Tamper packet place byte) lines next known gives = event_named set before net (event.Tamper packet place byte) lines next gives
line_named set before net (line.Cut packet count) lines next known gives = event_named set before net (event.Cut packet count) lines next gives

-- what a job gives
job_named : (set : Setting) (before : Before) (net : Net) (job : List Line) (lines : List LineRecord) (last : Net) → All (IsKnownLine set.rows) job
    → JobGives set before net job lines last → All (IsNamed (length set.rows)) lines
job_named set before net [] lines last known gives = none_named (length set.rows) lines gives.0
job_named set before net (asked ∷ job) lines last known (front, rest, next, cut, gives, more) =
    All-same (IsNamed (length set.rows)) lines (front ++ rest) cut
    (All-append (IsNamed (length set.rows)) front rest (line_named set before net asked front next (known 0 asked (omega arith)) gives)
    (job_named set (behind before front) next job rest last (λ k d inside. known (suc k) d (omega arith)) more))

-- what the jobs of a round give
pub jobs_named : (set : Setting) (early : List LineRecord) (kept : List Kept) (beside : List LineRecord) (jobs : List (List Line)) (records : List (List LineRecord)) (nets : List Net)
    → AreAllKnown set.rows jobs → JobsGive set early kept beside jobs records nets → All (All (IsNamed (length set.rows))) records
jobs_named set early kept beside [] records nets known gives = All-same (All (IsNamed (length set.rows))) records [] gives.0 (All-nil (All (IsNamed (length set.rows))))
jobs_named set early kept beside (job ∷ jobs) [] nets known gives = absurd gives
jobs_named set early kept beside (job ∷ jobs) (lines ∷ records) [] known gives = absurd gives
jobs_named set early kept beside (job ∷ jobs) (lines ∷ records) (net ∷ nets) known (gives, more) =
    All-cons (All (IsNamed (length set.rows))) lines records
    (job_named set (record { early = early; beside = beside; own = [] }) (start_of set kept job) job lines net (known 0 job (omega arith)) gives)
    (jobs_named set early kept (beside ++ lines) jobs records nets (λ k d inside. known (suc k) d (omega arith)) more)
