use Rattle.std.proofs.Common.{◌≡◌, ℕ, ◌<◌, ◌≤◌, ◌∙◌, List, length, map, Some, refl, sym, ap, subst}
use Rattle.std.specs.Prelude.{IfSome, Option, slice_set}
use Rattle.auc_server.specs.Asked.{asked_after}
use Rattle.auc_server.specs.declared.setting.HomeRow.{HomeRow}
use Rattle.auc_server.specs.Server.{ServerEnd, challenged_of, resumed_of}
use Rattle.auc_released.specs.declared.numbers.Number.{Number}
use Rattle.auc_world.proofs.AskedLemmas.{asked_listed}
use Rattle.auc_world.proofs.FitLemmas.{turn_fits}
use Rattle.auc_world.proofs.HomeLemmas.{asked_same, challenged_alike, held_alike, resumed_alike}
use Rattle.indexmap.proofs.CallerLemmas.{keys-with_value_at}
use Rattle.indexmap.specs.IndexMap.{get, keys, values}
use Rattle.auc_world.proofs.ServingLemmas.{has_packet, reaches_last, packet_read, serves, serves_nobody, serves_now}
use Rattle.auc_world.proofs.WorldLemmas.{kept_alike, kept_homes, kept_session, of_all, on_error, same_session, served_states, served_there, set_same, values_set}
use Rattle.auc_world.specs.Came.{vector_sent}
use Rattle.auc_world.specs.InnerWorld.{IsKept, is_key, number_after, state_of}
use Rattle.auc_world.specs.World.{AreHomes, HasHeld, WorldState}
use Rattle.auc_record.specs.declared.event.Note.{Note}
use Rattle.auc_world.specs.declared.net.SentPacket.{SentPacket}
use Rattle.auc_world.specs.declared.net.Session.{Session}
use Rattle.auc_world.proofs.world.World.to_server.Goals as goal

pub invariant_of-self-in_default : goal.invariant_of-self-in_default
invariant_of-self-in_default g c =
    let inside = c.self.inside in
    let session = c.index_mut-session.result.now in
    kept_session (keys inside.sessions) (get is_key inside.places) inside.packets.items (values inside.sessions) inside.released.items inside.homes.items inside.broken inside.devices.items c.self.invariant
    _ _ _ _ _ c.args.place session session (keys-with_value_at inside.sessions c.args.place session) (values_set inside.sessions.entries c.args.place session) c.index_mut-session.ensures.value refl refl
    (of_all (λ (s : Session). HasHeld inside.homes.items s.server) (values inside.sessions) c.args.place session c.self.invariant.world.held c.index_mut-session.ensures.value)

pub returns-in_default-clause-served : goal.returns-in_default-clause-served
returns-in_default-clause-served g c =
    let inside = c.self.inside in
    let session = c.index_mut-session.result.now in
    let last : c.args.packet ≤ length inside.packets.items = subst (λ (w : WorldState). c.args.packet ≤ length w.net.packets) (sym c.self.view_is) c.requires.reached.last in
    let there = has_packet inside.packets.items c.args.packet c.requires.reached.first last in
    let same : state_of c.make_places.new.packets.items _ c.make_places.new.released.items inside.homes.items inside.broken inside.devices.items
    ≡ state_of inside.packets.items (values inside.sessions) inside.released.items inside.homes.items inside.broken inside.devices.items
    = served_states _ inside.packets.items _ (values inside.sessions) _ inside.released.items _ inside.homes.items inside.broken inside.devices.items
    c.in_ok-make_places.ensures.packets (values_set inside.sessions.entries c.args.place session ∙ set_same (values inside.sessions) c.args.place session c.index_mut-session.ensures.value)
    c.in_ok-make_places.ensures.released refl in
    serves_now g.C.Centre.goes g.C.Centre.kept g.C.Centre.top c.args.set.now inside.packets.items (values inside.sessions) inside.released.items inside.homes.items inside.broken inside.devices.items
    c.args.place c.args.packet session there.sent c.index_mut-session.ensures.value there.of_number c.args.self.now c.self.view_is _ c.args.centre.now c.args.centre.now _
    (serves_nobody g.C.Centre.goes g.C.Centre.kept g.C.Centre.top c.args.set.now inside.packets.items (values inside.sessions) inside.released.items inside.homes.items inside.broken inside.devices.items
    c.args.place c.args.packet session there.sent c.args.centre.now g.met.C.Centre.stays c.in_default.is _ same)

pub serve-requires : goal.serve-requires
serve-requires g c =
    let inside = c.self.inside in
    let session = c.index_mut-session.result.now in
    served_there c.args.set.now.rows _ _ inside.homes.items session c.in-Some.server c.in-Some.is
    (of_all (λ (s : Session). HasHeld inside.homes.items s.server) (values inside.sessions) c.args.place session c.self.invariant.world.held c.index_mut-session.ensures.value)
    (subst (λ (w : WorldState). AreHomes c.args.set.now.rows (g.C.Centre.subs c.args.centre.now) (g.C.Centre.top c.args.centre.now) w.net.homes) (sym c.self.view_is) c.requires.homes)

pub invariant_of-self-in_err-served : goal.invariant_of-self-in_err-served
invariant_of-self-in_err-served g c =
    let inside = c.self.inside in
    let session = c.index_mut-session.result.now in
    let same : Session = record session { server = Some c.serve.new.server } in
    kept_homes _ _ _ _ _ inside.homes.items _ _ _ c.in_err-served.ensures.homes
    (kept_session (keys inside.sessions) (get is_key inside.places) inside.packets.items (values inside.sessions) inside.released.items inside.homes.items inside.broken inside.devices.items c.self.invariant
    _ _ _ _ _ c.args.place session same (keys-with_value_at inside.sessions c.args.place same) (values_set inside.sessions.entries c.args.place same) c.index_mut-session.ensures.value refl refl
    (subst (λ (t : ServerEnd). HasHeld inside.homes.items (Some t)) (sym c.in_err-served.ensures.server)
    (subst (HasHeld inside.homes.items) c.in-Some.is (of_all (λ (s : Session). HasHeld inside.homes.items s.server) (values inside.sessions) c.args.place session c.self.invariant.world.held c.index_mut-session.ensures.value))))

pub returns-in_err-served-clause-world : goal.returns-in_err-served-clause-world
returns-in_err-served-clause-world g c =
    let inside = c.self.inside in
    let session = c.index_mut-session.result.now in
    let same : Session = record session { server = Some c.serve.new.server } in
    on_error _ _ (served_states _ inside.packets.items _ (values inside.sessions) _ inside.released.items _ inside.homes.items inside.broken inside.devices.items
    c.in_ok-make_places.ensures.packets
    (values_set inside.sessions.entries c.args.place same ∙ ap (slice_set (values inside.sessions) c.args.place) (same_session session c.in-Some.server c.serve.new.server c.in-Some.is c.in_err-served.ensures.server)
    ∙ set_same (values inside.sessions) c.args.place session c.index_mut-session.ensures.value)
    c.in_ok-make_places.ensures.released c.in_err-served.ensures.homes ∙ c.self.view_is)

pub invariant_of-self-2 : goal.invariant_of-self-2
invariant_of-self-2 g c =
    let inside = c.self.inside in
    let session = c.index_mut-session.result.now in
    let new : Session = record session { server = Some c.serve.new.server } in
    let held_before : HasHeld inside.homes.items (Some c.in-Some.server) = subst (HasHeld inside.homes.items) c.in-Some.is
    (of_all (λ (s : Session). HasHeld inside.homes.items s.server) (values inside.sessions) c.args.place session c.self.invariant.world.held c.index_mut-session.ensures.value) in
    let step = c.in_ok-served.ensures.step in
    let fits = turn_fits c.args.set.now _ c.in-Some.server c.serve.new.server step.seen step.reply c.in_ok-served.served.turn step.same held_before.2 in
    kept_alike _ _ _ _ _ inside.homes.items _ _ _ c.in_ok-served.ensures.same
    (kept_session (keys inside.sessions) (get is_key inside.places) inside.packets.items (values inside.sessions) inside.released.items inside.homes.items inside.broken inside.devices.items c.self.invariant
    _ _ _ _ _ c.args.place session new (keys-with_value_at inside.sessions c.args.place new) (values_set inside.sessions.entries c.args.place new) c.index_mut-session.ensures.value refl refl
    (held_alike c.serve.new.homes.items inside.homes.items (Some c.serve.new.server) (sym c.in_ok-served.ensures.same) (c.in_ok-served.ensures.held, c.in_ok-served.ensures.resumed, fits)))

pub returns-clause-served : goal.returns-clause-served
returns-clause-served g c =
    let inside = c.self.inside in
    let session = c.index_mut-session.result.now in
    let new : Session = record session { server = Some c.serve.new.server } in
    let held_before : HasHeld inside.homes.items (Some c.in-Some.server) = subst (HasHeld inside.homes.items) c.in-Some.is
    (of_all (λ (s : Session). HasHeld inside.homes.items s.server) (values inside.sessions) c.args.place session c.self.invariant.world.held c.index_mut-session.ensures.value) in
    let last : c.args.packet ≤ length inside.packets.items = subst (λ (w : WorldState). c.args.packet ≤ length w.net.packets) (sym c.self.view_is) c.requires.reached.last in
    let here = packet_read inside.packets.items c.make_places.new.packets.items c.args.packet c.index.result.now c.in_ok-make_places.ensures.packets c.requires.reached.first last c.index.ensures in
    serves_now g.C.Centre.goes g.C.Centre.kept g.C.Centre.top c.args.set.now inside.packets.items (values inside.sessions) inside.released.items inside.homes.items inside.broken inside.devices.items
    c.args.place c.args.packet session c.index.result.now c.index_mut-session.ensures.value here c.args.self.now c.self.view_is _ c.args.centre.now c.serve.new.centre _
    (serves g.C.Centre.goes g.C.Centre.kept g.C.Centre.top c.args.set.now inside.packets.items (values inside.sessions) inside.released.items inside.homes.items inside.broken inside.devices.items
    c.args.place c.args.packet session c.index.result.now c.in-Some.server c.serve.new.server c.in_ok-served.served.turn c.args.centre.now c.serve.new.centre c.as_slice-bytes.result.now
    c.in-Some.is c.as_slice-bytes.ensures c.serve.new.homes.items c.in_ok-served.ensures.step c.in_ok-served.ensures.same held_before.2
    c.make_places.new.packets.items c.deref.result.now c.post_served.new.packets.items _ c.make_places.new.released.items c.release.new.released.items c.as_slice.result.now c.serve.new.homes.items
    c.judged-self-inside.result c.in_ok-served.served.inputs c.in_ok-served.served.before c.in_ok-served.served.sent c.asked-asked.result (number_after c.make_places.new.packets.items c.in_ok-served.served.sent)
    c.in_ok-make_places.ensures.packets (c.deref.ensures.value ∙ c.in_ok-make_places.ensures.packets) c.in_ok-make_places.ensures.released c.as_slice.ensures.value refl
    c.in_ok-served.ensures.before c.in_ok-served.ensures.inputs c.in_ok-served.ensures.sent c.post_served.ensures.posted refl c.asked-asked.ensures c.release.ensures c.judged-self-inside.ensures
    (values_set inside.sessions.entries c.args.place new) c.vector_sent-vector.result (c.vector_sent-vector.ensures ∙ ap (vector_sent c.in_ok-served.served.turn.notes.number) c.challenged.ensures)
    c.post_served.result c.post_served.ensures.note)

pub returns-clause-asked : goal.returns-clause-asked
returns-clause-asked g c =
    let inside = c.self.inside in
    let notes = c.in_ok-served.served.turn.notes in
    let homes = subst (λ (w : WorldState). AreHomes c.args.set.now.rows (g.C.Centre.subs c.args.centre.now) (g.C.Centre.top c.args.centre.now) w.net.homes) (sym c.self.view_is) c.requires.homes in
    let asked : c.post_served.result.asked ≡ asked_after c.args.set.now inside.homes.items c.serve.new.server notes.resync notes.number =
    ap (λ (n : Note). n.asked) c.post_served.ensures.note ∙ c.asked-asked.ensures
    ∙ ap (λ (hs : List HomeRow). asked_after c.args.set.now hs c.serve.new.server notes.resync notes.number) c.as_slice.ensures.value
    ∙ asked_same c.args.set.now inside.homes.items c.serve.new.homes.items c.serve.new.server notes.resync notes.number c.in_ok-served.ensures.same in
    subst (λ (o : Option ℕ). IfSome o (λ sub. sub < length c.args.set.now.rows)) (sym asked)
    (asked_listed c.args.set.now (g.C.Centre.subs c.args.centre.now) (g.C.Centre.top c.args.centre.now) inside.homes.items c.serve.new.server notes.resync notes.number homes
    (challenged_alike c.serve.new.homes.items inside.homes.items (challenged_of c.serve.new.server) (sym c.in_ok-served.ensures.same) c.in_ok-served.ensures.held)
    (resumed_alike c.serve.new.homes.items inside.homes.items (resumed_of c.serve.new.server) (sym c.in_ok-served.ensures.same) c.in_ok-served.ensures.resumed))

pub returns-clause-homes : goal.returns-clause-homes
returns-clause-homes g c =
    let inside = c.self.inside in
    c.in_ok-served.ensures.same ∙ ap (λ (w : WorldState). map (λ (home : HomeRow). home.sub) w.net.homes) c.self.view_is

-- ---- the parts that stay

pub invariant_of-self : goal.invariant_of-self
invariant_of-self g c =
    let inside = c.self.inside in
    subst (λ (released : List Number). IsKept (keys inside.sessions) (get is_key inside.places) (state_of c.make_places.new.packets.items (values inside.sessions) released inside.homes.items inside.broken inside.devices.items))
    (sym c.in_err-make_places.ensures.released)
    (subst (λ (packets : List SentPacket). IsKept (keys inside.sessions) (get is_key inside.places) (state_of packets (values inside.sessions) inside.released.items inside.homes.items inside.broken inside.devices.items))
    (sym c.in_err-make_places.ensures.packets) c.self.invariant)

pub returns-in_err-make_places-clause-homes : goal.returns-in_err-make_places-clause-homes
returns-in_err-make_places-clause-homes g c = ap (λ (w : WorldState). map (λ (home : HomeRow). home.sub) w.net.homes) c.self.view_is

pub returns-in_err-make_places-clause-devices : goal.returns-in_err-make_places-clause-devices
returns-in_err-make_places-clause-devices g c = ap (λ (w : WorldState). w.net.devices) c.self.view_is

pub returns-in_default-clause-homes : goal.returns-in_default-clause-homes
returns-in_default-clause-homes g c = ap (λ (w : WorldState). map (λ (home : HomeRow). home.sub) w.net.homes) c.self.view_is

pub returns-in_default-clause-devices : goal.returns-in_default-clause-devices
returns-in_default-clause-devices g c = ap (λ (w : WorldState). w.net.devices) c.self.view_is

pub returns-in_err-served-clause-devices : goal.returns-in_err-served-clause-devices
returns-in_err-served-clause-devices g c = ap (λ (w : WorldState). w.net.devices) c.self.view_is

pub returns-clause-devices : goal.returns-clause-devices
returns-clause-devices g c = ap (λ (w : WorldState). w.net.devices) c.self.view_is

pub returns-in_err-served-clause-homes : goal.returns-in_err-served-clause-homes
returns-in_err-served-clause-homes g c =
    ap (map (λ (home : HomeRow). home.sub)) c.in_err-served.ensures.homes ∙ ap (λ (w : WorldState). map (λ (home : HomeRow). home.sub) w.net.homes) c.self.view_is

pub returns-in_err-make_places-clause-world : goal.returns-in_err-make_places-clause-world
returns-in_err-make_places-clause-world g c =
    let inside = c.self.inside in
    on_error _ _ (served_states _ inside.packets.items _ (values inside.sessions) _ inside.released.items _ inside.homes.items inside.broken inside.devices.items c.in_err-make_places.ensures.packets refl c.in_err-make_places.ensures.released refl ∙ c.self.view_is)

-- ---- the packet that is delivered

pub judged-self-inside-requires : goal.judged-self-inside-requires
judged-self-inside-requires g c =
    let last : c.args.packet ≤ length c.self.inside.packets.items = subst (λ (w : WorldState). c.args.packet ≤ length w.net.packets) (sym c.self.view_is) c.requires.reached.last in
    record { first = c.requires.reached.first; last = reaches_last c.args.packet c.deref.result.now c.self.inside.packets.items (c.deref.ensures.value ∙ c.in_ok-make_places.ensures.packets) last }
