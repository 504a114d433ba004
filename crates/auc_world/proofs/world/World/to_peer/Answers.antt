use Rattle.std.proofs.Common.{◌≡◌, ◌≤◌, ◌∙◌, ℕ, List, length, refl, sym, ap, subst}
use Rattle.std.specs.Prelude.{slice_set}
use Rattle.std.proofs.lemmas.Option.{slice_get_past, slice_get_read}
use Rattle.indexmap.proofs.CallerLemmas.{keys-with_value_at}
use Rattle.indexmap.specs.IndexMap.{get, keys, values, with_value_at}
use Rattle.auc_peer.specs.Subscription.{subscription_of}
use Rattle.auc_peer.specs.Turn.{Steps}
use Rattle.auc_peer.specs.declared.device.Device.{Device}
use Rattle.auc_peer.specs.declared.peer.Peer.{Peer}
use Rattle.auc_subs.specs.Setting.{Setting}
use Rattle.auc_world.proofs.AnsweringLemmas.{answers, answers_nobody, answers_now}
use Rattle.auc_world.proofs.ServingLemmas.{has_packet, reaches_last, packet_read}
use Rattle.auc_world.proofs.WorldLemmas.{answered_states, kept_device, kept_session, map_same, of_all, on_error, set_same, values_set}
use Rattle.auc_world.specs.InnerWorld.{IsKept, is_key, number_after, state_of}
use Rattle.auc_world.specs.World.{HasHeld, WorldState}
use Rattle.auc_record.specs.declared.event.Note.{Note}
use Rattle.auc_world.specs.declared.net.SentPacket.{SentPacket}
use Rattle.auc_world.specs.declared.net.Session.{Session}
use Rattle.auc_world.proofs.world.World.to_peer.Goals as goal

pub invariant_of-self-in_default : goal.invariant_of-self-in_default
invariant_of-self-in_default c =
    let inside = c.self.inside in
    let session = c.index_mut-session.result.now in
    kept_session (keys inside.sessions) (get is_key inside.places) inside.packets.items (values inside.sessions) inside.released.items inside.homes.items inside.broken inside.devices.items c.self.invariant
    _ _ _ _ _ c.args.place session session (keys-with_value_at inside.sessions c.args.place session) (values_set inside.sessions.entries c.args.place session) c.index_mut-session.ensures.value refl refl
    (of_all (λ (s : Session). HasHeld inside.homes.items s.server) (values inside.sessions) c.args.place session c.self.invariant.world.held c.index_mut-session.ensures.value)

pub returns-in_default-clause-answered : goal.returns-in_default-clause-answered
returns-in_default-clause-answered c =
    let inside = c.self.inside in
    let session = c.index_mut-session.result.now in
    let last : c.args.packet ≤ length inside.packets.items = subst (λ (w : WorldState). c.args.packet ≤ length w.net.packets) (sym c.self.view_is) c.requires.last in
    let there = has_packet inside.packets.items c.args.packet c.requires.first last in
    let same : state_of c.make_place.new.packets.items (values (with_value_at inside.sessions c.args.place session)) inside.released.items inside.homes.items inside.broken inside.devices.items
    ≡ state_of inside.packets.items (values inside.sessions) inside.released.items inside.homes.items inside.broken inside.devices.items
    = answered_states _ inside.packets.items _ (values inside.sessions) inside.released.items inside.homes.items inside.broken _ inside.devices.items
    c.in_ok-make_place.ensures.same (values_set inside.sessions.entries c.args.place session ∙ set_same (values inside.sessions) c.args.place session c.index_mut-session.ensures.value) refl in
    answers_now inside.packets.items (values inside.sessions) inside.released.items inside.homes.items inside.broken inside.devices.items c.args.place c.args.packet session there.sent c.args.set.now
    c.index_mut-session.ensures.value there.of_number c.args.self.now c.self.view_is _ _
    (λ pasts. answers_nobody inside.packets.items (values inside.sessions) inside.released.items inside.homes.items inside.broken inside.devices.items c.args.place c.args.packet session there.sent c.args.set.now
    (slice_get_past inside.devices.items session.device c.in_default.ensures.item.3) _ same)

pub invariant_of-self-in_err-taken : goal.invariant_of-self-in_err-taken
invariant_of-self-in_err-taken c =
    let inside = c.self.inside in
    let session = c.index_mut-session.result.now in
    let same : Session = record session { peer = c.answer.new.peer } in
    let device = c.in-Some.device.now in
    kept_device (keys (with_value_at inside.sessions c.args.place same)) (get is_key inside.places) c.make_place.new.packets.items (values (with_value_at inside.sessions c.args.place same))
    inside.released.items inside.homes.items inside.broken inside.devices.items
    (kept_session (keys inside.sessions) (get is_key inside.places) inside.packets.items (values inside.sessions) inside.released.items inside.homes.items inside.broken inside.devices.items c.self.invariant
    _ _ _ _ _ c.args.place session same (keys-with_value_at inside.sessions c.args.place same) (values_set inside.sessions.entries c.args.place same) c.index_mut-session.ensures.value refl refl
    (of_all (λ (s : Session). HasHeld inside.homes.items s.server) (values inside.sessions) c.args.place session c.self.invariant.world.held c.index_mut-session.ensures.value))
    session.device device c.answer.new.device
    (slice_get_read inside.devices.items (length inside.devices.items) session.device device refl c.in-Some.ensures.item.3.0 c.in-Some.ensures.value) c.in_err-taken.ensures.subscription

pub returns-in_err-taken-clause-world : goal.returns-in_err-taken-clause-world
returns-in_err-taken-clause-world c =
    let inside = c.self.inside in
    let session = c.index_mut-session.result.now in
    let same : Session = record session { peer = c.answer.new.peer } in
    let device = c.in-Some.device.now in
    let there = slice_get_read inside.devices.items (length inside.devices.items) session.device device refl c.in-Some.ensures.item.3.0 c.in-Some.ensures.value in
    on_error _ _ (answered_states _ inside.packets.items _ (values inside.sessions) inside.released.items inside.homes.items inside.broken _ inside.devices.items
    c.in_ok-make_place.ensures.same
    (values_set inside.sessions.entries c.args.place same ∙ ap (λ (p : Peer). slice_set (values inside.sessions) c.args.place (record session { peer = p })) c.in_err-taken.ensures.peer
    ∙ set_same (values inside.sessions) c.args.place session c.index_mut-session.ensures.value)
    (ap (λ (d : Device). slice_set inside.devices.items session.device d) c.in_err-taken.ensures.device ∙ set_same inside.devices.items session.device device there)
    ∙ c.self.view_is)

pub invariant_of-self-2 : goal.invariant_of-self-2
invariant_of-self-2 c =
    let inside = c.self.inside in
    let session = c.index_mut-session.result.now in
    let new : Session = record session { peer = c.answer.new.peer; peer_keys = c.keys_won-session.result } in
    let device = c.in-Some.device.now in
    kept_device (keys (with_value_at inside.sessions c.args.place new)) (get is_key inside.places) c.post_taken.new.packets.items (values (with_value_at inside.sessions c.args.place new))
    inside.released.items inside.homes.items c.judged-self-inside.result inside.devices.items
    (kept_session (keys inside.sessions) (get is_key inside.places) inside.packets.items (values inside.sessions) inside.released.items inside.homes.items inside.broken inside.devices.items c.self.invariant
    _ _ _ _ _ c.args.place session new (keys-with_value_at inside.sessions c.args.place new) (values_set inside.sessions.entries c.args.place new) c.index_mut-session.ensures.value refl refl
    (of_all (λ (s : Session). HasHeld inside.homes.items s.server) (values inside.sessions) c.args.place session c.self.invariant.world.held c.index_mut-session.ensures.value))
    session.device device c.answer.new.device
    (slice_get_read inside.devices.items (length inside.devices.items) session.device device refl c.in-Some.ensures.item.3.0 c.in-Some.ensures.value) c.in_ok-taken.ensures.subscription

pub returns-clause-answered : goal.returns-clause-answered
returns-clause-answered c =
    let inside = c.self.inside in
    let session = c.index_mut-session.result.now in
    let new : Session = record session { peer = c.answer.new.peer; peer_keys = c.keys_won-session.result } in
    let device = c.in-Some.device.now in
    let there = slice_get_read inside.devices.items (length inside.devices.items) session.device device refl c.in-Some.ensures.item.3.0 c.in-Some.ensures.value in
    let last : c.args.packet ≤ length inside.packets.items = subst (λ (w : WorldState). c.args.packet ≤ length w.net.packets) (sym c.self.view_is) c.requires.last in
    let here = packet_read inside.packets.items c.make_place.new.packets.items c.args.packet c.index.result.now c.in_ok-make_place.ensures.same c.requires.first last c.index.ensures in
    let step = subst (λ (key : List ℕ). Steps key (subscription_of device) device.store session.peer c.as_slice-bytes.result.now device.usim.array c.answer.new.peer c.in_ok-taken.taken.turn c.answer.new.device.store c.answer.new.device.usim.array)
    (ap (λ (s : Setting). s.key) c.set.view_is) c.in_ok-taken.ensures.step in
    answers_now inside.packets.items (values inside.sessions) inside.released.items inside.homes.items inside.broken inside.devices.items c.args.place c.args.packet session c.index.result.now c.args.set.now
    c.index_mut-session.ensures.value here c.args.self.now c.self.view_is _ _
    (λ pasts. answers inside.packets.items (values inside.sessions) inside.released.items inside.homes.items inside.broken inside.devices.items c.args.place c.args.packet session c.index.result.now c.args.set.now
    device c.answer.new.device c.answer.new.peer c.in_ok-taken.taken.turn c.as_slice-bytes.result.now there c.in_ok-taken.ensures.subscription c.in_ok-taken.ensures.bits c.in_ok-taken.ensures.age c.as_slice-bytes.ensures step pasts
    c.make_place.new.packets.items c.deref.result.now c.post_taken.new.packets.items (values (with_value_at inside.sessions c.args.place new)) c.judged-self-inside.result
    c.in_ok-taken.taken.inputs c.in_ok-taken.taken.sent (number_after c.make_place.new.packets.items c.in_ok-taken.taken.sent) c.keys_won-session.result
    c.in_ok-make_place.ensures.same (c.deref.ensures.value ∙ c.in_ok-make_place.ensures.same) c.in_ok-taken.ensures.inputs c.in_ok-taken.ensures.sent
    c.post_taken.ensures.posted refl c.keys_won-session.ensures c.judged-self-inside.ensures
    (values_set inside.sessions.entries c.args.place new)
    c.post_taken.result c.post_taken.ensures.note)

pub returns-clause-asked : goal.returns-clause-asked
returns-clause-asked c = ap (λ (n : Note). n.asked) c.post_taken.ensures.note

pub returns-clause-devices : goal.returns-clause-devices
returns-clause-devices c =
    let inside = c.self.inside in
    let session = c.index_mut-session.result.now in
    let device = c.in-Some.device.now in
    let there = slice_get_read inside.devices.items (length inside.devices.items) session.device device refl c.in-Some.ensures.item.3.0 c.in-Some.ensures.value in
    map_same subscription_of inside.devices.items session.device device c.answer.new.device there c.in_ok-taken.ensures.subscription ∙ ap (λ (w : WorldState). w.net.devices) c.self.view_is

-- ---- the parts that stay

pub invariant_of-self : goal.invariant_of-self
invariant_of-self c =
    let inside = c.self.inside in
    subst (λ (packets : List SentPacket). IsKept (keys inside.sessions) (get is_key inside.places) (state_of packets (values inside.sessions) inside.released.items inside.homes.items inside.broken inside.devices.items))
    (sym c.in_err-make_place.ensures.same) c.self.invariant

pub returns-in_err-make_place-clause-homes : goal.returns-in_err-make_place-clause-homes
returns-in_err-make_place-clause-homes c = ap (λ (w : WorldState). w.net.homes) c.self.view_is

pub returns-in_err-make_place-clause-devices : goal.returns-in_err-make_place-clause-devices
returns-in_err-make_place-clause-devices c = ap (λ (w : WorldState). w.net.devices) c.self.view_is

pub returns-in_err-make_place-clause-world : goal.returns-in_err-make_place-clause-world
returns-in_err-make_place-clause-world c =
    let inside = c.self.inside in
    on_error _ _ (answered_states _ inside.packets.items _ (values inside.sessions) inside.released.items inside.homes.items inside.broken _ inside.devices.items c.in_err-make_place.ensures.same refl refl ∙ c.self.view_is)

pub returns-in_default-clause-homes : goal.returns-in_default-clause-homes
returns-in_default-clause-homes c = ap (λ (w : WorldState). w.net.homes) c.self.view_is

pub returns-in_default-clause-devices : goal.returns-in_default-clause-devices
returns-in_default-clause-devices c = ap (λ (w : WorldState). w.net.devices) c.self.view_is

pub returns-in_err-taken-clause-homes : goal.returns-in_err-taken-clause-homes
returns-in_err-taken-clause-homes c = ap (λ (w : WorldState). w.net.homes) c.self.view_is

pub returns-in_err-taken-clause-devices : goal.returns-in_err-taken-clause-devices
returns-in_err-taken-clause-devices c =
    let inside = c.self.inside in
    let session = c.index_mut-session.result.now in
    let device = c.in-Some.device.now in
    let there = slice_get_read inside.devices.items (length inside.devices.items) session.device device refl c.in-Some.ensures.item.3.0 c.in-Some.ensures.value in
    map_same subscription_of inside.devices.items session.device device c.answer.new.device there c.in_err-taken.ensures.subscription ∙ ap (λ (w : WorldState). w.net.devices) c.self.view_is

pub returns-clause-homes : goal.returns-clause-homes
returns-clause-homes c = ap (λ (w : WorldState). w.net.homes) c.self.view_is

-- ---- the packet that is delivered

pub judged-self-inside-requires : goal.judged-self-inside-requires
judged-self-inside-requires c =
    let last : c.args.packet ≤ length c.self.inside.packets.items = subst (λ (w : WorldState). c.args.packet ≤ length w.net.packets) (sym c.self.view_is) c.requires.last in
    record { first = c.requires.first; last = reaches_last c.args.packet c.deref.result.now c.self.inside.packets.items (c.deref.ensures.value ∙ c.in_ok-make_place.ensures.same) last }
