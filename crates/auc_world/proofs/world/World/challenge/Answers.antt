use Rattle.std.proofs.Common.{◌∙◌, refl, sym, ap, subst, length, arith}
use Rattle.std.proofs.lemmas.Option.{slice_get_read}
use Rattle.indexmap.specs.IndexMap.{get, keys, values}
use Rattle.auc_peer.specs.Subscription.{subscription_of}
use Rattle.auc_peer.specs.declared.device.Device.{Device}
use Rattle.std.specs.Prelude.{slice_set}
use Rattle.auc_world.proofs.DeviceLemmas.{challenged, own_place}
use Rattle.auc_world.proofs.WorldLemmas.{kept_device, map_same}
use Rattle.auc_world.specs.InnerWorld.{is_key, state_of}
use Rattle.auc_world.specs.Net.{Net, device_place}
use Rattle.auc_world.specs.World.{Challenges, WorldState, usim_of}
use Rattle.auc_world.proofs.world.World.challenge.Goals as goal

pub index_mut-device-requires : goal.index_mut-device-requires
index_mut-device-requires c = omega (arith, own_place c.args.set.now.rows _ _ c.args.sub c.in-Some.place c.self.view_is c.requires.own c.in-Some.ensures, c.self.inside.devices.ok)

pub invariant_of-self : goal.invariant_of-self
invariant_of-self c =
    let inside = c.self.inside in
    let within = own_place c.args.set.now.rows _ _ c.args.sub c.in-Some.place c.self.view_is c.requires.own c.in-Some.ensures in
    let device = c.index_mut-device.result.now in
    kept_device (keys inside.sessions) (get is_key inside.places) inside.packets.items (values inside.sessions) inside.released.items inside.homes.items inside.broken inside.devices.items c.self.invariant
    c.in-Some.place device _ (slice_get_read inside.devices.items (length inside.devices.items) c.in-Some.place device refl within c.index_mut-device.ensures.value)
    c.ask.ensures.subscription

pub returns-clause-answer : goal.returns-clause-answer
returns-clause-answer c =
    let inside = c.self.inside in
    let within = own_place c.args.set.now.rows _ _ c.args.sub c.in-Some.place c.self.view_is c.requires.own c.in-Some.ensures in
    let device = c.index_mut-device.result.now in
    let there = slice_get_read inside.devices.items (length inside.devices.items) c.in-Some.place device refl within c.index_mut-device.ensures.value in
    let new : WorldState = state_of inside.packets.items (values inside.sessions) inside.released.items inside.homes.items inside.broken (slice_set inside.devices.items c.in-Some.place c.ask.new.self) in
    subst (λ (w : WorldState). Challenges (usim_of c.args.set.now.rows w) c.args.sub c.args.rand c.args.autn c.ask.result (usim_of c.args.set.now.rows new)) c.self.view_is
    (challenged c.args.set.now.rows inside.devices.items c.in-Some.place c.args.sub device _ c.args.rand c.args.autn c.ask.result
    c.requires.subscribers there
    (ap (λ (w : WorldState). device_place c.args.set.now.rows w.net.devices c.args.sub) c.self.view_is ∙ sym c.in-Some.ensures)
    c.ask.ensures.subscription c.ask.ensures.answer c.ask.ensures.past c.ask.ensures.bits c.ask.ensures.age)

pub returns-clause-net : goal.returns-clause-net
returns-clause-net c =
    let inside = c.self.inside in
    let within = own_place c.args.set.now.rows _ _ c.args.sub c.in-Some.place c.self.view_is c.requires.own c.in-Some.ensures in
    let device = c.index_mut-device.result.now in
    let there = slice_get_read inside.devices.items (length inside.devices.items) c.in-Some.place device refl within c.index_mut-device.ensures.value in
    let old : Net = (state_of inside.packets.items (values inside.sessions) inside.released.items inside.homes.items inside.broken inside.devices.items).net in
    let subs = map_same subscription_of inside.devices.items c.in-Some.place device _ there c.ask.ensures.subscription in
    let stores = map_same (λ (d : Device). d.store) inside.devices.items c.in-Some.place device c.ask.new.self there c.ask.ensures.store in
    (λ j. record old { devices = subs j; stores = stores j })
    ∙ ap (λ (w : WorldState). w.net) c.self.view_is
