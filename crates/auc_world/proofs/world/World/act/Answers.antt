use Rattle.std.proofs.Common.{◌∙◌, sym, ap, subst}
use Rattle.std.specs.Prelude.{slice_set}
use Rattle.indexmap.proofs.CallerLemmas.{keys-with_value_at}
use Rattle.indexmap.specs.IndexMap.{get, keys, values, with_value_at}
use Rattle.auc_world.proofs.WorldLemmas.{acted_came, acted_net, kept_session, of_all, on_error, place_by_number, refused_there, set_same, states, still_there, values_set}
use Rattle.auc_world.specs.InnerWorld.{came_of, is_key, net_of}
use Rattle.auc_world.specs.World.{HasHeld, IsName}
use Rattle.auc_world.specs.declared.net.Session.{Session}
use Rattle.auc_world.proofs.world.World.act.Goals as goal

pub returns-in_default-clause-came : goal.returns-in_default-clause-came
returns-in_default-clause-came c =
    let inside = c.self.inside in
    refused_there inside.packets.items (values inside.sessions) inside.released.items inside.homes.items inside.broken inside.devices.items c.args.self.now c.self.view_is c.args.session
    (λ w. came_of w c.args.deed) (c.in_default.ensures.index ∙ place_by_number (keys inside.sessions) (values inside.sessions) c.args.session c.self.invariant.numbered)

pub returns-in_default-clause-acted : goal.returns-in_default-clause-acted
returns-in_default-clause-acted c =
    let inside = c.self.inside in
    still_there inside.packets.items (values inside.sessions) inside.released.items inside.homes.items inside.broken inside.devices.items c.args.self.now c.self.view_is c.args.session
    (λ w. net_of w c.args.deed) (c.in_default.ensures.index ∙ place_by_number (keys inside.sessions) (values inside.sessions) c.args.session c.self.invariant.numbered)

pub invariant_of-self : goal.invariant_of-self
invariant_of-self c =
    let inside = c.self.inside in
    let same = c.in_err-came.ensures.session in
    kept_session (keys inside.sessions) (get is_key inside.places) inside.packets.items (values inside.sessions) inside.released.items inside.homes.items inside.broken inside.devices.items c.self.invariant
    _ _ _ _ _ c.in-Some.place c.index_mut.result.now c.act.new.session
    (keys-with_value_at inside.sessions c.in-Some.place c.act.new.session) (values_set inside.sessions.entries c.in-Some.place c.act.new.session) c.index_mut.ensures.value
    (ap (λ (s : Session). s.number) same) (ap (λ (s : Session). s.options) same)
    (subst (λ (s : Session). HasHeld inside.homes.items s.server) (sym same) (of_all (λ (s : Session). HasHeld inside.homes.items s.server) (values inside.sessions) c.in-Some.place c.index_mut.result.now c.self.invariant.world.held c.index_mut.ensures.value))

pub returns-in_err-came-clause-kept : goal.returns-in_err-came-clause-kept
returns-in_err-came-clause-kept c =
    let inside = c.self.inside in
    on_error _ _ (states _ _ _ _ inside.released.items inside.homes.items inside.broken inside.devices.items c.in_err-came.ensures.packets
    (values_set inside.sessions.entries c.in-Some.place c.act.new.session ∙ ap (slice_set (values inside.sessions) c.in-Some.place) c.in_err-came.ensures.session
    ∙ set_same (values inside.sessions) c.in-Some.place c.index_mut.result.now c.index_mut.ensures.value)
    ∙ c.self.view_is)

pub invariant_of-self-2 : goal.invariant_of-self-2
invariant_of-self-2 c =
    let inside = c.self.inside in
    let acts = c.in_ok-came.ensures.acts in
    kept_session (keys inside.sessions) (get is_key inside.places) inside.packets.items (values inside.sessions) inside.released.items inside.homes.items inside.broken inside.devices.items c.self.invariant
    _ _ _ _ _ c.in-Some.place c.index_mut.result.now c.act.new.session
    (keys-with_value_at inside.sessions c.in-Some.place c.act.new.session) (values_set inside.sessions.entries c.in-Some.place c.act.new.session) c.index_mut.ensures.value
    acts.number acts.options
    (acts.held inside.homes.items (of_all (λ (s : Session). HasHeld inside.homes.items s.server) (values inside.sessions) c.in-Some.place c.index_mut.result.now c.self.invariant.world.held c.index_mut.ensures.value))

pub returns-clause-came : goal.returns-clause-came
returns-clause-came c =
    let inside = c.self.inside in
    acted_came inside.packets.items (values inside.sessions) inside.released.items inside.homes.items inside.broken inside.devices.items c.args.self.now c.self.view_is c.args.session
    c.in-Some.place c.index_mut.result.now c.act.new.session c.act.new.packets.items c.args.deed c.in_ok-came.came
    (sym (c.in-Some.ensures.index ∙ place_by_number (keys inside.sessions) (values inside.sessions) c.args.session c.self.invariant.numbered)) c.index_mut.ensures.value c.in_ok-came.ensures.acts

pub returns-clause-acted : goal.returns-clause-acted
returns-clause-acted c =
    let inside = c.self.inside in
    acted_net inside.packets.items (values inside.sessions) inside.released.items inside.homes.items inside.broken inside.devices.items c.args.self.now c.self.view_is c.args.session
    c.in-Some.place c.index_mut.result.now c.act.new.session c.act.new.packets.items c.args.deed c.in_ok-came.came
    (sym (c.in-Some.ensures.index ∙ place_by_number (keys inside.sessions) (values inside.sessions) c.args.session c.self.invariant.numbered)) c.index_mut.ensures.value c.in_ok-came.ensures.acts
    (values (with_value_at inside.sessions c.in-Some.place c.act.new.session)) (values_set inside.sessions.entries c.in-Some.place c.act.new.session)

pub act-requires : goal.act-requires
act-requires c =
    let inside = c.self.inside in
    of_all (λ (s : Session). IsName s.options.name) (values inside.sessions) c.in-Some.place c.index_mut.result.now c.self.invariant.world.names c.index_mut.ensures.value
