use Rattle.std.proofs.Common.{◌∙◌, ◌∷◌, ◌++◌, [], Ok, ap, sym, subst}
use Rattle.std.specs.Prelude.{nat_eq}
use Rattle.indexmap.proofs.CallerLemmas.{insert_entry-new}
use Rattle.indexmap.specs.IndexMap.{get, keys, values}
use Rattle.auc_world.proofs.WorldLemmas.{absent, keys_push, kept_opened, missing_came, no_session, opened_came, opened_net, place_by_number, twice_came, twice_net, values_push}
use Rattle.auc_world.specs.InnerWorld.{is_key}
use Rattle.auc_world.specs.World.{IsName}
use Rattle.auc_world.specs.declared.net.Session.{Session}
use Rattle.auc_world.proofs.world.World.open.Goals as goal

pub returns-then-is_some-clause-came : goal.returns-then-is_some-clause-came
returns-then-is_some-clause-came c =
    let inside = c.self.inside in
    twice_came inside.packets.items (values inside.sessions) inside.released.items inside.homes.items inside.broken inside.devices.items c.args.self.now c.self.view_is c.args.opening.now _
    c.get_index_of.result (c.get_index_of.ensures.index ∙ place_by_number (keys inside.sessions) (values inside.sessions) c.args.opening.now.session c.self.invariant.numbered) c.if-is_some.ensures

pub returns-then-is_some-clause-opened : goal.returns-then-is_some-clause-opened
returns-then-is_some-clause-opened c =
    let inside = c.self.inside in
    twice_net inside.packets.items (values inside.sessions) inside.released.items inside.homes.items inside.broken inside.devices.items c.args.self.now c.self.view_is c.args.opening.now _
    c.get_index_of.result (c.get_index_of.ensures.index ∙ place_by_number (keys inside.sessions) (values inside.sessions) c.args.opening.now.session c.self.invariant.numbered) c.if-is_some.ensures

pub returns-in_default-clause-came : goal.returns-in_default-clause-came
returns-in_default-clause-came c =
    let inside = c.self.inside in
    let same = c.get_index_of.ensures.index ∙ place_by_number (keys inside.sessions) (values inside.sessions) c.args.opening.now.session c.self.invariant.numbered in
    missing_came inside.packets.items (values inside.sessions) inside.released.items inside.homes.items inside.broken inside.devices.items c.args.self.now c.self.view_is c.args.opening.now.session _
    (no_session c.get_index_of.result (values inside.sessions) c.args.opening.now.session same c.if-is_some.ensures) c.in_default.ensures

pub invariant_of-self-2 : goal.invariant_of-self-2
invariant_of-self-2 c =
    let inside = c.self.inside in
    let opened : Session = c.in_ok-opened.opened in
    let put = c.in_ok-add_session.ensures.added ∙ insert_entry-new nat_eq inside.sessions c.args.opening.now.session opened (absent c.get_index_of.result _ c.get_index_of.ensures.found c.if-is_some.ensures) in
    kept_opened (keys inside.sessions) (get is_key inside.places) inside.packets.items (values inside.sessions) inside.released.items inside.homes.items inside.broken inside.devices.items c.self.invariant
    _ _ opened
    (keys_push inside.sessions.entries c.add_session.new.sessions.entries c.args.opening.now.session opened put
    ∙ ap (λ (x : Session). keys inside.sessions ++ x.number ∷ []) (sym c.in_ok-opened.ensures))
    (values_push inside.sessions.entries c.add_session.new.sessions.entries c.args.opening.now.session opened put)
    (ap (λ (x : Session). x.server) c.in_ok-opened.ensures)
    (subst (λ (x : Session). IsName x.options.name) (sym c.in_ok-opened.ensures) c.requires.name)

pub returns-clause-came : goal.returns-clause-came
returns-clause-came c =
    let inside = c.self.inside in
    let same = c.get_index_of.ensures.index ∙ place_by_number (keys inside.sessions) (values inside.sessions) c.args.opening.now.session c.self.invariant.numbered in
    ap Ok c.note.ensures
    ∙ opened_came inside.packets.items (values inside.sessions) inside.released.items inside.homes.items inside.broken inside.devices.items c.args.self.now c.self.view_is c.args.opening.now c.in-Some.device _
    (no_session c.get_index_of.result (values inside.sessions) c.args.opening.now.session same c.if-is_some.ensures) c.in-Some.ensures

pub returns-clause-opened : goal.returns-clause-opened
returns-clause-opened c =
    let inside = c.self.inside in
    let same = c.get_index_of.ensures.index ∙ place_by_number (keys inside.sessions) (values inside.sessions) c.args.opening.now.session c.self.invariant.numbered in
    let opened : Session = c.in_ok-opened.opened in
    let put = c.in_ok-add_session.ensures.added ∙ insert_entry-new nat_eq inside.sessions c.args.opening.now.session opened (absent c.get_index_of.result _ c.get_index_of.ensures.found c.if-is_some.ensures) in
    opened_net inside.packets.items (values inside.sessions) inside.released.items inside.homes.items inside.broken inside.devices.items c.args.self.now c.self.view_is c.args.opening.now c.in-Some.device _
    (no_session c.get_index_of.result (values inside.sessions) c.args.opening.now.session same c.if-is_some.ensures) c.in-Some.ensures (values c.add_session.new.sessions)
    (values_push inside.sessions.entries c.add_session.new.sessions.entries c.args.opening.now.session opened put
    ∙ ap (λ (x : Session). values inside.sessions ++ x ∷ []) c.in_ok-opened.ensures)
