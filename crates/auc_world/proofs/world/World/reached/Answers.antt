use Rattle.std.proofs.Common.{◌≡◌, ◌∙◌, Some, sym, ap, subst, arith}
use Rattle.indexmap.specs.IndexMap.{keys, values}
use Rattle.auc_world.proofs.ServingLemmas.{end_missing}
use Rattle.auc_world.proofs.WorldLemmas.{place_by_number}
use Rattle.auc_world.specs.Happened.{delivery_at}
use Rattle.auc_world.specs.InnerWorld.{IsUnreached, state_of}
use Rattle.auc_world.specs.Net.{session_place}
use Rattle.auc_world.specs.World.{WorldState}
use Rattle.auc_record.specs.declared.event.WorldRefusal.TheVariants as refused
use Rattle.auc_world.proofs.world.World.reached.Goals as goal

pub returns-in-Some-clause-place : goal.returns-in-Some-clause-place
returns-in-Some-clause-place c =
    let inside = c.self.inside in
    subst (λ (w : WorldState). session_place w.net.sessions c.args.session ≡ Some c.in-Some.place) c.self.view_is
    (sym (c.in-Some.ensures.index ∙ place_by_number (keys inside.sessions) (values inside.sessions) c.args.session c.self.invariant.numbered))

pub returns-in-None-clause-refused : goal.returns-in-None-clause-refused
returns-in-None-clause-refused c =
    let inside = c.self.inside in
    let now : WorldState = state_of inside.packets.items (values inside.sessions) inside.released.items inside.homes.items inside.broken inside.devices.items in
    let none = sym (c.in-None.ensures.index ∙ place_by_number (keys inside.sessions) (values inside.sessions) c.args.session c.self.invariant.numbered) in
    subst (λ (w : WorldState). IsUnreached w.net c.args.session c.args.packet refused.NoSuchEnd) c.self.view_is
    (ap (delivery_at now.net c.args.packet) none, end_missing inside.packets.items c.args.packet (omega (arith, c.if-packet-eq0.false)) (omega (arith, c.if-len-packet.false, c.len.ensures)))
