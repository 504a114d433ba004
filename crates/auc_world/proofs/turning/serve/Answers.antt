use Rattle.std.proofs.Common.{◌∙◌, List, ap, map, refl, subst, sym}
use Rattle.std.specs.Prelude.{ℕ}
use Rattle.auc_memory.specs.Reserved.{Reserved}
use Rattle.auc_server.specs.Steps.{IsHeld, IsHeldToo, IsServed, Steps}
use Rattle.auc_server.specs.declared.setting.HomeRow.{HomeRow}
use Rattle.auc_vector.specs.declared.why.ServerWhy.{ServerWhy}
use Rattle.auc_vector.specs.declared.turn.Turn.{Turn}
use Rattle.auc_world.proofs.TurningLemmas.{identity_left, name_stays, turn_subs, written_back}
use Rattle.auc_world.proofs.turning.serve.Goals as goal
use Rattle.auc_server.specs.Server.{challenged_of, resumed_of}

pub put_served-requires-clause-left : goal.put_served-requires-clause-left
put_served-requires-clause-left g c =
    let step = c.in-Ok.ensures.step in
    identity_left c.args.set.now _ c.args.server.now c.on_bytes.new.self step.seen step.reply c.in-Ok.turn c.args.bytes.now c.args.server.now.identity c.in_ok-rooms.rooms.identity.left
    step.same step.received step.of refl (ap (λ (r : Reserved ℕ). r.left) c.in_ok-rooms.ensures.identity)

pub put_served-requires-clause-name : goal.put_served-requires-clause-name
put_served-requires-clause-name g c =
    let step = c.in-Ok.ensures.step in
    name_stays c.args.set.now _ c.args.server.now c.on_bytes.new.self step.seen step.reply c.in-Ok.turn c.in_ok-rooms.rooms.name step.same c.in_ok-rooms.ensures.name

pub on_bytes-requires : goal.on_bytes-requires
on_bytes-requires g c =
    subst (λ (hs : List HomeRow). IsServed c.args.set.now.rows (g.C.Centre.subs c.args.centre.now) (g.C.Centre.top c.args.centre.now) hs c.args.server.now)
    (sym c.as_mut_slice.ensures.value) c.requires

pub returns-in-Ok-clause-step : goal.returns-in-Ok-clause-step
returns-in-Ok-clause-step g c =
    let back = written_back c.args.homes.now.items c.on_bytes.new.homes _ (c.on_bytes.auto.homes ∙ c.as_mut_slice.ensures.len) in
    subst (λ (hs : List HomeRow). Steps g.C.Centre.goes g.C.Centre.kept g.C.Centre.top c.args.set.now c.args.homes.now.items c.args.server.now c.args.bytes.now c.args.centre.now c.on_bytes.new.self c.put_served.result.turn hs c.on_bytes.new.centre)
    (sym back)
    (subst (λ (t : Turn ServerWhy). Steps g.C.Centre.goes g.C.Centre.kept g.C.Centre.top c.args.set.now c.args.homes.now.items c.args.server.now c.args.bytes.now c.args.centre.now c.on_bytes.new.self t c.on_bytes.new.homes c.on_bytes.new.centre)
    (sym c.put_served.ensures.turn)
    (subst (λ (hs : List HomeRow). Steps g.C.Centre.goes g.C.Centre.kept g.C.Centre.top c.args.set.now hs c.args.server.now c.args.bytes.now c.args.centre.now c.on_bytes.new.self c.in-Ok.turn c.on_bytes.new.homes c.on_bytes.new.centre)
    c.as_mut_slice.ensures.value c.in-Ok.ensures.step))

-- the homes are of the same subscribers after a turn
pub returns-in-Ok-clause-same : goal.returns-in-Ok-clause-same
returns-in-Ok-clause-same g c =
    let step = c.in-Ok.ensures.step in
    let back = written_back c.args.homes.now.items c.on_bytes.new.homes _ (c.on_bytes.auto.homes ∙ c.as_mut_slice.ensures.len) in
    ap (map (λ (home : HomeRow). home.sub)) (back ∙ step.homes_are)
    ∙ turn_subs c.args.set.now c.as_mut_slice.result.now c.args.server.now step.seen step.reply c.in-Ok.turn.notes
    ∙ ap (map (λ (home : HomeRow). home.sub)) c.as_mut_slice.ensures.value

pub returns-in-Ok-clause-held : goal.returns-in-Ok-clause-held
returns-in-Ok-clause-held g c =
    let back = written_back c.args.homes.now.items c.on_bytes.new.homes _ (c.on_bytes.auto.homes ∙ c.as_mut_slice.ensures.len) in
    subst (λ (hs : List HomeRow). IsHeld hs (challenged_of c.on_bytes.new.self)) (sym back) c.in-Ok.ensures.served.held

pub returns-in-Ok-clause-resumed : goal.returns-in-Ok-clause-resumed
returns-in-Ok-clause-resumed g c =
    let back = written_back c.args.homes.now.items c.on_bytes.new.homes _ (c.on_bytes.auto.homes ∙ c.as_mut_slice.ensures.len) in
    subst (λ (hs : List HomeRow). IsHeldToo hs (resumed_of c.on_bytes.new.self)) (sym back) c.in-Ok.ensures.served.resumed

-- ---- if memory runs out

pub returns-in_err-rooms-clause-held : goal.returns-in_err-rooms-clause-held
returns-in_err-rooms-clause-held g c = c.requires.held

pub returns-in_err-rooms-clause-resumed : goal.returns-in_err-rooms-clause-resumed
returns-in_err-rooms-clause-resumed g c = c.requires.resumed

pub returns-in-Err-clause-held : goal.returns-in-Err-clause-held
returns-in-Err-clause-held g c =
    let back = written_back c.args.homes.now.items c.on_bytes.new.homes _ (c.on_bytes.auto.homes ∙ c.as_mut_slice.ensures.len) in
    subst (λ (hs : List HomeRow). IsHeld hs (challenged_of c.on_bytes.new.self)) (sym back) c.in-Err.ensures.served.held

pub returns-in-Err-clause-resumed : goal.returns-in-Err-clause-resumed
returns-in-Err-clause-resumed g c =
    let back = written_back c.args.homes.now.items c.on_bytes.new.homes _ (c.on_bytes.auto.homes ∙ c.as_mut_slice.ensures.len) in
    subst (λ (hs : List HomeRow). IsHeldToo hs (resumed_of c.on_bytes.new.self)) (sym back) c.in-Err.ensures.served.resumed

pub returns-in-Err-clause-same : goal.returns-in-Err-clause-same
returns-in-Err-clause-same g c =
    let back = written_back c.args.homes.now.items c.on_bytes.new.homes _ (c.on_bytes.auto.homes ∙ c.as_mut_slice.ensures.len) in
    ap (map (λ (home : HomeRow). home.sub)) (back ∙ c.in-Err.ensures.homes ∙ c.as_mut_slice.ensures.value)

pub returns-in-Err-clause-homes : goal.returns-in-Err-clause-homes
returns-in-Err-clause-homes g c =
    written_back c.args.homes.now.items c.on_bytes.new.homes _ (c.on_bytes.auto.homes ∙ c.as_mut_slice.ensures.len) ∙ c.in-Err.ensures.homes ∙ c.as_mut_slice.ensures.value
