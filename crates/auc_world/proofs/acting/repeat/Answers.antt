use Rattle.std.proofs.Common.{refl}
use Rattle.auc_world.proofs.ActingLemmas.{repeats, repeats_nothing}
use Rattle.auc_world.proofs.acting.repeat.Goals as goal

pub returns-in_default-clause-acts : goal.returns-in_default-clause-acts
returns-in_default-clause-acts c = repeats_nothing c.args.packets.now.items c.args.session.now c.in_default.is

pub returns-clause-acts : goal.returns-clause-acts
returns-clause-acts c =
    repeats c.args.packets.now.items c.post-packet.new.packets.items c.args.session.now c.in-Some.server c.in_ok-step.step c.post-packet.result c.note.result
    c.in-Some.is c.in_ok-step.ensures
    (rw (c.post-packet.ensures.posted, c.in_ok-make_place.ensures.same, c.in_ok-sent.ensures, c.in_ok-inputs.ensures) refl)
    (rw (c.post-packet.ensures.number, c.in_ok-make_place.ensures.same, c.in_ok-sent.ensures) refl)
    c.note.ensures
