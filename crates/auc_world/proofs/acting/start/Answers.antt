use Rattle.std.proofs.Common.{sym, ◌∙◌, refl}
use Rattle.auc_world.proofs.ActingLemmas.{started_before, starts}
use Rattle.auc_world.proofs.acting.start.Goals as goal

pub returns-then-is_some-clause-acts : goal.returns-then-is_some-clause-acts
returns-then-is_some-clause-acts c = started_before c.args.packets.now.items c.args.session.now (sym c.if-is_some.ensures)

pub returns-clause-acts : goal.returns-clause-acts
returns-clause-acts c =
    starts c.args.packets.now.items c.post-packet.new.packets.items c.args.session.now c.in_ok-server.server c.in_ok-server.bytes c.post-packet.result c.note.result
    (sym c.if-is_some.ensures) c.in_ok-server.ensures.server c.in_ok-server.ensures.sent
    (rw (c.post-packet.ensures.posted, c.in_ok-make_place.ensures.same, c.in_ok-server.ensures.copy ∙ sym c.in_ok-server.ensures.sent) refl)
    (rw (c.post-packet.ensures.number, c.in_ok-make_place.ensures.same) refl)
    c.note.ensures
