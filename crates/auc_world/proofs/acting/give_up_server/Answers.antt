use Rattle.auc_world.proofs.ActingLemmas.{nobody_gives_up}
use Rattle.auc_world.proofs.acting.give_up_server.Goals as goal

pub returns-in_default : goal.returns-in_default
returns-in_default c = nobody_gives_up c.args.packets.now c.args.session.now c.in_default.is
