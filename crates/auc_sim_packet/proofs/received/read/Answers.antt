use Rattle.auc_sim_packet.proofs.received.read.Goals as goal

pub returns-in-Err : goal.returns-in-Err
returns-in-Err c = c.reading_of.ensures c.args.bytes.now c.in-Err.ensures.fault
