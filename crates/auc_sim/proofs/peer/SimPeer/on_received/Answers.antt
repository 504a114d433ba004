use Rattle.auc_sim_packet.specs.Received.{sim_seen_of}
use Rattle.auc_sim.proofs.HasRandsLemmas.{read_has_rands}
use Rattle.auc_sim.proofs.peer.SimPeer.on_received.Goals as goal

pub unless_repeated-requires : goal.unless_repeated-requires
unless_repeated-requires c = record {
  rands = read_has_rands (sim_seen_of c.args.received.now) c.in-Some.packet c.requires c.in-Some.is;
  received = c.requires;
}
