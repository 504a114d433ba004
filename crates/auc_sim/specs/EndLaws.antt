-- What holds of every server, over all that it receives.
use Rattle.std.specs.Prelude.{◌≡◌, ◌<◌, Bool, true, false}
use Rattle.auc_sim.specs.Server.{SimServerState, left_of, server_turn}
use Rattle.auc_vector.specs.declared.why.SimWhy.{SimWhy}
use Rattle.auc_sim_packet.specs.Received.{SimSeen}
use Rattle.auc_vector.specs.declared.turn.Step.{Step}
use Rattle.auc_vector.specs.declared.turn.Step.TheVariants as step

-- whether a step sends bytes; a server that ends sends Success or Failure
abbrev pub sends : Step SimWhy → Bool
sends (step.Sent bytes) = true
sends (step.Ended end bytes) = true
sends (step.Ignored cause) = false

-- a server that sends bytes may send fewer packets from then on
abbrev pub EachSentPacketLeavesFewer : Type 0
EachSentPacketLeavesFewer = (s : SimServerState) (seen : SimSeen) → sends (server_turn s seen).1 ≡ true → left_of (server_turn s seen).0.at < left_of s.at
