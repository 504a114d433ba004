use Rattle.std.proofs.Common.{◌≡◌, take}
use Rattle.auc_seal.proofs.identity_packets.IdentityPackets.copy.Given as goal

abbrev pub invariant-loop-packet : goal.invariant-loop-packet
invariant-loop-packet l = l.all ≡ take l.packet-index l.packet-items
