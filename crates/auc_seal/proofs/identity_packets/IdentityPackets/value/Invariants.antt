use Rattle.std.proofs.Common.{take}
use Rattle.auc_seal.specs.Checkcode.{HoldsPackets}
use Rattle.auc_seal.proofs.identity_packets.IdentityPackets.value.Given as goal

abbrev pub invariant-loop-packet : goal.invariant-loop-packet
invariant-loop-packet l = HoldsPackets l.code l.fn.method (take l.packet-index l.packet-items)
