use Rattle.std.proofs.Common.{ℕ, ◌≤◌, List, length, sym, subst, ap, ◌∙◌}
use Rattle.auc_packet.specs.Received.{seen_of}
use Rattle.auc_request.specs.Request.{name_in}
use Rattle.auc_peer.proofs.NetworkLemmas.{received_name}
use Rattle.auc_peer.proofs.reading.received_name.Goals as goal

pub returns-clause-size : goal.returns-clause-size
returns-clause-size c =
    subst (λ (text : List ℕ). length text ≤ 1016) (sym (c.name_in.ensures ∙ ap name_in c.attrs_in.ensures))
    (received_name c.read_packets_may_be_written.ensures (seen_of c.args.received.now) c.are_bytes.ensures c.requires)
