use Rattle.std.proofs.Common.{◌∙◌, ap, sym}
use Rattle.auc_packet.specs.Received.{seen_of}
use Rattle.auc_peer.specs.Peer.{PeerEnd}
use Rattle.auc_peer.proofs.StepLemmas.{not_ended}
use Rattle.auc_peer.proofs.peer.Peer.row.Goals as goal

pub returns-in_default : goal.returns-in_default
returns-in_default c =
    let p = c.args.self.now in
    c.headed.ensures
    ∙ sym (not_ended p.options p.state p.last (seen_of c.args.received.now) (λ e. c.in_default.not-Ended (ap (λ (x : PeerEnd). x.state) c.self.view_is ∙ e)))
