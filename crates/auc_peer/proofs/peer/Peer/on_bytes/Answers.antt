use Rattle.std.proofs.Common.{ℕ, List, IfOk, subst}
use Rattle.auc_peer.specs.Subscription.{subscription_of}
use Rattle.auc_peer.specs.Turn.{Steps}
use Rattle.auc_peer.proofs.peer.Peer.on_bytes.Goals as goal

pub returns-clause-step : goal.returns-clause-step
returns-clause-step c =
    let device = c.args.device.now in
    let after = c.on_row.new.device in
    subst (λ (bytes : List ℕ). IfOk c.on_row.result (λ turn. Steps c.args.rands.now (subscription_of device) device.store c.args.self.now bytes device.usim.array c.on_row.new.self turn after.store after.usim.array))
    c.in_ok-received.ensures.bytes c.on_row.ensures.step
