use Rattle.std.proofs.Common.{refl, sym, ap, ◌∙◌}
use Rattle.auc_packet.specs.Received.{seen_of}
use Rattle.auc_usim.specs.Usim.{Memory}
use Rattle.auc_peer.specs.Subscription.{subscription_of}
use Rattle.auc_peer.specs.declared.rows.Row.TheVariants as row
use Rattle.auc_peer.proofs.StepLemmas.{challenged_returns, quiet_returns, quiet_steps, reauth_returns, success_steps}
use Rattle.auc_peer.proofs.peer.Peer.on_row.Goals as goal

pub returns-in-Ignore-clause-step : goal.returns-in-Ignore-clause-step
returns-in-Ignore-clause-step c =
    let device = c.args.device.now in
    quiet_steps c.args.rands.now (subscription_of device) device.store c.args.self.now (seen_of c.args.received.now) (row.Ignore c.in-Ignore.why) device.usim.array c.args.self.now c.ignore.result tt
    c.requires.is (sym c.in-Ignore.is ∙ c.requires.row) c.ignore.ensures

pub returns-in-Again-clause-step : goal.returns-in-Again-clause-step
returns-in-Again-clause-step c =
    let device = c.args.device.now in
    quiet_returns c.args.rands.now (subscription_of device) device.store c.args.self.now (seen_of c.args.received.now) row.Again device.usim.array c.args.self.now c.again.result tt
    c.requires.is (sym c.in-Again.is ∙ c.requires.row) c.again.ensures

pub returns-in-First-clause-step : goal.returns-in-First-clause-step
returns-in-First-clause-step c =
    let device = c.args.device.now in
    quiet_returns c.args.rands.now (subscription_of device) device.store c.args.self.now (seen_of c.args.received.now) row.First device.usim.array c.first.new.self c.first.result tt
    c.requires.is (sym c.in-First.is ∙ c.requires.row) c.first.ensures.step

pub returns-in-Identity-clause-step : goal.returns-in-Identity-clause-step
returns-in-Identity-clause-step c =
    let device = c.args.device.now in
    quiet_returns c.args.rands.now (subscription_of device) device.store c.args.self.now (seen_of c.args.received.now) (row.Identity c.in-Identity.asked) device.usim.array c.on_identity.new.self c.on_identity.result tt
    c.requires.is (sym c.in-Identity.is ∙ c.requires.row) c.on_identity.ensures.step

pub returns-in_ok-reply-in-Client-clause-step : goal.returns-in_ok-reply-in-Client-clause-step
returns-in_ok-reply-in-Client-clause-step c =
    let device = c.args.device.now in
    quiet_steps c.args.rands.now (subscription_of device) device.store c.args.self.now (seen_of c.args.received.now) (row.Client c.in-Client.why) device.usim.array c.client.new.self c.client.result tt
    c.requires.is (sym c.in-Client.is ∙ c.requires.row) c.client.ensures

pub returns-in_ok-reply-in-Reject-clause-step : goal.returns-in_ok-reply-in-Reject-clause-step
returns-in_ok-reply-in-Reject-clause-step c =
    let device = c.args.device.now in
    quiet_steps c.args.rands.now (subscription_of device) device.store c.args.self.now (seen_of c.args.received.now) (row.Reject c.in-Reject.why) device.usim.array c.reject.new.self c.reject.result tt
    c.requires.is (sym c.in-Reject.is ∙ c.requires.row) c.reject.ensures

pub returns-in_ok-reply-in-Notified-clause-step : goal.returns-in_ok-reply-in-Notified-clause-step
returns-in_ok-reply-in-Notified-clause-step c =
    let device = c.args.device.now in
    quiet_steps c.args.rands.now (subscription_of device) device.store c.args.self.now (seen_of c.args.received.now) (row.Notified c.in-Notified.code) device.usim.array c.notify.new.self c.notify.result tt
    c.requires.is (sym c.in-Notified.is ∙ c.requires.row) c.notify.ensures

pub returns-in-Challenged-clause-step : goal.returns-in-Challenged-clause-step
returns-in-Challenged-clause-step c =
    let device = c.args.device.now in
    let after = c.on_challenge.new.device in
    challenged_returns c.args.rands.now (subscription_of device) device.store c.args.self.now (seen_of c.args.received.now) c.in-Challenged.challenge device.usim.array after.usim.array c.on_challenge.new.self after.store c.on_challenge.result
    c.requires.is (sym c.in-Challenged.is ∙ c.requires.row) c.on_challenge.ensures.store c.on_challenge.ensures.step c.on_challenge.ensures.usim c.on_challenge.ensures.decrypts c.on_challenge.ensures.sent

pub returns-in-Reauthentication-clause-step : goal.returns-in-Reauthentication-clause-step
returns-in-Reauthentication-clause-step c =
    let device = c.args.device.now in
    let seen = seen_of c.args.received.now in
    let after = c.on_reauthentication.new.device in
    reauth_returns c.args.rands.now (subscription_of device) device.store c.args.self.now seen seen.bytes device.usim.array after.usim.array c.on_reauthentication.new.self after.store c.on_reauthentication.result
    c.requires.is refl (sym c.in-Reauthentication.is ∙ c.requires.row) (ap (λ (u : Memory). u.array) c.on_reauthentication.ensures.usim) c.on_reauthentication.ensures.step c.on_reauthentication.ensures.decrypts c.on_reauthentication.ensures.stored

pub returns-in-Success-clause-step : goal.returns-in-Success-clause-step
returns-in-Success-clause-step c =
    let device = c.args.device.now in
    let after = c.succeed.new.device in
    success_steps c.args.rands.now (subscription_of device) device.store c.args.self.now (seen_of c.args.received.now) device.usim.array after.usim.array c.succeed.new.self c.succeed.result after.store
    c.requires.is (sym c.in-Success.is ∙ c.requires.row) (ap (λ (u : Memory). u.array) c.succeed.ensures.usim) c.succeed.ensures.step c.succeed.ensures.note c.succeed.ensures.stored

pub returns-in-Failure-clause-step : goal.returns-in-Failure-clause-step
returns-in-Failure-clause-step c =
    let device = c.args.device.now in
    quiet_steps c.args.rands.now (subscription_of device) device.store c.args.self.now (seen_of c.args.received.now) (row.Failure c.in-Failure.why) device.usim.array c.end.new.self c.end.result tt
    c.requires.is (sym c.in-Failure.is ∙ c.requires.row) c.end.ensures
