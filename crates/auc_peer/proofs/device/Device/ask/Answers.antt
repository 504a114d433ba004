use Rattle.std.proofs.Common.{◌≡◌, subst}
use Rattle.auc_peer.specs.Asking.{answer_noted, note_of}
use Rattle.auc_peer.specs.Device.{DeviceState}
use Rattle.auc_peer.proofs.AskingLemmas.{answer_is_noted}
use Rattle.auc_peer.proofs.device.Device.ask.Goals as goal
use Rattle.auc_sqn.specs.Past.{Past, Remembers}

pub returns-clause-noted : goal.returns-clause-noted
returns-clause-noted c =
    subst (λ (d : DeviceState). (past : Past) → Remembers d.usim.array past → c.challenge.result ≡ answer_noted d.usim.secret c.args.challenge (note_of c.challenge.result))
    c.self.view_is (λ past remembers. answer_is_noted _ _ _ past c.args.challenge _ (c.challenge.ensures.answer past remembers))
