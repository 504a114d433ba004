use Rattle.std.proofs.Common.{Option, Some, sym, ap, ◌∙◌, subst}
use Rattle.auc_packet.specs.Received.{seen_of}
use Rattle.auc_sqn.specs.Past.{Remembers}
use Rattle.auc_usim.specs.Usim.{IsAnswer, past_after_answer}
use Rattle.auc_usim.specs.declared.answer.Answer.{Answer}
use Rattle.auc_vector.specs.declared.notes.UsimNote.{UsimNote}
use Rattle.auc_peer.specs.Subscription.{subscription_of}
use Rattle.auc_peer.specs.Table.{by_answer, challenged}
use Rattle.auc_peer.specs.Turn.{AskedUsim, Decrypts, decryption_by, decryption_noted, inner_of}
use Rattle.auc_peer.proofs.SendLemmas.{Sends, answer_sends}
use Rattle.auc_peer.proofs.peer.Peer.on_challenge.Goals as goal

pub returns-clause-step : goal.returns-clause-step
returns-clause-step c = λ past remembers.
    let p = c.args.self.now in
    let seen = seen_of c.args.received.now in
    let inner = inner_of c.on_answer.new.self in
    c.on_answer.ensures.step
    ∙ ap (λ (a : Answer). by_answer p seen c.args.challenge a inner) (c.ask-answer.ensures.noted past remembers)
    ∙ ap (λ (n : Option UsimNote). challenged (subscription_of c.args.device.now) p seen c.args.challenge n inner) (sym c.on_answer.ensures.note)

pub returns-clause-usim : goal.returns-clause-usim
returns-clause-usim c =
    let usim = c.args.device.now.usim in
    let challenge = c.args.challenge in
    let after = c.ask-answer.new.self.usim.array in
    subst (λ (n : Option UsimNote). AskedUsim (subscription_of c.args.device.now) (Some challenge) n usim.array after) (sym c.on_answer.ensures.note)
    (λ past remembers. subst (λ (a : Answer). IsAnswer usim.secret usim.array.bits usim.array.age past challenge.rand challenge.autn a × Remembers after (past_after_answer usim.array.bits past a)) (c.ask-answer.ensures.noted past remembers)
    (c.ask-answer.ensures.answer past remembers, c.ask-answer.ensures.past past remembers))

pub returns-clause-decrypts : goal.returns-clause-decrypts
returns-clause-decrypts c = λ past remembers.
    let p = c.args.self.now in
    let seen = seen_of c.args.received.now in
    let inner = inner_of c.on_answer.new.self in
    subst (λ (n : Option UsimNote). Decrypts (decryption_noted (subscription_of c.args.device.now) p seen (Some c.args.challenge) n) inner) (sym c.on_answer.ensures.note)
    (subst (λ (a : Answer). Decrypts (decryption_by p seen c.args.challenge a) inner) (c.ask-answer.ensures.noted past remembers) c.on_answer.ensures.decrypts)

pub returns-clause-sent : goal.returns-clause-sent
returns-clause-sent c =
    subst Sends (sym c.on_answer.ensures.step)
    (answer_sends c.args.self.now (seen_of c.args.received.now) c.args.challenge c.ask-answer.result (inner_of c.on_answer.new.self))
