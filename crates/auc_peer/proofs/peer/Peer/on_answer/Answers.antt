use Rattle.std.proofs.Common.{ℕ, List, sym, ap, ◌∙◌}
use Rattle.auc_hmac.specs.declared.keys.KeySet.{KeySet}
use Rattle.auc_hmac.specs.declared.keys.Master.{Master}
use Rattle.auc_packet.specs.Received.{seen_of}
use Rattle.auc_peer.specs.Table.{accepted, by_answer, keys_at, keys_for, text_or_none}
use Rattle.auc_peer.specs.Turn.{inner_of}
use Rattle.auc_usim.specs.declared.answer.Answer.{Answer}
use Rattle.auc_vector.specs.Keys.{ck_by, ik_by, master_of}
use Rattle.auc_peer.proofs.peer.Peer.on_answer.Goals as goal

pub returns-in-Accepted-clause-step : goal.returns-in-Accepted-clause-step
returns-in-Accepted-clause-step c =
    let p = c.args.self.now in
    let seen = seen_of c.args.received.now in
    let inner = inner_of c.on_accepted.new.self in
    c.on_accepted.ensures.step
    ∙ ap (λ (keys : KeySet). accepted p seen c.args.challenge c.in-Accepted.res c.in-Accepted.sqn keys c.keys_at-master.result.1 inner)
    (c.keys_at-master.ensures.keys ∙ ap (λ (network : List ℕ). keys_for p.options.method network c.args.challenge (text_or_none p.identity) c.in-Accepted.ik c.in-Accepted.ck) (c.as_slice.ensures ∙ c.requires.network))
    ∙ ap (λ (m : Master). accepted p seen c.args.challenge c.in-Accepted.res c.in-Accepted.sqn (keys_at p seen c.args.challenge c.in-Accepted.ik c.in-Accepted.ck) m inner)
    (c.keys_at-master.ensures.master ∙ ap (λ (network : List ℕ). master_of p.options.method (text_or_none p.identity)
    (ik_by p.options.method network c.args.challenge.autn c.in-Accepted.ck c.in-Accepted.ik) (ck_by p.options.method network c.args.challenge.autn c.in-Accepted.ck c.in-Accepted.ik)) (c.as_slice.ensures ∙ c.requires.network))
    ∙ ap (λ (a : Answer). by_answer p seen c.args.challenge a inner) (sym c.in-Accepted.is)
