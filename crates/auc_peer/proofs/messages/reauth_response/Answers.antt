use Rattle.std.proofs.Common.{◌≡◌, ◌≤◌, ℕ, List, ◌++◌, length, sym, ap, ◌∙◌, subst}
use Rattle.std.proofs.Math.Nat.{le_trans}
use Rattle.auc_memory.specs.Reserved.{Reserved}
use Rattle.auc_hmac.specs.Mac.{no_mac}
use Rattle.auc_packet.specs.Sealed.{MayBeSealed, sealed, with_mac}
use Rattle.auc_packet.specs.Spelling.{packet_text}
use Rattle.auc_packet.specs.declared.sealing.Draft.{Draft}
use Rattle.auc_peer.specs.Messages.{reauth_draft}
use Rattle.auc_peer.proofs.CounterLemmas.{reauth_may, reauth_size, sealed_size}
use Rattle.auc_peer.proofs.messages.reauth_response.Goals as goal

pub put_sealed-requires-clause-writable : goal.put_sealed-requires-clause-writable
put_sealed-requires-clause-writable c =
    let h = c.args.hidden in
    subst MayBeSealed (sym c.reauth_draft-draft.ensures)
    (reauth_may c.args.heading.method c.args.heading.id h.k_encr h.iv h.counter h.small c.args.own.has c.args.own.value c.counter_is_one_block.ensures c.requires.own)

pub put_sealed-requires-clause-room : goal.put_sealed-requires-clause-room
put_sealed-requires-clause-room c =
    let h = c.args.hidden in
    le_trans (subst (λ (d : Draft). length (packet_text (with_mac d no_mac)) ≤ 104) (sym c.reauth_draft-draft.ensures)
    (reauth_size c.args.heading.method c.args.heading.id h.k_encr h.iv h.counter h.small c.args.own.has c.args.own.value c.counter_is_one_block.ensures c.requires.own)) c.requires.left

pub returns-clause-size : goal.returns-clause-size
returns-clause-size c =
    let h = c.args.hidden in
    let text : c.into_octets.result ≡ sealed h.k_aut h.nonce (reauth_draft c.args.heading.method c.args.heading.id h.k_encr h.iv h.counter h.small c.args.own.has c.args.own.value) =
    c.into_octets.ensures ∙ ap (λ (r : Reserved ℕ). r.written) c.put_sealed.ensures
    ∙ ap (λ (t : List ℕ). t ++ sealed h.k_aut h.nonce c.reauth_draft-draft.result) c.requires.empty
    ∙ ap (λ (d : Draft). sealed h.k_aut h.nonce d) c.reauth_draft-draft.ensures in
    subst (λ (bytes : List ℕ). length bytes ≤ 104) (sym text)
    (sealed_size c.args.heading.method c.args.heading.id h.k_aut h.nonce h.k_encr h.iv h.counter h.small c.args.own.has c.args.own.value c.counter_is_one_block.ensures c.requires.own)
