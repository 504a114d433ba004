use Rattle.std.proofs.Common.{◌≡◌, ◌≤◌, ℕ, List, [], ◌++◌, length, sym, ap, ◌∙◌, subst}
use Rattle.auc_memory.specs.Reserved.{Reserved}
use Rattle.auc_hmac.specs.Mac.{no_mac}
use Rattle.auc_packet.specs.declared.sealing.Draft.{Draft}
use Rattle.auc_packet.specs.Sealed.{MayBeSealed, sealed, with_mac}
use Rattle.auc_packet.specs.Spelling.{packet_text}
use Rattle.auc_server.specs.Messages.{reauth_bytes, reauth_draft}
use Rattle.auc_server.proofs.MessageLemmas.{reauth_may, reauth_size, resealed_size}
use Rattle.auc_server.proofs.messages.reauthentication.Goals as goal

pub put_sealed-requires-clause-writable : goal.put_sealed-requires-clause-writable
put_sealed-requires-clause-writable c =
    subst MayBeSealed (sym c.reauth_draft-draft.ensures) (reauth_may c.args.scene.now.options.now.method c.args.scene.now.realm.now c.args.scene.now.id c.args.iv c.args.sent.now c.args.check c.reauth_is_small.ensures c.requires.check)

pub put_sealed-requires-clause-room : goal.put_sealed-requires-clause-room
put_sealed-requires-clause-room c =
    subst (λ (n : ℕ). length (packet_text (with_mac c.reauth_draft-draft.result no_mac)) ≤ n) (sym c.requires.fresh.size)
    (subst (λ (d : Draft). length (packet_text (with_mac d no_mac)) ≤ 728) (sym c.reauth_draft-draft.ensures)
    (reauth_size c.args.scene.now.options.now.method c.args.scene.now.realm.now c.args.scene.now.id c.args.iv c.args.sent.now c.args.check c.reauth_is_small.ensures c.requires.check))

pub returns-clause-bytes : goal.returns-clause-bytes
unfolding reauth_bytes
returns-clause-bytes c =
    c.into_octets.ensures ∙ ap (λ (r : Reserved ℕ). r.written) c.put_sealed.ensures
    ∙ ap (λ (t : List ℕ). t ++ sealed c.args.sent.now.context.k_aut [] c.reauth_draft-draft.result) c.requires.fresh.empty
    ∙ ap (λ (d : Draft). sealed c.args.sent.now.context.k_aut [] d) c.reauth_draft-draft.ensures

pub returns-clause-size : goal.returns-clause-size
returns-clause-size c =
    let text : c.into_octets.result ≡ sealed c.args.sent.now.context.k_aut [] (reauth_draft c.args.scene.now.options.now.method c.args.scene.now.realm.now c.args.scene.now.id c.args.iv c.args.sent.now c.args.check) =
    c.into_octets.ensures ∙ ap (λ (r : Reserved ℕ). r.written) c.put_sealed.ensures
    ∙ ap (λ (t : List ℕ). t ++ sealed c.args.sent.now.context.k_aut [] c.reauth_draft-draft.result) c.requires.fresh.empty
    ∙ ap (λ (d : Draft). sealed c.args.sent.now.context.k_aut [] d) c.reauth_draft-draft.ensures in
    subst (λ (bytes : List ℕ). length bytes ≤ 728) (sym text)
    (resealed_size c.args.scene.now.options.now.method c.args.scene.now.realm.now c.args.scene.now.id c.args.iv c.args.sent.now c.args.check c.reauth_is_small.ensures c.requires.check)
