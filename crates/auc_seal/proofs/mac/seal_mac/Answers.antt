use Rattle.std.proofs.Common.{◌≡◌, ℕ, length, ap, sym, ◌∙◌, rules}
use Rattle.auc_aes.specs.Bytes.{with_block}
use Rattle.auc_seal.specs.Mac.{right_mac}
use Rattle.auc_seal.proofs.PlaceLemmas.{same_place, no_place}
use Rattle.auc_seal.proofs.SealLemmas.{sealed_is_right}
use Rattle.auc_seal.proofs.mac.seal_mac.Goals as goal

pub returns-in-Some-clause-right : goal.returns-in-Some-clause-right
returns-in-Some-clause-right c =
    sealed_is_right c.args.method c.args.k_aut.now c.args.packet.now c.args.extra.now _ c.in-Some.place c.right_mac-mac.ensures.bytes c.in-Some.ensures.place
    (sym (ap length c.right_mac-mac.ensures.value) ∙ search rules)
    (c.put_block.ensures ∙ ap (with_block c.args.packet.now c.in-Some.place) c.right_mac-mac.ensures.value)

pub returns-in-Some-clause-kept : goal.returns-in-Some-clause-kept
returns-in-Some-clause-kept c = λ place there.
    let same : c.in-Some.place ≡ place = same_place c.args.packet.now c.in-Some.place place c.in-Some.ensures.place there in
    c.put_block.ensures
    ∙ ap (with_block c.args.packet.now c.in-Some.place) c.right_mac-mac.ensures.value
    ∙ ap (λ (p : ℕ). with_block c.args.packet.now p (right_mac c.args.method c.args.k_aut.now c.args.packet.now p c.args.extra.now)) same

pub returns-in_default-clause-right : goal.returns-in_default-clause-right
returns-in_default-clause-right c = absurd (no_place c.args.packet.now c.requires.0 c.requires.1 c.in_default.ensures.place)

pub returns-in_default-clause-kept : goal.returns-in_default-clause-kept
returns-in_default-clause-kept c = λ place there. absurd (no_place c.args.packet.now place there c.in_default.ensures.place)
