use Rattle.std.proofs.Common.{◌≡◌, ℕ, List, [], ◌∷◌, ◌++◌, Ok, sym, ap, ◌∙◌, subst}
use Rattle.auc_attr.specs.declared.attr.Attr.{Attr}
use Rattle.auc_attr.specs.declared.attr.Attr.TheVariants as attr
use Rattle.auc_seal.specs.Encrypted.{encrypted, Decrypts}
use Rattle.auc_seal.proofs.EncryptionLemmas.{put_twice}
use Rattle.auc_seal.proofs.encryption.encrypt_attrs.Goals as goal

pub returns-clause-decrypts : goal.returns-clause-decrypts
returns-clause-decrypts c =
    let pushed : c.push-2.new.self ≡ c.args.out.now ++ encrypted c.args.k_encr c.args.iv c.args.inner.now =
    put_twice c.args.out.now c.push.new.self c.push-2.new.self (attr.Iv c.args.iv) (attr.EncrData c.encrypted_data.result)
    (c.in_ok-push.ensures.pushed ∙ ap (λ (list : List Attr). list ++ attr.Iv c.args.iv ∷ []) c.in_ok-list.ensures) c.in_ok-push-2.ensures.pushed
    ∙ ap (λ (v : List ℕ). c.args.out.now ++ attr.Iv c.args.iv ∷ attr.EncrData v ∷ []) c.encrypted_data.ensures.value in
    subst (λ (list : List Attr). Decrypts c.args.k_encr list (Ok c.args.inner.now)) (sym pushed) (c.encrypted_data.ensures.decrypts c.args.out.now c.requires.out)
