use Rattle.std.proofs.Common.{◌≡◌, ℕ, List, [], ◌∷◌, ◌++◌, Ok, sym, ap, ◌∙◌, subst}
use Rattle.auc_attr.specs.declared.attr.Attr.{Attr}
use Rattle.auc_attr.specs.declared.attr.Attr.TheVariants as attr
use Rattle.auc_memory.specs.Reserved.{Reserved}
use Rattle.auc_seal.specs.Encrypted.{encrypted, Decrypts}
use Rattle.auc_seal.proofs.EncryptionLemmas.{put_twice}
use Rattle.auc_seal.proofs.encryption.put_encrypted.Goals as goal

pub returns-clause-decrypts : goal.returns-clause-decrypts
returns-clause-decrypts c =
    let written : c.put-2.new.self.written ≡ c.args.out.now.written ++ encrypted c.args.k_encr c.args.iv c.args.inner.now =
    put_twice c.args.out.now.written c.put.new.self.written c.put-2.new.self.written (attr.Iv c.args.iv) (attr.EncrData c.encrypted_data.result)
    (ap (λ (places : Reserved Attr). places.written) c.put.ensures) (ap (λ (places : Reserved Attr). places.written) c.put-2.ensures)
    ∙ ap (λ (v : List ℕ). c.args.out.now.written ++ attr.Iv c.args.iv ∷ attr.EncrData v ∷ []) c.encrypted_data.ensures.value in
    subst (λ (list : List Attr). Decrypts c.args.k_encr list (Ok c.args.inner.now)) (sym written) (c.encrypted_data.ensures.decrypts c.args.out.now.written c.requires.out)
