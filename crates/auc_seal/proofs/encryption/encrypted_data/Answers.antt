use Rattle.std.proofs.Common.{◌≡◌, ◌%◌, length, ap, ◌∙◌, subst, arith}
use Rattle.auc_attr.specs.Laws.{AreBytes}
use Rattle.auc_attr.specs.Spelling.{spelling}
use Rattle.auc_seal.specs.Encrypted.{padded}
use Rattle.auc_seal.proofs.EncryptionLemmas.{written_is, decrypted_again}
use Rattle.auc_seal.proofs.PaddingLemmas.{padded_size}
use Rattle.auc_seal.proofs.encryption.encrypted_data.Goals as goal

pub put_ciphertext-requires-clause-whole : goal.put_ciphertext-requires-clause-whole
put_ciphertext-requires-clause-whole c =
    ap (λ bytes. length bytes % 16) (c.as_slice.ensures ∙ written_is _ _ _ c.room.invariant.0.empty c.put_padded.ensures)
    ∙ (padded_size c.args.inner.now c.requires.writable).whole

pub put_ciphertext-requires-clause-small : goal.put_ciphertext-requires-clause-small
put_ciphertext-requires-clause-small c =
    let size : length c.as_slice.result.now ≡ length (spelling (padded c.args.inner.now)) =
    ap length (c.as_slice.ensures ∙ written_is _ _ _ c.room.invariant.0.empty c.put_padded.ensures) in
    omega (arith, size, (padded_size c.args.inner.now c.requires.writable).small c.requires.size)

pub returns-clause-decrypts : goal.returns-clause-decrypts
returns-clause-decrypts c = λ out none.
    let plain : c.as_slice.result.now ≡ spelling (padded c.args.inner.now) = c.as_slice.ensures ∙ written_is _ _ _ c.room.invariant.0.empty c.put_padded.ensures in
    decrypted_again c.args.k_encr c.args.iv c.args.inner.now out c.put_ciphertext.ensures.key c.put_ciphertext.ensures.iv c.requires
    (subst AreBytes plain c.put_ciphertext.ensures.plain) none

pub put_padded-requires-clause-room : goal.put_padded-requires-clause-room
put_padded-requires-clause-room c = omega (arith, (padded_size c.args.inner.now c.requires.writable).small c.requires.size, c.room.invariant.0.left)

pub put_ciphertext-requires-clause-room : goal.put_ciphertext-requires-clause-room
put_ciphertext-requires-clause-room c =
    let size : length c.as_slice.result.now ≡ length (spelling (padded c.args.inner.now)) =
    ap length (c.as_slice.ensures ∙ written_is _ _ _ c.room.invariant.0.empty c.put_padded.ensures) in
    omega (arith, size, (padded_size c.args.inner.now c.requires.writable).small c.requires.size, c.room.invariant.1.left)
