use Rattle.std.proofs.Common.{[], refl, sym, ap, ◌∙◌}
use Rattle.std.specs.Option.{option_copied}
use Rattle.auc_seal.specs.Encrypted.{data_of, iv_of, first_value, bytes_under}
use Rattle.auc_seal.proofs.decryption.decrypt_attrs.Goals as goal

pub returns-in_default : goal.returns-in_default
returns-in_default c = record {
  bytes = [];
  plain = ap (λ ciphertext. bytes_under c.args.k_encr ciphertext (first_value iv_of c.args.list.now))
      (ap (first_value data_of) (sym c.as_slice.ensures) ∙ sym c.first_data.ensures ∙ ap option_copied c.in_default.is);
  whole = [];
  reads = (refl, refl);
  rest = c.new.ensures;
}
