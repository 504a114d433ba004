use Rattle.std.proofs.Common.{◌≡◌, drop}
use Rattle.auc_seal.specs.Encrypted.{data_of, first_value}
use Rattle.auc_seal.proofs.decryption.first_data.Given as goal

abbrev pub invariant-loop-attr : goal.invariant-loop-attr
invariant-loop-attr l = first_value data_of (drop l.attr-index l.list) ≡ first_value data_of l.list
