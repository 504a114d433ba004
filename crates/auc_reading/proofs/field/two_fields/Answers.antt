use Rattle.std.proofs.Common.{refl, rules}
use Rattle.auc_reading.proofs.FieldLemmas.{two_by_one}
use Rattle.auc_reading.proofs.field.two_fields.Goals as goal

pub returns : goal.returns
returns c = rw (c.in_ok-first.ensures, two_by_one, c.in_ok-one_field.ensures) refl

pub returns-in_err-one_field : goal.returns-in_err-one_field
returns-in_err-one_field c = rw (c.in_ok-first.ensures, two_by_one, c.in_err-one_field.ensures) (search rules)
