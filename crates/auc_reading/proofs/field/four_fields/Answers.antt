use Rattle.std.proofs.Common.{refl, rules}
use Rattle.auc_reading.proofs.FieldLemmas.{four_by_three}
use Rattle.auc_reading.proofs.field.four_fields.Goals as goal

pub returns : goal.returns
returns c = rw (c.in_ok-first.ensures, four_by_three, c.in_ok-second.ensures) refl

pub returns-in_err-second : goal.returns-in_err-second
returns-in_err-second c = rw (c.in_ok-first.ensures, four_by_three, c.in_err-second.ensures) (search rules)
