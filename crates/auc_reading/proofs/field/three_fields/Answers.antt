use Rattle.std.proofs.Common.{refl, rules}
use Rattle.auc_reading.proofs.FieldLemmas.{three_by_two}
use Rattle.auc_reading.proofs.field.three_fields.Goals as goal

pub returns : goal.returns
returns c = rw (c.in_ok-first.ensures, three_by_two, c.in_ok-second.ensures) refl

pub returns-in_err-second : goal.returns-in_err-second
returns-in_err-second c = rw (c.in_ok-first.ensures, three_by_two, c.in_err-second.ensures) (search rules)
