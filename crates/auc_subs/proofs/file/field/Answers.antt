use Rattle.std.proofs.Common.{sym}
use Rattle.csv.specs.Records.{fields_of}
use Rattle.csv.proofs.RecordFacts.{field-get}
use Rattle.auc_subs.proofs.FileLemmas.{field_missing}
use Rattle.auc_subs.proofs.file.field.Goals as goal

pub returns-in-Some : goal.returns-in-Some
returns-in-Some c = sym (field-get (fields_of c.args.fields.now) c.args.place c.in-Some.field.now (cc (c.in-Some.ensures.value)))

pub returns-in-None : goal.returns-in-None
returns-in-None c = rw (c.as_slice.ensures) (sym (field_missing (fields_of c.args.fields.now) c.args.place (cc (c.in-None.ensures.value))))
