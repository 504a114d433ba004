use Rattle.std.proofs.Common.{◌≡◌, ◌∙◌, ◌∷◌, [], length, refl, rules}
use Rattle.csv.specs.Records.{fields_of}
use Rattle.auc_subs.proofs.FieldLemmas.{row_of_given}
use Rattle.auc_subs.proofs.file.row_in.Goals as goal

pub returns-clause-value : goal.returns-clause-value
returns-clause-value c =
    let same : length (fields_of c.args.fields.now) ≡ c.args.count = search rules in
    let given = c.field.result ∷ c.field-2.result ∷ c.field-3.result ∷ c.field-4.result ∷ c.field-5.result ∷ c.field-6.result ∷ c.field-7.result ∷ c.field-8.result ∷ c.field-9.result ∷ [] in
    c.read_row.ensures.value
    ∙ row_of_given c.args.count (fields_of c.args.fields.now) given
    (rw (c.field.ensures, c.field-2.ensures, c.field-3.ensures, c.field-4.ensures, c.field-5.ensures, c.field-6.ensures, c.field-7.ensures, c.field-8.ensures, c.field-9.ensures) refl)
    c.requires same
