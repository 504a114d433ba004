use Rattle.std.proofs.Common.{◌+◌, ◌∙◌, ap, nat_eq, sym}
use Rattle.std.proofs.lemmas.List.Splits.{length-slice_split}
use Rattle.auc_subs.proofs.FieldLemmas.{other_spaces, six_spaces}
use Rattle.auc_subs.proofs.field.has_seven_or_nine_fields.Goals as goal

pub returns-then-spaces-eq6 : goal.returns-then-spaces-eq6
returns-then-spaces-eq6 c =
    six_spaces _ c.space_count-spaces.result (length-slice_split (λ byte. nat_eq byte 32) c.args.line.now ∙ ap (λ n. n + 1) (sym c.space_count-spaces.ensures)) c.if-spaces-eq6.true

pub returns-else-spaces-eq6 : goal.returns-else-spaces-eq6
returns-else-spaces-eq6 c =
    other_spaces _ c.space_count-spaces.result (length-slice_split (λ byte. nat_eq byte 32) c.args.line.now ∙ ap (λ n. n + 1) (sym c.space_count-spaces.ensures)) c.if-spaces-eq6.false
