use Rattle.std.proofs.Common.{sym, ◌∙◌, ap, ◌+◌, ℕ}
use Rattle.std.specs.Prelude.{◌==◌}
use Rattle.std.proofs.lemmas.List.Splits.{length-slice_split}
use Rattle.auc_reading.proofs.schedule.part_count.Goals as goal

pub returns-clause-value : goal.returns-clause-value
returns-clause-value c = ap (λ (n : ℕ). n + 1) c.comma_count.ensures.value ∙ sym (length-slice_split (λ byte. byte == 44) c.args.schedule.now)
