use Rattle.std.proofs.Common.{length, ap, ◌∙◌}
use Rattle.auc_attr.specs.Spelling.{item_text}
use Rattle.auc_attr.proofs.writing.size_of_attr.Goals as goal

pub returns : goal.returns
returns c =
    c.size_of_item.ensures.value ∙ ap (λ i. length (item_text i)) (rw c.as_slice.ensures c.parts_of-parts.ensures)
