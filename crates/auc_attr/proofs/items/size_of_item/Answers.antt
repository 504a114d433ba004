use Rattle.std.proofs.Common.{length, sym, ap, ◌∙◌}
use Rattle.auc_attr.specs.Item.{item}
use Rattle.auc_attr.specs.Spelling.{fits_row, row_text}
use Rattle.auc_attr.proofs.ItemLemmas.{fits_item-is}
use Rattle.auc_attr.proofs.SpellingLemmas.{item_text-is}
use Rattle.auc_attr.proofs.items.size_of_item.Goals as goal

pub layout_of-requires : goal.layout_of-requires
layout_of-requires c =
    ap (λ o. fits_row o c.args.value.now) c.in-Some.ensures
    ∙ sym (fits_item-is c.args.table (item c.args.kind c.args.value.now)) ∙ c.requires

pub returns-in-Some-clause-value : goal.returns-in-Some-clause-value
returns-in-Some-clause-value c =
    c.size_of.ensures.value c.args.kind
    ∙ ap length (c.layout_of.ensures.text c.args.kind ∙ ap (λ o. row_text o c.args.kind c.args.value.now) c.in-Some.ensures
    ∙ sym (item_text-is c.args.table (item c.args.kind c.args.value.now)))

pub returns-in-None-clause-value : goal.returns-in-None-clause-value
returns-in-None-clause-value c =
    ap length (ap (λ o. row_text o c.args.kind c.args.value.now) c.in-None.ensures
    ∙ sym (item_text-is c.args.table (item c.args.kind c.args.value.now)))
