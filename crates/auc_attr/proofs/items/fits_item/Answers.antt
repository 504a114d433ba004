use Rattle.std.proofs.Common.{sym, ap, ◌∙◌}
use Rattle.auc_attr.specs.Item.{item}
use Rattle.auc_attr.specs.Spelling.{fits_row}
use Rattle.auc_attr.proofs.ItemLemmas.{fits_item-is}
use Rattle.auc_attr.proofs.items.fits_item.Goals as goal

pub returns-in-None : goal.returns-in-None
returns-in-None c = ap (λ o. fits_row o c.args.value.now) c.in-None.ensures ∙ sym (fits_item-is c.args.table (item c.args.kind c.args.value.now))

pub returns-in-Some : goal.returns-in-Some
returns-in-Some c =
    c.fits.ensures ∙ ap (λ o. fits_row o c.args.value.now) c.in-Some.ensures
    ∙ sym (fits_item-is c.args.table (item c.args.kind c.args.value.now))
