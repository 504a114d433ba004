use Rattle.std.proofs.Common.{◌≤◌, List, ℕ, length, sym, ap, subst, ◌∙◌, true≢false}
use Rattle.auc_attr.specs.Item.{item}
use Rattle.auc_attr.specs.Spelling.{fits_row, row_text}
use Rattle.auc_attr.proofs.ItemLemmas.{fits_item-is}
use Rattle.auc_attr.proofs.SpellingLemmas.{item_text-is}
use Rattle.auc_memory.specs.Reserved.{wrote}
use Rattle.auc_attr.proofs.items.put_item.Goals as goal

pub layout_of-requires : goal.layout_of-requires
layout_of-requires c =
    ap (λ o. fits_row o c.args.value.now) c.in-Some.ensures
    ∙ sym (fits_item-is c.args.table (item c.args.kind c.args.value.now)) ∙ c.requires.fits

pub put_layout-requires-clause-room : goal.put_layout-requires-clause-room
put_layout-requires-clause-room c =
    subst (λ (text : List ℕ). length text ≤ c.args.room.now.left)
    (sym (c.layout_of.ensures.text c.args.kind ∙ ap (λ o. row_text o c.args.kind c.args.value.now) c.in-Some.ensures
    ∙ sym (item_text-is c.args.table (item c.args.kind c.args.value.now)))) c.requires.room

pub returns-in-Some : goal.returns-in-Some
returns-in-Some c =
    c.put_layout.ensures
    ∙ ap (wrote c.args.room.now) (c.layout_of.ensures.text c.args.kind ∙ ap (λ o. row_text o c.args.kind c.args.value.now) c.in-Some.ensures
    ∙ sym (item_text-is c.args.table (item c.args.kind c.args.value.now)))

pub returns-in_default : goal.returns-in_default
returns-in_default c =
    absurd (true≢false (sym c.requires.fits ∙ fits_item-is c.args.table (item c.args.kind c.args.value.now)
    ∙ ap (λ o. fits_row o c.args.value.now) (sym c.row_in.ensures ∙ c.in_default.is)))
