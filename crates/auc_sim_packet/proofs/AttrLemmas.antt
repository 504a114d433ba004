-- An attribute is determined by its item.
use Rattle.std.proofs.Common.{◌≡◌, ℕ, ◌<◌, if◌then◌else◌, Bool, true, ◌==◌, ltb, List, [], ◌∷◌, refl, sym, ap, ◌∙◌, arith}
use Rattle.std.specs.List.{list_all}
use Rattle.std.specs.Int.{w16, from_be_bytes}
use Rattle.std.proofs.lemmas.Bool.Decides.{nat_tests}
use Rattle.std.proofs.lemmas.Nat.{from_be_bytes-to_be_bytes_2}
use Rattle.auc_attr.specs.declared.table.Table.TheVariants as tables
use Rattle.auc_attr.specs.Item.{Item, is_skipped_row}
use Rattle.auc_attr.specs.Table.{row_in, sim_row_of}
use Rattle.auc_attr.proofs.Facts.{and_parts}
use Rattle.auc_sim_packet.specs.declared.attr.SimAttr.{SimAttr}
use Rattle.auc_sim_packet.specs.declared.attr.SimAttr.TheVariants as attr
use Rattle.auc_sim_packet.specs.Attributes.{item_of, items, is_named, is_value}

-- the attribute of a type in the table with a value
abbrev known_from : ℕ → List ℕ → SimAttr
known_from kind v =
    if kind == 1 then attr.Rand v
    else if kind == 7 then attr.NonceMt v
    else if kind == 10 then attr.PermanentIdReq
    else if kind == 11 then attr.Mac v
    else if kind == 13 then attr.AnyIdReq
    else if kind == 14 then attr.Identity v
    else if kind == 15 then attr.VersionList v
    else if kind == 16 then attr.SelectedVersion (from_be_bytes w16 v)
    else if kind == 17 then attr.FullauthIdReq
    else attr.ClientErrorCode (from_be_bytes w16 v)

-- the attribute of an item
abbrev attr_from : Item → SimAttr
attr_from i = if is_skipped_row (row_in tables.Sim i.kind) then attr.Skipped i.kind i.value else known_from i.kind i.value

-- a number that passes the test of 16 bits has them
below : (n : ℕ) → ltb n 65536 ≡ true → n < 65536
below n e = grind (arith, nat_tests)

-- an attribute is that of its item
from_item : (a : SimAttr) → is_named a ≡ true → is_value a ≡ true → attr_from (item_of a) ≡ a
unfolding sim_row_of
from_item (attr.Rand v) e f = refl
from_item (attr.NonceMt v) e f = refl
from_item attr.PermanentIdReq e f = refl
from_item (attr.Mac v) e f = refl
from_item attr.AnyIdReq e f = refl
from_item (attr.Identity v) e f = refl
from_item (attr.VersionList v) e f = refl
from_item (attr.SelectedVersion n) e f = ap (λ m. attr.SelectedVersion m) (from_be_bytes-to_be_bytes_2 n (below n f))
from_item attr.FullauthIdReq e f = refl
from_item (attr.ClientErrorCode n) e f = ap (λ m. attr.ClientErrorCode m) (from_be_bytes-to_be_bytes_2 n (below n f))
from_item (attr.Skipped kind v) e f = ap (λ (b : Bool). if b then attr.Skipped kind v else known_from kind v) e

-- two attributes with one item are one
same_attr : (a b : SimAttr) → is_named a ≡ true → is_value a ≡ true → is_named b ≡ true → is_value b ≡ true → item_of a ≡ item_of b → a ≡ b
same_attr a b na va nb vb e = sym (from_item a na va) ∙ ap (λ i. attr_from i) e ∙ from_item b nb vb

-- two lists with one list of items are one
pub same_list : (list other : List SimAttr) → list_all is_named list ≡ true → list_all is_value list ≡ true → list_all is_named other ≡ true → list_all is_value other ≡ true
    → items list ≡ items other → list ≡ other
same_list [] [] na va nb vb e = refl
same_list [] (b ∷ other) na va nb vb e = absurd cc
same_list (a ∷ list) [] na va nb vb e = absurd cc
same_list (a ∷ list) (b ∷ other) na va nb vb e =
    let pa = and_parts (is_named a) (list_all is_named list) na in
    let qa = and_parts (is_value a) (list_all is_value list) va in
    let pb = and_parts (is_named b) (list_all is_named other) nb in
    let qb = and_parts (is_value b) (list_all is_value other) vb in
    let front : item_of a ≡ item_of b = cc in
    let back : items list ≡ items other = cc in
    ap (λ (x : SimAttr). x ∷ list) (same_attr a b pa.0 qa.0 pb.0 qb.0 front) ∙ ap (λ (xs : List SimAttr). b ∷ xs) (same_list list other pa.1 qa.1 pb.1 qb.1 back)
