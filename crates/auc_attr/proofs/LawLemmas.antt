-- The laws of the grammar: of items by every table, and of attributes of EAP-AKA.
use Rattle.std.proofs.Common.{◌≡◌, ◌≢◌, ℕ, ◌<◌, if◌then◌else◌, Bool, true, false, not, ◌&&◌, ◌==◌, ltb, List, [], ◌∷◌, ◌++◌, length, get_or, Option, Some, None, refl, sym, ap, ◌∙◌, arith, length-append}
use Rattle.std.specs.List.{list_all}
use Rattle.std.specs.Int.{w16, from_be_bytes}
use Rattle.std.proofs.lemmas.Bool.Decides.{nat_tests}
use Rattle.std.proofs.lemmas.Nat.{from_be_bytes-to_be_bytes_2}
use Rattle.auc_attr.specs.declared.attr.Attr.{Attr}
use Rattle.auc_attr.specs.declared.attr.Attr.TheVariants as attr
use Rattle.auc_attr.specs.declared.refusal.AttrRefusal.{AttrRefusal}
use Rattle.auc_attr.specs.declared.refusal.AttrRefusal.TheVariants as refusal
use Rattle.auc_attr.specs.declared.table.Row.{Row}
use Rattle.auc_attr.specs.declared.table.Table.{Table}
use Rattle.auc_attr.specs.declared.table.Table.TheVariants as tables
use Rattle.auc_attr.specs.Table.{row_of}
use Rattle.auc_attr.specs.Grammar.{IsAttrIn, WalksIn, FirstFaultIn}
use Rattle.auc_attr.specs.Item.{Item, item_of, items, is_named, is_skipped_row}
use Rattle.auc_attr.specs.Laws.{is_value, OneList, OneFaultIn, RefusedIsNotReadIn, RefusedIsNotRead, ReadIsWritableIn, ReadIsWritable, FoundIsFramedIn}
use Rattle.auc_attr.specs.Spelling.{stands_in, fits_item, fits_item_in, may_stand_row, may_follow_in, may_follow, writable_from_in, writable_from, item_text_in, texts_in}
use Rattle.auc_attr.proofs.Tools.{IsBytes, and_parts, and_from, some_is}
use Rattle.auc_attr.proofs.ItemLemmas.{attr_fits, attr_rest}
use Rattle.auc_attr.proofs.WalkLemmas.{one_walk_in}
use Rattle.auc_attr.proofs.SpellingLemmas.{attr_size_in}
use Rattle.auc_attr.proofs.FrameFaultLemmas.{frame_sound_in, frame_again_in}

-- ---- an attribute is determined by its item

-- the attribute of a type in the table with a value
abbrev known_from : ℕ → List ℕ → Attr
known_from kind v =
    if kind == 1 then attr.Rand v
    else if kind == 2 then attr.Autn v
    else if kind == 3 then attr.Res v
    else if kind == 4 then attr.Auts v
    else if kind == 6 then attr.Padding v
    else if kind == 10 then attr.PermanentIdReq
    else if kind == 11 then attr.Mac v
    else if kind == 12 then attr.Notification (from_be_bytes w16 v)
    else if kind == 13 then attr.AnyIdReq
    else if kind == 14 then attr.Identity v
    else if kind == 17 then attr.FullauthIdReq
    else if kind == 19 then attr.Counter (from_be_bytes w16 v)
    else if kind == 20 then attr.CounterTooSmall
    else if kind == 21 then attr.NonceS v
    else if kind == 22 then attr.ClientErrorCode (from_be_bytes w16 v)
    else if kind == 23 then attr.KdfInput v
    else if kind == 24 then attr.Kdf (from_be_bytes w16 v)
    else if kind == 129 then attr.Iv v
    else if kind == 130 then attr.EncrData v
    else if kind == 132 then attr.NextPseudonym v
    else if kind == 133 then attr.NextReauthId v
    else if kind == 134 then attr.Checkcode v
    else if kind == 135 then attr.ResultInd
    else attr.Bidding (get_or v 0 0 == 1)

-- the attribute of an item
abbrev attr_from : Item → Attr
attr_from i = if is_skipped_row (row_of i.kind) then attr.Skipped i.kind i.value else known_from i.kind i.value

-- a number that passes the test of 16 bits has them
below : (n : ℕ) → ltb n 65536 ≡ true → n < 65536
below n e = grind (arith, nat_tests)

-- an attribute is that of its item
from_item : (a : Attr) → is_named a ≡ true → is_value a ≡ true → attr_from (item_of a) ≡ a
unfolding row_of
from_item (attr.Rand v) e f = refl
from_item (attr.Autn v) e f = refl
from_item (attr.Res v) e f = refl
from_item (attr.Auts v) e f = refl
from_item (attr.Padding v) e f = refl
from_item attr.PermanentIdReq e f = refl
from_item (attr.Mac v) e f = refl
from_item (attr.Notification n) e f = ap (λ m. attr.Notification m) (from_be_bytes-to_be_bytes_2 n (below n f))
from_item attr.AnyIdReq e f = refl
from_item (attr.Identity v) e f = refl
from_item attr.FullauthIdReq e f = refl
from_item (attr.Counter n) e f = ap (λ m. attr.Counter m) (from_be_bytes-to_be_bytes_2 n (below n f))
from_item attr.CounterTooSmall e f = refl
from_item (attr.NonceS v) e f = refl
from_item (attr.ClientErrorCode n) e f = ap (λ m. attr.ClientErrorCode m) (from_be_bytes-to_be_bytes_2 n (below n f))
from_item (attr.KdfInput v) e f = refl
from_item (attr.Kdf n) e f = ap (λ m. attr.Kdf m) (from_be_bytes-to_be_bytes_2 n (below n f))
from_item (attr.Iv v) e f = refl
from_item (attr.EncrData v) e f = refl
from_item (attr.NextPseudonym v) e f = refl
from_item (attr.NextReauthId v) e f = refl
from_item (attr.Checkcode v) e f = refl
from_item attr.ResultInd e f = refl
from_item (attr.Bidding true) e f = refl
from_item (attr.Bidding false) e f = refl
from_item (attr.Skipped kind v) e f = ap (λ (b : Bool). if b then attr.Skipped kind v else known_from kind v) e

-- two attributes with one item are one
same_attr : (a b : Attr) → is_named a ≡ true → is_value a ≡ true → is_named b ≡ true → is_value b ≡ true → item_of a ≡ item_of b → a ≡ b
same_attr a b na va nb vb e = sym (from_item a na va) ∙ ap (λ i. attr_from i) e ∙ from_item b nb vb

-- two lists with one list of items are one
same_list : (list other : List Attr) → list_all is_named list ≡ true → list_all is_value list ≡ true → list_all is_named other ≡ true → list_all is_value other ≡ true
    → items list ≡ items other → list ≡ other
same_list [] [] na va nb vb e = refl
same_list [] (b ∷ other) na va nb vb e = absurd cc
same_list (a ∷ list) [] na va nb vb e = absurd cc
same_list (a ∷ list) (b ∷ other) na va nb vb e =
    let pa = and_parts (is_named a) (list_all is_named list) na in
    let qa = and_parts (is_value a) (list_all is_value list) va in
    let pb = and_parts (is_named b) (list_all is_named other) nb in
    let qb = and_parts (is_value b) (list_all is_value other) vb in
    let front : item_of a ≡ item_of b = cc in
    let back : items list ≡ items other = cc in
    ap (λ (x : Attr). x ∷ list) (same_attr a b pa.0 qa.0 pb.0 qb.0 front) ∙ ap (λ (xs : List Attr). b ∷ xs) (same_list list other pa.1 qa.1 pb.1 qb.1 back)

-- bytes are one list of attributes
pub one_list : OneList
one_list bytes list other va vb p q =
    same_list list other p.1 va q.1 vb (one_walk_in tables.Aka [] bytes (items list) (items other) None None p.0 q.0).0

module _ (table : Table) where
  -- ---- faults

  -- a first fault follows a list of items
  fault_walk : (bytes : List ℕ) (f : AttrRefusal) → f ≢ refusal.NoMemory → FirstFaultIn table bytes f → (is : List Item) × WalksIn table [] bytes is (Some f)
  fault_walk bytes refusal.Truncated n p = p
  fault_walk bytes refusal.ZeroLength n p = p
  fault_walk bytes (refusal.BadLength k) n p = p
  fault_walk bytes (refusal.UnknownType k) n p = p
  fault_walk bytes (refusal.Twice k) n p = p
  fault_walk bytes refusal.BadPadding n p = p
  fault_walk bytes refusal.NoMemory n p = absurd (n refl)

  -- bytes have one first fault
  pub one_fault_in : OneFaultIn table
  one_fault_in bytes f g nf ng p q =
      let a = fault_walk bytes f nf p in
      let b = fault_walk bytes g ng q in
      some_is f g (one_walk_in table [] bytes a.0 b.0 (Some f) (Some g) a.1 b.1).1

  -- an end is no fault
  none_or_some : (f : AttrRefusal) → Some f ≡ None → ⊥
  none_or_some f e = cc

  -- bytes with a fault are no list of items
  pub refused_is_not_read_in : RefusedIsNotReadIn table
  refused_is_not_read_in bytes is f nf p q =
      let a = fault_walk bytes f nf p in
      none_or_some f (one_walk_in table [] bytes a.0 is (Some f) None a.1 q).1

  -- ---- what is read may be written

  -- an attribute that was read may be written in its place
  may_again : (seen : List ℕ) (i : Item) (bytes rest : List ℕ) → IsBytes bytes → IsAttrIn table seen i bytes rest → may_follow_in table i (stands_in seen i.kind) ≡ true
  may_again seen i bytes rest fits p =
      and_from (fits_item_in table i) _ (attr_fits table seen i bytes rest p fits)
      (ap (λ (o : Option Row). may_stand_row o (stands_in seen i.kind)) p.known ∙ ap (λ b. not b) p.first)

  -- items that are read may be written
  items_may : (seen bytes : List ℕ) (is : List Item) → IsBytes bytes → WalksIn table seen bytes is None → writable_from_in table seen is ≡ true
  items_may seen bytes [] fits w = refl
  items_may seen bytes (i ∷ is) fits w =
      and_from (may_follow_in table i (stands_in seen i.kind)) (writable_from_in table (seen ++ i.kind ∷ []) is) (may_again seen i bytes w.0 fits w.1)
      (items_may (seen ++ i.kind ∷ []) w.0 is (attr_rest table seen i bytes w.0 w.1 fits) w.2)

  -- items that are read are written in as many bytes
  items_size : (seen bytes : List ℕ) (is : List Item) → WalksIn table seen bytes is None → length (texts_in table is) ≡ length bytes
  items_size seen bytes [] w = ap length (sym w)
  items_size seen bytes (i ∷ is) w =
      omega (arith, length-append (item_text_in table i) (texts_in table is), attr_size_in table seen i bytes w.0 w.1, items_size (seen ++ i.kind ∷ []) w.0 is w.2)

  -- what is read may be written, in as many bytes
  pub read_is_writable_in : ReadIsWritableIn table
  read_is_writable_in bytes is fits p = (items_may [] bytes is fits p, items_size [] bytes is p)

  -- what the tests of a packet find is what stands there
  pub found_is_framed_in : FoundIsFramedIn table
  found_is_framed_in bytes f fits = (frame_sound_in table bytes f fits, frame_again_in table f bytes)

-- ---- attributes of EAP-AKA

-- bytes with a fault are no list of attributes
pub refused_is_not_read : RefusedIsNotRead
refused_is_not_read bytes list f nf p q = refused_is_not_read_in tables.Aka bytes (items list) f nf p q.0

-- a list whose items may be written may be written, if each attribute goes by its own name
list_may : (seen : List ℕ) (list : List Attr) → writable_from_in tables.Aka seen (items list) ≡ true → list_all is_named list ≡ true → writable_from seen list ≡ true
list_may seen [] e named = refl
list_may seen (a ∷ list) e named =
    let kind = (item_of a).kind in
    let p = and_parts (may_follow_in tables.Aka (item_of a) (stands_in seen kind)) (writable_from_in tables.Aka (seen ++ kind ∷ []) (items list)) e in
    let q = and_parts (fits_item (item_of a)) (may_stand_row (row_of kind) (stands_in seen kind)) p.0 in
    let n = and_parts (is_named a) (list_all is_named list) named in
    and_from (may_follow a (stands_in seen kind)) (writable_from (seen ++ kind ∷ []) list)
    (and_from (fits_item (item_of a) && is_named a) _ (and_from (fits_item (item_of a)) (is_named a) q.0 n.0) q.1)
    (list_may (seen ++ kind ∷ []) list p.1 n.1)

-- what is read may be written, in as many bytes
pub read_is_writable : ReadIsWritable
read_is_writable bytes list fits p =
    let q = read_is_writable_in tables.Aka bytes (items list) fits p.0 in
    (list_may [] list q.0 p.1, q.1)
