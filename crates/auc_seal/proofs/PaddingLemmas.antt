-- For a list of attributes with padding behind it: how many bytes it takes, that it may be written, and that
-- without the padding it is the list.
use Rattle.std.proofs.Common.{◌≡◌, ◌≢◌, ℕ, zero, suc, ◌+◌, ◌-◌, ◌*◌, ◌%◌, ◌<◌, ◌≤◌, ◌⊎◌, inl, inr, ◌==◌, nat_lt, Bool, true, false, not, ◌||◌, cond, if◌then◌else◌, List, [], ◌∷◌, ◌++◌, length, map, replicate, None, refl, sym, ap, ◌∙◌, subst, arith, append_assoc, length-append}
use Rattle.std.specs.List.{list_all, list_any}
use Rattle.std.proofs.lemmas.Bool.{eqb-true}
use Rattle.std.proofs.lemmas.Bool.Decides.{nat_tests}
use Rattle.std.proofs.lemmas.List.{append-nil, length-replicate}
use Rattle.std.proofs.lemmas.List.Elements.{filter-append}
use Rattle.auc_aes.proofs.Facts.{bytes_append}
use Rattle.auc_attr.specs.declared.attr.Attr.{Attr}
use Rattle.auc_attr.specs.declared.attr.Attr.TheVariants as attr
use Rattle.auc_attr.specs.Table.{row_of}
use Rattle.auc_attr.specs.Grammar.{IsAttr, Walks}
use Rattle.auc_attr.specs.Item.{Item, item_of, items, is_named, is_skipped_row}
use Rattle.auc_attr.specs.Laws.{AreBytes}
use Rattle.auc_attr.specs.Spelling.{stands_in, fits, fits_item, may_follow, writable_from, writable, item_text, shape_text, spelling}
use Rattle.auc_attr.proofs.Facts.{and_parts, and_from, attr_size, written_attributes_are_read}
use Rattle.auc_seal.specs.Encrypted.{is_padding, missing, padding_for, padded, without_padding, MayBeEncrypted}

-- ---- sizes

-- the spelling of two lists, one after the other
pub spelling-append : (xs ys : List Attr) → spelling (xs ++ ys) ≡ spelling xs ++ spelling ys
spelling-append [] ys = refl
spelling-append (x ∷ xs) ys =
    ap (λ (t : List ℕ). item_text (item_of x) ++ t) (spelling-append xs ys) ∙ sym (append_assoc (item_text (item_of x)) (spelling xs) (spelling ys))

-- an attribute takes some whole units
attr_whole : (seen : List ℕ) (i : Item) (bytes rest : List ℕ) → IsAttr seen i bytes rest → (length (item_text i) % 4 ≡ 0) × (0 < length (item_text i))
attr_whole seen i bytes rest p =
    let size : length (item_text i) ≡ 4 * p.units = omega (arith, attr_size seen i bytes rest p, ap length p.parts, length-append p.body rest, p.size) in
    (omega arith, omega (arith, p.some))

-- so do attributes one after the other
walk_whole : (seen bytes : List ℕ) (list : List Attr) → Walks seen bytes (items list) None → length (spelling list) % 4 ≡ 0
walk_whole seen bytes [] w = refl
walk_whole seen bytes (a ∷ list) w =
    let first = attr_whole seen (item_of a) bytes w.0 w.1 in
    omega (arith, length-append (item_text (item_of a)) (spelling list), first.0, walk_whole (seen ++ (item_of a).kind ∷ []) w.0 list w.2)

-- the spelling of a list that may be written has whole units
pub spelled_whole : (list : List Attr) → writable list ≡ true → length (spelling list) % 4 ≡ 0
spelled_whole list e = walk_whole [] (spelling list) list (written_attributes_are_read list e).0

-- the spelling of some attributes has some bytes
walk_some : (bytes : List ℕ) (list : List Attr) → list ≢ [] → Walks [] bytes (items list) None → 0 < length (spelling list)
walk_some bytes [] some w = absurd (some refl)
walk_some bytes (a ∷ list) some w = omega (arith, length-append (item_text (item_of a)) (spelling list), (attr_whole [] (item_of a) bytes w.0 w.1).1)

-- a padding takes two bytes more than its value
padding_size : (zeros : List ℕ) → length (spelling (attr.Padding zeros ∷ [])) ≡ length zeros + 2
unfolding row_of item_text shape_text
padding_size zeros = omega (arith, length-append (zeros ++ []) [], length-append zeros [])

padding_by : (b : Bool) (m : ℕ) → (m == 0) ≡ b → m % 4 ≡ 0 → length (spelling (if b then [] else attr.Padding (replicate (m - 2) 0) ∷ [])) ≡ m
padding_by true m e w = sym (eqb-true m 0 e)
padding_by false m e w =
    let some : 0 < m = grind (arith, nat_tests) in
    padding_size (replicate (m - 2) 0) ∙ omega (arith, length-replicate {A = ℕ} (m - 2) 0)

-- the padding for whole units takes as many bytes as are missing
pub padding_fills : (n : ℕ) → n % 4 ≡ 0 → length (spelling (padding_for n)) ≡ missing n
padding_fills n w = padding_by (missing n == 0) (missing n) refl (omega arith)

-- what is spelled of a padded list
pub padded_text : (inner : List Attr) → spelling (padded inner) ≡ spelling inner ++ spelling (padding_for (length (spelling inner)))
padded_text inner = spelling-append inner (padding_for (length (spelling inner)))

-- how many bytes a padded list takes
pub record IsPadded (n m : ℕ) : Type 0 where
  pub whole : m % 16 ≡ 0
  pub small : n ≤ 992 → m ≤ 992
  pub more : n ≤ m

pub padded_size : (inner : List Attr) → writable inner ≡ true → IsPadded (length (spelling inner)) (length (spelling (padded inner)))
padded_size inner e =
    let n = length (spelling inner) in
    let units : n % 4 ≡ 0 = spelled_whole inner e in
    let size : length (spelling (padded inner)) ≡ n + missing n =
    ap length (padded_text inner) ∙ length-append (spelling inner) (spelling (padding_for n)) ∙ ap (λ (m : ℕ). n + m) (padding_fills n units) in
    record { whole = omega arith; small = λ h. omega arith; more = omega arith }

-- a padded list takes some whole blocks
pub some_blocks : (inner : List Attr) → MayBeEncrypted inner → (0 < length (spelling (padded inner))) × (length (spelling (padded inner)) % 16 ≡ 0)
some_blocks inner m =
    let p = padded_size inner m.writable in
    (omega (arith, p.more, walk_some (spelling inner) inner m.some (written_attributes_are_read inner m.writable).0), p.whole)

-- ---- the bytes of a padding

pads : (n m : ℕ) (text : List ℕ) → missing n ≡ m → text ≡ spelling (if m == 0 then [] else attr.Padding (replicate (m - 2) 0) ∷ []) → text ≡ spelling (padding_for n)
pads n m text e f = f ∙ ap (λ (k : ℕ). spelling (if k == 0 then [] else attr.Padding (replicate (k - 2) 0) ∷ [])) (sym e)

-- none, 4, 8 and 12
pub pads_0 : (n : ℕ) → missing n ≡ 0 → [] ≡ spelling (padding_for n)
pads_0 n e = pads n 0 [] e refl

pub pads_4 : (n : ℕ) → missing n ≡ 4 → 6 ∷ 1 ∷ 0 ∷ 0 ∷ [] ≡ spelling (padding_for n)
unfolding row_of item_text shape_text
pads_4 n e = pads n 4 (6 ∷ 1 ∷ 0 ∷ 0 ∷ []) e refl

pub pads_8 : (n : ℕ) → missing n ≡ 8 → 6 ∷ 2 ∷ 0 ∷ 0 ∷ 0 ∷ 0 ∷ 0 ∷ 0 ∷ [] ≡ spelling (padding_for n)
unfolding row_of item_text shape_text
pads_8 n e = pads n 8 (6 ∷ 2 ∷ 0 ∷ 0 ∷ 0 ∷ 0 ∷ 0 ∷ 0 ∷ []) e refl

pub pads_12 : (n : ℕ) → missing n ≡ 12 → 6 ∷ 3 ∷ 0 ∷ 0 ∷ 0 ∷ 0 ∷ 0 ∷ 0 ∷ 0 ∷ 0 ∷ 0 ∷ 0 ∷ [] ≡ spelling (padding_for n)
unfolding row_of item_text shape_text
pads_12 n e = pads n 12 (6 ∷ 3 ∷ 0 ∷ 0 ∷ 0 ∷ 0 ∷ 0 ∷ 0 ∷ 0 ∷ 0 ∷ 0 ∷ 0 ∷ []) e refl

-- ---- a padded list may be written

-- the types of a list
abbrev pub kinds : List Attr → List ℕ
kinds list = map (λ (a : Attr). (item_of a).kind) list

-- one more attribute may be written behind a list where its type may follow
pub writable_more : (seen : List ℕ) (list : List Attr) (a : Attr) → writable_from seen list ≡ true → may_follow a (stands_in (seen ++ kinds list) (item_of a).kind) ≡ true
    → writable_from seen (list ++ a ∷ []) ≡ true
writable_more seen [] a e f = and_from (may_follow a (stands_in seen (item_of a).kind)) true (ap (λ (s : List ℕ). may_follow a (stands_in s (item_of a).kind)) (sym (append-nil seen)) ∙ f) refl
writable_more seen (x ∷ list) a e f =
    let kind = (item_of x).kind in
    let p = and_parts (may_follow x (stands_in seen kind)) (writable_from (seen ++ kind ∷ []) list) e in
    and_from (may_follow x (stands_in seen kind)) (writable_from (seen ++ kind ∷ []) (list ++ a ∷ [])) p.0
    (writable_more (seen ++ kind ∷ []) list a p.1
    (ap (λ (s : List ℕ). may_follow a (stands_in s (item_of a).kind)) (append_assoc seen (kind ∷ []) (kinds list)) ∙ f))

-- a type of the table is no foreign one
foreign_by : (b : Bool) (kind n : ℕ) → (kind == n) ≡ b → is_skipped_row (row_of n) ≡ false → is_skipped_row (row_of kind) ≡ true → b ≡ false
foreign_by true kind n e known skipped =
    let same : is_skipped_row (row_of kind) ≡ is_skipped_row (row_of n) = ap (λ (k : ℕ). is_skipped_row (row_of k)) (eqb-true kind n e) in
    absurd cc
foreign_by false kind n e known skipped = refl

-- a foreign type is none of the table
pub foreign_kind : (kind n : ℕ) → is_skipped_row (row_of n) ≡ false → is_skipped_row (row_of kind) ≡ true → (kind == n) ≡ false
foreign_kind kind n known skipped = foreign_by (kind == n) kind n refl known skipped

-- an attribute that isn't padding has another type
other_kind : (a : Attr) → is_named a ≡ true → is_padding a ≡ false → ((item_of a).kind == 6) ≡ false
unfolding row_of
other_kind (attr.Padding v) n p = absurd cc
other_kind (attr.Skipped kind v) n p = foreign_kind kind 6 refl n
other_kind _ n p = refl

-- neither of two tests held
or_parts : (a b : Bool) → (a || b) ≡ false → (a ≡ false) × (b ≡ false)
or_parts true b e = absurd cc
or_parts false b e = (refl, e)

or_from : (a b : Bool) → a ≡ false → b ≡ false → (a || b) ≡ false
or_from a b e f = rw (e, f) refl

-- a type stands nowhere in a list none of whose attributes passes a test that each attribute of the type passes
pub stands_nowhere : (test : Attr → Bool) (kind : ℕ) → ((a : Attr) → is_named a ≡ true → test a ≡ false → ((item_of a).kind == kind) ≡ false)
    → (list : List Attr) → list_all is_named list ≡ true → list_any test list ≡ false → stands_in (kinds list) kind ≡ false
stands_nowhere test kind other [] n e = refl
stands_nowhere test kind other (a ∷ list) n e =
    let p = and_parts (is_named a) (list_all is_named list) n in
    let q = or_parts (test a) (list_any test list) e in
    or_from ((item_of a).kind == kind) (stands_in (kinds list) kind) (other a p.0 q.0) (stands_nowhere test kind other list p.1 q.1)

-- how many bytes may be missing to whole blocks
sizes_of : (m : ℕ) → m % 4 ≡ 0 → m < 16 → (m ≡ 0) ⊎ ((m ≡ 4) ⊎ ((m ≡ 8) ⊎ (m ≡ 12)))
sizes_of m e l = grind arith

-- a padding may be written where none stood
zeros_follow : (m : ℕ) → (m ≡ 4) ⊎ ((m ≡ 8) ⊎ (m ≡ 12)) → may_follow (attr.Padding (replicate (m - 2) 0)) false ≡ true
unfolding row_of fits_item fits
zeros_follow m (inl e) = ap (λ (n : ℕ). may_follow (attr.Padding (replicate (n - 2) 0)) false) e
zeros_follow m (inr (inl e)) = ap (λ (n : ℕ). may_follow (attr.Padding (replicate (n - 2) 0)) false) e
zeros_follow m (inr (inr e)) = ap (λ (n : ℕ). may_follow (attr.Padding (replicate (n - 2) 0)) false) e

-- a list that may be written and has no padding may be written with one
padded_by : (inner : List Attr) (m : ℕ) → writable inner ≡ true → stands_in (kinds inner) 6 ≡ false → (m ≡ 0) ⊎ ((m ≡ 4) ⊎ ((m ≡ 8) ⊎ (m ≡ 12)))
    → writable (inner ++ (if m == 0 then [] else attr.Padding (replicate (m - 2) 0) ∷ [])) ≡ true
padded_by inner m w none (inl e) =
    ap (λ (n : ℕ). writable (inner ++ (if n == 0 then [] else attr.Padding (replicate (n - 2) 0) ∷ []))) e ∙ ap (λ (l : List Attr). writable l) (append-nil inner) ∙ w
padded_by inner m w none (inr some) =
    let filled : (m == 0) ≡ false = grind (arith, nat_tests) in
    ap (λ (b : Bool). writable (inner ++ (if b then [] else attr.Padding (replicate (m - 2) 0) ∷ []))) filled
    ∙ writable_more [] inner (attr.Padding (replicate (m - 2) 0)) w (ap (λ (b : Bool). may_follow (attr.Padding (replicate (m - 2) 0)) b) none ∙ zeros_follow m some)

pub padded_writable : (inner : List Attr) → MayBeEncrypted inner → writable (padded inner) ≡ true
padded_writable inner m =
    let named : list_all is_named inner ≡ true = (written_attributes_are_read inner m.writable).1 in
    let units : length (spelling inner) % 4 ≡ 0 = spelled_whole inner m.writable in
    padded_by inner (missing (length (spelling inner))) m.writable (stands_nowhere is_padding 6 other_kind inner named m.unpadded)
    (sizes_of (missing (length (spelling inner))) (omega arith) (omega arith))

-- ---- a padded list without its padding

kept_by : (b : Bool) (a : Attr) (list : List Attr) → b ≡ false → cond (not b) (a ∷ list) list ≡ a ∷ list
kept_by b a list e = rw e refl

-- a list that has no padding stays
unpadded_stays : (list : List Attr) → list_any is_padding list ≡ false → without_padding list ≡ list
unpadded_stays [] e = refl
unpadded_stays (a ∷ list) e =
    let p = or_parts (is_padding a) (list_any is_padding list) e in
    kept_by (is_padding a) a (without_padding list) p.0 ∙ ap (λ (l : List Attr). a ∷ l) (unpadded_stays list p.1)

padding_goes : (b : Bool) (v : List ℕ) → without_padding (if b then [] else attr.Padding v ∷ []) ≡ []
padding_goes true v = refl
padding_goes false v = refl

-- what was padded is as before
pub unpadded_again : (inner : List Attr) → list_any is_padding inner ≡ false → without_padding (padded inner) ≡ inner
unpadded_again inner e =
    let m = missing (length (spelling inner)) in
    filter-append (λ (a : Attr). not (is_padding a)) inner (padding_for (length (spelling inner)))
    ∙ ap (λ (l : List Attr). l ++ without_padding (padding_for (length (spelling inner)))) (unpadded_stays inner e)
    ∙ ap (λ (l : List Attr). inner ++ l) (padding_goes (m == 0) (replicate (m - 2) 0)) ∙ append-nil inner

-- ---- the bytes of a padded list

-- numbers that pass the test of a byte
abbrev is_byte : ℕ → Bool
is_byte n = nat_lt n 256

all_bytes : (bytes : List ℕ) → list_all is_byte bytes ≡ true → AreBytes bytes
all_bytes [] e i = omega arith
all_bytes (b ∷ bytes) e zero =
    let first : is_byte b ≡ true = (and_parts (is_byte b) (list_all is_byte bytes) e).0 in
    grind (arith, nat_tests)
all_bytes (b ∷ bytes) e (suc i) = all_bytes bytes (and_parts (is_byte b) (list_all is_byte bytes) e).1 i

padding_bytes : (m : ℕ) → (m ≡ 0) ⊎ ((m ≡ 4) ⊎ ((m ≡ 8) ⊎ (m ≡ 12)))
    → list_all is_byte (spelling (if m == 0 then [] else attr.Padding (replicate (m - 2) 0) ∷ [])) ≡ true
unfolding row_of item_text shape_text
padding_bytes m (inl e) = ap (λ (n : ℕ). list_all is_byte (spelling (if n == 0 then [] else attr.Padding (replicate (n - 2) 0) ∷ []))) e
padding_bytes m (inr (inl e)) = ap (λ (n : ℕ). list_all is_byte (spelling (if n == 0 then [] else attr.Padding (replicate (n - 2) 0) ∷ []))) e
padding_bytes m (inr (inr (inl e))) = ap (λ (n : ℕ). list_all is_byte (spelling (if n == 0 then [] else attr.Padding (replicate (n - 2) 0) ∷ []))) e
padding_bytes m (inr (inr (inr e))) = ap (λ (n : ℕ). list_all is_byte (spelling (if n == 0 then [] else attr.Padding (replicate (n - 2) 0) ∷ []))) e

-- a padded list is spelled in bytes where the list is
pub padded_bytes : (inner : List Attr) → writable inner ≡ true → AreBytes (spelling inner) → AreBytes (spelling (padded inner))
padded_bytes inner w b =
    let n = length (spelling inner) in
    let units : n % 4 ≡ 0 = spelled_whole inner w in
    let sizes = sizes_of (missing n) (omega arith) (omega arith) in
    subst AreBytes (sym (padded_text inner)) (bytes_append (spelling inner) (spelling (padding_for n)) b (all_bytes (spelling (padding_for n)) (padding_bytes (missing n) sizes)))
