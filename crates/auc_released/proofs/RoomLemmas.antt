-- For sets of numbers: room, the blocks' bits, and the numbers that were added.
use Rattle.std.proofs.Common.{◌≡◌, ℕ, ◌*◌, ◌/◌, ◌%◌, ◌^◌, ◌<◌, Bool, true, false, cond, ◌&&◌, ◌||◌, List, [], ◌∷◌, ◌++◌, take, length, get_or, Option, Some, None, slice_get, position, refl, sym, ap, ◌∙◌, subst, inl, inr, arith, append_assoc, append-nil, true≢false}
use Rattle.std.specs.Prelude.{◌==◌, All, IfSome, is_some}
use Rattle.std.specs.Cmp.{IsEquivalence}
use Rattle.std.specs.Int.{bit_at, w64}
use Rattle.std.specs.Int.RustNames.{bit_or}
use Rattle.std.specs.List.{list_any}
use Rattle.std.specs.Map.{keys_of, lookup}
use Rattle.std.proofs.lemmas.Bool.{and_parts, and_from, and_right, eqb-true, eq-eqb, ne_eqb, cases_eq, or_left, or_right, false_from_ne_true}
use Rattle.std.proofs.lemmas.Cmp.{and_equiv, on_equiv, nat_eq_equiv}
use Rattle.std.proofs.lemmas.List.{map-append, take_all, take-append-le}
use Rattle.std.proofs.lemmas.List.Elements.{All-append, All-head, All-tail, All-cons, All-nil}
use Rattle.std.proofs.lemmas.List.Folds.{list_any-append}
use Rattle.std.proofs.lemmas.List.Quantifiers.{position-Some}
use Rattle.std.proofs.lemmas.Map.Entries.{lookup_from_place}
use Rattle.std.proofs.lemmas.Map.Keys.{any_passes_from_place}
use Rattle.std.proofs.lemmas.Map.Made.{is_some-lookup}
use Rattle.std.proofs.lemmas.Nat.{mod_below}
use Rattle.std.proofs.lemmas.Nat.Bits.{bit_at-zero, bit_at_set_other, bit_at_set_same}
use Rattle.std.proofs.lemmas.Option.{same_Some, slice_get-get_or, slice_get-map}
use Rattle.std.specs.Option.{option_map}
use Rattle.indexmap.specs.IndexMap.{IndexMap, IsUnique, with_value_at}
use Rattle.indexmap.proofs.CallerLemmas.{updates-with_value_at}
use Rattle.auc_released.specs.Numbers.{Released, is_same_block, is_marked, has}
use Rattle.auc_released.specs.Room.{HasRoom, KeepsRoom, IsRoomier}

-- ---- blocks

-- blocks are compared by an equivalence
pub block_equiv : IsEquivalence is_same_block
block_equiv = and_equiv (on_equiv (λ (b : ℕ × ℕ). b.0) nat_eq_equiv) (on_equiv (λ (b : ℕ × ℕ). b.1) nat_eq_equiv)

-- blocks that are compared as one are equal
same_block : (a b : ℕ × ℕ) → is_same_block a b ≡ true → a ≡ b
same_block a b e =
    let parts = and_parts (a.0 == b.0) (a.1 == b.1) e in
    λ i. (eqb-true a.0 b.0 parts.0 i, eqb-true a.1 b.1 parts.1 i)

-- the place of a block among the keys is where it stands
pub block_at : (keys : List (ℕ × ℕ)) (block : ℕ × ℕ) (found : Option ℕ) → found ≡ position (is_same_block block) keys → IfSome found (λ i. slice_get keys i ≡ Some block)
block_at keys block None e = tt
block_at keys block (Some i) e =
    let at = position-Some (is_same_block block) keys i block (sym e) in
    slice_get-get_or keys i block at.0 ∙ ap Some (sym (same_block block (get_or keys i block) at.1))

-- a set has room for a number whose block stands among its keys
pub has_room : (es : Released) (i sub n : ℕ) → slice_get (keys_of es) i ≡ Some (sub, n / 64) → HasRoom es (record { sub = sub; n = n })
has_room es i sub n at = is_some-lookup (is_same_block (sub, n / 64)) es ∙ any_passes_from_place (is_same_block (sub, n / 64)) (keys_of es) i (sub, n / 64) at (block_equiv.refl (sub, n / 64))

-- the key of the entry at a place
key_at : (es : Released) (i : ℕ) (key block : ℕ × ℕ) (word : ℕ) → slice_get es i ≡ Some (key, word) → slice_get (keys_of es) i ≡ Some block → key ≡ block
key_at es i key block word entry at =
    same_Some key block (sym (ap (option_map (λ (e : (ℕ × ℕ) × ℕ). e.0)) entry) ∙ sym (slice_get-map (λ (e : (ℕ × ℕ) × ℕ). e.0) es i) ∙ at)

-- ---- further blocks

-- a look-up in a list with further words of 0 finds the same bits
module _ (test : ℕ × ℕ → Bool) (place : ℕ) where
  skip : (b : Bool) (word : ℕ) (x y : Option ℕ) → is_marked x place ≡ is_marked y place → is_marked (cond b (Some word) x) place ≡ is_marked (cond b (Some word) y) place
  skip true word x y e = refl
  skip false word x y e = e

  unmarked : (more : Released) → All (λ entry. entry.1 ≡ 0) more → is_marked (lookup test more) place ≡ false
  unmarked [] empty = refl
  unmarked (e ∷ es) empty =
      let zero_word : is_marked (Some e.1) place ≡ false = ap (λ (w : ℕ). is_marked (Some w) place) (All-head (λ (x : (ℕ × ℕ) × ℕ). x.1 ≡ 0) e es empty) ∙ ap (λ (b : ℕ). b == 1) (bit_at-zero place) in
      by (test e.0) (lookup test es) zero_word (unmarked es (All-tail (λ (x : (ℕ × ℕ) × ℕ). x.1 ≡ 0) e es empty))
    where
      by : (b : Bool) (x : Option ℕ) → is_marked (Some e.1) place ≡ false → is_marked x place ≡ false → is_marked (cond b (Some e.1) x) place ≡ false
      by true x here rest = here
      by false x here rest = rest

  same_marks : (old more : Released) → All (λ entry. entry.1 ≡ 0) more → is_marked (lookup test (old ++ more)) place ≡ is_marked (lookup test old) place
  same_marks [] more empty = unmarked more empty
  same_marks (e ∷ es) more empty = skip (test e.0) e.1 (lookup test (es ++ more)) (lookup test es) (same_marks es more empty)

-- a set with further blocks has the same numbers
pub roomier_has : (old new : Released) → IsRoomier old new → (s m : ℕ) → has new s m ≡ has old s m
roomier_has old new roomier s m =
    ap (λ (es : Released). has es s m) roomier.added ∙ same_marks (is_same_block (s, m / 64)) (m % 64) old roomier.more roomier.empty

-- and the room that it had
pub roomier_room : (old new : Released) → IsRoomier old new → KeepsRoom old new
roomier_room old new roomier number there =
    let test : ℕ × ℕ → Bool = is_same_block (number.sub, number.n / 64) in
    ap (λ (es : Released). is_some (lookup test es)) roomier.added ∙ is_some-lookup test (old ++ roomier.more)
    ∙ ap (list_any test) (map-append (λ (e : (ℕ × ℕ) × ℕ). e.0) old roomier.more) ∙ list_any-append test (keys_of old) (keys_of roomier.more)
    ∙ or_left (list_any test (keys_of old)) (list_any test (keys_of roomier.more)) (sym (is_some-lookup test old) ∙ there)

-- a set is one with no further blocks
pub roomier_same : (old new : Released) → new ≡ old → IsRoomier old new
roomier_same old new same = record { more = []; added = same ∙ sym (append-nil old); empty = All-nil _ }

-- with one further block
pub roomier_one : (old new : Released) (block : ℕ × ℕ) → new ≡ old ++ (block, 0) ∷ [] → IsRoomier old new
roomier_one old new block added = record { more = (block, 0) ∷ []; added = added; empty = All-cons (λ (e : (ℕ × ℕ) × ℕ). e.1 ≡ 0) (block, 0) [] refl (All-nil _) }

-- and with blocks after blocks
pub roomier_twice : (old mid new : Released) → IsRoomier old mid → IsRoomier mid new → IsRoomier old new
roomier_twice old mid new first second = record {
  more = first.more ++ second.more;
  added = second.added ∙ ap (λ (es : Released). es ++ second.more) first.added ∙ append_assoc old first.more second.more;
  empty = All-append (λ (x : (ℕ × ℕ) × ℕ). x.1 ≡ 0) first.more second.more first.empty second.empty;
}

-- without its further blocks it is the first set again
pub roomier_front : (old new : Released) → IsRoomier old new → take (length old) new ≡ old
roomier_front old new roomier = ap (take (length old)) roomier.added ∙ take-append-le (length old) old roomier.more (omega arith) ∙ take_all (length old) old (omega arith)

-- ---- a number more

-- a test that fails adds nothing
no_more : (b c : Bool) → c ≡ false → b ≡ (b || c)
no_more true c e = refl
no_more false c e = sym e

-- after bit k of a word is set, a bit is set if it was, or if it is bit k
bit_after : (word k l : ℕ) → k < 64 → (bit_at (bit_or word (1 * 2 ^ k % 2 ^ 64)) l == 1) ≡ ((bit_at word l == 1) || (l == k))
bit_after word k l within =
    elim (cases_eq l k) [
      | inl same ↦
          ap (λ (b : ℕ). b == 1) (ap (λ (i : ℕ). bit_at (bit_or word (1 * 2 ^ k % 2 ^ 64)) i) same ∙ bit_at_set_same w64 word k within)
          ∙ sym (or_right (bit_at word l == 1) (l == k) (eq-eqb l k same))
      | inr apart ↦ ap (λ (b : ℕ). b == 1) (bit_at_set_other w64 word k within l apart) ∙ no_more (bit_at word l == 1) (l == k) (ne_eqb l k apart)
    ]

-- within a block, two numbers are one if their bits are
same_number : (sub n s m : ℕ) → sub ≡ s → n / 64 ≡ m / 64 → (m % 64 == n % 64) ≡ (s == sub && m == n)
same_number sub n s m subs blocks =
    elim (cases_eq m n) [
      | inl same ↦ eq-eqb (m % 64) (n % 64) (ap (λ (k : ℕ). k % 64) same) ∙ sym (and_from (s == sub) (m == n) (eq-eqb s sub (sym subs)) (eq-eqb m n same))
      | inr apart ↦ ne_eqb (m % 64) (n % 64) (λ e. apart (omega (arith, e, blocks))) ∙ sym (and_right (s == sub) (m == n) (ne_eqb m n apart))
    ]

-- a word of one block has become another one
abbrev pub IsWordSet : Released → ℕ × ℕ → ℕ → Released → Type 0
IsWordSet old block word new = (q : ℕ × ℕ) → lookup (is_same_block q) new ≡ cond (is_same_block block q) (Some word) (lookup (is_same_block q) old)

-- room stays
pub word_set_room : (old new : Released) (block : ℕ × ℕ) (word : ℕ) → IsWordSet old block word new → KeepsRoom old new
word_set_room old new block word set number there =
    ap is_some (set (number.sub, number.n / 64)) ∙ by (is_same_block block (number.sub, number.n / 64)) (lookup (is_same_block (number.sub, number.n / 64)) old) there
  where
    by : (b : Bool) (old_word : Option ℕ) → is_some old_word ≡ true → is_some (cond b (Some word) old_word) ≡ true
    by true old_word h = refl
    by false old_word h = h

-- a word was set at the place of a block
module _ {S : Type 0} (m : IndexMap (ℕ × ℕ) ℕ S) (place : ℕ) (key block : ℕ × ℕ) (word : ℕ) where
  pub word_found : IsUnique is_same_block m → slice_get m.entries place ≡ Some (key, word) → slice_get (keys_of m.entries) place ≡ Some block
      → lookup (is_same_block block) m.entries ≡ Some word
  word_found unique entry at =
      subst (λ (b : ℕ × ℕ). lookup (is_same_block b) m.entries ≡ Some word) (key_at m.entries place key block word entry at) (lookup_from_place block_equiv m.entries place key word unique entry)

  pub word_set : IsUnique is_same_block m → slice_get m.entries place ≡ Some (key, word) → slice_get (keys_of m.entries) place ≡ Some block
      → (after : ℕ) → IsWordSet m.entries block after (with_value_at m place after).entries
  word_set unique entry at after =
      subst (λ (b : ℕ × ℕ). IsWordSet m.entries b after (with_value_at m place after).entries) (key_at m.entries place key block word entry at)
      (updates-with_value_at m place after block_equiv unique key word entry).0

-- if bit n % 64 was set in the word of block n / 64, the set has number n more
pub word_set_has : (old new : Released) (sub n word : ℕ) → lookup (is_same_block (sub, n / 64)) old ≡ Some word
    → IsWordSet old (sub, n / 64) (bit_or word (1 * 2 ^ (n % 64) % 2 ^ 64)) new → (s m : ℕ) → has new s m ≡ (has old s m || (s == sub && m == n))
word_set_has old new sub n word there set s m = by (is_same_block (sub, n / 64) (s, m / 64)) refl
  where
    by : (b : Bool) → is_same_block (sub, n / 64) (s, m / 64) ≡ b → has new s m ≡ (has old s m || (s == sub && m == n))
    by true e =
        let block : (sub, n / 64) ≡ (s, m / 64) = same_block (sub, n / 64) (s, m / 64) e in
        let was : lookup (is_same_block (s, m / 64)) old ≡ Some word = subst (λ (b : ℕ × ℕ). lookup (is_same_block b) old ≡ Some word) block there in
        let is : lookup (is_same_block (s, m / 64)) new ≡ Some (bit_or word (1 * 2 ^ (n % 64) % 2 ^ 64)) =
        set (s, m / 64) ∙ ap (λ (b : Bool). cond b (Some (bit_or word (1 * 2 ^ (n % 64) % 2 ^ 64))) (lookup (is_same_block (s, m / 64)) old)) e in
        ap (λ (w : Option ℕ). is_marked w (m % 64)) is ∙ bit_after word (n % 64) (m % 64) (mod_below n 64 (omega arith))
        ∙ ap (λ (b : Bool). b || (m % 64 == n % 64)) (sym (ap (λ (w : Option ℕ). is_marked w (m % 64)) was))
        ∙ ap (λ (b : Bool). has old s m || b) (same_number sub n s m (ap (λ (b : ℕ × ℕ). b.0) block) (ap (λ (b : ℕ × ℕ). b.1) block))
    by false e =
        let is : has new s m ≡ has old s m =
        ap (λ (w : Option ℕ). is_marked w (m % 64)) (set (s, m / 64) ∙ ap (λ (b : Bool). cond b (Some (bit_or word (1 * 2 ^ (n % 64) % 2 ^ 64))) (lookup (is_same_block (s, m / 64)) old)) e) in
        is ∙ no_more (has old s m) (s == sub && m == n) (false_from_ne_true (s == sub && m == n) (λ same.
        let parts = and_parts (s == sub) (m == n) same in
        let again : is_same_block (sub, n / 64) (s, m / 64) ≡ true =
        and_from (sub == s) (n / 64 == m / 64) (eq-eqb sub s (sym (eqb-true s sub parts.0))) (eq-eqb (n / 64) (m / 64) (ap (λ (k : ℕ). k / 64) (sym (eqb-true m n parts.1)))) in
        true≢false (sym again ∙ e)))
