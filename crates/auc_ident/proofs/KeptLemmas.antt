-- The names that a device keeps: exactly the texts of 1 to 255 bytes without `@`, with or without a realm.
use Rattle.std.proofs.Common.{◌≡◌, ◌≢◌, ℕ, zero, suc, ◌+◌, ◌≤◌, ◌==◌, Bool, true, false, not, cond, if◌then◌else◌, ltb, leb, List, [], ◌∷◌, ◌++◌, length, take, Option, Some, None, refl, sym, ap, ◌∙◌, subst, arith}
use Rattle.std.proofs.lemmas.Bool.{and_from, and_parts, eqb-false, le-leb, leb-true, ltb-false, ne_eqb}
use Rattle.std.proofs.lemmas.List.Elements.{All-cons, All-head, All-nil, All-tail}
use Rattle.std.specs.List.{All, position_or_len}
use Rattle.auc_ident.specs.Name.{ExactlyNamesAreKept, IsName, is_kept, kept_name}
use Rattle.auc_ident.specs.Permanent.{up_to, username}

abbrev is_at : ℕ → Bool
is_at byte = byte == 64

-- a byte that isn't `@`
abbrev IsBare : ℕ → Type 0
IsBare byte = byte ≢ 64

-- the bytes before the first `@`
abbrev before_at : List ℕ → List ℕ
before_at text = take (position_or_len is_at text) text

take_all : (n : ℕ) (xs : List ℕ) → length xs ≤ n → take n xs ≡ xs
take_all zero [] few = refl
take_all (suc n) [] few = refl
take_all zero (x ∷ xs) few = absurd (omega (arith, few))
take_all (suc n) (x ∷ xs) few = ap (λ (l : List ℕ). x ∷ l) (take_all n xs (omega (arith, few)))

username_is : (text : List ℕ) → username text ≡ before_at text
username_is text = by (ltb (position_or_len is_at text) (length text)) refl
  where
    by : (b : Bool) → ltb (position_or_len is_at text) (length text) ≡ b → up_to (cond b (Some (position_or_len is_at text)) None) text ≡ before_at text
    by true e = refl
    by false e = sym (take_all (position_or_len is_at text) text (ltb-false (position_or_len is_at text) (length text) e))

take_next : (n x : ℕ) (xs : List ℕ) → take (1 + n) (x ∷ xs) ≡ x ∷ take n xs
take_next n x xs =
    let next : 1 + n ≡ suc n = omega arith in ap (λ (k : ℕ). take k (x ∷ xs)) next

-- none of them is `@`
before_bare : (text : List ℕ) → All IsBare (before_at text)
before_bare [] = All-nil IsBare
before_bare (x ∷ xs) = by (x == 64) refl (before_bare xs)
  where
    by : (b : Bool) → (x == 64) ≡ b → All IsBare (before_at xs) → All IsBare (take (cond (not b) (1 + position_or_len is_at xs) 0) (x ∷ xs))
    by true e rest = All-nil IsBare
    by false e rest = subst (All IsBare) (sym (take_next (position_or_len is_at xs) x xs)) (All-cons IsBare x (before_at xs) (eqb-false x 64 e) rest)

-- a text without `@` stands before one, and before the end
before_is : (name rest : List ℕ) → All IsBare name → position_or_len is_at rest ≡ 0 → before_at (name ++ rest) ≡ name
before_is [] rest bare none = ap (λ (n : ℕ). take n rest) none
before_is (x ∷ xs) rest bare none = by (x == 64) (ne_eqb x 64 (All-head IsBare x xs bare)) (before_is xs rest (All-tail IsBare x xs bare) none)
  where
    by : (b : Bool) → b ≡ false → before_at (xs ++ rest) ≡ xs → take (cond (not b) (1 + position_or_len is_at (xs ++ rest)) 0) (x ∷ xs ++ rest) ≡ x ∷ xs
    by true e more = absurd cc
    by false e more = take_next (position_or_len is_at (xs ++ rest)) x (xs ++ rest) ∙ ap (λ (l : List ℕ). x ∷ l) more

-- a name is kept, whatever comes behind it
kept_before : (name text : List ℕ) → IsName name → username text ≡ name → kept_name text ≡ Some name
kept_before name text is same =
    let sized : is_kept name ≡ true = and_from (leb 1 (length name)) (leb (length name) 255) (le-leb 1 (length name) is.some) (le-leb (length name) 255 is.short) in
    ap (λ (l : List ℕ). if is_kept l then Some l else None) same ∙ ap (λ (b : Bool). if b then Some name else None) sized

some_text : (a b : List ℕ) → ◌≡◌ {A = Option (List ℕ)} (Some a) (Some b) → a ≡ b
some_text a b e = cc

nothing_behind : (name : List ℕ) → name ++ [] ≡ name
nothing_behind [] = refl
nothing_behind (x ∷ xs) = ap (λ (l : List ℕ). x ∷ l) (nothing_behind xs)

-- what is kept is a name
kept_is : (text name : List ℕ) → kept_name text ≡ Some name → IsName name
kept_is text name e = by (is_kept (username text)) refl e
  where
    by : (b : Bool) → is_kept (username text) ≡ b → (if b then Some (username text) else None) ≡ Some name → IsName name
    by true is same =
        let parts = and_parts (leb 1 (length (username text))) (leb (length (username text)) 255) is in
        subst IsName (some_text (username text) name same) (record {
          some = leb-true 1 (length (username text)) parts.0;
          short = leb-true (length (username text)) 255 parts.1;
          bare = subst (All IsBare) (sym (username_is text)) (before_bare text);
        })
    by false is same = absurd cc

pub exactly_names_are_kept : ExactlyNamesAreKept
exactly_names_are_kept = record {
  bare = λ name is. kept_before name name is (username_is name ∙ ap before_at (sym (nothing_behind name)) ∙ before_is name [] is.bare refl);
  realm = λ name realm is. kept_before name (name ++ 64 ∷ realm) is (username_is (name ++ 64 ∷ realm) ∙ before_is name (64 ∷ realm) is.bare refl);
  only = kept_is;
}
