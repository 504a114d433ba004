-- The texts of a session are within their limits, for `read_session`; what is said of words is for `FivegLemmas` too.
use Rattle.std.proofs.Common.{ℕ, ◌≡◌, ◌≤◌, ◌&&◌, nat_le, Bool, true, false, List, ◌∷◌, [], length, codes, Option, Some, None, Ok, arith, refl}
use Rattle.std.specs.Prelude.{◌==◌, not, IfSome, if◌then◌else◌}
use Rattle.std.specs.List.{All, slice_split}
use Rattle.std.proofs.lemmas.Bool.Decides.{nat_tests}
use Rattle.std.proofs.lemmas.List.Elements.{All-head, All-tail, filter_passes}
use Rattle.auc_hmac.specs.declared.method.Method.{Method}
use Rattle.auc_hmac.specs.declared.method.Method.TheVariants.{Aka, Prime}
use Rattle.auc_lines.specs.declared.part.Identity.{Identity}
use Rattle.auc_lines.specs.declared.part.Identity.TheVariants.{Held, Permanent, Text}
use Rattle.auc_lines.specs.Part.{IsShortIdentity}
use Rattle.auc_text.specs.Text.{is_blank, is_text, words_of}
use Rattle.auc_reading.specs.Ranges.{AreNames, HasText}
use Rattle.auc_reading.specs.Numbers.{longest_name, longest_text}
use Rattle.auc_reading.specs.Texts.{is_first, is_short}
use Rattle.auc_reading.specs.SessionLine.{SessionFields, name_in, peer_name_in, seven_fields}

-- a word has a byte
abbrev pub IsWord : List ℕ → Type 0
IsWord word = not (length word == 0) ≡ true

pub not_empty : (word : List ℕ) → IsWord word → 1 ≤ length word
not_empty [] is = cc
not_empty (a ∷ more) is = omega arith

pub are_words : (line : List ℕ) → All IsWord (words_of line)
are_words line = filter_passes (λ part. not (length part == 0)) (slice_split is_blank line)

-- the two names that some fields have
pub two_names : (words : List (List ℕ)) (f : SessionFields) → All IsWord words → seven_fields words ≡ Ok f → (1 ≤ length f.sname) × (1 ≤ length f.pname)
two_names [] f all is = cc
two_names (a ∷ []) f all is = cc
two_names (a ∷ b ∷ []) f all is = cc
two_names (a ∷ b ∷ c ∷ []) f all is = cc
two_names (a ∷ b ∷ c ∷ d ∷ []) f all is = cc
two_names (a ∷ b ∷ c ∷ d ∷ e ∷ []) f all is = cc
two_names (a ∷ b ∷ c ∷ d ∷ e ∷ g ∷ []) f all is = cc
two_names (a ∷ b ∷ c ∷ d ∷ e ∷ g ∷ h ∷ []) f all is =
    let from_d = All-tail IsWord c (d ∷ e ∷ g ∷ h ∷ []) (All-tail IsWord b (c ∷ d ∷ e ∷ g ∷ h ∷ []) (All-tail IsWord a (b ∷ c ∷ d ∷ e ∷ g ∷ h ∷ []) all)) in
    let sname : 1 ≤ length d = not_empty d (All-head IsWord d (e ∷ g ∷ h ∷ []) from_d) in
    let pname : 1 ≤ length e = not_empty e (All-head IsWord e (g ∷ h ∷ []) (All-tail IsWord d (e ∷ g ∷ h ∷ []) from_d)) in
    let same : f ≡ record { session = a; imsi = b; method = c; sname = d; pname = e; options = g; identity = h } = cc is in
    rw same (sname, pname)
two_names (a ∷ b ∷ c ∷ d ∷ e ∷ g ∷ h ∷ i ∷ more) f all is = cc

-- the names of a session, by two such fields
pub are_names : (method : Method) (sname pname : List ℕ) → 1 ≤ length sname → 1 ≤ length pname → is_short (peer_name_in method pname) ≡ true
    → AreNames method (name_in method sname) (peer_name_in method pname)
are_names Aka sname pname first second short = (refl, refl)
are_names Prime sname pname first second short = (first, which (is_text pname (codes "*")) short)
  where
    which : (star : Bool) → is_short (if star then None else Some pname) ≡ true
        → IfSome (if star then None else Some pname) (λ other. (1 ≤ length other) × (length other ≤ longest_name))
    which true short = tt
    which false short = (second, grind (arith, nat_tests))

-- two tests, and a test of two numbers
pub each : (a b : Bool) → (a && b) ≡ true → (a ≡ true) × (b ≡ true)
each true b is = (refl, is)
each false b is = cc

pub within : (n limit : ℕ) → nat_le n limit ≡ true → n ≤ limit
within n limit is = grind (arith, nat_tests)

-- the text of an identity, if it is one
first_from : (identity : Identity) → is_first identity ≡ true → IsShortIdentity identity × HasText identity
first_from Held is = (tt, tt)
first_from Permanent is = (tt, tt)
first_from (Text text) is =
    let both = each (nat_le 1 (length text)) (nat_le (length text) longest_text) is in
    (within (length text) longest_text both.1, within 1 (length text) both.0)

-- the names of a session that was read from a line, and its first identity
pub texts_from : (line : List ℕ) (f : SessionFields) (method : Method) (name : List ℕ) (peer_name : Option (List ℕ)) (identity : Identity) → seven_fields (words_of line) ≡ Ok f
    → name ≡ name_in method f.sname → peer_name ≡ peer_name_in method f.pname
    → (nat_le (length name) longest_name && is_short peer_name && is_first identity) ≡ true
    → (length name ≤ longest_name) × AreNames method name peer_name × IsShortIdentity identity × HasText identity
texts_from line f method name peer_name identity fields named peer fit =
    let two = two_names (words_of line) f (are_words line) fields in
    let texts = each (nat_le (length name) longest_name && is_short peer_name) (is_first identity) fit in
    let names = each (nat_le (length name) longest_name) (is_short peer_name) texts.0 in
    let first = first_from identity texts.1 in
    (within (length name) longest_name names.0, rw (named, peer) (are_names method f.sname f.pname two.0 two.1 (rw peer at names.1)), first.0, first.1)
