-- The past of a USIM has what it accepted.
use Rattle.std.proofs.Common.{ℕ, suc, List, [], ◌∷◌, All, Contains, refl, arith}
use Rattle.std.specs.Prelude.{fold}
use Rattle.std.proofs.lemmas.List.Elements.{All-nil, All-cons}
use Rattle.auc_sqn.specs.Number.{ind_of, seq_of}
use Rattle.auc_sqn.specs.Past.{Past, opening_past}
use Rattle.auc_world.specs.Given.{EachAcceptedSqnIsInThePast}

-- SEQ and IND of an SQN
abbrev pair_of : ℕ → List ℕ → ℕ × ℕ
pair_of bits sqn = (seq_of bits sqn, ind_of bits sqn)

-- a past and the SQNs that were accepted since
abbrev onto : ℕ → Past → List (List ℕ) → Past
onto bits past sqns = fold (λ (p : Past) (sqn : List ℕ). (seq_of bits sqn, ind_of bits sqn) ∷ p) past sqns

-- an element of a list is one of a longer list
one_more : (past : Past) (pair first : ℕ × ℕ) → Contains past pair → Contains (first ∷ past) pair
one_more past pair first (k, k<n, at) = (suc k, omega arith, at)

-- what a past has stays in it
kept : (bits : ℕ) (past : Past) (pair : ℕ × ℕ) (sqns : List (List ℕ)) → Contains past pair → Contains (onto bits past sqns) pair
kept bits past pair [] there = there
kept bits past pair (sqn ∷ sqns) there = kept bits (pair_of bits sqn ∷ past) pair sqns (one_more past pair (pair_of bits sqn) there)

-- each SQN that was accepted since is in it
each_in : (bits : ℕ) (past : Past) (sqns : List (List ℕ)) → All (λ sqn. Contains (onto bits past sqns) (seq_of bits sqn, ind_of bits sqn)) sqns
each_in bits past [] = All-nil (λ sqn. Contains past (pair_of bits sqn))
each_in bits past (sqn ∷ sqns) =
    let more = pair_of bits sqn ∷ past in
    All-cons (λ one. Contains (onto bits more sqns) (pair_of bits one)) sqn sqns
    (kept bits more (pair_of bits sqn) sqns (0, omega arith, refl)) (each_in bits more sqns)

-- a USIM's past has each SQN that it accepted
pub each_accepted_in_past : EachAcceptedSqnIsInThePast
each_accepted_in_past bits opening sqns = each_in bits (opening_past bits opening) sqns
