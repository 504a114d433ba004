-- For the verdicts on a round's sessions: they can be put in the order of the sessions' numbers.
use Rattle.std.proofs.Common.{◌≡◌, ◌≤◌, Bool, true, false, List, [], ◌∷◌, AllPairs, arith, refl, append-nil, subst, sym}
use Rattle.std.specs.Prelude.{All, IsPermutation, nat_le, if◌then◌else◌}
use Rattle.std.proofs.lemmas.Bool.{leb-true, leb-false}
use Rattle.std.proofs.lemmas.List.Elements.{All-cons, All-nil, All-weaker}
use Rattle.std.proofs.lemmas.List.Sorted.{All-permutation, IsPermutation-cons, IsPermutation-middle, IsPermutation-refl, IsPermutation-trans}
use Rattle.auc_history.proofs.Facts.{AllPairs-cons, AllPairs-head, AllPairs-tail}
use Rattle.auc_world.specs.Net.{Net}
use Rattle.auc_world.specs.Sessions.{AreVerdicts, job_sessions}
use Rattle.auc_record.specs.declared.record.SessionVerdict.{SessionVerdict}

-- two verdicts are in order
abbrev AreInOrder : SessionVerdict → SessionVerdict → Type 0
AreInOrder a b = a.session ≤ b.session

-- a verdict before the first one of a greater number
abbrev put : SessionVerdict → List SessionVerdict → List SessionVerdict
put v [] = v ∷ []
put v (w ∷ ws) = if nat_le v.session w.session then v ∷ w ∷ ws else w ∷ put v ws

put_same : (v : SessionVerdict) (ws : List SessionVerdict) → IsPermutation (v ∷ ws) (put v ws)
put_same v [] = IsPermutation-refl (v ∷ [])
put_same v (w ∷ ws) = by (nat_le v.session w.session) (put_same v ws)
  where
    by : (b : Bool) → IsPermutation (v ∷ ws) (put v ws) → IsPermutation (v ∷ w ∷ ws) (if b then v ∷ w ∷ ws else w ∷ put v ws)
    by true rest = IsPermutation-refl (v ∷ w ∷ ws)
    by false rest =
        IsPermutation-trans (v ∷ w ∷ ws) (w ∷ v ∷ ws) (w ∷ put v ws) (IsPermutation-middle (v ∷ []) w ws)
        (IsPermutation-cons w (v ∷ ws) (put v ws) rest)

put_in_order : (v : SessionVerdict) (ws : List SessionVerdict) → AllPairs AreInOrder ws → AllPairs AreInOrder (put v ws)
put_in_order v [] order = AllPairs-cons AreInOrder v [] (All-nil (AreInOrder v)) order
put_in_order v (w ∷ ws) order = by (nat_le v.session w.session) refl (put_in_order v ws (AllPairs-tail AreInOrder w ws order))
  where
    behind : All (AreInOrder w) ws
    behind = AllPairs-head AreInOrder w ws order

    by : (b : Bool) → nat_le v.session w.session ≡ b → AllPairs AreInOrder (put v ws) → AllPairs AreInOrder (if b then v ∷ w ∷ ws else w ∷ put v ws)
    by true e rest =
        let low : v.session ≤ w.session = leb-true v.session w.session e in
        AllPairs-cons AreInOrder v (w ∷ ws)
        (All-cons (AreInOrder v) w ws low (All-weaker (AreInOrder w) (AreInOrder v) (λ (x : SessionVerdict) (h : AreInOrder w x). omega (arith, low, h)) ws behind)) order
    by false e rest =
        let high = leb-false v.session w.session e in
        let low : w.session ≤ v.session = omega (arith, high) in
        AllPairs-cons AreInOrder w (put v ws)
        (All-permutation (AreInOrder w) (v ∷ ws) (put v ws) (put_same v ws) (All-cons (AreInOrder w) v ws low behind)) rest

-- verdicts in the order of the sessions' numbers
abbrev in_order : List SessionVerdict → List SessionVerdict
in_order [] = []
in_order (v ∷ vs) = put v (in_order vs)

order_same : (vs : List SessionVerdict) → IsPermutation vs (in_order vs)
order_same [] = IsPermutation-refl []
order_same (v ∷ vs) =
    IsPermutation-trans (v ∷ vs) (v ∷ in_order vs) (put v (in_order vs)) (IsPermutation-cons v vs (in_order vs) (order_same vs)) (put_same v (in_order vs))

order_rises : (vs : List SessionVerdict) → AllPairs AreInOrder (in_order vs)
order_rises [] = λ i j d i<j j<n. absurd (omega (arith, j<n))
order_rises (v ∷ vs) = put_in_order v (in_order vs) (order_rises vs)

-- those of one job
pub some_verdicts : (net : Net) → (verdicts : List SessionVerdict) × AreVerdicts (job_sessions net ∷ []) verdicts
some_verdicts net = (
  in_order (job_sessions net).verdicts,
  record {
    same = subst (λ (vs : List SessionVerdict). IsPermutation vs (in_order (job_sessions net).verdicts)) (sym (append-nil (job_sessions net).verdicts)) (order_same (job_sessions net).verdicts);
    rising = order_rises (job_sessions net).verdicts;
  },
)
