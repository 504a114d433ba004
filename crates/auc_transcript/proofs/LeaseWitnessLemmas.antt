-- For the witness of the law of leases: the number that a site hands out is that of the one vector before it.
use Rattle.std.proofs.Common.{◌≡◌, ℕ, zero, suc, List, [], ◌∷◌, ◌++◌, Contains, refl, sym, ap, ◌∙◌, subst, arith, append-nil}
use Rattle.std.proofs.lemmas.List.Elements.{All-head}
use Rattle.auc_record.specs.declared.record.LineRecord.{LineRecord}
use Rattle.auc_transcript.specs.Leases.{HandsOutAfter}
use Rattle.auc_transcript.specs.Witnesses.{LeaseIsKept, leased_lines, leasing}

-- the one number of a list
only_one : (m n : ℕ) → Contains (m ∷ []) n → n ≡ m
only_one m n (zero, inside, is) = sym is
only_one m n (suc k, inside, is) = absurd (omega arith)

handed : (n : ℕ) → HandsOutAfter 0 [] (leased_lines n) → n ≡ 1
handed n (asked, (vector, (granted, (taken, (number, nothing))))) = only_one 1 n (All-head (Contains (1 ∷ [])) n [] number)

pub lease_is_kept : LeaseIsKept
lease_is_kept key n net promise =
    let gave = promise.lines.0.0 [] [] leasing refl in
    let own : leased_lines n ≡ gave.own =
    gave.records_are ∙ ap (λ (ls : List LineRecord). ls ++ (gave.own ++ gave.late)) gave.first.0 ∙ ap (λ (ls : List LineRecord). gave.own ++ ls) gave.rest.0 ∙ append-nil gave.own in
    handed n (subst (HandsOutAfter 0 []) (sym own) gave.holds.before)
