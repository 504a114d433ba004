-- For `write_whole`: pieces written one after the other.
use Rattle.std.proofs.Common.{◌≡◌, ℕ, ◌-◌, List, ◌++◌, length, take, drop, Option, Some, None, ◌∙◌, ap, append_assoc, arith, length-drop}
use Rattle.std.proofs.lemmas.List.{take-append-drop, take_all}
use Rattle.auc_edge.specs.Sink.{Appends}

-- two writes are one of both pieces
pub Appends-more : (old mid new : Option (List ℕ)) (front piece : List ℕ) → Appends old mid front → Appends mid new piece → Appends old new (front ++ piece)
Appends-more None None new front piece first second = second
Appends-more None (Some mid) new front piece first second = absurd (cc)
Appends-more (Some old) None new front piece first second = absurd (cc)
Appends-more (Some old) (Some mid) new front piece first second =
    let is : mid ≡ old ++ front = cc in
    second ∙ ap (λ (all : List ℕ). Some (all ++ piece)) is ∙ ap Some (append_assoc old front piece)

-- what is left of the rest after its first bytes
pub rest_more : (front rest bytes : List ℕ) (count : ℕ) → front ++ rest ≡ bytes → (front ++ take count rest) ++ take (length rest - count) (drop count rest) ≡ bytes
rest_more front rest bytes count whole =
    append_assoc front _ _
    ∙ ap (λ (all : List ℕ). front ++ (take count rest ++ all)) (take_all (length rest - count) (drop count rest) (omega (arith, length-drop count rest)))
    ∙ ap (λ (all : List ℕ). front ++ all) (take-append-drop count rest) ∙ whole
