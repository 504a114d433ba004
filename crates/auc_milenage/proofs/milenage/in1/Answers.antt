use Rattle.std.proofs.Common.{ℕ, List, ◌++◌, get_or, ap, ◌∙◌, arith}
use Rattle.auc_milenage.specs.Milenage.{in1_of}
use Rattle.auc_aes.proofs.Facts.{tabulate, listed}
use Rattle.auc_milenage.proofs.milenage.in1.Goals as goal

pub returns : goal.returns
unfolding in1_of
returns c =
    let s : List ℕ = c.args.sqn in
    let a : List ℕ = c.args.amf in
    let six : List ℕ = tabulate 6 (λ k. get_or s k 0) in
    let two : List ℕ = tabulate 2 (λ k. get_or a k 0) in
    ap (λ x. x ++ two ++ six ++ two) (listed 6 s (omega arith)) ∙ ap (λ x. s ++ x ++ six ++ two) (listed 2 a (omega arith))
    ∙ ap (λ x. s ++ a ++ x ++ two) (listed 6 s (omega arith)) ∙ ap (λ x. s ++ a ++ s ++ x) (listed 2 a (omega arith))
