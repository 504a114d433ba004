use Rattle.std.proofs.Common.{ℕ, List, ◌++◌, get_or, ap, ◌∙◌, arith}
use Rattle.auc_aes.proofs.Facts.{tabulate, listed}
use Rattle.auc_vector.proofs.making.join.Goals as goal

pub returns : goal.returns
returns c =
    let m : List ℕ = c.args.masked in
    let a : List ℕ = c.args.amf in
    let s : List ℕ = c.args.mac in
    let two : List ℕ = tabulate 2 (λ k. get_or a k 0) in
    let eight : List ℕ = tabulate 8 (λ k. get_or s k 0) in
    ap (λ x. x ++ two ++ eight) (listed 6 m (omega arith)) ∙ ap (λ x. m ++ x ++ eight) (listed 2 a (omega arith))
    ∙ ap (λ x. m ++ a ++ x) (listed 8 s (omega arith))
