use Rattle.std.proofs.Common.{ℕ, List, ◌++◌, get_or, ap, ◌∙◌, arith}
use Rattle.auc_aes.proofs.Facts.{tabulate, listed}
use Rattle.auc_milenage.proofs.auts.join.Goals as goal

pub returns : goal.returns
returns c =
    let m : List ℕ = c.args.masked in
    let s : List ℕ = c.args.mac_s in
    let eight : List ℕ = tabulate 8 (λ k. get_or s k 0) in
    ap (λ x. x ++ eight) (listed 6 m (omega arith)) ∙ ap (λ x. m ++ x) (listed 8 s (omega arith))
