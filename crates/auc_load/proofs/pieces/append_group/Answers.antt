use Rattle.std.proofs.Common.{◌≡◌, ◌+◌, ◌++◌, List, ℕ, take, ap, subst}
use Rattle.std.specs.Prelude.{OnOk}
use Rattle.auc_load.proofs.VectorLemmas.{group_bytes}
use Rattle.auc_load.proofs.pieces.append_group.Goals as goal

pub returns-clause-bytes : goal.returns-clause-bytes
returns-clause-bytes c =
    subst (λ (bytes : List ℕ). OnOk c.append_all.result (c.append_all.new.bytes ≡ bytes))
    (ap (λ (group : List ℕ). c.args.bytes.now ++ group)
    (group_bytes c.args.stream.now.key c.args.row.now c.args.stream.now.sub (c.args.before + 1) c.args.count (take c.args.count c.rands_of-rands.result) c.vectors.new.out
    c.rands_of-rands.ensures.rands c.vectors.ensures))
    c.append_all.ensures
