use Rattle.std.proofs.Common.{◌≡◌, ◌++◌, List, ℕ}
use Rattle.std.specs.List.{concat}
use Rattle.std.proofs.lemmas.Result.{IfOk-at_ok}
use Rattle.auc_load.specs.Pieces.{pieces_bytes}
use Rattle.auc_load.proofs.PieceLemmas.{pieces_more}
use Rattle.auc_load.proofs.digest.turn.Goals as goal

pub returns-clause-hashing : goal.returns-clause-hashing
returns-clause-hashing g c =
    let source = c.args.source.now in
    let begun = c.args.hashing.begun in
    let hashing = c.requires.hashing in
    let next : concat c.in_ok-next.field-0 ≡ pieces_bytes source begun c.min-count.result =
    IfOk-at_ok (λ (next : List (List ℕ)). concat next ≡ pieces_bytes source begun c.min-count.result) c.in_ok-next.was c.join-next.ensures.first in (
      hashing.0 ++ concat c.args.hashing.made,
      c.join-next.ensures.second hashing.0 hashing.1,
      pieces_more source begun c.min-count.result hashing.0 (concat c.args.hashing.made) (concat c.in_ok-next.field-0) hashing.2 next,
    )
