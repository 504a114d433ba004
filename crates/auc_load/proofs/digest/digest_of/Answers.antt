use Rattle.std.proofs.Common.{◌++◌, ◌∙◌, List, ap, length}
use Rattle.std.specs.List.{concat}
use Rattle.sha2.specs.Sha256.{sha256}
use Rattle.auc_load.specs.Pieces.{pieces_bytes}
use Rattle.auc_load.specs.declared.pieces.Place.{Place}
use Rattle.auc_load.proofs.PieceLemmas.{all_pieces}
use Rattle.auc_load.proofs.digest.digest_of.Goals as goal

pub returns : goal.returns
returns g c =
    let source = c.args.source.now in
    let starts = c.in_ok-starts.starts in
    let hashing = c.in_ok-hashing.hashing in
    let is = c.in_ok-hashing.ensures.hashing in
    c.finalize.ensures (is.0 ++ concat hashing.made) (c.hash_all.ensures is.0 is.1)
    ∙ ap sha256 (is.2
    ∙ ap (pieces_bytes source 0) (c.in_ok-hashing.ensures.begun ∙ ap (λ (ps : List Place). length ps) c.as_slice.ensures)
    ∙ all_pieces source (length starts) c.in_ok-starts.ensures.all)
