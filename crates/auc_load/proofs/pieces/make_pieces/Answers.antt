use Rattle.std.proofs.Common.{◌≡◌, Ok, map}
use Rattle.std.specs.List.{concat}
use Rattle.auc_load.specs.Pieces.{pieces_bytes}
use Rattle.auc_load.proofs.PieceLemmas.{if_ok_map, pieces_joined}
use Rattle.auc_load.proofs.pieces.make_pieces.Goals as goal

pub returns : goal.returns
returns g c =
    if_ok_map (λ made. map Ok made ≡ c.in_ok-by_threads.field-0.items) (λ made. concat made ≡ pieces_bytes c.args.source.now c.args.first c.args.count) c.collect.result
    (λ made same. pieces_joined c.args.source.now c.args.first c.args.count c.in_ok-by_threads.field-0.items made c.in_ok-by_threads.ensures.count c.in_ok-by_threads.ensures.each same)
    c.collect.ensures
