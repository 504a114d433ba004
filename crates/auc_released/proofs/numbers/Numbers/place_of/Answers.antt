use Rattle.std.proofs.Common.{◌≡◌, ◌/◌, Some, slice_get, subst}
use Rattle.std.specs.Prelude.{IfSome}
use Rattle.std.specs.Map.{keys_of}
use Rattle.auc_released.specs.Numbers.{Released}
use Rattle.auc_released.proofs.RoomLemmas.{block_at}
use Rattle.auc_released.proofs.numbers.Numbers.place_of.Goals as goal

pub returns-in_default-clause-found : goal.returns-in_default-clause-found
returns-in_default-clause-found c =
    subst (λ (es : Released). IfSome c.get_index_of.result (λ i. slice_get (keys_of es) i ≡ Some (c.args.number.sub, c.args.number.n / 64))) c.self.view_is
    (block_at (keys_of c.self.inside.words.entries) (c.args.number.sub, c.args.number.n / 64) c.get_index_of.result c.get_index_of.ensures.index)
