use Rattle.std.proofs.Common.{refl}
use Rattle.std.proofs.lemmas.List.{get_or-replicate}
use Rattle.std.specs.Prelude.{false}
use Rattle.auc_attr.proofs.seen.Seen.new.Goals as goal

pub returns : goal.returns
returns c = record { size = refl; each = λ kind below. get_or-replicate 256 kind false false below }
