use Rattle.std.proofs.Common.{map, refl, arith}
use Rattle.auc_aes.specs.Lanes.{key_coordinates}
use Rattle.auc_aes.proofs.LaneCipher.{inner_key_is, key_size}
use Rattle.auc_aes.proofs.lane_keys.inner_key.Goals as goal

pub returns : goal.returns
returns c =
    c.first_half.ensures (map key_coordinates c.args.k) (map key_coordinates c.args.k) (key_size key_coordinates c.args.k (omega arith)) (inner_key_is c.args.k _ _ _ (omega arith) c.join.ensures refl c.to_coordinates.ensures)
