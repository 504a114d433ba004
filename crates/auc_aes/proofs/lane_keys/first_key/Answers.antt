use Rattle.std.proofs.Common.{map, arith}
use Rattle.auc_aes.specs.Lanes.{coordinates}
use Rattle.auc_aes.proofs.LaneCipher.{first_key_is, key_size}
use Rattle.auc_aes.proofs.lane_keys.first_key.Goals as goal

pub returns : goal.returns
returns c =
    c.first_half.ensures (map coordinates c.args.k) (map coordinates c.args.k) (key_size coordinates c.args.k (omega arith)) (first_key_is c.args.k _ _ c.join.ensures c.to_coordinates.ensures)
