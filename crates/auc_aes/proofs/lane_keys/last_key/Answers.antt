use Rattle.std.proofs.Common.{map, arith}
use Rattle.auc_aes.specs.Lanes.{with_constant}
use Rattle.auc_aes.proofs.LaneCipher.{last_key_is, key_size}
use Rattle.auc_aes.proofs.lane_keys.last_key.Goals as goal

pub returns : goal.returns
returns c =
    c.first_half.ensures (map with_constant c.args.k) (map with_constant c.args.k) (key_size with_constant c.args.k (omega arith)) (last_key_is c.args.k _ (omega arith) c.join.ensures)
