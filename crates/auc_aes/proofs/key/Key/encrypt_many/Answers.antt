use Rattle.auc_aes.specs.Cipher.{aes}
use Rattle.auc_aes.proofs.ManyLemmas.{none_done}
use Rattle.auc_aes.proofs.key.Key.encrypt_many.Goals as goal

pub returns-then-blocks-lt-LEAST_FOR_LANES : goal.returns-then-blocks-lt-LEAST_FOR_LANES
returns-then-blocks-lt-LEAST_FOR_LANES c = c.encrypt_from.ensures c.args.blocks.now (none_done (aes c.args.self.now) c.args.blocks.now)

pub returns-else-blocks-lt-LEAST_FOR_LANES : goal.returns-else-blocks-lt-LEAST_FOR_LANES
returns-else-blocks-lt-LEAST_FOR_LANES c =
    c.encrypt_from-else-blocks-lt-LEAST_FOR_LANES.ensures c.args.blocks.now (c.encrypt_groups-done.ensures.done c.args.self.now c.lane_keys.ensures.block c.lane_keys.ensures.keys)
