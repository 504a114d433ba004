use Rattle.std.proofs.Common.{refl, arith}
use Rattle.auc_aes.specs.Inner.{block_of_words}
use Rattle.auc_aes.proofs.LaneHalves.{byte_of_word, last_byte_of_word, cons_eq}
use Rattle.auc_aes.proofs.lane_keys.block_of_lanes.Goals as goal

pub returns : goal.returns
unfolding block_of_words
returns c =
    let v = c.args.words in
    let f = c.fits-words.1 in
    cons_eq (byte_of_word v 0 3 f (omega arith) (omega arith))
    (cons_eq (byte_of_word v 0 2 f (omega arith) (omega arith))
    (cons_eq (byte_of_word v 0 1 f (omega arith) (omega arith))
    (cons_eq (last_byte_of_word v 0 f (omega arith))
    (cons_eq (byte_of_word v 1 3 f (omega arith) (omega arith))
    (cons_eq (byte_of_word v 1 2 f (omega arith) (omega arith))
    (cons_eq (byte_of_word v 1 1 f (omega arith) (omega arith))
    (cons_eq (last_byte_of_word v 1 f (omega arith))
    (cons_eq (byte_of_word v 2 3 f (omega arith) (omega arith))
    (cons_eq (byte_of_word v 2 2 f (omega arith) (omega arith))
    (cons_eq (byte_of_word v 2 1 f (omega arith) (omega arith))
    (cons_eq (last_byte_of_word v 2 f (omega arith))
    (cons_eq (byte_of_word v 3 3 f (omega arith) (omega arith))
    (cons_eq (byte_of_word v 3 2 f (omega arith) (omega arith))
    (cons_eq (byte_of_word v 3 1 f (omega arith) (omega arith))
    (cons_eq (last_byte_of_word v 3 f (omega arith)) refl)))))))))))))))
