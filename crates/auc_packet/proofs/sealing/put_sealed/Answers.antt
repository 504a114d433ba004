use Rattle.std.proofs.Common.{ℕ, ◌++◌, length, ap, arith}
use Rattle.auc_memory.specs.Reserved.{Reserved}
use Rattle.auc_hmac.specs.Mac.{no_mac}
use Rattle.auc_hmac.proofs.Facts.{length-mac_of}
use Rattle.auc_packet.proofs.SealedLemmas.{front_writable, front_small, front_fits, put_done}
use Rattle.auc_packet.proofs.sealing.put_sealed.Goals as goal

pub put_front-requires-clause-writable : goal.put_front-requires-clause-writable
put_front-requires-clause-writable c = front_writable c.args.draft.now c.requires.writable

pub put_front-requires-clause-small : goal.put_front-requires-clause-small
put_front-requires-clause-small c = front_small c.args.draft.now c.requires.writable

pub put_front-requires-clause-room : goal.put_front-requires-clause-room
put_front-requires-clause-room c = omega (arith, front_fits c.args.draft.now c.args.room.now.left c.requires.room)

pub put-requires : goal.put-requires
put-requires c =
    omega (
      arith,
      front_fits c.args.draft.now c.args.room.now.left c.requires.room,
      ap (λ (r : Reserved ℕ). r.left) c.put_front.ensures,
      ap length c.last_mac-mac.ensures,
      length-mac_of c.args.draft.now.method c.args.k_aut.now (c.as_slice.result.now ++ (no_mac ++ c.args.extra.now)),
    )

pub returns : goal.returns
returns c =
    put_done c.args.draft.now c.args.k_aut.now c.args.extra.now c.as_slice.result.now c.last_mac-mac.result c.args.room.now c.put_front.new.room c.put.new.self
    c.requires.empty c.put_front.ensures c.as_slice.ensures c.last_mac-mac.ensures c.put.ensures
