use Rattle.auc_sim_packet.proofs.WrittenLemmas.{put_begins, put_first, put_goes_on, put_at, put_done}
use Rattle.auc_sim_packet.proofs.writing.put_attrs.Goals as goal

pub loop-attr-init : goal.loop-attr-init
loop-attr-init c = rw c.as_slice-attr-items.ensures (put_begins c.args.room.now c.args.attrs.now c.requires.writable c.requires.room)

pub put_attr-requires-clause-fits : goal.put_attr-requires-clause-fits
put_attr-requires-clause-fits c =
    (put_first _ _ _ _ (put_at _ _ _ _ _ c.loop-attr-test.true c.attr-item.is c.loop-attr.invariant)).0

pub put_attr-requires-clause-room : goal.put_attr-requires-clause-room
put_attr-requires-clause-room c =
    (put_first _ _ _ _ (put_at _ _ _ _ _ c.loop-attr-test.true c.attr-item.is c.loop-attr.invariant)).1

pub loop-attr-preserved : goal.loop-attr-preserved
loop-attr-preserved c =
    put_goes_on _ _ _ _ _ (put_at _ _ _ _ _ c.loop-attr-test.true c.attr-item.is c.loop-attr.invariant) c.put_attr.ensures

pub returns : goal.returns
returns c = put_done _ _ _ _ c.loop-attr-test.false c.loop-attr.invariant
