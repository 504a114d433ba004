use Rattle.std.proofs.Common.{arith}
use Rattle.auc_attr.proofs.FrameFaultLemmas.{framed_from, frames_from}
use Rattle.auc_attr.proofs.frame.read_frame_in.Goals as goal

pub returns-clause-read : goal.returns-clause-read
returns-clause-read c = frames_from c.args.table c.args.bytes.now _ c.frame_by_steps.ensures.steps

pub returns-clause-framed : goal.returns-clause-framed
returns-clause-framed c = framed_from c.args.table c.args.bytes.now _ (λ i. omega (arith, c.type_inv.bytes i)) c.frame_by_steps.ensures.steps
