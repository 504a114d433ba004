use Rattle.auc_world.proofs.posting.post.Goals as goal

pub returns-in_err-bytes-clause-number : goal.returns-in_err-bytes-clause-number
returns-in_err-bytes-clause-number c = rw (c.in_err-bytes.was) c.from_residual.ensures
