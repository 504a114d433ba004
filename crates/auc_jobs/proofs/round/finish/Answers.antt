use Rattle.auc_jobs.proofs.round.finish.Goals as goal

pub returns-in-Ok-clause-leads : goal.returns-in-Ok-clause-leads
returns-in-Ok-clause-leads c = rw c.record_round.ensures (c.in-Ok.ensures.leads c.args.round.now.number)
