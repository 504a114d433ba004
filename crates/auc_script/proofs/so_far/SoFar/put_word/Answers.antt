use Rattle.auc_script.proofs.so_far.SoFar.put_word.Goals as goal

pub returns-in-Header-clause-becomes : goal.returns-in-Header-clause-becomes
returns-in-Header-clause-becomes c = rw c.in-Header.is (c.put_header.ensures.becomes c.args.subs.now)

pub returns-in-Job-clause-becomes : goal.returns-in-Job-clause-becomes
returns-in-Job-clause-becomes c = rw c.in-Job.is (c.put_job.ensures.becomes c.args.subs.now c.requires)
