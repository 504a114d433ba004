use Rattle.std.proofs.Common.{arith, Some}
use Rattle.auc_text.specs.Text.{words_of}
use Rattle.auc_script.specs.InnerSoFar.{scenario}
use Rattle.auc_script.proofs.SoFarLemmas.{at_round, job_becomes, job_refused, kept_job}
use Rattle.auc_script.proofs.so_far.SoFar.put_job.Goals as goal

pub returns-clause-kept : goal.returns-clause-kept
returns-clause-kept c rows kept =
    rw (c.in_ok-begin_job.ensures, c.begin_job-2.ensures) (kept_job rows c.args.self.now c.in-Some.round (at_round rows c.args.self.now (Some c.in-Some.round) (cc c.in-Some.is) kept) (omega arith))

pub returns-then-self-ge-MAX_JOBS-clause-becomes : goal.returns-then-self-ge-MAX_JOBS-clause-becomes
returns-then-self-ge-MAX_JOBS-clause-becomes c rows kept = job_refused (scenario rows c.args.self.now) (words_of c.args.fields.now) c.in-Some.round c.in_ok-no_field.field-0 c.args.self.now.jobs (cc c.in-Some.is) (cc c.in_ok-no_field.ensures) kept.jobs c.if-self-ge-MAX_JOBS.true

pub returns-clause-becomes : goal.returns-clause-becomes
returns-clause-becomes c rows kept = job_becomes (scenario rows c.args.self.now) (words_of c.args.fields.now) c.in-Some.round c.begin_job.new.self c.in_ok-no_field.field-0 c.args.self.now.jobs (cc c.in-Some.is) (cc c.in_ok-no_field.ensures) kept.jobs c.if-self-ge-MAX_JOBS.false c.in_ok-begin_job.ensures
