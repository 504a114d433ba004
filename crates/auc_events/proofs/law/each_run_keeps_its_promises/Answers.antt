-- The laws are lemmas on runs, by those of transcripts.
use Rattle.auc_events.proofs.PromiseLemmas.{each_run_accepts_none_twice, each_run_agrees_on_keys, each_run_draws_no_number_twice, each_run_fails_by_place}
use Rattle.auc_events.proofs.law.each_run_keeps_its_promises.Goals as goal

pub returns-clause-vectors : goal.returns-clause-vectors
returns-clause-vectors c = each_run_draws_no_number_twice

pub returns-clause-usims : goal.returns-clause-usims
returns-clause-usims c = each_run_accepts_none_twice

pub returns-clause-failures : goal.returns-clause-failures
returns-clause-failures c = each_run_fails_by_place c.each_failure_in_sessions_is_by_place.ensures.stretches c.each_failure_in_sessions_is_by_place.ensures.mac

pub returns-clause-keys : goal.returns-clause-keys
returns-clause-keys c = each_run_agrees_on_keys c.each_authentication_agrees.ensures
