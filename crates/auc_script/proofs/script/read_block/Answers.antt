use Rattle.std.proofs.Common.{ap, refl}
use Rattle.auc_script.specs.Scenario.{Scenario}
use Rattle.auc_script.proofs.script.read_block.Goals as goal

pub put_lines-requires-clause-kept : goal.put_lines-requires-clause-kept
put_lines-requires-clause-kept c = c.new-so_far.ensures.kept c.args.subs.now

pub returns-in_err-present_round-in-Ok-clause-kept : goal.returns-in_err-present_round-in-Ok-clause-kept
returns-in_err-present_round-in-Ok-clause-kept c = c.put_lines.ensures.block (ap (λ (s : Scenario). s.form) (c.new-so_far.ensures.beginning c.args.subs.now))

pub returns-in_ok-present_round-in-Ok-clause-kept : goal.returns-in_ok-present_round-in-Ok-clause-kept
returns-in_ok-present_round-in-Ok-clause-kept c = c.put_lines.ensures.block (ap (λ (s : Scenario). s.form) (c.new-so_far.ensures.beginning c.args.subs.now))

pub returns-in_ok-present_round-in-Ok-clause-read : goal.returns-in_ok-present_round-in-Ok-clause-read
returns-in_ok-present_round-in-Ok-clause-read c =
    rw (← c.new-so_far.ensures.beginning c.args.subs.now, c.in-Ok.ensures.read, c.in_ok-present_round-in-Ok.ensures.round) refl

pub returns-in_ok-present_round-in-Ok-clause-within : goal.returns-in_ok-present_round-in-Ok-clause-within
returns-in_ok-present_round-in-Ok-clause-within c =
    let same = c.put_lines.ensures.block (ap (λ (s : Scenario). s.form) (c.new-so_far.ensures.beginning c.args.subs.now)) in
    rw same at (c.in_ok-present_round-in-Ok.ensures.within c.put_lines.new.subs c.in-Ok.ensures.within)

pub returns-in-Err-clause-kept : goal.returns-in-Err-clause-kept
returns-in-Err-clause-kept c = c.put_lines.ensures.block (ap (λ (s : Scenario). s.form) (c.new-so_far.ensures.beginning c.args.subs.now))

pub returns-in-Err-clause-refused : goal.returns-in-Err-clause-refused
returns-in-Err-clause-refused c line why same = rw (← c.new-so_far.ensures.beginning c.args.subs.now, c.in-Err.ensures.refused line why (cc same)) refl
