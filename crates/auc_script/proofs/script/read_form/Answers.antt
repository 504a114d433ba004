use Rattle.std.proofs.Common.{refl, rules}
use Rattle.auc_script.proofs.script.read_form.Goals as goal

pub put_lines-requires-clause-kept : goal.put_lines-requires-clause-kept
put_lines-requires-clause-kept c = c.new-so_far.ensures.kept c.args.subs.now

pub returns-in_ok-script-in-Ok-clause-read : goal.returns-in_ok-script-in-Ok-clause-read
returns-in_ok-script-in-Ok-clause-read c =
    rw (← c.new-so_far.ensures.beginning c.args.subs.now, c.in-Ok.ensures.read, c.in_ok-script-in-Ok.ensures.script c.put_lines.new.subs) refl

pub returns-in-Err-clause-refused : goal.returns-in-Err-clause-refused
returns-in-Err-clause-refused c line why same = rw (← c.new-so_far.ensures.beginning c.args.subs.now, c.in-Err.ensures.refused line why (cc same)) refl

pub returns-in-Err-clause-kept : goal.returns-in-Err-clause-kept
returns-in-Err-clause-kept c = rw (c.new-so_far.ensures.beginning c.args.subs.now) at c.in-Err.ensures.kept

pub returns-in_err-script-in-Ok-clause-kept : goal.returns-in_err-script-in-Ok-clause-kept
returns-in_err-script-in-Ok-clause-kept c =
    let front = rw (c.new-so_far.ensures.beginning c.args.subs.now) at c.in-Ok.ensures.front in
    search (rules, front)
