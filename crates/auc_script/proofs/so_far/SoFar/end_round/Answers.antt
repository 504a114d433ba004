use Rattle.std.proofs.Common.{refl}
use Rattle.auc_script.proofs.SoFarLemmas.{between_none, between_some}
use Rattle.auc_script.proofs.so_far.SoFar.end_round.Goals as goal

pub returns-in_ok-push-in-Some : goal.returns-in_ok-push-in-Some
returns-in_ok-push-in-Some c = record { between = between_some c.args.subs.now c.args.self.now c.in-Some.round c.push.new.self c.take.new.self c.requires (cc c.in-Some.ensures.value) (cc (c.in_ok-push-in-Some.ensures.pushed, c.in_ok-end-in-Some.ensures)) c.in-Some.ensures.after; same = refl }

pub returns-in_ok-self-in-None : goal.returns-in_ok-self-in-None
returns-in_ok-self-in-None c = record { between = between_none c.args.subs.now c.args.self.now c.in_ok-self-in-None.field-0 c.take.new.self c.len.result c.requires (cc c.in-None.ensures.value) c.len.ensures.count c.in_ok-self-in-None.ensures.before c.in_ok-self-in-None.ensures.marks c.in-None.ensures.after; same = refl }
