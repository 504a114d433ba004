use Rattle.std.proofs.Common.{[], refl, ◌∙◌}
use Rattle.auc_centre.proofs.StepLemmas.{no_steps, steps_both, settles_later}
use Rattle.auc_centre.proofs.settling.settle.Goals as goal

pub loop-init : goal.loop-init
loop-init g c = (refl, no_steps c.args.sub c.args.pass.now c.requires.ordered)

pub returns-in-Some-release-clause-settles : goal.returns-in-Some-release-clause-settles
returns-in-Some-release-clause-settles g c =
    settles_later c.args.sub c.args.n c.args.pass.now c.loop.pass c.release.new.pass c.in-Some-release.answer c.loop.invariant.1 c.in-Some-release.ensures.tries

pub loop-preserved : goal.loop-preserved
loop-preserved g c =
    (c.release.ensures.own ∙ c.loop.invariant.0, steps_both c.args.pass.now c.loop.pass c.release.new.pass c.args.sub [] [] [] [] c.loop.invariant.1 c.in_default.ensures.tries)
