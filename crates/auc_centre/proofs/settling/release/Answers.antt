use Rattle.std.proofs.Common.{[], ◌∷◌, refl, ◌∙◌}
use Rattle.auc_centre.proofs.StepLemmas.{stop_steps, release_steps, is_released, above_steps, withheld_steps, steps_both}
use Rattle.auc_centre.proofs.settling.release.Goals as goal

pub returns-in-Released-default-clause-tries : goal.returns-in-Released-default-clause-tries
returns-in-Released-default-clause-tries c =
    let first = stop_steps c.args.sub c.stopped-stopped.result c.args.pass.now c.stopped-stopped.new.self c.stopped-stopped.ensures.stopped c.stopped-stopped.ensures.ended c.stopped-stopped.ensures.own.1 c.stopped-stopped.ensures.ordered in
    let second = release_steps c.args.sub c.args.n c.stopped-stopped.new.self c.release.new.self c.in-Released-default.ensures.releases c.release.ensures.ended c.release.ensures.own.1 c.release.ensures.ordered in
    (refl, steps_both c.args.pass.now c.stopped-stopped.new.self c.release.new.self c.args.sub [] [] [] [] first second, is_released c.args.sub c.args.n c.stopped-stopped.new.self c.release.new.self c.in-Released-default.ensures.releases)

pub returns-in-Above-Some-clause-tries : goal.returns-in-Above-Some-clause-tries
returns-in-Above-Some-clause-tries c =
    let first = stop_steps c.args.sub c.stopped-stopped.result c.args.pass.now c.stopped-stopped.new.self c.stopped-stopped.ensures.stopped c.stopped-stopped.ensures.ended c.stopped-stopped.ensures.own.1 c.stopped-stopped.ensures.ordered in
    let second = withheld_steps c.args.sub c.args.n c.in-Above-Some.stop c.stopped-stopped.new.self c.release.new.self (c.stopped-stopped.ensures.kept ∙ c.in-Above-Some.is-1) c.in-Above-Some.ensures.releases.1 c.release.ensures.ended c.release.ensures.own.1 c.release.ensures.ordered in
    (refl, steps_both c.args.pass.now c.stopped-stopped.new.self c.release.new.self c.args.sub [] [] [] ((c.args.n, c.in-Above-Some.stop) ∷ []) first second)

pub returns-in-Above-None-clause-tries : goal.returns-in-Above-None-clause-tries
returns-in-Above-None-clause-tries c =
    let first = stop_steps c.args.sub c.stopped-stopped.result c.args.pass.now c.stopped-stopped.new.self c.stopped-stopped.ensures.stopped c.stopped-stopped.ensures.ended c.stopped-stopped.ensures.own.1 c.stopped-stopped.ensures.ordered in
    let second = above_steps c.args.sub c.args.n c.stopped-stopped.new.self c.release.new.self (c.stopped-stopped.ensures.kept ∙ c.in-Above-None.is-1) c.in-Above-None.ensures.releases.1 c.release.ensures.ended c.release.ensures.own.1 c.release.ensures.ordered in
    steps_both c.args.pass.now c.stopped-stopped.new.self c.release.new.self c.args.sub [] [] [] [] first second
