use Rattle.std.proofs.Common.{◌∙◌, ap, sym}
use Rattle.auc_jobs.proofs.SystemLemmas.{outcome_by, outcome_is}
use Rattle.auc_jobs.proofs.systems.outcome_of.Goals as goal

pub returns-in-ServingRefused : goal.returns-in-ServingRefused
returns-in-ServingRefused c =
    ap (outcome_by c.args.home.now c.args.device.now) (sym c.in-ServingRefused.is)
    ∙ outcome_is c.args.home.now c.args.device.now c.args.res_star c.judge.result c.judge.ensures.serving c.judge.ensures.home c.judge.ensures.confirmed

pub returns-in-HomeRefused : goal.returns-in-HomeRefused
returns-in-HomeRefused c =
    ap (outcome_by c.args.home.now c.args.device.now) (sym c.in-HomeRefused.is)
    ∙ outcome_is c.args.home.now c.args.device.now c.args.res_star c.judge.result c.judge.ensures.serving c.judge.ensures.home c.judge.ensures.confirmed

pub returns-in-Confirmed : goal.returns-in-Confirmed
returns-in-Confirmed c =
    ap (outcome_by c.args.home.now c.args.device.now) (sym c.in-Confirmed.is)
    ∙ outcome_is c.args.home.now c.args.device.now c.args.res_star c.judge.result c.judge.ensures.serving c.judge.ensures.home c.judge.ensures.confirmed
