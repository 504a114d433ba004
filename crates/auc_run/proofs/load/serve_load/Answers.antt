use Rattle.std.proofs.Common.{◌∙◌, List, AllPairs, length, ap, subst, sym, arith}
use Rattle.auc_jobs.specs.Serving.{AreAllKnown}
use Rattle.auc_lines.specs.Part.{AreApart}
use Rattle.auc_lines.specs.declared.part.Line.{Line}
use Rattle.auc_subs.specs.Setting.{Setting}
use Rattle.auc_run.proofs.LoadLemmas.{load_apart, load_ends, load_few, load_known}
use Rattle.auc_run.proofs.load.serve_load.Goals as goal

pub serve_once-requires-clause-known : goal.serve_once-requires-clause-known
serve_once-requires-clause-known g c = λ κs within.
    let load = c.args.load.now in
    let jobs = c.as_slice-2.ensures ∙ c.in_ok-jobs.ensures in
    subst (λ (js : List (List Line)). AreAllKnown c.args.subs.now js) (sym jobs) (load_known load c.args.subs.now c.requires.load c.requires.subscribers)

pub serve_once-requires-clause-apart : goal.serve_once-requires-clause-apart
serve_once-requires-clause-apart g c = λ κs within.
    subst (λ (jobs : List (List Line)). AllPairs AreApart jobs) (sym (c.as_slice-2.ensures ∙ c.in_ok-jobs.ensures)) (load_apart c.args.load.now)

pub serve_once-requires-clause-few : goal.serve_once-requires-clause-few
serve_once-requires-clause-few g c = λ κs within.
    let same = ap length (c.as_slice-2.ensures ∙ c.in_ok-jobs.ensures) in
    let few = load_few c.args.load.now c.requires.load in
    omega (arith, same, few)

pub returns : goal.returns
returns g c =
    let set : Setting = record { key = c.new-rands.result; names = c.new-names.result; rows = c.args.subs.now; realm = c.as_slice.result.now } in
    load_ends c.args.load.now set c.as_slice-2.result.now c.in_ok-ran.ran.round c.in_ok-ran.ran.stop c.closings_of.result c.requires.load c.requires.subscribers
    (c.as_slice-2.ensures ∙ c.in_ok-jobs.ensures) c.in_ok-ran.ensures c.closings_of.ensures
