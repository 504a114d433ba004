use Rattle.std.proofs.Common.{◌≡◌, List, [], ◌∙◌, ap, map, rules, subst, sym}
use Rattle.std.proofs.lemmas.Result.{IfOk-weaker}
use Rattle.auc_subs.specs.Subscriber.{AreSubscribers}
use Rattle.auc_subs.specs.declared.row.Row.{Row}
use Rattle.auc_subs.specs.Setting.{Setting}
use Rattle.auc_run.proofs.LoadLemmas.{served_lawful}
use Rattle.auc_run.proofs.load.serve_once.Goals as goal

pub serve-requires-clause-state : goal.serve-requires-clause-state
serve-requires-clause-state g c = λ κs within. ([], c.in_ok-state.ensures.stands c.args.set.now (search rules))

pub serve-requires-clause-round : goal.serve-requires-clause-round
serve-requires-clause-round g c = λ κs within. record {
  subscribers = subst AreSubscribers (ap (λ (set : Setting). set.rows) c.set.view_is) c.in_ok-journal.ensures.subscribers;
  known = c.requires.known;
  few = c.requires.few;
  apart = c.requires.apart;
  many = c.requires.workers;
}

pub returns : goal.returns
returns g c =
    let set = c.args.set.now in
    let state = c.in_ok-state.state in
    let rows : set.rows ≡ c.set.inside.subs.now = search rules in
    let words = c.in_ok-state.ensures.words ∙ ap (λ (rows : List Row). map (λ (row : Row). row.seq) rows) (sym rows) in
    rw c.ran_of.ensures
    (IfOk-weaker c.serve.result.result _ _
    (λ ran served. served_lawful _ _ _ _ set state c.serve.result.state c.args.jobs.now ran.round ran.stop c.in_ok-journal.journal c.serve.result.journal words (served [] (c.in_ok-state.ensures.stands set rows)))
    c.serve.ensures.served)
