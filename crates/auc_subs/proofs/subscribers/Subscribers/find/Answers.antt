use Rattle.std.proofs.Common.{◌∙◌, sym}
use Rattle.std.proofs.lemmas.List.{length-map}
use Rattle.indexmap.specs.IndexMap.{keys, values}
use Rattle.auc_subs.proofs.LookupLemmas.{place_by_key}
use Rattle.auc_subs.proofs.RowLemmas.{found, not_found}
use Rattle.auc_subs.proofs.subscribers.Subscribers.find.Goals as goal

pub returns-in-Some-clause-place : goal.returns-in-Some-clause-place
returns-in-Some-clause-place c =
    rw (← c.self.view_is) (rw c.key.ensures at c.in-Some.ensures.index ∙ place_by_key (keys c.self.inside.rows) (values c.self.inside.rows) c.args.imsi c.self.invariant)

pub returns-in-None-clause-place : goal.returns-in-None-clause-place
returns-in-None-clause-place c =
    rw (← c.self.view_is) (rw c.key.ensures at c.in-None.ensures.index ∙ place_by_key (keys c.self.inside.rows) (values c.self.inside.rows) c.args.imsi c.self.invariant)

pub returns-in-Some-clause-found : goal.returns-in-Some-clause-found
returns-in-Some-clause-found c = found c.args.self.now c.args.imsi c.in-Some.sub (sym (returns-in-Some-clause-place c)) (rw (← c.self.view_is, length-map c.self.inside.rows.entries (λ e. e.1)) c.in-Some.ensures.within)

pub returns-in-None-clause-none : goal.returns-in-None-clause-none
returns-in-None-clause-none c = not_found c.args.self.now c.args.imsi (sym (returns-in-None-clause-place c))
