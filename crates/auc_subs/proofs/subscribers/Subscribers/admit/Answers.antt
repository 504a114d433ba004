use Rattle.std.proofs.Common.{◌∙◌, ap, sym, Ok, is_some, arith}
use Rattle.std.proofs.lemmas.List.{length-map}
use Rattle.auc_subs.specs.Subscriber.{place_of}
use Rattle.auc_subs.proofs.LookupLemmas.{none_there}
use Rattle.auc_subs.proofs.RowLemmas.{rows_with_new}
use Rattle.auc_subs.proofs.subscribers.Subscribers.admit.Goals as goal

pub push-requires-clause-new : goal.push-requires-clause-new
push-requires-clause-new c =
    none_there (place_of c.args.self.now c.args.row.imsi) (sym (ap is_some c.find.ensures.place) ∙ sym c.is_some.ensures ∙ c.if-is_some.false)

pub push-requires-clause-room : goal.push-requires-clause-room
push-requires-clause-room c =
    rw (← c.self.view_is, length-map c.self.inside.rows.entries (λ e. e.1)) (omega (arith, c.len-sub.ensures.len))

pub returns-clause-added : goal.returns-clause-added
returns-clause-added c =
    rows_with_new c.args.self.now c.args.row (sym (ap is_some c.find.ensures.place) ∙ sym c.is_some.ensures ∙ c.if-is_some.false)
    (rw (← c.self.view_is, length-map c.self.inside.rows.entries (λ e. e.1)) (omega (arith, c.len-sub.ensures.len)))
    ∙ ap Ok (sym c.in_ok-push.ensures.added)
