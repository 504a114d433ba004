use Rattle.std.proofs.Common.{◌≡◌, ◌∙◌, ℕ, [], ◌∷◌, length, map, Some, slice_get, ap, refl, subst, sym, rules}
use Rattle.std.proofs.lemmas.List.{length-map, map-append}
use Rattle.auc_cards.specs.declared.cards.Card.{Card}
use Rattle.auc_cards.proofs.RowLemmas.{AreOpened, fresh_more, opened_behind, opened_none, opened_push, opened_rows}
use Rattle.auc_cards.proofs.cards.Cards.new.Goals as goal

pub loop-sub-init : goal.loop-sub-init
loop-sub-init c = record { size = search rules; opened = rw c.new-all.ensures.items (opened_none c.args.subs.now); names = rw c.new-all.ensures.items refl }

pub loop-sub-preserved : goal.loop-sub-preserved
loop-sub-preserved c =
    let all = c.loop-sub.all.items in
    let card : Card = record { usim = c.new-usim.result; kept = c.fresh_kept-kept.result } in
    let usims = ap (map (λ (card : Card). card.usim)) c.in_ok-push.ensures.items ∙ map-append (λ (card : Card). card.usim) all (card ∷ []) in
    let kept = ap (map (λ (card : Card). card.kept)) c.in_ok-push.ensures.items ∙ map-append (λ (card : Card). card.kept) all (card ∷ []) in
    record {
      size = search rules;
      opened = subst (AreOpened c.args.subs.now) (sym usims) (opened_push c.args.subs.now (map (λ (card : Card). card.usim) all) c.new-usim.result c.row-row.result.now
          (subst (λ (k : ℕ). slice_get c.args.subs.now k ≡ Some c.row-row.result.now) (sym (length-map all (λ (card : Card). card.usim) ∙ c.loop-sub.invariant.size)) c.row-row.ensures.place)
          (record { secret = c.new-usim.ensures.secret; bits = c.new-usim.ensures.bits; age = c.new-usim.ensures.age })
          c.new-usim.ensures.past c.loop-sub.invariant.opened);
      names = fresh_more c.args.subs.now c.loop-sub.sub (map (λ (card : Card). card.kept) all) _ c.fresh_kept-kept.result (search rules) c.loop-sub.invariant.names c.fresh_kept-kept.ensures kept;
    }

pub returns-clause-rows : goal.returns-clause-rows
returns-clause-rows c =
    let size : length c.loop-sub.all.items ≡ length c.args.subs.now = search rules in
    opened_rows c.args.subs.now _ (length-map c.loop-sub.all.items (λ (card : Card). card.usim) ∙ size) c.loop-sub.invariant.opened

pub returns-clause-fresh : goal.returns-clause-fresh
returns-clause-fresh c = opened_behind c.args.subs.now _ c.loop-sub.invariant.opened
