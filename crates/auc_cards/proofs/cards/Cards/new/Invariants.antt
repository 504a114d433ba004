use Rattle.std.proofs.Common.{◌≡◌, length, map, take}
use Rattle.auc_cards.specs.Stores.{fresh_kept}
use Rattle.auc_cards.specs.declared.cards.Card.{Card}
use Rattle.auc_cards.proofs.RowLemmas.{AreOpened}
use Rattle.auc_cards.proofs.cards.Cards.new.Given as goal

abbrev pub invariant-loop-sub : goal.invariant-loop-sub
invariant-loop-sub l = record {
  size : length l.all.items ≡ l.sub;
  opened : AreOpened l.subs (map (λ (card : Card). card.usim) l.all.items);
  names : map (λ (card : Card). card.kept) l.all.items ≡ map (λ row. fresh_kept) (take l.sub l.subs);
}
