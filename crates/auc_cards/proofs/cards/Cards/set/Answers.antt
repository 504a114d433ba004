use Rattle.std.proofs.Common.{◌≡◌, ◌∙◌, ℕ, List, ap, map}
use Rattle.std.specs.Prelude.{slice_set}
use Rattle.std.proofs.lemmas.List.{map-set}
use Rattle.auc_cards.specs.Own.{AllCards}
use Rattle.auc_cards.specs.declared.cards.Card.{Card}
use Rattle.auc_cards.proofs.cards.Cards.set.Goals as goal

-- what contracts see of some cards
abbrev seen : List Card → AllCards
seen all = record { usims = map (λ (card : Card). card.usim) all; kept = map (λ (card : Card). card.kept) all }

-- and when one is set
seen-set : (all : List Card) (sub : ℕ) (card : Card) → seen (slice_set all sub card) ≡ record (seen all) { usims = slice_set (seen all).usims sub card.usim; kept = slice_set (seen all).kept sub card.kept }
seen-set all sub card = λ k. record { usims = map-set (λ (c : Card). c.usim) all sub card k; kept = map-set (λ (c : Card). c.kept) all sub card k }

pub returns-then-place-len : goal.returns-then-place-len
returns-then-place-len c =
    seen-set c.self.inside.all.items c.args.sub c.args.card
    ∙ ap (λ (s : AllCards). record s { usims = slice_set s.usims c.args.sub c.args.card.usim; kept = slice_set s.kept c.args.sub c.args.card.kept }) c.self.view_is
