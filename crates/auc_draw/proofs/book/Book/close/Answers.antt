use Rattle.std.proofs.Common.{map, sym, ap, ◌∙◌, arith}
use Rattle.std.proofs.lemmas.List.{length-map}
use Rattle.auc_draw.proofs.SeatLemmas.{shows_ok}
use Rattle.auc_draw.proofs.BookLemmas.{closes_at}
use Rattle.auc_draw.proofs.book.Book.close.Goals as goal

pub join-seat-requires-clause-passes : goal.join-seat-requires-clause-passes
join-seat-requires-clause-passes c k d within = (c.requires.own k d within).0 ∙ sym (ap (λ b. b.id) c.self.view_is)

pub split_seat-shown-requires : goal.split_seat-shown-requires
split_seat-shown-requires c = (c.join-seat.ensures.own.0, omega (arith, c.self.invariant.sized), shows_ok _ _ _ _ _)

pub returns : goal.returns
returns c = closes_at _ _ _ c.self.inside.table.shared.key c.self.inside.key c.args.self c.args.keeper _ c.read-words.result.items _ c.keeper.inside.seat.me.0.split c.split_seat-shown.new.seat.id c.keeper.inside.seat.me.0.note
    (map (λ p. p.deeds) c.args.passes.items) c.split_seat-shown.new.seat.me.0 _
    c.self.invariant.key c.self.view_is c.keeper.view_is (c.split_seat-shown.ensures.1 ∙ c.join-seat.ensures.own.1)
    (ap (λ m. m.0) c.split_seat-shown.ensures.2 ∙ ap (λ m. m.0) c.join-seat.ensures.view)
    (length-map c.args.passes.items (λ p. p.deeds) ∙ c.requires.all ∙ sym (ap (λ k. k.passes) c.keeper.view_is))
    c.close_with-closed.ensures.values.2 c.read-words.ensures.many c.read-words.ensures.each
    (ap (λ ls. record { words = c.read-words.result.items; lists = ls }) (ap (λ m. m.0.shown) c.split_seat-shown.ensures.4 ∙ ap (λ m. m.0.joined) c.join-seat.ensures.view))
