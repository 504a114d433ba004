use Rattle.std.proofs.Common.{length, ap, arith}
use Rattle.auc_draw.proofs.StopLemmas.{raise_ok}
use Rattle.auc_draw.proofs.KeeperLemmas.{may_rise, noted_limit}
use Rattle.auc_draw.proofs.keeper.KeeperPass.raise.Goals as goal

pub raise_limit-requires-clause-allowed : goal.raise_limit-requires-clause-allowed
raise_limit-requires-clause-allowed c = raise_ok _ _ _ _ _ _ _ _ _ c.self.invariant.first
    (omega (arith, c.len-subs.ensures, ap (λ k. length k.openings.items) c.book.invariant.key))
    (omega (arith, ap (λ k. length k.openings.items) c.book.invariant.key, ap (λ b. length b.openings) c.book.view_is, c.requires.sub))
    (may_rise c.self.inside.seat.table_id c.self.inside.seat.me.0 c.args.sub c.args.limit c.args.self.now c.self.view_is c.requires.running c.requires.number c.requires.near c.requires.step)

pub returns : goal.returns
returns c = noted_limit c.self.inside.seat.table_id c.raise_limit.new.seat.table_id c.self.inside.seat.me c.raise_limit.new.seat.me c.args.sub c.args.limit c.args.self.now c.self.view_is c.raise_limit.ensures.own.0 c.raise_limit.ensures.notes
