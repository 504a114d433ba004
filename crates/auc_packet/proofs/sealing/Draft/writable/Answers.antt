use Rattle.std.proofs.Common.{sym, arith}
use Rattle.auc_packet.proofs.SealedLemmas.{front_writable, front_small, none_stands, may_be_sealed}
use Rattle.auc_packet.proofs.sealing.Draft.writable.Goals as goal

pub returns-then-not-writable : goal.returns-then-not-writable
returns-then-not-writable c = (λ t. absurd cc, λ may. let w = front_writable c.args.self.now may in absurd cc)

pub returns-then-has : goal.returns-then-has
returns-then-has c = (λ t. absurd cc, λ may. let n = none_stands c.args.self.now may in absurd cc)

pub returns : goal.returns
returns c = (
  λ t. may_be_sealed c.args.self.now (sym c.if-not-writable.ensures) (sym c.if-has.ensures) (c.is_within.ensures.0 t),
  λ may. c.is_within.ensures.1 (omega (arith, front_small c.args.self.now may)),
)
