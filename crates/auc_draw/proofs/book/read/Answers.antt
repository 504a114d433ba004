use Rattle.std.proofs.Common.{rules, refl, ◌∙◌, arith, length-set}
use Rattle.auc_draw.proofs.BookLemmas.{reads_more}
use Rattle.auc_draw.proofs.book.read.Goals as goal

pub loop-i-init : goal.loop-i-init
loop-i-init c = (refl, λ k below. absurd (omega (arith, below)))

pub loop-i-preserved : goal.loop-i-preserved
loop-i-preserved c = (
  length-set c.loop-i.numbers.items c.loop-i.i c.word.result ∙ c.loop-i.invariant.0,
  reads_more _ c.loop-i.numbers.items c.loop-i.i c.word.result (search rules) c.word.ensures c.loop-i.invariant.1,
)

pub returns-clause-each : goal.returns-clause-each
returns-clause-each c k within = c.loop-i.invariant.1 k (omega (arith, within))
