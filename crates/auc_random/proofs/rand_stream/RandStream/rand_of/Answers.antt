use Rattle.std.proofs.Common.{◌∙◌}
use Rattle.auc_random.proofs.RandomLemmas.{rand_is}
use Rattle.auc_random.proofs.rand_stream.RandStream.rand_of.Goals as goal

pub returns-clause-value : goal.returns-clause-value
returns-clause-value c =
    rw (← c.self.view_is, ← c.from.ensures)
    (c.bytes_of.ensures
    ∙ rand_is c.self.inside.key c.next_four.result c.self.inside.words c.seek.new.words c.from.result (rw c.from.ensures c.ranges.n.fits) c.self.invariant
    c.seek.ensures c.next_four.ensures.words)
