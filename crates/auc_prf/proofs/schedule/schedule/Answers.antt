use Rattle.std.proofs.Common.{◌≡◌, arith, refl, rules}
use Rattle.sha1.specs.Sha1.{first_words, schedule}
use Rattle.auc_prf.proofs.ScheduleLemmas.{own_next, further_next}
use Rattle.auc_prf.proofs.schedule.schedule.Goals as goal

pub own-init : goal.own-init
unfolding first_words
own-init c = (refl, refl)

pub own-preserved : goal.own-preserved
own-preserved c = (
  search rules,
  own_next c.args.block.now c.own.words c.own.t c.word_at.result (omega arith) c.own.invariant.1 c.word_at.ensures,
)

pub further-init : goal.further-init
unfolding schedule
further-init c =
    let done : c.own.t ≡ 16 = omega arith in
    (c.own.invariant.0, rw done at c.own.invariant.1)

pub further-preserved : goal.further-preserved
further-preserved c = (
  search rules,
  further_next c.args.block.now c.further.words c.further.t c.following.result (omega arith) (omega arith) c.further.invariant.1 c.following.ensures,
)
