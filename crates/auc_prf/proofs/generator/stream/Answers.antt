use Rattle.std.proofs.Common.{◌≡◌, arith, rules}
use Rattle.std.proofs.lemmas.List.{take_all, append-nil}
use Rattle.std.proofs.lemmas.Slice.{overwrites}
use Rattle.auc_prf.proofs.GeneratorLemmas.{stream_next, words_none}
use Rattle.auc_prf.proofs.generator.stream.Goals as goal

pub loop-i-preserved : goal.loop-i-preserved
loop-i-preserved c = (
  search (rules, overwrites),
  rw c.copy_from_slice.ensures.after
      (stream_next c.loop-i.out c.loop-i.xkey c.next_word.result.0 c.next_word.result.1 _ c.loop-i.i (omega arith) (omega arith) (search rules)
      c.next_word.ensures.word c.next_word.ensures.next c.loop-i.invariant.1),
)

pub returns : goal.returns
returns c =
    let done : c.loop-i.i ≡ 8 = omega arith in
    let all = rw (done, words_none, append-nil, take_all 160 c.loop-i.out (omega arith)) at c.loop-i.invariant.1 in
    all
