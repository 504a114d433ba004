-- One stretch of the centre's calls: the draws so far, and the next one.
use Rattle.std.proofs.Common.{ℕ, List, [], ◌∷◌, ◌++◌, Option, Ok, Err, ◌∙◌, sym, ap, subst, arith}
use Rattle.std.proofs.lemmas.List.{append-nil, length-append}
use Rattle.std.proofs.lemmas.List.Elements.{All-push}
use Rattle.auc_history.specs.declared.entry.Entry.{Entry}
use Rattle.auc_vector.specs.Centre.{AnswersNext, entries_of_next, kept_after_next, withheld_of_next}
use Rattle.auc_sites.specs.Drawing.{entries_of}
use Rattle.auc_sites.proofs.DrawingLemmas.{answers_before, drawn_above, drawn_more, numbers_rise}
use Rattle.auc_sites.proofs.drawing.draw_lease.Goals as goal

pub push-requires : goal.push-requires
push-requires g c = (
  omega (arith, c.loop-i.invariant.count, c.loop-i-test.true, c.requires.size),
  drawn_above g.C.Centre.goes c.args.sub c.in-Ok.n c.loop-i.lease c.args.centre.now c.loop-i.centre c.next.new.self g.met.C.Centre.joins g.met.C.Centre.rises
      c.loop-i.invariant.own c.in-Ok.ensures.goes,
)

pub loop-i-preserved : goal.loop-i-preserved
loop-i-preserved g c = record {
  count = rw c.push.ensures (omega (arith, c.loop-i.invariant.count, length-append c.loop-i.lease (c.in-Ok.n ∷ [])));
  given = rw c.push.ensures
      (All-push (λ n. AnswersNext (g.C.Centre.top c.args.centre.now c.args.sub) (g.C.Centre.kept c.args.centre.now c.args.sub) (Ok n)) c.loop-i.lease c.in-Ok.n c.loop-i.invariant.given
      (answers_before _ _ _ _ (Ok c.in-Ok.n) (c.loop-i.invariant.top c.args.sub) c.loop-i.invariant.here c.in-Ok.ensures.answer));
  own = drawn_more g.C.Centre.goes c.args.sub c.in-Ok.n c.loop-i.lease c.push.new.self c.args.centre.now c.loop-i.centre c.next.new.self g.met.C.Centre.joins
      c.push.ensures c.loop-i.invariant.own c.in-Ok.ensures.goes;
  others = λ i other. g.met.C.Centre.joins c.args.centre.now c.loop-i.centre c.next.new.self i [] [] [] [] (c.loop-i.invariant.others i other) (c.in-Ok.ensures.others i other);
  here = c.in-Ok.ensures.kept ∙ c.loop-i.invariant.here;
  still = λ i other. c.in-Ok.ensures.still i other ∙ c.loop-i.invariant.still i other;
  subs = c.in-Ok.ensures.subs ∙ c.loop-i.invariant.subs;
  top = λ i. c.in-Ok.ensures.top i ∙ c.loop-i.invariant.top i;
  name = c.in-Ok.ensures.name ∙ c.loop-i.invariant.name;
}

pub returns-in-Err-clause-drew : goal.returns-in-Err-clause-drew
returns-in-Err-clause-drew g c = record {
  count = omega (arith, c.loop-i.invariant.count, c.loop-i-test.true);
  given = c.loop-i.invariant.given;
  rising = numbers_rise c.loop-i.lease (g.met.C.Centre.rises c.args.centre.now c.loop-i.centre c.args.sub _ _ c.loop-i.invariant.own);
  refused = answers_before _ _ _ _ (Err c.in-Err.why) (c.loop-i.invariant.top c.args.sub) c.loop-i.invariant.here c.in-Err.ensures.answer;
  own = subst (λ (k : Option ℕ). g.C.Centre.goes c.args.centre.now c.args.sub (entries_of c.loop-i.lease ++ entries_of_next k (Err c.in-Err.why)) (withheld_of_next (Err c.in-Err.why)) c.next.new.self) c.loop-i.invariant.here
      (g.met.C.Centre.joins c.args.centre.now c.loop-i.centre c.next.new.self c.args.sub (entries_of c.loop-i.lease) _ [] _ c.loop-i.invariant.own c.in-Err.ensures.goes);
  others = λ i other. g.met.C.Centre.joins c.args.centre.now c.loop-i.centre c.next.new.self i [] [] [] [] (c.loop-i.invariant.others i other) (c.in-Err.ensures.others i other);
  keeps = c.in-Err.ensures.kept ∙ ap (λ (k : Option ℕ). kept_after_next k (Err c.in-Err.why)) c.loop-i.invariant.here;
  still = λ i other. c.in-Err.ensures.still i other ∙ c.loop-i.invariant.still i other;
}

pub returns-clause-drew : goal.returns-clause-drew
returns-clause-drew g c = record {
  count = omega (arith, c.loop-i.invariant.count, c.loop-i-test.false, c.loop-i.auto._i-end);
  given = c.loop-i.invariant.given;
  rising = numbers_rise c.loop-i.lease (g.met.C.Centre.rises c.args.centre.now c.loop-i.centre c.args.sub _ _ c.loop-i.invariant.own);
  refused = tt;
  own = subst (λ (es : List Entry). g.C.Centre.goes c.args.centre.now c.args.sub es [] c.loop-i.centre) (sym (append-nil (entries_of c.loop-i.lease))) c.loop-i.invariant.own;
  others = c.loop-i.invariant.others;
  keeps = c.loop-i.invariant.here;
  still = c.loop-i.invariant.still;
}
