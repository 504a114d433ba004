use Rattle.std.proofs.Common.{◌∙◌, ◌≤◌, All, List, arith, subst, sym}
use Rattle.std.proofs.lemmas.List.Elements.{All-push}
use Rattle.auc_journal.specs.Image.{Frame}
use Rattle.auc_forms.proofs.ListedLemmas.{take_push}
use Rattle.auc_forms.proofs.reserved.copied.Goals as goal

pub loop-place-preserved : goal.loop-place-preserved
loop-place-preserved c = record {
  front = c.in_ok-push.ensures.items
      ∙ take_push c.args.limits.now.written c.loop-place.all.items c.loop-place.place c.limit_at.result c.loop-place.invariant.front c.limit_at.ensures.limit (omega (arith, c.len-place-end.ensures.count));
  digits = subst (λ (limits : List Frame). All (λ limit. limit.imsi.digits ≤ 15) limits) (sym c.in_ok-push.ensures.items)
      (All-push (λ (limit : Frame). limit.imsi.digits ≤ 15) c.loop-place.all.items c.limit_at.result c.loop-place.invariant.digits c.limit_at.ensures.digits);
}
