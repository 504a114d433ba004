use Rattle.std.proofs.Common.{sym, ◌∙◌, ap, subst}
use Rattle.auc_disk.specs.InnerReplay.{AreInRange}
use Rattle.auc_disk.specs.Replay.{image_by}
use Rattle.auc_disk.proofs.CrashLemmas.{image-first, range-first}
use Rattle.auc_disk.proofs.putting.replay_all.Goals as goal

pub replay-requires : goal.replay-requires
replay-requires c = (range-first c.pop_back.new.self c.in-Some.call (subst AreInRange c.in-Some.ensures.items c.loop-call.invariant.range)).1

pub loop-call-preserved : goal.loop-call-preserved
loop-call-preserved c =
    let seen = c.loop-call.seen.items in
    let image = c.loop-call.image.items in
    let left = c.pop_back.new.self in
    let call = c.in-Some.call in
    record {
      chosen =
          (λ i. image_by c.args.choice (c.in_ok-replay.ensures.seen i) (c.in_ok-replay.ensures.image i) left)
          ∙ sym (image-first c.args.choice seen image left call)
          ∙ ap (λ calls. image_by c.args.choice seen image calls) (sym c.in-Some.ensures.items)
          ∙ c.loop-call.invariant.chosen;
      range = (range-first left call (subst AreInRange c.in-Some.ensures.items c.loop-call.invariant.range)).0;
    }
