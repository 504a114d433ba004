use Rattle.std.proofs.Common.{◌≡◌, ◌⊎◌, ℕ, ◌+◌, ◌≤◌, ◌<◌, List, get_or, length, sym, ◌∙◌, ap, subst, arith}
use Rattle.std.specs.Prelude.{slice_index, slice_set}
use Rattle.std.proofs.lemmas.List.Elements.{All-get_or}
use Rattle.auc_sqn.specs.Number.{max_seq}
use Rattle.auc_draw.specs.Values.{KeeperValue}
use Rattle.auc_keeper.specs.Keeper.{MayRise}
use Rattle.auc_keeper.proofs.GroupLemmas.{set_before, set_next}
use Rattle.auc_keeper.proofs.keeper.raise_all.Goals as goal

pub raise-requires-clause-step : goal.raise-requires-clause-step
raise-requires-clause-step c =
    let item : ℕ × ℕ = get_or c.args.items.now c.loop-item.item-index (0, 0) in
    let here : c.loop-item.item-index < length c.args.items.now = omega (arith, c.loop-item-test.true) in
    let rise : MayRise c.args.pass.now item.0 item.1 = All-get_or (λ (x : ℕ × ℕ). MayRise c.args.pass.now x.0 x.1) c.args.items.now c.loop-item.item-index (0, 0) here c.requires.limits in
    let same : slice_index c.loop-item.pass.limits item.0 ≡ slice_index c.args.pass.now.limits item.0 =
    ap (λ (p : KeeperValue). slice_index p.limits item.0) c.loop-item.invariant.raised
    ∙ set_before c.args.items.now c.args.pass.now.limits c.loop-item.item-index (0, 0) c.requires.differ here in
    subst (λ (n : ℕ). (item.1 ≡ max_seq) ⊎ (n + 64 ≤ item.1)) (sym same) rise.step

pub loop-item-preserved : goal.loop-item-preserved
loop-item-preserved c =
    let item : ℕ × ℕ = get_or c.args.items.now c.loop-item.item-index (0, 0) in
    let here : c.loop-item.item-index < length c.args.items.now = omega (arith, c.loop-item-test.true) in
    record {
      within = omega (arith, here);
      raised = c.raise.ensures
          ∙ ap (λ (p : KeeperValue). record p { limits = slice_set p.limits item.0 item.1 }) c.loop-item.invariant.raised
          ∙ ap (λ (l : List ℕ). record c.args.pass.now { limits = l }) (sym (set_next c.args.items.now c.args.pass.now.limits c.loop-item.item-index (0, 0) here));
    }
