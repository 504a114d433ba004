use Rattle.std.proofs.Common.{[], ◌∙◌, ap, sym, take}
use Rattle.std.specs.Prelude.{List, ℕ}
use Rattle.std.proofs.lemmas.List.Sums.{fold_more}
use Rattle.auc_lines.specs.Part.{held_by, held_subs, with_held}
use Rattle.auc_lines.specs.declared.part.Line.{Line}
use Rattle.auc_cards.proofs.devices.held.Goals as goal

pub loop-line-preserved : goal.loop-line-preserved
loop-line-preserved c =
    let here : Line = c.line-item.result in
    c.in_ok-hold_for.ensures ∙ ap (λ (subs : List ℕ). with_held subs (held_by here)) c.loop-line.invariant
    ∙ ap (λ (l : Line). with_held (held_subs (take c.loop-line.line-index c.args.job.now)) (held_by l)) c.line-item.is
    ∙ sym (fold_more (λ (subs : List ℕ) (l : Line). with_held subs (held_by l)) [] c.args.job.now c.loop-line.line-index here c.loop-line-test.true)
