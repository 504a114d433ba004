use Rattle.std.proofs.Common.{All, length, refl, subst, sym, ap, ◌∙◌, arith, is_some, true≢false}
use Rattle.std.proofs.lemmas.List.Elements.{All-push}
use Rattle.auc_named.specs.InnerNaming.{IsAtAPlace, IsOwnLine}
use Rattle.auc_named.specs.Named.{line_of}
use Rattle.auc_named.proofs.NamingLemmas.{at_item, became_more}
use Rattle.auc_named.proofs.own_lines.own_job.Goals as goal
use Rattle.auc_named.proofs.own_lines.own_job.Goals.{in-Some+in_ok-push, in_default}

pub loop-line-preserved : goal.loop-line-preserved
loop-line-preserved c = elim c.match-own_line.branch [
  | in-Some+in_ok-push w ↦ record {
    own = rw w.own-is
        (subst (All (IsOwnLine (length c.args.places.now))) (sym w.in_ok-push.ensures.pushed)
        (All-push (IsOwnLine (length c.args.places.now)) c.loop-line.own _ c.loop-line.invariant.own w.in-Some.ensures.own));
    same = rw w.own-is
        (became_more (line_of c.args.places.now) c.args.job.now c.loop-line.own _ c.loop-line.line-index c.line-item.result _ c.loop-line.invariant.same (omega arith) c.line-item.is w.in-Some.ensures.same w.in_ok-push.ensures.pushed);
  }
  | in_default w ↦
      let here = at_item (IsAtAPlace c.args.places.now) c.args.job.now c.loop-line.line-index c.line-item.result c.line-item.result c.requires.there (omega arith) c.line-item.is refl in
      absurd (true≢false (sym here.plain ∙ sym c.own_line.ensures.plain ∙ ap is_some w.in_default.is))
]
