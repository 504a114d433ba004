-- Inner facts on stretches of calls of a centre over the pure core. The `impl` of a trait reaches no proofs of its own
-- crate, so those of its laws stand here.
use Rattle.std.specs.Prelude.{ℕ, List, [], ◌++◌, slice_index}
use Rattle.std.proofs.Common.{refl, ap, subst, ◌∙◌}
use Rattle.auc_core.specs.Step.{CoreState}
use Rattle.auc_memory.specs.declared.stop.Stop.{Stop}
use Rattle.auc_history.specs.declared.entry.Entry.{Entry}
use Rattle.auc_history.specs.History.{IsLegal}
use Rattle.auc_history.proofs.Facts.{IsLegal-append, IsLegal-nil}
use Rattle.auc_vector.specs.Stretch.{IsStretch}

-- no call is a stretch
pub stretch_none : (a : CoreState) (i : ℕ) → IsStretch a i [] [] a
stretch_none a i = record { legal = IsLegal-nil (slice_index a.tops i) (slice_index a.words i); nothing = refl; tops = refl }

-- two stretches, one after the other, are one
pub stretch_both : (a b c : CoreState) (i : ℕ) (es fs : List Entry) (ws vs : List (ℕ × Stop)) → IsStretch a i es ws b → IsStretch b i fs vs c
    → IsStretch a i (es ++ fs) (ws ++ vs) c
stretch_both a b c i es fs ws vs first second = record {
  legal = IsLegal-append (slice_index a.tops i) (slice_index a.words i) (slice_index b.words i) (slice_index c.words i) es fs first.legal
      (let P : List ℕ → Type 0 = λ tops. IsLegal (slice_index tops i) (slice_index b.words i) (slice_index c.words i) fs in
      subst P first.tops second.legal);
  nothing = ap (λ (xs : List (ℕ × Stop)). xs ++ vs) first.nothing ∙ second.nothing;
  tops = second.tops ∙ first.tops;
}
