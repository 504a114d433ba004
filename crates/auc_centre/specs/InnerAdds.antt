-- Inner facts on stretches of calls at a desk. The `impl` of a trait reaches no proofs of its own crate, so those of its
-- laws stand here.
use Rattle.std.specs.Prelude.{slice_index}
use Rattle.std.proofs.Common.{◌≡◌, inl, inr, ℕ, List, [], ◌++◌, All, Contains, refl, sym, ap, subst, ◌∙◌}
use Rattle.std.proofs.lemmas.Grind.{flat_map-append}
use Rattle.std.proofs.lemmas.List.{append-nil, append_assoc, map-append}
use Rattle.std.proofs.lemmas.List.Elements.{All-nil, All-append, Contains-append_left, Contains-append_right}
use Rattle.auc_memory.specs.declared.stop.Stop.{Stop}
use Rattle.auc_history.specs.declared.entry.Entry.{Entry}
use Rattle.auc_history.specs.History.{drawn, drawn_by}
use Rattle.auc_draw.specs.declared.rule.Deed.{Deed}
use Rattle.auc_draw.specs.Deeds.{entries_of, held_of, released_in, released_of}
use Rattle.auc_draw.specs.Values.{PassValue}
use Rattle.auc_draw.proofs.Facts.{in_order_none, in_order_both, after_none, after_both}
use Rattle.auc_centre.specs.Adds.{AddsAtDesk, IsTold, numbers_of}

-- no call adds nothing
pub adds_nothing : (a : PassValue) (i : ℕ) → AddsAtDesk a i [] [] a
adds_nothing a i = record {
  made = sym (append-nil (entries_of i a.deeds));
  ordered = in_order_none;
  after = after_none (entries_of i a.deeds);
  held = sym (append-nil (held_of i a.deeds));
  told = All-nil (IsTold (slice_index a.tops i) [] (released_of i a.deeds));
  grows = ([], sym (append-nil a.deeds));
  claims = refl;
  ended = refl;
  tops = refl;
}

-- what became of a number stands when further numbers are withheld and released
told_still : (top : ℕ) (ws vs : List (ℕ × Stop)) (released more : List ℕ) (n : ℕ) → IsTold top ws released n → IsTold top (ws ++ vs) (released ++ more) n
told_still top ws vs released more n (inl mark) = inl mark
told_still top ws vs released more n (inr (inl held)) = inr (inl (subst (λ (ns : List ℕ). Contains ns n) (sym (map-append (λ (h : ℕ × Stop). h.0) ws vs)) (Contains-append_left (numbers_of ws) (numbers_of vs) n held)))
told_still top ws vs released more n (inr (inr told)) = inr (inr (Contains-append_left released more n told))

told_later : (top : ℕ) (ws vs : List (ℕ × Stop)) (released : List ℕ) (n : ℕ) → IsTold top vs released n → IsTold top (ws ++ vs) released n
told_later top ws vs released n (inl mark) = inl mark
told_later top ws vs released n (inr (inl held)) = inr (inl (subst (λ (ns : List ℕ). Contains ns n) (sym (map-append (λ (h : ℕ × Stop). h.0) ws vs)) (Contains-append_right (numbers_of ws) (numbers_of vs) n held)))
told_later top ws vs released n (inr (inr told)) = inr (inr told)

-- what a pass had released stays released
released_more : (old new : PassValue) (i : ℕ) (rest : List Deed) → new.deeds ≡ old.deeds ++ rest → released_of i old.deeds ++ released_of i rest ≡ released_of i new.deeds
released_more old new i rest grows = sym (ap (released_of i) grows ∙ flat_map-append (released_in i) old.deeds rest)

-- two stretches, one after the other, are one
pub adds_both : (a b c : PassValue) (i : ℕ) (es fs : List Entry) (ws vs : List (ℕ × Stop)) → AddsAtDesk a i es ws b → AddsAtDesk b i fs vs c → AddsAtDesk a i (es ++ fs) (ws ++ vs) c
adds_both a b c i es fs ws vs first second =
    let Told : List (ℕ × Stop) → List ℕ → ℕ → Type 0 = IsTold (slice_index a.tops i) in
    let still = λ (n : ℕ) (told : Told ws (released_of i b.deeds) n). subst (λ (ns : List ℕ). Told (ws ++ vs) ns n) (released_more b c i second.grows.0 second.grows.1) (told_still (slice_index a.tops i) ws vs (released_of i b.deeds) (released_of i second.grows.0) n told) in
    let later = subst (λ (ts : List ℕ). All (IsTold (slice_index ts i) vs (released_of i c.deeds)) (drawn fs)) first.tops second.told in
    record {
      made = second.made ∙ ap (λ (xs : List Entry). xs ++ fs) first.made ∙ append_assoc (entries_of i a.deeds) es fs;
      ordered = in_order_both (entries_of i a.deeds) (entries_of i b.deeds) es fs first.made first.ordered second.ordered second.after;
      after = after_both (entries_of i a.deeds) (entries_of i b.deeds) es fs first.made first.after second.after;
      held = second.held ∙ ap (λ (xs : List (ℕ × Stop)). xs ++ vs) first.held ∙ append_assoc (held_of i a.deeds) ws vs;
      told = subst (All (Told (ws ++ vs) (released_of i c.deeds))) (sym (flat_map-append drawn_by es fs))
          (All-append (Told (ws ++ vs) (released_of i c.deeds)) (drawn es) (drawn fs)
          (λ k d within. still _ (first.told k d within))
          (λ k d within. told_later (slice_index a.tops i) ws vs (released_of i c.deeds) _ (later k d within)));
      grows = (first.grows.0 ++ second.grows.0, second.grows.1 ∙ ap (λ (xs : List Deed). xs ++ second.grows.0) first.grows.1 ∙ append_assoc a.deeds first.grows.0 second.grows.0);
      claims = second.claims ∙ first.claims;
      ended = second.ended ∙ first.ended;
      tops = second.tops ∙ first.tops;
    }
