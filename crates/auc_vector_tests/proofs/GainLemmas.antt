-- What a caller of any centre gains by two calls.
use Rattle.std.proofs.Common.{◌≡◌, ◌≢◌, ℕ, List, [], ◌++◌, Option, Result, subst}
use Rattle.std.proofs.lemmas.List.{append-nil}
use Rattle.auc_memory.specs.declared.stop.Stop.{Stop}
use Rattle.auc_history.specs.declared.entry.Entry.{Entry}
use Rattle.auc_vector.specs.Centre.{entries_of_next, withheld_of_next, kept_after_next, entries_of_resync}
use Rattle.auc_vector.specs.declared.centre.Resynced.{Resynced}
use Rattle.auc_vector.specs.declared.centre.CentreRefusal.{CentreRefusal}
use Rattle.auc_vector_tests.specs.InnerGains.{Gains}

module _ {S : Type 0} (goes : S → ℕ → List Entry → List (ℕ × Stop) → S → Type 0) where
  -- two stretches of calls, one after the other, are one stretch
  abbrev pub Joins : Type 0
  Joins = (a b c : S) (i : ℕ) (es fs : List Entry) (ws vs : List (ℕ × Stop)) → goes a i es ws b → goes b i fs vs c → goes a i (es ++ fs) (ws ++ vs) c

  -- a draw from one state to another
  pub record IsDrawn (sub : ℕ) (kept : Option ℕ) (drawn : Result ℕ CentreRefusal) (old new : S) : Type 0 where
    pub here : goes old sub (entries_of_next kept drawn) (withheld_of_next drawn) new
    pub others : (i : ℕ) → i ≢ sub → goes old i [] [] new

  -- a resynchronisation from one state to another
  pub record IsResynced (sub : ℕ) (kept : Option ℕ) (resynced : Result Resynced CentreRefusal) (old new : S) : Type 0 where
    pub here : goes old sub (entries_of_resync kept resynced) [] new
    pub others : (i : ℕ) → i ≢ sub → goes old i [] [] new

  -- a draw and then a resynchronisation
  pub gained : Joins → (old mid new : S) (sub : ℕ) (kept kept' : Option ℕ) (drawn : Result ℕ CentreRefusal) (resynced : Result Resynced CentreRefusal)
      → kept' ≡ kept_after_next kept drawn → IsDrawn sub kept drawn old mid → IsResynced sub kept' resynced mid new → Gains (λ i es ws. goes old i es ws new) sub kept drawn resynced
  gained joins old mid new sub kept kept' drawn resynced is first second =
      let both = joins old mid new sub (entries_of_next kept drawn) (entries_of_resync kept' resynced) (withheld_of_next drawn) [] first.here second.here in
      let bare = subst (λ (ws : List (ℕ × Stop)). goes old sub (entries_of_next kept drawn ++ entries_of_resync kept' resynced) ws new) (append-nil (withheld_of_next drawn)) both in
      record {
        here = subst (λ (k : Option ℕ). goes old sub (entries_of_next kept drawn ++ entries_of_resync k resynced) (withheld_of_next drawn) new) is bare;
        others = λ i apart. joins old mid new i [] [] [] [] (first.others i apart) (second.others i apart);
      }
