-- The withheld numbers of a subscriber, with their causes and without.
use Rattle.std.proofs.Common.{◌≡◌, ℕ, List, [], ◌∷◌, ◌++◌, refl, sym, ap, ◌∙◌}
use Rattle.std.specs.Prelude.{map, Option, Some, None}
use Rattle.std.proofs.lemmas.List.{map-append}
use Rattle.auc_memory.specs.declared.stop.Stop.{Stop}
use Rattle.auc_vector.specs.Notes.{withheld_noted}
use Rattle.auc_vector.specs.declared.notes.NumberNote.{NumberNote}
use Rattle.auc_vector.specs.declared.notes.NumberNote.TheVariants as number
use Rattle.auc_record.specs.Event.{number_withheld}
use Rattle.auc_record.specs.Lines.{number_by, withheld_by, withheld_of, held_by, held_of}
use Rattle.auc_record.specs.declared.record.LineRecord.{LineRecord}

-- a line's withheld number is the one that has the cause
withheld_held : (sub : ℕ) (line : LineRecord) → withheld_by sub line ≡ map (λ (h : ℕ × Stop). h.0) (held_by sub line)
withheld_held sub line = by (number_by sub line)
  where
    by : (note : Option NumberNote) → number_withheld note ≡ map (λ (h : ℕ × Stop). h.0) (withheld_noted note)
    by None = refl
    by (Some (number.Drew n)) = refl
    by (Some (number.Exhausted word)) = refl
    by (Some (number.Withheld n stop)) = refl

-- the withheld numbers of lines are those that have a cause, in their order
pub withheld_of-held_of : (sub : ℕ) (lines : List LineRecord) → withheld_of sub lines ≡ map (λ (h : ℕ × Stop). h.0) (held_of sub lines)
withheld_of-held_of sub [] = refl
withheld_of-held_of sub (line ∷ lines) =
    ap (λ (ns : List ℕ). ns ++ withheld_of sub lines) (withheld_held sub line)
    ∙ ap (λ (ns : List ℕ). map (λ (h : ℕ × Stop). h.0) (held_by sub line) ++ ns) (withheld_of-held_of sub lines)
    ∙ sym (map-append (λ (h : ℕ × Stop). h.0) (held_by sub line) (held_of sub lines))

-- if no number has a cause, none is withheld
pub none_held : (sub : ℕ) (lines : List LineRecord) → held_of sub lines ≡ [] → withheld_of sub lines ≡ []
none_held sub lines none = withheld_of-held_of sub lines ∙ ap (map (λ (h : ℕ × Stop). h.0)) none
