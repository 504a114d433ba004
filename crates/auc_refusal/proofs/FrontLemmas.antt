-- For the line of a refusal: its first bytes were written.
use Rattle.std.proofs.Common.{◌≡◌, ◌∙◌, ℕ, List, [], Option, Some, None, ap, append-nil, refl, sym}
use Rattle.auc_edge.specs.Sink.{Appends, AppendsFront}

-- a whole text, or nothing of it
pub front_whole : (old new : Option (List ℕ)) (bytes : List ℕ) → Appends old new bytes → AppendsFront old new bytes
front_whole old new bytes is = record { front = bytes; rest = []; whole = append-nil bytes; appended = is }

pub front_none : (old new : Option (List ℕ)) (bytes : List ℕ) → new ≡ old → AppendsFront old new bytes
front_none None new bytes same = record { front = []; rest = bytes; whole = refl; appended = same }
front_none (Some old) new bytes same = record { front = []; rest = bytes; whole = refl; appended = same ∙ ap Some (sym (append-nil old)) }
