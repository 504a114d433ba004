-- What requests for vectors of a subscriber give. The centre's answers are free here.
use Rattle.std.specs.Prelude.{◌≡◌, ℕ, ◌<◌, ◌≤◌, zero, suc, List, [], ◌∷◌, length}
use Rattle.auc_subs.specs.Subscriber.{top_at}
use Rattle.auc_record.specs.declared.record.LineRecord.{LineRecord}
use Rattle.auc_record.specs.declared.record.LineRecord.TheVariants as record_of
use Rattle.auc_vector.specs.declared.notes.NumberNote.TheVariants as number
use Rattle.auc_subs.specs.Setting.{Setting}

-- a released vector has a number that a vector may have, and its subscriber has a row
pub record IsReleasable (set : Setting) (sub n : ℕ) : Type 0 where
  pub known : sub < length set.rows
  pub first : 1 ≤ n
  pub last : n ≤ top_at set.rows sub

-- what a request for a vector of a subscriber gives: a vector, and what follows its number; or a withheld number or the word
-- of a spent subscriber, which is at least its greatest number, and nothing else
abbrev pub OneGives : Setting → ℕ → (ℕ → List LineRecord → Type 0) → List LineRecord → Type 0
OneGives set sub Follows [] = ⊥
OneGives set sub Follows (record_of.Number s (number.Drew n) ∷ lines) = (s ≡ sub) × IsReleasable set sub n × Follows n lines
OneGives set sub Follows (record_of.Number s (number.Withheld n stop) ∷ lines) = (s ≡ sub) × (1 ≤ n) × (n ≤ top_at set.rows sub) × (lines ≡ [])
OneGives set sub Follows (record_of.Number s (number.Exhausted word) ∷ lines) = (s ≡ sub) × (top_at set.rows sub ≤ word) × (lines ≡ [])
OneGives set sub Follows (record_of.Sync s note ∷ lines) = ⊥
OneGives set sub Follows (record_of.Give s n answer ∷ lines) = ⊥
OneGives set sub Follows (record_of.Further said ∷ lines) = ⊥
OneGives set sub Follows (record_of.Event r ∷ lines) = ⊥

-- what a request for so many vectors gives: as many, or fewer and then what ends it
abbrev pub DrawGives : Setting → ℕ → ℕ → List LineRecord → Type 0
DrawGives set sub zero lines = lines ≡ []
DrawGives set sub (suc count) lines = OneGives set sub (λ n rest. DrawGives set sub count rest) lines
