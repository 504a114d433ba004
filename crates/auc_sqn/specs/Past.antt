-- What a USIM has accepted, and its verdict on the next SQN by that (TS 33.102 §6.3.3 and Annex C.2).
use Rattle.std.specs.Prelude.{◌≡◌, ℕ, zero, suc, ◌+◌, ◌%◌, ◌^◌, ◌<◌, ◌≤◌, ◌==◌, ◌&&◌, nat_lt, nat_le, max, if◌then◌else◌, Bool, false, List, [], ◌∷◌, ◌++◌, All, Contains, slice_index, Option, Some, None}
use Rattle.std.specs.List.{list_any}
use Rattle.auc_sqn.specs.Number.{indices, sqn_with}
use Rattle.auc_sqn.specs.declared.verdict.Verdict.{Verdict}
use Rattle.auc_sqn.specs.declared.verdict.Verdict.TheVariants.{Fresh, Old, Far, Aged}

-- the SEQ and the IND of each SQN that was accepted, the last one first
abbrev pub Past : Type 0
Past = List (ℕ × ℕ)

-- SEQ 0 with each IND below a bound
unfoldable pub zeros : ℕ → Past
zeros zero = []
zeros (suc ind) = (0, ind) ∷ zeros ind

-- the numbers from 1 on to a last one, each with its remainder
unfoldable pub numbers_to : ℕ → ℕ → Past
numbers_to bits zero = []
numbers_to bits (suc number) = (suc number, suc number % indices bits) ∷ numbers_to bits number

-- the past of a USIM for which the numbers up to v count as accepted
unfoldable pub opening_past : ℕ → ℕ → Past
opening_past bits v = numbers_to bits v ++ zeros (indices bits)

-- whether a SEQ at least as great was accepted with the same IND
abbrev pub is_old : Past → ℕ → ℕ → Bool
is_old past seq ind = list_any (λ pair. (pair.1 == ind) && nat_le seq pair.0) past

-- the greatest SEQ that was accepted with an IND
abbrev pub entry_of : ℕ → Past → ℕ
entry_of ind [] = 0
entry_of ind (pair ∷ past) = if pair.1 == ind then max pair.0 (entry_of ind past) else entry_of ind past

-- the greatest SEQ that was accepted
abbrev pub greatest_of : Past → ℕ
greatest_of [] = 0
greatest_of (pair ∷ past) = max pair.0 (greatest_of past)

-- whether the greatest SEQ is above another by the age limit or more, if there is such a limit
abbrev pub is_aged : Option ℕ → ℕ → ℕ → Bool
is_aged None greatest seq = false
is_aged (Some limit) greatest seq = nat_le (seq + limit) greatest

-- the verdict on a SEQ and an IND: old if the past has one at least as great with this IND, else far if
-- the SEQ is more than 2 ^ 28 above the greatest, else aged if the greatest is above the SEQ by the age
-- limit or more, else fresh
abbrev pub verdict_of : Option ℕ → Past → ℕ → ℕ → Verdict
verdict_of age past seq ind =
    if is_old past seq ind then Old (entry_of ind past)
    else if nat_lt (greatest_of past + 2 ^ 28) seq then Far (greatest_of past)
    else if is_aged age (greatest_of past) seq then Aged (greatest_of past)
    else Fresh

-- the past after a verdict: a fresh SEQ joins it
abbrev pub past_after : Past → ℕ → ℕ → Verdict → Past
past_after past seq ind Fresh = (seq, ind) ∷ past
past_after past seq ind (Old entry) = past
past_after past seq ind (Far greatest) = past
past_after past seq ind (Aged greatest) = past

-- a SEQ and an IND are the highest of a past: no SEQ is greater, and none that is equal has a lesser IND
pub record IsHighest (past : Past) (seq ind : ℕ) : Type 0 where
  pub accepted : Contains past (seq, ind)
  pub greatest : All (λ pair. pair.0 ≤ seq) past
  pub least : All (λ pair. pair.0 ≡ seq → ind ≤ pair.1) past

-- the bytes are SQN_MS: the highest of the past as an SQN
abbrev pub IsSqnMs : ℕ → Past → List ℕ → Type 0
IsSqnMs bits past sqn = (seq : ℕ) × (ind : ℕ) × IsHighest past seq ind × (sqn ≡ sqn_with bits seq ind)

-- what contracts see of an array: the index length, the age limit if there is one, and the entries
pub record ArrayValue : Type 0 where
  pub bits : ℕ
  pub age : Option ℕ
  pub entries : List ℕ

-- the array remembers the past: its entry for each IND is the greatest SEQ that was accepted with it
pub record Remembers (array : ArrayValue) (past : Past) : Type 0 where
  -- each entry was accepted with its IND
  pub there : (ind : ℕ) → ind < indices array.bits → Contains past (slice_index array.entries ind, ind)
  -- and nothing greater was
  pub above : (seq ind : ℕ) → Contains past (seq, ind) → (ind < indices array.bits) × (seq ≤ slice_index array.entries ind)
