-- Wires in memory: what is to be heard, how much is taken at once, which calls fail, and all turns.
use Rattle.std.specs.Prelude.{ℕ, ◌+◌, ◌-◌, ◌==◌, nat_lt, min, Bool, List, [], ◌∷◌, ◌++◌, length, take, drop, if◌then◌else◌}
use Rattle.std.specs.List.{list_any}
use Rattle.auc_memory.specs.Faults.{raised}
use Rattle.auc_block.specs.declared.turn.Turn.{Turn}
use Rattle.auc_block.specs.declared.turn.Turn.TheVariants.{Heard, Said}

-- what a wire in memory holds
pub record WireState : Type 0 where
  -- all bytes to be heard, where each piece of them ends, and how many were heard
  pub input : List ℕ
  pub ends : List ℕ
  pub place : ℕ
  -- whether the end of the input was heard
  pub ended : Bool
  -- how many bytes are said at once, at most
  pub most : ℕ
  pub turns : List Turn
  -- how many calls there were, which of them are to fail, the first being 1, and how many failed
  pub calls : ℕ
  pub failing : List ℕ
  pub faults : ℕ

-- whether the next call is to fail
abbrev pub is_failing : WireState → Bool
is_failing state = list_any (λ ordinal. ordinal == raised state.calls) state.failing

-- the first number above another one, or that one if there is none
abbrev pub first_above : List ℕ → ℕ → ℕ
first_above [] least = least
first_above (number ∷ numbers) least = if nat_lt least number then number else first_above numbers least

-- where the piece ends that is heard next: at the first end behind what was heard, and nowhere behind at the end of the input
abbrev pub next_end : WireState → ℕ
next_end state =
    if state.ended then state.place
    else min (first_above state.ends state.place) (length state.input)

-- the rest of the piece that is heard next
abbrev pub next_piece : WireState → List ℕ
next_piece state = take (next_end state - state.place) (drop state.place state.input)

-- the wire after these bytes were heard
abbrev pub after_hear : WireState → List ℕ → WireState
after_hear state bytes = record state {
  place = state.place + length bytes;
  ended = length bytes == 0;
  turns = state.turns ++ Heard bytes ∷ [];
  calls = raised state.calls;
}

-- the wire after these bytes were said
abbrev pub after_say : WireState → List ℕ → WireState
after_say state bytes = record state { turns = state.turns ++ Said bytes ∷ []; calls = raised state.calls }

-- the wire after a call that failed
abbrev pub after_fault : WireState → WireState
after_fault state = record state { calls = raised state.calls; faults = raised state.faults }
