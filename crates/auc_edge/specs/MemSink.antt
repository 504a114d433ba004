-- Outputs in memory: what was written, and which of the writes fail.
use Rattle.std.specs.Prelude.{ℕ, List, ◌++◌, Bool, ◌==◌}
use Rattle.std.specs.List.{list_any}
use Rattle.auc_memory.specs.Faults.{raised}

-- what was written; how many writes failed; how many writes there were; which are to fail, the first being 1
pub record SinkState : Type 0 where
  pub written : List ℕ
  pub faults : ℕ
  pub writes : ℕ
  pub failing : List ℕ

-- whether the next write is to fail
abbrev pub is_failing : SinkState → Bool
is_failing state = list_any (λ ordinal. ordinal == raised state.writes) state.failing

-- the sink after a write that took these bytes
abbrev pub after_write : SinkState → List ℕ → SinkState
after_write state bytes = record state { written = state.written ++ bytes; writes = raised state.writes }

-- the sink after a write that failed
abbrev pub after_fault : SinkState → SinkState
after_fault state = record state { faults = raised state.faults; writes = raised state.writes }
