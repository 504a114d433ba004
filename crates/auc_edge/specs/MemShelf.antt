-- Files in memory: what such a shelf holds, which of its reads fail, and how it counts faults.
use Rattle.std.specs.Prelude.{ℕ, List, length, Bool, ◌||◌, not, ◌==◌, nat_lt, if◌then◌else◌, slice_index, slice_index_or, slice_set}
use Rattle.std.specs.Option.{is_some}
use Rattle.std.specs.List.{list_any, position_or_len}
use Rattle.std.specs.Str.{bytes_eq}
use Rattle.auc_memory.specs.Faults.{raised}
use Rattle.auc_edge.specs.Shelf.{File, file_of}

-- what a shelf in memory holds
pub record ShelfState : Type 0 where
  pub files : List File
  -- how often a read of each file has failed, and of all other names together
  pub counts : List ℕ
  pub others : ℕ
  -- how many reads there were, and which of them fail, the first being 1
  pub reads : ℕ
  pub failing : List ℕ

-- the place of the file with this name, or the number of files if there is none
abbrev pub place_of : List File → List ℕ → ℕ
place_of files name = position_or_len (λ file. bytes_eq file.name name) files

-- the count of a name: its file's count, or the one of all other names
abbrev pub faults_of : ShelfState → List ℕ → ℕ
faults_of state name = slice_index_or state.counts (place_of state.files name) state.others

-- the shelf after a fault of the file at this place was counted
abbrev pub after_fault : ShelfState → ℕ → ShelfState
after_fault state place =
    if nat_lt place (length state.counts)
    then record state { counts = slice_set state.counts place (raised (slice_index state.counts place)) }
    else record state { others = raised state.others }

-- the shelf after a read of a name, which failed or not
abbrev pub after_read : ShelfState → Bool → List ℕ → ShelfState
after_read state failed name =
    let read : ShelfState = record state { reads = raised state.reads } in
    if failed then after_fault read (place_of state.files name) else read

-- whether the next read is to fail
abbrev pub is_failing : ShelfState → Bool
is_failing state = list_any (λ ordinal. ordinal == raised state.reads) state.failing

-- whether the next read fails: it is to fail, or no file has the name
abbrev pub is_fault : ShelfState → List ℕ → Bool
is_fault state name = is_failing state || not (is_some (file_of state.files name))
