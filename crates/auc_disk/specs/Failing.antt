-- Calls of a disk in memory that are to fail.
use Rattle.std.specs.Prelude.{ℕ, List, Bool, ◌&&◌, ◌==◌}
use Rattle.std.specs.List.{list_any}
use Rattle.auc_disk.specs.declared.disk_call.DiskCall.{DiskCall}
use Rattle.auc_disk.specs.declared.disk_call.DiskCall.TheVariants.{Len, ReadAt, WriteAt, Sync}

-- a call that is to fail: its kind, and its place among the calls of that kind, the first being 1
pub record Failing : Type 0 where
  pub call : DiskCall
  pub ordinal : ℕ

-- a number for each kind
abbrev pub kind_of : DiskCall → ℕ
kind_of Len = 0
kind_of ReadAt = 1
kind_of WriteAt = 2
kind_of Sync = 3

-- whether an entry of the list is this call
abbrev pub is_entry : Failing → DiskCall → ℕ → Bool
is_entry entry call ordinal = kind_of entry.call == kind_of call && entry.ordinal == ordinal

-- whether this call is to fail
abbrev pub is_listed : List Failing → DiskCall → ℕ → Bool
is_listed entries call ordinal = list_any (λ entry. is_entry entry call ordinal) entries
