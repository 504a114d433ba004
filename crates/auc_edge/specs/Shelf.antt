-- Sets of files: what a shelf holds, if it reveals that, and what a read of a file gives.
use Rattle.std.specs.Prelude.{◌≡◌, ℕ, ◌<◌, List, [], ◌∷◌, length, Option, Some, None, if◌then◌else◌}
use Rattle.std.specs.Str.{bytes_eq}
use Rattle.auc_memory.specs.Buffer.{GivesFrom}

-- a file: its name and its bytes
pub record File : Type 0 where
  pub name : List ℕ
  pub bytes : List ℕ

-- the bytes of the file with this name
abbrev pub file_of : List File → List ℕ → Option (List ℕ)
file_of [] name = None
file_of (file ∷ files) name = if bytes_eq file.name name then Some file.bytes else file_of files name

-- a read gives the bytes of a file from an offset; a missing file gives nothing
abbrev pub FileGives : Option (List ℕ) → ℕ → ℕ → List ℕ → Type 0
FileGives None from count buffer = ⊥
FileGives (Some bytes) from count buffer = GivesFrom bytes from count buffer

-- the same of the file with this name, if the shelf reveals its files
abbrev pub ReadsFrom : Option (List File) → List ℕ → ℕ → ℕ → List ℕ → Type 0
ReadsFrom None name from count buffer = Unit {0}
ReadsFrom (Some files) name from count buffer = FileGives (file_of files name) from count buffer

-- a text is the whole file with this name, if the shelf reveals its files
abbrev pub IsFile : Option (List File) → List ℕ → List ℕ → Type 0
IsFile None name text = Unit {0}
IsFile (Some files) name text = file_of files name ≡ Some text

-- there is a file, of more than so many bytes
abbrev pub IsLonger : Option (List ℕ) → ℕ → Type 0
IsLonger None limit = ⊥
IsLonger (Some bytes) limit = limit < length bytes

-- there is a file with this name, of more than so many bytes, if the shelf reveals its files
abbrev pub IsLongerFile : Option (List File) → List ℕ → ℕ → Type 0
IsLongerFile None name limit = Unit {0}
IsLongerFile (Some files) name limit = IsLonger (file_of files name) limit
