-- What a call did to the counts of faults of what it spoke to.
use Rattle.std.specs.Prelude.{◌≡◌, ◌≢◌, ◌⊎◌, ℕ, List, Err, Result, IsErrOf}
use Rattle.auc_memory.specs.Faults.{Rose}
use Rattle.auc_refusal.specs.Refusal.{status_in}
use Rattle.auc_refusal.specs.declared.refusal.Refusal.{Refusal}
use Rattle.auc_refusal.specs.declared.status.Status.{Status}
use Rattle.auc_refusal.specs.declared.status.Status.TheVariants.{StoreFault, NoMemory, ReadFault, WriteFault}
use Rattle.auc_refusal.specs.declared.refusal.Refusal.TheVariants as refused

-- no call of the disk failed in a run that ended so
abbrev pub IsQuiet : Status → Type 0
IsQuiet StoreFault = ⊥
IsQuiet WriteFault = ⊥
IsQuiet NoMemory = ⊥
IsQuiet _ = Unit {0}

-- a service that ended so had no fault of its wire
abbrev pub HasQuietWire : Status → Type 0
HasQuietWire ReadFault = ⊥
HasQuietWire WriteFault = ⊥
HasQuietWire _ = Unit {0}

-- a count rose exactly if a call was refused for this fault
pub record RoseAt {A : Type 0} (fault : Refusal) (result : Result A Refusal) (old new : ℕ) : Type 0 where
  pub rose : IsErrOf result fault → Rose old new
  pub same : result ≢ Err fault → new ≡ old

-- the count of the file of this name rose exactly if a call couldn't read it
pub record RoseOf {A : Type 0} (name : List ℕ) (result : Result A Refusal) (old new : List ℕ → ℕ) : Type 0 where
  pub rose : IsErrOf result refused.ReadFault → Rose (old name) (new name)
  pub same : result ≢ Err refused.ReadFault → (other : List ℕ) → new other ≡ old other

-- the count of a file with one of these names rose exactly if a call couldn't read it
pub record RoseAmong {A : Type 0} (names : List ℕ → Type 0) (result : Result A Refusal) (old new : List ℕ → ℕ) : Type 0 where
  pub rose : IsErrOf result refused.ReadFault → (name : List ℕ) × names name × Rose (old name) (new name)
  pub same : result ≢ Err refused.ReadFault → (name : List ℕ) → new name ≡ old name

-- the count of a disk rose if a call was refused for its fault, and only then, unless the output failed or memory ran out later
pub record RoseOnDisk {A : Type 0} (result : Result A Refusal) (old new : ℕ) : Type 0 where
  pub rose : IsErrOf result refused.StoreFault → Rose old new
  pub same : IsQuiet (status_in result) → new ≡ old

-- the count of a wire rose exactly if hearing or saying failed
pub record RoseOnWire {A : Type 0} (result : Result A Refusal) (old new : ℕ) : Type 0 where
  pub heard : IsErrOf result refused.ReadFault → Rose old new
  pub said : IsErrOf result refused.WriteFault → Rose old new
  pub same : HasQuietWire (status_in result) → new ≡ old

-- the count of a file or of a wire did exactly if a service couldn't read it, or if hearing or saying failed
pub record RoseInService {A : Type 0} (names : List ℕ → Type 0) (result : Result A Refusal) (old new : List ℕ → ℕ) (before now : ℕ) : Type 0 where
  pub read : IsErrOf result refused.ReadFault → Rose before now ⊎ ((name : List ℕ) × names name × Rose (old name) (new name))
  pub said : IsErrOf result refused.WriteFault → Rose before now
  pub shelf : result ≢ Err refused.ReadFault → (name : List ℕ) → new name ≡ old name
  pub wire : HasQuietWire (status_in result) → now ≡ before
