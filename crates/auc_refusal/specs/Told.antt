-- How a refusal is told: by its line, by some first bytes of it, or not.
use Rattle.std.specs.Prelude.{◌≡◌, ◌⊎◌, ℕ, List, Option, ◌++◌, []}
use Rattle.auc_block.specs.Turns.{Says, SaysFront}
use Rattle.auc_block.specs.declared.turn.Turn.{Turn}
use Rattle.auc_edge.specs.Sink.{Appends}
use Rattle.auc_refusal.specs.Refusal.{status_of, line_of}
use Rattle.auc_refusal.specs.declared.refusal.Refusal.{Refusal}
use Rattle.auc_refusal.specs.declared.status.Status.{Status}
use Rattle.auc_refusal.specs.declared.status.Status.TheVariants.{NoMemory, WriteFault}
use Rattle.auc_refusal.specs.declared.refusal.Refusal.TheVariants as refused

-- why a text isn't written
abbrev pub OutputStops : Refusal → Type 0
OutputStops refused.WriteFault = Unit {0}
OutputStops refused.NoMemory = Unit {0}
OutputStops _ = ⊥

-- the line of a refusal isn't written: by a fault, or because memory ran out
abbrev pub IsUntold : Refusal → Status → Type 0
IsUntold refused.Usage status = status ≡ WriteFault
IsUntold (refused.Subscribers row fault) status = (status ≡ WriteFault) ⊎ (status ≡ NoMemory)
IsUntold (refused.Scenario line fault) status = (status ≡ WriteFault) ⊎ (status ≡ NoMemory)
IsUntold (refused.NotJournal place) status = (status ≡ WriteFault) ⊎ (status ≡ NoMemory)
IsUntold _ status = ⊥

-- how a run ends with a refusal
abbrev pub Tells : Refusal → Status → Option (List ℕ) → Option (List ℕ) → Type 0
Tells refusal status old new = ((status ≡ status_of refusal) × Appends old new (line_of refusal)) ⊎ IsUntold refusal status

-- the line of a refusal was said, or some first bytes of it if saying failed, or nothing of it if memory ran out
abbrev pub IsTold : Refusal → Status → List ℕ → Type 0
IsTold refusal status said = ((status ≡ status_of refusal) × (said ≡ line_of refusal))
    ⊎ ((status ≡ WriteFault) × (rest : List ℕ) × (said ++ rest ≡ line_of refusal))
    ⊎ ((status ≡ NoMemory) × (said ≡ []))

-- why a text isn't said whole: saying failed after its first bytes, or memory ran out before
abbrev pub IsSaidUpTo : List ℕ → Option (List Turn) → Option (List Turn) → Refusal → Type 0
IsSaidUpTo text old new refused.WriteFault = SaysFront old new text
IsSaidUpTo text old new refused.NoMemory = new ≡ old
IsSaidUpTo text old new _ = ⊥

-- the line of a refusal was told, and nothing was heard
abbrev pub SaysTold : Refusal → Status → Option (List Turn) → Option (List Turn) → Type 0
SaysTold refusal status old new = (said : List ℕ) × Says old new said × IsTold refusal status said
