-- What the steps of a pass did: entries of each subscriber's history, claimed numbers, numbers that were released or
-- withheld, and stops that were read.
use Rattle.std.specs.Prelude.{ℕ, ◌-◌, ◌==◌, nat_lt, if◌then◌else◌, List, [], ◌∷◌, Option, Some, None, flat_map, map}
use Rattle.auc_memory.specs.declared.stop.Stop.{Stop}
use Rattle.auc_history.specs.declared.entry.Entry.{Entry}
use Rattle.auc_history.specs.declared.entry.Entry.TheVariants.{Drawn, Moved, Look}
use Rattle.auc_history.specs.History.{IsInOrder}
use Rattle.auc_draw.specs.declared.rule.Deed.{Deed}
use Rattle.auc_draw.specs.declared.rule.Deed.TheVariants.{Made, Claimed, Released, Withheld, ReadStop}

-- the entry of a subscriber that a deed made, if it made one
abbrev pub entries_by : ℕ → Deed → List Entry
entries_by sub (Made s e) = if s == sub then e ∷ [] else []
entries_by sub (Claimed n) = []
entries_by sub (Released s n) = []
entries_by sub (Withheld s n stop) = []
entries_by sub (ReadStop stop) = []

-- the entries of a subscriber, in the order of the steps
abbrev pub entries_of : ℕ → List Deed → List Entry
entries_of sub deeds = flat_map (entries_by sub) deeds

-- the number that a deed claimed, if it claimed one
abbrev pub claims_by : Deed → List ℕ
claims_by (Made s e) = []
claims_by (Claimed n) = n ∷ []
claims_by (Released s n) = []
claims_by (Withheld s n stop) = []
claims_by (ReadStop stop) = []

-- the claimed numbers, in the order of the steps
abbrev pub claims_of : List Deed → List ℕ
claims_of deeds = flat_map claims_by deeds

-- the number of a subscriber that a deed released, if it released one
abbrev pub released_in : ℕ → Deed → List ℕ
released_in sub (Made s e) = []
released_in sub (Claimed n) = []
released_in sub (Released s n) = if s == sub then n ∷ [] else []
released_in sub (Withheld s n stop) = []
released_in sub (ReadStop stop) = []

-- the released numbers of a subscriber, in the order of the steps
abbrev pub released_of : ℕ → List Deed → List ℕ
released_of sub deeds = flat_map (released_in sub) deeds

-- the number of a subscriber that a deed withheld and why, if it withheld one
abbrev pub held_by : ℕ → Deed → List (ℕ × Stop)
held_by sub (Made s e) = []
held_by sub (Claimed n) = []
held_by sub (Released s n) = []
held_by sub (Withheld s n stop) = if s == sub then (n, stop) ∷ [] else []
held_by sub (ReadStop stop) = []

-- the withheld numbers of a subscriber with their causes, in the order of the steps
abbrev pub held_of : ℕ → List Deed → List (ℕ × Stop)
held_of sub deeds = flat_map (held_by sub) deeds

-- the withheld numbers of a subscriber
abbrev pub withheld_of : ℕ → List Deed → List ℕ
withheld_of sub deeds = map (λ held. held.0) (held_of sub deeds)

-- the stop that a deed read, if it read one
abbrev pub stops_by : Deed → List Stop
stops_by (Made s e) = []
stops_by (Claimed n) = []
stops_by (Released s n) = []
stops_by (Withheld s n stop) = []
stops_by (ReadStop stop) = stop ∷ []

-- the stops that were read, in the order of the steps
abbrev pub stops_of : List Deed → List Stop
stops_of deeds = flat_map stops_by deeds

-- the first of some stops, if there is one
abbrev pub first_stop : List Stop → Option Stop
first_stop [] = None
first_stop (stop ∷ stops) = Some stop

-- the first stop that was read, if one was
abbrev pub kept_stop : List Deed → Option Stop
kept_stop deeds = first_stop (stops_of deeds)

-- the word that the first refused draw found, if this is the greatest number: one below its mark
abbrev pub kept_word : ℕ → List Entry → Option ℕ
kept_word top [] = None
kept_word top (Drawn n ∷ entries) = if nat_lt top n then Some (n - 1) else kept_word top entries
kept_word top (Moved from to ∷ entries) = kept_word top entries
kept_word top (Look seen ∷ entries) = kept_word top entries

-- the word of a subscriber with this greatest number that a pass keeps from its first refused draw
abbrev pub kept_of : ℕ → List Deed → ℕ → Option ℕ
kept_of top deeds sub = kept_word top (entries_of sub deeds)

-- entries of a subscriber as deeds
abbrev pub made : ℕ → List Entry → List Deed
made sub entries = map (Made sub) entries

-- what a step read of the stop, as a deed
abbrev pub stop_read : Option Stop → List Deed
stop_read None = []
stop_read (Some stop) = ReadStop stop ∷ []

-- a number that may not be released, as a deed: it is withheld if a stop was read before
abbrev pub withholding : ℕ → ℕ → Option Stop → List Deed
withholding sub n None = []
withholding sub n (Some stop) = Withheld sub n stop ∷ []

-- of each subscriber, each entry continues those before it
pub record AreInOrder (deeds : List Deed) : Type 0 where
  pub each : (sub : ℕ) → IsInOrder (entries_of sub deeds)
