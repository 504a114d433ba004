-- Faults, each beside its condition, in the order in which they are reported.
use Rattle.std.specs.Prelude.{Bool, List, [], ◌∷◌, Option, Some, None, Result, Ok, Err, if◌then◌else◌}

-- the first fault of a list whose condition holds: none of the conditions before it does
abbrev pub first_of : {F : Type 0} → List (Bool × F) → Option F
first_of [] = None
first_of (test ∷ more) = if test.0 then Some test.1 else first_of more

-- what was found, unless there is a fault
abbrev pub unless : {F A : Type 0} → Option F → A → Result A F
unless None found = Ok found
unless (Some fault) found = Err fault
