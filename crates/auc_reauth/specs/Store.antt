-- What is kept for each of the two methods, and the contexts of fast re-authentication (RFC 4187 §5).
use Rattle.std.specs.Prelude.{◌≡◌, Option, None, Some}
use Rattle.auc_hmac.specs.declared.keys.Master.{Master}
use Rattle.auc_hmac.specs.declared.keys.Master.TheVariants as masters
use Rattle.auc_hmac.specs.declared.method.Method.{Method}
use Rattle.auc_hmac.specs.declared.method.Method.TheVariants as methods
use Rattle.auc_reauth.specs.declared.context.Context.{Context}

-- an entry for EAP-AKA and one for EAP-AKA'
pub record ByMethod (X : Type 0) : Type 0 where
  pub aka : X
  pub prime : X

-- the entry for a method
abbrev pub entry : {X : Type 0} → Method → ByMethod X → X
entry methods.Aka entries = entries.aka
entry methods.Prime entries = entries.prime

-- the entries with another one for a method
abbrev pub with_entry : {X : Type 0} → Method → X → ByMethod X → ByMethod X
with_entry methods.Aka x entries = record { aka = x; prime = entries.prime }
with_entry methods.Prime x entries = record { aka = entries.aka; prime = x }

-- the method that a master key is of
abbrev pub method_of : Master → Method
method_of (masters.Aka mk) = methods.Aka
method_of (masters.Prime k_re) = methods.Prime

-- the master key of a context, if there is a context, is of the method
abbrev pub IsOf : Method → Option Context → Type 0
IsOf method None = Unit {0}
IsOf method (Some c) = method_of c.master ≡ method

-- each method's context is of it
pub record EachIsOf (contexts : ByMethod (Option Context)) : Type 0 where
  pub aka : IsOf methods.Aka contexts.aka
  pub prime : IsOf methods.Prime contexts.prime
