-- The pseudonyms and contexts of a device, and the counters that it accepts (RFC 4187 §4.1.1.9, §5.1 and §10.16).
use Rattle.std.specs.Prelude.{ℕ, ◌+◌, ◌==◌, nat_le, Bool, false, List, Option, None, Some, if◌then◌else◌}
use Rattle.auc_hmac.specs.declared.method.Method.{Method}
use Rattle.auc_reauth.specs.Store.{ByMethod, entry, with_entry}
use Rattle.auc_reauth.specs.declared.context.Context.{Context}

-- for each method at most one pseudonym and one context
pub record Keeps : Type 0 where
  pub pseudonyms : ByMethod (Option (List ℕ))
  pub contexts : ByMethod (Option Context)

abbrev pub nothing_kept : Keeps
nothing_kept = record { pseudonyms = record { aka = None; prime = None }; contexts = record { aka = None; prime = None } }

-- with a pseudonym for a method
abbrev pub with_pseudonym : Method → List ℕ → Keeps → Keeps
with_pseudonym method text keeps = record { pseudonyms = with_entry method (Some text) keeps.pseudonyms; contexts = keeps.contexts }

-- with a context for a method, or none
abbrev pub with_context : Method → Option Context → Keeps → Keeps
with_context method c keeps = record { pseudonyms = keeps.pseudonyms; contexts = with_entry method c keeps.contexts }

-- whether a counter is open: it is at least the context's
abbrev pub is_open : ℕ → Option Context → Bool
is_open counter None = false
is_open counter (Some c) = nat_le c.counter counter

-- the context after it accepted a counter: the next counter is the least open one. 65535 has no next one
abbrev pub advanced : ℕ → Context → Option Context
advanced counter c = if counter == 65535 then None else Some (record c { counter = counter + 1 })

-- what is kept after a counter came: only an open one changes it
abbrev pub accepting : ℕ → Option Context → Option Context
accepting counter None = None
accepting counter (Some c) = if nat_le c.counter counter then advanced counter c else Some c

-- after a counter came for a method
abbrev pub with_accepted : Method → ℕ → Keeps → Keeps
with_accepted method counter keeps = with_context method (accepting counter (entry method keeps.contexts)) keeps
