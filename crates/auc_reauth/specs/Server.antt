-- The contexts of a subscriber in the home network: a re-authentication identity is used once (RFC 4187 §5.3).
use Rattle.std.specs.Prelude.{ℕ, List, Option, None, Some, if◌then◌else◌}
use Rattle.std.specs.Str.{bytes_eq}
use Rattle.auc_hmac.specs.declared.method.Method.{Method}
use Rattle.auc_ident.specs.Permanent.{username}
use Rattle.auc_reauth.specs.Store.{ByMethod, entry, with_entry}
use Rattle.auc_reauth.specs.declared.context.Context.{Context}

-- for each method at most one context
abbrev pub Contexts : Type 0
Contexts = ByMethod (Option Context)

abbrev pub no_contexts : Contexts
no_contexts = record { aka = None; prime = None }

-- a context, if it has an identity
abbrev pub if_named : List ℕ → Option Context → Option Context
if_named name None = None
if_named name (Some c) = if bytes_eq c.identity name then Some c else None

-- a context, unless it has an identity
abbrev pub unless_named : List ℕ → Option Context → Option Context
unless_named name None = None
unless_named name (Some c) = if bytes_eq c.identity name then None else Some c

-- the method's context with an identity, which is compared without its realm
abbrev pub entry_named : Method → List ℕ → Contexts → Option Context
entry_named method identity contexts = if_named (username identity) (entry method contexts)

-- the contexts without the one that was found
abbrev pub left : Method → List ℕ → Contexts → Contexts
left method identity contexts = with_entry method (unless_named (username identity) (entry method contexts)) contexts
