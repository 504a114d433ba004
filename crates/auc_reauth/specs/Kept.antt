-- What is kept of each subscriber's names and contexts, in the subscribers' order.
use Rattle.std.specs.Prelude.{ℕ, List, Option, Some, None, slice_get}
use Rattle.auc_reauth.specs.Device.{nothing_kept}
use Rattle.auc_reauth.specs.Server.{no_contexts}
use Rattle.auc_reauth.specs.declared.kept.Kept as types

-- of a subscriber: the last ordinal of its names and the contexts, at its home, and what its device keeps
abbrev pub Kept : Type 0
Kept = types.Kept

-- of a subscriber of whom no name was given
abbrev pub fresh_kept : Kept
fresh_kept = record { ordinals = 0; home = no_contexts; device = nothing_kept }

abbrev pub kept_or : Option Kept → Kept
kept_or None = fresh_kept
kept_or (Some one) = one

-- that of a subscriber, by what is kept of all
abbrev pub kept_of : List Kept → ℕ → Kept
kept_of kept sub = kept_or (slice_get kept sub)
