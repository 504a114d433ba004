-- The contexts of fast re-authentication in the homes (RFC 4187 §5): which one an identity names, and what sessions leave.
use Rattle.std.specs.Prelude.{ℕ, ◌+◌, ◌==◌, ◌&&◌, not, Bool, List, slice_set, Option, Some, None}
use Rattle.auc_hmac.specs.declared.method.Method.{Method}
use Rattle.auc_reauth.specs.Server.{entry_named, left}
use Rattle.auc_reauth.specs.Store.{with_entry}
use Rattle.auc_reauth.specs.declared.context.Context.{Context}
use Rattle.auc_server.specs.Ordinals.{home_at, home_place, homes_given}
use Rattle.auc_server.specs.declared.options.ServerOptions.{ServerOptions}
use Rattle.auc_server.specs.declared.server.Challenged.{Challenged}
use Rattle.auc_server.specs.declared.server.Resumed.{Resumed}
use Rattle.auc_server.specs.declared.setting.HomeRow.{HomeRow}

-- ---- in a home

abbrev pub found_at : Method → List ℕ → List HomeRow → Option ℕ → Option Context
found_at by text homes None = None
found_at by text homes (Some place) = entry_named by text (home_at homes place).store

-- the subscriber's context of a method, if a text is its identity
abbrev pub context_in : Method → List ℕ → List HomeRow → ℕ → Option Context
context_in by text homes sub = found_at by text homes (home_place homes sub)

-- a home without the context of an identity
abbrev pub without : Method → List ℕ → HomeRow → HomeRow
without by text home = record home { store = left by text home.store }

abbrev pub without_at : Method → List ℕ → List HomeRow → Option ℕ → List HomeRow
without_at by text homes None = homes
without_at by text homes (Some place) = slice_set homes place (without by text (home_at homes place))

-- the homes after a subscriber's context of an identity left
abbrev pub homes_left : Method → List ℕ → List HomeRow → ℕ → List HomeRow
homes_left by text homes sub = without_at by text homes (home_place homes sub)

-- a home with a context in the place of the one that was kept
abbrev pub with_context : Method → Context → HomeRow → HomeRow
with_context by c home = record home { store = with_entry by (Some c) home.store }

abbrev pub with_context_at : Method → Context → List HomeRow → Option ℕ → List HomeRow
with_context_at by c homes None = homes
with_context_at by c homes (Some place) = slice_set homes place (with_context by c (home_at homes place))

-- the homes after a subscriber's context was kept, if there is a new one
abbrev pub homes_kept : Method → List HomeRow → ℕ → Option Context → List HomeRow
homes_kept by homes sub None = homes
homes_kept by homes sub (Some c) = with_context_at by c homes (home_place homes sub)

-- ---- what a session leaves

abbrev pub first_context : Challenged → Option (List ℕ) → Option Context
first_context sent None = None
first_context sent (Some identity) = Some (record {
  origin = sent.number;
  identity = identity;
  k_encr = sent.keys.k_encr;
  k_aut = sent.keys.k_aut;
  master = sent.master;
  counter = 1;
})

-- the context of a full authentication, if its Challenge gave an identity
abbrev pub won_context : Challenged → Option Context
won_context sent = first_context sent sent.next

abbrev pub later_context : Context → Option (List ℕ) → Option Context
later_context c None = None
later_context c (Some identity) = Some (record c { identity = identity; counter = c.counter + 1 })

-- the context after a re-authentication, if it gave another identity: its counter is one higher
abbrev pub context_after : Resumed → Option Context
context_after r = later_context r.context r.next

-- whether a re-authentication with a context gives another identity: with the option, if the counter has a next one
abbrev pub gives_next : ServerOptions → Context → Bool
gives_next options c = options.reauth && not (c.counter == 65535)

-- ---- the homes after a turn

-- after a challenge succeeded
abbrev pub homes_won : Method → List HomeRow → Challenged → List HomeRow
homes_won by homes sent = homes_kept by homes sent.sub (won_context sent)

-- after a re-authentication succeeded
abbrev pub homes_rewon : Method → List HomeRow → Resumed → List HomeRow
homes_rewon by homes r = homes_kept by homes r.sub (context_after r)

-- after a subscriber's context was taken out
abbrev pub homes_taken : Method → List ℕ → List HomeRow → ℕ → Option Context → List HomeRow
homes_taken by text homes sub None = homes
homes_taken by text homes sub (Some c) = homes_left by text homes sub

-- after it was taken up again: it leaves, and the next identity uses an ordinal
abbrev pub homes_resumed : ServerOptions → List ℕ → List HomeRow → ℕ → Option Context → List HomeRow
homes_resumed options text homes sub None = homes
homes_resumed options text homes sub (Some c) = homes_given (gives_next options c) (homes_left options.method text homes sub) sub
