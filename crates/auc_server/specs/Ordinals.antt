-- The ordinals of the names that a server gives: a subscriber's ordinals stand in its home, and each is used once.
use Rattle.std.specs.Prelude.{ℕ, ◌+◌, ◌==◌, Bool, true, false, List, position, slice_index_or, slice_set, Option, Some, None, if◌then◌else◌}
use Rattle.auc_ident.specs.Ordinals.{last_ordinal}
use Rattle.auc_reauth.specs.Server.{no_contexts}
use Rattle.auc_server.specs.declared.setting.HomeRow.{HomeRow}

-- ---- one home

-- the ordinal after the last of a home, if there is one
abbrev pub ordinal_after : HomeRow → Option ℕ
ordinal_after home = if home.ordinals == last_ordinal then None else Some (home.ordinals + 1)

-- the home after it was used
abbrev pub with_next : HomeRow → Option ℕ → HomeRow
with_next home None = home
with_next home (Some ordinal) = record home { ordinals = ordinal }

-- ---- all homes

-- the place of a subscriber's home
abbrev pub home_place : List HomeRow → ℕ → Option ℕ
home_place homes sub = position (λ home. home.sub == sub) homes

-- the home at a place of the list
abbrev pub home_at : List HomeRow → ℕ → HomeRow
home_at homes place = slice_index_or homes place (record { sub = 0; ordinals = 0; store = no_contexts })

abbrev pub ordinal_at : List HomeRow → Option ℕ → Option ℕ
ordinal_at homes None = None
ordinal_at homes (Some place) = ordinal_after (home_at homes place)

-- the ordinal that a subscriber's next name has, if such a name is given and an ordinal is left
abbrev pub ordinal_given : Bool → List HomeRow → ℕ → Option ℕ
ordinal_given false homes sub = None
ordinal_given true homes sub = ordinal_at homes (home_place homes sub)

abbrev pub homes_with : List HomeRow → Option ℕ → List HomeRow
homes_with homes None = homes
homes_with homes (Some place) = slice_set homes place (with_next (home_at homes place) (ordinal_after (home_at homes place)))

-- the homes after it was used
abbrev pub homes_given : Bool → List HomeRow → ℕ → List HomeRow
homes_given false homes sub = homes
homes_given true homes sub = homes_with homes (home_place homes sub)
