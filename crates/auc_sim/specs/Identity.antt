-- The identity of both ends.
use Rattle.std.specs.Prelude.{ℕ, List, ◌∷◌}
use Rattle.auc_memory.specs.Identity.{Identity, digits_of}
use Rattle.auc_ident.specs.Permanent.{with_realm}

-- the permanent identity: `1` and the digits of the IMSI, with the realm (RFC 4186 §4.2.1.6)
abbrev pub sim_identity : Identity → List ℕ → List ℕ
sim_identity imsi realm = with_realm (49 ∷ digits_of imsi) realm
