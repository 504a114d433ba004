-- Identities as keys of maps.
use Rattle.std.specs.Prelude.{◌==◌, ◌&&◌, Bool}
use Rattle.auc_memory.specs.Identity.{Identity}
use Rattle.auc_memory.specs.declared.identity_key.IdentityKey.{IdentityKey}

-- the key of an identity
abbrev pub key_of : Identity → IdentityKey
key_of identity = record { digits = identity.digits; number = identity.number }

-- whether two keys are one
abbrev pub is_key : IdentityKey → IdentityKey → Bool
is_key a b = (a.digits == b.digits) && (a.number == b.number)
