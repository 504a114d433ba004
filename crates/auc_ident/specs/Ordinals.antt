-- The ordinals of a subscriber's names, of both kinds together, from 1 on.
use Rattle.std.specs.Prelude.{ℕ}

-- the last ordinal of all, 2^48 - 1
abbrev pub last_ordinal : ℕ
last_ordinal = 281474976710655
