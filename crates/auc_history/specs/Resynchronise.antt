-- The verdict of a resynchronisation, from the number that stands at the authentication centre and
-- the SEQ that the USIM reported under a right MAC-S (TS 33.102 §6.3.5 and Annex C.2.1).
use Rattle.std.specs.Prelude.{ℕ, ◌+◌, ◌-◌, ◌^◌, nat_lt, nat_le, if◌then◌else◌}

-- what a resynchronisation comes to, with the number that stood and then the SEQ
pub data Resynchronisation : Type 0 where
  Moved : ℕ → ℕ → Resynchronisation
  InRange : ℕ → ℕ → Resynchronisation
  Beyond : ℕ → ℕ → Resynchronisation

-- the verdict: the number moves up to a greater SEQ; else it stands, in range if the next number is at most
-- 2 ^ 28 above the SEQ, and beyond it if not
abbrev pub resynchronise_of : ℕ → ℕ → Resynchronisation
resynchronise_of seen seq_ms =
    if nat_lt seen seq_ms then Moved seen seq_ms
    else if nat_le (seen + 1 - seq_ms) (2 ^ 28) then InRange seen seq_ms
    else Beyond seen seq_ms
