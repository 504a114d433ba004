-- Inner facts: the invariant of a pass.
use Rattle.std.specs.Prelude.{◌≡◌, ℕ, zero, suc, ◌<◌, List, [], length, slice_index, Option, Some, None}
use Rattle.auc_draw.specs.Deeds.{AreInOrder, kept_of, claims_of}
use Rattle.auc_draw.specs.InnerLimits.{limit_at}
use Rattle.auc_draw.specs.InnerRule.{wide_in}
use Rattle.auc_draw.specs.declared.rule.Deed.{Deed}
use Rattle.auc_draw.specs.declared.pass.Pass.TheInside.{Inside}

-- the kept word by the mark at a place, of which 0 is none
abbrev pub noted : ℕ → Option ℕ
noted zero = None
noted (suc w) = Some w

-- the marks are those of the first refused draws
pub record Notes (tops marks : List ℕ) (deeds : List Deed) : Type 0 where
  pub each : (i : ℕ) → i < length marks → kept_of (slice_index tops i) deeds i ≡ noted (slice_index marks i)
  pub ordered : AreInOrder deeds

pub record IsPass (p : Inside) : Type 0 where
  -- there is a place for each subscriber's mark
  pub sized : limit_at (length p.marks.items) (length p.marks.items) ≡ p.seat.table_id.words
  pub notes : Notes p.seat.me.0.tops p.marks.items p.seat.me.0.own
  -- the seat is a pass's, and holds no slot
  pub active : p.seat.me.0.active ≡ 1
  pub bare : p.seat.me.1 ≡ []
  -- until its claims end, it has claimed no number of more than 32 bits
  pub narrow : p.ended ≡ None → wide_in (claims_of p.seat.me.0.own) ≡ 0
