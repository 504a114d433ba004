-- Inner facts: what only private contracts of this crate cite. Here: the reservations that a round needs before its workers
-- begin.
use Rattle.std.specs.Prelude.{◌≢◌, ℕ, suc, ◌+◌, ◌<◌, ◌&&◌, min, nat_le, nat_lt, Bool, List, [], ◌∷◌, All, AllPairs, slice_index, if◌then◌else◌}
use Rattle.std.specs.List.{list_any}
use Rattle.auc_draw.specs.Values.{KeeperValue}
use Rattle.auc_keeper.specs.Keeper.{MayRise}
use Rattle.auc_lines.specs.declared.part.Line.{Line}
use Rattle.auc_lines.specs.Part.{asks_for, is_that}
use Rattle.auc_sqn.specs.Number.{max_seq}
use Rattle.auc_world.specs.Limits.{least_step}

-- whether a line, a job, and the jobs of a round ask for a number of a subscriber
abbrev pub asks : ℕ → Line → Bool
asks sub line = is_that sub (asks_for line)

abbrev pub job_asks : ℕ → List Line → Bool
job_asks sub job = list_any (asks sub) job

abbrev pub is_asked : List (List Line) → ℕ → Bool
is_asked jobs sub = list_any (job_asks sub) jobs

-- whether an asked subscriber needs a reservation: it opens below its greatest number, and has no limit above its opening
abbrev pub needs : Bool → ℕ → ℕ → ℕ → Bool
needs asked top opening limit = asked && (nat_lt opening top && nat_le limit opening)

-- the reservations of the subscribers from one on, in their order, by which of them are asked, their openings, and all greatest
-- numbers and limits: each is a step above the opening, and no further than the greatest number of all, also if that is above
-- the subscriber's
abbrev pub needed_from : (ℕ → Bool) → List ℕ → List ℕ → ℕ → List ℕ → List (ℕ × ℕ)
needed_from asked tops limits sub [] = []
needed_from asked tops limits sub (opening ∷ openings) =
    if needs (asked sub) (slice_index tops sub) opening (slice_index limits sub)
    then (sub, min (opening + least_step) max_seq) ∷ needed_from asked tops limits (suc sub) openings
    else needed_from asked tops limits (suc sub) openings

-- those that a round needs
abbrev pub needed_by : List (List Line) → List ℕ → List ℕ → List ℕ → List (ℕ × ℕ)
needed_by jobs tops openings limits = needed_from (is_asked jobs) tops limits 0 openings

-- reservations that a keeper may make for so many subscribers, of which each stands there once
pub record AreReservable (count : ℕ) (pass : KeeperValue) (items : List (ℕ × ℕ)) : Type 0 where
  pub differ : AllPairs (λ a b. a.0 ≢ b.0) items
  pub known : All (λ item. item.0 < count) items
  pub rise : All (λ item. MayRise pass item.0 item.1) items
