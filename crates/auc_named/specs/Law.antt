-- A round of some of the subscribers is a round of all of them.
use Rattle.std.specs.Prelude.{◌≡◌, ◌<◌, ◌^◌, ℕ, List, length, map, slice_index, Option}
use Rattle.auc_memory.specs.declared.stop.Stop.{Stop}
use Rattle.auc_lines.specs.declared.part.Line.{Line}
use Rattle.auc_named.specs.Named.{AreNamed, put_words, round_of}
use Rattle.auc_subs.specs.declared.row.Row.{Row}
use Rattle.auc_world.specs.Round.{IsLawfulRound}
use Rattle.auc_subs.specs.Setting.{Setting}
use Rattle.auc_world.specs.Start.{Kept, kept_by_jobs}
use Rattle.auc_record.specs.declared.record.LineRecord.{LineRecord}
use Rattle.auc_record.specs.declared.record.RoundRecord.{RoundRecord}

-- what a round of all subscribers is, after any lines of earlier rounds and whatever homes and devices keep: lawful, and homes and
-- devices keep what they did
pub record IsOfAll (set : Setting) (stop : Option Stop) (early : List LineRecord) (kept : List Kept) (words : List ℕ) (jobs : List (List Line)) (round : RoundRecord) (next : List ℕ) : Type 0 where
  pub lawful : IsLawfulRound set stop early kept words jobs round next
  pub keeps : kept_by_jobs kept lawful.nets ≡ kept

-- a lawful round of some subscribers, which its plain lines name, is one of all
abbrev pub EachNamedRoundIsLawful : Type 0
EachNamedRoundIsLawful =
    (set : Setting) (own : List Row) (stop : Option Stop) (before early : List LineRecord) (held kept : List Kept) (words : List ℕ) (jobs lines : List (List Line)) (places : List ℕ) (round : RoundRecord) (next : List ℕ)
    → AreNamed set.rows jobs places own lines
    → length words ≡ length set.rows → ((sub : ℕ) → sub < length words → slice_index words sub < 2 ^ 64)
    → IsLawfulRound (record set { rows = own }) stop before held (map (λ place. slice_index words place) places) lines round next
    → IsOfAll set stop early kept words jobs (round_of places round) (put_words words places next)
