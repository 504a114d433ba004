-- For the jobs of a round: whose USIMs accepted nothing by the jobs before.
use Rattle.std.proofs.Common.{◌≡◌, ℕ, true, false, List, [], ◌∷◌, ◌++◌, AllPairs, get_or, refl, sym, ◌∙◌}
use Rattle.std.specs.Prelude.{All}
use Rattle.std.proofs.lemmas.Bool.{false_from_ne_true, true≢false}
use Rattle.std.proofs.lemmas.List.Elements.{All-tail}
use Rattle.auc_history.proofs.Facts.{AllPairs-head}
use Rattle.auc_lines.specs.declared.part.Line.{Line}
use Rattle.auc_lines.specs.Part.{AreApart, holds}
use Rattle.auc_record.specs.declared.record.LineRecord.{LineRecord}
use Rattle.auc_record.specs.Lines.{accepted}
use Rattle.auc_world.specs.Pieces.{IsQuiet}
use Rattle.auc_world.proofs.Facts.{accepted-append}

-- the USIMs of one job are none of another's
pub not_given : (sub : ℕ) (job other : List Line) → AreApart job other → holds sub other ≡ true → holds sub job ≡ false
not_given sub job other apart to = false_from_ne_true (holds sub job) (λ is. true≢false (sym to ∙ apart sub is))

-- no USIM of the jobs that are left has accepted anything by a further job
quiet_next : (bits sub : ℕ) (front lines : List LineRecord) → accepted bits sub front ≡ [] → accepted bits sub lines ≡ [] → accepted bits sub (front ++ lines) ≡ []
quiet_next bits sub front lines before here = accepted-append bits sub front lines ∙ rw (before, here) refl

pub quiet_rest : (front lines : List LineRecord) (job : List Line) (next : List (List Line)) → All (IsQuiet front) (job ∷ next) → AllPairs AreApart (job ∷ next)
    → ((bits sub : ℕ) → holds sub job ≡ false → accepted bits sub lines ≡ []) → All (IsQuiet (front ++ lines)) next
quiet_rest front lines job next was apart quiet k d within bits sub to =
    quiet_next bits sub front lines (All-tail (IsQuiet front) job next was k d within bits sub to)
    (quiet bits sub (not_given sub job (get_or next k d) (AllPairs-head AreApart job next apart k d within) to))
