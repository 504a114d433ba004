-- A transcript is determined by what is told of it.
use Rattle.std.specs.Prelude.{◌≡◌, ℕ, List, Option}
use Rattle.auc_memory.specs.declared.stop.Stop.{Stop}
use Rattle.auc_lines.specs.declared.part.Part.{Part}
use Rattle.auc_record.specs.declared.record.PartRecord.{PartRecord}
use Rattle.auc_subs.specs.Setting.{Setting}
use Rattle.auc_record.specs.Told.{told}
use Rattle.auc_world.specs.Transcript.{IsLawful}

-- two lawful transcripts of the same parts of which the same is told are one, whatever was reserved before each, and
-- whether or not the reservation of numbers stopped in it
abbrev pub EachToldTranscriptIsOne : Type 0
EachToldTranscriptIsOne =
    (set : Setting) (parts : List Part) (reserved others_reserved : List ℕ) (stop others_stop : Option Stop) (records others : List PartRecord)
    → IsLawful set reserved stop parts records → IsLawful set others_reserved others_stop parts others → told records ≡ told others
    → records ≡ others
