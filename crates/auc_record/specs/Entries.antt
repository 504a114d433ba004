-- The entries of a subscriber's history that the lines of a round stand for.
use Rattle.std.specs.Prelude.{ℕ, ◌+◌, Bool, Option, Some, None, List, [], ◌∷◌, ◌++◌, if◌then◌else◌}
use Rattle.std.specs.List.{list_any}
use Rattle.auc_history.specs.declared.entry.Entry.{Entry}
use Rattle.auc_history.specs.declared.entry.Entry.TheVariants.{Drawn, Moved, Look}
use Rattle.auc_record.specs.declared.record.LineRecord.{LineRecord}
use Rattle.auc_vector.specs.declared.notes.NumberNote.{NumberNote}
use Rattle.auc_vector.specs.declared.notes.NumberNote.TheVariants as number
use Rattle.auc_vector.specs.declared.notes.ResyncNote.{ResyncNote}
use Rattle.auc_vector.specs.declared.notes.ResyncNote.TheVariants as resync
use Rattle.auc_record.specs.Event.{is_exhausted}
use Rattle.auc_record.specs.Lines.{number_by, resync_by}

-- whether a line says that this word was read when the subscriber's next number was asked for
abbrev pub reports : ℕ → ℕ → LineRecord → Bool
reports sub word line = is_exhausted word (number_by sub line)

-- whether some line says so
abbrev pub is_reported : ℕ → ℕ → List LineRecord → Bool
is_reported sub word lines = list_any (reports sub word) lines

-- the entry of a resynchronisation, by the earlier lines of the round: a move, or a look at the number that was
-- found, unless it is the word that a spent subscriber kept
abbrev pub entries_of_resync : ℕ → List LineRecord → Option ResyncNote → List Entry
entries_of_resync sub before None = []
entries_of_resync sub before (Some (resync.Moved from to)) = Moved from to ∷ []
entries_of_resync sub before (Some (resync.InRange seen seq)) = if is_reported sub seen before then [] else Look seen ∷ []
entries_of_resync sub before (Some (resync.Beyond seen seq)) = if is_reported sub seen before then [] else Look seen ∷ []
entries_of_resync sub before (Some resync.BadAuts) = []

-- the entry of a number that was asked for: it was drawn, and the first line that reports a spent subscriber's word stands
-- for the mark after it
abbrev pub entries_of_number : ℕ → List LineRecord → Option NumberNote → List Entry
entries_of_number sub before None = []
entries_of_number sub before (Some (number.Drew n)) = Drawn n ∷ []
entries_of_number sub before (Some (number.Exhausted word)) = if is_reported sub word before then [] else Drawn (word + 1) ∷ []
entries_of_number sub before (Some (number.Withheld n stop)) = Drawn n ∷ []

-- the entries of a subscriber that a line stands for, by the earlier lines of the round. An event may resynchronise before it
-- asks for a number
abbrev pub entries_of_line : ℕ → List LineRecord → LineRecord → List Entry
entries_of_line sub before line = entries_of_resync sub before (resync_by sub line) ++ entries_of_number sub before (number_by sub line)

-- the entries of a subscriber that some lines stand for, in the order of the lines
abbrev pub entries_of_lines : ℕ → List LineRecord → List LineRecord → List Entry
entries_of_lines sub before [] = []
entries_of_lines sub before (line ∷ lines) =
    entries_of_line sub before line ++ entries_of_lines sub (before ++ line ∷ []) lines

-- the subscriber's entries of each job of a round, a list for each job
abbrev pub entries_of_jobs : ℕ → List LineRecord → List (List LineRecord) → List (List Entry)
entries_of_jobs sub before [] = []
entries_of_jobs sub before (job ∷ jobs) =
    entries_of_lines sub before job ∷ entries_of_jobs sub (before ++ job) jobs
