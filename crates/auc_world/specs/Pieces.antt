-- A round that several workers serve. Each worker serves a job after its own earlier lines, and doesn't see those of
-- the other workers. The round's records are put together from such pieces, in the order of the jobs.
use Rattle.std.specs.Prelude.{◌≡◌, ℕ, true, List, [], ◌∷◌, ◌++◌, AllPairs, map}
use Rattle.auc_history.specs.declared.entry.Entry.{Entry}
use Rattle.auc_history.specs.Split.{Splits}
use Rattle.auc_lines.specs.declared.part.Line.{Line}
use Rattle.auc_lines.specs.Part.{AreApart, holds}
use Rattle.auc_record.specs.declared.record.LineRecord.{LineRecord}
use Rattle.auc_record.specs.Lines.{accepted}
use Rattle.auc_record.specs.Entries.{is_reported, entries_of_lines, entries_of_jobs}
use Rattle.auc_world.specs.Given.{JobGives, JobsGive}
use Rattle.auc_world.specs.Net.{Net}
use Rattle.auc_world.specs.Start.{Kept, start_of}
use Rattle.auc_subs.specs.Setting.{Setting}

-- a job's lines, and the lines of the jobs that its worker served earlier in the round
pub record Piece : Type 0 where
  pub earlier : List LineRecord
  pub lines : List LineRecord

-- the lines of each piece, without its worker's earlier lines
abbrev pub lines_of_pieces : List Piece → List (List LineRecord)
lines_of_pieces pieces = map (λ piece. piece.lines) pieces

-- the subscriber's entries of each piece, after its worker's earlier lines
abbrev pub entries_of_pieces : ℕ → List Piece → List (List Entry)
entries_of_pieces sub pieces = map (λ piece. entries_of_lines sub piece.earlier piece.lines) pieces

-- each word of a spent subscriber that a worker's earlier lines report is also reported before the piece in the
-- order of the jobs
abbrev pub ReportsAreEarlier : ℕ → List LineRecord → List Piece → Type 0
ReportsAreEarlier sub before [] = Unit {0}
ReportsAreEarlier sub before (piece ∷ pieces) =
    ((word : ℕ) → is_reported sub word piece.earlier ≡ true → is_reported sub word before ≡ true)
    × ReportsAreEarlier sub (before ++ piece.lines) pieces

-- if the pieces' entries of a subscriber split a history, the entries of the round's jobs split it too
abbrev pub PiecesSplitTheRound : Type 0
PiecesSplitTheRound = (top opening closing sub : ℕ) (pieces : List Piece) → ReportsAreEarlier sub [] pieces
    → Splits top opening closing (entries_of_pieces sub pieces)
    → Splits top opening closing (entries_of_jobs sub [] (lines_of_pieces pieces))

-- by these lines, no USIM that the job holds has accepted a number
abbrev pub IsQuiet : List LineRecord → List Line → Type 0
IsQuiet lines job = (bits sub : ℕ) → holds sub job ≡ true → accepted bits sub lines ≡ []

-- each job gives the lines of its piece and its network, after its worker's earlier lines, by which its USIMs have accepted
-- nothing
abbrev pub PiecesGive : Setting → List LineRecord → List Kept → List (List Line) → List Piece → List Net → Type 0
PiecesGive set early kept [] pieces nets = (pieces ≡ []) × (nets ≡ [])
PiecesGive set early kept (job ∷ jobs) [] nets = ⊥
PiecesGive set early kept (job ∷ jobs) (piece ∷ pieces) [] = ⊥
PiecesGive set early kept (job ∷ jobs) (piece ∷ pieces) (net ∷ nets) = IsQuiet piece.earlier job
    × JobGives set (record { early = early; beside = piece.earlier; own = [] }) (start_of set kept job) job piece.lines net
    × PiecesGive set early kept jobs pieces nets

-- if each job gives the lines of its piece after its worker's earlier lines, and no two jobs hold one USIM, then
-- each job gives them after the lines of all earlier jobs
abbrev pub JobsGiveAfterAllLines : Type 0
JobsGiveAfterAllLines = (set : Setting) (early : List LineRecord) (kept : List Kept) (jobs : List (List Line)) (pieces : List Piece) (nets : List Net)
    → AllPairs AreApart jobs → PiecesGive set early kept jobs pieces nets → JobsGive set early kept [] jobs (lines_of_pieces pieces) nets
