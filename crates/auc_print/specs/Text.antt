-- The text of a transcript: lines of words. One space stands between two words, and a line feed ends the line.
use Rattle.std.specs.Prelude.{ℕ, ◌+◌, Bool, if◌then◌else◌, List, [], ◌∷◌, ◌++◌, map, slice_index_or, flat_map, codes}
use Rattle.hex.specs.Hex.{encode_lower}
use Rattle.auc_memory.specs.Identity.{Identity, digits_of}
use Rattle.auc_subs.specs.declared.row.Row.{Row}
use Rattle.auc_vector.specs.declared.parts.Vector.{Vector as AuthVector}
use Rattle.auc_record.specs.declared.further.FivegOutcome.{FivegOutcome}
use Rattle.auc_record.specs.declared.further.FivegOutcome.TheVariants.{NoSeparation, ServingRefused, HomeRefused, Confirmed}
use Rattle.auc_record.specs.declared.further.Further.{Further as Said}
use Rattle.auc_record.specs.declared.further.Further.TheVariants.{Kasme, HxresStar, Fiveg, Sites, Sim}
use Rattle.auc_record.specs.declared.record.Breach.{Breach}
use Rattle.auc_record.specs.declared.record.LineRecord.{LineRecord}
use Rattle.auc_record.specs.declared.record.LineRecord.TheVariants.{Number, Sync, Give, Further, Event}
use Rattle.auc_vector.specs.declared.notes.NumberNote.TheVariants as number
use Rattle.auc_vector.specs.declared.notes.ResyncNote.{ResyncNote}
use Rattle.auc_vector.specs.declared.notes.ResyncNote.TheVariants as resync
use Rattle.auc_record.specs.declared.record.GiveVerdict.{GiveVerdict}
use Rattle.auc_record.specs.declared.record.GiveVerdict.TheVariants.{Accepted, Sync as SyncFailure, Absent}
use Rattle.auc_record.specs.declared.record.Closing.{Closing}
use Rattle.auc_record.specs.declared.record.PartRecord.{PartRecord}
use Rattle.auc_record.specs.declared.record.PartRecord.TheVariants.{Round, Restart}
use Rattle.auc_record.specs.declared.record.Premise.{Premise}
use Rattle.auc_record.specs.declared.record.Premise.TheVariants as premise
use Rattle.auc_record.specs.declared.record.RoundRecord.{RoundRecord}
use Rattle.auc_record.specs.declared.record.SessionVerdict.{SessionVerdict}
use Rattle.auc_subs.specs.Setting.{Setting}
use Rattle.auc_record.specs.Vectors.{vector_in}
use Rattle.auc_print.specs.AutsText.{auts_after}
use Rattle.auc_print.specs.EventText.{agree_word, came_lines, came_words, end_word, event_words, stop_word}
use Rattle.auc_print.specs.Numeral.{numeral}
use Rattle.auc_print.specs.SimText.{sim_lines, sim_words}
use Rattle.auc_print.specs.SitesText.{sites_words}

-- a line: the beginning of a round or of a job with its number, the record of a job's line with all records of the job, a
-- closing, the verdict on a session, the premise of equal keys, a restart
pub data Line : Type 0 where
  RoundLine : (number : ℕ) → Line
  JobLine : (number : ℕ) → Line
  RecordLine : (job : List LineRecord) → (answer : LineRecord) → Line
  ClosedLine : (closing : Closing) → Line
  SessionLine : (verdict : SessionVerdict) → Line
  HeldLine : Line
  BrokenLine : (job : ℕ) → (breach : Breach) → Line
  RestartLine : Line

-- a job's lines: its number, then its records
abbrev pub job_lines : ℕ → List LineRecord → List Line
job_lines number job = JobLine number ∷ map (RecordLine job) job

-- the lines of jobs that are numbered from `number` on
abbrev pub jobs_lines : ℕ → List (List LineRecord) → List Line
jobs_lines number [] = []
jobs_lines number (job ∷ jobs) = job_lines number job ++ jobs_lines (number + 1) jobs

-- the line of a premise; a round without sessions has none
abbrev pub premise_lines : Premise → List Line
premise_lines premise.NoSession = []
premise_lines premise.Held = HeldLine ∷ []
premise_lines (premise.Broken job breach) = BrokenLine job breach ∷ []

-- the lines after a round's jobs: its closings, its sessions' verdicts and its premise
abbrev pub end_lines : RoundRecord → List Line
end_lines round = map ClosedLine round.closings ++ (map SessionLine round.sessions ++ premise_lines round.premise)

-- a round's lines: its number, its jobs, numbered from 1, and what ends it
abbrev pub round_lines : RoundRecord → List Line
round_lines round = RoundLine round.number ∷ (jobs_lines 1 round.jobs ++ end_lines round)

-- a part's lines: those of its round, or the one of a restart
abbrev pub part_lines : PartRecord → List Line
part_lines (Round round) = round_lines round
part_lines Restart = RestartLine ∷ []

-- the identities of subscribers, in the order of their rows
abbrev pub identities_of : List Row → List Identity
identities_of rows = map (λ row. row.imsi) rows

-- the IMSI of a subscriber, which is named by its place in the list of identities
abbrev pub imsi_of : List Identity → ℕ → List ℕ
imsi_of identities sub = digits_of (slice_index_or identities sub (record { digits = 0; number = 0 }))

-- the words that say what the home network made of an AUTS
abbrev pub sync_words : ResyncNote → List (List ℕ)
sync_words (resync.Moved seen seq_ms) = codes "moved" ∷ numeral seen ∷ numeral seq_ms ∷ []
sync_words (resync.InRange seen seq_ms) = codes "inrange" ∷ numeral seen ∷ numeral seq_ms ∷ []
sync_words (resync.Beyond seen seq_ms) = codes "beyond" ∷ numeral seen ∷ numeral seq_ms ∷ []
sync_words resync.BadAuts = codes "wrongmac" ∷ []

-- the words that say what a USIM answered to a vector
abbrev pub give_words : GiveVerdict → List (List ℕ)
give_words Accepted = codes "accepted" ∷ []
give_words (SyncFailure sqn_ms) = codes "sync" ∷ encode_lower sqn_ms ∷ []
give_words Absent = codes "absent" ∷ []

-- the word that says what became of a 5G authentication
abbrev pub fiveg_word : FivegOutcome → List ℕ
fiveg_word NoSeparation = codes "noseparation"
fiveg_word ServingRefused = codes "servingrefused"
fiveg_word HomeRefused = codes "homerefused"
fiveg_word (Confirmed home device) = codes "confirmed"

-- the words of what follows from a released vector, and of a line for sites or for a session of EAP-SIM
abbrev pub further_words : List Identity → Said → List (List ℕ)
further_words identities (Kasme key) = codes "kasme" ∷ encode_lower key ∷ []
further_words identities (HxresStar half) = codes "hxresstar" ∷ encode_lower half ∷ []
further_words identities (Fiveg sub outcome) = codes "fiveg" ∷ imsi_of identities sub ∷ fiveg_word outcome ∷ []
further_words identities (Sites sub note) = codes "sites" ∷ imsi_of identities sub ∷ sites_words note
further_words identities (Sim sub note) = codes "sim" ∷ imsi_of identities sub ∷ sim_words note

-- the words of a job's record
abbrev pub record_words : List Identity → LineRecord → List (List ℕ)
record_words identities (Number sub (number.Drew n)) = codes "vector" ∷ imsi_of identities sub ∷ numeral n ∷ []
record_words identities (Number sub (number.Withheld n stop)) = codes "withheld" ∷ imsi_of identities sub ∷ numeral n ∷ stop_word stop ∷ []
record_words identities (Number sub (number.Exhausted word)) = codes "exhausted" ∷ imsi_of identities sub ∷ numeral word ∷ []
record_words identities (Sync sub note) = codes "sync" ∷ imsi_of identities sub ∷ sync_words note
record_words identities (Give sub n verdict) = codes "give" ∷ imsi_of identities sub ∷ numeral n ∷ give_words verdict
record_words identities (Further said) = further_words identities said
record_words identities (Event r) = event_words r.event ++ came_words r.result

-- the words of a closing
abbrev pub closing_words : List Identity → Closing → List (List ℕ)
closing_words identities closing =
    codes "closed" ∷ imsi_of identities closing.sub ∷ numeral closing.first ∷ numeral closing.last
    ∷ numeral closing.drawn ∷ numeral closing.skipped ∷ numeral closing.released ∷ numeral closing.withheld ∷ []

-- the words of the verdict on a session
abbrev pub session_words : SessionVerdict → List (List ℕ)
session_words verdict = codes "session" ∷ numeral verdict.session ∷ agree_word verdict.agree ∷ []

-- the words of the delivery that breaks the premise, with its job
abbrev pub broken_words : ℕ → Breach → List (List ℕ)
broken_words job breach =
    codes "premise" ∷ codes "broken" ∷ numeral job ∷ numeral breach.session ∷ end_word breach.end ∷ numeral breach.packet ∷ []

-- the words of a line
abbrev pub line_words : List Identity → Line → List (List ℕ)
line_words identities (RoundLine number) = codes "round" ∷ numeral number ∷ []
line_words identities (JobLine number) = codes "job" ∷ numeral number ∷ []
line_words identities (RecordLine job answer) = record_words identities answer
line_words identities (ClosedLine closing) = closing_words identities closing
line_words identities (SessionLine verdict) = session_words verdict
line_words identities HeldLine = codes "premise" ∷ codes "held" ∷ []
line_words identities (BrokenLine job breach) = broken_words job breach
line_words identities RestartLine = codes "restart" ∷ []

-- the words of a vector's bytes
abbrev pub bytes_words : AuthVector → List (List ℕ)
bytes_words vector =
    codes "bytes" ∷ encode_lower vector.rand ∷ encode_lower vector.autn ∷ encode_lower vector.xres
    ∷ encode_lower vector.ck ∷ encode_lower vector.ik ∷ []

-- words with a space between each two, and a line feed at the end
abbrev pub spaced : List (List ℕ) → List ℕ
spaced [] = codes "\n"
spaced (word ∷ words) = word ++ flat_map (λ next. 32 ∷ next) words ++ codes "\n"

-- the words of K_SEAF of the home network and of the device
abbrev pub seaf_words : List ℕ → List ℕ → List (List ℕ)
seaf_words home device = codes "seaf" ∷ encode_lower home ∷ encode_lower device ∷ []

-- the line of K_SEAF of both ends, if a 5G authentication is confirmed
abbrev pub fiveg_lines : FivegOutcome → List (List (List ℕ))
fiveg_lines NoSeparation = []
fiveg_lines ServingRefused = []
fiveg_lines HomeRefused = []
fiveg_lines (Confirmed home device) = seaf_words home device ∷ []

abbrev pub further_lines : Said → List (List (List ℕ))
further_lines (Kasme key) = []
further_lines (HxresStar half) = []
further_lines (Fiveg sub outcome) = fiveg_lines outcome
further_lines (Sites sub note) = []
further_lines (Sim sub note) = sim_lines note

-- the lines that a full print adds after a record's line, besides the bytes of a vector and an AUTS: K_SEAF of a 5G
-- authentication, or the packet and the keys of an event or of a session of EAP-SIM
abbrev pub shown_lines : LineRecord → List (List (List ℕ))
shown_lines (Number sub note) = []
shown_lines (Sync sub note) = []
shown_lines (Give sub n verdict) = []
shown_lines (Further said) = further_lines said
shown_lines (Event r) = came_lines r.result

-- all of them, after a record of a job with these records: the bytes of the vector that it releases come first, or AUTS of a
-- synchronisation failure
abbrev pub added_lines : Setting → List LineRecord → LineRecord → List (List (List ℕ))
added_lines set job answer = map bytes_words (vector_in set answer) ++ (auts_after set job answer ++ shown_lines answer)

-- what a full print adds after a line
abbrev pub full_text : Setting → Bool → Line → List ℕ
full_text set full (RecordLine job answer) = flat_map spaced (if full then added_lines set job answer else [])
full_text set full line = []

-- the text of a line
abbrev pub line_text : Setting → Bool → Line → List ℕ
line_text set full line = spaced (line_words (identities_of set.rows) line) ++ full_text set full line

-- the text of a round
abbrev pub round_text : Setting → Bool → RoundRecord → List ℕ
round_text set full round = flat_map (line_text set full) (round_lines round)

-- the text of a restart, which is the same in each print
abbrev pub restart_text : List ℕ
restart_text = codes "restart\n"

-- the text of a part
abbrev pub part_text : Setting → Bool → PartRecord → List ℕ
part_text set full part = flat_map (line_text set full) (part_lines part)

-- the text of a transcript
abbrev pub transcript_text : Setting → Bool → List PartRecord → List ℕ
transcript_text set full records = flat_map (part_text set full) records
