-- Inner facts: what only private contracts of this crate cite.
use Rattle.std.specs.Prelude.{ℕ, ◌≡◌, Bool, true, false, List, [], ◌∷◌, ◌++◌, map, take, drop, flat_map, Option, Some, None, Result, OnOk, codes}
use Rattle.hex.specs.Hex.{encode_lower}
use Rattle.auc_memory.specs.declared.no_memory.NoMemory.{NoMemory}
use Rattle.auc_vector.specs.declared.turn.Outcome.TheVariants as outcome
use Rattle.auc_vector.specs.declared.turn.Step.{Step}
use Rattle.auc_vector.specs.declared.turn.Step.TheVariants as step
use Rattle.auc_vector.specs.declared.parts.Vector.{Vector as AuthVector}
use Rattle.auc_record.specs.Event.{event_vector}
use Rattle.auc_subs.specs.Setting.{Setting}
use Rattle.auc_record.specs.declared.event.NoteStep.{NoteStep}
use Rattle.auc_record.specs.declared.event.NoteStep.TheVariants as did
use Rattle.auc_record.specs.declared.record.LineRecord.{LineRecord}
use Rattle.auc_record.specs.declared.record.LineRecord.TheVariants.{Number, Sync, Give, Further, Event}
use Rattle.auc_vector.specs.declared.notes.NumberNote.TheVariants as number
use Rattle.auc_record.specs.declared.record.Premise.{Premise}
use Rattle.auc_record.specs.declared.record.Premise.TheVariants as premise
use Rattle.auc_print.specs.declared.word.Word.{Word}
use Rattle.auc_print.specs.declared.word.Word.TheVariants as words
use Rattle.auc_print.specs.AutsText.{auts_after}
use Rattle.auc_print.specs.EventText.{peer_words, reason_word, server_words}
use Rattle.auc_print.specs.Numeral.{numeral}
use Rattle.auc_print.specs.Text.{broken_words, bytes_words, identities_of, record_words, shown_lines, spaced}

-- a text begins with a front
pub record IsFrontOf (front text : List ℕ) : Type 0 where
  pub rest : List ℕ
  pub is : text ≡ front ++ rest

-- what an append did: the text was appended, or if memory ran out, maybe a part of it; what stood there before stays in front
pub record Prints (result : Result (Unit {0}) NoMemory) (old new text : List ℕ) : Type 0 where
  pub printed : OnOk result (new ≡ old ++ text)
  pub grows : IsFrontOf old new

-- words, each after a space
abbrev pub after_spaces : List (List ℕ) → List ℕ
after_spaces words = flat_map (λ word. 32 ∷ word) words

-- ---- words as values

-- a word, if it is one
abbrev pub word_texts : Word → List (List ℕ)
word_texts words.Nothing = []
word_texts (words.Text text) = text.now ∷ []
word_texts (words.Number number) = numeral number ∷ []
word_texts (words.Hex bytes) = encode_lower bytes.now ∷ []
word_texts (words.Sqn bytes) = encode_lower bytes ∷ []
word_texts (words.Byte byte) = encode_lower (byte ∷ []) ∷ []

-- the words of a group
abbrev pub group_texts : List Word → List (List ℕ)
group_texts group = flat_map word_texts group

-- ---- what an end did besides sending, in two

-- without the cause of a Failure
abbrev pub ended_words : {W : Type 0} → Step W → List (List ℕ)
ended_words (step.Sent bytes) = []
ended_words (step.Ended (outcome.Success keys) bytes) = codes "ended" ∷ codes "success" ∷ []
ended_words (step.Ended (outcome.Failure why) bytes) = codes "ended" ∷ codes "failure" ∷ []
ended_words (step.Ignored why) = codes "ignored" ∷ reason_word why ∷ []

abbrev pub did_words : NoteStep → List (List ℕ)
did_words did.Opened = codes "open" ∷ []
did_words (did.Server what) = ended_words what
did_words (did.Peer what) = ended_words what
did_words (did.Made bytes) = []

-- the cause of a Failure
abbrev pub why_words : NoteStep → List (List ℕ)
why_words did.Opened = []
why_words (did.Server (step.Sent bytes)) = []
why_words (did.Server (step.Ended (outcome.Success keys) bytes)) = []
why_words (did.Server (step.Ended (outcome.Failure why) bytes)) = server_words why
why_words (did.Server (step.Ignored why)) = []
why_words (did.Peer (step.Sent bytes)) = []
why_words (did.Peer (step.Ended (outcome.Success keys) bytes)) = []
why_words (did.Peer (step.Ended (outcome.Failure why) bytes)) = peer_words why
why_words (did.Peer (step.Ignored why)) = []
why_words (did.Made bytes) = []

-- ---- lines

-- the text of lines
abbrev pub lines_text : List (List (List ℕ)) → List ℕ
lines_text lines = flat_map spaced lines

-- the text of some vectors' bytes, a line for each
abbrev pub bytes_text : List AuthVector → List ℕ
bytes_text vectors = lines_text (map bytes_words vectors)

-- of the vectors that are left, the one whose bytes follow a line that releases a vector, if it does: the first; and the
-- vectors that are left for the lines after it
abbrev pub shown_for : Option AuthVector → List AuthVector → List AuthVector
shown_for None vectors = []
shown_for (Some vector) vectors = take 1 vectors

abbrev pub left_for : Option AuthVector → List AuthVector → List AuthVector
left_for None vectors = vectors
left_for (Some vector) vectors = drop 1 vectors

-- the same for a record's line
abbrev pub shown_after : LineRecord → List AuthVector → List AuthVector
shown_after (Number sub (number.Drew n)) vectors = take 1 vectors
shown_after (Number sub (number.Withheld n stop)) vectors = []
shown_after (Number sub (number.Exhausted word)) vectors = []
shown_after (Sync sub note) vectors = []
shown_after (Give sub n verdict) vectors = []
shown_after (Further said) vectors = []
shown_after (Event r) vectors = shown_for (event_vector r.result) vectors

abbrev pub left_after : LineRecord → List AuthVector → List AuthVector
left_after (Number sub (number.Drew n)) vectors = drop 1 vectors
left_after (Number sub (number.Withheld n stop)) vectors = vectors
left_after (Number sub (number.Exhausted word)) vectors = vectors
left_after (Sync sub note) vectors = vectors
left_after (Give sub n verdict) vectors = vectors
left_after (Further said) vectors = vectors
left_after (Event r) vectors = left_for (event_vector r.result) vectors

-- the text of what else a full print adds after a record of a job
abbrev pub more_text : Setting → Bool → List LineRecord → LineRecord → List ℕ
more_text set true job answer = lines_text (auts_after set job answer) ++ lines_text (shown_lines answer)
more_text set false job answer = []

-- the text of a record of a job with these records, with some vectors left to be shown
abbrev pub answer_text : Setting → Bool → List LineRecord → LineRecord → List AuthVector → List ℕ
answer_text set full job answer vectors =
    spaced (record_words (identities_of set.rows) answer) ++ (bytes_text (shown_after answer vectors) ++ more_text set full job answer)

-- the text of some of a job's records, with the vectors that their lines show
abbrev pub answers_text : Setting → Bool → List LineRecord → List LineRecord → List AuthVector → List ℕ
answers_text set full job [] vectors = []
answers_text set full job (answer ∷ answers) vectors =
    answer_text set full job answer vectors ++ answers_text set full job answers (left_after answer vectors)

-- the text of a job, with the vectors that its lines show
abbrev pub job_text : Setting → Bool → ℕ → List LineRecord → List AuthVector → List ℕ
job_text set full number job vectors = spaced (codes "job" ∷ numeral number ∷ []) ++ answers_text set full job job vectors

-- the text of a premise
abbrev pub premise_text : Premise → List ℕ
premise_text premise.NoSession = []
premise_text premise.Held = codes "premise held\n"
premise_text (premise.Broken job breach) = spaced (broken_words job breach)
