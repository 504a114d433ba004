-- How a line begins: with the # of a comment, or with a word.
use Rattle.std.specs.Prelude.{ℕ, ◌==◌, Bool, List, codes, Option, Some, None, if◌then◌else◌, slice_index_or}
use Rattle.auc_text.specs.Text.{is_text}
use Rattle.auc_reading.specs.declared.word.HeaderWord.{HeaderWord}
use Rattle.auc_reading.specs.declared.word.HeaderWord.TheVariants as header
use Rattle.auc_reading.specs.declared.word.JobWord.{JobWord}
use Rattle.auc_reading.specs.declared.word.JobWord.TheVariants as job
use Rattle.auc_reading.specs.declared.word.Word.{Word}
use Rattle.auc_reading.specs.declared.word.Word.TheVariants as word

-- a comment begins with # (35)
abbrev pub is_comment : List ℕ → Bool
is_comment line = slice_index_or line 0 0 == 35

-- the word of the header that a text is
abbrev pub header_word_of : List ℕ → Option HeaderWord
header_word_of text =
    if is_text text (codes "randkey") then Some header.Randkey
    else if is_text text (codes "workers") then Some header.Workers
    else if is_text text (codes "print") then Some header.Print
    else if is_text text (codes "realm") then Some header.Realm
    else None

-- the word of a job's line that a text is
abbrev pub job_word_of : List ℕ → Option JobWord
job_word_of text =
    if is_text text (codes "draw") then Some job.Draw
    else if is_text text (codes "sync") then Some job.Sync
    else if is_text text (codes "auts") then Some job.Auts
    else if is_text text (codes "give") then Some job.Give
    else if is_text text (codes "eps") then Some job.Eps
    else if is_text text (codes "fiveg") then Some job.Fiveg
    else if is_text text (codes "sites") then Some job.Sites
    else if is_text text (codes "sim") then Some job.Sim
    else if is_text text (codes "session") then Some job.Session
    else if is_text text (codes "start") then Some job.Start
    else if is_text text (codes "deliver") then Some job.Deliver
    else if is_text text (codes "repeat") then Some job.Repeat
    else if is_text text (codes "giveup") then Some job.GiveUp
    else if is_text text (codes "plain") then Some job.Plain
    else if is_text text (codes "tamper") then Some job.Tamper
    else if is_text text (codes "cut") then Some job.Cut
    else None

abbrev pub of_header : Option HeaderWord → Option Word
of_header (Some which) = Some (word.Header which)
of_header None = None

abbrev pub of_job : Option JobWord → Option Word → Option Word
of_job (Some which) else_word = Some (word.OfJob which)
of_job None else_word = else_word

-- the word that a text is, if it is none of a subscriber, a round or a job
abbrev pub other_word_of : List ℕ → Option Word
other_word_of text =
    if is_text text (codes "restart") then Some word.Restart else of_job (job_word_of text) (of_header (header_word_of text))

-- the word that a text is
abbrev pub word_of : List ℕ → Option Word
word_of text =
    if is_text text (codes "subscriber") then Some word.Subscriber
    else if is_text text (codes "round") then Some word.Round
    else if is_text text (codes "job") then Some word.Job
    else other_word_of text
