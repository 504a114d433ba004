-- Why a run is refused: the status with which it then ends, and the line that is written.
use Rattle.std.specs.Prelude.{◌≡◌, ◌⊎◌, ℕ, List, Ok, Err, ◌++◌, [], Result, codes, decimal}
use Rattle.auc_reading.specs.declared.refusal.ScriptWhy.{ScriptWhy}
use Rattle.auc_subs.specs.declared.refusal.SubsWhy.{SubsWhy}
use Rattle.auc_refusal.specs.declared.refusal.Refusal.{Refusal}
use Rattle.auc_refusal.specs.declared.status.Status.{Status}
use Rattle.auc_refusal.specs.declared.status.Status.TheVariants.{StoreFault, NotJournal, NoMemory, Done, SubscribersRefused, ScenarioRefused, ReadFault, WriteFault, StoreFull, TooLong, Usage}
use Rattle.auc_refusal.specs.declared.refusal.Refusal.TheVariants as refused
use Rattle.auc_reading.specs.declared.refusal.ScriptWhy.TheVariants as why
use Rattle.auc_subs.specs.declared.refusal.SubsWhy.TheVariants as subs_why

-- the status of a run that was refused
abbrev pub status_of : Refusal → Status
status_of refused.Usage = Usage
status_of (refused.Subscribers row fault) = SubscribersRefused
status_of (refused.Scenario line fault) = ScenarioRefused
status_of refused.ReadFault = ReadFault
status_of refused.WriteFault = WriteFault
status_of refused.StoreFault = StoreFault
status_of (refused.NotJournal place) = NotJournal
status_of refused.StoreFull = StoreFull
status_of refused.TooLong = TooLong
status_of refused.NoMemory = NoMemory

-- the word for what is wrong with a subscriber
abbrev pub subs_why_word : SubsWhy → List ℕ
subs_why_word subs_why.Header = codes "header"
subs_why_word subs_why.FieldCount = codes "fieldcount"
subs_why_word subs_why.Imsi = codes "imsi"
subs_why_word subs_why.Key = codes "key"
subs_why_word subs_why.Kind = codes "kind"
subs_why_word subs_why.Op = codes "op"
subs_why_word subs_why.Amf = codes "amf"
subs_why_word subs_why.Bits = codes "bits"
subs_why_word subs_why.Age = codes "age"
subs_why_word subs_why.Seq = codes "seq"
subs_why_word subs_why.Usim = codes "usim"
subs_why_word subs_why.Twice = codes "twice"
subs_why_word subs_why.TooMany = codes "toomany"

-- the word for what is wrong with a line of a scenario
abbrev pub why_word : ScriptWhy → List ℕ
why_word why.UnknownWord = codes "unknownword"
why_word why.OutOfOrder = codes "outoforder"
why_word why.Fields = codes "fields"
why_word why.Number = codes "number"
why_word why.Hex = codes "hex"
why_word (why.Subscriber fault) = subs_why_word fault
why_word why.UnknownSubscriber = codes "unknownsubscriber"
why_word why.UnknownSession = codes "unknownsession"
why_word why.Twice = codes "twice"
why_word why.UsimBusy = codes "usimbusy"
why_word why.Limit = codes "limit"
why_word why.NotInBlock = codes "notlive"
why_word why.Unfinished = codes "unfinished"

-- the line that a refusal writes, and nothing if it writes none
abbrev pub line_of : Refusal → List ℕ
line_of refused.Usage = codes "usage\n"
line_of (refused.Subscribers row fault) = codes "refused subscribers " ++ decimal row ++ codes " " ++ subs_why_word fault ++ codes "\n"
line_of (refused.Scenario line fault) = codes "refused scenario " ++ decimal line ++ codes " " ++ why_word fault ++ codes "\n"
line_of (refused.NotJournal place) = codes "refused journal " ++ decimal place ++ codes "\n"
line_of _ = []

-- a fault or want of memory that may stop a run with this refusal: no file is read for `usage`, for which no memory
-- is taken, and no line is written of a file that is too long
abbrev pub MayStop : Refusal → Status → Type 0
MayStop refused.Usage status = status ≡ WriteFault
MayStop refused.TooLong status = (status ≡ ReadFault) ⊎ (status ≡ NoMemory)
MayStop (refused.NotJournal place) status = (status ≡ ReadFault) ⊎ (status ≡ WriteFault) ⊎ (status ≡ StoreFault) ⊎ (status ≡ NoMemory)
MayStop _ status = (status ≡ ReadFault) ⊎ (status ≡ WriteFault) ⊎ (status ≡ NoMemory)

-- how a run may end whose input has the cause of this refusal
abbrev pub MayRefuse : Refusal → Status → Type 0
MayRefuse refusal status = (status ≡ status_of refusal) ⊎ MayStop refusal status

-- the exit status of the program
abbrev pub number_of_status : Status → ℕ
number_of_status Done = 0
number_of_status Usage = 1
number_of_status SubscribersRefused = 2
number_of_status ScenarioRefused = 3
number_of_status ReadFault = 4
number_of_status WriteFault = 5
number_of_status StoreFault = 6
number_of_status NotJournal = 7
number_of_status StoreFull = 8
number_of_status TooLong = 9
number_of_status NoMemory = 10

-- the status of a run that ended so
abbrev pub status_in : {A : Type 0} → Result A Refusal → Status
status_in (Ok done) = Done
status_in (Err refusal) = status_of refusal
