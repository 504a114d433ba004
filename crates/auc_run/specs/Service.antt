-- What a service does: the blocks that it hears, its replies, and how it ends.
use Rattle.std.specs.Prelude.{◌≡◌, ℕ, ◌≤◌, ◌^◌, ◌-◌, ◌⊎◌, ◌∷◌, ◌++◌, nat_lt, Bool, All, List, [], length, map, Option, Some, None, Result, Ok, Err, if◌then◌else◌}
use Rattle.std.specs.List.{concat, flat_map}
use Rattle.auc_block.specs.Block.{blocks_in}
use Rattle.auc_block.specs.Turns.{Turns}
use Rattle.auc_block.specs.declared.turn.Turn.{Turn}
use Rattle.auc_edge.specs.Shelf.{File}
use Rattle.auc_memory.specs.declared.stop.Stop.{Stop}
use Rattle.auc_memory.specs.declared.stop.Stop.TheVariants.{Fault, Full}
use Rattle.auc_journal.specs.Image.{Frame}
use Rattle.auc_lines.specs.declared.part.Line.{Line}
use Rattle.auc_lines.specs.declared.part.Part.{Part}
use Rattle.auc_lines.specs.declared.part.Part.TheVariants.{Round}
use Rattle.auc_print.specs.Text.{round_text}
use Rattle.auc_script.specs.Reading.{block_of, header_of}
use Rattle.auc_script.specs.declared.refusal.ScriptRefusal.{ScriptRefusal}
use Rattle.auc_script.specs.declared.refusal.ScriptRefusal.TheVariants as wrong
use Rattle.auc_reading.specs.declared.refusal.ScriptWhy.TheVariants as why
use Rattle.auc_script.specs.declared.script.Script.{Script}
use Rattle.auc_subs.specs.declared.row.Row.{Row}
use Rattle.auc_subs.specs.Setting.{Setting}
use Rattle.auc_world.specs.Transcript.{Course}
use Rattle.auc_record.specs.declared.record.PartRecord.{PartRecord}
use Rattle.auc_record.specs.declared.record.PartRecord.TheVariants as record_of
use Rattle.auc_record.specs.declared.record.RoundRecord.{RoundRecord}
use Rattle.auc_input.specs.Opening.{IsFound, limits_in}
use Rattle.auc_run.specs.Crash.{IsKept, IsLeftAnyTime}
use Rattle.auc_input.specs.Reading.{BeginsWith}
use Rattle.auc_run.specs.Output.{IsOutput, setting_of}
use Rattle.auc_input.specs.Turns.{heard_in, said_in}
use Rattle.auc_refusal.specs.declared.refusal.Refusal.{Refusal}
use Rattle.auc_refusal.specs.declared.refusal.Refusal.TheVariants as refused
use Rattle.auc_refusal.specs.declared.status.Status.{Status}
use Rattle.auc_refusal.specs.declared.status.Status.TheVariants.{Done, SubscribersRefused, ScenarioRefused, ReadFault, WriteFault, StoreFault, StoreFull, TooLong, NoMemory}
use Rattle.auc_refusal.specs.Replies.{end_line, most_block, ready_reply, refusal_reply, reply_to_rest}
use Rattle.auc_input.specs.Header.{IsEarlyCause, IsPrompt}
use Rattle.auc_refusal.specs.Told.{IsTold}

-- ---- blocks and replies

-- what a block asks for: the jobs of its round, if it has one, or its first wrong line. One that is too long is refused as line 0
abbrev pub asked_of : List Row → List ℕ → Result (Option (List (List Line))) ScriptRefusal
asked_of rows block = if nat_lt most_block (length block) then Err (wrong.Line 0 why.Limit) else block_of rows block

-- a block, and what came of it: the parts that were served because of it, their records, and the reply
pub record Answer : Type 0 where
  pub block : List ℕ
  pub parts : List Part
  pub records : List PartRecord
  pub reply : List ℕ

-- the reply to a right block is the text of its round, if it has one; that to a wrong one is its refusal, and nothing was served
abbrev pub Answers : Setting → Bool → Result (Option (List (List Line))) ScriptRefusal → Answer → Type 0
Answers set full (Ok (Some jobs)) a = (round : RoundRecord) × (a.parts ≡ Round jobs ∷ []) × (a.records ≡ record_of.Round round ∷ []) × (a.reply ≡ round_text set full round ++ end_line)
Answers set full (Ok None) a = (a.parts ≡ []) × (a.records ≡ []) × (a.reply ≡ end_line)
Answers set full (Err (wrong.Line line fault)) a = (a.parts ≡ []) × (a.records ≡ []) × (a.reply ≡ refusal_reply line fault)
Answers set full (Err wrong.NoMemory) a = ⊥

abbrev pub IsAnswer : List Row → Script → Answer → Type 0
IsAnswer rows header a = Answers (setting_of rows header) header.full (asked_of rows a.block) a

-- the blocks that were answered, the parts that were served, their records, and the replies, in their order
abbrev pub blocks_of : List Answer → List (List ℕ)
blocks_of answers = map (λ a. a.block) answers

abbrev pub parts_in : List Answer → List Part
parts_in answers = flat_map (λ a. a.parts) answers

abbrev pub records_in : List Answer → List PartRecord
records_in answers = flat_map (λ a. a.records) answers

abbrev pub replies_in : List Answer → List (List ℕ)
replies_in answers = ready_reply ∷ map (λ a. a.reply) answers

-- ---- a service

-- why reservations had stopped in the last round of a service that ended so, if they had; a reply that fails may end either
abbrev pub IsServiceStop : Status → Option Stop → Type 0
IsServiceStop Done stop = stop ≡ None
IsServiceStop ReadFault stop = stop ≡ None
IsServiceStop WriteFault stop = Unit {0}
IsServiceStop StoreFault stop = stop ≡ Some Fault
IsServiceStop StoreFull stop = stop ≡ Some Full
IsServiceStop TooLong stop = stop ≡ None
IsServiceStop NoMemory stop = stop ≡ None
IsServiceStop _ stop = ⊥

-- all whole blocks were answered in a service that ended so
abbrev pub LeavesNone : Status → List (List ℕ) → Type 0
LeavesNone Done left = left ≡ []
LeavesNone ReadFault left = left ≡ []
LeavesNone _ left = Unit {0}

-- the last reply of a service that ended so, after those to whole blocks
abbrev pub IsLastReply : Status → List ℕ → List ℕ → Type 0
IsLastReply Done left reply = reply ≡ reply_to_rest left
IsLastReply WriteFault left reply = (reply ≡ []) ⊎ (reply ≡ reply_to_rest left)
IsLastReply _ left reply = reply ≡ []

-- a text was said, or its first bytes if saying failed
abbrev pub IsSaid : Status → List ℕ → List ℕ → Type 0
IsSaid WriteFault said text = (rest : List ℕ) × (said ++ rest ≡ text)
IsSaid _ said text = said ≡ text

-- how many blocks a service answers after its header
abbrev pub most_blocks : ℕ
most_blocks = 2 ^ 64 - 2

-- a service hears no more: it answered so many blocks, or the present one is far too long
abbrev pub IsLate : ℕ → List ℕ → Type 0
IsLate count left = (most_blocks ≤ count) ⊎ (2 ^ 64 - 1 ≤ length left)

-- what a service did over the turns of its wire, which begin with a header that is right
pub record IsService (rows : List Row) (header : Script) (reserved : List ℕ) (status : Status) (first : List ℕ) (turns : List Turn) (leaves : List ℕ → Type 0) : Type 0 where
  -- the whole blocks that were heard: the header, those that were answered, one after the other, and those that weren't any more
  pub answers : List Answer
  pub unanswered : List (List ℕ)
  pub heard : (blocks_in (heard_in turns)).whole ≡ first ∷ (blocks_of answers ++ unanswered)
  pub none_left : LeavesNone status unanswered
  pub each : All (IsAnswer rows header) answers
  -- their rounds are those of one run: all that is promised of its output holds
  pub stop : Option Stop
  pub stopped : IsServiceStop status stop
  pub end : Course
  pub text : List ℕ
  pub output : IsOutput rows header reserved stop (parts_in answers) end text
  pub told : output.transcript ≡ records_in answers
  -- the replies were said, and no block waited for its reply while more was heard
  pub last : List ℕ
  pub is_last : IsLastReply status (blocks_in (heard_in turns)).left last
  pub said : IsSaid status (said_in turns) (concat (replies_in answers) ++ last)
  pub prompt : IsPrompt (replies_in answers) turns
  pub late : status ≡ TooLong → IsLate (length answers) (blocks_in (heard_in turns)).left
  -- what a crash leaves of the journal
  pub kept : (image : List ℕ) → leaves image → IsKept status rows reserved end image

-- the subscribers were read, a header that is right was heard, the journal was opened, and blocks were served
pub record ServesBlocks (told : Option (List File)) (subscribers : Option (List ℕ)) (seen : Option (List ℕ)) (leaves : List ℕ → Type 0) (ever : List ℕ → Type 0) (status : Status) (old new : Option (List Turn)) : Type 0 where
  pub before : List Row
  pub begins : BeginsWith told subscribers before
  pub turns : List Turn
  pub took : Turns old new turns
  pub first : List ℕ
  pub short : length first ≤ most_block
  pub header : Script
  pub rows : List Row
  pub is_header : header_of before first ≡ Ok (header, rows)
  pub found : List Frame
  pub is_found : IsFound seen found
  pub service : IsService rows header (limits_in rows found) status first turns leaves
  -- what a crash at any moment of the service has left of the journal, also while the threads of a round ran
  pub always : (image : List ℕ) → ever image → IsLeftAnyTime seen status rows (limits_in rows found) service.end image

-- a service ended before the journal was opened, by what was read or heard
abbrev pub IsBeforeOpening : Status → Type 0
IsBeforeOpening SubscribersRefused = Unit {0}
IsBeforeOpening ScenarioRefused = Unit {0}
IsBeforeOpening _ = ⊥

-- ---- a service that serves nothing

-- nothing was served: a refusal has its cause, and its line was told
pub record EndsUnserved (told : Option (List File)) (subscribers : Option (List ℕ)) (seen : Option (List ℕ)) (status : Status) (old new : Option (List Turn)) : Type 0 where
  pub turns : List Turn
  pub took : Turns old new turns
  pub refusal : Refusal
  pub cause : IsEarlyCause told subscribers seen (heard_in turns) refusal
  pub is_told : IsTold refusal status (said_in turns)

-- words that have no form of a service: the word `usage` was said, or some first bytes of it if saying failed
pub record EndsUnnamed (status : Status) (old new : Option (List Turn)) : Type 0 where
  pub turns : List Turn
  pub took : Turns old new turns
  pub silent : heard_in turns ≡ []
  pub is_told : IsTold refused.Usage status (said_in turns)
  pub spared : status ≡ NoMemory → ⊥
