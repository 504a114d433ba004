-- For a service: how a block turns it, and how it ends.
use Rattle.std.proofs.Common.{◌≡◌, ◌≢◌, ℕ, ◌+◌, ◌-◌, ◌<◌, ◌≤◌, ◌^◌, nat_lt, All, Bool, true, false, List, [], ◌∷◌, ◌++◌, length, map, Option, Some, None, Result, Ok, Err, OnOk, IfErr, IfOk, inl, inr, refl, sym, ◌∙◌, ap, subst, arith, append-nil, append_assoc}
use Rattle.std.specs.List.{concat}
use Rattle.std.proofs.lemmas.Bool.Decides.{nat_tests}
use Rattle.std.proofs.lemmas.List.Elements.{All-push}
use Rattle.auc_block.specs.Block.{Blocks, EachBlockIsSplitOff, EarlierBlocksStand, blocks_in, first_block}
use Rattle.auc_block.specs.Hearing.{HasNoBlock, IsHeard, IsTrouble}
use Rattle.auc_block.specs.Turns.{Says, SaysFront, Turns}
use Rattle.auc_block.specs.declared.trouble.Trouble.{Trouble}
use Rattle.auc_block.specs.declared.trouble.Trouble.TheVariants as trouble
use Rattle.auc_block.specs.declared.turn.Turn.{Turn}
use Rattle.auc_block.specs.declared.turn.Turn.TheVariants.{Said}
use Rattle.auc_memory.specs.declared.stop.Stop.{Stop}
use Rattle.auc_memory.specs.declared.stop.Stop.TheVariants.{Fault, Full}
use Rattle.auc_jobs.specs.State.{Standing}
use Rattle.auc_journal.specs.Durable.{IsTold}
use Rattle.auc_journal.specs.Image.{Keeps}
use Rattle.auc_journal.specs.Journal.{JournalState}
use Rattle.auc_journal.specs.Settled.{IsClosable, LeavesOnly}
use Rattle.auc_lines.specs.declared.part.Line.{Line}
use Rattle.auc_lines.specs.declared.part.Part.{Part}
use Rattle.auc_lines.specs.declared.part.Part.TheVariants.{Round}
use Rattle.auc_print.specs.OneText.{PartFits}
use Rattle.auc_print.specs.Text.{round_text}
use Rattle.auc_script.specs.Reading.{block_of}
use Rattle.auc_script.specs.declared.refusal.ScriptRefusal.TheVariants as wrong
use Rattle.auc_reading.specs.declared.refusal.ScriptWhy.{ScriptWhy}
use Rattle.auc_reading.specs.declared.refusal.ScriptWhy.TheVariants as why
use Rattle.auc_script.specs.declared.script.Script.{Script}
use Rattle.auc_subs.specs.declared.row.Row.{Row}
use Rattle.auc_transcript.proofs.Facts.{leads_more}
use Rattle.auc_record.specs.Lines.{all_lines}
use Rattle.auc_world.specs.Transcript.{Course, Leads, beginning}
use Rattle.auc_record.specs.declared.record.PartRecord.{PartRecord}
use Rattle.auc_record.specs.declared.record.PartRecord.TheVariants as record_of
use Rattle.auc_run.specs.Crash.{IsFull, IsKept, MayLeave}
use Rattle.auc_refusal.specs.Refusal.{status_in, status_of}
use Rattle.auc_run.specs.Inner.{Covers, IsKnownPart, IsLeftInRun, MakesRound, Reserves, RoundsStop, StandsAfter}
use Rattle.auc_input.specs.Header.{AreTaken}
use Rattle.auc_refusal.specs.Causes.{trouble_refusal}
use Rattle.auc_refusal.specs.Told.{IsSaidUpTo}
use Rattle.auc_run.specs.InnerService.{EndsServing, GoesOnServing, IsServing, IsServingAny, IsTurned, RunsBlocks, round_answer, turned_by}
use Rattle.auc_refusal.specs.Faults.{IsQuiet}
use Rattle.auc_run.specs.Output.{setting_of}
use Rattle.auc_refusal.specs.Replies.{end_line, most_block, refusal_reply, reply_to_rest}
use Rattle.auc_run.specs.Service.{Answer, IsAnswer, IsLastReply, IsLate, IsSaid, IsServiceStop, LeavesNone, asked_of, blocks_of, most_blocks, parts_in, records_in, replies_in}
use Rattle.auc_input.specs.Turns.{heard_in, said_in}
use Rattle.auc_refusal.specs.declared.refusal.Refusal.{Refusal}
use Rattle.auc_refusal.specs.declared.refusal.Refusal.TheVariants as refused
use Rattle.auc_refusal.specs.declared.status.Status.{Status}
use Rattle.auc_refusal.specs.declared.status.Status.TheVariants as status
use Rattle.auc_run.proofs.AlwaysLemmas.{always_covers, always_reserves}
use Rattle.auc_run.proofs.BlockLemmas.{asked_quiet}
use Rattle.auc_run.proofs.RememberLemmas.{durable_keeps}
use Rattle.auc_input.proofs.Facts.{concat_append, replied_append, replied_more, replied_said, turns_more, turns_none, none_waits}
use Rattle.auc_run.proofs.ServiceLemmas.{Forgets, blocks_more, heard_behind, hears, parts_round, parts_same, records_round, records_same, replies_more, replies_nothing, replies_round, said_behind, takes, takes_count}
use Rattle.auc_run.proofs.StandLemmas.{covers_before, covers_of, kept_covers, kept_reserves}
use Rattle.auc_run.proofs.StepLemmas.{full_journal, ready_if}

-- ---- what a crash leaves

-- a disk that a service leaves
pub record IsLeft {D : Type 0} (seen : D → Option (List ℕ)) (may_leave : D → List ℕ → Type 0) (moment : D → ℕ) (left_since : D → ℕ → List ℕ → Type 0) (rows : List Row) (from : D) (reserved : List ℕ) (end : Course) (ended : Status) (disk : D) : Type 0 where
  pub kept : (image : List ℕ) → MayLeave seen may_leave from disk image → IsKept ended rows reserved end image
  pub keeps : (told : IsTold seen may_leave from) → (image : List ℕ) → may_leave disk image → Keeps told.0 image × IsClosable image
  pub always : (told : IsTold seen may_leave from) → LeavesOnly moment left_since from disk (IsLeftInRun told.0 ended rows reserved end)
  pub full_at : ended ≡ status.StoreFull → IsTold seen may_leave from → IsFull (seen disk)

-- after rounds whose limits are such as a restart may have
left_reserves : {D : Type 0} (seen : D → Option (List ℕ)) (may_leave : D → List ℕ → Type 0) (moment : D → ℕ) (left_since : D → ℕ → List ℕ → Type 0) (rows : List Row) (from : D) (reserved : List ℕ) (end : Course) (ended : Status) (journal : JournalState D)
    → Reserves seen may_leave moment left_since rows from reserved end journal → (ended ≡ status.StoreFull → IsTold seen may_leave from → IsFull (seen journal.disk))
    → IsLeft seen may_leave moment left_since rows from reserved end ended journal.disk
left_reserves seen may_leave moment left_since rows from reserved end ended journal reserves full = record {
  kept = kept_reserves seen may_leave moment left_since ended rows from journal.disk reserved end journal reserves refl;
  keeps = durable_keeps seen may_leave from journal.disk reserves.most journal reserves.durable refl;
  always = always_reserves seen may_leave moment left_since ended rows from journal.disk reserved end journal reserves refl;
  full_at = full;
}

-- where a service stands, nothing is full
pub left_at : {D : Type 0} (seen : D → Option (List ℕ)) (may_leave : D → List ℕ → Type 0) (moment : D → ℕ) (left_since : D → ℕ → List ℕ → Type 0) (rows : List Row) (from : D) (reserved : List ℕ) (end : Course) (ended : Status) (journal : JournalState D)
    → Reserves seen may_leave moment left_since rows from reserved end journal → ended ≢ status.StoreFull → IsLeft seen may_leave moment left_since rows from reserved end ended journal.disk
left_at seen may_leave moment left_since rows from reserved end ended journal reserves other =
    left_reserves seen may_leave moment left_since rows from reserved end ended journal reserves (λ is told. absurd (other is))

-- if memory ran out
left_covers : {D : Type 0} (seen : D → Option (List ℕ)) (may_leave : D → List ℕ → Type 0) (moment : D → ℕ) (left_since : D → ℕ → List ℕ → Type 0) (rows : List Row) (from : D) (reserved : List ℕ) (end : Course) (journal : JournalState D)
    → Covers seen may_leave moment left_since rows from reserved end.early journal → IsLeft seen may_leave moment left_since rows from reserved end status.NoMemory journal.disk
left_covers seen may_leave moment left_since rows from reserved end journal covers = record {
  kept = kept_covers seen may_leave moment left_since rows from journal.disk reserved end journal covers refl;
  keeps = durable_keeps seen may_leave from journal.disk covers.most journal covers.durable refl;
  always = always_covers seen may_leave moment left_since rows from journal.disk reserved end journal covers refl;
  full_at = λ is told. absurd (apart is);
}
  where
    apart : status.NoMemory ≡ status.StoreFull → ⊥
    apart same = cc

-- ---- what was said

-- more was said behind a whole text
said_more : (ended : Status) (front said text : List ℕ) → IsSaid ended said text → IsSaid ended (front ++ said) (front ++ text)
said_more status.WriteFault front said text (rest, same) = (rest, append_assoc front said rest ∙ ap (λ (r : List ℕ). front ++ r) same)
said_more status.Done front said text same = ap (λ (r : List ℕ). front ++ r) same
said_more status.Usage front said text same = ap (λ (r : List ℕ). front ++ r) same
said_more status.SubscribersRefused front said text same = ap (λ (r : List ℕ). front ++ r) same
said_more status.ScenarioRefused front said text same = ap (λ (r : List ℕ). front ++ r) same
said_more status.ReadFault front said text same = ap (λ (r : List ℕ). front ++ r) same
said_more status.StoreFault front said text same = ap (λ (r : List ℕ). front ++ r) same
said_more status.NotJournal front said text same = ap (λ (r : List ℕ). front ++ r) same
said_more status.StoreFull front said text same = ap (λ (r : List ℕ). front ++ r) same
said_more status.TooLong front said text same = ap (λ (r : List ℕ). front ++ r) same
said_more status.NoMemory front said text same = ap (λ (r : List ℕ). front ++ r) same

-- the first bytes of a text
pub said_front : (old new : Option (List Turn)) (text : List ℕ) (says : SaysFront old new text) → IsSaid status.WriteFault (concat says.said.pieces) text
said_front old new text says = (says.rest, ap (λ (r : List ℕ). r ++ says.rest) says.said.whole ∙ says.whole)

-- ---- a service ends

-- the blocks that were heard, when more was said
heard_said : (turns : List Turn) (pieces : List (List ℕ)) (first : List ℕ) (answered taken : List (List ℕ)) (waiting : List ℕ) → AreTaken (heard_in turns) (first ∷ (answered ++ taken)) waiting
    → ((blocks_in (heard_in (turns ++ map Said pieces))).whole ≡ first ∷ (answered ++ (taken ++ (blocks_in waiting).whole))) × ((blocks_in (heard_in (turns ++ map Said pieces))).left ≡ (blocks_in waiting).left)
heard_said turns pieces first answered taken waiting are =
    let all = ap blocks_in (heard_behind turns pieces) ∙ are in (
      ap (λ (b : Blocks). b.whole) all ∙ ap (λ (r : List (List ℕ)). first ∷ r) (append_assoc answered taken (blocks_in waiting).whole),
      ap (λ (b : Blocks). b.left) all,
    )

-- no further block is answered
ends_still : {D : Type 0} (seen : D → Option (List ℕ)) (may_leave : D → List ℕ → Type 0) (moment : D → ℕ) (left_since : D → ℕ → List ℕ → Type 0) (rows : List Row) (header : Script) (from : D) (reserved first : List ℕ) (taken : List (List ℕ)) (waiting : List ℕ)
    (number : ℕ) (state : Standing) (journal : JournalState D) (turns : List Turn) (pieces : List (List ℕ)) (ended : Status) (disk : D) (last : List ℕ)
    → (serving : IsServing seen may_leave moment left_since rows header from reserved first taken waiting number state journal turns)
    → LeavesNone ended (taken ++ (blocks_in waiting).whole) → IsServiceStop ended None → IsLastReply ended (blocks_in waiting).left last → IsSaid ended (concat pieces) last
    → IsLeft seen may_leave moment left_since rows from reserved serving.at ended disk → (ended ≡ status.TooLong → IsLate (length serving.answers) (blocks_in waiting).left)
    → RunsBlocks seen may_leave moment left_since rows header from reserved first ended disk (turns ++ map Said pieces)
ends_still seen may_leave moment left_since rows header from reserved first taken waiting number state journal turns pieces ended disk last serving none stopped is_last said left late =
    let heard = heard_said turns pieces first (blocks_of serving.answers) taken waiting serving.heard in
    record {
      answers = serving.answers;
      unanswered = taken ++ (blocks_in waiting).whole;
      heard = heard.0;
      none_left = none;
      each = serving.each;
      stop = None;
      stopped = stopped;
      end = serving.at;
      leads = serving.leads;
      fits = serving.fits;
      known = serving.known;
      last = last;
      is_last = subst (λ (rest : List ℕ). IsLastReply ended rest last) (sym heard.1) is_last;
      said = subst (λ (s : List ℕ). IsSaid ended s (concat (replies_in serving.answers) ++ last))
          (sym (said_behind turns pieces ∙ ap (λ (r : List ℕ). r ++ concat pieces) serving.said))
          (said_more ended (concat (replies_in serving.answers)) (concat pieces) last said);
      prompt = replied_append (replies_in serving.answers) [] [] turns (map Said pieces) serving.prompt
          (replied_said (replies_in serving.answers) (heard_in turns) (said_in turns) pieces);
      late = λ is. subst (IsLate (length serving.answers)) (sym heard.1) (late is);
      kept = left.kept;
      keeps = left.keeps;
      always = left.always;
      full_at = left.full_at;
    }

-- one more block is answered, and its reply is said or begun
ends_answer : {D : Type 0} (seen : D → Option (List ℕ)) (may_leave : D → List ℕ → Type 0) (moment : D → ℕ) (left_since : D → ℕ → List ℕ → Type 0) (rows : List Row) (header : Script) (from : D) (reserved first waiting : List ℕ) (a : Answer)
    (number : ℕ) (state : Standing) (journal : JournalState D) (turns : List Turn) (pieces : List (List ℕ)) (ended : Status) (disk : D) (stop : Option Stop) (end : Course)
    → (serving : IsServing seen may_leave moment left_since rows header from reserved first (a.block ∷ []) waiting number state journal turns) → IsAnswer rows header a
    → LeavesNone ended (blocks_in waiting).whole → IsServiceStop ended stop → IsLastReply ended (blocks_in waiting).left [] → IsSaid ended (concat pieces) a.reply
    → Leads (setting_of rows header) stop (beginning rows reserved) (parts_in (serving.answers ++ a ∷ [])) (records_in (serving.answers ++ a ∷ [])) end
    → All PartFits (records_in (serving.answers ++ a ∷ [])) → All (IsKnownPart rows) (parts_in (serving.answers ++ a ∷ []))
    → IsLeft seen may_leave moment left_since rows from reserved end ended disk → ended ≢ status.TooLong
    → RunsBlocks seen may_leave moment left_since rows header from reserved first ended disk (turns ++ map Said pieces)
ends_answer seen may_leave moment left_since rows header from reserved first waiting a number state journal turns pieces ended disk stop end serving is none stopped is_last said leads fits known left in_time =
    let heard = heard_said turns pieces first (blocks_of serving.answers) (a.block ∷ []) waiting serving.heard in
    let replies = replies_in serving.answers in
    let whole : concat (replies_in (serving.answers ++ a ∷ [])) ++ [] ≡ concat replies ++ a.reply =
    append-nil (concat (replies_in (serving.answers ++ a ∷ []))) ∙ ap concat (replies_more serving.answers a)
    ∙ concat_append replies (a.reply ∷ []) ∙ ap (λ (r : List ℕ). concat replies ++ r) (append-nil a.reply) in
    record {
      answers = serving.answers ++ a ∷ [];
      unanswered = (blocks_in waiting).whole;
      heard = heard.0 ∙ ap (λ (r : List (List ℕ)). first ∷ r)
          (sym (append_assoc (blocks_of serving.answers) (a.block ∷ []) (blocks_in waiting).whole) ∙ ap (λ (r : List (List ℕ)). r ++ (blocks_in waiting).whole) (sym (blocks_more serving.answers a)));
      none_left = none;
      each = All-push (IsAnswer rows header) serving.answers a serving.each is;
      stop = stop;
      stopped = stopped;
      end = end;
      leads = leads;
      fits = fits;
      known = known;
      last = [];
      is_last = subst (λ (rest : List ℕ). IsLastReply ended rest []) (sym heard.1) is_last;
      said = subst (λ (t : List ℕ). IsSaid ended (said_in (turns ++ map Said pieces)) t) (sym whole)
          (subst (λ (s : List ℕ). IsSaid ended s (concat replies ++ a.reply)) (sym (said_behind turns pieces ∙ ap (λ (r : List ℕ). r ++ concat pieces) serving.said))
          (said_more ended (concat replies) (concat pieces) a.reply said));
      prompt = rw (replies_more serving.answers a) (replied_append (replies ++ a.reply ∷ []) [] [] turns (map Said pieces)
          (replied_more replies (a.reply ∷ []) [] [] turns serving.prompt)
          (replied_said (replies ++ a.reply ∷ []) (heard_in turns) (said_in turns) pieces));
      late = λ is. absurd (in_time is);
      kept = left.kept;
      keeps = left.keeps;
      always = left.always;
      full_at = left.full_at;
    }

-- ---- it ends by a refusal while it serves nothing

write_full : status.WriteFault ≢ status.StoreFull
write_full same = cc

memory_full : status.NoMemory ≢ status.StoreFull
memory_full same = cc

read_full : status.ReadFault ≢ status.StoreFull
read_full same = cc

long_full : status.TooLong ≢ status.StoreFull
long_full same = cc

done_full : status.Done ≢ status.StoreFull
done_full same = cc

write_in_time : status.WriteFault ≢ status.TooLong
write_in_time same = cc

memory_in_time : status.NoMemory ≢ status.TooLong
memory_in_time same = cc

read_in_time : status.ReadFault ≢ status.TooLong
read_in_time same = cc

done_in_time : status.Done ≢ status.TooLong
done_in_time same = cc

fault_in_time : status.StoreFault ≢ status.TooLong
fault_in_time same = cc

full_in_time : status.StoreFull ≢ status.TooLong
full_in_time same = cc

-- memory runs out before anything is said
pub ends_memory : {D : Type 0} (seen : D → Option (List ℕ)) (may_leave : D → List ℕ → Type 0) (moment : D → ℕ) (left_since : D → ℕ → List ℕ → Type 0) (rows : List Row) (header : Script) (taken : List (List ℕ)) (waiting : List ℕ)
    (number : ℕ) (state : Standing) (journal after : JournalState D) (old new : Option (List Turn)) → new ≡ old
    → ((from : D) (reserved : List ℕ) (at : Course) → StandsAfter seen may_leave moment left_since (setting_of rows header) from reserved at [] number state journal → Covers seen may_leave moment left_since rows from reserved at.early after)
    → EndsServing seen may_leave moment left_since rows header taken waiting number state journal status.NoMemory after.disk old new
ends_memory seen may_leave moment left_since rows header taken waiting number state journal after old new same covers = λ from reserved first start turns took serving. (
  turns ++ map Said [],
  turns_more start old new turns [] took (turns_none old new same),
  ends_still seen may_leave moment left_since rows header from reserved first taken waiting number state journal turns [] status.NoMemory after.disk [] serving tt refl refl refl
      (left_covers seen may_leave moment left_since rows from reserved serving.at after (covers from reserved serving.at serving.on)) (λ is. absurd (memory_in_time is)),
)

-- what a journal reserves covers what was released
pub own_covers : {D : Type 0} (seen : D → Option (List ℕ)) (may_leave : D → List ℕ → Type 0) (moment : D → ℕ) (left_since : D → ℕ → List ℕ → Type 0) (rows : List Row) (header : Script) (number : ℕ) (state : Standing) (journal : JournalState D)
    (from : D) (reserved : List ℕ) (at : Course) → StandsAfter seen may_leave moment left_since (setting_of rows header) from reserved at [] number state journal → Covers seen may_leave moment left_since rows from reserved at.early journal
own_covers seen may_leave moment left_since rows header number state journal from reserved at on = covers_of seen may_leave moment left_since rows from reserved at journal on.reserves

-- the reply to a block that served nothing fails
ends_refused : {D : Type 0} (seen : D → Option (List ℕ)) (may_leave : D → List ℕ → Type 0) (moment : D → ℕ) (left_since : D → ℕ → List ℕ → Type 0) (rows : List Row) (header : Script) (waiting : List ℕ) (a : Answer)
    (number : ℕ) (state : Standing) (journal : JournalState D) (old new : Option (List Turn)) → IsAnswer rows header a → a.parts ≡ [] → a.records ≡ [] → SaysFront old new a.reply
    → EndsServing seen may_leave moment left_since rows header (a.block ∷ []) waiting number state journal status.WriteFault journal.disk old new
ends_refused seen may_leave moment left_since rows header waiting a number state journal old new is no_parts no_records says = λ from reserved first start turns took serving.
    let set = setting_of rows header in
    let pieces = says.said.pieces in (
      turns ++ map Said pieces,
      turns_more start old new turns (map Said pieces) took says.said.turns,
      ends_answer seen may_leave moment left_since rows header from reserved first waiting a number state journal turns pieces status.WriteFault journal.disk None serving.at serving is tt tt (inl refl) (said_front old new a.reply says)
          (subst (λ (rs : List PartRecord). Leads set None (beginning rows reserved) (parts_in (serving.answers ++ a ∷ [])) rs serving.at) (sym (records_same serving.answers a no_records))
          (subst (λ (ps : List Part). Leads set None (beginning rows reserved) ps (records_in serving.answers) serving.at) (sym (parts_same serving.answers a no_parts)) serving.leads))
          (subst (All PartFits) (sym (records_same serving.answers a no_records)) serving.fits)
          (subst (All (IsKnownPart rows)) (sym (parts_same serving.answers a no_parts)) serving.known)
          (left_at seen may_leave moment left_since rows from reserved serving.at status.WriteFault journal serving.on.reserves write_full) write_in_time,
    )

-- ---- answers

-- what a block asks for that is no longer than it may be
pub asked_short : (rows : List Row) (block : List ℕ) → length block ≤ most_block → asked_of rows block ≡ block_of rows block
asked_short rows block short = rw below refl
  where
    below : nat_lt most_block (length block) ≡ false
    below = grind (arith, nat_tests, short)

-- the answer to a block because of which nothing was served
abbrev pub nothing_served : List ℕ → List ℕ → Answer
nothing_served block reply = record { block = block; parts = []; records = []; reply = reply }

-- to one without a round, to one whose line is wrong, and to one that is too long
pub empty_answer : (rows : List Row) (header : Script) (block : List ℕ) → asked_of rows block ≡ Ok None → IsAnswer rows header (nothing_served block end_line)
empty_answer rows header block is = rw is (refl, refl, refl)

pub refused_answer : (rows : List Row) (header : Script) (block : List ℕ) (line : ℕ) (fault : ScriptWhy) → asked_of rows block ≡ Err (wrong.Line line fault)
    → IsAnswer rows header (nothing_served block (refusal_reply line fault))
refused_answer rows header block line fault is = rw is (refl, refl, refl)

pub long_answer : (rows : List Row) (header : Script) (block : List ℕ) → most_block < length block → IsAnswer rows header (nothing_served block (refusal_reply 0 why.Limit))
long_answer rows header block long = refused_answer rows header block 0 why.Limit (rw above refl)
  where
    above : nat_lt most_block (length block) ≡ true
    above = grind (arith, nat_tests, long)

-- ---- a block turns it

-- a block that serves nothing has its reply
pub answered : {D : Type 0} (seen : D → Option (List ℕ)) (may_leave : D → List ℕ → Type 0) (moment : D → ℕ) (left_since : D → ℕ → List ℕ → Type 0) (rows : List Row) (header : Script) (waiting : List ℕ) (a : Answer)
    (number : ℕ) (state : Standing) (journal : JournalState D) (said : Result (Unit {0}) Refusal) (old new : Option (List Turn)) → IsAnswer rows header a → a.parts ≡ [] → a.records ≡ []
    → OnOk said (Says old new a.reply) → IfErr said (IsSaidUpTo a.reply old new)
    → IsTurned seen may_leave moment left_since rows header (a.block ∷ []) waiting waiting number number state state journal journal (turned_by said true) old new
answered seen may_leave moment left_since rows header waiting a number state journal (Ok done) old new is no_parts no_records says upto = λ from reserved first start turns took serving.
    replies_nothing seen may_leave moment left_since rows header from reserved first waiting a number state journal start old new turns took serving is no_parts no_records says
answered seen may_leave moment left_since rows header waiting a number state journal (Err refused.WriteFault) old new is no_parts no_records says upto =
    ends_refused seen may_leave moment left_since rows header waiting a number state journal old new is no_parts no_records upto
answered seen may_leave moment left_since rows header waiting a number state journal (Err refused.NoMemory) old new is no_parts no_records says upto =
    ends_memory seen may_leave moment left_since rows header (a.block ∷ []) waiting number state journal journal old new upto (own_covers seen may_leave moment left_since rows header number state journal)
answered seen may_leave moment left_since rows header waiting a number state journal (Err refused.Usage) old new is no_parts no_records says upto = absurd upto
answered seen may_leave moment left_since rows header waiting a number state journal (Err (refused.Subscribers row fault)) old new is no_parts no_records says upto = absurd upto
answered seen may_leave moment left_since rows header waiting a number state journal (Err (refused.Scenario line fault)) old new is no_parts no_records says upto = absurd upto
answered seen may_leave moment left_since rows header waiting a number state journal (Err refused.ReadFault) old new is no_parts no_records says upto = absurd upto
answered seen may_leave moment left_since rows header waiting a number state journal (Err refused.StoreFault) old new is no_parts no_records says upto = absurd upto
answered seen may_leave moment left_since rows header waiting a number state journal (Err (refused.NotJournal place)) old new is no_parts no_records says upto = absurd upto
answered seen may_leave moment left_since rows header waiting a number state journal (Err refused.StoreFull) old new is no_parts no_records says upto = absurd upto
answered seen may_leave moment left_since rows header waiting a number state journal (Err refused.TooLong) old new is no_parts no_records says upto = absurd upto

-- a service ends in a round that was served
ends_round : {D : Type 0} (seen : D → Option (List ℕ)) (may_leave : D → List ℕ → Type 0) (moment : D → ℕ) (left_since : D → ℕ → List ℕ → Type 0) (rows : List Row) (header : Script) (waiting block text : List ℕ) (jobs : List (List Line))
    (number : ℕ) (state next : Standing) (journal after : JournalState D) (stop : Option Stop) (ended : Status) (pieces : List (List ℕ)) (old new : Option (List Turn))
    → asked_of rows block ≡ Ok (Some jobs) → IsKnownPart rows (Round jobs) → MakesRound seen may_leave moment left_since (setting_of rows header) header.full number state journal jobs stop next after [] text
    → Turns old new (map Said pieces) → IsSaid ended (concat pieces) (text ++ end_line)
    → ((left : List (List ℕ)) → LeavesNone ended left) → IsServiceStop ended stop → ((left : List ℕ) → IsLastReply ended left []) → (ended ≡ status.StoreFull → stop ≡ Some Full) → ended ≢ status.TooLong
    → EndsServing seen may_leave moment left_since rows header (block ∷ []) waiting number state journal ended after.disk old new
ends_round {D} seen may_leave moment left_since rows header waiting block text jobs number state next journal after stop ended pieces old new asked known makes said is_said none stopped last full in_time = λ from reserved first start turns took serving.
    let set = setting_of rows header in
    let round = makes.round in
    let made = record_of.Round round in
    let leads = makes.leads from reserved serving.at [] serving.on (inr (asked_quiet rows block jobs asked)) in
    let a : Answer = record { block = block; parts = Round jobs ∷ []; records = made ∷ []; reply = round_text set header.full round ++ end_line } in
    let is : IsAnswer rows header a = rw asked (round, refl, refl, refl) in
    let all = leads_more set stop (beginning rows reserved) (parts_in serving.answers) (records_in serving.answers) serving.at (Round jobs) made leads.next serving.leads leads.served in (
      turns ++ map Said pieces,
      turns_more start old new turns (map Said pieces) took said,
      ends_answer seen may_leave moment left_since rows header from reserved first waiting a number state journal turns pieces ended after.disk stop leads.next serving is (none (blocks_in waiting).whole) stopped (last (blocks_in waiting).left)
          (subst (λ (t : List ℕ). IsSaid ended (concat pieces) (t ++ end_line)) makes.is_text is_said)
          (subst (λ (rs : List PartRecord). Leads set stop (beginning rows reserved) (parts_in (serving.answers ++ a ∷ [])) rs leads.next) (sym (records_round serving.answers a made refl))
          (subst (λ (ps : List Part). Leads set stop (beginning rows reserved) ps (records_in serving.answers ++ made ∷ []) leads.next) (sym (parts_round serving.answers a (Round jobs) refl)) all))
          (subst (All PartFits) (sym (records_round serving.answers a made refl)) (All-push PartFits (records_in serving.answers) made serving.fits makes.fits))
          (subst (All (IsKnownPart rows)) (sym (parts_round serving.answers a (Round jobs) refl)) (All-push (IsKnownPart rows) (parts_in serving.answers) (Round jobs) serving.known known))
          (left_reserves seen may_leave moment left_since rows from reserved leads.next ended after leads.reserves
          (λ is_full. let is_stop = full is_full in full_journal seen may_leave moment left_since set from reserved leads.next after leads.reserves (ready_if after.failed stop makes.failed (full_no_fault stop is_stop)) (makes.no_room is_stop))) in_time,
    )
  where
    full_no_fault : (stop : Option Stop) → stop ≡ Some Full → stop ≢ Some Fault
    full_no_fault stop is same = apart (sym is ∙ same)
      where
        apart : Some Full ≡ Some Fault → ⊥
        apart same = cc

-- a block whose round was served has its reply
pub served : {D : Type 0} (seen : D → Option (List ℕ)) (may_leave : D → List ℕ → Type 0) (moment : D → ℕ) (left_since : D → ℕ → List ℕ → Type 0) (rows : List Row) (header : Script) (waiting block text : List ℕ) (jobs : List (List Line))
    (number : ℕ) (state next later : Standing) (journal after : JournalState D) (stop : Option Stop) (said : Result (Unit {0}) Refusal) (old new : Option (List Turn))
    → asked_of rows block ≡ Ok (Some jobs) → IsKnownPart rows (Round jobs) → MakesRound seen may_leave moment left_since (setting_of rows header) header.full number state journal jobs stop next after [] text → Forgets next later
    → OnOk said (Says old new (text ++ end_line)) → IfErr said (IsSaidUpTo (text ++ end_line) old new)
    → IsTurned seen may_leave moment left_since rows header (block ∷ []) waiting waiting number (number + 1) state later journal after (turned_by (round_answer said stop) true) old new
served seen may_leave moment left_since rows header waiting block text jobs number state next later journal after None (Ok done) old new asked known makes forgets says upto = λ from reserved first start turns took serving.
    replies_round seen may_leave moment left_since rows header from reserved first waiting block text jobs number state next later journal after start old new turns took serving asked known makes forgets says
served seen may_leave moment left_since rows header waiting block text jobs number state next later journal after (Some Fault) (Ok done) old new asked known makes forgets says upto =
    ends_round seen may_leave moment left_since rows header waiting block text jobs number state next journal after (Some Fault) status.StoreFault says.pieces old new asked known makes says.turns says.whole (λ left. tt) refl (λ left. refl) (λ is. absurd (apart is)) fault_in_time
  where
    apart : status.StoreFault ≡ status.StoreFull → ⊥
    apart same = cc
served seen may_leave moment left_since rows header waiting block text jobs number state next later journal after (Some Full) (Ok done) old new asked known makes forgets says upto =
    ends_round seen may_leave moment left_since rows header waiting block text jobs number state next journal after (Some Full) status.StoreFull says.pieces old new asked known makes says.turns says.whole (λ left. tt) refl (λ left. refl) (λ is. refl) full_in_time
served seen may_leave moment left_since rows header waiting block text jobs number state next later journal after stop (Err refused.WriteFault) old new asked known makes forgets says upto =
    ends_round seen may_leave moment left_since rows header waiting block text jobs number state next journal after stop status.WriteFault upto.said.pieces old new asked known makes upto.said.turns (said_front old new (text ++ end_line) upto)
    (λ left. tt) tt (λ left. inl refl) (λ is. absurd (write_full is)) write_in_time
served {D} seen may_leave moment left_since rows header waiting block text jobs number state next later journal after stop (Err refused.NoMemory) old new asked known makes forgets says upto =
    ends_memory seen may_leave moment left_since rows header (block ∷ []) waiting number state journal after old new upto
    (λ from reserved at on. let leads = makes.leads from reserved at [] on (inr (asked_quiet rows block jobs asked)) in covers_before seen may_leave moment left_since rows from reserved at.early (all_lines makes.round.jobs) leads.next after leads.early leads.reserves)
served seen may_leave moment left_since rows header waiting block text jobs number state next later journal after stop (Err refused.Usage) old new asked known makes forgets says upto = absurd upto
served seen may_leave moment left_since rows header waiting block text jobs number state next later journal after stop (Err (refused.Subscribers row fault)) old new asked known makes forgets says upto = absurd upto
served seen may_leave moment left_since rows header waiting block text jobs number state next later journal after stop (Err (refused.Scenario line fault)) old new asked known makes forgets says upto = absurd upto
served seen may_leave moment left_since rows header waiting block text jobs number state next later journal after stop (Err refused.ReadFault) old new asked known makes forgets says upto = absurd upto
served seen may_leave moment left_since rows header waiting block text jobs number state next later journal after stop (Err refused.StoreFault) old new asked known makes forgets says upto = absurd upto
served seen may_leave moment left_since rows header waiting block text jobs number state next later journal after stop (Err (refused.NotJournal place)) old new asked known makes forgets says upto = absurd upto
served seen may_leave moment left_since rows header waiting block text jobs number state next later journal after stop (Err refused.StoreFull) old new asked known makes forgets says upto = absurd upto
served seen may_leave moment left_since rows header waiting block text jobs number state next later journal after stop (Err refused.TooLong) old new asked known makes forgets says upto = absurd upto

-- ---- which refusal it was

-- the next block is heard, unless it is refused
pub turned_true : (said : Result (Unit {0}) Refusal) → IfOk (turned_by said true) (λ more. more ≡ true)
turned_true (Ok done) = refl
turned_true (Err refusal) = tt

-- a round ends a service only so
pub round_stops : (said : Result (Unit {0}) Refusal) (stop : Option Stop) (text : List ℕ) (old new : Option (List Turn)) → IfErr said (IsSaidUpTo text old new) → IfErr (turned_by (round_answer said stop) true) RoundsStop
round_stops (Ok done) None text old new upto = tt
round_stops (Ok done) (Some Fault) text old new upto = tt
round_stops (Ok done) (Some Full) text old new upto = tt
round_stops (Err refused.WriteFault) stop text old new upto = tt
round_stops (Err refused.NoMemory) stop text old new upto = tt
round_stops (Err refused.Usage) stop text old new upto = absurd upto
round_stops (Err (refused.Subscribers row fault)) stop text old new upto = absurd upto
round_stops (Err (refused.Scenario line fault)) stop text old new upto = absurd upto
round_stops (Err refused.ReadFault) stop text old new upto = absurd upto
round_stops (Err refused.StoreFault) stop text old new upto = absurd upto
round_stops (Err (refused.NotJournal place)) stop text old new upto = absurd upto
round_stops (Err refused.StoreFull) stop text old new upto = absurd upto
round_stops (Err refused.TooLong) stop text old new upto = absurd upto

-- a failed reply ends it so
pub round_said : (said : Result (Unit {0}) Refusal) (stop : Option Stop) → turned_by (round_answer said stop) true ≡ Err refused.WriteFault → said ≡ Err refused.WriteFault
round_said (Ok done) None is = cc
round_said (Ok done) (Some Fault) is = cc
round_said (Ok done) (Some Full) is = cc
round_said (Err refusal) stop is = cc

-- and a failed call of the disk
pub round_fault : (said : Result (Unit {0}) Refusal) (stop : Option Stop) (text : List ℕ) (old new : Option (List Turn)) → IfErr said (IsSaidUpTo text old new) → turned_by (round_answer said stop) true ≡ Err refused.StoreFault
    → stop ≡ Some Fault
round_fault (Ok done) None text old new upto is = cc
round_fault (Ok done) (Some Fault) text old new upto is = refl
round_fault (Ok done) (Some Full) text old new upto is = cc
round_fault (Err refused.StoreFault) stop text old new upto is = absurd upto
round_fault (Err refused.WriteFault) stop text old new upto is = cc
round_fault (Err refused.NoMemory) stop text old new upto is = cc
round_fault (Err refused.Usage) stop text old new upto is = absurd upto
round_fault (Err (refused.Subscribers row fault)) stop text old new upto is = absurd upto
round_fault (Err (refused.Scenario line fault)) stop text old new upto is = absurd upto
round_fault (Err refused.ReadFault) stop text old new upto is = absurd upto
round_fault (Err (refused.NotJournal place)) stop text old new upto is = absurd upto
round_fault (Err refused.StoreFull) stop text old new upto is = absurd upto
round_fault (Err refused.TooLong) stop text old new upto is = absurd upto

-- if it ends otherwise, no call of the disk failed
pub round_quiet : (said : Result (Unit {0}) Refusal) (stop : Option Stop) (text : List ℕ) (old new : Option (List Turn)) → IfErr said (IsSaidUpTo text old new)
    → IsQuiet (status_in (turned_by (round_answer said stop) true)) → stop ≢ Some Fault
round_quiet (Ok done) None text old new upto quiet is = cc is
round_quiet (Ok done) (Some Fault) text old new upto quiet is = quiet
round_quiet (Ok done) (Some Full) text old new upto quiet is = cc is
round_quiet (Err refused.WriteFault) stop text old new upto quiet is = quiet
round_quiet (Err refused.NoMemory) stop text old new upto quiet is = quiet
round_quiet (Err refused.StoreFault) stop text old new upto quiet is = quiet
round_quiet (Err refused.Usage) stop text old new upto quiet is = absurd upto
round_quiet (Err (refused.Subscribers row why)) stop text old new upto quiet is = absurd upto
round_quiet (Err (refused.Scenario line why)) stop text old new upto quiet is = absurd upto
round_quiet (Err refused.ReadFault) stop text old new upto quiet is = absurd upto
round_quiet (Err (refused.NotJournal place)) stop text old new upto quiet is = absurd upto
round_quiet (Err refused.StoreFull) stop text old new upto quiet is = absurd upto
round_quiet (Err refused.TooLong) stop text old new upto quiet is = absurd upto

-- ---- the input ends, or a block isn't heard

-- the reply to what is left at the end of the input
pub ended : {D : Type 0} (seen : D → Option (List ℕ)) (may_leave : D → List ℕ → Type 0) (moment : D → ℕ) (left_since : D → ℕ → List ℕ → Type 0) (rows : List Row) (header : Script) (text waits : List ℕ)
    (number : ℕ) (state : Standing) (journal : JournalState D) (said : Result (Unit {0}) Refusal) (old new : Option (List Turn)) → EachBlockIsSplitOff → first_block text ≡ None
    → OnOk said (Says old new (reply_to_rest text)) → IfErr said (IsSaidUpTo (reply_to_rest text) old new)
    → IsTurned seen may_leave moment left_since rows header [] text waits number number state state journal journal (turned_by said false) old new
ended seen may_leave moment left_since rows header text waits number state journal (Ok done) old new split none says upto = λ from reserved first start turns took serving.
    let all = none_waits split text none in (
      turns ++ map Said says.pieces,
      turns_more start old new turns (map Said says.pieces) took says.turns,
      ends_still seen may_leave moment left_since rows header from reserved first [] text number state journal turns says.pieces status.Done journal.disk (reply_to_rest text) serving
          (ap (λ (b : Blocks). b.whole) all) refl (ap (λ (b : Blocks). reply_to_rest b.left) (sym all)) says.whole
          (left_at seen may_leave moment left_since rows from reserved serving.at status.Done journal serving.on.reserves done_full) (λ is. absurd (done_in_time is)),
    )
ended seen may_leave moment left_since rows header text waits number state journal (Err refused.WriteFault) old new split none says upto = λ from reserved first start turns took serving.
    let all = none_waits split text none in (
      turns ++ map Said upto.said.pieces,
      turns_more start old new turns (map Said upto.said.pieces) took upto.said.turns,
      ends_still seen may_leave moment left_since rows header from reserved first [] text number state journal turns upto.said.pieces status.WriteFault journal.disk (reply_to_rest text) serving
          tt tt (inr (ap (λ (b : Blocks). reply_to_rest b.left) (sym all))) (said_front old new (reply_to_rest text) upto)
          (left_at seen may_leave moment left_since rows from reserved serving.at status.WriteFault journal serving.on.reserves write_full) (λ is. absurd (write_in_time is)),
    )
ended seen may_leave moment left_since rows header text waits number state journal (Err refused.NoMemory) old new split none says upto =
    ends_memory seen may_leave moment left_since rows header [] text number state journal journal old new upto (own_covers seen may_leave moment left_since rows header number state journal)
ended seen may_leave moment left_since rows header text waits number state journal (Err refused.Usage) old new split none says upto = absurd upto
ended seen may_leave moment left_since rows header text waits number state journal (Err (refused.Subscribers row fault)) old new split none says upto = absurd upto
ended seen may_leave moment left_since rows header text waits number state journal (Err (refused.Scenario line fault)) old new split none says upto = absurd upto
ended seen may_leave moment left_since rows header text waits number state journal (Err refused.ReadFault) old new split none says upto = absurd upto
ended seen may_leave moment left_since rows header text waits number state journal (Err refused.StoreFault) old new split none says upto = absurd upto
ended seen may_leave moment left_since rows header text waits number state journal (Err (refused.NotJournal place)) old new split none says upto = absurd upto
ended seen may_leave moment left_since rows header text waits number state journal (Err refused.StoreFull) old new split none says upto = absurd upto
ended seen may_leave moment left_since rows header text waits number state journal (Err refused.TooLong) old new split none says upto = absurd upto

-- what is left of a block that is too long has the reply of its line 0
pub long_rest : (text : List ℕ) → most_block < length text → reply_to_rest text ≡ refusal_reply 0 why.Limit
long_rest [] long = absurd (omega (arith, long))
long_rest (byte ∷ more) long = rw above refl
  where
    above : nat_lt most_block (length (byte ∷ more)) ≡ true
    above = grind (arith, nat_tests, long)

-- nothing is said
ends_silent : {D : Type 0} (seen : D → Option (List ℕ)) (may_leave : D → List ℕ → Type 0) (moment : D → ℕ) (left_since : D → ℕ → List ℕ → Type 0) (rows : List Row) (header : Script) (waiting : List ℕ)
    (number : ℕ) (state : Standing) (journal : JournalState D) (now : Option (List Turn)) (ended : Status) → LeavesNone ended (blocks_in waiting).whole → IsServiceStop ended None
    → IsLastReply ended (blocks_in waiting).left [] → IsSaid ended [] [] → ended ≢ status.StoreFull
    → ((count : ℕ) → ended ≡ status.TooLong → IsLate count (blocks_in waiting).left)
    → EndsServing seen may_leave moment left_since rows header [] waiting number state journal ended journal.disk now now
ends_silent seen may_leave moment left_since rows header waiting number state journal now ended none stopped last said other late = λ from reserved first start turns took serving. (
  turns ++ map Said [],
  turns_more start now now turns [] took (turns_none now now refl),
  ends_still seen may_leave moment left_since rows header from reserved first [] waiting number state journal turns [] ended journal.disk [] serving none stopped last said
      (left_at seen may_leave moment left_since rows from reserved serving.at ended journal serving.on.reserves other) (late (length serving.answers)),
)

-- a block isn't heard
pub troubled : {D : Type 0} (seen : D → Option (List ℕ)) (may_leave : D → List ℕ → Type 0) (moment : D → ℕ) (left_since : D → ℕ → List ℕ → Type 0) (rows : List Row) (header : Script) (text waits : List ℕ)
    (number : ℕ) (state : Standing) (journal : JournalState D) (why : Trouble) (now : Option (List Turn)) → EachBlockIsSplitOff → (before later : ℕ) → IsTrouble why text before later → HasNoBlock why text
    → IsTurned seen may_leave moment left_since rows header [] text waits number number state state journal journal (turned_by (Err (trouble_refusal why)) false) now now
troubled seen may_leave moment left_since rows header text waits number state journal trouble.Failed now split before later is none =
    ends_silent seen may_leave moment left_since rows header text number state journal now status.ReadFault (ap (λ (b : Blocks). b.whole) (none_waits split text none)) refl refl refl read_full (λ count is. absurd (read_in_time is))
troubled seen may_leave moment left_since rows header text waits number state journal trouble.NoMemory now split before later is none =
    ends_silent seen may_leave moment left_since rows header text number state journal now status.NoMemory tt refl refl refl memory_full (λ count is. absurd (memory_in_time is))
troubled seen may_leave moment left_since rows header text waits number state journal trouble.Endless now split before later is none =
    ends_silent seen may_leave moment left_since rows header text number state journal now status.TooLong tt refl refl refl long_full
    (λ count late. inr (subst (λ (rest : List ℕ). 2 ^ 64 - 1 ≤ length rest) (sym (ap (λ (b : Blocks). b.left) (none_waits split text none))) is.1))

-- ---- what was heard before

-- pieces were heard
pub turned_heard : {D : Type 0} (seen : D → Option (List ℕ)) (may_leave : D → List ℕ → Type 0) (moment : D → ℕ) (left_since : D → ℕ → List ℕ → Type 0) (rows : List Row) (header : Script) (waiting text waits : List ℕ)
    (number later : ℕ) (state next : Standing) (journal after : JournalState D) (result : Result Bool Refusal) (old mid new : Option (List Turn)) → EachBlockIsSplitOff → EarlierBlocksStand
    → IsHeard old mid waiting text → IsTurned seen may_leave moment left_since rows header [] text waits number later state next journal after result mid new
    → IsTurned seen may_leave moment left_since rows header [] waiting waits number later state next journal after result old new
turned_heard seen may_leave moment left_since rows header waiting text waits number later state next journal after (Ok true) old mid new split stand is turned = λ from reserved first start turns took serving.
    let heard = hears seen may_leave moment left_since rows header from reserved first waiting text number state journal start old mid turns split stand took serving is in
    let goes = turned from reserved first start heard.0 heard.1 heard.2 in
    (goes.0, goes.1, goes.2, goes.3 ∙ ap (λ (n : ℕ). 1 + n) heard.3)
turned_heard seen may_leave moment left_since rows header waiting text waits number later state next journal after (Ok false) old mid new split stand is turned = λ from reserved first start turns took serving.
    let heard = hears seen may_leave moment left_since rows header from reserved first waiting text number state journal start old mid turns split stand took serving is in
    turned from reserved first start heard.0 heard.1 heard.2
turned_heard seen may_leave moment left_since rows header waiting text waits number later state next journal after (Err refusal) old mid new split stand is turned = λ from reserved first start turns took serving.
    let heard = hears seen may_leave moment left_since rows header from reserved first waiting text number state journal start old mid turns split stand took serving is in
    turned from reserved first start heard.0 heard.1 heard.2

-- and the first whole block was taken
pub turned_taken : {D : Type 0} (seen : D → Option (List ℕ)) (may_leave : D → List ℕ → Type 0) (moment : D → ℕ) (left_since : D → ℕ → List ℕ → Type 0) (rows : List Row) (header : Script) (text block waits : List ℕ)
    (number later : ℕ) (state next : Standing) (journal after : JournalState D) (result : Result Bool Refusal) (old new : Option (List Turn)) → EachBlockIsSplitOff
    → first_block text ≡ Some (block, waits) → IsTurned seen may_leave moment left_since rows header (block ∷ []) waits waits number later state next journal after result old new
    → IsTurned seen may_leave moment left_since rows header [] text waits number later state next journal after result old new
turned_taken seen may_leave moment left_since rows header text block waits number later state next journal after (Ok true) old new split found turned = λ from reserved first start turns took serving.
    let goes = turned from reserved first start turns took (takes seen may_leave moment left_since rows header from reserved first text block waits number state journal turns split serving found) in
    (goes.0, goes.1, goes.2, goes.3 ∙ ap (λ (n : ℕ). 1 + n) (takes_count seen may_leave moment left_since rows header from reserved first text block waits number state journal turns split serving found))
turned_taken seen may_leave moment left_since rows header text block waits number later state next journal after (Ok false) old new split found turned = λ from reserved first start turns took serving.
    turned from reserved first start turns took (takes seen may_leave moment left_since rows header from reserved first text block waits number state journal turns split serving found)
turned_taken seen may_leave moment left_since rows header text block waits number later state next journal after (Err refusal) old new split found turned = λ from reserved first start turns took serving.
    turned from reserved first start turns took (takes seen may_leave moment left_since rows header from reserved first text block waits number state journal turns split serving found)

-- ---- block after block

-- where a service begins
pub goes_same : {D : Type 0} (seen : D → Option (List ℕ)) (may_leave : D → List ℕ → Type 0) (moment : D → ℕ) (left_since : D → ℕ → List ℕ → Type 0) (rows : List Row) (header : Script) (waiting : List ℕ) (number : ℕ) (state : Standing) (journal : JournalState D)
    (now : Option (List Turn)) → GoesOnServing seen may_leave moment left_since rows header [] waiting waiting number number state state journal journal 0 now now
goes_same seen may_leave moment left_since rows header waiting number state journal now = λ from reserved first start turns took serving. (turns, took, serving, omega arith)

-- and one block more
pub goes_more : {D : Type 0} (seen : D → Option (List ℕ)) (may_leave : D → List ℕ → Type 0) (moment : D → ℕ) (left_since : D → ℕ → List ℕ → Type 0) (rows : List Row) (header : Script) (waiting mid waits : List ℕ) (number middle later : ℕ) (state between next : Standing)
    (journal present after : JournalState D) (count : ℕ) (old now new : Option (List Turn))
    → GoesOnServing seen may_leave moment left_since rows header [] waiting mid number middle state between journal present count old now
    → GoesOnServing seen may_leave moment left_since rows header [] mid waits middle later between next present after 1 now new
    → GoesOnServing seen may_leave moment left_since rows header [] waiting waits number later state next journal after (count + 1) old new
goes_more seen may_leave moment left_since rows header waiting mid waits number middle later state between next journal present after count old now new first second = λ from reserved block start turns took serving.
    let one = first from reserved block start turns took serving in
    let two = second from reserved block start one.0 one.1 one.2 in
    let earlier = one.3 in
    let further = two.3 in
    (two.0, two.1, two.2, omega (arith, earlier, further))

-- and it ends
pub ends_more : {D : Type 0} (seen : D → Option (List ℕ)) (may_leave : D → List ℕ → Type 0) (moment : D → ℕ) (left_since : D → ℕ → List ℕ → Type 0) (rows : List Row) (header : Script) (waiting mid : List ℕ) (number middle : ℕ) (state between : Standing)
    (journal present : JournalState D) (ended : Status) (disk : D) (count : ℕ) (old now new : Option (List Turn))
    → GoesOnServing seen may_leave moment left_since rows header [] waiting mid number middle state between journal present count old now
    → EndsServing seen may_leave moment left_since rows header [] mid middle between present ended disk now new
    → EndsServing seen may_leave moment left_since rows header [] waiting number state journal ended disk old new
ends_more seen may_leave moment left_since rows header waiting mid number middle state between journal present ended disk count old now new first second = λ from reserved block start turns took serving.
    let one = first from reserved block start turns took serving in
    second from reserved block start one.0 one.1 one.2

-- it serves at each block
pub serves_any : {D : Type 0} (seen : D → Option (List ℕ)) (may_leave : D → List ℕ → Type 0) (moment : D → ℕ) (left_since : D → ℕ → List ℕ → Type 0) (rows : List Row) (header : Script) (waiting mid : List ℕ) (number middle : ℕ) (state between : Standing)
    (journal present : JournalState D) (count : ℕ) (old now : Option (List Turn))
    → IsServingAny seen may_leave moment left_since rows header [] waiting number state journal old
    → GoesOnServing seen may_leave moment left_since rows header [] waiting mid number middle state between journal present count old now
    → IsServingAny seen may_leave moment left_since rows header [] mid middle between present now
serves_any seen may_leave moment left_since rows header waiting mid number middle state between journal present count old now (from, reserved, block, start, turns, took, serving) goes =
    let one = goes from reserved block start turns took serving in
    (from, reserved, block, start, one.0, one.1, one.2)

-- it hears no more after so many blocks
pub ends_late : {D : Type 0} (seen : D → Option (List ℕ)) (may_leave : D → List ℕ → Type 0) (moment : D → ℕ) (left_since : D → ℕ → List ℕ → Type 0) (rows : List Row) (header : Script) (waiting mid : List ℕ) (number middle : ℕ) (state between : Standing)
    (journal present : JournalState D) (count : ℕ) (old now : Option (List Turn)) → most_blocks ≤ count
    → GoesOnServing seen may_leave moment left_since rows header [] waiting mid number middle state between journal present count old now
    → EndsServing seen may_leave moment left_since rows header [] waiting number state journal status.TooLong present.disk old now
ends_late seen may_leave moment left_since rows header waiting mid number middle state between journal present count old now many goes = λ from reserved block start turns took serving.
    let one = goes from reserved block start turns took serving in
    let counted = one.3 in (
      one.0 ++ map Said [],
      turns_more start now now one.0 [] one.1 (turns_none now now refl),
      ends_still seen may_leave moment left_since rows header from reserved block [] mid middle between present one.0 [] status.TooLong present.disk [] one.2 tt refl refl refl
          (left_at seen may_leave moment left_since rows from reserved one.2.at status.TooLong present one.2.on.reserves long_full) (λ is. inl (omega (arith, many, counted))),
    )

-- and takes a block that was heard
pub serves_block : {D : Type 0} (seen : D → Option (List ℕ)) (may_leave : D → List ℕ → Type 0) (moment : D → ℕ) (left_since : D → ℕ → List ℕ → Type 0) (rows : List Row) (header : Script) (waiting text block rest : List ℕ) (number : ℕ) (state : Standing) (journal : JournalState D)
    (old now : Option (List Turn)) → EachBlockIsSplitOff → EarlierBlocksStand → IsServingAny seen may_leave moment left_since rows header [] waiting number state journal old → IsHeard old now waiting text
    → first_block text ≡ Some (block, rest) → IsServingAny seen may_leave moment left_since rows header (block ∷ []) rest number state journal now
serves_block seen may_leave moment left_since rows header waiting text block rest number state journal old now split stand (from, reserved, first, start, turns, took, serving) is found =
    let heard = hears seen may_leave moment left_since rows header from reserved first waiting text number state journal start old now turns split stand took serving is in
    (from, reserved, first, start, heard.0, heard.1, takes seen may_leave moment left_since rows header from reserved first text block rest number state journal heard.0 split heard.2 found)

-- ---- by the answer of a block

-- the next one is heard
pub turned_goes : {D : Type 0} (seen : D → Option (List ℕ)) (may_leave : D → List ℕ → Type 0) (moment : D → ℕ) (left_since : D → ℕ → List ℕ → Type 0) (rows : List Row) (header : Script) (taken : List (List ℕ)) (waiting waits : List ℕ) (number later : ℕ) (state next : Standing)
    (journal after : JournalState D) (result : Result Bool Refusal) (old new : Option (List Turn)) → result ≡ Ok true → IsTurned seen may_leave moment left_since rows header taken waiting waits number later state next journal after result old new
    → GoesOnServing seen may_leave moment left_since rows header taken waiting waits number later state next journal after 1 old new
turned_goes seen may_leave moment left_since rows header taken waiting waits number later state next journal after result old new is turned =
    subst (λ (r : Result Bool Refusal). IsTurned seen may_leave moment left_since rows header taken waiting waits number later state next journal after r old new) is turned

-- the input ended
pub turned_stops : {D : Type 0} (seen : D → Option (List ℕ)) (may_leave : D → List ℕ → Type 0) (moment : D → ℕ) (left_since : D → ℕ → List ℕ → Type 0) (rows : List Row) (header : Script) (taken : List (List ℕ)) (waiting waits : List ℕ) (number later : ℕ) (state next : Standing)
    (journal after : JournalState D) (result : Result Bool Refusal) (old new : Option (List Turn)) → result ≡ Ok false → IsTurned seen may_leave moment left_since rows header taken waiting waits number later state next journal after result old new
    → EndsServing seen may_leave moment left_since rows header taken waiting number state journal status.Done after.disk old new
turned_stops seen may_leave moment left_since rows header taken waiting waits number later state next journal after result old new is turned =
    subst (λ (r : Result Bool Refusal). IsTurned seen may_leave moment left_since rows header taken waiting waits number later state next journal after r old new) is turned

-- it is refused
pub turned_refused : {D : Type 0} (seen : D → Option (List ℕ)) (may_leave : D → List ℕ → Type 0) (moment : D → ℕ) (left_since : D → ℕ → List ℕ → Type 0) (rows : List Row) (header : Script) (taken : List (List ℕ)) (waiting waits : List ℕ) (number later : ℕ) (state next : Standing)
    (journal after : JournalState D) (result : Result Bool Refusal) (refusal : Refusal) (old new : Option (List Turn)) → result ≡ Err refusal → IsTurned seen may_leave moment left_since rows header taken waiting waits number later state next journal after result old new
    → EndsServing seen may_leave moment left_since rows header taken waiting number state journal (status_of refusal) after.disk old new
turned_refused seen may_leave moment left_since rows header taken waiting waits number later state next journal after result refusal old new is turned =
    subst (λ (r : Result Bool Refusal). IsTurned seen may_leave moment left_since rows header taken waiting waits number later state next journal after r old new) is turned
