-- For the top call of a service: its header, what it served, and how its refusal was told.
use Rattle.std.proofs.Common.{◌≡◌, ◌⊎◌, ℕ, ◌<◌, ◌≤◌, List, [], ◌∷◌, ◌++◌, length, map, Option, None, Result, Ok, Err, inl, inr, refl, sym, ◌∙◌, ap, subst, append-nil}
use Rattle.std.specs.Prelude.{slice_index}
use Rattle.std.specs.List.{concat}
use Rattle.std.proofs.lemmas.List.Elements.{All-nil}
use Rattle.auc_block.specs.Block.{Blocks, blocks_in}
use Rattle.auc_block.specs.Turns.{Says, SaysFront, Turns}
use Rattle.auc_block.specs.declared.turn.Turn.{Turn}
use Rattle.auc_block.specs.declared.turn.Turn.TheVariants.{Said}
use Rattle.auc_edge.specs.Shelf.{File}
use Rattle.auc_jobs.specs.State.{Standing, StandsAt}
use Rattle.auc_journal.specs.Journal.{JournalState, limits_of}
use Rattle.auc_print.specs.OneText.{PartFits}
use Rattle.auc_script.specs.declared.script.Script.{Script}
use Rattle.auc_sqn.specs.Number.{max_seq}
use Rattle.auc_subs.specs.declared.row.Row.{Row}
use Rattle.auc_world.specs.Limits.{opened}
use Rattle.auc_world.specs.Start.{fresh_kept}
use Rattle.auc_world.specs.Transcript.{beginning}
use Rattle.auc_input.specs.Opening.{limits_in, Begins, JournalStops}
use Rattle.auc_run.specs.Crash.{MayHaveLeft, MayLeave, Remembers}
use Rattle.auc_refusal.specs.Refusal.{status_in, line_of, status_of}
use Rattle.auc_refusal.specs.Told.{Tells, SaysTold, IsTold}
use Rattle.auc_run.specs.Inner.{IsKnownPart, Laws}
use Rattle.auc_input.specs.Header.{HearsHeader, IsEarly, TookHeader, IsEarlyCause}
use Rattle.auc_run.specs.InnerService.{EndsReady, EndsServing, IsServing, RunsBlocks, ServesOr}
use Rattle.auc_run.specs.Output.{setting_of, text_of}
use Rattle.auc_refusal.specs.Replies.{ready_reply}
use Rattle.auc_run.specs.Service.{EndsUnserved, IsAnswer, IsSaid, IsServiceStop, ServesBlocks, parts_in, records_in, replies_in}
use Rattle.auc_input.specs.Turns.{heard_in, said_in}
use Rattle.auc_refusal.specs.declared.refusal.Refusal.{Refusal}
use Rattle.auc_refusal.specs.declared.refusal.Refusal.TheVariants as refused
use Rattle.auc_refusal.specs.declared.status.Status.{Status}
use Rattle.auc_refusal.specs.declared.status.Status.TheVariants as status
use Rattle.auc_run.proofs.AlwaysLemmas.{any_time}
use Rattle.auc_run.proofs.KnownLemmas.{Known}
use Rattle.auc_run.proofs.OutcomeLemmas.{is_output, output_told}
use Rattle.auc_input.proofs.Facts.{prompt_of, replied_append, replied_said, turns_more}
use Rattle.auc_run.proofs.ServiceEnds.{left_at, said_front}
use Rattle.auc_run.proofs.ServiceLemmas.{heard_behind, said_behind}
use Rattle.auc_run.proofs.StandLemmas.{begins_stand}

-- the journal wasn't opened
pub early_journal : (told : Option (List File)) (subscribers : Option (List ℕ)) (seen : Option (List ℕ)) (rows : List Row) (header : Script) (waiting : List ℕ) (refusal : Refusal) (old new : Option (List Turn))
    → HearsHeader told subscribers rows header waiting old new → JournalStops seen refusal → IsEarly told subscribers seen refusal old new
early_journal told subscribers seen rows header waiting refused.StoreFault old new hears stop =
    let took = hears.hears.took in record { turns = took.turns; took = took.took; silent = took.silent; cause = tt }
early_journal told subscribers seen rows header waiting (refused.NotJournal place) old new hears stop =
    let took = hears.hears.took in record { turns = took.turns; took = took.took; silent = took.silent; cause = stop }
early_journal told subscribers seen rows header waiting refused.NoMemory old new hears stop =
    let took = hears.hears.took in record { turns = took.turns; took = took.took; silent = took.silent; cause = tt }
early_journal told subscribers seen rows header waiting (refused.Subscribers row fault) old new hears stop = absurd stop
early_journal told subscribers seen rows header waiting (refused.Scenario line fault) old new hears stop = absurd stop
early_journal told subscribers seen rows header waiting refused.Usage old new hears stop = absurd stop
early_journal told subscribers seen rows header waiting refused.ReadFault old new hears stop = absurd stop
early_journal told subscribers seen rows header waiting refused.WriteFault old new hears stop = absurd stop
early_journal told subscribers seen rows header waiting refused.StoreFull old new hears stop = absurd stop
early_journal told subscribers seen rows header waiting refused.TooLong old new hears stop = absurd stop

-- ---- blocks are served

-- the header was answered
pub ready_serves : {D : Type 0} (seen : D → Option (List ℕ)) (may_leave : D → List ℕ → Type 0) (moment : D → ℕ) (left_since : D → ℕ → List ℕ → Type 0) (faults : D → ℕ) (rows : List Row) (header : Script) (from : D) (first waiting : List ℕ) (state : Standing) (journal : JournalState D)
    (start old new : Option (List Turn)) → Begins seen may_leave moment left_since faults rows from journal → state.words ≡ opened rows (limits_of journal) → state.kept ≡ map (λ row. fresh_kept) rows
    → StandsAt (setting_of rows header) [] state → ((sub : ℕ) → sub < length rows → slice_index (limits_of journal) sub ≤ max_seq)
    → TookHeader first waiting start old → Says old new ready_reply
    → (turns : List Turn) × Turns start new turns × IsServing seen may_leave moment left_since rows header from (limits_of journal) first [] waiting 1 state journal turns
ready_serves seen may_leave moment left_since faults rows header from first waiting state journal start old new begins opens kept stands within took says =
    let pieces = says.pieces in (
      took.turns ++ map Said pieces,
      turns_more start old new took.turns (map Said pieces) took.took says.turns,
      record {
        answers = [];
        each = All-nil (IsAnswer rows header);
        heard = rw (heard_behind took.turns pieces) took.heard;
        said = said_behind took.turns pieces ∙ ap (λ (r : List ℕ). r ++ concat pieces) took.silent ∙ says.whole ∙ sym (append-nil ready_reply);
        prompt = replied_append (ready_reply ∷ []) [] [] took.turns (map Said pieces) took.prompt (replied_said (ready_reply ∷ []) (heard_in took.turns) (said_in took.turns) pieces);
        at = beginning rows (limits_of journal);
        leads = (refl, refl);
        fits = All-nil PartFits;
        known = All-nil (IsKnownPart rows);
        on = begins_stand seen may_leave moment left_since faults (setting_of rows header) from state journal begins opens kept stands within;
      },
    )

-- and the service ended
pub ready_runs : {D : Type 0} (seen : D → Option (List ℕ)) (may_leave : D → List ℕ → Type 0) (moment : D → ℕ) (left_since : D → ℕ → List ℕ → Type 0) (faults : D → ℕ) (rows : List Row) (header : Script) (from : D) (first waiting : List ℕ) (state : Standing) (journal : JournalState D)
    (ended : Status) (disk : D) (start old mid new : Option (List Turn)) → Begins seen may_leave moment left_since faults rows from journal → state.words ≡ opened rows (limits_of journal) → state.kept ≡ map (λ row. fresh_kept) rows
    → StandsAt (setting_of rows header) [] state → ((sub : ℕ) → sub < length rows → slice_index (limits_of journal) sub ≤ max_seq)
    → TookHeader first waiting start old → Says old mid ready_reply → EndsServing seen may_leave moment left_since rows header [] waiting 1 state journal ended disk mid new
    → (turns : List Turn) × Turns start new turns × RunsBlocks seen may_leave moment left_since rows header from (limits_of journal) first ended disk turns
ready_runs {D} seen may_leave moment left_since faults rows header from first waiting state journal ended disk start old mid new begins opens kept stands within took says ends =
    let serving = ready_serves seen may_leave moment left_since faults rows header from first waiting state journal start old mid begins opens kept stands within took says in
    ends from (limits_of journal) first start serving.0 serving.1 serving.2

-- the answer to it failed
pub ready_fails : {D : Type 0} (seen : D → Option (List ℕ)) (may_leave : D → List ℕ → Type 0) (moment : D → ℕ) (left_since : D → ℕ → List ℕ → Type 0) (faults : D → ℕ) (rows : List Row) (header : Script) (from : D) (first waiting : List ℕ) (state : Standing) (journal : JournalState D)
    (disk : D) (start old new : Option (List Turn)) → Begins seen may_leave moment left_since faults rows from journal → state.words ≡ opened rows (limits_of journal) → state.kept ≡ map (λ row. fresh_kept) rows
    → StandsAt (setting_of rows header) [] state → ((sub : ℕ) → sub < length rows → slice_index (limits_of journal) sub ≤ max_seq)
    → TookHeader first waiting start old → SaysFront old new ready_reply → disk ≡ journal.disk
    → EndsReady seen may_leave moment left_since rows header from (limits_of journal) first status.WriteFault disk start old new
ready_fails {D} seen may_leave moment left_since faults rows header from first waiting state journal disk start old new begins opens kept stands within took says same =
    let pieces = says.said.pieces in
    let on = begins_stand seen may_leave moment left_since faults (setting_of rows header) from state journal begins opens kept stands within in
    let left = left_at seen may_leave moment left_since rows from (limits_of journal) (beginning rows (limits_of journal)) status.WriteFault journal on.reserves apart in
    subst (λ (d : D). EndsReady seen may_leave moment left_since rows header from (limits_of journal) first status.WriteFault d start old new) (sym same)
    (inl (
      took.turns ++ map Said pieces,
      turns_more start old new took.turns (map Said pieces) took.took says.said.turns,
      record {
        answers = [];
        unanswered = (blocks_in waiting).whole;
        heard = ap (λ (t : List ℕ). (blocks_in t).whole) (heard_behind took.turns pieces) ∙ ap (λ (b : Blocks). b.whole) took.heard;
        none_left = tt;
        each = All-nil (IsAnswer rows header);
        stop = None;
        stopped = tt;
        end = beginning rows (limits_of journal);
        leads = (refl, refl);
        fits = All-nil PartFits;
        known = All-nil (IsKnownPart rows);
        last = [];
        is_last = inl refl;
        said = subst (λ (s : List ℕ). IsSaid status.WriteFault s ((ready_reply ++ []) ++ [])) (sym (said_behind took.turns pieces ∙ ap (λ (r : List ℕ). r ++ concat pieces) took.silent))
            (subst (λ (t : List ℕ). IsSaid status.WriteFault (concat pieces) t) (sym (append-nil (ready_reply ++ []) ∙ append-nil ready_reply)) (said_front old new ready_reply says));
        prompt = replied_append (ready_reply ∷ []) [] [] took.turns (map Said pieces) took.prompt (replied_said (ready_reply ∷ []) (heard_in took.turns) (said_in took.turns) pieces);
        kept = left.kept;
        keeps = left.keeps;
        always = left.always;
        full_at = left.full_at;
        late = λ is. absurd (in_time is);
      },
    ))
  where
    apart : status.WriteFault ≡ status.StoreFull → ⊥
    apart same = cc

    in_time : status.WriteFault ≡ status.TooLong → ⊥
    in_time same = cc

-- blocks were served after a header: all that is promised of a run's output holds
serves_blocks : Laws → {D : Type 0} (seen : D → Option (List ℕ)) (may_leave : D → List ℕ → Type 0) (moment : D → ℕ) (left_since : D → ℕ → List ℕ → Type 0) (faults : D → ℕ) (told : Option (List File)) (subscribers : Option (List ℕ)) (rows : List Row) (header : Script) (waiting : List ℕ)
    (from disk : D) (journal : JournalState D) (ended : Status) (start old new : Option (List Turn)) (turns : List Turn) → Known rows header → Begins seen may_leave moment left_since faults rows from journal
    → (hears : HearsHeader told subscribers rows header waiting start old) → Turns start new turns → RunsBlocks seen may_leave moment left_since rows header from (limits_of journal) hears.hears.first ended disk turns
    → ServesBlocks told subscribers (seen from) (MayLeave seen may_leave from disk) (MayHaveLeft seen may_leave moment left_since from disk) ended start new
serves_blocks laws {D} seen may_leave moment left_since faults told subscribers rows header waiting from disk journal ended start old new turns known begins hears took runs =
    with_limits (limits_in rows begins.found) (subst (λ (reserved : List ℕ). RunsBlocks seen may_leave moment left_since rows header from reserved hears.hears.first ended disk turns) begins.limits runs)
  where
    with_limits : (reserved : List ℕ) → RunsBlocks seen may_leave moment left_since rows header from (limits_in rows begins.found) hears.hears.first ended disk turns
        → ServesBlocks told subscribers (seen from) (MayLeave seen may_leave from disk) (MayHaveLeft seen may_leave moment left_since from disk) ended start new
    with_limits reserved runs = record {
      before = hears.before;
      begins = hears.begins;
      turns = turns;
      took = took;
      first = hears.hears.first;
      short = hears.hears.short;
      header = header;
      rows = rows;
      is_header = hears.hears.is_header;
      found = begins.found;
      is_found = begins.is_found;
      service = record {
        answers = runs.answers;
        unanswered = runs.unanswered;
        heard = runs.heard;
        none_left = runs.none_left;
        each = runs.each;
        stop = runs.stop;
        stopped = runs.stopped;
        end = runs.end;
        text = text_of rows header (records_in runs.answers);
        output = is_output laws rows header (limits_in rows begins.found) runs.stop (parts_in runs.answers) (records_in runs.answers) runs.end
            (record { subscribers = known.subscribers; realm = known.realm; known = runs.known }) runs.fits runs.leads;
        told = output_told laws rows header (limits_in rows begins.found) runs.stop (parts_in runs.answers) (records_in runs.answers) runs.end
            (record { subscribers = known.subscribers; realm = known.realm; known = runs.known }) runs.fits runs.leads;
        last = runs.last;
        is_last = runs.is_last;
        said = runs.said;
        prompt = prompt_of (replies_in runs.answers) turns runs.prompt;
        kept = runs.kept;
        late = runs.late;
      };
      always = any_time seen may_leave moment left_since ended rows from disk (limits_in rows begins.found) runs.end runs.always;
    }

-- a refusal for want of memory
memory_refusal : (refusal : Refusal) → status_of refusal ≡ status.NoMemory → refusal ≡ refused.NoMemory
memory_refusal refused.NoMemory is = refl
memory_refusal refused.Usage is = cc
memory_refusal (refused.Subscribers row fault) is = cc
memory_refusal (refused.Scenario line fault) is = cc
memory_refusal refused.ReadFault is = cc
memory_refusal refused.WriteFault is = cc
memory_refusal refused.StoreFault is = cc
memory_refusal (refused.NotJournal place) is = cc
memory_refusal refused.StoreFull is = cc
memory_refusal refused.TooLong is = cc

-- or nothing was
pub serves_ready : Laws → {D : Type 0} (seen : D → Option (List ℕ)) (may_leave : D → List ℕ → Type 0) (moment : D → ℕ) (left_since : D → ℕ → List ℕ → Type 0) (faults : D → ℕ) (told : Option (List File)) (subscribers : Option (List ℕ)) (rows : List Row) (header : Script) (waiting : List ℕ)
    (from disk : D) (journal : JournalState D) (result : Result (Unit {0}) Refusal) (start old new : Option (List Turn)) → Known rows header → Begins seen may_leave moment left_since faults rows from journal
    → (hears : HearsHeader told subscribers rows header waiting start old)
    → EndsReady seen may_leave moment left_since rows header from (limits_of journal) hears.hears.first (status_in result) disk start old new
    → ServesOr (λ refusal. IsEarly told subscribers (seen from) refusal start new) told subscribers (seen from) (MayLeave seen may_leave from disk) (MayHaveLeft seen may_leave moment left_since from disk) result start new
serves_ready laws seen may_leave moment left_since faults told subscribers rows header waiting from disk journal (Ok done) start old new known begins hears (inl (turns, took, runs)) =
    serves_blocks laws seen may_leave moment left_since faults told subscribers rows header waiting from disk journal status.Done start old new turns known begins hears took runs
serves_ready laws seen may_leave moment left_since faults told subscribers rows header waiting from disk journal (Ok done) start old new known begins hears (inr (is, same)) = absurd (apart is)
  where
    apart : status.Done ≡ status.NoMemory → ⊥
    apart same = cc
serves_ready laws seen may_leave moment left_since faults told subscribers rows header waiting from disk journal (Err refusal) start old new known begins hears (inl (turns, took, runs)) =
    inl (serves_blocks laws seen may_leave moment left_since faults told subscribers rows header waiting from disk journal (status_of refusal) start old new turns known begins hears took runs)
serves_ready laws seen may_leave moment left_since faults told subscribers rows header waiting from disk journal (Err refusal) start old new known begins hears (inr (is, same)) =
    let heard = hears.hears.took in
    inr (record {
      turns = heard.turns;
      took = subst (λ (now : Option (List Turn)). Turns start now heard.turns) (sym same) heard.took;
      silent = heard.silent;
      cause = subst (IsEarlyCause told subscribers (seen from) (heard_in heard.turns)) (sym (memory_refusal refusal is)) tt;
    })

-- no journal is lowered
pub remembers_blocks : {D : Type 0} (seen : D → Option (List ℕ)) (may_leave : D → List ℕ → Type 0) (moment : D → ℕ) (left_since : D → ℕ → List ℕ → Type 0) (rows : List Row) (header : Script) (from : D) (reserved first : List ℕ) (ended : Status) (disk : D) (turns : List Turn)
    → RunsBlocks seen may_leave moment left_since rows header from reserved first ended disk turns → Remembers seen may_leave ended from disk
remembers_blocks seen may_leave moment left_since rows header from reserved first ended disk turns runs = record {
  keeps = λ told premise image leaves. (runs.keeps told image leaves).0;
  closable = λ told is image leaves. (runs.keeps told image leaves).1;
  stays = λ is. absurd (subst (λ (s : Status). IsServiceStop s runs.stop) is runs.stopped);
}

-- ---- how the refusal was told

-- one that has no line
still_serves : (told : Option (List File)) (subscribers seen : Option (List ℕ)) (leaves : List ℕ → Type 0) (ever : List ℕ → Type 0) (s ended : Status) (old mid new : Option (List Turn)) → ended ≡ s → new ≡ mid
    → ServesBlocks told subscribers seen leaves ever s old mid → ServesBlocks told subscribers seen leaves ever ended old new
still_serves told subscribers seen leaves ever s ended old mid new is same serves =
    subst (λ (e : Status). ServesBlocks told subscribers seen leaves ever e old new) (sym is) (subst (λ (o : Option (List Turn)). ServesBlocks told subscribers seen leaves ever s old o) (sym same) serves)

-- a service that served blocks has no line
serves_told : (told : Option (List File)) (subscribers seen : Option (List ℕ)) (leaves : List ℕ → Type 0) (ever : List ℕ → Type 0) (refusal : Refusal) (ended : Status) (old mid new : Option (List Turn))
    → ServesBlocks told subscribers seen leaves ever (status_of refusal) old mid → Tells refusal ended None None → (line_of refusal ≡ [] → new ≡ mid) → ServesBlocks told subscribers seen leaves ever ended old new
serves_told told subscribers seen leaves ever refused.ReadFault ended old mid new serves (inl (is, line)) same = still_serves told subscribers seen leaves ever status.ReadFault ended old mid new is (same refl) serves
serves_told told subscribers seen leaves ever refused.WriteFault ended old mid new serves (inl (is, line)) same = still_serves told subscribers seen leaves ever status.WriteFault ended old mid new is (same refl) serves
serves_told told subscribers seen leaves ever refused.StoreFault ended old mid new serves (inl (is, line)) same = still_serves told subscribers seen leaves ever status.StoreFault ended old mid new is (same refl) serves
serves_told told subscribers seen leaves ever refused.StoreFull ended old mid new serves (inl (is, line)) same = still_serves told subscribers seen leaves ever status.StoreFull ended old mid new is (same refl) serves
serves_told told subscribers seen leaves ever refused.TooLong ended old mid new serves (inl (is, line)) same = still_serves told subscribers seen leaves ever status.TooLong ended old mid new is (same refl) serves
serves_told told subscribers seen leaves ever refused.NoMemory ended old mid new serves (inl (is, line)) same = still_serves told subscribers seen leaves ever status.NoMemory ended old mid new is (same refl) serves
serves_told told subscribers seen leaves ever refused.ReadFault ended old mid new serves (inr untold) same = absurd untold
serves_told told subscribers seen leaves ever refused.WriteFault ended old mid new serves (inr untold) same = absurd untold
serves_told told subscribers seen leaves ever refused.StoreFault ended old mid new serves (inr untold) same = absurd untold
serves_told told subscribers seen leaves ever refused.StoreFull ended old mid new serves (inr untold) same = absurd untold
serves_told told subscribers seen leaves ever refused.TooLong ended old mid new serves (inr untold) same = absurd untold
serves_told told subscribers seen leaves ever refused.NoMemory ended old mid new serves (inr untold) same = absurd untold
serves_told told subscribers seen leaves ever refused.Usage ended old mid new serves tells same = absurd serves.service.stopped
serves_told told subscribers seen leaves ever (refused.Subscribers row fault) ended old mid new serves tells same = absurd serves.service.stopped
serves_told told subscribers seen leaves ever (refused.Scenario line fault) ended old mid new serves tells same = absurd serves.service.stopped
serves_told told subscribers seen leaves ever (refused.NotJournal place) ended old mid new serves tells same = absurd serves.service.stopped

-- one that comes before
early_told : (told : Option (List File)) (subscribers seen : Option (List ℕ)) (refusal : Refusal) (ended : Status) (old mid new : Option (List Turn)) → IsEarly told subscribers seen refusal old mid → SaysTold refusal ended mid new
    → EndsUnserved told subscribers seen ended old new
early_told told subscribers seen refusal ended old mid new early (said, says, is_told) = record {
  turns = early.turns ++ map Said says.pieces;
  took = turns_more old mid new early.turns (map Said says.pieces) early.took says.turns;
  refusal = refusal;
  cause = subst (λ (heard : List ℕ). IsEarlyCause told subscribers seen heard refusal) (sym (heard_behind early.turns says.pieces)) early.cause;
  is_told = subst (IsTold refusal ended) (sym (said_behind early.turns says.pieces ∙ ap (λ (r : List ℕ). r ++ concat says.pieces) early.silent ∙ says.whole)) is_told;
}

pub service_told : (told : Option (List File)) (subscribers seen : Option (List ℕ)) (leaves : List ℕ → Type 0) (ever : List ℕ → Type 0) (refusal : Refusal) (ended : Status) (old mid new : Option (List Turn))
    → ServesBlocks told subscribers seen leaves ever (status_of refusal) old mid ⊎ IsEarly told subscribers seen refusal old mid → Tells refusal ended None None → (line_of refusal ≡ [] → new ≡ mid) → SaysTold refusal ended mid new
    → ServesBlocks told subscribers seen leaves ever ended old new ⊎ EndsUnserved told subscribers seen ended old new
service_told told subscribers seen leaves ever refusal ended old mid new (inl serves) tells same says = inl (serves_told told subscribers seen leaves ever refusal ended old mid new serves tells same)
service_told told subscribers seen leaves ever refusal ended old mid new (inr early) tells same says = inr (early_told told subscribers seen refusal ended old mid new early says)
