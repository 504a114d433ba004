-- For a service: block after block is taken, answered, and its reply said.
use Rattle.std.proofs.Common.{◌≡◌, ℕ, ◌+◌, suc, All, List, [], ◌∷◌, ◌++◌, length, map, take, Option, Some, None, Ok, inr, refl, sym, ◌∙◌, ap, subst, arith, append-nil, length-append}
use Rattle.std.specs.List.{concat}
use Rattle.std.proofs.lemmas.Grind.{flat_map-append}
use Rattle.std.proofs.lemmas.List.Elements.{All-push}
use Rattle.auc_block.specs.Block.{EachBlockIsSplitOff, EarlierBlocksStand, blocks_in, first_block}
use Rattle.auc_block.specs.Hearing.{IsHeard}
use Rattle.auc_block.specs.Turns.{Says, Turns}
use Rattle.auc_block.specs.declared.turn.Turn.{Turn}
use Rattle.auc_block.specs.declared.turn.Turn.TheVariants.{Heard, Said}
use Rattle.auc_memory.specs.declared.stop.Stop.TheVariants.{Fault}
use Rattle.auc_jobs.specs.State.{AcceptNothing, Standing, StandsAt}
use Rattle.auc_journal.specs.Journal.{JournalState}
use Rattle.auc_lines.specs.declared.part.Line.{Line}
use Rattle.auc_lines.specs.declared.part.Part.{Part}
use Rattle.auc_lines.specs.declared.part.Part.TheVariants.{Round}
use Rattle.auc_print.specs.OneText.{PartFits}
use Rattle.auc_print.specs.Text.{round_text}
use Rattle.auc_script.specs.declared.script.Script.{Script}
use Rattle.auc_subs.specs.declared.row.Row.{Row}
use Rattle.auc_transcript.proofs.Facts.{leads_more}
use Rattle.auc_subs.specs.Setting.{Setting}
use Rattle.auc_world.specs.Transcript.{Course, Leads, beginning}
use Rattle.auc_record.specs.declared.record.LineRecord.{LineRecord}
use Rattle.auc_record.specs.declared.record.PartRecord.{PartRecord}
use Rattle.auc_record.specs.declared.record.PartRecord.TheVariants as record_of
use Rattle.auc_run.specs.Inner.{IsKnownPart, MakesRound, StandsAfter}
use Rattle.auc_input.specs.Header.{AreTaken, HasReplied}
use Rattle.auc_run.specs.InnerService.{IsServing}
use Rattle.auc_run.specs.Output.{setting_of}
use Rattle.auc_refusal.specs.Replies.{end_line, ready_reply}
use Rattle.auc_run.specs.Service.{Answer, IsAnswer, asked_of, blocks_of, parts_in, records_in, replies_in}
use Rattle.auc_input.specs.Turns.{heard_in, said_in}
use Rattle.auc_run.proofs.BlockLemmas.{asked_quiet}
use Rattle.auc_run.proofs.StepLemmas.{goes_quietly}
use Rattle.auc_input.proofs.Facts.{concat_append, heard_append, heard_heard, heard_said, map_append, replied_append, replied_heard, replied_more, replied_said, said_append, said_heard, said_said, take_whole, taken_all, taken_block, taken_more, turns_more}

-- ---- a service so far

-- as many replies as blocks and the header
replies_count : (answers : List Answer) (first : List ℕ) → length (first ∷ blocks_of answers) ≡ length (replies_in answers)
replies_count [] first = refl
replies_count (a ∷ answers) first = ap suc (replies_count answers first)

-- while no whole block waits, each has had its reply
has_replied : EachBlockIsSplitOff → (first : List ℕ) (answers : List Answer) (heard text said : List ℕ) → AreTaken heard (first ∷ blocks_of answers) text → first_block text ≡ None
    → said ≡ concat (replies_in answers) → HasReplied (replies_in answers) heard said
has_replied split first answers heard text said taken none is =
    let all = taken_all split heard (first ∷ blocks_of answers) text taken none in
    let count : length (blocks_in heard).whole ≡ length (replies_in answers) = rw all (replies_count answers first) in
    record {
      count = omega (arith, count);
      only = is ∙ ap concat (sym (ap (λ (n : ℕ). take n (replies_in answers)) count ∙ take_whole (replies_in answers)));
    }

-- what was heard and said in turns with some pieces behind them
heard_front : (turns : List Turn) (pieces : List (List ℕ)) → heard_in (turns ++ map Heard pieces) ≡ heard_in turns ++ concat pieces
heard_front turns pieces = heard_append turns (map Heard pieces) ∙ ap (λ (r : List ℕ). heard_in turns ++ r) (heard_heard pieces)

said_front : (turns : List Turn) (pieces : List (List ℕ)) → said_in (turns ++ map Heard pieces) ≡ said_in turns
said_front turns pieces = said_append turns (map Heard pieces) ∙ ap (λ (r : List ℕ). said_in turns ++ r) (said_heard pieces) ∙ append-nil (said_in turns)

pub heard_behind : (turns : List Turn) (pieces : List (List ℕ)) → heard_in (turns ++ map Said pieces) ≡ heard_in turns
heard_behind turns pieces = heard_append turns (map Said pieces) ∙ ap (λ (r : List ℕ). heard_in turns ++ r) (heard_said pieces) ∙ append-nil (heard_in turns)

pub said_behind : (turns : List Turn) (pieces : List (List ℕ)) → said_in (turns ++ map Said pieces) ≡ said_in turns ++ concat pieces
said_behind turns pieces = said_append turns (map Said pieces) ∙ ap (λ (r : List ℕ). said_in turns ++ r) (said_said pieces)

-- pieces were heard because no block was whole: all that is known of a service stands, and what was heard waits
pub hears : {D : Type 0} (seen : D → Option (List ℕ)) (may_leave : D → List ℕ → Type 0) (moment : D → ℕ) (left_since : D → ℕ → List ℕ → Type 0) (rows : List Row) (header : Script) (from : D) (reserved first waiting text : List ℕ)
    (number : ℕ) (state : Standing) (journal : JournalState D) (start old new : Option (List Turn)) (turns : List Turn)
    → EachBlockIsSplitOff → EarlierBlocksStand → Turns start old turns
    → (serving : IsServing seen may_leave moment left_since rows header from reserved first [] waiting number state journal turns) → IsHeard old new waiting text
    → (more : List Turn) × Turns start new more × (goes : IsServing seen may_leave moment left_since rows header from reserved first [] text number state journal more) × (length goes.answers ≡ length serving.answers)
hears seen may_leave moment left_since rows header from reserved first waiting text number state journal start old new turns split stand took serving is_heard =
    let pieces = is_heard.pieces in
    let front = first ∷ blocks_of serving.answers in
    let taken : AreTaken (heard_in turns) front waiting = rw (append-nil (blocks_of serving.answers)) at serving.heard in (
      turns ++ map Heard pieces,
      turns_more start old new turns (map Heard pieces) took is_heard.turns,
      record {
        answers = serving.answers;
        each = serving.each;
        heard = rw (append-nil (blocks_of serving.answers), heard_front turns pieces, is_heard.whole) (taken_more stand (heard_in turns) front waiting (concat pieces) taken);
        said = said_front turns pieces ∙ serving.said;
        prompt = replied_append (replies_in serving.answers) [] [] turns (map Heard pieces) serving.prompt
            (replied_heard (replies_in serving.answers) (heard_in turns) (said_in turns) pieces
            (λ k less. has_replied split first serving.answers (heard_in turns ++ concat (take k pieces)) (waiting ++ concat (take k pieces)) (said_in turns)
            (taken_more stand (heard_in turns) front waiting (concat (take k pieces)) taken) (is_heard.prompt k less) serving.said));
        at = serving.at;
        leads = serving.leads;
        fits = serving.fits;
        known = serving.known;
        on = serving.on;
      },
      refl,
    )

-- the first whole block of what waits is taken
pub takes : {D : Type 0} (seen : D → Option (List ℕ)) (may_leave : D → List ℕ → Type 0) (moment : D → ℕ) (left_since : D → ℕ → List ℕ → Type 0) (rows : List Row) (header : Script) (from : D) (reserved first text block rest : List ℕ)
    (number : ℕ) (state : Standing) (journal : JournalState D) (turns : List Turn) → EachBlockIsSplitOff
    → IsServing seen may_leave moment left_since rows header from reserved first [] text number state journal turns → first_block text ≡ Some (block, rest)
    → IsServing seen may_leave moment left_since rows header from reserved first (block ∷ []) rest number state journal turns
takes seen may_leave moment left_since rows header from reserved first text block rest number state journal turns split serving found =
    let front = first ∷ blocks_of serving.answers in
    let taken : AreTaken (heard_in turns) front text = rw (append-nil (blocks_of serving.answers)) at serving.heard in
    record {
      answers = serving.answers;
      each = serving.each;
      heard = taken_block split (heard_in turns) front text block rest taken found;
      said = serving.said;
      prompt = serving.prompt;
      at = serving.at;
      leads = serving.leads;
      fits = serving.fits;
      known = serving.known;
      on = serving.on;
    }

-- no further one was answered
pub takes_count : {D : Type 0} (seen : D → Option (List ℕ)) (may_leave : D → List ℕ → Type 0) (moment : D → ℕ) (left_since : D → ℕ → List ℕ → Type 0) (rows : List Row) (header : Script) (from : D) (reserved first text block rest : List ℕ)
    (number : ℕ) (state : Standing) (journal : JournalState D) (turns : List Turn) (split : EachBlockIsSplitOff)
    (serving : IsServing seen may_leave moment left_since rows header from reserved first [] text number state journal turns) (found : first_block text ≡ Some (block, rest))
    → length (takes seen may_leave moment left_since rows header from reserved first text block rest number state journal turns split serving found).answers ≡ length serving.answers
unfolding takes
takes_count seen may_leave moment left_since rows header from reserved first text block rest number state journal turns split serving found = refl

-- the replies and the blocks with one more
pub replies_more : (answers : List Answer) (a : Answer) → replies_in (answers ++ a ∷ []) ≡ replies_in answers ++ a.reply ∷ []
replies_more answers a = ap (λ (r : List (List ℕ)). ready_reply ∷ r) (map_append (λ (a : Answer). a.reply) answers (a ∷ []))

pub blocks_more : (answers : List Answer) (a : Answer) → blocks_of (answers ++ a ∷ []) ≡ blocks_of answers ++ a.block ∷ []
blocks_more answers a = map_append (λ (a : Answer). a.block) answers (a ∷ [])

-- a reply was said: the service goes on from where the block led
pub replies : {D : Type 0} (seen : D → Option (List ℕ)) (may_leave : D → List ℕ → Type 0) (moment : D → ℕ) (left_since : D → ℕ → List ℕ → Type 0) (rows : List Row) (header : Script) (from : D) (reserved first waiting : List ℕ) (a : Answer)
    (number later : ℕ) (state next : Standing) (journal after : JournalState D) (start old new : Option (List Turn)) (turns : List Turn) → Turns start old turns
    → (serving : IsServing seen may_leave moment left_since rows header from reserved first (a.block ∷ []) waiting number state journal turns) → IsAnswer rows header a → Says old new a.reply
    → (at : Course) → Leads (setting_of rows header) None (beginning rows reserved) (parts_in (serving.answers ++ a ∷ [])) (records_in (serving.answers ++ a ∷ [])) at
    → All PartFits (records_in (serving.answers ++ a ∷ [])) → All (IsKnownPart rows) (parts_in (serving.answers ++ a ∷ []))
    → StandsAfter seen may_leave moment left_since (setting_of rows header) from reserved at [] later next after
    → (more : List Turn) × Turns start new more × (goes : IsServing seen may_leave moment left_since rows header from reserved first [] waiting later next after more) × (length goes.answers ≡ 1 + length serving.answers)
replies seen may_leave moment left_since rows header from reserved first waiting a number later state next journal after start old new turns took serving is says at leads fits known on =
    let pieces = says.pieces in (
      turns ++ map Said pieces,
      turns_more start old new turns (map Said pieces) took says.turns,
      record {
        answers = serving.answers ++ a ∷ [];
        each = All-push (IsAnswer rows header) serving.answers a serving.each is;
        heard = rw (append-nil (blocks_of (serving.answers ++ a ∷ [])), heard_behind turns pieces, blocks_more serving.answers a) serving.heard;
        said = said_behind turns pieces ∙ ap (λ (r : List ℕ). r ++ concat pieces) serving.said
            ∙ ap (λ (r : List ℕ). concat (replies_in serving.answers) ++ r) (says.whole ∙ sym (append-nil a.reply))
            ∙ sym (concat_append (replies_in serving.answers) (a.reply ∷ [])) ∙ ap concat (sym (replies_more serving.answers a));
        prompt = rw (replies_more serving.answers a) (replied_append (replies_in serving.answers ++ a.reply ∷ []) [] [] turns (map Said pieces)
            (replied_more (replies_in serving.answers) (a.reply ∷ []) [] [] turns serving.prompt)
            (replied_said (replies_in serving.answers ++ a.reply ∷ []) (heard_in turns) (said_in turns) pieces));
        at = at;
        leads = leads;
        fits = fits;
        known = known;
        on = on;
      },
      omega (arith, length-append serving.answers (a ∷ [])),
    )

-- a block that served nothing changes neither parts nor records
pub parts_same : (answers : List Answer) (a : Answer) → a.parts ≡ [] → parts_in (answers ++ a ∷ []) ≡ parts_in answers
parts_same answers a none = flat_map-append (λ (a : Answer). a.parts) answers (a ∷ []) ∙ ap (λ (ps : List Part). parts_in answers ++ (ps ++ [])) none ∙ append-nil (parts_in answers)

pub records_same : (answers : List Answer) (a : Answer) → a.records ≡ [] → records_in (answers ++ a ∷ []) ≡ records_in answers
records_same answers a none = flat_map-append (λ (a : Answer). a.records) answers (a ∷ []) ∙ ap (λ (rs : List PartRecord). records_in answers ++ (rs ++ [])) none ∙ append-nil (records_in answers)

-- so the service goes on from where it stood
pub replies_nothing : {D : Type 0} (seen : D → Option (List ℕ)) (may_leave : D → List ℕ → Type 0) (moment : D → ℕ) (left_since : D → ℕ → List ℕ → Type 0) (rows : List Row) (header : Script) (from : D) (reserved first waiting : List ℕ) (a : Answer)
    (number : ℕ) (state : Standing) (journal : JournalState D) (start old new : Option (List Turn)) (turns : List Turn) → Turns start old turns
    → (serving : IsServing seen may_leave moment left_since rows header from reserved first (a.block ∷ []) waiting number state journal turns) → IsAnswer rows header a → a.parts ≡ [] → a.records ≡ [] → Says old new a.reply
    → (more : List Turn) × Turns start new more × (goes : IsServing seen may_leave moment left_since rows header from reserved first [] waiting number state journal more) × (length goes.answers ≡ 1 + length serving.answers)
replies_nothing seen may_leave moment left_since rows header from reserved first waiting a number state journal start old new turns took serving is no_parts no_records says =
    let set = setting_of rows header in
    replies seen may_leave moment left_since rows header from reserved first waiting a number number state state journal journal start old new turns took serving is says serving.at
    (subst (λ (rs : List PartRecord). Leads set None (beginning rows reserved) (parts_in (serving.answers ++ a ∷ [])) rs serving.at) (sym (records_same serving.answers a no_records))
    (subst (λ (ps : List Part). Leads set None (beginning rows reserved) ps (records_in serving.answers) serving.at) (sym (parts_same serving.answers a no_parts)) serving.leads))
    (subst (All PartFits) (sym (records_same serving.answers a no_records)) serving.fits)
    (subst (All (IsKnownPart rows)) (sym (parts_same serving.answers a no_parts)) serving.known)
    serving.on

-- a block whose round was served
pub parts_round : (answers : List Answer) (a : Answer) (part : Part) → a.parts ≡ part ∷ [] → parts_in (answers ++ a ∷ []) ≡ parts_in answers ++ part ∷ []
parts_round answers a part one = flat_map-append (λ (a : Answer). a.parts) answers (a ∷ []) ∙ ap (λ (ps : List Part). parts_in answers ++ (ps ++ [])) one

pub records_round : (answers : List Answer) (a : Answer) (made : PartRecord) → a.records ≡ made ∷ [] → records_in (answers ++ a ∷ []) ≡ records_in answers ++ made ∷ []
records_round answers a made one = flat_map-append (λ (a : Answer). a.records) answers (a ∷ []) ∙ ap (λ (rs : List PartRecord). records_in answers ++ (rs ++ [])) one

-- a state has forgotten which vectors were released
abbrev pub Forgets : Standing → Standing → Type 0
Forgets next later = (later ≡ record next { released = [] }) × ((set : Setting) (early : List LineRecord) → AcceptNothing early → StandsAt set early next → StandsAt set [] later)

-- the service goes on from where the round led, if reservations didn't end in it
pub replies_round : {D : Type 0} (seen : D → Option (List ℕ)) (may_leave : D → List ℕ → Type 0) (moment : D → ℕ) (left_since : D → ℕ → List ℕ → Type 0) (rows : List Row) (header : Script) (from : D) (reserved first waiting block text : List ℕ) (jobs : List (List Line))
    (number : ℕ) (state next later : Standing) (journal after : JournalState D) (start old new : Option (List Turn)) (turns : List Turn) → Turns start old turns
    → (serving : IsServing seen may_leave moment left_since rows header from reserved first (block ∷ []) waiting number state journal turns) → asked_of rows block ≡ Ok (Some jobs) → IsKnownPart rows (Round jobs)
    → MakesRound seen may_leave moment left_since (setting_of rows header) header.full number state journal jobs None next after [] text → Forgets next later → Says old new (text ++ end_line)
    → (more : List Turn) × Turns start new more × (goes : IsServing seen may_leave moment left_since rows header from reserved first [] waiting (number + 1) later after more) × (length goes.answers ≡ 1 + length serving.answers)
replies_round {D} seen may_leave moment left_since rows header from reserved first waiting block text jobs number state next later journal after start old new turns took serving asked known makes forgets says =
    let set = setting_of rows header in
    let round = makes.round in
    let made = record_of.Round round in
    let quiet = asked_quiet rows block jobs asked in
    let leads = makes.leads from reserved serving.at [] serving.on (inr quiet) in
    let a : Answer = record { block = block; parts = Round jobs ∷ []; records = made ∷ []; reply = round_text set header.full round ++ end_line } in
    let is : IsAnswer rows header a = rw asked (round, refl, refl, refl) in
    let all = leads_more set None (beginning rows reserved) (parts_in serving.answers) (records_in serving.answers) serving.at (Round jobs) made leads.next serving.leads leads.served in
    replies seen may_leave moment left_since rows header from reserved first waiting a number (number + 1) state later journal after start old new turns took serving is
    (subst (λ (t : List ℕ). Says old new (t ++ end_line)) makes.is_text says) leads.next
    (subst (λ (rs : List PartRecord). Leads set None (beginning rows reserved) (parts_in (serving.answers ++ a ∷ [])) rs leads.next) (sym (records_round serving.answers a made refl))
    (subst (λ (ps : List Part). Leads set None (beginning rows reserved) ps (records_in serving.answers ++ made ∷ []) leads.next) (sym (parts_round serving.answers a (Round jobs) refl)) all))
    (subst (All PartFits) (sym (records_round serving.answers a made refl)) (All-push PartFits (records_in serving.answers) made serving.fits makes.fits))
    (subst (All (IsKnownPart rows)) (sym (parts_round serving.answers a (Round jobs) refl)) (All-push (IsKnownPart rows) (parts_in serving.answers) (Round jobs) serving.known known))
    (goes_quietly seen may_leave moment left_since set header.full number state next later journal after jobs None [] text makes (λ same. absurd (none_fault same)) quiet forgets.0 forgets.1 from reserved serving.at serving.on)
  where
    none_fault : None ≡ Some Fault → ⊥
    none_fault same = cc
