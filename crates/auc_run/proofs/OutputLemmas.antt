-- For the parts of a scenario: part after part is served and written.
use Rattle.std.proofs.Common.{◌≡◌, ◌≢◌, ℕ, Bool, List, [], ◌∷◌, ◌++◌, All, Option, Some, None, Result, Ok, Err, IfOk, IfErr, OnOk, OnErr, refl, sym, ◌∙◌, ap, subst, append_assoc, append-nil}
use Rattle.std.specs.Prelude.{◌≤◌, slice_index}
use Rattle.std.proofs.lemmas.Grind.{flat_map-append}
use Rattle.std.proofs.lemmas.List.Elements.{All-nil, All-cons, All-append}
use Rattle.auc_edge.specs.Sink.{Appends, AppendsFront}
use Rattle.auc_edge.proofs.Facts.{Appends-more}
use Rattle.auc_journal.specs.Image.{reserved_in}
use Rattle.auc_journal.specs.Journal.{JournalState, limits_of}
use Rattle.auc_jobs.specs.State.{Standing}
use Rattle.auc_lines.specs.declared.part.Part.{Part}
use Rattle.auc_lines.specs.declared.part.Part.TheVariants.{Round, Restart}
use Rattle.auc_print.specs.OneText.{PartFits}
use Rattle.auc_print.specs.Text.{part_text, transcript_text}
use Rattle.auc_transcript.proofs.Facts.{leads_more}
use Rattle.auc_subs.specs.declared.row.Row.{Row}
use Rattle.auc_subs.specs.Setting.{Setting}
use Rattle.auc_world.specs.Transcript.{Course, Leads, ServesPart, beginning}
use Rattle.auc_record.specs.declared.record.PartRecord.{PartRecord}
use Rattle.auc_record.specs.declared.record.PartRecord.TheVariants as record_of
use Rattle.auc_run.specs.Crash.{IsFull}
use Rattle.auc_input.specs.Opening.{Begins}
use Rattle.auc_run.specs.Inner.{Covers, EndsIn, GoesOn, IsPut, RunsParts, ServesLast, StandsOn}
use Rattle.auc_run.specs.Outcome.{EndsFull, IsStopOf, IsWritten}
use Rattle.auc_refusal.specs.Refusal.{status_of}
use Rattle.auc_refusal.specs.declared.refusal.Refusal.{Refusal}
use Rattle.auc_refusal.specs.declared.refusal.Refusal.TheVariants as refused
use Rattle.auc_refusal.specs.declared.status.Status.{Status}
use Rattle.auc_refusal.specs.declared.status.Status.TheVariants as status
use Rattle.auc_run.proofs.AlwaysLemmas.{always_covers, always_reserves, since_opening}
use Rattle.auc_run.proofs.RememberLemmas.{durable_keeps}
use Rattle.auc_run.proofs.StandLemmas.{kept_covers, kept_reserves}

-- what holds of each result that is Ok
pub IfOk-ok : {T E : Type 0} (r : Result T E) (x : T) (P : T → Type 0) → r ≡ Ok x → IfOk r P → P x
IfOk-ok {T} {E} r x P is holds = subst (λ (s : Result T E). IfOk s P) is holds

-- what holds if there is no error, and if there is one
pub OnOk-at : {T E : Type 0} (r : Result T E) (x : T) (P : Type 0) → r ≡ Ok x → OnOk r P → P
OnOk-at {T} {E} r x P is holds = subst (λ (s : Result T E). OnOk s P) is holds

pub OnErr-at : {T E : Type 0} (r : Result T E) (e : E) (P : Type 0) → r ≡ Err e → OnErr r P → P
OnErr-at {T} {E} r e P is holds = subst (λ (s : Result T E). OnErr s P) is holds

pub IfErr-at : {T E : Type 0} (r : Result T E) (e : E) (P : E → Type 0) → r ≡ Err e → IfErr r P → P e
IfErr-at {T} {E} r e P is holds = subst (λ (s : Result T E). IfErr s P) is holds

-- a refusal is no end of a run that is done, and two other ends are none of a full journal
pub not_done : (refusal : Refusal) → status_of refusal ≡ status.Done → ⊥
not_done refused.Usage same = cc
not_done (refused.Subscribers row fault) same = cc
not_done (refused.Scenario line fault) same = cc
not_done refused.ReadFault same = cc
not_done refused.WriteFault same = cc
not_done refused.StoreFault same = cc
not_done (refused.NotJournal place) same = cc
not_done refused.StoreFull same = cc
not_done refused.TooLong same = cc
not_done refused.NoMemory same = cc

pub done_full : status.Done ≡ status.StoreFull → ⊥
done_full same = cc

pub write_full : status.WriteFault ≡ status.StoreFull → ⊥
write_full same = cc

-- ---- texts that are written one after the other

-- nothing was written
pub Appends-none : (old : Option (List ℕ)) → Appends old old []
Appends-none None = refl
Appends-none (Some old) = ap Some (sym (append-nil old))

-- a text, and then the first bytes of another
pub AppendsFront-more : (old mid new : Option (List ℕ)) (before text : List ℕ) → Appends old mid before → AppendsFront mid new text → AppendsFront old new (before ++ text)
AppendsFront-more old mid new before text first second = record {
  front = before ++ second.front;
  rest = second.rest;
  whole = append_assoc before second.front second.rest ∙ ap (λ (t : List ℕ). before ++ t) second.whole;
  appended = Appends-more old mid new before second.front first second.appended;
}

-- a text, and then what a run that ends so writes of another
pub IsWritten-more : (ended : Status) (old mid new : Option (List ℕ)) (before text : List ℕ) → Appends old mid before → IsWritten ended mid new text → IsWritten ended old new (before ++ text)
IsWritten-more status.WriteFault old mid new before text first second = AppendsFront-more old mid new before text first second
IsWritten-more status.Done old mid new before text first second = Appends-more old mid new before text first second
IsWritten-more status.Usage old mid new before text first second = Appends-more old mid new before text first second
IsWritten-more status.SubscribersRefused old mid new before text first second = Appends-more old mid new before text first second
IsWritten-more status.ScenarioRefused old mid new before text first second = Appends-more old mid new before text first second
IsWritten-more status.ReadFault old mid new before text first second = Appends-more old mid new before text first second
IsWritten-more status.StoreFault old mid new before text first second = Appends-more old mid new before text first second
IsWritten-more status.NotJournal old mid new before text first second = Appends-more old mid new before text first second
IsWritten-more status.StoreFull old mid new before text first second = Appends-more old mid new before text first second
IsWritten-more status.TooLong old mid new before text first second = Appends-more old mid new before text first second
IsWritten-more status.NoMemory old mid new before text first second = Appends-more old mid new before text first second

-- the text of some records, of some that wait, and of one more
texts_join : (set : Setting) (full : Bool) (records waits : List PartRecord) (made : PartRecord)
    → transcript_text set full ((records ++ waits) ++ made ∷ []) ≡ transcript_text set full records ++ (transcript_text set full waits ++ part_text set full made)
texts_join set full records waits made =
    flat_map-append (part_text set full) (records ++ waits) (made ∷ [])
    ∙ ap (λ (t : List ℕ). transcript_text set full (records ++ waits) ++ t) (append-nil (part_text set full made))
    ∙ ap (λ (t : List ℕ). t ++ part_text set full made) (flat_map-append (part_text set full) records waits)
    ∙ append_assoc (transcript_text set full records) (transcript_text set full waits) (part_text set full made)

-- the values of some records, of some that wait, and of one more
fits_join : (records waits : List PartRecord) (made : PartRecord) → All PartFits records → All PartFits waits → PartFits made → All PartFits ((records ++ waits) ++ made ∷ [])
fits_join records waits made fits waits_fit one =
    All-append PartFits (records ++ waits) (made ∷ []) (All-append PartFits records waits fits waits_fit) (All-cons PartFits made [] one (All-nil PartFits))

-- ---- the parts so far

-- some parts are left; the records so far are a lawful transcript of the parts before them, and the text of all but the
-- last restarts among them was written
pub record Serving {D : Type 0} (seen : D → Option (List ℕ)) (may_leave : D → List ℕ → Type 0) (moment : D → ℕ) (left_since : D → ℕ → List ℕ → Type 0) (set : Setting) (full : Bool) (from : D) (reserved : List ℕ) (begin : Course)
    (number : ℕ) (state : Standing) (journal : JournalState D) (text : List ℕ) (left parts : List Part) (old new : Option (List ℕ)) : Type 0 where
  pub served : List Part
  pub waiting : List Part
  pub cut : parts ≡ (served ++ waiting) ++ left
  pub records : List PartRecord
  pub waits : List PartRecord
  pub course : Course
  pub leads : Leads set None begin served records course
  pub mid : Course
  pub goes_on : Leads set None begin (served ++ waiting) (records ++ waits) mid
  pub early : mid.early ≡ course.early
  pub on : StandsOn seen may_leave moment left_since set from reserved mid number state journal
  pub fits : All PartFits records
  pub waits_fit : All PartFits waits
  pub waits_text : text ≡ transcript_text set full waits
  pub written : Appends old new (transcript_text set full records)

-- no part is served yet
pub Serving-none : {D : Type 0} (seen : D → Option (List ℕ)) (may_leave : D → List ℕ → Type 0) (moment : D → ℕ) (left_since : D → ℕ → List ℕ → Type 0) (set : Setting) (full : Bool) (from : D) (reserved : List ℕ) (begin : Course)
    (number : ℕ) (state : Standing) (journal : JournalState D) (text : List ℕ) (parts : List Part) (old : Option (List ℕ))
    → StandsOn seen may_leave moment left_since set from reserved begin number state journal → text ≡ [] → Serving seen may_leave moment left_since set full from reserved begin number state journal text parts parts old old
Serving-none seen may_leave moment left_since set full from reserved begin number state journal text parts old on none = record {
  served = [];
  waiting = [];
  cut = refl;
  records = [];
  waits = [];
  course = begin;
  leads = (refl, refl);
  mid = begin;
  goes_on = (refl, refl);
  early = refl;
  on = on;
  fits = All-nil PartFits;
  waits_fit = All-nil PartFits;
  waits_text = none;
  written = Appends-none old;
}

-- one more part of those that are left
cut_more : (parts before left behind : List Part) (part : Part) → parts ≡ before ++ left → left ≡ part ∷ behind → parts ≡ (before ++ part ∷ []) ++ behind
cut_more parts before left behind part cut is = cut ∙ ap (λ (ps : List Part). before ++ ps) is ∙ sym (append_assoc before (part ∷ []) behind)

-- a part is served
pub Serving-part : {D : Type 0} (seen : D → Option (List ℕ)) (may_leave : D → List ℕ → Type 0) (moment : D → ℕ) (left_since : D → ℕ → List ℕ → Type 0) (set : Setting) (full : Bool) (from : D) (reserved : List ℕ) (begin : Course)
    (number after : ℕ) (state next : Standing) (journal later : JournalState D) (text waits : List ℕ) (part : Part) (left behind parts : List Part) (old mid new : Option (List ℕ))
    → left ≡ part ∷ behind → (serving : Serving seen may_leave moment left_since set full from reserved begin number state journal text left parts old mid)
    → GoesOn seen may_leave moment left_since set full from reserved serving.mid part after next later text waits mid new
    → Serving seen may_leave moment left_since set full from reserved begin after next later waits behind parts old new
Serving-part {D} seen may_leave moment left_since set full from reserved begin number after state next journal later text waits (Round jobs) left behind parts old mid new is serving goes =
    let all = leads_more set None begin (serving.served ++ serving.waiting) (serving.records ++ serving.waits) serving.mid (Round jobs) goes.made goes.next serving.goes_on goes.served in
    record {
      served = (serving.served ++ serving.waiting) ++ Round jobs ∷ [];
      waiting = [];
      cut = cut_more parts (serving.served ++ serving.waiting) left behind (Round jobs) serving.cut is
          ∙ ap (λ (ps : List Part). ps ++ behind) (sym (append-nil ((serving.served ++ serving.waiting) ++ Round jobs ∷ [])));
      records = (serving.records ++ serving.waits) ++ goes.made ∷ [];
      waits = [];
      course = goes.next;
      leads = all;
      mid = goes.next;
      goes_on = subst (λ (rs : List PartRecord). Leads set None begin (((serving.served ++ serving.waiting) ++ Round jobs ∷ []) ++ []) rs goes.next)
          (sym (append-nil ((serving.records ++ serving.waits) ++ goes.made ∷ [])))
          (subst (λ (ps : List Part). Leads set None begin ps ((serving.records ++ serving.waits) ++ goes.made ∷ []) goes.next)
          (sym (append-nil ((serving.served ++ serving.waiting) ++ Round jobs ∷ []))) all);
      early = refl;
      on = goes.on;
      fits = fits_join serving.records serving.waits goes.made serving.fits serving.waits_fit goes.fits;
      waits_fit = All-nil PartFits;
      waits_text = goes.put.1;
      written = subst (Appends old new)
          (ap (λ (t : List ℕ). transcript_text set full serving.records ++ (t ++ part_text set full goes.made)) serving.waits_text
          ∙ sym (texts_join set full serving.records serving.waits goes.made))
          (Appends-more old mid new (transcript_text set full serving.records) (text ++ part_text set full goes.made) serving.written goes.put.0);
    }
Serving-part {D} seen may_leave moment left_since set full from reserved begin number after state next journal later text waits Restart left behind parts old mid new is serving goes =
    restarted goes.made goes.served goes.put
  where
    restarted : (made : PartRecord) → ServesPart set None serving.mid Restart made goes.next → IsPut Restart (part_text set full made) text waits mid new
        → Serving seen may_leave moment left_since set full from reserved begin after next later waits behind parts old new
    restarted (record_of.Round round) served put = absurd served
    restarted record_of.Restart served put =
        let all = leads_more set None begin (serving.served ++ serving.waiting) (serving.records ++ serving.waits) serving.mid Restart record_of.Restart goes.next serving.goes_on served in
        record {
          served = serving.served;
          waiting = serving.waiting ++ Restart ∷ [];
          cut = cut_more parts (serving.served ++ serving.waiting) left behind Restart serving.cut is
              ∙ ap (λ (ps : List Part). ps ++ behind) (append_assoc serving.served serving.waiting (Restart ∷ []));
          records = serving.records;
          waits = serving.waits ++ record_of.Restart ∷ [];
          course = serving.course;
          leads = serving.leads;
          mid = goes.next;
          goes_on = subst (λ (rs : List PartRecord). Leads set None begin (serving.served ++ (serving.waiting ++ Restart ∷ [])) rs goes.next)
              (append_assoc serving.records serving.waits (record_of.Restart ∷ []))
              (subst (λ (ps : List Part). Leads set None begin ps ((serving.records ++ serving.waits) ++ record_of.Restart ∷ []) goes.next)
              (append_assoc serving.served serving.waiting (Restart ∷ [])) all);
          early = ap (λ (c : Course). c.early) served.leads ∙ serving.early;
          on = goes.on;
          fits = serving.fits;
          waits_fit = All-append PartFits serving.waits (record_of.Restart ∷ []) serving.waits_fit (All-cons PartFits record_of.Restart [] tt (All-nil PartFits));
          waits_text = put.1 ∙ ap (λ (t : List ℕ). t ++ part_text set full record_of.Restart) serving.waits_text
              ∙ sym (flat_map-append (part_text set full) serving.waits (record_of.Restart ∷ [])
              ∙ ap (λ (t : List ℕ). transcript_text set full serving.waits ++ t) (append-nil (part_text set full record_of.Restart)));
          written = subst (λ (o : Option (List ℕ)). Appends old o (transcript_text set full serving.records)) (sym put.0) serving.written;
        }

-- ---- the end

-- all parts are served, and what waits is written, or its first bytes
pub Serving-all : {D : Type 0} (seen : D → Option (List ℕ)) (may_leave : D → List ℕ → Type 0) (moment : D → ℕ) (left_since : D → ℕ → List ℕ → Type 0) (set : Setting) (full : Bool) (from : D) (reserved : List ℕ) (begin : Course)
    (number : ℕ) (state : Standing) (journal : JournalState D) (text : List ℕ) (left parts : List Part) (ended : Status) (disk : D) (old mid new : Option (List ℕ))
    → left ≡ [] → Serving seen may_leave moment left_since set full from reserved begin number state journal text left parts old mid → IsWritten ended mid new text → IsStopOf ended None
    → ended ≢ status.StoreFull → disk ≡ journal.disk → RunsParts seen may_leave moment left_since set full from reserved begin parts ended disk old new
Serving-all seen may_leave moment left_since set full from reserved begin number state journal text left parts ended disk old mid new none serving writes stopped not_full same = record {
  served = serving.served ++ serving.waiting;
  left = [];
  cut = serving.cut ∙ ap (λ (ps : List Part). (serving.served ++ serving.waiting) ++ ps) none;
  whole = λ done. refl;
  stop = None;
  stopped = stopped;
  records = serving.records ++ serving.waits;
  end = serving.mid;
  leads = serving.goes_on;
  fits = All-append PartFits serving.records serving.waits serving.fits serving.waits_fit;
  written = subst (IsWritten ended old new)
      (ap (λ (t : List ℕ). transcript_text set full serving.records ++ t) serving.waits_text ∙ sym (flat_map-append (part_text set full) serving.records serving.waits))
      (IsWritten-more ended old mid new (transcript_text set full serving.records) text serving.written writes);
  kept = kept_reserves seen may_leave moment left_since ended set.rows from disk reserved serving.mid journal serving.on.reserves same;
  keeps = durable_keeps seen may_leave from disk serving.on.reserves.most journal serving.on.reserves.durable same;
  always = always_reserves seen may_leave moment left_since ended set.rows from disk reserved serving.mid journal serving.on.reserves same;
  full_at = λ is told. absurd (not_full is);
  ends_full = λ is. absurd (not_full is);
}

-- a round that ends so stands behind others
full_behind : {D : Type 0} (seen : D → Option (List ℕ)) (may_leave : D → List ℕ → Type 0) (rows : List Row) (from disk later : D) (records last : List PartRecord) → disk ≡ later
    → EndsFull seen may_leave rows from last later → EndsFull seen may_leave rows from (records ++ last) disk
full_behind {D} seen may_leave rows from disk later records last same ends = subst (λ (d : D). EndsFull seen may_leave rows from (records ++ last) d) (sym same) (record {
  before = records ++ ends.before;
  round = ends.round;
  last = ap (λ (rs : List PartRecord). records ++ rs) ends.last ∙ sym (append_assoc records ends.before (record_of.Round ends.round ∷ []));
  drew = ends.drew;
  above = ends.above;
})

-- a run ends in a part that was served
stops_served : {D : Type 0} (seen : D → Option (List ℕ)) (may_leave : D → List ℕ → Type 0) (moment : D → ℕ) (left_since : D → ℕ → List ℕ → Type 0) (set : Setting) (full : Bool) (from : D) (reserved : List ℕ) (begin : Course)
    (number : ℕ) (state : Standing) (journal later : JournalState D) (text : List ℕ) (part : Part) (left behind parts : List Part) (ended : Status) (disk : D) (old mid new : Option (List ℕ))
    → left ≡ part ∷ behind → (serving : Serving seen may_leave moment left_since set full from reserved begin number state journal text left parts old mid) → ended ≢ status.Done
    → ServesLast seen may_leave moment left_since set full from reserved serving.mid part ended later text mid new → disk ≡ later.disk
    → RunsParts seen may_leave moment left_since set full from reserved begin parts ended disk old new
stops_served {D} seen may_leave moment left_since set full from reserved begin number state journal later text part left behind parts ended disk old mid new is serving not_done last same = record {
  served = (serving.served ++ serving.waiting) ++ part ∷ [];
  left = behind;
  cut = cut_more parts (serving.served ++ serving.waiting) left behind part serving.cut is;
  whole = λ done. absurd (not_done done);
  stop = last.stop;
  stopped = last.stopped;
  records = (serving.records ++ serving.waits) ++ last.made ∷ [];
  end = last.next;
  leads = leads_more set last.stop begin (serving.served ++ serving.waiting) (serving.records ++ serving.waits) serving.mid part last.made last.next serving.goes_on last.served;
  fits = fits_join serving.records serving.waits last.made serving.fits serving.waits_fit last.fits;
  written = subst (IsWritten ended old new)
      (ap (λ (t : List ℕ). transcript_text set full serving.records ++ (t ++ part_text set full last.made)) serving.waits_text
      ∙ sym (texts_join set full serving.records serving.waits last.made))
      (IsWritten-more ended old mid new (transcript_text set full serving.records) (text ++ part_text set full last.made) serving.written last.written);
  kept = kept_reserves seen may_leave moment left_since ended set.rows from disk reserved last.next later last.reserves same;
  keeps = durable_keeps seen may_leave from disk last.reserves.most later last.reserves.durable same;
  always = always_reserves seen may_leave moment left_since ended set.rows from disk reserved last.next later last.reserves same;
  full_at = λ is told. subst (λ (d : D). IsFull (seen d)) (sym same) (last.full_at is told);
  ends_full = λ is. full_behind seen may_leave set.rows from disk later.disk (serving.records ++ serving.waits) (last.made ∷ []) same (last.ends_full is);
}

-- a run ends in a part that memory was wanting for
stops_unserved : {D : Type 0} (seen : D → Option (List ℕ)) (may_leave : D → List ℕ → Type 0) (moment : D → ℕ) (left_since : D → ℕ → List ℕ → Type 0) (set : Setting) (full : Bool) (from : D) (reserved : List ℕ) (begin : Course)
    (number : ℕ) (state : Standing) (journal later : JournalState D) (text : List ℕ) (left parts : List Part) (disk : D) (old mid new : Option (List ℕ))
    → (serving : Serving seen may_leave moment left_since set full from reserved begin number state journal text left parts old mid)
    → Covers seen may_leave moment left_since set.rows from reserved serving.mid.early later → new ≡ mid → disk ≡ later.disk → RunsParts seen may_leave moment left_since set full from reserved begin parts status.NoMemory disk old new
stops_unserved {D} seen may_leave moment left_since set full from reserved begin number state journal later text left parts disk old mid new serving covers still same = record {
  served = serving.served;
  left = serving.waiting ++ left;
  cut = serving.cut ∙ append_assoc serving.served serving.waiting left;
  whole = λ is. absurd (apart is);
  stop = None;
  stopped = refl;
  records = serving.records;
  end = serving.course;
  leads = serving.leads;
  fits = serving.fits;
  written = subst (λ (o : Option (List ℕ)). Appends old o (transcript_text set full serving.records)) (sym still) serving.written;
  kept = kept_covers seen may_leave moment left_since set.rows from disk reserved serving.course later
      (subst (λ early. Covers seen may_leave moment left_since set.rows from reserved early later) serving.early covers) same;
  keeps = durable_keeps seen may_leave from disk covers.most later covers.durable same;
  always = always_covers seen may_leave moment left_since set.rows from disk reserved serving.course later
      (subst (λ early. Covers seen may_leave moment left_since set.rows from reserved early later) serving.early covers) same;
  full_at = λ is told. absurd (not_full is);
  ends_full = λ is. absurd (not_full is);
}
  where
    apart : status.NoMemory ≡ status.Done → ⊥
    apart same = cc

    not_full : status.NoMemory ≡ status.StoreFull → ⊥
    not_full same = cc

-- a run ends in a part
pub Serving-stops : {D : Type 0} (seen : D → Option (List ℕ)) (may_leave : D → List ℕ → Type 0) (moment : D → ℕ) (left_since : D → ℕ → List ℕ → Type 0) (set : Setting) (full : Bool) (from : D) (reserved : List ℕ) (begin : Course)
    (number : ℕ) (state : Standing) (journal later : JournalState D) (text : List ℕ) (part : Part) (left behind parts : List Part) (ended : Status) (disk : D) (old mid new : Option (List ℕ))
    → left ≡ part ∷ behind → (serving : Serving seen may_leave moment left_since set full from reserved begin number state journal text left parts old mid) → ended ≢ status.Done
    → EndsIn seen may_leave moment left_since set full from reserved serving.mid part ended later text mid new → disk ≡ later.disk
    → RunsParts seen may_leave moment left_since set full from reserved begin parts ended disk old new
Serving-stops seen may_leave moment left_since set full from reserved begin number state journal later text part left behind parts status.NoMemory disk old mid new is serving not_done ends same =
    stops_unserved seen may_leave moment left_since set full from reserved begin number state journal later text left parts disk old mid new serving ends.0 ends.1 same
Serving-stops seen may_leave moment left_since set full from reserved begin number state journal later text part left behind parts status.WriteFault disk old mid new is serving not_done ends same =
    stops_served seen may_leave moment left_since set full from reserved begin number state journal later text part left behind parts status.WriteFault disk old mid new is serving not_done ends same
Serving-stops seen may_leave moment left_since set full from reserved begin number state journal later text part left behind parts status.StoreFault disk old mid new is serving not_done ends same =
    stops_served seen may_leave moment left_since set full from reserved begin number state journal later text part left behind parts status.StoreFault disk old mid new is serving not_done ends same
Serving-stops seen may_leave moment left_since set full from reserved begin number state journal later text part left behind parts status.StoreFull disk old mid new is serving not_done ends same =
    stops_served seen may_leave moment left_since set full from reserved begin number state journal later text part left behind parts status.StoreFull disk old mid new is serving not_done ends same
Serving-stops seen may_leave moment left_since set full from reserved begin number state journal later text part left behind parts status.Done disk old mid new is serving not_done ends same = absurd (not_done refl)
Serving-stops seen may_leave moment left_since set full from reserved begin number state journal later text part left behind parts status.Usage disk old mid new is serving not_done ends same = absurd ends.stopped
Serving-stops seen may_leave moment left_since set full from reserved begin number state journal later text part left behind parts status.SubscribersRefused disk old mid new is serving not_done ends same = absurd ends.stopped
Serving-stops seen may_leave moment left_since set full from reserved begin number state journal later text part left behind parts status.ScenarioRefused disk old mid new is serving not_done ends same = absurd ends.stopped
Serving-stops seen may_leave moment left_since set full from reserved begin number state journal later text part left behind parts status.ReadFault disk old mid new is serving not_done ends same = absurd ends.stopped
Serving-stops seen may_leave moment left_since set full from reserved begin number state journal later text part left behind parts status.NotJournal disk old mid new is serving not_done ends same = absurd ends.stopped
Serving-stops seen may_leave moment left_since set full from reserved begin number state journal later text part left behind parts status.TooLong disk old mid new is serving not_done ends same = absurd ends.stopped

-- no part was served, since memory ran out
pub Serving-nothing : {D : Type 0} (seen : D → Option (List ℕ)) (may_leave : D → List ℕ → Type 0) (moment : D → ℕ) (left_since : D → ℕ → List ℕ → Type 0) (faults : D → ℕ) (set : Setting) (full : Bool) (from : D) (journal : JournalState D) (parts : List Part)
    (disk : D) (old : Option (List ℕ)) → Begins seen may_leave moment left_since faults set.rows from journal → disk ≡ journal.disk
    → RunsParts seen may_leave moment left_since set full from (limits_of journal) (beginning set.rows (limits_of journal)) parts status.NoMemory disk old old
Serving-nothing seen may_leave moment left_since faults set full from journal parts disk old begins same =
    let begin = beginning set.rows (limits_of journal) in
    let covers : Covers seen may_leave moment left_since set.rows from (limits_of journal) [] journal = record {
      subscribers = begins.subscribers;
      released = λ sub inside. All-nil (λ n. n ≤ slice_index (limits_of journal) sub);
      most = λ imsi. reserved_in journal.limits imsi;
      durable = begins.durable;
      always = λ told. (λ sub. 0, since_opening seen may_leave moment left_since set.rows from journal.disk (limits_of journal) (λ sub. 0) begins.always told);
    } in
    record {
      served = [];
      left = parts;
      cut = refl;
      whole = λ is. absurd (apart is);
      stop = None;
      stopped = refl;
      records = [];
      end = begin;
      leads = (refl, refl);
      fits = All-nil PartFits;
      written = Appends-none old;
      kept = kept_covers seen may_leave moment left_since set.rows from disk (limits_of journal) begin journal covers same;
      keeps = durable_keeps seen may_leave from disk (λ imsi. reserved_in journal.limits imsi) journal begins.durable same;
      always = always_covers seen may_leave moment left_since set.rows from disk (limits_of journal) begin journal covers same;
      full_at = λ is told. absurd (not_full is);
      ends_full = λ is. absurd (not_full is);
    }
  where
    apart : status.NoMemory ≡ status.Done → ⊥
    apart same = cc

    not_full : status.NoMemory ≡ status.StoreFull → ⊥
    not_full same = cc
