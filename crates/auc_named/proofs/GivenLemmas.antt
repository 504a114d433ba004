-- What plain jobs give: their records are plain, all subscribers' jobs give the same about theirs, and no network has anything in it.
use Rattle.std.proofs.Common.{◌≡◌, ℕ, zero, suc, ◌<◌, ◌≤◌, true, List, [], ◌∷◌, ◌++◌, length, map, fold, All, slice_get, slice_index, Option, Some, None, refl, sym, ap, ◌∙◌, subst}
use Rattle.std.proofs.lemmas.Bool.{false≢true}
use Rattle.std.proofs.lemmas.List.{map-append}
use Rattle.std.proofs.lemmas.List.Elements.{All-append, All-cons, All-head, All-nil, All-same, All-tail}
use Rattle.auc_cards.specs.Known.{AreKnown, IsKnownLine}
use Rattle.auc_lines.specs.Part.{held_by, held_subs, with_held}
use Rattle.auc_lines.specs.declared.part.Line.{Line}
use Rattle.auc_lines.specs.declared.part.Line.TheVariants.{Draw, Sync, Give, Eps, Fiveg, Sites, Sim, Session, Start, Deliver, Repeat, GiveUp, Plain, Tamper, Cut}
use Rattle.auc_lines.specs.declared.part.Report.{Report}
use Rattle.auc_lines.specs.declared.part.Report.TheVariants.{Seq, Auts}
use Rattle.auc_named.specs.Named.{AreAt, ArePlain, is_as_it_came, is_plain, line_of, lines_of, record_of, records_of}
use Rattle.auc_subs.specs.Subscriber.{top_at}
use Rattle.auc_subs.specs.declared.row.Row.{Row}
use Rattle.auc_record.specs.Draws.{DrawGives}
use Rattle.auc_world.specs.Given.{Before, IsResynced, JobGives, JobsGive, LineGives, SyncGives, VectorsFollow, behind, said_by}
use Rattle.auc_world.specs.Net.{Net}
use Rattle.auc_subs.specs.Setting.{Setting}
use Rattle.auc_world.specs.Start.{Kept, fresh_net, kept_by_jobs, kept_with, start_of}
use Rattle.auc_record.specs.declared.record.LineRecord.{LineRecord}
use Rattle.auc_record.specs.declared.record.LineRecord.TheVariants as said
use Rattle.auc_vector.specs.declared.notes.NumberNote.TheVariants as number
use Rattle.auc_vector.specs.declared.notes.ResyncNote.{ResyncNote}
use Rattle.auc_vector.specs.declared.notes.ResyncNote.TheVariants as resync
use Rattle.auc_named.proofs.RecordLemmas.{ArePlainLines, ArePlainRecords, IsPlainRecord}

-- the setting of a round of some subscribers
abbrev pub with_rows : Setting → List Row → Setting
with_rows set own = record set { rows = own }

-- a line is plain, and the lines of a job are
abbrev IsPlain : Line → Type 0
IsPlain line = is_plain line ≡ true

abbrev IsPlainJob : List Line → Type 0
IsPlainJob job = All IsPlain job

-- ---- a subscriber of a place

-- it is one of all
place_within : (rows own : List Row) (places : List ℕ) (sub : ℕ) → AreAt rows places own → sub < length places → slice_index places sub < length rows
place_within rows own places sub at inside = at.within sub 0 inside

-- the greatest number of a row, if there is one
abbrev top_in : Option Row → ℕ
top_in None = 0
top_in (Some row) = top_at (row ∷ []) 0

-- the greatest number at a place is that of the row there
top_at-slice_get : (rows : List Row) (sub : ℕ) → top_at rows sub ≡ top_in (slice_get rows sub)
top_at-slice_get [] sub = refl
top_at-slice_get (row ∷ rows) zero = refl
top_at-slice_get (row ∷ rows) (suc sub) = top_at-slice_get rows sub

-- so is that of a place
pub top_named : (rows own : List Row) (places : List ℕ) (sub : ℕ) → AreAt rows places own → sub < length places → top_at own sub ≡ top_at rows (slice_index places sub)
top_named rows own places sub at inside = top_at-slice_get own sub ∙ ap top_in (at.same sub inside) ∙ sym (top_at-slice_get rows (slice_index places sub))

-- ---- draws

-- what a draw gives is plain
pub draw_plain : (set : Setting) (size sub count : ℕ) (lines : List LineRecord) → sub < size → DrawGives set sub count lines → ArePlainLines size lines
draw_plain set size sub zero lines inside gives = All-same (IsPlainRecord size) lines [] gives (All-nil (IsPlainRecord size))
draw_plain set size sub (suc count) [] inside gives = absurd gives
draw_plain set size sub (suc count) (said.Number s (number.Drew n) ∷ lines) inside (is, releasable, more) =
    All-cons (IsPlainRecord size) (said.Number s (number.Drew n)) lines (subst (λ k. k < size) (sym is) inside) (draw_plain set size sub count lines inside more)
draw_plain set size sub (suc count) (said.Number s (number.Withheld n stop) ∷ lines) inside (is, first, last, none) =
    All-cons (IsPlainRecord size) (said.Number s (number.Withheld n stop)) lines (subst (λ k. k < size) (sym is) inside) (All-same (IsPlainRecord size) lines [] none (All-nil (IsPlainRecord size)))
draw_plain set size sub (suc count) (said.Number s (number.Exhausted word) ∷ lines) inside (is, above, none) =
    All-cons (IsPlainRecord size) (said.Number s (number.Exhausted word)) lines (subst (λ k. k < size) (sym is) inside) (All-same (IsPlainRecord size) lines [] none (All-nil (IsPlainRecord size)))
draw_plain set size sub (suc count) (said.Sync s note ∷ lines) inside gives = absurd gives
draw_plain set size sub (suc count) (said.Give s n answer ∷ lines) inside gives = absurd gives
draw_plain set size sub (suc count) (said.Further further ∷ lines) inside gives = absurd gives
draw_plain set size sub (suc count) (said.Event r ∷ lines) inside gives = absurd gives

-- a draw for the subscriber of a place gives what one for it among some gives
draw_named : (set : Setting) (own : List Row) (places : List ℕ) (sub count : ℕ) (lines : List LineRecord) → AreAt set.rows places own → sub < length places
    → DrawGives (with_rows set own) sub count lines → DrawGives set (slice_index places sub) count (map (record_of places) lines)
draw_named set own places sub zero lines at inside gives = ap (map (record_of places)) gives
draw_named set own places sub (suc count) [] at inside gives = absurd gives
draw_named set own places sub (suc count) (said.Number s (number.Drew n) ∷ lines) at inside (is, releasable, more) = (
  ap (slice_index places) is,
  record {
    known = place_within set.rows own places sub at inside;
    first = releasable.first;
    last = subst (λ top. n ≤ top) (top_named set.rows own places sub at inside) releasable.last;
  },
  draw_named set own places sub count lines at inside more,
)
draw_named set own places sub (suc count) (said.Number s (number.Withheld n stop) ∷ lines) at inside (is, first, last, none) =
    (ap (slice_index places) is, first, subst (λ top. n ≤ top) (top_named set.rows own places sub at inside) last, ap (map (record_of places)) none)
draw_named set own places sub (suc count) (said.Number s (number.Exhausted word) ∷ lines) at inside (is, above, none) =
    (ap (slice_index places) is, subst (λ top. top ≤ word) (top_named set.rows own places sub at inside) above, ap (map (record_of places)) none)
draw_named set own places sub (suc count) (said.Sync s note ∷ lines) at inside gives = absurd gives
draw_named set own places sub (suc count) (said.Give s n answer ∷ lines) at inside gives = absurd gives
draw_named set own places sub (suc count) (said.Further further ∷ lines) at inside gives = absurd gives
draw_named set own places sub (suc count) (said.Event r ∷ lines) at inside gives = absurd gives

-- ---- an AUTS

-- what follows a resynchronisation is plain
follow_plain : (set : Setting) (size sub count : ℕ) (note : ResyncNote) (lines : List LineRecord) → sub < size → VectorsFollow set sub count note lines → ArePlainLines size lines
follow_plain set size sub count (resync.Moved seen seq_ms) lines inside gives = draw_plain set size sub count lines inside gives
follow_plain set size sub count (resync.InRange seen seq_ms) lines inside gives = draw_plain set size sub count lines inside gives
follow_plain set size sub count (resync.Beyond seen seq_ms) lines inside gives = All-same (IsPlainRecord size) lines [] gives (All-nil (IsPlainRecord size))
follow_plain set size sub count resync.BadAuts lines inside gives = All-same (IsPlainRecord size) lines [] gives (All-nil (IsPlainRecord size))

-- what an AUTS gives is
sync_plain : (set : Setting) (size sub count : ℕ) (report : Report) (lines : List LineRecord) → sub < size → SyncGives set sub report count lines → ArePlainLines size lines
sync_plain set size sub count report lines inside gives =
    All-same (IsPlainRecord size) lines (said.Sync sub gives.note ∷ gives.more) gives.lines_are
    (All-cons (IsPlainRecord size) (said.Sync sub gives.note) gives.more inside (follow_plain set size sub count gives.note gives.more inside gives.follows))

-- what follows that of the subscriber of a place
follow_named : (set : Setting) (own : List Row) (places : List ℕ) (sub count : ℕ) (note : ResyncNote) (lines : List LineRecord) → AreAt set.rows places own → sub < length places
    → VectorsFollow (with_rows set own) sub count note lines → VectorsFollow set (slice_index places sub) count note (map (record_of places) lines)
follow_named set own places sub count (resync.Moved seen seq_ms) lines at inside gives = draw_named set own places sub count lines at inside gives
follow_named set own places sub count (resync.InRange seen seq_ms) lines at inside gives = draw_named set own places sub count lines at inside gives
follow_named set own places sub count (resync.Beyond seen seq_ms) lines at inside gives = ap (map (record_of places)) gives
follow_named set own places sub count resync.BadAuts lines at inside gives = ap (map (record_of places)) gives

-- what an AUTS as it came says rests on its row alone
said_named : (set : Setting) (own : List Row) (row : Row) (sub place : ℕ) (report : Report) → is_as_it_came report ≡ true → said_by (with_rows set own) row sub report ≡ said_by set row place report
said_named set own row sub place (Seq seq bit) came = absurd (false≢true came)
said_named set own row sub place (Auts auts rand) came = refl

-- what an AUTS of it gives
sync_named : (set : Setting) (own : List Row) (places : List ℕ) (sub count : ℕ) (report : Report) (lines : List LineRecord) → AreAt set.rows places own → sub < length places → is_as_it_came report ≡ true
    → SyncGives (with_rows set own) sub report count lines → SyncGives set (slice_index places sub) report count (map (record_of places) lines)
sync_named set own places sub count report lines at inside came gives = record {
  row = gives.row;
  there = sym (at.same sub inside) ∙ gives.there;
  note = gives.note;
  more = map (record_of places) gives.more;
  lines_are = ap (map (record_of places)) gives.lines_are;
  resynced = subst (λ read. IsResynced read gives.note) (said_named set own gives.row sub (slice_index places sub) report came) gives.resynced;
  follows = follow_named set own places sub count gives.note gives.more at inside gives.follows;
}

-- ---- lines

-- what a plain line gives is plain
line_plain : (set : Setting) (size : ℕ) (before : Before) (net next : Net) (l : Line) (lines : List LineRecord) → length set.rows ≡ size → IsPlain l → IsKnownLine set.rows l
    → LineGives set before net l lines next → ArePlainLines size lines
line_plain set size before net next (Draw sub count) lines rows plain known (gives, stays) = draw_plain set size sub count lines (subst (λ k. sub < k) rows known) gives
line_plain set size before net next (Sync sub report count) lines rows plain known (gives, stays) = sync_plain set size sub count report lines (subst (λ k. sub < k) rows known.0) gives
line_plain set size before net next (Give sub n) lines rows plain known gives = absurd (false≢true plain)
line_plain set size before net next (Eps sub snid) lines rows plain known gives = absurd (false≢true plain)
line_plain set size before net next (Fiveg line) lines rows plain known gives = absurd (false≢true plain)
line_plain set size before net next (Sites line) lines rows plain known gives = absurd (false≢true plain)
line_plain set size before net next (Sim line) lines rows plain known gives = absurd (false≢true plain)
line_plain set size before net next (Session line) lines rows plain known gives = absurd (false≢true plain)
line_plain set size before net next (Start session) lines rows plain known gives = absurd (false≢true plain)
line_plain set size before net next (Deliver session at' packet) lines rows plain known gives = absurd (false≢true plain)
line_plain set size before net next (Repeat session) lines rows plain known gives = absurd (false≢true plain)
line_plain set size before net next (GiveUp session at') lines rows plain known gives = absurd (false≢true plain)
line_plain set size before net next (Plain session) lines rows plain known gives = absurd (false≢true plain)
line_plain set size before net next (Tamper packet place byte) lines rows plain known gives = absurd (false≢true plain)
line_plain set size before net next (Cut packet count) lines rows plain known gives = absurd (false≢true plain)

-- a plain line leaves its network
line_stays : (set : Setting) (before : Before) (net next : Net) (l : Line) (lines : List LineRecord) → IsPlain l → LineGives set before net l lines next → next ≡ net
line_stays set before net next (Draw sub count) lines plain (gives, stays) = stays
line_stays set before net next (Sync sub report count) lines plain (gives, stays) = stays
line_stays set before net next (Give sub n) lines plain gives = absurd (false≢true plain)
line_stays set before net next (Eps sub snid) lines plain gives = absurd (false≢true plain)
line_stays set before net next (Fiveg line) lines plain gives = absurd (false≢true plain)
line_stays set before net next (Sites line) lines plain gives = absurd (false≢true plain)
line_stays set before net next (Sim line) lines plain gives = absurd (false≢true plain)
line_stays set before net next (Session line) lines plain gives = absurd (false≢true plain)
line_stays set before net next (Start session) lines plain gives = absurd (false≢true plain)
line_stays set before net next (Deliver session at' packet) lines plain gives = absurd (false≢true plain)
line_stays set before net next (Repeat session) lines plain gives = absurd (false≢true plain)
line_stays set before net next (GiveUp session at') lines plain gives = absurd (false≢true plain)
line_stays set before net next (Plain session) lines plain gives = absurd (false≢true plain)
line_stays set before net next (Tamper packet place byte) lines plain gives = absurd (false≢true plain)
line_stays set before net next (Cut packet count) lines plain gives = absurd (false≢true plain)

-- it holds no USIM
line_holds_none : (l : Line) → IsPlain l → held_by l ≡ None
line_holds_none (Draw sub count) plain = refl
line_holds_none (Sync sub report count) plain = refl
line_holds_none (Give sub n) plain = absurd (false≢true plain)
line_holds_none (Eps sub snid) plain = refl
line_holds_none (Fiveg line) plain = absurd (false≢true plain)
line_holds_none (Sites line) plain = refl
line_holds_none (Sim line) plain = refl
line_holds_none (Session line) plain = absurd (false≢true plain)
line_holds_none (Start session) plain = refl
line_holds_none (Deliver session at' packet) plain = refl
line_holds_none (Repeat session) plain = refl
line_holds_none (GiveUp session at') plain = refl
line_holds_none (Plain session) plain = refl
line_holds_none (Tamper packet place byte) plain = refl
line_holds_none (Cut packet count) plain = refl

-- a plain line about the subscriber of a place is plain
line_of_plain : (places : List ℕ) (l : Line) → IsPlain l → IsPlain (line_of places l)
line_of_plain places (Draw sub count) plain = plain
line_of_plain places (Sync sub report count) plain = plain
line_of_plain places (Give sub n) plain = absurd (false≢true plain)
line_of_plain places (Eps sub snid) plain = absurd (false≢true plain)
line_of_plain places (Fiveg line) plain = absurd (false≢true plain)
line_of_plain places (Sites line) plain = absurd (false≢true plain)
line_of_plain places (Sim line) plain = absurd (false≢true plain)
line_of_plain places (Session line) plain = absurd (false≢true plain)
line_of_plain places (Start session) plain = absurd (false≢true plain)
line_of_plain places (Deliver session at' packet) plain = absurd (false≢true plain)
line_of_plain places (Repeat session) plain = absurd (false≢true plain)
line_of_plain places (GiveUp session at') plain = absurd (false≢true plain)
line_of_plain places (Plain session) plain = absurd (false≢true plain)
line_of_plain places (Tamper packet place byte) plain = absurd (false≢true plain)
line_of_plain places (Cut packet count) plain = absurd (false≢true plain)

-- what it gives is what the line about some gives
line_named : (set : Setting) (own : List Row) (places : List ℕ) (before other : Before) (net next : Net) (l : Line) (lines : List LineRecord) → AreAt set.rows places own → IsPlain l → IsKnownLine own l
    → LineGives (with_rows set own) before net l lines next → LineGives set other net (line_of places l) (map (record_of places) lines) next
line_named set own places before other net next (Draw sub count) lines at plain known (gives, stays) = (draw_named set own places sub count lines at (subst (λ k. sub < k) at.size known) gives, stays)
line_named set own places before other net next (Sync sub report count) lines at plain known (gives, stays) =
    (sync_named set own places sub count report lines at (subst (λ k. sub < k) at.size known.0) plain gives, stays)
line_named set own places before other net next (Give sub n) lines at plain known gives = absurd (false≢true plain)
line_named set own places before other net next (Eps sub snid) lines at plain known gives = absurd (false≢true plain)
line_named set own places before other net next (Fiveg line) lines at plain known gives = absurd (false≢true plain)
line_named set own places before other net next (Sites line) lines at plain known gives = absurd (false≢true plain)
line_named set own places before other net next (Sim line) lines at plain known gives = absurd (false≢true plain)
line_named set own places before other net next (Session line) lines at plain known gives = absurd (false≢true plain)
line_named set own places before other net next (Start session) lines at plain known gives = absurd (false≢true plain)
line_named set own places before other net next (Deliver session at' packet) lines at plain known gives = absurd (false≢true plain)
line_named set own places before other net next (Repeat session) lines at plain known gives = absurd (false≢true plain)
line_named set own places before other net next (GiveUp session at') lines at plain known gives = absurd (false≢true plain)
line_named set own places before other net next (Plain session) lines at plain known gives = absurd (false≢true plain)
line_named set own places before other net next (Tamper packet place byte) lines at plain known gives = absurd (false≢true plain)
line_named set own places before other net next (Cut packet count) lines at plain known gives = absurd (false≢true plain)

-- ---- jobs

-- the network of a job of plain lines begins with nothing in it
job_holds_none : (job : List Line) → IsPlainJob job → held_subs job ≡ []
job_holds_none [] plain = refl
job_holds_none (l ∷ job) plain =
    ap (λ (o : Option ℕ). fold (λ (subs : List ℕ) (line : Line). with_held subs (held_by line)) (with_held [] o) job) (line_holds_none l (All-head IsPlain l job plain))
    ∙ job_holds_none job (All-tail IsPlain l job plain)

-- so are such lines of a job
job_of_plain : (places : List ℕ) (job : List Line) → IsPlainJob job → IsPlainJob (map (line_of places) job)
job_of_plain places [] plain = All-nil IsPlain
job_of_plain places (l ∷ job) plain =
    All-cons IsPlain (line_of places l) (map (line_of places) job) (line_of_plain places l (All-head IsPlain l job plain)) (job_of_plain places job (All-tail IsPlain l job plain))

-- it begins with what that of a job of some has
start_named : (set narrow : Setting) (kept held : List Kept) (places : List ℕ) (job : List Line) → IsPlainJob job → start_of narrow held job ≡ start_of set kept (map (line_of places) job)
start_named set narrow kept held places job plain =
    ap (fresh_net narrow held) (job_holds_none job plain) ∙ sym (ap (fresh_net set kept) (job_holds_none (map (line_of places) job) (job_of_plain places job plain)))

-- and stays so
job_stays : (set : Setting) (before : Before) (net last : Net) (job : List Line) (lines : List LineRecord) → IsPlainJob job → JobGives set before net job lines last → last ≡ net
job_stays set before net last [] lines plain (none, is) = is
job_stays set before net last (l ∷ job) lines plain (front, rest, next, is, first, more) =
    job_stays set (behind before front) next last job rest (All-tail IsPlain l job plain) more ∙ line_stays set before net next l front (All-head IsPlain l job plain) first

-- what a plain job gives is plain
job_plain : (set : Setting) (size : ℕ) (before : Before) (net last : Net) (job : List Line) (lines : List LineRecord) → length set.rows ≡ size → IsPlainJob job → AreKnown set.rows job
    → JobGives set before net job lines last → ArePlainLines size lines
job_plain set size before net last [] lines rows plain known (none, is) = All-same (IsPlainRecord size) lines [] none (All-nil (IsPlainRecord size))
job_plain set size before net last (l ∷ job) lines rows plain known (front, rest, next, is, first, more) =
    All-same (IsPlainRecord size) lines (front ++ rest) is
    (All-append (IsPlainRecord size) front rest
    (line_plain set size before net next l front rows (All-head IsPlain l job plain) (All-head (IsKnownLine set.rows) l job known) first)
    (job_plain set size (behind before front) next last job rest rows (All-tail IsPlain l job plain) (All-tail (IsKnownLine set.rows) l job known) more))

-- and is what the job of some gives
job_named : (set : Setting) (own : List Row) (places : List ℕ) (before other : Before) (net last : Net) (job : List Line) (lines : List LineRecord) → AreAt set.rows places own → IsPlainJob job → AreKnown own job
    → JobGives (with_rows set own) before net job lines last → JobGives set other net (map (line_of places) job) (map (record_of places) lines) last
job_named set own places before other net last [] lines at plain known (none, is) = (ap (map (record_of places)) none, is)
job_named set own places before other net last (l ∷ job) lines at plain known (front, rest, next, is, first, more) = (
  map (record_of places) front,
  map (record_of places) rest,
  next,
  ap (map (record_of places)) is ∙ map-append (record_of places) front rest,
  line_named set own places before other net next l front at (All-head IsPlain l job plain) (All-head (IsKnownLine own) l job known) first,
  job_named set own places (behind before front) (behind other (map (record_of places) front)) next last job rest at (All-tail IsPlain l job plain) (All-tail (IsKnownLine own) l job known) more,
)

-- ---- rounds

-- the records of plain jobs are plain
pub jobs_plain : (set : Setting) (size : ℕ) (early : List LineRecord) (kept : List Kept) (beside : List LineRecord) (jobs : List (List Line)) (records : List (List LineRecord)) (nets : List Net)
    → length set.rows ≡ size → ArePlain jobs → All (AreKnown set.rows) jobs → JobsGive set early kept beside jobs records nets → ArePlainRecords size records
jobs_plain set size early kept beside [] records nets rows plain known (none, ends) = All-same (ArePlainLines size) records [] none (All-nil (ArePlainLines size))
jobs_plain set size early kept beside (job ∷ jobs) [] nets rows plain known gives = absurd gives
jobs_plain set size early kept beside (job ∷ jobs) (lines ∷ records) [] rows plain known gives = absurd gives
jobs_plain set size early kept beside (job ∷ jobs) (lines ∷ records) (net ∷ nets) rows plain known (first, more) =
    All-cons (ArePlainLines size) lines records
    (job_plain set size (record { early = early; beside = beside; own = [] }) (start_of set kept job) net job lines rows (All-head IsPlainJob job jobs plain) (All-head (AreKnown set.rows) job jobs known) first)
    (jobs_plain set size early kept (beside ++ lines) jobs records nets rows (All-tail IsPlainJob job jobs plain) (All-tail (AreKnown set.rows) job jobs known) more)

-- jobs over all subscribers give what those over some give, whatever came before
pub jobs_named : (set : Setting) (own : List Row) (places : List ℕ) (known early : List LineRecord) (held kept : List Kept) (beside others : List LineRecord) (jobs : List (List Line)) (records : List (List LineRecord)) (nets : List Net)
    → AreAt set.rows places own → ArePlain jobs → All (AreKnown own) jobs → JobsGive (with_rows set own) known held beside jobs records nets
    → JobsGive set early kept others (lines_of places jobs) (records_of places records) nets
jobs_named set own places known early held kept beside others [] records nets at plain rows (none, ends) = (ap (records_of places) none, ends)
jobs_named set own places known early held kept beside others (job ∷ jobs) [] nets at plain rows gives = absurd gives
jobs_named set own places known early held kept beside others (job ∷ jobs) (lines ∷ records) [] at plain rows gives = absurd gives
jobs_named set own places known early held kept beside others (job ∷ jobs) (lines ∷ records) (net ∷ nets) at plain rows (first, more) =
    let before : Before = record { early = known; beside = beside; own = [] } in
    let other : Before = record { early = early; beside = others; own = [] } in
    let here = All-head IsPlainJob job jobs plain in (
      subst (λ (start : Net). JobGives set other start (map (line_of places) job) (map (record_of places) lines) net) (start_named set (with_rows set own) kept held places job here)
          (job_named set own places before other (start_of (with_rows set own) held job) net job lines at here (All-head (AreKnown own) job jobs rows) first),
      jobs_named set own places known early held kept (beside ++ lines) (others ++ map (record_of places) lines) jobs records nets at (All-tail IsPlainJob job jobs plain) (All-tail (AreKnown own) job jobs rows) more,
    )

-- homes and devices keep what they did
pub jobs_keep : (set : Setting) (early : List LineRecord) (held : List Kept) (beside : List LineRecord) (kept : List Kept) (jobs : List (List Line)) (records : List (List LineRecord)) (nets : List Net)
    → ArePlain jobs → JobsGive set early held beside jobs records nets → kept_by_jobs kept nets ≡ kept
jobs_keep set early held beside kept [] records nets plain (none, ends) = ap (kept_by_jobs kept) ends
jobs_keep set early held beside kept (job ∷ jobs) [] nets plain gives = absurd gives
jobs_keep set early held beside kept (job ∷ jobs) (lines ∷ records) [] plain gives = absurd gives
jobs_keep set early held beside kept (job ∷ jobs) (lines ∷ records) (net ∷ nets) plain (first, more) =
    let here = All-head IsPlainJob job jobs plain in
    let before : Before = record { early = early; beside = beside; own = [] } in
    let empty : net ≡ fresh_net set held [] = job_stays set before (start_of set held job) net job lines here first ∙ ap (fresh_net set held) (job_holds_none job here) in
    ap (λ (w : Net). kept_by_jobs (kept_with kept w) nets) empty ∙ jobs_keep set early held (beside ++ lines) kept jobs records nets (All-tail IsPlainJob job jobs plain) more
