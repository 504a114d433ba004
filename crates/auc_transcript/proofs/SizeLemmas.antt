-- For the laws of keys and of completeness: each context of a home can be sent, through jobs and rounds.
use Rattle.std.proofs.Common.{◌≡◌, ℕ, zero, suc, List, [], ◌∷◌, ◌++◌, map, All, Option, Some, None, slice_get, refl, sym, ap, ◌∙◌, subst}
use Rattle.std.proofs.lemmas.List.Elements.{All-cons, All-nil, All-set}
use Rattle.std.proofs.lemmas.Option.{get_or_from_slice_get, slice_get_within}
use Rattle.auc_hmac.specs.declared.method.Method.{Method}
use Rattle.auc_hmac.specs.declared.method.Method.TheVariants as method
use Rattle.auc_lines.specs.Part.{held_subs}
use Rattle.auc_lines.specs.declared.part.End.{End}
use Rattle.auc_lines.specs.declared.part.End.TheVariants as end
use Rattle.auc_lines.specs.declared.part.Line.{Line}
use Rattle.auc_reauth.specs.Device.{Keeps}
use Rattle.auc_reauth.specs.Server.{Contexts, no_contexts}
use Rattle.auc_reauth.specs.Store.{entry}
use Rattle.auc_reauth.specs.declared.context.Context.{Context}
use Rattle.auc_server.specs.Server.{ServerEnd, resumed_of}
use Rattle.auc_server.specs.declared.server.Resumed.{Resumed}
use Rattle.auc_server.specs.declared.setting.HomeRow.{HomeRow}
use Rattle.auc_subs.specs.declared.row.Row.{Row}
use Rattle.auc_world.specs.Agreement.{AreSized, Happening, IsSized, Occurs, after, after_one}
use Rattle.auc_world.specs.Given.{Before, EventGives, JobGives, JobsGive, LineGives, PlainGives, RelayGives, behind, packet_of}
use Rattle.auc_world.specs.Net.{Net, other}
use Rattle.auc_subs.specs.Setting.{Setting}
use Rattle.auc_world.specs.Start.{Kept, fresh_kept, home_of, kept_by_jobs, kept_now, kept_of, kept_or, kept_with, put_back, start_of}
use Rattle.auc_record.specs.declared.event.Event.{Event}
use Rattle.auc_record.specs.declared.event.Event.TheVariants as event
use Rattle.auc_world.specs.declared.net.Session.{Session}
use Rattle.auc_record.specs.declared.record.LineRecord.{LineRecord}
use Rattle.auc_world.proofs.Facts.{run_is_sized, run_resumes_sized}
use Rattle.auc_transcript.proofs.KindLemmas.{by_kind, event_gives}

-- ---- what befalls a network

-- a network is one to which what befell another one led
pub record IsReached (set : Setting) (start net : Net) : Type 0 where
  pub happenings : List Happening
  pub leads : net ≡ after set start happenings

pub reached_itself : (set : Setting) (start : Net) → IsReached set start start
reached_itself set start = record { happenings = []; leads = refl }

after_more : (set : Setting) (w : Net) (hs : List Happening) (h : Happening) → after set w (hs ++ h ∷ []) ≡ after_one set (after set w hs) h
after_more set w [] h = refl
after_more set w (g ∷ hs) h = after_more set (after_one set w g) hs h

event_reaches : (set : Setting) (start : Net) (before : Before) (w next : Net) (e : Event) (lines : List LineRecord) → EventGives set before w e lines next → IsReached set start w
    → IsReached set start next
event_reaches set start before w next e lines gives r = record {
  happenings = r.happenings ++ Occurs e gives.told ∷ [];
  leads = gives.leads ∙ ap (λ (v : Net). after_one set v (Occurs e gives.told)) r.leads ∙ sym (after_more set start r.happenings (Occurs e gives.told));
}

relay_reaches : (set : Setting) (start : Net) (before : Before) (w next : Net) (session : ℕ) (at' : End) (o : Option ℕ) (lines : List LineRecord) → RelayGives set before w session at' o lines next
    → IsReached set start w → IsReached set start next
relay_reaches set start before w next session at' None [] gives r = subst (IsReached set start) (sym gives) r
relay_reaches set start before w next session at' None (l ∷ lines) gives r = absurd gives
relay_reaches set start before w next session at' (Some packet) [] gives r = absurd gives
relay_reaches set start before w next session at' (Some packet) (l ∷ lines) (mid, first, more) r =
    relay_reaches set start (behind before (l ∷ [])) mid next session (other at') (packet_of l) lines more
    (event_reaches set start before w mid (event.Deliver session at' packet) (l ∷ []) first r)

plain_reaches : (set : Setting) (start : Net) (before : Before) (w next : Net) (session : ℕ) (lines : List LineRecord) → PlainGives set before w session lines next → IsReached set start w
    → IsReached set start next
plain_reaches set start before w next session [] gives r = absurd gives
plain_reaches set start before w next session (l ∷ lines) (mid, first, more) r =
    relay_reaches set start (behind before (l ∷ [])) mid next session end.Peer (packet_of l) lines more (event_reaches set start before w mid (event.Start session) (l ∷ []) first r)

pub line_reaches : (set : Setting) (start : Net) (before : Before) (w next : Net) (l : Line) (lines : List LineRecord) → LineGives set before w l lines next → IsReached set start w
    → IsReached set start next
line_reaches set start before w next l lines = by_kind (λ x. LineGives set before w x lines next → IsReached set start w → IsReached set start next)
    (λ x is gives r. subst (IsReached set start) (sym (is.gives set before w next lines gives).1) r)
    (λ e gives r. event_reaches set start before w next e lines (event_gives set before w next e lines gives) r)
    (λ session gives r. plain_reaches set start before w next session lines gives r) l

pub job_reaches : (set : Setting) (start : Net) (before : Before) (w last : Net) (job : List Line) (lines : List LineRecord) → JobGives set before w job lines last → IsReached set start w
    → IsReached set start last
job_reaches set start before w last [] lines (none, same) r = subst (IsReached set start) (sym same) r
job_reaches set start before w last (l ∷ job) lines (front, rest, next, cut, gives, more) r =
    job_reaches set start (behind before front) next last job rest more (line_reaches set start before w next l front gives r)

-- ---- what is kept

-- each context of a store can be sent
abbrev pub IsSizedStore : Contexts → Type 0
IsSizedStore store = (m : Method) (c : Context) → entry m store ≡ Some c → IsSized c

no_context : (c : Context) → ◌≡◌ {A = Option Context} None (Some c) → ⊥
no_context c e = cc

none_sized : IsSizedStore no_contexts
none_sized method.Aka c e = absurd (no_context c e)
none_sized method.Prime c e = absurd (no_context c e)

-- and so can each that is kept at a home
abbrev pub AreKeptSized : List Kept → Type 0
AreKeptSized kept = All (λ k. IsSizedStore k.home) kept

all_at : {X : Type 0} (P : X → Type 0) (xs : List X) (i : ℕ) (x : X) → All P xs → slice_get xs i ≡ Some x → P x
all_at P xs i x all there = subst P (get_or_from_slice_get xs i x x there) (all i x (slice_get_within xs i x there))

kept_sized : (kept : List Kept) (sub : ℕ) → AreKeptSized kept → IsSizedStore (kept_of kept sub).home
kept_sized kept sub all = by (slice_get kept sub) refl
  where
    by : (o : Option Kept) → slice_get kept sub ≡ o → IsSizedStore (kept_or o).home
    by None there = none_sized
    by (Some k) there = all_at (λ (k : Kept). IsSizedStore k.home) kept sub k all there

homes_sized : (kept : List Kept) (subs : List ℕ) → AreKeptSized kept → AreSized (map (home_of kept) subs)
homes_sized kept [] all m place c is = none_sized m c is
homes_sized kept (sub ∷ subs) all m zero c is = kept_sized kept sub all m c is
homes_sized kept (sub ∷ subs) all m (suc place) c is = homes_sized kept subs all m place c is

-- at the beginning of a job
pub start_sized : (set : Setting) (kept : List Kept) (job : List Line) → AreKeptSized kept → AreSized (start_of set kept job).homes
start_sized set kept job all = homes_sized kept (held_subs job) all

-- and later
pub reached_sized : (set : Setting) (kept : List Kept) (job : List Line) (net : Net) → AreKeptSized kept → IsReached set (start_of set kept job) net → AreSized net.homes
reached_sized set kept job net all r =
    subst (λ (w : Net). AreSized w.homes) (sym r.leads) (run_is_sized set (start_of set kept job) r.happenings (start_sized set kept job all) (record { packets = refl; sessions = refl }))

-- so can what a server took up again
pub reached_resumes : (set : Setting) (kept : List Kept) (job : List Line) (net : Net) (place : ℕ) (a : Session) (s : ServerEnd) (r : Resumed) → AreKeptSized kept
    → IsReached set (start_of set kept job) net → slice_get net.sessions place ≡ Some a → a.server ≡ Some s → resumed_of s ≡ Some r → IsSized r.context
reached_resumes set kept job net place a s r all reached there is has =
    run_resumes_sized set (start_of set kept job) reached.happenings place a s r (start_sized set kept job all) (record { packets = refl; sessions = refl })
    (subst (λ (w : Net). slice_get w.sessions place ≡ Some a) reached.leads there) is has

put_sized : (kept : List Kept) (homes : List HomeRow) (stores : List Keeps) → AreKeptSized kept → AreSized homes → AreKeptSized (put_back kept homes stores)
put_sized kept [] stores all sized = all
put_sized kept (home ∷ homes) [] all sized = all
put_sized kept (home ∷ homes) (keeps ∷ stores) all sized =
    All-set (λ (k : Kept). IsSizedStore k.home) (put_back kept homes stores) home.sub (kept_now home keeps) (λ m c is. sized m zero c is)
    (put_sized kept homes stores all (λ m place c is. sized m (suc place) c is))

-- after the jobs of a round
jobs_sized : (set : Setting) (early : List LineRecord) (first kept : List Kept) (beside : List LineRecord) (jobs : List (List Line)) (records : List (List LineRecord)) (nets : List Net)
    → AreKeptSized first → AreKeptSized kept → JobsGive set early first beside jobs records nets → AreKeptSized (kept_by_jobs kept nets)
jobs_sized set early first kept beside [] records nets began all (none, is) = subst (λ (ns : List Net). AreKeptSized (kept_by_jobs kept ns)) (sym is) all
jobs_sized set early first kept beside (job ∷ jobs) [] nets began all gives = absurd gives
jobs_sized set early first kept beside (job ∷ jobs) (lines ∷ records) [] began all gives = absurd gives
jobs_sized set early first kept beside (job ∷ jobs) (lines ∷ records) (net ∷ nets) began all (gives, more) =
    let start = start_of set first job in
    let reached = job_reaches set start (record { early = early; beside = beside; own = [] }) start net job lines gives (reached_itself set start) in
    jobs_sized set early first (kept_with kept net) (beside ++ lines) jobs records nets began (put_sized kept net.homes net.stores all (reached_sized set first job net began reached)) more

pub round_sized : (set : Setting) (early : List LineRecord) (kept : List Kept) (jobs : List (List Line)) (records : List (List LineRecord)) (nets : List Net)
    → AreKeptSized kept → JobsGive set early kept [] jobs records nets → AreKeptSized (kept_by_jobs kept nets)
round_sized set early kept jobs records nets all gives = jobs_sized set early kept kept [] jobs records nets all all gives

-- before the first round there is none
pub first_sized : (rows : List Row) → AreKeptSized (map (λ r. fresh_kept) rows)
first_sized [] = All-nil (λ (k : Kept). IsSizedStore k.home)
first_sized (r ∷ rows) = All-cons (λ (k : Kept). IsSizedStore k.home) fresh_kept (map (λ (x : Row). fresh_kept) rows) none_sized (first_sized rows)
