-- For the law of contexts: what holds of a subscriber's home goes on through a job, whether or not the job holds the subscriber.
use Rattle.std.proofs.Common.{◌≡◌, ◌≢◌, ℕ, zero, suc, ◌^◌, ◌<◌, ◌≤◌, ◌==◌, ◌||◌, Bool, true, false, cond, List, [], ◌∷◌, ◌++◌, length, map, All, Option, Some, None, slice_get, refl, sym, ap, ◌∙◌, subst, arith, inl, inr, ⊎_elim, append_assoc, append-nil}
use Rattle.std.specs.Prelude.{IsPermutation}
use Rattle.std.specs.List.{list_any}
use Rattle.std.proofs.lemmas.Bool.{eq-eqb, eqb-true}
use Rattle.std.proofs.lemmas.List.Concat.{flat_map-append}
use Rattle.std.proofs.lemmas.List.Elements.{All-cons, All-head, All-nil, All-tail}
use Rattle.std.proofs.lemmas.List.Sorted.{IsPermutation-refl}
use Rattle.auc_aes.specs.Bytes.{IsBlock}
use Rattle.auc_hmac.specs.declared.method.Method.{Method}
use Rattle.auc_ident.specs.Names.{EqualNamesAreOne}
use Rattle.auc_ident.specs.Ordinals.{last_ordinal}
use Rattle.auc_lines.specs.Part.{held_subs, holds}
use Rattle.auc_lines.specs.declared.part.Line.{Line}
use Rattle.auc_reauth.specs.Machine.{Used, used_by}
use Rattle.auc_reauth.specs.Store.{entry}
use Rattle.auc_server.specs.Laws.{OrdinalsRise}
use Rattle.auc_server.specs.Ordinals.{home_at, home_place}
use Rattle.auc_server.specs.Server.{ServerEnd, resumed_of}
use Rattle.auc_subs.specs.Setting.{Setting}
use Rattle.auc_server.specs.declared.server.Resumed.{Resumed}
use Rattle.auc_server.specs.declared.setting.HomeRow.{HomeRow}
use Rattle.auc_world.specs.Agreement.{Happening, IsFresh, Occurs, after, after_one}
use Rattle.auc_world.specs.Came.{came}
use Rattle.auc_world.specs.Given.{Before, EventGives, JobGives, behind}
use Rattle.auc_world.specs.Happened.{happened}
use Rattle.auc_record.specs.Lines.{numbers_of}
use Rattle.auc_world.specs.Net.{Net, keeps_at, same_method}
use Rattle.auc_world.specs.Places.{EachEventMovesHomesOnce, HomeMoves, home_places, server_at}
use Rattle.auc_world.specs.Resumption.{counters_in, counters_resumed, resumed_for}
use Rattle.auc_world.specs.Start.{Kept, home_of, kept_now, kept_of, kept_with, start_of}
use Rattle.auc_record.specs.declared.event.Event.{Event as Happens}
use Rattle.auc_world.specs.declared.net.Session.{Session}
use Rattle.auc_record.specs.declared.record.LineRecord.{LineRecord}
use Rattle.auc_record.specs.declared.record.LineRecord.TheVariants.{Event}
use Rattle.auc_transcript.proofs.HomeEventLemmas.{ResumeOthers, ResumesAnother}
use Rattle.auc_transcript.proofs.HomeKeepLemmas.{AreOnce, AtHome, IsNameUpTo, KeepsHome, home_goes_on, numbers_in_both, once_before}
use Rattle.auc_transcript.proofs.HomeNextLemmas.{AreAlike, homes_next, is_placed, others_stay, place_stays}
use Rattle.auc_transcript.proofs.HomeTurnLemmas.{AreOthers, IsOfAnother, IsWithin}
use Rattle.auc_transcript.proofs.JobFoldLemmas.{job_keeps}
use Rattle.auc_transcript.proofs.MoveFoldLemmas.{AreLedTo, led_alike, led_between, stored_alone}
use Rattle.auc_transcript.proofs.PutBackLemmas.{held_is, held_known, home_among, home_begins, homes_of, is_held, place_among}
use Rattle.auc_transcript.proofs.RoundFoldLemmas.{IsKnownJob, StandInFront, job_stays, kept_busy}

-- what holds of a subscriber's home after some lines, with what is kept of it and the sessions so far
pub record HomeState (set : Setting) (m : Method) (sub : ℕ) (lines : List LineRecord) (k : Kept) (sessions : List Session) : Type 0 where
  pub keeps : KeepsHome set m sub k.ordinals (stored_alone (entry m k.home)) (counters_resumed m sub sessions) lines
  pub within : k.ordinals ≤ last_ordinal

-- the same within a job, of the home at a place, after what was used in earlier jobs
record HomeInJob (set : Setting) (m : Method) (sub place : ℕ) (start : Net) (past : List Used) (lines : List LineRecord) (w : Net) : Type 0 where
  happenings : List Happening
  reached : w ≡ after set start happenings
  alike : AreAlike w.homes start.homes
  within : IsWithin place w.homes
  keeps : KeepsHome set m sub (home_at w.homes place).ordinals (home_places m place w) (past ++ counters_resumed m sub w.sessions) lines

after-push : (set : Setting) (w : Net) (hs : List Happening) (h : Happening) → after set w (hs ++ h ∷ []) ≡ after_one set (after set w hs) h
after-push set w [] h = refl
after-push set w (g ∷ hs) h = after-push set (after_one set w g) hs h

counters-append : (m : Method) (sub : ℕ) (xs ys : List Session) → counters_resumed m sub (xs ++ ys) ≡ counters_resumed m sub xs ++ counters_resumed m sub ys
counters-append m sub xs ys = flat_map-append (λ (session : Session). counters_in m sub session.server) xs ys

get_past : {X : Type 0} (xs : List X) (i : ℕ) → length xs ≤ i → slice_get xs i ≡ None
get_past [] i past = refl
get_past (x ∷ xs) zero past = absurd (omega arith)
get_past (x ∷ xs) (suc i) past = get_past xs i (omega arith)

-- ---- a job that doesn't hold the subscriber

others_of : (kept : List Kept) (subs : List ℕ) (sub : ℕ) → list_any (λ s. s == sub) subs ≡ false → AreOthers sub (map (home_of kept) subs)
others_of kept [] sub none = All-nil (λ (home : HomeRow). home.sub ≢ sub)
others_of kept (s ∷ subs) sub none = by (s == sub) refl (others_of kept subs sub)
  where
    split : (a b : Bool) → (a || b) ≡ false → (a ≡ false) × (b ≡ false)
    split true b e = absurd cc
    split false b e = (refl, e)

    by : (b : Bool) → (s == sub) ≡ b → (list_any (λ x. x == sub) subs ≡ false → AreOthers sub (map (home_of kept) subs)) → AreOthers sub (home_of kept s ∷ map (home_of kept) subs)
    by b e rest =
        let (here, later) = split (s == sub) (list_any (λ x. x == sub) subs) none in
        All-cons (λ (home : HomeRow). home.sub ≢ sub) (home_of kept s) (map (home_of kept) subs) (λ same. clash here (eq-eqb s sub same)) (rest later)
      where
        clash : (s == sub) ≡ false → (s == sub) ≡ true → ⊥
        clash e f = cc

none_resumed : (m : Method) (sub : ℕ) (o : Option ServerEnd) → ResumesAnother sub o → counters_in m sub o ≡ []
none_resumed m sub None apart = refl
none_resumed m sub (Some s) apart = by (same_method s.options.method m) (resumed_of s) apart
  where
    one : (r : Resumed) → r.sub ≢ sub → (b : Bool) → (r.sub == sub) ≡ b → cond b (used_by r.context.counter r.context ∷ []) [] ≡ []
    one r apart true e = absurd (apart (eqb-true r.sub sub e))
    one r apart false e = refl

    by : (b : Bool) (r : Option Resumed) → IsOfAnother sub r → cond b (resumed_for sub r) [] ≡ []
    by false r apart = refl
    by true None apart = refl
    by true (Some r) apart = one r apart (r.sub == sub) refl

nothing_resumed : (m : Method) (sub : ℕ) (sessions : List Session) → ResumeOthers sub sessions → counters_resumed m sub sessions ≡ []
nothing_resumed m sub [] all = refl
nothing_resumed m sub (session ∷ sessions) all =
    ap (λ (l : List Used). l ++ counters_resumed m sub sessions)
    (none_resumed m sub session.server (All-head (λ (s : Session). ResumesAnother sub s.server) session sessions all))
    ∙ nothing_resumed m sub sessions (All-tail (λ (s : Session). ResumesAnother sub s.server) session sessions all)

record KeepsOut (sub : ℕ) (w : Net) : Type 0 where
  others : AreOthers sub w.homes
  resume : ResumeOthers sub w.sessions

event_out : OrdinalsRise → (set : Setting) (sub : ℕ) (place : Before) (w next : Net) (e : Happens) (lines : List LineRecord) → EventGives set place w e lines next → KeepsOut sub w → KeepsOut sub next
event_out rise set sub place w next e lines gives out =
    let n = homes_next rise set w e gives.told in
    subst (KeepsOut sub) (sym gives.leads)
    (record { others = others_stay sub w.homes (happened set w e gives.told).homes n.alike out.others; resume = n.others sub out.others out.resume })

-- with more lines
pub more_lines : (set : Setting) (m : Method) (sub : ℕ) (lines more : List LineRecord) (k : Kept) (sessions : List Session) → HomeState set m sub lines k sessions → HomeState set m sub (lines ++ more) k sessions
more_lines set m sub lines more k sessions h = record {
  keeps = record {
    origins = h.keeps.origins;
    given = h.keeps.given;
    led = h.keeps.led;
    drawn = λ n. let drawn = h.keeps.drawn n in let cut = numbers_in_both sub n lines more in omega (arith, drawn, cut);
    named = h.keeps.named;
  };
  within = h.within;
}

-- such a job resumes nothing of the subscriber
pub home_idle : OrdinalsRise → (set : Setting) (m : Method) (sub : ℕ) (early : List LineRecord) (kept : List Kept) (beside : List LineRecord) (job : List Line) (lines : List LineRecord) (net : Net) (k : Kept)
    (sessions : List Session) → JobGives set (record { early = early; beside = beside; own = [] }) (start_of set kept job) job lines net → IsKnownJob set job → holds sub job ≡ false
    → HomeState set m sub (early ++ beside) k sessions → HomeState set m sub ((early ++ beside) ++ lines) k (sessions ++ net.sessions)
home_idle rise set m sub early kept beside job lines net k sessions gives known free h =
    let start : KeepsOut sub (start_of set kept job) =
    record { others = others_of kept (held_subs job) sub (held_is sub job ∙ free); resume = All-nil (λ (s : Session). ResumesAnother sub s.server) } in
    let out = job_keeps set (λ place w. KeepsOut sub w) (λ place w more out. out) (λ place w next e more here out. event_out rise set sub place w next e more here out)
    (record { early = early; beside = beside; own = [] }) (start_of set kept job) net job lines gives start in
    let same = counters-append m sub sessions net.sessions ∙ ap (λ (l : List Used). counters_resumed m sub sessions ++ l) (nothing_resumed m sub net.sessions out.resume)
    ∙ append-nil (counters_resumed m sub sessions) in
    let more = more_lines set m sub (early ++ beside) lines k sessions h in
    record {
      keeps = subst (λ (l : List Used). KeepsHome set m sub k.ordinals (stored_alone (entry m k.home)) l ((early ++ beside) ++ lines)) (sym same) more.keeps;
      within = more.within;
    }

-- ---- a job that holds it

module _ (rise : OrdinalsRise) (names : EqualNamesAreOne) (moves : EachEventMovesHomesOnce) (set : Setting) (block : IsBlock set.names) (m : Method) (sub : ℕ) (few : sub < 2 ^ 32) where
  module _ (start : Net) (p : ℕ) (past : List Used) (fresh : IsFresh start) (begun : home_place start.homes sub ≡ Some p) where
    event_goes_on : (place : Before) (w next : Net) (e : Happens) (before lines : List LineRecord) → EventGives set place w e lines next → AreOnce sub (before ++ lines)
        → HomeInJob set m sub p start past before w → HomeInJob set m sub p start past (before ++ lines) next
    event_goes_on place w next e before lines gives once h = subst (HomeInJob set m sub p start past (before ++ lines)) (sym gives.leads) here
      where
        v : Net
        v = happened set w e gives.told

        placed : home_place w.homes sub ≡ Some p
        placed = place_stays start.homes w.homes sub h.alike ∙ begun

        move : HomeMoves set m sub p w (happened set w e gives.told) gives.told.notes
        move =
            subst (λ (x : Net). HomeMoves set m sub p x (happened set x e gives.told) gives.told.notes) (sym h.reached)
            (moves set start h.happenings (Occurs e gives.told) m sub p fresh begun)

        here : HomeInJob set m sub p start past (before ++ lines) (happened set w e gives.told)
        here =
            let n = homes_next rise set w e gives.told in
            let within = n.within p h.within in record {
              happenings = h.happenings ++ Occurs e gives.told ∷ [];
              reached = ap (λ (x : Net). happened set x e gives.told) h.reached ∙ sym (after-push set start h.happenings (Occurs e gives.told));
              alike = n.alike ∙ h.alike;
              within = within;
              keeps = home_goes_on names set block m sub few (home_places m p w) (home_places m p (happened set w e gives.told)) past (counters_resumed m sub w.sessions)
                  (counters_resumed m sub (happened set w e gives.told).sessions) (home_at w.homes p) (home_at (happened set w e gives.told).homes p) gives.told.notes before lines
                  (is_placed w.homes sub p placed) (n.rises p) within once
                  (λ t c number left drawn.
                  ⊎_elim (λ (there : home_places m p w (suc t) ≡ Some c). inl there)
                  (λ (asked : (x : Happens) → numbers_of sub (Event (record { event = x; result = came set w e gives.told }) ∷ []) ≡ number ∷ []). inr (ap (numbers_of sub) gives.lines_are ∙ asked e))
                  (n.asks m sub p t c number placed gives.notes left drawn)) h.keeps move;
            }

    -- the state of the job so far, if each number of the lines so far is drawn once
    abbrev Goes : List LineRecord → Before → Net → Type 0
    Goes base place w = AreOnce sub (base ++ place.own) → HomeInJob set m sub p start past (base ++ place.own) w

    quiet_goes : (base : List LineRecord) (place : Before) (w : Net) (lines : List LineRecord) → Goes base place w → Goes base (behind place lines) w
    quiet_goes base place w lines goes once =
        let join = append_assoc base place.own lines in
        let all = subst (AreOnce sub) (sym join) once in
        let h = goes (once_before sub (base ++ place.own) lines all) in
        subst (λ (l : List LineRecord). HomeInJob set m sub p start past l w) join (record {
          happenings = h.happenings;
          reached = h.reached;
          alike = h.alike;
          within = h.within;
          keeps = record {
            origins = h.keeps.origins;
            given = h.keeps.given;
            led = h.keeps.led;
            drawn = λ n. let drawn = h.keeps.drawn n in let cut = numbers_in_both sub n (base ++ place.own) lines in omega (arith, drawn, cut);
            named = h.keeps.named;
          };
        })

    event_goes : (base : List LineRecord) (place : Before) (w next : Net) (e : Happens) (lines : List LineRecord) → EventGives set place w e lines next → Goes base place w → Goes base (behind place lines) next
    event_goes base place w next e lines gives goes once =
        let join = append_assoc base place.own lines in
        let all = subst (AreOnce sub) (sym join) once in
        subst (λ (l : List LineRecord). HomeInJob set m sub p start past l next) join
        (event_goes_on place w next e (base ++ place.own) lines gives all (goes (once_before sub (base ++ place.own) lines all)))

    job_goes : (place : Before) (base : List LineRecord) (net : Net) (job : List Line) (lines : List LineRecord) → place.own ≡ [] → JobGives set place start job lines net → AreOnce sub (base ++ lines)
        → HomeInJob set m sub p start past base start → HomeInJob set m sub p start past (base ++ lines) net
    job_goes place base net job lines none gives once begins =
        let own = ap (λ (l : List LineRecord). base ++ (l ++ lines)) none in
        subst (λ (l : List LineRecord). HomeInJob set m sub p start past l net) own
        (job_keeps set (Goes base) (quiet_goes base) (event_goes base) place start net job lines gives
        (λ first. subst (λ (l : List LineRecord). HomeInJob set m sub p start past l start) (sym (ap (λ (l : List LineRecord). base ++ l) none ∙ append-nil base)) begins)
        (subst (AreOnce sub) (sym own) once))

  -- the job begins with what is kept
  begins_with : (kept : List Kept) (job : List Line) (p : ℕ) (base : List LineRecord) (sessions : List Session) → place_among sub (held_subs job) ≡ Some p
      → HomeState set m sub base (kept_of kept sub) sessions → HomeInJob set m sub p (start_of set kept job) (counters_resumed m sub sessions) base (start_of set kept job)
  begins_with kept job p base sessions at' h =
      let home = home_begins kept (held_subs job) sub p at' in
      let start = start_of set kept job in record {
        happenings = [];
        reached = refl;
        alike = refl;
        within = subst (λ (x : HomeRow). x.ordinals ≤ last_ordinal) (sym home) h.within;
        keeps = record {
          origins = h.keeps.origins;
          given = h.keeps.given;
          led = led_alike AtHome (stored_alone (entry m (kept_of kept sub).home)) (home_places m p start) (counters_resumed m sub sessions) (counters_resumed m sub sessions ++ [])
              h.keeps.origins h.keeps.given (places home)
              (subst (IsPermutation (counters_resumed m sub sessions)) (sym (append-nil (counters_resumed m sub sessions))) (IsPermutation-refl (counters_resumed m sub sessions))) h.keeps.led;
          drawn = h.keeps.drawn;
          named = subst (λ (x : HomeRow). All (IsNameUpTo set.names m sub x.ordinals) h.keeps.given) (sym home) h.keeps.named;
        };
      }
    where
      places : home_at (map (home_of kept) (held_subs job)) p ≡ home_of kept sub → (i : ℕ) → home_places m p (start_of set kept job) i ≡ stored_alone (entry m (kept_of kept sub).home) i
      places home zero = ap (λ (x : HomeRow). entry m x.store) home
      places home (suc t) = refl

  -- and what the home has after it is kept
  ends_with : (start net : Net) (p : ℕ) (lines : List LineRecord) (sessions : List Session) → HomeInJob set m sub p start (counters_resumed m sub sessions) lines net
      → HomeState set m sub lines (kept_now (home_at net.homes p) (keeps_at net p)) (sessions ++ net.sessions)
  ends_with start net p lines sessions h = record {
    keeps = record {
      origins = h.keeps.origins;
      given = h.keeps.given;
      led = subst (λ (l : List Used). AreLedTo AtHome (stored_alone (entry m (home_at net.homes p).store)) l h.keeps.origins h.keeps.given) (sym (counters-append m sub sessions net.sessions))
          (led_between AtHome (length net.sessions) (home_places m p net) (counters_resumed m sub sessions ++ counters_resumed m sub net.sessions) h.keeps.origins h.keeps.given (λ t w. (tt, tt))
          (λ t past. ap (server_at m p net.homes) (get_past net.sessions t past)) h.keeps.led);
      drawn = h.keeps.drawn;
      named = h.keeps.named;
    };
    within = h.within;
  }

  -- a job that holds the subscriber
  pub home_busy : (total : List LineRecord) → AreOnce sub total → (early : List LineRecord) (kept : List Kept) (beside : List LineRecord) (job : List Line) (lines : List LineRecord) (net : Net)
      (all : List Kept) (sessions : List Session) → JobGives set (record { early = early; beside = beside; own = [] }) (start_of set kept job) job lines net → IsKnownJob set job → holds sub job ≡ true
      → StandInFront total ((early ++ beside) ++ lines) → length all ≡ length set.rows → HomeState set m sub (early ++ beside) (kept_of kept sub) sessions
      → HomeState set m sub ((early ++ beside) ++ lines) (kept_of (kept_with all net) sub) (sessions ++ net.sessions)
  home_busy total once early kept beside job lines net all sessions gives known held (rest, cut) size h =
      let (p, at') = is_held sub job held in
      let start = start_of set kept job in
      let base = early ++ beside in
      let begun = home_among start.homes sub ∙ ap (place_among sub) (homes_of kept (held_subs job)) ∙ at' in
      let inside = known sub held in
      let ended = job_goes start p (counters_resumed m sub sessions) (record { packets = refl; sessions = refl }) begun (record { early = early; beside = beside; own = [] }) base net job lines refl gives
      (once_before sub (base ++ lines) rest (subst (AreOnce sub) cut once)) (begins_with kept job p base sessions at' h) in
      let stays = job_stays set (record { early = early; beside = beside; own = [] }) start net job lines gives in
      subst (λ (k : Kept). HomeState set m sub (base ++ lines) k (sessions ++ net.sessions))
      (sym (kept_busy set kept job net sub stays all p (held_known (length set.rows) job known) at' (omega (arith, inside, size))))
      (ends_with start net p (base ++ lines) sessions ended)
