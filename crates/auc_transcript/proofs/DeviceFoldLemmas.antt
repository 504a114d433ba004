-- For the law of contexts: the moves of a subscriber's device over the events of a job, and over jobs and rounds.
use Rattle.std.proofs.Common.{◌≡◌, ◌≢◌, ℕ, zero, suc, ◌==◌, ◌&&◌, Bool, true, false, List, [], ◌∷◌, ◌++◌, length, flat_map, All, Contains, Option, Some, None, slice_get, refl, sym, ap, ◌∙◌, subst, arith, inl, inr, ⊎_elim, append_assoc, append-nil}
use Rattle.std.specs.Prelude.{IsPermutation, if◌then◌else◌}
use Rattle.std.proofs.lemmas.Bool.{eqb-true}
use Rattle.std.proofs.lemmas.List.Concat.{flat_map-append}
use Rattle.std.proofs.lemmas.List.Elements.{All-append, All-cons, All-head, All-nil, All-tail, All-weaker, Contains-append_left, Contains-append_right}
use Rattle.std.proofs.lemmas.List.Sorted.{IsPermutation-append_comm, IsPermutation-append_left, IsPermutation-refl}
use Rattle.std.proofs.lemmas.Option.{slice_get_cases, slice_get_past}
use Rattle.auc_hmac.specs.declared.method.Method.{Method}
use Rattle.auc_lines.specs.Part.{held_subs, holds}
use Rattle.auc_lines.specs.declared.part.Line.{Line}
use Rattle.auc_peer.specs.Table.{origin_of}
use Rattle.auc_reauth.specs.Device.{Keeps, is_open}
use Rattle.auc_reauth.specs.Machine.{Accept, Adopt, Challenge, IsFresh, IsNew, Lose, Move, Resume, Used, Win}
use Rattle.auc_reauth.specs.Store.{entry}
use Rattle.auc_reauth.specs.declared.context.Context.{Context}
use Rattle.auc_server.specs.Moves.{moved_by}
use Rattle.auc_subs.specs.Setting.{Setting}
use Rattle.auc_subs.specs.Subscriber.{AreSubscribers}
use Rattle.auc_vector.specs.declared.notes.UsimNote.{UsimNote}
use Rattle.auc_world.specs.Agreement.{Happening, HaveSecrets, IsFresh as IsFreshNet, Occurs, after, after_one}
use Rattle.auc_world.specs.Came.{TellsNotes, came}
use Rattle.auc_record.specs.Event.{sqn_accepted}
use Rattle.auc_world.specs.Given.{Before, EventGives, JobGives, behind}
use Rattle.auc_world.specs.Happened.{ToldEvent, happened}
use Rattle.auc_record.specs.Lines.{accepted}
use Rattle.auc_world.specs.Net.{Net, device_place, keeps_or, place_with, same_method}
use Rattle.auc_world.specs.Places.{DeviceMoves, EachEventMovesDevicesOnce, IsDeviceMove, device_places, only, peer_at}
use Rattle.auc_world.specs.Resumption.{accepted_for, accepted_of, counters_accepted}
use Rattle.auc_world.specs.Start.{Kept, kept_of, kept_with, start_of}
use Rattle.auc_record.specs.declared.event.Event.{Event}
use Rattle.auc_record.specs.declared.event.Event.TheVariants as event
use Rattle.auc_world.specs.declared.net.Session.{Session}
use Rattle.auc_record.specs.declared.record.LineRecord.{LineRecord}
use Rattle.auc_record.specs.declared.record.LineRecord.TheVariants as record_of
use Rattle.auc_world.proofs.Facts.{AreAt, OpensAt, accepted-append, places_stay}
use Rattle.auc_transcript.proofs.DeviceEventLemmas.{Accepts, Alike, IsPlaced, Reaches, Stays, event_accepts, event_stays}
use Rattle.auc_transcript.proofs.EventLemmas.{all_before, event_served}
use Rattle.auc_transcript.proofs.JobFoldLemmas.{job_keeps}
use Rattle.auc_transcript.proofs.MoveFoldLemmas.{AreLedTo, MayMove, led_alike, led_between, led_on, origins_of, given_of, stored_alone}
use Rattle.auc_transcript.proofs.PutBackLemmas.{device_begins, held_known, is_held, keeps_begin, not_held}
use Rattle.auc_transcript.proofs.RoundFoldLemmas.{IsKnownJob, kept_busy, then_stays}
use Rattle.auc_transcript.proofs.ServedLemmas.{all_behind}
use Rattle.auc_transcript.proofs.SqnLemmas.{fresh_origin}
use Rattle.auc_transcript.proofs.WalkLemmas.{job_has_secrets}

-- ---- origins

-- the origin of a context is the value of an SQN that the subscriber's USIM accepted in some lines
pub record IsFrom (sub : ℕ) (lines : List LineRecord) (origin : ℕ) : Type 0 where
  pub sqn : List ℕ
  -- whatever its index length is, since sessions tell SQNs
  pub there : (bits : ℕ) → Contains (accepted bits sub lines) sqn
  pub six : length sqn ≡ 6
  pub is : origin ≡ origin_of sqn

more_lines : (sub : ℕ) (lines more : List LineRecord) (origins : List ℕ) → All (IsFrom sub lines) origins → All (IsFrom sub (lines ++ more)) origins
more_lines sub lines more origins all =
    All-weaker (IsFrom sub lines) (IsFrom sub (lines ++ more)) (λ origin from. record {
      sqn = from.sqn;
      there = λ bits.
          subst (λ (l : List (List ℕ)). Contains l from.sqn) (sym (accepted-append bits sub lines more))
          (Contains-append_left (accepted bits sub lines) (accepted bits sub more) from.sqn (from.there bits));
      six = from.six;
      is = from.is;
    }) origins all

-- ---- one event

-- a move that an event may make, with the lines after it
record Moves (m : Method) (sub place : ℕ) (w v : Net) (origins : List ℕ) (given : List (List ℕ)) (lines : List LineRecord) : Type 0 where
  move : Option Move
  places : (i : ℕ) → device_places m place v i ≡ (moved_by move (only (device_places m place w))).place i
  used : IsPermutation ((moved_by move (only (device_places m place w))).used ++ counters_accepted m sub w.sessions) (counters_accepted m sub v.sessions)
  meets : MayMove IsFresh (device_places m place w) origins given move
  from : All (IsFrom sub lines) (origins_of move)

module _ (set : Setting) (b : Before) (m : Method) (sub place : ℕ) (w : Net) (e : Event) (told : ToldEvent) (origins : List ℕ) (given : List (List ℕ))
    (earlier : All (IsFrom sub (all_before b)) origins) (accepts : Accepts m sub place w (happened set w e told) told (came set w e told))
    (fresh : (sqn : List ℕ) → Reaches sub (came set w e told) sqn → (x : List ℕ) → ((bits : ℕ) → Contains (accepted bits sub (all_before b)) x) → length x ≡ 6 → origin_of x ≢ origin_of sqn) where
  abbrev line : LineRecord
  line = record_of.Event (record { event = e; result = came set w e told })

  abbrev later : Net
  later = happened set w e told

  -- the SQN of a new context wasn't accepted before
  fresh_challenge : (t : ℕ) (c : Context) (sqn : List ℕ) → Reaches sub (came set w e told) sqn → c.origin ≡ origin_of sqn → MayMove IsFresh (device_places m place w) origins given (Some (Challenge t c))
  fresh_challenge t c sqn reaches origin h has =
      subst (IsNew c.origin) (sym has.origins_are)
      (All-weaker (IsFrom sub (all_before b)) (λ y. y ≢ c.origin) (λ y from same. fresh sqn reaches from.sqn from.there from.six (sym from.is ∙ same ∙ origin)) origins earlier)

  origin_from : (c : Context) (sqn : List ℕ) → Reaches sub (came set w e told) sqn → c.origin ≡ origin_of sqn → IsFrom sub (all_before b ++ line ∷ []) c.origin
  origin_from c sqn reaches origin =
      record {
        sqn = sqn;
        there = λ bits.
            let own : accepted bits sub (line ∷ []) ≡ sqn ∷ [] = ap (λ (n : Option UsimNote). sqn_accepted n ++ []) reaches.noted in
            subst (λ (l : List (List ℕ)). Contains l sqn) (sym (accepted-append bits sub (all_before b) (line ∷ []) ∙ ap (λ (l : List (List ℕ)). accepted bits sub (all_before b) ++ l) own))
            (Contains-append_right (accepted bits sub (all_before b)) (sqn ∷ []) sqn (zero, omega arith, refl));
        six = reaches.six;
        is = origin;
      }

  moves_on : (move : Option Move) → IsDeviceMove (device_places m place w) told.notes move
      → ((i : ℕ) → device_places m place later i ≡ (moved_by move (only (device_places m place w))).place i)
      → IsPermutation ((moved_by move (only (device_places m place w))).used ++ counters_accepted m sub w.sessions) (counters_accepted m sub later.sessions)
      → Moves m sub place w later origins given (all_before b ++ line ∷ [])
  moves_on None allowed places used =
      record { move = None; places = places; used = used; meets = tt; from = All-nil (IsFrom sub (all_before b ++ line ∷ [])) }
  moves_on (Some (Challenge t c)) (from, first) places used =
      ⊎_elim (λ (alike : Alike m place later w).
      record { move = None; places = alike; used = used; meets = tt; from = All-nil (IsFrom sub (all_before b ++ line ∷ [])) })
      (λ (reaches : Reaches sub (came set w e told) from.sqn). record {
        move = Some (Challenge t c);
        places = places;
        used = used;
        meets = fresh_challenge t c from.sqn reaches from.same;
        from = All-cons (IsFrom sub (all_before b ++ line ∷ [])) c.origin [] (origin_from c from.sqn reaches from.same) (All-nil (IsFrom sub (all_before b ++ line ∷ [])));
      }) (accepts from.sqn from.accepted)
  moves_on (Some (Accept counter)) allowed places used = record {
    move = Some (Accept counter);
    places = places;
    used = used;
    meets = λ h has. ap (is_open counter) (has.places_are zero) ∙ allowed;
    from = All-nil (IsFrom sub (all_before b ++ line ∷ []));
  }
  moves_on (Some (Resume t identity)) allowed places used = absurd allowed
  moves_on (Some (Win t)) allowed places used =
      record { move = Some (Win t); places = places; used = used; meets = λ h has. tt; from = All-nil (IsFrom sub (all_before b ++ line ∷ [])) }
  moves_on (Some (Lose t)) allowed places used =
      record { move = Some (Lose t); places = places; used = used; meets = λ h has. tt; from = All-nil (IsFrom sub (all_before b ++ line ∷ [])) }
  moves_on (Some (Adopt identity)) allowed places used =
      record { move = Some (Adopt identity); places = places; used = used; meets = λ h has. tt; from = All-nil (IsFrom sub (all_before b ++ line ∷ [])) }

-- ---- a job

-- a job after some lines of it: its happenings so far, and the moves of the device since the first round
record DeviceStands (set : Setting) (start : Net) (m : Method) (sub place : ℕ) (earlier : List Used) (b : Before) (w : Net) : Type 0 where
  happenings : List Happening
  leads : w ≡ after set start happenings
  stays : Stays start w
  placed : AreAt (IsPlaced set start.devices) w.sessions
  origins : List ℕ
  given : List (List ℕ)
  led : AreLedTo IsFresh (device_places m place w) (counters_accepted m sub w.sessions ++ earlier) origins given
  from : All (IsFrom sub (all_before b)) origins

pub after-append : (set : Setting) (w : Net) (hs gs : List Happening) → after set w (hs ++ gs) ≡ after set (after set w hs) gs
after-append set w [] gs = refl
after-append set w (h ∷ hs) gs = after-append set (after_one set w h) hs gs

-- a session is opened at the device of its subscriber
opens_placed : (set : Setting) (w : Net) (e : Event) → OpensAt (IsPlaced set w.devices) set w e
opens_placed set w (event.Open opening) = λ place is. is
opens_placed set w (event.Start session) = tt
opens_placed set w (event.Deliver session at' packet) = tt
opens_placed set w (event.Repeat session) = tt
opens_placed set w (event.GiveUp session at') = tt
opens_placed set w (event.Tamper packet place byte) = tt
opens_placed set w (event.Cut packet count) = tt

-- it stays there
pub placed_on : (set : Setting) (start w : Net) (e : Event) (told : ToldEvent) → w.devices ≡ start.devices → AreAt (IsPlaced set start.devices) w.sessions
    → AreAt (IsPlaced set start.devices) (happened set w e told).sessions
placed_on set start w e told same placed =
    subst (λ ds. AreAt (IsPlaced set ds) (happened set w e told).sessions) same
    (places_stay (IsPlaced set w.devices) set w e told (subst (λ ds. AreAt (IsPlaced set ds) w.sessions) (sym same) placed) (opens_placed set w e))

module _ (law : EachEventMovesDevicesOnce) (set : Setting) (are : AreSubscribers set.rows) (start : Net) (fresh : IsFreshNet start) (secrets : HaveSecrets set start.devices) (m : Method) (sub place : ℕ)
    (own : IsPlaced set start.devices sub place) (earlier : List Used) where
  after_quiet : (b : Before) (w : Net) (lines : List LineRecord) → DeviceStands set start m sub place earlier b w → DeviceStands set start m sub place earlier (behind b lines) w
  after_quiet b w lines st = record {
    happenings = st.happenings;
    leads = st.leads;
    stays = st.stays;
    placed = st.placed;
    origins = st.origins;
    given = st.given;
    led = st.led;
    from = subst (λ (l : List LineRecord). All (IsFrom sub l) st.origins) (sym (all_behind b lines)) (more_lines sub (all_before b) lines st.origins st.from);
  }

  -- the move of an event
  event_moves : (b : Before) (w next : Net) (e : Event) (lines : List LineRecord) (gives : EventGives set b w e lines next) (st : DeviceStands set start m sub place earlier b w)
      → Moves m sub place w (happened set w e gives.told) st.origins st.given (all_before b ++ record_of.Event (record { event = e; result = came set w e gives.told }) ∷ [])
  event_moves b w next e lines gives st =
      let told = gives.told in
      let same : w.devices ≡ start.devices = st.stays.devices in
      let moves : DeviceMoves m sub place w (happened set w e told) told.notes =
      subst (λ (v : Net). TellsNotes told (came set v e told) → DeviceMoves m sub place v (happened set v e told) told.notes) (sym st.leads)
      (λ tells. law set start st.happenings (Occurs e told) m sub place fresh are own tells) gives.notes in
      let own_now : IsPlaced set w.devices sub place = ap (λ ds. device_place set.rows ds sub) same ∙ own in
      let placed_now = subst (λ ds. AreAt (IsPlaced set ds) w.sessions) (sym same) st.placed in
      let accepts = event_accepts set b m sub place are w told own_now placed_now (subst (HaveSecrets set) (sym same) secrets) e gives.received gives.notes gives.usim in
      let served = event_served set b w e told gives.notes gives.centre gives.usim in
      moves_on set b m sub place w e told st.origins st.given st.from accepts
      (λ sqn reaches x there six.
      let f = served.fresh sub sqn reaches.noted in
      fresh_origin f.row.bits f.row.age f.row.usim (accepted f.row.bits sub (all_before b)) sqn x f.fresh reaches.six (there f.row.bits) six)
      moves.move moves.is_allowed moves.places moves.used

  after_event : (b : Before) (w next : Net) (e : Event) (lines : List LineRecord) → EventGives set b w e lines next → DeviceStands set start m sub place earlier b w
      → DeviceStands set start m sub place earlier (behind b lines) next
  after_event b w next e lines gives st =
      let told = gives.told in
      let line = record_of.Event (record { event = e; result = came set w e told }) in
      let then_is : Net = happened set w e told in
      let step = event_moves b w next e lines gives st in
      let used = (moved_by step.move (only (device_places m place w))).used in
      let were = counters_accepted m sub w.sessions in
      let are_now = counters_accepted m sub then_is.sessions in
      let stands : DeviceStands set start m sub place earlier (behind b (line ∷ [])) then_is = record {
        happenings = st.happenings ++ Occurs e told ∷ [];
        leads = ap (λ (v : Net). happened set v e told) st.leads ∙ sym (after-append set start st.happenings (Occurs e told ∷ []));
        stays = then_stays start w then_is st.stays (event_stays set w e told);
        placed = placed_on set start w e told st.stays.devices st.placed;
        origins = origins_of step.move ++ st.origins;
        given = given_of step.move ++ st.given;
        led = led_on IsFresh (device_places m place w) (device_places m place then_is) (were ++ earlier) (are_now ++ earlier) st.origins st.given step.move step.places
            (subst (λ (l : List Used). IsPermutation l (are_now ++ earlier)) (append_assoc used were earlier) (IsPermutation-append_left earlier (used ++ were) are_now step.used)) step.meets st.led;
        from = subst (λ (l : List LineRecord). All (IsFrom sub l) (origins_of step.move ++ st.origins)) (sym (all_behind b (line ∷ [])))
            (All-append (IsFrom sub (all_before b ++ line ∷ [])) (origins_of step.move) st.origins step.from (more_lines sub (all_before b) (line ∷ []) st.origins st.from));
      } in
      subst (λ (v : Net). DeviceStands set start m sub place earlier (behind b lines) v) (sym gives.leads)
      (subst (λ (ls : List LineRecord). DeviceStands set start m sub place earlier (behind b ls) then_is) (sym gives.lines_are) stands)

  -- a job
  job_moves : (b : Before) (last : Net) (job : List Line) (lines : List LineRecord) → JobGives set b start job lines last → DeviceStands set start m sub place earlier b start
      → DeviceStands set start m sub place earlier (behind b lines) last
  job_moves b last job lines gives st = job_keeps set (DeviceStands set start m sub place earlier) after_quiet after_event b start last job lines gives st

-- ---- jobs and rounds

-- a subscriber's device after some lines and sessions: its moves since the first round
pub record DeviceState (m : Method) (sub : ℕ) (lines : List LineRecord) (k : Kept) (sessions : List Session) : Type 0 where
  pub origins : List ℕ
  pub given : List (List ℕ)
  pub led : AreLedTo IsFresh (stored_alone (entry m k.device.contexts)) (counters_accepted m sub sessions) origins given
  pub from : All (IsFrom sub lines) origins

-- a job that holds the subscriber
pub device_busy : EachEventMovesDevicesOnce → (set : Setting) → AreSubscribers set.rows → (m : Method) (sub : ℕ) (early : List LineRecord) (kept : List Kept) (beside : List LineRecord) (job : List Line)
    (lines : List LineRecord) (net : Net) (all : List Kept) (sessions : List Session) → JobGives set (record { early = early; beside = beside; own = [] }) (start_of set kept job) job lines net
    → IsKnownJob set job → holds sub job ≡ true → length all ≡ length set.rows → DeviceState m sub (early ++ beside) (kept_of kept sub) sessions
    → DeviceState m sub ((early ++ beside) ++ lines) (kept_of (kept_with all net) sub) (sessions ++ net.sessions)
device_busy law set are m sub early kept beside job lines net all sessions gives known held size st =
    let b : Before = record { early = early; beside = beside; own = [] } in
    let start : Net = start_of set kept job in
    let (place, there) = is_held sub job held in
    let inside = known sub held in
    let subs = held_known (length set.rows) job known in
    let own : IsPlaced set start.devices sub place = device_begins set are (held_subs job) sub inside subs ∙ there in
    let used = counters_accepted m sub sessions in
    let began : DeviceStands set start m sub place used b start = record {
      happenings = [];
      leads = refl;
      stays = record { devices = refl; subs = refl; stores = refl };
      placed = All-nil (λ (s : Session). IsPlaced set start.devices s.sub s.device);
      origins = st.origins;
      given = st.given;
      led = led_alike IsFresh (stored_alone (entry m (kept_of kept sub).device.contexts)) (device_places m place start) used used st.origins st.given
          (begins_alike start place (keeps_begin set kept (held_subs job) sub place subs there) refl) (IsPermutation-refl used) st.led;
      from = subst (λ (l : List LineRecord). All (IsFrom sub l) st.origins) (sym (append-nil (early ++ beside))) st.from;
    } in
    let last = job_moves law set are start (record { packets = refl; sessions = refl }) (job_has_secrets set kept job are) m sub place own used b net job lines gives began in
    let forgot = led_between IsFresh (length net.sessions) (device_places m place net) (counters_accepted m sub net.sessions ++ used) last.origins last.given (λ t w. tt)
    (λ t above. ap (peer_at m place) (slice_get_past net.sessions t above)) last.led in
    let stored = subst (λ (k : Kept). AreLedTo IsFresh (stored_alone (entry m k.device.contexts)) (counters_accepted m sub net.sessions ++ used) last.origins last.given)
    (sym (kept_busy set kept job net sub last.stays all place subs there (omega (arith, size, inside)))) forgot in
    let k = kept_of (kept_with all net) sub in
    record {
      origins = last.origins;
      given = last.given;
      led = led_alike IsFresh (stored_alone (entry m k.device.contexts)) (stored_alone (entry m k.device.contexts)) (counters_accepted m sub net.sessions ++ used)
          (counters_accepted m sub (sessions ++ net.sessions)) last.origins last.given (λ i. refl)
          (subst (IsPermutation (counters_accepted m sub net.sessions ++ used)) (sym (flat_map-append (accepted_of m sub) sessions net.sessions))
          (IsPermutation-append_comm (counters_accepted m sub net.sessions) used)) stored;
      from = last.from;
    }
  where
    begins_alike : (start : Net) (place : ℕ) → slice_get start.stores place ≡ Some (kept_of kept sub).device → start.sessions ≡ []
        → (i : ℕ) → device_places m place start i ≡ stored_alone (entry m (kept_of kept sub).device.contexts) i
    begins_alike start place there none zero = ap (λ (o : Option Keeps). entry m (keeps_or o).contexts) there
    begins_alike start place there none (suc t) = ap (λ (l : List Session). peer_at m place (slice_get l t)) none

-- ---- a job that doesn't

flat_none : {X Y : Type 0} (f : X → List Y) (xs : List X) → All (λ x. f x ≡ []) xs → flat_map f xs ≡ []
flat_none f [] all = refl
flat_none f (x ∷ xs) all = ap (λ l. l ++ flat_map f xs) (All-head (λ x. f x ≡ []) x xs all) ∙ flat_none f xs (All-tail (λ x. f x ≡ []) x xs all)

-- no session of a job is of a subscriber that has no device in it
pub none_of_sub : (set : Setting) (place : Before) (start last : Net) (job : List Line) (lines : List LineRecord) (sub : ℕ) → start.sessions ≡ [] → JobGives set place start job lines last
    → device_place set.rows start.devices sub ≡ None → All (λ s. s.sub ≢ sub) last.sessions
none_of_sub set place start last job lines sub fresh gives none =
    let began : AreAt (IsPlaced set start.devices) start.sessions =
    subst (AreAt (IsPlaced set start.devices)) (sym fresh) (All-nil (λ (s : Session). IsPlaced set start.devices s.sub s.device)) in
    let (devices, placed) = job_keeps set (λ b w. (w.devices ≡ start.devices) × AreAt (IsPlaced set start.devices) w.sessions) (λ b w more is. is)
    (λ b w next e more here is.
    subst (λ (v : Net). (v.devices ≡ start.devices) × AreAt (IsPlaced set start.devices) v.sessions) (sym here.leads)
    ((event_stays set w e here.told).devices ∙ is.0, placed_on set start w e here.told is.0 is.1)) place start last job lines gives (refl, began) in
    All-weaker (λ (s : Session). IsPlaced set start.devices s.sub s.device) (λ (s : Session). s.sub ≢ sub)
    (λ s is same. no_place (device_place set.rows start.devices sub) s.device none (ap (device_place set.rows start.devices) (sym same) ∙ is)) last.sessions placed
  where
    no_place : (o : Option ℕ) (p : ℕ) → o ≡ None → o ≡ Some p → ⊥
    no_place o p e f = cc

-- a job has no device of a subscriber that it doesn't hold
pub no_device : (set : Setting) → AreSubscribers set.rows → (kept : List Kept) (job : List Line) (sub : ℕ) → IsKnownJob set job → holds sub job ≡ false
    → device_place set.rows (start_of set kept job).devices sub ≡ None
no_device set are kept job sub known free = elim ((slice_get_cases set.rows sub).1) [
  | inl some ↦ device_begins set are (held_subs job) sub some.1 (held_known (length set.rows) job known) ∙ not_held sub job free
  | inr none ↦ ap (place_with (start_of set kept job).devices) none.1
]

pub device_idle : (set : Setting) → AreSubscribers set.rows → (m : Method) (sub : ℕ) (early : List LineRecord) (kept : List Kept) (beside : List LineRecord) (job : List Line)
    (lines : List LineRecord) (net : Net) (k : Kept) (sessions : List Session) → JobGives set (record { early = early; beside = beside; own = [] }) (start_of set kept job) job lines net
    → IsKnownJob set job → holds sub job ≡ false → DeviceState m sub (early ++ beside) k sessions → DeviceState m sub ((early ++ beside) ++ lines) k (sessions ++ net.sessions)
device_idle set are m sub early kept beside job lines net k sessions gives known free st =
    let others = none_of_sub set (record { early = early; beside = beside; own = [] }) (start_of set kept job) net job lines sub refl gives (no_device set are kept job sub known free) in
    let none : counters_accepted m sub net.sessions ≡ [] =
    flat_none (accepted_of m sub) net.sessions (All-weaker (λ (s : Session). s.sub ≢ sub) (λ (s : Session). accepted_of m sub s ≡ []) (λ s other. unaccepted s other) net.sessions others) in
    let same : counters_accepted m sub (sessions ++ net.sessions) ≡ counters_accepted m sub sessions =
    flat_map-append (accepted_of m sub) sessions net.sessions ∙ ap (λ (l : List Used). counters_accepted m sub sessions ++ l) none ∙ append-nil (counters_accepted m sub sessions) in
    record {
      origins = st.origins;
      given = st.given;
      led = subst (λ (l : List Used). AreLedTo IsFresh (stored_alone (entry m k.device.contexts)) l st.origins st.given) (sym same) st.led;
      from = more_lines sub (early ++ beside) lines st.origins st.from;
    }
  where
    unaccepted : (s : Session) → s.sub ≢ sub → accepted_of m sub s ≡ []
    unaccepted s other = by (s.sub == sub) refl
      where
        by : (t : Bool) → (s.sub == sub) ≡ t → accepted_of m sub s ≡ []
        by true e = absurd (other (eqb-true s.sub sub e))
        by false e = ap (λ (t : Bool). if t && same_method s.peer.options.method m then accepted_for s.peer.next s.peer else []) e
