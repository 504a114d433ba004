-- For workers: what their calls add, and what stands after them.
use Rattle.std.proofs.Common.{◌≡◌, ℕ, ◌<◌, List, [], ◌∷◌, ◌++◌, length, true, All, append-nil, arith, refl, sym, subst, ap, ◌∙◌}
use Rattle.std.specs.Prelude.{Option, Some, None, flat_map, map, slice_get, if◌then◌else◌}
use Rattle.std.proofs.lemmas.List.Elements.{All-head, All-map, All-nil, All-tail}
use Rattle.std.proofs.lemmas.List.{map-append}
use Rattle.auc_cards.proofs.Facts.{devices_found, helds_known, holds_held}
use Rattle.auc_cards.specs.Devices.{OwnDevices, device_of, job_devices, usim_among, usim_in}
use Rattle.auc_memory.specs.declared.stop.Stop.{Stop}
use Rattle.auc_history.specs.declared.entry.Entry.{Entry}
use Rattle.auc_lines.specs.declared.part.Line.{Line}
use Rattle.auc_lines.specs.Part.{held_subs, holds}
use Rattle.auc_milenage.specs.declared.secret.Secret.{Secret}
use Rattle.auc_peer.specs.Subscription.{Subscription, subscription_of}
use Rattle.auc_peer.specs.declared.device.Device.{Device}
use Rattle.auc_reauth.specs.Device.{Keeps}
use Rattle.auc_server.specs.declared.setting.HomeRow.{HomeRow}
use Rattle.auc_subs.specs.Subscriber.{AreSubscribers}
use Rattle.auc_subs.specs.declared.row.Row.{Row}
use Rattle.auc_usim.specs.Usim.{Memory}
use Rattle.auc_world.specs.Given.{Before, behind}
use Rattle.auc_world.specs.Net.{Net, device_place}
use Rattle.auc_record.specs.Released.{Released}
use Rattle.auc_world.specs.Sessions.{job_sessions}
use Rattle.auc_subs.specs.Setting.{Setting}
use Rattle.auc_world.specs.Start.{Kept, home_of, keeps_of, start_of, subscription_at}
use Rattle.auc_record.specs.Vectors.{IsReleasableLine}
use Rattle.auc_world.specs.World.{WorldState, usim_at, usim_of}
use Rattle.auc_record.specs.declared.record.JobSessions.{JobSessions}
use Rattle.auc_record.specs.declared.record.LineRecord.{LineRecord}
use Rattle.auc_jobs.specs.InnerRound.{JobBegins, ServesJob}
use Rattle.auc_jobs.specs.InnerServing.{before_at, JobStands, ServesLine, ServesLines}
use Rattle.auc_jobs.specs.InnerUsims.{AreCopies, has_usim}
use Rattle.auc_jobs.specs.InnerWorker.{AreForRows, GoesOnBeside, GoesOnWith, IsCentreOf, WorkerState, WorkerStands, WorkerServes, WorkerServesLines, start_world}
use Rattle.auc_jobs.specs.Serving.{IsKnownLine}
use Rattle.auc_jobs.specs.Usims.{HaveSecrets, AreOfRows}
use Rattle.auc_jobs.proofs.CopyLemmas.{copies_keyed}
use Rattle.auc_jobs.proofs.JobLemmas.{serves_as, serves_marked, serves_more, ServingLines, job_none}
use Rattle.auc_jobs.proofs.LineLemmas.{some_at}
use Rattle.auc_jobs.proofs.PlaceLemmas.{same_usims, usim_found}
use Rattle.auc_jobs.proofs.SettleLemmas.{begins_stands, copies_secrets, job_releasable, job_settles}

-- ---- the network with which a job begins

-- its USIMs are copies
pub starts_copies : (set : Setting) (usims : List Memory) (stores : List Kept) (job : List Line) (sub : ℕ) → AreSubscribers set.rows → length usims ≡ length set.rows → All (IsKnownLine set.rows) job
    → usim_of set.rows (start_world set usims stores job) sub ≡ (if holds sub job then slice_get usims sub else None)
starts_copies set usims stores job sub are size known =
    usim_found set stores (held_subs job) (start_world set usims stores job) sub are refl (helds_known set.rows job known)
    ∙ devices_found set usims stores (held_subs job) sub size (helds_known set.rows job known)
    ∙ ap (λ b. if b then slice_get usims sub else None) (holds_held sub job)

-- their subscriptions are those of the rows
subscriptions : (set : Setting) (usims : List Memory) (stores : List Kept) (subs : List ℕ) → AreOfRows set.rows usims → All (λ s. s < length set.rows) subs
    → map subscription_of (flat_map (device_of set usims stores) subs) ≡ flat_map (subscription_at set) subs
subscriptions set usims stores [] are known = refl
subscriptions set usims stores (s ∷ subs) are known =
    let inside = All-head (λ (k : ℕ). k < length set.rows) s subs known in
    let size = are.sizes in
    let (row, at) = some_at set.rows s inside in
    let (usim, there) = some_at usims s (omega (arith, inside, size)) in
    map-append subscription_of (device_of set usims stores s) (flat_map (device_of set usims stores) subs)
    ∙ ap (λ (ds : List Subscription). ds ++ map subscription_of (flat_map (device_of set usims stores) subs)) (one row usim at there)
    ∙ ap (λ (ds : List Subscription). subscription_at set s ++ ds) (subscriptions set usims stores subs are (All-tail (λ (k : ℕ). k < length set.rows) s subs known))
  where
    one : (row : Row) (usim : Memory) → slice_get set.rows s ≡ Some row → slice_get usims s ≡ Some usim → map subscription_of (device_of set usims stores s) ≡ subscription_at set s
    one row usim at there = rw (at, there) (ap (λ (k : Secret). record { imsi = row.imsi; realm = set.realm; secret = k } ∷ []) (are.secrets s row usim at there).secret)

-- and they keep what was kept of the subscribers
keeping : (set : Setting) (usims : List Memory) (stores : List Kept) (subs : List ℕ) → length usims ≡ length set.rows → All (λ s. s < length set.rows) subs
    → map (λ (d : Device). d.store) (flat_map (device_of set usims stores) subs) ≡ flat_map (keeps_of set stores) subs
keeping set usims stores [] size known = refl
keeping set usims stores (s ∷ subs) size known =
    let inside = All-head (λ (k : ℕ). k < length set.rows) s subs known in
    let (row, at) = some_at set.rows s inside in
    let (usim, there) = some_at usims s (omega (arith, inside, size)) in
    map-append (λ (d : Device). d.store) (device_of set usims stores s) (flat_map (device_of set usims stores) subs)
    ∙ ap (λ (ks : List Keeps). ks ++ map (λ (d : Device). d.store) (flat_map (device_of set usims stores) subs)) (one row usim at there)
    ∙ ap (λ (ks : List Keeps). keeps_of set stores s ++ ks) (keeping set usims stores subs size (All-tail (λ (k : ℕ). k < length set.rows) s subs known))
  where
    one : (row : Row) (usim : Memory) → slice_get set.rows s ≡ Some row → slice_get usims s ≡ Some usim → map (λ (d : Device). d.store) (device_of set usims stores s) ≡ keeps_of set stores s
    one row usim at there = rw (at, there) refl

-- a network of some homes and devices in which nothing has happened, with the devices
abbrev pub new_world : List HomeRow → List Device → WorldState
new_world homes devices = record {
  net = record {
    packets = [];
    sessions = [];
    released = [];
    homes = homes;
    devices = map subscription_of devices;
    stores = map (λ (device : Device). device.store) devices;
    broken = None;
  };
  devices = devices;
}

pub starts : (set : Setting) (usims : List Memory) (stores : List Kept) (job : List Line) (w : WorldState) → AreOfRows set.rows usims → All (IsKnownLine set.rows) job
    → w ≡ new_world (job_devices set usims stores job).homes (job_devices set usims stores job).devices → w ≡ start_world set usims stores job
starts set usims stores job w are known is =
    is ∙ ap (λ (kept : List Subscription × List Keeps). record {
      net = record {
        packets = [];
        sessions = [];
        released = [];
        homes = map (home_of stores) (held_subs job);
        devices = kept.0;
        stores = kept.1;
        broken = None;
      };
      devices = (job_devices set usims stores job).devices;
    }) (pair_is (subscriptions set usims stores (held_subs job) are (helds_known set.rows job known))
    (keeping set usims stores (held_subs job) are.sizes (helds_known set.rows job known)))
  where
    pair_is : {ds es : List Subscription} {ks ls : List Keeps} → ds ≡ es → ks ≡ ls → ◌≡◌ {A = List Subscription × List Keeps} (ds, ks) (es, ls)
    pair_is e f = cc

-- it is one of the rows
pub starts_for_rows : (set : Setting) (usims : List Memory) (stores : List Kept) (job : List Line) (subs : ℕ) (top : ℕ → ℕ) → AreSubscribers set.rows → AreOfRows set.rows usims → All (IsKnownLine set.rows) job
    → IsCentreOf set.rows subs top → AreForRows set.rows subs top (start_world set usims stores job)
starts_for_rows set usims stores job subs top are of_rows known centre = record {
  is_centre = centre;
  subscribers = are;
  secrets = copies_secrets set.rows usims job (usim_of set.rows (start_world set usims stores job)) of_rows (λ sub. starts_copies set usims stores job sub are of_rows.sizes known);
  homes = All-map (λ (home : HomeRow). home.sub < length set.rows) (home_of stores) (held_subs job) (helds_known set.rows job known);
  placed = All-nil (λ s. device_place set.rows (flat_map (subscription_at set) (held_subs job)) s.sub ≡ Some s.device);
}

-- the network of nobody
abbrev pub nobody : WorldState
nobody = record {
  net = record { packets = []; sessions = []; released = []; homes = []; devices = []; stores = []; broken = None };
  devices = [];
}

pub is_nobody : (w : WorldState) (homes : List HomeRow) (devices : List Device)
    → w ≡ record {
      net = record {
        packets = [];
        sessions = [];
        released = [];
        homes = homes;
        devices = map subscription_of devices;
        stores = map (λ (device : Device). device.store) devices;
        broken = None;
      };
      devices = devices;
    } → homes ≡ [] → devices ≡ [] → w ≡ nobody
is_nobody w homes devices is no_home no_device = is ∙ rw (no_home, no_device) refl

-- it is one of the same rows
pub nobody_for_rows : (rows : List Row) (subs : ℕ) (top : ℕ → ℕ) (w none : WorldState) → none ≡ nobody → AreForRows rows subs top w → AreForRows rows subs top none
nobody_for_rows rows subs top w none is for_rows = subst (AreForRows rows subs top) (sym is) (record {
  is_centre = for_rows.is_centre;
  subscribers = for_rows.subscribers;
  secrets = λ sub row usim at there. absurd (without (device_place rows [] sub) usim there);
  homes = All-nil (λ home. home.sub < length rows);
  placed = All-nil (λ s. device_place rows [] s.sub ≡ Some s.device);
})
  where
    without : (place : Option ℕ) (usim : Memory) → usim_at [] place ≡ Some usim → ⊥
    without None usim there = cc
    without (Some p) usim there = cc

-- it holds the USIMs that the job holds
pub does_hold : (set : Setting) (usims : List Memory) (stores : List Kept) (job : List Line) (world : WorldState) → AreOfRows set.rows usims → AreSubscribers set.rows → All (IsKnownLine set.rows) job
    → world ≡ start_world set usims stores job → (sub : ℕ) → holds sub job ≡ true → has_usim (usim_of set.rows world) sub ≡ true
does_hold set usims stores job world rows are known begins sub held =
    copies_keyed set.rows usims job (usim_of set.rows world) sub rows.sizes known
    (λ i. ap (λ (w : WorldState). usim_of set.rows w i) begins ∙ starts_copies set usims stores job i are rows.sizes known) ∙ held

module _ {C : Type 0} where
  -- a worker that does nothing adds nothing
  pub none_serves : (kept : C → ℕ → Option ℕ) (goes : C → ℕ → List Entry → List (ℕ × Stop) → C → Type 0) (w : WorkerState C) → ((i : ℕ) → goes w.centre i [] [] w.centre)
      → WorkerServes kept goes w w (λ before lines. lines ≡ [])
  none_serves kept goes w stays early beside stands = record { lines = []; added = sym (append-nil w.lines); given = refl; made = stays; stands = stands }

  -- lines of which another thing is known
  pub also_serves : (kept : C → ℕ → Option ℕ) (goes : C → ℕ → List Entry → List (ℕ × Stop) → C → Type 0) (old new : WorkerState C) (Gives Also : Before → List LineRecord → Type 0)
      → ((before : Before) (lines : List LineRecord) → Gives before lines → Also before lines) → WorkerServes kept goes old new Gives → WorkerServes kept goes old new Also
  also_serves kept goes old new Gives Also also serves early beside stands =
      serves_as (λ i es ws. goes old.centre i es ws new.centre) old.set.rows (before_at early beside old.lines) (kept new.centre) old.released (usim_of old.set.rows new.world)
      (Gives (before_at early beside old.lines)) (Also (before_at early beside old.lines)) new.lines (also (before_at early beside old.lines)) (serves early beside stands)

  -- what a worker serves is served with the setting and the released numbers that it began with
  pub same_serves : (kept : C → ℕ → Option ℕ) (goes : C → ℕ → List Entry → List (ℕ × Stop) → C → Type 0) (old new : WorkerState C) (G : Setting → Before → List LineRecord → Type 0)
      (set : Setting) (released : Released) → old.set ≡ set → old.released ≡ released → WorkerServes kept goes old new (G old.set) → (early beside : List LineRecord)
      → JobStands set.rows (before_at early beside old.lines) (kept old.centre) released (usim_of set.rows old.world)
      → ServesLine (λ i es ws. goes old.centre i es ws new.centre) set.rows (before_at early beside old.lines) (kept new.centre) released (usim_of set.rows new.world)
      (G set (before_at early beside old.lines)) new.lines
  same_serves kept goes old new G set released same_set same_released serves early beside =
      subst (λ (s : Setting). JobStands s.rows (before_at early beside old.lines) (kept old.centre) released (usim_of s.rows old.world)
      → ServesLine (λ i es ws. goes old.centre i es ws new.centre) s.rows (before_at early beside old.lines) (kept new.centre) released (usim_of s.rows new.world)
      (G s (before_at early beside old.lines)) new.lines) same_set
      (subst (λ (rs : Released). JobStands old.set.rows (before_at early beside old.lines) (kept old.centre) rs (usim_of old.set.rows old.world)
      → ServesLine (λ i es ws. goes old.centre i es ws new.centre) old.set.rows (before_at early beside old.lines) (kept new.centre) rs (usim_of old.set.rows new.world)
      (G old.set (before_at early beside old.lines)) new.lines) same_released (serves early beside))

  -- if the network stays, it also gives that
  pub still_serves : (kept : C → ℕ → Option ℕ) (goes : C → ℕ → List Entry → List (ℕ × Stop) → C → Type 0) (old new : WorkerState C) (Gives : Before → List LineRecord → Type 0)
      → new.world.net ≡ old.world.net → WorkerServes kept goes old new Gives → WorkerServes kept goes old new (λ before lines. Gives before lines × (new.world.net ≡ old.world.net))
  still_serves kept goes old new Gives same serves =
      also_serves kept goes old new Gives (λ before lines. Gives before lines × (new.world.net ≡ old.world.net)) (λ before lines given. (given, same)) serves

  -- a request and a further one after it, with the same setting and released numbers
  pub more_serves : (kept : C → ℕ → Option ℕ) (goes : C → ℕ → List Entry → List (ℕ × Stop) → C → Type 0) (old mid new : WorkerState C) (First : Before → List LineRecord → Type 0)
      (Second : Setting → Before → List LineRecord → Type 0) (Whole : Before → List LineRecord → Type 0)
      → ((i : ℕ) (es fs : List Entry) (ws vs : List (ℕ × Stop)) → goes old.centre i es ws mid.centre → goes mid.centre i fs vs new.centre → goes old.centre i (es ++ fs) (ws ++ vs) new.centre)
      → mid.set ≡ old.set → mid.released ≡ old.released → WorkerServes kept goes old mid First → WorkerServes kept goes mid new (Second mid.set)
      → ((before : Before) (front rest : List LineRecord) → First before front → Second old.set (behind before front) rest → Whole before (front ++ rest))
      → WorkerServes kept goes old new Whole
  more_serves kept goes old mid new First Second Whole joins same_set same_released first second both early beside stands =
      serves_more (λ i es ws. goes old.centre i es ws mid.centre) (λ i es ws. goes mid.centre i es ws new.centre) (λ i es ws. goes old.centre i es ws new.centre) old.set.rows early beside
      old.lines mid.lines new.lines (kept mid.centre) (kept new.centre) old.released (usim_of old.set.rows mid.world) (usim_of old.set.rows new.world)
      (λ lines. (mid.lines ≡ old.lines ++ lines) × First before lines) (Second old.set (before_at early beside mid.lines)) (Whole before) joins
      (serves_marked (λ i es ws. goes old.centre i es ws mid.centre) old.set.rows before (kept mid.centre) old.released (usim_of old.set.rows mid.world) (First before) mid.lines (first early beside stands))
      (same_serves kept goes mid new Second old.set old.released same_set same_released second early beside)
      (λ front rest marked given.
      both before front rest marked.1 (subst (λ (lines : List LineRecord). Second old.set (before_at early beside lines) rest) marked.0 given))
    where
      before : Before
      before = before_at early beside old.lines

  -- a worker that goes on twice goes on
  pub goes_on_more : (first second third : ℕ) (old mid new : WorkerState C) → GoesOnWith first second old mid → GoesOnWith second third mid new → GoesOnWith first third old new
  goes_on_more first second third old mid new a b = record {
    worker = record {
      borrow = b.worker.borrow ∙ a.worker.borrow;
      lent = b.worker.lent ∙ a.worker.lent;
      set = b.worker.set ∙ a.worker.set;
      released = b.worker.released ∙ a.worker.released;
    };
    keyed = λ sub. b.keyed sub ∙ a.keyed sub;
    homes = b.homes ∙ a.homes;
    devices = b.devices ∙ a.devices;
  }

  -- and beside the sessions
  pub goes_on_beside : (first second third : ℕ) (old mid new : WorkerState C) → GoesOnBeside first second old mid → GoesOnBeside second third mid new → GoesOnBeside first third old new
  goes_on_beside first second third old mid new a b = record {
    worker = record {
      borrow = b.worker.borrow ∙ a.worker.borrow;
      lent = b.worker.lent ∙ a.worker.lent;
      set = b.worker.set ∙ a.worker.set;
      released = b.worker.released ∙ a.worker.released;
    };
    keyed = λ sub. b.keyed sub ∙ a.keyed sub;
    net = b.net ∙ a.net;
  }

  -- with its network as it is it has the same devices
  pub goes_on_with : (first second : ℕ) (old new : WorkerState C) → GoesOnBeside first second old new → GoesOnWith first second old new
  goes_on_with first second old new on = record {
    worker = on.worker;
    keyed = on.keyed;
    homes = ap (λ (net : Net). map (λ home. home.sub) net.homes) on.net;
    devices = ap (λ (net : Net). net.devices) on.net;
  }

  -- a job begins
  pub job_begins : (kept : C → ℕ → Option ℕ) (goes : C → ℕ → List Entry → List (ℕ × Stop) → C → Type 0) (w : WorkerState C) (left job : List Line) → w.lines ≡ [] → left ≡ job
      → ((i : ℕ) → goes w.centre i [] [] w.centre) → (early beside : List LineRecord) → WorkerStands kept early beside w
      → ServingLines (λ i es ws. goes w.centre i es ws w.centre) w.set early beside (kept w.centre) w.released (usim_of w.set.rows w.world) w.world.net left job w.lines w.world.net
  job_begins kept goes w left job none is stays early beside stands =
      subst (λ (own : List LineRecord). ServingLines (λ i es ws. goes w.centre i es ws w.centre) w.set early beside (kept w.centre) w.released (usim_of w.set.rows w.world) w.world.net left job own w.world.net) (sym none)
      (job_none (λ i es ws. goes w.centre i es ws w.centre) w.set early beside (kept w.centre) w.released (usim_of w.set.rows w.world) w.world.net left job is stays
      (subst (λ (own : List LineRecord). JobStands w.set.rows (before_at early beside own) (kept w.centre) w.released (usim_of w.set.rows w.world)) none stands))

  -- what a worker did for a job: it began with the job's network, and served the lines
  pub record Does (kept : C → ℕ → Option ℕ) (goes : C → ℕ → List Entry → List (ℕ × Stop) → C → Type 0) (name next : ℕ) (old after : WorkerState C) (usims : List Memory) (stores : List Kept) (job : List Line) : Type 0 where
    pub rows : AreOfRows old.set.rows usims
    pub subscribers : AreSubscribers old.set.rows
    pub known : All (IsKnownLine old.set.rows) job
    pub none : old.lines ≡ []
    pub begins : old.world ≡ start_world old.set usims stores job
    pub serves : WorkerServesLines kept goes old after job
    pub goes_on : GoesOnWith name next old after

  -- the USIMs with which it began
  does_copies : (kept : C → ℕ → Option ℕ) (goes : C → ℕ → List Entry → List (ℕ × Stop) → C → Type 0) (name next : ℕ) (old after : WorkerState C) (usims : List Memory) (stores : List Kept) (job : List Line)
      → Does kept goes name next old after usims stores job → AreCopies usims job (usim_of old.set.rows old.world)
  does_copies kept goes name next old after usims stores job d sub =
      ap (λ (w : WorldState). usim_of old.set.rows w sub) d.begins ∙ starts_copies old.set usims stores job sub d.subscribers d.rows.sizes d.known

  -- the lines that it served
  does_lines : (kept : C → ℕ → Option ℕ) (goes : C → ℕ → List Entry → List (ℕ × Stop) → C → Type 0) (name next : ℕ) (old after : WorkerState C) (usims : List Memory) (stores : List Kept) (job : List Line)
      (early beside : List LineRecord) → Does kept goes name next old after usims stores job → JobBegins old.set.rows early beside (kept old.centre) old.released usims job
      → ServesLines (λ i es ws. goes old.centre i es ws after.centre) old.set early beside (kept after.centre) old.released (usim_of old.set.rows after.world) (start_of old.set stores job) job after.lines after.world.net
  does_lines kept goes name next old after usims stores job early beside d begins =
      subst (λ (n : Net). ServesLines (λ i es ws. goes old.centre i es ws after.centre) old.set early beside (kept after.centre) old.released (usim_of old.set.rows after.world) n job after.lines after.world.net)
      (ap (λ (w : WorldState). w.net) d.begins)
      (d.serves early beside
      (subst (λ (lines : List LineRecord). JobStands old.set.rows (before_at early beside lines) (kept old.centre) old.released (usim_of old.set.rows old.world)) (sym d.none)
      (begins_stands old.set.rows early beside (kept old.centre) old.released usims job (usim_of old.set.rows old.world) (does_copies kept goes name next old after usims stores job d) begins)))

  -- they release vectors that can be made
  pub does_releasable : (kept : C → ℕ → Option ℕ) (goes : C → ℕ → List Entry → List (ℕ × Stop) → C → Type 0) (name next : ℕ) (old after : WorkerState C) (usims : List Memory) (stores : List Kept) (job : List Line)
      (set : Setting) (lines : List LineRecord) → set ≡ old.set → lines ≡ after.lines → Does kept goes name next old after usims stores job
      → (early : List LineRecord) × (beside : List LineRecord) × JobBegins old.set.rows early beside (kept old.centre) old.released usims job → All (IsReleasableLine set) lines
  does_releasable kept goes name next old after usims stores job set lines same is d (early, beside, begins) =
      let s = does_lines kept goes name next old after usims stores job early beside d begins in
      subst (λ (ls : List LineRecord). All (IsReleasableLine set) ls) (sym is)
      (subst (λ (x : Setting). All (IsReleasableLine x) after.lines) (sym same) (job_releasable old.set (before_at early beside []) (start_of old.set stores job) after.world.net job after.lines s.given))

  -- its own USIMs after the job, among its devices
  pub record Ends (old after : WorkerState C) (own : OwnDevices) : Type 0 where
    pub homes : own.homes ≡ after.world.net.homes
    pub devices : own.devices ≡ after.world.devices
    pub stores : map (λ device. device.store) own.devices ≡ after.world.net.stores
    pub secrets : HaveSecrets after.set.rows (usim_of after.set.rows after.world)

  ends_same : (kept : C → ℕ → Option ℕ) (goes : C → ℕ → List Entry → List (ℕ × Stop) → C → Type 0) (name next : ℕ) (old after : WorkerState C) (usims : List Memory) (stores : List Kept) (job : List Line) (own : OwnDevices)
      → Does kept goes name next old after usims stores job → Ends old after own → (sub : ℕ) → usim_of old.set.rows after.world sub ≡ usim_in own sub
  ends_same kept goes name next old after usims stores job own d e sub =
      usim_found old.set stores (held_subs job) after.world sub d.subscribers (d.goes_on.devices ∙ ap (λ (w : WorldState). w.net.devices) d.begins) (helds_known old.set.rows job d.known)
      ∙ ap (λ (hs : List HomeRow). usim_among hs after.world.devices sub) (sym (ap (λ (w : WorldState). w.net.homes) d.begins))
      ∙ sym (same_usims old.world.net.homes after.world.net.homes after.world.devices sub d.goes_on.homes)
      ∙ ap (λ (hs : List HomeRow). usim_among hs after.world.devices sub) (sym e.homes)
      ∙ ap (λ (ds : List Device). usim_among own.homes ds sub) (sym e.devices)

  -- the job is served
  pub does_job : (kept : C → ℕ → Option ℕ) (goes : C → ℕ → List Entry → List (ℕ × Stop) → C → Type 0) (name next : ℕ) (old after : WorkerState C) (usims : List Memory) (stores : List Kept) (job : List Line) (own : OwnDevices)
      (lines : List LineRecord) (sessions : JobSessions) → Does kept goes name next old after usims stores job → Ends old after own → lines ≡ after.lines → sessions ≡ job_sessions after.world.net
      → (early beside : List LineRecord) → JobBegins old.set.rows early beside (kept old.centre) old.released usims job
      → ServesJob (λ i es ws. goes old.centre i es ws after.centre) old.set early beside (kept after.centre) stores job lines own sessions
  does_job kept goes name next old after usims stores job own lines sessions d e lines_are ends early beside begins =
      let s = does_lines kept goes name next old after usims stores job early beside d begins in
      let same : (sub : ℕ) → usim_of old.set.rows after.world sub ≡ usim_in own sub = ends_same kept goes name next old after usims stores job own d e in
      let secrets : HaveSecrets old.set.rows (usim_of old.set.rows after.world) =
      subst (λ (x : Setting). HaveSecrets x.rows (usim_of x.rows after.world)) d.goes_on.worker.set e.secrets in
      let keyed : (sub : ℕ) → has_usim (usim_in own) sub ≡ has_usim (usim_of old.set.rows old.world) sub =
      λ sub. ap (λ (m : Option Memory). has_usim (λ (k : ℕ). m) sub) (sym (same sub))
      ∙ ap (λ (x : Setting). has_usim (usim_of x.rows after.world) sub) (sym d.goes_on.worker.set) ∙ d.goes_on.keyed sub in
      job_settles (λ i es ws. goes old.centre i es ws after.centre) old.set early beside (kept old.centre) (kept after.centre) old.released usims stores job lines (usim_of old.set.rows old.world) own
      d.rows.sizes d.known (does_copies kept goes name next old after usims stores job d) keyed (λ sub row usim at there. secrets sub row usim at (same sub ∙ there)) begins after.world.net sessions ends (ap (λ (hs : List HomeRow). (hs, map (λ (d : Device). d.store) own.devices)) e.homes ∙ ap (λ (ks : List Keeps). (after.world.net.homes, ks)) e.stores)
      (subst (λ (ls : List LineRecord). ServesLines (λ i es ws. goes old.centre i es ws after.centre) old.set early beside (kept after.centre) old.released (usim_in own) (start_of old.set stores job) job ls after.world.net) (sym lines_are)
      (record { given = s.given; made = s.made; stands = record { told = s.stands.told; earlier = s.stands.earlier; numbers = s.stands.numbers; pasts = λ sub row usim at there. s.stands.pasts sub row usim at (same sub ∙ there) } }))
