-- For events: what applying one to a job's network adds to a job.
use Rattle.std.proofs.Common.{◌≡◌, ℕ, ◌<◌, List, [], ◌∷◌, ◌++◌, All, length, refl, sym, ◌∙◌, ap, subst, append_assoc, append-nil}
use Rattle.std.specs.Prelude.{IfOk, IfSome, OnErr, Option, Some, None, Result, Ok, Err}
use Rattle.std.proofs.lemmas.List.Elements.{All-cons, All-nil, All-weaker}
use Rattle.auc_memory.specs.declared.no_memory.NoMemory.{NoMemory}
use Rattle.auc_server.specs.Steps.{IsHome}
use Rattle.auc_server.specs.declared.setting.HomeRow.{HomeRow}
use Rattle.auc_memory.specs.declared.stop.Stop.{Stop}
use Rattle.auc_history.specs.declared.entry.Entry.{Entry}
use Rattle.auc_peer.specs.Subscription.{Subscription}
use Rattle.auc_peer.specs.declared.device.Device.{Device}
use Rattle.auc_subs.specs.Subscriber.{AreSubscribers, top_at}
use Rattle.auc_subs.specs.declared.row.Row.{Row}
use Rattle.auc_usim.specs.Usim.{Memory}
use Rattle.auc_vector.specs.Notes.{AnswersNumber, AskedCentre, Asking}
use Rattle.auc_world.proofs.Facts.{IsPresentedAt, OpensAt, places_stay, presented_is_at}
use Rattle.auc_world.specs.Came.{AsksWhatItNeeds, Presented, TellsNotes, asked_sub, asking_of, came, presented_by}
use Rattle.auc_record.specs.Event.{Came, asked_in, device_in, number_in}
use Rattle.auc_record.specs.Entries.{entries_of_line}
use Rattle.auc_world.specs.Given.{Before, EventGives, IsCentreAsked, IsUsimAsked, packet_in}
use Rattle.auc_record.specs.Lines.{accepted, accepted_by, held_by}
use Rattle.auc_world.specs.Net.{Net, device_place}
use Rattle.auc_record.specs.Released.{Released}
use Rattle.auc_subs.specs.Setting.{Setting}
use Rattle.auc_world.specs.World.{AreHanded, AreHomes, AreOfSame, Applies, RememberPasts, WorldState, usim_at, usim_of}
use Rattle.auc_record.specs.declared.event.Event.{Event}
use Rattle.auc_record.specs.declared.event.Event.TheVariants as event
use Rattle.auc_record.specs.declared.record.LineRecord.{LineRecord}
use Rattle.auc_record.specs.declared.record.LineRecord.TheVariants.{Event as Happening}
use Rattle.auc_jobs.specs.InnerServing.{AreTold, Happens, Says, ServesLine, JobStands, before_at}
use Rattle.auc_jobs.specs.InnerUsims.{has_usim}
use Rattle.auc_jobs.specs.InnerWorker.{AreAtDevices, AreForRows}
use Rattle.auc_jobs.specs.Usims.{AreBehind, HaveSecrets}
use Rattle.auc_jobs.proofs.EventLemmas.{Agrees, IsOwnAnswer, agrees, centre_answers, event_own, presented_sub, says_event, usim_told}
use Rattle.auc_jobs.proofs.HandLemmas.{Hands, hands_asked, hands_behind, hands_changes}
use Rattle.auc_jobs.proofs.JobLemmas.{behind_quiet, numbers_added}
use Rattle.auc_jobs.proofs.PlaceLemmas.{same_known}
use Rattle.auc_jobs.proofs.TellingLemmas.{IsOwn, numbers_within}
use Rattle.auc_jobs.proofs.UsimLemmas.{changed_keys, changed_secrets, some_past}

-- the homes are subscribers of the centre
pub homes_of : (rows : List Row) (subs : ℕ) (top : ℕ → ℕ) (w : WorldState) → AreForRows rows subs top w → AreHomes rows subs top w.net.homes
homes_of rows subs top w are =
    All-weaker (λ (h : HomeRow). h.sub < length rows) (λ (h : HomeRow). IsHome rows subs top h.sub)
    (λ h low. record { listed = low; known = subst (λ (n : ℕ). h.sub < n) (sym are.is_centre.size) low; greatest = are.is_centre.greatest h.sub }) w.net.homes are.homes

-- each USIM remembers some past
pub remember_pasts : (devices : List Device) → RememberPasts devices
remember_pasts devices place device there = some_past device.usim.array

module _ {S : Type 0} (goes : S → ℕ → List Entry → List (ℕ × Stop) → S → Type 0) (kept : S → ℕ → Option ℕ) (top : S → ℕ → ℕ) (set : Setting) (w new : WorldState) (e : Event) (old next : S) (c : Came) where
  -- what is known of an event that was applied
  pub record Applied : Type 0 where
    pub applies : Applies goes kept top set w e old new c next
    pub subscribers : AreSubscribers set.rows
    pub secrets : HaveSecrets set.rows (usim_of set.rows w)
    pub placed : AreAtDevices set.rows w.net
    pub same : new.net.devices ≡ w.net.devices

  abbrev Place : ℕ → ℕ → Type 0
  Place sub place = device_place set.rows w.net.devices sub ≡ Some place

  -- the sessions are at their devices after it
  opens : (f : Event) → OpensAt Place set w.net f
  opens (event.Open line) = λ place is. is
  opens (event.Start session) = tt
  opens (event.Deliver session at' packet) = tt
  opens (event.Repeat session) = tt
  opens (event.GiveUp session at') = tt
  opens (event.Tamper packet place byte) = tt
  opens (event.Cut packet count) = tt

  pub placed_after : Applied → AreAtDevices set.rows new.net
  placed_after a =
      subst (λ (ds : List Subscription). All (λ s. device_place set.rows ds s.sub ≡ Some s.device) new.net.sessions) (sym a.same)
      (subst (λ (n : Net). All (λ s. device_place set.rows w.net.devices s.sub ≡ Some s.device) n.sessions) (sym a.applies.leads)
      (places_stay Place set w.net e a.applies.told a.placed (opens e)))

  -- what it hands a USIM, if it does
  agreed : (a : Applied) → Agrees set w.net a.applies.told (came set w.net e a.applies.told) (asking_of set w.net e a.applies.told) (presented_by w.net e a.applies.told) (AsksWhatItNeeds set w.net e a.applies.told)
  agreed a = agrees set w.net e a.applies.told

  tells : (a : Applied) → TellsNotes a.applies.told c
  tells a = subst (TellsNotes a.applies.told) (sym a.applies.is) a.applies.notes

  hands : (a : Applied) (p : Presented) → presented_by w.net e a.applies.told ≡ Some p → Hands set.rows w new a.applies.told c p
  hands a p is =
      let reaches : device_in c ≡ Some p.delivery.session.sub = ap device_in a.applies.is ∙ (agreed a).reaches ∙ ap presented_sub is in
      record {
        set = set;
        at = subst (λ (o : Option Presented). IsPresentedAt Place o) is (presented_is_at Place w.net e a.applies.told a.placed);
        same = a.same;
        subscribers = a.subscribers;
        secrets = a.secrets;
        handed = subst (λ (o : Option Presented). AreHanded o a.applies.told w.devices new.devices) is a.applies.usims;
        reaches = reaches;
        usim = usim_told a.applies.told c p.delivery.session.sub reaches (tells a);
        turn = (agreed a).turn a.applies.notes p is;
        hands = (agreed a).hands p is;
      }

  -- if it hands nothing, the USIMs stay
  usims_stay : (a : Applied) → presented_by w.net e a.applies.told ≡ None → (i : ℕ) → usim_of set.rows new i ≡ usim_of set.rows w i
  usims_stay a is i =
      ap (λ (ds : List Device). usim_at ds (device_place set.rows new.net.devices i)) (subst (λ (o : Option Presented). AreHanded o a.applies.told w.devices new.devices) is a.applies.usims)
      ∙ ap (λ (ds : List Subscription). usim_at w.devices (device_place set.rows ds i)) a.same

  pub secrets_after : Applied → HaveSecrets set.rows (usim_of set.rows new)
  secrets_after a = by (presented_by w.net e a.applies.told) refl
    where
      by : (o : Option Presented) → presented_by w.net e a.applies.told ≡ o → HaveSecrets set.rows (usim_of set.rows new)
      by None is = λ sub row usim at there. a.secrets sub row usim at (sym (usims_stay a is sub) ∙ there)
      by (Some p) is =
          changed_secrets set.rows (usim_of set.rows w) (usim_of set.rows new) p.delivery.session.sub (hands_changes set.rows w new a.applies.told c p (hands a p is)) a.secrets

  pub keys_after : Applied → (i : ℕ) → has_usim (usim_of set.rows new) i ≡ has_usim (usim_of set.rows w) i
  keys_after a i = by (presented_by w.net e a.applies.told) refl
    where
      by : (o : Option Presented) → presented_by w.net e a.applies.told ≡ o → has_usim (usim_of set.rows new) i ≡ has_usim (usim_of set.rows w) i
      by None is = ap (λ (m : Option Memory). has_usim (λ k. m) i) (usims_stay a is i)
      by (Some p) is = changed_keys (usim_of set.rows w) (usim_of set.rows new) p.delivery.session.sub (hands_changes set.rows w new a.applies.told c p (hands a p is)) i

  -- the USIMs after its line
  behind_after : (a : Applied) (lines : List LineRecord) → AreBehind set.rows lines (usim_of set.rows w) → AreBehind set.rows (lines ++ Happening (record { event = e; result = c }) ∷ []) (usim_of set.rows new)
  behind_after a lines behind = by (presented_by w.net e a.applies.told) refl
    where
      quiet : presented_by w.net e a.applies.told ≡ None → (bits i : ℕ) → accepted bits i (Happening (record { event = e; result = c }) ∷ []) ≡ []
      quiet is bits i = append-nil (accepted_by bits i (Happening (record { event = e; result = c }))) ∙ rw (ap device_in a.applies.is ∙ (agreed a).reaches ∙ ap presented_sub is) refl

      by : (o : Option Presented) → presented_by w.net e a.applies.told ≡ o → AreBehind set.rows (lines ++ Happening (record { event = e; result = c }) ∷ []) (usim_of set.rows new)
      by None is = λ sub row usim at there.
          behind_quiet set.rows lines (Happening (record { event = e; result = c }) ∷ []) (usim_of set.rows w) (quiet is) behind sub row usim at (sym (usims_stay a is sub) ∙ there)
      by (Some p) is = hands_behind set.rows w new a.applies.told c p (hands a p is) (record { event = e; result = c }) lines refl behind

  -- the centre, if it was asked
  asked_after : (a : Applied) → ((i : ℕ) → i < length set.rows → top old i ≡ top_at set.rows i) → IfSome (asked_in c) (λ sub. sub < length set.rows)
      → IsCentreAsked set (asking_of set w.net e a.applies.told) a.applies.told.notes
  asked_after a most known = by (asking_of set w.net e a.applies.told) refl
    where
      by : (o : Option Asking) → asking_of set w.net e a.applies.told ≡ o → IsCentreAsked set o a.applies.told.notes
      by None is = tt
      by (Some request) is =
          let asked = subst (λ (o : Option Asking). AskedCentre goes kept top o a.applies.told.notes old next) is a.applies.centre in
          let (r, asks, needs) = (agreed a).needs a.applies.drawn request is in
          let here : request.sub < length set.rows =
          subst (λ (o : Option ℕ). IfSome o (λ sub. sub < length set.rows)) (ap asked_in a.applies.is ∙ (agreed a).asks ∙ ap asked_sub is) known in
          record {
            known = here;
            answers = centre_answers set r request (kept old request.sub) a.applies.told.notes asks needs asked.resynced
                (subst (λ (t : ℕ). AnswersNumber t (kept old request.sub) a.applies.told.notes.number) (most request.sub here) asked.number);
          }

  -- the USIM, if it was handed something
  handed_after : (a : Applied) (before : Before) → AreBehind set.rows (before.early ++ before.beside ++ before.own) (usim_of set.rows w) → IsUsimAsked set before (presented_by w.net e a.applies.told) a.applies.told
  handed_after a before behind = by (presented_by w.net e a.applies.told) refl
    where
      by : (o : Option Presented) → presented_by w.net e a.applies.told ≡ o → IsUsimAsked set before o a.applies.told
      by None is = tt
      by (Some p) is = hands_asked set.rows w new a.applies.told c p (hands a p is) set before refl behind

  -- what it gives, and what stands then
  pub event_serves : (early beside own lines : List LineRecord) (released : Released) → Applied → ((i : ℕ) → i < length set.rows → top old i ≡ top_at set.rows i) → IfSome (asked_in c) (λ sub. sub < length set.rows)
      → JobStands set.rows (before_at early beside own) (kept old) released (usim_of set.rows w) → lines ≡ own ++ Happening (record { event = e; result = c }) ∷ []
      → ServesLine (λ i es ws. goes old i es ws next) set.rows (before_at early beside own) (kept next) released (usim_of set.rows new)
      (λ added. Happens set (before_at early beside own) w.net e (packet_in c) added new.net) lines
  event_serves early beside own lines released a most known stands is = record {
    lines = line ∷ [];
    added = is;
    given = record { line = line; is = refl; given = gives; makes = refl };
    made = λ i. rw (append-nil (entries_of_line i (beside ++ own) line), append-nil (held_by i line)) (says.made i);
    stands = record {
      told = subst (AreTold (kept next)) (append_assoc beside own (line ∷ []) ∙ ap (λ (ls : List LineRecord). beside ++ ls) (sym is)) says.told;
      earlier = stands.earlier;
      numbers = (stands.numbers.0, numbers_added set.rows own (line ∷ []) lines is stands.numbers.1 (λ sub. numbers_within set.rows sub (line ∷ []) named));
      pasts = subst (λ (ls : List LineRecord). AreBehind set.rows ls (usim_of set.rows new))
          (append_assoc (early ++ beside) own (line ∷ []) ∙ ap (λ (ls : List LineRecord). early ++ beside ++ ls) (sym is)) (behind_after a (early ++ beside ++ own) stands.pasts);
    };
  }
    where
      line : LineRecord
      line = Happening (record { event = e; result = c })

      gives : EventGives set (before_at early beside own) w.net e (line ∷ []) new.net
      gives = record {
        told = a.applies.told;
        lines_are = ap (λ (x : Came). Happening (record { event = e; result = x }) ∷ []) a.applies.is;
        leads = a.applies.leads;
        received = a.applies.received;
        notes = a.applies.notes;
        replies = a.applies.replies;
        centre = asked_after a most known;
        usim = handed_after a (before_at early beside own) stands.pasts;
      }

      named : All (IsOwn set.rows) (line ∷ [])
      named =
          All-cons (IsOwn set.rows) line []
          (subst (λ (x : Came). IsOwnAnswer set.rows (asked_in x) (number_in x)) (sym a.applies.is) (event_own set (before_at early beside own) w.net new.net e (line ∷ []) gives))
          (All-nil (IsOwn set.rows))

      says : Says (λ i es ws. goes old i es ws next) (kept next) (beside ++ own) (Happening (record { event = e; result = c }))
      says = says_event goes kept top old next (asking_of set w.net e a.applies.told) a.applies.told (beside ++ own) (record { event = e; result = c })
          (ap asked_in a.applies.is ∙ (agreed a).asks) (tells a) a.applies.centre stands.told

-- ---- an event that was applied, or for which memory ran out

module _ {S : Type 0} (goes : S → ℕ → List Entry → List (ℕ × Stop) → S → Type 0) (kept : S → ℕ → Option ℕ) (top : S → ℕ → ℕ) (set : Setting) (w new : WorldState) (e : Event) (old next : S) where
  -- what the call says
  pub record Applying (subs next_subs : ℕ) (result : Result Came NoMemory) : Type 0 where
    pub rows : AreForRows set.rows subs (top old) w
    pub applied : IfOk result (λ c. RememberPasts w.devices → Applies goes kept top set w e old new c next)
    pub failed : OnErr result (new ≡ w)
    pub homes : AreOfSame w.net.homes new.net.homes
    pub devices : new.net.devices ≡ w.net.devices
    pub same_subs : next_subs ≡ subs
    pub same_top : (i : ℕ) → top next i ≡ top old i

  abbrev known : (subs next_subs : ℕ) (c : Came) → Applying subs next_subs (Ok c) → Applied goes kept top set w new e old next c
  known subs next_subs c a = record { applies = a.applied (remember_pasts w.devices); subscribers = a.rows.subscribers; secrets = a.rows.secrets; placed = a.rows.placed; same = a.devices }

  -- the rest of a worker's world
  rest_after : (subs next_subs : ℕ) (result : Result Came NoMemory) → Applying subs next_subs result → HaveSecrets set.rows (usim_of set.rows new) → AreAtDevices set.rows new.net
      → AreForRows set.rows next_subs (top next) new
  rest_after subs next_subs result a secrets placed = record {
    is_centre = record { size = a.same_subs ∙ a.rows.is_centre.size; greatest = λ sub. a.same_top sub ∙ a.rows.is_centre.greatest sub };
    subscribers = a.rows.subscribers;
    secrets = secrets;
    homes = same_known (length set.rows) w.net.homes new.net.homes a.homes a.rows.homes;
    placed = placed;
  }

  pub rows_after : (subs next_subs : ℕ) (result : Result Came NoMemory) → Applying subs next_subs result → AreForRows set.rows next_subs (top next) new
  rows_after subs next_subs (Ok c) a =
      rest_after subs next_subs (Ok c) a (secrets_after goes kept top set w new e old next c (known subs next_subs c a))
      (placed_after goes kept top set w new e old next c (known subs next_subs c a))
  rows_after subs next_subs (Err why) a =
      rest_after subs next_subs (Err why) a (subst (λ (x : WorldState). HaveSecrets set.rows (usim_of set.rows x)) (sym a.failed) a.rows.secrets)
      (subst (λ (x : WorldState). AreAtDevices set.rows x.net) (sym a.failed) a.rows.placed)

  pub keys_kept : (subs next_subs : ℕ) (result : Result Came NoMemory) → Applying subs next_subs result → (i : ℕ) → has_usim (usim_of set.rows new) i ≡ has_usim (usim_of set.rows w) i
  keys_kept subs next_subs (Ok c) a i = keys_after goes kept top set w new e old next c (known subs next_subs c a) i
  keys_kept subs next_subs (Err why) a i = ap (λ (x : WorldState). has_usim (usim_of set.rows x) i) a.failed
