-- For the law of vectors that sessions present: each event of a lawful transcript happens in a network whose packets are
-- those that the earlier lines of its job sent, and whose devices have the secrets of their subscribers.
use Rattle.std.proofs.Common.{◌≡◌, ℕ, ◌==◌, true, List, [], ◌∷◌, ◌++◌, Option, Some, None, All, refl, sym, ap, ◌∙◌, subst, inl, inr, append_assoc, append-nil}
use Rattle.std.specs.Prelude.{flat_map, slice_get}
use Rattle.std.proofs.lemmas.Bool.{and_parts, cases_order, eqb-true}
use Rattle.std.proofs.lemmas.List.Concat.{flat_map-append}
use Rattle.std.proofs.lemmas.List.Elements.{All-append, All-cons, All-head, All-nil, All-tail}
use Rattle.std.proofs.lemmas.List.Quantifiers.{position-Some}
use Rattle.std.proofs.lemmas.Option.{get_or_from_slice_get, slice_get_within}
use Rattle.auc_memory.specs.Identity.{Identity}
use Rattle.auc_memory.specs.declared.stop.Stop.{Stop}
use Rattle.auc_lines.specs.Part.{held_subs}
use Rattle.auc_lines.specs.declared.part.End.{End}
use Rattle.auc_lines.specs.declared.part.End.TheVariants as end
use Rattle.auc_lines.specs.declared.part.Line.{Line}
use Rattle.auc_lines.specs.declared.part.Part.{Part}
use Rattle.auc_lines.specs.declared.part.Part.TheVariants.{Round, Restart}
use Rattle.auc_peer.specs.Subscription.{Subscription}
use Rattle.auc_subs.specs.Subscriber.{AreSubscribers, same_identity}
use Rattle.auc_subs.specs.declared.row.Row.{Row}
use Rattle.auc_world.specs.Agreement.{HaveSecrets}
use Rattle.auc_world.specs.Came.{AreReceived, TellsNotes, bytes_named, came, presented_by}
use Rattle.auc_world.specs.Given.{Before, EventGives, IsUsimAsked, JobGives, JobsGive, LineGives, PlainGives, RelayGives, behind, packet_of}
use Rattle.auc_world.specs.Happened.{ToldEvent, happened}
use Rattle.auc_record.specs.Lines.{all_lines}
use Rattle.auc_world.specs.Net.{Net, other, place_with}
use Rattle.auc_subs.specs.Setting.{Setting}
use Rattle.auc_world.specs.Start.{Kept, start_of, subscription_at, subscription_by}
use Rattle.auc_world.specs.Transcript.{Course, Leads, after_restart, after_round, lines_of}
use Rattle.auc_record.specs.declared.event.Event.{Event as Happens}
use Rattle.auc_record.specs.declared.event.Event.TheVariants as event
use Rattle.auc_record.specs.declared.event.EventRecord.{EventRecord}
use Rattle.auc_world.specs.declared.net.Session.{Session}
use Rattle.auc_record.specs.declared.record.LineRecord.{LineRecord}
use Rattle.auc_record.specs.declared.record.LineRecord.TheVariants.{Number, Sync, Give, Further, Event}
use Rattle.auc_record.specs.declared.record.PartRecord.{PartRecord}
use Rattle.auc_record.specs.declared.record.PartRecord.TheVariants as record_of
use Rattle.auc_record.specs.declared.record.RoundRecord.{RoundRecord}
use Rattle.auc_world.proofs.Facts.{AreAt, OpensAt, places_stay}
use Rattle.auc_transcript.specs.Headline.{IsOutsideSessions}
use Rattle.auc_transcript.specs.Presented.{packets_in, sent_in_line}
use Rattle.auc_transcript.proofs.KindLemmas.{behind_none, behind_on, by_kind, event_gives, quiet_gives}
use Rattle.auc_transcript.proofs.PacketLemmas.{bytes_of, event_posts}

-- ---- the devices of a job

-- a subscription is that of a row
record IsOfRow (set : Setting) (device : Subscription) : Type 0 where
  sub : ℕ
  row : Row
  there : slice_get set.rows sub ≡ Some row
  imsi : device.imsi ≡ row.imsi
  secret : device.secret ≡ row.secret

subscription_is : (set : Setting) (sub : ℕ) (o : Option Row) → slice_get set.rows sub ≡ o → All (IsOfRow set) (subscription_by set o)
subscription_is set sub None there = All-nil (IsOfRow set)
subscription_is set sub (Some row) there =
    All-cons (IsOfRow set) _ [] (record { sub = sub; row = row; there = there; imsi = refl; secret = refl }) (All-nil (IsOfRow set))

subscriptions_are : (set : Setting) (subs : List ℕ) → All (IsOfRow set) (flat_map (subscription_at set) subs)
subscriptions_are set [] = All-nil (IsOfRow set)
subscriptions_are set (sub ∷ subs) =
    All-append (IsOfRow set) (subscription_at set sub) (flat_map (subscription_at set) subs) (subscription_is set sub (slice_get set.rows sub) refl) (subscriptions_are set subs)

same_of : (a b : Identity) → same_identity a b ≡ true → a ≡ b
same_of a b same =
    let (digits, number) = and_parts (a.digits == b.digits) (a.number == b.number) same in
    identities a.digits a.number b.digits b.number (eqb-true a.digits b.digits digits) (eqb-true a.number b.number number)
  where
    identities : (a b c d : ℕ) → a ≡ c → b ≡ d → ◌≡◌ {A = Identity} (record { digits = a; number = b }) (record { digits = c; number = d })
    identities a b c d e f = cc

some_one : {X : Type 0} (o : Option X) (a b : X) → o ≡ Some a → o ≡ Some b → a ≡ b
some_one o a b e f = cc

-- rows with one identity are one
one_row : (rows : List Row) (i j : ℕ) (a b : Row) → AreSubscribers rows → slice_get rows i ≡ Some a → slice_get rows j ≡ Some b → a.imsi ≡ b.imsi → a ≡ b
one_row rows i j a b are there also same =
    let inside = slice_get_within rows i a there in
    let also_inside = slice_get_within rows j b also in
    elim (cases_order i j) [
      | inl equal ↦ some_one (slice_get rows j) a b (ap (slice_get rows) (sym equal) ∙ there) also
      | inr apart ↦ elim apart [
        | inl less ↦ absurd (are.differ i j a less also_inside
            (ap (λ (r : Row). r.imsi) (get_or_from_slice_get rows i a a there) ∙ same ∙ sym (ap (λ (r : Row). r.imsi) (get_or_from_slice_get rows j b a also))))
        | inr above ↦ absurd (are.differ j i a above inside
            (ap (λ (r : Row). r.imsi) (get_or_from_slice_get rows j b a also) ∙ sym same ∙ sym (ap (λ (r : Row). r.imsi) (get_or_from_slice_get rows i a a there))))
      ]
    ]

-- the devices with which a job begins have their subscribers' secrets
pub job_has_secrets : (set : Setting) (kept : List Kept) (job : List Line) → AreSubscribers set.rows → HaveSecrets set (start_of set kept job).devices
job_has_secrets set kept job are sub place device row found there known =
    let devices = flat_map (subscription_at set) (held_subs job) in
    let at' = ap (place_with devices) (sym known) ∙ found in
    let (inside, same, first) = position-Some (λ (d : Subscription). same_identity d.imsi row.imsi) devices place device at' in
    let is_device = get_or_from_slice_get devices place device device there in
    let of = subst (IsOfRow set) is_device (subscriptions_are set (held_subs job) place device inside) in
    let identity = same_of device.imsi row.imsi (subst (λ (d : Subscription). same_identity d.imsi row.imsi ≡ true) is_device same) in
    of.secret ∙ ap (λ (r : Row). r.secret) (one_row set.rows of.sub sub of.row row are of.there known (sym of.imsi ∙ identity))

-- ---- the network of a job

-- the device at a place has the secret of a subscriber's row
abbrev pub HasSecret : Setting → List Subscription → ℕ → ℕ → Type 0
HasSecret set devices sub place = (device : Subscription) (row : Row) → slice_get devices place ≡ Some device → slice_get set.rows sub ≡ Some row → device.secret ≡ row.secret

-- a network of a job after some lines of it: the lines sent its packets, and its devices have their subscribers' secrets
pub record IsAfter (set : Setting) (own : List LineRecord) (w : Net) : Type 0 where
  pub packets : bytes_of w.packets ≡ packets_in own
  pub secrets : HaveSecrets set w.devices
  pub sessions : AreAt (HasSecret set w.devices) w.sessions

begins : (set : Setting) (kept : List Kept) (job : List Line) → AreSubscribers set.rows → IsAfter set [] (start_of set kept job)
begins set kept job are =
    record { packets = refl; secrets = job_has_secrets set kept job are; sessions = All-nil (λ (s : Session). HasSecret set (start_of set kept job).devices s.sub s.device) }

-- a session is opened at a device with its subscriber's secret
opens_at : (set : Setting) (w : Net) (e : Happens) → HaveSecrets set w.devices → OpensAt (HasSecret set w.devices) set w e
opens_at set w (event.Open opening) secrets = λ place is device row there known. secrets opening.sub place device row is there known
opens_at set w (event.Start session) secrets = tt
opens_at set w (event.Deliver session at' packet) secrets = tt
opens_at set w (event.Repeat session) secrets = tt
opens_at set w (event.GiveUp session at') secrets = tt
opens_at set w (event.Tamper packet place byte) secrets = tt
opens_at set w (event.Cut packet count) secrets = tt

-- ---- what events are

-- an event of a job happens in such a network; what it received, what is noted and what the USIM was asked are as the rules
-- of the network say
pub record Occurred (set : Setting) (place : Before) (r : EventRecord) : Type 0 where
  pub net : Net
  pub told : ToldEvent
  pub stands : IsAfter set place.own net
  pub result : r.result ≡ came set net r.event told
  pub received : AreReceived (bytes_named net r.event) told.seen
  pub notes : TellsNotes told (came set net r.event told)
  pub usim : IsUsimAsked set place (presented_by net r.event told) told

abbrev pub HasOccurred : Setting → Before → LineRecord → Type 0
HasOccurred set place (Number sub note) = Unit {0}
HasOccurred set place (Sync sub answer) = Unit {0}
HasOccurred set place (Give sub n answer) = Unit {0}
HasOccurred set place (Further said) = Unit {0}
HasOccurred set place (Event r) = Occurred set place r

abbrev pub HaveOccurred : Setting → Before → List LineRecord → Type 0
HaveOccurred set place [] = Unit {0}
HaveOccurred set place (line ∷ lines) = HasOccurred set place line × HaveOccurred set (behind place (line ∷ [])) lines

-- lines of a job from one network to another
record Walks (set : Setting) (place : Before) (lines : List LineRecord) (next : Net) : Type 0 where
  have : HaveOccurred set place lines
  leads : IsAfter set (place.own ++ lines) next

have-append : (set : Setting) (place : Before) (xs ys : List LineRecord) → HaveOccurred set place xs → HaveOccurred set (behind place xs) ys → HaveOccurred set place (xs ++ ys)
have-append set place [] ys these those =
    subst (λ (p : Before). HaveOccurred set p ys) (behind_none place) those
have-append set place (x ∷ xs) ys (first, these) those =
    (first, have-append set (behind place (x ∷ [])) xs ys these (subst (λ (p : Before). HaveOccurred set p ys) (sym (behind_on place (x ∷ []) xs)) those))

-- one line of many
pub occurred_at : (set : Setting) (place : Before) (front after : List LineRecord) (r : EventRecord) → HaveOccurred set place (front ++ Event r ∷ after) → Occurred set (behind place front) r
occurred_at set place [] after r (here, rest) =
    subst (λ (p : Before). Occurred set p r) (sym (behind_none place)) here
occurred_at set place (x ∷ front) after r (first, rest) =
    subst (λ (p : Before). Occurred set p r) (behind_on place (x ∷ []) front) (occurred_at set (behind place (x ∷ [])) front after r rest)

-- ---- lines without events

quiet_have : (set : Setting) (place : Before) (lines : List LineRecord) → All IsOutsideSessions lines → HaveOccurred set place lines
quiet_have set place [] none = tt
quiet_have set place (line ∷ lines) none = (one line (All-head IsOutsideSessions line lines none), quiet_have set (behind place (line ∷ [])) lines (All-tail IsOutsideSessions line lines none))
  where
    one : (l : LineRecord) → IsOutsideSessions l → HasOccurred set place l
    one (Number sub note) is = tt
    one (Sync sub answer) is = tt
    one (Give sub n answer) is = tt
    one (Further said) is = tt
    one (Event r) is = absurd is

quiet_sends : (lines : List LineRecord) → All IsOutsideSessions lines → packets_in lines ≡ []
quiet_sends [] none = refl
quiet_sends (line ∷ lines) none =
    ap (λ (bs : List (List ℕ)). bs ++ packets_in lines) (one line (All-head IsOutsideSessions line lines none)) ∙ quiet_sends lines (All-tail IsOutsideSessions line lines none)
  where
    one : (l : LineRecord) → IsOutsideSessions l → sent_in_line l ≡ []
    one (Number sub note) is = refl
    one (Sync sub answer) is = refl
    one (Give sub n answer) is = refl
    one (Further said) is = refl
    one (Event r) is = absurd is

quiet_walks : (set : Setting) (place : Before) (w next : Net) (lines : List LineRecord) → All IsOutsideSessions lines → next ≡ w → IsAfter set place.own w → Walks set place lines next
quiet_walks set place w next lines none is stands = record {
  have = quiet_have set place lines none;
  leads = subst (IsAfter set (place.own ++ lines)) (sym is) (record {
    packets = stands.packets ∙ sym (flat_map-append sent_in_line place.own lines ∙ ap (λ (bs : List (List ℕ)). packets_in place.own ++ bs) (quiet_sends lines none) ∙ append-nil (packets_in place.own));
    secrets = stands.secrets;
    sessions = stands.sessions;
  });
}

-- ---- events

-- the network after an event
after_event : (set : Setting) (own : List LineRecord) (w : Net) (e : Happens) (told : ToldEvent) → IsAfter set own w
    → IsAfter set (own ++ Event (record { event = e; result = came set w e told }) ∷ []) (happened set w e told)
after_event set own w e told stands =
    let posts = event_posts set w e told in
    let line = Event (record { event = e; result = came set w e told }) in
    let placed = places_stay (HasSecret set w.devices) set w e told stands.sessions (opens_at set w e stands.secrets) in record {
      packets = posts.packets ∙ ap (λ (bs : List (List ℕ)). bs ++ sent_in_line line) stands.packets
          ∙ sym (flat_map-append sent_in_line own (line ∷ []) ∙ ap (λ (bs : List (List ℕ)). packets_in own ++ bs) (append-nil (sent_in_line line)));
      secrets = subst (HaveSecrets set) (sym posts.devices) stands.secrets;
      sessions = subst (λ (ds : List Subscription). AreAt (HasSecret set ds) (happened set w e told).sessions) (sym posts.devices) placed;
    }

event_walks : (set : Setting) (place : Before) (w next : Net) (e : Happens) (lines : List LineRecord) → EventGives set place w e lines next → IsAfter set place.own w → Walks set place lines next
event_walks set place w next e lines gives stands =
    let r : EventRecord = record { event = e; result = came set w e gives.told } in
    let is : Occurred set place r = record { net = w; told = gives.told; stands = stands; result = refl; received = gives.received; notes = gives.notes; usim = gives.usim } in
    let leads = subst (IsAfter set (place.own ++ Event r ∷ [])) (sym gives.leads) (after_event set place.own w e gives.told stands) in
    subst (λ (ls : List LineRecord). Walks set place ls next) (sym gives.lines_are) (record { have = (is, tt); leads = leads })

-- some lines, and what comes after them
walk_on : (set : Setting) (place : Before) (front rest : List LineRecord) (mid next : Net) → Walks set place front mid → (IsAfter set (place.own ++ front) mid → Walks set (behind place front) rest next)
    → Walks set place (front ++ rest) next
walk_on set place front rest mid next first more =
    let then = more first.leads in record {
      have = have-append set place front rest first.have then.have;
      leads = subst (λ (own : List LineRecord). IsAfter set own next) (append_assoc place.own front rest) then.leads;
    }

-- ---- jobs

relay_walks : (set : Setting) (place : Before) (w next : Net) (session : ℕ) (at' : End) (o : Option ℕ) (lines : List LineRecord) → RelayGives set place w session at' o lines next
    → IsAfter set place.own w → Walks set place lines next
relay_walks set place w next session at' None [] gives stands = quiet_walks set place w next [] (All-nil IsOutsideSessions) gives stands
relay_walks set place w next session at' None (line ∷ lines) gives stands = absurd gives
relay_walks set place w next session at' (Some packet) [] gives stands = absurd gives
relay_walks set place w next session at' (Some packet) (line ∷ lines) (mid, first, more) stands =
    walk_on set place (line ∷ []) lines mid next (event_walks set place w mid (event.Deliver session at' packet) (line ∷ []) first stands)
    (λ after. relay_walks set (behind place (line ∷ [])) mid next session (other at') (packet_of line) lines more after)

plain_walks : (set : Setting) (place : Before) (w next : Net) (session : ℕ) (lines : List LineRecord) → PlainGives set place w session lines next → IsAfter set place.own w
    → Walks set place lines next
plain_walks set place w next session [] gives stands = absurd gives
plain_walks set place w next session (line ∷ lines) (mid, first, more) stands =
    walk_on set place (line ∷ []) lines mid next (event_walks set place w mid (event.Start session) (line ∷ []) first stands)
    (λ after. relay_walks set (behind place (line ∷ [])) mid next session end.Peer (packet_of line) lines more after)

line_walks : (set : Setting) (place : Before) (w next : Net) (l : Line) (lines : List LineRecord) → LineGives set place w l lines next → IsAfter set place.own w → Walks set place lines next
line_walks set place w next l lines = by_kind (λ x. LineGives set place w x lines next → IsAfter set place.own w → Walks set place lines next)
    (λ x is gives stands. let (none, same) = quiet_gives x is set place w next lines gives in quiet_walks set place w next lines none same stands)
    (λ e gives stands. event_walks set place w next e lines (event_gives set place w next e lines gives) stands)
    (λ session gives stands. plain_walks set place w next session lines gives stands) l

job_walks : (set : Setting) (place : Before) (w last : Net) (job : List Line) (lines : List LineRecord) → JobGives set place w job lines last → IsAfter set place.own w → Walks set place lines last
job_walks set place w last [] lines (none, is) stands =
    quiet_walks set place w last lines (subst (All IsOutsideSessions) (sym none) (All-nil IsOutsideSessions)) is stands
job_walks set place w last (l ∷ job) lines (front, rest, next, cut, gives, more) stands =
    subst (λ (ls : List LineRecord). Walks set place ls last) (sym cut)
    (walk_on set place front rest next last (line_walks set place w next l front gives stands) (λ after. job_walks set (behind place front) next last job rest more after))

-- ---- rounds and transcripts

-- a job of a round
job_at : (set : Setting) (early : List LineRecord) (kept : List Kept) (beside : List LineRecord) (jobs : List (List Line)) (earlier others : List (List LineRecord)) (lines : List LineRecord) (nets : List Net) → AreSubscribers set.rows
    → JobsGive set early kept beside jobs (earlier ++ lines ∷ others) nets → HaveOccurred set (record { early = early; beside = beside ++ all_lines earlier; own = [] }) lines
job_at set early kept beside [] [] others lines nets are (none, is) = absurd (let no : ⊥ = cc in no)
job_at set early kept beside [] (x ∷ earlier) others lines nets are (none, is) = absurd (let no : ⊥ = cc in no)
job_at set early kept beside (job ∷ jobs) [] others lines [] are gives = absurd gives
job_at set early kept beside (job ∷ jobs) [] others lines (net ∷ nets) are (gives, more) =
    subst (λ (ls : List LineRecord). HaveOccurred set (record { early = early; beside = ls; own = [] }) lines) (sym (append-nil beside))
    (job_walks set (record { early = early; beside = beside; own = [] }) (start_of set kept job) net job lines gives (begins set kept job are)).have
job_at set early kept beside (job ∷ jobs) (x ∷ earlier) others lines [] are gives = absurd gives
job_at set early kept beside (job ∷ jobs) (x ∷ earlier) others lines (net ∷ nets) are (gives, more) =
    subst (λ (ls : List LineRecord). HaveOccurred set (record { early = early; beside = ls; own = [] }) lines) (append_assoc beside x (all_lines earlier))
    (job_at set early kept (beside ++ x) jobs earlier others lines nets are more)

-- a round of a transcript: the lines of a job of it
pub round_at : (set : Setting) (stop : Option Stop) (at : Course) (parts : List Part) (early late : List PartRecord) (round : RoundRecord) (earlier others : List (List LineRecord))
    (lines : List LineRecord) (end : Course) → AreSubscribers set.rows → Leads set stop at parts (early ++ record_of.Round round ∷ late) end → round.jobs ≡ earlier ++ lines ∷ others
    → HaveOccurred set (record { early = at.early ++ lines_of early; beside = all_lines earlier; own = [] }) lines
round_at set stop at [] [] late round earlier others lines end are (none, is) jobs_are = absurd (let no : ⊥ = cc in no)
round_at set stop at [] (x ∷ early) late round earlier others lines end are (none, is) jobs_are = absurd (let no : ⊥ = cc in no)
round_at set stop at (Restart ∷ parts) [] late round earlier others lines end are (next, serves, rest) jobs_are = absurd serves
round_at set stop at (Round jobs ∷ parts) [] late round earlier others lines end are (next, serves, rest) jobs_are =
    subst (λ (ls : List LineRecord). HaveOccurred set (record { early = ls; beside = all_lines earlier; own = [] }) lines) (sym (append-nil at.early))
    (job_at set at.early at.kept [] jobs earlier others lines serves.lawful.nets are
    (subst (λ (js : List (List LineRecord)). JobsGive set at.early at.kept [] jobs js serves.lawful.nets) jobs_are serves.lawful.given))
round_at set stop at (Restart ∷ parts) (record_of.Round x ∷ early) late round earlier others lines end are (next, serves, rest) jobs_are = absurd serves
round_at set stop at (Round jobs ∷ parts) (record_of.Restart ∷ early) late round earlier others lines end are (next, serves, rest) jobs_are = absurd serves
round_at set stop at (Restart ∷ parts) (record_of.Restart ∷ early) late round earlier others lines end are (next, restarts, rest) jobs_are =
    let more = subst (λ (c : Course). Leads set stop c parts (early ++ record_of.Round round ∷ late) end) restarts.leads rest in
    round_at set stop (after_restart set.rows at restarts.limits) parts early late round earlier others lines end are more jobs_are
round_at set stop at (Round jobs ∷ parts) (record_of.Round x ∷ early) late round earlier others lines end are (next, serves, rest) jobs_are =
    let more = subst (λ (c : Course). Leads set stop c parts (early ++ record_of.Round round ∷ late) end) serves.leads rest in
    subst (λ (ls : List LineRecord). HaveOccurred set (record { early = ls; beside = all_lines earlier; own = [] }) lines) (append_assoc at.early (all_lines x.jobs) (lines_of early))
    (round_at set stop (after_round set.rows at x serves.words serves.lawful.nets) parts early late round earlier others lines end are more jobs_are)
