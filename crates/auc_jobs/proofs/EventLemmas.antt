-- For events: whom they ask and what they hand a USIM, and what their lines say of the centre.
use Rattle.std.proofs.Common.{◌≡◌, ℕ, ◌<◌, ◌≤◌, true, false, List, [], ◌∷◌, length, All, refl, sym, ◌∙◌, ap, subst, eq-eqb}
use Rattle.std.specs.Prelude.{Option, Some, None, Ok, Err, is_some, slice_get}
use Rattle.std.proofs.lemmas.Bool.{ne_eqb}
use Rattle.std.proofs.lemmas.List.Elements.{All-append, All-cons, All-nil}
use Rattle.auc_memory.specs.declared.stop.Stop.{Stop}
use Rattle.auc_history.specs.Resynchronise.{Resynchronisation, resynchronise_of}
use Rattle.auc_history.specs.Resynchronise as found
use Rattle.auc_history.specs.declared.entry.Entry.{Entry}
use Rattle.auc_lines.specs.declared.part.End.{End}
use Rattle.auc_lines.specs.declared.part.End.TheVariants as end
use Rattle.auc_lines.specs.Part.{is_that}
use Rattle.auc_peer.specs.Rows.{peer_row}
use Rattle.auc_peer.specs.Subscription.{Subscription}
use Rattle.auc_peer.specs.Turn.{asked, decryption_made}
use Rattle.auc_server.specs.Rows.{server_row, text_in}
use Rattle.auc_server.specs.Server.{ServerEnd}
use Rattle.auc_server.specs.Steps.{AsksAsNeeded, asking, challenges_again}
use Rattle.auc_server.specs.Table.{packets_after}
use Rattle.auc_server.specs.declared.options.ServerOptions.{ServerOptions}
use Rattle.auc_server.specs.declared.rows.Row.{Row}
use Rattle.auc_server.specs.declared.rows.Row.TheVariants as row
use Rattle.auc_subs.specs.Subscriber.{top_at}
use Rattle.auc_subs.specs.declared.row.Row.{Row as SubscriberRow}
use Rattle.auc_vector.specs.Notes.{AskedCentre, Asking, AnswersNumber, AnswersReport}
use Rattle.auc_vector.specs.declared.notes.Notes.{Notes}
use Rattle.auc_vector.specs.declared.notes.NumberNote.{NumberNote}
use Rattle.auc_vector.specs.declared.notes.NumberNote.TheVariants as number
use Rattle.auc_vector.specs.declared.notes.ResyncNote.{ResyncNote}
use Rattle.auc_world.specs.Came.{AsksWhatItNeeds, AsksIn, Presented, TellsNotes, asked_sub, asking_at, asking_in, asking_of, came, came_at_peer, came_at_server, came_changed, came_delivered, came_given_up, came_in, came_opened, came_repeated, came_started, presented_at, presented_by, presented_in, server_came_to_give_up, session_of}
use Rattle.auc_record.specs.Event.{Came, asked_in, device_in, number_in, resync_in, usim_in}
use Rattle.auc_world.specs.Given.{Before, CentreAnswers, EventGives, IsCentreAsked, IsNumberAnswer, NumberFollows, PlainGives, RelayGives, behind, packet_of, resync_note}
use Rattle.auc_world.specs.Happened.{Delivery, ToldEvent, changed_in, delivery_at, delivery_of, peer_turn}
use Rattle.auc_world.specs.Net.{Net, device_place, keeps_at, other, packet_at, session_place}
use Rattle.auc_subs.specs.Setting.{Setting}
use Rattle.auc_record.specs.declared.event.Event.{Event}
use Rattle.auc_record.specs.declared.event.Event.TheVariants as event
use Rattle.auc_record.specs.declared.event.EventRecord.{EventRecord}
use Rattle.auc_world.specs.declared.net.SentPacket.{SentPacket}
use Rattle.auc_world.specs.declared.net.Session.{Session}
use Rattle.auc_record.specs.declared.record.LineRecord.{LineRecord}
use Rattle.auc_record.specs.declared.record.LineRecord.TheVariants.{Event as Happening}
use Rattle.auc_jobs.specs.InnerServing.{AreTold, Says}
use Rattle.auc_jobs.proofs.SayingLemmas.{SaysAnswers, SaysNothing, is_number_note, is_resynced, says_asked, says_unasked}
use Rattle.auc_jobs.proofs.SilentLemmas.{peer_silent, server_silent}

-- ---- whom an event concerns

-- the subscriber whose device received a packet
abbrev pub presented_sub : Option Presented → Option ℕ
presented_sub None = None
presented_sub (Some p) = Some p.delivery.session.sub

-- what came of an event names whom it asked and whose device it reached
pub record Agrees (set : Setting) (w : Net) (told : ToldEvent) (c : Came) (a : Option Asking) (p : Option Presented) (Needs : Type 0) : Type 0 where
  pub asks : asked_in c ≡ asked_sub a
  pub silent : a ≡ None → number_in c ≡ None
  pub reaches : device_in c ≡ presented_sub p
  pub needs : Needs → (request : Asking) → a ≡ Some request → (r : Row) × (asking r ≡ Some request) × AsksAsNeeded r told.notes
  pub turn : TellsNotes told c → (q : Presented) → p ≡ Some q → told.notes.usim ≡ (peer_turn set q.device (keeps_at w q.delivery.session.device) q.delivery.session told).1.notes.usim
  pub hands : (q : Presented) → p ≡ Some q → q.challenge ≡ asked (peer_row q.delivery.session.peer told.seen)

no_request : (request : Asking) → ◌≡◌ {A = Option Asking} None (Some request) → ⊥
no_request request e = cc

no_presented : (q : Presented) → ◌≡◌ {A = Option Presented} None (Some q) → ⊥
no_presented q e = cc

-- it concerns nobody
quiet : (set : Setting) (w : Net) (told : ToldEvent) (c : Came) (Needs : Type 0) → asked_in c ≡ None → number_in c ≡ None → device_in c ≡ None → Agrees set w told c None None Needs
quiet set w told c Needs none nothing nowhere = record {
  asks = none;
  silent = λ e. nothing;
  reaches = nowhere;
  needs = λ n request e. absurd (no_request request e);
  turn = λ tells q e. absurd (no_presented q e);
  hands = λ q e. absurd (no_presented q e);
}

-- in a session
quiet_in : (set : Setting) (w : Net) (told : ToldEvent) (does : Session → Came) (o : Option Session) (Needs : Type 0)
    → ((s : Session) → (asked_in (does s) ≡ None) × (number_in (does s) ≡ None) × (device_in (does s) ≡ None)) → Agrees set w told (came_in does o) None None Needs
quiet_in set w told does None Needs each = quiet set w told (came_in does None) Needs refl refl refl
quiet_in set w told does (Some s) Needs each = quiet set w told (does s) Needs (each s).0 (each s).1 (each s).2

-- a delivery to a server
at_server : (set : Setting) (w : Net) (told : ToldEvent) (o : Option ServerEnd) (d : Delivery) (Needs : Type 0) → d.session.server ≡ o → (Needs → AsksIn set w end.Server told (Some d))
    → Agrees set w told (came_at_server set w told o) (asking_at set w told o) None Needs
at_server set w told None d Needs is from = quiet set w told (came_at_server set w told None) Needs refl refl refl
at_server set w told (Some s) d Needs is from = record {
  asks = refl;
  silent = λ e. server_silent set w.homes s (text_in told.seen.reading) (packets_after s told.seen (server_row set w.homes s told.seen told.reply)) (server_row set w.homes s told.seen told.reply) told.notes e;
  reaches = refl;
  needs = λ n request e. (server_row set w.homes s told.seen told.reply, e, needed (d.session.server) is (from n));
  turn = λ tells q e. absurd (no_presented q e);
  hands = λ q e. absurd (no_presented q e);
}
  where
    needed : (o : Option ServerEnd) → o ≡ Some s → AsksIn set w end.Server told (Some (record d { session = record d.session { server = o } })) → AsksAsNeeded (server_row set w.homes s told.seen told.reply) told.notes
    needed None e asks = absurd (cc)
    needed (Some t) e asks = subst (λ (u : ServerEnd). AsksAsNeeded (server_row set w.homes u told.seen told.reply) told.notes) (one t s e) asks
      where
        one : (a b : ServerEnd) → Some a ≡ Some b → a ≡ b
        one a b e = cc

-- a delivery to a peer
at_peer : (set : Setting) (w : Net) (told : ToldEvent) (d : Delivery) (o : Option Subscription) (Needs : Type 0)
    → Agrees set w told (came_at_peer set w d told o) None (presented_at w d told o) Needs
at_peer set w told d None Needs = quiet set w told (came_at_peer set w d told None) Needs refl refl refl
at_peer set w told d (Some device) Needs = record {
  asks = refl;
  silent = λ e. peer_silent set.key device (keeps_at w d.session.device) d.session.peer told.seen (peer_row d.session.peer told.seen) told.notes.usim told.inner;
  reaches = refl;
  needs = λ n request e. absurd (no_request request e);
  turn = λ tells q e. subst (λ (r : Presented). told.notes.usim ≡ (peer_turn set r.device (keeps_at w r.delivery.session.device) r.delivery.session told).1.notes.usim) (one (presented device) q e) (ap (λ (n : Notes). n.usim) tells);
  hands = λ q e. subst (λ (r : Presented). r.challenge ≡ asked (peer_row r.delivery.session.peer told.seen)) (one (presented device) q e) refl;
}
  where
    presented : Subscription → Presented
    presented s = record { delivery = d; device = s; challenge = asked (peer_row d.session.peer told.seen); decryption = decryption_made s (keeps_at w d.session.device) d.session.peer told.seen (peer_row d.session.peer told.seen) told.notes.usim }

    one : (a b : Presented) → Some a ≡ Some b → a ≡ b
    one a b e = cc

-- a delivery
delivered_agrees : (set : Setting) (w : Net) (told : ToldEvent) (at' : End) (packet place : ℕ) (x : Option Session) (y : Option SentPacket)
    → Agrees set w told (came_delivered set w at' told y (delivery_of packet place x y)) (asking_in set w at' told (delivery_of packet place x y))
    (presented_in w at' told (delivery_of packet place x y)) (AsksIn set w at' told (delivery_of packet place x y))
delivered_agrees set w told end.Server packet place None None = quiet set w told _ _ refl refl refl
delivered_agrees set w told end.Peer packet place None None = quiet set w told _ _ refl refl refl
delivered_agrees set w told end.Server packet place None (Some sent) = quiet set w told _ _ refl refl refl
delivered_agrees set w told end.Peer packet place None (Some sent) = quiet set w told _ _ refl refl refl
delivered_agrees set w told end.Server packet place (Some s) None = quiet set w told _ _ refl refl refl
delivered_agrees set w told end.Peer packet place (Some s) None = quiet set w told _ _ refl refl refl
delivered_agrees set w told end.Server packet place (Some s) (Some sent) =
    at_server set w told s.server (record { place = place; session = s; bytes = sent.bytes; packet = packet }) _ refl (λ n. n)
delivered_agrees set w told end.Peer packet place (Some s) (Some sent) =
    at_peer set w told (record { place = place; session = s; bytes = sent.bytes; packet = packet }) (slice_get w.devices s.device) _

nowhere_agrees : (set : Setting) (w : Net) (told : ToldEvent) (at' : End) (y : Option SentPacket)
    → Agrees set w told (came_delivered set w at' told y None) (asking_in set w at' told None) (presented_in w at' told None) (AsksIn set w at' told None)
nowhere_agrees set w told end.Server None = quiet set w told _ _ refl refl refl
nowhere_agrees set w told end.Peer None = quiet set w told _ _ refl refl refl
nowhere_agrees set w told end.Server (Some sent) = quiet set w told _ _ refl refl refl
nowhere_agrees set w told end.Peer (Some sent) = quiet set w told _ _ refl refl refl

-- a changed copy of a packet
changed_agrees : (set : Setting) (w : Net) (told : ToldEvent) (there : Option SentPacket) (copy : Option (List ℕ)) → Agrees set w told (came_changed w.packets there copy) None None (Unit {0})
changed_agrees set w told None copy = quiet set w told (came_changed w.packets None copy) (Unit {0}) refl refl refl
changed_agrees set w told (Some sent) None = quiet set w told (came_changed w.packets (Some sent) None) (Unit {0}) refl refl refl
changed_agrees set w told (Some sent) (Some bytes) = quiet set w told (came_changed w.packets (Some sent) (Some bytes)) (Unit {0}) refl refl refl

-- each event
pub agrees : (set : Setting) (w : Net) (e : Event) (told : ToldEvent) → Agrees set w told (came set w e told) (asking_of set w e told) (presented_by w e told) (AsksWhatItNeeds set w e told)
agrees set w (event.Open line) told = by (session_place w.sessions line.session) (device_place set.rows w.devices line.sub)
  where
    by : (old place : Option ℕ) → Agrees set w told (came_opened old place) None None (Unit {0})
    by (Some first) place = quiet set w told (came_opened (Some first) place) (Unit {0}) refl refl refl
    by None None = quiet set w told (came_opened None None) (Unit {0}) refl refl refl
    by None (Some place) = quiet set w told (came_opened None (Some place)) (Unit {0}) refl refl refl
agrees set w (event.Start session) told = quiet_in set w told (λ s. came_started w s.options s.server) (session_of w session) (Unit {0}) (λ s. by s.options s.server)
  where
    by : (options : ServerOptions) (o : Option ServerEnd) → (asked_in (came_started w options o) ≡ None) × (number_in (came_started w options o) ≡ None) × (device_in (came_started w options o) ≡ None)
    by options None = (refl, refl, refl)
    by options (Some s) = (refl, refl, refl)
agrees set w (event.Repeat session) told = quiet_in set w told (λ s. came_repeated w s.server) (session_of w session) (Unit {0}) (λ s. by s.server)
  where
    by : (o : Option ServerEnd) → (asked_in (came_repeated w o) ≡ None) × (number_in (came_repeated w o) ≡ None) × (device_in (came_repeated w o) ≡ None)
    by None = (refl, refl, refl)
    by (Some s) = (refl, refl, refl)
agrees set w (event.GiveUp session at') told = quiet_in set w told (came_given_up w at') (session_of w session) (Unit {0}) (λ s. of at' s)
  where
    by : (o : Option ServerEnd) → (asked_in (server_came_to_give_up w o) ≡ None) × (number_in (server_came_to_give_up w o) ≡ None) × (device_in (server_came_to_give_up w o) ≡ None)
    by None = (refl, refl, refl)
    by (Some s) = (refl, refl, refl)

    of : (e : End) (s : Session) → (asked_in (came_given_up w e s) ≡ None) × (number_in (came_given_up w e s) ≡ None) × (device_in (came_given_up w e s) ≡ None)
    of end.Server s = by s.server
    of end.Peer s = (refl, refl, refl)
agrees set w (event.Tamper packet place byte) told = changed_agrees set w told (packet_at w.packets packet) (changed_in w.packets (event.Tamper packet place byte))
agrees set w (event.Cut packet count) told = changed_agrees set w told (packet_at w.packets packet) (changed_in w.packets (event.Cut packet count))
agrees set w (event.Deliver session at' packet) told = at_number (session_place w.sessions session)
  where
    at_number : (o : Option ℕ) → Agrees set w told (came_delivered set w at' told (packet_at w.packets packet) (delivery_at w packet o))
        (asking_in set w at' told (delivery_at w packet o)) (presented_in w at' told (delivery_at w packet o)) (AsksIn set w at' told (delivery_at w packet o))
    at_number None = nowhere_agrees set w told at' (packet_at w.packets packet)
    at_number (Some place) = delivered_agrees set w told at' packet place (slice_get w.sessions place) (packet_at w.packets packet)

-- what the answers are
pub numbers_told : (told : ToldEvent) (c : Came) (sub : ℕ) → asked_in c ≡ Some sub → TellsNotes told c → (number_in c ≡ told.notes.number) × (resync_in c ≡ told.notes.resync)
numbers_told told (Ok note) sub e tells = (ap (λ (n : Notes). n.number) (sym tells), ap (λ (n : Notes). n.resync) (sym tells))
numbers_told told (Err why) sub e tells = absurd (none sub e)
  where
    none : (s : ℕ) → ◌≡◌ {A = Option ℕ} None (Some s) → ⊥
    none s e = cc

pub usim_told : (told : ToldEvent) (c : Came) (sub : ℕ) → device_in c ≡ Some sub → TellsNotes told c → usim_in c ≡ told.notes.usim
usim_told told (Ok note) sub e tells = ap (λ (n : Notes). n.usim) (sym tells)
usim_told told (Err why) sub e tells = absurd (none sub e)
  where
    none : (s : ℕ) → ◌≡◌ {A = Option ℕ} None (Some s) → ⊥
    none s e = cc

-- ---- the centre's answers

number_answers : (set : Setting) (sub : ℕ) (kept : Option ℕ) (o : Option NumberNote) → is_some o ≡ true → AnswersNumber (top_at set.rows sub) kept o → IsNumberAnswer set sub o
number_answers set sub kept None e is = absurd (cc)
number_answers set sub kept (Some note) e is = is_number_note set sub (top_at set.rows sub) kept note refl is

no_number : (o : Option NumberNote) → is_some o ≡ false → o ≡ None
no_number None e = refl
no_number (Some note) e = absurd (cc)

resync_answers : (set : Setting) (sub : ℕ) (kept : Option ℕ) (seq : ℕ) (r o : Option ResyncNote) (n : Option NumberNote) → o ≡ r → AnswersReport kept (Some seq) r → AnswersNumber (top_at set.rows sub) kept n
    → is_some n ≡ challenges_again r → (seen : ℕ) × (o ≡ Some (resync_note (resynchronise_of seen seq))) × NumberFollows set sub (resynchronise_of seen seq) n
resync_answers set sub kept seq None o n same is number needs = absurd is
resync_answers set sub kept seq (Some note) o n same is number needs =
    let (seen, made) = is_resynced kept seq note is in
    (seen, same ∙ ap Some made, follows (resynchronise_of seen seq) (subst (λ (r : ResyncNote). is_some n ≡ challenges_again (Some r)) made needs))
  where
    follows : (x : Resynchronisation) → is_some n ≡ challenges_again (Some (resync_note x)) → NumberFollows set sub x n
    follows (found.Moved seen to) needs = number_answers set sub kept n needs number
    follows (found.InRange seen to) needs = number_answers set sub kept n needs number
    follows (found.Beyond seen to) needs = no_number n needs

pub centre_answers : (set : Setting) (r : Row) (request : Asking) (kept : Option ℕ) (notes : Notes) → asking r ≡ Some request → AsksAsNeeded r notes
    → AnswersReport kept request.reported notes.resync → AnswersNumber (top_at set.rows request.sub) kept notes.number → CentreAnswers set request.sub request.reported notes
centre_answers set (row.Challenge sub) request kept notes e needs report number =
    let same = one (record { sub = sub; reported = None }) request e in
    subst (λ (a : Asking). CentreAnswers set a.sub a.reported notes) same
    (number_answers set sub kept notes.number needs (subst (λ (a : Asking). AnswersNumber (top_at set.rows a.sub) kept notes.number) (sym same) number))
  where
    one : (a b : Asking) → Some a ≡ Some b → a ≡ b
    one a b e = cc
centre_answers set (row.Resynchronise sub seq) request kept notes e needs report number =
    let same = one (record { sub = sub; reported = Some seq }) request e in
    subst (λ (a : Asking). CentreAnswers set a.sub a.reported notes) same
    (resync_answers set sub kept seq notes.resync notes.resync notes.number refl (subst (λ (a : Asking). AnswersReport kept a.reported notes.resync) (sym same) report)
    (subst (λ (a : Asking). AnswersNumber (top_at set.rows a.sub) kept notes.number) (sym same) number) needs)
  where
    one : (a b : Asking) → Some a ≡ Some b → a ≡ b
    one a b e = cc
centre_answers set (row.TooSmall sub) request kept notes e needs report number =
    let same = one (record { sub = sub; reported = None }) request e in
    subst (λ (a : Asking). CentreAnswers set a.sub a.reported notes) same
    (number_answers set sub kept notes.number needs (subst (λ (a : Asking). AnswersNumber (top_at set.rows a.sub) kept notes.number) (sym same) number))
  where
    one : (a b : Asking) → Some a ≡ Some b → a ≡ b
    one a b e = cc
centre_answers set (row.Resume sub) request kept notes e needs report number = absurd (no_request request e)
centre_answers set row.WrongCounter request kept notes e needs report number = absurd (no_request request e)
centre_answers set (row.Reauthenticated sent) request kept notes e needs report number = absurd (no_request request e)
centre_answers set (row.Ignore cause) request kept notes e needs report number = absurd (no_request request e)
centre_answers set (row.Ask kind) request kept notes e needs report number = absurd (no_request request e)
centre_answers set row.UnknownIdentity request kept notes e needs report number = absurd (no_request request e)
centre_answers set row.WrongMac request kept notes e needs report number = absurd (no_request request e)
centre_answers set row.WrongRes request kept notes e needs report number = absurd (no_request request e)
centre_answers set row.WrongCheckcode request kept notes e needs report number = absurd (no_request request e)
centre_answers set (row.Success sent) request kept notes e needs report number = absurd (no_request request e)
centre_answers set row.SecondSync request kept notes e needs report number = absurd (no_request request e)
centre_answers set row.BadAuts request kept notes e needs report number = absurd (no_request request e)
centre_answers set row.Rejected request kept notes e needs report number = absurd (no_request request e)
centre_answers set (row.ClientError code) request kept notes e needs report number = absurd (no_request request e)
centre_answers set (row.Notified cause) request kept notes e needs report number = absurd (no_request request e)

-- ---- what its line says of the centre

-- nothing, if the centre was asked for nobody or for another subscriber
says_nothing : (sub : ℕ) (r : EventRecord) → is_that sub (asked_in r.result) ≡ false → SaysNothing sub (Happening r)
says_nothing sub r other = (rw other refl, rw other refl)

-- and otherwise the answers that came of it
says_of : (sub : ℕ) (r : EventRecord) (notes : Notes) → asked_in r.result ≡ Some sub → (number_in r.result ≡ notes.number) × (resync_in r.result ≡ notes.resync)
    → SaysAnswers sub (Happening r) notes.number notes.resync
says_of sub r notes asks is = record {
  number_is = rw (asks, eq-eqb sub sub refl) is.0;
  resync_is = rw (asks, eq-eqb sub sub refl) is.1;
  others = λ i other. says_nothing i r (rw asks (ne_eqb sub i (λ same. other (sym same))));
}

module _ {S : Type 0} (goes : S → ℕ → List Entry → List (ℕ × Stop) → S → Type 0) (kept : S → ℕ → Option ℕ) (top : S → ℕ → ℕ) where
  pub says_event : (old new : S) (a : Option Asking) (told : ToldEvent) (before : List LineRecord) (r : EventRecord) → asked_in r.result ≡ asked_sub a → TellsNotes told r.result
      → AskedCentre goes kept top a told.notes old new → AreTold (kept old) before → Says (λ i es ws. goes old i es ws new) (kept new) before (Happening r)
  says_event old new None told before r asks tells asked are =
      says_unasked goes kept top old new before (Happening r) (λ i. says_nothing i r (rw asks refl)) asked.0 asked.1 are
  says_event old new (Some request) told before r asks tells asked are =
      says_asked goes kept top old new request told.notes before (Happening r) (says_of request.sub r told.notes asks (numbers_told told r.result request.sub asks tells)) asked are

-- ---- the number that a line names

-- a number that was released is one that a vector of a subscriber may have
abbrev pub IsOwnNumber : ℕ → Option NumberNote → Type 0
IsOwnNumber top None = Unit {0}
IsOwnNumber top (Some (number.Drew n)) = (1 ≤ n) × (n ≤ top)
IsOwnNumber top (Some (number.Exhausted word)) = Unit {0}
IsOwnNumber top (Some (number.Withheld n stop)) = Unit {0}

-- it is of the subscriber of a row, if the centre was asked; otherwise there is none
abbrev pub IsOwnAnswer : List SubscriberRow → Option ℕ → Option NumberNote → Type 0
IsOwnAnswer rows None note = note ≡ None
IsOwnAnswer rows (Some sub) note = (sub < length rows) × IsOwnNumber (top_at rows sub) note

module _ (set : Setting) (sub : ℕ) where
  pub own_number : (o : Option NumberNote) → IsNumberAnswer set sub o → IsOwnNumber (top_at set.rows sub) o
  own_number None is = tt
  own_number (Some (number.Drew n)) is = is
  own_number (Some (number.Exhausted word)) is = tt
  own_number (Some (number.Withheld n stop)) is = tt

  own_follows : (x : Resynchronisation) (o : Option NumberNote) → NumberFollows set sub x o → IsOwnNumber (top_at set.rows sub) o
  own_follows (found.Moved seen to) o follows = own_number o follows
  own_follows (found.InRange seen to) o follows = own_number o follows
  own_follows (found.Beyond seen to) o follows = subst (IsOwnNumber (top_at set.rows sub)) (sym follows) tt

  own_answer : (reported : Option ℕ) (notes : Notes) → CentreAnswers set sub reported notes → IsOwnNumber (top_at set.rows sub) notes.number
  own_answer None notes answers = own_number notes.number answers
  own_answer (Some seq) notes answers = own_follows (resynchronise_of answers.0 seq) notes.number answers.2

pub event_own : (set : Setting) (before : Before) (net next : Net) (e : Event) (lines : List LineRecord) (g : EventGives set before net e lines next)
    → IsOwnAnswer set.rows (asked_in (came set net e g.told)) (number_in (came set net e g.told))
event_own set before net next e lines g = by (asking_of set net e g.told) refl
  where
    by : (o : Option Asking) → asking_of set net e g.told ≡ o → IsOwnAnswer set.rows (asked_in (came set net e g.told)) (number_in (came set net e g.told))
    by None is =
        subst (λ (o : Option ℕ). IsOwnAnswer set.rows o (number_in (came set net e g.told))) (sym ((agrees set net e g.told).asks ∙ ap asked_sub is)) ((agrees set net e g.told).silent is)
    by (Some request) is =
        let asks : asked_in (came set net e g.told) ≡ Some request.sub = (agrees set net e g.told).asks ∙ ap asked_sub is in
        let asked : IsCentreAsked set (Some request) g.told.notes = subst (λ (o : Option Asking). IsCentreAsked set o g.told.notes) is g.centre in
        subst (λ (o : Option ℕ). IsOwnAnswer set.rows o (number_in (came set net e g.told))) (sym asks)
        (subst (λ (o : Option NumberNote). (request.sub < length set.rows) × IsOwnNumber (top_at set.rows request.sub) o) (sym (numbers_told g.told (came set net e g.told) request.sub asks g.notes).0)
        (asked.known, own_answer set request.sub request.reported g.told.notes asked.answers))

-- what holds of each event's line holds of all lines of events
module _ (set : Setting) (P : LineRecord → Type 0) (each : (e : Event) (c : Came) → IsOwnAnswer set.rows (asked_in c) (number_in c) → P (Happening (record { event = e; result = c }))) where
  pub event_lines : (before : Before) (net next : Net) (e : Event) (lines : List LineRecord) → EventGives set before net e lines next → All P lines
  event_lines before net next e lines g =
      subst (All P) (sym g.lines_are) (All-cons P (Happening (record { event = e; result = came set net e g.told })) [] (each e (came set net e g.told) (event_own set before net next e lines g)) (All-nil P))

  relay_lines : (before : Before) (net next : Net) (session : ℕ) (at' : End) (o : Option ℕ) (lines : List LineRecord) → RelayGives set before net session at' o lines next → All P lines
  relay_lines before net next session at' None [] g = All-nil P
  relay_lines before net next session at' None (line ∷ lines) g = absurd g
  relay_lines before net next session at' (Some packet) [] g = absurd g
  relay_lines before net next session at' (Some packet) (line ∷ lines) (mid, first, more) =
      All-append P (line ∷ []) lines (event_lines before net mid (event.Deliver session at' packet) (line ∷ []) first)
      (relay_lines (behind before (line ∷ [])) mid next session (other at') (packet_of line) lines more)

  pub plain_lines : (before : Before) (net next : Net) (session : ℕ) (lines : List LineRecord) → PlainGives set before net session lines next → All P lines
  plain_lines before net next session [] g = absurd g
  plain_lines before net next session (line ∷ lines) (mid, first, more) =
      All-append P (line ∷ []) lines (event_lines before net mid (event.Start session) (line ∷ []) first)
      (relay_lines (behind before (line ∷ [])) mid next session end.Peer (packet_of line) lines more)
