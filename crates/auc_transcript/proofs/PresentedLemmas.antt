-- For the law of vectors that sessions present: the USIM answers such a vector by its past, as it answers one that is given.
use Rattle.std.proofs.Common.{◌≡◌, ℕ, zero, suc, ◌≤◌, ◌==◌, Bool, true, false, List, Option, Some, None, refl, sym, ap, ◌∙◌, subst}
use Rattle.std.specs.Prelude.{if◌then◌else◌, slice_get}
use Rattle.std.specs.Option.{option_map}
use Rattle.std.proofs.lemmas.Bool.{eqb-true}
use Rattle.std.proofs.lemmas.Option.{slice_get-map}
use Rattle.auc_lines.specs.Part.{is_that}
use Rattle.auc_lines.specs.declared.part.End.TheVariants as end
use Rattle.auc_milenage.specs.Milenage.{auts}
use Rattle.auc_milenage.specs.declared.secret.Secret.{Secret}
use Rattle.auc_packet.specs.Received.{IsReceived, Seen}
use Rattle.auc_peer.specs.Asking.{answer_noted}
use Rattle.auc_peer.specs.Rows.{peer_row}
use Rattle.auc_peer.specs.Subscription.{Subscription}
use Rattle.auc_peer.specs.Turn.{asked}
use Rattle.auc_peer.specs.declared.peer.Challenge.{Challenge}
use Rattle.auc_sqn.specs.Number.{ind_of, seq_of, sqn_bytes, top_of}
use Rattle.auc_sqn.specs.Past.{Past, IsSqnMs, verdict_of}
use Rattle.auc_sqn.specs.declared.verdict.Verdict.{Verdict}
use Rattle.auc_sqn.specs.declared.verdict.Verdict.TheVariants.{Fresh, Old, Far, Aged}
use Rattle.auc_sqn.proofs.Facts.{ind_of-sqn_bytes, seq_of-sqn_bytes}
use Rattle.auc_subs.specs.Subscriber.{IsRow}
use Rattle.auc_subs.specs.declared.row.Row.{Row}
use Rattle.auc_usim.specs.Usim.{FollowsVerdict, IsAnswer, acceptance, mac_in, sqn_in, verdict_on, xmac}
use Rattle.auc_usim.specs.declared.answer.Answer.TheVariants as answer
use Rattle.auc_vector.specs.Vector.{autn_of, sqn_in as sqn_found}
use Rattle.auc_vector.specs.declared.notes.Notes.{Notes}
use Rattle.auc_vector.specs.declared.notes.UsimNote.{UsimNote}
use Rattle.auc_vector.specs.declared.notes.UsimNote.TheVariants as usim
use Rattle.auc_vector.proofs.Facts.{autn_carries, autn_has_its_mac}
use Rattle.auc_world.specs.Came.{AreReceived, TellsNotes, bytes_named, came, came_at_peer, came_delivered, presented_at, presented_by, presented_in, received_at, received_by}
use Rattle.auc_record.specs.Event.{Came, device_in, usim_for, usim_in}
use Rattle.auc_world.specs.Given.{Before, IsUsimAsked, UsimAnswers, UsimNotes, past_before, verdict_by}
use Rattle.auc_world.specs.Happened.{Delivery, ToldEvent, delivery_at, delivery_of, peer_turn}
use Rattle.auc_world.specs.Net.{Net, keeps_at, packet_at, session_place}
use Rattle.auc_subs.specs.Setting.{Setting}
use Rattle.auc_record.specs.declared.event.Event.{Event}
use Rattle.auc_record.specs.declared.event.Event.TheVariants as event
use Rattle.auc_record.specs.declared.event.EventRecord.{EventRecord}
use Rattle.auc_world.specs.declared.net.SentPacket.{SentPacket}
use Rattle.auc_world.specs.declared.net.Session.{Session}
use Rattle.auc_record.specs.declared.record.GiveVerdict.{GiveVerdict}
use Rattle.auc_record.specs.declared.record.GiveVerdict.TheVariants as given
use Rattle.auc_world.proofs.Facts.{IsPresentedAt, presented_is_at}
use Rattle.auc_transcript.specs.Presented.{packet_of_number, packets_in}
use Rattle.auc_transcript.proofs.HandedLemmas.{IsReadIn, handed_is_read}
use Rattle.auc_transcript.proofs.PacketLemmas.{bytes_of}
use Rattle.auc_transcript.proofs.WalkLemmas.{HasSecret, Occurred}

-- ---- a vector and the answer to it

-- a note as the answer to a vector that is given; a wrong MAC is none
abbrev pub given_of : UsimNote → GiveVerdict
given_of (usim.Accepted sqn) = given.Accepted
given_of (usim.Sync sqn_ms) = given.Sync sqn_ms
given_of usim.WrongMac = given.Absent

not_wrong : (s : Secret) (rand autn : List ℕ) → answer.WrongMac ≡ acceptance s rand autn → ⊥
unfolding acceptance
not_wrong s rand autn e = cc

not_failed : (s : Secret) (rand autn auts_sent sqn : List ℕ) → answer.SyncFailure auts_sent sqn ≡ acceptance s rand autn → ⊥
unfolding acceptance
not_failed s rand autn auts_sent sqn e = cc

no_wrong : (auts_sent sqn : List ℕ) → answer.WrongMac ≡ answer.SyncFailure auts_sent sqn → ⊥
no_wrong auts_sent sqn e = cc

one_failure : (a b m n : List ℕ) → answer.SyncFailure a m ≡ answer.SyncFailure b n → m ≡ n
one_failure a b m n e = cc

-- the answer to a right MAC, by the verdict
failure_given : (s : Secret) (bits : ℕ) (past : Past) (c : Challenge) (note : UsimNote) (sqn_ms : List ℕ) → IsSqnMs bits past sqn_ms
    → answer_noted s c note ≡ answer.SyncFailure (auts s.k s.opc c.rand sqn_ms) sqn_ms → (m : List ℕ) × IsSqnMs bits past m × (given_of note ≡ given.Sync m)
failure_given s bits past c (usim.Accepted sqn) sqn_ms is same = absurd (not_failed s c.rand c.autn (auts s.k s.opc c.rand sqn_ms) sqn_ms (sym same))
failure_given s bits past c (usim.Sync m) sqn_ms is same =
    (sqn_ms, is, ap given.Sync (one_failure (auts s.k s.opc c.rand m) (auts s.k s.opc c.rand sqn_ms) m sqn_ms same))
failure_given s bits past c usim.WrongMac sqn_ms is same = absurd (no_wrong (auts s.k s.opc c.rand sqn_ms) sqn_ms same)

follows_given : (s : Secret) (bits : ℕ) (past : Past) (c : Challenge) (note : UsimNote) (v : Verdict) → FollowsVerdict s bits past c.rand c.autn v (answer_noted s c note)
    → UsimAnswers bits v past (given_of note)
follows_given s bits past c (usim.Accepted sqn) Fresh same = refl
follows_given s bits past c (usim.Sync m) Fresh same = absurd (not_failed s c.rand c.autn (auts s.k s.opc c.rand m) m same)
follows_given s bits past c usim.WrongMac Fresh same = absurd (not_wrong s c.rand c.autn same)
follows_given s bits past c note (Old entry) (sqn_ms, is, same) = failure_given s bits past c note sqn_ms is same
follows_given s bits past c note (Far greatest) (sqn_ms, is, same) = failure_given s bits past c note sqn_ms is same
follows_given s bits past c note (Aged greatest) (sqn_ms, is, same) = failure_given s bits past c note sqn_ms is same

-- RAND and AUTN of the vector of a row
abbrev pub vector_challenge : Row → ℕ → List ℕ → Challenge
vector_challenge r n rand = record { rand = rand; autn = autn_of r.secret.k r.secret.opc rand r.amf r.bits n }

-- a USIM finds in a vector of its own row the MAC that it expects, and the SQN of the vector's number
finds_mac : (r : Row) (n : ℕ) (rand : List ℕ) → IsRow r → mac_in (vector_challenge r n rand).autn ≡ xmac r.secret rand (vector_challenge r n rand).autn
unfolding xmac sqn_in sqn_found
finds_mac r n rand is = autn_has_its_mac r.secret.k r.secret.opc rand r.amf r.bits n is.key is.operator is.management

finds_sqn : (r : Row) (n : ℕ) (rand : List ℕ) → IsRow r → sqn_in r.secret rand (vector_challenge r n rand).autn ≡ sqn_bytes r.bits n
unfolding sqn_in sqn_found
finds_sqn r n rand is = autn_carries r.secret.k r.secret.opc rand r.amf r.bits n is.key is.operator

-- so it answers as it answers the vector that is given
pub vector_given : (r : Row) (past : Past) (n : ℕ) (rand : List ℕ) (note : UsimNote) → IsRow r → n ≤ top_of r.bits
    → IsAnswer r.secret r.bits r.age past rand (vector_challenge r n rand).autn (answer_noted r.secret (vector_challenge r n rand) note)
    → UsimAnswers r.bits (verdict_by r past n) past (given_of note)
vector_given r past n rand note is within answers =
    let autn = (vector_challenge r n rand).autn in
    let sqn = finds_sqn r n rand is in
    let verdict : verdict_on r.secret r.bits r.age past rand autn ≡ verdict_by r past n =
    ap (λ (b : List ℕ). verdict_of r.age past (seq_of r.bits b) (ind_of r.bits b)) sqn
    ∙ ap (λ (seq : ℕ). verdict_of r.age past seq (ind_of r.bits (sqn_bytes r.bits n))) (seq_of-sqn_bytes r.bits n is.few within)
    ∙ ap (λ (ind : ℕ). verdict_of r.age past n ind) (ind_of-sqn_bytes r.bits n is.few within) in
    subst (λ (v : Verdict). UsimAnswers r.bits v past (given_of note)) verdict
    (follows_given r.secret r.bits past (vector_challenge r n rand) note (verdict_on r.secret r.bits r.age past rand autn) (answers.right_mac (finds_mac r n rand is)))

-- ---- what a delivery hands the USIM

-- the USIM of a subscriber was handed what bytes say, and answered by its past
pub record IsHanded (set : Setting) (place : Before) (sub : ℕ) (bytes : List ℕ) (note : UsimNote) : Type 0 where
  pub row : Row
  pub there : slice_get set.rows sub ≡ Some row
  pub seen : Seen
  pub received : IsReceived seen
  pub of_bytes : seen.bytes ≡ bytes
  pub challenge : Challenge
  pub is_read : IsReadIn seen.reading challenge
  pub answers : IsAnswer row.secret row.bits row.age (past_before place row sub) challenge.rand challenge.autn (answer_noted row.secret challenge note)

-- what the USIM of a subscriber answered
abbrev usim_of : ℕ → Came → Option UsimNote
usim_of sub c = if is_that sub (device_in c) then usim_in c else None

no_note : (note : UsimNote) → ◌≡◌ {A = Option UsimNote} None (Some note) → ⊥
no_note note e = cc

-- the challenge that the USIM answered
asked_and_answered : (s : Secret) (home : Row) (past : Past) (c : Option Challenge) (n : Option UsimNote) (note : UsimNote) → n ≡ Some note → UsimNotes s home past c n
    → (challenge : Challenge) × (c ≡ Some challenge) × IsAnswer s home.bits home.age past challenge.rand challenge.autn (answer_noted s challenge note)
asked_and_answered s home past None n note is none = absurd (no_note note (sym none ∙ is))
asked_and_answered s home past (Some c) None note is none = absurd none
asked_and_answered s home past (Some c) (Some m) note is answers = (c, refl, subst (λ (x : UsimNote). IsAnswer s home.bits home.age past c.rand c.autn (answer_noted s c x)) (one m note is) answers)
  where
    one : (a b : UsimNote) → Some a ≡ Some b → a ≡ b
    one a b e = cc

-- a peer's device at which a packet arrived
peer_handed : (set : Setting) (place : Before) (w : Net) (d : Delivery) (told : ToldEvent) (sub : ℕ) (note : UsimNote) (o : Option Subscription) → slice_get w.devices d.session.device ≡ o
    → AreReceived (received_at w end.Peer (Some d)) told.seen → TellsNotes told (came_at_peer set w d told o) → IsUsimAsked set place (presented_at w d told o) told
    → IsPresentedAt (HasSecret set w.devices) (presented_at w d told o)
    → usim_of sub (came_at_peer set w d told o) ≡ Some note → IsHanded set place sub d.bytes note
peer_handed set place w d told sub note None at' received tells is secret noted = absurd (no_note note noted)
peer_handed set place w d told sub note (Some device) at' received tells is secret noted = by (d.session.sub == sub) refl noted
  where
    notes : Option UsimNote
    notes = (peer_turn set device (keeps_at w d.session.device) d.session told).1.notes.usim

    here : notes ≡ Some note → IsHanded set place d.session.sub d.bytes note
    here answered =
        let (challenge, handed, answers) = asked_and_answered device.secret is.row (past_before place is.row d.session.sub) (asked (peer_row d.session.peer told.seen)) told.notes.usim note
        (ap (λ (n : Notes). n.usim) tells ∙ answered) is.answers in
        let was : IsReceived told.seen × (told.seen.bytes ≡ d.bytes) = subst (λ (x : Option Subscription). AreReceived (received_by d.bytes x) told.seen) at' received in
        record {
          row = is.row;
          there = is.there;
          seen = told.seen;
          received = was.0;
          of_bytes = was.1;
          challenge = challenge;
          is_read = handed_is_read d.session.peer told.seen challenge handed;
          answers = subst (λ (s : Secret). IsAnswer s is.row.bits is.row.age (past_before place is.row d.session.sub) challenge.rand challenge.autn (answer_noted s challenge note))
              (secret device is.row at' is.there) answers;
        }

    by : (b : Bool) → (d.session.sub == sub) ≡ b → (if b then notes else None) ≡ Some note → IsHanded set place sub d.bytes note
    by true mine answered = subst (λ (k : ℕ). IsHanded set place k d.bytes note) (eqb-true d.session.sub sub mine) (here answered)
    by false mine answered = absurd (no_note note answered)

-- ---- events

-- bytes of a packet that was sent
bytes_sent : (packets : List SentPacket) (packet : ℕ) (sent : SentPacket) → packet_at packets packet ≡ Some sent → packet_of_number (bytes_of packets) packet ≡ Some sent.bytes
bytes_sent packets zero sent at' = absurd (let no : ⊥ = cc in no)
bytes_sent packets (suc place) sent at' =
    slice_get-map (λ (p : SentPacket). p.bytes) packets place ∙ ap (option_map (λ (p : SentPacket). p.bytes)) at'

-- what an event in which the USIM answered handed it: the bytes of the packet that it delivered
delivery_handed : (set : Setting) (before : Before) (w : Net) (told : ToldEvent) (packet place sub : ℕ) (note : UsimNote) (x : Option Session) (y : Option SentPacket)
    → packet_at w.packets packet ≡ y → AreReceived (received_at w end.Peer (delivery_of packet place x y)) told.seen
    → TellsNotes told (came_delivered set w end.Peer told y (delivery_of packet place x y)) → IsUsimAsked set before (presented_in w end.Peer told (delivery_of packet place x y)) told
    → IsPresentedAt (HasSecret set w.devices) (presented_in w end.Peer told (delivery_of packet place x y))
    → usim_of sub (came_delivered set w end.Peer told y (delivery_of packet place x y)) ≡ Some note
    → (bytes : List ℕ) × (packet_of_number (bytes_of w.packets) packet ≡ Some bytes) × IsHanded set before sub bytes note
delivery_handed set before w told packet place sub note x None at' received tells is secret noted = absurd (no_note note noted)
delivery_handed set before w told packet place sub note None (Some sent) at' received tells is secret noted = absurd (no_note note noted)
delivery_handed set before w told packet place sub note (Some session) (Some sent) at' received tells is secret noted =
    let d : Delivery = record { place = place; session = session; bytes = sent.bytes; packet = packet } in
    (sent.bytes, bytes_sent w.packets packet sent at', peer_handed set before w d told sub note (slice_get w.devices session.device) refl received tells is secret noted)

-- the USIM's answer in an event
delivered_handed : (set : Setting) (before : Before) (w : Net) (told : ToldEvent) (packet sub : ℕ) (note : UsimNote) (o : Option ℕ)
    → AreReceived (received_at w end.Peer (delivery_at w packet o)) told.seen
    → TellsNotes told (came_delivered set w end.Peer told (packet_at w.packets packet) (delivery_at w packet o)) → IsUsimAsked set before (presented_in w end.Peer told (delivery_at w packet o)) told
    → IsPresentedAt (HasSecret set w.devices) (presented_in w end.Peer told (delivery_at w packet o))
    → usim_of sub (came_delivered set w end.Peer told (packet_at w.packets packet) (delivery_at w packet o)) ≡ Some note
    → (bytes : List ℕ) × (packet_of_number (bytes_of w.packets) packet ≡ Some bytes) × IsHanded set before sub bytes note
delivered_handed set before w told packet sub note None received tells is secret noted = absurd (lost (packet_at w.packets packet) noted)
  where
    lost : (y : Option SentPacket) → usim_of sub (came_delivered set w end.Peer told y None) ≡ Some note → ⊥
    lost None e = no_note note e
    lost (Some sent) e = no_note note e
delivered_handed set before w told packet sub note (Some place) received tells is secret noted =
    delivery_handed set before w told packet place sub note (slice_get w.sessions place) (packet_at w.packets packet) refl received tells is secret noted

-- a delivery in which the USIM of a subscriber answered handed it the packet of the job
pub event_handed : (set : Setting) (place : Before) (r : EventRecord) (session packet sub : ℕ) (note : UsimNote) → Occurred set place r → r.event ≡ event.Deliver session end.Peer packet
    → usim_for sub r ≡ Some note → (bytes : List ℕ) × (packet_of_number (packets_in place.own) packet ≡ Some bytes) × IsHanded set place sub bytes note
event_handed set place r session packet sub note o delivers noted =
    let e : Event = event.Deliver session end.Peer packet in
    let w = o.net in
    let result : r.result ≡ came set w e o.told = o.result ∙ ap (λ (x : Event). came set w x o.told) delivers in
    let (bytes, at', is) = delivered_handed set place w o.told packet sub note (session_place w.sessions session)
    (subst (λ (x : Event). AreReceived (bytes_named w x) o.told.seen) delivers o.received)
    (subst (λ (x : Event). TellsNotes o.told (came set w x o.told)) delivers o.notes)
    (subst (λ (x : Event). IsUsimAsked set place (presented_by w x o.told) o.told) delivers o.usim)
    (presented_is_at (HasSecret set w.devices) w e o.told o.stands.sessions)
    (sym (ap (usim_of sub) result) ∙ noted) in
    (bytes, subst (λ (bs : List (List ℕ)). packet_of_number bs packet ≡ Some bytes) o.stands.packets at', is)
