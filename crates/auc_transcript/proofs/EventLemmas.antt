-- For the laws: what the record of an event is, by all lines before it.
use Rattle.std.proofs.Common.{◌≡◌, ◌≢◌, ℕ, ◌≤◌, ◌==◌, Bool, true, false, cond, not, Option, Some, None, Ok, Err, List, [], ◌++◌, refl, sym, ◌∙◌, ap, subst}
use Rattle.std.specs.Prelude.{if◌then◌else◌, slice_get}
use Rattle.std.specs.Str.{bytes_eq}
use Rattle.std.proofs.lemmas.Bool.{eqb-true}
use Rattle.std.proofs.lemmas.Slice.Eq.{bytes_eq-Decides}
use Rattle.auc_history.specs.Resynchronise.{Resynchronisation, resynchronise_of}
use Rattle.auc_history.specs.Resynchronise as found
use Rattle.auc_hmac.specs.declared.keys.KeySet.{KeySet}
use Rattle.auc_hmac.specs.declared.keys.Master.{Master}
use Rattle.auc_lines.specs.Part.{is_that}
use Rattle.auc_lines.specs.declared.part.End.{End}
use Rattle.auc_lines.specs.declared.part.End.TheVariants as end
use Rattle.auc_milenage.specs.declared.secret.Secret.{Secret}
use Rattle.auc_packet.specs.Received.{Seen, is_sealed}
use Rattle.auc_peer.specs.Attributes.{checkcode}
use Rattle.auc_peer.specs.Rows.{peer_row}
use Rattle.auc_peer.specs.Subscription.{Subscription}
use Rattle.auc_peer.specs.Table.{accepted as peer_accepts, accepting, client, genuine, opened, own_code, peer_does}
use Rattle.auc_peer.specs.Turn.{asked}
use Rattle.auc_peer.specs.declared.decrypted.Decrypted.{Decrypted}
use Rattle.auc_peer.specs.declared.decrypted.Decrypted.TheVariants as decrypted
use Rattle.auc_peer.specs.declared.peer.Challenge.{Challenge}
use Rattle.auc_peer.specs.declared.peer.Peer.{Peer}
use Rattle.auc_peer.specs.declared.rows.Row.{Row as PeerRow}
use Rattle.auc_peer.specs.declared.rows.Row.TheVariants as row
use Rattle.auc_seal.specs.Checkcode.{differs}
use Rattle.auc_vector.specs.declared.why.PeerWhy.{PeerWhy}
use Rattle.auc_vector.specs.declared.why.PeerWhy.TheVariants as why
use Rattle.auc_reauth.specs.Device.{Keeps}
use Rattle.auc_server.specs.Server.{ServerEnd}
use Rattle.auc_server.specs.declared.options.ServerOptions.{ServerOptions}
use Rattle.auc_sqn.specs.Number.{ind_of, seq_of}
use Rattle.auc_sqn.specs.Past.{Past, verdict_of}
use Rattle.auc_sqn.specs.declared.verdict.Verdict.{Verdict}
use Rattle.auc_sqn.specs.declared.verdict.Verdict.TheVariants.{Fresh, Old, Far, Aged}
use Rattle.auc_subs.specs.Subscriber.{top_at}
use Rattle.auc_subs.specs.declared.row.Row.{Row}
use Rattle.auc_usim.specs.Usim.{FollowsVerdict, IsAnswer, acceptance, mac_in, sqn_in, verdict_on, xmac}
use Rattle.auc_usim.specs.declared.answer.Answer.TheVariants as answer
use Rattle.auc_vector.specs.Notes.{Asking}
use Rattle.auc_vector.specs.declared.notes.Notes.{Notes}
use Rattle.auc_vector.specs.declared.notes.NumberNote.{NumberNote}
use Rattle.auc_vector.specs.declared.notes.NumberNote.TheVariants as number
use Rattle.auc_vector.specs.declared.notes.UsimNote.{UsimNote}
use Rattle.auc_vector.specs.declared.notes.UsimNote.TheVariants as usim
use Rattle.auc_vector.specs.declared.turn.Turn.{Turn}
use Rattle.auc_record.specs.Event.{Came, asked_in, device_in, number_in, usim_in}
use Rattle.auc_world.specs.Came.{TellsNotes, asked_sub, asking_at, asking_in, asking_of, by_network, came, came_at_peer, came_at_server, came_changed, came_delivered, came_given_up, came_in, came_opened, came_repeated, came_started, presented_at, presented_by, presented_in, server_came_to_give_up, session_of}
use Rattle.auc_world.specs.Given.{Before, CentreAnswers, IsCentreAsked, IsNumberAnswer, IsUsimAsked, NumberFollows, UsimNotes, past_before, past_by}
use Rattle.auc_world.specs.Happened.{Delivery, ToldEvent, changed_in, delivery_in, peer_turn, server_turn}
use Rattle.auc_world.specs.Net.{Net, device_place, keeps_at, packet_at, session_place}
use Rattle.auc_subs.specs.Setting.{Setting}
use Rattle.auc_record.specs.declared.event.Event.{Event}
use Rattle.auc_record.specs.declared.event.Event.TheVariants as event
use Rattle.auc_world.specs.declared.net.SentPacket.{SentPacket}
use Rattle.auc_world.specs.declared.net.Session.{Session}
use Rattle.auc_record.specs.declared.record.LineRecord.{LineRecord}
use Rattle.auc_transcript.proofs.ChangeLemmas.{change_holds}

-- all earlier lines
abbrev pub all_before : Before → List LineRecord
all_before place = place.early ++ place.beside ++ place.own

-- a drawn number is one that a vector of a subscriber with this greatest number may have, and the word of a spent one is none that
-- one may still have
abbrev pub IsNoteServed : ℕ → Option NumberNote → Type 0
IsNoteServed top None = Unit {0}
IsNoteServed top (Some (number.Drew n)) = n ≤ top
IsNoteServed top (Some (number.Exhausted word)) = top ≤ word
IsNoteServed top (Some (number.Withheld n stop)) = Unit {0}

-- if the centre's note for one subscriber is so, it is so for each, since the others have none
pub note_served : (set : Setting) (s sub : ℕ) (note : Option NumberNote) → IsNoteServed (top_at set.rows s) note → IsNoteServed (top_at set.rows sub) (if s == sub then note else None)
note_served set s sub note is = by (s == sub) refl
  where
    by : (b : Bool) → (s == sub) ≡ b → IsNoteServed (top_at set.rows sub) (if b then note else None)
    by true mine = subst (λ (k : ℕ). IsNoteServed (top_at set.rows k) note) (eqb-true s sub mine) is
    by false mine = tt

-- an SQN is fresh for a subscriber's USIM, by all that it accepted before
pub record IsFreshFor (set : Setting) (before : List LineRecord) (sub : ℕ) (sqn : List ℕ) : Type 0 where
  pub row : Row
  pub there : slice_get set.rows sub ≡ Some row
  pub fresh : verdict_of row.age (past_by row sub before) (seq_of row.bits sqn) (ind_of row.bits sqn) ≡ Fresh

-- what an event came to: what the centre answered, and that the USIM accepts fresh SQNs alone
pub record IsEventServed (set : Setting) (before : List LineRecord) (result : Came) : Type 0 where
  pub numbers : (sub : ℕ) → IsNoteServed (top_at set.rows sub) (if is_that sub (asked_in result) then number_in result else None)
  pub fresh : (sub : ℕ) (sqn : List ℕ) → (if is_that sub (device_in result) then usim_in result else None) ≡ Some (usim.Accepted sqn)
      → IsFreshFor set before sub sqn

-- ---- nobody was asked

no_note : (sqn : List ℕ) → ◌≡◌ {A = Option UsimNote} None (Some (usim.Accepted sqn)) → ⊥
no_note sqn e = cc

silent_served : (set : Setting) (before : List LineRecord) (result : Came) → asked_in result ≡ None → device_in result ≡ None → IsEventServed set before result
silent_served set before result no_sub no_device = record {
  numbers = λ sub. subst (λ (o : Option ℕ). IsNoteServed (top_at set.rows sub) (if is_that sub o then number_in result else None)) (sym no_sub) tt;
  fresh = λ sub sqn is. absurd (no_note sqn (ap (λ (o : Option ℕ). if is_that sub o then usim_in result else None) (sym no_device) ∙ is));
}

-- ---- the centre's answer

number_served : (set : Setting) (sub : ℕ) (note : Option NumberNote) → IsNumberAnswer set sub note → IsNoteServed (top_at set.rows sub) note
number_served set sub None is = tt
number_served set sub (Some (number.Drew n)) is = is.1
number_served set sub (Some (number.Exhausted word)) is = is
number_served set sub (Some (number.Withheld n stop)) is = tt

following_served : (set : Setting) (sub : ℕ) (r : Resynchronisation) (note : Option NumberNote) → NumberFollows set sub r note → IsNoteServed (top_at set.rows sub) note
following_served set sub (found.Moved seen seq_ms) drew is = number_served set sub drew is
following_served set sub (found.InRange seen seq_ms) drew is = number_served set sub drew is
following_served set sub (found.Beyond seen seq_ms) drew is = subst (IsNoteServed (top_at set.rows sub)) (sym is) tt

answer_served : (set : Setting) (sub : ℕ) (reported : Option ℕ) (notes : Notes) → CentreAnswers set sub reported notes → IsNoteServed (top_at set.rows sub) notes.number
answer_served set sub None notes is = number_served set sub notes.number is
answer_served set sub (Some seq_ms) notes (seen, noted, follows) = following_served set sub (resynchronise_of seen seq_ms) notes.number follows

asked_served : (set : Setting) (request : Option Asking) (told notes : Notes) (sub : ℕ) → told ≡ notes → IsCentreAsked set request told
    → IsNoteServed (top_at set.rows sub) (if is_that sub (asked_sub request) then notes.number else None)
asked_served set None told notes sub same centre = tt
asked_served set (Some request) told notes sub same centre =
    note_served set request.sub sub notes.number
    (subst (λ (n : Notes). IsNoteServed (top_at set.rows request.sub) n.number) same (answer_served set request.sub request.reported told centre.answers))

server_served : (set : Setting) (place : Before) (w : Net) (told : ToldEvent) (o : Option ServerEnd) → TellsNotes told (came_at_server set w told o)
    → IsCentreAsked set (asking_at set w told o) told.notes → IsEventServed set (all_before place) (came_at_server set w told o)
server_served set place w told None tells centre = silent_served set (all_before place) (came_at_server set w told None) refl refl
server_served set place w told (Some s) tells centre = record {
  numbers = λ sub. asked_served set (asking_at set w told (Some s)) told.notes (server_turn set w s told).1.notes sub tells centre;
  fresh = λ sub sqn is. absurd (no_note sqn is);
}

-- ---- the USIM's answer

not_accepted : (s : Secret) (rand autn : List ℕ) → acceptance s rand autn ≡ answer.WrongMac → ⊥
unfolding acceptance
not_accepted s rand autn e = cc

no_failure : (s : Secret) (rand autn auts sqn : List ℕ) → acceptance s rand autn ≡ answer.SyncFailure auts sqn → ⊥
unfolding acceptance
no_failure s rand autn auts sqn e = cc

-- a USIM accepts a fresh SQN alone
module _ (s : Secret) (bits : ℕ) (age : Option ℕ) (past : Past) (rand autn : List ℕ) where
  accepts_fresh : IsAnswer s bits age past rand autn (acceptance s rand autn) → verdict_on s bits age past rand autn ≡ Fresh
  accepts_fresh is =
      by (bytes_eq (mac_in autn) (xmac s rand autn)) refl
    where
      follows : (v : Verdict) → FollowsVerdict s bits past rand autn v (acceptance s rand autn) → v ≡ Fresh
      follows Fresh same = refl
      follows (Old entry) (sqn_ms, highest, same) = absurd (no_failure s rand autn _ sqn_ms same)
      follows (Far greatest) (sqn_ms, highest, same) = absurd (no_failure s rand autn _ sqn_ms same)
      follows (Aged greatest) (sqn_ms, highest, same) = absurd (no_failure s rand autn _ sqn_ms same)

      apart : bytes_eq (mac_in autn) (xmac s rand autn) ≡ false → mac_in autn ≢ xmac s rand autn
      apart differ same = let alike = (bytes_eq-Decides (mac_in autn) (xmac s rand autn)).1 same in let bad : ⊥ = cc in bad

      by : (b : Bool) → bytes_eq (mac_in autn) (xmac s rand autn) ≡ b → verdict_on s bits age past rand autn ≡ Fresh
      by true same = follows (verdict_on s bits age past rand autn) (is.right_mac ((bytes_eq-Decides (mac_in autn) (xmac s rand autn)).0 same))
      by false differ = absurd (not_accepted s rand autn (is.wrong_mac (apart differ)))

-- the note of two turns, of which a test picks one
picked_note : (b : Bool) (x y : Peer × Turn PeerWhy) (n : Option UsimNote) → x.1.notes.usim ≡ n → y.1.notes.usim ≡ n → (cond b x y).1.notes.usim ≡ n
picked_note true x y n e f = e
picked_note false x y n e f = f

opened_note : (p : Peer) (seen : Seen) (res sqn : List ℕ) (keys : KeySet) (m : Master) (inner : Decrypted) → (opened p seen res sqn keys m inner).1.notes.usim ≡ Some (usim.Accepted sqn)
opened_note p seen res sqn keys m decrypted.Unreadable = refl
opened_note p seen res sqn keys m (decrypted.Attributes next) = refl

-- the note of a turn in which the USIM accepted names the SQN that AUTN has
accepted_note : (p : Peer) (seen : Seen) (c : Challenge) (res sqn : List ℕ) (keys : KeySet) (m : Master) (inner : Decrypted)
    → (peer_accepts p seen c res sqn keys m inner).1.notes.usim ≡ Some (usim.Accepted sqn)
accepted_note p seen c res sqn keys m inner =
    picked_note (not (is_sealed p.options.method keys.k_aut [] seen)) (client p seen why.WrongMac (Some (usim.Accepted sqn)) false) (genuine (accepting p seen c) seen res sqn keys m inner)
    (Some (usim.Accepted sqn)) refl
    (picked_note (differs (own_code (accepting p seen c)) (checkcode seen)) (client (accepting p seen c) seen why.WrongCheckcode (Some (usim.Accepted sqn)) true) (opened (accepting p seen c) seen res sqn keys m inner)
    (Some (usim.Accepted sqn)) refl (opened_note (accepting p seen c) seen res sqn keys m inner))

pub challenged_note : (key : List ℕ) (s : Subscription) (keeps : Keeps) (p : Peer) (seen : Seen) (c : Challenge) (m : List ℕ) (inner : Decrypted)
    → (peer_does key s keeps p seen (row.Challenged c) (Some (usim.Accepted m)) inner).1.notes.usim ≡ Some (usim.Accepted (sqn_in s.secret c.rand c.autn))
unfolding acceptance
challenged_note key s keeps p seen c m inner = accepted_note p seen c _ (sqn_in s.secret c.rand c.autn) _ _ inner

one_sqn : (o : Option UsimNote) (a b : List ℕ) → o ≡ Some (usim.Accepted a) → o ≡ Some (usim.Accepted b) → a ≡ b
one_sqn o a b e f = cc

no_asking : (n x : Option UsimNote) (sqn : List ℕ) → n ≡ None → n ≡ x → x ≡ Some (usim.Accepted sqn) → ⊥
no_asking n x sqn e f g = cc

no_sync : (x : Option UsimNote) (m sqn : List ℕ) → Some (usim.Sync m) ≡ x → x ≡ Some (usim.Accepted sqn) → ⊥
no_sync x m sqn e f = cc

no_wrong : (x : Option UsimNote) (sqn : List ℕ) → Some usim.WrongMac ≡ x → x ≡ Some (usim.Accepted sqn) → ⊥
no_wrong x sqn e f = cc

-- an SQN that a turn notes as accepted is fresh by the USIM's past
turn_fresh : (key : List ℕ) (s : Subscription) (home : Row) (keeps : Keeps) (p : Peer) (seen : Seen) (r : PeerRow) (past : Past) (n : Option UsimNote) (inner : Decrypted) (sqn : List ℕ)
    → UsimNotes s.secret home past (asked r) n → n ≡ (peer_does key s keeps p seen r n inner).1.notes.usim → (peer_does key s keeps p seen r n inner).1.notes.usim ≡ Some (usim.Accepted sqn)
    → verdict_of home.age past (seq_of home.bits sqn) (ind_of home.bits sqn) ≡ Fresh
turn_fresh key s home keeps p seen (row.Ignore cause) past n inner sqn is same accepts = absurd (no_asking n _ sqn is same accepts)
turn_fresh key s home keeps p seen row.Again past n inner sqn is same accepts = absurd (no_asking n _ sqn is same accepts)
turn_fresh key s home keeps p seen row.First past n inner sqn is same accepts = absurd (no_asking n _ sqn is same accepts)
turn_fresh key s home keeps p seen (row.Identity kind) past n inner sqn is same accepts = absurd (no_asking n _ sqn is same accepts)
turn_fresh key s home keeps p seen (row.Client cause) past n inner sqn is same accepts = absurd (no_asking n _ sqn is same accepts)
turn_fresh key s home keeps p seen (row.Reject cause) past n inner sqn is same accepts = absurd (no_asking n _ sqn is same accepts)
turn_fresh key s home keeps p seen (row.Notified code) past n inner sqn is same accepts = absurd (no_asking n _ sqn is same accepts)
turn_fresh key s home keeps p seen (row.Challenged c) past None inner sqn is same accepts = absurd is
turn_fresh key s home keeps p seen (row.Challenged c) past (Some (usim.Accepted m)) inner sqn is same accepts =
    subst (λ (x : List ℕ). verdict_of home.age past (seq_of home.bits x) (ind_of home.bits x) ≡ Fresh) (one_sqn _ (sqn_in s.secret c.rand c.autn) sqn (challenged_note key s keeps p seen c m inner) accepts)
    (accepts_fresh s.secret home.bits home.age past c.rand c.autn is)
turn_fresh key s home keeps p seen (row.Challenged c) past (Some (usim.Sync m)) inner sqn is same accepts = absurd (no_sync _ m sqn same accepts)
turn_fresh key s home keeps p seen (row.Challenged c) past (Some usim.WrongMac) inner sqn is same accepts = absurd (no_wrong _ sqn same accepts)
turn_fresh key s home keeps p seen row.Reauthentication past n inner sqn is same accepts = absurd (no_asking n _ sqn is same accepts)
turn_fresh key s home keeps p seen row.Success past n inner sqn is same accepts = absurd (no_asking n _ sqn is same accepts)
turn_fresh key s home keeps p seen (row.Failure cause) past n inner sqn is same accepts = absurd (no_asking n _ sqn is same accepts)

peer_served : (set : Setting) (place : Before) (w : Net) (d : Delivery) (told : ToldEvent) (o : Option Subscription) → TellsNotes told (came_at_peer set w d told o)
    → IsUsimAsked set place (presented_at w d told o) told → IsEventServed set (all_before place) (came_at_peer set w d told o)
peer_served set place w d told None tells is = silent_served set (all_before place) (came_at_peer set w d told None) refl refl
peer_served set place w d told (Some device) tells is = record {
  numbers = λ sub. tt;
  fresh = λ sub sqn accepts. by sub sqn (d.session.sub == sub) refl accepts;
}
  where
    notes : Option UsimNote
    notes = (peer_turn set device (keeps_at w d.session.device) d.session told).1.notes.usim

    here : (sqn : List ℕ) → notes ≡ Some (usim.Accepted sqn) → IsFreshFor set (all_before place) d.session.sub sqn
    here sqn accepts = record {
      row = is.row;
      there = is.there;
      fresh = turn_fresh set.key device is.row (keeps_at w d.session.device) d.session.peer told.seen (peer_row d.session.peer told.seen) (past_before place is.row d.session.sub) told.notes.usim told.inner sqn
          is.answers (ap (λ (n : Notes). n.usim) tells) accepts;
    }

    by : (sub : ℕ) (sqn : List ℕ) (b : Bool) → (d.session.sub == sub) ≡ b → (if b then notes else None) ≡ Some (usim.Accepted sqn) → IsFreshFor set (all_before place) sub sqn
    by sub sqn true mine accepts = subst (λ (k : ℕ). IsFreshFor set (all_before place) k sqn) (eqb-true d.session.sub sub mine) (here sqn accepts)
    by sub sqn false mine accepts = absurd (no_note sqn accepts)

-- ---- events

delivered_served : (set : Setting) (place : Before) (w : Net) (at' : End) (told : ToldEvent) (sent : Option SentPacket) (d : Option Delivery)
    → TellsNotes told (came_delivered set w at' told sent d) → IsCentreAsked set (asking_in set w at' told d) told.notes → IsUsimAsked set place (presented_in w at' told d) told
    → IsEventServed set (all_before place) (came_delivered set w at' told sent d)
delivered_served set place w at' told None d tells centre is = silent_served set (all_before place) (came_delivered set w at' told None d) refl refl
delivered_served set place w at' told (Some sent) None tells centre is = silent_served set (all_before place) (came_delivered set w at' told (Some sent) None) refl refl
delivered_served set place w end.Server told (Some sent) (Some d) tells centre is = server_served set place w told d.session.server tells centre
delivered_served set place w end.Peer told (Some sent) (Some d) tells centre is = peer_served set place w d told (slice_get w.devices d.session.device) tells is

in_served : (set : Setting) (before : List LineRecord) (does : Session → Came) (o : Option Session) → ((s : Session) → IsEventServed set before (does s))
    → IsEventServed set before (came_in does o)
in_served set before does None each = silent_served set before (came_in does None) refl refl
in_served set before does (Some s) each = each s

opened_served : (set : Setting) (before : List LineRecord) (first place : Option ℕ) → IsEventServed set before (came_opened first place)
opened_served set before (Some first) place = silent_served set before (came_opened (Some first) place) refl refl
opened_served set before None None = silent_served set before (came_opened None None) refl refl
opened_served set before None (Some place) = silent_served set before (came_opened None (Some place)) refl refl

started_served : (set : Setting) (before : List LineRecord) (w : Net) (options : ServerOptions) (o : Option ServerEnd) → IsEventServed set before (came_started w options o)
started_served set before w options None = silent_served set before (came_started w options None) refl refl
started_served set before w options (Some s) = silent_served set before (came_started w options (Some s)) refl refl

repeated_served : (set : Setting) (before : List LineRecord) (w : Net) (o : Option ServerEnd) → IsEventServed set before (came_repeated w o)
repeated_served set before w None = silent_served set before (came_repeated w None) refl refl
repeated_served set before w (Some s) = silent_served set before (came_repeated w (Some s)) refl refl

server_over_served : (set : Setting) (before : List LineRecord) (w : Net) (o : Option ServerEnd) → IsEventServed set before (server_came_to_give_up w o)
server_over_served set before w None = silent_served set before (server_came_to_give_up w None) refl refl
server_over_served set before w (Some s) = silent_served set before (server_came_to_give_up w (Some s)) refl refl

given_up_served : (set : Setting) (before : List LineRecord) (w : Net) (at' : End) (s : Session) → IsEventServed set before (came_given_up w at' s)
given_up_served set before w end.Server s = server_over_served set before w s.server
given_up_served set before w end.Peer s = silent_served set before (came_given_up w end.Peer s) refl refl

changed_served : (set : Setting) (before : List LineRecord) (w : Net) (e : Event) (sent : Option SentPacket)
    → IsEventServed set before (came_changed w.packets sent (changed_in w.packets e))
changed_served set before w e sent =
    change_holds (IsEventServed set before) (λ why. silent_served set before (Err why) refl refl) (λ packets bytes. silent_served set before (Ok (by_network packets bytes)) refl refl)
    w.packets sent (changed_in w.packets e)

-- what an event of a job comes to
pub event_served : (set : Setting) (place : Before) (w : Net) (e : Event) (told : ToldEvent) → TellsNotes told (came set w e told) → IsCentreAsked set (asking_of set w e told) told.notes
    → IsUsimAsked set place (presented_by w e told) told → IsEventServed set (all_before place) (came set w e told)
event_served set place w (event.Open opening) told tells centre is =
    opened_served set (all_before place) (session_place w.sessions opening.session) (device_place set.rows w.devices opening.sub)
event_served set place w (event.Start session) told tells centre is =
    in_served set (all_before place) (λ s. came_started w s.options s.server) (session_of w session) (λ s. started_served set (all_before place) w s.options s.server)
event_served set place w (event.Deliver session at' packet) told tells centre is =
    delivered_served set place w at' told (packet_at w.packets packet) (delivery_in w session packet) tells centre is
event_served set place w (event.Repeat session) told tells centre is =
    in_served set (all_before place) (λ s. came_repeated w s.server) (session_of w session) (λ s. repeated_served set (all_before place) w s.server)
event_served set place w (event.GiveUp session at') told tells centre is =
    in_served set (all_before place) (came_given_up w at') (session_of w session) (λ s. given_up_served set (all_before place) w at' s)
event_served set place w (event.Tamper packet position byte) told tells centre is = changed_served set (all_before place) w (event.Tamper packet position byte) (packet_at w.packets packet)
event_served set place w (event.Cut packet count) told tells centre is = changed_served set (all_before place) w (event.Cut packet count) (packet_at w.packets packet)
