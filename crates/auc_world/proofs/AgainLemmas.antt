-- For Agreement: in an honest run, in which each identity was resumed once, the ends of one fast re-authentication have equal keys.
use Rattle.std.proofs.Common.{◌≡◌, ℕ, zero, suc, Bool, true, false, List, [], ◌∷◌, ◌++◌, Option, Some, None, slice_get, slice_set, Contains, arith, refl, sym, ap, ◌∙◌, subst, ⊎_elim, append-nil}
use Rattle.std.proofs.lemmas.List.Elements.{Contains-push_cases}
use Rattle.auc_hmac.specs.declared.keys.KeySet.{KeySet}
use Rattle.auc_ident.specs.Permanent.{username}
use Rattle.auc_lines.specs.declared.part.End.{End}
use Rattle.auc_lines.specs.declared.part.End.TheVariants as end
use Rattle.auc_lines.specs.declared.part.SessionLine.{SessionLine}
use Rattle.auc_packet.specs.Messages.{is_missing}
use Rattle.auc_packet.specs.declared.subtype.Subtype.TheVariants as subtype
use Rattle.auc_packet.specs.Received.{attrs_in}
use Rattle.auc_peer.specs.Subscription.{Subscription}
use Rattle.auc_peer.specs.Table.{gave_up as peer_gave_up, text_or_none}
use Rattle.auc_peer.specs.Told.{ToldSession as PeerTold}
use Rattle.auc_peer.specs.Turn.{IsInner}
use Rattle.auc_peer.specs.declared.decrypted.Decrypted.TheVariants as decrypted
use Rattle.auc_peer.specs.declared.peer.Peer.{Peer}
use Rattle.auc_peer.specs.declared.peer.Source.{Source as KeySource}
use Rattle.auc_peer.specs.declared.peer.Source.TheVariants as source
use Rattle.auc_peer.specs.Peer.{resumed_from}
use Rattle.auc_peer.specs.declared.peer.PeerState.{PeerState}
use Rattle.auc_peer.specs.declared.peer.PeerState.TheVariants as peer_state
use Rattle.auc_vector.specs.declared.why.PeerWhy.{PeerWhy}
use Rattle.auc_vector.specs.declared.why.PeerWhy.TheVariants as peer_why
use Rattle.auc_reauth.specs.declared.context.Context.{Context}
use Rattle.auc_server.proofs.Facts.{turn_options}
use Rattle.auc_server.specs.Server.{ServerEnd, challenged_of, resumed_of, started}
use Rattle.auc_subs.specs.Setting.{Setting}
use Rattle.auc_server.specs.State.{last_of}
use Rattle.auc_server.specs.Table.{gave_up, repeated, resumed_keys}
use Rattle.auc_server.specs.declared.options.ServerOptions.{ServerOptions}
use Rattle.auc_server.specs.declared.server.Challenged.{Challenged}
use Rattle.auc_server.specs.declared.server.Last.{Last}
use Rattle.auc_server.specs.declared.server.Resumed.{Resumed}
use Rattle.auc_server.specs.declared.server.ServerState.{ServerState}
use Rattle.auc_server.specs.declared.server.ServerState.TheVariants as state
use Rattle.auc_server.specs.declared.setting.HomeRow.{HomeRow}
use Rattle.auc_vector.specs.declared.why.ServerWhy.{ServerWhy}
use Rattle.auc_vector.specs.declared.why.ServerWhy.TheVariants as why
use Rattle.auc_subs.specs.Subscriber.{AreSubscribers}
use Rattle.auc_vector.specs.Keys.{reauth_keys_of}
use Rattle.auc_vector.specs.declared.turn.Outcome.TheVariants as outcome
use Rattle.auc_vector.specs.declared.turn.Step.{Step}
use Rattle.auc_vector.specs.declared.turn.Step.TheVariants as step
use Rattle.auc_vector.specs.declared.turn.Turn.{Turn}
use Rattle.auc_world.specs.Agreement.{Agree, AreOfOneResumption, AreReleasedOnce, AreSized, AreTold, DecryptsIn, EachHonestRunAgrees, Happening, IsFresh, IsHonest, IsHonestAt, IsHonestFinding, IsRealm, IsToldAt, Noted, Occurs, PeerWon, SentBefore, ServerWon, after, after_one}
use Rattle.auc_world.specs.Came.{AreReceived, presented_at, presented_in, received_at, received_by}
use Rattle.auc_world.specs.Happened.{Delivery, ToldEvent, at_place, at_session, delivered, delivery_at, delivery_of, found, found_by, give_up, in_session, keys_won, moved, new_session, opened, peer_finds, peer_turn, repeat, sent_by, server_gives_up, server_turn, start, to_peer, to_server, changed_in, with_copy}
use Rattle.auc_world.specs.Net.{Net, device_place, inputs_from, inputs_of_context, inputs_of_peer, inputs_of_server, inputs_sent, keeps_at, packet_at, posted, session_place, copies}
use Rattle.auc_world.specs.Resumption.{AreResumedOnce, resumptions}
use Rattle.auc_record.specs.declared.event.Event.{Event}
use Rattle.auc_record.specs.declared.event.Event.TheVariants as event
use Rattle.auc_world.specs.declared.net.FastInputs.{FastInputs}
use Rattle.auc_world.specs.declared.net.Inputs.{Inputs}
use Rattle.auc_world.specs.declared.net.Inputs.TheVariants as inputs_of
use Rattle.auc_world.specs.declared.net.SentPacket.{SentPacket}
use Rattle.auc_world.specs.declared.net.Session.{Session}
use Rattle.auc_world.proofs.AgainListLemmas.{Resumes, one_place, push_cases, push_stays, set_cases, set_stays, set_there}
use Rattle.auc_world.proofs.AgainPeerLemmas.{Takes, turn_takes}
use Rattle.auc_world.proofs.AgainReadLemmas.{IsAsking, IsOther, IsText, Readings, asked_counter, lacks}
use Rattle.auc_world.proofs.AgainTextLemmas.{Sends, ServerAgain, over_again, turn_again, turn_keeps, turn_sized}
use Rattle.auc_world.proofs.AgreementLemmas.{HoldsOf, Laws, SessionFine, at, begins, contained, full_agreed, one_holds, resumed_is, server_in, won_cases}
use Rattle.auc_world.proofs.PremiseLemmas.{honest_run}

-- the laws of the two ends, of vectors and of packets
pub record AllLaws : Type 0 where
  pub ends : Laws
  pub readings : Readings

-- ---- what holds of a network

-- inputs are those of a session whose server took up a context again
pub record Source (sessions : List Session) (i : FastInputs) (r : Resumed) : Type 0 where
  pub place : ℕ
  pub server : ServerEnd
  pub resumes : Resumes sessions place server r
  pub same : inputs_of_context server.options.method r.sub server.identity r.context ≡ i

abbrev pub Grows : List Session → List Session → Type 0
Grows old new = (i : FastInputs) (r : Resumed) → Source old i r → Source new i r

-- bytes were sent by that server
pub record IsSent (set : Setting) (sessions : List Session) (bytes : List ℕ) (i : FastInputs) : Type 0 where
  pub resumed : Resumed
  pub source : Source sessions i resumed
  pub text : IsText set.realm resumed bytes

abbrev pub AllSent : Setting → List Session → List SentPacket → Type 0
AllSent set sessions packets =
    (packet : SentPacket) (i : FastInputs) → Contains packets packet → packet.sender ≡ Some end.Server → packet.inputs ≡ Some (inputs_of.Fast i) → IsSent set sessions packet.bytes i

abbrev pub inputs_at : ℕ → Context → Peer → FastInputs
inputs_at sub c p = inputs_of_context p.options.method sub (text_or_none p.identity) c

-- a peer's keys are those of the re-authentication of such a server
pub record PeerIs (sessions : List Session) (sub : ℕ) (p : Peer) (keys : KeySet) (c : Context) : Type 0 where
  pub resumed : Resumed
  pub source : Source sessions (inputs_at sub c p) resumed
  pub same : keys ≡ reauth_keys_of c.k_encr c.k_aut c.master (text_or_none p.identity) resumed.context.counter resumed.nonce

abbrev pub Live : List Session → ℕ → Peer → Type 0
Live sessions sub p = (keys : KeySet) (c : Context) → p.state ≡ peer_state.Answered keys → resumed_from p.source ≡ Some c → PeerIs sessions sub p keys c

abbrev pub Won : List Session → ℕ → Peer → Option KeySet → Type 0
Won sessions sub p won = (keys : KeySet) (c : Context) → won ≡ Some keys → resumed_from p.source ≡ Some c → PeerIs sessions sub p keys c

pub record SessionAgain (set : Setting) (sessions : List Session) (a : Session) : Type 0 where
  pub server : (s : ServerEnd) → a.server ≡ Some s → ServerAgain set s
  pub live : Live sessions a.sub a.peer
  pub won : Won sessions a.sub a.peer a.peer_keys

pub record Again (set : Setting) (packets : List SentPacket) (sessions : List Session) (homes : List HomeRow) : Type 0 where
  pub sized : AreSized homes
  pub sent : AllSent set sessions packets
  pub each : (place : ℕ) (a : Session) → slice_get sessions place ≡ Some a → SessionAgain set sessions a

abbrev pub AgainOf : Setting → Net → Type 0
AgainOf set w = Again set w.packets w.sessions w.homes

-- ---- what stays as sessions go on

sent_later : (set : Setting) (old new : List Session) (bytes : List ℕ) (i : FastInputs) → Grows old new → IsSent set old bytes i → IsSent set new bytes i
sent_later set old new bytes i grows s = record { resumed = s.resumed; source = grows i s.resumed s.source; text = s.text }

all_later : (set : Setting) (old new : List Session) (packets : List SentPacket) → Grows old new → AllSent set old packets → AllSent set new packets
all_later set old new packets grows all packet i is_in role with_inputs = sent_later set old new packet.bytes i grows (all packet i is_in role with_inputs)

peer_later : (old new : List Session) (sub : ℕ) (p : Peer) (keys : KeySet) (c : Context) → Grows old new → PeerIs old sub p keys c → PeerIs new sub p keys c
peer_later old new sub p keys c grows f = record { resumed = f.resumed; source = grows (inputs_at sub c p) f.resumed f.source; same = f.same }

session_later : (set : Setting) (old new : List Session) (a : Session) → Grows old new → SessionAgain set old a → SessionAgain set new a
session_later set old new a grows f = record {
  server = f.server;
  live = λ keys c e is. peer_later old new a.sub a.peer keys c grows (f.live keys c e is);
  won = λ keys c e is. peer_later old new a.sub a.peer keys c grows (f.won keys c e is);
}

one_end : (a b : End) → ◌≡◌ {A = Option End} (Some a) (Some b) → a ≡ b
one_end a b e = cc

posted_again : (set : Setting) (sessions : List Session) (packets : List SentPacket) (from : End) (inputs : Option Inputs) (sent : Option (List ℕ)) → AllSent set sessions packets
    → ((bytes : List ℕ) (i : FastInputs) → from ≡ end.Server → sent ≡ Some bytes → inputs ≡ Some (inputs_of.Fast i) → IsSent set sessions bytes i)
    → AllSent set sessions (posted packets from inputs sent)
posted_again set sessions packets from inputs None all own packet i is_in role with_inputs = all packet i is_in role with_inputs
posted_again set sessions packets from inputs (Some bytes) all own packet i is_in role with_inputs =
    let new : SentPacket = record { bytes = bytes; sender = Some from; inputs = inputs } in
    ⊎_elim (λ there. all packet i there role with_inputs)
    (λ (same : new ≡ packet).
    subst (λ (x : SentPacket). IsSent set sessions x.bytes i) same
    (own bytes i (one_end from end.Server (ap (λ (x : SentPacket). x.sender) same ∙ role)) refl (ap (λ (x : SentPacket). x.inputs) same ∙ with_inputs)))
    (Contains-push_cases packets new packet is_in)

-- ---- inputs

-- inputs of a re-authentication are those of a server that has sent no challenge
pub record HasInputs (s : ServerEnd) (i : FastInputs) : Type 0 where
  pub none : challenged_of s ≡ None
  pub resumed : Resumed
  pub has : resumed_of s ≡ Some resumed
  pub same : inputs_of_context s.options.method resumed.sub s.identity resumed.context ≡ i

same_fast : (i j : FastInputs) → ◌≡◌ {A = Option Inputs} (Some (inputs_of.Fast i)) (Some (inputs_of.Fast j)) → i ≡ j
same_fast i j e = cc

pub server_inputs : (s : ServerEnd) (i : FastInputs) → inputs_of_server s ≡ Some (inputs_of.Fast i) → HasInputs s i
server_inputs s i e = by (challenged_of s) (resumed_of s) refl refl e
  where
    by : (c : Option Challenged) (r : Option Resumed) → challenged_of s ≡ c → resumed_of s ≡ r → inputs_sent s.options.method s.options.name s.identity c r ≡ Some (inputs_of.Fast i) → HasInputs s i
    by None None f g h = absurd cc
    by None (Some r) f g h = record { none = f; resumed = r; has = g; same = same_fast (inputs_of_context s.options.method r.sub s.identity r.context) i h }
    by (Some sent) r f g h = absurd cc

pub peer_inputs : (p : Peer) (sub : ℕ) (i : FastInputs) → inputs_of_peer sub p ≡ Some (inputs_of.Fast i) → (c : Context) × (resumed_from p.source ≡ Some c) × (inputs_at sub c p ≡ i)
peer_inputs p sub i e = by p.source refl e
  where
    by : (r : KeySource) → p.source ≡ r → inputs_from p.options.method sub (text_or_none p.identity) r ≡ Some (inputs_of.Fast i)
        → (c : Context) × (resumed_from p.source ≡ Some c) × (inputs_at sub c p ≡ i)
    by source.Nothing f g = absurd cc
    by (source.Challenge c name) f g = absurd cc
    by (source.Context c) f g = (c, ap resumed_from f, same_fast (inputs_at sub c p) i g)

-- ---- agreement

pub some_one : {X : Type 0} (o : Option X) (a b : X) → o ≡ Some a → o ≡ Some b → a ≡ b
some_one o a b e f = cc

none_some : {X : Type 0} (o : Option X) (a : X) → o ≡ None → o ≡ Some a → ⊥
none_some o a e f = cc

-- the keys of inputs, with the counter and NONCE_S of a re-authentication
abbrev keys_with : FastInputs → Resumed → KeySet
keys_with i r = reauth_keys_of i.k_encr i.k_aut i.master i.identity r.context.counter r.nonce

-- a session stands at its place
pub at_place_of : (sessions : List Session) (a : Session) → Contains sessions a → (place : ℕ) × (slice_get sessions place ≡ Some a)
at_place_of [] a (k, inside, is) = absurd (omega arith)
at_place_of (x ∷ sessions) a (zero, inside, is) = (0, ap Some is)
at_place_of (x ∷ sessions) a (suc k, inside, is) = let (place, there) = at_place_of sessions a (k, omega arith, is) in (suc place, there)

pub fast_agreed : (set : Setting) (w : Net) → HoldsOf set w → AgainOf set w → AreResumedOnce (resumptions w.sessions) → (a b : Session) (k l : KeySet) (i j : FastInputs) → Contains w.sessions a
    → Contains w.sessions b → ServerWon a k (inputs_of.Fast i) → PeerWon b l (inputs_of.Fast j) → AreOfOneResumption i j → k ≡ l
fast_agreed set w h again once a b k l i j ina inb won other alike =
    let s = won.server in
    let p = b.peer in
    let (x, at_x) = at_place_of w.sessions a ina in
    let (y, at_y) = at_place_of w.sessions b inb in
    let fits = ((contained (SessionFine set w.devices w.packets) w.sessions a h.fine ina).server s won.is).fits in
    let own = server_inputs s i won.inputs in
    let r = own.resumed in
    let keys : k ≡ resumed_keys s r =
    ⊎_elim (λ sent. absurd (none_some (challenged_of s) sent.0 own.none sent.1)) (λ has. has.2 ∙ ap (resumed_keys s) (some_one (resumed_of s) has.0 r has.1 own.has)) (fits.success k won.last won.won) in
    let (c, has_c, is_j) = peer_inputs p b.sub j other.inputs in
    let f = (again.each y b at_y).won l c other.won has_c in
    let u = f.resumed in
    let t = f.source.server in
    let named = ((again.each x a at_x).server s won.is).taken r own.has in
    let source = f.source.resumes in
    let also_named = ((again.each f.source.place source.session source.there).server t source.is).taken u source.has in
    let there : inputs_of_context t.options.method u.sub t.identity u.context ≡ j = f.source.same ∙ is_j in
    let sub : r.sub ≡ u.sub = ap (λ (v : FastInputs). v.sub) own.same ∙ alike.sub ∙ sym (ap (λ (v : FastInputs). v.sub) there) in
    let text : username s.identity ≡ username t.identity =
    ap (λ (v : FastInputs). username v.identity) own.same ∙ alike.identity ∙ sym (ap (λ (v : FastInputs). username v.identity) there) in
    let name : r.context.identity ≡ u.context.identity = sym named.named ∙ text ∙ also_named.named in
    let place : x ≡ f.source.place = one_place w.sessions x f.source.place s t r u once (record { session = a; there = at_x; is = won.is; has = own.has }) source sub name in
    let session : a ≡ source.session = some_one (slice_get w.sessions x) a source.session at_x (ap (slice_get w.sessions) place ∙ source.there) in
    let server : s ≡ t = some_one a.server s t won.is (ap (λ (v : Session). v.server) session ∙ source.is) in
    let resumed : r ≡ u = some_one (resumed_of s) r u own.has (ap (λ (v : ServerEnd). resumed_of v) server ∙ source.has) in
    keys ∙ ap (λ (v : Resumed). resumed_keys s v) resumed ∙ ap (λ (v : ServerEnd). resumed_keys v u) server
    ∙ ap (λ (v : FastInputs). keys_with v u) f.source.same ∙ sym f.same

-- ---- a server's step

-- what a server took up again, and the identity, stay
abbrev pub Kept : Option ServerEnd → ServerEnd → Type 0
Kept old t = (s : ServerEnd) (r : Resumed) → old ≡ Some s → resumed_of s ≡ Some r → (resumed_of t ≡ Some r) × (t.identity ≡ s.identity) × (t.options ≡ s.options)

abbrev pub with_end : Session → ServerEnd → Session
with_end session t = record session { server = Some t }

server_grows : (sessions : List Session) (place : ℕ) (session : Session) (t : ServerEnd) → slice_get sessions place ≡ Some session → Kept session.server t
    → Grows sessions (slice_set sessions place (with_end session t))
server_grows sessions place session t there kept i r f =
    let g = f.resumes in
    ⊎_elim
    (λ still. record { place = f.place; server = f.server; resumes = record { session = g.session; there = still; is = g.is; has = g.has }; same = f.same })
    (λ (now : (slice_get (slice_set sessions place (with_end session t)) f.place ≡ Some (with_end session t)) × (session ≡ g.session)).
    let (has, identity, options) = kept f.server r (ap (λ (v : Session). v.server) now.1 ∙ g.is) g.has in record {
      place = f.place;
      server = t;
      resumes = record { session = with_end session t; there = now.0; is = refl; has = has };
      same = ap (λ (o : ServerOptions). inputs_of_context o.method r.sub t.identity r.context) options ∙ ap (λ (text : List ℕ). inputs_of_context f.server.options.method r.sub text r.context) identity ∙ f.same;
    })
    (set_stays sessions place f.place session (with_end session t) g.session there g.there)

server_again : (set : Setting) (packets : List SentPacket) (sessions : List Session) (homes later : List HomeRow) (place : ℕ) (session : Session) (t : ServerEnd) (did : Step ServerWhy)
    → Again set packets sessions homes → slice_get sessions place ≡ Some session → Kept session.server t → ServerAgain set t → Sends set t did → AreSized later
    → Again set (posted packets end.Server (inputs_of_server t) (sent_by did)) (slice_set sessions place (with_end session t)) later
server_again set packets sessions homes later place session t did h there kept fine sends sized =
    let new = slice_set sessions place (with_end session t) in
    let grows = server_grows sessions place session t there kept in
    record {
      sized = sized;
      sent = posted_again set new packets end.Server (inputs_of_server t) (sent_by did) (all_later set sessions new packets grows h.sent)
          (λ bytes i role sent is.
          let own = server_inputs t i is in record {
            resumed = own.resumed;
            source = record {
              place = place;
              server = t;
              resumes = record { session = with_end session t; there = set_there sessions place session (with_end session t) there; is = refl; has = own.has };
              same = own.same;
            };
            text = sends own.resumed bytes own.has own.none sent;
          });
      each = λ other a e.
          ⊎_elim
          (λ (is : with_end session t ≡ a).
          let old = session_later set sessions new session grows (h.each place session there) in
          subst (SessionAgain set new) is
          (record { server = λ s same. subst (ServerAgain set) (some_one (Some t) t s refl same) fine; live = old.live; won = old.won }))
          (λ was. session_later set sessions new a grows (h.each other a was))
          (set_cases sessions place other (with_end session t) a e);
    }

-- ---- a peer's step

abbrev pub with_peer_in : Session → Peer → Option KeySet → Session
with_peer_in session p won = record session { peer = p; peer_keys = won }

peer_grows : (sessions : List Session) (place : ℕ) (session : Session) (p : Peer) (won : Option KeySet) → slice_get sessions place ≡ Some session
    → Grows sessions (slice_set sessions place (with_peer_in session p won))
peer_grows sessions place session p won there i r f =
    let g = f.resumes in
    ⊎_elim
    (λ still. record { place = f.place; server = f.server; resumes = record { session = g.session; there = still; is = g.is; has = g.has }; same = f.same })
    (λ (now : (slice_get (slice_set sessions place (with_peer_in session p won)) f.place ≡ Some (with_peer_in session p won)) × (session ≡ g.session)). record {
      place = f.place;
      server = f.server;
      resumes = record { session = with_peer_in session p won; there = now.0; is = ap (λ (v : Session). v.server) now.1 ∙ g.is; has = g.has };
      same = f.same;
    })
    (set_stays sessions place f.place session (with_peer_in session p won) g.session there g.there)

no_server : end.Peer ≡ end.Server → ⊥
no_server e = cc

peer_again : (set : Setting) (packets : List SentPacket) (sessions : List Session) (homes : List HomeRow) (place : ℕ) (session : Session) (p : Peer) (won : Option KeySet) (inputs : Option Inputs)
    (sent : Option (List ℕ)) → Again set packets sessions homes → slice_get sessions place ≡ Some session → Live sessions session.sub p → Won sessions session.sub p won
    → Again set (posted packets end.Peer inputs sent) (slice_set sessions place (with_peer_in session p won)) homes
peer_again set packets sessions homes place session p won inputs sent h there live has_won =
    let new = slice_set sessions place (with_peer_in session p won) in
    let grows = peer_grows sessions place session p won there in
    record {
      sized = h.sized;
      sent = posted_again set new packets end.Peer inputs sent (all_later set sessions new packets grows h.sent) (λ bytes i role was is. absurd (no_server role));
      each = λ other a e.
          ⊎_elim
          (λ (is : with_peer_in session p won ≡ a).
          subst (SessionAgain set new) is
          (record {
            server = (h.each place session there).server;
            live = λ keys c f g. peer_later sessions new session.sub p keys c grows (live keys c f g);
            won = λ keys c f g. peer_later sessions new session.sub p keys c grows (has_won keys c f g);
          }))
          (λ was. session_later set sessions new a grows (h.each other a was))
          (set_cases sessions place other (with_peer_in session p won) a e);
    }

-- a peer that goes on under the same inputs
peer_kept : (sessions : List Session) (sub : ℕ) (p z : Peer) (keys : KeySet) (c : Context) → PeerIs sessions sub p keys c → z.identity ≡ p.identity → z.options ≡ p.options
    → PeerIs sessions sub z keys c
peer_kept sessions sub p z keys c f id opt =
    let text : text_or_none p.identity ≡ text_or_none z.identity = ap text_or_none (sym id) in
    let same : inputs_at sub c p ≡ inputs_at sub c z =
    ap (λ (o : PeerTold). inputs_of_context o.method sub (text_or_none p.identity) c) (sym opt) ∙ ap (λ (t : List ℕ). inputs_of_context z.options.method sub t c) text in
    record {
      resumed = f.resumed;
      source = subst (λ (i : FastInputs). Source sessions i f.resumed) same f.source;
      same = f.same ∙ ap (λ (t : List ℕ). reauth_keys_of c.k_encr c.k_aut c.master t f.resumed.context.counter f.resumed.nonce) text;
    }

-- ---- events

abbrev pub NextAgain : Setting → Net → Net → Type 0
NextAgain set w next = HoldsOf set w → AgainOf set w → AgainOf set next

to_server_again : AllLaws → (set : Setting) (w : Net) (d : Delivery) (told : ToldEvent) (o : Option ServerEnd) → d.session.server ≡ o → slice_get w.sessions d.place ≡ Some d.session
    → NextAgain set w (to_server set w d told o)
to_server_again laws set w d told None is there h again = again
to_server_again laws set w d told (Some s) is there h again =
    let turn = server_turn set w s told in
    let fits = (server_in set w d.place d.session s there is h).fits in
    let old = (again.each d.place d.session there).server s is in
    let new = turn_again set w.homes s told.seen told.reply told.notes fits again.sized old in
    server_again set w.packets w.sessions w.homes _ d.place d.session turn.0 turn.1.step again there
    (λ t r same has.
    let one : s ≡ t = some_one d.session.server s t is same in
    let kept = turn_keeps set w.homes s told.seen told.reply told.notes fits r (ap (λ (v : ServerEnd). resumed_of v) one ∙ has) in
    (kept.0, kept.1 ∙ ap (λ (v : ServerEnd). v.identity) one, turn_options set w.homes s told.seen told.reply told.notes ∙ ap (λ (v : ServerEnd). v.options) one))
    new.server new.sends (turn_sized set w.homes s told.seen told.reply told.notes fits old again.sized)

no_waiting : (s : PeerState) (keys : KeySet) → s ≡ peer_state.Waiting → s ≡ peer_state.Answered keys → ⊥
no_waiting s keys e f = cc

no_ended : (s : PeerState) → s ≡ peer_state.Waiting → s ≡ peer_state.Ended → ⊥
no_ended s e f = cc

not_missing : (b : Bool) → b ≡ true → b ≡ false → ⊥
not_missing b e f = cc

-- the keys of a Reauthentication that a peer takes
took_again : AllLaws → (set : Setting) (w : Net) (sub : ℕ) (p : Peer) (t : Peer × Turn PeerWhy) (told : ToldEvent) (bytes : List ℕ) (c : Context) (keys : KeySet) → IsRealm set.realm → AgainOf set w
    → AreReceived (Some bytes) told.seen → Takes p t told.seen told.inner c keys → resumed_from t.0.source ≡ Some c → SentBefore end.Server (inputs_of_peer sub t.0) bytes w.packets
    → PeerIs w.sessions sub t.0 keys c
took_again laws set w sub p t told bytes c keys realm again (received, same_bytes) takes resumed s =
    let z = t.0 in
    let i = inputs_at sub c z in
    let own : inputs_of_peer sub z ≡ Some (inputs_of.Fast i) = ap (inputs_from z.options.method sub (text_or_none z.identity)) (resumed_is z.source c resumed) in
    let with_i : s.packet.inputs ≡ Some (inputs_of.Fast i) = s.with_inputs ∙ sym s.same_inputs ∙ own in
    let sent = again.sent s.packet i s.is_in s.role with_i in
    let r = sent.resumed in
    let g = sent.source.resumes in
    let fits = (((again.each sent.source.place g.session g.there).server sent.source.server g.is).taken r g.has).fits in
    let text : IsText set.realm r told.seen.bytes = subst (IsText set.realm r) (s.with_bytes ∙ sym same_bytes) sent.text in
    let k_encr : c.k_encr ≡ r.context.k_encr = sym (ap (λ (v : FastInputs). v.k_encr) sent.source.same) in
    let list = attrs_in told.seen.reading in
    ⊎_elim
    (λ (asking : IsAsking set.realm r told.seen.bytes).
    let inner : IsInner r.context.k_encr list (decrypted.Attributes takes.given) =
    subst (λ (k : List ℕ). IsInner k list (decrypted.Attributes takes.given)) k_encr (subst (IsInner c.k_encr list) takes.attributes takes.decrypts) in
    let (counter, nonce) = asked_counter laws.readings set.realm r told.seen takes.given realm fits received asking inner in
    let same_counter : takes.counter ≡ r.context.counter = some_one takes.given.counter takes.counter r.context.counter takes.has_counter counter in
    let same_nonce : takes.nonce ≡ r.nonce = some_one takes.given.nonce takes.nonce r.nonce takes.has_nonce nonce in
    record {
      resumed = r;
      source = sent.source;
      same = takes.same
          ∙ ap (λ (x : Option (List ℕ)). reauth_keys_of c.k_encr c.k_aut c.master (text_or_none x) takes.counter takes.nonce) (sym takes.identity)
          ∙ ap (λ (n : ℕ). reauth_keys_of c.k_encr c.k_aut c.master (text_or_none z.identity) n takes.nonce) same_counter
          ∙ ap (λ (n : List ℕ). reauth_keys_of c.k_encr c.k_aut c.master (text_or_none z.identity) r.context.counter n) same_nonce;
    })
    (λ (other : IsOther told.seen.bytes). absurd (not_missing (is_missing subtype.Reauthentication true list) (lacks laws.readings told.seen received other) takes.complete))
    text

to_peer_again : AllLaws → (set : Setting) (w : Net) (d : Delivery) (told : ToldEvent) (o : Option Subscription) → IsRealm set.realm → slice_get w.devices d.session.device ≡ o
    → slice_get w.sessions d.place ≡ Some d.session → AreReceived (received_by d.bytes o) told.seen → DecryptsIn told (presented_at w d told o)
    → IsHonestFinding w.packets (peer_finds set w d told o) → NextAgain set w (to_peer set w d told o)
to_peer_again laws set w d told None realm is there received opens honest h again = again
to_peer_again laws set w d told (Some device) realm is there received opens honest h again =
    let keeps = keeps_at w d.session.device in
    let turn = peer_turn set device keeps d.session told in
    let p = d.session.peer in
    let z = turn.0 in
    let sub = d.session.sub in
    let m = laws.ends.peer_moves set.key device keeps p told.seen told.notes.usim told.inner in
    let old = again.each d.place d.session there in
    let over = (at (SessionFine set w.devices w.packets) w.sessions d.place d.session h.fine there).over in
    let before : (c : Context) → resumed_from z.source ≡ Some c → (p.state ≡ peer_state.Waiting → ⊥) → resumed_from p.source ≡ Some c =
    λ c has apart. ⊎_elim (λ waits. absurd (apart waits)) (λ same. sym (ap resumed_from same) ∙ has) m.source in
    let kept : (keys : KeySet) (c : Context) → PeerIs w.sessions sub p keys c → (p.state ≡ peer_state.Waiting → ⊥) → PeerIs w.sessions sub z keys c =
    λ keys c f apart. ⊎_elim (λ waits. absurd (apart waits)) (λ same. peer_kept w.sessions sub p z keys c f same m.options) m.identity in
    peer_again set w.packets w.sessions w.homes d.place d.session z (keys_won d.session.peer_keys turn.1.step) (inputs_of_peer sub z) (sent_by turn.1.step) again there
    (λ keys c e has.
    ⊎_elim
    (λ was.
    let apart : p.state ≡ peer_state.Waiting → ⊥ = λ waits. no_waiting p.state keys waits was in
    kept keys c (old.live keys c was (before c has apart)) apart)
    (λ takes. took_again laws set w sub p turn told d.bytes c keys realm again received takes has (honest takes.checked))
    (turn_takes set.key device keeps p told.seen told.notes.usim told.inner c keys opens e has))
    (λ keys c e has.
    ⊎_elim
    (λ success.
    let ends = m.success keys success.0 success.1 in
    let apart : p.state ≡ peer_state.Waiting → ⊥ = λ waits. no_waiting p.state keys waits ends.0 in
    kept keys c (old.live keys c ends.0 (before c has apart)) apart)
    (λ was.
    let apart : p.state ≡ peer_state.Waiting → ⊥ = λ waits. no_ended p.state waits (over keys was) in
    kept keys c (old.won keys c was (before c has apart)) apart)
    (won_cases d.session.peer_keys turn.1.step keys e))

server_delivered : AllLaws → (set : Setting) (w : Net) (told : ToldEvent) (packet : ℕ) (o : Option ℕ) → NextAgain set w (delivered set w end.Server told (delivery_at w packet o))
server_delivered laws set w told packet None h again = again
server_delivered laws set w told packet (Some place) h again = by (slice_get w.sessions place) (packet_at w.packets packet) refl
  where
    by : (x : Option Session) (y : Option SentPacket) → slice_get w.sessions place ≡ x → AgainOf set (delivered set w end.Server told (delivery_of packet place x y))
    by (Some session) (Some sent) e = to_server_again laws set w (record { place = place; session = session; bytes = sent.bytes; packet = packet }) told session.server refl e h again
    by (Some session) None e = again
    by None (Some sent) e = again
    by None None e = again

peer_delivered : AllLaws → (set : Setting) (w : Net) (told : ToldEvent) (packet : ℕ) (o : Option ℕ) → IsRealm set.realm → AreReceived (received_at w end.Peer (delivery_at w packet o)) told.seen
    → DecryptsIn told (presented_in w end.Peer told (delivery_at w packet o)) → IsHonestFinding w.packets (found_by set w end.Peer told (delivery_at w packet o))
    → NextAgain set w (delivered set w end.Peer told (delivery_at w packet o))
peer_delivered laws set w told packet None realm received opens honest h again = again
peer_delivered laws set w told packet (Some place) realm received opens honest h again = by (slice_get w.sessions place) (packet_at w.packets packet) refl received opens honest
  where
    by : (x : Option Session) (y : Option SentPacket) → slice_get w.sessions place ≡ x → AreReceived (received_at w end.Peer (delivery_of packet place x y)) told.seen
        → DecryptsIn told (presented_in w end.Peer told (delivery_of packet place x y)) → IsHonestFinding w.packets (found_by set w end.Peer told (delivery_of packet place x y))
        → AgainOf set (delivered set w end.Peer told (delivery_of packet place x y))
    by (Some session) (Some sent) e came reads fair =
        let d : Delivery = record { place = place; session = session; bytes = sent.bytes; packet = packet } in
        to_peer_again laws set w d told (slice_get w.devices session.device) realm refl e came reads fair h again
    by (Some session) None e came reads fair = again
    by None (Some sent) e came reads fair = again
    by None None e came reads fair = again

-- ---- the other events

session_again : (set : Setting) (w : Net) (session : ℕ) (does : ℕ → Session → Net) → ((place : ℕ) (s : Session) → slice_get w.sessions place ≡ Some s → NextAgain set w (does place s))
    → NextAgain set w (at_session w session does)
session_again set w session does each h again = by (session_place w.sessions session)
  where
    found_one : (place : ℕ) (x : Option Session) → slice_get w.sessions place ≡ x → AgainOf set (in_session w does place x)
    found_one place None e = again
    found_one place (Some s) e = each place s e h again

    by : (o : Option ℕ) → AgainOf set (at_place w does o)
    by None = again
    by (Some place) = found_one place (slice_get w.sessions place) refl

no_resumed : (r : Resumed) → ◌≡◌ {A = Option Resumed} None (Some r) → ⊥
no_resumed r e = cc

no_end : (s : ServerEnd) → ◌≡◌ {A = Option ServerEnd} None (Some s) → ⊥
no_end s e = cc

start_again : (set : Setting) (w : Net) (place : ℕ) (session : Session) (o : Option ServerEnd) → session.server ≡ o → slice_get w.sessions place ≡ Some session → NextAgain set w (start w place session o)
start_again set w place session None is there h again =
    let first = started session.options in
    server_again set w.packets w.sessions w.homes w.homes place session first (step.Sent first.last) again there (λ s r same has. absurd (no_end s (sym is ∙ same)))
    (record { taken = λ r e. absurd (no_resumed r e); last = λ r e none. absurd (no_resumed r e) }) (λ r bytes e none sent. absurd (no_resumed r e)) again.sized
start_again set w place session (Some s) is there h again = again

-- a server whose state alone changes
same_kept : (session : Session) (s : ServerEnd) (now : ServerState) → last_of now ≡ last_of s.state → session.server ≡ Some s → Kept session.server (record s { state = now })
same_kept session s now last is t r same has =
    let one : s ≡ t = some_one session.server s t is same in
    (ap (λ (l : Last). l.resumed) last ∙ ap (λ (v : ServerEnd). resumed_of v) one ∙ has, ap (λ (v : ServerEnd). v.identity) one, ap (λ (v : ServerEnd). v.options) one)

no_packet : (bytes : List ℕ) → ◌≡◌ {A = Option (List ℕ)} None (Some bytes) → ⊥
no_packet bytes e = cc

same_text : (a b : List ℕ) → ◌≡◌ {A = Option (List ℕ)} (Some a) (Some b) → a ≡ b
same_text a b e = cc

repeat_sends : (set : Setting) (s : ServerEnd) (now : ServerState) → ServerAgain set s → Sends set s (repeated s now)
repeat_sends set s (state.Ended result last) f r bytes e none sent = absurd (no_packet bytes sent)
repeat_sends set s state.AwaitIdentity f r bytes e none sent = subst (IsText set.realm r) (same_text s.last bytes sent) (f.last r e none)
repeat_sends set s (state.Await kind) f r bytes e none sent = subst (IsText set.realm r) (same_text s.last bytes sent) (f.last r e none)
repeat_sends set s (state.AwaitChallenge own before) f r bytes e none sent = subst (IsText set.realm r) (same_text s.last bytes sent) (f.last r e none)
repeat_sends set s (state.AwaitReauth own) f r bytes e none sent = subst (IsText set.realm r) (same_text s.last bytes sent) (f.last r e none)
repeat_sends set s (state.Notifying cause last) f r bytes e none sent = subst (IsText set.realm r) (same_text s.last bytes sent) (f.last r e none)

repeat_again : (set : Setting) (w : Net) (place : ℕ) (session : Session) (o : Option ServerEnd) → session.server ≡ o → slice_get w.sessions place ≡ Some session → NextAgain set w (repeat w place session o)
repeat_again set w place session None is there h again = again
repeat_again set w place session (Some s) is there h again =
    let old = (again.each place session there).server s is in
    server_again set w.packets w.sessions w.homes w.homes place session s (repeated s s.state) again there (same_kept session s s.state refl is) old (repeat_sends set s s.state old) again.sized

server_gives_again : (set : Setting) (w : Net) (place : ℕ) (session : Session) (o : Option ServerEnd) → session.server ≡ o → slice_get w.sessions place ≡ Some session
    → NextAgain set w (server_gives_up w place session o)
server_gives_again set w place session None is there h again = again
server_gives_again set w place session (Some s) is there h again = by s.state
  where
    old : ServerAgain set s
    old = (again.each place session there).server s is

    ended : ServerEnd
    ended = record s { state = state.Ended (outcome.Failure why.GivenUp) (last_of s.state) }

    gives : (now : ServerState) → gave_up s now ≡ (ended, step.Ended (outcome.Failure why.GivenUp) [])
        → Again set (posted w.packets end.Server (inputs_of_server (gave_up s now).0) (sent_by (gave_up s now).1)) (slice_set w.sessions place (with_end session (gave_up s now).0)) w.homes
    gives now e =
        subst (λ (x : ServerEnd × Step ServerWhy). Again set (posted w.packets end.Server (inputs_of_server x.0) (sent_by x.1)) (slice_set w.sessions place (with_end session x.0)) w.homes) (sym e)
        (server_again set w.packets w.sessions w.homes w.homes place session ended (step.Ended (outcome.Failure why.GivenUp) []) again there
        (same_kept session s (state.Ended (outcome.Failure why.GivenUp) (last_of s.state)) refl is) (over_again set s (state.Ended (outcome.Failure why.GivenUp) (last_of s.state)) refl old)
        (λ r bytes f none sent. absurd (no_packet bytes sent)) again.sized)

    by : (now : ServerState)
        → Again set (posted w.packets end.Server (inputs_of_server (gave_up s now).0) (sent_by (gave_up s now).1)) (slice_set w.sessions place (with_end session (gave_up s now).0)) w.homes
    by (state.Ended r last) =
        server_again set w.packets w.sessions w.homes w.homes place session s (gave_up s (state.Ended r last)).1 again there (same_kept session s s.state refl is) old
        (λ r bytes f none sent. absurd (no_packet bytes sent)) again.sized
    by state.AwaitIdentity = gives state.AwaitIdentity refl
    by (state.Await kind) = gives (state.Await kind) refl
    by (state.AwaitChallenge sent before) = gives (state.AwaitChallenge sent before) refl
    by (state.AwaitReauth sent) = gives (state.AwaitReauth sent) refl
    by (state.Notifying cause last) = gives (state.Notifying cause last) refl

no_answered : (keys : KeySet) → peer_state.Ended ≡ peer_state.Answered keys → ⊥
no_answered keys e = cc

-- the network after a peer gave up
abbrev AfterGiving : Setting → Net → ℕ → Session → Peer × Step PeerWhy → Type 0
AfterGiving set w place session x =
    Again set (posted w.packets end.Peer (inputs_of_peer session.sub x.0) (sent_by x.1)) (slice_set w.sessions place (with_peer_in session x.0 (keys_won session.peer_keys x.1))) w.homes

peer_gives_again : (set : Setting) (w : Net) (place : ℕ) (session : Session) → slice_get w.sessions place ≡ Some session → NextAgain set w (give_up w end.Peer place session)
peer_gives_again set w place session there h again = by session.peer.state
  where
    old : SessionAgain set w.sessions session
    old = again.each place session there

    ended : Peer
    ended = record session.peer { state = peer_state.Ended }

    over : AfterGiving set w place session (ended, step.Ended (outcome.Failure peer_why.GivenUp) [])
    over = peer_again set w.packets w.sessions w.homes place session ended session.peer_keys (inputs_of_peer session.sub ended) None again there (λ keys c e has. absurd (no_answered keys e))
        (λ keys c e has. let f = old.won keys c e has in record { resumed = f.resumed; source = f.source; same = f.same })

    by : (now : PeerState) → AfterGiving set w place session (peer_gave_up session.peer now)
    by peer_state.Ended =
        peer_again set w.packets w.sessions w.homes place session session.peer session.peer_keys (inputs_of_peer session.sub session.peer) None again there old.live old.won
    by peer_state.Waiting = over
    by (peer_state.Answered keys) = over
    by (peer_state.Refusing cause) = over

give_up_again : (set : Setting) (w : Net) (at' : End) (place : ℕ) (session : Session) → slice_get w.sessions place ≡ Some session → NextAgain set w (give_up w at' place session)
give_up_again set w end.Server place session there = server_gives_again set w place session session.server refl there
give_up_again set w end.Peer place session there = peer_gives_again set w place session there

no_keys : (keys : KeySet) → ◌≡◌ {A = Option KeySet} None (Some keys) → ⊥
no_keys keys e = cc

no_waiting_answered : (keys : KeySet) → peer_state.Waiting ≡ peer_state.Answered keys → ⊥
no_waiting_answered keys e = cc

push_grows : (sessions : List Session) (new : Session) → Grows sessions (sessions ++ new ∷ [])
push_grows sessions new i r f =
    let g = f.resumes in
    record { place = f.place; server = f.server; resumes = record { session = g.session; there = push_stays sessions f.place new g.session g.there; is = g.is; has = g.has }; same = f.same }

opened_again : (set : Setting) (w : Net) (opening : SessionLine) (old o : Option ℕ) → NextAgain set w (opened w opening old o)
opened_again set w opening (Some first) o h again = again
opened_again set w opening None None h again = again
opened_again set w opening None (Some place) h again =
    let new = new_session opening place in
    let grows = push_grows w.sessions new in
    record {
      sized = again.sized;
      sent = all_later set w.sessions (w.sessions ++ new ∷ []) w.packets grows again.sent;
      each = λ other a e.
          ⊎_elim
          (λ (is : new ≡ a).
          subst (SessionAgain set (w.sessions ++ new ∷ [])) is
          (record {
            server = λ s same. absurd (no_end s same);
            live = λ keys c f has. absurd (no_waiting_answered keys f);
            won = λ keys c f has. absurd (no_keys keys f);
          }))
          (λ was. session_later set w.sessions (w.sessions ++ new ∷ []) a grows (again.each other a was))
          (push_cases w.sessions other new a e);
    }

-- a changed packet is no server's
no_sender : (e : Option End) → None ≡ e → e ≡ Some end.Server → ⊥
no_sender e f g = cc

copied_again : (set : Setting) (w : Net) (copy : Option (List ℕ)) → NextAgain set w (with_copy w copy)
copied_again set w copy h again = record { sized = again.sized; sent = sent copy; each = again.each }
  where
    sent : (copy : Option (List ℕ)) → AllSent set w.sessions (w.packets ++ copies copy)
    sent None packet i is_in role with_inputs = again.sent packet i (subst (λ (l : List SentPacket). Contains l packet) (append-nil w.packets) is_in) role with_inputs
    sent (Some bytes) packet i is_in role with_inputs =
        ⊎_elim (λ there. again.sent packet i there role with_inputs)
        (λ (same : record { bytes = bytes; sender = None; inputs = None } ≡ packet). absurd (no_sender packet.sender (ap (λ (x : SentPacket). x.sender) same) role))
        (Contains-push_cases w.packets (record { bytes = bytes; sender = None; inputs = None }) packet is_in)

-- ---- a run

moved_again : AllLaws → (set : Setting) (w : Net) (e : Event) (told : ToldEvent) → IsRealm set.realm → IsToldAt w (Occurs e told) → IsHonestFinding w.packets (found set w e told)
    → NextAgain set w (moved set w e told)
moved_again laws set w (event.Open opening) told realm is honest =
    opened_again set w opening (session_place w.sessions opening.session) (device_place set.rows w.devices opening.sub)
moved_again laws set w (event.Start session) told realm is honest =
    session_again set w session (λ place s. start w place s s.server) (λ place s there. start_again set w place s s.server refl there)
moved_again laws set w (event.Deliver session end.Server packet) told realm is honest = server_delivered laws set w told packet (session_place w.sessions session)
moved_again laws set w (event.Deliver session end.Peer packet) told realm is honest =
    peer_delivered laws set w told packet (session_place w.sessions session) realm is.received is.decrypts honest
moved_again laws set w (event.Repeat session) told realm is honest =
    session_again set w session (λ place s. repeat w place s s.server) (λ place s there. repeat_again set w place s s.server refl there)
moved_again laws set w (event.GiveUp session at') told realm is honest = session_again set w session (give_up w at') (λ place s there. give_up_again set w at' place s there)
moved_again laws set w (event.Tamper packet place byte) told realm is honest = copied_again set w (changed_in w.packets (event.Tamper packet place byte))
moved_again laws set w (event.Cut packet count) told realm is honest = copied_again set w (changed_in w.packets (event.Cut packet count))

one_again : AllLaws → (set : Setting) (w : Net) (h : Happening) → IsRealm set.realm → IsToldAt w h → IsHonestAt set w h → NextAgain set w (after_one set w h)
one_again laws set w (Occurs e told) realm is honest = moved_again laws set w e told realm is honest
one_again laws set w (Noted released) realm is honest = λ h again. again

-- what holds of a run, in which each number was released once
pub both_hold : AllLaws → (set : Setting) (w : Net) (hs : List Happening) → AreSubscribers set.rows → IsRealm set.realm → AreTold set w hs → IsHonest set w hs → HoldsOf set w → AgainOf set w
    → AreReleasedOnce set.rows (after set w hs).released → HoldsOf set (after set w hs) × AgainOf set (after set w hs)
both_hold laws set w [] subscribers realm told honest h again once = (h, again)
both_hold laws set w (e ∷ es) subscribers realm told honest h again once =
    let next = one_holds laws.ends set w e es subscribers honest h once in
    both_hold laws set (after_one set w e) es subscribers realm told.1 honest.1 next (one_again laws set w e realm told.0 honest.0 h again) once

no_contained : (packets : List SentPacket) (packet : SentPacket) → packets ≡ [] → Contains packets packet → ⊥
no_contained packets packet e c = let d = subst (λ (l : List SentPacket). Contains l packet) e c in let lt = d.1 in omega arith

no_session : (a : Session) → ◌≡◌ {A = Option Session} None (Some a) → ⊥
no_session a e = cc

pub none_there : (sessions : List Session) (place : ℕ) (a : Session) → sessions ≡ [] → slice_get sessions place ≡ Some a → ⊥
none_there sessions place a e there = no_session a (sym (ap (λ (l : List Session). slice_get l place) e) ∙ there)

pub begins_again : (set : Setting) (w : Net) → AreSized w.homes → IsFresh w → AgainOf set w
begins_again set w sized new = record {
  sized = sized;
  sent = λ packet i is_in role with_inputs. absurd (no_contained w.packets packet new.packets is_in);
  each = λ place a there. absurd (none_there w.sessions place a new.sessions there);
}

pub agreed : (set : Setting) (w : Net) → HoldsOf set w → AgainOf set w → AreResumedOnce (resumptions w.sessions) → Agree w
agreed set w h again once a b k l (inputs_of.Full i) (inputs_of.Full j) ina inb won other alike = full_agreed set w h a b k l i j ina inb won other alike
agreed set w h again once a b k l (inputs_of.Fast i) (inputs_of.Fast j) ina inb won other alike = fast_agreed set w h again once a b k l i j ina inb won other alike
agreed set w h again once a b k l (inputs_of.Full i) (inputs_of.Fast j) ina inb won other alike = absurd alike
agreed set w h again once a b k l (inputs_of.Fast i) (inputs_of.Full j) ina inb won other alike = absurd alike

pub honest_runs_agree : AllLaws → EachHonestRunAgrees
honest_runs_agree laws set w hs subscribers realm secrets sized new told once resumed unbroken =
    let (h, again) = both_hold laws set w hs subscribers realm told (honest_run set w hs unbroken).1 (begins set w secrets new) (begins_again set w sized new) once in
    agreed set (after set w hs) h again resumed
