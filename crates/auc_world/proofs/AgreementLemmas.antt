-- For Agreement: in an honest run, in which each number was released once, the ends of one challenge have equal keys.
use Rattle.std.proofs.Common.{◌≡◌, ◌⊎◌, ℕ, ◌≤◌, true, List, [], ◌∷◌, ◌++◌, length, Option, Some, None, slice_get, slice_set, All, Contains, arith, refl, sym, ap, ◌∙◌, subst, inl, inr, ⊎_elim, append_assoc, length-append, append-nil}
use Rattle.std.proofs.lemmas.List.{get_or_append_left, get_or_push, length_push}
use Rattle.std.proofs.lemmas.List.Elements.{All-nil, All-push, All-set, All-weaker, Contains-append_left, Contains-push, Contains-push_cases}
use Rattle.std.proofs.lemmas.Option.{get_or_from_slice_get, slice_get_within}
use Rattle.auc_hmac.specs.declared.keys.KeySet.{KeySet}
use Rattle.auc_milenage.specs.Milenage.{f3, f4}
use Rattle.auc_milenage.specs.declared.secret.Secret.{Secret}
use Rattle.auc_peer.specs.Laws as peer_laws
use Rattle.auc_peer.specs.Laws.{AreOf, keys_of_inputs}
use Rattle.auc_peer.specs.Subscription.{Subscription}
use Rattle.auc_peer.specs.Table.{in_state, text_or_none, gave_up as peer_gave_up}
use Rattle.auc_peer.specs.declared.peer.Challenge.{Challenge}
use Rattle.auc_peer.specs.declared.peer.Peer.{Peer}
use Rattle.auc_peer.specs.declared.peer.Source.{Source}
use Rattle.auc_peer.specs.declared.peer.Source.TheVariants as source
use Rattle.auc_peer.specs.Peer.{accepted_in, network_named, resumed_from}
use Rattle.auc_peer.specs.declared.peer.PeerState.{PeerState}
use Rattle.auc_peer.specs.declared.peer.PeerState.TheVariants as peer_state
use Rattle.auc_vector.specs.declared.why.PeerWhy.{PeerWhy}
use Rattle.auc_vector.specs.declared.why.PeerWhy.TheVariants as peer_why
use Rattle.auc_reauth.specs.declared.context.Context.{Context}
use Rattle.auc_server.specs.Laws.{EachTurnFits, EachTurnKeepsOrChallenges, Fits, KeepsChallenge, SendsChallenge}
use Rattle.auc_server.proofs.Facts.{given_up_fits, started_fits, turn_options}
use Rattle.auc_server.specs.Rows.{server_row}
use Rattle.auc_server.specs.Server.{ServerEnd, challenged_of, resumed_of, started}
use Rattle.auc_subs.specs.Setting.{Setting}
use Rattle.auc_server.specs.State.{last_of}
use Rattle.auc_server.specs.Steps.{asking}
use Rattle.auc_server.specs.Table.{challenge_of, gave_up, repeated, vector_at, vector_of_row}
use Rattle.auc_server.specs.declared.options.ServerOptions.{ServerOptions}
use Rattle.auc_server.specs.declared.server.Challenged.{Challenged}
use Rattle.auc_server.specs.declared.server.Last.{Last}
use Rattle.auc_server.specs.declared.server.Resumed.{Resumed}
use Rattle.auc_server.specs.declared.server.ServerState.{ServerState}
use Rattle.auc_server.specs.declared.server.ServerState.TheVariants as state
use Rattle.auc_vector.specs.declared.why.ServerWhy.{ServerWhy}
use Rattle.auc_vector.specs.declared.why.ServerWhy.TheVariants as why
use Rattle.auc_sqn.specs.Number.{top_of}
use Rattle.auc_subs.proofs.Facts.{top_at-row}
use Rattle.auc_subs.specs.Subscriber.{AreSubscribers, IsRow, top_at}
use Rattle.auc_subs.specs.declared.row.Row.{Row}
use Rattle.auc_vector.specs.Keys.{ck_by, ik_by, keys_of}
use Rattle.auc_vector.specs.Notes.{Asking}
use Rattle.auc_random.specs.Random.{rand_of}
use Rattle.auc_vector.specs.Vector.{NumbersHaveDifferentSqns, autn_of, sqn_in, vector_of}
use Rattle.auc_vector.specs.declared.parts.Vector.{Vector}
use Rattle.auc_vector.specs.declared.turn.Outcome.TheVariants as outcome
use Rattle.auc_vector.specs.declared.turn.Step.{Step}
use Rattle.auc_vector.specs.declared.turn.Step.TheVariants as step
use Rattle.auc_world.specs.Agreement.{AreOfOneChallenge, AreReleasedOnce, Happening, HaveSecrets, IsFresh, IsHonest, IsHonestAt, IsHonestFinding, Noted, Occurs, PeerWon, ServerWon, after, after_one}
use Rattle.auc_world.specs.Happened.{Delivery, ToldEvent, at_place, at_session, delivered, delivery_at, delivery_of, found, found_by, give_up, in_session, keys_won, moved, opened, peer_finds, peer_turn, drawn_in_turn, repeat, sent_by, server_gives_up, server_turn, start, to_peer, to_server, with_peer, with_server, changed_in, with_copy}
use Rattle.auc_world.specs.Net.{Net, device_place, inputs_from, inputs_of_peer, inputs_of_server, inputs_sent, keeps_at, packet_at, posted, session_place, copies}
use Rattle.auc_lines.specs.declared.part.SessionLine.{SessionLine}
use Rattle.auc_lines.specs.declared.part.End.{End}
use Rattle.auc_lines.specs.declared.part.End.TheVariants as end
use Rattle.auc_record.specs.declared.event.Event.{Event}
use Rattle.auc_record.specs.declared.event.Event.TheVariants as event
use Rattle.auc_world.specs.declared.net.FullInputs.{FullInputs}
use Rattle.auc_world.specs.declared.net.Inputs.{Inputs}
use Rattle.auc_world.specs.declared.net.Inputs.TheVariants as inputs_of
use Rattle.auc_released.specs.declared.numbers.Number.{Number}
use Rattle.auc_world.specs.declared.net.SentPacket.{SentPacket}
use Rattle.auc_world.specs.declared.net.Session.{Session}
use Rattle.auc_world.proofs.RenewLemmas.{RenewsFirst, turn_renews}

-- the laws of the two ends and of vectors
pub record Laws : Type 0 where
  pub server_fits : EachTurnFits
  pub server_moves : EachTurnKeepsOrChallenges
  pub peer_fits : peer_laws.EachTurnFits
  pub peer_moves : peer_laws.EachTurnMoves
  pub numbers : NumbersHaveDifferentSqns

-- ---- lists

-- what holds of all holds of the one at a place
pub at : {X : Type 0} (P : X → Type 0) (xs : List X) (i : ℕ) (x : X) → All P xs → slice_get xs i ≡ Some x → P x
at P xs i x all there = subst P (get_or_from_slice_get xs i x x there) (all i x (slice_get_within xs i x there))

one : {X : Type 0} (o : Option X) (a b : X) → o ≡ Some a → o ≡ Some b → a ≡ b
one o a b e f = cc

pub one_full : (o : Option Inputs) (i j : FullInputs) → o ≡ Some (inputs_of.Full i) → o ≡ Some (inputs_of.Full j) → i ≡ j
one_full o i j e f = cc

none_some : {X : Type 0} (o : Option X) (a : X) → o ≡ None → o ≡ Some a → ⊥
none_some o a e f = cc

-- the first numbers of numbers that were released once
once_front : (rows : List Row) (xs ys : List Number) → AreReleasedOnce rows (xs ++ ys) → AreReleasedOnce rows xs
once_front rows xs ys o =
    let long = length-append xs ys in record {
      once = λ i j d before within. λ same. o.once i j d before (omega arith) (get_or_append_left xs ys d i (omega arith) ∙ same ∙ sym (get_or_append_left xs ys d j within));
      numbers = λ k d within. subst (λ (r : Number). r.n ≤ top_at rows r.sub) (get_or_append_left xs ys d k within) (o.numbers k d (omega arith));
    }

-- the last of them isn't among those before
not_before : (rows : List Row) (xs : List Number) (x : Number) → AreReleasedOnce rows (xs ++ x ∷ []) → Contains xs x → ⊥
not_before rows xs x o c =
    let long = length_push xs x in
    let (place, within, is) = c in
    o.once place (length xs) x within (omega arith) (get_or_append_left xs (x ∷ []) x place within ∙ is ∙ sym (get_or_push xs x x (length xs) refl))

number_fits : (rows : List Row) (released : List Number) (x : Number) → AreReleasedOnce rows released → Contains released x → x.n ≤ top_at rows x.sub
number_fits rows released x o c = let (place, within, is) = c in subst (λ (r : Number). r.n ≤ top_at rows r.sub) is (o.numbers place x within)

-- ---- what is posted

-- a server posted a packet with these inputs
pub record IsPosted (packets : List SentPacket) (i : FullInputs) : Type 0 where
  pub packet : SentPacket
  pub is_in : Contains packets packet
  pub role : packet.sender ≡ Some end.Server
  pub with_inputs : packet.inputs ≡ Some (inputs_of.Full i)

posted_after : (packets : List SentPacket) (from : End) (inputs : Option Inputs) (sent : Option (List ℕ)) (i : FullInputs) → IsPosted packets i → IsPosted (posted packets from inputs sent) i
posted_after packets from inputs None i p = p
posted_after packets from inputs (Some bytes) i p = record {
  packet = p.packet;
  is_in = Contains-append_left packets (record { bytes = bytes; sender = Some from; inputs = inputs } ∷ []) p.packet p.is_in;
  role = p.role;
  with_inputs = p.with_inputs;
}

-- it was posted before, or is what the server posted now
posted_cases : (packets : List SentPacket) (inputs : Option Inputs) (sent : Option (List ℕ)) (i : FullInputs) → IsPosted (posted packets end.Server inputs sent) i → IsPosted packets i ⊎ (inputs ≡ Some (inputs_of.Full i))
posted_cases packets inputs None i p = inl p
posted_cases packets inputs (Some bytes) i p =
    let new : SentPacket = record { bytes = bytes; sender = Some end.Server; inputs = inputs } in
    ⊎_elim (λ there. inl (record { packet = p.packet; is_in = there; role = p.role; with_inputs = p.with_inputs }))
    (λ (same : new ≡ p.packet). inr (ap (λ (x : SentPacket). x.inputs) same ∙ p.with_inputs))
    (Contains-push_cases packets new p.packet p.is_in)

-- a peer's packet isn't a server's
peer_posts : (packets : List SentPacket) (inputs : Option Inputs) (sent : Option (List ℕ)) (i : FullInputs) → IsPosted (posted packets end.Peer inputs sent) i → IsPosted packets i
peer_posts packets inputs None i p = p
peer_posts packets inputs (Some bytes) i p =
    let new : SentPacket = record { bytes = bytes; sender = Some end.Peer; inputs = inputs } in
    ⊎_elim (λ there. record { packet = p.packet; is_in = there; role = p.role; with_inputs = p.with_inputs })
    (λ (same : new ≡ p.packet). absurd (roles p.packet.sender (ap (λ (x : SentPacket). x.sender) same) p.role))
    (Contains-push_cases packets new p.packet p.is_in)
  where
    roles : (e : Option End) → Some end.Peer ≡ e → e ≡ Some end.Server → ⊥
    roles e f g = cc

-- nor is a changed one
copied_before : (packets : List SentPacket) (copy : Option (List ℕ)) (i : FullInputs) → IsPosted (packets ++ copies copy) i → IsPosted packets i
copied_before packets None i p = subst (λ (l : List SentPacket). IsPosted l i) (append-nil packets) p
copied_before packets (Some bytes) i p =
    let new : SentPacket = record { bytes = bytes; sender = None; inputs = None } in
    ⊎_elim (λ there. record { packet = p.packet; is_in = there; role = p.role; with_inputs = p.with_inputs })
    (λ (same : new ≡ p.packet). absurd (roles p.packet.sender (ap (λ (x : SentPacket). x.sender) same) p.role))
    (Contains-push_cases packets new p.packet p.is_in)
  where
    roles : (e : Option End) → None ≡ e → e ≡ Some end.Server → ⊥
    roles e f g = cc

-- what was posted before one is posted after it
copied_after : (packets : List SentPacket) (copy : Option (List ℕ)) (i : FullInputs) → IsPosted packets i → IsPosted (packets ++ copies copy) i
copied_after packets copy i p = record {
  packet = p.packet;
  is_in = Contains-append_left packets (copies copy) p.packet p.is_in;
  role = p.role;
  with_inputs = p.with_inputs;
}

-- ---- what holds of a network

-- inputs are those of the vector of a released number, which a server with some options made
pub record IsDrawn (set : Setting) (released : List Number) (i : FullInputs) : Type 0 where
  pub n : ℕ
  pub options : ServerOptions
  pub vector : Vector
  pub is_in : Contains released (record { sub = i.sub; n = n })
  pub of_number : vector_at set options i.sub n ≡ Some vector
  pub rand : i.rand ≡ vector.rand
  pub autn : i.autn ≡ vector.autn

abbrev pub HasNumber : Setting → ServerEnd → Type 0
HasNumber set s = (sent : Challenged) → challenged_of s ≡ Some sent → (n : ℕ) × (vector_at set s.options sent.sub n ≡ Some sent.vector)

pub record ServerFine (set : Setting) (packets : List SentPacket) (s : ServerEnd) : Type 0 where
  pub fits : Fits s
  pub was_posted : (i : FullInputs) → inputs_of_server s ≡ Some (inputs_of.Full i) → IsPosted packets i
  pub drawn : HasNumber set s
  pub renewed : RenewsFirst s

abbrev pub inputs_at : ℕ → Challenge → Peer → FullInputs
inputs_at sub c p = record {
  method = p.options.method;
  name = network_named p.source;
  sub = sub;
  rand = c.rand;
  autn = c.autn;
  identity = text_or_none p.identity;
}

-- a peer's keys are those of inputs that a server posted
pub record PeerIs (device : Subscription) (packets : List SentPacket) (sub : ℕ) (p : Peer) (keys : KeySet) : Type 0 where
  pub challenge : Challenge
  pub was_accepted : accepted_in p.source ≡ Some challenge
  pub same : keys ≡ keys_of_inputs device p.options.method (network_named p.source) challenge (text_or_none p.identity)
  pub was_posted : IsPosted packets (inputs_at sub challenge p)

abbrev pub Live : List Subscription → List SentPacket → ℕ → ℕ → Peer → Type 0
Live devices packets place sub p = (device : Subscription) (keys : KeySet) → slice_get devices place ≡ Some device → p.state ≡ peer_state.Answered keys → resumed_from p.source ≡ None → PeerIs device packets sub p keys

pub record Done (devices : List Subscription) (packets : List SentPacket) (place sub : ℕ) (p : Peer) (keys : KeySet) : Type 0 where
  pub ended : p.state ≡ peer_state.Ended
  pub device : Subscription
  pub there : slice_get devices place ≡ Some device
  pub is : PeerIs device packets sub p keys

abbrev pub AllDone : List Subscription → List SentPacket → ℕ → ℕ → Peer → Option KeySet → Type 0
AllDone devices packets place sub p won = (keys : KeySet) → won ≡ Some keys → resumed_from p.source ≡ None → Done devices packets place sub p keys

-- a peer that has won has ended
abbrev pub HasEnded : Peer → Option KeySet → Type 0
HasEnded p won = (keys : KeySet) → won ≡ Some keys → p.state ≡ peer_state.Ended

-- its keys are those of its inputs
abbrev pub Suits : List Subscription → ℕ → Peer → Type 0
Suits devices place p = (device : Subscription) → slice_get devices place ≡ Some device → peer_laws.Fits device p

pub record SessionFine (set : Setting) (devices : List Subscription) (packets : List SentPacket) (a : Session) : Type 0 where
  pub server : (s : ServerEnd) → a.server ≡ Some s → ServerFine set packets s
  pub card : (device : Subscription) (row : Row) → slice_get devices a.device ≡ Some device → slice_get set.rows a.sub ≡ Some row → device.secret ≡ row.secret
  pub live : Live devices packets a.device a.sub a.peer
  pub done : AllDone devices packets a.device a.sub a.peer a.peer_keys
  pub over : HasEnded a.peer a.peer_keys
  pub suits : Suits devices a.device a.peer

pub record Holds (set : Setting) (devices : List Subscription) (packets : List SentPacket) (sessions : List Session) (released : List Number) : Type 0 where
  pub secrets : HaveSecrets set devices
  pub drawn : (i : FullInputs) → IsPosted packets i → IsDrawn set released i
  pub alike : (i j : FullInputs) → IsPosted packets i → IsPosted packets j → AreOfOneChallenge i j → i ≡ j
  pub fine : All (SessionFine set devices packets) sessions

abbrev pub HoldsOf : Setting → Net → Type 0
HoldsOf set w = Holds set w.devices w.packets w.sessions w.released

-- ---- what stays as packets are posted

-- what was posted is posted later too
abbrev pub Later : List SentPacket → List SentPacket → Type 0
Later old new = (i : FullInputs) → IsPosted old i → IsPosted new i

server_later : (set : Setting) (old new : List SentPacket) (s : ServerEnd) → Later old new → ServerFine set old s → ServerFine set new s
server_later set old new s later f = record {
  fits = f.fits;
  was_posted = λ i e. later i (f.was_posted i e);
  drawn = f.drawn;
  renewed = f.renewed;
}

is_later : (device : Subscription) (old new : List SentPacket) (sub : ℕ) (p : Peer) (keys : KeySet) → Later old new → PeerIs device old sub p keys → PeerIs device new sub p keys
is_later device old new sub p keys later f = record {
  challenge = f.challenge;
  was_accepted = f.was_accepted;
  same = f.same;
  was_posted = later (inputs_at sub f.challenge p) f.was_posted;
}

done_later : (devices : List Subscription) (old new : List SentPacket) (place sub : ℕ) (p : Peer) (keys : KeySet) → Later old new → Done devices old place sub p keys
    → Done devices new place sub p keys
done_later devices old new place sub p keys later f = record {
  ended = f.ended;
  device = f.device;
  there = f.there;
  is = is_later f.device old new sub p keys later f.is;
}

session_later : (set : Setting) (devices : List Subscription) (old new : List SentPacket) (a : Session) → Later old new → SessionFine set devices old a → SessionFine set devices new a
session_later set devices old new a later f = record {
  server = λ s e. server_later set old new s later (f.server s e);
  card = f.card;
  live = λ device keys there e none. is_later device old new a.sub a.peer keys later (f.live device keys there e none);
  done = λ keys e none. done_later devices old new a.device a.sub a.peer keys later (f.done keys e none);
  over = f.over;
  suits = f.suits;
}

drawn_later : (set : Setting) (released more : List Number) (i : FullInputs) → IsDrawn set released i → IsDrawn set (released ++ more) i
drawn_later set released more i d = record {
  n = d.n;
  options = d.options;
  vector = d.vector;
  is_in = Contains-append_left released more (record { sub = i.sub; n = d.n }) d.is_in;
  of_number = d.of_number;
  rand = d.rand;
  autn = d.autn;
}

-- ---- numbers

-- two vectors of a subscriber with one RAND and one AUTN are of one number, whatever they were made for
pub one_number : Laws → (set : Setting) (a b : ServerOptions) (sub m n : ℕ) (v u : Vector) → AreSubscribers set.rows → vector_at set a sub m ≡ Some v → vector_at set b sub n ≡ Some u
    → v.rand ≡ u.rand → v.autn ≡ u.autn → m ≤ top_at set.rows sub → n ≤ top_at set.rows sub → m ≡ n
one_number laws set a b sub m n v u subscribers ev eu rand autn mm nn = by (slice_get set.rows sub) refl ev eu
  where
    by : (o : Option Row) → slice_get set.rows sub ≡ o → vector_of_row set a sub m o ≡ Some v → vector_of_row set b sub n o ≡ Some u → m ≡ n
    by None e f g = absurd (none_some None v refl f)
    by (Some home) e f g =
        let row = at IsRow set.rows sub home subscribers.each e in
        let k = home.secret.k in
        let opc = home.secret.opc in
        let r = rand_of set.key sub m in
        let s = rand_of set.key sub n in
        let left : vector_of home.secret a.method home.amf a.name home.bits m r ≡ v = one (Some v) (vector_of home.secret a.method home.amf a.name home.bits m r) v (sym f) refl in
        let right : vector_of home.secret b.method home.amf b.name home.bits n s ≡ u = one (Some u) (vector_of home.secret b.method home.amf b.name home.bits n s) u (sym g) refl in
        let rands : r ≡ s = ap (λ (x : Vector). x.rand) left ∙ rand ∙ sym (ap (λ (x : Vector). x.rand) right) in
        let autns : autn_of k opc r home.amf home.bits m ≡ autn_of k opc s home.amf home.bits n = ap (λ (x : Vector). x.autn) left ∙ autn ∙ sym (ap (λ (x : Vector). x.autn) right) in
        let top : top_at set.rows sub ≡ top_of home.bits = top_at-row set.rows sub home e in
        laws.numbers k opc home.amf r s home.bits m n row.key row.operator row.few (subst (λ (t : ℕ). m ≤ t) top mm) (subst (λ (t : ℕ). n ≤ t) top nn)
        (ap (λ (x : List ℕ). sqn_in k opc x (autn_of k opc r home.amf home.bits m)) rands ∙ ap (λ (y : List ℕ). sqn_in k opc s y) autns)

-- ---- a server's turn

-- the sessions after a server's turn
set_server : (set : Setting) (devices : List Subscription) (packets : List SentPacket) (sessions : List Session) (place : ℕ) (session : Session) (s : ServerEnd) (sent : Option (List ℕ))
    → All (SessionFine set devices packets) sessions → slice_get sessions place ≡ Some session
    → ServerFine set (posted packets end.Server (inputs_of_server s) sent) s
    → All (SessionFine set devices (posted packets end.Server (inputs_of_server s) sent)) (slice_set sessions place (record session { server = Some s }))
set_server set devices packets sessions place session s sent all there fine =
    let after' = posted packets end.Server (inputs_of_server s) sent in
    let later = posted_after packets end.Server (inputs_of_server s) sent in
    let old = session_later set devices packets after' session later (at (SessionFine set devices packets) sessions place session all there) in
    All-set (SessionFine set devices after') sessions place (record session { server = Some s })
    (record {
      server = λ t e. subst (ServerFine set after') (one (Some s) s t refl e) fine;
      card = old.card;
      live = old.live;
      done = old.done;
      over = old.over;
      suits = old.suits;
    })
    (All-weaker (SessionFine set devices packets) (SessionFine set devices after') (λ a f. session_later set devices packets after' a later f) sessions all)

-- a turn after which the server's inputs are posted already
server_kept : (set : Setting) (w : Net) (place : ℕ) (session : Session) (s : ServerEnd) (did : Step ServerWhy) (more : List Number) → HoldsOf set w → slice_get w.sessions place ≡ Some session
    → ServerFine set w.packets s → HoldsOf set (with_server w place session more s did)
server_kept set w place session s did more h there fine =
    let back : (i : FullInputs) → IsPosted (posted w.packets end.Server (inputs_of_server s) (sent_by did)) i → IsPosted w.packets i =
    λ i p. ⊎_elim (λ old. old) (λ own. fine.was_posted i own) (posted_cases w.packets (inputs_of_server s) (sent_by did) i p) in
    record {
      secrets = h.secrets;
      drawn = λ i p. drawn_later set w.released more i (h.drawn i (back i p));
      alike = λ i j p q. h.alike i j (back i p) (back j q);
      fine = set_server set w.devices w.packets w.sessions place session s (sent_by did) h.fine there (server_later set w.packets (posted w.packets end.Server (inputs_of_server s) (sent_by did)) s (posted_after w.packets end.Server (inputs_of_server s) (sent_by did)) fine);
    }

-- what a server posts with a packet
posts : (packets : List SentPacket) (inputs : Option Inputs) (bytes : List ℕ) (i : FullInputs) → inputs ≡ Some (inputs_of.Full i) → IsPosted (posted packets end.Server inputs (Some bytes)) i
posts packets inputs bytes i e = record {
  packet = record { bytes = bytes; sender = Some end.Server; inputs = inputs };
  is_in = Contains-push packets (record { bytes = bytes; sender = Some end.Server; inputs = inputs });
  role = refl;
  with_inputs = e;
}

-- the inputs of a vector's challenge
abbrev pub inputs_new : ServerEnd → ℕ → Vector → FullInputs
inputs_new s sub v = record {
  method = s.options.method;
  name = s.options.name;
  sub = sub;
  rand = v.rand;
  autn = v.autn;
  identity = s.identity;
}

same_number : (sub m n : ℕ) → m ≡ n → ◌≡◌ {A = Number} (record { sub = sub; n = m }) (record { sub = sub; n = n })
same_number sub m n e = cc

same_subscriber : (sub other n : ℕ) → sub ≡ other → ◌≡◌ {A = Number} (record { sub = sub; n = n }) (record { sub = other; n = n })
same_subscriber sub other n e = cc

contains_same : (xs : List Number) (x y : Number) → x ≡ y → Contains xs x → Contains xs y
contains_same xs x y e c = subst (Contains xs) e c

-- no inputs that were posted before are those of a number that is released now
fresh : Laws → (set : Setting) (w : Net) (b : ServerOptions) (sub n : ℕ) (v : Vector) (i : FullInputs) → AreSubscribers set.rows → HoldsOf set w → AreReleasedOnce set.rows (w.released ++ record { sub = sub; n = n } ∷ [])
    → vector_at set b sub n ≡ Some v → IsPosted w.packets i → i.sub ≡ sub → i.rand ≡ v.rand → i.autn ≡ v.autn → ⊥
fresh laws set w b sub n v i subscribers h once of p is rand autn =
    let d = h.drawn i p in
    let x : Number = record { sub = sub; n = n } in
    let front = once_front set.rows w.released (x ∷ []) once in
    let mm = number_fits set.rows w.released (record { sub = i.sub; n = d.n }) front d.is_in in
    let nn = number_fits set.rows (w.released ++ x ∷ []) x once (Contains-push w.released x) in
    let m_at : vector_at set d.options sub d.n ≡ Some d.vector = ap (λ (k : ℕ). vector_at set d.options k d.n) (sym is) ∙ d.of_number in
    let number = one_number laws set d.options b sub d.n n d.vector v subscribers m_at of (sym d.rand ∙ rand) (sym d.autn ∙ autn) (subst (λ (k : ℕ). d.n ≤ top_at set.rows k) is mm) nn in
    not_before set.rows w.released x once
    (contains_same w.released (record { sub = i.sub; n = d.n }) x (same_subscriber i.sub sub d.n is ∙ same_number sub d.n n number) d.is_in)

-- a turn that sends a new challenge
server_new : Laws → (set : Setting) (w : Net) (place : ℕ) (session : Session) (s : ServerEnd) (did : Step ServerWhy) (sub n : ℕ) (v : Vector) (next : Option (List ℕ)) (bytes : List ℕ)
    → AreSubscribers set.rows → HoldsOf set w → slice_get w.sessions place ≡ Some session → Fits s → RenewsFirst s → vector_at set s.options sub n ≡ Some v → challenged_of s ≡ Some (challenge_of s sub n v next)
    → did ≡ step.Sent bytes → AreReleasedOnce set.rows (w.released ++ record { sub = sub; n = n } ∷ []) → HoldsOf set (with_server w place session (record { sub = sub; n = n } ∷ []) s did)
server_new laws set w place session s did sub n v next bytes subscribers h there fits first of sent_is did_is once =
    let x : Number = record { sub = sub; n = n } in
    let j = inputs_new s sub v in
    let after' = posted w.packets end.Server (inputs_of_server s) (sent_by did) in
    let own : inputs_of_server s ≡ Some (inputs_of.Full j) = ap (λ (c : Option Challenged). inputs_sent s.options.method s.options.name s.identity c (resumed_of s)) sent_is in
    let here : IsPosted after' j =
    subst (λ (d : Step ServerWhy). IsPosted (posted w.packets end.Server (inputs_of_server s) (sent_by d)) j) (sym did_is) (posts w.packets (inputs_of_server s) bytes j own) in
    let cases : (i : FullInputs) → IsPosted after' i → IsPosted w.packets i ⊎ (j ≡ i) =
    λ i p. ⊎_elim (λ old. inl old) (λ is. inr (one_full (inputs_of_server s) j i own is)) (posted_cases w.packets (inputs_of_server s) (sent_by did) i p) in
    let new : IsDrawn set (w.released ++ x ∷ []) j = record { n = n; options = s.options; vector = v; is_in = Contains-push w.released x; of_number = of; rand = refl; autn = refl } in
    record {
      secrets = h.secrets;
      drawn = λ i p. ⊎_elim (λ old. drawn_later set w.released (x ∷ []) i (h.drawn i old)) (λ is. subst (IsDrawn set (w.released ++ x ∷ [])) is new) (cases i p);
      alike = λ i k p q alike.
          ⊎_elim
          (λ old. ⊎_elim
          (λ other. h.alike i k old other alike)
          (λ is. absurd (fresh laws set w s.options sub n v i subscribers h once of old (alike.sub ∙ sym (ap (λ (y : FullInputs). y.sub) is)) (alike.rand ∙ sym (ap (λ (y : FullInputs). y.rand) is)) (alike.autn ∙ sym (ap (λ (y : FullInputs). y.autn) is))))
          (cases k q))
          (λ is. ⊎_elim
          (λ other. absurd (fresh laws set w s.options sub n v k subscribers h once of other (sym alike.sub ∙ sym (ap (λ (y : FullInputs). y.sub) is)) (sym alike.rand ∙ sym (ap (λ (y : FullInputs). y.rand) is)) (sym alike.autn ∙ sym (ap (λ (y : FullInputs). y.autn) is))))
          (λ same. sym is ∙ same)
          (cases k q))
          (cases i p);
      fine = set_server set w.devices w.packets w.sessions place session s (sent_by did) h.fine there (record {
        fits = fits;
        was_posted = λ i e. subst (IsPosted after') (one_full (inputs_of_server s) j i own e) here;
        renewed = first;
        drawn = λ sent e. subst (λ (c : Challenged). (m : ℕ) × (vector_at set s.options c.sub m ≡ Some c.vector)) (one (challenged_of s) (challenge_of s sub n v next) sent sent_is e) (n, of);
      });
    }

-- ---- a peer's turn

set_peer : (set : Setting) (w : Net) (place : ℕ) (session : Session) (p : Peer) (did : Step PeerWhy) → HoldsOf set w → slice_get w.sessions place ≡ Some session
    → Live w.devices w.packets session.device session.sub p → AllDone w.devices w.packets session.device session.sub p (keys_won session.peer_keys did)
    → HasEnded p (keys_won session.peer_keys did) → Suits w.devices session.device p → HoldsOf set (with_peer w place session p did)
set_peer set w place session p did h there live done over suits =
    let inputs = inputs_of_peer session.sub p in
    let sent = sent_by did in
    let after' = posted w.packets end.Peer inputs sent in
    let later = posted_after w.packets end.Peer inputs sent in
    let old = session_later set w.devices w.packets after' session later (at (SessionFine set w.devices w.packets) w.sessions place session h.fine there) in
    let new : Session = record session { peer = p; peer_keys = keys_won session.peer_keys did } in
    record {
      secrets = h.secrets;
      drawn = λ i q. h.drawn i (peer_posts w.packets inputs sent i q);
      alike = λ i j q r. h.alike i j (peer_posts w.packets inputs sent i q) (peer_posts w.packets inputs sent j r);
      fine = All-set (SessionFine set w.devices after') w.sessions place new
          (record {
            server = old.server;
            card = old.card;
            live = λ device keys is e none. is_later device w.packets after' session.sub p keys later (live device keys is e none);
            done = λ keys e none. done_later w.devices w.packets after' session.device session.sub p keys later (done keys e none);
            over = over;
            suits = suits;
          })
          (All-weaker (SessionFine set w.devices w.packets) (SessionFine set w.devices after') (λ a f. session_later set w.devices w.packets after' a later f) w.sessions h.fine);
    }

-- ---- agreement

-- the keys of a vector's challenge are those of a USIM with the subscriber's secret, by the server's method and name
vector_keys : (set : Setting) (o : ServerOptions) (sub n : ℕ) (v : Vector) (device : Subscription) (c : Challenge) (text : List ℕ) → vector_at set o sub n ≡ Some v → c.rand ≡ v.rand → c.autn ≡ v.autn
    → ((row : Row) → slice_get set.rows sub ≡ Some row → device.secret ≡ row.secret) → keys_of o.method text v.ik v.ck ≡ keys_of_inputs device o.method o.name c text
vector_keys set o sub n v device c text e rand autn secret = by (slice_get set.rows sub) refl e
  where
    keys_with : Secret → List ℕ → List ℕ → KeySet
    keys_with s r a = keys_of o.method text (ik_by o.method o.name a (f3 s.k s.opc r) (f4 s.k s.opc r)) (ck_by o.method o.name a (f3 s.k s.opc r) (f4 s.k s.opc r))

    by : (x : Option Row) → slice_get set.rows sub ≡ x → vector_of_row set o sub n x ≡ Some v → keys_of o.method text v.ik v.ck ≡ keys_of_inputs device o.method o.name c text
    by None at' f = absurd (none_some None v refl f)
    by (Some home) at' f =
        let r = rand_of set.key sub n in
        let u = vector_of home.secret o.method home.amf o.name home.bits n r in
        let is : u ≡ v = one (Some v) u v (sym f) refl in
        let same : home.secret ≡ device.secret = sym (secret home at') in
        let rands : r ≡ c.rand = ap (λ (x : Vector). x.rand) is ∙ sym rand in
        let autns : u.autn ≡ c.autn = ap (λ (x : Vector). x.autn) is ∙ sym autn in
        ap (λ (x : Vector). keys_of o.method text x.ik x.ck) (sym is)
        ∙ ap (λ (s : Secret). keys_with s r u.autn) same
        ∙ ap (λ (x : List ℕ). keys_with device.secret x u.autn) rands
        ∙ ap (λ (x : List ℕ). keys_with device.secret c.rand x) autns

pub contained : {X : Type 0} (P : X → Type 0) (xs : List X) (x : X) → All P xs → Contains xs x → P x
contained P xs x all c = subst P c.2 (all c.0 x c.1)

-- inputs of a full authentication are those of a challenge
sent_before : (s : ServerEnd) (i : FullInputs) → inputs_of_server s ≡ Some (inputs_of.Full i) → (sent : Challenged) × (challenged_of s ≡ Some sent)
sent_before s i e = by (challenged_of s) (resumed_of s) refl e
  where
    by : (c : Option Challenged) (r : Option Resumed) → challenged_of s ≡ c → inputs_sent s.options.method s.options.name s.identity c r ≡ Some (inputs_of.Full i) → (sent : Challenged) × (challenged_of s ≡ Some sent)
    by None None f g = absurd cc
    by None (Some r) f g = absurd cc
    by (Some sent) r f g = (sent, f)

pub not_resumed : (p : Peer) (sub : ℕ) (i : FullInputs) → inputs_of_peer sub p ≡ Some (inputs_of.Full i) → resumed_from p.source ≡ None
not_resumed p sub i e = by p.source refl e
  where
    by : (r : Source) → p.source ≡ r → inputs_from p.options.method sub (text_or_none p.identity) r ≡ Some (inputs_of.Full i) → resumed_from p.source ≡ None
    by source.Nothing f g = ap resumed_from f
    by (source.Challenge c name) f g = ap resumed_from f
    by (source.Context c) f g = absurd cc

-- the inputs of a peer that accepted a challenge
pub accepted_inputs : (p : Peer) (sub : ℕ) (c : Challenge) → accepted_in p.source ≡ Some c → inputs_of_peer sub p ≡ Some (inputs_of.Full (inputs_at sub c p))
accepted_inputs p sub c e = by p.source e
  where
    one_challenge : (a c : Challenge) → ◌≡◌ {A = Option Challenge} (Some a) (Some c) → a ≡ c
    one_challenge a c f = cc

    by : (r : Source) → accepted_in r ≡ Some c → inputs_from p.options.method sub (text_or_none p.identity) r
        ≡ Some (inputs_of.Full (record { method = p.options.method; name = network_named r; sub = sub; rand = c.rand; autn = c.autn; identity = text_or_none p.identity }))
    by source.Nothing f = absurd cc
    by (source.Challenge a name) f =
        ap (λ (x : Challenge). Some (inputs_of.Full (record { method = p.options.method; name = name; sub = sub; rand = x.rand; autn = x.autn; identity = text_or_none p.identity }))) (one_challenge a c f)
    by (source.Context a) f = absurd cc

-- a context that was resumed is what keys are made from
pub resumed_is : (r : Source) (c : Context) → resumed_from r ≡ Some c → r ≡ source.Context c
resumed_is source.Nothing c e = absurd cc
resumed_is (source.Challenge a name) c e = absurd cc
resumed_is (source.Context a) c e = ap source.Context (one_context a c e)
  where
    one_context : (a c : Context) → ◌≡◌ {A = Option Context} (Some a) (Some c) → a ≡ c
    one_context a c f = cc

-- in a full authentication
pub full_agreed : (set : Setting) (w : Net) → HoldsOf set w → (a b : Session) (k l : KeySet) (i j : FullInputs) → Contains w.sessions a → Contains w.sessions b
    → ServerWon a k (inputs_of.Full i) → PeerWon b l (inputs_of.Full j) → AreOfOneChallenge i j → k ≡ l
full_agreed set w h a b k l i j ina inb won other alike =
    let s = won.server in
    let p = b.peer in
    let fa = (contained (SessionFine set w.devices w.packets) w.sessions a h.fine ina).server s won.is in
    let fb = contained (SessionFine set w.devices w.packets) w.sessions b h.fine inb in
    let alone = not_resumed p b.sub j other.inputs in
    let done = fb.done l other.won alone in
    let (sent, last) = sent_before s i won.inputs in
    let keys = fa.renewed.won k won.last sent won.won last in
    let c = done.is.challenge in
    let text = text_or_none p.identity in
    let here = inputs_new s sent.sub sent.vector in
    let there = inputs_at b.sub c p in
    let is_i : here ≡ i = one_full (inputs_of_server s) here i (ap (λ (x : Option Challenged). inputs_sent s.options.method s.options.name s.identity x (resumed_of s)) last) won.inputs in
    let is_j : there ≡ j = one_full (inputs_of_peer b.sub p) there j
    (accepted_inputs p b.sub c done.is.was_accepted) other.inputs in
    let both = h.alike i j (fa.was_posted i won.inputs) (subst (IsPosted w.packets) is_j done.is.was_posted) alike in
    let same : here ≡ there = is_i ∙ both ∙ sym is_j in
    let (n, of) = fa.drawn sent last in
    keys ∙ fa.fits.keys sent last ∙ ap (λ (y : FullInputs). keys_of s.options.method y.identity sent.vector.ik sent.vector.ck) same
    ∙ vector_keys set s.options sent.sub n sent.vector done.device c text of (sym (ap (λ (y : FullInputs). y.rand) same)) (sym (ap (λ (y : FullInputs). y.autn) same))
    (λ row e. fb.card done.device row done.there (ap (slice_get set.rows) (sym (ap (λ (y : FullInputs). y.sub) same)) ∙ e))
    ∙ ap (λ (y : FullInputs). keys_of_inputs done.device y.method y.name c text) same ∙ sym done.is.same

-- ---- events

-- a network after something that happened
pub record Next (set : Setting) (w next : Net) : Type 0 where
  pub more : List Number
  pub grows : next.released ≡ w.released ++ more
  pub holds : HoldsOf set w → AreReleasedOnce set.rows next.released → HoldsOf set next

still : (set : Setting) (w : Net) → Next set w w
still set w = record { more = []; grows = sym (append-nil w.released); holds = λ h o. h }

-- a server steps, and its inputs are posted already
kept_next : (set : Setting) (w : Net) (place : ℕ) (session : Session) (s : ServerEnd) (did : Step ServerWhy) → slice_get w.sessions place ≡ Some session
    → (HoldsOf set w → ServerFine set w.packets s) → Next set w (with_server w place session [] s did)
kept_next set w place session s did there fine = record {
  more = [];
  grows = refl;
  holds = λ h o. server_kept set w place session s did [] h there (fine h);
}

pub server_in : (set : Setting) (w : Net) (place : ℕ) (session : Session) (s : ServerEnd) → slice_get w.sessions place ≡ Some session → session.server ≡ Some s → HoldsOf set w → ServerFine set w.packets s
server_in set w place session s there is h = (at (SessionFine set w.devices w.packets) w.sessions place session h.fine there).server s is

-- ---- a delivery to a server

inputs_kept : (s t : ServerEnd) → KeepsChallenge s t → t.options ≡ s.options → (i : FullInputs) → inputs_of_server t ≡ Some (inputs_of.Full i)
    → inputs_of_server s ≡ Some (inputs_of.Full i)
inputs_kept s t k stays i e =
    let (sent, last) = sent_before t i e in
    let before : (challenged_of s) ≡ Some sent = sym k.challenge ∙ last in
    let with_it : (o : ServerOptions) (text : List ℕ) (c : Option Challenged) (r : Option Resumed) → Option Inputs = λ o text c r. inputs_sent o.method o.name text c r in
    ap (λ (c : Option Challenged). with_it s.options s.identity c (resumed_of s)) before
    ∙ ap (λ (o : ServerOptions). with_it o s.identity (Some sent) (resumed_of s)) (sym stays)
    ∙ ap (λ (text : List ℕ). with_it t.options text (Some sent) (resumed_of s)) (sym (k.identity sent before))
    ∙ ap (λ (c : Option Challenged). with_it t.options t.identity c (resumed_of t)) (sym last) ∙ e

kept_fine : (set : Setting) (packets : List SentPacket) (s t : ServerEnd) → ServerFine set packets s → KeepsChallenge s t → t.options ≡ s.options → Fits t → RenewsFirst t
    → ServerFine set packets t
kept_fine set packets s t f k stays fits first = record {
  fits = fits;
  was_posted = λ i e. f.was_posted i (inputs_kept s t k stays i e);
  drawn = λ sent e. subst (λ (o : ServerOptions). (n : ℕ) × (vector_at set o sent.sub n ≡ Some sent.vector)) (sym stays) (f.drawn sent (sym k.challenge ∙ e));
  renewed = first;
}

to_server_next : Laws → (set : Setting) (w : Net) (d : Delivery) (told : ToldEvent) (o : Option ServerEnd) → AreSubscribers set.rows → d.session.server ≡ o
    → slice_get w.sessions d.place ≡ Some d.session → Next set w (to_server set w d told o)
to_server_next laws set w d told None subscribers is there = still set w
to_server_next laws set w d told (Some s) subscribers is there =
    let turn = server_turn set w s told in
    let asked = asking (server_row set w.homes s told.seen told.reply) in
    let more = drawn_in_turn asked turn.1.notes.number in
    record {
      more = more;
      grows = refl;
      holds = λ h o.
          let old = server_in set w d.place d.session s there is h in
          let fits = laws.server_fits set w.homes s told.seen told.reply told.notes old.fits in
          let first = turn_renews set w.homes s told.seen told.reply told.notes old.fits old.renewed in
          ⊎_elim
          (λ kept. server_kept set w d.place d.session turn.0 turn.1.step more h there (kept_fine set w.packets s turn.0 old kept (turn_options set w.homes s told.seen told.reply told.notes) fits first))
          (λ (new : SendsChallenge set asked turn.0 turn.1).
          let x : Number = record { sub = new.request.sub; n = new.n } in
          let is_more : more ≡ x ∷ [] = ap (λ (a : Option Asking). drawn_in_turn a turn.1.notes.number) new.of ∙ ap (drawn_in_turn (Some new.request)) new.drawn in
          subst (λ (r : List Number). AreReleasedOnce set.rows (w.released ++ r) → HoldsOf set (with_server w d.place d.session r turn.0 turn.1.step)) (sym is_more)
          (λ once. server_new laws set w d.place d.session turn.0 turn.1.step new.request.sub new.n new.vector new.next turn.0.last subscribers h there fits first new.of_number new.challenge new.sent once) o)
          (laws.server_moves set w.homes s told.seen told.reply told.notes old.fits);
    }

-- ---- a delivery to a peer

peer_kept : (device : Subscription) (packets : List SentPacket) (sub : ℕ) (p z : Peer) (keys : KeySet) → PeerIs device packets sub p keys → z.source ≡ p.source → z.identity ≡ p.identity
    → z.options ≡ p.options → PeerIs device packets sub z keys
peer_kept device packets sub p z keys f from id opt =
    let c = f.challenge in
    let same : inputs_at sub c p ≡ inputs_at sub c z = λ j. record {
      method = (sym opt j).method;
      name = network_named (sym from j);
      sub = sub;
      rand = c.rand;
      autn = c.autn;
      identity = text_or_none (sym id j);
    } in
    record {
      challenge = c;
      was_accepted = ap accepted_in from ∙ f.was_accepted;
      same = f.same ∙ ap (λ (y : FullInputs). keys_of_inputs device y.method y.name c y.identity) same;
      was_posted = subst (IsPosted packets) same f.was_posted;
    }

no_waiting : (s : PeerState) (keys : KeySet) → s ≡ peer_state.Waiting → s ≡ peer_state.Answered keys → ⊥
no_waiting s keys e f = cc

no_ended : (s : PeerState) → s ≡ peer_state.Waiting → s ≡ peer_state.Ended → ⊥
no_ended s e f = cc

pub won_cases : (before : Option KeySet) (did : Step PeerWhy) (keys : KeySet) → keys_won before did ≡ Some keys → ((bytes : List ℕ) × (did ≡ step.Ended (outcome.Success keys) bytes)) ⊎ (before ≡ Some keys)
won_cases before (step.Ended (outcome.Success k) bytes) keys e = inl (bytes, ap (λ (x : KeySet). step.Ended (outcome.Success x) bytes) (one (Some k) k keys refl e))
won_cases before (step.Ended (outcome.Failure cause) bytes) keys e = inr e
won_cases before (step.Sent bytes) keys e = inr e
won_cases before (step.Ignored cause) keys e = inr e

to_peer_next : Laws → (set : Setting) (w : Net) (d : Delivery) (told : ToldEvent) (o : Option Subscription) → slice_get w.devices d.session.device ≡ o
    → slice_get w.sessions d.place ≡ Some d.session → IsHonestFinding w.packets (peer_finds set w d told o) → Next set w (to_peer set w d told o)
to_peer_next laws set w d told None is there honest = still set w
to_peer_next laws set w d told (Some device) is there honest =
    let keeps = keeps_at w d.session.device in
    let turn = peer_turn set device keeps d.session told in
    let p = d.session.peer in
    let z = turn.0 in
    let sub = d.session.sub in
    let m = laws.peer_moves set.key device keeps p told.seen told.notes.usim told.inner in
    record {
      more = [];
      grows = sym (append-nil w.released);
      holds = λ h o.
          let old = at (SessionFine set w.devices w.packets) w.sessions d.place d.session h.fine there in
          let fits = laws.peer_fits set.key device keeps p told.seen told.notes.usim told.inner (old.suits device is) in
          let none_before : resumed_from z.source ≡ None → (p.state ≡ peer_state.Waiting → ⊥) → resumed_from p.source ≡ None =
          λ none apart. ⊎_elim (λ waits. absurd (apart waits)) (λ same. sym (ap resumed_from same) ∙ none) m.source in
          let kept : (other : Subscription) (keys : KeySet) → PeerIs other w.packets sub p keys → (p.state ≡ peer_state.Waiting → ⊥) → PeerIs other w.packets sub z keys =
          λ other keys f apart. ⊎_elim (λ waits. absurd (apart waits))
          (λ same. ⊎_elim (λ waits. absurd (apart waits)) (λ stays. peer_kept other w.packets sub p z keys f same stays m.options) m.identity)
          m.source in
          let fresh_keys : (keys : KeySet) → z.state ≡ peer_state.Answered keys → resumed_from z.source ≡ None → turn.1.checked ≡ true → PeerIs device w.packets sub z keys =
          λ keys e none checked.
          let f = subst (AreOf device z keys) none (fits keys e) in
          let s = honest checked in
          let own = inputs_at sub f.challenge z in
          let is_own : inputs_of_peer sub z ≡ Some (inputs_of.Full own) = accepted_inputs z sub f.challenge f.was_accepted in
          let same : s.own ≡ inputs_of.Full own = one (inputs_of_peer sub z) s.own (inputs_of.Full own) s.same_inputs is_own in
          record {
            challenge = f.challenge;
            was_accepted = f.was_accepted;
            same = f.same;
            was_posted = record { packet = s.packet; is_in = s.is_in; role = s.role; with_inputs = s.with_inputs ∙ ap (λ (x : Inputs). Some x) same };
          } in
          set_peer set w d.place d.session z turn.1.step h there
          (λ other keys at' e none.
          ⊎_elim
          (λ was. let apart = no_waiting p.state keys in kept other keys (old.live other keys at' was (none_before none (λ waits. apart waits was))) (λ waits. apart waits was))
          (λ checked. subst (λ (x : Subscription). PeerIs x w.packets sub z keys) (one (slice_get w.devices d.session.device) device other is at') (fresh_keys keys e none checked))
          (m.keys keys e))
          (λ keys e none.
          ⊎_elim
          (λ success.
          let ends = m.success keys success.0 success.1 in
          let apart : p.state ≡ peer_state.Waiting → ⊥ = λ waits. no_waiting p.state keys waits ends.0 in
          record { ended = ends.1; device = device; there = is; is = kept device keys (old.live device keys is ends.0 (none_before none apart)) apart })
          (λ before.
          let apart : p.state ≡ peer_state.Waiting → ⊥ = λ waits. no_ended p.state waits (old.over keys before) in
          let f = old.done keys before (none_before none apart) in
          record { ended = m.ended f.ended; device = f.device; there = f.there; is = kept f.device keys f.is apart })
          (won_cases d.session.peer_keys turn.1.step keys e))
          (λ keys e. ⊎_elim (λ success. (m.success keys success.0 success.1).1) (λ before. m.ended (old.over keys before)) (won_cases d.session.peer_keys turn.1.step keys e))
          (λ other at'. subst (λ (x : Subscription). peer_laws.Fits x z) (one (slice_get w.devices d.session.device) device other is at') fits);
    }

-- ---- deliveries

server_delivered : Laws → (set : Setting) (w : Net) (told : ToldEvent) (packet : ℕ) (o : Option ℕ) → AreSubscribers set.rows → Next set w (delivered set w end.Server told (delivery_at w packet o))
server_delivered laws set w told packet None subscribers = still set w
server_delivered laws set w told packet (Some place) subscribers = by (slice_get w.sessions place) (packet_at w.packets packet) refl
  where
    by : (x : Option Session) (y : Option SentPacket) → slice_get w.sessions place ≡ x → Next set w (delivered set w end.Server told (delivery_of packet place x y))
    by (Some session) (Some sent) e = to_server_next laws set w (record { place = place; session = session; bytes = sent.bytes; packet = packet }) told session.server subscribers refl e
    by (Some session) None e = still set w
    by None (Some sent) e = still set w
    by None None e = still set w

peer_delivered : Laws → (set : Setting) (w : Net) (told : ToldEvent) (packet : ℕ) (o : Option ℕ) → IsHonestFinding w.packets (found_by set w end.Peer told (delivery_at w packet o))
    → Next set w (delivered set w end.Peer told (delivery_at w packet o))
peer_delivered laws set w told packet None honest = still set w
peer_delivered laws set w told packet (Some place) honest = by (slice_get w.sessions place) (packet_at w.packets packet) refl honest
  where
    by : (x : Option Session) (y : Option SentPacket) → slice_get w.sessions place ≡ x → IsHonestFinding w.packets (found_by set w end.Peer told (delivery_of packet place x y))
        → Next set w (delivered set w end.Peer told (delivery_of packet place x y))
    by (Some session) (Some sent) e fair =
        to_peer_next laws set w (record { place = place; session = session; bytes = sent.bytes; packet = packet }) told (slice_get w.devices session.device) refl e fair
    by (Some session) None e fair = still set w
    by None (Some sent) e fair = still set w
    by None None e fair = still set w

-- ---- the other events

session_next : (set : Setting) (w : Net) (session : ℕ) (does : ℕ → Session → Net) → ((place : ℕ) (s : Session) → slice_get w.sessions place ≡ Some s → Next set w (does place s))
    → Next set w (at_session w session does)
session_next set w session does each = by (session_place w.sessions session)
  where
    found_one : (place : ℕ) (x : Option Session) → slice_get w.sessions place ≡ x → Next set w (in_session w does place x)
    found_one place None e = still set w
    found_one place (Some s) e = each place s e

    by : (o : Option ℕ) → Next set w (at_place w does o)
    by None = still set w
    by (Some place) = found_one place (slice_get w.sessions place) refl

nothing : {X : Type 0} (x : X) → ◌≡◌ {A = Option X} None (Some x) → ⊥
nothing x e = cc

no_inputs : (i : FullInputs) → ◌≡◌ {A = Option Inputs} None (Some (inputs_of.Full i)) → ⊥
no_inputs i e = cc

started_fine : (set : Setting) (packets : List SentPacket) (o : ServerOptions) → ServerFine set packets (started o)
started_fine set packets o = record {
  fits = started_fits o;
  was_posted = λ i e. absurd (no_inputs i e);
  drawn = λ sent e. absurd (nothing sent e);
  renewed = record { won = λ keys last sent e f. absurd (nothing sent f) };
}

start_next : (set : Setting) (w : Net) (place : ℕ) (session : Session) (o : Option ServerEnd) → slice_get w.sessions place ≡ Some session → Next set w (start w place session o)
start_next set w place session None there =
    let first = started session.options in kept_next set w place session first (step.Sent first.last) there (λ h. started_fine set w.packets session.options)
start_next set w place session (Some s) there = still set w

repeat_next : (set : Setting) (w : Net) (place : ℕ) (session : Session) (o : Option ServerEnd) → session.server ≡ o → slice_get w.sessions place ≡ Some session → Next set w (repeat w place session o)
repeat_next set w place session None is there = still set w
repeat_next set w place session (Some s) is there = kept_next set w place session s (repeated s s.state) there (λ h. server_in set w place session s there is h)

abbrev given_up : ServerEnd → ServerEnd
given_up s = record s { state = state.Ended (outcome.Failure why.GivenUp) (last_of s.state) }

no_success : (keys : KeySet) (cause : ServerWhy) (before last : Last) → state.Ended (outcome.Failure cause) before ≡ state.Ended (outcome.Success keys) last → ⊥
no_success keys cause before last e = cc

given_up_fine : (set : Setting) (packets : List SentPacket) (s : ServerEnd) → ServerFine set packets s → ServerFine set packets (given_up s)
given_up_fine set packets s f = record {
  fits = given_up_fits s f.fits;
  was_posted = f.was_posted;
  drawn = f.drawn;
  renewed = record { won = λ keys last sent e g. absurd (no_success keys why.GivenUp (last_of s.state) last e) };
}

server_gives_next : (set : Setting) (w : Net) (place : ℕ) (session : Session) (o : Option ServerEnd) → session.server ≡ o → slice_get w.sessions place ≡ Some session
    → Next set w (server_gives_up w place session o)
server_gives_next set w place session None is there = still set w
server_gives_next set w place session (Some s) is there = by s.state
  where
    by : (st : ServerState) → Next set w (with_server w place session [] (gave_up s st).0 (gave_up s st).1)
    by (state.Ended r last) = kept_next set w place session s (gave_up s (state.Ended r last)).1 there (λ h. server_in set w place session s there is h)
    by state.AwaitIdentity = kept_next set w place session (given_up s) (gave_up s state.AwaitIdentity).1 there (λ h. given_up_fine set w.packets s (server_in set w place session s there is h))
    by (state.Await kind) = kept_next set w place session (given_up s) (gave_up s (state.Await kind)).1 there (λ h. given_up_fine set w.packets s (server_in set w place session s there is h))
    by (state.AwaitChallenge sent before) = kept_next set w place session (given_up s) (gave_up s (state.AwaitChallenge sent before)).1 there (λ h. given_up_fine set w.packets s (server_in set w place session s there is h))
    by (state.AwaitReauth sent) = kept_next set w place session (given_up s) (gave_up s (state.AwaitReauth sent)).1 there (λ h. given_up_fine set w.packets s (server_in set w place session s there is h))
    by (state.Notifying cause last) = kept_next set w place session (given_up s) (gave_up s (state.Notifying cause last)).1 there (λ h. given_up_fine set w.packets s (server_in set w place session s there is h))

abbrev peer_over : Peer → Peer
peer_over p = in_state p peer_state.Ended

no_answered : (keys : KeySet) → peer_state.Ended ≡ peer_state.Answered keys → ⊥
no_answered keys e = cc

peer_gives_next : (set : Setting) (w : Net) (place : ℕ) (session : Session) → slice_get w.sessions place ≡ Some session → Next set w (give_up w end.Peer place session)
peer_gives_next set w place session there = by session.peer.state
  where
    over : Next set w (with_peer w place session (peer_over session.peer) (step.Ended (outcome.Failure peer_why.GivenUp) []))
    over = record {
      more = [];
      grows = sym (append-nil w.released);
      holds = λ h o.
          let old = at (SessionFine set w.devices w.packets) w.sessions place session h.fine there in
          set_peer set w place session (peer_over session.peer) (step.Ended (outcome.Failure peer_why.GivenUp) []) h there
          (λ device keys is e none. absurd (no_answered keys e))
          (λ keys e none. let f = old.done keys e none in record {
            ended = refl;
            device = f.device;
            there = f.there;
            is = peer_kept f.device w.packets session.sub session.peer (peer_over session.peer) keys f.is refl refl refl;
          })
          (λ keys e. refl)
          (λ device is keys e. absurd (no_answered keys e));
    }

    by : (st : PeerState) → Next set w (with_peer w place session (peer_gave_up session.peer st).0 (peer_gave_up session.peer st).1)
    by peer_state.Ended = record {
      more = [];
      grows = sym (append-nil w.released);
      holds = λ h o.
          let old = at (SessionFine set w.devices w.packets) w.sessions place session h.fine there in
          set_peer set w place session session.peer (peer_gave_up session.peer peer_state.Ended).1 h there old.live old.done old.over old.suits;
    }
    by peer_state.Waiting = over
    by (peer_state.Answered keys) = over
    by (peer_state.Refusing cause) = over

give_up_next : (set : Setting) (w : Net) (at' : End) (place : ℕ) (session : Session) → slice_get w.sessions place ≡ Some session → Next set w (give_up w at' place session)
give_up_next set w end.Server place session there = server_gives_next set w place session session.server refl there
give_up_next set w end.Peer place session there = peer_gives_next set w place session there

no_waiting_answered : (keys : KeySet) → peer_state.Waiting ≡ peer_state.Answered keys → ⊥
no_waiting_answered keys e = cc

opened_next : (set : Setting) (w : Net) (opening : SessionLine) (old o : Option ℕ) → device_place set.rows w.devices opening.sub ≡ o → Next set w (opened w opening old o)
opened_next set w opening (Some first) o e = still set w
opened_next set w opening None None e = still set w
opened_next set w opening None (Some place) e = record {
  more = [];
  grows = sym (append-nil w.released);
  holds = λ h o. record {
    secrets = h.secrets;
    drawn = h.drawn;
    alike = h.alike;
    fine = All-push (SessionFine set w.devices w.packets) w.sessions _ h.fine (record {
      server = λ s is. absurd (nothing s is);
      card = λ device row there is. h.secrets opening.sub place device row e there is;
      live = λ device keys there is none. absurd (no_waiting_answered keys is);
      done = λ keys is none. absurd (nothing keys is);
      over = λ keys is. absurd (nothing keys is);
      suits = λ device there keys is. absurd (no_waiting_answered keys is);
    });
  };
}

-- a changed packet is posted by no server
copied_next : (set : Setting) (w : Net) (copy : Option (List ℕ)) → Next set w (with_copy w copy)
copied_next set w copy = record {
  more = [];
  grows = sym (append-nil w.released);
  holds = λ h o. record {
    secrets = h.secrets;
    drawn = λ i p. h.drawn i (copied_before w.packets copy i p);
    alike = λ i j p q. h.alike i j (copied_before w.packets copy i p) (copied_before w.packets copy j q);
    fine = All-weaker (SessionFine set w.devices w.packets) (SessionFine set w.devices (w.packets ++ copies copy))
        (λ a f. session_later set w.devices w.packets (w.packets ++ copies copy) a (copied_after w.packets copy) f) w.sessions h.fine;
  };
}

-- ---- a run

moved_next : Laws → (set : Setting) (w : Net) (e : Event) (told : ToldEvent) → AreSubscribers set.rows → IsHonestFinding w.packets (found set w e told) → Next set w (moved set w e told)
moved_next laws set w (event.Open opening) told subscribers honest =
    opened_next set w opening (session_place w.sessions opening.session) (device_place set.rows w.devices opening.sub) refl
moved_next laws set w (event.Start session) told subscribers honest =
    session_next set w session (λ place s. start w place s s.server) (λ place s there. start_next set w place s s.server there)
moved_next laws set w (event.Deliver session end.Server packet) told subscribers honest = server_delivered laws set w told packet (session_place w.sessions session) subscribers
moved_next laws set w (event.Deliver session end.Peer packet) told subscribers honest = peer_delivered laws set w told packet (session_place w.sessions session) honest
moved_next laws set w (event.Repeat session) told subscribers honest =
    session_next set w session (λ place s. repeat w place s s.server) (λ place s there. repeat_next set w place s s.server refl there)
moved_next laws set w (event.GiveUp session at') told subscribers honest = session_next set w session (give_up w at') (λ place s there. give_up_next set w at' place s there)
moved_next laws set w (event.Tamper packet place byte) told subscribers honest = copied_next set w (changed_in w.packets (event.Tamper packet place byte))
moved_next laws set w (event.Cut packet count) told subscribers honest = copied_next set w (changed_in w.packets (event.Cut packet count))

one_next : Laws → (set : Setting) (w : Net) (h : Happening) → AreSubscribers set.rows → IsHonestAt set w h → Next set w (after_one set w h)
one_next laws set w (Occurs e told) subscribers honest =
    let n = moved_next laws set w e told subscribers honest in record { more = n.more; grows = n.grows; holds = n.holds }
one_next laws set w (Noted released) subscribers honest = record {
  more = released ∷ [];
  grows = refl;
  holds = λ h o. record {
    secrets = h.secrets;
    drawn = λ i p. drawn_later set w.released (released ∷ []) i (h.drawn i p);
    alike = h.alike;
    fine = h.fine;
  };
}

run_grows : Laws → (set : Setting) (w : Net) (hs : List Happening) → AreSubscribers set.rows → IsHonest set w hs → (more : List Number) × ((after set w hs).released ≡ w.released ++ more)
run_grows laws set w [] subscribers honest = ([], sym (append-nil w.released))
run_grows laws set w (h ∷ hs) subscribers honest =
    let first = one_next laws set w h subscribers honest.0 in
    let rest = run_grows laws set (after_one set w h) hs subscribers honest.1 in
    (first.more ++ rest.0, rest.1 ∙ ap (λ (l : List Number). l ++ rest.0) first.grows ∙ append_assoc w.released first.more rest.0)

-- after the first of some happenings
pub one_holds : Laws → (set : Setting) (w : Net) (e : Happening) (es : List Happening) → AreSubscribers set.rows → IsHonest set w (e ∷ es) → HoldsOf set w
    → AreReleasedOnce set.rows (after set w (e ∷ es)).released → HoldsOf set (after_one set w e)
one_holds laws set w e es subscribers honest h once =
    let first = one_next laws set w e subscribers honest.0 in
    let rest = run_grows laws set (after_one set w e) es subscribers honest.1 in
    first.holds h (once_front set.rows (after_one set w e).released rest.0 (subst (AreReleasedOnce set.rows) rest.1 once))

pub run_holds : Laws → (set : Setting) (w : Net) (hs : List Happening) → AreSubscribers set.rows → IsHonest set w hs → HoldsOf set w → AreReleasedOnce set.rows (after set w hs).released
    → HoldsOf set (after set w hs)
run_holds laws set w [] subscribers honest h once = h
run_holds laws set w (e ∷ es) subscribers honest h once =
    run_holds laws set (after_one set w e) es subscribers honest.1 (one_holds laws set w e es subscribers honest h once) once

no_packet : (packets : List SentPacket) (i : FullInputs) → packets ≡ [] → IsPosted packets i → ⊥
no_packet packets i e p = let c = subst (λ (l : List SentPacket). Contains l p.packet) e p.is_in in let lt = c.1 in omega arith

pub begins : (set : Setting) (w : Net) → HaveSecrets set w.devices → IsFresh w → HoldsOf set w
begins set w secrets new = record {
  secrets = secrets;
  drawn = λ i p. absurd (no_packet w.packets i new.packets p);
  alike = λ i j p q alike. absurd (no_packet w.packets i new.packets p);
  fine = subst (All (SessionFine set w.devices w.packets)) (sym new.sessions) (All-nil (SessionFine set w.devices w.packets));
}
