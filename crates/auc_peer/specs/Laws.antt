-- What holds of every peer, over all that it receives.
use Rattle.std.specs.Prelude.{◌≡◌, ◌⊎◌, ◌≤◌, ℕ, true, List, [], ◌∷◌, Option, Some, None}
use Rattle.auc_hmac.specs.declared.keys.KeySet.{KeySet}
use Rattle.auc_hmac.specs.declared.method.Method.{Method}
use Rattle.auc_hmac.specs.declared.method.Method.TheVariants as method
use Rattle.auc_milenage.specs.Milenage.{f3, f4}
use Rattle.auc_packet.specs.Received.{Seen, is_sealed}
use Rattle.auc_peer.specs.Subscription.{Subscription}
use Rattle.auc_peer.specs.Identities.{adopted}
use Rattle.auc_peer.specs.Rows.{peer_row}
use Rattle.auc_peer.specs.Table.{gave_up, kept_by, keys_for, new_peer, peer_step, pseudonym_given, text_or_none}
use Rattle.auc_peer.specs.Turn.{Steps}
use Rattle.auc_peer.specs.Told.{ToldSession}
use Rattle.auc_peer.specs.declared.peer.Challenge.{Challenge}
use Rattle.auc_peer.specs.Peer.{PeerEnd, accepted_in, network_named, resumed_from}
use Rattle.auc_peer.specs.declared.peer.PeerState.TheVariants as state
use Rattle.auc_vector.specs.declared.why.PeerWhy.{PeerWhy}
use Rattle.auc_peer.specs.declared.decrypted.Decrypted.{Decrypted}
use Rattle.auc_peer.specs.declared.decrypted.Decrypted.TheVariants as inner
use Rattle.auc_ident.specs.Permanent.{username}
use Rattle.auc_reauth.specs.Device.{Keeps, with_accepted}
use Rattle.auc_reauth.specs.Store.{entry}
use Rattle.auc_reauth.specs.declared.context.Context.{Context}
use Rattle.auc_request.specs.declared.enclosed.Enclosed.{Enclosed}
use Rattle.auc_sqn.specs.Past.{ArrayValue, Past, Remembers}
use Rattle.auc_vector.specs.Keys.{reauth_keys_of}
use Rattle.auc_vector.specs.declared.notes.CounterNote.TheVariants as counts
use Rattle.auc_vector.specs.declared.notes.UsimNote.{UsimNote}
use Rattle.auc_vector.specs.declared.turn.Outcome.TheVariants as outcome
use Rattle.auc_vector.specs.declared.turn.Step.TheVariants as step
use Rattle.auc_vector.specs.declared.turn.Turn.{Turn}

-- ---- Success

-- what befalls a peer: bytes, under a key of the random bytes, at some subscription whose device keeps something, with the
-- USIM's note and what was decrypted; or it gives up
pub data Input : Type 0 where
  Bytes : List ℕ → Subscription → Keeps → Seen → Option UsimNote → Decrypted → Input
  GiveUp : Input

abbrev pub happened : PeerEnd → Input → PeerEnd
happened p (Bytes key s keeps seen n inner) = (peer_step key s keeps p seen n inner).0
happened p GiveUp = (gave_up p p.state).0

-- a peer with some options after some inputs, the last of which stands first
abbrev pub after : ToldSession → List Input → PeerEnd
after o [] = new_peer o
after o (input ∷ before) = happened (after o before) input

-- bytes with a right AT_MAC of a method under some keys
abbrev pub IsRightUnder : Method → KeySet → Input → Type 0
IsRightUnder m keys (Bytes key s keeps seen n inner) = is_sealed m keys.k_aut [] seen ≡ true
IsRightUnder m keys GiveUp = ⊥

-- among some inputs are bytes with a right AT_MAC of a method under some keys
abbrev pub Came : Method → KeySet → List Input → Type 0
Came m keys [] = ⊥
Came m keys (input ∷ before) = IsRightUnder m keys input ⊎ Came m keys before

-- a peer that ends in Success with some keys has received bytes with a right AT_MAC under them before
abbrev pub SuccessNeedsARightMac : Type 0
SuccessNeedsARightMac =
    (o : ToldSession) (before : List Input) (key : List ℕ) (s : Subscription) (keeps : Keeps) (seen : Seen) (n : Option UsimNote) (inner : Decrypted) (keys : KeySet) (bytes : List ℕ)
    → (peer_step key s keeps (after o before) seen n inner).1.step ≡ step.Ended (outcome.Success keys) bytes
    → Came o.method keys before

-- ---- keys

-- the keys of a challenge of a network under an identity
abbrev pub keys_of_inputs : Subscription → Method → List ℕ → Challenge → List ℕ → KeySet
keys_of_inputs s m network c text =
    keys_for m network c text (f4 s.secret.k s.secret.opc c.rand) (f3 s.secret.k s.secret.opc c.rand)

-- keys of the challenge that was accepted last, under the identity that was sent last
pub record AreOfChallenge (s : Subscription) (p : PeerEnd) (keys : KeySet) : Type 0 where
  pub challenge : Challenge
  pub was_accepted : accepted_in p.source ≡ Some challenge
  pub same : keys ≡ keys_of_inputs s p.options.method (network_named p.source) challenge (text_or_none p.identity)

-- keys of a fast re-authentication with a context, under the identity that was sent last and with the counter and NONCE_S
-- that were decrypted last
pub record AreOfContext (p : PeerEnd) (c : Context) (keys : KeySet) : Type 0 where
  pub given : Enclosed
  pub decrypted : p.inner ≡ inner.Attributes given
  pub counter : ℕ
  pub has_counter : given.counter ≡ Some counter
  pub nonce : List ℕ
  pub has_nonce : given.nonce ≡ Some nonce
  pub same : keys ≡ reauth_keys_of c.k_encr c.k_aut c.master (text_or_none p.identity) counter nonce

-- keys of a context that was resumed, if the peer has resumed one since it accepted a challenge
abbrev pub AreOf : Subscription → PeerEnd → KeySet → Option Context → Type 0
AreOf s p keys None = AreOfChallenge s p keys
AreOf s p keys (Some c) = AreOfContext p c keys

abbrev pub AreOfInputs : Subscription → PeerEnd → KeySet → Type 0
AreOfInputs s p keys = AreOf s p keys (resumed_from p.source)

abbrev pub Fits : Subscription → PeerEnd → Type 0
Fits s p = (keys : KeySet) → p.state ≡ state.Answered keys → AreOfInputs s p keys

-- no turn makes a peer's keys others than those of its inputs
abbrev pub EachTurnFits : Type 0
EachTurnFits =
    (key : List ℕ) (s : Subscription) (keeps : Keeps) (p : PeerEnd) (seen : Seen) (n : Option UsimNote) (inner : Decrypted) → Fits s p
    → Fits s (peer_step key s keeps p seen n inner).0

-- ---- inputs of the keys

-- what a turn does to what keys are made from: options never change; only a waiting peer accepts a challenge, of whichever
-- network, sends another identity, resumes a context or decrypts; keys come with a right AT_MAC; Success comes under the keys
-- of what was answered; and a session that has ended stays so
pub record Moves (p new : PeerEnd) (turn : Turn PeerWhy) : Type 0 where
  pub options : new.options ≡ p.options
  pub source : (p.state ≡ state.Waiting) ⊎ (new.source ≡ p.source)
  pub identity : (p.state ≡ state.Waiting) ⊎ (new.identity ≡ p.identity)
  pub inner : (p.state ≡ state.Waiting) ⊎ (new.inner ≡ p.inner)
  pub keys : (keys : KeySet) → new.state ≡ state.Answered keys → (p.state ≡ state.Answered keys) ⊎ (turn.checked ≡ true)
  pub success : (keys : KeySet) (bytes : List ℕ) → turn.step ≡ step.Ended (outcome.Success keys) bytes
      → (p.state ≡ state.Answered keys) × (new.state ≡ state.Ended)
  pub ended : p.state ≡ state.Ended → new.state ≡ state.Ended

abbrev pub EachTurnMoves : Type 0
EachTurnMoves = (key : List ℕ) (s : Subscription) (keeps : Keeps) (p : PeerEnd) (seen : Seen) (n : Option UsimNote) (inner : Decrypted)
    → Moves p (peer_step key s keeps p seen n inner).0 (peer_step key s keeps p seen n inner).1

-- ---- the network

-- the challenge that a peer of EAP-AKA' has accepted is of the network that it means, if it means one
abbrev pub Named : PeerEnd → Type 0
Named p = (c : Challenge) (name : List ℕ) → p.options.method ≡ method.Prime → p.options.name ≡ Some name → accepted_in p.source ≡ Some c → network_named p.source ≡ name

-- no turn accepts a challenge of another network
abbrev pub EachTurnIsNamed : Type 0
EachTurnIsNamed = (key : List ℕ) (s : Subscription) (keeps : Keeps) (p : PeerEnd) (seen : Seen) (n : Option UsimNote) (inner : Decrypted)
    → Named p → Named (peer_step key s keeps p seen n inner).0

-- ---- what the device keeps

-- a session has succeeded, and the device keeps what it gave
pub record Adopted (p : PeerEnd) (turn : Turn PeerWhy) (keeps kept : Keeps) : Type 0 where
  pub keys : KeySet
  pub succeeded : turn.step ≡ step.Ended (outcome.Success keys) []
  pub stored : kept ≡ adopted p.options.method (pseudonym_given p.inner) p.next keeps

-- a counter was accepted with a right AT_MAC
pub record Counted (p : PeerEnd) (turn : Turn PeerWhy) (keeps kept : Keeps) : Type 0 where
  pub counter : ℕ
  pub noted : turn.notes.counter ≡ Some (counts.Taken counter)
  pub checked : turn.checked ≡ true
  pub stored : kept ≡ with_accepted p.options.method counter keeps

-- what a turn does to what the device keeps: names and contexts are taken up only with a right AT_MAC, and what the device
-- keeps changes only when the session ends in Success or a counter is accepted
pub record Adopts (p new : PeerEnd) (turn : Turn PeerWhy) (keeps kept : Keeps) : Type 0 where
  pub taken : ((new.inner ≡ p.inner) × (new.next ≡ p.next)) ⊎ (turn.checked ≡ true)
  pub stored : (kept ≡ keeps) ⊎ (Adopted p turn keeps kept ⊎ Counted p turn keeps kept)

-- what the device keeps after a turn
abbrev pub kept_after : List ℕ → Subscription → Keeps → PeerEnd → Seen → Option UsimNote → Decrypted → Keeps
kept_after key s keeps p seen n inner = kept_by (peer_row p seen) p (peer_step key s keeps p seen n inner).1.notes.counter keeps

abbrev pub EachTurnAdopts : Type 0
EachTurnAdopts = (key : List ℕ) (s : Subscription) (keeps : Keeps) (p : PeerEnd) (seen : Seen) (n : Option UsimNote) (inner : Decrypted)
    → Adopts p (peer_step key s keeps p seen n inner).0 (peer_step key s keeps p seen n inner).1 keeps (kept_after key s keeps p seen n inner)

-- ---- fast re-authentication

-- the device has a context of the method, which is open for a counter, and the identity that the peer sent last is, up to its
-- first `@`, the context's
pub record MayResume (keeps : Keeps) (p : PeerEnd) (counter : ℕ) : Type 0 where
  pub context : Context
  pub has : entry p.options.method keeps.contexts ≡ Some context
  pub text : List ℕ
  pub sent : p.identity ≡ Some text
  pub same : username text ≡ context.identity
  pub is_open : context.counter ≤ counter

-- a peer accepts a counter only so
abbrev pub AcceptedIsOfTheContext : Type 0
AcceptedIsOfTheContext = (key : List ℕ) (s : Subscription) (keeps : Keeps) (p : PeerEnd) (seen : Seen) (n : Option UsimNote) (inner : Decrypted) (counter : ℕ)
    → (peer_step key s keeps p seen n inner).1.notes.counter ≡ Some (counts.Taken counter) → MayResume keeps p counter

-- ---- turns

-- two turns of equal peers at equal bytes, in which a USIM that remembers some past answered alike, are the same
abbrev pub EqualTurnsAreOne : Type 0
EqualTurnsAreOne =
    (key : List ℕ) (s : Subscription) (keeps kept stored : Keeps) (old new other : PeerEnd) (bytes : List ℕ) (before left right : ArrayValue) (turn another : Turn PeerWhy) (past : Past)
    → Remembers before past → Steps key s keeps old bytes before new turn kept left → Steps key s keeps old bytes before other another stored right
    → turn.notes.usim ≡ another.notes.usim → (new ≡ other) × (turn ≡ another) × (kept ≡ stored)
