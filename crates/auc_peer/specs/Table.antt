-- The peer's table: what each row does. The second part of a row's pair is its turn.
use Rattle.std.specs.Prelude.{ℕ, not, Bool, true, false, List, [], ◌∷◌, Option, Some, None, if◌then◌else◌}
use Rattle.std.specs.Int.{w64, from_be_bytes}
use Rattle.auc_attr.specs.declared.attr.Attr.{Attr}
use Rattle.auc_hmac.specs.declared.keys.KeySet.{KeySet}
use Rattle.auc_hmac.specs.declared.keys.Master.{Master}
use Rattle.auc_hmac.specs.declared.method.Method.{Method}
use Rattle.auc_hmac.specs.declared.method.Method.TheVariants as method
use Rattle.auc_ident.specs.Permanent.{username}
use Rattle.auc_packet.specs.Messages.{is_missing}
use Rattle.auc_packet.specs.Received.{Seen, attrs_in, is_sealed, packet_in}
use Rattle.auc_packet.specs.Spelling.{packet_text}
use Rattle.auc_packet.specs.declared.subtype.Subtype.TheVariants as subtype
use Rattle.auc_peer.specs.Asking.{answer_noted}
use Rattle.auc_peer.specs.Attributes.{checkcode, id_of, is_there}
use Rattle.auc_request.specs.Request.{name_in}
pub use Rattle.auc_request.specs.Request.{text_or_none}
use Rattle.auc_peer.specs.Identities.{adopted, asked_text, first_text}
use Rattle.auc_peer.specs.Messages.{client_error, identified as identity_message, identity_response, notified, reauth_bytes, reject, response_bytes, sync_failure}
use Rattle.auc_peer.specs.Rows.{peer_row}
use Rattle.auc_peer.specs.Subscription.{Subscription}
use Rattle.auc_peer.specs.declared.decrypted.Decrypted.{Decrypted}
use Rattle.auc_peer.specs.declared.decrypted.Decrypted.TheVariants as decrypted
use Rattle.auc_peer.specs.Told.{ToldSession}
use Rattle.auc_peer.specs.declared.next.NextContext.{NextContext}
use Rattle.auc_peer.specs.declared.next.NextContext.TheVariants as next
use Rattle.auc_peer.specs.declared.peer.Challenge.{Challenge}
use Rattle.auc_peer.specs.declared.peer.Last.{Last}
use Rattle.auc_peer.specs.Peer.{PeerEnd, answer_or_none}
use Rattle.auc_peer.specs.declared.peer.PeerState.{PeerState}
use Rattle.auc_peer.specs.declared.peer.PeerState.TheVariants as state
use Rattle.auc_peer.specs.declared.peer.Source.TheVariants as source
use Rattle.auc_peer.specs.declared.rows.Row.{Row}
use Rattle.auc_peer.specs.declared.rows.Row.TheVariants as row
use Rattle.auc_vector.specs.declared.why.PeerWhy.{PeerWhy}
use Rattle.auc_vector.specs.declared.why.PeerWhy.TheVariants as why
use Rattle.auc_random.specs.Random.{index_after, nonce_of}
use Rattle.auc_reauth.specs.Device.{Keeps, is_open, with_accepted}
use Rattle.auc_reauth.specs.Server.{if_named}
use Rattle.auc_reauth.specs.Store.{entry}
use Rattle.auc_reauth.specs.declared.context.Context.{Context}
use Rattle.auc_seal.specs.Checkcode.{checkcode_of, counted, differs, value_bytes}
use Rattle.auc_usim.specs.declared.answer.Answer.{Answer}
use Rattle.auc_usim.specs.declared.answer.Answer.TheVariants as answer
use Rattle.auc_vector.specs.Keys.{ck_by, ik_by, keys_of, master_of, reauth_keys_of}
use Rattle.auc_vector.specs.declared.notes.CounterNote.{CounterNote}
use Rattle.auc_vector.specs.declared.notes.CounterNote.TheVariants as counts
use Rattle.auc_vector.specs.declared.notes.Notes.{Notes}
use Rattle.auc_vector.specs.declared.notes.UsimNote.{UsimNote}
use Rattle.auc_vector.specs.declared.notes.UsimNote.TheVariants as note
use Rattle.auc_vector.specs.declared.turn.Outcome.{Outcome}
use Rattle.auc_vector.specs.declared.turn.Outcome.TheVariants as outcome
use Rattle.auc_vector.specs.declared.turn.Reason.{Reason}
use Rattle.auc_vector.specs.declared.turn.Reason.TheVariants as reason
use Rattle.auc_vector.specs.declared.turn.Step.{Step}
use Rattle.auc_vector.specs.declared.turn.Step.TheVariants as step
use Rattle.auc_vector.specs.declared.turn.Turn.{Turn}

-- a peer that has received nothing
abbrev pub new_peer : ToldSession → PeerEnd
new_peer o = record {
  options = o;
  state = state.Waiting;
  last = None;
  identity = None;
  source = source.Nothing;
  packets = [];
  inner = decrypted.Unreadable;
  next = next.Same;
  next_iv = 1;
}

-- a peer in another state
abbrev pub in_state : PeerEnd → PeerState → PeerEnd
in_state p s = record p { state = s }

-- ---- turns

-- the notes of a turn in which the USIM answered so, or wasn't asked
abbrev pub noted : Option UsimNote → Notes
noted n = record { resync = None; number = None; resumed = None; usim = n; counter = None }

-- a packet is ignored
abbrev pub ignored : PeerEnd → Reason → PeerEnd × Turn PeerWhy
ignored p cause = (p, record { notes = noted None; step = step.Ignored cause; checked = false })

-- the session ends, and nothing is sent
abbrev pub ended : PeerEnd → Outcome PeerWhy → PeerEnd × Turn PeerWhy
ended p end = (
  in_state p state.Ended,
  record { notes = noted None; step = step.Ended end []; checked = false },
)

-- the keys of the answered Challenge are those of Success; the row is one of Answered alone
abbrev pub succeeded : PeerEnd → PeerState → PeerEnd × Turn PeerWhy
succeeded p (state.Answered keys) = ended p (outcome.Success keys)
succeeded p other = ignored p reason.Unexpected

abbrev pub last_of : Seen → List ℕ → Last
last_of seen bytes = record { id = id_of seen; request = seen.bytes; answer = bytes }

-- a request is answered with some notes, and both are kept
abbrev pub answered_noting : PeerEnd → Seen → PeerState → List ℕ → Notes → Bool → PeerEnd × Turn PeerWhy
answered_noting p seen s bytes notes checked = (
  record p { state = s; last = Some (last_of seen bytes) },
  record { notes = notes; step = step.Sent bytes; checked = checked },
)

-- a request is answered with the USIM's note
abbrev pub answered : PeerEnd → Seen → PeerState → List ℕ → Option UsimNote → Bool → PeerEnd × Turn PeerWhy
answered p seen s bytes n checked = answered_noting p seen s bytes (noted n) checked

-- the peer refuses by Client-Error (RFC 4187 §6.3.1)
abbrev pub client : PeerEnd → Seen → PeerWhy → Option UsimNote → Bool → PeerEnd × Turn PeerWhy
client p seen cause n checked = answered p seen (state.Refusing cause) (packet_text (client_error p.options.method (id_of seen))) n checked

-- the peer refuses by Authentication-Reject (RFC 4187 §6.3.1)
abbrev pub rejected : PeerEnd → Seen → PeerWhy → Option UsimNote → PeerEnd × Turn PeerWhy
rejected p seen cause n = answered p seen (state.Refusing cause) (packet_text (reject p.options.method (id_of seen))) n false

-- ---- rows that ask no USIM

-- the last answer is sent again (RFC 3748 §4.1)
abbrev pub again : PeerEnd → PeerEnd × Turn PeerWhy
again p = (p, record { notes = noted None; step = step.Sent (answer_or_none p.last); checked = false })

abbrev pub with_identity : PeerEnd → List ℕ → PeerEnd
with_identity p text = record p { identity = Some text }

-- the first identity is sent (RFC 4187 §4.1)
abbrev pub first : PeerEnd → Seen → List ℕ → PeerEnd × Turn PeerWhy
first p seen text =
    answered (with_identity p text) seen state.Waiting (packet_text (identity_response (id_of seen) text)) None false

-- an AKA-Identity packet is counted for AT_CHECKCODE, and so is the answer to it (RFC 4187 §10.13)
abbrev pub counting : PeerEnd → Seen → List ℕ → PeerEnd
counting p seen bytes = record p { packets = counted bytes (counted (packet_in seen.bytes) p.packets) }

-- an identity is sent within the method (RFC 4187 §4.1.4)
abbrev pub identified : PeerEnd → Seen → List ℕ → PeerEnd × Turn PeerWhy
identified p seen text =
    answered (counting (with_identity p text) seen (packet_text (identity_message p.options.method (id_of seen) text))) seen state.Waiting
    (packet_text (identity_message p.options.method (id_of seen) text)) None false

-- the value of AT_CHECKCODE for the AKA-Identity packets that the peer has counted
abbrev pub own_code : PeerEnd → List ℕ
own_code p = value_bytes (checkcode_of p.options.method p.packets)

-- a notification of failure is answered (RFC 4187 §6.1)
abbrev pub notify : PeerEnd → Seen → ℕ → PeerEnd × Turn PeerWhy
notify p seen code =
    answered p seen (state.Refusing (why.Notified code)) (packet_text (notified p.options.method (id_of seen))) None false

-- ---- a Challenge, as the USIM answers

-- the name of the network that a Challenge is of, which goes into its keys (RFC 9048 §3.1 and §3.3); EAP-AKA has none
abbrev pub network_of : Method → List Attr → List ℕ
network_of method.Aka list = []
network_of method.Prime list = name_in list

-- the keys of a challenge of a network under an identity, from the USIM's IK and CK (RFC 4187 §7, RFC 9048 §3.3)
abbrev pub keys_for : Method → List ℕ → Challenge → List ℕ → List ℕ → List ℕ → KeySet
keys_for m network c identity ik ck = keys_of m identity (ik_by m network c.autn ck ik) (ck_by m network c.autn ck ik)

-- the name of the network that a received Challenge is of
abbrev pub network_in : PeerEnd → Seen → List ℕ
network_in p seen = network_of p.options.method (attrs_in seen.reading)

-- the keys of a received Challenge: those under the identity that was sent last
abbrev pub keys_at : PeerEnd → Seen → Challenge → List ℕ → List ℕ → KeySet
keys_at p seen c ik ck = keys_for p.options.method (network_in p seen) c (text_or_none p.identity) ik ck

-- the master key of a received Challenge, from which the keys of later re-authentications are derived
abbrev pub master_at : PeerEnd → Seen → Challenge → List ℕ → List ℕ → Master
master_at p seen c ik ck =
    let m = p.options.method in
    master_of m (text_or_none p.identity) (ik_by m (network_in p seen) c.autn ck ik) (ck_by m (network_in p seen) c.autn ck ik)

abbrev pub accepting : PeerEnd → Seen → Challenge → PeerEnd
accepting p seen c = record p { source = source.Challenge c (network_in p seen) }

-- what was decrypted
abbrev pub with_inner : PeerEnd → Decrypted → PeerEnd
with_inner p inner = record p { inner = inner }

-- what becomes of the device's context at Success
abbrev pub with_next : PeerEnd → NextContext → PeerEnd
with_next p following = record p { next = following }

-- an SQN of 6 bytes as a number
abbrev pub origin_of : List ℕ → ℕ
origin_of sqn = from_be_bytes w64 (0 ∷ 0 ∷ sqn)

-- the context that a Challenge leaves if it gives the next identity: the counters from 1 on are open (RFC 4187 §5.1)
abbrev pub context_from : KeySet → Master → List ℕ → Option (List ℕ) → NextContext
context_from keys m sqn None = next.Same
context_from keys m sqn (Some identity) = next.New (record {
  origin = origin_of sqn;
  identity = identity;
  k_encr = keys.k_encr;
  k_aut = keys.k_aut;
  master = m;
  counter = 1;
})

-- RES is sent, if what is encrypted decrypts to attributes
abbrev pub opened : PeerEnd → Seen → List ℕ → List ℕ → KeySet → Master → Decrypted → PeerEnd × Turn PeerWhy
opened p seen res sqn keys m decrypted.Unreadable =
    client (with_inner p decrypted.Unreadable) seen why.Undecryptable (Some (note.Accepted sqn)) true
opened p seen res sqn keys m (decrypted.Attributes given) =
    answered (with_next (with_inner p (decrypted.Attributes given)) (context_from keys m sqn given.identity)) seen (state.Answered keys)
    (response_bytes p.options.method (id_of seen) keys.k_aut res (is_there (checkcode seen)) (own_code p)) (Some (note.Accepted sqn)) true

-- AT_MAC was right, and AT_CHECKCODE is tested
abbrev pub genuine : PeerEnd → Seen → List ℕ → List ℕ → KeySet → Master → Decrypted → PeerEnd × Turn PeerWhy
genuine p seen res sqn keys m inner =
    if differs (own_code p) (checkcode seen) then client p seen why.WrongCheckcode (Some (note.Accepted sqn)) true
    else opened p seen res sqn keys m inner

-- the USIM accepted, and AT_MAC is tested
abbrev pub accepted : PeerEnd → Seen → Challenge → List ℕ → List ℕ → KeySet → Master → Decrypted → PeerEnd × Turn PeerWhy
accepted p seen c res sqn keys m inner =
    if not (is_sealed p.options.method keys.k_aut [] seen) then client p seen why.WrongMac (Some (note.Accepted sqn)) false
    else genuine (accepting p seen c) seen res sqn keys m inner

abbrev pub by_answer : PeerEnd → Seen → Challenge → Answer → Decrypted → PeerEnd × Turn PeerWhy
by_answer p seen c answer.WrongMac inner = rejected p seen why.WrongAutn (Some note.WrongMac)
by_answer p seen c (answer.SyncFailure auts sqn) inner =
    answered p seen state.Waiting (packet_text (sync_failure p.options.method (id_of seen) auts)) (Some (note.Sync sqn)) false
by_answer p seen c (answer.Accepted res ck ik ak amf sqn) inner =
    accepted p seen c res sqn (keys_at p seen c ik ck) (master_at p seen c ik ck) inner

abbrev pub challenged : Subscription → PeerEnd → Seen → Challenge → Option UsimNote → Decrypted → PeerEnd × Turn PeerWhy
challenged s p seen c None inner = ignored p reason.Unexpected
challenged s p seen c (Some n) inner = by_answer p seen c (answer_noted s.secret c n) inner

-- ---- a fast re-authentication (RFC 4187 §5 and §9.7)

-- a context, if an identity that was sent is the context's, up to its first `@`
abbrev pub context_named : Option (List ℕ) → Option Context → Option Context
context_named None c = None
context_named (Some text) c = if_named (username text) c

-- the device's context of the method, if the identity that the peer sent last is the context's
abbrev pub context_of : Keeps → PeerEnd → Option Context
context_of keeps p = context_named p.identity (entry p.options.method keeps.contexts)

abbrev pub resuming : PeerEnd → Context → PeerEnd
resuming p c = record p { source = source.Context c }

-- an initialisation vector was used
abbrev pub iv_used : PeerEnd → PeerEnd
iv_used p = record p { next_iv = index_after p.next_iv }

-- the response to a counter, which may be too small
abbrev pub counter_bytes : List ℕ → PeerEnd → Seen → Context → List ℕ → ℕ → Bool → List ℕ
counter_bytes key p seen c nonce counter small =
    reauth_bytes p.options.method (id_of seen) c.k_encr c.k_aut (nonce_of key p.options.session p.next_iv) nonce counter small
    (is_there (checkcode seen)) (own_code p)

abbrev pub counter_noted : CounterNote → Notes
counter_noted n = record { resync = None; number = None; resumed = None; usim = None; counter = Some n }

-- a counter was accepted: the peer has the keys of the re-authentication
abbrev pub taken : List ℕ → PeerEnd → Seen → Context → Option (List ℕ) → ℕ → List ℕ → PeerEnd × Turn PeerWhy
taken key p seen c identity counter nonce =
    answered_noting (with_next (iv_used p) (next.Renamed c.identity identity)) seen
    (state.Answered (reauth_keys_of c.k_encr c.k_aut c.master (text_or_none p.identity) counter nonce))
    (counter_bytes key p seen c nonce counter false) (counter_noted (counts.Taken counter)) true

-- a counter was too small: the peer says so, and waits for a Challenge (RFC 4187 §5.5)
abbrev pub small : List ℕ → PeerEnd → Seen → Context → ℕ → List ℕ → PeerEnd × Turn PeerWhy
small key p seen c counter nonce =
    answered_noting (iv_used p) seen state.Waiting (counter_bytes key p seen c nonce counter true) (counter_noted (counts.Small counter)) true

-- the counter is accepted if it is open
abbrev pub by_counter : List ℕ → Keeps → PeerEnd → Seen → Context → Option (List ℕ) → Option ℕ → Option (List ℕ) → PeerEnd × Turn PeerWhy
by_counter key keeps p seen c identity (Some counter) (Some nonce) =
    if is_open counter (entry p.options.method keeps.contexts) then taken key p seen c identity counter nonce
    else small key p seen c counter nonce
by_counter key keeps p seen c identity _ _ = client p seen why.Undecryptable None true

-- what is encrypted has to have AT_COUNTER and AT_NONCE_S
abbrev pub disclosed : List ℕ → Keeps → PeerEnd → Seen → Context → Decrypted → PeerEnd × Turn PeerWhy
disclosed key keeps p seen c decrypted.Unreadable = client p seen why.Undecryptable None true
disclosed key keeps p seen c (decrypted.Attributes given) = by_counter key keeps p seen c given.identity given.counter given.nonce

-- AT_MAC was right, and AT_CHECKCODE is tested
abbrev pub sound : List ℕ → Keeps → PeerEnd → Seen → Context → Decrypted → PeerEnd × Turn PeerWhy
sound key keeps p seen c inner =
    if differs (own_code p) (checkcode seen) then client p seen why.WrongCheckcode None true
    else disclosed key keeps (with_inner p inner) seen c inner

-- the peer has a context: what the message must have is looked for, and AT_MAC is tested
abbrev pub resumes : List ℕ → Keeps → PeerEnd → Seen → Context → Decrypted → PeerEnd × Turn PeerWhy
resumes key keeps p seen c inner =
    if is_missing subtype.Reauthentication true (attrs_in seen.reading) then client p seen why.Missing None false
    else if not (is_sealed p.options.method c.k_aut [] seen) then client p seen why.WrongMac None false
    else sound key keeps (resuming p c) seen c inner

abbrev pub resumed_by : List ℕ → Keeps → PeerEnd → Seen → Option Context → Decrypted → PeerEnd × Turn PeerWhy
resumed_by key keeps p seen None inner = ignored p reason.NoContext
resumed_by key keeps p seen (Some c) inner = resumes key keeps p seen c inner

-- a Reauthentication
abbrev pub reauthenticated : List ℕ → Keeps → PeerEnd → Seen → Decrypted → PeerEnd × Turn PeerWhy
reauthenticated key keeps p seen inner = resumed_by key keeps p seen (context_of keeps p) inner

-- ---- the table

-- what a row does, by the key of the random bytes, what the device keeps, the USIM's note and what was decrypted
abbrev pub peer_does : List ℕ → Subscription → Keeps → PeerEnd → Seen → Row → Option UsimNote → Decrypted → PeerEnd × Turn PeerWhy
peer_does key s keeps p seen (row.Ignore cause) n inner = ignored p cause
peer_does key s keeps p seen row.Again n inner = again p
peer_does key s keeps p seen row.First n inner = first p seen (first_text p.options.method s keeps p.options.first)
peer_does key s keeps p seen (row.Identity asked) n inner = identified p seen (asked_text p.options.method s keeps asked)
peer_does key s keeps p seen (row.Client cause) n inner = client p seen cause None false
peer_does key s keeps p seen (row.Reject cause) n inner = rejected p seen cause None
peer_does key s keeps p seen (row.Notified code) n inner = notify p seen code
peer_does key s keeps p seen (row.Challenged c) n inner = challenged s p seen c n inner
peer_does key s keeps p seen row.Reauthentication n inner = reauthenticated key keeps p seen inner
peer_does key s keeps p seen row.Success n inner = succeeded p p.state
peer_does key s keeps p seen (row.Failure cause) n inner = ended p (outcome.Failure cause)

abbrev pub peer_step : List ℕ → Subscription → Keeps → PeerEnd → Seen → Option UsimNote → Decrypted → PeerEnd × Turn PeerWhy
peer_step key s keeps p seen n inner = peer_does key s keeps p seen (peer_row p seen) n inner

-- ---- what the device keeps

-- the pseudonym that was given
abbrev pub pseudonym_given : Decrypted → Option (List ℕ)
pseudonym_given decrypted.Unreadable = None
pseudonym_given (decrypted.Attributes given) = given.pseudonym

-- names and contexts are adopted when the session ends in Success, and not before
abbrev pub taken_up : PeerState → PeerEnd → Keeps → Keeps
taken_up (state.Answered keys) p keeps = adopted p.options.method (pseudonym_given p.inner) p.next keeps
taken_up other p keeps = keeps

-- a counter came, and was accepted or not
abbrev pub counted_by : Method → ℕ → Bool → Keeps → Keeps
counted_by m counter true keeps = with_accepted m counter keeps
counted_by m counter false keeps = keeps

-- a counter that was accepted is never open again
abbrev pub counted_up : Method → Option CounterNote → Keeps → Keeps
counted_up m (Some (counts.Taken counter)) keeps = with_accepted m counter keeps
counted_up m other keeps = keeps

-- what the device keeps after a row, by the note of the counter
abbrev pub kept_by : Row → PeerEnd → Option CounterNote → Keeps → Keeps
kept_by row.Success p n keeps = taken_up p.state p keeps
kept_by row.Reauthentication p n keeps = counted_up p.options.method n keeps
kept_by other p n keeps = keeps

-- a peer gives up
abbrev pub gave_up : PeerEnd → PeerState → PeerEnd × Step PeerWhy
gave_up p state.Ended = (p, step.Ignored reason.Closed)
gave_up p other = (
  in_state p state.Ended,
  step.Ended (outcome.Failure why.GivenUp) [],
)
