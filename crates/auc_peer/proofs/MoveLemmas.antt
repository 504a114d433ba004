-- What a turn does to the inputs of a peer's keys.
use Rattle.std.proofs.Common.{◌≡◌, ◌⊎◌, ℕ, ◌==◌, ◌||◌, ◌&&◌, nat_le, nat_lt, Bool, true, false, cond, not, List, [], Option, Some, None, refl, ap, ◌∙◌, inl, inr}
use Rattle.auc_hmac.specs.declared.keys.KeySet.{KeySet}
use Rattle.auc_hmac.specs.declared.keys.Master.{Master}
use Rattle.auc_hmac.specs.declared.method.Method.{Method}
use Rattle.auc_packet.specs.Head.{head_at}
use Rattle.auc_packet.specs.Messages.{is_malformed}
use Rattle.auc_packet.specs.Packet.{method_type}
use Rattle.auc_packet.specs.Received.{Seen, is_sealed}
use Rattle.auc_packet.specs.declared.packet.Head.{Head}
use Rattle.auc_packet.specs.declared.packet.Packet.TheVariants as packet
use Rattle.auc_packet.specs.declared.received.Reading.{Reading}
use Rattle.auc_packet.specs.declared.received.Reading.TheVariants as reading
use Rattle.auc_packet.specs.declared.subtype.Subtype.TheVariants as subtype
use Rattle.auc_request.specs.Request.{first_code}
use Rattle.auc_peer.specs.Asking.{answer_noted}
use Rattle.auc_peer.specs.Attributes.{checkcode}
use Rattle.auc_peer.specs.Laws.{EachTurnMoves}
use Rattle.auc_peer.specs.Rows.{is_last, late, notified_or, of_kind, on_failure, on_success, peer_row, repeats, requested, row_headed, row_in}
use Rattle.auc_peer.specs.Subscription.{Subscription}
use Rattle.auc_peer.specs.Table.{accepted, accepting, by_answer, challenged, client, genuine, keys_at, master_at, opened, own_code, peer_does, reauthenticated, succeeded, with_inner}
use Rattle.auc_peer.specs.declared.decrypted.Decrypted.{Decrypted}
use Rattle.auc_peer.specs.declared.decrypted.Decrypted.TheVariants as decrypted
use Rattle.auc_reauth.specs.Device.{Keeps}
use Rattle.auc_peer.specs.declared.peer.Challenge.{Challenge}
use Rattle.auc_peer.specs.declared.peer.Last.{Last}
use Rattle.auc_peer.specs.Peer.{PeerEnd}
use Rattle.auc_peer.specs.declared.peer.PeerState.{PeerState}
use Rattle.auc_peer.specs.declared.peer.PeerState.TheVariants as state
use Rattle.auc_peer.specs.declared.rows.Row.{Row}
use Rattle.auc_peer.specs.declared.rows.Row.TheVariants as row
use Rattle.auc_seal.specs.Checkcode.{differs}
use Rattle.auc_vector.specs.declared.why.PeerWhy.{PeerWhy}
use Rattle.auc_vector.specs.declared.why.PeerWhy.TheVariants as why
use Rattle.auc_usim.specs.declared.answer.Answer.{Answer}
use Rattle.auc_usim.specs.declared.answer.Answer.TheVariants as answer
use Rattle.auc_vector.specs.declared.notes.UsimNote.{UsimNote}
use Rattle.auc_vector.specs.declared.notes.UsimNote.TheVariants as note
use Rattle.auc_vector.specs.declared.turn.Outcome.TheVariants as outcome
use Rattle.auc_vector.specs.declared.turn.Reason.TheVariants as reason
use Rattle.auc_vector.specs.declared.turn.Step.TheVariants as step
use Rattle.auc_vector.specs.declared.turn.Turn.{Turn}
use Rattle.auc_peer.proofs.LawLemmas.{challenged_none, reauth_none, row_success}
use Rattle.auc_peer.proofs.OptionLemmas.{on_cond, row_options}
use Rattle.auc_peer.proofs.ReauthLemmas.{on_reauth}

-- ---- which rows are a waiting peer's

-- an identity is sent, a challenge taken and a context resumed by a waiting peer
abbrev pub Waits : PeerEnd → Row → Type 0
Waits p row.First = p.state ≡ state.Waiting
Waits p (row.Identity asked) = p.state ≡ state.Waiting
Waits p (row.Challenged c) = p.state ≡ state.Waiting
Waits p row.Reauthentication = p.state ≡ state.Waiting
Waits p other = Unit {0}

picked : (P : Row → Type 0) (b : Bool) (x y : Row) → P x → P y → P (cond b x y)
picked P true x y f g = f
picked P false x y f g = g

any_waits : (p : PeerEnd) (r : Row) → p.state ≡ state.Waiting → Waits p r
any_waits p row.First e = e
any_waits p (row.Identity asked) e = e
any_waits p (row.Challenged c) e = e
any_waits p row.Reauthentication e = e
any_waits p (row.Ignore cause) e = tt
any_waits p row.Again e = tt
any_waits p (row.Client cause) e = tt
any_waits p (row.Reject cause) e = tt
any_waits p (row.Notified code) e = tt
any_waits p row.Success e = tt
any_waits p (row.Failure cause) e = tt

late_waits : (p : PeerEnd) (own : Method) (r : Reading) → Waits p (late own r)
late_waits p own (reading.Read (packet.Aka request id m subtype.Notification list)) =
    picked (Waits p) (is_malformed subtype.Notification true own list) (row.Ignore reason.Unexpected) (notified_or (row.Ignore reason.Unexpected) (first_code list)) tt (by (first_code list))
  where
    by : (code : Option ℕ) → Waits p (notified_or (row.Ignore reason.Unexpected) code)
    by None = tt
    by (Some code) = picked (Waits p) (nat_le 16384 code && nat_lt code 32768) (row.Notified code) (row.Ignore reason.Unexpected) tt tt
late_waits p own (reading.Read (packet.Aka request id m subtype.Challenge list)) = tt
late_waits p own (reading.Read (packet.Aka request id m subtype.AuthenticationReject list)) = tt
late_waits p own (reading.Read (packet.Aka request id m subtype.SynchronizationFailure list)) = tt
late_waits p own (reading.Read (packet.Aka request id m subtype.Identity list)) = tt
late_waits p own (reading.Read (packet.Aka request id m subtype.Reauthentication list)) = tt
late_waits p own (reading.Read (packet.Aka request id m subtype.ClientError list)) = tt
late_waits p own (reading.Read (packet.Identity request id text)) = tt
late_waits p own (reading.Read (packet.Success id)) = tt
late_waits p own (reading.Read (packet.Failure id)) = tt
late_waits p own (reading.Fault fault) = tt

requested_waits : (p : PeerEnd) (s : PeerState) (r : Reading) → p.state ≡ s → Waits p (requested p.options s r)
requested_waits p state.Waiting r e = any_waits p (requested p.options state.Waiting r) e
requested_waits p (state.Answered keys) r e = late_waits p p.options.method r
requested_waits p (state.Refusing cause) r e = tt
requested_waits p state.Ended r e = tt

success_waits : (p : PeerEnd) (s : PeerState) → Waits p (on_success s)
success_waits p (state.Answered keys) = tt
success_waits p state.Waiting = tt
success_waits p (state.Refusing cause) = tt
success_waits p state.Ended = tt

failure_waits : (p : PeerEnd) (s : PeerState) → Waits p (on_failure s)
failure_waits p (state.Answered keys) = tt
failure_waits p state.Waiting = tt
failure_waits p (state.Refusing cause) = tt
failure_waits p state.Ended = tt

kind_waits : (p : PeerEnd) (s : PeerState) (last : Option Last) (seen : Seen) (head : Head) (kind : Option ℕ) → p.state ≡ s → Waits p (of_kind p.options s last seen head kind)
kind_waits p s last seen head None e =
    picked (Waits p) (not (is_last last head.id)) (row.Ignore reason.Unexpected) (cond (head.code == 3) (on_success s) (on_failure s)) tt
    (picked (Waits p) (head.code == 3) (on_success s) (on_failure s) (success_waits p s) (failure_waits p s))
kind_waits p s last seen head (Some kind) e =
    picked (Waits p) (not (kind == 1 || kind == method_type p.options.method)) (row.Ignore reason.OtherType) (requested p.options s seen.reading) tt (requested_waits p s seen.reading e)

headed_waits : (p : PeerEnd) (s : PeerState) (last : Option Last) (seen : Seen) (head : Option Head) → p.state ≡ s → Waits p (row_headed p.options s last seen head)
headed_waits p s last seen None e = tt
headed_waits p s last seen (Some head) e =
    picked (Waits p) (head.code == 2) (row.Ignore reason.NotForMe) (cond (repeats last seen.bytes) row.Again (of_kind p.options s last seen head head.kind)) tt
    (picked (Waits p) (repeats last seen.bytes) row.Again (of_kind p.options s last seen head head.kind) tt (kind_waits p s last seen head head.kind e))

pub in_waits : (p : PeerEnd) (s : PeerState) (last : Option Last) (seen : Seen) → p.state ≡ s → Waits p (row_in p.options s last seen)
in_waits p state.Ended last seen e = tt
in_waits p state.Waiting last seen e = headed_waits p state.Waiting last seen (head_at seen.bytes) e
in_waits p (state.Answered keys) last seen e = headed_waits p (state.Answered keys) last seen (head_at seen.bytes) e
in_waits p (state.Refusing cause) last seen e = headed_waits p (state.Refusing cause) last seen (head_at seen.bytes) e

-- ---- what a turn keeps

abbrev Stays : PeerEnd → PeerEnd × Turn PeerWhy → Type 0
Stays p t = (p.state ≡ state.Waiting) ⊎ ((t.0.source ≡ p.source) × (t.0.identity ≡ p.identity))

succeeded_keeps : (p : PeerEnd) (s : PeerState) → Stays p (succeeded p s)
succeeded_keeps p (state.Answered keys) = inr (refl, refl)
succeeded_keeps p state.Waiting = inr (refl, refl)
succeeded_keeps p (state.Refusing cause) = inr (refl, refl)
succeeded_keeps p state.Ended = inr (refl, refl)

row_keeps : (key : List ℕ) (s : Subscription) (keeps : Keeps) (p : PeerEnd) (seen : Seen) (r : Row) (n : Option UsimNote) (inner : Decrypted) → Waits p r → Stays p (peer_does key s keeps p seen r n inner)
row_keeps key s keeps p seen (row.Ignore cause) n inner w = inr (refl, refl)
row_keeps key s keeps p seen row.Again n inner w = inr (refl, refl)
row_keeps key s keeps p seen row.First n inner w = inl w
row_keeps key s keeps p seen (row.Identity asked) n inner w = inl w
row_keeps key s keeps p seen (row.Client cause) n inner w = inr (refl, refl)
row_keeps key s keeps p seen (row.Reject cause) n inner w = inr (refl, refl)
row_keeps key s keeps p seen (row.Notified code) n inner w = inr (refl, refl)
row_keeps key s keeps p seen (row.Challenged c) n inner w = inl w
row_keeps key s keeps p seen row.Reauthentication n inner w = inl w
row_keeps key s keeps p seen row.Success n inner w = succeeded_keeps p p.state
row_keeps key s keeps p seen (row.Failure cause) n inner w = inr (refl, refl)

-- so does what was decrypted
abbrev KeepsInner : PeerEnd → PeerEnd × Turn PeerWhy → Type 0
KeepsInner p t = (p.state ≡ state.Waiting) ⊎ (t.0.inner ≡ p.inner)

succeeded_inner : (p : PeerEnd) (s : PeerState) → KeepsInner p (succeeded p s)
succeeded_inner p (state.Answered keys) = inr refl
succeeded_inner p state.Waiting = inr refl
succeeded_inner p (state.Refusing cause) = inr refl
succeeded_inner p state.Ended = inr refl

row_inner : (key : List ℕ) (s : Subscription) (keeps : Keeps) (p : PeerEnd) (seen : Seen) (r : Row) (n : Option UsimNote) (inner : Decrypted) → Waits p r → KeepsInner p (peer_does key s keeps p seen r n inner)
row_inner key s keeps p seen (row.Ignore cause) n inner w = inr refl
row_inner key s keeps p seen row.Again n inner w = inr refl
row_inner key s keeps p seen row.First n inner w = inr refl
row_inner key s keeps p seen (row.Identity asked) n inner w = inr refl
row_inner key s keeps p seen (row.Client cause) n inner w = inr refl
row_inner key s keeps p seen (row.Reject cause) n inner w = inr refl
row_inner key s keeps p seen (row.Notified code) n inner w = inr refl
row_inner key s keeps p seen (row.Challenged c) n inner w = inl w
row_inner key s keeps p seen row.Reauthentication n inner w = inl w
row_inner key s keeps p seen row.Success n inner w = succeeded_inner p p.state
row_inner key s keeps p seen (row.Failure cause) n inner w = inr refl

-- ---- keys come with a right AT_MAC

abbrev Checks : KeySet → PeerEnd × Turn PeerWhy → Type 0
Checks keys t = t.0.state ≡ state.Answered keys → t.1.checked ≡ true

refused : (keys : KeySet) (w : PeerWhy) → state.Refusing w ≡ state.Answered keys → ⊥
refused keys w e = cc

client_checks : (p : PeerEnd) (seen : Seen) (w : PeerWhy) (n : Option UsimNote) (checked : Bool) (keys : KeySet) → Checks keys (client p seen w n checked)
client_checks p seen w n checked keys = λ e. absurd (refused keys w e)

opened_checks : (p : PeerEnd) (seen : Seen) (res sqn : List ℕ) (k : KeySet) (m : Master) (inner : Decrypted) (keys : KeySet) → Checks keys (opened p seen res sqn k m inner)
opened_checks p seen res sqn k m (decrypted.Attributes next) keys = λ e. refl
opened_checks p seen res sqn k m decrypted.Unreadable keys = client_checks (with_inner p decrypted.Unreadable) seen why.Undecryptable (Some (note.Accepted sqn)) true keys

accepted_checks : (p : PeerEnd) (seen : Seen) (c : Challenge) (res sqn : List ℕ) (k : KeySet) (m : Master) (inner : Decrypted) (keys : KeySet) → Checks keys (accepted p seen c res sqn k m inner)
accepted_checks p seen c res sqn k m inner keys =
    on_cond (Checks keys) (not (is_sealed p.options.method k.k_aut [] seen)) (client p seen why.WrongMac (Some (note.Accepted sqn)) false) (genuine (accepting p seen c) seen res sqn k m inner)
    (client_checks p seen why.WrongMac (Some (note.Accepted sqn)) false keys)
    (on_cond (Checks keys) (differs (own_code p) (checkcode seen)) (client (accepting p seen c) seen why.WrongCheckcode (Some (note.Accepted sqn)) true) (opened (accepting p seen c) seen res sqn k m inner)
    (client_checks (accepting p seen c) seen why.WrongCheckcode (Some (note.Accepted sqn)) true keys) (opened_checks (accepting p seen c) seen res sqn k m inner keys))

answer_checks : (p : PeerEnd) (seen : Seen) (c : Challenge) (a : Answer) (inner : Decrypted) (keys : KeySet) → Checks keys (by_answer p seen c a inner)
answer_checks p seen c answer.WrongMac inner keys = λ e. absurd cc
answer_checks p seen c (answer.SyncFailure auts sqn) inner keys = λ e. absurd cc
answer_checks p seen c (answer.Accepted res ck ik ak amf sqn) inner keys = accepted_checks p seen c res sqn (keys_at p seen c ik ck) (master_at p seen c ik ck) inner keys

abbrev Right : KeySet → PeerEnd → PeerEnd × Turn PeerWhy → Type 0
Right keys p t = (p.state ≡ state.Answered keys) ⊎ (t.1.checked ≡ true)

challenged_checks : (s : Subscription) (p : PeerEnd) (seen : Seen) (c : Challenge) (n : Option UsimNote) (inner : Decrypted) (keys : KeySet)
    → (challenged s p seen c n inner).0.state ≡ state.Answered keys → Right keys p (challenged s p seen c n inner)
challenged_checks s p seen c None inner keys e = inl e
challenged_checks s p seen c (Some n) inner keys e = inr (answer_checks p seen c (answer_noted s.secret c n) inner keys e)

succeeded_checks : (p : PeerEnd) (s : PeerState) (keys : KeySet) → (succeeded p s).0.state ≡ state.Answered keys → Right keys p (succeeded p s)
succeeded_checks p (state.Answered k) keys e = absurd cc
succeeded_checks p state.Waiting keys e = inl e
succeeded_checks p (state.Refusing cause) keys e = inl e
succeeded_checks p state.Ended keys e = inl e

reauth_checks : (key : List ℕ) (keeps : Keeps) (p : PeerEnd) (seen : Seen) (inner : Decrypted) (keys : KeySet)
    → (reauthenticated key keeps p seen inner).0.state ≡ state.Answered keys → Right keys p (reauthenticated key keeps p seen inner)
reauth_checks key keeps p seen inner keys =
    on_reauth (λ t. t.0.state ≡ state.Answered keys → Right keys p t) key keeps p seen inner (λ e. inl e)
    (λ c here. record {
      missing = λ e. absurd (refused keys why.Missing e);
      wrong = λ e. absurd (refused keys why.WrongMac e);
      other = λ e. inr refl;
      hidden = λ e. inr refl;
      accepts = λ given counter nonce is e. inr refl;
      refuses = λ given counter nonce e. inr refl;
    })

row_checks : (key : List ℕ) (s : Subscription) (keeps : Keeps) (p : PeerEnd) (seen : Seen) (r : Row) (n : Option UsimNote) (inner : Decrypted) (keys : KeySet)
    → (peer_does key s keeps p seen r n inner).0.state ≡ state.Answered keys → Right keys p (peer_does key s keeps p seen r n inner)
row_checks key s keeps p seen (row.Ignore cause) n inner keys e = inl e
row_checks key s keeps p seen row.Again n inner keys e = inl e
row_checks key s keeps p seen row.First n inner keys e = absurd cc
row_checks key s keeps p seen (row.Identity asked) n inner keys e = absurd cc
row_checks key s keeps p seen (row.Client cause) n inner keys e = absurd cc
row_checks key s keeps p seen (row.Reject cause) n inner keys e = absurd (refused keys cause e)
row_checks key s keeps p seen (row.Notified code) n inner keys e = absurd cc
row_checks key s keeps p seen (row.Challenged c) n inner keys e = challenged_checks s p seen c n inner keys e
row_checks key s keeps p seen row.Reauthentication n inner keys e = reauth_checks key keeps p seen inner keys e
row_checks key s keeps p seen row.Success n inner keys e = succeeded_checks p p.state keys e
row_checks key s keeps p seen (row.Failure cause) n inner keys e = absurd cc

-- ---- the end of a session

abbrev Succeeds : KeySet → List ℕ → PeerEnd × Turn PeerWhy → Type 0
Succeeds keys bytes t = t.1.step ≡ step.Ended (outcome.Success keys) bytes

succeeded_ends : (p : PeerEnd) (s : PeerState) (keys : KeySet) (bytes : List ℕ) → Succeeds keys bytes (succeeded p s) → (succeeded p s).0.state ≡ state.Ended
succeeded_ends p (state.Answered k) keys bytes e = refl
succeeded_ends p state.Waiting keys bytes e = absurd cc
succeeded_ends p (state.Refusing cause) keys bytes e = absurd cc
succeeded_ends p state.Ended keys bytes e = absurd cc

row_ends : (key : List ℕ) (s : Subscription) (keeps : Keeps) (p : PeerEnd) (seen : Seen) (r : Row) (n : Option UsimNote) (inner : Decrypted) (keys : KeySet) (bytes : List ℕ)
    → Succeeds keys bytes (peer_does key s keeps p seen r n inner) → (peer_does key s keeps p seen r n inner).0.state ≡ state.Ended
row_ends key s keeps p seen (row.Ignore cause) n inner keys bytes e = absurd cc
row_ends key s keeps p seen row.Again n inner keys bytes e = absurd cc
row_ends key s keeps p seen row.First n inner keys bytes e = absurd cc
row_ends key s keeps p seen (row.Identity asked) n inner keys bytes e = absurd cc
row_ends key s keeps p seen (row.Client cause) n inner keys bytes e = absurd cc
row_ends key s keeps p seen (row.Reject cause) n inner keys bytes e = absurd cc
row_ends key s keeps p seen (row.Notified code) n inner keys bytes e = absurd cc
row_ends key s keeps p seen (row.Challenged c) n inner keys bytes e = absurd (challenged_none s p seen c n keys bytes inner e)
row_ends key s keeps p seen row.Reauthentication n inner keys bytes e = absurd (reauth_none key keeps p seen inner keys bytes e)
row_ends key s keeps p seen row.Success n inner keys bytes e = succeeded_ends p p.state keys bytes e
row_ends key s keeps p seen (row.Failure cause) n inner keys bytes e = refl

-- each turn
pub each_turn_moves : EachTurnMoves
each_turn_moves key s keeps p seen n inner = record {
  options = row_options key s keeps p seen (peer_row p seen) n inner;
  source = elim (row_keeps key s keeps p seen (peer_row p seen) n inner (in_waits p p.state p.last seen refl)) [ inl h ↦ inl h | inr h ↦ inr h.0 ];
  identity = elim (row_keeps key s keeps p seen (peer_row p seen) n inner (in_waits p p.state p.last seen refl)) [ inl h ↦ inl h | inr h ↦ inr h.1 ];
  inner = row_inner key s keeps p seen (peer_row p seen) n inner (in_waits p p.state p.last seen refl);
  keys = λ keys e. row_checks key s keeps p seen (peer_row p seen) n inner keys e;
  success = λ keys bytes e. (
    row_success key s keeps p seen (peer_row p seen) n inner keys bytes e,
    row_ends key s keeps p seen (peer_row p seen) n inner keys bytes e,
  );
  ended = λ e. ap (λ (st : PeerState). (peer_does key s keeps p seen (row_in p.options st p.last seen) n inner).0.state) e ∙ e;
}
