-- For on_row: what a row did, along the row's name in the table.
use Rattle.std.proofs.Common.{◌≡◌, ℕ, List, Option, Some, None, Result, Ok, Err, IfOk, refl, sym, ap, ◌∙◌, subst}
use Rattle.auc_packet.specs.Head.{head_at}
use Rattle.auc_packet.specs.Received.{Seen, IsReceived}
use Rattle.auc_peer.specs.Rows.{peer_row, row_headed, row_in}
use Rattle.auc_peer.specs.Subscription.{Subscription}
use Rattle.auc_peer.specs.Table.{challenged, context_of, counted_up, kept_by, peer_does, peer_step, reauthenticated, succeeded, taken_up}
use Rattle.auc_peer.specs.Turn.{AskedUsim, Decryption, Decrypts, SendsLast, Steps, asked, decryption_made, decryption_noted, decryption_resumed, inner_of}
use Rattle.auc_peer.specs.declared.decrypted.Decrypted.{Decrypted}
use Rattle.auc_peer.specs.declared.decrypted.Decrypted.TheVariants as decrypted
use Rattle.auc_peer.specs.Told.{ToldSession}
use Rattle.auc_peer.specs.declared.peer.Challenge.{Challenge}
use Rattle.auc_peer.specs.declared.peer.Last.{Last}
use Rattle.auc_peer.specs.declared.peer.PeerState.{PeerState}
use Rattle.auc_peer.specs.declared.peer.PeerState.TheVariants as state
use Rattle.auc_peer.specs.Peer.{PeerEnd}
use Rattle.auc_peer.specs.declared.rows.Row.{Row}
use Rattle.auc_peer.specs.declared.rows.Row.TheVariants as row
use Rattle.auc_vector.specs.declared.why.PeerWhy.{PeerWhy}
use Rattle.auc_reauth.specs.Device.{Keeps}
use Rattle.auc_sqn.specs.Past.{ArrayValue, Past, Remembers}
use Rattle.auc_vector.specs.declared.notes.CounterNote.{CounterNote}
use Rattle.auc_vector.specs.declared.notes.UsimNote.{UsimNote}
use Rattle.auc_vector.specs.declared.turn.Turn.{Turn}
use Rattle.auc_peer.proofs.ReauthLemmas.{reauth_asks_none}
use Rattle.auc_peer.proofs.SendLemmas.{Sends, reauth_sends, succeeded_sends}

-- a fast re-authentication
pub reauth_steps : (key : List ℕ) (s : Subscription) (keeps : Keeps) (p : PeerEnd) (seen : Seen) (bytes : List ℕ) (before : ArrayValue) (new : PeerEnd) (turn : Turn PeerWhy) (kept : Keeps)
    → IsReceived seen → seen.bytes ≡ bytes → row.Reauthentication ≡ peer_row p seen
    → ◌≡◌ {A = PeerEnd × Turn PeerWhy} (new, turn) (reauthenticated key keeps p seen new.inner)
    → Decrypts (decryption_resumed p seen (context_of keeps p)) new.inner
    → kept ≡ counted_up p.options.method turn.notes.counter keeps
    → Steps key s keeps p bytes before new turn kept before
reauth_steps key s keeps p seen bytes before new turn kept is of e step decrypts stored =
    let silent : turn.notes.usim ≡ None = ap (λ (t : PeerEnd × Turn PeerWhy). t.1.notes.usim) step ∙ reauth_asks_none key keeps p seen new.inner in record {
      seen = seen;
      received = is;
      of = of;
      same = λ past remembers. subst (λ (r : Row). ◌≡◌ {A = PeerEnd × Turn PeerWhy} (new, turn) (peer_does key s keeps p seen r turn.notes.usim (inner_of new))) e step;
      usim = subst (λ (r : Row). AskedUsim s (asked r) turn.notes.usim before before) e (silent, refl);
      decrypts = λ past remembers. subst (λ (r : Row). Decrypts (decryption_made s keeps p seen r turn.notes.usim) (inner_of new)) e decrypts;
      sent = subst Sends (sym step) (reauth_sends key keeps p seen new.inner);
      stored = subst (λ (r : Row). kept ≡ kept_by r p turn.notes.counter keeps) e stored;
    }

-- the same of a call that may find no memory, and leaves the USIM as it was
pub reauth_returns : {E : Type 0} (key : List ℕ) (s : Subscription) (keeps : Keeps) (p : PeerEnd) (seen : Seen) (bytes : List ℕ) (before after : ArrayValue) (new : PeerEnd) (kept : Keeps) (result : Result (Turn PeerWhy) E)
    → IsReceived seen → seen.bytes ≡ bytes → row.Reauthentication ≡ peer_row p seen → after ≡ before
    → IfOk result (λ turn. ◌≡◌ {A = PeerEnd × Turn PeerWhy} (new, turn) (reauthenticated key keeps p seen new.inner))
    → IfOk result (λ turn. Decrypts (decryption_resumed p seen (context_of keeps p)) new.inner)
    → IfOk result (λ turn. kept ≡ counted_up p.options.method turn.notes.counter keeps)
    → IfOk result (λ turn. Steps key s keeps p bytes before new turn kept after)
reauth_returns key s keeps p seen bytes before after new kept (Ok turn) is of e same step decrypts stored =
    subst (λ (array : ArrayValue). Steps key s keeps p bytes before new turn kept array) (sym same) (reauth_steps key s keeps p seen bytes before new turn kept is of e step decrypts stored)
reauth_returns key s keeps p seen bytes before after new kept (Err other) is of e same step decrypts stored = tt

-- what a row did
pub row_steps : (key : List ℕ) (s : Subscription) (keeps : Keeps) (p : PeerEnd) (seen : Seen) (r : Row) (bytes : List ℕ) (before : ArrayValue) (new : PeerEnd) (turn : Turn PeerWhy) (kept : Keeps) (after : ArrayValue)
    → IsReceived seen → seen.bytes ≡ bytes → r ≡ peer_row p seen
    → ((past : Past) → Remembers before past → ◌≡◌ {A = PeerEnd × Turn PeerWhy} (new, turn) (peer_step key s keeps p seen turn.notes.usim (inner_of new)))
    → AskedUsim s (asked r) turn.notes.usim before after
    → ((past : Past) → Remembers before past → Decrypts (decryption_made s keeps p seen r turn.notes.usim) (inner_of new))
    → SendsLast new.last turn.step
    → kept ≡ kept_by r p turn.notes.counter keeps
    → Steps key s keeps p bytes before new turn kept after
row_steps key s keeps p seen r bytes before new turn kept after is of e step usim decrypts sent stored = record {
  seen = seen;
  received = is;
  of = of;
  same = step;
  usim = subst (λ (x : Row). AskedUsim s (asked x) turn.notes.usim before after) e usim;
  decrypts = λ past remembers. subst (λ (x : Row). Decrypts (decryption_made s keeps p seen x turn.notes.usim) (inner_of new)) e (decrypts past remembers);
  sent = sent;
  stored = subst (λ (x : Row). kept ≡ kept_by x p turn.notes.counter keeps) e stored;
}

-- a row that asks no USIM, decrypts nothing and leaves what the device keeps
abbrev IsQuiet : Row → Type 0
IsQuiet (row.Challenged c) = ⊥
IsQuiet row.Reauthentication = ⊥
IsQuiet row.Success = ⊥
IsQuiet other = Unit {0}

-- what such a row does, whatever the notes and what was decrypted
quiet : (key : List ℕ) (s : Subscription) (keeps : Keeps) (p : PeerEnd) (seen : Seen) (r : Row) (n : Option UsimNote) (m : Option CounterNote) (inner : Decrypted) → IsQuiet r
    → (peer_does key s keeps p seen r None decrypted.Unreadable ≡ peer_does key s keeps p seen r n inner) × (asked r ≡ None) × (decryption_made s keeps p seen r n ≡ None)
    × (kept_by r p m keeps ≡ keeps) × ((peer_does key s keeps p seen r None decrypted.Unreadable).1.notes.usim ≡ None)
quiet key s keeps p seen (row.Ignore cause) n m inner is = (refl, refl, refl, refl, refl)
quiet key s keeps p seen row.Again n m inner is = (refl, refl, refl, refl, refl)
quiet key s keeps p seen row.First n m inner is = (refl, refl, refl, refl, refl)
quiet key s keeps p seen (row.Identity request) n m inner is = (refl, refl, refl, refl, refl)
quiet key s keeps p seen (row.Client cause) n m inner is = (refl, refl, refl, refl, refl)
quiet key s keeps p seen (row.Reject cause) n m inner is = (refl, refl, refl, refl, refl)
quiet key s keeps p seen (row.Notified code) n m inner is = (refl, refl, refl, refl, refl)
quiet key s keeps p seen (row.Challenged c) n m inner is = absurd is
quiet key s keeps p seen row.Reauthentication n m inner is = absurd is
quiet key s keeps p seen row.Success n m inner is = absurd is
quiet key s keeps p seen (row.Failure cause) n m inner is = (refl, refl, refl, refl, refl)

-- such a row sends what the peer keeps
quiet_sends : (key : List ℕ) (s : Subscription) (keeps : Keeps) (p : PeerEnd) (seen : Seen) (r : Row) → IsQuiet r → Sends (peer_does key s keeps p seen r None decrypted.Unreadable)
quiet_sends key s keeps p seen (row.Ignore cause) is = tt
quiet_sends key s keeps p seen row.Again is = refl
quiet_sends key s keeps p seen row.First is = refl
quiet_sends key s keeps p seen (row.Identity request) is = refl
quiet_sends key s keeps p seen (row.Client cause) is = refl
quiet_sends key s keeps p seen (row.Reject cause) is = refl
quiet_sends key s keeps p seen (row.Notified code) is = refl
quiet_sends key s keeps p seen (row.Challenged c) is = absurd is
quiet_sends key s keeps p seen row.Reauthentication is = absurd is
quiet_sends key s keeps p seen row.Success is = absurd is
quiet_sends key s keeps p seen (row.Failure cause) is = refl

-- a quiet row
pub quiet_steps : (key : List ℕ) (s : Subscription) (keeps : Keeps) (p : PeerEnd) (seen : Seen) (r : Row) (before : ArrayValue) (new : PeerEnd) (turn : Turn PeerWhy) → IsQuiet r
    → IsReceived seen → r ≡ peer_row p seen → ◌≡◌ {A = PeerEnd × Turn PeerWhy} (new, turn) (peer_does key s keeps p seen r None decrypted.Unreadable)
    → Steps key s keeps p seen.bytes before new turn keeps before
quiet_steps key s keeps p seen r before new turn q is e step =
    let facts = quiet key s keeps p seen r turn.notes.usim turn.notes.counter (inner_of new) q in
    let silent : turn.notes.usim ≡ None = ap (λ (t : PeerEnd × Turn PeerWhy). t.1.notes.usim) step ∙ facts.4 in
    row_steps key s keeps p seen r seen.bytes before new turn keeps before is refl e
    (λ past remembers. subst (λ (x : Row). ◌≡◌ {A = PeerEnd × Turn PeerWhy} (new, turn) (peer_does key s keeps p seen x turn.notes.usim (inner_of new))) e (step ∙ facts.0))
    (subst (λ (o : Option Challenge). AskedUsim s o turn.notes.usim before before) (sym facts.1) (silent, refl))
    (λ past remembers. subst (λ (o : Option Decryption). Decrypts o (inner_of new)) (sym facts.2) tt)
    (subst Sends (sym step) (quiet_sends key s keeps p seen r q)) (sym facts.3)

-- the same of a call that may find no memory
pub quiet_returns : {E : Type 0} (key : List ℕ) (s : Subscription) (keeps : Keeps) (p : PeerEnd) (seen : Seen) (r : Row) (before : ArrayValue) (new : PeerEnd) (result : Result (Turn PeerWhy) E) → IsQuiet r
    → IsReceived seen → r ≡ peer_row p seen → IfOk result (λ turn. ◌≡◌ {A = PeerEnd × Turn PeerWhy} (new, turn) (peer_does key s keeps p seen r None decrypted.Unreadable))
    → IfOk result (λ turn. Steps key s keeps p seen.bytes before new turn keeps before)
quiet_returns key s keeps p seen r before new (Ok turn) q is e step = quiet_steps key s keeps p seen r before new turn q is e step
quiet_returns key s keeps p seen r before new (Err other) q is e step = tt

-- Success
pub success_steps : (key : List ℕ) (s : Subscription) (keeps : Keeps) (p : PeerEnd) (seen : Seen) (before after : ArrayValue) (new : PeerEnd) (turn : Turn PeerWhy) (kept : Keeps)
    → IsReceived seen → row.Success ≡ peer_row p seen → after ≡ before → ◌≡◌ {A = PeerEnd × Turn PeerWhy} (new, turn) (succeeded p p.state) → turn.notes.usim ≡ None → kept ≡ taken_up p.state p keeps
    → Steps key s keeps p seen.bytes before new turn kept after
success_steps key s keeps p seen before after new turn kept is e same step silent stored =
    row_steps key s keeps p seen row.Success seen.bytes before new turn kept after is refl e
    (λ past remembers. subst (λ (x : Row). ◌≡◌ {A = PeerEnd × Turn PeerWhy} (new, turn) (peer_does key s keeps p seen x turn.notes.usim (inner_of new))) e step)
    (silent, same) (λ past remembers. tt) (subst Sends (sym step) (succeeded_sends p p.state)) stored

-- a Challenge that was handed to the USIM, unless memory ran out
pub challenged_returns : {E : Type 0} (key : List ℕ) (s : Subscription) (keeps : Keeps) (p : PeerEnd) (seen : Seen) (c : Challenge) (before after : ArrayValue) (new : PeerEnd) (kept : Keeps) (result : Result (Turn PeerWhy) E)
    → IsReceived seen → row.Challenged c ≡ peer_row p seen → kept ≡ keeps
    → IfOk result (λ turn. (past : Past) → Remembers before past → ◌≡◌ {A = PeerEnd × Turn PeerWhy} (new, turn) (challenged s p seen c turn.notes.usim (inner_of new)))
    → IfOk result (λ turn. AskedUsim s (Some c) turn.notes.usim before after)
    → IfOk result (λ turn. (past : Past) → Remembers before past → Decrypts (decryption_noted s p seen (Some c) turn.notes.usim) (inner_of new))
    → IfOk result (λ turn. SendsLast new.last turn.step)
    → IfOk result (λ turn. Steps key s keeps p seen.bytes before new turn kept after)
challenged_returns key s keeps p seen c before after new kept (Ok turn) is e same step usim decrypts sent =
    row_steps key s keeps p seen (row.Challenged c) seen.bytes before new turn kept after is refl e
    (λ past remembers. subst (λ (x : Row). ◌≡◌ {A = PeerEnd × Turn PeerWhy} (new, turn) (peer_does key s keeps p seen x turn.notes.usim (inner_of new))) e (step past remembers))
    usim decrypts sent same
challenged_returns key s keeps p seen c before after new kept (Err other) is e same step usim decrypts sent = tt

-- the row of a session that hasn't ended
pub not_ended : (o : ToldSession) (s : PeerState) (last : Option Last) (seen : Seen) → (s ≡ state.Ended → ⊥) → row_in o s last seen ≡ row_headed o s last seen (head_at seen.bytes)
not_ended o state.Waiting last seen going = refl
not_ended o (state.Answered keys) last seen going = refl
not_ended o (state.Refusing cause) last seen going = refl
not_ended o state.Ended last seen going = absurd (going refl)
