-- For plain sessions: each name that a peer is given or a device keeps, a pseudonym or the identity of a context, has at most
-- 255 bytes.
use Rattle.std.proofs.Common.{◌≡◌, ℕ, ◌==◌, leb, nat_le, ◌+◌, not, Bool, true, false, cond, List, [], length, Option, Some, None, refl, sym, subst}
use Rattle.std.specs.Prelude.{if◌then◌else◌}
use Rattle.std.specs.Str.{bytes_eq}
use Rattle.std.proofs.lemmas.Bool.{and_parts, leb-true}
use Rattle.auc_hmac.specs.declared.keys.KeySet.{KeySet}
use Rattle.auc_hmac.specs.declared.keys.Master.{Master}
use Rattle.auc_hmac.specs.declared.method.Method.{Method}
use Rattle.auc_hmac.specs.declared.method.Method.TheVariants as method
use Rattle.auc_ident.specs.Name.{is_kept}
use Rattle.auc_ident.specs.Permanent.{username}
use Rattle.auc_packet.specs.Messages.{is_missing}
use Rattle.auc_packet.specs.Received.{Seen, attrs_in, is_sealed}
use Rattle.auc_packet.specs.declared.subtype.Subtype.TheVariants as subtype
use Rattle.auc_peer.specs.Asking.{answer_noted}
use Rattle.auc_peer.specs.Attributes.{checkcode}
use Rattle.auc_peer.specs.Identities.{adopted, renamed, under, with_next_context, with_next_pseudonym}
use Rattle.auc_peer.specs.Subscription.{Subscription}
use Rattle.auc_peer.specs.Table.{accepting, by_answer, by_counter, client, context_from, context_of, counted_up, disclosed, keys_at, kept_by, master_at, opened as peer_opened, own_code, peer_does, pseudonym_given, resumed_by, resuming, small, succeeded, taken, taken_up, with_inner}
use Rattle.auc_peer.specs.Turn.{Decryption, Decrypts, decryption_by, decryption_made, decryption_resumed}
use Rattle.auc_peer.specs.declared.decrypted.Decrypted.{Decrypted}
use Rattle.auc_peer.specs.declared.decrypted.Decrypted.TheVariants as decrypted
use Rattle.auc_peer.specs.declared.next.NextContext.{NextContext}
use Rattle.auc_peer.specs.declared.next.NextContext.TheVariants as next
use Rattle.auc_peer.specs.declared.peer.Challenge.{Challenge}
use Rattle.auc_peer.specs.declared.peer.Peer.{Peer}
use Rattle.auc_peer.specs.declared.peer.PeerState.{PeerState}
use Rattle.auc_peer.specs.declared.peer.PeerState.TheVariants as state
use Rattle.auc_peer.specs.declared.rows.Row.{Row as PeerRow}
use Rattle.auc_peer.specs.declared.rows.Row.TheVariants as row
use Rattle.auc_seal.specs.Checkcode.{differs}
use Rattle.auc_vector.specs.declared.why.PeerWhy.{PeerWhy}
use Rattle.auc_vector.specs.declared.why.PeerWhy.TheVariants as why
use Rattle.auc_reauth.specs.Device.{Keeps, accepting as accepting_counter, advanced, is_open, nothing_kept, with_context, with_pseudonym}
use Rattle.auc_reauth.specs.Store.{entry, method_of}
use Rattle.auc_reauth.specs.declared.context.Context.{Context}
use Rattle.auc_request.specs.Request.{next_name}
use Rattle.auc_usim.specs.declared.answer.Answer.{Answer}
use Rattle.auc_usim.specs.declared.answer.Answer.TheVariants as answer
use Rattle.auc_vector.specs.declared.notes.CounterNote.{CounterNote}
use Rattle.auc_vector.specs.declared.notes.CounterNote.TheVariants as counts
use Rattle.auc_vector.specs.declared.notes.UsimNote.{UsimNote}
use Rattle.auc_vector.specs.declared.notes.UsimNote.TheVariants as note
use Rattle.auc_vector.specs.declared.turn.Turn.{Turn}
use Rattle.auc_world.specs.Plain.{IsContext, IsPseudonym}

-- ---- what a peer is given

-- a name that is read among attributes has at most 255 bytes
read_one : (value : Option (List ℕ)) → IsPseudonym (next_name value)
read_one None = tt
read_one (Some text) = by (is_kept (username text)) refl
  where
    by : (b : Bool) → is_kept (username text) ≡ b → IsPseudonym (if b then Some (username text) else None)
    by true is = leb-true (length (username text)) 255 (and_parts (leb 1 (length (username text))) (leb (length (username text)) 255) is).1
    by false is = tt

-- so have those of what was decrypted
abbrev pub GivesNames : Decrypted → Type 0
GivesNames decrypted.Unreadable = Unit {0}
GivesNames (decrypted.Attributes given) = IsPseudonym given.pseudonym × IsPseudonym given.identity

decrypts_names : (made : Decryption) (inner : Decrypted) → Decrypts (Some made) inner → GivesNames inner
decrypts_names made decrypted.Unreadable is = tt
decrypts_names made (decrypted.Attributes given) (bytes, opens, gives) =
    (subst IsPseudonym (sym gives.pseudonym.same) (read_one gives.pseudonym.value), subst IsPseudonym (sym gives.identity.same) (read_one gives.identity.value))

-- and that of the next context
abbrev pub IsNextNamed : NextContext → Type 0
IsNextNamed next.Same = Unit {0}
IsNextNamed (next.New c) = IsContext (Some c)
IsNextNamed (next.Renamed from to) = IsPseudonym to

-- the names of a peer
abbrev pub HasNames : Peer → Type 0
HasNames p = GivesNames p.inner × IsNextNamed p.next

-- ---- the turn of a peer

-- the peer of a turn
abbrev IsNamed : Peer × Turn PeerWhy → Type 0
IsNamed turn = HasNames turn.0

-- of three turns, of which two tests pick one
picked : (wrong other : Bool) (made : Decryption) (x y : Peer × Turn PeerWhy) (f : Decrypted → Peer × Turn PeerWhy) (inner : Decrypted)
    → Decrypts (cond wrong None (cond other None (Some made))) inner → IsNamed x → IsNamed y → (Decrypts (Some made) inner → IsNamed (f inner))
    → IsNamed (cond wrong x (cond other y (f inner)))
picked true other made x y f inner is first second third = first
picked false true made x y f inner is first second third = second
picked false false made x y f inner is first second third = third is

-- and of four, by three tests
picked_last : (missing wrong other : Bool) (made : Decryption) (w x y : Peer × Turn PeerWhy) (f : Decrypted → Peer × Turn PeerWhy) (inner : Decrypted)
    → Decrypts (cond missing None (cond wrong None (cond other None (Some made)))) inner → IsNamed w → IsNamed x → IsNamed y → (Decrypts (Some made) inner → IsNamed (f inner))
    → IsNamed (cond missing w (cond wrong x (cond other y (f inner))))
picked_last true wrong other made w x y f inner is first second third last = first
picked_last false wrong other made w x y f inner is first second third last = picked wrong other made x y f inner is second third last

from_named : (keys : KeySet) (m : Master) (sqn : List ℕ) (identity : Option (List ℕ)) → IsPseudonym identity → IsNextNamed (context_from keys m sqn identity)
from_named keys m sqn None is = tt
from_named keys m sqn (Some text) is = is

opened_named : (p : Peer) (seen : Seen) (res sqn : List ℕ) (keys : KeySet) (m : Master) (made : Decryption) (inner : Decrypted) → HasNames p → Decrypts (Some made) inner
    → IsNamed (peer_opened p seen res sqn keys m inner)
opened_named p seen res sqn keys m made decrypted.Unreadable own is = (tt, own.1)
opened_named p seen res sqn keys m made (decrypted.Attributes given) own is =
    let names = decrypts_names made (decrypted.Attributes given) is in (names, from_named keys m sqn given.identity names.1)

answer_named : (p : Peer) (seen : Seen) (c : Challenge) (a : Answer) (inner : Decrypted) → HasNames p → Decrypts (decryption_by p seen c a) inner → IsNamed (by_answer p seen c a inner)
answer_named p seen c answer.WrongMac inner own is = own
answer_named p seen c (answer.SyncFailure auts sqn) inner own is = own
answer_named p seen c (answer.Accepted res ck ik ak amf sqn) inner own is =
    let keys = keys_at p seen c ik ck in
    let made : Decryption = record { k_encr = keys.k_encr; list = attrs_in seen.reading } in
    picked (not (is_sealed p.options.method keys.k_aut [] seen)) (differs (own_code p) (checkcode seen)) made (client p seen why.WrongMac (Some (note.Accepted sqn)) false)
    (client (accepting p seen c) seen why.WrongCheckcode (Some (note.Accepted sqn)) true) (λ (d : Decrypted). peer_opened (accepting p seen c) seen res sqn keys (master_at p seen c ik ck) d) inner is own own
    (opened_named (accepting p seen c) seen res sqn keys (master_at p seen c ik ck) made inner own)

succeeded_named : (p : Peer) (s : PeerState) → HasNames p → IsNamed (succeeded p s)
succeeded_named p (state.Answered keys) own = own
succeeded_named p state.Waiting own = own
succeeded_named p (state.Refusing cause) own = own
succeeded_named p state.Ended own = own

-- a counter that is accepted renames the context
counter_named : (key : List ℕ) (keeps : Keeps) (p : Peer) (seen : Seen) (c : Context) (identity : Option (List ℕ)) (counter : Option ℕ) (nonce : Option (List ℕ)) → HasNames p → IsPseudonym identity
    → IsNamed (by_counter key keeps p seen c identity counter nonce)
counter_named key keeps p seen c identity (Some counter) (Some nonce) own is = by (is_open counter (entry p.options.method keeps.contexts))
  where
    by : (b : Bool) → IsNamed (if b then taken key p seen c identity counter nonce else small key p seen c counter nonce)
    by true = (own.0, is)
    by false = own
counter_named key keeps p seen c identity (Some counter) None own is = own
counter_named key keeps p seen c identity None (Some nonce) own is = own
counter_named key keeps p seen c identity None None own is = own

disclosed_named : (key : List ℕ) (keeps : Keeps) (p : Peer) (seen : Seen) (c : Context) (made : Decryption) (inner : Decrypted) → HasNames p → Decrypts (Some made) inner
    → IsNamed (disclosed key keeps (with_inner p inner) seen c inner)
disclosed_named key keeps p seen c made decrypted.Unreadable own is = (tt, own.1)
disclosed_named key keeps p seen c made (decrypted.Attributes given) own is =
    let names = decrypts_names made (decrypted.Attributes given) is in
    counter_named key keeps (with_inner p (decrypted.Attributes given)) seen c given.identity given.counter given.nonce (names, own.1) names.1

resumed_named : (key : List ℕ) (keeps : Keeps) (p : Peer) (seen : Seen) (o : Option Context) (inner : Decrypted) → HasNames p → Decrypts (decryption_resumed p seen o) inner
    → IsNamed (resumed_by key keeps p seen o inner)
resumed_named key keeps p seen None inner own is = own
resumed_named key keeps p seen (Some c) inner own is =
    let made : Decryption = record { k_encr = c.k_encr; list = attrs_in seen.reading } in
    picked_last (is_missing subtype.Reauthentication true (attrs_in seen.reading)) (not (is_sealed p.options.method c.k_aut [] seen)) (differs (own_code p) (checkcode seen)) made
    (client p seen why.Missing None false) (client p seen why.WrongMac None false) (client (resuming p c) seen why.WrongCheckcode None true)
    (λ (d : Decrypted). disclosed key keeps (with_inner (resuming p c) d) seen c d) inner is own own own (disclosed_named key keeps (resuming p c) seen c made inner own)

-- a turn leaves the peer's names, or takes those that were decrypted
pub row_named : (key : List ℕ) (s : Subscription) (keeps : Keeps) (p : Peer) (seen : Seen) (r : PeerRow) (n : Option UsimNote) (inner : Decrypted) → HasNames p
    → Decrypts (decryption_made s keeps p seen r n) inner → IsNamed (peer_does key s keeps p seen r n inner)
row_named key s keeps p seen (row.Ignore cause) n inner own is = own
row_named key s keeps p seen row.Again n inner own is = own
row_named key s keeps p seen row.First n inner own is = own
row_named key s keeps p seen (row.Identity kind) n inner own is = own
row_named key s keeps p seen (row.Client cause) n inner own is = own
row_named key s keeps p seen (row.Reject cause) n inner own is = own
row_named key s keeps p seen (row.Notified code) n inner own is = own
row_named key s keeps p seen (row.Challenged c) None inner own is = own
row_named key s keeps p seen (row.Challenged c) (Some n) inner own is = answer_named p seen c (answer_noted s.secret c n) inner own is
row_named key s keeps p seen row.Reauthentication n inner own is = resumed_named key keeps p seen (context_of keeps p) inner own is
row_named key s keeps p seen row.Success n inner own is = succeeded_named p p.state own
row_named key s keeps p seen (row.Failure cause) n inner own is = own

-- ---- what a device keeps

-- each pseudonym of a device has at most 255 bytes, and so has the identity of each context
abbrev pub AreNames : Keeps → Type 0
AreNames keeps = (m : Method) → IsPseudonym (entry m keeps.pseudonyms) × IsContext (entry m keeps.contexts)

pub nothing_named : AreNames nothing_kept
nothing_named method.Aka = (tt, tt)
nothing_named method.Prime = (tt, tt)

pseudonym_named : (m : Method) (text : List ℕ) (keeps : Keeps) → IsPseudonym (Some text) → AreNames keeps → AreNames (with_pseudonym m text keeps)
pseudonym_named method.Aka text keeps is all method.Aka = (is, (all method.Aka).1)
pseudonym_named method.Aka text keeps is all method.Prime = all method.Prime
pseudonym_named method.Prime text keeps is all method.Aka = all method.Aka
pseudonym_named method.Prime text keeps is all method.Prime = (is, (all method.Prime).1)

context_named : (m : Method) (o : Option Context) (keeps : Keeps) → IsContext o → AreNames keeps → AreNames (with_context m o keeps)
context_named method.Aka o keeps is all method.Aka = ((all method.Aka).0, is)
context_named method.Aka o keeps is all method.Prime = all method.Prime
context_named method.Prime o keeps is all method.Aka = all method.Aka
context_named method.Prime o keeps is all method.Prime = ((all method.Prime).0, is)

next_pseudonym_named : (m : Method) (o : Option (List ℕ)) (keeps : Keeps) → IsPseudonym o → AreNames keeps → AreNames (with_next_pseudonym m o keeps)
next_pseudonym_named m None keeps is all = all
next_pseudonym_named m (Some text) keeps is all = pseudonym_named m text keeps is all

under_named : (to : Option (List ℕ)) (c : Context) → IsPseudonym to → IsContext (under to c)
under_named None c is = tt
under_named (Some text) c is = is

renamed_named : (m : Method) (from : List ℕ) (to : Option (List ℕ)) (o : Option Context) (keeps : Keeps) → IsPseudonym to → AreNames keeps → AreNames (renamed m from to o keeps)
renamed_named m from to None keeps is all = all
renamed_named m from to (Some c) keeps is all = by (bytes_eq c.identity from)
  where
    by : (b : Bool) → AreNames (if b then with_context m (under to c) keeps else keeps)
    by true = context_named m (under to c) keeps (under_named to c is) all
    by false = all

next_context_named : (m : Method) (following : NextContext) (keeps : Keeps) → IsNextNamed following → AreNames keeps → AreNames (with_next_context m following keeps)
next_context_named m next.Same keeps is all = all
next_context_named m (next.New c) keeps is all = context_named (method_of c.master) (Some c) keeps is all
next_context_named m (next.Renamed from to) keeps is all = renamed_named m from to (entry m keeps.contexts) keeps is all

adopted_named : (m : Method) (o : Option (List ℕ)) (following : NextContext) (keeps : Keeps) → IsPseudonym o → IsNextNamed following → AreNames keeps → AreNames (adopted m o following keeps)
adopted_named m o following keeps is also all = next_context_named m following (with_next_pseudonym m o keeps) also (next_pseudonym_named m o keeps is all)

given_named : (inner : Decrypted) → GivesNames inner → IsPseudonym (pseudonym_given inner)
given_named decrypted.Unreadable is = tt
given_named (decrypted.Attributes given) is = is.0

taken_named : (s : PeerState) (p : Peer) (keeps : Keeps) → HasNames p → AreNames keeps → AreNames (taken_up s p keeps)
taken_named (state.Answered keys) p keeps own all = adopted_named p.options.method (pseudonym_given p.inner) p.next keeps (given_named p.inner own.0) own.1 all
taken_named state.Waiting p keeps own all = all
taken_named (state.Refusing cause) p keeps own all = all
taken_named state.Ended p keeps own all = all

advanced_named : (counter : ℕ) (c : Context) → IsContext (Some c) → IsContext (advanced counter c)
advanced_named counter c is = by (counter == 65535)
  where
    by : (b : Bool) → IsContext (if b then None else Some (record c { counter = counter + 1 }))
    by true = tt
    by false = is

accepting_named : (counter : ℕ) (o : Option Context) → IsContext o → IsContext (accepting_counter counter o)
accepting_named counter None is = tt
accepting_named counter (Some c) is = by (nat_le c.counter counter)
  where
    by : (b : Bool) → IsContext (if b then advanced counter c else Some c)
    by true = advanced_named counter c is
    by false = is

counted_named : (m : Method) (n : Option CounterNote) (keeps : Keeps) → AreNames keeps → AreNames (counted_up m n keeps)
counted_named m (Some (counts.Taken counter)) keeps all =
    context_named m (accepting_counter counter (entry m keeps.contexts)) keeps (accepting_named counter (entry m keeps.contexts) (all m).1) all
counted_named m (Some (counts.Small counter)) keeps all = all
counted_named m None keeps all = all

pub kept_named : (r : PeerRow) (p : Peer) (n : Option CounterNote) (keeps : Keeps) → HasNames p → AreNames keeps → AreNames (kept_by r p n keeps)
kept_named (row.Ignore cause) p n keeps own all = all
kept_named row.Again p n keeps own all = all
kept_named row.First p n keeps own all = all
kept_named (row.Identity kind) p n keeps own all = all
kept_named (row.Client cause) p n keeps own all = all
kept_named (row.Reject cause) p n keeps own all = all
kept_named (row.Notified code) p n keeps own all = all
kept_named (row.Challenged c) p n keeps own all = all
kept_named row.Reauthentication p n keeps own all = counted_named p.options.method n keeps all
kept_named row.Success p n keeps own all = taken_named p.state p keeps own all
kept_named (row.Failure cause) p n keeps own all = all
