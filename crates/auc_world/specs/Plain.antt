-- Completeness of a plain session: one whose packets reach the other end, each once and in their order, ends in Success at both
-- ends under the same keys (RFC 4187 §3), unless a line of it tells why not.
use Rattle.std.specs.Prelude.{◌≡◌, ◌≢◌, ◌⊎◌, ℕ, ◌≤◌, ◌&&◌, Bool, true, false, List, [], ◌∷◌, length, flat_map, All, Option, Some, None, Ok, Err, slice_get, slice_index}
use Rattle.std.specs.Option.{option_to_list}
use Rattle.auc_hmac.specs.declared.keys.KeySet.{KeySet}
use Rattle.auc_hmac.specs.declared.method.Method.{Method}
use Rattle.auc_hmac.specs.declared.method.Method.TheVariants as method
use Rattle.auc_lines.specs.Part.{IsShortIdentity}
use Rattle.auc_lines.specs.declared.part.Identity.{Identity}
use Rattle.auc_lines.specs.declared.part.Identity.TheVariants as identity
use Rattle.auc_lines.specs.declared.part.SessionLine.{SessionLine}
use Rattle.auc_peer.specs.Subscription.{Subscription}
use Rattle.auc_peer.specs.Table.{new_peer}
use Rattle.auc_reauth.specs.Device.{Keeps}
use Rattle.auc_reauth.specs.Store.{entry}
use Rattle.auc_reauth.specs.declared.context.Context.{Context}
use Rattle.auc_server.specs.Rows.{is_held}
use Rattle.auc_server.specs.Server.{ServerEnd, resumed_of}
use Rattle.auc_subs.specs.Setting.{Setting}
use Rattle.auc_server.specs.declared.server.Resumed.{Resumed}
use Rattle.auc_subs.specs.Subscriber.{AreSubscribers}
use Rattle.auc_subs.specs.declared.row.Row.{Row}
use Rattle.auc_vector.specs.declared.notes.CounterNote.{CounterNote}
use Rattle.auc_vector.specs.declared.notes.CounterNote.TheVariants as counts
use Rattle.auc_vector.specs.declared.notes.NumberNote.{NumberNote}
use Rattle.auc_vector.specs.declared.notes.NumberNote.TheVariants as number
use Rattle.auc_vector.specs.declared.notes.ResyncNote.{ResyncNote}
use Rattle.auc_vector.specs.declared.notes.ResyncNote.TheVariants as resync
use Rattle.auc_vector.specs.declared.notes.UsimNote.{UsimNote}
use Rattle.auc_vector.specs.declared.notes.UsimNote.TheVariants as usim
use Rattle.auc_world.specs.Agreement.{AreSized, IsRealm, IsSized}
use Rattle.auc_record.specs.Event.{Came, asked_in, number_in, number_released, resync_in, usim_in}
use Rattle.auc_world.specs.Came.{session_of}
use Rattle.auc_world.specs.Given.{Before, PlainGives}
use Rattle.auc_world.specs.Happened.{peer_options, server_options}
use Rattle.auc_world.specs.Net.{Net}
use Rattle.auc_world.specs.Sessions.{server_keys, verdict_on}
use Rattle.auc_world.specs.Start.{subscription_at}
use Rattle.auc_world.specs.World.{IsName}
use Rattle.auc_world.specs.declared.net.Session.{Session}
use Rattle.auc_record.specs.declared.record.LineRecord.{LineRecord}
use Rattle.auc_record.specs.declared.record.LineRecord.TheVariants.{Number, Sync, Give, Further, Event}

-- ---- the options of a session

-- a peer compares the network's name only if it has one
abbrev pub IsNamed : Option (List ℕ) → List ℕ → Type 0
IsNamed None name = Unit {0}
IsNamed (Some own) name = own ≡ name

-- EAP-AKA' needs a subscriber whose AMF has the separation bit, its top bit, a name that isn't empty, and a peer that expects no
-- other one (RFC 9048 §3.1, TS 33.102 Annex H)
pub record IsSeparated (amf name : List ℕ) (own : Option (List ℕ)) : Type 0 where
  pub separated : 128 ≤ slice_index amf 0
  pub some : 1 ≤ length name
  pub named : IsNamed own name

-- EAP-AKA ends if the server tells that it would rather use EAP-AKA', and the device has it (RFC 9048 §4)
abbrev pub EndsSuitBy : Method → List ℕ → SessionLine → Type 0
EndsSuitBy method.Aka amf opening = opening.has_prime && opening.bidding ≡ false
EndsSuitBy method.Prime amf opening = IsSeparated amf opening.name opening.peer_name

-- the first identity is one of the device's own
abbrev pub IsOwnIdentity : Identity → Type 0
IsOwnIdentity identity.Held = Unit {0}
IsOwnIdentity identity.Permanent = Unit {0}
IsOwnIdentity (identity.Text text) = ⊥

-- the options with which a session of a subscriber is opened let it end in Success
pub record EndsSuit (row : Row) (opening : SessionLine) : Type 0 where
  pub short : IsName opening.name
  pub by : EndsSuitBy opening.method row.amf opening
  pub own : IsOwnIdentity opening.identity

-- ---- the session

-- a pseudonym that a device keeps has at most 255 bytes (RFC 4187 §4.1.1.7 leaves its length to the server)
abbrev pub IsPseudonym : Option (List ℕ) → Type 0
IsPseudonym None = Unit {0}
IsPseudonym (Some text) = length text ≤ 255

-- so has the identity of a context
abbrev pub IsContext : Option Context → Type 0
IsContext None = Unit {0}
IsContext (Some c) = length c.identity ≤ 255

-- a session was opened with such options and nothing has happened in it; its device is that of its subscriber, and its server
-- serves that subscriber. Whatever pseudonym and context the device keeps, they may be ones that the server can't resolve
pub record IsReady (set : Setting) (net : Net) (session : ℕ) : Type 0 where
  pub own : Session
  pub is : session_of net session ≡ Some own
  pub opening : SessionLine
  pub row : Row
  pub listed : slice_get set.rows own.sub ≡ Some row
  pub suits : EndsSuit row opening
  pub options : own.options ≡ server_options opening
  pub server : own.server ≡ None
  pub peer : own.peer ≡ new_peer (peer_options opening)
  pub device : Subscription
  pub there : slice_get net.devices own.device ≡ Some device
  pub subscribed : subscription_at set own.sub ≡ device ∷ []
  pub keeps : Keeps
  pub stored : slice_get net.stores own.device ≡ Some keeps
  pub pseudonym : IsPseudonym (entry opening.method keeps.pseudonyms)
  pub context : IsContext (entry opening.method keeps.contexts)
  pub held : is_held net.homes own.sub ≡ true
  pub sized : AreSized net.homes

-- the context of a device's method is that of a re-authentication: it has the same identity, keys and counter
pub record HasSameContext (m : Method) (keeps : Keeps) (c : Context) : Type 0 where
  pub own : Context
  pub has : entry m keeps.contexts ≡ Some own
  pub identity : own.identity ≡ c.identity
  pub k_encr : own.k_encr ≡ c.k_encr
  pub k_aut : own.k_aut ≡ c.k_aut
  pub master : own.master ≡ c.master
  pub counter : own.counter ≡ c.counter

-- a session was opened and nothing has happened in it, and its device has the context of a re-authentication
pub record IsReadyAgain (set : Setting) (net : Net) (session : ℕ) (c : Context) : Type 0 where
  pub own : Session
  pub is : session_of net session ≡ Some own
  pub opening : SessionLine
  pub short : IsName opening.name
  pub first : IsShortIdentity opening.identity
  pub options : own.options ≡ server_options opening
  pub server : own.server ≡ None
  pub peer : own.peer ≡ new_peer (peer_options opening)
  pub device : Subscription
  pub there : slice_get net.devices own.device ≡ Some device
  pub realm : device.realm ≡ set.realm
  pub keeps : Keeps
  pub stored : slice_get net.stores own.device ≡ Some keeps
  pub sized : IsSized c
  pub same : HasSameContext opening.method keeps c

-- the server of a session took up a context again
pub record HasResumed (net : Net) (session : ℕ) (r : Resumed) : Type 0 where
  pub own : Session
  pub is : session_of net session ≡ Some own
  pub server : ServerEnd
  pub started : own.server ≡ Some server
  pub resumed : resumed_of server ≡ Some r

-- it ended in Success at both ends under the same keys, and its verdict says so
pub record Succeeds (net : Net) (session : ℕ) : Type 0 where
  pub own : Session
  pub is : session_of net session ≡ Some own
  pub keys : KeySet
  pub server : server_keys own.server ≡ Some keys
  pub peer : own.peer_keys ≡ Some keys
  pub verdict : verdict_on own ≡ record { session = session; agree = true } ∷ []

-- ---- what its lines tell

-- what came of the events of some lines
abbrev pub came_of : LineRecord → List Came
came_of (Number sub note) = []
came_of (Sync sub answer) = []
came_of (Give sub n answer) = []
came_of (Further said) = []
came_of (Event r) = r.result ∷ []

abbrev pub results : List LineRecord → List Came
results lines = flat_map came_of lines

-- the centre was asked for a number and gave none
abbrev pub is_refused : Option NumberNote → Bool
is_refused None = false
is_refused (Some (number.Drew n)) = false
is_refused (Some (number.Exhausted word)) = true
is_refused (Some (number.Withheld n stop)) = true

-- a synchronisation failure led to no number: the centre's was too far above the SEQ that the USIM reported, or AUTS was refused
abbrev pub is_unresolved : Option ResyncNote → Bool
is_unresolved None = false
is_unresolved (Some (resync.Moved seen seq)) = false
is_unresolved (Some (resync.InRange seen seq)) = false
is_unresolved (Some (resync.Beyond seen seq)) = true
is_unresolved (Some resync.BadAuts) = true

-- the SQN_MS that a USIM reported by a synchronisation failure
abbrev pub sqn_reported : Option UsimNote → List (List ℕ)
sqn_reported None = []
sqn_reported (Some (usim.Accepted sqn)) = []
sqn_reported (Some (usim.Sync sqn)) = sqn ∷ []
sqn_reported (Some usim.WrongMac) = []

-- the counter of the context that a server took up again
abbrev pub counter_resumed : Came → List ℕ
counter_resumed (Ok note) = option_to_list note.notes.resumed
counter_resumed (Err why) = []

-- the counter that a device accepted
abbrev pub counter_taken : Option CounterNote → List ℕ
counter_taken None = []
counter_taken (Some (counts.Taken counter)) = counter ∷ []
counter_taken (Some (counts.Small counter)) = []

abbrev pub counter_accepted : Came → List ℕ
counter_accepted (Ok note) = counter_taken note.notes.counter
counter_accepted (Err why) = []

-- the centre was asked for this subscriber, if it was asked
abbrev pub IsAskedFor : ℕ → Option ℕ → Type 0
IsAskedFor sub None = Unit {0}
IsAskedFor sub (Some other) = other ≡ sub

-- a number was drawn, so that there was a challenge, and the device accepted no counter
pub record TellAnother (lines : List LineRecord) : Type 0 where
  pub drawn : flat_map (λ came. number_released (number_in came)) (results lines) ≢ []
  pub none : flat_map counter_accepted (results lines) ≡ []

-- lines tell of no re-authentication, or of a challenge after it: a server that takes up a context again draws no number, unless
-- the counter is too small
abbrev pub TellChallenge : List LineRecord → Type 0
TellChallenge lines = (flat_map counter_resumed (results lines) ≡ []) ⊎ TellAnother lines

-- no line tells why a session of a subscriber fails: the centre was asked for that subscriber, it gave each number that it was
-- asked for, each synchronisation failure led to a number, and the USIM reported no more than so many of them; and a context that
-- was taken up again led to a challenge, since the device accepted no counter.
-- The AUTS of the subscriber's own USIM can be refused too: its SEQ is above the subscriber's greatest number if the USIM accepted
-- an SQN of another subscriber with the same secret, whose index is longer
pub record TellNoCause (sub syncs : ℕ) (lines : List LineRecord) : Type 0 where
  pub own : All (λ came. IsAskedFor sub (asked_in came)) (results lines)
  pub given : All (λ came. is_refused (number_in came) ≡ false) (results lines)
  pub resolved : All (λ came. is_unresolved (resync_in came) ≡ false) (results lines)
  pub once : length (flat_map (λ came. sqn_reported (usim_in came)) (results lines)) ≤ syncs
  pub challenge : TellChallenge lines

-- ---- the law

-- a plain session succeeds, if its lines tell no cause of a failure; one synchronisation failure is none
abbrev pub EachPlainSessionSucceeds : Type 0
EachPlainSessionSucceeds = (set : Setting) (before : Before) (net next : Net) (session : ℕ) (lines : List LineRecord) → AreSubscribers set.rows
    → IsRealm set.realm → (ready : IsReady set net session) → PlainGives set before net session lines next
    → TellNoCause ready.own.sub 1 lines → Succeeds next session

-- a plain session whose server takes up a context again succeeds, if the device has the same one (RFC 4187 §5)
abbrev pub EachResumedSessionSucceeds : Type 0
EachResumedSessionSucceeds = (set : Setting) (before : Before) (net next : Net) (session : ℕ) (lines : List LineRecord) (r : Resumed)
    → AreSubscribers set.rows → IsRealm set.realm → PlainGives set before net session lines next → HasResumed next session r
    → IsReadyAgain set net session r.context → Succeeds next session
