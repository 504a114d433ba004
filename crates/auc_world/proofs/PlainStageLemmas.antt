-- For plain sessions: a subscriber, and the packets that are on their way in a session of it.
use Rattle.std.proofs.Common.{◌≡◌, ℕ, Bool, List, Option, Some, slice_get, arith}
use Rattle.auc_lines.specs.declared.part.SessionLine.{SessionLine}
use Rattle.auc_lines.specs.declared.part.End.TheVariants as end
use Rattle.auc_aes.specs.Bytes.{IsBlock}
use Rattle.auc_packet.specs.Received.{IsReceived, Seen}
use Rattle.auc_packet.specs.Spelling.{packet_text}
use Rattle.auc_peer.specs.Subscription.{Subscription}
use Rattle.auc_peer.specs.declared.peer.Peer.{Peer}
use Rattle.auc_reauth.specs.Device.{Keeps}
use Rattle.auc_reauth.specs.Store.{entry}
use Rattle.auc_request.specs.declared.identities.IdentityRequest.{IdentityRequest}
use Rattle.auc_seal.specs.Checkcode.{counted}
use Rattle.auc_server.specs.InnerMessages.{IsName}
use Rattle.auc_server.specs.Messages.{aka_identity, reauth_bytes}
use Rattle.auc_server.specs.Rounds.{checkcode}
use Rattle.auc_server.specs.Server.{ServerEnd, started}
use Rattle.auc_subs.specs.Setting.{Setting}
use Rattle.auc_server.specs.Table.{next_id}
use Rattle.auc_server.specs.declared.naming.GivenNames.{GivenNames}
use Rattle.auc_server.specs.declared.reply.Reply.{Reply}
use Rattle.auc_server.specs.declared.server.Resumed.{Resumed}
use Rattle.auc_server.specs.declared.server.ServerState.{ServerState}
use Rattle.auc_server.specs.declared.server.ServerState.TheVariants as state
use Rattle.auc_server.specs.declared.setting.HomeRow.{HomeRow}
use Rattle.auc_subs.specs.Subscriber.{AreSubscribers, IsRow}
use Rattle.auc_subs.specs.declared.row.Row as rows
use Rattle.auc_world.proofs.PlainKeyLemmas.{AreNewNames}
use Rattle.auc_world.proofs.PlainNetLemmas.{OnWay}
use Rattle.auc_world.proofs.PlainPacketLemmas.{Laws}
use Rattle.auc_world.proofs.PlainPeerLemmas.{Waits, WaitsOn}
use Rattle.auc_world.proofs.PlainServerLemmas.{Awaits, AwaitsReply, Comes, Expects, challenge_with, vector_for}
use Rattle.auc_world.proofs.PlainToldLemmas.{Again, Early, Late}
use Rattle.auc_world.specs.Agreement.{IsRealm, IsSized}
use Rattle.auc_world.specs.Happened.{server_options}
use Rattle.auc_world.specs.Net.{Net}
use Rattle.auc_world.specs.Plain.{EndsSuit, IsContext, IsPseudonym}
use Rattle.auc_world.specs.declared.net.Session.{Session}

-- ---- the subscriber

-- the subscription of a row
abbrev pub device_of : Setting → rows.Row → Subscription
device_of set home = record { imsi = home.imsi; realm = set.realm; secret = home.secret }

-- a subscriber with its row, what its device keeps, and the line that opens a session of it
pub record IsOf (set : Setting) (opening : SessionLine) (sub : ℕ) (home : rows.Row) (keeps : Keeps) : Type 0 where
  pub laws : Laws
  pub subscribers : AreSubscribers set.rows
  pub there : slice_get set.rows sub ≡ Some home
  pub is_row : IsRow home
  pub suits : EndsSuit home opening
  pub realm : IsRealm set.realm
  pub pseudonym : IsPseudonym (entry opening.method keeps.pseudonyms)
  pub context : IsContext (entry opening.method keeps.contexts)

-- a session with these ends
abbrev pub with_ends : Session → ServerEnd → Peer → Session
with_ends s q p = record s { server = Some q; peer = p }

-- what is sent first
abbrev pub first_server : SessionLine → ServerEnd
first_server opening = started (server_options opening)

-- ---- packets on their way

-- an identity is on its way to the server, which awaits it in a state
pub record Offers (set : Setting) (opening : SessionLine) (number : ℕ) (s : Session) (home : rows.Row) (keeps : Keeps) (now : ServerState) (text : List ℕ) (id : ℕ) (next : Net) : Type 0 where
  pub q : ServerEnd
  pub p : Peer
  pub packets : List (List ℕ)
  pub bytes : List ℕ
  pub waits : WaitsOn opening p text packets id
  pub comes : (homes : List HomeRow) (seen : Seen) (said : Reply) → IsReceived seen → seen.bytes ≡ bytes → Comes set homes q seen said (server_options opening) now text id packets
  pub way : OnWay set Early number end.Server (with_ends s q p) (device_of set home) keeps bytes 1 next

-- a request for another identity is on its way to the peer
pub record Asked (set : Setting) (opening : SessionLine) (number : ℕ) (s : Session) (home : rows.Row) (keeps : Keeps) (kind : IdentityRequest) (id : ℕ) (next : Net) : Type 0 where
  pub q : ServerEnd
  pub p : Peer
  pub text : List ℕ
  pub packets : List (List ℕ)
  pub expects : Expects q (server_options opening) (state.Await kind) id (counted (packet_text (aka_identity opening.method id kind)) packets)
  pub waits : Waits opening p text packets id
  pub way : OnWay set Early number end.Peer (with_ends s q p) (device_of set home) keeps (packet_text (aka_identity opening.method id kind)) 1 next

-- a challenge is on its way to the peer
pub record Challenged (set : Setting) (opening : SessionLine) (number : ℕ) (s : Session) (home : rows.Row) (keeps : Keeps) (id : ℕ) (synced : Bool) (syncs : ℕ) (next : Net) : Type 0 where
  pub q : ServerEnd
  pub p : Peer
  pub text : List ℕ
  pub packets : List (List ℕ)
  pub n : ℕ
  pub given : Option GivenNames
  pub names : AreNewNames given
  pub awaits : Awaits q (server_options opening) s.sub text id (vector_for set (server_options opening) s.sub home n) synced packets
  pub waits : Waits opening p text packets id
  pub way : OnWay set Late number end.Peer (with_ends s q p) (device_of set home) keeps (challenge_with set (server_options opening) s.sub home text id n given packets) syncs next

-- a re-authentication is on its way to the peer
pub record Resumes (set : Setting) (opening : SessionLine) (number : ℕ) (s : Session) (home : rows.Row) (keeps : Keeps) (id : ℕ) (next : Net) : Type 0 where
  pub q : ServerEnd
  pub p : Peer
  pub text : List ℕ
  pub packets : List (List ℕ)
  pub r : Resumed
  pub sized : IsSized r.context
  pub nonce : IsBlock r.nonce
  pub name : IsName r.next
  pub iv : List ℕ
  pub block : IsBlock iv
  pub awaits : AwaitsReply q (server_options opening) text id r packets
  pub waits : Waits opening p text packets id
  pub way : OnWay set Again number end.Peer (with_ends s q p) (device_of set home) keeps (reauth_bytes opening.method set.realm id iv r (checkcode opening.method packets)) 1 next

-- the next Identifier is another one
pub next_differs : (id : ℕ) → id ≡ next_id id → ⊥
next_differs id same = omega (arith, same)
