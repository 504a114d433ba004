-- For resumed sessions: what each turn of a server keeps holds at the end of a session too, so that what it took up again before a
-- packet was on its way is what it has at the end, if no other context is taken up.
use Rattle.std.proofs.Common.{◌≡◌, ℕ, zero, suc, ◌-◌, ◌≤◌, true, List, [], ◌∷◌, length, Option, Some, None, refl, sym, ap, subst, ◌∙◌, arith}
use Rattle.auc_lines.specs.declared.part.End.{End}
use Rattle.auc_lines.specs.declared.part.End.TheVariants as end
use Rattle.auc_packet.specs.Received.{Seen}
use Rattle.auc_peer.specs.Subscription.{Subscription}
use Rattle.auc_peer.specs.Table.{peer_step}
use Rattle.auc_reauth.specs.Device.{Keeps}
use Rattle.auc_server.specs.Server.{ServerEnd, resumed_of}
use Rattle.auc_subs.specs.Setting.{Setting}
use Rattle.auc_server.specs.Table.{server_step}
use Rattle.auc_server.specs.declared.reply.Reply.{Reply}
use Rattle.auc_server.specs.declared.server.Resumed.{Resumed}
use Rattle.auc_server.specs.declared.setting.HomeRow.{HomeRow}
use Rattle.auc_vector.specs.declared.notes.Notes.{Notes}
use Rattle.auc_world.proofs.PlainNetLemmas.{Goes, OnWay, ServerTook, peer_new, peer_takes_all, server_new, server_takes_all}
use Rattle.auc_world.proofs.PlainPastLemmas.{is_past, past_turn}
use Rattle.auc_world.proofs.PlainToldLemmas.{Free}
use Rattle.auc_world.specs.Came.{session_of}
use Rattle.auc_world.specs.Given.{RelayGives}
use Rattle.auc_world.specs.Happened.{kept_after, sent_by}
use Rattle.auc_world.specs.Net.{Net}
use Rattle.auc_world.specs.Plain.{HasResumed, sqn_reported}
use Rattle.auc_world.specs.declared.net.Session.{Session}
use Rattle.auc_record.specs.declared.record.LineRecord.{LineRecord}

-- ---- the end

-- at the end the session's server is such a one
pub record EndsSo (next : Net) (number : ℕ) (P : ServerEnd → Type 0) : Type 0 where
  pub own : Session
  pub is : session_of next number ≡ Some own
  pub server : ServerEnd
  pub started : own.server ≡ Some server
  pub so : P server

one_session : (a b : Session) → ◌≡◌ {A = Option Session} (Some a) (Some b) → a ≡ b
one_session a b e = cc

one_server : (a b : ServerEnd) → ◌≡◌ {A = Option ServerEnd} (Some a) (Some b) → a ≡ b
one_server a b e = cc

-- so is the one that took a context up again
pub at_end : (next : Net) (number : ℕ) (P : ServerEnd → Type 0) (r : Resumed) → EndsSo next number P → HasResumed next number r → (q : ServerEnd) × P q × (resumed_of q ≡ Some r)
at_end next number P r ends has =
    let same = one_session ends.own has.own (sym ends.is ∙ has.is) in
    let server = one_server ends.server has.server (sym ends.started ∙ ap (λ (s : Session). s.server) same ∙ has.started) in
    (has.server, subst P server ends.so, has.resumed)

-- a session that sends nothing stands in the last network
pub ends_here : (set : Setting) (number : ℕ) (to : End) (s : Session) (device : Subscription) (keeps : Keeps) (left : ℕ) (sent : Option (List ℕ)) (lines : List LineRecord) (next : Net)
    → Goes set Free number to s device keeps sent left lines next → sent ≡ None → session_of next number ≡ Some s
ends_here set number to s device keeps left None lines next goes none = goes.0
ends_here set number to s device keeps left (Some bytes) lines next goes none = absurd cc

-- ---- the way to it

no_line : (set : Setting) (number : ℕ) (to : End) (s : Session) (device : Subscription) (keeps : Keeps) (bytes : List ℕ) (syncs : ℕ) (next : Net) (o : OnWay set Free number to s device keeps bytes syncs next) → length o.lines ≤ 0 → ⊥
no_line set number to s device keeps bytes syncs next o few = by o.lines o.gives few
  where
    by : (lines : List LineRecord) → RelayGives set o.before o.w number to (Some o.packet) lines next → length lines ≤ 0 → ⊥
    by [] gives few = gives
    by (line ∷ lines) gives few = omega (arith, few)

-- what each turn of the server keeps
abbrev pub IsKept : Setting → (ServerEnd → Type 0) → Type 0
IsKept set P = (homes : List HomeRow) (q : ServerEnd) (seen : Seen) (said : Reply) (notes : Notes) → P q → P (server_step set homes q seen said notes).0

module _ (set : Setting) (number : ℕ) (device : Subscription) (next : Net) (P : ServerEnd → Type 0) (stays : IsKept set P) where
  ends_or_goes : (to : End) (s : Session) (q : ServerEnd) (keeps : Keeps) (left n : ℕ) (lines : List LineRecord) (sent : Option (List ℕ)) → s.server ≡ Some q → P q
      → Goes set Free number to s device keeps sent left lines next → length lines ≤ n
      → ((bytes : List ℕ) → (o : OnWay set Free number to s device keeps bytes left next) → length o.lines ≤ n → EndsSo next number P) → EndsSo next number P
  ends_or_goes to s q keeps left n lines None is so goes few rec = record { own = s; is = goes.0; server = q; started = is; so = so }
  ends_or_goes to s q keeps left n lines (Some bytes) is so (o, e) few rec = rec bytes o (subst (λ (l : List LineRecord). length l ≤ n) (sym e) few)

  walks : (n : ℕ) (to : End) (s : Session) (q : ServerEnd) (keeps : Keeps) (bytes : List ℕ) (syncs : ℕ) → s.server ≡ Some q → P q
      → (o : OnWay set Free number to s device keeps bytes syncs next) → length o.lines ≤ n → EndsSo next number P
  walks zero to s q keeps bytes syncs is so o few = absurd (no_line set number to s device keeps bytes syncs next o few)
  walks (suc n) end.Server s q keeps bytes syncs is so o few =
      let (took, long) = server_takes_all set Free number s device keeps bytes q syncs next is o in
      let told = took.told in
      let turn = server_step set took.homes q told.seen told.reply told.notes in
      let left = syncs - length (sqn_reported told.notes.usim) in
      let later = stays took.homes q told.seen told.reply told.notes so in
      ends_or_goes end.Peer (server_new s turn.0) turn.0 keeps left n took.lines (sent_by turn.1.step) refl later (took.goes Free turn refl tt tt) (omega (arith, long, few))
      (λ answer way less. walks n end.Peer (server_new s turn.0) turn.0 keeps answer left refl later way less)
  walks (suc n) end.Peer s q keeps bytes syncs is so o few =
      let (took, long) = peer_takes_all set Free number s device keeps bytes syncs next o in
      let told = took.told in
      let turn = peer_step set.key device keeps s.peer told.seen told.notes.usim told.inner in
      let left = syncs - length (sqn_reported told.notes.usim) in
      let kept = kept_after keeps s told turn.1 in
      ends_or_goes end.Server (peer_new s turn) q kept left n took.lines (sent_by turn.1.step) is so (took.goes turn refl tt) (omega (arith, long, few))
      (λ answer way less. walks n end.Server (peer_new s turn) q kept answer left is so way less)

  -- from a packet on its way
  pub ends_so : (to : End) (s : Session) (q : ServerEnd) (keeps : Keeps) (bytes : List ℕ) (syncs : ℕ) → s.server ≡ Some q → P q → OnWay set Free number to s device keeps bytes syncs next → EndsSo next number P
  ends_so to s q keeps bytes syncs is so o = walks (length o.lines) to s q keeps bytes syncs is so o (omega arith)

  -- from a turn of the server
  pub turn_ends : (s : Session) (q : ServerEnd) (keeps : Keeps) (bytes : List ℕ) (syncs : ℕ) (took : ServerTook set Free number s device keeps bytes q syncs next)
      → P (server_step set took.homes q took.told.seen took.told.reply took.told.notes).0 → EndsSo next number P
  turn_ends s q keeps bytes syncs took so =
      let told = took.told in
      let turn = server_step set took.homes q told.seen told.reply told.notes in
      let left = syncs - length (sqn_reported told.notes.usim) in
      ends_or_goes end.Peer (server_new s turn.0) turn.0 keeps left (length took.lines) took.lines (sent_by turn.1.step) refl so (took.goes Free turn refl tt tt) (omega arith)
      (λ answer way less. walks (length took.lines) end.Peer (server_new s turn.0) turn.0 keeps answer left refl so way less)

-- ---- what was taken up again

-- a server that takes up no context any more, with what it took up before
pub record IsSettled (r : Option Resumed) (q : ServerEnd) : Type 0 where
  pub past : is_past q.state ≡ true
  pub resumed : resumed_of q ≡ r

pub settled_stays : (set : Setting) (r : Option Resumed) → IsKept set (IsSettled r)
settled_stays set r homes q seen said notes so =
    let t = past_turn set homes q seen said notes so.past in record { past = t.past; resumed = t.same ∙ so.resumed }
