-- For plain sessions: the response to a re-authentication is right, and both ends end in Success under its keys (RFC 4187 §5).
use Rattle.std.proofs.Common.{◌≡◌, ℕ, ◌-◌, ◌==◌, Bool, true, false, not, if◌then◌else◌, List, [], ◌∷◌, length, Some, None, refl, ap, ◌∙◌, subst}
use Rattle.std.proofs.lemmas.Slice.Eq.{bytes_eq-Decides}
use Rattle.std.specs.Str.{bytes_eq}
use Rattle.auc_attr.specs.declared.attr.Attr.TheVariants as attr
use Rattle.auc_hmac.specs.declared.keys.KeySet.{KeySet}
use Rattle.auc_lines.specs.declared.part.SessionLine.{SessionLine}
use Rattle.auc_packet.specs.Received.{Seen, is_sealed}
use Rattle.auc_packet.specs.Sealed.{draft_mac, with_mac}
use Rattle.auc_packet.specs.Spelling.{packet_text}
use Rattle.auc_packet.specs.declared.packet.Packet.TheVariants as packet
use Rattle.auc_packet.specs.declared.received.Reading.{Reading}
use Rattle.auc_packet.specs.declared.subtype.Subtype.TheVariants as subtype
use Rattle.auc_peer.specs.Messages.{reauth_bytes}
use Rattle.auc_peer.specs.Subscription.{Subscription}
use Rattle.auc_peer.specs.Table.{noted}
use Rattle.auc_reauth.specs.Device.{Keeps}
use Rattle.auc_server.specs.Replies.{IsReply, Replies}
use Rattle.auc_server.specs.Rounds.{checkcode}
use Rattle.auc_server.specs.Rows.{is_wrong, on_method, on_reauth, says_small, server_row, text_in}
use Rattle.auc_server.specs.Server.{ServerEnd}
use Rattle.auc_subs.specs.Setting.{Setting}
use Rattle.auc_server.specs.State.{last_of}
use Rattle.auc_server.specs.Table.{ended, packets_after, resumed_keys, server_does, server_step}
use Rattle.auc_server.specs.declared.options.ServerOptions.{ServerOptions}
use Rattle.auc_server.specs.declared.reply.Reply.{Reply}
use Rattle.auc_server.specs.declared.reply.Reply.TheVariants as reply
use Rattle.auc_server.specs.declared.rows.Row.{Row}
use Rattle.auc_server.specs.declared.rows.Row.TheVariants as row
use Rattle.auc_server.specs.declared.server.Last.{Last}
use Rattle.auc_server.specs.declared.server.Resumed.{Resumed}
use Rattle.auc_server.specs.declared.server.ServerState.{ServerState}
use Rattle.auc_server.specs.declared.server.ServerState.TheVariants as state
use Rattle.auc_server.specs.declared.setting.HomeRow.{HomeRow}
use Rattle.auc_vector.specs.declared.why.ServerWhy.{ServerWhy}
use Rattle.auc_vector.specs.Keys.{reauth_keys_of}
use Rattle.auc_vector.specs.declared.notes.Notes.{Notes}
use Rattle.auc_vector.specs.declared.turn.Outcome.TheVariants as outcome
use Rattle.auc_vector.specs.declared.turn.Step.TheVariants as step
use Rattle.auc_vector.specs.declared.turn.Turn.{Turn}
use Rattle.auc_world.proofs.PlainAgainLemmas.{reauth_later}
use Rattle.auc_world.proofs.PlainAnswerLemmas.{ends}
use Rattle.auc_world.proofs.PlainKeyLemmas.{checkcode_hash}
use Rattle.auc_world.proofs.PlainLemmas.{begins_success, verdict_is}
use Rattle.auc_world.proofs.PlainMessageLemmas.{success_may}
use Rattle.auc_world.proofs.PlainNetLemmas.{peer_takes, server_takes}
use Rattle.auc_world.proofs.PlainPacketLemmas.{Is, Laws, reads_itself, reads_sealed_with}
use Rattle.auc_world.proofs.PlainReplyLemmas.{list_hiding, reply_draft, reply_is, reply_may, reply_values, right_reply}
use Rattle.auc_world.proofs.PlainServerLemmas.{AwaitsReply, awaited}
use Rattle.auc_world.proofs.PlainStageLemmas.{with_ends}
use Rattle.auc_world.proofs.PlainTakenLemmas.{Renewed, Renews, keys_again, renewed}
use Rattle.auc_world.proofs.PlainToldLemmas.{Free}
use Rattle.auc_world.specs.Agreement.{IsRealm, IsSized}
use Rattle.auc_world.specs.Happened.{server_options}
use Rattle.auc_world.specs.Net.{Net}
use Rattle.auc_world.specs.Plain.{HasSameContext, Succeeds, sqn_reported}
use Rattle.auc_world.specs.Sessions.{keys_in}
use Rattle.auc_world.specs.declared.net.Session.{Session}

-- ---- the response

-- the server that awaits it receives it
record IsReplied (q : ServerEnd) (o : ServerOptions) (seen : Seen) (said : Reply) (text : List ℕ) (id : ℕ) (r : Resumed) (packets : List (List ℕ)) (iv mac : List ℕ) : Type 0 where
  awaits : AwaitsReply q o text id r packets
  is : Is seen (with_mac (reply_draft o.method id r.context.k_encr iv r.context.counter (checkcode o.method packets)) mac)
  right : is_sealed o.method r.context.k_aut r.nonce seen ≡ true
  said_is : said ≡ reply.Right

replied_row : (set : Setting) (homes : List HomeRow) (q : ServerEnd) (o : ServerOptions) (seen : Seen) (said : Reply) (text : List ℕ) (id : ℕ) (r : Resumed) (packets : List (List ℕ)) (iv mac : List ℕ)
    → IsReplied q o seen said text id r packets iv mac → server_row set homes q seen said ≡ row.Reauthenticated r
replied_row set homes q o seen said text id r packets iv mac h =
    let w = h.awaits in
    let m = o.method in
    let code = checkcode m packets in
    let list = list_hiding r.context.k_encr iv (attr.Counter r.context.counter ∷ []) code mac in
    let kind = subtype.Reauthentication in
    let fourth : Bool → Row = λ b. if not b then row.WrongCheckcode else row.Reauthenticated r in
    let third : Reply → Row = λ x. if is_wrong x then row.WrongCounter else if says_small x then row.TooSmall r.sub else fourth (bytes_eq code code) in
    let first : Bool → Row = λ b. if not b then row.WrongMac else third said in
    awaited set homes q seen said o (state.AwaitReauth r) id kind list (reauth_later r) w.options_are w.awaits_is w.id_is h.is
    ∙ ap (on_method set homes q (state.AwaitReauth r) seen said) h.is.packet_is
    ∙ ap (λ (x : ServerOptions). on_reauth x.method q.packets r seen said list) w.options_are
    ∙ ap (λ (l : List (List ℕ)). on_reauth m l r seen said list) w.packets_are
    ∙ ap first h.right ∙ ap third h.said_is ∙ ap fourth ((bytes_eq-Decides code code).1 refl)

-- ---- Success

record Wins (set : Setting) (homes : List HomeRow) (q : ServerEnd) (seen : Seen) (said : Reply) (text : List ℕ) (id : ℕ) (r : Resumed) (notes : Notes) : Type 0 where
  z : ServerEnd
  won : Notes
  turn : server_step set homes q seen said notes ≡ (z, record { notes = won; step = step.Ended (outcome.Success (keys_again r text)) (packet_text (packet.Success id)); checked = true })
  last : Last
  ended_is : z.state ≡ state.Ended (outcome.Success (keys_again r text)) last

wins : (set : Setting) (homes : List HomeRow) (q : ServerEnd) (o : ServerOptions) (seen : Seen) (said : Reply) (text : List ℕ) (id : ℕ) (r : Resumed) (packets : List (List ℕ)) (iv mac : List ℕ) (notes : Notes)
    → IsReplied q o seen said text id r packets iv mac → Wins set homes q seen said text id r notes
wins set homes q o seen said text id r packets iv mac notes h =
    let w = h.awaits in
    let row_is = replied_row set homes q o seen said text id r packets iv mac h in
    let over : KeySet → ℕ → ServerEnd × Turn ServerWhy = λ k i. ended q (outcome.Success k) (packet_text (packet.Success i)) true in
    let keys_are : resumed_keys q r ≡ keys_again r text =
    ap (λ (t : List ℕ). reauth_keys_of r.context.k_encr r.context.k_aut r.context.master t r.context.counter r.nonce) w.identity_is in
    record {
      z = (over (keys_again r text) id).0;
      won = (over (keys_again r text) id).1.notes;
      turn = ap (λ (x : Row). server_does set homes q (text_in seen.reading) (packets_after q seen x) x notes) row_is
          ∙ ap (λ (k : KeySet). over k q.id) keys_are ∙ ap (over (keys_again r text)) w.id_is;
      last = last_of q.state;
      ended_is = refl;
    }

-- both ends end under the same keys
finishes : Laws → (set : Setting) (opening : SessionLine) (number : ℕ) (s : Session) (device : Subscription) (text : List ℕ) (packets : List (List ℕ)) (r : Resumed) (id : ℕ) (q : ServerEnd) (next : Net)
    → IsSized r.context → (s.number == number) ≡ true → AwaitsReply q (server_options opening) text id r packets → Renewed set opening number s device text packets r id q next → Succeeds next number
finishes laws set opening number s device text packets r id q next sized own awaits n =
    let m = opening.method in
    let o = server_options opening in
    let keys = keys_again r text in
    let check = checkcode m packets in
    let counter = r.context.counter in
    let draft = reply_draft m id r.context.k_encr n.iv counter check in
    let mac = draft_mac r.context.k_aut r.nonce draft in
    let took = server_takes set Free number (with_ends s q n.p) device n.keeps (reauth_bytes m id r.context.k_encr r.context.k_aut n.iv r.nonce counter false true check) q 1 next refl n.way in
    let told = took.told in
    let read = reads_sealed_with laws r.context.k_aut r.nonce draft told.seen (reply_may laws m id r.context.k_encr n.iv counter check sized.k_encr n.block (checkcode_hash m packets))
    (reply_values m id r.context.k_encr n.iv counter check) took.received (took.are ∙ reply_is m id r.context.k_encr r.context.k_aut n.iv r.nonce counter check) in
    let list = list_hiding r.context.k_encr n.iv (attr.Counter counter ∷ []) check mac in
    let replies : Replies (state.AwaitReauth r) told.seen.reading told.reply = subst (λ (x : ServerState). Replies x told.seen.reading told.reply) awaits.awaits_is took.replies in
    let replied : IsReply r.context.k_encr counter list told.reply = subst (λ (x : Reading). Replies (state.AwaitReauth r) x told.reply) read.0.packet_is replies in
    let h : IsReplied q o told.seen told.reply text id r packets n.iv mac = record {
      awaits = awaits;
      is = read.0;
      right = read.1;
      said_is = right_reply laws r.context.k_encr n.iv counter check mac told.reply sized.k_encr n.block sized.counter replied;
    } in
    let w = wins set took.homes q o told.seen told.reply text id r packets n.iv mac told.notes h in
    let win : ServerEnd × Turn ServerWhy = (w.z, record { notes = w.won; step = step.Ended (outcome.Success keys) (packet_text (packet.Success id)); checked = true }) in
    let left = 1 - length (sqn_reported told.notes.usim) in
    let last = peer_takes set Free number (with_ends s w.z n.p) device n.keeps (packet_text (packet.Success id)) left next (took.goes Free win w.turn tt tt).0 in
    let seen = last.told.seen in
    let is = reads_itself laws seen (packet.Success id) (success_may id) refl last.received last.are in
    let e = ends set.key device n.keeps n.p seen last.told.notes.usim id keys last.told.inner n.answered_is n.last_id (n.new seen.bytes (begins_success seen.bytes id last.are)) is in
    let won : keys_in w.z.state ≡ Some keys = ap keys_in w.ended_is in
    record {
      own = record s { server = Some w.z; peer = e.z; peer_keys = Some keys };
      is = (last.goes (e.z, record { notes = noted None; step = step.Ended (outcome.Success keys) []; checked = false }) e.turn_is tt).0;
      keys = keys;
      server = won;
      peer = refl;
      verdict = verdict_is s.number number keys (keys_in w.z.state) own won;
    }

-- a session whose server takes up a context again, which its device has, ends in Success at both ends
pub resumption_succeeds : Laws → (set : Setting) (opening : SessionLine) (number : ℕ) (s : Session) (device : Subscription) (keeps : Keeps) (r : Resumed) (id : ℕ) (next : Net) → IsRealm set.realm → IsSized r.context
    → HasSameContext opening.method keeps r.context → (s.number == number) ≡ true → Renews set opening number s device keeps r id next → Succeeds next number
resumption_succeeds laws set opening number s device keeps r id next real sized same own n =
    finishes laws set opening number s device n.text n.packets r id n.q next sized own n.awaits (renewed laws set opening number s device keeps r id next real sized same n)
