-- For Plain: a session whose server takes up a context again goes from its start to Success at both ends.
use Rattle.std.proofs.Common.{◌≡◌, ◌⊎◌, ℕ, ◌-◌, ◌≤◌, Bool, true, false, if◌then◌else◌, List, [], ◌∷◌, length, Option, Some, None, refl, sym, ap, ◌∙◌, subst, arith, ⊎_elim, inl, inr}
use Rattle.std.specs.Prelude.{slice_index}
use Rattle.auc_hmac.specs.declared.method.Method.{Method}
use Rattle.auc_ident.specs.Permanent.{leading, permanent_text, username, with_realm}
use Rattle.auc_lines.specs.Part.{IsShortIdentity}
use Rattle.auc_lines.specs.declared.part.End.TheVariants as end
use Rattle.auc_lines.specs.declared.part.Identity.{Identity}
use Rattle.auc_lines.specs.declared.part.Identity.TheVariants as identity
use Rattle.auc_lines.specs.declared.part.SessionLine.{SessionLine}
use Rattle.auc_packet.specs.Spelling.{packet_text}
use Rattle.auc_peer.specs.Identities.{asked_text, context_or, first_text, full_name, held_text}
use Rattle.auc_peer.specs.Messages.{identified as identity_answer, identity_response}
use Rattle.auc_peer.specs.Subscription.{Subscription, identity_text}
use Rattle.auc_peer.specs.Table.{kept_by, new_peer, noted}
use Rattle.auc_peer.specs.declared.peer.Peer.{Peer}
use Rattle.auc_peer.specs.declared.rows.Row.{Row as PeerRow}
use Rattle.auc_reauth.specs.Device.{Keeps}
use Rattle.auc_reauth.specs.declared.context.Context.{Context}
use Rattle.auc_request.specs.declared.identities.IdentityRequest.TheVariants as request
use Rattle.auc_seal.specs.Checkcode.{counted}
use Rattle.auc_server.proofs.Facts.{awaits_reauth, identity_may as asked_may}
use Rattle.auc_server.specs.Messages.{aka_identity, identity_request, reauth_bytes}
use Rattle.auc_server.specs.Rounds.{checkcode}
use Rattle.auc_server.specs.Rows.{challenge_or, context_subscriber, on_any, resume_or, server_row, subscriber_in, text_in}
use Rattle.auc_server.specs.Server.{ServerEnd, resumed_of, started}
use Rattle.auc_subs.specs.Setting.{Setting}
use Rattle.auc_server.specs.Table.{next_id, packets_after, resuming, server_does, server_step, silent}
use Rattle.auc_server.specs.declared.options.ServerOptions.{ServerOptions}
use Rattle.auc_server.specs.declared.rows.Row.{Row}
use Rattle.auc_server.specs.declared.rows.Row.TheVariants as row
use Rattle.auc_server.specs.declared.server.Resumed.{Resumed}
use Rattle.auc_server.specs.declared.server.ServerState.{ServerState}
use Rattle.auc_server.specs.declared.server.ServerState.TheVariants as state
use Rattle.auc_vector.specs.declared.why.ServerWhy.{ServerWhy}
use Rattle.auc_vector.specs.declared.turn.Reason.{Reason}
use Rattle.auc_vector.specs.declared.turn.Turn.{Turn}
use Rattle.auc_world.proofs.PlainFirstLemmas.{Leaves, first_letter, first_received, leaves_full, leaves_ignored}
use Rattle.auc_world.proofs.PlainIdentityLemmas.{realm_size}
use Rattle.auc_world.proofs.PlainLengthLemmas.{resumed_size}
use Rattle.auc_world.proofs.PlainLemmas.{there_at}
use Rattle.auc_world.proofs.PlainMessageLemmas.{identified_may, identity_may, request_may}
use Rattle.auc_world.proofs.PlainNamedLemmas.{context_named, named_size, no_permanent}
use Rattle.auc_world.proofs.PlainNetLemmas.{OnWay, ServerTook, peer_sends, peer_takes, server_new, server_sends, server_takes, starts}
use Rattle.auc_world.proofs.PlainPacketLemmas.{Laws, reads_itself}
use Rattle.auc_world.proofs.PlainPastLemmas.{is_past}
use Rattle.auc_world.proofs.PlainPeerLemmas.{Waits, WaitsOn, first_row, identifies, identifies_again, identity_row as peer_identity_row, packets_with}
use Rattle.auc_world.proofs.PlainRightLemmas.{resumption_succeeds}
use Rattle.auc_world.proofs.PlainRoundLemmas.{context_there}
use Rattle.auc_world.proofs.PlainServerLemmas.{Comes, Expects, any_round, asks, identity_comes, identity_row, resumes}
use Rattle.auc_world.proofs.PlainStageLemmas.{first_server, next_differs, with_ends}
use Rattle.auc_world.proofs.PlainTakenLemmas.{Renews}
use Rattle.auc_world.proofs.PlainToldLemmas.{Free, IsQuiet}
use Rattle.auc_world.proofs.PlainWalkLemmas.{EndsSo, IsSettled, at_end, ends_here, ends_so, settled_stays, turn_ends}
use Rattle.auc_world.specs.Agreement.{IsRealm}
use Rattle.auc_world.specs.Happened.{ToldEvent, first_of, peer_options, sent_by, server_options}
use Rattle.auc_world.specs.Net.{Net}
use Rattle.auc_world.specs.Plain.{EachResumedSessionSucceeds, HasResumed, HasSameContext, sqn_reported}
use Rattle.auc_world.specs.declared.net.Session.{Session}

one_resumed : (a b : Resumed) → ◌≡◌ {A = Option Resumed} (Some a) (Some b) → a ≡ b
one_resumed a b e = cc

no_resumed : (r : Resumed) → ◌≡◌ {A = Option Resumed} None (Some r) → ⊥
no_resumed r e = cc

quiet : IsQuiet (noted None)
quiet = record { resumed = refl; drawn = refl; taken = refl }

no_text : (text : List ℕ) → text ≡ [] → length (username text) ≡ 33 → ⊥
no_text text e long = differ (sym (ap (λ (l : List ℕ). length (username l)) e) ∙ long)
  where
    differ : ◌≡◌ {A = ℕ} 0 33 → ⊥
    differ f = omega (arith, f)

-- the first letter of a permanent identity
begins : (m : Method) (device : Subscription) → slice_index (identity_text m device) 0 ≡ leading m
begins m device = by device.realm
  where
    by : (realm : List ℕ) → slice_index (with_realm (permanent_text m device.imsi) realm) 0 ≡ leading m
    by [] = refl
    by (letter ∷ letters) = refl

-- a context is taken up again, or another row is taken
resume_cases : (other : Row) (found : Option ℕ) → (resume_or other found ≡ other) ⊎ ((sub : ℕ) × (found ≡ Some sub) × (resume_or other found ≡ row.Resume sub))
resume_cases other None = inl refl
resume_cases other (Some sub) = inr (sub, refl, refl)

module _ (set : Setting) (opening : SessionLine) (number : ℕ) (s : Session) (device : Subscription) (keeps : Keeps) (next : Net) (r : Resumed) (laws : Laws) (real : IsRealm set.realm) (realm_is : device.realm ≡ set.realm)
    (same : HasSameContext opening.method keeps r.context) (has : HasResumed next number r) where
  -- the re-authentication on its way, under some Identifier
  abbrev Leads : Type 0
  Leads = (id : ℕ) × Renews set opening number s device keeps r id next

  -- ---- what contradicts that a context was taken up again

  leaves_none : (w : Session) (q : ServerEnd) (bytes : List ℕ) (took : ServerTook set Free number w device keeps bytes q 1 next) → resumed_of q ≡ None
      → Leaves q (server_step set took.homes q took.told.seen took.told.reply took.told.notes) → ⊥
  leaves_none w q bytes took none l =
      let told = took.told in
      let turn = server_step set took.homes q told.seen told.reply told.notes in
      let without : resumed_of turn.0 ≡ None = l.same ∙ none in
      let P : ServerEnd → Type 0 = λ x. resumed_of x ≡ None in
      ⊎_elim
      (λ (quiet : sent_by turn.1.step ≡ None).
      let ends : EndsSo next number P = record {
        own = server_new w turn.0;
        is = ends_here set number end.Peer (server_new w turn.0) device keeps (1 - length (sqn_reported told.notes.usim)) (sent_by turn.1.step) took.lines next (took.goes Free turn refl tt tt) quiet;
        server = turn.0;
        started = refl;
        so = without;
      } in
      let (last, so, resumed) = at_end next number P r ends has in no_resumed r (sym so ∙ resumed))
      (λ (past : is_past turn.0.state ≡ true).
      let ends = turn_ends set number device next (IsSettled None) (settled_stays set None) w q keeps bytes 1 took (record { past = past; resumed = without }) in
      let (last, so, resumed) = at_end next number (IsSettled None) r ends has in no_resumed r (sym so.resumed ∙ resumed))
      l.passes

  -- ---- the identity that the device holds

  short : length device.realm ≤ 255
  short = subst (λ (l : List ℕ). length l ≤ 255) (sym realm_is) real.short

  held_size : length r.context.identity ≡ 33 → length (held_text opening.method device keeps) ≤ 1016
  held_size long =
      let m = opening.method in
      let is : held_text m device keeps ≡ with_realm r.context.identity device.realm =
      ap (λ (o : Option Context). with_realm (context_or (full_name m device keeps) o) device.realm) same.has ∙ ap (λ (l : List ℕ). with_realm l device.realm) same.identity in
      let few = short in
      subst (λ (l : List ℕ). length l ≤ 1016) (sym is) (omega (arith, realm_size r.context.identity device.realm, long, few))

  -- the first one is short, or begins as a permanent one
  known : length r.context.identity ≡ 33 → (i : Identity) → IsShortIdentity i
      → (length (first_text opening.method device keeps (first_of i)) ≤ 4091) ⊎ (slice_index (first_text opening.method device keeps (first_of i)) 0 ≡ leading opening.method)
  known long identity.Held first = let few = held_size long in inl (omega (arith, few))
  known long identity.Permanent first = inr (begins opening.method device)
  known long (identity.Text text) first = inl (omega (arith, first))

  -- ---- the row of an identity that may be a re-authentication identity

  module _ (q : ServerEnd) (p : Peer) (bytes : List ℕ) (now : ServerState) (text : List ℕ) (id : ℕ) (packets : List (List ℕ)) (took : ServerTook set Free number (with_ends s q p) device keeps bytes q 1 next)
      (none : resumed_of q ≡ None) (comes : Comes set took.homes q took.told.seen took.told.reply (server_options opening) now text id packets)
      (is : identity_row now (server_options opening) set took.homes text ≡ on_any opening.method set took.homes text) where
    full : resume_or (challenge_or (row.Ask request.Fullauth) (subscriber_in opening.method set took.homes text)) (context_subscriber opening.method set took.homes text)
        ≡ challenge_or (row.Ask request.Fullauth) (subscriber_in opening.method set took.homes text) → ⊥
    full other =
        let told = took.told in
        let found = subscriber_in opening.method set took.homes text in
        let instead : Row = challenge_or (row.Ask request.Fullauth) found in
        let does : Row → ServerEnd × Turn ServerWhy = λ x. server_does set took.homes q (text_in told.seen.reading) (packets_after q told.seen x) x told.notes in
        let row_is : server_row set took.homes q told.seen told.reply ≡ instead = comes.row_is ∙ is ∙ other in
        leaves_none (with_ends s q p) q bytes took none
        (subst (λ (x : Row). Leaves q (does x)) (sym row_is) (leaves_full set took.homes q (text_in told.seen.reading) (packets_after q told.seen instead) found told.notes none))

    again : (sub : ℕ) → context_subscriber opening.method set took.homes text ≡ Some sub → identity_row now (server_options opening) set took.homes text ≡ row.Resume sub → WaitsOn opening p text packets id
        → Renews set opening number s device keeps r (next_id id) next
    again sub from resume waits =
        let o = server_options opening in
        let told = took.told in
        let (c, there) = context_there opening.method set took.homes text sub from in
        let n = resumes set took.homes q told.seen told.reply o now text id packets sub c told.notes comes resume there in
        let sent = reauth_bytes opening.method set.realm (next_id id) n.iv n.r (checkcode opening.method packets) in
        let way : OnWay set Free number end.Peer (with_ends s n.q p) device keeps sent 1 next = server_sends set Free Free number (with_ends s q p) device keeps bytes q 1 next took n.q (resuming c.counter) sent false tt tt n.is in
        let settled = ends_so set number device next (IsSettled (Some n.r)) (settled_stays set (Some n.r)) end.Peer (with_ends s n.q p) n.q keeps sent 1 refl
        (record { past = ap is_past n.awaits.awaits_is; resumed = awaits_reauth n.q n.r n.awaits.awaits_is }) way in
        let (last, so, resumed) = at_end next number (IsSettled (Some n.r)) r settled has in
        subst (λ (x : Resumed). Renews set opening number s device keeps x (next_id id) next) (one_resumed n.r r (sym so.resumed ∙ resumed)) (record {
          q = n.q;
          p = p;
          text = text;
          packets = packets;
          nonce = n.nonce;
          name = n.name;
          iv = n.iv;
          block = n.block;
          named = ap (λ (x : Context). x.identity) n.of ∙ sym (context_named opening.method text took.homes sub c there);
          awaits = n.awaits;
          waits = waits (next_id id) (next_differs id);
          way = way;
        })

    after_any : ((sub : ℕ) → context_subscriber opening.method set took.homes text ≡ Some sub → WaitsOn opening p text packets id) → Leads
    after_any waits =
        let other : Row = challenge_or (row.Ask request.Fullauth) (subscriber_in opening.method set took.homes text) in
        let kept = context_subscriber opening.method set took.homes text in
        ⊎_elim
        (λ (e : resume_or other kept ≡ other). absurd (full e))
        (λ (e : (sub : ℕ) × (kept ≡ Some sub) × (resume_or other kept ≡ row.Resume sub)). (next_id id, again e.0 e.1 (is ∙ e.2) (waits e.0 e.1)))
        (resume_cases other kept)

  -- ---- another identity was asked for

  after_asked : length r.context.identity ≡ 33 → (q : ServerEnd) (p : Peer) (text : List ℕ) (packets : List (List ℕ)) (id : ℕ) → resumed_of q ≡ None
      → Expects q (server_options opening) (state.Await request.Any) id (counted (packet_text (aka_identity opening.method id request.Any)) packets) → Waits opening p text packets id
      → OnWay set Free number end.Peer (with_ends s q p) device keeps (packet_text (aka_identity opening.method id request.Any)) 1 next → Leads
  after_asked long q p text packets id none expects waits way =
      let m = opening.method in
      let asking = aka_identity m id request.Any in
      let own = asked_text m device keeps request.Any in
      let answer = identity_answer m id own in
      let may = identified_may m id own (held_size long) in
      let took = peer_takes set Free number (with_ends s q p) device keeps (packet_text asking) 1 next way in
      let told = took.told in
      let is = reads_itself laws told.seen asking (asked_may m id request.Any) refl took.received took.are in
      let turn = identifies_again set.key opening device keeps p told.seen told.notes.usim told.inner text packets id request.Any (asked_may m id request.Any) waits is took.are in
      let kept = ap (λ (x : PeerRow). kept_by x p None keeps) (peer_identity_row opening p told.seen text packets id request.Any waits is took.are) in
      let on = peer_sends set Free number (with_ends s q p) device keeps (packet_text asking) 1 1 next took turn.z (noted None) (packet_text answer) false quiet kept turn.turn_is (omega arith) in
      let heard = server_takes set Free number (with_ends s q turn.z) device keeps (packet_text answer) q 1 next refl on in
      let seen = heard.told.seen in
      let comes = identity_comes set heard.homes q seen heard.told.reply (server_options opening) (state.Await request.Any) own id (counted (packet_text asking) packets) any_round expects may
      (reads_itself laws seen answer may refl heard.received heard.are) heard.are in
      after_any q turn.z (packet_text answer) (state.Await request.Any) own id (packets_with opening id request.Any own packets) heard none comes refl (λ sub e. turn.waits)

  -- ---- the first identity

  module _ (long : length r.context.identity ≡ 33) (first : IsShortIdentity opening.identity) (p : Peer) (waits : WaitsOn opening p (first_text opening.method device keeps (peer_options opening).first) [] 1)
      (way : OnWay set Free number end.Server (with_ends s (first_server opening) p) device keeps (packet_text (identity_response 1 (first_text opening.method device keeps (peer_options opening).first))) 1 next) where
    abbrev o : ServerOptions
    o = server_options opening

    abbrev q : ServerEnd
    q = first_server opening

    abbrev text : List ℕ
    text = first_text opening.method device keeps (peer_options opening).first

    abbrev bytes : List ℕ
    bytes = packet_text (identity_response 1 text)

    abbrev took : ServerTook set Free number (with_ends s q p) device keeps bytes q 1 next
    took = server_takes set Free number (with_ends s q p) device keeps bytes q 1 next refl way

    abbrev told : ToldEvent
    told = took.told

    abbrev does : Row → ServerEnd × Turn ServerWhy
    does x = server_does set took.homes q (text_in told.seen.reading) (packets_after q told.seen x) x told.notes

    abbrev any_or : Bool → Row
    any_or b = if b then row.Ask request.Any else on_any opening.method set took.homes (text_in told.seen.reading)

    -- the text came as it was sent, or it names no context
    as_sent : (sub : ℕ) → context_subscriber opening.method set took.homes (text_in told.seen.reading) ≡ Some sub → WaitsOn opening p (text_in told.seen.reading) [] 1
    as_sent sub e =
        ⊎_elim
        (λ (few : length text ≤ 4091).
        let is = reads_itself laws told.seen (identity_response 1 text) (identity_may 1 text few) refl took.received took.are in subst (λ (t : List ℕ). WaitsOn opening p t [] 1) (sym (ap text_in is.packet_is)) waits)
        (λ (permanent : slice_index text 0 ≡ leading opening.method).
        ⊎_elim
        (λ (none : text_in told.seen.reading ≡ []). absurd (no_text (text_in told.seen.reading) none (named_size opening.method set took.homes (text_in told.seen.reading) sub e)))
        (λ (begins : slice_index (text_in told.seen.reading) 0 ≡ slice_index text 0). absurd (no_permanent opening.method set took.homes (text_in told.seen.reading) sub e (begins ∙ permanent)))
        (first_letter 1 text told.seen.bytes told.seen.reading took.are took.received.reads))
        (known long opening.identity first)

    first_comes : Comes set took.homes q told.seen told.reply o state.AwaitIdentity (text_in told.seen.reading) 1 [] → (b : Bool) → opening.any ≡ b → Leads
    first_comes comes true e =
        let ask = ap any_or e in
        let a = asks set took.homes q told.seen told.reply o state.AwaitIdentity (text_in told.seen.reading) 1 [] request.Any told.notes comes ask in
        let none : resumed_of a.q ≡ None = sym (ap (λ (t : ServerEnd × Turn ServerWhy). resumed_of t.0) a.is) ∙ ap (λ (x : Row). resumed_of (does x).0) (comes.row_is ∙ ask) in
        after_asked long a.q p text [] (next_id 1) none a.expects (waits (next_id 1) (next_differs 1))
        (server_sends set Free Free number (with_ends s q p) device keeps bytes q 1 next took a.q silent (packet_text (aka_identity opening.method (next_id 1) request.Any)) false tt tt a.is)
    first_comes comes false e = after_any q p bytes state.AwaitIdentity (text_in told.seen.reading) 1 [] took refl comes (ap any_or e) as_sent

    after_first : Leads
    after_first =
        ⊎_elim
        (λ (ignored : (cause : Reason) × (server_row set took.homes q told.seen told.reply ≡ row.Ignore cause)).
        absurd (leaves_none (with_ends s q p) q bytes took refl
        (subst (λ (x : Row). Leaves q (does x)) (sym ignored.1) (leaves_ignored set took.homes q (text_in told.seen.reading) (packets_after q told.seen (row.Ignore ignored.0)) ignored.0 told.notes))))
        (λ (comes : Comes set took.homes q told.seen told.reply o state.AwaitIdentity (text_in told.seen.reading) 1 []). first_comes comes opening.any refl)
        (first_received o set took.homes told.seen told.reply text took.received took.are)

  -- ---- the start

  leads : IsShortIdentity opening.identity → OnWay set Free number end.Peer (with_ends s (first_server opening) (new_peer (peer_options opening))) device keeps (first_server opening).last 1 next → Leads
  leads first way =
      let o = peer_options opening in
      let q = first_server opening in
      let text = first_text opening.method device keeps o.first in
      let long = resumed_size set number device next end.Peer (with_ends s q (new_peer o)) q keeps q.last 1 r refl refl way has in
      let took = peer_takes set Free number (with_ends s q (new_peer o)) device keeps q.last 1 next way in
      let told = took.told in
      let is = reads_itself laws told.seen (identity_request 1) (request_may 1) refl took.received took.are in
      let turn = identifies set.key opening device keeps told.seen told.notes.usim told.inner 1 is took.are in
      let kept = ap (λ (x : PeerRow). kept_by x (new_peer o) None keeps) (first_row o told.seen 1 is) in
      after_first long first turn.z turn.waits
      (peer_sends set Free number (with_ends s q (new_peer o)) device keeps q.last 1 1 next took turn.z (noted None) (packet_text (identity_response 1 text)) false quiet kept turn.turn_is (omega arith))

-- ---- the law

pub resumed_succeeds : Laws → EachResumedSessionSucceeds
resumed_succeeds laws set before net next number lines r subscribers real gives has ready =
    let s = ready.own in
    let opening = ready.opening in
    let device = ready.device in
    let keeps = ready.keeps in
    let at' = there_at net number s ready.is in
    let way = starts set Free before net next number at'.place s device keeps 1 lines at'.stands ready.server ready.there ready.stored gives tt tt in
    let by = subst (λ (o : ServerOptions). OnWay set Free number end.Peer (server_new s (started o)) device keeps (started o).last 1 next) ready.options way in
    let new = subst (λ (p : Peer). OnWay set Free number end.Peer (with_ends s (first_server opening) p) device keeps (first_server opening).last 1 next) ready.peer by in
    let (id, renews) = leads set opening number s device keeps next r laws real ready.realm ready.same has ready.first new in
    resumption_succeeds laws set opening number s device keeps r id next real ready.sized ready.same at'.stands.own renews
