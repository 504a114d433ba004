-- For plain sessions: the rounds in which the server asks for an identity, until it challenges the subscriber.
use Rattle.std.specs.Str.{bytes_eq}
use Rattle.std.proofs.Common.{◌-◌, sym, ◌≡◌, ◌⊎◌, ℕ, Bool, true, false, List, [], length, Option, Some, None, refl, ap, ◌∙◌, subst, arith, ⊎_elim, inl, inr, if◌then◌else◌}
use Rattle.auc_lines.specs.declared.part.SessionLine.{SessionLine}
use Rattle.auc_lines.specs.declared.part.End.TheVariants as end
use Rattle.auc_hmac.specs.declared.method.Method.{Method}
use Rattle.auc_ident.specs.Permanent.{username}
use Rattle.auc_packet.specs.Laws.{has_values}
use Rattle.auc_packet.specs.Spelling.{packet_text}
use Rattle.auc_peer.specs.Identities.{asked_text, first_text}
use Rattle.auc_peer.specs.Messages.{identified as identity_answer, identity_response}
use Rattle.auc_peer.specs.Subscription.{identity_text}
use Rattle.auc_peer.specs.Table.{kept_by, new_peer, noted}
use Rattle.auc_peer.specs.declared.rows.Row.{Row as PeerRow}
use Rattle.auc_reauth.specs.Device.{Keeps}
use Rattle.auc_reauth.specs.Server.{if_named}
use Rattle.auc_reauth.specs.Store.{entry}
use Rattle.auc_reauth.specs.declared.context.Context.{Context}
use Rattle.auc_request.specs.declared.identities.IdentityRequest.{IdentityRequest}
use Rattle.auc_request.specs.declared.identities.IdentityRequest.TheVariants as request
use Rattle.auc_seal.specs.Checkcode.{counted}
use Rattle.auc_server.proofs.Facts.{identity_may as asked_may}
use Rattle.auc_server.specs.Contexts.{context_in, found_at}
use Rattle.auc_server.specs.Messages.{aka_identity, identity_request, reauth_bytes}
use Rattle.auc_server.specs.Ordinals.{home_at, home_place}
use Rattle.auc_server.specs.Rounds.{checkcode}
use Rattle.auc_server.specs.Rows.{challenge_or, context_subscriber, if_found, on_any, reauth_subscriber, resume_or, subscriber_in, text_in, with_context_in}
use Rattle.auc_server.specs.Server.{ServerEnd}
use Rattle.auc_subs.specs.Setting.{Setting}
use Rattle.auc_server.specs.Steps.{asking}
use Rattle.auc_server.specs.Table.{homes_after, homes_done, next_id, resuming, silent}
use Rattle.auc_server.specs.declared.rows.Row.{Row}
use Rattle.auc_server.specs.declared.rows.Row.TheVariants as row
use Rattle.auc_server.specs.declared.server.ServerState.{ServerState}
use Rattle.auc_server.specs.declared.server.ServerState.TheVariants as state
use Rattle.auc_server.specs.declared.setting.HomeRow.{HomeRow}
use Rattle.auc_vector.specs.declared.why.ServerWhy.{ServerWhy}
use Rattle.auc_subs.specs.declared.row.Row as rows
use Rattle.auc_vector.specs.declared.notes.Notes.{Notes}
use Rattle.auc_vector.specs.declared.turn.Turn.{Turn}
use Rattle.auc_world.proofs.PlainIdentityLemmas.{asked_size, first_size, permanent_is}
use Rattle.auc_world.proofs.PlainMessageLemmas.{identified_may, identity_may, request_may}
use Rattle.auc_world.proofs.PlainNetLemmas.{OnWay, ServerTook, peer_sends, peer_takes, server_sends, server_stays, server_takes}
use Rattle.auc_world.proofs.PlainPacketLemmas.{reads_itself}
use Rattle.auc_world.proofs.PlainPeerLemmas.{first_row, identifies, identifies_again, identity_row as peer_identity_row, packets_with}
use Rattle.auc_world.proofs.PlainServerLemmas.{IsRound, any_round, asks, challenge_with, challenges_first, first_comes, full_round, identity_comes, identity_row, permanent_round, resumes}
use Rattle.auc_world.proofs.PlainAgainLemmas.{challenges_anyway}
use Rattle.auc_world.proofs.PlainStageLemmas.{Asked, Challenged, IsOf, Offers, Resumes, device_of, first_server, next_differs, with_ends}
use Rattle.auc_world.proofs.PlainToldLemmas.{Again, Early, IsQuiet, IsSizedAt, Late, TellSo, goes_again}
use Rattle.auc_world.specs.Agreement.{AreSized, IsSized}
use Rattle.auc_world.specs.Came.{asked_sub}
use Rattle.auc_record.specs.Event.{number_released}
use Rattle.auc_world.specs.Happened.{peer_options, server_options}
use Rattle.auc_world.specs.Net.{Net}
use Rattle.auc_world.specs.Plain.{IsAskedFor, counter_taken, sqn_reported}
use Rattle.auc_world.specs.declared.net.Session.{Session}

-- ---- the context of an identity

no_sub : (sub : ℕ) → ◌≡◌ {A = Option ℕ} None (Some sub) → ⊥
no_sub sub e = cc

one_sub : (a b : ℕ) → ◌≡◌ {A = Option ℕ} (Some a) (Some b) → a ≡ b
one_sub a b e = cc

pub context_there : (m : Method) (set : Setting) (homes : List HomeRow) (text : List ℕ) (sub : ℕ) → context_subscriber m set homes text ≡ Some sub → (c : Context) × (context_in m text homes sub ≡ Some c)
context_there m set homes text sub e = by (reauth_subscriber m set homes text) e
  where
    found_in : (at' : ℕ) (c : Option Context) → context_in m text homes at' ≡ c → if_found at' c ≡ Some sub → (c : Context) × (context_in m text homes sub ≡ Some c)
    found_in at' None is e = absurd (no_sub sub e)
    found_in at' (Some c) is e = (c, subst (λ (i : ℕ). context_in m text homes i ≡ Some c) (one_sub at' sub e) is)

    by : (o : Option ℕ) → with_context_in m homes text o ≡ Some sub → (c : Context) × (context_in m text homes sub ≡ Some c)
    by None e = absurd (no_sub sub e)
    by (Some at') e = found_in at' (context_in m text homes at') refl e

no_context : (c : Context) → ◌≡◌ {A = Option Context} None (Some c) → ⊥
no_context c e = cc

named_is : (name : List ℕ) (own : Option Context) (c : Context) → if_named name own ≡ Some c → own ≡ Some c
named_is name None c e = absurd (no_context c e)
named_is name (Some own) c e = by (bytes_eq own.identity name) e
  where
    by : (b : Bool) → (if b then Some own else None) ≡ Some c → Some own ≡ Some c
    by true e = e
    by false e = absurd (no_context c e)

-- it has the sizes of one
context_sized : (m : Method) (text : List ℕ) (homes : List HomeRow) (sub : ℕ) (c : Context) → AreSized homes → context_in m text homes sub ≡ Some c → IsSized c
context_sized m text homes sub c sized e = by (home_place homes sub) e
  where
    by : (place : Option ℕ) → found_at m text homes place ≡ Some c → IsSized c
    by None e = absurd (no_context c e)
    by (Some place) e = sized m place c (named_is (username text) (entry m (home_at homes place).store) c e)

-- ---- the peer's identities

-- nothing is noted
quiet : IsQuiet (noted None)
quiet = record { resumed = refl; drawn = refl; taken = refl }

identified : (set : Setting) (opening : SessionLine) (number : ℕ) (s : Session) (home : rows.Row) (keeps : Keeps) (next : Net) → IsOf set opening s.sub home keeps
    → OnWay set Early number end.Peer (with_ends s (first_server opening) (new_peer (peer_options opening))) (device_of set home) keeps (first_server opening).last 1 next
    → Offers set opening number s home keeps state.AwaitIdentity (first_text opening.method (device_of set home) keeps (peer_options opening).first) 1 next
identified set opening number s home keeps next of way =
    let device = device_of set home in
    let o = peer_options opening in
    let q = first_server opening in
    let text = first_text opening.method device keeps o.first in
    let short = first_size opening.method device keeps opening.identity of.is_row.identity.most of.realm.short of.pseudonym of.context of.suits.own in
    let may = identity_may 1 text (omega (arith, short)) in
    let took = peer_takes set Early number (with_ends s q (new_peer o)) device keeps q.last 1 next way in
    let told = took.told in
    let is = reads_itself of.laws told.seen (identity_request 1) (request_may 1) refl took.received took.are in
    let turn = identifies set.key opening device keeps told.seen told.notes.usim told.inner 1 is took.are in
    let same = ap (λ (r : PeerRow). kept_by r (new_peer o) None keeps) (first_row o told.seen 1 is) in
    record {
      q = q;
      p = turn.z;
      packets = [];
      bytes = packet_text (identity_response 1 text);
      waits = turn.waits;
      comes = λ homes seen said received are. first_comes set homes q seen said (server_options opening) text 1 [] (record { options_are = refl; state_is = refl; id_is = refl; packets_are = refl; synced_is = refl })
          (reads_itself of.laws seen (identity_response 1 text) may refl received are);
      way = peer_sends set Early number (with_ends s q (new_peer o)) device keeps q.last 1 1 next took turn.z (noted None) (packet_text (identity_response 1 text)) false quiet same turn.turn_is (omega arith);
    }

round_of : (kind : IdentityRequest) → IsRound (state.Await kind)
round_of request.Any = any_round
round_of request.Fullauth = full_round
round_of request.Permanent = permanent_round

asked_values : (m : Method) (id : ℕ) (kind : IdentityRequest) → has_values (aka_identity m id kind) ≡ true
asked_values m id request.Any = refl
asked_values m id request.Fullauth = refl
asked_values m id request.Permanent = refl

answered : (set : Setting) (opening : SessionLine) (number : ℕ) (s : Session) (home : rows.Row) (keeps : Keeps) (kind : IdentityRequest) (id : ℕ) (next : Net) → IsOf set opening s.sub home keeps
    → Asked set opening number s home keeps kind id next → Offers set opening number s home keeps (state.Await kind) (asked_text opening.method (device_of set home) keeps kind) id next
answered set opening number s home keeps kind id next of a =
    let device = device_of set home in
    let m = opening.method in
    let request = aka_identity m id kind in
    let text = asked_text m device keeps kind in
    let answer = identity_answer m id text in
    let may = identified_may m id text (asked_size m device keeps kind of.is_row.identity.most of.realm.short of.pseudonym of.context) in
    let took = peer_takes set Early number (with_ends s a.q a.p) device keeps (packet_text request) 1 next a.way in
    let told = took.told in
    let is = reads_itself of.laws told.seen request (asked_may m id kind) (asked_values m id kind) took.received took.are in
    let turn = identifies_again set.key opening device keeps a.p told.seen told.notes.usim told.inner a.text a.packets id kind (asked_may m id kind) a.waits is took.are in
    let same = ap (λ (r : PeerRow). kept_by r a.p None keeps) (peer_identity_row opening a.p told.seen a.text a.packets id kind a.waits is took.are) in
    record {
      q = a.q;
      p = turn.z;
      packets = packets_with opening id kind text a.packets;
      bytes = packet_text answer;
      waits = turn.waits;
      comes = λ homes seen said received are. identity_comes set homes a.q seen said (server_options opening) (state.Await kind) text id (counted (packet_text request) a.packets) (round_of kind) a.expects may
          (reads_itself of.laws seen answer may refl received are) are;
      way = peer_sends set Early number (with_ends s a.q a.p) device keeps (packet_text request) 1 1 next took turn.z (noted None) (packet_text answer) false quiet same turn.turn_is (omega arith);
    }

-- ---- what the server does with one

module _ (set : Setting) (opening : SessionLine) (number : ℕ) (s : Session) (home : rows.Row) (keeps : Keeps) (next : Net) (of : IsOf set opening s.sub home keeps) where
  took_of : (now : ServerState) (text : List ℕ) (id : ℕ) (o : Offers set opening number s home keeps now text id next) → ServerTook set Early number (with_ends s o.q o.p) (device_of set home) keeps o.bytes o.q 1 next
  took_of now text id o = server_takes set Early number (with_ends s o.q o.p) (device_of set home) keeps o.bytes o.q 1 next refl o.way

  asks_on : (now : ServerState) (text : List ℕ) (id : ℕ) (o : Offers set opening number s home keeps now text id next) (kind : IdentityRequest)
      → identity_row now (server_options opening) set (took_of now text id o).homes text ≡ row.Ask kind → Asked set opening number s home keeps kind (next_id id) next
  asks_on now text id o kind ask =
      let took = took_of now text id o in
      let told = took.told in
      let comes = o.comes took.homes told.seen told.reply took.received took.are in
      let a = asks set took.homes o.q told.seen told.reply (server_options opening) now text id o.packets kind told.notes comes ask in
      let own : told.notes ≡ silent = took.notes ∙ ap (λ (t : ServerEnd × Turn ServerWhy). t.1.notes) a.is in
      let stay : homes_after set took.homes o.q told.seen told.reply told.notes ≡ took.homes =
      ap (λ (r : Row). homes_done took.homes o.q (text_in told.seen.reading) r told.notes) (comes.row_is ∙ ask) in
      record {
        q = a.q;
        p = o.p;
        text = text;
        packets = o.packets;
        expects = a.expects;
        waits = o.waits (next_id id) (next_differs id);
        way = server_sends set Early Early number (with_ends s o.q o.p) (device_of set home) keeps o.bytes o.q 1 next took a.q silent (packet_text (aka_identity opening.method (next_id id) kind)) false
            (server_stays set Early number (with_ends s o.q o.p) (device_of set home) keeps o.bytes o.q 1 next took (subst IsQuiet (sym own) quiet)) (subst (λ (h : List HomeRow). IsSizedAt Early h s.sub) (sym stay) took.sized) a.is;
      }

  challenges_on : (now : ServerState) (text : List ℕ) (id : ℕ) (o : Offers set opening number s home keeps now text id next) (sub : ℕ)
      → identity_row now (server_options opening) set (took_of now text id o).homes text ≡ row.Challenge sub → Challenged set opening number s home keeps (next_id id) false 1 next
  challenges_on now text id o sub challenge =
      let took = took_of now text id o in
      let told = took.told in
      let comes = o.comes took.homes told.seen told.reply took.received took.are in
      let own : sub ≡ s.sub = subst (λ (r : Row). IsAskedFor s.sub (asked_sub (asking r))) (comes.row_is ∙ challenge) took.spare.own in
      let c = challenges_first set took.homes o.q told.seen told.reply (server_options opening) now text id o.packets s.sub home told.notes comes (challenge ∙ ap (λ (i : ℕ). row.Challenge i) own) of.there took.centre
      took.spare.given in
      record {
        q = c.q;
        p = o.p;
        text = text;
        packets = o.packets;
        n = c.n;
        given = c.given;
        names = c.names;
        awaits = c.awaits;
        waits = o.waits (next_id id) (next_differs id);
        way = server_sends set Early Late number (with_ends s o.q o.p) (device_of set home) keeps o.bytes o.q 1 next took c.q c.notes
            (challenge_with set (server_options opening) s.sub home text (next_id id) c.n c.given o.packets) c.checked took.spare.later tt c.is;
      }

  -- a context is taken up again
  resumes_on : (now : ServerState) (text : List ℕ) (id : ℕ) (o : Offers set opening number s home keeps now text id next) (sub : ℕ)
      → identity_row now (server_options opening) set (took_of now text id o).homes text ≡ row.Resume sub → context_subscriber opening.method set (took_of now text id o).homes text ≡ Some sub
      → Resumes set opening number s home keeps (next_id id) next
  resumes_on now text id o sub resume from =
      let took = took_of now text id o in
      let told = took.told in
      let comes = o.comes took.homes told.seen told.reply took.received took.are in
      let (c, has) = context_there opening.method set took.homes text sub from in
      let r = resumes set took.homes o.q told.seen told.reply (server_options opening) now text id o.packets sub c told.notes comes resume has in
      let own : told.notes ≡ resuming c.counter = took.notes ∙ ap (λ (t : ServerEnd × Turn ServerWhy). t.1.notes) r.is in
      let noted = took.noted ∙ own in
      let tell = goes_again s.sub 1 c.counter took.e took.note took.lines (ap (λ (n : Notes). n.resumed) noted) (ap (λ (n : Notes). number_released n.number) noted) (ap (λ (n : Notes). counter_taken n.counter) noted) took.tell in
      record {
        q = r.q;
        p = o.p;
        text = text;
        packets = o.packets;
        r = r.r;
        sized = subst IsSized (sym r.of) (context_sized opening.method text took.homes sub c took.sized.0 has);
        nonce = r.nonce;
        name = r.name;
        iv = r.iv;
        block = r.block;
        awaits = r.awaits;
        waits = o.waits (next_id id) (next_differs id);
        way = server_sends set Early Again number (with_ends s o.q o.p) (device_of set home) keeps o.bytes o.q 1 next took r.q (resuming c.counter)
            (reauth_bytes opening.method set.realm (next_id id) r.iv r.r (checkcode opening.method o.packets)) false
            (subst (λ (n : Notes). TellSo Again s.sub (1 - length (sqn_reported n.usim)) took.lines) took.noted tell) tt r.is;
      }

  -- the first challenge, under some Identifier
  abbrev pub Leads : Type 0
  Leads = (id : ℕ) × Challenged set opening number s home keeps id false 1 next

  either : (other : Row) (found : Option ℕ) → (challenge_or other found ≡ other) ⊎ ((sub : ℕ) × (challenge_or other found ≡ row.Challenge sub))
  either other None = inl refl
  either other (Some sub) = inr (sub, refl)

  after_permanent : (id : ℕ) → Offers set opening number s home keeps (state.Await request.Permanent) (identity_text opening.method (device_of set home)) id next → Leads
  after_permanent id o =
      let device = device_of set home in
      let text = identity_text opening.method device in
      let took = took_of (state.Await request.Permanent) text id o in
      let found = permanent_is of.laws opening.method set took.homes s.sub home device of.subscribers of.there refl took.sized.1 in
      (next_id id, challenges_on (state.Await request.Permanent) text id o s.sub (ap (challenge_or row.UnknownIdentity) found))

  after_full : (text : List ℕ) (id : ℕ) → Offers set opening number s home keeps (state.Await request.Fullauth) text id next → Leads
  after_full text id o =
      let took = took_of (state.Await request.Fullauth) text id o in
      ⊎_elim
      (λ (ask : challenge_or (row.Ask request.Permanent) (subscriber_in opening.method set took.homes text) ≡ row.Ask request.Permanent).
      after_permanent (next_id id) (answered set opening number s home keeps request.Permanent (next_id id) next of (asks_on (state.Await request.Fullauth) text id o request.Permanent ask)))
      (λ (c : (sub : ℕ) × (challenge_or (row.Ask request.Permanent) (subscriber_in opening.method set took.homes text) ≡ row.Challenge sub)).
      (next_id id, challenges_on (state.Await request.Fullauth) text id o c.0 c.1))
      (either (row.Ask request.Permanent) (subscriber_in opening.method set took.homes text))

  resume_cases : (other : Row) (found : Option ℕ) → (resume_or other found ≡ other) ⊎ ((sub : ℕ) × (found ≡ Some sub) × (resume_or other found ≡ row.Resume sub))
  resume_cases other None = inl refl
  resume_cases other (Some sub) = inr (sub, refl, refl)

  -- a row that takes a context up again, challenges a subscriber, or asks for an identity for full authentication
  after_any_by : (now : ServerState) (text : List ℕ) (id : ℕ) (o : Offers set opening number s home keeps now text id next)
      → identity_row now (server_options opening) set (took_of now text id o).homes text ≡ on_any opening.method set (took_of now text id o).homes text → Leads
  after_any_by now text id o is =
      let found = subscriber_in opening.method set (took_of now text id o).homes text in
      let kept = context_subscriber opening.method set (took_of now text id o).homes text in
      let other : Row = row.Ask request.Fullauth in
      ⊎_elim
      (λ (none : resume_or (challenge_or other found) kept ≡ challenge_or other found).
      ⊎_elim
      (λ (ask : challenge_or other found ≡ other).
      let a = answered set opening number s home keeps request.Fullauth (next_id id) next of (asks_on now text id o request.Fullauth (is ∙ none ∙ ask)) in
      after_full (asked_text opening.method (device_of set home) keeps request.Fullauth) (next_id id) a)
      (λ (c : (sub : ℕ) × (challenge_or other found ≡ row.Challenge sub)). (next_id id, challenges_on now text id o c.0 (is ∙ none ∙ c.1)))
      (either other found))
      (λ (c : (sub : ℕ) × (kept ≡ Some sub) × (resume_or (challenge_or other found) kept ≡ row.Resume sub)).
      (next_id (next_id id), challenges_anyway set opening number s home keeps (next_id id) next of (resumes_on now text id o c.0 (is ∙ c.2) c.1)))
      (resume_cases (challenge_or other found) kept)

  after_first : (text : List ℕ) (o : Offers set opening number s home keeps state.AwaitIdentity text 1 next) → Leads
  after_first text o = by opening.any refl
    where
      any_or : Bool → Row
      any_or b = if b then row.Ask request.Any else on_any opening.method set (took_of state.AwaitIdentity text 1 o).homes text

      by : (b : Bool) → opening.any ≡ b → Leads
      by true e =
          let a = answered set opening number s home keeps request.Any (next_id 1) next of (asks_on state.AwaitIdentity text 1 o request.Any (ap any_or e)) in
          after_any_by (state.Await request.Any) (asked_text opening.method (device_of set home) keeps request.Any) (next_id 1) a refl
      by false e = after_any_by state.AwaitIdentity text 1 o (ap any_or e)

  -- the server challenges the subscriber in the end
  pub challenged : OnWay set Early number end.Peer (with_ends s (first_server opening) (new_peer (peer_options opening))) (device_of set home) keeps (first_server opening).last 1 next → Leads
  challenged way = after_first (first_text opening.method (device_of set home) keeps (peer_options opening).first) (identified set opening number s home keeps next of way)
