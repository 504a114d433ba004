-- For plain sessions: a re-authentication that was sent leads to a challenge, if a number is drawn and no counter is accepted.
use Rattle.std.proofs.Common.{◌≡◌, ℕ, zero, suc, ◌-◌, ◌≤◌, Bool, true, false, not, if◌then◌else◌, List, [], ◌∷◌, length, Option, Some, None, refl, sym, ap, ◌∙◌, subst, arith, ⊎_elim}
use Rattle.std.specs.List.{list_all}
use Rattle.std.specs.Prelude.{slice_index}
use Rattle.auc_attr.specs.Laws.{is_value}
use Rattle.auc_attr.specs.Spelling.{fits, fits_item, item_text, shape_text, spelling, writable}
use Rattle.auc_attr.specs.Table.{row_of}
use Rattle.auc_attr.specs.declared.attr.Attr.TheVariants as attr
use Rattle.auc_hmac.specs.declared.method.Method.{Method}
use Rattle.auc_hmac.specs.declared.method.Method.TheVariants as method
use Rattle.auc_lines.specs.declared.part.End.{End}
use Rattle.auc_lines.specs.declared.part.End.TheVariants as end
use Rattle.auc_lines.specs.declared.part.SessionLine.{SessionLine}
use Rattle.auc_aes.specs.Bytes.{IsBlock}
use Rattle.auc_packet.specs.Messages.{is_missing}
use Rattle.auc_packet.specs.Received.{Seen, attrs_in, is_sealed}
use Rattle.auc_packet.specs.Sealed.{MayBeSealed, draft_mac, sealed, with_mac}
use Rattle.auc_packet.specs.Spelling.{MayBeWritten, packet_text}
use Rattle.auc_packet.specs.declared.received.Reading.TheVariants as reading
use Rattle.auc_packet.specs.declared.subtype.Subtype.TheVariants as subtype
use Rattle.auc_peer.specs.Attributes.{checkcode as code_in, id_in, id_of}
use Rattle.auc_peer.specs.Messages.{client_error}
use Rattle.auc_peer.specs.Rows.{peer_row, waiting}
use Rattle.auc_peer.specs.Subscription.{Subscription}
use Rattle.auc_peer.specs.Table.{by_counter, client, context_of, counter_bytes, counter_noted, disclosed, kept_by, noted, own_code, peer_does, peer_step, reauthenticated, resumed_by, resuming, small, taken, with_inner}
use Rattle.auc_peer.specs.Told.{ToldSession}
use Rattle.auc_peer.specs.declared.decrypted.Decrypted.{Decrypted}
use Rattle.auc_peer.specs.declared.decrypted.Decrypted.TheVariants as decrypted
use Rattle.auc_peer.specs.declared.peer.Peer.{Peer}
use Rattle.auc_peer.specs.declared.rows.Row.{Row as PeerRow}
use Rattle.auc_peer.specs.declared.rows.Row.TheVariants as peer_rows
use Rattle.auc_seal.specs.Checkcode.{differs as differs_own}
use Rattle.auc_vector.specs.declared.why.PeerWhy.{PeerWhy}
use Rattle.auc_vector.specs.declared.why.PeerWhy.TheVariants as why
use Rattle.auc_reauth.specs.Device.{Keeps, is_open}
use Rattle.auc_reauth.specs.Store.{entry}
use Rattle.auc_reauth.specs.declared.context.Context.{Context}
use Rattle.auc_server.proofs.Facts.{is_small, reauth_encryptable, reauth_may}
use Rattle.auc_server.specs.InnerMessages.{IsName}
use Rattle.auc_server.specs.Messages.{reauth_bytes, reauth_draft, reauth_in}
use Rattle.auc_server.specs.Rounds.{checkcode}
use Rattle.auc_server.specs.Rows.{on_method, server_row}
use Rattle.auc_server.specs.Server.{ServerEnd}
use Rattle.auc_subs.specs.Setting.{Setting}
use Rattle.auc_server.specs.Steps.{asking}
use Rattle.auc_server.specs.Table.{next_id, server_step}
use Rattle.auc_server.specs.declared.options.ServerOptions.{ServerOptions}
use Rattle.auc_server.specs.declared.reply.Reply.{Reply}
use Rattle.auc_server.specs.declared.rows.Row.{Row}
use Rattle.auc_server.specs.declared.rows.Row.TheVariants as row
use Rattle.auc_server.specs.declared.server.Resumed.{Resumed}
use Rattle.auc_server.specs.declared.server.ServerState.TheVariants as state
use Rattle.auc_server.specs.declared.setting.HomeRow.{HomeRow}
use Rattle.auc_subs.specs.declared.row.Row as rows
use Rattle.auc_vector.specs.declared.notes.CounterNote.{CounterNote}
use Rattle.auc_vector.specs.declared.notes.CounterNote.TheVariants as counts
use Rattle.auc_vector.specs.declared.notes.Notes.{Notes}
use Rattle.auc_vector.specs.declared.turn.Turn.{Turn}
use Rattle.auc_world.proofs.PlainDeadLemmas.{IsRefused, closed_turn, is_closed, peer_notes, refused_or_small}
use Rattle.auc_world.proofs.PlainKeyLemmas.{checkcode_hash}
use Rattle.auc_world.proofs.PlainNetLemmas.{Goes, OnWay, ServerTook, peer_new, peer_sends, peer_stays, peer_takes, peer_takes_all, server_new, server_sends, server_stays, server_takes, server_takes_all}
use Rattle.auc_world.proofs.PlainPacketLemmas.{Is, Laws, reads_itself, reads_sealed}
use Rattle.auc_world.proofs.PlainPeerLemmas.{Waits, WaitsOn, awaited, other_id}
use Rattle.auc_world.proofs.PlainServerLemmas.{AwaitsReply, IsLater, awaited as server_awaited, challenge_with, challenges_small}
use Rattle.auc_world.proofs.PlainStageLemmas.{Challenged, IsOf, Resumes, device_of, next_differs, with_ends}
use Rattle.auc_world.proofs.PlainToldLemmas.{Again, IsQuiet, Late, TellSo, accepts_none, draws_one}
use Rattle.auc_world.specs.Came.{asked_sub}
use Rattle.auc_world.specs.Agreement.{IsRealm, IsSized}
use Rattle.auc_record.specs.Event.{number_released}
use Rattle.auc_world.specs.Given.{RelayGives}
use Rattle.auc_world.specs.Happened.{kept_after, peer_options, sent_by, server_options}
use Rattle.auc_world.specs.Net.{Net}
use Rattle.auc_world.specs.Plain.{IsAskedFor, counter_taken, sqn_reported}
use Rattle.auc_world.specs.declared.net.Session.{Session}
use Rattle.auc_record.specs.declared.record.LineRecord.{LineRecord}

-- ---- a server that has refused, and lines that tell of a number

sends_none : (bytes : List ℕ) → ◌≡◌ {A = Option (List ℕ)} (Some bytes) None → ⊥
sends_none bytes e = cc

-- what is sent is on its way with just the lines that are left
goes_nowhere : (set : Setting) (number : ℕ) (to : End) (s : Session) (device : Subscription) (keeps : Keeps) (left n : ℕ) (lines : List LineRecord) (next : Net) (sent : Option (List ℕ))
    → Goes set Again number to s device keeps sent left lines next → TellSo Again s.sub left lines → length lines ≤ n
    → ((bytes : List ℕ) → sent ≡ Some bytes → (o : OnWay set Again number to s device keeps bytes left next) → length o.lines ≤ n → ⊥) → ⊥
goes_nowhere set number to s device keeps left n lines next None goes tell few rec = draws_one s.sub left (subst (TellSo Again s.sub left) goes.1 tell)
goes_nowhere set number to s device keeps left n lines next (Some bytes) (o, e) tell few rec =
    rec bytes refl o (subst (λ (l : List LineRecord). length l ≤ n) (sym e) few)

no_line : (set : Setting) (number : ℕ) (to : End) (s : Session) (device : Subscription) (keeps : Keeps) (bytes : List ℕ) (syncs : ℕ) (next : Net) (o : OnWay set Again number to s device keeps bytes syncs next)
    → length o.lines ≤ 0 → ⊥
no_line set number to s device keeps bytes syncs next o few = by o.lines o.gives few
  where
    by : (lines : List LineRecord) → RelayGives set o.before o.w number to (Some o.packet) lines next → length lines ≤ 0 → ⊥
    by [] gives few = gives
    by (line ∷ lines) gives few = omega (arith, few)

dead : (set : Setting) (number : ℕ) (device : Subscription) (next : Net) (n : ℕ) (to : End) (s : Session) (q : ServerEnd) (keeps : Keeps) (bytes : List ℕ) (syncs : ℕ) → s.server ≡ Some q → is_closed q.state ≡ true
    → (o : OnWay set Again number to s device keeps bytes syncs next) → length o.lines ≤ n → ⊥
dead set number device next zero to s q keeps bytes syncs is closed o few = no_line set number to s device keeps bytes syncs next o few
dead set number device next (suc n) end.Server s q keeps bytes syncs is closed o few =
    let (took, long) = server_takes_all set Again number s device keeps bytes q syncs next is o in
    let told = took.told in
    let turn = server_step set took.homes q told.seen told.reply told.notes in
    let refused = closed_turn set took.homes q told.seen told.reply told.notes closed in
    let tell = server_stays set Again number s device keeps bytes q syncs next took (subst IsQuiet (sym took.notes) refused.quiet) in
    let left = syncs - length (sqn_reported told.notes.usim) in
    goes_nowhere set number end.Peer (server_new s turn.0) device keeps left n took.lines next (sent_by turn.1.step) (took.goes Again turn refl tell tt) tell (omega (arith, long, few))
    (λ answer sent way less. ⊎_elim
    (λ (none : sent_by turn.1.step ≡ None). sends_none answer (sym sent ∙ none))
    (λ (still : is_closed turn.0.state ≡ true). dead set number device next n end.Peer (server_new s turn.0) turn.0 keeps answer left refl still way less) refused.closes)
dead set number device next (suc n) end.Peer s q keeps bytes syncs is closed o few =
    let (took, long) = peer_takes_all set Again number s device keeps bytes syncs next o in
    let told = took.told in
    let turn = peer_step set.key device keeps s.peer told.seen told.notes.usim told.inner in
    let none = peer_notes set.key device keeps s.peer told.seen (peer_row s.peer told.seen) told.notes.usim told.inner in
    let left = syncs - length (sqn_reported told.notes.usim) in
    let kept = kept_after keeps s told turn.1 in
    let on : counter_taken turn.1.notes.counter ≡ [] → ⊥ = λ taken_none.
    let quiet : IsQuiet turn.1.notes = record { resumed = none.0; drawn = ap number_released none.1; taken = taken_none } in
    let tell = peer_stays set Again number s device keeps bytes syncs next took (subst IsQuiet (sym took.notes) quiet) in
    goes_nowhere set number end.Server (peer_new s turn) device kept left n took.lines next (sent_by turn.1.step) (took.goes turn refl tell) tell (omega (arith, long, few))
    (λ answer sent way less. dead set number device next n end.Server (peer_new s turn) q kept answer left is closed way less) in
    counted (turn.1.notes.counter) on
    (λ counter taken. accepts_none s.sub syncs counter took.e took.note took.lines (ap (λ (n : Notes). counter_taken n.counter) (took.noted ∙ took.notes) ∙ taken) took.tell)
  where
    counted : (c : Option CounterNote) → (counter_taken c ≡ [] → ⊥) → ((counter : ℕ) → counter_taken c ≡ counter ∷ [] → ⊥) → ⊥
    counted None none some = none refl
    counted (Some (counts.Taken counter)) none some = some counter refl
    counted (Some (counts.Small counter)) none some = none refl

-- a server that has refused contradicts that a number is drawn
pub closes_wrongly : (set : Setting) (number : ℕ) (device : Subscription) (next : Net) (to : End) (s : Session) (q : ServerEnd) (keeps : Keeps) (bytes : List ℕ) (syncs : ℕ) → s.server ≡ Some q → is_closed q.state ≡ true
    → OnWay set Again number to s device keeps bytes syncs next → ⊥
closes_wrongly set number device next to s q keeps bytes syncs is closed o = dead set number device next (length o.lines) to s q keeps bytes syncs is closed o (omega arith)

-- ---- the request is received

pub bytes_are : (m : Method) (realm : List ℕ) (id : ℕ) (iv : List ℕ) (r : Resumed) (check : List ℕ) → reauth_bytes m realm id iv r check ≡ sealed r.context.k_aut [] (reauth_draft m realm id iv r check)
unfolding reauth_bytes
bytes_are m realm id iv r check = refl

pub second_is : (m : Method) (realm : List ℕ) (id : ℕ) (iv : List ℕ) (r : Resumed) (check : List ℕ) → slice_index (reauth_bytes m realm id iv r check) 1 ≡ id
unfolding reauth_bytes
second_is m realm id iv r check = refl

pub reauth_values : (m : Method) (realm : List ℕ) (id : ℕ) (iv : List ℕ) (r : Resumed) (check : List ℕ) → list_all is_value (reauth_draft m realm id iv r check).attrs ≡ true
reauth_values m realm id iv r check = refl

-- it may be sent
pub request_may : Laws → (m : Method) (realm : List ℕ) (id : ℕ) (iv : List ℕ) (r : Resumed) (packets : List (List ℕ)) → IsRealm realm → IsSized r.context → IsBlock r.nonce → IsName r.next → IsBlock iv
    → MayBeSealed (reauth_draft m realm id iv r (checkcode m packets))
request_may laws m realm id iv r packets real sized nonce name block =
    reauth_may m realm id iv r (checkcode m packets)
    (is_small laws.may_be_hidden r.context.k_encr iv (reauth_in realm r) sized.k_encr block (reauth_encryptable realm r real.short real.bytes nonce.size nonce.bytes name)) (checkcode_hash m packets)

-- its row
sound_row : (o : ToldSession) (m : Method) (realm : List ℕ) (id : ℕ) (iv : List ℕ) (r : Resumed) (check mac : List ℕ)
    → waiting (record o { method = m }) (reading.Read (with_mac (reauth_draft m realm id iv r check) mac)) ≡ peer_rows.Reauthentication
sound_row o method.Aka realm id iv r check mac = refl
sound_row o method.Prime realm id iv r check mac = refl

pub again_row : (opening : SessionLine) (p : Peer) (seen : Seen) (text : List ℕ) (packets : List (List ℕ)) (id : ℕ) (realm iv : List ℕ) (r : Resumed) (check mac : List ℕ) → Waits opening p text packets id
    → Is seen (with_mac (reauth_draft opening.method realm id iv r check) mac) → slice_index seen.bytes 1 ≡ id → peer_row p seen ≡ peer_rows.Reauthentication
again_row opening p seen text packets id realm iv r check mac w is second =
    awaited opening p seen text packets id w is.head second ∙ ap (waiting (peer_options opening)) is.packet_is ∙ sound_row (peer_options opening) opening.method realm id iv r check mac

-- ---- what comes of it at the peer

-- a turn that sends nothing; that refuses; that accepts the counter; or that says that it is too small
pub data Outcome (key : List ℕ) (p : Peer) (seen : Seen) (turn : Peer × Turn PeerWhy) : Type 0 where
  Nothing : sent_by turn.1.step ≡ None → IsQuiet turn.1.notes → Outcome key p seen turn
  Refuses : (q : Peer) (cause : PeerWhy) (checked : Bool) → q.options ≡ p.options → turn ≡ client q seen cause None checked → Outcome key p seen turn
  Accepts : (counter : ℕ) → turn.1.notes.counter ≡ Some (counts.Taken counter) → Outcome key p seen turn
  IsSmall : (c : Context) (inner : Decrypted) (counter : ℕ) (nonce : List ℕ) → turn ≡ small key (with_inner (resuming p c) inner) seen c counter nonce → Outcome key p seen turn

outcome_if : (key : List ℕ) (p : Peer) (seen : Seen) (b : Bool) (x y : Peer × Turn PeerWhy) → Outcome key p seen x → Outcome key p seen y → Outcome key p seen (if b then x else y)
outcome_if key p seen true x y one two = one
outcome_if key p seen false x y one two = two

by_counted : (key : List ℕ) (keeps : Keeps) (p : Peer) (seen : Seen) (c : Context) (inner : Decrypted) (identity : Option (List ℕ)) (counter : Option ℕ) (nonce : Option (List ℕ))
    → Outcome key p seen (by_counter key keeps (with_inner (resuming p c) inner) seen c identity counter nonce)
by_counted key keeps p seen c inner identity None fresh = Refuses (with_inner (resuming p c) inner) why.Undecryptable true refl refl
by_counted key keeps p seen c inner identity (Some counter) None = Refuses (with_inner (resuming p c) inner) why.Undecryptable true refl refl
by_counted key keeps p seen c inner identity (Some counter) (Some nonce) =
    let a = with_inner (resuming p c) inner in
    outcome_if key p seen (is_open counter (entry p.options.method keeps.contexts)) (taken key a seen c identity counter nonce) (small key a seen c counter nonce) (Accepts counter refl) (IsSmall c inner counter nonce refl)

by_inner : (key : List ℕ) (keeps : Keeps) (p : Peer) (seen : Seen) (c : Context) (inner : Decrypted) → Outcome key p seen (disclosed key keeps (with_inner (resuming p c) inner) seen c inner)
by_inner key keeps p seen c decrypted.Unreadable = Refuses (with_inner (resuming p c) decrypted.Unreadable) why.Undecryptable true refl refl
by_inner key keeps p seen c (decrypted.Attributes given) = by_counted key keeps p seen c (decrypted.Attributes given) given.identity given.counter given.nonce

by_context : (key : List ℕ) (keeps : Keeps) (p : Peer) (seen : Seen) (c : Option Context) (inner : Decrypted) → Outcome key p seen (resumed_by key keeps p seen c inner)
by_context key keeps p seen None inner = Nothing refl (record { resumed = refl; drawn = refl; taken = refl })
by_context key keeps p seen (Some c) inner =
    let a = resuming p c in
    let last = if differs_own (own_code a) (code_in seen) then client a seen why.WrongCheckcode None true else disclosed key keeps (with_inner a inner) seen c inner in
    let genuine = if not (is_sealed p.options.method c.k_aut [] seen) then client p seen why.WrongMac None false else last in
    outcome_if key p seen (is_missing subtype.Reauthentication true (attrs_in seen.reading)) (client p seen why.Missing None false) genuine (Refuses p why.Missing false refl refl)
    (outcome_if key p seen (not (is_sealed p.options.method c.k_aut [] seen)) (client p seen why.WrongMac None false) last (Refuses p why.WrongMac false refl refl)
    (outcome_if key p seen (differs_own (own_code a) (code_in seen)) (client a seen why.WrongCheckcode None true) (disclosed key keeps (with_inner a inner) seen c inner) (Refuses a why.WrongCheckcode true refl refl)
    (by_inner key keeps p seen c inner)))

pub outcome : (key : List ℕ) (keeps : Keeps) (p : Peer) (seen : Seen) (inner : Decrypted) → Outcome key p seen (reauthenticated key keeps p seen inner)
outcome key keeps p seen inner = by_context key keeps p seen (context_of keeps p) inner

outcome_case : {A : Type 0} (key : List ℕ) (p : Peer) (seen : Seen) (turn : Peer × Turn PeerWhy) → Outcome key p seen turn
    → (sent_by turn.1.step ≡ None → IsQuiet turn.1.notes → A)
    → ((q : Peer) (cause : PeerWhy) (checked : Bool) → q.options ≡ p.options → turn ≡ client q seen cause None checked → A)
    → ((counter : ℕ) → turn.1.notes.counter ≡ Some (counts.Taken counter) → A)
    → ((c : Context) (inner : Decrypted) (counter : ℕ) (nonce : List ℕ) → turn ≡ small key (with_inner (resuming p c) inner) seen c counter nonce → A) → A
outcome_case key p seen turn (Nothing none quiet) nothing refuses accepts too_small = nothing none quiet
outcome_case key p seen turn (Refuses q cause checked same is) nothing refuses accepts too_small = refuses q cause checked same is
outcome_case key p seen turn (Accepts counter is) nothing refuses accepts too_small = accepts counter is
outcome_case key p seen turn (IsSmall c inner counter nonce is) nothing refuses accepts too_small = too_small c inner counter nonce is

quiet_notes : IsQuiet (noted None)
quiet_notes = record { resumed = refl; drawn = refl; taken = refl }

quiet_small : {counter : ℕ} → IsQuiet (counter_noted (counts.Small counter))
quiet_small = record { resumed = refl; drawn = refl; taken = refl }

-- ---- the challenge

-- a server that refuses contradicts that a number is drawn
refused_ends : (set : Setting) (number : ℕ) (device : Subscription) (next : Net) (s : Session) (q : ServerEnd) (keeps : Keeps) (bytes : List ℕ) (syncs : ℕ) (took : ServerTook set Again number s device keeps bytes q syncs next)
    → IsRefused (server_step set took.homes q took.told.seen took.told.reply took.told.notes) → ⊥
refused_ends set number device next s q keeps bytes syncs took refused =
    let told = took.told in
    let turn = server_step set took.homes q told.seen told.reply told.notes in
    let tell = server_stays set Again number s device keeps bytes q syncs next took (subst IsQuiet (sym took.notes) refused.quiet) in
    let left = syncs - length (sqn_reported told.notes.usim) in
    goes_nowhere set number end.Peer (server_new s turn.0) device keeps left (length took.lines) took.lines next (sent_by turn.1.step) (took.goes Again turn refl tell tt) tell (omega arith)
    (λ answer sent way less. ⊎_elim
    (λ (none : sent_by turn.1.step ≡ None). sends_none answer (sym sent ∙ none))
    (λ (still : is_closed turn.0.state ≡ true). closes_wrongly set number device next end.Peer (server_new s turn.0) turn.0 keeps answer left refl still way) refused.closes)

-- any reply is one that the counter is too small
small_leads : (set : Setting) (opening : SessionLine) (number : ℕ) (s : Session) (home : rows.Row) (keeps : Keeps) (id : ℕ) (next : Net) (q : ServerEnd) (p : Peer) (text : List ℕ) (packets : List (List ℕ)) (r : Resumed) (bytes : List ℕ)
    → IsOf set opening s.sub home keeps → AwaitsReply q (server_options opening) text id r packets → WaitsOn opening p text packets id
    → OnWay set Again number end.Server (with_ends s q p) (device_of set home) keeps bytes 1 next → Challenged set opening number s home keeps (next_id id) false 1 next
small_leads set opening number s home keeps id next q p text packets r bytes of awaits waits way =
    let device = device_of set home in
    let o = server_options opening in
    let took = server_takes set Again number (with_ends s q p) device keeps bytes q 1 next refl way in
    let told = took.told in
    ⊎_elim
    (λ (t : (sub : ℕ) × (server_row set took.homes q told.seen told.reply ≡ row.TooSmall sub)).
    let own : t.0 ≡ s.sub = subst (λ (x : Row). IsAskedFor s.sub (asked_sub (asking x))) t.1 took.spare.own in
    let c = challenges_small set took.homes q told.seen told.reply o text id r packets s.sub home told.notes awaits (t.1 ∙ ap (λ (i : ℕ). row.TooSmall i) own) of.there took.centre took.spare.given in
    record {
      q = c.q;
      p = p;
      text = text;
      packets = packets;
      n = c.n;
      given = c.given;
      names = c.names;
      awaits = c.awaits;
      waits = waits (next_id id) (next_differs id);
      way = server_sends set Again Late number (with_ends s q p) device keeps bytes q 1 next took c.q c.notes (challenge_with set o s.sub home text (next_id id) c.n c.given packets) c.checked took.spare.later tt c.is;
    })
    (λ (refused : IsRefused (server_step set took.homes q told.seen told.reply told.notes)). absurd (refused_ends set number device next (with_ends s q p) q keeps bytes 1 took refused))
    (refused_or_small set took.homes q r told.seen told.reply told.notes awaits.awaits_is)

-- ---- an error of the peer

error_writable : writable (attr.ClientErrorCode 0 ∷ []) ≡ true
unfolding fits_item fits row_of
error_writable = refl

error_length : length (spelling (attr.ClientErrorCode 0 ∷ [])) ≡ 4
unfolding item_text row_of shape_text
error_length = refl

error_may : (m : Method) (id : ℕ) → MayBeWritten (client_error m id)
error_may m id = record { attrs = error_writable; size = omega (arith, error_length) }

pub reauth_later : (sent : Resumed) → IsLater (state.AwaitReauth sent)
reauth_later sent = record { headed = λ set homes q seen said. refl; typed = λ m. refl; read = λ set homes q seen said r. refl }

error_row : (set : Setting) (homes : List HomeRow) (q : ServerEnd) (seen : Seen) (said : Reply) (o : ServerOptions) (text : List ℕ) (id : ℕ) (r : Resumed) (packets : List (List ℕ)) → AwaitsReply q o text id r packets
    → Is seen (client_error o.method id) → server_row set homes q seen said ≡ row.ClientError 0
error_row set homes q seen said o text id r packets w is =
    let list = attr.ClientErrorCode 0 ∷ [] in
    server_awaited set homes q seen said o (state.AwaitReauth r) id subtype.ClientError list (reauth_later r) w.options_are w.awaits_is w.id_is is
    ∙ ap (on_method set homes q (state.AwaitReauth r) seen said) is.packet_is

no_small : (sub : ℕ) (r : Row) → r ≡ row.ClientError 0 → r ≡ row.TooSmall sub → ⊥
no_small sub r e f = differ (sym e ∙ f)
  where
    differ : row.ClientError 0 ≡ row.TooSmall sub → ⊥
    differ g = cc

error_ends : (set : Setting) (opening : SessionLine) (number : ℕ) (s : Session) (home : rows.Row) (keeps : Keeps) (id : ℕ) (next : Net) (q : ServerEnd) (p : Peer) (text : List ℕ) (packets : List (List ℕ)) (r : Resumed) → Laws
    → AwaitsReply q (server_options opening) text id r packets
    → OnWay set Again number end.Server (with_ends s q p) (device_of set home) keeps (packet_text (client_error opening.method id)) 1 next → ⊥
error_ends set opening number s home keeps id next q p text packets r laws awaits way =
    let device = device_of set home in
    let o = server_options opening in
    let bytes = packet_text (client_error opening.method id) in
    let took = server_takes set Again number (with_ends s q p) device keeps bytes q 1 next refl way in
    let told = took.told in
    let is = reads_itself laws told.seen (client_error opening.method id) (error_may opening.method id) refl took.received took.are in
    let own = error_row set took.homes q told.seen told.reply o text id r packets awaits is in
    ⊎_elim
    (λ (t : (sub : ℕ) × (server_row set took.homes q told.seen told.reply ≡ row.TooSmall sub)). no_small t.0 (server_row set took.homes q told.seen told.reply) own t.1)
    (λ (refused : IsRefused (server_step set took.homes q told.seen told.reply told.notes)). refused_ends set number device next (with_ends s q p) q keeps bytes 1 took refused)
    (refused_or_small set took.homes q r told.seen told.reply told.notes awaits.awaits_is)

-- ---- each case

pub challenges_anyway : (set : Setting) (opening : SessionLine) (number : ℕ) (s : Session) (home : rows.Row) (keeps : Keeps) (id : ℕ) (next : Net) → IsOf set opening s.sub home keeps
    → Resumes set opening number s home keeps id next → Challenged set opening number s home keeps (next_id id) false 1 next
challenges_anyway set opening number s home keeps id next of r =
    let m = opening.method in
    let device = device_of set home in
    let check = checkcode m r.packets in
    let bytes = reauth_bytes m set.realm id r.iv r.r check in
    let draft = reauth_draft m set.realm id r.iv r.r check in
    let took = peer_takes set Again number (with_ends s r.q r.p) device keeps bytes 1 next r.way in
    let told = took.told in
    let seen = told.seen in
    let read = reads_sealed of.laws r.r.context.k_aut draft seen (request_may of.laws m set.realm id r.iv r.r r.packets of.realm r.sized r.nonce r.name r.block) (reauth_values m set.realm id r.iv r.r check) took.received
    (took.are ∙ bytes_are m set.realm id r.iv r.r check) in
    let is = read.0 in
    let second = ap (λ (l : List ℕ). slice_index l 1) took.are ∙ second_is m set.realm id r.iv r.r check in
    let row_is = again_row opening r.p seen r.text r.packets id set.realm r.iv r.r check (draft_mac r.r.context.k_aut [] draft) r.waits is second in
    let turn = reauthenticated set.key keeps r.p seen told.inner in
    let turn_is : peer_step set.key device keeps r.p seen told.notes.usim told.inner ≡ turn = ap (λ (x : PeerRow). peer_does set.key device keeps r.p seen x told.notes.usim told.inner) row_is in
    let own : told.notes ≡ turn.1.notes = took.notes ∙ ap (λ (t : Peer × Turn PeerWhy). t.1.notes) turn_is in
    let left = 1 - length (sqn_reported told.notes.usim) in
    outcome_case set.key r.p seen turn (outcome set.key keeps r.p seen told.inner)
    (λ none quiet.
    let tell = peer_stays set Again number (with_ends s r.q r.p) device keeps bytes 1 next took (subst IsQuiet (sym own) quiet) in
    absurd (goes_nowhere set number end.Server (peer_new (with_ends s r.q r.p) turn) device (kept_after keeps (with_ends s r.q r.p) told turn.1) left (length took.lines) took.lines next (sent_by turn.1.step)
    (took.goes turn turn_is tell) tell (omega arith) (λ answer sent way less. sends_none answer (sym sent ∙ none))))
    (λ q cause checked same refused.
    let z = (client q seen cause None checked).0 in
    let answer = packet_text (client_error q.options.method (id_of seen)) in
    let answer_is : answer ≡ packet_text (client_error m id) =
    ap (λ (x : ToldSession). packet_text (client_error x.method (id_of seen))) (same ∙ r.waits.options_are) ∙ ap (λ (i : ℕ). packet_text (client_error m i)) (ap id_in is.head) in
    let way = peer_sends set Again number (with_ends s r.q r.p) device keeps bytes 1 1 next took z (noted None) answer checked quiet_notes (ap (λ (x : PeerRow). kept_by x r.p None keeps) row_is) (turn_is ∙ refused) (omega arith) in
    absurd (error_ends set opening number s home keeps id next r.q z r.text r.packets r.r of.laws r.awaits
    (subst (λ (b : List ℕ). OnWay set Again number end.Server (with_ends s r.q z) device keeps b 1 next) answer_is way)))
    (λ counter accepted. absurd (accepts_none s.sub 1 counter took.e took.note took.lines (ap (λ (n : Notes). counter_taken n.counter) (took.noted ∙ own) ∙ ap counter_taken accepted) took.tell))
    (λ c inner counter nonce too_small.
    let a = with_inner (resuming r.p c) inner in
    let z = (small set.key a seen c counter nonce).0 in
    let way = peer_sends set Again number (with_ends s r.q r.p) device keeps bytes 1 1 next took z (counter_noted (counts.Small counter)) (counter_bytes set.key a seen c nonce counter true) true quiet_small
    (ap (λ (x : PeerRow). kept_by x r.p (Some (counts.Small counter)) keeps) row_is) (turn_is ∙ too_small) (omega arith) in
    small_leads set opening number s home keeps id next r.q z r.text r.packets r.r (counter_bytes set.key a seen c nonce counter true) of r.awaits
    (λ later differ. record {
      options_are = r.waits.options_are;
      waiting_is = refl;
      identity_is = r.waits.identity_is;
      packets_are = r.waits.packets_are;
      new = λ bytes new. other_id bytes seen.bytes later id new second differ;
    }) way)
