-- For the witnesses: their transcripts meet the premises of the promises.
use Rattle.std.proofs.Common.{◌≡◌, ◌≢◌, ℕ, zero, suc, true, false, List, [], ◌∷◌, ◌++◌, length, replicate, All, Option, Some, None, Result, Ok, refl, sym, subst, arith, inl, append-nil, length-append}
use Rattle.std.proofs.lemmas.List.Elements.{All-cons, All-from_recursion, All-nil}
use Rattle.auc_aes.specs.Bytes.{IsBlock, IsBytes}
use Rattle.auc_attr.specs.Frame.{Frame, Message}
use Rattle.auc_attr.specs.Item.{item, items}
use Rattle.auc_attr.specs.Mac.{IsMacOf, IsMacPlace}
use Rattle.auc_attr.specs.Spelling.{fits, fits_item, item_text, shape_text, writable}
use Rattle.auc_attr.specs.Table.{row_of}
use Rattle.auc_attr.specs.declared.attr.Attr.TheVariants as attr
use Rattle.auc_attr.specs.declared.frame.FrameFault.{FrameFault}
use Rattle.auc_attr.proofs.Facts.{frame_again}
use Rattle.auc_history.specs.Split.{all_entries}
use Rattle.auc_hmac.specs.declared.keys.KeySet.{KeySet}
use Rattle.auc_hmac.specs.declared.method.Method.TheVariants as method
use Rattle.auc_lines.specs.declared.part.End.TheVariants as end
use Rattle.auc_lines.specs.declared.part.Line.{Line}
use Rattle.auc_lines.specs.declared.part.Line.TheVariants as line
use Rattle.auc_lines.specs.declared.part.Part.{Part}
use Rattle.auc_packet.specs.Laws.{WrittenIsRead}
use Rattle.auc_packet.specs.Packet.{ReadsPacket}
use Rattle.auc_packet.specs.Received.{IsReceived, Seen}
use Rattle.auc_packet.specs.Spelling.{MayBeWritten, packet_text}
use Rattle.auc_packet.specs.declared.packet.Packet.{Packet}
use Rattle.auc_packet.specs.declared.packet.Packet.TheVariants as packet
use Rattle.auc_packet.specs.declared.received.Reading.TheVariants as reading
use Rattle.auc_packet.specs.declared.subtype.Subtype.TheVariants as subtype
use Rattle.auc_peer.specs.declared.decrypted.Decrypted.TheVariants as decrypted
use Rattle.auc_random.specs.Random.{rand_of}
use Rattle.auc_reauth.specs.Machine.{used_by}
use Rattle.auc_reauth.specs.declared.context.Context.{Context}
use Rattle.auc_server.specs.Table.{silent}
use Rattle.auc_server.specs.declared.reply.Reply.TheVariants as reply
use Rattle.auc_sqn.specs.Number.{seq_of, sqn_bytes}
use Rattle.auc_vector.specs.Vector.{autn_of}
use Rattle.auc_vector.specs.declared.notes.UsimNote.{UsimNote}
use Rattle.auc_record.specs.Event.{Came, asked_in, number_in, resync_in}
use Rattle.auc_world.specs.Came.{of_opening}
use Rattle.auc_world.specs.Given.{Before, JobGives}
use Rattle.auc_world.specs.Happened.{ToldEvent, happened, new_session}
use Rattle.auc_world.specs.Net.{Net}
use Rattle.auc_world.specs.Plain.{IsAskedFor, TellNoCause, is_refused, is_unresolved, results}
use Rattle.auc_subs.specs.Setting.{Setting}
use Rattle.auc_world.specs.Start.{Kept, fresh_kept, kept_by_jobs, start_of}
use Rattle.auc_world.specs.Transcript.{stretches_of}
use Rattle.auc_record.specs.declared.event.Event.TheVariants as event
use Rattle.auc_world.specs.declared.net.Inputs.{Inputs}
use Rattle.auc_world.specs.declared.net.Inputs.TheVariants as inputs
use Rattle.auc_world.specs.declared.net.Session.{Session}
use Rattle.auc_record.specs.declared.record.GiveVerdict.{GiveVerdict}
use Rattle.auc_record.specs.declared.record.GiveVerdict.TheVariants as given
use Rattle.auc_record.specs.declared.record.LineRecord.{LineRecord}
use Rattle.auc_record.specs.declared.record.LineRecord.TheVariants.{Number}
use Rattle.auc_vector.specs.declared.notes.NumberNote.TheVariants as number
use Rattle.auc_world.proofs.Facts.{autn_size, rand_block}
use Rattle.auc_transcript.specs.Completeness.{HasContext, IsAlone, IsOnlyEvent, records_of, session_named}
use Rattle.auc_transcript.specs.Counters.{KeepsContexts}
use Rattle.auc_transcript.specs.Headline.{FailsByPlace, FailsExactlyByPlace, IsFailure, IsGenuine, is_later}
use Rattle.auc_transcript.specs.Keys.{EndsAgree, IsOfUnbrokenJob}
use Rattle.auc_transcript.specs.Presented.{FailsExactlyByPlaceInSessions, IsNotedFailure, IsPresentedInSession}
use Rattle.auc_transcript.specs.Witnesses.{ContextsAreKept, CountersAreNoted, KeysAreEqual, MacIsRight, PlacesDecide, PlacesDecideInSessions, PlainSessionWins, ResumedSessionWins, accepted_late, accepted_once, accepting, accepts, challenge, challenged, context, device, first_net, given_first, given_late, line_of, net_of, one_job, opening, peer_sent, plain_lines, presented_again, presented_first, presenting, resumed_lines, resumes, resuming, round_of, setting, subscriber, taken_up, transcript_of, won, won_again, zeros}

-- ---- vectors that lines give

-- nothing fails by its place if nothing was accepted
none_fails : (n : ℕ) (answer : GiveVerdict) → FailsByPlace 5 None (stretches_of 0 (given_first answer)) [] n → ⊥
none_fails n answer fails = let (k, inside, at) = fails.was_accepted in omega (arith, inside)

late_fails : (answer : GiveVerdict) → answer ≢ given.Absent → FailsExactlyByPlace (subscriber ∷ []) (given_late answer) → IsFailure answer
late_fails answer released promise =
    let stretches = stretches_of 0 (given_late answer) in
    (promise accepted_late 0 1 answer subscriber (record { after = []; lines_are = refl; released = released }) refl (record {
      genuine = All-cons (IsGenuine 5 (all_entries stretches)) (sqn_bytes 5 33) [] (33, omega arith, (32, omega arith, refl), refl) (All-nil (IsGenuine 5 (all_entries stretches)));
      earlier = All-cons (λ sqn. is_later stretches 1 (seq_of 5 sqn) ≡ false) (sqn_bytes 5 33) [] refl (All-nil (λ sqn. is_later stretches 1 (seq_of 5 sqn) ≡ false));
      near = omega arith;
      above = omega arith;
    })).1 (record { other = 33; within = omega arith; was_accepted = (0, omega arith, refl); one_period = refl; stale = inl (1, refl) })

first_stays : (answer : GiveVerdict) → answer ≢ given.Absent → FailsExactlyByPlace (subscriber ∷ []) (given_first answer) → IsFailure answer → ⊥
first_stays answer released promise failure =
    let stretches = stretches_of 0 (given_first answer) in
    none_fails 1 answer ((promise (Number 0 (number.Drew 1) ∷ []) 0 1 answer subscriber (record { after = []; lines_are = refl; released = released }) refl (record {
      genuine = All-nil (IsGenuine 5 (all_entries stretches));
      earlier = All-nil (λ sqn. is_later stretches 1 (seq_of 5 sqn) ≡ false);
      near = omega arith;
      above = omega arith;
    })).0 failure)

pub places_decide : PlacesDecide
places_decide answer released = (late_fails answer released, first_stays answer released)

-- ---- the Challenge

zeros_are : (n : ℕ) → IsBytes (replicate n 0)
zeros_are zero i = omega arith
zeros_are (suc n) zero = omega arith
zeros_are (suc n) (suc i) = zeros_are n i

zeros_block : IsBlock zeros
zeros_block = record { size = refl; bytes = zeros_are 16 }

two_writable : (r a : List ℕ) → length r ≡ 16 → length a ≡ 16 → writable (attr.Rand r ∷ attr.Autn a ∷ []) ≡ true
unfolding fits_item fits row_of
two_writable r a e f = rw (e, f) refl

rand_text : (v : List ℕ) → length v ≡ 16 → length (item_text (item 1 v)) ≡ 20
unfolding item_text row_of shape_text
rand_text v e = omega (arith, length-append v [], e)

autn_text : (v : List ℕ) → length v ≡ 16 → length (item_text (item 2 v)) ≡ 20
unfolding item_text row_of shape_text
autn_text v e = omega (arith, length-append v [], e)

two_may : (r a : List ℕ) → length r ≡ 16 → length a ≡ 16 → MayBeWritten (packet.Aka true 2 method.Aka subtype.Challenge (attr.Rand r ∷ attr.Autn a ∷ []))
two_may r a e f = record {
  attrs = two_writable r a e f;
  size = omega (arith, length-append (item_text (item 1 r)) (item_text (item 2 a) ++ []), length-append (item_text (item 2 a)) [], rand_text r e, autn_text a f);
}

-- AUTN of number 1
abbrev autn : List ℕ → List ℕ
autn key = autn_of subscriber.secret.k subscriber.secret.opc (rand_of key 0 1) subscriber.amf 5 1

challenge_may : (key : List ℕ) → MayBeWritten (challenge key)
challenge_may key =
    two_may (rand_of key 0 1) (autn key) (rand_block key 0 1).size (autn_size zeros zeros (rand_of key 0 1) subscriber.amf 5 1 zeros_block zeros_block (rand_block key 0 1) refl)

-- what its bytes are received as
abbrev seen : List ℕ → Seen
seen key = record { bytes = packet_text (challenge key); reading = reading.Read (challenge key); place = None }

no_mac : (p : Packet) (r a : List ℕ) → p ≡ packet.Aka true 2 method.Aka subtype.Challenge (attr.Rand r ∷ attr.Autn a ∷ []) → ReadsPacket (packet_text p) (packet.Aka true 2 method.Aka subtype.Challenge (attr.Rand r ∷ attr.Autn a ∷ []))
    → IsMacPlace (packet_text p) None
no_mac p r a is reads =
    let f = Message true 2 23 1 reads.0 in
    subst (λ (o : Result Frame FrameFault). IsMacOf o None) (sym (frame_again f (packet_text p) reads.1)) (items (attr.Rand r ∷ attr.Autn a ∷ []), None, reads.2.0, refl)

received : WrittenIsRead → (key : List ℕ) → IsReceived (seen key)
received written key =
    let p = challenge key in
    let reads : ReadsPacket (packet_text p) p = subst (λ (b : List ℕ). ReadsPacket b p) (append-nil (packet_text p)) (written p [] (challenge_may key)) in
    record { reads = (reads, refl); placed = no_mac p (rand_of key 0 1) (autn key) refl reads }

-- ---- vectors that sessions present

is_first : WrittenIsRead → (key : List ℕ) (answer : UsimNote) → IsPresentedInSession (setting key) (presented_first key answer) (challenged key) 0 1 subscriber answer
is_first written key answer = record {
  released = (0, omega arith, refl);
  there = refl;
  own = challenged key;
  delivery = record { event = event.Deliver 1 end.Peer 3; result = Ok (peer_sent (record silent { usim = Some answer }) [] 4) };
  stands = record {
    early = [];
    round = round_of 1 (challenged key ++ presenting 1 answer 4 ∷ []) [];
    late = [];
    records_are = refl;
    beside = [];
    after = [];
    others = [];
    jobs_are = refl;
    before_is = refl;
  };
  session = 1;
  packet = 3;
  delivers = refl;
  seen = seen key;
  is_packet = refl;
  received = received written key;
  rand = refl;
  autn = refl;
  answered = refl;
}

is_again : WrittenIsRead → (key : List ℕ) (answer : UsimNote) → IsPresentedInSession (setting key) (presented_again key answer) (accepted_once key) 0 1 subscriber answer
is_again written key answer = record {
  released = (0, omega arith, refl);
  there = refl;
  own = accepted_once key;
  delivery = record { event = event.Deliver 1 end.Peer 3; result = Ok (peer_sent (record silent { usim = Some answer }) [] 5) };
  stands = record {
    early = [];
    round = round_of 1 (accepted_once key ++ presenting 1 answer 5 ∷ []) [];
    late = [];
    records_are = refl;
    beside = [];
    after = [];
    others = [];
    jobs_are = refl;
    before_is = refl;
  };
  session = 1;
  packet = 3;
  delivers = refl;
  seen = seen key;
  is_packet = refl;
  received = received written key;
  rand = refl;
  autn = refl;
  answered = refl;
}

again_fails : WrittenIsRead → (key : List ℕ) (answer : UsimNote) → FailsExactlyByPlaceInSessions (setting key) (presented_again key answer) → IsNotedFailure answer
again_fails written key answer promise =
    let stretches = stretches_of 0 (presented_again key answer) in
    (promise (accepted_once key) 0 1 subscriber answer (is_again written key answer) (record {
      genuine = All-cons (IsGenuine 5 (all_entries stretches)) (sqn_bytes 5 1) [] (1, omega arith, (0, omega arith, refl), refl) (All-nil (IsGenuine 5 (all_entries stretches)));
      earlier = All-cons (λ sqn. is_later stretches 1 (seq_of 5 sqn) ≡ false) (sqn_bytes 5 1) [] refl (All-nil (λ sqn. is_later stretches 1 (seq_of 5 sqn) ≡ false));
      near = omega arith;
      above = omega arith;
    })).1 (record { other = 1; within = omega arith; was_accepted = (0, omega arith, refl); one_period = refl; stale = inl (0, refl) })

none_fails_in_sessions : (key : List ℕ) (answer : UsimNote) → FailsByPlace 5 None (stretches_of 0 (presented_first key answer)) [] 1 → ⊥
none_fails_in_sessions key answer fails = let (k, inside, at) = fails.was_accepted in omega (arith, inside)

first_stays_in_sessions : WrittenIsRead → (key : List ℕ) (answer : UsimNote) → FailsExactlyByPlaceInSessions (setting key) (presented_first key answer) → IsNotedFailure answer → ⊥
first_stays_in_sessions written key answer promise failure =
    let stretches = stretches_of 0 (presented_first key answer) in
    none_fails_in_sessions key answer ((promise (challenged key) 0 1 subscriber answer (is_first written key answer) (record {
      genuine = All-nil (IsGenuine 5 (all_entries stretches));
      earlier = All-nil (λ sqn. is_later stretches 1 (seq_of 5 sqn) ≡ false);
      near = omega arith;
      above = omega arith;
    })).0 failure)

pub places_decide_in_sessions : WrittenIsRead → PlacesDecideInSessions
places_decide_in_sessions written key answer = (again_fails written key answer, first_stays_in_sessions written key answer)

pub mac_is_right : WrittenIsRead → MacIsRight
mac_is_right written key answer promise = promise (challenged key) 0 1 subscriber answer (is_first written key answer)

-- ---- keys

in_job : (a : Session) → IsOfUnbrokenJob (one_job (a ∷ [])) a
in_job a = record {
  round = net_of (a ∷ []) ∷ [];
  is_round = (0, omega arith, refl);
  net = net_of (a ∷ []);
  is_job = (0, omega arith, refl);
  is_in = (0, omega arith, refl);
  unbroken = refl;
}

-- what the keys are made from
abbrev full : Inputs
full = inputs.Full (record { method = method.Aka; name = []; sub = 0; rand = zeros; autn = zeros; identity = [] })

abbrev fast : Inputs
fast = inputs.Fast (record { method = method.Aka; sub = 0; identity = []; k_encr = zeros; k_aut = zeros; master = (context [] 1).master })

full_agree : (k l : KeySet) → EndsAgree (one_job (won k l ∷ [])) → k ≡ l
full_agree k l promise =
    let a = won k l in
    promise a a k l full full (in_job a) (in_job a) (record { server = _; is = refl; last = _; won = refl; inputs = refl }) (record { won = refl; inputs = refl }) (record { sub = refl; rand = refl; autn = refl })

fast_agree : (k l : KeySet) → EndsAgree (one_job (won_again k l ∷ [])) → k ≡ l
fast_agree k l promise =
    let a = won_again k l in
    promise a a k l fast fast (in_job a) (in_job a) (record { server = _; is = refl; last = _; won = refl; inputs = refl }) (record { won = refl; inputs = refl }) (record { sub = refl; identity = refl })

pub keys_are_equal : KeysAreEqual
keys_are_equal k l = (full_agree k l, fast_agree k l)

-- ---- contexts

servers_apart : (set : Setting) (parts : List Part) (x y : List ℕ) (c d : ℕ)
    → KeepsContexts set parts (transcript_of (resumes 1 c ∷ resumes 2 d ∷ [])) (one_job (resuming 1 (context x c) ∷ resuming 2 (context y d) ∷ [])) → (c ≢ d) × (x ≢ y)
servers_apart set parts x y c d promise = (
  promise.counters.resumed method.Aka 0 0 1 (used_by c (context x c)) (omega arith) (omega arith) refl,
  promise.identities 0 1 (record { sub = 0; context = context x c; nonce = zeros; next = None }) (omega arith) (omega arith) refl,
)

peers_apart : (set : Setting) (parts : List Part) (x y : List ℕ) (c d : ℕ)
    → KeepsContexts set parts (transcript_of (accepts 1 c ∷ accepts 2 d ∷ [])) (one_job (accepting 1 (context x c) ∷ accepting 2 (context y d) ∷ [])) → c ≢ d
peers_apart set parts x y c d promise = promise.counters.accepted method.Aka 0 0 1 (used_by c (context x c)) (omega arith) (omega arith) refl

pub contexts_are_kept : ContextsAreKept
contexts_are_kept set parts x y c d = (servers_apart set parts x y c d, peers_apart set parts x y c d)

same_one : (n c : ℕ) → ◌≡◌ {A = List ℕ} (n ∷ []) (c ∷ []) → n ≡ c
same_one n c e = cc

not_nothing : (c : ℕ) → ◌≡◌ {A = List ℕ} [] (c ∷ []) → ⊥
not_nothing c e = cc

pub counters_are_noted : CountersAreNoted
counters_are_noted set parts c n = (
  λ promise. same_one n c (promise.told.0.0 0 (resuming 1 (context [] c)) (omega arith)).resumed,
  λ promise. same_one n c (promise.told.0.0 0 (accepting 1 (context [] c)) (omega arith)).accepted,
  λ promise. not_nothing c (promise.told.0.0 0 (resuming 1 (context [] c)) (omega arith)).resumed,
  λ promise. not_nothing c (promise.told.0.0 0 (accepting 1 (context [] c)) (omega arith)).accepted,
)

-- ---- plain sessions

unnamed : (session : ℕ) → ◌≡◌ {A = Option ℕ} None (Some session) → ⊥
unnamed session e = cc

-- the lines of a session that another one opens alone
opened_before : (session : ℕ) → All (λ (l : Line). session_named l ≢ Some session) (line.Session (opening session) ∷ [])
opened_before session =
    All-cons (λ (l : Line). session_named l ≢ Some session) (line.Session (opening session)) [] (unnamed session) (All-nil (λ (l : Line). session_named l ≢ Some session))

no_cause : TellNoCause 0 1 (records_of 1 plain_lines)
no_cause = record {
  own = All-from_recursion (λ (came : Came). IsAskedFor 0 (asked_in came)) (results (records_of 1 plain_lines)) (tt, (tt, (tt, (refl, (tt, (tt, (tt, tt)))))));
  given = All-from_recursion (λ (came : Came). is_refused (number_in came) ≡ false) (results (records_of 1 plain_lines)) (refl, (refl, (refl, (refl, (refl, (refl, (refl, tt)))))));
  resolved = All-from_recursion (λ (came : Came). is_unresolved (resync_in came) ≡ false) (results (records_of 1 plain_lines)) (refl, (refl, (refl, (refl, (refl, (refl, (refl, tt)))))));
  once = omega arith;
  challenge = inl refl;
}

abbrev only_event : IsOnlyEvent (subscriber ∷ []) (line.Session (opening 1) ∷ []) 1 []
only_event = record {
  opening = opening 1;
  opened = refl;
  suited = record { row = subscriber; known = refl; suits = record { short = omega arith; by = refl; own = tt } };
  first = opened_before 1;
  last = All-nil (λ (l : Line). session_named l ≢ Some 1);
}

pub plain_session_wins : PlainSessionWins
plain_session_wins verdicts net promise = promise.0.0 (line.Session (opening 1) ∷ []) [] 1 refl only_event no_cause

-- ---- resumed sessions

-- what is kept of the subscriber after the first round
abbrev pub kept : Context → List Kept
kept c = kept_by_jobs (fresh_kept ∷ []) (first_net c ∷ [])

abbrev begun : List ℕ → Net
begun key = start_of (setting key) (kept (context zeros 1)) (line.Session (opening 2) ∷ line.Plain 2 ∷ [])

-- what is told of an opening
abbrev of_opened : List ℕ → ToldEvent
of_opened key = record { seen = seen key; notes = silent; inner = decrypted.Unreadable; reply = reply.Wrong }

abbrev opened_net : List ℕ → Net
opened_net key = happened (setting key) (begun key) (event.Open (opening 2)) (of_opened key)

abbrev pub place : Before
place = record { early = plain_lines; beside = []; own = [] }

abbrev opened_line : LineRecord
opened_line = line_of (event.Open (opening 2)) of_opening

opens : (key : List ℕ) → JobGives (setting key) place (begun key) (line.Session (opening 2) ∷ []) (opened_line ∷ []) (opened_net key)
opens key = (
  opened_line ∷ [],
  [],
  opened_net key,
  refl,
  record { told = of_opened key; lines_are = refl; leads = refl; received = tt; notes = refl; replies = tt; centre = tt; usim = tt },
  (refl, refl),
)

has_context : (key : List ℕ) → HasContext (opened_net key) 2 (context zeros 1)
has_context key = record {
  own = new_session (opening 2) 0;
  is = refl;
  keeps = device (context zeros 1);
  stored = refl;
  same = record { own = context zeros 1; has = refl; identity = refl; k_encr = refl; k_aut = refl; master = refl; counter = refl };
}

alone : IsAlone (subscriber ∷ []) (line.Session (opening 2) ∷ []) 2 []
alone = record {
  opening = opening 2;
  opened = refl;
  row = subscriber;
  known = refl;
  name = omega arith;
  identity = tt;
  first = opened_before 2;
  last = All-nil (λ (l : Line). session_named l ≢ Some 2);
}

pub resumed_session_wins : ResumedSessionWins
resumed_session_wins key verdicts now keys took promise =
    promise.1.0.0 (line.Session (opening 2) ∷ []) [] 2 (opened_line ∷ []) resumed_lines (opened_net key) taken_up refl refl (opens key) alone
    (record { own = _; is = refl; server = _; started = refl; resumed = took }) (has_context key)
