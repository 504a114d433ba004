-- Each turn of a server that isn't ignored leaves fewer packets to send.
use Rattle.std.proofs.Common.{◌≡◌, ◌⊎◌, inl, inr, ℕ, ◌<◌, ◌≤◌, ◌==◌, ◌||◌, Bool, true, false, cond, not, List, [], Option, Some, None, slice_get, refl, arith}
use Rattle.auc_attr.specs.First.{first_value}
use Rattle.auc_attr.specs.declared.attr.Attr.{Attr}
use Rattle.auc_hmac.specs.declared.method.Method.{Method}
use Rattle.auc_packet.specs.Head.{head_at}
use Rattle.auc_packet.specs.Messages.{is_malformed, is_missing}
use Rattle.auc_packet.specs.Received.{Seen, is_sealed}
use Rattle.auc_packet.specs.declared.packet.Head.{Head}
use Rattle.auc_packet.specs.declared.packet.Packet.TheVariants as packet
use Rattle.auc_packet.specs.declared.received.Reading.{Reading}
use Rattle.auc_packet.specs.declared.received.Reading.TheVariants as reading
use Rattle.auc_packet.specs.declared.subtype.Subtype.{Subtype}
use Rattle.auc_packet.specs.declared.subtype.Subtype.TheVariants as subtype
use Rattle.auc_subs.specs.declared.row.Row as rows
use Rattle.auc_request.specs.Request.{checkcode_of}
use Rattle.auc_seal.specs.Checkcode.{differs}
use Rattle.auc_vector.specs.Auts.{read_auts_of}
use Rattle.auc_vector.specs.declared.auts.Auts.{Auts}
use Rattle.auc_vector.specs.declared.auts.Auts.TheVariants as auts
use Rattle.auc_vector.specs.declared.notes.Notes.{Notes}
use Rattle.auc_vector.specs.declared.notes.NumberNote.{NumberNote}
use Rattle.auc_vector.specs.declared.notes.NumberNote.TheVariants as number
use Rattle.auc_vector.specs.declared.notes.ResyncNote.{ResyncNote}
use Rattle.auc_vector.specs.declared.notes.ResyncNote.TheVariants as resync
use Rattle.auc_vector.specs.declared.parts.Vector.{Vector}
use Rattle.auc_vector.specs.declared.turn.Reason.{Reason}
use Rattle.auc_vector.specs.declared.turn.Reason.TheVariants as reason
use Rattle.auc_vector.specs.declared.turn.Step.TheVariants as step
use Rattle.auc_vector.specs.declared.turn.Turn.{Turn}
use Rattle.auc_reauth.specs.declared.context.Context.{Context}
use Rattle.auc_request.specs.declared.identities.IdentityRequest.TheVariants as asks
use Rattle.auc_server.specs.Attributes.{auts_of, error_code_of, identity_in, res_of}
use Rattle.auc_server.specs.Contexts.{context_in, homes_left}
use Rattle.auc_server.specs.Ending.{EachTurnLeavesFewer, left_challenged, packets_left, packets_left_in}
use Rattle.auc_server.specs.Rounds.{checkcode}
use Rattle.auc_server.specs.Rows.{by_auts, challenge_or, context_subscriber, in_state, is_expected, is_type, is_wrong, on_any, on_auts, on_challenged, on_client_error, on_error_code, on_first, on_full, on_head, on_identity, on_message, on_method, on_permanent, on_reading, on_reauth, on_response, on_resumed, on_sync_failure, permanent_subscriber, read_by, resume_or, says_small, server_row, subscriber_in, text_in, type_awaited}
use Rattle.auc_server.specs.Server.{ServerEnd}
use Rattle.auc_subs.specs.Setting.{Setting}
use Rattle.auc_server.specs.Table.{challenged, challenged_with, identified, names_given, noted, packets_after, resumed_with, resynchronised, resynchronising, server_does, vector_at}
use Rattle.auc_server.specs.declared.naming.GivenNames.{GivenNames}
use Rattle.auc_server.specs.declared.options.ServerOptions.{ServerOptions}
use Rattle.auc_server.specs.declared.reply.Reply.{Reply}
use Rattle.auc_server.specs.declared.rows.Row.{Row}
use Rattle.auc_server.specs.declared.rows.Row.TheVariants as row
use Rattle.auc_server.specs.declared.server.Challenged.{Challenged}
use Rattle.auc_server.specs.declared.server.Last.{Last}
use Rattle.auc_server.specs.declared.server.Resumed.{Resumed}
use Rattle.auc_server.specs.declared.server.ServerState.{ServerState}
use Rattle.auc_server.specs.declared.server.ServerState.TheVariants as state
use Rattle.auc_server.specs.declared.setting.HomeRow.{HomeRow}
use Rattle.auc_vector.specs.declared.why.ServerWhy.{ServerWhy}

-- ---- in which states a row comes

-- so many packets may follow at least before a row
abbrev needs : Row → ℕ
needs (row.Ignore cause) = 0
needs (row.Ask asks.Any) = 7
needs (row.Ask asks.Fullauth) = 6
needs (row.Ask asks.Permanent) = 5
needs row.UnknownIdentity = 2
needs (row.Challenge sub) = 4
needs (row.Resume sub) = 5
needs row.WrongCounter = 2
needs (row.TooSmall sub) = 4
needs (row.Reauthenticated sent) = 1
needs row.WrongMac = 2
needs row.WrongRes = 2
needs row.WrongCheckcode = 2
needs (row.Success sent) = 1
needs row.SecondSync = 2
needs row.BadAuts = 2
needs (row.Resynchronise sub seq) = 3
needs row.Rejected = 1
needs (row.ClientError code) = 1
needs (row.Notified cause) = 1

-- one of two rows
of_two : (k : ℕ) (b : Bool) (x y : Row) → needs x ≤ k → needs y ≤ k → needs (cond b x y) ≤ k
of_two k true x y here there = here
of_two k false x y here there = there

challenge_needs : (k : ℕ) (other : Row) (found : Option ℕ) → needs other ≤ k → 4 ≤ k → needs (challenge_or other found) ≤ k
challenge_needs k other None less four = less
challenge_needs k other (Some sub) less four = four

resume_needs : (k : ℕ) (other : Row) (found : Option ℕ) → needs other ≤ k → 5 ≤ k → needs (resume_or other found) ≤ k
resume_needs k other None less five = less
resume_needs k other (Some sub) less five = five

any_needs : (by : Method) (set : Setting) (homes : List HomeRow) (text : List ℕ) → needs (on_any by set homes text) ≤ 6
any_needs by set homes text =
    resume_needs 6 (challenge_or (row.Ask asks.Fullauth) (subscriber_in by set homes text)) (context_subscriber by set homes text)
    (challenge_needs 6 (row.Ask asks.Fullauth) (subscriber_in by set homes text) (omega arith) (omega arith)) (omega arith)

full_needs : (by : Method) (set : Setting) (homes : List HomeRow) (text : List ℕ) → needs (on_full by set homes text) ≤ 5
full_needs by set homes text = challenge_needs 5 (row.Ask asks.Permanent) (subscriber_in by set homes text) (omega arith) (omega arith)

permanent_needs : (by : Method) (set : Setting) (homes : List HomeRow) (text : List ℕ) → needs (on_permanent by set homes text) ≤ 4
permanent_needs by set homes text = challenge_needs 4 row.UnknownIdentity (permanent_subscriber by set homes text) (omega arith) (omega arith)

first_needs : (options : ServerOptions) (set : Setting) (homes : List HomeRow) (text : List ℕ) → needs (on_first options set homes text) ≤ 7
first_needs options set homes text =
    let six = any_needs options.method set homes text in
    of_two 7 options.any (row.Ask asks.Any) (on_any options.method set homes text) (omega arith) (omega (arith, six))

-- the response to a challenge, by what is tested
response_by : (sent : Challenged) (missing forged other_res other_code : Bool)
    → needs (cond missing (row.Ignore reason.Missing) (cond forged row.WrongMac (cond other_res row.WrongRes (cond other_code row.WrongCheckcode (row.Success sent))))) ≤ 2
response_by sent true forged other_res other_code = omega arith
response_by sent false true other_res other_code = omega arith
response_by sent false false true other_code = omega arith
response_by sent false false false true = omega arith
response_by sent false false false false = omega arith

response_needs : (by : Method) (packets : List (List ℕ)) (sent : Challenged) (seen : Seen) (list : List Attr) → needs (on_response by packets sent seen list) ≤ 2
response_needs by packets sent seen list =
    response_by sent (is_missing subtype.Challenge false list) (not (is_sealed by sent.keys.k_aut [] seen)) (not (is_expected sent.vector.xres (first_value res_of list)))
    (differs (checkcode by packets) (first_value checkcode_of list))

-- the response to a re-authentication, by what is tested
reauth_by : (sent : Resumed) (missing forged wrong small other_code : Bool)
    → needs (cond missing (row.Ignore reason.Missing) (cond forged row.WrongMac (cond wrong row.WrongCounter (cond small (row.TooSmall sent.sub) (cond other_code row.WrongCheckcode (row.Reauthenticated sent)))))) ≤ 4
reauth_by sent true forged wrong small other_code = omega arith
reauth_by sent false true wrong small other_code = omega arith
reauth_by sent false false true small other_code = omega arith
reauth_by sent false false false true other_code = omega arith
reauth_by sent false false false false true = omega arith
reauth_by sent false false false false false = omega arith

reauth_needs : (by : Method) (packets : List (List ℕ)) (sent : Resumed) (seen : Seen) (said : Reply) (list : List Attr) → needs (on_reauth by packets sent seen said list) ≤ 4
reauth_needs by packets sent seen said list =
    reauth_by sent (is_missing subtype.Reauthentication false list) (not (is_sealed by sent.context.k_aut sent.nonce seen)) (is_wrong said) (says_small said)
    (differs (checkcode by packets) (first_value checkcode_of list))

-- a synchronisation failure: only the first one resynchronises
auts_needs : (sub : ℕ) (read : Auts) → needs (by_auts sub read) ≤ 3
auts_needs sub auts.WrongMac = omega arith
auts_needs sub (auts.SeqMs seq) = omega arith

read_needs : (sent : Challenged) (answer : List ℕ) (found : Option rows.Row) → needs (read_by sent answer found) ≤ 3
read_needs sent answer None = omega arith
read_needs sent answer (Some home) = auts_needs sent.sub (read_auts_of home.secret sent.vector.rand answer home.bits)

answer_needs : (set : Setting) (sent : Challenged) (answer : Option (List ℕ)) → needs (on_auts set sent answer) ≤ 3
answer_needs set sent None = omega arith
answer_needs set sent (Some answer) = read_needs sent answer (slice_get set.rows sent.sub)

sync_needs : (set : Setting) (synced : Bool) (sent : Challenged) (list : List Attr) → needs (on_sync_failure set synced sent list) ≤ left_challenged synced
sync_needs set true sent list = of_two 2 (is_missing subtype.SynchronizationFailure false list) (row.Ignore reason.Missing) row.SecondSync (omega arith) (omega arith)
sync_needs set false sent list =
    of_two 3 (is_missing subtype.SynchronizationFailure false list) (row.Ignore reason.Missing) (on_auts set sent (first_value auts_of list)) (omega arith)
    (answer_needs set sent (first_value auts_of list))

code_needs : (found : Option ℕ) → needs (on_error_code found) ≤ 1
code_needs None = omega arith
code_needs (Some code) = omega arith

error_needs : (list : List Attr) → needs (on_client_error list) ≤ 1
error_needs list =
    of_two 1 (is_missing subtype.ClientError false list) (row.Ignore reason.Missing) (on_error_code (first_value error_code_of list)) (omega arith)
    (code_needs (first_value error_code_of list))

-- two packets may follow a challenge at least
two_left : (synced : Bool) → 2 ≤ left_challenged synced
two_left true = omega arith
two_left false = omega arith

challenged_needs : (set : Setting) (s : ServerEnd) (sent : Challenged) (seen : Seen) (kind : Subtype) (list : List Attr)
    → needs (on_challenged set s sent seen kind list) ≤ left_challenged s.synced
challenged_needs set s sent seen subtype.Challenge list =
    let two = two_left s.synced in let less = response_needs s.options.method s.packets sent seen list in omega (arith, two, less)
challenged_needs set s sent seen subtype.SynchronizationFailure list = sync_needs set s.synced sent list
challenged_needs set s sent seen subtype.AuthenticationReject list = let two = two_left s.synced in omega (arith, two)
challenged_needs set s sent seen subtype.ClientError list = let two = two_left s.synced in let less = error_needs list in omega (arith, two, less)
challenged_needs set s sent seen other list = omega arith

resumed_needs : (s : ServerEnd) (sent : Resumed) (seen : Seen) (said : Reply) (kind : Subtype) (list : List Attr) → needs (on_resumed s sent seen said kind list) ≤ 4
resumed_needs s sent seen said subtype.Reauthentication list = reauth_needs s.options.method s.packets sent seen said list
resumed_needs s sent seen said subtype.ClientError list = let less = error_needs list in omega (arith, less)
resumed_needs s sent seen said other list = omega arith

identity_needs : (k : ℕ) (answered : Row) (kind : Subtype) (list : List Attr) → needs answered ≤ k → 1 ≤ k → needs (on_identity answered kind list) ≤ k
identity_needs k answered subtype.Identity list less one =
    of_two k (is_missing subtype.Identity false list) (row.Ignore reason.Missing) answered (omega arith) less
identity_needs k answered subtype.ClientError list less one = let few = error_needs list in omega (arith, one, few)
identity_needs k answered other list less one = omega arith

notified_needs : (set : Setting) (homes : List HomeRow) (s : ServerEnd) (why : ServerWhy) (last : Last) (seen : Seen) (said : Reply) (kind : Subtype) (list : List Attr)
    → needs (on_message set homes s (state.Notifying why last) seen said kind list) ≤ 1
notified_needs set homes s why last seen said subtype.Notification list = omega arith
notified_needs set homes s why last seen said other list = omega arith

message_needs : (set : Setting) (homes : List HomeRow) (s : ServerEnd) (now : ServerState) (seen : Seen) (said : Reply) (kind : Subtype) (list : List Attr)
    → needs (on_message set homes s now seen said kind list) ≤ packets_left_in now s.synced
message_needs set homes s (state.Await asks.Any) seen said kind list =
    identity_needs 6 (on_any s.options.method set homes (identity_in list)) kind list (any_needs s.options.method set homes (identity_in list)) (omega arith)
message_needs set homes s (state.Await asks.Fullauth) seen said kind list =
    identity_needs 5 (on_full s.options.method set homes (identity_in list)) kind list (full_needs s.options.method set homes (identity_in list)) (omega arith)
message_needs set homes s (state.Await asks.Permanent) seen said kind list =
    identity_needs 4 (on_permanent s.options.method set homes (identity_in list)) kind list (permanent_needs s.options.method set homes (identity_in list)) (omega arith)
message_needs set homes s (state.AwaitChallenge sent before) seen said kind list = challenged_needs set s sent seen kind list
message_needs set homes s (state.AwaitReauth sent) seen said kind list = resumed_needs s sent seen said kind list
message_needs set homes s (state.Notifying why last) seen said kind list = notified_needs set homes s why last seen said kind list
message_needs set homes s state.AwaitIdentity seen said kind list = omega arith
message_needs set homes s (state.Ended result last) seen said kind list = omega arith

method_needs : (set : Setting) (homes : List HomeRow) (s : ServerEnd) (now : ServerState) (seen : Seen) (said : Reply) (r : Reading)
    → needs (on_method set homes s now seen said r) ≤ packets_left_in now s.synced
method_needs set homes s now seen said (reading.Read (packet.Aka request id m kind list)) =
    of_two (packets_left_in now s.synced) (is_malformed kind false s.options.method list) (row.Ignore reason.Malformed) (on_message set homes s now seen said kind list)
    (omega arith) (message_needs set homes s now seen said kind list)
method_needs set homes s now seen said other = omega arith

reading_needs : (set : Setting) (homes : List HomeRow) (s : ServerEnd) (now : ServerState) (seen : Seen) (said : Reply) (r : Reading)
    → needs (on_reading set homes s now seen said r) ≤ packets_left_in now s.synced
reading_needs set homes s state.AwaitIdentity seen said r = first_needs s.options set homes (text_in r)
reading_needs set homes s other seen said r = method_needs set homes s other seen said r

head_needs : (set : Setting) (homes : List HomeRow) (s : ServerEnd) (seen : Seen) (said : Reply) (head : Option Head) → needs (on_head set homes s seen said head) ≤ packets_left s
head_needs set homes s seen said None = omega arith
head_needs set homes s seen said (Some head) =
    let inner = on_reading set homes s s.state seen said seen.reading in
    let other = not (is_type (type_awaited s.options.method s.state) head.kind) in
    of_two (packets_left s) (not (head.code == 2) || not (head.id == s.id)) (row.Ignore reason.NotForMe) (cond other (row.Ignore reason.OtherType) inner) (omega arith)
    (of_two (packets_left s) other (row.Ignore reason.OtherType) inner (omega arith) (reading_needs set homes s s.state seen said seen.reading))

state_needs : (set : Setting) (homes : List HomeRow) (s : ServerEnd) (seen : Seen) (said : Reply) (now : ServerState) → needs (in_state set homes s seen said now) ≤ packets_left s
state_needs set homes s seen said (state.Ended result last) = omega arith
state_needs set homes s seen said other = head_needs set homes s seen said (head_at seen.bytes)

-- ---- what a row leaves

-- a turn is ignored and no more packets may follow, or fewer than these
abbrev Leaves : ℕ → ServerEnd → ServerEnd × Turn ServerWhy → Type 0
Leaves k s t = ((cause : Reason) × (t.1.step ≡ step.Ignored cause) × (packets_left t.0 ≤ packets_left s)) ⊎ (packets_left t.0 < k)

drawn_leaves : (k : ℕ) (realm : List ℕ) (s base : ServerEnd) (sub n : ℕ) (v : Option Vector) (given : Option GivenNames) (notes : Notes) (checked : Bool)
    → packets_left base ≤ packets_left s → left_challenged base.synced < k → Leaves k s (challenged_with realm base sub n v given notes checked)
drawn_leaves k realm s base sub n None given notes checked same less = inl (reason.Unexpected, refl, same)
drawn_leaves k realm s base sub n (Some v) given notes checked same less = inr less

challenged_leaves : (k : ℕ) (set : Setting) (homes : List HomeRow) (s base : ServerEnd) (sub : ℕ) (checked : Bool) (resynced : Option ResyncNote) (drawn : Option NumberNote)
    → packets_left base ≤ packets_left s → left_challenged base.synced < k → 1 < k → Leaves k s (challenged set homes base sub checked resynced drawn)
challenged_leaves k set homes s base sub checked resynced None same less more = inl (reason.Unexpected, refl, same)
challenged_leaves k set homes s base sub checked resynced (Some (number.Drew n)) same less more =
    drawn_leaves k set.realm s base sub n (vector_at set base.options sub n) (names_given set homes base sub) (noted resynced (Some (number.Drew n))) checked same less
challenged_leaves k set homes s base sub checked resynced (Some (number.Exhausted w)) same less more = inr more
challenged_leaves k set homes s base sub checked resynced (Some (number.Withheld n stop)) same less more = inr more

-- a challenge after an identity or a re-authentication
below_four : (synced : Bool) → left_challenged synced < 4
below_four true = omega arith
below_four false = omega arith

synced_left : (now : ServerState) (synced : Bool) → packets_left_in now true ≤ packets_left_in now synced
synced_left (state.AwaitChallenge sent before) true = omega arith
synced_left (state.AwaitChallenge sent before) false = omega arith
synced_left state.AwaitIdentity synced = omega arith
synced_left (state.Await asks.Any) synced = omega arith
synced_left (state.Await asks.Fullauth) synced = omega arith
synced_left (state.Await asks.Permanent) synced = omega arith
synced_left (state.AwaitReauth sent) synced = omega arith
synced_left (state.Notifying cause last) synced = omega arith
synced_left (state.Ended result last) synced = omega arith

resynchronised_leaves : (set : Setting) (homes : List HomeRow) (s : ServerEnd) (sub : ℕ) (resynced : Option ResyncNote) (drawn : Option NumberNote)
    → Leaves 3 s (resynchronised set homes s sub resynced drawn)
resynchronised_leaves set homes s sub None drawn = inl (reason.Unexpected, refl, omega arith)
resynchronised_leaves set homes s sub (Some resync.BadAuts) drawn = inl (reason.Unexpected, refl, omega arith)
resynchronised_leaves set homes s sub (Some (resync.Beyond seen seq)) drawn = inr (omega arith)
resynchronised_leaves set homes s sub (Some (resync.InRange seen seq)) drawn =
    challenged_leaves 3 set homes s (resynchronising s) sub false (Some (resync.InRange seen seq)) drawn (synced_left s.state s.synced) (omega arith) (omega arith)
resynchronised_leaves set homes s sub (Some (resync.Moved seen seq)) drawn =
    challenged_leaves 3 set homes s (resynchronising s) sub false (Some (resync.Moved seen seq)) drawn (synced_left s.state s.synced) (omega arith) (omega arith)

resumed_leaves : (set : Setting) (homes : List HomeRow) (s : ServerEnd) (text : List ℕ) (packets : List (List ℕ)) (sub : ℕ) (c : Option Context)
    → Leaves 5 s (resumed_with set homes s text packets sub c)
resumed_leaves set homes s text packets sub None = inl (reason.Unexpected, refl, omega arith)
resumed_leaves set homes s text packets sub (Some c) = inr (omega arith)

does_leaves : (set : Setting) (homes : List HomeRow) (s : ServerEnd) (text : List ℕ) (packets : List (List ℕ)) (r : Row) (notes : Notes)
    → Leaves (needs r) s (server_does set homes s text packets r notes)
does_leaves set homes s text packets (row.Ignore cause) notes = inl (cause, refl, omega arith)
does_leaves set homes s text packets (row.Ask asks.Any) notes = inr (omega arith)
does_leaves set homes s text packets (row.Ask asks.Fullauth) notes = inr (omega arith)
does_leaves set homes s text packets (row.Ask asks.Permanent) notes = inr (omega arith)
does_leaves set homes s text packets (row.Challenge sub) notes =
    challenged_leaves 4 set homes s (identified s text packets) sub false None notes.number (omega arith) (below_four s.synced) (omega arith)
does_leaves set homes s text packets (row.TooSmall sub) notes = challenged_leaves 4 set homes s s sub true None notes.number (omega arith) (below_four s.synced) (omega arith)
does_leaves set homes s text packets (row.Resume sub) notes =
    resumed_leaves set (homes_left s.options.method text homes sub) s text packets sub (context_in s.options.method text homes sub)
does_leaves set homes s text packets (row.Resynchronise sub seq) notes = resynchronised_leaves set homes s sub notes.resync notes.number
does_leaves set homes s text packets (row.Success sent) notes = inr (omega arith)
does_leaves set homes s text packets (row.Reauthenticated sent) notes = inr (omega arith)
does_leaves set homes s text packets row.UnknownIdentity notes = inr (omega arith)
does_leaves set homes s text packets row.WrongCounter notes = inr (omega arith)
does_leaves set homes s text packets row.WrongMac notes = inr (omega arith)
does_leaves set homes s text packets row.WrongRes notes = inr (omega arith)
does_leaves set homes s text packets row.WrongCheckcode notes = inr (omega arith)
does_leaves set homes s text packets row.SecondSync notes = inr (omega arith)
does_leaves set homes s text packets row.BadAuts notes = inr (omega arith)
does_leaves set homes s text packets row.Rejected notes = inr (omega arith)
does_leaves set homes s text packets (row.ClientError code) notes = inr (omega arith)
does_leaves set homes s text packets (row.Notified cause) notes = inr (omega arith)

-- ---- a turn

fewer : (A : Type 0) (k left new : ℕ) → A ⊎ (new < k) → k ≤ left → A ⊎ (new < left)
fewer A k left new (inl same) enough = inl same
fewer A k left new (inr less) enough = inr (omega (arith, less, enough))

pub each_turn_leaves : EachTurnLeavesFewer
each_turn_leaves set homes s seen said notes =
    let r = server_row set homes s seen said in
    let t = server_does set homes s (text_in seen.reading) (packets_after s seen r) r notes in
    fewer ((cause : Reason) × (t.1.step ≡ step.Ignored cause) × (packets_left t.0 ≤ packets_left s)) (needs r) (packets_left s) (packets_left t.0)
    (does_leaves set homes s (text_in seen.reading) (packets_after s seen r) r notes) (state_needs set homes s seen said s.state)
