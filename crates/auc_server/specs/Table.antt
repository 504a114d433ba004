-- The table of a server of EAP-AKA or EAP-AKA': what each row does (RFC 4187 §3, §5 and §6).
use Rattle.std.specs.Prelude.{ℕ, ◌+◌, ◌%◌, Bool, true, false, List, [], Option, Some, None, slice_get}
use Rattle.auc_hmac.specs.declared.keys.KeySet.{KeySet}
use Rattle.auc_ident.specs.Names.{name_text}
use Rattle.auc_ident.specs.declared.names.NameKind.{NameKind}
use Rattle.auc_ident.specs.declared.names.NameKind.TheVariants as kinds
use Rattle.auc_packet.specs.Spelling.{packet_text}
use Rattle.auc_packet.specs.Received.{Seen}
use Rattle.auc_packet.specs.declared.packet.Packet.TheVariants as packet
use Rattle.auc_subs.specs.declared.row.Row as rows
use Rattle.auc_vector.specs.Keys.{keys_of, master_of, reauth_keys_of}
use Rattle.auc_random.specs.Random.{index_after, nonce_of, rand_of}
use Rattle.auc_vector.specs.Vector.{vector_of}
use Rattle.auc_vector.specs.declared.notes.Notes.{Notes}
use Rattle.auc_vector.specs.declared.notes.NumberNote.{NumberNote}
use Rattle.auc_vector.specs.declared.notes.NumberNote.TheVariants as number
use Rattle.auc_vector.specs.declared.notes.ResyncNote.{ResyncNote}
use Rattle.auc_vector.specs.declared.notes.ResyncNote.TheVariants as resync
use Rattle.auc_vector.specs.declared.parts.Vector.{Vector}
use Rattle.auc_vector.specs.declared.turn.Outcome.{Outcome}
use Rattle.auc_vector.specs.declared.turn.Outcome.TheVariants as outcome
use Rattle.auc_vector.specs.declared.turn.Reason.{Reason}
use Rattle.auc_vector.specs.declared.turn.Reason.TheVariants as reason
use Rattle.auc_vector.specs.declared.turn.Step.{Step}
use Rattle.auc_vector.specs.declared.turn.Step.TheVariants as step
use Rattle.auc_vector.specs.declared.turn.Turn.{Turn}
use Rattle.auc_reauth.specs.declared.context.Context.{Context}
use Rattle.auc_server.specs.Contexts.{context_in, gives_next, homes_left, homes_resumed, homes_rewon, homes_won}
use Rattle.auc_server.specs.Messages.{aka_identity, challenge_bytes, notification, reauth_bytes}
use Rattle.auc_server.specs.Ordinals.{homes_given, ordinal_given}
use Rattle.auc_seal.specs.Checkcode.{counted}
use Rattle.auc_server.specs.Rounds.{checkcode, heard}
use Rattle.auc_server.specs.Rows.{server_row, text_in}
use Rattle.auc_server.specs.Server.{ServerEnd, resumed_of}
use Rattle.auc_server.specs.State.{last_of}
use Rattle.auc_subs.specs.Setting.{Setting}
use Rattle.auc_request.specs.declared.identities.IdentityRequest.{IdentityRequest}
use Rattle.auc_server.specs.declared.naming.GivenNames.{GivenNames}
use Rattle.auc_server.specs.declared.naming.NewNames.{NewNames}
use Rattle.auc_server.specs.declared.naming.NewNames.TheVariants as names
use Rattle.auc_server.specs.declared.options.ServerOptions.{ServerOptions}
use Rattle.auc_server.specs.declared.reply.Reply.{Reply}
use Rattle.auc_server.specs.declared.rows.Row.{Row}
use Rattle.auc_server.specs.declared.rows.Row.TheVariants as row
use Rattle.auc_server.specs.declared.server.Challenged.{Challenged}
use Rattle.auc_server.specs.declared.server.Resumed.{Resumed}
use Rattle.auc_server.specs.declared.server.ServerState.{ServerState}
use Rattle.auc_server.specs.declared.server.ServerState.TheVariants as state
use Rattle.auc_server.specs.declared.setting.HomeRow.{HomeRow}
use Rattle.auc_vector.specs.declared.why.ServerWhy.{ServerWhy}
use Rattle.auc_vector.specs.declared.why.ServerWhy.TheVariants as why

-- ---- notes

-- what a server's turn notes
abbrev pub noted : Option ResyncNote → Option NumberNote → Notes
noted resynced drawn = record { resync = resynced; number = drawn; resumed = None; usim = None; counter = None }

-- the counter of a context that was taken up again
abbrev pub resuming : ℕ → Notes
resuming counter = record { resync = None; number = None; resumed = Some counter; usim = None; counter = None }

-- nothing is noted
abbrev pub silent : Notes
silent = noted None None

-- ---- what rows share

abbrev pub ignored : ServerEnd → Reason → ServerEnd × Turn ServerWhy
ignored s cause = (s, record { notes = silent; step = step.Ignored cause; checked = false })

abbrev pub next_id : ℕ → ℕ
next_id id = (id + 1) % 256

-- a new request is sent, and kept to be sent again
abbrev pub requested : ServerEnd → ServerState → List ℕ → Notes → Bool → ServerEnd × Turn ServerWhy
requested s next bytes notes checked = (
  record s { state = next; id = next_id s.id; last = bytes },
  record { notes = notes; step = step.Sent bytes; checked = checked },
)

-- Notification of a failure, whose cause is kept until the peer has answered (RFC 4187 §6.3)
abbrev pub notified : ServerEnd → ServerWhy → Notes → Bool → ServerEnd × Turn ServerWhy
notified s cause notes checked =
    requested s (state.Notifying cause (last_of s.state)) (packet_text (notification s.options.method (next_id s.id))) notes checked

-- the session ends, with the packet that is sent
abbrev pub ended : ServerEnd → Outcome ServerWhy → List ℕ → Bool → ServerEnd × Turn ServerWhy
ended s result bytes checked = (
  record s { state = state.Ended result (last_of s.state) },
  record { notes = silent; step = step.Ended result bytes; checked = checked },
)

-- EAP-Failure
abbrev pub failed : ServerEnd → ServerWhy → ServerEnd × Turn ServerWhy
failed s cause = ended s (outcome.Failure cause) (packet_text (packet.Failure s.id)) false

-- ---- a challenge

-- the vector of a subscriber's number, by a session's method and network name; each subscriber has a row
abbrev pub vector_of_row : Setting → ServerOptions → ℕ → ℕ → Option rows.Row → Option Vector
vector_of_row set options sub n None = None
vector_of_row set options sub n (Some home) = Some (vector_of home.secret options.method home.amf options.name home.bits n (rand_of set.key sub n))

abbrev pub vector_at : Setting → ServerOptions → ℕ → ℕ → Option Vector
vector_at set options sub n = vector_of_row set options sub n (slice_get set.rows sub)

-- the next identity among the names that are given
abbrev pub identity_among : NewNames → Option (List ℕ)
identity_among (names.Pseudonym text) = None
identity_among (names.Identity text) = Some text
identity_among (names.Both text other) = Some other

abbrev pub next_given : Option GivenNames → Option (List ℕ)
next_given None = None
next_given (Some given) = identity_among given.names

-- the challenge of a number's vector, under the keys that the identity that was received last gives
abbrev pub challenge_of : ServerEnd → ℕ → ℕ → Vector → Option (List ℕ) → Challenged
challenge_of s sub n v next = record {
  sub = sub;
  number = n;
  vector = v;
  keys = keys_of s.options.method s.identity v.ik v.ck;
  master = master_of s.options.method s.identity v.ik v.ck;
  next = next;
}

-- the sixteen random bytes of an index of the session, for an initialisation vector or NONCE_S
abbrev pub random_at : Setting → ServerEnd → ℕ → List ℕ
random_at set s k = nonce_of set.key s.options.session k

-- the next initialisation vector after a challenge
abbrev pub iv_after : ℕ → Option GivenNames → ℕ
iv_after k None = k
iv_after k (Some given) = index_after k

-- the name of an ordinal
abbrev pub name_of : Setting → NameKind → ServerEnd → ℕ → Option ℕ → Option (List ℕ)
name_of set kind s sub None = None
name_of set kind s sub (Some ordinal) = Some (name_text set.names kind s.options.method sub ordinal)

-- the pseudonym that a challenge of a subscriber gives
abbrev pub pseudonym_given : Setting → List HomeRow → ServerEnd → ℕ → Option (List ℕ)
pseudonym_given set homes s sub = name_of set kinds.Pseudonym s sub (ordinal_given s.options.pseudonym homes sub)

-- the re-authentication identity that it gives; its ordinal comes after the pseudonym's
abbrev pub identity_given : Setting → List HomeRow → ServerEnd → ℕ → Option (List ℕ)
identity_given set homes s sub =
    name_of set kinds.Reauth s sub (ordinal_given s.options.reauth (homes_given s.options.pseudonym homes sub) sub)

abbrev pub both_of : Option (List ℕ) → Option (List ℕ) → Option NewNames
both_of None None = None
both_of (Some text) None = Some (names.Pseudonym text)
both_of None (Some other) = Some (names.Identity other)
both_of (Some text) (Some other) = Some (names.Both text other)

-- names, with the initialisation vector under which they are encrypted
abbrev pub under : List ℕ → Option NewNames → Option GivenNames
under iv None = None
under iv (Some given) = Some (record { iv = iv; names = given })

-- the names that a challenge of a subscriber gives
abbrev pub names_given : Setting → List HomeRow → ServerEnd → ℕ → Option GivenNames
names_given set homes s sub = under (random_at set s s.next_iv) (both_of (pseudonym_given set homes s sub) (identity_given set homes s sub))

abbrev pub sent_with : List ℕ → ServerEnd → Challenged → Option GivenNames → Notes → Bool → ServerEnd × Turn ServerWhy
sent_with realm s sent given notes checked =
    requested (record s { next_iv = iv_after s.next_iv given }) (state.AwaitChallenge sent (resumed_of s))
    (challenge_bytes s.options realm (next_id s.id) sent.vector sent.keys given (checkcode s.options.method s.packets)) notes checked

abbrev pub challenged_with : List ℕ → ServerEnd → ℕ → ℕ → Option Vector → Option GivenNames → Notes → Bool → ServerEnd × Turn ServerWhy
challenged_with realm s sub n None given notes checked = ignored s reason.Unexpected
challenged_with realm s sub n (Some v) given notes checked = sent_with realm s (challenge_of s sub n v (next_given given)) given notes checked

-- a subscriber is challenged, if the centre gives a number
abbrev pub challenged : Setting → List HomeRow → ServerEnd → ℕ → Bool → Option ResyncNote → Option NumberNote → ServerEnd × Turn ServerWhy
challenged set homes s sub checked resynced None = ignored s reason.Unexpected
challenged set homes s sub checked resynced (Some (number.Drew n)) =
    challenged_with set.realm s sub n (vector_at set s.options sub n) (names_given set homes s sub) (noted resynced (Some (number.Drew n))) checked
challenged set homes s sub checked resynced (Some (number.Exhausted w)) =
    notified s (why.Exhausted w) (noted resynced (Some (number.Exhausted w))) checked
challenged set homes s sub checked resynced (Some (number.Withheld n stop)) =
    notified s (why.Stopped n stop) (noted resynced (Some (number.Withheld n stop))) checked

-- the homes after the names of a challenge were given
abbrev pub homes_named : ServerOptions → List HomeRow → ℕ → List HomeRow
homes_named options homes sub = homes_given options.reauth (homes_given options.pseudonym homes sub) sub

-- the homes after a subscriber was challenged
abbrev pub homes_challenged : ServerOptions → List HomeRow → ℕ → Option NumberNote → List HomeRow
homes_challenged options homes sub (Some (number.Drew n)) = homes_named options homes sub
homes_challenged options homes sub other = homes

-- ---- a re-authentication

-- the re-authentication of a subscriber with a context, by the homes after the context left
abbrev pub resumption : Setting → List HomeRow → ServerEnd → ℕ → Context → Resumed
resumption set homes s sub c = record {
  sub = sub;
  context = c;
  nonce = random_at set s (index_after s.next_iv);
  next = name_of set kinds.Reauth s sub (ordinal_given (gives_next s.options c) homes sub);
}

-- the request is sent; its initialisation vector comes before its NONCE_S among the random bytes
abbrev pub resent : Setting → ServerEnd → Resumed → ServerEnd × Turn ServerWhy
resent set s r =
    requested (record s { next_iv = index_after (index_after s.next_iv) }) (state.AwaitReauth r)
    (reauth_bytes s.options.method set.realm (next_id s.id) (random_at set s s.next_iv) r (checkcode s.options.method s.packets))
    (resuming r.context.counter) false

-- the keys of a re-authentication, from the identity that was received last (RFC 4187 §7, RFC 9048 §3.3)
abbrev pub resumed_keys : ServerEnd → Resumed → KeySet
resumed_keys s r = reauth_keys_of r.context.k_encr r.context.k_aut r.context.master s.identity r.context.counter r.nonce

-- ---- the rows

-- the identity that was received, and the AKA-Identity packets after this turn
abbrev pub identified : ServerEnd → List ℕ → List (List ℕ) → ServerEnd
identified s text packets = record s { identity = text; packets = packets }

abbrev pub unknown : ServerEnd → List ℕ → List (List ℕ) → ServerEnd × Turn ServerWhy
unknown s text packets = notified (identified s text packets) why.UnknownIdentity silent false

-- the AKA-Identity request that a server sends next
abbrev pub identity_asked : ServerEnd → IdentityRequest → List ℕ
identity_asked s kind = packet_text (aka_identity s.options.method (next_id s.id) kind)

-- another identity is asked for (RFC 4187 §4.1.4)
abbrev pub asked : ServerEnd → List ℕ → List (List ℕ) → IdentityRequest → ServerEnd × Turn ServerWhy
asked s text packets kind = requested (identified s text packets) (state.Await kind) (identity_asked s kind) silent false

abbrev pub first_challenge : Setting → List HomeRow → ServerEnd → List ℕ → List (List ℕ) → ℕ → Option NumberNote → ServerEnd × Turn ServerWhy
first_challenge set homes s text packets sub drawn = challenged set homes (identified s text packets) sub false None drawn

abbrev pub resumed_with : Setting → List HomeRow → ServerEnd → List ℕ → List (List ℕ) → ℕ → Option Context → ServerEnd × Turn ServerWhy
resumed_with set homes s text packets sub None = ignored s reason.Unexpected
resumed_with set homes s text packets sub (Some c) = resent set (identified s text packets) (resumption set homes s sub c)

-- the context of a subscriber is taken up again (RFC 4187 §5.3)
abbrev pub resumed : Setting → List HomeRow → ServerEnd → List ℕ → List (List ℕ) → ℕ → ServerEnd × Turn ServerWhy
resumed set homes s text packets sub =
    resumed_with set (homes_left s.options.method text homes sub) s text packets sub (context_in s.options.method text homes sub)

abbrev pub resynchronising : ServerEnd → ServerEnd
resynchronising s = record s { synced = true }

-- the centre resynchronises, and the USIM is challenged again unless the number is too far above (TS 33.102 §6.3.5)
abbrev pub resynchronised : Setting → List HomeRow → ServerEnd → ℕ → Option ResyncNote → Option NumberNote → ServerEnd × Turn ServerWhy
resynchronised set homes s sub None drawn = ignored s reason.Unexpected
resynchronised set homes s sub (Some resync.BadAuts) drawn = ignored s reason.Unexpected
resynchronised set homes s sub (Some (resync.Beyond seen seq)) drawn =
    notified (resynchronising s) (why.Beyond seen seq) (noted (Some (resync.Beyond seen seq)) None) false
resynchronised set homes s sub (Some (resync.InRange seen seq)) drawn = challenged set homes (resynchronising s) sub false (Some (resync.InRange seen seq)) drawn
resynchronised set homes s sub (Some (resync.Moved seen seq)) drawn = challenged set homes (resynchronising s) sub false (Some (resync.Moved seen seq)) drawn

-- EAP-Success, under the keys of the challenge
abbrev pub succeeded : ServerEnd → Challenged → ServerEnd × Turn ServerWhy
succeeded s sent = ended s (outcome.Success sent.keys) (packet_text (packet.Success s.id)) true

-- the same under the keys of the re-authentication
abbrev pub reauthenticated : ServerEnd → Resumed → ServerEnd × Turn ServerWhy
reauthenticated s r = ended s (outcome.Success (resumed_keys s r)) (packet_text (packet.Success s.id)) true

-- a row, with the text of an identity, the AKA-Identity packets after this turn, and the notes of what the centre answered
abbrev pub server_does : Setting → List HomeRow → ServerEnd → List ℕ → List (List ℕ) → Row → Notes → ServerEnd × Turn ServerWhy
server_does set homes s text packets (row.Ignore cause) notes = ignored s cause
server_does set homes s text packets (row.Ask kind) notes = asked s text packets kind
server_does set homes s text packets row.UnknownIdentity notes = unknown s text packets
server_does set homes s text packets (row.Challenge sub) notes = first_challenge set homes s text packets sub notes.number
server_does set homes s text packets (row.Resume sub) notes = resumed set homes s text packets sub
server_does set homes s text packets row.WrongCounter notes = notified s why.WrongCounter silent true
server_does set homes s text packets (row.TooSmall sub) notes = challenged set homes s sub true None notes.number
server_does set homes s text packets (row.Reauthenticated sent) notes = reauthenticated s sent
server_does set homes s text packets row.WrongMac notes = notified s why.WrongMac silent false
server_does set homes s text packets row.WrongRes notes = notified s why.WrongRes silent true
server_does set homes s text packets row.WrongCheckcode notes = notified s why.WrongCheckcode silent true
server_does set homes s text packets (row.Success sent) notes = succeeded s sent
server_does set homes s text packets row.SecondSync notes = notified s why.SecondSync silent false
server_does set homes s text packets row.BadAuts notes = notified s why.BadAuts (noted (Some resync.BadAuts) None) false
server_does set homes s text packets (row.Resynchronise sub seq) notes = resynchronised set homes s sub notes.resync notes.number
server_does set homes s text packets row.Rejected notes = failed s why.Rejected
server_does set homes s text packets (row.ClientError code) notes = failed s (why.ClientError code)
server_does set homes s text packets (row.Notified cause) notes = failed s cause

-- the AKA-Identity packets after a turn: the one that was received, and the one that is sent (RFC 4187 §10.13)
abbrev pub packets_after : ServerEnd → Seen → Row → List (List ℕ)
packets_after s seen (row.Ask kind) = counted (identity_asked s kind) (heard s.packets seen.bytes seen.reading)
packets_after s seen other = heard s.packets seen.bytes seen.reading

-- the table
abbrev pub server_step : Setting → List HomeRow → ServerEnd → Seen → Reply → Notes → ServerEnd × Turn ServerWhy
server_step set homes s seen said notes =
    server_does set homes s (text_in seen.reading) (packets_after s seen (server_row set homes s seen said)) (server_row set homes s seen said) notes

-- the homes after a row, with the text of an identity
abbrev pub homes_done : List HomeRow → ServerEnd → List ℕ → Row → Notes → List HomeRow
homes_done homes s text (row.Challenge sub) notes = homes_challenged s.options homes sub notes.number
homes_done homes s text (row.Resume sub) notes = homes_resumed s.options text homes sub (context_in s.options.method text homes sub)
homes_done homes s text (row.TooSmall sub) notes = homes_challenged s.options homes sub notes.number
homes_done homes s text (row.Resynchronise sub seq) notes = homes_challenged s.options homes sub notes.number
homes_done homes s text (row.Success sent) notes = homes_won s.options.method homes sent
homes_done homes s text (row.Reauthenticated sent) notes = homes_rewon s.options.method homes sent
homes_done homes s text other notes = homes

-- the homes after a turn: each name that is given uses an ordinal, a context that is taken up again leaves, and success keeps
-- the new one
abbrev pub homes_after : Setting → List HomeRow → ServerEnd → Seen → Reply → Notes → List HomeRow
homes_after set homes s seen said notes = homes_done homes s (text_in seen.reading) (server_row set homes s seen said) notes

-- ---- beside the table

-- the last request again (RFC 3748 §4.1)
abbrev pub repeated : ServerEnd → ServerState → Step ServerWhy
repeated s (state.Ended result last) = step.Ignored reason.Closed
repeated s other = step.Sent s.last

-- the server gives up, and sends nothing
abbrev pub gave_up : ServerEnd → ServerState → ServerEnd × Step ServerWhy
gave_up s (state.Ended result last) = (s, step.Ignored reason.Closed)
gave_up s other = (record s { state = state.Ended (outcome.Failure why.GivenUp) (last_of s.state) }, step.Ended (outcome.Failure why.GivenUp) [])
