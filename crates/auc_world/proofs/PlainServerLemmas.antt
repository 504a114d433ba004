-- For plain sessions: the turns of a server, from the Identity response to Success.
use Rattle.auc_request.specs.declared.identities.IdentityRequest.TheVariants as request
use Rattle.std.proofs.Common.{◌≡◌, ℕ, ◌==◌, nat_le, Bool, true, false, not, if◌then◌else◌, List, [], ◌∷◌, length, Option, Some, None, slice_get, refl, sym, ap, ◌∙◌, subst, eq-eqb}
use Rattle.std.proofs.lemmas.Slice.Eq.{bytes_eq-Decides}
use Rattle.std.specs.Str.{bytes_eq}
use Rattle.auc_aes.specs.Bytes.{IsBlock}
use Rattle.auc_attr.specs.declared.attr.Attr.{Attr}
use Rattle.auc_attr.specs.declared.attr.Attr.TheVariants as attr
use Rattle.auc_history.specs.Resynchronise.{Resynchronisation, resynchronise_of}
use Rattle.auc_history.specs.Resynchronise as found
use Rattle.auc_hmac.specs.declared.keys.KeySet.{KeySet}
use Rattle.auc_hmac.specs.declared.keys.Master.{Master}
use Rattle.auc_hmac.specs.declared.method.Method.{Method}
use Rattle.auc_hmac.specs.declared.method.Method.TheVariants as method
use Rattle.auc_milenage.specs.Milenage.{auts}
use Rattle.auc_packet.specs.Messages.{is_malformed}
use Rattle.auc_packet.specs.Packet.{method_type}
use Rattle.auc_packet.specs.Received.{Seen, is_sealed, packet_in}
use Rattle.auc_packet.specs.Sealed.{with_mac}
use Rattle.auc_packet.specs.Head.{head_at}
use Rattle.auc_packet.specs.Spelling.{MayBeWritten, packet_text}
use Rattle.auc_packet.specs.declared.packet.Packet.TheVariants as packet
use Rattle.auc_packet.specs.declared.received.Reading.{Reading}
use Rattle.auc_packet.specs.declared.received.Reading.TheVariants as reading
use Rattle.auc_packet.specs.declared.subtype.Subtype.{Subtype}
use Rattle.auc_packet.specs.declared.subtype.Subtype.TheVariants as subtype
use Rattle.auc_peer.specs.Messages.{draft_of, identified as identity_answer, identity_response, own_kdf, sync_failure}
use Rattle.auc_request.specs.declared.identities.IdentityRequest.{IdentityRequest}
use Rattle.auc_seal.specs.Checkcode.{counted}
use Rattle.auc_reauth.specs.declared.context.Context.{Context}
use Rattle.auc_ident.specs.declared.names.NameKind.TheVariants as kinds
use Rattle.auc_server.specs.Contexts.{context_in, gives_next, homes_left}
use Rattle.auc_server.specs.InnerMessages.{IsName}
use Rattle.auc_server.specs.Messages.{aka_identity, challenge_bytes, reauth_bytes}
use Rattle.auc_server.specs.Ordinals.{ordinal_given}
use Rattle.auc_server.specs.Rounds.{checkcode, heard}
use Rattle.auc_server.specs.Rows.{by_auts, in_state, is_type, on_any, on_auts, on_challenged, on_first, on_full, on_head, on_method, on_permanent, on_reading, on_response, read_by, server_row, text_in, type_awaited}
use Rattle.auc_server.specs.Server.{ServerEnd, resumed_of}
use Rattle.auc_subs.specs.Setting.{Setting}
use Rattle.auc_server.specs.State.{last_of}
use Rattle.auc_server.specs.Steps.{asking}
use Rattle.auc_server.specs.Table.{challenge_of, challenged, challenged_with, ended, first_challenge, identified, identity_asked, names_given, next_given, next_id, noted, packets_after, random_at, resumed, resumed_with, resuming, resumption, resynchronised, resynchronising, sent_with, server_does, server_step, silent, vector_of_row}
use Rattle.auc_server.specs.declared.naming.GivenNames.{GivenNames}
use Rattle.auc_server.specs.declared.options.ServerOptions.{ServerOptions}
use Rattle.auc_server.specs.declared.reply.Reply.{Reply}
use Rattle.auc_server.specs.declared.rows.Row.{Row}
use Rattle.auc_server.specs.declared.rows.Row.TheVariants as row
use Rattle.auc_server.specs.declared.server.Challenged.{Challenged}
use Rattle.auc_server.specs.declared.server.Last.{Last}
use Rattle.auc_server.specs.declared.server.Resumed.{Resumed}
use Rattle.auc_server.specs.declared.server.ServerState.{ServerState}
use Rattle.auc_server.specs.declared.server.ServerState.TheVariants as state
use Rattle.auc_server.specs.declared.setting.HomeRow.{HomeRow}
use Rattle.auc_vector.specs.declared.why.ServerWhy.{ServerWhy}
use Rattle.auc_sqn.specs.Number.{seq_of, top_of}
use Rattle.auc_subs.specs.declared.row.Row as rows
use Rattle.auc_vector.specs.Auts.{read_auts_of}
use Rattle.auc_vector.specs.Keys.{keys_of}
use Rattle.auc_random.specs.Random.{index_after, rand_of}
use Rattle.auc_vector.specs.Vector.{vector_of}
use Rattle.auc_vector.specs.declared.auts.Auts.{Auts}
use Rattle.auc_vector.specs.declared.auts.Auts.TheVariants as read
use Rattle.auc_vector.specs.declared.notes.Notes.{Notes}
use Rattle.auc_vector.specs.declared.notes.NumberNote.{NumberNote}
use Rattle.auc_vector.specs.declared.notes.NumberNote.TheVariants as number
use Rattle.auc_vector.specs.declared.notes.ResyncNote.{ResyncNote}
use Rattle.auc_vector.specs.declared.notes.ResyncNote.TheVariants as resync
use Rattle.auc_vector.specs.declared.parts.Vector.{Vector}
use Rattle.auc_vector.specs.declared.turn.Outcome.TheVariants as outcome
use Rattle.auc_vector.specs.declared.turn.Reason.TheVariants as reason
use Rattle.auc_vector.specs.declared.turn.Step.TheVariants as step
use Rattle.auc_vector.specs.declared.turn.Turn.{Turn}
use Rattle.auc_world.proofs.PlainKeyLemmas.{AreNewNames, name_named, names_are, nonce_block}
use Rattle.auc_world.proofs.PlainPacketLemmas.{Is, Laws, packet_there}
use Rattle.auc_world.specs.Given.{IsCentreAsked, IsNumberAnswer, NumberFollows, resync_note}
use Rattle.auc_world.specs.Plain.{is_refused, is_unresolved}

-- ---- a challenge

-- the vector of a number, by the options of a server
abbrev pub vector_for : Setting → ServerOptions → ℕ → rows.Row → ℕ → Vector
vector_for set o sub home n = vector_of home.secret o.method home.amf o.name home.bits n (rand_of set.key sub n)

-- its keys under an identity
abbrev pub keys_under : ServerOptions → List ℕ → Vector → KeySet
keys_under o text v = keys_of o.method text v.ik v.ck

-- the challenge of a vector
abbrev pub sent_as : ServerOptions → ℕ → ℕ → List ℕ → Vector → Master → Option (List ℕ) → Challenged
sent_as o sub number text v master names = record { sub = sub; number = number; vector = v; keys = keys_under o text v; master = master; next = names }

-- a server that challenged a subscriber awaits the answer
pub record Awaits (q : ServerEnd) (o : ServerOptions) (sub : ℕ) (text : List ℕ) (id : ℕ) (v : Vector) (synced : Bool) (packets : List (List ℕ)) : Type 0 where
  pub options_are : q.options ≡ o
  pub id_is : q.id ≡ id
  pub identity_is : q.identity ≡ text
  pub number : ℕ
  pub master : Master
  pub names : Option (List ℕ)
  pub before : Option Resumed
  pub awaits_is : q.state ≡ state.AwaitChallenge (sent_as o sub number text v master names) before
  pub synced_is : q.synced ≡ synced
  pub packets_are : q.packets ≡ packets

-- what is sent of a number
abbrev pub challenge_with : Setting → ServerOptions → ℕ → rows.Row → List ℕ → ℕ → ℕ → Option GivenNames → List (List ℕ) → List ℕ
challenge_with set o sub home text id n given packets =
    challenge_bytes o set.realm id (vector_for set o sub home n) (keys_under o text (vector_for set o sub home n)) given (checkcode o.method packets)

-- a turn that challenges
pub record IsChallenge (set : Setting) (o : ServerOptions) (sub : ℕ) (home : rows.Row) (text : List ℕ) (id : ℕ) (synced : Bool) (packets : List (List ℕ)) (turn : ServerEnd × Turn ServerWhy) : Type 0 where
  pub n : ℕ
  pub given : Option GivenNames
  pub names : AreNewNames given
  pub q : ServerEnd
  pub notes : Notes
  pub checked : Bool
  pub is : turn ≡ (q, record { notes = notes; step = step.Sent (challenge_with set o sub home text id n given packets); checked = checked })
  pub awaits : Awaits q o sub text id (vector_for set o sub home n) synced packets

true_false : ◌≡◌ {A = Bool} true false → ⊥
true_false e = cc

-- the centre gave a number
challenges : (set : Setting) (homes : List HomeRow) (s : ServerEnd) (sub : ℕ) (home : rows.Row) (checked : Bool) (resynced : Option ResyncNote) (drawn : Option NumberNote) → slice_get set.rows sub ≡ Some home → IsNumberAnswer set sub drawn
    → is_refused drawn ≡ false → IsChallenge set s.options sub home s.identity (next_id s.id) s.synced s.packets (challenged set homes s sub checked resynced drawn)
challenges set homes s sub home checked resynced None there answer fine = absurd answer
challenges set homes s sub home checked resynced (Some (number.Exhausted w)) there answer fine = absurd (true_false fine)
challenges set homes s sub home checked resynced (Some (number.Withheld n stop)) there answer fine = absurd (true_false fine)
challenges set homes s sub home checked resynced (Some (number.Drew n)) there answer fine =
    let v = vector_for set s.options sub home n in
    let notes = noted resynced (Some (number.Drew n)) in
    let given = names_given set homes s sub in
    let sent = challenge_of s sub n v (next_given given) in
    record {
      n = n;
      given = given;
      names = names_are set homes s sub;
      q = (sent_with set.realm s sent given notes checked).0;
      notes = notes;
      checked = checked;
      is = ap (λ (o : Option Vector). challenged_with set.realm s sub n o given notes checked) (ap (vector_of_row set s.options sub n) there);
      awaits = record {
        options_are = refl;
        id_is = refl;
        identity_is = refl;
        number = n;
        master = sent.master;
        names = sent.next;
        before = resumed_of s;
        awaits_is = refl;
        synced_is = refl;
        packets_are = refl;
      };
    }

-- by what is known of the server
challenges_as : (set : Setting) (s : ServerEnd) (o : ServerOptions) (sub : ℕ) (home : rows.Row) (text : List ℕ) (id : ℕ) (synced : Bool) (packets : List (List ℕ)) (turn : ServerEnd × Turn ServerWhy)
    → s.options ≡ o → s.identity ≡ text → s.id ≡ id → s.synced ≡ synced → s.packets ≡ packets
    → IsChallenge set s.options sub home s.identity (next_id s.id) s.synced s.packets turn → IsChallenge set o sub home text (next_id id) synced packets turn
challenges_as set s o sub home text id synced packets turn options_are identity_is id_is synced_is packets_are c =
    let one = subst (λ (x : ServerOptions). IsChallenge set x sub home s.identity (next_id s.id) s.synced s.packets turn) options_are c in
    let two = subst (λ (t : List ℕ). IsChallenge set o sub home t (next_id s.id) s.synced s.packets turn) identity_is one in
    let three = subst (λ (i : ℕ). IsChallenge set o sub home text (next_id i) s.synced s.packets turn) id_is two in
    let four = subst (λ (b : Bool). IsChallenge set o sub home text (next_id id) b s.packets turn) synced_is three in
    subst (λ (l : List (List ℕ)). IsChallenge set o sub home text (next_id id) synced l turn) packets_are four

-- the same of a turn that is this one
challenges_by : (set : Setting) (o : ServerOptions) (sub : ℕ) (home : rows.Row) (text : List ℕ) (id : ℕ) (synced : Bool) (packets : List (List ℕ)) (turn same : ServerEnd × Turn ServerWhy)
    → turn ≡ same → IsChallenge set o sub home text id synced packets same → IsChallenge set o sub home text id synced packets turn
challenges_by set o sub home text id synced packets turn same e c =
    record { n = c.n; given = c.given; names = c.names; q = c.q; notes = c.notes; checked = c.checked; is = e ∙ c.is; awaits = c.awaits }

-- ---- the responses of a method

-- after the Identity response each state awaits responses of the method
pub record IsLater (now : ServerState) : Type 0 where
  pub headed : (set : Setting) (homes : List HomeRow) (q : ServerEnd) (seen : Seen) (said : Reply) → in_state set homes q seen said now ≡ on_head set homes q seen said (head_at seen.bytes)
  pub typed : (m : Method) → type_awaited m now ≡ method_type m
  pub read : (set : Setting) (homes : List HomeRow) (q : ServerEnd) (seen : Seen) (said : Reply) (r : Reading) → on_reading set homes q now seen said r ≡ on_method set homes q now seen said r

pub awaits_later : (sent : Challenged) (before : Option Resumed) → IsLater (state.AwaitChallenge sent before)
awaits_later sent before = record { headed = λ set homes q seen said. refl; typed = λ m. refl; read = λ set homes q seen said r. refl }

-- one that is received has the Identifier of the request, and the type of the method
pub awaited : (set : Setting) (homes : List HomeRow) (q : ServerEnd) (seen : Seen) (said : Reply) (o : ServerOptions) (now : ServerState) (id : ℕ) (kind : Subtype) (list : List Attr)
    → IsLater now → q.options ≡ o → q.state ≡ now → q.id ≡ id → Is seen (packet.Aka false id o.method kind list) → server_row set homes q seen said ≡ on_method set homes q now seen said seen.reading
awaited set homes q seen said o now id kind list later options_are state_is id_is is =
    let own : (id == q.id) ≡ true = ap (λ (n : ℕ). id == n) id_is ∙ eq-eqb id id refl in
    let typed : ℕ → ServerState → Row = λ wanted st. if not (is_type wanted (Some (method_type o.method))) then row.Ignore reason.OtherType else on_reading set homes q st seen said seen.reading in
    ap (in_state set homes q seen said) state_is ∙ later.headed set homes q seen said ∙ ap (on_head set homes q seen said) is.head
    ∙ ap (λ (b : Bool). if not b then row.Ignore reason.NotForMe else typed (type_awaited q.options.method q.state) q.state) own
    ∙ ap (λ (st : ServerState). typed (type_awaited q.options.method st) st) state_is
    ∙ ap (λ (x : ServerOptions). typed (type_awaited x.method now) now) options_are
    ∙ ap (λ (wanted : ℕ). typed wanted now) (later.typed o.method)
    ∙ ap (λ (b : Bool). if not b then row.Ignore reason.OtherType else on_reading set homes q now seen said seen.reading) (eq-eqb (method_type o.method) (method_type o.method) refl)
    ∙ later.read set homes q seen said seen.reading

-- ---- an identity

-- a server awaits an identity in a state
pub record Expects (q : ServerEnd) (o : ServerOptions) (now : ServerState) (id : ℕ) (packets : List (List ℕ)) : Type 0 where
  pub options_are : q.options ≡ o
  pub state_is : q.state ≡ now
  pub id_is : q.id ≡ id
  pub packets_are : q.packets ≡ packets
  pub synced_is : q.synced ≡ false

-- the row of an identity in a state
abbrev pub identity_row : ServerState → ServerOptions → Setting → List HomeRow → List ℕ → Row
identity_row state.AwaitIdentity o set homes text = on_first o set homes text
identity_row (state.Await request.Any) o set homes text = on_any o.method set homes text
identity_row (state.Await request.Fullauth) o set homes text = on_full o.method set homes text
identity_row (state.Await request.Permanent) o set homes text = on_permanent o.method set homes text
identity_row other o set homes text = row.Ignore reason.Unexpected

-- it came, and these are the AKA-Identity packets after it
pub record Comes (set : Setting) (homes : List HomeRow) (q : ServerEnd) (seen : Seen) (said : Reply) (o : ServerOptions) (now : ServerState) (text : List ℕ) (id : ℕ) (packets : List (List ℕ)) : Type 0 where
  pub options_are : q.options ≡ o
  pub id_is : q.id ≡ id
  pub synced_is : q.synced ≡ false
  pub row_is : server_row set homes q seen said ≡ identity_row now o set homes text
  pub text_is : text_in seen.reading ≡ text
  pub heard_is : heard q.packets seen.bytes seen.reading ≡ packets

-- that of EAP's own Identity round
pub first_comes : (set : Setting) (homes : List HomeRow) (q : ServerEnd) (seen : Seen) (said : Reply) (o : ServerOptions) (text : List ℕ) (id : ℕ) (packets : List (List ℕ)) → Expects q o state.AwaitIdentity id packets
    → Is seen (identity_response id text) → Comes set homes q seen said o state.AwaitIdentity text id packets
first_comes set homes q seen said o text id packets w is =
    let own : (id == q.id) ≡ true = ap (λ (n : ℕ). id == n) w.id_is ∙ eq-eqb id id refl in
    let typed : ServerState → Row = λ st. if not (is_type (type_awaited q.options.method st) (Some 1)) then row.Ignore reason.OtherType else on_reading set homes q st seen said seen.reading in
    record {
      options_are = w.options_are;
      id_is = w.id_is;
      synced_is = w.synced_is;
      row_is = ap (in_state set homes q seen said) w.state_is ∙ ap (on_head set homes q seen said) is.head
          ∙ ap (λ (b : Bool). if not b then row.Ignore reason.NotForMe else typed q.state) own ∙ ap typed w.state_is
          ∙ ap (λ (x : ServerOptions). on_first x set homes (text_in seen.reading)) w.options_are ∙ ap (λ (r : Reading). on_first o set homes (text_in r)) is.packet_is;
      text_is = ap text_in is.packet_is;
      heard_is = ap (heard q.packets seen.bytes) is.packet_is ∙ w.packets_are;
    }

-- in a state of an AKA-Identity round
pub record IsRound (now : ServerState) : Type 0 where
  later : IsLater now
  answers : (set : Setting) (homes : List HomeRow) (q : ServerEnd) (seen : Seen) (said : Reply) (id : ℕ) (m : Method) (text : List ℕ)
      → on_method set homes q now seen said (reading.Read (identity_answer m id text)) ≡ identity_row now q.options set homes text

pub any_round : IsRound (state.Await request.Any)
any_round = record {
  later = record { headed = λ set homes q seen said. refl; typed = λ m. refl; read = λ set homes q seen said r. refl };
  answers = λ set homes q seen said id m text. refl;
}

pub full_round : IsRound (state.Await request.Fullauth)
full_round = record {
  later = record { headed = λ set homes q seen said. refl; typed = λ m. refl; read = λ set homes q seen said r. refl };
  answers = λ set homes q seen said id m text. refl;
}

pub permanent_round : IsRound (state.Await request.Permanent)
permanent_round = record {
  later = record { headed = λ set homes q seen said. refl; typed = λ m. refl; read = λ set homes q seen said r. refl };
  answers = λ set homes q seen said id m text. refl;
}

-- that of an AKA-Identity round
pub identity_comes : (set : Setting) (homes : List HomeRow) (q : ServerEnd) (seen : Seen) (said : Reply) (o : ServerOptions) (now : ServerState) (text : List ℕ) (id : ℕ) (packets : List (List ℕ)) → IsRound now
    → Expects q o now id packets → MayBeWritten (identity_answer o.method id text) → Is seen (identity_answer o.method id text) → seen.bytes ≡ packet_text (identity_answer o.method id text)
    → Comes set homes q seen said o now text id (counted (packet_text (identity_answer o.method id text)) packets)
identity_comes set homes q seen said o now text id packets round w may is are =
    let p = identity_answer o.method id text in
    record {
      options_are = w.options_are;
      id_is = w.id_is;
      synced_is = w.synced_is;
      row_is = awaited set homes q seen said o now id subtype.Identity (attr.Identity text ∷ []) round.later w.options_are w.state_is w.id_is is
          ∙ ap (on_method set homes q now seen said) is.packet_is ∙ round.answers set homes q seen said id o.method text
          ∙ ap (λ (x : ServerOptions). identity_row now x set homes text) w.options_are;
      text_is = ap text_in is.packet_is;
      heard_is = ap (heard q.packets seen.bytes) is.packet_is ∙ ap (λ (b : List ℕ). counted (packet_in b) q.packets) are
          ∙ ap (λ (b : List ℕ). counted b q.packets) (packet_there p may) ∙ ap (counted (packet_text p)) w.packets_are;
    }

-- a turn that asks for another identity
pub record IsAsk (o : ServerOptions) (id : ℕ) (kind : IdentityRequest) (packets : List (List ℕ)) (turn : ServerEnd × Turn ServerWhy) : Type 0 where
  pub q : ServerEnd
  pub is : turn ≡ (q, record { notes = silent; step = step.Sent (packet_text (aka_identity o.method id kind)); checked = false })
  pub expects : Expects q o (state.Await kind) id (counted (packet_text (aka_identity o.method id kind)) packets)

pub asks : (set : Setting) (homes : List HomeRow) (q : ServerEnd) (seen : Seen) (said : Reply) (o : ServerOptions) (now : ServerState) (text : List ℕ) (id : ℕ) (packets : List (List ℕ)) (kind : IdentityRequest) (notes : Notes)
    → Comes set homes q seen said o now text id packets → identity_row now o set homes text ≡ row.Ask kind → IsAsk o (next_id id) kind packets (server_step set homes q seen said notes)
asks set homes q seen said o now text id packets kind notes w ask =
    let bytes = packet_text (aka_identity o.method (next_id id) kind) in
    let all = heard q.packets seen.bytes seen.reading in
    let asked_is : identity_asked q kind ≡ bytes =
    ap (λ (x : ServerOptions). packet_text (aka_identity x.method (next_id q.id) kind)) w.options_are ∙ ap (λ (i : ℕ). packet_text (aka_identity o.method (next_id i) kind)) w.id_is in
    let after : ServerEnd = record q {
      identity = text_in seen.reading;
      packets = counted (identity_asked q kind) all;
      state = state.Await kind;
      id = next_id q.id;
      last = identity_asked q kind;
    } in
    let sends : List ℕ → ServerEnd × Turn ServerWhy = λ b. (after, record { notes = silent; step = step.Sent b; checked = false }) in
    record {
      q = after;
      is = ap (λ (r : Row). server_does set homes q (text_in seen.reading) (packets_after q seen r) r notes) (w.row_is ∙ ask) ∙ ap sends asked_is;
      expects = record {
        options_are = w.options_are;
        state_is = refl;
        id_is = ap next_id w.id_is;
        packets_are = ap (λ (b : List ℕ). counted b all) asked_is ∙ ap (counted bytes) w.heard_is;
        synced_is = w.synced_is;
      };
    }

-- a turn that challenges the subscriber of the identity
pub challenges_first : (set : Setting) (homes : List HomeRow) (q : ServerEnd) (seen : Seen) (said : Reply) (o : ServerOptions) (now : ServerState) (text : List ℕ) (id : ℕ) (packets : List (List ℕ)) (sub : ℕ) (home : rows.Row) (notes : Notes)
    → Comes set homes q seen said o now text id packets → identity_row now o set homes text ≡ row.Challenge sub → slice_get set.rows sub ≡ Some home
    → IsCentreAsked set (asking (server_row set homes q seen said)) notes → is_refused notes.number ≡ false
    → IsChallenge set o sub home text (next_id id) false packets (server_step set homes q seen said notes)
challenges_first set homes q seen said o now text id packets sub home notes w challenge there centre given =
    let row_is = w.row_is ∙ challenge in
    let answer = subst (λ (r : Row). IsCentreAsked set (asking r) notes) row_is centre in
    let s = identified q text packets in
    let turn : server_step set homes q seen said notes ≡ challenged set homes s sub false None notes.number =
    ap (λ (r : Row). server_does set homes q (text_in seen.reading) (packets_after q seen r) r notes) row_is
    ∙ ap (λ (t : List ℕ). first_challenge set homes q t (heard q.packets seen.bytes seen.reading) sub notes.number) w.text_is
    ∙ ap (λ (l : List (List ℕ)). first_challenge set homes q text l sub notes.number) w.heard_is in
    challenges_by set o sub home text (next_id id) false packets (server_step set homes q seen said notes) (challenged set homes s sub false None notes.number) turn
    (challenges_as set s o sub home text id false packets (challenged set homes s sub false None notes.number) w.options_are refl w.id_is w.synced_is refl
    (challenges set homes s sub home false None notes.number there answer.answers given))

-- ---- a context is taken up again

-- a server that sent a re-authentication awaits the answer
pub record AwaitsReply (q : ServerEnd) (o : ServerOptions) (text : List ℕ) (id : ℕ) (r : Resumed) (packets : List (List ℕ)) : Type 0 where
  pub options_are : q.options ≡ o
  pub awaits_is : q.state ≡ state.AwaitReauth r
  pub id_is : q.id ≡ id
  pub identity_is : q.identity ≡ text
  pub synced_is : q.synced ≡ false
  pub packets_are : q.packets ≡ packets

-- a turn that sends it
pub record IsResumption (set : Setting) (o : ServerOptions) (text : List ℕ) (id : ℕ) (c : Context) (packets : List (List ℕ)) (turn : ServerEnd × Turn ServerWhy) : Type 0 where
  pub r : Resumed
  pub of : r.context ≡ c
  pub nonce : IsBlock r.nonce
  pub name : IsName r.next
  pub iv : List ℕ
  pub block : IsBlock iv
  pub q : ServerEnd
  pub is : turn ≡ (q, record { notes = resuming c.counter; step = step.Sent (reauth_bytes o.method set.realm id iv r (checkcode o.method packets)); checked = false })
  pub awaits : AwaitsReply q o text id r packets

pub resumes : (set : Setting) (homes : List HomeRow) (q : ServerEnd) (seen : Seen) (said : Reply) (o : ServerOptions) (now : ServerState) (text : List ℕ) (id : ℕ) (packets : List (List ℕ)) (sub : ℕ) (c : Context) (notes : Notes)
    → Comes set homes q seen said o now text id packets → identity_row now o set homes text ≡ row.Resume sub → context_in o.method text homes sub ≡ Some c
    → IsResumption set o text (next_id id) c packets (server_step set homes q seen said notes)
resumes set homes q seen said o now text id packets sub c notes w resume has =
    let left = homes_left o.method text homes sub in
    let s = identified q text packets in
    let r = resumption set left q sub c in
    let iv = random_at set q q.next_iv in
    let check = checkcode q.options.method packets in
    let own = reauth_bytes q.options.method set.realm (next_id q.id) iv r check in
    let after : ServerEnd = record s { next_iv = index_after (index_after q.next_iv); state = state.AwaitReauth r; id = next_id q.id; last = own } in
    let sends : List ℕ → ServerEnd × Turn ServerWhy = λ b. (after, record { notes = resuming c.counter; step = step.Sent b; checked = false }) in
    record {
      r = r;
      of = refl;
      nonce = nonce_block set.key q.options.session (index_after q.next_iv);
      name = name_named set kinds.Reauth q sub (ordinal_given (gives_next q.options c) left sub);
      iv = iv;
      block = nonce_block set.key q.options.session q.next_iv;
      q = after;
      is = ap (λ (x : Row). server_does set homes q (text_in seen.reading) (packets_after q seen x) x notes) (w.row_is ∙ resume)
          ∙ ap (λ (t : List ℕ). resumed set homes q t (heard q.packets seen.bytes seen.reading) sub) w.text_is
          ∙ ap (λ (l : List (List ℕ)). resumed set homes q text l sub) w.heard_is
          ∙ ap (λ (x : ServerOptions). resumed_with set (homes_left x.method text homes sub) q text packets sub (context_in x.method text homes sub)) w.options_are
          ∙ ap (resumed_with set left q text packets sub) has
          ∙ ap (λ (x : ServerOptions). sends (reauth_bytes x.method set.realm (next_id q.id) iv r (checkcode x.method packets))) w.options_are
          ∙ ap (λ (i : ℕ). sends (reauth_bytes o.method set.realm (next_id i) iv r (checkcode o.method packets))) w.id_is;
      awaits = record {
        options_are = w.options_are;
        awaits_is = refl;
        id_is = ap next_id w.id_is;
        identity_is = refl;
        synced_is = w.synced_is;
        packets_are = refl;
      };
    }

-- its counter was too small: the server challenges the subscriber
pub challenges_small : (set : Setting) (homes : List HomeRow) (q : ServerEnd) (seen : Seen) (said : Reply) (o : ServerOptions) (text : List ℕ) (id : ℕ) (r : Resumed) (packets : List (List ℕ)) (sub : ℕ) (home : rows.Row) (notes : Notes)
    → AwaitsReply q o text id r packets → server_row set homes q seen said ≡ row.TooSmall sub → slice_get set.rows sub ≡ Some home
    → IsCentreAsked set (asking (server_row set homes q seen said)) notes → is_refused notes.number ≡ false
    → IsChallenge set o sub home text (next_id id) false packets (server_step set homes q seen said notes)
challenges_small set homes q seen said o text id r packets sub home notes w row_is there centre given =
    let answer = subst (λ (x : Row). IsCentreAsked set (asking x) notes) row_is centre in
    challenges_by set o sub home text (next_id id) false packets (server_step set homes q seen said notes) (challenged set homes q sub true None notes.number)
    (ap (λ (x : Row). server_does set homes q (text_in seen.reading) (packets_after q seen x) x notes) row_is)
    (challenges_as set q o sub home text id false packets (challenged set homes q sub true None notes.number) w.options_are w.identity_is w.id_is w.synced_is w.packets_are
    (challenges set homes q sub home true None notes.number there answer.answers given))

-- ---- a response to the challenge

-- RES is XRES, AT_MAC is right, and AT_CHECKCODE is of the same packets
response_row : (set : Setting) (homes : List HomeRow) (s : ServerEnd) (seen : Seen) (said : Reply) (o : ServerOptions) (sub : ℕ) (text : List ℕ) (id : ℕ) (v : Vector) (synced : Bool) (packets : List (List ℕ)) (mac : List ℕ)
    → (w : Awaits s o sub text id v synced packets) → Is seen (with_mac (draft_of o.method id (attr.Res v.xres ∷ attr.Checkcode (checkcode o.method packets) ∷ [])) mac)
    → is_sealed o.method (keys_under o text v).k_aut [] seen ≡ true → server_row set homes s seen said ≡ row.Success (sent_as o sub w.number text v w.master w.names)
response_row set homes s seen said o sub text id v synced packets mac w is right =
    let code = checkcode o.method packets in
    let list = attr.Res v.xres ∷ attr.Checkcode code ∷ attr.Mac mac ∷ [] in
    let sent = sent_as o sub w.number text v w.master w.names in
    let wrong : Bool → Row = λ b. if not b then row.WrongCheckcode else row.Success sent in
    let unexpected : Bool → Row = λ b. if not b then row.WrongRes else wrong (bytes_eq code code) in
    awaited set homes s seen said o (state.AwaitChallenge sent w.before) id subtype.Challenge list (awaits_later sent w.before) w.options_are w.awaits_is w.id_is is
    ∙ ap (on_method set homes s (state.AwaitChallenge sent w.before) seen said) is.packet_is
    ∙ ap (λ (x : ServerOptions). on_response x.method s.packets sent seen list) w.options_are
    ∙ ap (λ (l : List (List ℕ)). on_response o.method l sent seen list) w.packets_are
    ∙ ap (λ (b : Bool). if not b then row.WrongMac else unexpected (bytes_eq v.xres v.xres)) right
    ∙ ap unexpected ((bytes_eq-Decides v.xres v.xres).1 refl)
    ∙ ap wrong ((bytes_eq-Decides code code).1 refl)

pub record Wins (set : Setting) (homes : List HomeRow) (s : ServerEnd) (seen : Seen) (said : Reply) (o : ServerOptions) (text : List ℕ) (id : ℕ) (v : Vector) (notes : Notes) : Type 0 where
  pub q : ServerEnd
  pub won : Notes
  pub turn : server_step set homes s seen said notes ≡ (q, record { notes = won; step = step.Ended (outcome.Success (keys_under o text v)) (packet_text (packet.Success id)); checked = true })
  pub last : Last
  pub ended_is : q.state ≡ state.Ended (outcome.Success (keys_under o text v)) last

pub wins : (set : Setting) (homes : List HomeRow) (s : ServerEnd) (seen : Seen) (said : Reply) (o : ServerOptions) (sub : ℕ) (text : List ℕ) (id : ℕ) (v : Vector) (synced : Bool) (packets : List (List ℕ)) (mac : List ℕ) (notes : Notes)
    → Awaits s o sub text id v synced packets → Is seen (with_mac (draft_of o.method id (attr.Res v.xres ∷ attr.Checkcode (checkcode o.method packets) ∷ [])) mac)
    → is_sealed o.method (keys_under o text v).k_aut [] seen ≡ true → Wins set homes s seen said o text id v notes
wins set homes s seen said o sub text id v synced packets mac notes w is right =
    let keys = keys_under o text v in
    let row_is = response_row set homes s seen said o sub text id v synced packets mac w is right in
    let over : ℕ → ServerEnd × Turn ServerWhy = λ i. ended s (outcome.Success keys) (packet_text (packet.Success i)) true in
    record {
      q = (over id).0;
      won = (over id).1.notes;
      turn = ap (λ (r : Row). server_does set homes s (text_in seen.reading) (packets_after s seen r) r notes) row_is ∙ ap over w.id_is;
      last = last_of s.state;
      ended_is = refl;
    }

-- ---- a synchronisation failure

sync_sound : (m : Method) (answer : List ℕ) → is_malformed subtype.SynchronizationFailure false m (attr.Auts answer ∷ own_kdf m) ≡ false
sync_sound method.Aka answer = refl
sync_sound method.Prime answer = refl

-- what the home network reads in the AUTS of an SQN, in answer to the RAND of a number
abbrev read_for : Setting → ℕ → rows.Row → ℕ → List ℕ → Auts
read_for set sub home n sqn = read_auts_of home.secret (rand_of set.key sub n) (auts home.secret.k home.secret.opc (rand_of set.key sub n) sqn) home.bits

-- the AUTS of the first one is read
sync_row : (set : Setting) (homes : List HomeRow) (s : ServerEnd) (seen : Seen) (said : Reply) (o : ServerOptions) (sub : ℕ) (home : rows.Row) (text : List ℕ) (id n : ℕ) (packets : List (List ℕ)) (sqn : List ℕ)
    → Awaits s o sub text id (vector_for set o sub home n) false packets → slice_get set.rows sub ≡ Some home
    → Is seen (sync_failure o.method id (auts home.secret.k home.secret.opc (rand_of set.key sub n) sqn)) → server_row set homes s seen said ≡ by_auts sub (read_for set sub home n sqn)
sync_row set homes s seen said o sub home text id n packets sqn w there is =
    let v = vector_for set o sub home n in
    let answer = auts home.secret.k home.secret.opc (rand_of set.key sub n) sqn in
    let list = attr.Auts answer ∷ own_kdf o.method in
    let sent = sent_as o sub w.number text v w.master w.names in
    let kind = subtype.SynchronizationFailure in
    awaited set homes s seen said o (state.AwaitChallenge sent w.before) id kind list (awaits_later sent w.before) w.options_are w.awaits_is w.id_is is
    ∙ ap (on_method set homes s (state.AwaitChallenge sent w.before) seen said) is.packet_is
    ∙ ap (λ (x : ServerOptions). if is_malformed kind false x.method list then row.Ignore reason.Malformed else on_challenged set s sent seen kind list) w.options_are
    ∙ ap (λ (b : Bool). if b then row.Ignore reason.Malformed else on_challenged set s sent seen kind list) (sync_sound o.method answer)
    ∙ ap (λ (b : Bool). if b then row.SecondSync else on_auts set sent (Some answer)) w.synced_is
    ∙ ap (read_by sent answer) there

-- the centre moved its number or left it, and gave a number
challenges_after : (set : Setting) (homes : List HomeRow) (s : ServerEnd) (o : ServerOptions) (sub : ℕ) (home : rows.Row) (text : List ℕ) (id : ℕ) (v : Vector) (packets : List (List ℕ)) (found_so : Resynchronisation) (notes : Notes)
    → Awaits s o sub text id v false packets → slice_get set.rows sub ≡ Some home → notes.resync ≡ Some (resync_note found_so) → NumberFollows set sub found_so notes.number
    → is_refused notes.number ≡ false → is_unresolved notes.resync ≡ false
    → IsChallenge set o sub home text (next_id id) true packets (resynchronised set homes s sub notes.resync notes.number)
challenges_after set homes s o sub home text id v packets (found.Beyond seen seq) notes w there resynced follows given resolved = absurd (true_false (sym (ap is_unresolved resynced) ∙ resolved))
challenges_after set homes s o sub home text id v packets (found.Moved seen seq) notes w there resynced follows given resolved =
    let note : Option ResyncNote = Some (resync.Moved seen seq) in
    challenges_by set o sub home text (next_id id) true packets (resynchronised set homes s sub notes.resync notes.number) (challenged set homes (resynchronising s) sub false note notes.number)
    (ap (λ (r : Option ResyncNote). resynchronised set homes s sub r notes.number) resynced)
    (challenges_as set (resynchronising s) o sub home text id true packets (challenged set homes (resynchronising s) sub false note notes.number) w.options_are w.identity_is w.id_is refl w.packets_are
    (challenges set homes (resynchronising s) sub home false note notes.number there follows given))
challenges_after set homes s o sub home text id v packets (found.InRange seen seq) notes w there resynced follows given resolved =
    let note : Option ResyncNote = Some (resync.InRange seen seq) in
    challenges_by set o sub home text (next_id id) true packets (resynchronised set homes s sub notes.resync notes.number) (challenged set homes (resynchronising s) sub false note notes.number)
    (ap (λ (r : Option ResyncNote). resynchronised set homes s sub r notes.number) resynced)
    (challenges_as set (resynchronising s) o sub home text id true packets (challenged set homes (resynchronising s) sub false note notes.number) w.options_are w.identity_is w.id_is refl w.packets_are
    (challenges set homes (resynchronising s) sub home false note notes.number there follows given))

-- the AUTS of the subscriber's own USIM led to a number
pub challenges_again : Laws → (set : Setting) (homes : List HomeRow) (s : ServerEnd) (seen : Seen) (said : Reply) (o : ServerOptions) (sub : ℕ) (home : rows.Row) (text : List ℕ) (id n : ℕ) (packets : List (List ℕ)) (sqn : List ℕ) (notes : Notes)
    → Awaits s o sub text id (vector_for set o sub home n) false packets → slice_get set.rows sub ≡ Some home → IsBlock home.secret.k → IsBlock home.secret.opc → length sqn ≡ 6
    → Is seen (sync_failure o.method id (auts home.secret.k home.secret.opc (rand_of set.key sub n) sqn)) → IsCentreAsked set (asking (server_row set homes s seen said)) notes
    → notes ≡ (server_step set homes s seen said notes).1.notes
    → is_refused notes.number ≡ false → is_unresolved notes.resync ≡ false → IsChallenge set o sub home text (next_id id) true packets (server_step set homes s seen said notes)
challenges_again laws set homes s seen said o sub home text id n packets sqn notes w there hk ho six is centre own given resolved = by (nat_le (seq_of home.bits sqn) (top_of home.bits)) read_is
  where
    read_as : Bool → Auts
    read_as within = if within then read.SeqMs (seq_of home.bits sqn) else read.WrongMac

    read_is : server_row set homes s seen said ≡ by_auts sub (read_as (nat_le (seq_of home.bits sqn) (top_of home.bits)))
    read_is =
        sync_row set homes s seen said o sub home text id n packets sqn w there is
        ∙ ap (by_auts sub) (laws.auts home.secret (rand_of set.key sub n) sqn home.bits hk ho six)

    by : (within : Bool) → server_row set homes s seen said ≡ by_auts sub (read_as within) → IsChallenge set o sub home text (next_id id) true packets (server_step set homes s seen said notes)
    by false row_is =
        let refused : notes ≡ noted (Some resync.BadAuts) None =
        own ∙ ap (λ (r : Row). (server_does set homes s (text_in seen.reading) (packets_after s seen r) r notes).1.notes) row_is in
        absurd (true_false (ap (λ (m : Notes). is_unresolved m.resync) (sym refused) ∙ resolved))
    by true row_is =
        let asked = subst (λ (r : Row). IsCentreAsked set (asking r) notes) row_is centre in
        let (before, resynced, follows) = asked.answers in
        challenges_by set o sub home text (next_id id) true packets (server_step set homes s seen said notes) (resynchronised set homes s sub notes.resync notes.number)
        (ap (λ (r : Row). server_does set homes s (text_in seen.reading) (packets_after s seen r) r notes) row_is)
        (challenges_after set homes s o sub home text id (vector_for set o sub home n) packets (resynchronise_of before (seq_of home.bits sqn)) notes w there resynced follows given resolved)
