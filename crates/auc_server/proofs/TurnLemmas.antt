-- What a server and its notes tell of the turn after which they stand.
use Rattle.std.proofs.Common.{◌≡◌, ◌≤◌, ◌+◌, ◌⊎◌, ℕ, max, Bool, true, false, List, [], ◌∷◌, ◌++◌, length, replicate, arith, length-append, Option, Some, None, is_some, refl, sym, ap, ◌∙◌, inl, inr}
use Rattle.std.specs.Option.{option_or}
use Rattle.std.specs.Int.{w16, to_be_bytes}
use Rattle.auc_attr.proofs.Facts.{attr_size, attrs_within}
use Rattle.auc_attr.specs.First.{first_value}
use Rattle.auc_attr.specs.Frame.{IsIdentityPacket}
use Rattle.auc_attr.specs.Grammar.{Walks}
use Rattle.auc_attr.specs.Item.{item, item_of, items}
use Rattle.auc_attr.specs.Spelling.{fill, item_text, shape_text}
use Rattle.auc_attr.specs.Table.{row_of}
use Rattle.auc_attr.specs.declared.attr.Attr.{Attr}
use Rattle.auc_attr.specs.declared.attr.Attr.TheVariants as attr
use Rattle.auc_packet.specs.Packet.{method_type, subtype_number}
use Rattle.auc_packet.specs.Received.{IsReading, IsReceived, Seen}
use Rattle.auc_packet.specs.declared.packet.Packet.TheVariants as packet
use Rattle.auc_packet.specs.declared.received.Reading.{Reading}
use Rattle.auc_packet.specs.declared.received.Reading.TheVariants as reading
use Rattle.auc_request.specs.Request.{text_or_none}
use Rattle.auc_vector.specs.Notes.{AnswersReport, Asking}
use Rattle.auc_vector.specs.declared.notes.Notes.{Notes}
use Rattle.auc_vector.specs.declared.notes.NumberNote.{NumberNote}
use Rattle.auc_vector.specs.declared.notes.NumberNote.TheVariants as number
use Rattle.auc_vector.specs.declared.notes.ResyncNote.{ResyncNote}
use Rattle.auc_vector.specs.declared.notes.ResyncNote.TheVariants as resync
use Rattle.auc_vector.specs.declared.parts.Vector.{Vector}
use Rattle.auc_vector.specs.declared.turn.Turn.{Turn}
use Rattle.auc_reauth.specs.declared.context.Context.{Context}
use Rattle.auc_server.specs.Asked.{asked_after, sub_named, sub_of}
use Rattle.auc_server.specs.Attributes.{identity_in, identity_of}
use Rattle.auc_server.specs.Contexts.{context_in, homes_left}
use Rattle.auc_server.specs.Rows.{server_row, subscriber_in, text_in}
use Rattle.auc_server.specs.Server.{ServerEnd, challenged_of, resumed_of}
use Rattle.auc_subs.specs.Setting.{Setting}
use Rattle.auc_server.specs.Steps.{AsksAsNeeded, asking, challenges_again}
use Rattle.auc_server.specs.Table.{challenged, challenged_with, identified, names_given, noted, packets_after, resumed_with, resynchronised, resynchronising, server_does, server_step, vector_at}
use Rattle.auc_server.specs.declared.naming.GivenNames.{GivenNames}
use Rattle.auc_server.specs.declared.reply.Reply.{Reply}
use Rattle.auc_server.specs.declared.rows.Row.{Row}
use Rattle.auc_server.specs.declared.rows.Row.TheVariants as row
use Rattle.auc_server.specs.declared.server.Resumed.{Resumed}
use Rattle.auc_server.specs.declared.setting.HomeRow.{HomeRow}
use Rattle.auc_vector.specs.declared.why.ServerWhy.{ServerWhy}
use Rattle.auc_server.proofs.LawLemmas.{IsLast, IsResumed, Says, awaits_challenge, awaits_reauth, none_resumed, says_row}

-- ---- the identity after a turn

with_keeps : (realm : List ℕ) (s : ServerEnd) (sub n : ℕ) (v : Option Vector) (given : Option GivenNames) (notes : Notes) (checked : Bool)
    → (challenged_with realm s sub n v given notes checked).0.identity ≡ s.identity
with_keeps realm s sub n None given notes checked = refl
with_keeps realm s sub n (Some v) given notes checked = refl

challenged_keeps : (set : Setting) (homes : List HomeRow) (s : ServerEnd) (sub : ℕ) (checked : Bool) (resynced : Option ResyncNote) (drawn : Option NumberNote)
    → (challenged set homes s sub checked resynced drawn).0.identity ≡ s.identity
challenged_keeps set homes s sub checked resynced None = refl
challenged_keeps set homes s sub checked resynced (Some (number.Drew n)) =
    with_keeps set.realm s sub n (vector_at set s.options sub n) (names_given set homes s sub) (noted resynced (Some (number.Drew n))) checked
challenged_keeps set homes s sub checked resynced (Some (number.Exhausted w)) = refl
challenged_keeps set homes s sub checked resynced (Some (number.Withheld n stop)) = refl

resynchronised_keeps : (set : Setting) (homes : List HomeRow) (s : ServerEnd) (sub : ℕ) (resynced : Option ResyncNote) (drawn : Option NumberNote) → (resynchronised set homes s sub resynced drawn).0.identity ≡ s.identity
resynchronised_keeps set homes s sub None drawn = refl
resynchronised_keeps set homes s sub (Some resync.BadAuts) drawn = refl
resynchronised_keeps set homes s sub (Some (resync.Beyond seen seq)) drawn = refl
resynchronised_keeps set homes s sub (Some (resync.InRange seen seq)) drawn = challenged_keeps set homes (resynchronising s) sub false (Some (resync.InRange seen seq)) drawn
resynchronised_keeps set homes s sub (Some (resync.Moved seen seq)) drawn = challenged_keeps set homes (resynchronising s) sub false (Some (resync.Moved seen seq)) drawn

resumed_identity : (set : Setting) (homes : List HomeRow) (s : ServerEnd) (text : List ℕ) (packets : List (List ℕ)) (sub : ℕ) (c : Option Context)
    → ((resumed_with set homes s text packets sub c).0.identity ≡ s.identity) ⊎ ((resumed_with set homes s text packets sub c).0.identity ≡ text)
resumed_identity set homes s text packets sub None = inl refl
resumed_identity set homes s text packets sub (Some c) = inr refl

does_identity : (set : Setting) (homes : List HomeRow) (s : ServerEnd) (text : List ℕ) (packets : List (List ℕ)) (r : Row) (notes : Notes)
    → ((server_does set homes s text packets r notes).0.identity ≡ s.identity) ⊎ ((server_does set homes s text packets r notes).0.identity ≡ text)
does_identity set homes s text packets (row.Ask kind) notes = inr refl
does_identity set homes s text packets row.UnknownIdentity notes = inr refl
does_identity set homes s text packets (row.Challenge sub) notes = inr (challenged_keeps set homes (identified s text packets) sub false None notes.number)
does_identity set homes s text packets (row.Resume sub) notes =
    resumed_identity set (homes_left s.options.method text homes sub) s text packets sub (context_in s.options.method text homes sub)
does_identity set homes s text packets (row.TooSmall sub) notes = inl (challenged_keeps set homes s sub true None notes.number)
does_identity set homes s text packets (row.Resynchronise sub seq) notes = inl (resynchronised_keeps set homes s sub notes.resync notes.number)
does_identity set homes s text packets other notes = inl refl

-- it is that before it, or the one that was received
pub identity_is : (set : Setting) (homes : List HomeRow) (s : ServerEnd) (seen : Seen) (said : Reply) (notes : Notes)
    → ((server_step set homes s seen said notes).0.identity ≡ s.identity) ⊎ ((server_step set homes s seen said notes).0.identity ≡ text_in seen.reading)
identity_is set homes s seen said notes =
    does_identity set homes s (text_in seen.reading) (packets_after s seen (server_row set homes s seen said)) (server_row set homes s seen said) notes

-- ---- for whom the centre was asked

-- the subscriber of what was asked
abbrev pub sub_asked : Option Asking → Option ℕ
sub_asked None = None
sub_asked (Some request) = Some request.sub

-- what a turn notes of the centre
abbrev AsksFor : Setting → List HomeRow → Option ℕ → ServerEnd × Turn ServerWhy → Type 0
AsksFor set homes sub t = asked_after set homes t.0 t.1.notes.resync t.1.notes.number ≡ sub

-- an identity by which a subscriber is found, or a re-authentication of it
abbrev Names : Setting → List HomeRow → ServerEnd → ℕ → Type 0
Names set homes s sub = sub_named (resumed_of s) (subscriber_in s.options.method set homes s.identity) ≡ Some sub

with_asks : (set : Setting) (homes : List HomeRow) (s : ServerEnd) (sub n : ℕ) (v : Option Vector) (given : Option GivenNames) (drawn : NumberNote) (checked : Bool)
    → Names set homes s sub → (challenged_with set.realm s sub n v given (noted None (Some drawn)) checked).1.notes.number ≡ Some drawn
    → AsksFor set homes (Some sub) (challenged_with set.realm s sub n v given (noted None (Some drawn)) checked)
with_asks set homes s sub n None given drawn checked found there = absurd cc
with_asks set homes s sub n (Some v) given drawn checked found there = found

first_asks : (set : Setting) (homes : List HomeRow) (s : ServerEnd) (sub : ℕ) (checked : Bool) (drawn : Option NumberNote) → Names set homes s sub
    → is_some drawn ≡ true → (challenged set homes s sub checked None drawn).1.notes.number ≡ drawn → AsksFor set homes (Some sub) (challenged set homes s sub checked None drawn)
first_asks set homes s sub checked None found there told = absurd cc
first_asks set homes s sub checked (Some (number.Drew n)) found there told =
    with_asks set homes s sub n (vector_at set s.options sub n) (names_given set homes s sub) (number.Drew n) checked found told
first_asks set homes s sub checked (Some (number.Exhausted w)) found there told = found
first_asks set homes s sub checked (Some (number.Withheld n stop)) found there told = found

-- without a re-authentication the identity names the subscriber
named_first : (c : Option Resumed) (found : Option ℕ) (sub : ℕ) → c ≡ None → found ≡ Some sub → sub_named c found ≡ Some sub
named_first c found sub none is = ap (λ (r : Option Resumed). sub_named r found) none ∙ is

-- the subscriber of the re-authentication
resumed_is : (s : ServerEnd) (found : Option ℕ) (sub : ℕ) → IsResumed s sub → sub_named (resumed_of s) found ≡ Some sub
resumed_is s found sub last = ap (λ (r : Option Resumed). sub_named r found) (awaits_reauth s last.0 last.1) ∙ ap (λ (n : ℕ). Some n) last.2

-- the subscriber that was challenged last
last_is : (s : ServerEnd) (sub : ℕ) → IsLast s sub → sub_of (challenged_of s) ≡ Some sub
last_is s sub last = ap sub_of (awaits_challenge s last.0 last.1 last.2) ∙ ap (λ (n : ℕ). Some n) last.3

again_with : (set : Setting) (homes : List HomeRow) (s : ServerEnd) (sub n : ℕ) (r : ResyncNote) (v : Option Vector) (given : Option GivenNames) (drawn : NumberNote)
    → ((t : ServerEnd) (d : Option NumberNote) → asked_after set homes t (Some r) d ≡ sub_of (challenged_of t))
    → (challenged_with set.realm s sub n v given (noted (Some r) (Some drawn)) false).1.notes.number ≡ Some drawn
    → AsksFor set homes (Some sub) (challenged_with set.realm s sub n v given (noted (Some r) (Some drawn)) false)
again_with set homes s sub n r None given drawn asks told = absurd cc
again_with set homes s sub n r (Some v) given drawn asks told = asks (challenged_with set.realm s sub n (Some v) given (noted (Some r) (Some drawn)) false).0 (Some drawn)

again_asks : (set : Setting) (homes : List HomeRow) (s : ServerEnd) (sub : ℕ) (r : ResyncNote) (drawn : Option NumberNote) → sub_of (challenged_of s) ≡ Some sub
    → ((t : ServerEnd) (d : Option NumberNote) → asked_after set homes t (Some r) d ≡ sub_of (challenged_of t))
    → is_some drawn ≡ true → (challenged set homes s sub false (Some r) drawn).1.notes.number ≡ drawn → AsksFor set homes (Some sub) (challenged set homes s sub false (Some r) drawn)
again_asks set homes s sub r None last asks there told = absurd cc
again_asks set homes s sub r (Some (number.Drew n)) last asks there told =
    again_with set homes s sub n r (vector_at set s.options sub n) (names_given set homes s sub) (number.Drew n) asks told
again_asks set homes s sub r (Some (number.Exhausted w)) last asks there told = asks s (Some (number.Exhausted w)) ∙ last
again_asks set homes s sub r (Some (number.Withheld n stop)) last asks there told = asks s (Some (number.Withheld n stop)) ∙ last

resynchronised_asks : (set : Setting) (homes : List HomeRow) (s : ServerEnd) (sub seq : ℕ) (k : Option ℕ) (r : Option ResyncNote) (drawn : Option NumberNote)
    → sub_of (challenged_of s) ≡ Some sub → AnswersReport k (Some seq) r → is_some drawn ≡ challenges_again r
    → (resynchronised set homes s sub r drawn).1.notes.number ≡ drawn → AsksFor set homes (Some sub) (resynchronised set homes s sub r drawn)
resynchronised_asks set homes s sub seq k None drawn last answer need told = absurd answer
resynchronised_asks set homes s sub seq k (Some resync.BadAuts) drawn last answer need told = absurd answer
resynchronised_asks set homes s sub seq k (Some (resync.Beyond at' to)) drawn last answer need told = last
resynchronised_asks set homes s sub seq k (Some (resync.InRange at' to)) drawn last answer need told =
    again_asks set homes (resynchronising s) sub (resync.InRange at' to) drawn last (λ t d. refl) need told
resynchronised_asks set homes s sub seq k (Some (resync.Moved at' to)) drawn last answer need told =
    again_asks set homes (resynchronising s) sub (resync.Moved at' to) drawn last (λ t d. refl) need told

resumed_asks : (set : Setting) (homes left : List HomeRow) (s : ServerEnd) (text : List ℕ) (packets : List (List ℕ)) (sub : ℕ) (c : Option Context)
    → AsksFor set homes None (resumed_with set left s text packets sub c)
resumed_asks set homes left s text packets sub None = refl
resumed_asks set homes left s text packets sub (Some c) = refl

-- a SEQ that a row reports was answered
abbrev pub IsReported : Option Asking → Notes → Type 0
IsReported None notes = Unit {0}
IsReported (Some request) notes = (kept : Option ℕ) × AnswersReport kept request.reported notes.resync

does_asks : (set : Setting) (homes : List HomeRow) (s : ServerEnd) (seen : Seen) (text : List ℕ) (packets : List (List ℕ)) (r : Row) (notes : Notes) → Says (subscriber_in s.options.method set homes text) s seen r
    → AsksAsNeeded r notes → IsReported (asking r) notes → (server_does set homes s text packets r notes).1.notes ≡ notes
    → AsksFor set homes (sub_asked (asking r)) (server_does set homes s text packets r notes)
does_asks set homes s seen text packets (row.Challenge sub) notes says need report told =
    first_asks set homes (identified s text packets) sub false notes.number
    (named_first (resumed_of s) (subscriber_in s.options.method set homes text) sub (none_resumed s says.0) says.1) need (ap (λ (n : Notes). n.number) told)
does_asks set homes s seen text packets (row.Resume sub) notes says need report told =
    resumed_asks set homes (homes_left s.options.method text homes sub) s text packets sub (context_in s.options.method text homes sub)
does_asks set homes s seen text packets (row.TooSmall sub) notes says need report told =
    first_asks set homes s sub true notes.number (resumed_is s (subscriber_in s.options.method set homes s.identity) sub says) need (ap (λ (n : Notes). n.number) told)
does_asks set homes s seen text packets (row.Resynchronise sub seq) notes says need report told =
    resynchronised_asks set homes s sub seq report.0 notes.resync notes.number (last_is s sub says) report.1 need (ap (λ (n : Notes). n.number) told)
does_asks set homes s seen text packets other notes says need report told = refl

-- the server and its notes tell it
pub asked_is : (set : Setting) (homes : List HomeRow) (s : ServerEnd) (seen : Seen) (said : Reply) (notes : Notes)
    → AsksAsNeeded (server_row set homes s seen said) notes → IsReported (asking (server_row set homes s seen said)) notes → (server_step set homes s seen said notes).1.notes ≡ notes
    → asked_after set homes (server_step set homes s seen said notes).0 notes.resync notes.number ≡ sub_asked (asking (server_row set homes s seen said))
asked_is set homes s seen said notes need report told =
    ap (λ (n : Notes). asked_after set homes (server_step set homes s seen said notes).0 n.resync n.number) (sym told)
    ∙ does_asks set homes s seen (text_in seen.reading) (packets_after s seen (server_row set homes s seen said)) (server_row set homes s seen said) notes
    (says_row set homes s seen said) need report told

-- ---- the text that was received

framed_fits : (request : Bool) (id : ℕ) (text bytes : List ℕ) → IsIdentityPacket request id text bytes → length text ≤ length bytes
framed_fits request id text bytes framed =
    rw framed.parts (omega (arith, length-append text framed.past, length-append (to_be_bytes w16 (5 + length text)) (1 ∷ (text ++ framed.past))))

-- the text of an AT_IDENTITY is shorter than the attribute
identity_size : (v : List ℕ) → length v ≤ length (item_text (item 14 v))
unfolding item_text row_of shape_text
identity_size v = omega (arith, length-append (to_be_bytes w16 (length v)) (v ++ replicate (fill (length v)) 0), length-append v (replicate (fill (length v)) 0))

text_size : (a : Attr) → length (text_or_none (identity_of a)) ≤ length (item_text (item_of a))
text_size (attr.Identity v) = identity_size v
text_size (attr.Rand v) = omega arith
text_size (attr.Autn v) = omega arith
text_size (attr.Res v) = omega arith
text_size (attr.Auts v) = omega arith
text_size (attr.Padding v) = omega arith
text_size attr.PermanentIdReq = omega arith
text_size (attr.Mac v) = omega arith
text_size (attr.Notification n) = omega arith
text_size attr.AnyIdReq = omega arith
text_size attr.FullauthIdReq = omega arith
text_size (attr.Counter n) = omega arith
text_size attr.CounterTooSmall = omega arith
text_size (attr.NonceS v) = omega arith
text_size (attr.ClientErrorCode n) = omega arith
text_size (attr.KdfInput v) = omega arith
text_size (attr.Kdf n) = omega arith
text_size (attr.Iv v) = omega arith
text_size (attr.EncrData v) = omega arith
text_size (attr.NextPseudonym v) = omega arith
text_size (attr.NextReauthId v) = omega arith
text_size (attr.Checkcode v) = omega arith
text_size attr.ResultInd = omega arith
text_size (attr.Bidding d) = omega arith
text_size (attr.Skipped kind v) = omega arith

either_fits : (first later : Option (List ℕ)) (n : ℕ) → length (text_or_none first) ≤ n → length (text_or_none later) ≤ n → length (text_or_none (option_or first later)) ≤ n
either_fits None later n here there = there
either_fits (Some v) later n here there = here

-- the text of the first AT_IDENTITY is no longer than the attributes
walk_fits : (seen bytes : List ℕ) (list : List Attr) → Walks seen bytes (items list) None → length (identity_in list) ≤ length bytes
walk_fits seen bytes [] w = omega arith
walk_fits seen bytes (a ∷ list) w =
    let size = attr_size seen (item_of a) bytes w.0 w.1 in
    either_fits (identity_of a) (first_value identity_of list) (length bytes) (omega (arith, size, text_size a))
    (omega (arith, size, walk_fits (seen ++ (item_of a).kind ∷ []) w.0 list w.2))

reading_fits : (bytes : List ℕ) (r : Reading) → IsReading bytes r → length (text_in r) ≤ length bytes
reading_fits bytes (reading.Read (packet.Identity request id text)) is = framed_fits request id text bytes is.0
reading_fits bytes (reading.Read (packet.Aka request id m kind list)) is =
    let within = attrs_within request id (method_type m) (subtype_number kind) is.0.0 bytes is.0.1 in
    omega (arith, within.0, within.1, walk_fits [] is.0.0 list is.0.2.0)
reading_fits bytes (reading.Read (packet.Success id)) is = omega arith
reading_fits bytes (reading.Read (packet.Failure id)) is = omega arith
reading_fits bytes (reading.Fault fault) is = omega arith

fits_with : (before text received : List ℕ) (new : List ℕ) → (new ≡ before) ⊎ (new ≡ text) → length text ≤ length received → length new ≤ max (length before) (length received)
fits_with before text received new (inl same) fits = let n : length new ≡ length before = ap (λ (b : List ℕ). length b) same in omega (arith, n)
fits_with before text received new (inr same) fits = let n : length new ≡ length text = ap (λ (b : List ℕ). length b) same in omega (arith, n, fits)

-- the identity after a turn is no longer than that before it, or than what was received
pub identity_fits : (set : Setting) (homes : List HomeRow) (s : ServerEnd) (seen : Seen) (said : Reply) (notes : Notes) → IsReceived seen
    → length (server_step set homes s seen said notes).0.identity ≤ max (length s.identity) (length seen.bytes)
identity_fits set homes s seen said notes received =
    fits_with s.identity (text_in seen.reading) seen.bytes (server_step set homes s seen said notes).0.identity (identity_is set homes s seen said notes)
    (reading_fits seen.bytes seen.reading received.reads)
