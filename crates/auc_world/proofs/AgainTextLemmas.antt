-- For Agreement: what a server sends under the keys of a re-authentication, and which contexts its turns leave in the homes.
use Rattle.std.proofs.Common.{◌≡◌, ℕ, zero, suc, ◌+◌, ◌<◌, ◌==◌, ◌&&◌, not, Bool, true, false, List, [], ◌∷◌, slice_set, Option, Some, None, if◌then◌else◌, arith, refl, sym, ap, ◌∙◌, subst, inl, inr}
use Rattle.std.proofs.lemmas.Bool.Decides.{nat_tests}
use Rattle.std.specs.Str.{bytes_eq}
use Rattle.std.proofs.lemmas.Slice.Eq.{bytes_eq-Decides}
use Rattle.auc_aes.specs.Bytes.{IsBlock}
use Rattle.auc_attr.specs.declared.attr.Attr.TheVariants as attr
use Rattle.auc_hmac.specs.declared.keys.KeySet.{KeySet}
use Rattle.auc_hmac.specs.declared.method.Method.{Method}
use Rattle.auc_hmac.specs.declared.method.Method.TheVariants as method
use Rattle.auc_ident.specs.Permanent.{username}
use Rattle.auc_ident.specs.declared.names.NameKind.TheVariants as kinds
use Rattle.auc_packet.specs.Received.{Seen}
use Rattle.auc_packet.specs.Spelling.{packet_text}
use Rattle.auc_packet.specs.declared.packet.Packet.TheVariants as packet
use Rattle.auc_packet.specs.declared.subtype.Subtype.TheVariants as subtype
use Rattle.auc_random.specs.Random.{index_after}
use Rattle.auc_reauth.specs.Server.{Contexts, if_named, unless_named}
use Rattle.auc_reauth.specs.Store.{entry, with_entry}
use Rattle.auc_reauth.specs.declared.context.Context.{Context}
use Rattle.auc_request.specs.declared.identities.IdentityRequest.{IdentityRequest}
use Rattle.auc_server.proofs.Facts.{Says, awaits_challenge, awaits_reauth, given_store, none_resumed as none_resumed_yet, notification_may, says_row}
use Rattle.auc_server.specs.Contexts.{context_after, context_in, won_context, first_context, found_at, gives_next, homes_kept, homes_left, homes_resumed, homes_rewon, homes_won, later_context, with_context, with_context_at, without, without_at}
use Rattle.auc_server.specs.Laws.{Fits}
use Rattle.auc_server.specs.Messages.{reauth_bytes}
use Rattle.auc_server.specs.Ordinals.{home_at, home_place, homes_given, ordinal_given}
use Rattle.auc_server.specs.Rounds.{checkcode}
use Rattle.auc_server.specs.Rows.{server_row, subscriber_in, text_in}
use Rattle.auc_server.specs.Server.{ServerEnd, challenged_of, resumed_of}
use Rattle.auc_subs.specs.Setting.{Setting}
use Rattle.auc_server.specs.State.{last_of}
use Rattle.auc_server.specs.Table.{asked, challenge_of, challenged, challenged_with, ended, failed, homes_after, homes_challenged, homes_done, identified, identity_asked, name_of, names_given, next_given, next_id, noted, notified, packets_after, random_at, requested, resumed_keys, resumed_with, resumption, resynchronised, resynchronising, server_does, server_step, silent, vector_at}
use Rattle.auc_server.specs.declared.naming.GivenNames.{GivenNames}
use Rattle.auc_server.specs.declared.options.ServerOptions.{ServerOptions}
use Rattle.auc_server.specs.declared.reply.Reply.{Reply}
use Rattle.auc_server.specs.declared.rows.Row.{Row}
use Rattle.auc_server.specs.declared.rows.Row.TheVariants as row
use Rattle.auc_server.specs.declared.server.Challenged.{Challenged}
use Rattle.auc_server.specs.declared.server.Last.{Last}
use Rattle.auc_server.specs.declared.server.Resumed.{Resumed}
use Rattle.auc_server.specs.declared.server.ServerState.{ServerState}
use Rattle.auc_server.specs.declared.server.ServerState.TheVariants as state
use Rattle.auc_server.specs.declared.setting.HomeRow.{HomeRow}
use Rattle.auc_vector.specs.declared.why.ServerWhy.{ServerWhy}
use Rattle.auc_vector.specs.declared.why.ServerWhy.TheVariants as why
use Rattle.auc_vector.specs.declared.notes.Notes.{Notes}
use Rattle.auc_vector.specs.declared.notes.NumberNote.{NumberNote}
use Rattle.auc_vector.specs.declared.notes.NumberNote.TheVariants as number
use Rattle.auc_vector.specs.declared.notes.ResyncNote.{ResyncNote}
use Rattle.auc_vector.specs.declared.notes.ResyncNote.TheVariants as resync
use Rattle.auc_vector.specs.declared.parts.Vector.{Vector}
use Rattle.auc_vector.specs.declared.turn.Outcome.{Outcome}
use Rattle.auc_vector.specs.declared.turn.Outcome.TheVariants as outcome
use Rattle.auc_vector.specs.declared.turn.Reason.{Reason}
use Rattle.auc_vector.specs.declared.turn.Reason.TheVariants as reason
use Rattle.auc_vector.specs.declared.turn.Step.{Step}
use Rattle.auc_vector.specs.declared.turn.Step.TheVariants as step
use Rattle.auc_vector.specs.declared.turn.Turn.{Turn}
use Rattle.auc_world.specs.Agreement.{AreSized, IsSized}
use Rattle.auc_world.specs.Happened.{sent_by}
use Rattle.auc_world.proofs.AgainReadLemmas.{IsOther, IsResumption, IsText}
use Rattle.auc_world.proofs.PlainKeyLemmas.{checkcode_hash, k_encr_block, name_named, nonce_block}

-- ---- a server

-- what it took up again can be encrypted, a next identity leaves a next counter, and the identity that it received is the
-- context's
pub record IsTaken (s : ServerEnd) (r : Resumed) : Type 0 where
  pub fits : IsResumption r
  pub later : (text : List ℕ) → r.next ≡ Some text → r.context.counter + 1 < 65536
  pub named : username s.identity ≡ r.context.identity

-- so is each one's; and its last request is that of the re-authentication, or has not what such a request must have
pub record ServerAgain (set : Setting) (s : ServerEnd) : Type 0 where
  pub taken : (r : Resumed) → resumed_of s ≡ Some r → IsTaken s r
  pub last : (r : Resumed) → resumed_of s ≡ Some r → challenged_of s ≡ None → IsText set.realm r s.last

abbrev pub Sends : Setting → ServerEnd → Step ServerWhy → Type 0
Sends set s did = (r : Resumed) (bytes : List ℕ) → resumed_of s ≡ Some r → challenged_of s ≡ None → sent_by did ≡ Some bytes → IsText set.realm r bytes

-- and so is what a turn sends
pub record TurnAgain (set : Setting) (t : ServerEnd × Turn ServerWhy) : Type 0 where
  pub server : ServerAgain set t.0
  pub sends : Sends set t.0 t.1.step

none_resumed : (c : Option Resumed) (r : Resumed) → c ≡ None → c ≡ Some r → ⊥
none_resumed c r e f = cc

same_some : (a b : List ℕ) → ◌≡◌ {A = Option (List ℕ)} (Some a) (Some b) → a ≡ b
same_some a b e = cc

no_bytes : (bytes : List ℕ) → ◌≡◌ {A = Option (List ℕ)} None (Some bytes) → ⊥
no_bytes bytes e = cc

no_challenge : (sent : Challenged) → ◌≡◌ {A = Option Challenged} (Some sent) None → ⊥
no_challenge sent e = cc

-- ---- what rows share

ignored_again : (set : Setting) (s : ServerEnd) (notes : Notes) (cause : Reason) (checked : Bool) → ServerAgain set s
    → TurnAgain set (s, record { notes = notes; step = step.Ignored cause; checked = checked })
ignored_again set s notes cause checked f = record { server = f; sends = λ r bytes e none sent. absurd (no_bytes bytes sent) }

-- a new request, of one of the two kinds
requested_again : (set : Setting) (s : ServerEnd) (next : ServerState) (bytes : List ℕ) (notes : Notes) (checked : Bool) → ((r : Resumed) → (last_of next).resumed ≡ Some r → IsTaken s r)
    → ((r : Resumed) → (last_of next).resumed ≡ Some r → (last_of next).challenged ≡ None → IsText set.realm r bytes) → TurnAgain set (requested s next bytes notes checked)
requested_again set s next bytes notes checked taken text = record {
  server = record {
    taken = λ r e. let f = taken r e in record { fits = f.fits; later = f.later; named = f.named };
    last = text;
  };
  sends = λ r other e none sent. subst (IsText set.realm r) (same_some bytes other sent) (text r e none);
}

notification_other : (m : Method) (id : ℕ) → IsOther (packet_text (packet.Aka true id m subtype.Notification (attr.Notification 16384 ∷ [])))
notification_other m id = record {
  text = packet.Aka true id m subtype.Notification (attr.Notification 16384 ∷ []);
  may = notification_may m id;
  values = refl;
  lacks = refl;
  is = refl;
}

notified_again : (set : Setting) (s : ServerEnd) (cause : ServerWhy) (notes : Notes) (checked : Bool) → ((r : Resumed) → resumed_of s ≡ Some r → IsTaken s r) → TurnAgain set (notified s cause notes checked)
notified_again set s cause notes checked taken =
    requested_again set s (state.Notifying cause (last_of s.state)) (packet_text (packet.Aka true (next_id s.id) s.options.method subtype.Notification (attr.Notification 16384 ∷ []))) notes checked taken
    (λ r e none. inr (notification_other s.options.method (next_id s.id)))

failure_other : (id : ℕ) → IsOther (packet_text (packet.Failure id))
failure_other id = record { text = packet.Failure id; may = record { attrs = refl; size = omega arith }; values = refl; lacks = refl; is = refl }

success_other : (id : ℕ) → IsOther (packet_text (packet.Success id))
success_other id = record { text = packet.Success id; may = record { attrs = refl; size = omega arith }; values = refl; lacks = refl; is = refl }

pub over_again : (set : Setting) (s : ServerEnd) (next : ServerState) → last_of next ≡ last_of s.state → ServerAgain set s → ServerAgain set (record s { state = next })
over_again set s next same f = record {
  taken = λ r e. let t = f.taken r (ap (λ (l : Last). l.resumed) (sym same) ∙ e) in record { fits = t.fits; later = t.later; named = t.named };
  last = λ r e none. f.last r (ap (λ (l : Last). l.resumed) (sym same) ∙ e) (ap (λ (l : Last). l.challenged) (sym same) ∙ none);
}

failed_again : (set : Setting) (s : ServerEnd) (cause : ServerWhy) → ServerAgain set s → TurnAgain set (failed s cause)
failed_again set s cause f = record {
  server = over_again set s (state.Ended (outcome.Failure cause) (last_of s.state)) refl f;
  sends = λ r bytes e none sent. inr (subst IsOther (same_some (packet_text (packet.Failure s.id)) bytes sent) (failure_other s.id));
}

won_again : (set : Setting) (s : ServerEnd) (result : Outcome ServerWhy) → ServerAgain set s → TurnAgain set (ended s result (packet_text (packet.Success s.id)) true)
won_again set s result f = record {
  server = over_again set s (state.Ended result (last_of s.state)) refl f;
  sends = λ r bytes e none sent. inr (subst IsOther (same_some (packet_text (packet.Success s.id)) bytes sent) (success_other s.id));
}

-- ---- the rows

with_again : (set : Setting) (s : ServerEnd) (sub n : ℕ) (v : Option Vector) (given : Option GivenNames) (notes : Notes) (checked : Bool) → ServerAgain set s
    → TurnAgain set (challenged_with set.realm s sub n v given notes checked)
with_again set s sub n None given notes checked f = ignored_again set s silent reason.Unexpected false f
with_again set s sub n (Some v) given notes checked f =
    let sent = challenge_of s sub n v (next_given given) in record {
      server = record {
        taken = λ r e. let t = f.taken r e in record { fits = t.fits; later = t.later; named = t.named };
        last = λ r e none. absurd (no_challenge sent none);
      };
      sends = λ r bytes e none text. absurd (no_challenge sent none);
    }

challenged_again : (set : Setting) (homes : List HomeRow) (s : ServerEnd) (sub : ℕ) (checked : Bool) (resynced : Option ResyncNote) (drawn : Option NumberNote) → ServerAgain set s
    → TurnAgain set (challenged set homes s sub checked resynced drawn)
challenged_again set homes s sub checked resynced None f = ignored_again set s silent reason.Unexpected false f
challenged_again set homes s sub checked resynced (Some (number.Drew n)) f =
    with_again set s sub n (vector_at set s.options sub n) (names_given set homes s sub) (noted resynced (Some (number.Drew n))) checked f
challenged_again set homes s sub checked resynced (Some (number.Exhausted w)) f =
    notified_again set s (why.Exhausted w) (noted resynced (Some (number.Exhausted w))) checked f.taken
challenged_again set homes s sub checked resynced (Some (number.Withheld n stop)) f =
    notified_again set s (why.Stopped n stop) (noted resynced (Some (number.Withheld n stop))) checked f.taken

synced_again : (set : Setting) (s : ServerEnd) → ServerAgain set s → ServerAgain set (resynchronising s)
synced_again set s f = record { taken = λ r e. let t = f.taken r e in record { fits = t.fits; later = t.later; named = t.named }; last = f.last }

resynchronised_again : (set : Setting) (homes : List HomeRow) (s : ServerEnd) (sub : ℕ) (resynced : Option ResyncNote) (drawn : Option NumberNote) → ServerAgain set s
    → TurnAgain set (resynchronised set homes s sub resynced drawn)
resynchronised_again set homes s sub None drawn f = ignored_again set s silent reason.Unexpected false f
resynchronised_again set homes s sub (Some resync.BadAuts) drawn f = ignored_again set s silent reason.Unexpected false f
resynchronised_again set homes s sub (Some (resync.Beyond seen seq)) drawn f =
    notified_again set (resynchronising s) (why.Beyond seen seq) (noted (Some (resync.Beyond seen seq)) None) false (synced_again set s f).taken
resynchronised_again set homes s sub (Some (resync.InRange seen seq)) drawn f =
    challenged_again set homes (resynchronising s) sub false (Some (resync.InRange seen seq)) drawn (synced_again set s f)
resynchronised_again set homes s sub (Some (resync.Moved seen seq)) drawn f =
    challenged_again set homes (resynchronising s) sub false (Some (resync.Moved seen seq)) drawn (synced_again set s f)

-- another identity comes before a re-authentication
identified_again : (set : Setting) (s : ServerEnd) (text : List ℕ) (packets : List (List ℕ)) → resumed_of s ≡ None → ServerAgain set (identified s text packets)
identified_again set s text packets none = record {
  taken = λ r e. absurd (none_resumed (resumed_of s) r none e);
  last = λ r e alone. absurd (none_resumed (resumed_of s) r none e);
}

no_resumption : (r : Resumed) → ◌≡◌ {A = Option Resumed} None (Some r) → ⊥
no_resumption r e = cc

asked_again : (set : Setting) (s : ServerEnd) (text : List ℕ) (packets : List (List ℕ)) (kind : IdentityRequest) → TurnAgain set (asked s text packets kind)
asked_again set s text packets kind =
    requested_again set (identified s text packets) (state.Await kind) (identity_asked s kind) silent false (λ r e. absurd (no_resumption r e)) (λ r e alone. absurd (no_resumption r e))

-- ---- a context is taken up again

-- a context that an identity names
pub record IsNamedBy (text : List ℕ) (c : Context) : Type 0 where
  pub sized : IsSized c
  pub same : username text ≡ c.identity

some_context : (a b : Context) → ◌≡◌ {A = Option Context} (Some a) (Some b) → a ≡ b
some_context a b e = cc

named_by : (name : List ℕ) (kept : Option Context) (c : Context) → if_named name kept ≡ Some c → (kept ≡ Some c) × (name ≡ c.identity)
named_by name None c e = absurd cc
named_by name (Some k) c e = by (bytes_eq k.identity name) refl e
  where
    by : (b : Bool) → bytes_eq k.identity name ≡ b → (if b then Some k else None) ≡ Some c → (◌≡◌ {A = Option Context} (Some k) (Some c)) × (name ≡ c.identity)
    by true same f = (f, sym ((bytes_eq-Decides k.identity name).0 same) ∙ ap (λ (x : Context). x.identity) (some_context k c f))
    by false same f = absurd cc

context_named : (by : Method) (text : List ℕ) (homes : List HomeRow) (place : Option ℕ) (c : Context) → AreSized homes → found_at by text homes place ≡ Some c → IsNamedBy text c
context_named by text homes None c sized e = absurd cc
context_named by text homes (Some place) c sized e =
    let (kept, same) = named_by (username text) (entry by (home_at homes place).store) c e in record { sized = sized by place c kept; same = same }

below : (n : ℕ) → n < 65536 → (n == 65535) ≡ false → n + 1 < 65536
below n small other = grind (arith, nat_tests, small, other)

-- a next identity is given only if the counter has a next one
gives_later : (set : Setting) (s : ServerEnd) (sub : ℕ) (homes : List HomeRow) (c : Context) (text : List ℕ) → c.counter < 65536
    → name_of set kinds.Reauth s sub (ordinal_given (gives_next s.options c) homes sub) ≡ Some text → c.counter + 1 < 65536
gives_later set s sub homes c text small e = by s.options.reauth (c.counter == 65535) refl e
  where
    by : (offers last : Bool) → (c.counter == 65535) ≡ last → name_of set kinds.Reauth s sub (ordinal_given (offers && not last) homes sub) ≡ Some text → c.counter + 1 < 65536
    by true true f g = absurd (no_bytes text g)
    by true false f g = below c.counter small f
    by false last f g = absurd (no_bytes text g)

same_resumed : (a b : Resumed) → ◌≡◌ {A = Option Resumed} (Some a) (Some b) → a ≡ b
same_resumed a b e = cc

resumed_again : (set : Setting) (homes : List HomeRow) (s : ServerEnd) (text : List ℕ) (packets : List (List ℕ)) (sub : ℕ) (o : Option Context) → ServerAgain set s
    → ((c : Context) → o ≡ Some c → IsNamedBy text c) → TurnAgain set (resumed_with set homes s text packets sub o)
resumed_again set homes s text packets sub None f is = ignored_again set s silent reason.Unexpected false f
resumed_again set homes s text packets sub (Some c) f is =
    let named = is c refl in
    let own = resumption set homes s sub c in
    let bytes = reauth_bytes s.options.method set.realm (next_id s.id) (random_at set s s.next_iv) own (checkcode s.options.method packets) in
    let fits : IsResumption own = record {
      context = named.sized;
      nonce = nonce_block set.key s.options.session (index_after s.next_iv);
      next = name_named set kinds.Reauth s sub (ordinal_given (gives_next s.options c) homes sub);
    } in
    let later : (next : List ℕ) → own.next ≡ Some next → c.counter + 1 < 65536 = λ next e. gives_later set s sub homes c next named.sized.counter e in
    let asking : IsText set.realm own bytes = inl (record {
      by = s.options.method;
      id = next_id s.id;
      iv = random_at set s s.next_iv;
      check = checkcode s.options.method packets;
      block = nonce_block set.key s.options.session s.next_iv;
      hash = checkcode_hash s.options.method packets;
      is = refl;
    }) in
    record {
      server = record {
        taken = λ r e. subst (IsTaken (resumed_with set homes s text packets sub (Some c)).0) (same_resumed own r e) (record { fits = fits; later = later; named = named.same });
        last = λ r e none. subst (λ (x : Resumed). IsText set.realm x bytes) (same_resumed own r e) asking;
      };
      sends = λ r other e none sent. subst (IsText set.realm r) (same_some bytes other sent) (subst (λ (x : Resumed). IsText set.realm x bytes) (same_resumed own r e) asking);
    }

does_again : (found : Option ℕ) (set : Setting) (homes : List HomeRow) (s : ServerEnd) (seen : Seen) (text : List ℕ) (packets : List (List ℕ)) (r : Row) (notes : Notes) → Says found s seen r → Fits s
    → AreSized homes → ServerAgain set s → TurnAgain set (server_does set homes s text packets r notes)
does_again found set homes s seen text packets (row.Ignore cause) notes says fits sized f = ignored_again set s silent cause false f
does_again found set homes s seen text packets (row.Ask kind) notes says fits sized f = asked_again set s text packets kind
does_again found set homes s seen text packets row.UnknownIdentity notes says fits sized f =
    notified_again set (identified s text packets) why.UnknownIdentity silent false (identified_again set s text packets (none_resumed_yet s says)).taken
does_again found set homes s seen text packets (row.Challenge sub) notes says fits sized f =
    challenged_again set homes (identified s text packets) sub false None notes.number (identified_again set s text packets (none_resumed_yet s says.0))
does_again found set homes s seen text packets (row.Resume sub) notes says fits sized f =
    resumed_again set (homes_left s.options.method text homes sub) s text packets sub (context_in s.options.method text homes sub) f
    (λ c e. context_named s.options.method text homes (home_place homes sub) c sized e)
does_again found set homes s seen text packets (row.TooSmall sub) notes says fits sized f = challenged_again set homes s sub true None notes.number f
does_again found set homes s seen text packets row.WrongCounter notes says fits sized f = notified_again set s why.WrongCounter silent true f.taken
does_again found set homes s seen text packets (row.Reauthenticated sent) notes says fits sized f = won_again set s (outcome.Success (resumed_keys s sent)) f
does_again found set homes s seen text packets row.WrongMac notes says fits sized f = notified_again set s why.WrongMac silent false f.taken
does_again found set homes s seen text packets row.WrongRes notes says fits sized f = notified_again set s why.WrongRes silent true f.taken
does_again found set homes s seen text packets row.WrongCheckcode notes says fits sized f = notified_again set s why.WrongCheckcode silent true f.taken
does_again found set homes s seen text packets (row.Success sent) notes says fits sized f = won_again set s (outcome.Success sent.keys) f
does_again found set homes s seen text packets row.SecondSync notes says fits sized f = notified_again set s why.SecondSync silent false f.taken
does_again found set homes s seen text packets row.BadAuts notes says fits sized f = notified_again set s why.BadAuts (noted (Some resync.BadAuts) None) false f.taken
does_again found set homes s seen text packets (row.Resynchronise sub seq) notes says fits sized f = resynchronised_again set homes s sub notes.resync notes.number f
does_again found set homes s seen text packets row.Rejected notes says fits sized f = failed_again set s why.Rejected f
does_again found set homes s seen text packets (row.ClientError code) notes says fits sized f = failed_again set s (why.ClientError code) f
does_again found set homes s seen text packets (row.Notified cause) notes says fits sized f = failed_again set s cause f

pub turn_again : (set : Setting) (homes : List HomeRow) (s : ServerEnd) (seen : Seen) (said : Reply) (notes : Notes) → Fits s → AreSized homes → ServerAgain set s
    → TurnAgain set (server_step set homes s seen said notes)
turn_again set homes s seen said notes fits sized f =
    does_again (subscriber_in s.options.method set homes (text_in seen.reading)) set homes s seen (text_in seen.reading)
    (packets_after s seen (server_row set homes s seen said)) (server_row set homes s seen said) notes (says_row set homes s seen said) fits sized f

-- ---- what stays

-- what was taken up again stays, and so does the identity
abbrev pub Stays : ServerEnd → ServerEnd → Type 0
Stays s t = (r : Resumed) → resumed_of s ≡ Some r → (resumed_of t ≡ Some r) × (t.identity ≡ s.identity)

with_stays : (realm : List ℕ) (s : ServerEnd) (sub n : ℕ) (v : Option Vector) (given : Option GivenNames) (notes : Notes) (checked : Bool) → Stays s (challenged_with realm s sub n v given notes checked).0
with_stays realm s sub n None given notes checked r e = (e, refl)
with_stays realm s sub n (Some v) given notes checked r e = (e, refl)

challenged_stays : (set : Setting) (homes : List HomeRow) (s : ServerEnd) (sub : ℕ) (checked : Bool) (resynced : Option ResyncNote) (drawn : Option NumberNote)
    → Stays s (challenged set homes s sub checked resynced drawn).0
challenged_stays set homes s sub checked resynced None r e = (e, refl)
challenged_stays set homes s sub checked resynced (Some (number.Drew n)) r e =
    with_stays set.realm s sub n (vector_at set s.options sub n) (names_given set homes s sub) (noted resynced (Some (number.Drew n))) checked r e
challenged_stays set homes s sub checked resynced (Some (number.Exhausted w)) r e = (e, refl)
challenged_stays set homes s sub checked resynced (Some (number.Withheld n stop)) r e = (e, refl)

resynchronised_stays : (set : Setting) (homes : List HomeRow) (s : ServerEnd) (sub : ℕ) (resynced : Option ResyncNote) (drawn : Option NumberNote)
    → Stays s (resynchronised set homes s sub resynced drawn).0
resynchronised_stays set homes s sub None drawn r e = (e, refl)
resynchronised_stays set homes s sub (Some resync.BadAuts) drawn r e = (e, refl)
resynchronised_stays set homes s sub (Some (resync.Beyond seen seq)) drawn r e = (e, refl)
resynchronised_stays set homes s sub (Some (resync.InRange seen seq)) drawn r e = challenged_stays set homes (resynchronising s) sub false (Some (resync.InRange seen seq)) drawn r e
resynchronised_stays set homes s sub (Some (resync.Moved seen seq)) drawn r e = challenged_stays set homes (resynchronising s) sub false (Some (resync.Moved seen seq)) drawn r e

does_stay : (found : Option ℕ) (set : Setting) (homes : List HomeRow) (s : ServerEnd) (seen : Seen) (text : List ℕ) (packets : List (List ℕ)) (r : Row) (notes : Notes) → Says found s seen r → Fits s
    → Stays s (server_does set homes s text packets r notes).0
does_stay found set homes s seen text packets (row.Ignore cause) notes says fits r e = (e, refl)
does_stay found set homes s seen text packets (row.Ask kind) notes says fits r e = absurd (none_resumed (resumed_of s) r (none_resumed_yet s says) e)
does_stay found set homes s seen text packets row.UnknownIdentity notes says fits r e = absurd (none_resumed (resumed_of s) r (none_resumed_yet s says) e)
does_stay found set homes s seen text packets (row.Challenge sub) notes says fits r e = absurd (none_resumed (resumed_of s) r (none_resumed_yet s says.0) e)
does_stay found set homes s seen text packets (row.Resume sub) notes says fits r e = absurd (none_resumed (resumed_of s) r (none_resumed_yet s says) e)
does_stay found set homes s seen text packets (row.TooSmall sub) notes says fits r e = challenged_stays set homes s sub true None notes.number r e
does_stay found set homes s seen text packets row.WrongCounter notes says fits r e = (e, refl)
does_stay found set homes s seen text packets (row.Reauthenticated sent) notes says fits r e = (e, refl)
does_stay found set homes s seen text packets row.WrongMac notes says fits r e = (e, refl)
does_stay found set homes s seen text packets row.WrongRes notes says fits r e = (e, refl)
does_stay found set homes s seen text packets row.WrongCheckcode notes says fits r e = (e, refl)
does_stay found set homes s seen text packets (row.Success sent) notes says fits r e = (e, refl)
does_stay found set homes s seen text packets row.SecondSync notes says fits r e = (e, refl)
does_stay found set homes s seen text packets row.BadAuts notes says fits r e = (e, refl)
does_stay found set homes s seen text packets (row.Resynchronise sub seq) notes says fits r e = resynchronised_stays set homes s sub notes.resync notes.number r e
does_stay found set homes s seen text packets row.Rejected notes says fits r e = (e, refl)
does_stay found set homes s seen text packets (row.ClientError code) notes says fits r e = (e, refl)
does_stay found set homes s seen text packets (row.Notified cause) notes says fits r e = (e, refl)

pub turn_keeps : (set : Setting) (homes : List HomeRow) (s : ServerEnd) (seen : Seen) (said : Reply) (notes : Notes) → Fits s → Stays s (server_step set homes s seen said notes).0
turn_keeps set homes s seen said notes fits =
    does_stay (subscriber_in s.options.method set homes (text_in seen.reading)) set homes s seen (text_in seen.reading)
    (packets_after s seen (server_row set homes s seen said)) (server_row set homes s seen said) notes (says_row set homes s seen said) fits

-- ---- the homes

given_sized : (gives : Bool) (homes : List HomeRow) (sub : ℕ) → AreSized homes → AreSized (homes_given gives homes sub)
given_sized gives homes sub sized m place c e = sized m place c (sym (ap (entry m) (given_store gives homes sub place)) ∙ e)

named_sized : (options : ServerOptions) (homes : List HomeRow) (sub : ℕ) (drawn : Option NumberNote) → AreSized homes → AreSized (homes_challenged options homes sub drawn)
named_sized options homes sub None sized = sized
named_sized options homes sub (Some (number.Drew n)) sized = given_sized options.reauth (homes_given options.pseudonym homes sub) sub (given_sized options.pseudonym homes sub sized)
named_sized options homes sub (Some (number.Exhausted w)) sized = sized
named_sized options homes sub (Some (number.Withheld n stop)) sized = sized

-- a home is put in a place
set_sized : (homes : List HomeRow) (place : ℕ) (new : HomeRow) → AreSized homes → ((m : Method) (c : Context) → entry m new.store ≡ Some c → IsSized c) → AreSized (slice_set homes place new)
set_sized homes place new sized own m other c e = by homes place other sized e
  where
    by : (homes : List HomeRow) (place other : ℕ) → AreSized homes → entry m (home_at (slice_set homes place new) other).store ≡ Some c → IsSized c
    by [] place other sized e = sized m other c e
    by (home ∷ homes) zero zero sized e = own m c e
    by (home ∷ homes) zero (suc other) sized e = sized m (suc other) c e
    by (home ∷ homes) (suc place) zero sized e = sized m zero c e
    by (home ∷ homes) (suc place) (suc other) sized e = by homes place other (λ n p d f. sized n (suc p) d f) e

-- a context is put in an entry, or leaves it
entry_sized : (by m : Method) (new : Option Context) (contexts : Contexts) (c : Context) → ((d : Context) → new ≡ Some d → IsSized d)
    → ((n : Method) (d : Context) → entry n contexts ≡ Some d → IsSized d) → entry m (with_entry by new contexts) ≡ Some c → IsSized c
entry_sized method.Aka method.Aka new contexts c own all e = own c e
entry_sized method.Aka method.Prime new contexts c own all e = all method.Prime c e
entry_sized method.Prime method.Aka new contexts c own all e = all method.Aka c e
entry_sized method.Prime method.Prime new contexts c own all e = own c e

unless_is : (name : List ℕ) (kept : Option Context) (c : Context) → unless_named name kept ≡ Some c → kept ≡ Some c
unless_is name None c e = e
unless_is name (Some k) c e = by (bytes_eq k.identity name) e
  where
    by : (b : Bool) → (if b then None else Some k) ≡ Some c → ◌≡◌ {A = Option Context} (Some k) (Some c)
    by true f = cc
    by false f = f

left_sized : (by : Method) (text : List ℕ) (homes : List HomeRow) (place : Option ℕ) → AreSized homes → AreSized (without_at by text homes place)
left_sized by text homes None sized = sized
left_sized by text homes (Some place) sized =
    set_sized homes place (without by text (home_at homes place)) sized
    (λ m c e. entry_sized by m (unless_named (username text) (entry by (home_at homes place).store)) (home_at homes place).store c
    (λ d f. sized by place d (unless_is (username text) (entry by (home_at homes place).store) d f)) (λ n d f. sized n place d f) e)

resumed_sized : (options : ServerOptions) (text : List ℕ) (homes : List HomeRow) (sub : ℕ) (o : Option Context) → AreSized homes → AreSized (homes_resumed options text homes sub o)
resumed_sized options text homes sub None sized = sized
resumed_sized options text homes sub (Some c) sized =
    given_sized (gives_next options c) (homes_left options.method text homes sub) sub (left_sized options.method text homes (home_place homes sub) sized)

put_sized : (by : Method) (c : Context) (homes : List HomeRow) (place : Option ℕ) → IsSized c → AreSized homes → AreSized (with_context_at by c homes place)
put_sized by c homes None own sized = sized
put_sized by c homes (Some place) own sized =
    set_sized homes place (with_context by c (home_at homes place)) sized
    (λ m d e. entry_sized by m (Some c) (home_at homes place).store d (λ x f. subst IsSized (some_context c x f) own) (λ n x f. sized n place x f) e)

kept_sized : (by : Method) (homes : List HomeRow) (sub : ℕ) (o : Option Context) → ((c : Context) → o ≡ Some c → IsSized c) → AreSized homes → AreSized (homes_kept by homes sub o)
kept_sized by homes sub None own sized = sized
kept_sized by homes sub (Some c) own sized = put_sized by c homes (home_place homes sub) (own c refl) sized

-- the context of a full authentication
first_sized : (s : ServerEnd) (sent : Challenged) (next : Option (List ℕ)) (c : Context) → Fits s → challenged_of s ≡ Some sent → first_context sent next ≡ Some c → IsSized c
first_sized s sent None c fits last e = absurd cc
first_sized s sent (Some identity) c fits last e =
    let made : Context = record { origin = sent.number; identity = identity; k_encr = sent.keys.k_encr; k_aut = sent.keys.k_aut; master = sent.master; counter = 1 } in
    let same : made ≡ c = some_context made c e in
    let counter : 1 ≡ c.counter = ap (λ (x : Context). x.counter) same in record {
      k_encr = subst IsBlock (ap (λ (x : Context). x.k_encr) same) (subst (λ (keys : KeySet). IsBlock keys.k_encr) (sym (fits.keys sent last)) (k_encr_block s.options.method s.identity sent.vector.ik sent.vector.ck));
      counter = omega (arith, counter);
    }

won_sized : (s : ServerEnd) (homes : List HomeRow) (sent : Challenged) → Fits s → challenged_of s ≡ Some sent → AreSized homes → AreSized (homes_won s.options.method homes sent)
won_sized s homes sent fits last sized = kept_sized s.options.method homes sent.sub (won_context sent) (λ c e. first_sized s sent sent.next c fits last e) sized

-- and of a re-authentication
later_sized : (c : Context) (next : Option (List ℕ)) (d : Context) → IsSized c → ((text : List ℕ) → next ≡ Some text → c.counter + 1 < 65536) → later_context c next ≡ Some d → IsSized d
later_sized c None d own small e = absurd cc
later_sized c (Some identity) d own small e =
    let made : Context = record c { identity = identity; counter = c.counter + 1 } in
    let same : made ≡ d = some_context made d e in
    let counter : c.counter + 1 ≡ d.counter = ap (λ (x : Context). x.counter) same in
    let few = small identity refl in
    record { k_encr = subst IsBlock (ap (λ (x : Context). x.k_encr) same) own.k_encr; counter = omega (arith, counter, few) }

rewon_sized : (set : Setting) (s : ServerEnd) (homes : List HomeRow) (r : Resumed) → ServerAgain set s → resumed_of s ≡ Some r → AreSized homes → AreSized (homes_rewon s.options.method homes r)
rewon_sized set s homes r f last sized =
    let t = f.taken r last in kept_sized s.options.method homes r.sub (context_after r) (λ c e. later_sized r.context r.next c t.fits.context t.later e) sized

done_sized : (found : Option ℕ) (set : Setting) (homes : List HomeRow) (s : ServerEnd) (seen : Seen) (text : List ℕ) (r : Row) (notes : Notes) → Says found s seen r → Fits s → ServerAgain set s → AreSized homes → AreSized (homes_done homes s text r notes)
done_sized found set homes s seen text (row.Challenge sub) notes says fits f sized = named_sized s.options homes sub notes.number sized
done_sized found set homes s seen text (row.Resume sub) notes says fits f sized = resumed_sized s.options text homes sub (context_in s.options.method text homes sub) sized
done_sized found set homes s seen text (row.TooSmall sub) notes says fits f sized = named_sized s.options homes sub notes.number sized
done_sized found set homes s seen text (row.Resynchronise sub seq) notes says fits f sized = named_sized s.options homes sub notes.number sized
done_sized found set homes s seen text (row.Success sent) notes says fits f sized = won_sized s homes sent fits (awaits_challenge s sent says.before says.waits) sized
done_sized found set homes s seen text (row.Reauthenticated sent) notes says fits f sized = rewon_sized set s homes sent f (awaits_reauth s sent says.waits) sized
done_sized found set homes s seen text (row.Ignore cause) notes says fits f sized = sized
done_sized found set homes s seen text (row.Ask kind) notes says fits f sized = sized
done_sized found set homes s seen text row.UnknownIdentity notes says fits f sized = sized
done_sized found set homes s seen text row.WrongCounter notes says fits f sized = sized
done_sized found set homes s seen text row.WrongMac notes says fits f sized = sized
done_sized found set homes s seen text row.WrongRes notes says fits f sized = sized
done_sized found set homes s seen text row.WrongCheckcode notes says fits f sized = sized
done_sized found set homes s seen text row.SecondSync notes says fits f sized = sized
done_sized found set homes s seen text row.BadAuts notes says fits f sized = sized
done_sized found set homes s seen text row.Rejected notes says fits f sized = sized
done_sized found set homes s seen text (row.ClientError code) notes says fits f sized = sized
done_sized found set homes s seen text (row.Notified cause) notes says fits f sized = sized

-- the homes after a turn
pub turn_sized : (set : Setting) (homes : List HomeRow) (s : ServerEnd) (seen : Seen) (said : Reply) (notes : Notes) → Fits s → ServerAgain set s → AreSized homes
    → AreSized (homes_after set homes s seen said notes)
turn_sized set homes s seen said notes fits f sized =
    done_sized (subscriber_in s.options.method set homes (text_in seen.reading)) set homes s seen (text_in seen.reading) (server_row set homes s seen said) notes (says_row set homes s seen said) fits f sized
