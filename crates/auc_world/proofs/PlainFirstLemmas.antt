-- For resumed sessions: the first identity as the server receives it, whatever its length, and the rows that take no context up.
use Rattle.std.proofs.Common.{◌≡◌, ◌⊎◌, ℕ, ◌==◌, ◌||◌, Bool, true, false, not, if◌then◌else◌, List, [], ◌∷◌, Option, Some, None, refl, sym, ap, ◌∙◌, arith, inl, inr}
use Rattle.std.specs.Prelude.{slice_index}
use Rattle.auc_hmac.specs.declared.method.Method.{Method}
use Rattle.auc_hmac.specs.declared.method.Method.TheVariants as method
use Rattle.auc_packet.specs.Head.{head_at}
use Rattle.auc_packet.specs.Packet.{method_type}
use Rattle.auc_packet.specs.Received.{IsReading, IsReceived, Seen}
use Rattle.auc_packet.specs.Spelling.{packet_text}
use Rattle.auc_packet.specs.declared.packet.Head.{Head}
use Rattle.auc_packet.specs.declared.packet.Packet.TheVariants as packet
use Rattle.auc_packet.specs.declared.received.Reading.{Reading}
use Rattle.auc_packet.specs.declared.received.Reading.TheVariants as reading
use Rattle.auc_peer.specs.Messages.{identity_response}
use Rattle.auc_request.specs.declared.identities.IdentityRequest.TheVariants as request
use Rattle.auc_server.specs.Rounds.{heard}
use Rattle.auc_server.specs.Rows.{challenge_or, is_type, on_first, on_head, server_row, text_in}
use Rattle.auc_server.specs.Server.{ServerEnd, resumed_of, started}
use Rattle.auc_subs.specs.Setting.{Setting}
use Rattle.auc_server.specs.Table.{challenged, challenged_with, identified, names_given, noted, server_does, vector_at}
use Rattle.auc_server.specs.declared.naming.GivenNames.{GivenNames}
use Rattle.auc_server.specs.declared.options.ServerOptions.{ServerOptions}
use Rattle.auc_server.specs.declared.reply.Reply.{Reply}
use Rattle.auc_server.specs.declared.rows.Row.{Row}
use Rattle.auc_server.specs.declared.rows.Row.TheVariants as row
use Rattle.auc_server.specs.declared.server.ServerState.TheVariants as state
use Rattle.auc_server.specs.declared.setting.HomeRow.{HomeRow}
use Rattle.auc_vector.specs.declared.why.ServerWhy.{ServerWhy}
use Rattle.auc_vector.specs.declared.notes.Notes.{Notes}
use Rattle.auc_vector.specs.declared.notes.NumberNote.{NumberNote}
use Rattle.auc_vector.specs.declared.notes.NumberNote.TheVariants as number
use Rattle.auc_vector.specs.declared.notes.ResyncNote.{ResyncNote}
use Rattle.auc_vector.specs.declared.parts.Vector.{Vector}
use Rattle.auc_vector.specs.declared.turn.Reason.{Reason}
use Rattle.auc_vector.specs.declared.turn.Reason.TheVariants as reason
use Rattle.auc_vector.specs.declared.turn.Turn.{Turn}
use Rattle.auc_world.proofs.PlainPastLemmas.{is_past}
use Rattle.auc_world.proofs.PlainServerLemmas.{Comes}
use Rattle.auc_world.specs.Happened.{sent_by}

-- ---- what an Identity response is read as

-- no type of a method is that of Identity
no_method : (m : Method) → method_type m ≡ 1 → ⊥
no_method method.Aka e = omega (arith, e)
no_method method.Prime e = omega (arith, e)

-- no AKA-Identity packet
heard_none : (id : ℕ) (text bytes : List ℕ) (r : Reading) → bytes ≡ packet_text (identity_response id text) → IsReading bytes r → heard [] bytes r ≡ []
heard_none id text bytes (reading.Fault fault) e is = refl
heard_none id text bytes (reading.Read (packet.Success other)) e is = refl
heard_none id text bytes (reading.Read (packet.Failure other)) e is = refl
heard_none id text bytes (reading.Read (packet.Identity request other own)) e is = refl
heard_none id text bytes (reading.Read (packet.Aka request other m kind list)) e is =
    absurd (no_method m (sym (ap (λ (l : List ℕ). slice_index l 4) is.0.1.parts) ∙ ap (λ (l : List ℕ). slice_index l 4) e))

-- the text begins with the first letter of the one that was sent, if it isn't empty
pub first_letter : (id : ℕ) (text bytes : List ℕ) (r : Reading) → bytes ≡ packet_text (identity_response id text) → IsReading bytes r → (text_in r ≡ []) ⊎ (slice_index (text_in r) 0 ≡ slice_index text 0)
first_letter id text bytes (reading.Fault fault) e is = inl refl
first_letter id text bytes (reading.Read (packet.Success other)) e is = inl refl
first_letter id text bytes (reading.Read (packet.Failure other)) e is = inl refl
first_letter id text bytes (reading.Read (packet.Identity request other [])) e is = inl refl
first_letter id text bytes (reading.Read (packet.Identity request other (letter ∷ letters))) e is =
    inr (sym (ap (λ (l : List ℕ). slice_index l 5) is.0.parts) ∙ ap (λ (l : List ℕ). slice_index l 5) e)
first_letter id text bytes (reading.Read (packet.Aka request other m kind list)) e is =
    absurd (no_method m (sym (ap (λ (l : List ℕ). slice_index l 4) is.0.1.parts) ∙ ap (λ (l : List ℕ). slice_index l 4) e))

-- ---- its row

head_row : (o : ServerOptions) (set : Setting) (homes : List HomeRow) (seen : Seen) (said : Reply) (head : Option Head)
    → ((cause : Reason) × (on_head set homes (started o) seen said head ≡ row.Ignore cause)) ⊎ (on_head set homes (started o) seen said head ≡ on_first o set homes (text_in seen.reading))
head_row o set homes seen said None = inl (reason.NotForMe, refl)
head_row o set homes seen said (Some head) = by (not (head.code == 2) || not (head.id == 1)) (is_type 1 head.kind)
  where
    first : Row
    first = on_first o set homes (text_in seen.reading)

    by : (other own : Bool)
        → ((cause : Reason) × ((if other then row.Ignore reason.NotForMe else if not own then row.Ignore reason.OtherType else on_first o set homes (text_in seen.reading)) ≡ row.Ignore cause))
        ⊎ ((if other then row.Ignore reason.NotForMe else if not own then row.Ignore reason.OtherType else on_first o set homes (text_in seen.reading)) ≡ on_first o set homes (text_in seen.reading))
    by true own = inl (reason.NotForMe, refl)
    by false true = inr refl
    by false false = inl (reason.OtherType, refl)

-- it is ignored, or comes as some text
pub first_received : (o : ServerOptions) (set : Setting) (homes : List HomeRow) (seen : Seen) (said : Reply) (text : List ℕ) → IsReceived seen → seen.bytes ≡ packet_text (identity_response 1 text)
    → ((cause : Reason) × (server_row set homes (started o) seen said ≡ row.Ignore cause)) ⊎ Comes set homes (started o) seen said o state.AwaitIdentity (text_in seen.reading) 1 []
first_received o set homes seen said text received e = by (head_row o set homes seen said (head_at seen.bytes))
  where
    by : ((cause : Reason) × (server_row set homes (started o) seen said ≡ row.Ignore cause)) ⊎ (server_row set homes (started o) seen said ≡ on_first o set homes (text_in seen.reading))
        → ((cause : Reason) × (server_row set homes (started o) seen said ≡ row.Ignore cause)) ⊎ Comes set homes (started o) seen said o state.AwaitIdentity (text_in seen.reading) 1 []
    by (inl ignored) = inl ignored
    by (inr is) = inr (record {
      options_are = refl;
      id_is = refl;
      synced_is = refl;
      row_is = is;
      text_is = refl;
      heard_is = heard_none 1 text seen.bytes seen.reading e received.reads;
    })

-- ---- a turn after which no context is taken up

-- it sends nothing, or a state follows in which none is; what was taken up before stays
pub record Leaves (q : ServerEnd) (turn : ServerEnd × Turn ServerWhy) : Type 0 where
  pub same : resumed_of turn.0 ≡ resumed_of q
  pub passes : (sent_by turn.1.step ≡ None) ⊎ (is_past turn.0.state ≡ true)

leaves_vector : (realm : List ℕ) (q : ServerEnd) (sub n : ℕ) (v : Option Vector) (given : Option GivenNames) (notes : Notes) (checked : Bool) → Leaves q (challenged_with realm q sub n v given notes checked)
leaves_vector realm q sub n None given notes checked = record { same = refl; passes = inl refl }
leaves_vector realm q sub n (Some v) given notes checked = record { same = refl; passes = inr refl }

leaves_challenge : (set : Setting) (homes : List HomeRow) (q : ServerEnd) (sub : ℕ) (checked : Bool) (resynced : Option ResyncNote) (drawn : Option NumberNote) → Leaves q (challenged set homes q sub checked resynced drawn)
leaves_challenge set homes q sub checked resynced None = record { same = refl; passes = inl refl }
leaves_challenge set homes q sub checked resynced (Some (number.Drew n)) =
    leaves_vector set.realm q sub n (vector_at set q.options sub n) (names_given set homes q sub) (noted resynced (Some (number.Drew n))) checked
leaves_challenge set homes q sub checked resynced (Some (number.Exhausted w)) = record { same = refl; passes = inr refl }
leaves_challenge set homes q sub checked resynced (Some (number.Withheld n stop)) = record { same = refl; passes = inr refl }

pub leaves_ignored : (set : Setting) (homes : List HomeRow) (q : ServerEnd) (text : List ℕ) (packets : List (List ℕ)) (cause : Reason) (notes : Notes) → Leaves q (server_does set homes q text packets (row.Ignore cause) notes)
leaves_ignored set homes q text packets cause notes = record { same = refl; passes = inl refl }

-- a challenge, or a request for an identity for full authentication
pub leaves_full : (set : Setting) (homes : List HomeRow) (q : ServerEnd) (text : List ℕ) (packets : List (List ℕ)) (found : Option ℕ) (notes : Notes)
    → resumed_of q ≡ None → Leaves q (server_does set homes q text packets (challenge_or (row.Ask request.Fullauth) found) notes)
leaves_full set homes q text packets None notes none = record { same = sym none; passes = inr refl }
leaves_full set homes q text packets (Some sub) notes none =
    let l = leaves_challenge set homes (identified q text packets) sub false None notes.number in record { same = l.same; passes = l.passes }
