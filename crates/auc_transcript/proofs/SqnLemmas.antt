-- For the law of contexts: an SQN that a USIM accepts has 6 bytes, and its origin is none of those that were accepted before.
use Rattle.std.proofs.Common.{◌≡◌, ◌≢◌, ℕ, ◌/◌, ◌%◌, List, [], ◌∷◌, ◌++◌, length, take, Contains, Option, Some, None, refl, sym, ap, ◌∙◌, subst, arith}
use Rattle.std.specs.Option.{option_or}
use Rattle.std.proofs.lemmas.List.{length-take-le}
use Rattle.std.proofs.lemmas.List.Elements.{All-contains}
use Rattle.auc_aes.proofs.Facts.{length_xor}
use Rattle.auc_aes.specs.Bytes.{IsBlock}
use Rattle.auc_attr.specs.Grammar.{IsAttr, IsBody, Walks}
use Rattle.auc_attr.specs.Item.{item_of, items}
use Rattle.auc_attr.specs.Table.{row_of}
use Rattle.auc_attr.specs.declared.attr.Attr.{Attr}
use Rattle.auc_attr.specs.declared.attr.Attr.TheVariants as attr
use Rattle.auc_attr.specs.declared.table.Row.{Row as AttrRow}
use Rattle.auc_milenage.proofs.Facts.{f5_size}
use Rattle.auc_milenage.specs.Milenage.{f5}
use Rattle.auc_milenage.specs.declared.secret.Secret.{Secret}
use Rattle.auc_packet.specs.Received.{IsReading, IsReceived, Seen, attrs_in}
use Rattle.auc_packet.specs.declared.packet.Packet.TheVariants as packet
use Rattle.auc_packet.specs.declared.received.Reading.{Reading}
use Rattle.auc_packet.specs.declared.received.Reading.TheVariants as reading
use Rattle.auc_peer.specs.Rows.{peer_row}
use Rattle.auc_peer.specs.Subscription.{Subscription}
use Rattle.auc_peer.specs.Table.{origin_of, peer_does}
use Rattle.auc_peer.specs.Turn.{asked}
use Rattle.auc_peer.specs.declared.decrypted.Decrypted.{Decrypted}
use Rattle.auc_peer.specs.declared.peer.Challenge.{Challenge}
use Rattle.auc_peer.specs.declared.peer.Peer.{Peer}
use Rattle.auc_peer.specs.declared.rows.Row.{Row as PeerRow}
use Rattle.auc_peer.specs.declared.rows.Row.TheVariants as row
use Rattle.auc_reauth.specs.Device.{Keeps}
use Rattle.auc_request.specs.Request.{autn_of as autn_value, first_value}
use Rattle.auc_sqn.specs.Number.{ind_of, indices, seq_of, value_of}
use Rattle.auc_sqn.specs.Past.{Past, verdict_of}
use Rattle.auc_sqn.specs.declared.verdict.Verdict.TheVariants.{Fresh}
use Rattle.auc_subs.specs.declared.row.Row.{Row as SubscriberRow}
use Rattle.auc_usim.specs.Usim.{sqn_in}
use Rattle.auc_vector.specs.declared.notes.UsimNote.{UsimNote}
use Rattle.auc_vector.specs.declared.notes.UsimNote.TheVariants as usim
use Rattle.auc_world.specs.Given.{UsimNotes, past_of}
use Rattle.auc_world.proofs.Facts.{each_accepted_in_past}
use Rattle.auc_transcript.proofs.AcceptedLemmas.{fresh_not_old, old_from_past}
use Rattle.auc_transcript.proofs.EventLemmas.{challenged_note}
use Rattle.auc_transcript.proofs.HandedLemmas.{handed_is_read}

-- ---- AUTN as it was read

is_autn : (a : Attr) (w : List ℕ) → autn_value a ≡ Some w → a ≡ attr.Autn w
is_autn (attr.Autn v) w e = ap attr.Autn (some_is v w e)
  where
    some_is : (v w : List ℕ) → Some v ≡ Some w → v ≡ w
    some_is v w e = cc
is_autn (attr.Rand v) w e = absurd cc
is_autn (attr.Res v) w e = absurd cc
is_autn (attr.Auts v) w e = absurd cc
is_autn (attr.Padding v) w e = absurd cc
is_autn attr.PermanentIdReq w e = absurd cc
is_autn (attr.Mac v) w e = absurd cc
is_autn (attr.Notification n) w e = absurd cc
is_autn attr.AnyIdReq w e = absurd cc
is_autn (attr.Identity v) w e = absurd cc
is_autn attr.FullauthIdReq w e = absurd cc
is_autn (attr.Counter n) w e = absurd cc
is_autn attr.CounterTooSmall w e = absurd cc
is_autn (attr.NonceS v) w e = absurd cc
is_autn (attr.ClientErrorCode n) w e = absurd cc
is_autn (attr.KdfInput v) w e = absurd cc
is_autn (attr.Kdf n) w e = absurd cc
is_autn (attr.Iv v) w e = absurd cc
is_autn (attr.EncrData v) w e = absurd cc
is_autn (attr.NextPseudonym v) w e = absurd cc
is_autn (attr.NextReauthId v) w e = absurd cc
is_autn (attr.Checkcode v) w e = absurd cc
is_autn attr.ResultInd w e = absurd cc
is_autn (attr.Bidding d) w e = absurd cc
is_autn (attr.Skipped kind v) w e = absurd cc

-- the value of an AT_AUTN has 16 bytes
attr_sixteen : (seen bytes rest w : List ℕ) → IsAttr seen (item_of (attr.Autn w)) bytes rest → length w ≡ 16
unfolding row_of
attr_sixteen seen bytes rest w is = (subst (λ (r : AttrRow). IsBody r.shape is.body w) (some_row is.row _ (sym is.known)) is.value).0
  where
    some_row : (a b : AttrRow) → Some a ≡ Some b → a ≡ b
    some_row a b e = cc

list_sixteen : (seen bytes : List ℕ) (list : List Attr) (v : List ℕ) → Walks seen bytes (items list) None → first_value autn_value list ≡ Some v → length v ≡ 16
list_sixteen seen bytes [] v walks e = absurd cc
list_sixteen seen bytes (a ∷ list) v (rest, is, more) e = by (list_sixteen (seen ++ (item_of a).kind ∷ []) rest list v more) (autn_value a) refl
  where
    some_is : (x y : List ℕ) → Some x ≡ Some y → x ≡ y
    some_is x y e = cc

    by : (first_value autn_value list ≡ Some v → length v ≡ 16) → (o : Option (List ℕ)) → autn_value a ≡ o → length v ≡ 16
    by later None none = later (ap (λ o. option_or o (first_value autn_value list)) (sym none) ∙ e)
    by later (Some w) some =
        ap length (sym (some_is w v (ap (λ o. option_or o (first_value autn_value list)) (sym some) ∙ e)))
        ∙ attr_sixteen seen bytes rest w (subst (λ (x : Attr). IsAttr seen (item_of x) bytes rest) (is_autn a w some) is)

pub autn_sixteen : (bytes : List ℕ) (r : Reading) (v : List ℕ) → IsReading bytes r → first_value autn_value (attrs_in r) ≡ Some v → length v ≡ 16
autn_sixteen bytes (reading.Read (packet.Aka request id m s list)) v ((attrs, framed, reads), values) e = list_sixteen [] attrs list v reads.0 e
autn_sixteen bytes (reading.Read (packet.Identity request id text)) v is e = absurd cc
autn_sixteen bytes (reading.Read (packet.Success id)) v is e = absurd cc
autn_sixteen bytes (reading.Read (packet.Failure id)) v is e = absurd cc
autn_sixteen bytes (reading.Fault fault) v is e = absurd cc

-- ---- an accepted SQN

-- the SQN in an AUTN of 16 bytes
sqn_six : (s : Secret) (rand autn : List ℕ) → IsBlock s.k → IsBlock s.opc → length autn ≡ 16 → length (sqn_in s rand autn) ≡ 6
unfolding sqn_in
sqn_six s rand autn hk ho sixteen =
    let front : length (take 6 autn) ≡ 6 = length-take-le 6 autn (omega (arith, sixteen)) in
    length_xor (take 6 autn) (f5 s.k s.opc rand) (front ∙ sym (f5_size s.k s.opc rand hk ho)) ∙ front

no_note : (n : Option UsimNote) (sqn : List ℕ) → n ≡ None → n ≡ Some (usim.Accepted sqn) → ⊥
no_note n sqn e f = cc

one_sqn : (n x : Option UsimNote) (a b : List ℕ) → n ≡ x → x ≡ Some (usim.Accepted a) → n ≡ Some (usim.Accepted b) → a ≡ b
one_sqn n x a b e f g = cc

other_note : {X : Type 0} (n : Option UsimNote) (a : List ℕ) → n ≡ Some (usim.Sync a) → (b : List ℕ) → n ≡ Some (usim.Accepted b) → X
other_note n a e b f = absurd (let no : ⊥ = cc in no)

wrong_note : {X : Type 0} (n : Option UsimNote) → n ≡ Some usim.WrongMac → (b : List ℕ) → n ≡ Some (usim.Accepted b) → X
wrong_note n e b f = absurd (let no : ⊥ = cc in no)

-- an SQN that a turn's USIM accepts
row_six : (key : List ℕ) (s : Subscription) (home : SubscriberRow) (keeps : Keeps) (p : Peer) (seen : Seen) (r : PeerRow) (past : Past) (n : Option UsimNote) (inner : Decrypted) (sqn : List ℕ)
    → IsBlock s.secret.k → IsBlock s.secret.opc → ((c : Challenge) → asked r ≡ Some c → length c.autn ≡ 16) → UsimNotes s.secret home past (asked r) n
    → n ≡ (peer_does key s keeps p seen r n inner).1.notes.usim → n ≡ Some (usim.Accepted sqn) → length sqn ≡ 6
row_six key s home keeps p seen (row.Ignore cause) past n inner sqn hk ho sized is same e = absurd (no_note n sqn is e)
row_six key s home keeps p seen row.Again past n inner sqn hk ho sized is same e = absurd (no_note n sqn is e)
row_six key s home keeps p seen row.First past n inner sqn hk ho sized is same e = absurd (no_note n sqn is e)
row_six key s home keeps p seen (row.Identity kind) past n inner sqn hk ho sized is same e = absurd (no_note n sqn is e)
row_six key s home keeps p seen (row.Client cause) past n inner sqn hk ho sized is same e = absurd (no_note n sqn is e)
row_six key s home keeps p seen (row.Reject cause) past n inner sqn hk ho sized is same e = absurd (no_note n sqn is e)
row_six key s home keeps p seen (row.Notified code) past n inner sqn hk ho sized is same e = absurd (no_note n sqn is e)
row_six key s home keeps p seen row.Reauthentication past n inner sqn hk ho sized is same e = absurd (no_note n sqn is e)
row_six key s home keeps p seen row.Success past n inner sqn hk ho sized is same e = absurd (no_note n sqn is e)
row_six key s home keeps p seen (row.Failure cause) past n inner sqn hk ho sized is same e = absurd (no_note n sqn is e)
row_six key s home keeps p seen (row.Challenged c) past None inner sqn hk ho sized is same e = absurd is
row_six key s home keeps p seen (row.Challenged c) past (Some (usim.Sync a)) inner sqn hk ho sized is same e = other_note _ a refl sqn e
row_six key s home keeps p seen (row.Challenged c) past (Some usim.WrongMac) inner sqn hk ho sized is same e = wrong_note _ refl sqn e
row_six key s home keeps p seen (row.Challenged c) past (Some (usim.Accepted m)) inner sqn hk ho sized is same e =
    ap length (sym (one_sqn (Some (usim.Accepted m)) _ (sqn_in s.secret c.rand c.autn) sqn same (challenged_note key s keeps p seen c m inner) e))
    ∙ sqn_six s.secret c.rand c.autn hk ho (sized c refl)

pub turn_six : (key : List ℕ) (s : Subscription) (home : SubscriberRow) (keeps : Keeps) (p : Peer) (seen : Seen) (past : Past) (n : Option UsimNote) (inner : Decrypted) (sqn : List ℕ)
    → IsBlock s.secret.k → IsBlock s.secret.opc → IsReceived seen → UsimNotes s.secret home past (asked (peer_row p seen)) n
    → n ≡ (peer_does key s keeps p seen (peer_row p seen) n inner).1.notes.usim → n ≡ Some (usim.Accepted sqn) → length sqn ≡ 6
turn_six key s home keeps p seen past n inner sqn hk ho received is same e =
    row_six key s home keeps p seen (peer_row p seen) past n inner sqn hk ho
    (λ c asks. autn_sixteen seen.bytes seen.reading c.autn received.reads (handed_is_read p seen c asks).1) is same e

-- ---- origins

-- 6 bytes, taken apart
six_bytes : (xs : List ℕ) → length xs ≡ 6 → origin_of xs ≡ value_of xs
six_bytes (a ∷ b ∷ c ∷ d ∷ e ∷ f ∷ []) is = omega arith
six_bytes [] is = absurd (omega arith)
six_bytes (a ∷ []) is = absurd (omega arith)
six_bytes (a ∷ b ∷ []) is = absurd (omega arith)
six_bytes (a ∷ b ∷ c ∷ []) is = absurd (omega arith)
six_bytes (a ∷ b ∷ c ∷ d ∷ []) is = absurd (omega arith)
six_bytes (a ∷ b ∷ c ∷ d ∷ e ∷ []) is = absurd (omega arith)
six_bytes (a ∷ b ∷ c ∷ d ∷ e ∷ f ∷ g ∷ more) is = absurd (omega arith)

-- the origin of a fresh SQN is none of those of the SQNs that were accepted before
pub fresh_origin : (bits : ℕ) (age : Option ℕ) (opening : ℕ) (sqns : List (List ℕ)) (sqn x : List ℕ)
    → verdict_of age (past_of bits opening sqns) (seq_of bits sqn) (ind_of bits sqn) ≡ Fresh → length sqn ≡ 6 → Contains sqns x → length x ≡ 6 → origin_of x ≢ origin_of sqn
fresh_origin bits age opening sqns sqn x fresh six there was same =
    let past = past_of bits opening sqns in
    let value : value_of x ≡ value_of sqn = sym (six_bytes x was) ∙ same ∙ six_bytes sqn six in
    let pair : Contains past (value_of x / indices bits, value_of x % indices bits) =
    All-contains (λ (s : List ℕ). Contains past (seq_of bits s, ind_of bits s)) sqns x (each_accepted_in_past bits opening sqns) there in
    let own = subst (λ (v : ℕ). Contains past (v / indices bits, v % indices bits)) value pair in
    fresh_not_old age past (seq_of bits sqn) (ind_of bits sqn) fresh (old_from_past past (seq_of bits sqn) (ind_of bits sqn) own)
