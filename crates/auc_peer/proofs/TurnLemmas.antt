-- For turns: equal peers at equal bytes, whose USIM answered alike, take one turn.
use Rattle.std.proofs.Common.{◌≡◌, ℕ, Bool, true, false, cond, not, List, [], Option, Some, None, Result, Ok, Err, refl, sym, ap, ◌∙◌, subst}
use Rattle.auc_attr.specs.declared.attr.Attr.{Attr}
use Rattle.auc_attr.specs.declared.refusal.AttrRefusal.{AttrRefusal}
use Rattle.auc_attr.specs.Item.{Item}
use Rattle.auc_attr.specs.Laws.{OneWalk}
use Rattle.auc_attr.specs.Value.{IsValueIn, value_of}
use Rattle.auc_packet.specs.Messages.{is_missing}
use Rattle.auc_packet.specs.Received.{Seen, OneReceived, attrs_in, is_sealed}
use Rattle.auc_packet.specs.declared.subtype.Subtype.TheVariants as subtype
use Rattle.auc_request.specs.Request.{Gives, Has, block_in, next_name, number_in}
use Rattle.auc_request.specs.declared.enclosed.Enclosed.{Enclosed}
use Rattle.auc_peer.specs.Asking.{answer_noted}
use Rattle.auc_peer.specs.Attributes.{checkcode}
use Rattle.auc_peer.specs.Laws.{EqualTurnsAreOne}
use Rattle.auc_peer.specs.declared.decrypted.Decrypted.{Decrypted}
use Rattle.auc_peer.specs.declared.decrypted.Decrypted.TheVariants as decrypted
use Rattle.auc_reauth.specs.Device.{Keeps}
use Rattle.auc_reauth.specs.declared.context.Context.{Context}
use Rattle.auc_peer.specs.Rows.{peer_row}
use Rattle.auc_peer.specs.Subscription.{Subscription}
use Rattle.auc_peer.specs.Table.{accepting, by_answer, client, context_of, disclosed, kept_by, keys_at, master_at, opened, own_code, peer_does, peer_step, resumed_by, resuming, with_inner}
use Rattle.auc_peer.specs.Turn.{Decryption, Decrypts, IsInner, decryption_by, decryption_made, decryption_resumed, inner_of}
use Rattle.auc_peer.specs.declared.peer.Challenge.{Challenge}
use Rattle.auc_peer.specs.Peer.{PeerEnd}
use Rattle.auc_peer.specs.declared.rows.Row.{Row}
use Rattle.auc_peer.specs.declared.rows.Row.TheVariants as row
use Rattle.auc_seal.specs.Checkcode.{differs}
use Rattle.auc_vector.specs.declared.why.PeerWhy.{PeerWhy}
use Rattle.auc_vector.specs.declared.why.PeerWhy.TheVariants as why
use Rattle.auc_seal.specs.Laws.{OneOpening}
use Rattle.auc_seal.specs.declared.refusal.SealRefusal.{SealRefusal}
use Rattle.auc_usim.specs.declared.answer.Answer.{Answer}
use Rattle.auc_usim.specs.declared.answer.Answer.TheVariants as answer
use Rattle.auc_vector.specs.declared.notes.UsimNote.{UsimNote}
use Rattle.auc_vector.specs.declared.notes.UsimNote.TheVariants as note
use Rattle.auc_vector.specs.declared.turn.Turn.{Turn}

ok_or_err : (bytes : List ℕ) (refused : SealRefusal) → ◌≡◌ {A = Result (List ℕ) SealRefusal} (Ok bytes) (Err refused) → ⊥
ok_or_err bytes refused e = cc

-- the value of a type has one answer
value_once : OneWalk → (kind : ℕ) (bytes : List ℕ) (x y : Option (List ℕ)) → IsValueIn kind bytes x → IsValueIn kind bytes y → x ≡ y
value_once walk kind bytes x y v w =
    let same = walk bytes v.0 w.0 v.1 w.1 v.2 w.2 in
    v.3 ∙ ap (λ (is : List Item). value_of kind v.1 is) same.0 ∙ ap (λ (end : Option AttrRefusal). value_of kind end w.0) same.1 ∙ sym w.3

-- and so has what is read from it
has_once : {X : Type 0} → OneWalk → (read : Option (List ℕ) → Option X) (kind : ℕ) (bytes other : List ℕ) (x y : Option X) → bytes ≡ other → Has read kind bytes x → Has read kind other y → x ≡ y
has_once walk read kind bytes other x y e g h =
    g.same ∙ ap read (value_once walk kind bytes g.value h.value g.there (subst (λ (t : List ℕ). IsValueIn kind t h.value) (sym e) h.there)) ∙ sym h.same

gives_once : OneWalk → (bytes other : List ℕ) (x y : Enclosed) → bytes ≡ other → Gives bytes x → Gives other y → x ≡ y
gives_once walk bytes other x y e g h =
    ap (λ (name : Option (List ℕ)). record { pseudonym = name; identity = x.identity; counter = x.counter; nonce = x.nonce }) (has_once walk next_name 132 bytes other x.pseudonym y.pseudonym e g.pseudonym h.pseudonym)
    ∙ ap (λ (name : Option (List ℕ)). record { pseudonym = y.pseudonym; identity = name; counter = x.counter; nonce = x.nonce }) (has_once walk next_name 133 bytes other x.identity y.identity e g.identity h.identity)
    ∙ ap (λ (k : Option ℕ). record { pseudonym = y.pseudonym; identity = y.identity; counter = k; nonce = x.nonce }) (has_once walk number_in 19 bytes other x.counter y.counter e g.counter h.counter)
    ∙ ap (λ (b : Option (List ℕ)). record { pseudonym = y.pseudonym; identity = y.identity; counter = y.counter; nonce = b }) (has_once walk block_in 21 bytes other x.nonce y.nonce e g.nonce h.nonce)

ok_same : (bytes other : List ℕ) → ◌≡◌ {A = Result (List ℕ) SealRefusal} (Ok bytes) (Ok other) → bytes ≡ other
ok_same bytes other e = cc

-- what a list has encrypted has one answer
inner_once : OneWalk → OneOpening → (k_encr : List ℕ) (list : List Attr) (b d : Decrypted) → IsInner k_encr list b → IsInner k_encr list d → b ≡ d
inner_once walk one k_encr list decrypted.Unreadable decrypted.Unreadable p q = refl
inner_once walk one k_encr list (decrypted.Attributes x) (decrypted.Attributes y) p q =
    ap (λ (t : Enclosed). decrypted.Attributes t) (gives_once walk p.0 q.0 x y (ok_same p.0 q.0 (one k_encr list (Ok p.0) (Ok q.0) p.1 q.1)) p.2 q.2)
inner_once walk one k_encr list (decrypted.Attributes x) decrypted.Unreadable p q = absurd (ok_or_err p.0 q.0 (one k_encr list (Ok p.0) (Err q.0) p.1 q.1))
inner_once walk one k_encr list decrypted.Unreadable (decrypted.Attributes y) p q = absurd (ok_or_err q.0 p.0 (one k_encr list (Ok q.0) (Err p.0) q.1 p.1))

-- what comes after two tests, if both were passed, depends on what was decrypted alone
picked : {T : Type 0} → OneWalk → OneOpening → (wrong other : Bool) (made : Decryption) (x y : T) (f : Decrypted → T) (b d : Decrypted)
    → Decrypts (cond wrong None (cond other None (Some made))) b → Decrypts (cond wrong None (cond other None (Some made))) d
    → cond wrong x (cond other y (f b)) ≡ cond wrong x (cond other y (f d))
picked walk one true other made x y f b d p q = refl
picked walk one false true made x y f b d p q = refl
picked walk one false false made x y f b d p q = ap f (inner_once walk one made.k_encr made.list b d p q)

answer_once : OneWalk → OneOpening → (p : PeerEnd) (seen : Seen) (c : Challenge) (a : Answer) (b d : Decrypted) → Decrypts (decryption_by p seen c a) b → Decrypts (decryption_by p seen c a) d
    → by_answer p seen c a b ≡ by_answer p seen c a d
answer_once walk one p seen c answer.WrongMac b d x y = refl
answer_once walk one p seen c (answer.SyncFailure auts sqn) b d x y = refl
answer_once walk one p seen c (answer.Accepted res ck ik ak amf sqn) b d x y =
    let keys = keys_at p seen c ik ck in
    picked {T = PeerEnd × Turn PeerWhy} walk one (not (is_sealed p.options.method keys.k_aut [] seen)) (differs (own_code p) (checkcode seen)) (record { k_encr = keys.k_encr; list = attrs_in seen.reading })
    (client p seen why.WrongMac (Some (note.Accepted sqn)) false) (client (accepting p seen c) seen why.WrongCheckcode (Some (note.Accepted sqn)) true)
    (λ (inner : Decrypted). opened (accepting p seen c) seen res sqn keys (master_at p seen c ik ck) inner) b d x y

-- the same of three tests
thrice : {T : Type 0} → OneWalk → OneOpening → (missing wrong other : Bool) (made : Decryption) (w x y : T) (f : Decrypted → T) (b d : Decrypted)
    → Decrypts (cond missing None (cond wrong None (cond other None (Some made)))) b → Decrypts (cond missing None (cond wrong None (cond other None (Some made)))) d
    → cond missing w (cond wrong x (cond other y (f b))) ≡ cond missing w (cond wrong x (cond other y (f d)))
thrice walk one true wrong other made w x y f b d p q = refl
thrice walk one false wrong other made w x y f b d p q = picked walk one wrong other made x y f b d p q

-- a Reauthentication
reauth_once : OneWalk → OneOpening → (key : List ℕ) (keeps : Keeps) (p : PeerEnd) (seen : Seen) (o : Option Context) (b d : Decrypted)
    → Decrypts (decryption_resumed p seen o) b → Decrypts (decryption_resumed p seen o) d → resumed_by key keeps p seen o b ≡ resumed_by key keeps p seen o d
reauth_once walk one key keeps p seen None b d x y = refl
reauth_once walk one key keeps p seen (Some c) b d x y =
    thrice {T = PeerEnd × Turn PeerWhy} walk one (is_missing subtype.Reauthentication true (attrs_in seen.reading)) (not (is_sealed p.options.method c.k_aut [] seen)) (differs (own_code p) (checkcode seen))
    (record { k_encr = c.k_encr; list = attrs_in seen.reading }) (client p seen why.Missing None false) (client p seen why.WrongMac None false) (client (resuming p c) seen why.WrongCheckcode None true)
    (λ (inner : Decrypted). disclosed key keeps (with_inner (resuming p c) inner) seen c inner) b d x y

-- what a row does depends on what was decrypted alone, and not on a decryption that it doesn't make
pub row_once : OneWalk → OneOpening → (key : List ℕ) (s : Subscription) (keeps : Keeps) (p : PeerEnd) (seen : Seen) (r : Row) (n : Option UsimNote) (b d : Decrypted) → Decrypts (decryption_made s keeps p seen r n) b → Decrypts (decryption_made s keeps p seen r n) d
    → peer_does key s keeps p seen r n b ≡ peer_does key s keeps p seen r n d
row_once walk one key s keeps p seen (row.Ignore cause) n b d x y = refl
row_once walk one key s keeps p seen row.Again n b d x y = refl
row_once walk one key s keeps p seen row.First n b d x y = refl
row_once walk one key s keeps p seen (row.Identity asked) n b d x y = refl
row_once walk one key s keeps p seen (row.Client cause) n b d x y = refl
row_once walk one key s keeps p seen (row.Reject cause) n b d x y = refl
row_once walk one key s keeps p seen (row.Notified code) n b d x y = refl
row_once walk one key s keeps p seen (row.Challenged c) None b d x y = refl
row_once walk one key s keeps p seen (row.Challenged c) (Some n) b d x y = answer_once walk one p seen c (answer_noted s.secret c n) b d x y
row_once walk one key s keeps p seen row.Reauthentication n b d x y = reauth_once walk one key keeps p seen (context_of keeps p) b d x y
row_once walk one key s keeps p seen row.Success n b d x y = refl
row_once walk one key s keeps p seen (row.Failure cause) n b d x y = refl

-- what a step decrypts
abbrev Did : Subscription → Keeps → PeerEnd → Seen → Option UsimNote → Decrypted → Type 0
Did s keeps p seen n inner = Decrypts (decryption_made s keeps p seen (peer_row p seen) n) inner

step_once : OneWalk → OneOpening → (key : List ℕ) (s : Subscription) (keeps : Keeps) (p : PeerEnd) (seen other : Seen) (n m : Option UsimNote) (b d : Decrypted) → seen ≡ other → n ≡ m → Did s keeps p seen n b → Did s keeps p other m d
    → peer_step key s keeps p seen n b ≡ peer_step key s keeps p other m d
step_once walk one key s keeps p seen other n m b d e f x y =
    let back : Did s keeps p seen n d = subst (λ (z : Seen). Did s keeps p z n d) (sym e) (subst (λ (k : Option UsimNote). Did s keeps p other k d) (sym f) y) in
    row_once walk one key s keeps p seen (peer_row p seen) n b d x back
    ∙ ap (λ (z : Seen). peer_step key s keeps p z n d) e ∙ ap (λ (k : Option UsimNote). peer_step key s keeps p other k d) f

-- equal turns are one
pub equal_turns : OneReceived → OneWalk → OneOpening → EqualTurnsAreOne
equal_turns received walk one key s keeps kept stored old new other bytes before left right turn another past remembers x y alike =
    let seen : x.seen ≡ y.seen = received x.seen y.seen (x.of ∙ sym y.of) x.received y.received in
    let same : ◌≡◌ {A = PeerEnd × Turn PeerWhy} (new, turn) (other, another) =
    x.same past remembers
    ∙ step_once walk one key s keeps old x.seen y.seen turn.notes.usim another.notes.usim (inner_of new) (inner_of other) seen alike (x.decrypts past remembers) (y.decrypts past remembers)
    ∙ sym (y.same past remembers) in (
      ap (λ (t : PeerEnd × Turn PeerWhy). t.0) same,
      ap (λ (t : PeerEnd × Turn PeerWhy). t.1) same,
      x.stored ∙ ap (λ (z : Seen). kept_by (peer_row old z) old turn.notes.counter keeps) seen
          ∙ ap (λ (t : PeerEnd × Turn PeerWhy). kept_by (peer_row old y.seen) old t.1.notes.counter keeps) same ∙ sym y.stored,
    )
