-- For plain sessions: a server finds the subscriber whose permanent identity it receives.
use Rattle.std.proofs.Common.{◌≡◌, ◌≢◌, ℕ, zero, suc, ◌+◌, ◌/◌, ◌%◌, ◌<◌, ◌≤◌, ◌==◌, Bool, true, false, cond, if◌then◌else◌, ltb, List, [], ◌∷◌, ◌++◌, length, get_or, Option, Some, None, slice_get, refl, sym, ap, ◌∙◌, subst, arith, eq-eqb, length-append}
use Rattle.std.proofs.lemmas.Bool.{and_from, and_parts, eqb-true, le-ltb, lt-ltb, ltb-false, ltb-true, ne_eqb}
use Rattle.std.proofs.lemmas.List.{get_or_append_left, get_or_push, take_at}
use Rattle.std.proofs.lemmas.List.Sums.{position_or_len_is}
use Rattle.std.proofs.Math.Seq.{get_or-append_seam}
use Rattle.std.proofs.lemmas.Option.{get_or_from_slice_get, slice_get_within}
use Rattle.auc_memory.specs.Identity.{Identity as Imsi, IsIdentity, digits_of, last_digits}
use Rattle.auc_hmac.specs.declared.method.Method.{Method}
use Rattle.auc_hmac.specs.declared.method.Method.TheVariants as method
use Rattle.auc_ident.specs.Permanent.{permanent_in, permanent_text, up_to, username, with_realm}
use Rattle.auc_lines.specs.declared.part.Identity.{Identity}
use Rattle.auc_lines.specs.declared.part.Identity.TheVariants as identity
use Rattle.auc_peer.specs.Identities.{asked_text, context_or, first_text, full_name, full_text, held_text, pseudonym_or}
use Rattle.auc_peer.specs.Subscription.{Subscription, identity_text}
use Rattle.auc_reauth.specs.Device.{Keeps}
use Rattle.auc_reauth.specs.Store.{entry}
use Rattle.auc_reauth.specs.declared.context.Context.{Context}
use Rattle.auc_request.specs.declared.identities.IdentityRequest.{IdentityRequest}
use Rattle.auc_request.specs.declared.identities.IdentityRequest.TheVariants as request
use Rattle.auc_server.specs.Rows.{held_place, if_held, is_held, permanent_subscriber}
use Rattle.auc_subs.specs.Setting.{Setting}
use Rattle.auc_server.specs.declared.setting.HomeRow.{HomeRow}
use Rattle.auc_subs.specs.Subscriber.{AreSubscribers, IsRow, place_of, same_identity}
use Rattle.auc_subs.specs.declared.row.Row.{Row}
use Rattle.auc_world.proofs.PlainListLemmas.{position_is}
use Rattle.auc_world.proofs.PlainPacketLemmas.{Laws}
use Rattle.auc_record.proofs.Facts.{all_at}
use Rattle.auc_world.specs.Happened.{first_of}
use Rattle.auc_world.specs.Plain.{IsContext, IsOwnIdentity, IsPseudonym}

-- ---- the username

abbrev is_at : ℕ → Bool
is_at byte = byte == 64

pub length-last_digits : (count number : ℕ) → length (last_digits count number) ≡ count
length-last_digits zero number = refl
length-last_digits (suc count) number = omega (arith, length-append (last_digits count (number / 10)) ((48 + number % 10) ∷ []), length-last_digits count (number / 10))

-- no digit is `@`
no_digit_at : (count number k : ℕ) → k < count → is_at (get_or (last_digits count number) k 0) ≡ false
no_digit_at zero number k lt = absurd (omega arith)
no_digit_at (suc count) number k lt =
    let front = last_digits count (number / 10) in
    let digit = 48 + number % 10 in
    let long : length front ≡ count = length-last_digits count (number / 10) in
    by front digit long (ltb k count) refl (λ less. no_digit_at count (number / 10) k less)
  where
    below : (a b : ℕ) → ltb a b ≡ true → a < b
    below a b e = ltb-true a b e

    by : (front : List ℕ) (digit : ℕ) → length front ≡ count → (b : Bool) → ltb k count ≡ b → (k < count → is_at (get_or front k 0) ≡ false) → is_at (get_or (front ++ (48 + number % 10) ∷ []) k 0) ≡ false
    by front digit long true e before =
        let less = below k count e in ap is_at (get_or_append_left front ((48 + number % 10) ∷ []) 0 k (omega (arith, long, less))) ∙ before less
    by front digit long false e before =
        let last : length front ≡ k = omega (arith, long, ltb-false k count e, lt) in
        ap is_at (get_or_push front (48 + number % 10) 0 k last) ∙ ne_eqb (48 + number % 10) 64 (λ same. omega (arith, same))

-- the leading digit and the digits of an IMSI have none
no_at : (m : Method) (imsi : Imsi) (k : ℕ) → k < length (permanent_text m imsi) → is_at (get_or (permanent_text m imsi) k 0) ≡ false
no_at method.Aka imsi zero lt = refl
no_at method.Prime imsi zero lt = refl
no_at m imsi (suc k) lt = no_digit_at imsi.digits imsi.number k (omega (arith, lt, length-last_digits imsi.digits imsi.number))

-- the username of a permanent identity
pub username_is : (m : Method) (imsi : Imsi) (realm : List ℕ) → username (with_realm (permanent_text m imsi) realm) ≡ permanent_text m imsi
username_is m imsi [] =
    let text = permanent_text m imsi in
    let long = length text in
    let none = position_or_len_is is_at text long 0 (omega arith) (λ k lt. no_at m imsi k lt) (λ lt. absurd (omega (arith, lt))) in
    ap (λ (o : Option ℕ). up_to o text) (ap (λ (k : ℕ). cond (ltb k long) (Some k) None) none ∙ ap (λ (b : Bool). cond b (Some long) None) (le-ltb long long (omega arith)))
username_is m imsi (letter ∷ letters) =
    let text = permanent_text m imsi in
    let whole = text ++ 64 ∷ letter ∷ letters in
    let long : length whole ≡ length text + length (64 ∷ letter ∷ letters) = length-append text (64 ∷ letter ∷ letters) in
    let before : (k : ℕ) → k < length text → is_at (get_or whole k 0) ≡ false = λ k lt. ap is_at (get_or_append_left text (64 ∷ letter ∷ letters) 0 k lt) ∙ no_at m imsi k lt in
    let here : is_at (get_or whole (length text) 0) ≡ true = ap is_at (get_or-append_seam text 64 (letter ∷ letters) 0) in
    let first = position_or_len_is is_at whole (length text) 0 (omega (arith, long)) before (λ lt. here) in
    let within : length text < length whole = omega (arith, long) in
    ap (λ (o : Option ℕ). up_to o whole)
    (ap (λ (k : ℕ). cond (ltb k (length whole)) (Some k) None) first ∙ ap (λ (b : Bool). cond b (Some (length text)) None) (lt-ltb (length text) (length whole) within))
    ∙ take_at text (64 ∷ letter ∷ letters) (length text) refl

-- ---- sizes

pub realm_size : (text realm : List ℕ) → length (with_realm text realm) ≤ length text + 1 + length realm
realm_size text [] = omega arith
realm_size text (letter ∷ letters) = omega (arith, length-append text (64 ∷ letter ∷ letters))

permanent_size : (m : Method) (device : Subscription) → device.imsi.digits ≤ 15 → length device.realm ≤ 255 → length (identity_text m device) ≤ 1016
permanent_size m device few short =
    let digits : length (digits_of device.imsi) ≡ device.imsi.digits = length-last_digits device.imsi.digits device.imsi.number in
    omega (arith, realm_size (permanent_text m device.imsi) device.realm, digits, few, short)

full_size : (m : Method) (device : Subscription) (keeps : Keeps) → device.imsi.digits ≤ 15 → length device.realm ≤ 255 → IsPseudonym (entry m keeps.pseudonyms) → length (full_text m device keeps) ≤ 1016
full_size m device keeps few short is = by (entry m keeps.pseudonyms) is
  where
    by : (name : Option (List ℕ)) → IsPseudonym name → length (with_realm (pseudonym_or (permanent_text m device.imsi) name) device.realm) ≤ 1016
    by None is = permanent_size m device few short
    by (Some name) is = omega (arith, realm_size name device.realm, is, short)

held_size : (m : Method) (device : Subscription) (keeps : Keeps) → device.imsi.digits ≤ 15 → length device.realm ≤ 255 → IsPseudonym (entry m keeps.pseudonyms) → IsContext (entry m keeps.contexts)
    → length (held_text m device keeps) ≤ 1016
held_size m device keeps few short is has = by (entry m keeps.contexts) has
  where
    by : (c : Option Context) → IsContext c → length (with_realm (context_or (full_name m device keeps) c) device.realm) ≤ 1016
    by None has = full_size m device keeps few short is
    by (Some c) has = omega (arith, realm_size c.identity device.realm, has, short)

-- a device's identities fit AT_IDENTITY
pub first_size : (m : Method) (device : Subscription) (keeps : Keeps) (identity : Identity) → device.imsi.digits ≤ 15 → length device.realm ≤ 255 → IsPseudonym (entry m keeps.pseudonyms)
    → IsContext (entry m keeps.contexts) → IsOwnIdentity identity → length (first_text m device keeps (first_of identity)) ≤ 1016
first_size m device keeps identity.Held few short is has own = held_size m device keeps few short is has
first_size m device keeps identity.Permanent few short is has own = permanent_size m device few short
first_size m device keeps (identity.Text text) few short is has own = absurd own

pub asked_size : (m : Method) (device : Subscription) (keeps : Keeps) (kind : IdentityRequest) → device.imsi.digits ≤ 15 → length device.realm ≤ 255 → IsPseudonym (entry m keeps.pseudonyms)
    → IsContext (entry m keeps.contexts) → length (asked_text m device keeps kind) ≤ 1016
asked_size m device keeps request.Any few short is has = held_size m device keeps few short is has
asked_size m device keeps request.Fullauth few short is has = full_size m device keeps few short is
asked_size m device keeps request.Permanent few short is has = permanent_size m device few short

-- ---- the row

one_identity : (d e m n : ℕ) → d ≡ e → m ≡ n → ◌≡◌ {A = Imsi} (record { digits = d; number = m }) (record { digits = e; number = n })
one_identity d e m n same number = cc

not_same : (a b : Imsi) → a ≢ b → same_identity a b ≡ false
not_same a b differ = by (same_identity a b) refl
  where
    by : (t : Bool) → same_identity a b ≡ t → t ≡ false
    by true e =
        let (digits, number) = and_parts (a.digits == b.digits) (a.number == b.number) e in
        absurd (differ (one_identity a.digits b.digits a.number b.number (eqb-true a.digits b.digits digits) (eqb-true a.number b.number number)))
    by false e = refl

-- a subscriber is found by its IMSI
pub place_is : (rows : List Row) (sub : ℕ) (row : Row) → AreSubscribers rows → slice_get rows sub ≡ Some row → place_of rows row.imsi ≡ Some sub
place_is rows sub row subscribers there =
    let here = get_or_from_slice_get rows sub row row there in
    position_is (λ (r : Row). same_identity r.imsi row.imsi) rows sub row there
    (and_from (row.imsi.digits == row.imsi.digits) (row.imsi.number == row.imsi.number) (eq-eqb row.imsi.digits row.imsi.digits refl) (eq-eqb row.imsi.number row.imsi.number refl))
    (λ k lt. not_same (get_or rows k row).imsi row.imsi
    (subst (λ (r : Row). (get_or rows k row).imsi ≢ r.imsi) here (subscribers.differ k sub row lt (slice_get_within rows sub row there))))

-- and by its permanent identity with any realm, if it is held
pub permanent_is : Laws → (m : Method) (set : Setting) (homes : List HomeRow) (sub : ℕ) (row : Row) (device : Subscription) → AreSubscribers set.rows → slice_get set.rows sub ≡ Some row → device.imsi ≡ row.imsi
    → is_held homes sub ≡ true → permanent_subscriber m set homes (identity_text m device) ≡ Some sub
permanent_is laws m set homes sub row device subscribers there same held =
    let text = permanent_text m device.imsi in
    let is_row = all_at IsRow set.rows sub row subscribers.each there in
    let read : permanent_in m text ≡ Some device.imsi =
    (laws.permanent m text device.imsi (subst (λ (i : Imsi). IsIdentity i.digits i.number) (sym same) is_row.identity)).1 refl in
    ap (λ (t : List ℕ). held_place set.rows homes (permanent_in m t)) (username_is m device.imsi device.realm) ∙ ap (held_place set.rows homes) read
    ∙ ap (λ (i : Imsi). if_held homes (place_of set.rows i)) same ∙ ap (if_held homes) (place_is set.rows sub row subscribers there)
    ∙ ap (λ (b : Bool). if b then Some sub else None) held
