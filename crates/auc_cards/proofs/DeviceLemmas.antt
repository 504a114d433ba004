-- For a job's own devices: whose they are, and where their USIMs are put back.
use Rattle.std.proofs.Common.{◌≡◌, ◌≢◌, ℕ, zero, suc, ◌<◌, ◌≤◌, ◌⊎◌, eqb, Bool, true, false, List, [], ◌∷◌, ◌++◌, length, drop, get_or, refl, sym, ◌∙◌, ap, subst, arith, inl, inr, eq-eqb}
use Rattle.std.specs.Prelude.{Option, Some, None, All, nat_eq, ◌==◌, ◌||◌, fold, flat_map, map, if◌then◌else◌, slice_get, slice_set}
use Rattle.std.specs.List.{list_any}
use Rattle.std.proofs.lemmas.Bool.{eqb-true}
use Rattle.std.proofs.lemmas.List.Folds.{list_any-append}
use Rattle.std.proofs.lemmas.Bool.Decides.{eqb_tells}
use Rattle.std.proofs.lemmas.List.{drop_all, length-set}
use Rattle.std.proofs.lemmas.List.Elements.{All-head, All-nil, All-push, All-tail}
use Rattle.auc_lines.specs.declared.part.Line.{Line}
use Rattle.auc_lines.specs.declared.part.Line.TheVariants as line
use Rattle.auc_lines.specs.Part.{held_by, held_subs, holds, is_held_by, is_that, with_held}
use Rattle.auc_peer.specs.declared.device.Device.{Device}
use Rattle.auc_subs.specs.Setting.{Setting}
use Rattle.auc_server.specs.declared.setting.HomeRow.{HomeRow}
use Rattle.auc_subs.specs.declared.row.Row.{Row}
use Rattle.auc_usim.specs.Usim.{Memory}
use Rattle.auc_cards.specs.Known.{IsKnownLine}
use Rattle.auc_cards.specs.Devices.{devices_of, device_of, home_of, usim_among, usim_in}
use Rattle.auc_cards.specs.Stores.{Kept, kept_now, put_back}
use Rattle.auc_cards.specs.Usims.{put_at, ArePut}

-- ---- whose they are

-- the test of a number is the same from both sides
same_test : (a b : ℕ) → eqb a b ≡ eqb b a
same_test a b = by (eqb_tells a b)
  where
    by : ((eqb a b ≡ true) × (a ≡ b)) ⊎ ((eqb a b ≡ false) × (a ≢ b)) → eqb a b ≡ eqb b a
    by (inl (e, same)) = e ∙ sym (eq-eqb b a (sym same))
    by (inr (e, other)) = e ∙ sym (no (eqb_tells b a))
      where
        no : ((eqb b a ≡ true) × (b ≡ a)) ⊎ ((eqb b a ≡ false) × (b ≢ a)) → eqb b a ≡ false
        no (inl (f, same)) = absurd (other (sym same))
        no (inr (f, not)) = f

any_same : (sub : ℕ) (subs : List ℕ) → list_any (nat_eq sub) subs ≡ list_any (λ other. other == sub) subs
any_same sub [] = refl
any_same sub (s ∷ subs) = rw (same_test sub s, any_same sub subs) refl

-- a subscriber is put among them
pub inserted : (sub : ℕ) (subs : List ℕ) → (if list_any (nat_eq sub) subs then subs else subs ++ sub ∷ []) ≡ with_held subs (Some sub)
inserted sub subs = ap (λ (b : Bool). if b then subs else subs ++ sub ∷ []) (any_same sub subs)

-- a subscriber, if there is one, is one of so many
abbrev IsFew : ℕ → Option ℕ → Type 0
IsFew count None = Unit {0}
IsFew count (Some sub) = sub < count

-- each of them is one of so many, if the lines are known
held_known : (count : ℕ) (subs : List ℕ) (o : Option ℕ) → IsFew count o → All (λ sub. sub < count) subs → All (λ sub. sub < count) (with_held subs o)
held_known count subs None few all = all
held_known count subs (Some sub) few all = by (list_any (λ other. other == sub) subs)
  where
    by : (b : Bool) → All (λ s. s < count) (if b then subs else subs ++ sub ∷ [])
    by true = all
    by false = All-push (λ s. s < count) subs sub all few

line_few : (rows : List Row) (l : Line) → IsKnownLine rows l → IsFew (length rows) (held_by l)
line_few rows (line.Draw sub n) known = tt
line_few rows (line.Sync sub report n) known = tt
line_few rows (line.Give sub n) known = known.0
line_few rows (line.Eps sub snid) known = tt
line_few rows (line.Fiveg fiveg) known = known.sub
line_few rows (line.Sites sites) known = tt
line_few rows (line.Sim sim) known = tt
line_few rows (line.Session opening) known = known.0
line_few rows (line.Start session) known = tt
line_few rows (line.Deliver session at' packet) known = tt
line_few rows (line.Repeat session) known = tt
line_few rows (line.GiveUp session at') known = tt
line_few rows (line.Plain session) known = tt
line_few rows (line.Tamper packet place byte) known = tt
line_few rows (line.Cut packet length) known = tt

held_from : (rows : List Row) (subs : List ℕ) (job : List Line) → All (IsKnownLine rows) job → All (λ sub. sub < length rows) subs
    → All (λ sub. sub < length rows) (fold (λ have l. with_held have (held_by l)) subs job)
held_from rows subs [] known all = all
held_from rows subs (l ∷ job) known all =
    held_from rows (with_held subs (held_by l)) job (All-tail (IsKnownLine rows) l job known)
    (held_known (length rows) subs (held_by l) (line_few rows l (All-head (IsKnownLine rows) l job known)) all)

pub helds_known : (rows : List Row) (job : List Line) → All (IsKnownLine rows) job → All (λ sub. sub < length rows) (held_subs job)
helds_known rows job known = held_from rows [] job known (All-nil (λ sub. sub < length rows))

-- ---- put back

-- what is left of a list from a place on
pub drop_from : {X : Type 0} (xs : List X) (k : ℕ) (x : X) → slice_get xs k ≡ Some x → drop k xs ≡ x ∷ drop (suc k) xs
drop_from [] k x there = absurd (cc)
drop_from (y ∷ xs) zero x there = cc
drop_from (y ∷ xs) (suc k) x there = drop_from xs k x there

drop_past : {X : Type 0} (xs : List X) (k : ℕ) → slice_get xs k ≡ None → drop k xs ≡ []
drop_past [] zero there = refl
drop_past [] (suc k) there = refl
drop_past (y ∷ xs) zero there = absurd (cc)
drop_past (y ∷ xs) (suc k) there = drop_past xs k there

-- what a place of a list has
pub some_at : {X : Type 0} (xs : List X) (i : ℕ) → i < length xs → (x : X) × (slice_get xs i ≡ Some x)
some_at [] i lt = absurd (omega arith)
some_at (x ∷ xs) zero lt = (x, refl)
some_at (x ∷ xs) (suc i) lt = some_at xs i (omega arith)

pub at_within : {X : Type 0} (xs : List X) (k : ℕ) (d : X) → k < length xs → slice_get xs k ≡ Some (get_or xs k d)
at_within [] k d lt = absurd (omega arith)
at_within (y ∷ xs) zero d lt = refl
at_within (y ∷ xs) (suc k) d lt = at_within xs k d (omega arith)

-- what a place has after an element was set
get-set_same : {X : Type 0} (xs : List X) (i : ℕ) (x : X) → i < length xs → slice_get (slice_set xs i x) i ≡ Some x
get-set_same [] i x lt = absurd (omega arith)
get-set_same (y ∷ xs) zero x lt = refl
get-set_same (y ∷ xs) (suc i) x lt = get-set_same xs i x (omega arith)

get-set_other : {X : Type 0} (xs : List X) (i k : ℕ) (x : X) → i ≢ k → slice_get (slice_set xs i x) k ≡ slice_get xs k
get-set_other [] i k x other = refl
get-set_other (y ∷ xs) zero zero x other = absurd (other refl)
get-set_other (y ∷ xs) zero (suc k) x other = refl
get-set_other (y ∷ xs) (suc i) zero x other = refl
get-set_other (y ∷ xs) (suc i) (suc k) x other = get-set_other xs i k x (λ e. other (omega arith))

-- nothing is put where there are no devices
no_devices : (homes : List HomeRow) (sub : ℕ) → usim_among homes [] sub ≡ None
no_devices [] sub = refl
no_devices (home ∷ homes) sub = refl

pub put_first : (old : List Memory) (homes : List HomeRow) (devices : List Device) (n k : ℕ) → n ≡ length homes → ArePut old (usim_among (drop n homes) (drop n devices)) old
put_first old homes devices n k is =
    subst (λ (hs : List HomeRow). ArePut old (usim_among hs (drop n devices)) old) (sym (ap (λ (m : ℕ). drop m homes) is ∙ drop_all (length homes) homes (omega arith)))
    (record { sizes = refl; each = λ sub inside. refl })

-- a USIM is put
put_one : (old mid new : List Memory) (homes : List HomeRow) (devices : List Device) (home : HomeRow) (device : Device) → new ≡ slice_set mid home.sub device.usim
    → ArePut old (usim_among homes devices) mid → ArePut old (usim_among (home ∷ homes) (device ∷ devices)) new
put_one old mid new homes devices home device is put = record {
  sizes = ap (λ (us : List Memory). length us) is ∙ length-set mid home.sub device.usim ∙ put.sizes;
  each = λ sub inside. ap (λ (us : List Memory). slice_get us sub) is ∙ by sub inside (eqb_tells home.sub sub);
}
  where
    by : (sub : ℕ) → sub < length old → ((eqb home.sub sub ≡ true) × (home.sub ≡ sub)) ⊎ ((eqb home.sub sub ≡ false) × (home.sub ≢ sub))
        → slice_get (slice_set mid home.sub device.usim) sub ≡ put_at (if eqb home.sub sub then Some device.usim else usim_among homes devices sub) (slice_get old sub)
    by sub inside (inl (e, same)) =
        let size = put.sizes in
        rw e (subst (λ (s : ℕ). slice_get (slice_set mid home.sub device.usim) s ≡ Some device.usim) same (get-set_same mid home.sub device.usim (omega (arith, inside, same, size))))
    by sub inside (inr (e, other)) = rw e (get-set_other mid home.sub sub device.usim other ∙ put.each sub inside)

pub put_some : (old mid new : List Memory) (homes : List HomeRow) (devices : List Device) (left k : ℕ) (home : HomeRow) (device : Device) → left ≡ suc k
    → slice_get homes k ≡ Some home → slice_get devices k ≡ Some device → new ≡ slice_set mid home.sub device.usim
    → ArePut old (usim_among (drop left homes) (drop left devices)) mid → ArePut old (usim_among (drop k homes) (drop k devices)) new
put_some old mid new homes devices left k home device next at there is put =
    subst (λ (hs : List HomeRow). ArePut old (usim_among hs (drop k devices)) new) (sym (drop_from homes k home at))
    (subst (λ (ds : List Device). ArePut old (usim_among (home ∷ drop (suc k) homes) ds) new) (sym (drop_from devices k device there))
    (put_one old mid new (drop (suc k) homes) (drop (suc k) devices) home device is
    (subst (λ (n : ℕ). ArePut old (usim_among (drop n homes) (drop n devices)) mid) next put)))

-- none is
pub put_none : (old mid : List Memory) (homes : List HomeRow) (devices : List Device) (left k : ℕ) → left ≡ suc k
    → slice_get devices k ≡ None → ArePut old (usim_among (drop left homes) (drop left devices)) mid → ArePut old (usim_among (drop k homes) (drop k devices)) mid
put_none old mid homes devices left k next none put = record {
  sizes = put.sizes;
  each = λ sub inside. put.each sub inside ∙ ap (λ (m : Option Memory). put_at m (slice_get old sub))
      (ap (λ (ds : List Device). usim_among (drop left homes) ds sub) (drop_past devices left (past devices k none next)) ∙ no_devices (drop left homes) sub
      ∙ sym (ap (λ (ds : List Device). usim_among (drop k homes) ds sub) (drop_past devices k none) ∙ no_devices (drop k homes) sub));
}
  where
    past : {X : Type 0} (xs : List X) (i : ℕ) → slice_get xs i ≡ None → left ≡ suc i → slice_get xs left ≡ None
    past [] i nothing e = refl
    past (x ∷ xs) i nothing e = further (x ∷ xs) i nothing e
      where
        after : {Y : Type 0} (ys : List Y) (i : ℕ) → slice_get ys i ≡ None → slice_get ys (suc i) ≡ None
        after [] i nothing = refl
        after (y ∷ ys) zero nothing = absurd (cc)
        after (y ∷ ys) (suc i) nothing = after ys i nothing

        further : {Y : Type 0} (ys : List Y) (i : ℕ) → slice_get ys i ≡ None → left ≡ suc i → slice_get ys left ≡ None
        further ys i nothing e = subst (λ (n : ℕ). slice_get ys n ≡ None) (sym e) (after ys i nothing)

-- there is nothing past the end of a list
pub none_past : {X : Type 0} (xs : List X) (k : ℕ) → length xs ≤ k → slice_get xs k ≡ None
none_past [] k past = refl
none_past (x ∷ xs) zero past = absurd (omega arith)
none_past (x ∷ xs) (suc k) past = none_past xs k (omega arith)

-- ---- the USIMs with which a job begins

-- whether a subscriber is among some after one was put there
with_one : (sub : ℕ) (subs : List ℕ) (o : Option ℕ) → list_any (λ s. s == sub) (with_held subs o) ≡ (list_any (λ s. s == sub) subs || is_that sub o)
with_one sub subs None = sym (or_none (list_any (λ s. s == sub) subs))
  where
    or_none : (b : Bool) → (b || false) ≡ b
    or_none true = refl
    or_none false = refl
with_one sub subs (Some other) = by (list_any (λ s. s == other) subs) refl
  where
    right : (b c : Bool) → (b || (c || false)) ≡ (b || c)
    right true c = refl
    right false true = refl
    right false false = refl

    kept : (any that : Bool) → (that ≡ true → any ≡ true) → any ≡ (any || that)
    kept true that same = refl
    kept false true same = same refl
    kept false false same = refl

    by : (b : Bool) → list_any (λ s. s == other) subs ≡ b → list_any (λ s. s == sub) (if b then subs else subs ++ other ∷ []) ≡ (list_any (λ s. s == sub) subs || (other == sub))
    by true e = kept (list_any (λ s. s == sub) subs) (other == sub) (λ is. subst (λ (n : ℕ). list_any (λ s. s == n) subs ≡ true) (eqb-true other sub is) e)
    by false e = list_any-append (λ s. s == sub) subs (other ∷ []) ∙ right (list_any (λ s. s == sub) subs) (other == sub)

held_in : (sub : ℕ) (subs : List ℕ) (job : List Line)
    → list_any (λ s. s == sub) (fold (λ have l. with_held have (held_by l)) subs job) ≡ (list_any (λ s. s == sub) subs || holds sub job)
held_in sub subs [] = sym (or_none (list_any (λ s. s == sub) subs))
  where
    or_none : (b : Bool) → (b || false) ≡ b
    or_none true = refl
    or_none false = refl
held_in sub subs (l ∷ job) =
    held_in sub (with_held subs (held_by l)) job ∙ ap (λ (b : Bool). b || holds sub job) (with_one sub subs (held_by l))
    ∙ assoc (list_any (λ s. s == sub) subs) (is_held_by sub l) (holds sub job)
  where
    assoc : (a b c : Bool) → ((a || b) || c) ≡ (a || (b || c))
    assoc true b c = refl
    assoc false b c = refl

-- a job holds the USIMs of these, and no others
pub holds_held : (sub : ℕ) (job : List Line) → list_any (λ s. s == sub) (held_subs job) ≡ holds sub job
holds_held sub job = held_in sub [] job

-- a subscriber's device is found by its place
pub devices_found : (set : Setting) (usims : List Memory) (kept : List Kept) (subs : List ℕ) (sub : ℕ) → length usims ≡ length set.rows → All (λ s. s < length set.rows) subs
    → usim_in (devices_of set usims kept subs) sub ≡ (if list_any (λ s. s == sub) subs then slice_get usims sub else None)
devices_found set usims kept [] sub size known = refl
devices_found set usims kept (s ∷ subs) sub size known =
    let inside = All-head (λ (n : ℕ). n < length set.rows) s subs known in
    let row = some_at set.rows s inside in
    let usim = some_at usims s (omega (arith, inside, size)) in
    by row.0 usim.0 row.1 usim.1 (devices_found set usims kept subs sub size (All-tail (λ (n : ℕ). n < length set.rows) s subs known)) (eqb_tells s sub)
  where
    by : (row : Row) (usim : Memory) → slice_get set.rows s ≡ Some row → slice_get usims s ≡ Some usim
        → usim_in (devices_of set usims kept subs) sub ≡ (if list_any (λ n. n == sub) subs then slice_get usims sub else None)
        → ((eqb s sub ≡ true) × (s ≡ sub)) ⊎ ((eqb s sub ≡ false) × (s ≢ sub))
        → usim_among (home_of kept s ∷ map (home_of kept) subs) (device_of set usims kept s ++ flat_map (device_of set usims kept) subs) sub
        ≡ (if eqb s sub || list_any (λ n. n == sub) subs then slice_get usims sub else None)
    by row usim at there rest (inl (e, same)) = rw (at, there, e) (sym there ∙ ap (slice_get usims) same)
    by row usim at there rest (inr (e, other)) = rw (at, there, e) rest

-- ---- what homes and devices keep is put back

pub nothing_back : (old : List Kept) (homes : List HomeRow) (devices : List Device) (n : ℕ) → n ≡ length homes → old ≡ put_back old (drop n homes) (drop n devices)
nothing_back old homes devices n is =
    sym (ap (λ (hs : List HomeRow). put_back old hs (drop n devices)) (ap (λ (m : ℕ). drop m homes) is ∙ drop_all (length homes) homes (omega arith)))

pub some_back : (old mid new : List Kept) (homes : List HomeRow) (devices : List Device) (left k : ℕ) (home : HomeRow) (device : Device) → left ≡ suc k
    → slice_get homes k ≡ Some home → slice_get devices k ≡ Some device → new ≡ slice_set mid home.sub (kept_now home device)
    → mid ≡ put_back old (drop left homes) (drop left devices) → new ≡ put_back old (drop k homes) (drop k devices)
some_back old mid new homes devices left k home device next at there is put =
    is ∙ ap (λ (m : List Kept). slice_set m home.sub (kept_now home device)) (put ∙ ap (λ (n : ℕ). put_back old (drop n homes) (drop n devices)) next)
    ∙ sym (ap (λ (hs : List HomeRow). put_back old hs (drop k devices)) (drop_from homes k home at)
    ∙ ap (λ (ds : List Device). put_back old (home ∷ drop (suc k) homes) ds) (drop_from devices k device there))

none_back : (old : List Kept) (homes : List HomeRow) → put_back old homes [] ≡ old
none_back old [] = refl
none_back old (home ∷ homes) = refl

gone : {X : Type 0} (xs : List X) (k : ℕ) → slice_get xs k ≡ None → slice_get xs (suc k) ≡ None
gone [] k none = refl
gone (x ∷ xs) zero none = absurd (cc)
gone (x ∷ xs) (suc k) none = gone xs k none

pub same_back : (old mid : List Kept) (homes : List HomeRow) (devices : List Device) (left k : ℕ) → left ≡ suc k → slice_get devices k ≡ None
    → mid ≡ put_back old (drop left homes) (drop left devices) → mid ≡ put_back old (drop k homes) (drop k devices)
same_back old mid homes devices left k next none put =
    put ∙ ap (λ (n : ℕ). put_back old (drop n homes) (drop n devices)) next
    ∙ ap (λ (ds : List Device). put_back old (drop (suc k) homes) ds) (drop_past devices (suc k) (gone devices k none)) ∙ none_back old (drop (suc k) homes)
    ∙ sym (ap (λ (ds : List Device). put_back old (drop k homes) ds) (drop_past devices k none) ∙ none_back old (drop k homes))
