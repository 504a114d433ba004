-- For the crates that join the runs of several jobs: the lines of a job are a run of its network from its beginning, and the
-- numbers that it released are among those of its lines.
use Rattle.std.proofs.Common.{◌≡◌, ◌≢◌, ℕ, zero, suc, ◌+◌, ◌≤◌, ◌<◌, ◌==◌, Bool, true, false, cond, List, [], ◌∷◌, ◌++◌, length, get_or, Option, Some, None, All, AllPairs, slice_get, refl, sym, ap, ◌∙◌, subst, arith, inl, inr, append-nil}
use Rattle.std.specs.Prelude.{if◌then◌else◌, flat_map}
use Rattle.std.proofs.lemmas.Bool.{and_parts, cases_order, eq-eqb, eqb-true}
use Rattle.std.proofs.lemmas.List.Concat.{flat_map-append}
use Rattle.std.proofs.lemmas.List.Elements.{All-append, All-head, All-nil, All-tail}
use Rattle.std.proofs.lemmas.List.Quantifiers.{position-Some}
use Rattle.std.proofs.lemmas.Option.{get_or_from_slice_get, slice_get_within}
use Rattle.auc_memory.specs.Identity.{Identity}
use Rattle.auc_history.proofs.Facts.{AllPairs-cons, times-append, times-cons}
use Rattle.auc_history.specs.Split.{times}
use Rattle.auc_lines.specs.Part.{held_subs}
use Rattle.auc_lines.specs.declared.part.End.{End}
use Rattle.auc_lines.specs.declared.part.End.TheVariants as end
use Rattle.auc_lines.specs.declared.part.Line.{Line}
use Rattle.auc_lines.specs.declared.part.Line.TheVariants as line
use Rattle.auc_peer.specs.Subscription.{Subscription}
use Rattle.auc_released.specs.declared.numbers.Number.{Number}
use Rattle.auc_subs.specs.Subscriber.{AreSubscribers, same_identity}
use Rattle.auc_subs.specs.declared.row.Row.{Row}
use Rattle.auc_world.specs.Agreement.{AreReleasedOnce, AreSized, AreTold, DecryptsIn, Happening, HaveSecrets, IsRealm, Occurs, after, after_one}
use Rattle.auc_world.specs.Came.{Presented, came, presented_by}
use Rattle.auc_record.specs.Event.{asked_in, number_in}
use Rattle.auc_world.specs.Given.{Before, EventGives, IsUsimAsked, JobGives, LineGives, PlainGives, RelayGives, behind, packet_of}
use Rattle.auc_world.specs.Happened.{ToldEvent}
use Rattle.auc_record.specs.Lines.{numbers_of, released_by}
use Rattle.auc_world.specs.Net.{Net, other, place_with}
use Rattle.auc_subs.specs.Setting.{Setting}
use Rattle.auc_world.specs.Start.{Kept, start_of, subscription_at, subscription_by}
use Rattle.auc_record.specs.declared.event.Event.{Event}
use Rattle.auc_record.specs.declared.event.Event.TheVariants as event
use Rattle.auc_record.specs.declared.record.LineRecord.{LineRecord}
use Rattle.auc_record.specs.declared.record.LineRecord.TheVariants as record_of
use Rattle.auc_world.proofs.AgainHomeLemmas.{run_is_sized}
use Rattle.auc_world.proofs.AgainLemmas.{AgainOf, AllLaws}
use Rattle.auc_world.proofs.AgreementLemmas.{HoldsOf}
use Rattle.auc_world.proofs.JobLemmas.{event_number, moved_releases, number_of_line, numbers_in, of_sub, of_sub-append}
use Rattle.auc_world.proofs.RunLemmas.{unbroken_run_holds}

-- ---- runs

-- a number is of a subscriber that there is
abbrev pub IsKnown : Setting → Number → Type 0
IsKnown set x = x.sub < length set.rows

-- some lines of a job are a run of its network; what it released more stands in the lines
record Runs (set : Setting) (w next : Net) (lines : List LineRecord) : Type 0 where
  happenings : List Happening
  leads : next ≡ after set w happenings
  told : AreTold set w happenings
  counts : (sub n : ℕ) → times n (of_sub sub next.released) ≤ times n (of_sub sub w.released) + times n (numbers_of sub lines)
  known : All (IsKnown set) w.released → All (IsKnown set) next.released

after-append : (set : Setting) (w : Net) (hs gs : List Happening) → after set w (hs ++ gs) ≡ after set (after set w hs) gs
after-append set w [] gs = refl
after-append set w (h ∷ hs) gs = after-append set (after_one set w h) hs gs

told-append : (set : Setting) (w : Net) (hs gs : List Happening) → AreTold set w hs → AreTold set (after set w hs) gs → AreTold set w (hs ++ gs)
told-append set w [] gs first more = more
told-append set w (h ∷ hs) gs first more = (first.0, told-append set (after_one set w h) hs gs first.1 more)

-- lines that leave the network
stands : (set : Setting) (w next : Net) (lines : List LineRecord) → next ≡ w → Runs set w next lines
stands set w next lines is = record {
  happenings = [];
  leads = is;
  told = tt;
  counts = λ sub n. let same = ap (λ (v : Net). times n (of_sub sub v.released)) is in omega (arith, same);
  known = λ all. subst (λ (v : Net). All (IsKnown set) v.released) (sym is) all;
}

-- some lines after others
then_runs : (set : Setting) (w mid next : Net) (front rest : List LineRecord) → Runs set w mid front → Runs set mid next rest → Runs set w next (front ++ rest)
then_runs set w mid next front rest first more = record {
  happenings = first.happenings ++ more.happenings;
  leads = more.leads ∙ ap (λ (v : Net). after set v more.happenings) first.leads ∙ sym (after-append set w first.happenings more.happenings);
  told = told-append set w first.happenings more.happenings first.told (subst (λ (v : Net). AreTold set v more.happenings) first.leads more.told);
  counts = λ sub n.
      let cut = ap (times n) (flat_map-append (released_by sub) front rest) ∙ times-append n (numbers_of sub front) (numbers_of sub rest) in
      let here = first.counts sub n in
      let there = more.counts sub n in
      omega (arith, cut, here, there);
  known = λ all. more.known (first.known all);
}

-- what is told of the device that a packet reached
told_is : (set : Setting) (before : Before) (o : Option Presented) (told : ToldEvent) → IsUsimAsked set before o told → DecryptsIn told o
told_is set before None told is = tt
told_is set before (Some p) told is = is.decrypts

event_runs : (set : Setting) (before : Before) (w next : Net) (e : Event) (lines : List LineRecord) → EventGives set before w e lines next → Runs set w next lines
event_runs set before w next e lines gives =
    let result = came set w e gives.told in
    let releases = moved_releases set w e gives.told gives.centre in
    let grows : next.released ≡ w.released ++ numbers_in (event_number result) = ap (λ (v : Net). v.released) gives.leads ∙ releases.grows in
    record {
      happenings = Occurs e gives.told ∷ [];
      leads = gives.leads;
      told = (record { received = gives.received; decrypts = told_is set before (presented_by w e gives.told) gives.told gives.usim }, tt);
      counts = λ sub n.
          let cut = ap (λ (xs : List Number). times n (of_sub sub xs)) grows ∙ ap (times n) (of_sub-append sub w.released (numbers_in (event_number result)))
          ∙ times-append n (of_sub sub w.released) (of_sub sub (numbers_in (event_number result))) in
          let here = ap (times n) (number_of_line sub (asked_in result) (number_in result)) in
          let line = ap (λ (ls : List LineRecord). times n (numbers_of sub ls)) gives.lines_are
          ∙ ap (times n) (append-nil (released_by sub (record_of.Event (record { event = e; result = result })))) in
          omega (arith, cut, here, line);
      known = λ all. subst (All (IsKnown set)) (sym grows) (All-append (IsKnown set) w.released (numbers_in (event_number result)) all releases.known);
    }

relay_runs : (set : Setting) (before : Before) (w next : Net) (session : ℕ) (at' : End) (o : Option ℕ) (lines : List LineRecord) → RelayGives set before w session at' o lines next
    → Runs set w next lines
relay_runs set before w next session at' None [] gives = stands set w next [] gives
relay_runs set before w next session at' None (line ∷ lines) gives = absurd gives
relay_runs set before w next session at' (Some packet) [] gives = absurd gives
relay_runs set before w next session at' (Some packet) (line ∷ lines) (mid, first, more) =
    then_runs set w mid next (line ∷ []) lines (event_runs set before w mid (event.Deliver session at' packet) (line ∷ []) first)
    (relay_runs set (behind before (line ∷ [])) mid next session (other at') (packet_of line) lines more)

plain_runs : (set : Setting) (before : Before) (w next : Net) (session : ℕ) (lines : List LineRecord) → PlainGives set before w session lines next → Runs set w next lines
plain_runs set before w next session [] gives = absurd gives
plain_runs set before w next session (line ∷ lines) (mid, first, more) =
    then_runs set w mid next (line ∷ []) lines (event_runs set before w mid (event.Start session) (line ∷ []) first)
    (relay_runs set (behind before (line ∷ [])) mid next session end.Peer (packet_of line) lines more)

line_runs : (set : Setting) (before : Before) (w next : Net) (l : Line) (lines : List LineRecord) → LineGives set before w l lines next → Runs set w next lines
line_runs set before w next (line.Draw sub count) lines (gives, is) = stands set w next lines is
line_runs set before w next (line.Sync sub report count) lines (gives, is) = stands set w next lines is
line_runs set before w next (line.Give sub n) lines (gives, is) = stands set w next lines is
line_runs set before w next (line.Eps sub snid) lines (gives, is) = stands set w next lines is
line_runs set before w next (line.Fiveg l) lines (gives, is) = stands set w next lines is
line_runs set before w next (line.Sites l) lines (gives, is) = stands set w next lines is
line_runs set before w next (line.Sim l) lines (gives, is) = stands set w next lines is
line_runs set before w next (line.Session opening) lines gives = event_runs set before w next (event.Open opening) lines gives
line_runs set before w next (line.Start session) lines gives = event_runs set before w next (event.Start session) lines gives
line_runs set before w next (line.Deliver session at' packet) lines gives = event_runs set before w next (event.Deliver session at' packet) lines gives
line_runs set before w next (line.Repeat session) lines gives = event_runs set before w next (event.Repeat session) lines gives
line_runs set before w next (line.GiveUp session at') lines gives = event_runs set before w next (event.GiveUp session at') lines gives
line_runs set before w next (line.Plain session) lines gives = plain_runs set before w next session lines gives
line_runs set before w next (line.Tamper packet place byte) lines gives = event_runs set before w next (event.Tamper packet place byte) lines gives
line_runs set before w next (line.Cut packet count) lines gives = event_runs set before w next (event.Cut packet count) lines gives

lines_run : (set : Setting) (before : Before) (w last : Net) (job : List Line) (lines : List LineRecord) → JobGives set before w job lines last → Runs set w last lines
lines_run set before w last [] lines (none, is) = stands set w last lines is
lines_run set before w last (l ∷ job) lines (front, rest, next, cut, gives, more) =
    subst (Runs set w last) (sym cut) (then_runs set w next last front rest (line_runs set before w next l front gives) (lines_run set (behind before front) next last job rest more))

-- ---- the beginning of a job

-- a subscription is that of a row
pub record IsOfRow (set : Setting) (device : Subscription) : Type 0 where
  pub sub : ℕ
  pub row : Row
  pub there : slice_get set.rows sub ≡ Some row
  pub imsi : device.imsi ≡ row.imsi
  pub secret : device.secret ≡ row.secret

subscription_is : (set : Setting) (sub : ℕ) (o : Option Row) → slice_get set.rows sub ≡ o → All (IsOfRow set) (subscription_by set o)
subscription_is set sub None there = All-nil (IsOfRow set)
subscription_is set sub (Some row) there = λ k d inside. one k d inside
  where
    device : Subscription
    device = record { imsi = row.imsi; realm = set.realm; secret = row.secret }

    one : (k : ℕ) (d : Subscription) → k < 1 → IsOfRow set (get_or (device ∷ []) k d)
    one zero d inside = record { sub = sub; row = row; there = there; imsi = refl; secret = refl }
    one (suc k) d inside = absurd (omega arith)

subscriptions_are : (set : Setting) (subs : List ℕ) → All (IsOfRow set) (flat_map (subscription_at set) subs)
subscriptions_are set [] = All-nil (IsOfRow set)
subscriptions_are set (sub ∷ subs) =
    All-append (IsOfRow set) (subscription_at set sub) (flat_map (subscription_at set) subs) (subscription_is set sub (slice_get set.rows sub) refl) (subscriptions_are set subs)

identities : (a b c d : ℕ) → a ≡ c → b ≡ d → ◌≡◌ {A = Identity} (record { digits = a; number = b }) (record { digits = c; number = d })
identities a b c d e f = cc

same_of : (a b : Identity) → same_identity a b ≡ true → a ≡ b
same_of a b same =
    let (digits, number) = and_parts (a.digits == b.digits) (a.number == b.number) same in
    identities a.digits a.number b.digits b.number (eqb-true a.digits b.digits digits) (eqb-true a.number b.number number)

some_one : {X : Type 0} (o : Option X) (a b : X) → o ≡ Some a → o ≡ Some b → a ≡ b
some_one o a b e f = cc

-- rows with one identity are one
one_row : (rows : List Row) (i j : ℕ) (a b : Row) → AreSubscribers rows → slice_get rows i ≡ Some a → slice_get rows j ≡ Some b → a.imsi ≡ b.imsi → a ≡ b
one_row rows i j a b are there also same =
    let inside = slice_get_within rows i a there in
    let also_inside = slice_get_within rows j b also in
    elim (cases_order i j) [
      | inl equal ↦ some_one (slice_get rows j) a b (ap (slice_get rows) (sym equal) ∙ there) also
      | inr apart ↦ elim apart [
        | inl less ↦ absurd (are.differ i j a less also_inside
            (ap (λ (r : Row). r.imsi) (get_or_from_slice_get rows i a a there) ∙ same ∙ sym (ap (λ (r : Row). r.imsi) (get_or_from_slice_get rows j b a also))))
        | inr above ↦ absurd (are.differ j i a above inside
            (ap (λ (r : Row). r.imsi) (get_or_from_slice_get rows j b a also) ∙ sym same ∙ sym (ap (λ (r : Row). r.imsi) (get_or_from_slice_get rows i a a there))))
      ]
    ]

-- the devices with which a job begins have their subscribers' secrets
job_has_secrets : (set : Setting) (kept : List Kept) (job : List Line) → AreSubscribers set.rows → HaveSecrets set (start_of set kept job).devices
job_has_secrets set kept job are sub place device row found there known =
    let devices = flat_map (subscription_at set) (held_subs job) in
    let at' = ap (place_with devices) (sym known) ∙ found in
    let (inside, same, first) = position-Some (λ (d : Subscription). same_identity d.imsi row.imsi) devices place device at' in
    let is_device = get_or_from_slice_get devices place device device there in
    let of = subst (IsOfRow set) is_device (subscriptions_are set (held_subs job) place device inside) in
    let identity = same_of device.imsi row.imsi (subst (λ (d : Subscription). same_identity d.imsi row.imsi ≡ true) is_device same) in
    of.secret ∙ ap (λ (r : Row). r.secret) (one_row set.rows of.sub sub of.row row are of.there known (sym of.imsi ∙ identity))

-- ---- jobs

-- a network to which a job with some lines led
pub record IsOfJob (set : Setting) (net : Net) (lines : List LineRecord) : Type 0 where
  pub counts : (sub n : ℕ) → times n (of_sub sub net.released) ≤ times n (numbers_of sub lines)
  pub known : All (IsKnown set) net.released
  pub sized : AreSized net.homes
  pub holds : AreReleasedOnce set.rows net.released → net.broken ≡ None → HoldsOf set net × AgainOf set net

pub job_runs : AllLaws → (set : Setting) (before : Before) (kept : List Kept) (job : List Line) (lines : List LineRecord) (net : Net) → AreSubscribers set.rows → IsRealm set.realm
    → AreSized (start_of set kept job).homes → JobGives set before (start_of set kept job) job lines net → IsOfJob set net lines
job_runs laws set before kept job lines net are realm sized gives =
    let runs = lines_run set before (start_of set kept job) net job lines gives in
    record {
      counts = λ sub n. let all = runs.counts sub n in omega (arith, all);
      known = runs.known (All-nil (IsKnown set));
      sized = subst (λ (v : Net). AreSized v.homes) (sym runs.leads) (run_is_sized set (start_of set kept job) runs.happenings sized (record { packets = refl; sessions = refl }));
      holds = λ once unbroken. subst (λ (v : Net). HoldsOf set v × AgainOf set v) (sym runs.leads)
          (unbroken_run_holds laws set (start_of set kept job) runs.happenings are realm (job_has_secrets set kept job are) sized (record { packets = refl; sessions = refl }) runs.told
          (subst (λ (v : Net). AreReleasedOnce set.rows v.released) runs.leads once) (subst (λ (v : Net). v.broken ≡ None) runs.leads unbroken));
    }

-- ---- released once

-- a number of a list counts among its subscriber's
pub number_counts : (xs : List Number) (k : ℕ) (d : Number) → k < length xs → 1 ≤ times (get_or xs k d).n (of_sub (get_or xs k d).sub xs)
number_counts [] k d inside = absurd (omega arith)
number_counts (x ∷ xs) zero d inside = by (x.sub == x.sub) (eq-eqb x.sub x.sub refl)
  where
    by : (b : Bool) → b ≡ true → 1 ≤ times x.n ((if b then x.n ∷ [] else []) ++ of_sub x.sub xs)
    by true is =
        let cut = times-cons x.n x.n (of_sub x.sub xs) in
        let here = eq-eqb x.n x.n refl in
        let one : ◌≡◌ {A = ℕ} (cond (x.n == x.n) 1 0) 1 = rw here refl in omega (arith, cut, one)
    by false is = let bad : ⊥ = cc in absurd bad
number_counts (x ∷ xs) (suc k) d inside =
    let y = get_or xs k d in
    let cut = times-append y.n (if x.sub == y.sub then x.n ∷ [] else []) (of_sub y.sub xs) in
    let more = number_counts xs k d (omega arith) in
    omega (arith, cut, more)

-- numbers of which each counts at most once differ
pub counted_once : (xs : List Number) (P : Number → Type 0) → All P xs → ((x : Number) → P x → times x.n (of_sub x.sub xs) ≤ 1) → AllPairs ◌≢◌ xs
counted_once [] P all once = λ i j d less inside. absurd (omega arith)
counted_once (x ∷ xs) P all once =
    AllPairs-cons ◌≢◌ x xs
    (λ k d inside. λ same.
    let cut = times-append x.n (if x.sub == x.sub then x.n ∷ [] else []) (of_sub x.sub xs) in
    let head = itself (x.sub == x.sub) (eq-eqb x.sub x.sub refl) in
    let more = subst (λ (y : Number). 1 ≤ times y.n (of_sub y.sub xs)) (sym same) (number_counts xs k d inside) in
    let few = once x (All-head P x xs all) in
    omega (arith, cut, head, more, few))
    (counted_once xs P (All-tail P x xs all) (λ y is.
    let cut = times-append y.n (if x.sub == y.sub then x.n ∷ [] else []) (of_sub y.sub xs) in
    let few = once y is in
    omega (arith, cut, few)))
  where
    itself : (b : Bool) → b ≡ true → 1 ≤ times x.n (if b then x.n ∷ [] else [])
    itself true is =
        let cut = times-cons x.n x.n [] in
        let here = eq-eqb x.n x.n refl in
        let one : ◌≡◌ {A = ℕ} (cond (x.n == x.n) 1 0) 1 = rw here refl in omega (arith, cut, one)
    itself false is = let bad : ⊥ = cc in absurd bad
