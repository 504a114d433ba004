-- What holds since a round began, after a limit was reserved: for the keeper.
use Rattle.std.proofs.Common.{◌≡◌, ◌≢◌, ℕ, zero, suc, ◌+◌, ◌*◌, ◌≤◌, ◌<◌, List, [], ◌∷◌, ◌++◌, All, get_or, length, ◌↔◌, refl, sym, ◌∙◌, ap, subst, arith, true≢false}
use Rattle.std.specs.Prelude.{AllPairs, Bool, true, false, map, ◌^◌, slice_index, slice_set, Option, Some, None, Result, Ok, Err}
use Rattle.std.proofs.lemmas.List.{length-map}
use Rattle.std.proofs.lemmas.List.Elements.{All-cons, All-nil}
use Rattle.auc_memory.specs.Faults.{Rose}
use Rattle.auc_memory.specs.Identity.{Identity}
use Rattle.auc_memory.specs.declared.stop.Stop.{Stop}
use Rattle.auc_memory.specs.declared.stop.Stop.TheVariants.{Fault, Full}
use Rattle.auc_draw.specs.Values.{KeeperValue}
use Rattle.auc_journal.specs.declared.append_refusal.AppendRefusal.{AppendRefusal}
use Rattle.auc_journal.specs.declared.append_refusal.AppendRefusal.TheVariants.{StoreFault, StoreFull}
use Rattle.auc_journal.specs.Image.{Frame, reserved_in}
use Rattle.auc_journal.specs.Durable.{Admits, AdmitsAll, IsDurable, IsTold}
use Rattle.auc_journal.specs.Journal.{JournalState, frame_for, frames_for, imsi_at, limits_of, reserved_at}
use Rattle.auc_journal.specs.Limits.{AreLimits}
use Rattle.auc_journal.specs.Settled.{IsAppendingAll, IsSettled, LeavesOnly}
use Rattle.auc_journal.proofs.Facts.{durable_more, limits_at, limits_raised, reserved-append}
use Rattle.auc_keeper.specs.Keeper.{IsAbove, IsLeft, KeeperState, MayRise, Since, set_all}
use Rattle.auc_keeper.proofs.GroupLemmas.{AreApart, admits_group, limits_set, reserved_none, set_own}
use Rattle.auc_keeper.proofs.MomentLemmas.{append_left, begins_left, leaves_less, left_more}

none_some : (stop : Option Stop) (why : Stop) → stop ≡ None → stop ≡ Some why → ⊥
none_some stop why none some = cc

pub ok_err : {T E : Type 0} (result : Result T E) (value : T) (why : E) → result ≡ Ok value → result ≡ Err why → ⊥
ok_err result value why ok err = cc

-- after an append that succeeded, none has failed
pub not_failed : {T E : Type 0} (failed : Bool) (result : Result T E) (value : T) (why : E) → result ≡ Ok value → ((failed ≡ true) ↔ (result ≡ Err why)) → failed ≡ false
not_failed true result value why ok both = absurd (ok_err result value why ok (both.0 refl))
not_failed false result value why ok both = refl

-- a bound above the number words is one for a subscriber's limit
near_own : (own imsis : List Identity) (seen : List ℕ) (most more : Identity → ℕ) (limit sub : ℕ) → own ≡ imsis → IsAbove imsis seen most more → sub < length own → limit ≤ slice_index seen sub + 64 → limit ≤ more (imsi_at own sub)
near_own own imsis seen most more limit sub same above there near =
    let high = above.admits sub (subst (λ (l : List Identity). sub < length l) same there) in
    omega (arith, near, high, ap (λ (l : List Identity). more (imsi_at l sub)) same)

some_stop : (a b : Stop) → Some a ≡ Some b → a ≡ b
some_stop a b same = cc

-- a refusal that is no fault is full
pub full_place : (refusal : AppendRefusal) (place : ℕ) → refusal ≢ StoreFault → ((len : ℕ) → refusal ≡ StoreFull len → 2 ^ 30 < place + 20) → 2 ^ 30 < place + 20
full_place StoreFault place other full = absurd (other refl)
full_place (StoreFull len) place other full = full len refl

-- no number word falls by a look
seen_rises : (seen : List ℕ) (sub word i : ℕ) → slice_index seen sub ≤ word → slice_index seen i ≤ slice_index (slice_set seen sub word) i
seen_rises [] sub word i le = omega arith
seen_rises (n ∷ seen) zero word zero le = le
seen_rises (n ∷ seen) zero word (suc i) le = omega arith
seen_rises (n ∷ seen) (suc sub) word zero le = omega arith
seen_rises (n ∷ seen) (suc sub) word (suc i) le = seen_rises seen sub word i le

-- a bound above the number words after a look is one above them before it
above_before : (imsis : List Identity) (seen : List ℕ) (sub word : ℕ) (most more : Identity → ℕ) → slice_index seen sub ≤ word → IsAbove imsis (slice_set seen sub word) most more → IsAbove imsis seen most more
above_before imsis seen sub word most more le above = record {
  keeps = above.keeps;
  admits = λ i inside. let rise = seen_rises seen sub word i le in omega (arith, rise, above.admits i inside);
}

-- the limits of the pass are the journal's, after a group
pub group_limits : {D : Type 0} (old : KeeperState D) (journal : JournalState D) (items : List (ℕ × ℕ)) → AllPairs (λ a b. a ≢ b) old.journal.imsis → old.pass.limits ≡ limits_of old.journal → AreApart items
    → All (λ item. item.0 < length old.journal.imsis) items → All (λ item. MayRise old.pass item.0 item.1) items → journal.imsis ≡ old.journal.imsis
    → AreLimits journal.limits (old.journal.limits ++ frames_for old.journal items) → set_all old.pass.limits items ≡ limits_of journal
group_limits old journal items differ limits apart known rise imsis are =
    ap (λ (l : List ℕ). set_all l items) limits
    ∙ sym (limits_set old.journal journal items imsis are differ apart known (λ j d more. subst (λ (l : List ℕ). slice_index l (get_or items j d).0 < (get_or items j d).1) limits (rise j d more).above))

-- and each limit of the group is in both
pub group_each : {D : Type 0} (old : KeeperState D) (journal : JournalState D) (items : List (ℕ × ℕ)) → AllPairs (λ a b. a ≢ b) old.journal.imsis → old.pass.limits ≡ limits_of old.journal → AreApart items
    → All (λ item. item.0 < length old.journal.imsis) items → All (λ item. MayRise old.pass item.0 item.1) items → journal.imsis ≡ old.journal.imsis
    → AreLimits journal.limits (old.journal.limits ++ frames_for old.journal items)
    → All (λ item. (reserved_at journal item.0 ≡ item.1) × (slice_index (set_all old.pass.limits items) item.0 ≡ item.1)) items
group_each old journal items differ limits apart known rise imsis are = λ j d more.
    let size : length old.pass.limits ≡ length old.journal.imsis = ap length limits ∙ length-map old.journal.imsis (reserved_in old.journal.limits) in
    let own = set_own items old.pass.limits apart (λ k e inside. omega (arith, known k e inside, size)) j d more in
    let same : slice_index (set_all old.pass.limits items) (get_or items j d).0 ≡ slice_index (limits_of journal) (get_or items j d).0 =
    ap (λ (l : List ℕ). slice_index l (get_or items j d).0) (group_limits old journal items differ limits apart known rise imsis are) in
    let there : (get_or items j d).0 < length journal.imsis = subst (λ (l : List Identity). (get_or items j d).0 < length l) (sym imsis) (known j d more) in
    (sym (limits_at journal (get_or items j d).0 there) ∙ sym same ∙ own, own)

going : (failed : Bool) → (failed ≡ true → ⊥) → failed ≡ false
going true never = absurd (never refl)
going false never = refl

single : (P : ℕ × ℕ → Type 0) (item : ℕ × ℕ) → P item → All P (item ∷ [])
single P item is = All-cons P item [] is (All-nil P)

module _ {D : Type 0} (seen : D → Option (List ℕ)) (may_leave : D → List ℕ → Type 0) (faults moment : D → ℕ) (left_since : D → ℕ → List ℕ → Type 0) where
  -- what an append says of a crash at any moment
  abbrev pub LeavesAppending : JournalState D → JournalState D → List Frame → ℕ → Type 0
  LeavesAppending old new added size =
      (frames : List Frame) → IsSettled seen may_leave old.disk frames old.place → (file : List ℕ) → seen old.disk ≡ Some file
      → LeavesOnly moment left_since old.disk new.disk (IsAppendingAll frames old.place added size)

  -- as the round begins
  pub new_since : ((disk : D) (image : List ℕ) → left_since disk (moment disk) image → may_leave disk image) → (journal : JournalState D) (pass : KeeperValue) → pass.limits ≡ limits_of journal → journal.failed ≡ false → pass.stop ≡ None
      → Since seen may_leave faults moment left_since journal (record { journal = journal; pass = pass })
  new_since only_now journal pass limits ready running = record {
    subscribers = refl;
    limits = limits;
    all = refl;
    rises = λ imsi. omega arith;
    others = λ imsi apart. refl;
    failed = (λ is. absurd (true≢false (sym is ∙ ready)), λ is. absurd (none_some pass.stop _ running is));
    fault = λ is. absurd (none_some pass.stop _ running is);
    quiet = λ other. refl;
    full = λ is. absurd (none_some pass.stop _ running is);
    durable = λ from most more above was. durable_more seen may_leave from most more journal above.keeps was;
    always = λ from most more above was told.
        leaves_less moment left_since journal.disk journal.disk (IsLeft told.0 journal most) (IsLeft told.0 journal more)
        (left_more told.0 journal most more above.keeps) (begins_left seen may_leave moment left_since only_now from most journal was told);
  }

  -- after a look at a number word
  pub looked_since : (opening : JournalState D) (old : KeeperState D) (sub word : ℕ) → slice_index old.pass.seen sub ≤ word
      → Since seen may_leave faults moment left_since opening old → Since seen may_leave faults moment left_since opening (record { journal = old.journal; pass = record old.pass { seen = slice_set old.pass.seen sub word } })
  looked_since opening old sub word le since = record {
    subscribers = since.subscribers;
    limits = since.limits;
    all = since.all;
    rises = since.rises;
    others = since.others;
    failed = since.failed;
    fault = since.fault;
    quiet = since.quiet;
    full = λ is.
        let needs = since.full is in
        let rise = seen_rises old.pass.seen sub word needs.1.0 le in
        (needs.0, (needs.1.0, needs.1.1, omega (arith, needs.1.2, rise)));
    durable = λ from most more above. since.durable from most more (above_before opening.imsis old.pass.seen sub word most more le above);
    always = λ from most more above. since.always from most more (above_before opening.imsis old.pass.seen sub word most more le above);
  }

  -- what an append leaves at any moment, if each bound above the number words admits it
  append_always : (opening : JournalState D) (old : KeeperState D) (journal : JournalState D) (added : List Frame) (size : ℕ) → old.pass.stop ≡ None
      → ((most more : Identity → ℕ) → IsAbove opening.imsis old.pass.seen most more → AdmitsAll added more) → LeavesAppending old.journal journal added size
      → Since seen may_leave faults moment left_since opening old → (from : D) (most more : Identity → ℕ) → IsAbove opening.imsis old.pass.seen most more → IsDurable seen may_leave from most opening
      → (told : IsTold seen may_leave from) → LeavesOnly moment left_since opening.disk journal.disk (IsLeft told.0 opening more)
  append_always opening old journal added size running top leaves since from most more above was told =
      append_left seen may_leave moment left_since told.0 more opening old.journal added since.rises (top most more above)
      ((since.durable from most more above was).ready told (going old.journal.failed (λ is. none_some old.pass.stop Fault running (since.failed.0 is))))
      size journal.disk leaves (since.always from most more above was told)

  -- a bound above the number words is one for a subscriber's frame
  frame_admitted : (opening : JournalState D) (old : KeeperState D) (sub limit : ℕ) → old.journal.imsis ≡ opening.imsis → sub < length old.journal.imsis → limit ≤ slice_index old.pass.seen sub + 64
      → (most more : Identity → ℕ) → IsAbove opening.imsis old.pass.seen most more → AdmitsAll (frame_for old.journal sub limit ∷ []) more
  frame_admitted opening old sub limit imsis there near most more above =
      admits_group old.journal.imsis more ((sub, limit) ∷ [])
      (single (λ item. item.1 ≤ more (imsi_at old.journal.imsis item.0)) (sub, limit) (near_own old.journal.imsis opening.imsis old.pass.seen most more limit sub imsis above there near))

  -- what an append reserves beside the limits from before: no limit falls, and one of an identity without a place is as it was
  appended_rises : (opening : JournalState D) (old : KeeperState D) (journal : JournalState D) (added : List Frame) → AreLimits journal.limits (old.journal.limits ++ added)
      → Since seen may_leave faults moment left_since opening old → (imsi : Identity) → reserved_in opening.limits imsi ≤ reserved_in journal.limits imsi
  appended_rises opening old journal added are since imsi = omega (arith, since.rises imsi, are.same imsi, reserved-append old.journal.limits added imsi)

  appended_others : (opening : JournalState D) (old : KeeperState D) (journal : JournalState D) (items : List (ℕ × ℕ)) → AreLimits journal.limits (old.journal.limits ++ frames_for old.journal items)
      → All (λ item. item.0 < length old.journal.imsis) items → Since seen may_leave faults moment left_since opening old
      → (imsi : Identity) → All (λ own. own ≢ imsi) opening.imsis → reserved_in journal.limits imsi ≡ reserved_in opening.limits imsi
  appended_others opening old journal items are known since imsi apart =
      let none = reserved_none old.journal.imsis items imsi (subst (λ (l : List Identity). All (λ own. own ≢ imsi) l) (sym since.subscribers) apart) known in
      omega (arith, since.others imsi apart, are.same imsi, reserved-append old.journal.limits (frames_for old.journal items) imsi, none)

  -- after an append that was refused
  pub stopped_since : (opening : JournalState D) (old : KeeperState D) (journal : JournalState D) (sub limit : ℕ) (why : Stop)
      → old.pass.stop ≡ None → sub < length old.journal.imsis → limit ≤ slice_index old.pass.seen sub + 64
      → reserved_at old.journal sub < slice_index old.pass.seen sub → journal.all ≡ old.journal.all → journal.imsis ≡ old.journal.imsis → journal.limits ≡ old.journal.limits → ((journal.failed ≡ true) ↔ (why ≡ Fault))
      → (why ≡ Fault → Rose (faults old.journal.disk) (faults journal.disk)) → (why ≢ Fault → faults journal.disk ≡ faults old.journal.disk) → (why ≡ Full → 2 ^ 30 < journal.place + 20)
      → ((from : D) (most : Identity → ℕ) → Admits old.journal sub limit most
      → IsDurable seen may_leave from most old.journal → IsDurable seen may_leave from most journal)
      → LeavesAppending old.journal journal (frame_for old.journal sub limit ∷ []) 19
      → Since seen may_leave faults moment left_since opening old → Since seen may_leave faults moment left_since opening (record { journal = journal; pass = record old.pass { stop = Some why } })
  stopped_since opening old journal sub limit why running there near needs all imsis limits failed rose quiet full bounded leaves since =
      let before : faults old.journal.disk ≡ faults opening.disk = since.quiet (λ is. none_some old.pass.stop _ running is) in
      record {
        subscribers = imsis ∙ since.subscribers;
        limits = since.limits ∙ sym (λ i. map (λ imsi. reserved_in (limits i) imsi) (imsis i));
        all = all ∙ since.all;
        rises = λ imsi. omega (arith, since.rises imsi, ap (λ (l : List Frame). reserved_in l imsi) limits);
        others = λ imsi apart. ap (λ (l : List Frame). reserved_in l imsi) limits ∙ since.others imsi apart;
        failed = (λ is. ap Some (failed.0 is), λ is. failed.1 (some_stop why Fault is));
        fault = λ is. subst (λ (count : ℕ). Rose count (faults journal.disk)) before (rose (some_stop why Fault is));
        quiet = λ other. quiet (λ is. other (ap Some is)) ∙ before;
        full = λ is.
            let same : reserved_at journal sub ≡ reserved_at old.journal sub = λ k. reserved_in (limits k) (imsi_at (imsis k) sub) in
            let counts = ap (λ (l : List Identity). length l) imsis in
            (full (some_stop why Full is), (sub, omega (arith, there, counts), omega (arith, same, needs)));
        durable = λ from most more above was.
            bounded from more (near_own old.journal.imsis opening.imsis old.pass.seen most more limit sub since.subscribers above there near) (since.durable from most more above was);
        always = append_always opening old journal (frame_for old.journal sub limit ∷ []) 19 running (frame_admitted opening old sub limit since.subscribers there near) leaves since;
      }

  pub reserved_since : (opening : JournalState D) (old : KeeperState D) (journal : JournalState D) (sub limit : ℕ)
      → old.pass.stop ≡ None → AllPairs (λ a b. a ≢ b) old.journal.imsis → sub < length old.journal.imsis
      → reserved_at old.journal sub < limit → limit ≤ slice_index old.pass.seen sub + 64
      → journal.all ≡ old.journal.all → journal.imsis ≡ old.journal.imsis → journal.failed ≡ false → faults journal.disk ≡ faults old.journal.disk
      → AreLimits journal.limits (old.journal.limits ++ frame_for old.journal sub limit ∷ [])
      → ((from : D) (most : Identity → ℕ) → Admits old.journal sub limit most
      → IsDurable seen may_leave from most old.journal → IsDurable seen may_leave from most journal)
      → LeavesAppending old.journal journal (frame_for old.journal sub limit ∷ []) 19
      → Since seen may_leave faults moment left_since opening old → Since seen may_leave faults moment left_since opening (record { journal = journal; pass = record old.pass { limits = slice_set old.pass.limits sub limit } })
  reserved_since opening old journal sub limit running differ there less near all imsis ready quiet are bounded leaves since = record {
    subscribers = imsis ∙ since.subscribers;
    limits = ap (λ (l : List ℕ). slice_set l sub limit) since.limits ∙ sym (limits_raised old.journal journal sub limit imsis are differ there less);
    all = all ∙ since.all;
    rises = appended_rises opening old journal (frame_for old.journal sub limit ∷ []) are since;
    others = appended_others opening old journal ((sub, limit) ∷ []) are (single (λ item. item.0 < length old.journal.imsis) (sub, limit) there) since;
    failed = (λ is. absurd (true≢false (sym is ∙ ready)), λ is. absurd (none_some old.pass.stop _ running is));
    fault = λ is. absurd (none_some old.pass.stop _ running is);
    quiet = λ other. quiet ∙ since.quiet other;
    full = λ is. absurd (none_some old.pass.stop _ running is);
    durable = λ from most more above was.
        bounded from more (near_own old.journal.imsis opening.imsis old.pass.seen most more limit sub since.subscribers above there near) (since.durable from most more above was);
    always = append_always opening old journal (frame_for old.journal sub limit ∷ []) 19 running (frame_admitted opening old sub limit since.subscribers there near) leaves since;
  }

  -- a bound above the number words is one for the limits of a group
  group_admitted : (opening : JournalState D) (old : KeeperState D) (items : List (ℕ × ℕ)) → old.journal.imsis ≡ opening.imsis → All (λ item. item.0 < length old.journal.imsis) items
      → All (λ item. MayRise old.pass item.0 item.1) items → (most more : Identity → ℕ) → IsAbove opening.imsis old.pass.seen most more → AdmitsAll (frames_for old.journal items) more
  group_admitted opening old items imsis known rise most more above =
      admits_group old.journal.imsis more items
      (λ j d inside. near_own old.journal.imsis opening.imsis old.pass.seen most more (get_or items j d).1 (get_or items j d).0 imsis above (known j d inside) (rise j d inside).near)

  -- after a group was reserved
  pub group_since : (opening : JournalState D) (old : KeeperState D) (journal : JournalState D) (items : List (ℕ × ℕ))
      → old.pass.stop ≡ None → AllPairs (λ a b. a ≢ b) old.journal.imsis → old.pass.limits ≡ limits_of old.journal → AreApart items → All (λ item. item.0 < length old.journal.imsis) items
      → All (λ item. MayRise old.pass item.0 item.1) items → journal.all ≡ old.journal.all → journal.imsis ≡ old.journal.imsis → journal.failed ≡ false → faults journal.disk ≡ faults old.journal.disk
      → AreLimits journal.limits (old.journal.limits ++ frames_for old.journal items)
      → ((from : D) (most : Identity → ℕ) → AdmitsAll (frames_for old.journal items) most
      → IsDurable seen may_leave from most old.journal → IsDurable seen may_leave from most journal)
      → LeavesAppending old.journal journal (frames_for old.journal items) (4 + 17 * length items)
      → Since seen may_leave faults moment left_since opening old → Since seen may_leave faults moment left_since opening (record { journal = journal; pass = record old.pass { limits = set_all old.pass.limits items } })
  group_since opening old journal items running differ limits apart known rise all imsis ready quiet are bounded leaves since = record {
    subscribers = imsis ∙ since.subscribers;
    limits = group_limits old journal items differ limits apart known rise imsis are;
    all = all ∙ since.all;
    rises = appended_rises opening old journal (frames_for old.journal items) are since;
    others = appended_others opening old journal items are known since;
    failed = (λ is. absurd (true≢false (sym is ∙ ready)), λ is. absurd (none_some old.pass.stop _ running is));
    fault = λ is. absurd (none_some old.pass.stop _ running is);
    quiet = λ other. quiet ∙ since.quiet other;
    full = λ is. absurd (none_some old.pass.stop _ running is);
    durable = λ from most more above was. bounded from more (group_admitted opening old items since.subscribers known rise most more above) (since.durable from most more above was);
    always = append_always opening old journal (frames_for old.journal items) (4 + 17 * length items) running (group_admitted opening old items since.subscribers known rise) leaves since;
  }

  -- after the append of a group failed
  pub group_stopped_since : (opening : JournalState D) (old : KeeperState D) (journal : JournalState D) (items : List (ℕ × ℕ))
      → old.pass.stop ≡ None → All (λ item. item.0 < length old.journal.imsis) items → All (λ item. MayRise old.pass item.0 item.1) items
      → journal.all ≡ old.journal.all → journal.imsis ≡ old.journal.imsis → journal.limits ≡ old.journal.limits → journal.failed ≡ true → Rose (faults old.journal.disk) (faults journal.disk)
      → ((from : D) (most : Identity → ℕ) → AdmitsAll (frames_for old.journal items) most
      → IsDurable seen may_leave from most old.journal → IsDurable seen may_leave from most journal)
      → LeavesAppending old.journal journal (frames_for old.journal items) (4 + 17 * length items)
      → Since seen may_leave faults moment left_since opening old → Since seen may_leave faults moment left_since opening (record { journal = journal; pass = record old.pass { stop = Some Fault } })
  group_stopped_since opening old journal items running known rise all imsis limits failed rose bounded leaves since =
      let before : faults old.journal.disk ≡ faults opening.disk = since.quiet (λ is. none_some old.pass.stop _ running is) in
      record {
        subscribers = imsis ∙ since.subscribers;
        limits = since.limits ∙ sym (λ i. map (λ imsi. reserved_in (limits i) imsi) (imsis i));
        all = all ∙ since.all;
        rises = λ imsi. omega (arith, since.rises imsi, ap (λ (l : List Frame). reserved_in l imsi) limits);
        others = λ imsi apart. ap (λ (l : List Frame). reserved_in l imsi) limits ∙ since.others imsi apart;
        failed = (λ is. refl, λ is. failed);
        fault = λ is. subst (λ (count : ℕ). Rose count (faults journal.disk)) before rose;
        quiet = λ other. absurd (other refl);
        full = λ is. absurd (no_full is);
        durable = λ from most more above was. bounded from more (group_admitted opening old items since.subscribers known rise most more above) (since.durable from most more above was);
        always = append_always opening old journal (frames_for old.journal items) (4 + 17 * length items) running (group_admitted opening old items since.subscribers known rise) leaves since;
      }
    where
      no_full : (let stop : Option Stop = Some Fault in stop) ≡ Some Full → ⊥
      no_full is = cc
