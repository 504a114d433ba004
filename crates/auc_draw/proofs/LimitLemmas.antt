-- What a step leaves of the part on limits.
use Rattle.std.proofs.Common.{◌≡◌, ◌≢◌, ◌⊎◌, ℕ, zero, suc, ◌+◌, ◌<◌, ◌≤◌, ◌==◌, nat_lt, Bool, true, false, if◌then◌else◌, List, [], ◌∷◌, ◌++◌, length, set, slice_index, slice_set, All, Contains, Option, Some, None, arith, refl, sym, ap, ◌∙◌, subst, ⊎_elim, inl, inr, eq-eqb}
use Rattle.std.proofs.lemmas.Bool.Decides.{nat_tests}
use Rattle.std.proofs.lemmas.Bool.{eqb-true}
use Rattle.std.proofs.lemmas.Grind.{flat_map-append}
use Rattle.std.proofs.lemmas.List.{append-nil, length-append, length-set, get_or-set_same, get_or-set_other, get_or_append_left}
use Rattle.std.proofs.lemmas.List.Elements.{All-append}
use mathlib.Core.Option.{Option as Maybe, some, some-ne-none, some-injective}
use lib.ListN.{get_elem?}
use Rattle.atomic_table.specs.Table.{State}
use Rattle.atomic_table.proofs.Lists.{at_set, at_snoc}
use Rattle.auc_memory.specs.declared.stop.Stop.{Stop}
use Rattle.auc_memory.specs.declared.stop.Stop.TheVariants.{Fault, Full}
use Rattle.auc_history.specs.declared.entry.Entry.{Entry}
use Rattle.auc_history.specs.declared.entry.Entry.TheVariants.{Drawn}
use Rattle.auc_sqn.specs.Number.{max_seq}
use Rattle.auc_draw.specs.declared.rule.Deed.{Deed}
use Rattle.auc_draw.specs.declared.rule.Deed.TheVariants.{Made, Claimed, Released, Withheld, ReadStop}
use Rattle.auc_draw.specs.declared.rule.Note.{Note}
use Rattle.auc_draw.specs.declared.rule.View.{View}
use Rattle.auc_draw.specs.Deeds.{entries_by, entries_of, kept_stop, stop_read, withholding}
use Rattle.auc_draw.specs.InnerLimits.{stop_at, limit_at, stop_word, stop_of, looked, raised, ended, first_note, IsLimit, IsTied, Tells, WasDrawn, AreTold, IsTold, KeepsLimits}
use Rattle.auc_draw.specs.InnerRule.{with_deed, with_note}
use Rattle.auc_draw.proofs.ViewLemmas.{all_cons, all_nil, all_head, all_tail}

-- ---- the keeper's note

-- it is that of the first view
pub first_at : (views : List View) (v : View) → get_elem? views 0 ≡ some v → first_note views ≡ v.note
first_at [] v at = absurd (some-ne-none v (sym at))
first_at (u ∷ us) v at = ap (λ (x : View). x.note) (some-injective u v at)

-- also after it is set
pub first_now : (views : List View) (v w : View) → get_elem? views 0 ≡ some v → first_note (set views 0 w) ≡ w.note
first_now [] v w at = absurd (some-ne-none v (sym at))
first_now (u ∷ us) v w at = refl

-- a view with the same note changes nothing
pub first_same : (views : List View) (id : ℕ) (v w : View) → get_elem? views id ≡ some v → w.note ≡ v.note → first_note (set views id w) ≡ first_note views
first_same [] id v w at same = absurd (some-ne-none v (sym at))
first_same (u ∷ us) zero v w at same = same ∙ ap (λ (x : View). x.note) (sym (some-injective u v at))
first_same (u ∷ us) (suc id) v w at same = refl

-- nor does another view than the first
pub first_else : (views : List View) (id : ℕ) (w : View) → id ≢ 0 → first_note (set views id w) ≡ first_note views
first_else [] id w apart = refl
first_else (u ∷ us) zero w apart = absurd (apart refl)
first_else (u ∷ us) (suc id) w apart = refl

-- nor a further one
pub first_push : (views : List View) (id : ℕ) (v r : View) → get_elem? views id ≡ some v → first_note (views ++ r ∷ []) ≡ first_note views
first_push [] id v r at = absurd (some-ne-none v (sym at))
first_push (u ∷ us) id v r at = refl

-- ---- what deeds tell

-- an entry is still there after further deeds
contains_more : (i : ℕ) (e : Entry) (deeds more : List Deed) → Contains (entries_of i deeds) e → Contains (entries_of i (deeds ++ more)) e
contains_more i e deeds more there =
    let es = entries_of i deeds in
    let fs = entries_of i more in
    let here : Contains (es ++ fs) e = (there.0, omega (arith, there.1, length-append es fs), get_or_append_left es fs e there.0 there.1 ∙ there.2) in
    subst (λ (xs : List Entry). Contains xs e) (sym (flat_map-append (entries_by i) deeds more)) here

-- so a number that was drawn stays so
drawn_more : (deeds more : List Deed) (d : Deed) → WasDrawn deeds d → WasDrawn (deeds ++ more) d
drawn_more deeds more (Made sub e) was = tt
drawn_more deeds more (Claimed n) was = tt
drawn_more deeds more (Released sub n) was = contains_more sub (Drawn n) deeds more was
drawn_more deeds more (Withheld sub n stop) was = contains_more sub (Drawn n) deeds more was
drawn_more deeds more (ReadStop stop) was = tt

-- no deeds tell anything
pub told_none : (note : Note) → AreTold note []
told_none note = record { tells = all_nil (Tells note); drawn = all_nil (WasDrawn []) }

-- a further deed
pub told_more : (note : Note) (deeds : List Deed) (d : Deed) → AreTold note deeds → Tells note d → WasDrawn deeds d → AreTold note (deeds ++ d ∷ [])
told_more note deeds d told tells drawn = record {
  tells = All-append (Tells note) deeds (d ∷ []) told.tells (all_cons (Tells note) d [] tells (all_nil (Tells note)));
  drawn = All-append (WasDrawn (deeds ++ d ∷ [])) deeds (d ∷ []) (λ k x within. drawn_more deeds (d ∷ []) _ (told.drawn k x within))
      (all_cons (WasDrawn (deeds ++ d ∷ [])) d [] (drawn_more deeds (d ∷ []) d drawn) (all_nil (WasDrawn (deeds ++ d ∷ []))));
}

-- another note that tells all that the note told
told_noted : (note next : Note) (deeds : List Deed) → ((d : Deed) → Tells note d → Tells next d) → AreTold note deeds → AreTold next deeds
told_noted note next deeds also told = record { tells = λ k d within. also _ (told.tells k d within); drawn = told.drawn }

-- a stop that was read is the keeper's
pub kept_known : (note : Note) (deeds : List Deed) (stop : Stop) → All (Tells note) deeds → kept_stop deeds ≡ Some stop → note.stop ≡ Some stop
kept_known note [] stop all is = let no : ⊥ = cc in absurd no
kept_known note (Made sub e ∷ ds) stop all is = kept_known note ds stop (all_tail (Tells note) (Made sub e) ds all) is
kept_known note (Claimed n ∷ ds) stop all is = kept_known note ds stop (all_tail (Tells note) (Claimed n) ds all) is
kept_known note (Released sub n ∷ ds) stop all is = kept_known note ds stop (all_tail (Tells note) (Released sub n) ds all) is
kept_known note (Withheld sub n s ∷ ds) stop all is = kept_known note ds stop (all_tail (Tells note) (Withheld sub n s) ds all) is
kept_known note (ReadStop s ∷ ds) stop all is = all_head (Tells note) (ReadStop s) ds all ∙ is

-- after the keeper's stop is read, it is the one that was read first
pub kept_more : (note : Note) (deeds : List Deed) (o : Option Stop) → All (Tells note) deeds → note.stop ≡ o → kept_stop (deeds ++ stop_read o) ≡ o
kept_more note [] None all is = refl
kept_more note [] (Some stop) all is = refl
kept_more note (Made sub e ∷ ds) o all is = kept_more note ds o (all_tail (Tells note) (Made sub e) ds all) is
kept_more note (Claimed n ∷ ds) o all is = kept_more note ds o (all_tail (Tells note) (Claimed n) ds all) is
kept_more note (Released sub n ∷ ds) o all is = kept_more note ds o (all_tail (Tells note) (Released sub n) ds all) is
kept_more note (Withheld sub n s ∷ ds) o all is = kept_more note ds o (all_tail (Tells note) (Withheld sub n s) ds all) is
kept_more note (ReadStop s ∷ ds) o all is = sym (all_head (Tells note) (ReadStop s) ds all) ∙ is

-- ---- views

-- a view whose note and joined lists are the same, and whose own deeds tell no more
pub record IsPlain (v w : View) : Type 0 where
  pub note : w.note ≡ v.note
  pub joined : w.joined ≡ v.joined
  pub told : (note : Note) → AreTold note v.own → AreTold note w.own

-- such a view is told as before
pub plain_told : (note : Note) (v w : View) → IsPlain v w → IsTold note v → IsTold note w
plain_told note v w plain told = record { own = plain.told note told.own; joined = subst (λ (ls : List (List Deed)). All (AreTold note) ls) (sym plain.joined) told.joined }

-- an entry makes such a view
pub made_plain : (sub : ℕ) (e : Entry) (v w : View) → w ≡ with_deed v (Made sub e) → IsPlain v w
made_plain sub e v w is = subst (λ (x : View). IsPlain v x) (sym is) (record { note = refl; joined = refl; told = λ note told. told_more note v.own (Made sub e) told tt tt })

-- and a claim
pub claimed_plain : (n : ℕ) (v w : View) → w ≡ with_deed v (Claimed n) → IsPlain v w
claimed_plain n v w is = subst (λ (x : View). IsPlain v x) (sym is) (record { note = refl; joined = refl; told = λ note told. told_more note v.own (Claimed n) told tt tt })

-- another note that tells all that the note told
told_by : (note next : Note) (v : View) → ((d : Deed) → Tells note d → Tells next d) → IsTold note v → IsTold next v
told_by note next v also told = record { own = told_noted note next v.own also told.own; joined = λ k l within. told_noted note next _ also (told.joined k l within) }

-- ---- words

-- words with the same limits and stop, and no lower numbers
pub record AreStill (openings old new : List ℕ) : Type 0 where
  pub sized : length new ≡ length old
  pub limits : (i : ℕ) → length openings < i → slice_index new i ≡ slice_index old i
  pub numbers : (i : ℕ) → i < length openings → slice_index old i ≤ slice_index new i

-- the same words
pub still_same : (openings old new : List ℕ) → new ≡ old → AreStill openings old new
still_same openings old new is = record {
  sized = ap (λ (ws : List ℕ). length ws) is;
  limits = λ i above. ap (λ (ws : List ℕ). slice_index ws i) is;
  numbers = λ i known. omega (arith, ap (λ (ws : List ℕ). slice_index ws i) is);
}

-- a number that doesn't fall, or a job word
pub still_set : (openings words : List ℕ) (i next : ℕ) → i ≤ length openings → i < length words → (i < length openings → slice_index words i ≤ next) → AreStill openings words (slice_set words i next)
still_set openings words i next here within rises = record {
  sized = length-set words i next;
  limits = λ k above. get_or-set_other words i k next 0 (λ same. omega (arith, same, above, here));
  numbers = λ k known. by k known (k == i) refl;
}
  where
    by : (k : ℕ) → k < length openings → (b : Bool) → (k == i) ≡ b → slice_index words k ≤ slice_index (slice_set words i next) k
    by k known true same =
        let is = eqb-true k i same in
        let low = rises (omega (arith, known, is)) in
        omega (arith, low, ap (λ j. slice_index words j) is, ap (λ j. slice_index (slice_set words i next) j) is, get_or-set_same words i next 0 within)
    by k known false other = omega (arith, get_or-set_other words i k next 0 (λ same. let yes = eq-eqb k i same in let no : ⊥ = cc in no))

-- the keeper's note is still what the words say
tied_still : (openings limits old new : List ℕ) (note : Note) → IsTied openings limits old note → AreStill openings old new → IsTied openings limits new note
tied_still openings limits old new note tied still = record {
  sized = tied.sized;
  looks = tied.looks;
  limit = λ i known. still.limits (limit_at (length openings) i) (omega arith) ∙ tied.limit i known;
  stop = still.limits (stop_at (length openings)) (omega arith) ∙ tied.stop;
  each = λ i known. let e = tied.each i known in record { within = e.within; looked = omega (arith, e.looked, still.numbers i known); step = e.step; near = e.near };
}

-- ---- steps

-- a step that leaves the limits, the stop and the keeper's note
pub limits_stepped : (openings limits : List ℕ) (s : State (Unit {0}) View) (id : ℕ) (w : View) (words : List ℕ) (homes : List (Maybe (Unit {0}))) → KeepsLimits openings limits s → AreStill openings s.words words
    → first_note (slice_set s.views id w) ≡ first_note s.views → IsTold (first_note s.views) w → KeepsLimits openings limits record { words = words; homes = homes; views = slice_set s.views id w }
limits_stepped openings limits s id w words homes rule still same told = record {
  sized = still.sized ∙ rule.sized;
  tied = subst (λ (n : Note). IsTied openings limits words n) (sym same) (tied_still openings limits s.words words (first_note s.views) rule.tied still);
  told = λ j u there. subst (λ (n : Note). IsTold n u) (sym same) (⊎_elim
      (λ (mine : (j ≡ id) × (w ≡ u)). subst (λ (x : View). IsTold (first_note s.views) x) mine.1 told)
      (λ (theirs : (j ≢ id) × (get_elem? s.views j ≡ some u)). rule.told j u theirs.1)
      (at_set s.views id j w u there));
}

-- a step of the keeper, whose note changes
pub limits_noted : (openings limits : List ℕ) (s : State (Unit {0}) View) (v : View) (note : Note) (words : List ℕ) (homes : List (Maybe (Unit {0}))) → KeepsLimits openings limits s → get_elem? s.views 0 ≡ some v
    → length words ≡ length s.words → IsTied openings limits words note → ((d : Deed) → Tells v.note d → Tells note d) → KeepsLimits openings limits record { words = words; homes = homes; views = slice_set s.views 0 (with_note v note) }
limits_noted openings limits s v note words homes rule at sized tied also = record {
  sized = sized ∙ rule.sized;
  tied = subst (λ (n : Note). IsTied openings limits words n) (sym now) tied;
  told = λ j u there. subst (λ (n : Note). IsTold n u) (sym now) (⊎_elim
      (λ (mine : (j ≡ 0) × (with_note v note ≡ u)). subst (λ (x : View). IsTold note x) mine.1 (let told = moved v (rule.told 0 v at) in record { own = told.own; joined = told.joined }))
      (λ (theirs : (j ≢ 0) × (get_elem? s.views j ≡ some u)). moved u (rule.told j u theirs.1))
      (at_set s.views 0 j (with_note v note) u there));
}
  where
    now : first_note (slice_set s.views 0 (with_note v note)) ≡ note
    now = first_now s.views v (with_note v note) at

    moved : (u : View) → IsTold (first_note s.views) u → IsTold note u
    moved u told = told_by v.note note u also (subst (λ (n : Note). IsTold n u) (first_at s.views v at) told)

-- a further seat without deeds
pub limits_push : (openings limits : List ℕ) (s : State (Unit {0}) View) (id : ℕ) (v r : View) → KeepsLimits openings limits s → get_elem? s.views id ≡ some v → r.own ≡ [] → r.joined ≡ []
    → KeepsLimits openings limits record { words = s.words; homes = s.homes; views = s.views ++ r ∷ [] }
limits_push openings limits s id v r rule at own joined = record {
  sized = rule.sized;
  tied = subst (λ (n : Note). IsTied openings limits s.words n) (sym same) rule.tied;
  told = λ j u there. subst (λ (n : Note). IsTold n u) (sym same) (⊎_elim
      (λ (old : get_elem? s.views j ≡ some u). rule.told j u old)
      (λ (new : r ≡ u). subst (λ (x : View). IsTold (first_note s.views) x) new (record {
        own = subst (λ (ds : List Deed). AreTold (first_note s.views) ds) (sym own) (told_none (first_note s.views));
        joined = subst (λ (ls : List (List Deed)). All (AreTold (first_note s.views)) ls) (sym joined) (all_nil (AreTold (first_note s.views)));
      }))
      (at_snoc s.views r u j there));
}
  where
    same : first_note (s.views ++ r ∷ []) ≡ first_note s.views
    same = first_push s.views id v r at

-- ---- the stop

-- a stop is the one that its word stands for
pub stop_round : (o : Option Stop) → stop_of (stop_word o) ≡ o
stop_round None = refl
stop_round (Some Fault) = refl
stop_round (Some Full) = refl

-- deeds after a load of the stop word
pub stopped_told : (note : Note) (deeds : List Deed) (o : Option Stop) → AreTold note deeds → note.stop ≡ o → AreTold note (deeds ++ stop_read o)
stopped_told note deeds None told is = subst (λ (ds : List Deed). AreTold note ds) (sym (append-nil deeds)) told
stopped_told note deeds (Some stop) told is = told_more note deeds (ReadStop stop) told is tt

-- ---- a release

-- what the test says
lt_of : (a b : ℕ) → nat_lt a b ≡ true → a < b
lt_of a b = grind (arith, nat_tests)

-- and what it says if it fails
not_lt : (a b : ℕ) → nat_lt a b ≡ false → b ≤ a
not_lt a b = grind (arith, nat_tests)

-- deeds after a load of a limit
pub release_told : (note : Note) (sub n limit : ℕ) (deeds : List Deed) → AreTold note deeds → limit ≡ slice_index note.limits sub → Contains (entries_of sub deeds) (Drawn n)
    → (b : Bool) → nat_lt limit n ≡ b → (o : Option Stop) → kept_stop deeds ≡ o → AreTold note (deeds ++ (if b then withholding sub n o else Released sub n ∷ []))
release_told note sub n limit deeds told is drawn false low o kept = told_more note deeds (Released sub n) told (omega (arith, is, not_lt limit n low)) drawn
release_told note sub n limit deeds told is drawn true high None kept = subst (λ (ds : List Deed). AreTold note ds) (sym (append-nil deeds)) told
release_told note sub n limit deeds told is drawn true high (Some stop) kept =
    told_more note deeds (Withheld sub n stop) told (omega (arith, is, lt_of limit n high), kept_known note deeds stop told.tells kept) drawn

-- ---- the keeper's steps

-- a subscriber's number is noted
pub looked_tied : (openings limits words : List ℕ) (note : Note) (sub : ℕ) → sub < length openings → IsTied openings limits words note → IsTied openings limits words (looked note sub (slice_index words sub))
looked_tied openings limits words note sub known tied = record {
  sized = tied.sized;
  looks = length-set note.seen sub (slice_index words sub) ∙ tied.looks;
  limit = tied.limit;
  stop = tied.stop;
  each = λ i below. by i below (i == sub) refl;
}
  where
    word : ℕ
    word = slice_index words sub

    by : (i : ℕ) → i < length openings → (b : Bool) → (i == sub) ≡ b → IsLimit (slice_index limits i) (slice_index note.limits i) (slice_index (slice_set note.seen sub word) i) (slice_index words i)
    by i below true same =
        let is = eqb-true i sub same in
        let e = tied.each i below in
        let now : slice_index (slice_set note.seen sub word) i ≡ slice_index words i =
        ap (λ k. slice_index (slice_set note.seen sub word) k) is ∙ get_or-set_same note.seen sub word 0 (omega (arith, known, tied.looks)) ∙ ap (λ k. slice_index words k) (sym is) in
        record { within = e.within; looked = omega (arith, now); step = e.step; near = omega (arith, now, e.near, e.looked) }
    by i below false other =
        let e = tied.each i below in
        let now : slice_index (slice_set note.seen sub word) i ≡ slice_index note.seen i = get_or-set_other note.seen sub i word 0 (λ same. let yes = eq-eqb i sub same in let no : ⊥ = cc in no) in
        record { within = e.within; looked = omega (arith, now, e.looked); step = e.step; near = omega (arith, now, e.near) }

-- what a raised limit has to be
pub record MayRise (note : Note) (sub limit : ℕ) : Type 0 where
  pub running : note.stop ≡ None
  pub number : limit ≤ max_seq
  pub near : limit ≤ slice_index note.seen sub + 64
  pub step : (limit ≡ max_seq) ⊎ (slice_index note.limits sub + 64 ≤ limit)

-- such a limit isn't below the one before
pub rises : (given limit seen word next : ℕ) → IsLimit given limit seen word → next ≤ max_seq → (next ≡ max_seq) ⊎ (limit + 64 ≤ next) → limit ≤ next
rises given limit seen word next e number step = ⊎_elim (λ (top : next ≡ max_seq). omega (arith, top, e.within)) (λ (more : limit + 64 ≤ next). omega (arith, more)) step

-- a raised limit is noted
pub raised_tied : (openings limits words : List ℕ) (note : Note) (sub limit : ℕ) → sub < length openings → length words ≡ limit_at (length openings) (length openings) → IsTied openings limits words note → MayRise note sub limit
    → IsTied openings limits (slice_set words (limit_at (length openings) sub) limit) (raised note sub limit)
raised_tied openings limits words note sub limit known room tied may = record {
  sized = length-set note.limits sub limit ∙ tied.sized;
  looks = tied.looks;
  limit = λ i below. at i below (i == sub) refl;
  stop = get_or-set_other words place (stop_at (length openings)) limit 0 (λ same. omega (arith, same)) ∙ tied.stop;
  each = λ i below. by i below (i == sub) refl;
}
  where
    place : ℕ
    place = limit_at (length openings) sub

    here : slice_index (slice_set note.limits sub limit) sub ≡ limit
    here = get_or-set_same note.limits sub limit 0 (omega (arith, known, tied.sized))

    at : (i : ℕ) → i < length openings → (b : Bool) → (i == sub) ≡ b → slice_index (slice_set words place limit) (limit_at (length openings) i) ≡ slice_index (slice_set note.limits sub limit) i
    at i below true same =
        let is = eqb-true i sub same in
        ap (λ k. slice_index (slice_set words place limit) (limit_at (length openings) k)) is ∙ get_or-set_same words place limit 0 (omega (arith, known, room)) ∙ sym here
        ∙ ap (λ k. slice_index (slice_set note.limits sub limit) k) (sym is)
    at i below false other =
        let apart : i ≢ sub = λ same. (let yes = eq-eqb i sub same in let no : ⊥ = cc in no) in
        get_or-set_other words place (limit_at (length openings) i) limit 0 (λ same. apart (omega (arith, same))) ∙ tied.limit i below ∙ sym (get_or-set_other note.limits sub i limit 0 apart)

    number_at : (i : ℕ) → i < length openings → slice_index (slice_set words place limit) i ≡ slice_index words i
    number_at i below = get_or-set_other words place i limit 0 (λ same. omega (arith, same, below))

    further : (given old seen word : ℕ) → IsLimit given old seen word → (limit ≡ max_seq) ⊎ (old + 64 ≤ limit) → (limit ≡ given) ⊎ ((limit ≡ max_seq) ⊎ (given + 64 ≤ limit))
    further given old seen word e step = ⊎_elim
        (λ (top : limit ≡ max_seq). inr (inl top))
        (λ (more : old + 64 ≤ limit). ⊎_elim
        (λ (first : old ≡ given). inr (inr (omega (arith, first, more))))
        (λ (later : (old ≡ max_seq) ⊎ (given + 64 ≤ old)). ⊎_elim
        (λ (top : old ≡ max_seq). absurd (omega (arith, top, more, may.number)))
        (λ (above : given + 64 ≤ old). inr (inr (omega (arith, above, more)))) later)
        e.step)
        step

    by : (i : ℕ) → i < length openings → (b : Bool) → (i == sub) ≡ b → IsLimit (slice_index limits i) (slice_index (slice_set note.limits sub limit) i) (slice_index note.seen i) (slice_index (slice_set words place limit) i)
    by i below true same =
        let is = eqb-true i sub same in
        let e = tied.each sub known in
        let there : IsLimit (slice_index limits sub) limit (slice_index note.seen sub) (slice_index words sub) = record {
          within = may.number;
          looked = e.looked;
          step = further (slice_index limits sub) (slice_index note.limits sub) (slice_index note.seen sub) (slice_index words sub) e may.step;
          near = omega (arith, may.near);
        } in
        let P : ℕ → Type 0 = λ k. IsLimit (slice_index limits k) limit (slice_index note.seen k) (slice_index words k) in
        let now : slice_index (slice_set note.limits sub limit) i ≡ limit = ap (λ k. slice_index (slice_set note.limits sub limit) k) is ∙ here in
        let Q : ℕ → Type 0 = λ k. IsLimit (slice_index limits i) k (slice_index note.seen i) (slice_index words i) in
        let R : ℕ → Type 0 = λ k. IsLimit (slice_index limits i) (slice_index (slice_set note.limits sub limit) i) (slice_index note.seen i) k in
        subst R (sym (number_at i below)) (subst Q (sym now) (subst P (sym is) there))
    by i below false other =
        let e = tied.each i below in
        let now : slice_index (slice_set note.limits sub limit) i ≡ slice_index note.limits i = get_or-set_other note.limits sub i limit 0 (λ same. let yes = eq-eqb i sub same in let no : ⊥ = cc in no) in
        let Q : ℕ → Type 0 = λ k. IsLimit (slice_index limits i) k (slice_index note.seen i) (slice_index words i) in
        let R : ℕ → Type 0 = λ k. IsLimit (slice_index limits i) (slice_index (slice_set note.limits sub limit) i) (slice_index note.seen i) k in
        subst R (sym (number_at i below)) (subst Q (sym now) e)

-- while reservations go on, a raised limit tells all that the one before told
pub raised_tells : (note : Note) (sub limit : ℕ) → sub < length note.limits → note.stop ≡ None → slice_index note.limits sub ≤ limit → (d : Deed) → Tells note d → Tells (raised note sub limit) d
raised_tells note sub limit known running up (Made s e) tells = tt
raised_tells note sub limit known running up (Claimed n) tells = tt
raised_tells note sub limit known running up (Released s n) tells = by (s == sub) refl
  where
    by : (b : Bool) → (s == sub) ≡ b → n ≤ slice_index (slice_set note.limits sub limit) s
    by true same =
        let is = eqb-true s sub same in
        omega (arith, tells, up, ap (λ k. slice_index note.limits k) is, ap (λ k. slice_index (slice_set note.limits sub limit) k) is, get_or-set_same note.limits sub limit 0 known)
    by false other = omega (arith, tells, get_or-set_other note.limits sub s limit 0 (λ same. let yes = eq-eqb s sub same in let no : ⊥ = cc in no))
raised_tells note sub limit known running up (Withheld s n stop) tells = absurd (let bad = sym running ∙ tells.1 in let no : ⊥ = cc in no)
raised_tells note sub limit known running up (ReadStop stop) tells = tells

-- the stop is noted
pub ended_tied : (openings limits words : List ℕ) (note : Note) (o : Option Stop) → length words ≡ limit_at (length openings) (length openings) → IsTied openings limits words note
    → IsTied openings limits (slice_set words (stop_at (length openings)) (stop_word o)) (ended note o)
ended_tied openings limits words note o room tied = record {
  sized = tied.sized;
  looks = tied.looks;
  limit = λ i below. get_or-set_other words place (limit_at (length openings) i) (stop_word o) 0 (λ same. omega (arith, same)) ∙ tied.limit i below;
  stop = get_or-set_same words place (stop_word o) 0 (omega (arith, room));
  each = λ i below.
      let R : ℕ → Type 0 = λ k. IsLimit (slice_index limits i) (slice_index note.limits i) (slice_index note.seen i) k in
      subst R (sym (get_or-set_other words place i (stop_word o) 0 (λ same. omega (arith, same, below)))) (tied.each i below);
}
  where
    place : ℕ
    place = stop_at (length openings)

-- while reservations go on, nothing was told that needs a stop
pub ended_tells : (note : Note) (o : Option Stop) → note.stop ≡ None → (d : Deed) → Tells note d → Tells (ended note o) d
ended_tells note o running (Made s e) tells = tt
ended_tells note o running (Claimed n) tells = tt
ended_tells note o running (Released s n) tells = tells
ended_tells note o running (Withheld s n stop) tells = absurd (let bad = sym running ∙ tells.1 in let no : ⊥ = cc in no)
ended_tells note o running (ReadStop stop) tells = absurd (let bad = sym running ∙ tells in let no : ⊥ = cc in no)
