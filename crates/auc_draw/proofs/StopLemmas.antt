-- Each step on a limit or on the stop word, and each look of the keeper, keeps the rule.
use Rattle.std.proofs.Common.{◌≡◌, ℕ, ◌<◌, ◌≤◌, nat_lt, Bool, true, false, if◌then◌else◌, List, [], ◌∷◌, ◌++◌, length, slice_index, slice_set, Contains, Option, Some, None, arith, refl, sym, ap, ◌∙◌, subst, max}
use Rattle.std.proofs.lemmas.Grind.{flat_map-append}
use Rattle.std.proofs.lemmas.List.{append-nil, length-set, set-get_or, get_or-set_same, get_or-set_other}
use mathlib.Core.Option.{some}
use lib.ListN.{get_elem?}
use Rattle.atomic_table.specs.Table.{State, Me, keeps}
use Rattle.auc_memory.specs.declared.stop.Stop.{Stop}
use Rattle.auc_history.specs.declared.entry.Entry.TheVariants.{Drawn}
use Rattle.auc_draw.specs.declared.rule.Deed.{Deed}
use Rattle.auc_draw.specs.declared.rule.Deed.TheVariants.{Made, Claimed, Released, Withheld, ReadStop}
use Rattle.auc_draw.specs.declared.rule.Note.{Note}
use Rattle.auc_draw.specs.declared.rule.View.{View}
use Rattle.auc_draw.specs.Deeds.{entries_by, entries_of, claims_by, claims_of, kept_stop, stop_read, withholding}
use Rattle.auc_draw.specs.InnerLimits.{stop_at, limit_at, stop_word, stop_of, looked, raised, ended, first_note, IsTied, Tells, AreTold, KeepsLimits}
use Rattle.auc_draw.specs.InnerRule.{with_deeds, with_note, release_deeds, KeepsNumbers, Keeps, AllowsRelease, AllowsStopped, AllowsLook, AllowsRaise, AllowsStop}
use Rattle.auc_draw.proofs.StepLemmas.{Alike, numbers_still, jobs_still, seats_still}
use Rattle.auc_draw.proofs.LimitLemmas.{first_at, first_same, still_same, limits_stepped, limits_noted, kept_more, stop_round, stopped_told, release_told, looked_tied, MayRise, rises, raised_tied, raised_tells, ended_tied, ended_tells}

-- ---- the part on numbers

-- a view with the same entries and claims
record IsQuiet (v w : View) : Type 0 where
  pub alike : Alike v w
  pub split : w.split ≡ v.split
  pub idle : v.active ≡ 0 → v.own ≡ [] → w.own ≡ []
  pub entries : (i : ℕ) → entries_of i w.own ≡ entries_of i v.own
  pub claims : claims_of w.own ≡ claims_of v.own

-- a step that leaves the numbers and the jobs
quiet_numbers : (openings tops : List ℕ) (s : State (Unit {0}) View) (id : ℕ) (v w : View) (words : List ℕ) → KeepsNumbers openings tops s → get_elem? s.views id ≡ some v → length words ≡ length s.words
    → ((i : ℕ) → i ≤ length openings → slice_index words i ≡ slice_index s.words i) → IsQuiet v w → KeepsNumbers openings tops record { words = words; homes = s.homes; views = slice_set s.views id w }
quiet_numbers openings tops s id v w words rule at sized word quiet = record {
  room = omega (arith, rule.room, sized);
  numbers = numbers_still openings tops s id v w words rule.numbers at (λ i known. word i (omega (arith, known))) quiet.alike quiet.entries;
  jobs = jobs_still (length openings) s id v w words rule.jobs at (word (length openings) (omega arith)) quiet.alike quiet.claims;
  seats = seats_still s.views id v w rule.seats at quiet.alike quiet.split (λ none. quiet.idle none (rule.seats.idle id v at none));
}

-- deeds that make no entry and claim nothing
pub record AreQuiet (ds : List Deed) : Type 0 where
  pub entries : (i : ℕ) → entries_of i ds ≡ []
  pub claims : claims_of ds ≡ []

-- the entries and the claims after them
pub entries_quiet : (i : ℕ) (deeds ds : List Deed) → AreQuiet ds → entries_of i (deeds ++ ds) ≡ entries_of i deeds
entries_quiet i deeds ds quiet = flat_map-append (entries_by i) deeds ds ∙ ap (λ es. entries_of i deeds ++ es) (quiet.entries i) ∙ append-nil (entries_of i deeds)

pub claims_quiet : (deeds ds : List Deed) → AreQuiet ds → claims_of (deeds ++ ds) ≡ claims_of deeds
claims_quiet deeds ds quiet = flat_map-append claims_by deeds ds ∙ ap (λ ns. claims_of deeds ++ ns) quiet.claims ∙ append-nil (claims_of deeds)

-- such deeds of a pass
deeds_quiet : (v : View) (ds : List Deed) → v.active ≡ 1 → AreQuiet ds → IsQuiet v (with_deeds v ds)
deeds_quiet v ds active quiet = record {
  alike = record { joined = refl; active = refl };
  split = refl;
  idle = λ none. absurd (omega (arith, none, active));
  entries = λ i. entries_quiet i v.own ds quiet;
  claims = claims_quiet v.own ds quiet;
}

-- another note
note_quiet : (v : View) (note : Note) → IsQuiet v (with_note v note)
note_quiet v note = record { alike = record { joined = refl; active = refl }; split = refl; idle = λ none own. own; entries = λ i. refl; claims = refl }

-- what a release adds
pub release_quiet : (sub n : ℕ) (b : Bool) (o : Option Stop) → AreQuiet (if b then withholding sub n o else Released sub n ∷ [])
release_quiet sub n false o = record { entries = λ i. refl; claims = refl }
release_quiet sub n true None = record { entries = λ i. refl; claims = refl }
release_quiet sub n true (Some stop) = record { entries = λ i. refl; claims = refl }

-- what a load of the stop word adds
pub stopped_quiet : (o : Option Stop) → AreQuiet (stop_read o)
stopped_quiet None = record { entries = λ i. refl; claims = refl }
stopped_quiet (Some stop) = record { entries = λ i. refl; claims = refl }

-- ---- a pass's loads

-- a load by a pass that adds such deeds
load_keeps : (openings tops limits : List ℕ) (s : State (Unit {0}) View) (id i : ℕ) (v : View) (ds : List Deed) → Keeps openings tops limits s → get_elem? s.views id ≡ some v → v.active ≡ 1 → AreQuiet ds
    → AreTold (first_note s.views) (v.own ++ ds) → Keeps openings tops limits record { words = slice_set s.words i (slice_index s.words i); homes = s.homes; views = slice_set s.views id (with_deeds v ds) }
load_keeps openings tops limits s id i v ds rule at active quiet told = record {
  numbers = quiet_numbers openings tops s id v (with_deeds v ds) words rule.numbers at (ap (λ (ws : List ℕ). length ws) is) (λ k within. ap (λ (ws : List ℕ). slice_index ws k) is) (deeds_quiet v ds active quiet);
  limits = limits_stepped openings limits s id (with_deeds v ds) words s.homes rule.limits (still_same openings s.words words is) (first_same s.views id v (with_deeds v ds) at refl)
      (record { own = told; joined = (rule.limits.told id v at).joined });
}
  where
    words : List ℕ
    words = slice_set s.words i (slice_index s.words i)

    is : words ≡ s.words
    is = set-get_or s.words i 0

-- a load of the limit of a subscriber, for a number that the pass drew
pub release_ok : (openings tops limits : List ℕ) (slots id place sub n : ℕ) (me : Me (Unit {0}) View) → place ≡ limit_at (length openings) sub → sub < length openings → me.0.active ≡ 1 → Contains (entries_of sub me.0.own) (Drawn n)
    → AllowsRelease openings tops limits slots id me place sub n
release_ok openings tops limits slots id place sub n me here known active drawn s rule homes at fits =
    let v = me.0 in
    let word = slice_index s.words place in
    let ds = release_deeds sub n word v.own in
    let told : AreTold (first_note s.views) (v.own ++ ds) = release_told (first_note s.views) sub n word v.own (rule.limits.told id v at).own
    (ap (λ k. slice_index s.words k) here ∙ rule.limits.tied.limit sub known) drawn (nat_lt word n) refl (kept_stop v.own) refl in
    (with_deeds v ds, keeps, tt, load_keeps openings tops limits s id place v ds rule at active (release_quiet sub n (nat_lt word n) (kept_stop v.own)) told, refl)

-- a load of the stop word
pub stopped_ok : (openings tops limits : List ℕ) (slots id place : ℕ) (me : Me (Unit {0}) View) → place ≡ stop_at (length openings) → me.0.active ≡ 1 → AllowsStopped openings tops limits slots id me place
stopped_ok openings tops limits slots id place me here active s rule homes at fits =
    let v = me.0 in
    let word = slice_index s.words place in
    let note = first_note s.views in
    let is : note.stop ≡ stop_of word = sym (ap stop_of (ap (λ k. slice_index s.words k) here ∙ rule.limits.tied.stop) ∙ stop_round note.stop) in
    let own = (rule.limits.told id v at).own in (
      with_deeds v (stop_read (stop_of word)),
      keeps,
      tt,
      load_keeps openings tops limits s id place v (stop_read (stop_of word)) rule at active (stopped_quiet (stop_of word)) (stopped_told note v.own (stop_of word) own is),
      (refl, kept_more note v.own (stop_of word) own.tells is),
    )

-- ---- the keeper's steps

-- what the words say of the keeper's note
keeper_tied : (openings limits : List ℕ) (s : State (Unit {0}) View) (v : View) → KeepsLimits openings limits s → get_elem? s.views 0 ≡ some v → IsTied openings limits s.words v.note
keeper_tied openings limits s v rule at = subst (λ (n : Note). IsTied openings limits s.words n) (first_at s.views v at) rule.tied

-- a look
pub look_ok : (openings tops limits : List ℕ) (slots id sub : ℕ) (me : Me (Unit {0}) View) → id ≡ 0 → sub < length openings → AllowsLook openings tops limits slots id me sub
look_ok openings tops limits slots id sub me first known =
    let P : ℕ → Type 0 = λ k. AllowsLook openings tops limits slots k me sub in
    subst P (sym first) (λ s rule homes at fits.
    let v = me.0 in
    let word = slice_index s.words sub in
    let tied = keeper_tied openings limits s v rule.limits at in
    let is : slice_set s.words sub word ≡ s.words = set-get_or s.words sub 0 in
    let note = looked v.note sub word in
    let kept : Keeps openings tops limits record { words = slice_set s.words sub word; homes = s.homes; views = slice_set s.views 0 (with_note v note) } = record {
      numbers = quiet_numbers openings tops s 0 v (with_note v note) (slice_set s.words sub word) rule.numbers at (ap (λ (ws : List ℕ). length ws) is) (λ k within. ap (λ (ws : List ℕ). slice_index ws k) is) (note_quiet v note);
      limits = limits_noted openings limits s v note (slice_set s.words sub word) s.homes rule.limits at (ap (λ (ws : List ℕ). length ws) is)
          (subst (λ (ws : List ℕ). IsTied openings limits ws note) (sym is) (looked_tied openings limits s.words v.note sub known tied)) (λ d tells. look_tells v.note sub word d tells);
    } in
    (with_note v note, keeps, tt, kept, (refl, (tied.each sub known).looked, get_or-set_same v.note.seen sub word 0 (omega (arith, known, tied.looks)))))
  where
    look_tells : (note : Note) (sub word : ℕ) (d : Deed) → Tells note d → Tells (looked note sub word) d
    look_tells note sub word (Made s e) tells = tt
    look_tells note sub word (Claimed n) tells = tt
    look_tells note sub word (Released s n) tells = tells
    look_tells note sub word (Withheld s n stop) tells = tells
    look_tells note sub word (ReadStop stop) tells = tells

-- a raised limit
pub raise_ok : (openings tops limits : List ℕ) (slots id place sub limit : ℕ) (me : Me (Unit {0}) View) → id ≡ 0 → place ≡ limit_at (length openings) sub → sub < length openings → MayRise me.0.note sub limit
    → AllowsRaise openings tops limits slots id me place sub limit
raise_ok openings tops limits slots id place sub limit me first here known may =
    let P : ℕ → Type 0 = λ k. AllowsRaise openings tops limits slots k me place sub limit in
    let Q : ℕ → Type 0 = λ k. AllowsRaise openings tops limits slots 0 me k sub limit in
    subst P (sym first) (subst Q (sym here) (λ s rule homes at fits.
    let v = me.0 in
    let at_place = limit_at (length openings) sub in
    let word = slice_index s.words at_place in
    let tied = keeper_tied openings limits s v rule.limits at in
    let e = tied.each sub known in
    let up = rises (slice_index limits sub) (slice_index v.note.limits sub) (slice_index v.note.seen sub) (slice_index s.words sub) limit e may.number may.step in
    let is : max word limit ≡ limit = omega (arith, up, tied.limit sub known) in
    let note = raised v.note sub limit in
    let words = slice_set s.words at_place limit in
    let kept : Keeps openings tops limits record { words = words; homes = s.homes; views = slice_set s.views 0 (with_note v note) } = record {
      numbers = quiet_numbers openings tops s 0 v (with_note v note) words rule.numbers at (length-set s.words at_place limit) (λ k within. get_or-set_other s.words at_place k limit 0 (λ same. omega (arith, same, within))) (note_quiet v note);
      limits = limits_noted openings limits s v note words s.homes rule.limits at (length-set s.words at_place limit)
          (raised_tied openings limits s.words v.note sub limit known rule.limits.sized tied may) (raised_tells v.note sub limit (omega (arith, known, tied.sized)) may.running up);
    } in
    let R : ℕ → Type 0 = λ n. Keeps openings tops limits record { words = slice_set s.words at_place n; homes = s.homes; views = slice_set s.views 0 (with_note v note) } in
    (with_note v note, keeps, tt, subst R (sym is) kept, refl)))

-- the stop
pub stop_ok : (openings tops limits : List ℕ) (slots id place word : ℕ) (o : Option Stop) (me : Me (Unit {0}) View) → id ≡ 0 → place ≡ stop_at (length openings) → word ≡ stop_word o → me.0.note.stop ≡ None
    → AllowsStop openings tops limits slots id me place word
stop_ok openings tops limits slots id place word o me first here is running =
    let P : ℕ → Type 0 = λ k. AllowsStop openings tops limits slots k me place word in
    let Q : ℕ → Type 0 = λ k. AllowsStop openings tops limits slots 0 me k word in
    let R : ℕ → Type 0 = λ k. AllowsStop openings tops limits slots 0 me (stop_at (length openings)) k in
    subst P (sym first) (subst Q (sym here) (subst R (sym is) (λ s rule homes at fits.
    let v = me.0 in
    let at_place = stop_at (length openings) in
    let note = ended v.note o in
    let words = slice_set s.words at_place (stop_word o) in
    let kept : Keeps openings tops limits record { words = words; homes = s.homes; views = slice_set s.views 0 (with_note v note) } = record {
      numbers = quiet_numbers openings tops s 0 v (with_note v note) words rule.numbers at (length-set s.words at_place (stop_word o)) (λ k within. get_or-set_other s.words at_place k (stop_word o) 0 (λ same. omega (arith, same, within))) (note_quiet v note);
      limits = limits_noted openings limits s v note words s.homes rule.limits at (length-set s.words at_place (stop_word o))
          (ended_tied openings limits s.words v.note o rule.limits.sized (keeper_tied openings limits s v rule.limits at)) (ended_tells v.note o running);
    } in
    (with_note v note, keeps, tt, kept, ap (λ (p : Option Stop). (with_note v (ended v.note p), me.1)) (sym (stop_round o))))))
