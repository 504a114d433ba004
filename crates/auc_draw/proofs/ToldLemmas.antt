-- What told deeds say of released and withheld numbers, and of the stop.
use Rattle.std.proofs.Common.{◌≡◌, ℕ, ◌<◌, ◌≤◌, ◌==◌, Bool, true, false, if◌then◌else◌, List, [], ◌∷◌, ◌++◌, slice_index, All, Contains, flat_map, Some, refl, subst}
use Rattle.std.proofs.lemmas.Bool.{eqb-true}
use Rattle.std.proofs.lemmas.List.Elements.{All-append, All-map}
use Rattle.auc_memory.specs.declared.stop.Stop.{Stop}
use Rattle.auc_history.specs.declared.entry.Entry.TheVariants.{Drawn}
use Rattle.auc_draw.specs.declared.rule.Deed.{Deed}
use Rattle.auc_draw.specs.declared.rule.Deed.TheVariants.{Made, Claimed, Released, Withheld, ReadStop}
use Rattle.auc_draw.specs.declared.rule.Note.{Note}
use Rattle.auc_draw.specs.Deeds.{entries_of, released_in, released_of, held_by, held_of, withheld_of, stops_by, stops_of}
use Rattle.auc_draw.specs.InnerLimits.{Tells, WasDrawn, AreTold}
use Rattle.auc_draw.proofs.ViewLemmas.{all_cons, all_nil, all_head, all_tail}

module _ {X : Type 0} (f : Deed → List X) (P : Deed → Type 0) (Q : X → Type 0) where
  -- what holds of what each deed has holds of what all have
  all_flat : ((d : Deed) → P d → All Q (f d)) → (deeds : List Deed) → All P deeds → All Q (flat_map f deeds)
  all_flat each [] all = all_nil Q
  all_flat each (d ∷ ds) all = All-append Q (f d) (flat_map f ds) (each d (all_head P d ds all)) (all_flat each ds (all_tail P d ds all))

-- what holds of an element if the test passes holds of the list of it
all_if : {X : Type 0} (Q : X → Type 0) (x : X) (b : Bool) → (b ≡ true → Q x) → All Q (if b then x ∷ [] else [])
all_if Q x true holds = all_cons Q x [] (holds refl) (all_nil Q)
all_if Q x false holds = all_nil Q

-- released numbers
pub released_told : (note : Note) (sub : ℕ) (deeds : List Deed) → AreTold note deeds → All (λ n. n ≤ slice_index note.limits sub) (released_of sub deeds)
released_told note sub deeds told = all_flat (released_in sub) (Tells note) Q by deeds told.tells
  where
    Q : ℕ → Type 0
    Q n = n ≤ slice_index note.limits sub

    by : (d : Deed) → Tells note d → All Q (released_in sub d)
    by (Made s e) tells = all_nil Q
    by (Claimed n) tells = all_nil Q
    by (Released s n) tells = all_if Q n (s == sub) (λ same. subst (λ k. n ≤ slice_index note.limits k) (eqb-true s sub same) tells)
    by (Withheld s n stop) tells = all_nil Q
    by (ReadStop stop) tells = all_nil Q

-- withheld numbers
pub held_told : (note : Note) (sub : ℕ) (deeds : List Deed) → AreTold note deeds → All (λ held. (slice_index note.limits sub < held.0) × (note.stop ≡ Some held.1)) (held_of sub deeds)
held_told note sub deeds told = all_flat (held_by sub) (Tells note) Q by deeds told.tells
  where
    Q : ℕ × Stop → Type 0
    Q held = (slice_index note.limits sub < held.0) × (note.stop ≡ Some held.1)

    by : (d : Deed) → Tells note d → All Q (held_by sub d)
    by (Made s e) tells = all_nil Q
    by (Claimed n) tells = all_nil Q
    by (Released s n) tells = all_nil Q
    by (Withheld s n stop) tells = all_if Q (n, stop) (s == sub) (λ same. (subst (λ k. slice_index note.limits k < n) (eqb-true s sub same) tells.0, tells.1))
    by (ReadStop stop) tells = all_nil Q

-- stops
pub stops_told : (note : Note) (deeds : List Deed) → AreTold note deeds → All (λ stop. note.stop ≡ Some stop) (stops_of deeds)
stops_told note deeds told = all_flat stops_by (Tells note) Q by deeds told.tells
  where
    Q : Stop → Type 0
    Q stop = note.stop ≡ Some stop

    by : (d : Deed) → Tells note d → All Q (stops_by d)
    by (Made s e) tells = all_nil Q
    by (Claimed n) tells = all_nil Q
    by (Released s n) tells = all_nil Q
    by (Withheld s n stop) tells = all_nil Q
    by (ReadStop stop) tells = all_cons Q stop [] tells (all_nil Q)

-- both kinds of number were drawn
pub drawn_told : (note : Note) (sub : ℕ) (deeds : List Deed) → AreTold note deeds → All (λ n. Contains (entries_of sub deeds) (Drawn n)) (released_of sub deeds ++ withheld_of sub deeds)
drawn_told note sub deeds told = All-append Q (released_of sub deeds) (withheld_of sub deeds) (all_flat (released_in sub) (WasDrawn deeds) Q by deeds told.drawn)
    (All-map Q (λ (held : ℕ × Stop). held.0) (held_of sub deeds) (all_flat (held_by sub) (WasDrawn deeds) (λ held. Q held.0) held_by_one deeds told.drawn))
  where
    Q : ℕ → Type 0
    Q n = Contains (entries_of sub deeds) (Drawn n)

    by : (d : Deed) → WasDrawn deeds d → All Q (released_in sub d)
    by (Made s e) drawn = all_nil Q
    by (Claimed n) drawn = all_nil Q
    by (Released s n) drawn = all_if Q n (s == sub) (λ same. subst (λ k. Contains (entries_of k deeds) (Drawn n)) (eqb-true s sub same) drawn)
    by (Withheld s n stop) drawn = all_nil Q
    by (ReadStop stop) drawn = all_nil Q

    held_by_one : (d : Deed) → WasDrawn deeds d → All (λ (held : ℕ × Stop). Q held.0) (held_by sub d)
    held_by_one (Made s e) drawn = all_nil (λ (held : ℕ × Stop). Q held.0)
    held_by_one (Claimed n) drawn = all_nil (λ (held : ℕ × Stop). Q held.0)
    held_by_one (Released s n) drawn = all_nil (λ (held : ℕ × Stop). Q held.0)
    held_by_one (Withheld s n stop) drawn = all_if (λ (held : ℕ × Stop). Q held.0) (n, stop) (s == sub) (λ same. subst (λ k. Contains (entries_of k deeds) (Drawn n)) (eqb-true s sub same) drawn)
    held_by_one (ReadStop stop) drawn = all_nil (λ (held : ℕ × Stop). Q held.0)
