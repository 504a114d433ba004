-- What the calls on a pass answer, and what they add to its deeds.
use Rattle.std.specs.Prelude.{◌≡◌, ℕ, ◌+◌, ◌<◌, ◌≤◌, List, [], ◌∷◌, ◌++◌, All, Option, Some, None}
use Rattle.auc_history.specs.declared.entry.Entry.{Entry}
use Rattle.auc_history.specs.declared.entry.Entry.TheVariants.{Drawn, Moved as moved, Look}
use Rattle.auc_draw.specs.declared.rule.Deed.{Deed}
use Rattle.auc_draw.specs.declared.rule.Deed.TheVariants.{Claimed, Released as released}
use Rattle.auc_draw.specs.declared.pass.Draw.{Draw}
use Rattle.auc_draw.specs.declared.pass.Draw.TheVariants.{Number, Exhausted}
use Rattle.auc_draw.specs.declared.pass.Jump.{Jump}
use Rattle.auc_draw.specs.declared.pass.Jump.TheVariants.{Moved, Stood}
use Rattle.auc_draw.specs.declared.pass.Release.{Release}
use Rattle.auc_draw.specs.declared.pass.Release.TheVariants.{Released, Above}
use Rattle.auc_draw.specs.Deeds.{kept_of, kept_stop, claims_of, made, withholding}
use Rattle.auc_draw.specs.Values.{PassValue}

-- the word is the kept one, if one is kept
abbrev pub IsWordKept : Option ℕ → ℕ → Type 0
IsWordKept None word = Unit {0}
IsWordKept (Some w) word = word ≡ w

-- the entries that a call makes, or none if a word is kept
abbrev pub unless_kept : Option ℕ → List Entry → List Entry
unless_kept None entries = entries
unless_kept (Some w) entries = []

-- a draw of a subscriber with this greatest number: a number, if no word is kept; or the word that was found, no lower
-- than the greatest number, which is kept from then on, and the mark above it, or again the word that is kept, and no entry
abbrev pub Draws : ℕ → ℕ → List Deed → List Deed → Draw → Type 0
Draws top sub old new (Number n) = (kept_of top old sub ≡ None) × (1 ≤ n) × (n ≤ top)
    × (new ≡ old ++ made sub (Drawn n ∷ [])) × (kept_of top new sub ≡ None)
Draws top sub old new (Exhausted w) = (top ≤ w) × IsWordKept (kept_of top old sub) w
    × (new ≡ old ++ made sub (unless_kept (kept_of top old sub) (Drawn (w + 1) ∷ []))) × (kept_of top new sub ≡ Some w)

-- a jump to a number of a subscriber with this greatest number: a move from the lower word that was found, if no word is
-- kept; or the word that was found, no lower than the number, as a look, or again the word that is kept, and no entry
abbrev pub Jumps : ℕ → ℕ → ℕ → List Deed → List Deed → Jump → Type 0
Jumps top sub to old new (Moved from) = (kept_of top old sub ≡ None) × (from < to) × (new ≡ old ++ made sub (moved from to ∷ []))
Jumps top sub to old new (Stood seen) = IsWordKept (kept_of top old sub) seen × (to ≤ seen)
    × (new ≡ old ++ made sub (unless_kept (kept_of top old sub) (Look seen ∷ [])))

-- the number that ended a pass's claims, if they have ended, is that of no job
abbrev pub EndsAbove : ℕ → Option ℕ → Type 0
EndsAbove jobs None = Unit {0}
EndsAbove jobs (Some n) = jobs ≤ n

-- the number of an answer without a job: it was claimed now, or it is the one that ended the claims before
abbrev pub EndsClaims : ℕ → Option ℕ → List Deed → List Deed → ℕ → Type 0
EndsClaims jobs None old new n = new ≡ old ++ Claimed n ∷ []
EndsClaims jobs (Some k) old new n = (new ≡ old) × (n ≡ k)

-- a claim: a job above all that this pass claimed before; or none, if the number is that of no job
abbrev pub ClaimsJob : ℕ → PassValue → PassValue → Option ℕ → Type 0
ClaimsJob jobs old new (Some job) = (old.ended ≡ None) × (job < jobs) × (new.deeds ≡ old.deeds ++ Claimed job ∷ [])
    × (new.ended ≡ None) × All (λ n. n < job) (claims_of old.deeds)
ClaimsJob jobs old new None = (n : ℕ) × (jobs ≤ n) × (new.ended ≡ Some n) × EndsClaims jobs old.ended old.deeds new.deeds n

-- a number that is to be released: it was, or the limit that was found is below it, and the number is withheld if a stop
-- was read before
abbrev pub Releases : ℕ → ℕ → List Deed → List Deed → Release → Type 0
Releases sub n old new Released = new ≡ old ++ released sub n ∷ []
Releases sub n old new (Above limit) = (limit < n) × (new ≡ old ++ withholding sub n (kept_stop old))
