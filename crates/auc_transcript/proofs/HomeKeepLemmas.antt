-- For the law of contexts: the moves of one home go on with each event. Each full authentication has a number that was drawn once,
-- and each identity the name of a new ordinal.
use Rattle.std.proofs.Common.{◌≡◌, ◌≢◌, ◌⊎◌, ℕ, suc, ◌+◌, ◌^◌, ◌<◌, ◌≤◌, ◌==◌, Bool, true, false, cond, List, [], ◌∷◌, ◌++◌, All, Option, Some, None, refl, sym, ap, ◌∙◌, subst, arith, ⊎_elim, append_assoc}
use Rattle.std.specs.Prelude.{IsPermutation}
use Rattle.std.proofs.lemmas.Bool.{eq-eqb}
use Rattle.std.proofs.lemmas.List.Concat.{flat_map-append}
use Rattle.std.proofs.lemmas.List.Elements.{All-cons, All-nil, All-weaker}
use Rattle.std.proofs.lemmas.List.Sorted.{IsPermutation-append_comm, IsPermutation-append_left, IsPermutation-append_right, IsPermutation-trans}
use Rattle.auc_aes.specs.Bytes.{IsBlock}
use Rattle.auc_hmac.specs.declared.method.Method.{Method}
use Rattle.auc_history.proofs.Facts.{times-append, times-cons}
use Rattle.auc_history.specs.Split.{times}
use Rattle.auc_ident.specs.Names.{AreNameable, EqualNamesAreOne, name_text}
use Rattle.auc_ident.specs.Ordinals.{last_ordinal}
use Rattle.auc_ident.specs.declared.names.NameKind.TheVariants as kinds
use Rattle.auc_reauth.specs.Machine.{Accept, Adopt, Challenge, GivesNew, HomePast, IsFresh, IsNew, Lose, Move, Places, Resume, Used, Win, with_place}
use Rattle.auc_reauth.specs.declared.context.Context.{Context}
use Rattle.auc_server.specs.Moves.{IsNewName, moved_by}
use Rattle.auc_subs.specs.Setting.{Setting}
use Rattle.auc_server.specs.declared.setting.HomeRow.{HomeRow}
use Rattle.auc_vector.specs.declared.notes.Notes.{Notes}
use Rattle.auc_vector.specs.declared.notes.NumberNote.TheVariants as number
use Rattle.auc_record.specs.Lines.{numbers_of, released_by}
use Rattle.auc_world.specs.Places.{IsHomeMove, MakesOneMove, only}
use Rattle.auc_record.specs.declared.record.LineRecord.{LineRecord}
use Rattle.auc_transcript.proofs.HomeEventLemmas.{other_place, same_place}
use Rattle.auc_transcript.proofs.MoveFoldLemmas.{AreLedTo, at_same, led_alike, led_on}

-- ---- what is kept of a home

-- what the moves of a home meet
abbrev pub AtHome : Move → HomePast → Type 0
AtHome m w = IsFresh m w × GivesNew m w

-- the re-authentication identity of an ordinal up to one
pub record IsNameUpTo (names : List ℕ) (m : Method) (sub top : ℕ) (identity : List ℕ) : Type 0 where
  pub few : sub < 2 ^ 32
  pub ordinal : ℕ
  pub below : ordinal ≤ top
  pub is : identity ≡ name_text names kinds.Reauth m sub ordinal

-- moves from nothing lead to the places of a home, with numbers that some lines drew for its subscriber, each as often at most, and
-- with names of ordinals that the home has used
pub record KeepsHome (set : Setting) (m : Method) (sub top : ℕ) (places : Places) (used : List Used) (lines : List LineRecord) : Type 0 where
  pub origins : List ℕ
  pub given : List (List ℕ)
  pub led : AreLedTo AtHome places used origins given
  pub drawn : (n : ℕ) → times n origins ≤ times n (numbers_of sub lines)
  pub named : All (IsNameUpTo set.names m sub top) given

-- each number is drawn for the subscriber once at most
abbrev pub AreOnce : ℕ → List LineRecord → Type 0
AreOnce sub lines = (n : ℕ) → times n (numbers_of sub lines) ≤ 1

pub numbers_in_both : (sub n : ℕ) (front rest : List LineRecord) → times n (numbers_of sub (front ++ rest)) ≡ times n (numbers_of sub front) + times n (numbers_of sub rest)
numbers_in_both sub n front rest = ap (times n) (flat_map-append (released_by sub) front rest) ∙ times-append n (numbers_of sub front) (numbers_of sub rest)

pub once_before : (sub : ℕ) (front rest : List LineRecord) → AreOnce sub (front ++ rest) → AreOnce sub front
once_before sub front rest once n = let all = once n in let cut = numbers_in_both sub n front rest in omega (arith, all, cut)

none_counted : (n : ℕ) (xs : List ℕ) → times n xs ≡ 0 → IsNew n xs
none_counted n [] none = All-nil (λ (y : ℕ). y ≢ n)
none_counted n (x ∷ xs) none = by (x == n) refl (none_counted n xs)
  where
    by : (b : Bool) → (x == n) ≡ b → (times n xs ≡ 0 → IsNew n xs) → IsNew n (x ∷ xs)
    by true e rest = let cut = times-cons n x xs in let one : ◌≡◌ {A = ℕ} (cond (x == n) 1 0) 1 = rw e refl in absurd (omega (arith, cut, one, none))
    by false e rest = let cut = times-cons n x xs in All-cons (λ (y : ℕ). y ≢ n) x xs (other_place x n e) (rest (omega (arith, cut, none)))

-- an element that was counted before comes before others
between : {X : Type 0} (added past before since : List X) → IsPermutation (added ++ before) since → IsPermutation (added ++ (past ++ before)) (past ++ since)
between {X} added past before since same =
    let swapped : IsPermutation ((added ++ past) ++ before) ((past ++ added) ++ before) =
    IsPermutation-append_left before (added ++ past) (past ++ added) (IsPermutation-append_comm added past) in
    let left : IsPermutation (added ++ (past ++ before)) ((past ++ added) ++ before) =
    subst (λ (l : List X). IsPermutation l ((past ++ added) ++ before)) (append_assoc added past before) swapped in
    let both : IsPermutation (added ++ (past ++ before)) (past ++ (added ++ before)) = subst (IsPermutation (added ++ (past ++ before))) (append_assoc past added before) left in
    IsPermutation-trans (added ++ (past ++ before)) (past ++ (added ++ before)) (past ++ since) both (IsPermutation-append_right past (added ++ before) since same)

-- a context that is put where it is changes nothing
put_again : (p : ℕ) (c : Option Context) (places : Places) → places p ≡ c → (i : ℕ) → with_place p c places i ≡ places i
put_again p c places is i = by (i == p) refl
  where
    by : (b : Bool) → (i == p) ≡ b → cond b c (places i) ≡ places i
    by true e = sym is ∙ ap places (sym (same_place i p e))
    by false e = refl

-- names of more ordinals
pub names_upto : (names : List ℕ) (m : Method) (sub low high : ℕ) (given : List (List ℕ)) → low ≤ high → All (IsNameUpTo names m sub low) given → All (IsNameUpTo names m sub high) given
names_upto names m sub low high given least all =
    All-weaker (IsNameUpTo names m sub low) (IsNameUpTo names m sub high)
    (λ y is. record { few = is.few; ordinal = is.ordinal; below = let below = is.below in omega (arith, below, least); is = is.is }) given all

-- ---- one event

module _ (law : EqualNamesAreOne) (set : Setting) (block : IsBlock set.names) (m : Method) (sub : ℕ) (few : sub < 2 ^ 32) where
  nameable : (ordinal : ℕ) → ordinal ≤ last_ordinal → AreNameable sub ordinal
  nameable ordinal least = record { four = few; six = let most : ◌≡◌ {A = ℕ} (2 ^ 48) 281474976710656 = refl in omega (arith, least, most) }

  -- the name of an ordinal that wasn't used before is none of those that were given
  new_name : (home later : HomeRow) (identity : List ℕ) (given : List (List ℕ)) → home.sub ≡ sub → later.ordinals ≤ last_ordinal → IsNewName set.names m home later identity
      → All (IsNameUpTo set.names m sub home.ordinals) given → IsNew identity given
  new_name home later identity given own within new all =
      All-weaker (IsNameUpTo set.names m sub home.ordinals) (λ (y : List ℕ). y ≢ identity) (λ y is same. one y is same) given all
    where
      one : (y : List ℕ) → IsNameUpTo set.names m sub home.ordinals y → y ≢ identity
      one y is same =
          let below = is.below in
          let above = new.above in
          let used = new.used in
          let names = sym is.is ∙ same ∙ new.is ∙ ap (λ (s : ℕ). name_text set.names kinds.Reauth m s new.ordinal) own in
          let equal = (law set.names kinds.Reauth kinds.Reauth m m sub sub is.ordinal new.ordinal block (nameable is.ordinal (omega (arith, below, above, used, within)))
          (nameable new.ordinal (omega (arith, used, within))) names).ordinal in
          omega (arith, below, above, equal)

  named_now : (home later : HomeRow) (identity : List ℕ) → home.sub ≡ sub → IsNewName set.names m home later identity → IsNameUpTo set.names m sub later.ordinals identity
  named_now home later identity own new = record {
    few = few;
    ordinal = new.ordinal;
    below = new.used;
    is = new.is ∙ ap (λ (s : ℕ). name_text set.names kinds.Reauth m s new.ordinal) own;
  }

  module _ (old new : Places) (past before since : List Used) (home later : HomeRow) (notes : Notes) (lines more : List LineRecord) (own : home.sub ≡ sub)
      (rises : home.ordinals ≤ later.ordinals) (within : later.ordinals ≤ last_ordinal) (once : AreOnce sub (lines ++ more))
      (asks : (t : ℕ) (c : Context) (n : ℕ) → new (suc t) ≡ Some c → notes.number ≡ Some (number.Drew n) → (old (suc t) ≡ Some c) ⊎ (numbers_of sub more ≡ n ∷ []))
      (k : KeepsHome set m sub home.ordinals old (past ++ before) lines) where
    more_numbers : (n : ℕ) → times n k.origins ≤ times n (numbers_of sub (lines ++ more))
    more_numbers n = let drawn = k.drawn n in let cut = numbers_in_both sub n lines more in omega (arith, drawn, cut)

    -- no context comes
    goes_on : (move : Option Move) → ((i : ℕ) → new i ≡ (moved_by move (only old)).place i) → IsPermutation ((moved_by move (only old)).used ++ (past ++ before)) (past ++ since)
        → AreLedTo AtHome new (past ++ since) k.origins k.given → KeepsHome set m sub later.ordinals new (past ++ since) (lines ++ more)
    goes_on move places used led = record {
      origins = k.origins;
      given = k.given;
      led = led;
      drawn = more_numbers;
      named = names_upto set.names m sub home.ordinals later.ordinals k.given rises k.named;
    }

    -- a context of a new number, under a new name
    challenges : (t : ℕ) (c : Context) → ((i : ℕ) → new i ≡ (moved_by (Some (Challenge t c)) (only old)).place i) → IsPermutation (past ++ before) (past ++ since)
        → IsNewName set.names m home later c.identity → numbers_of sub more ≡ c.origin ∷ [] → KeepsHome set m sub later.ordinals new (past ++ since) (lines ++ more)
    challenges t c places used name numbers = record {
      origins = c.origin ∷ k.origins;
      given = c.identity ∷ k.given;
      led = led_on AtHome old new (past ++ before) (past ++ since) k.origins k.given (Some (Challenge t c)) places used
          (λ w has. (subst (IsNew c.origin) (sym has.origins_are) fresh, subst (IsNew c.identity) (sym has.given_are) (new_name home later c.identity k.given own within name k.named))) k.led;
      drawn = counted;
      named = All-cons (IsNameUpTo set.names m sub later.ordinals) c.identity k.given (named_now home later c.identity own name)
          (names_upto set.names m sub home.ordinals later.ordinals k.given rises k.named);
    }
      where
        counted : (n : ℕ) → times n (c.origin ∷ k.origins) ≤ times n (numbers_of sub (lines ++ more))
        counted n =
            let drawn = k.drawn n in
            let cut = numbers_in_both sub n lines more in
            let one = ap (times n) numbers in
            let last = times-cons n c.origin [] in
            let first = times-cons n c.origin k.origins in
            omega (arith, drawn, cut, one, last, first)

        fresh : IsNew c.origin k.origins
        fresh =
            let n = c.origin in
            let drawn = k.drawn n in
            let cut = numbers_in_both sub n lines more in
            let one = ap (times n) numbers in
            let last = times-cons n n [] in
            let here : ◌≡◌ {A = ℕ} (cond (n == n) 1 0) 1 = rw (eq-eqb n n refl) refl in
            let all = once n in
            none_counted n k.origins (omega (arith, drawn, cut, one, last, here, all))

    -- the next identity of a re-authentication
    resumes : (t : ℕ) (identity : List ℕ) → ((i : ℕ) → new i ≡ (moved_by (Some (Resume t (Some identity))) (only old)).place i)
        → IsPermutation ((moved_by (Some (Resume t (Some identity))) (only old)).used ++ (past ++ before)) (past ++ since) → IsNewName set.names m home later identity
        → KeepsHome set m sub later.ordinals new (past ++ since) (lines ++ more)
    resumes t identity places used name = record {
      origins = k.origins;
      given = identity ∷ k.given;
      led = led_on AtHome old new (past ++ before) (past ++ since) k.origins k.given (Some (Resume t (Some identity))) places used
          (λ w has. (tt, subst (IsNew identity) (sym has.given_are) (new_name home later identity k.given own within name k.named))) k.led;
      drawn = more_numbers;
      named = All-cons (IsNameUpTo set.names m sub later.ordinals) identity k.given (named_now home later identity own name)
          (names_upto set.names m sub home.ordinals later.ordinals k.given rises k.named);
    }

    by_move : (move : Option Move) → IsHomeMove set m home later notes move → ((i : ℕ) → new i ≡ (moved_by move (only old)).place i)
        → IsPermutation ((moved_by move (only old)).used ++ (past ++ before)) (past ++ since) → KeepsHome set m sub later.ordinals new (past ++ since) (lines ++ more)
    by_move None allowed places used = goes_on None places used (led_on AtHome old new (past ++ before) (past ++ since) k.origins k.given None places used tt k.led)
    by_move (Some (Challenge t c)) allowed places used =
        let now = places (suc t) ∙ at_same (suc t) (Some c) old in
        ⊎_elim
        (λ (there : old (suc t) ≡ Some c).
        let same : (i : ℕ) → new i ≡ old i = λ i. places i ∙ put_again (suc t) (Some c) old there i in
        goes_on None same used (led_alike AtHome old new (past ++ before) (past ++ since) k.origins k.given same used k.led))
        (λ (numbers : numbers_of sub more ≡ c.origin ∷ []). challenges t c places used allowed.2 numbers) (asks t c c.origin now allowed.0)
    by_move (Some (Resume t None)) allowed places used =
        goes_on (Some (Resume t None)) places used
        (led_on AtHome old new (past ++ before) (past ++ since) k.origins k.given (Some (Resume t None)) places used (λ w has. (tt, tt)) k.led)
    by_move (Some (Resume t (Some identity))) allowed places used = resumes t identity places used allowed
    by_move (Some (Accept counter)) allowed places used = absurd allowed
    by_move (Some (Adopt identity)) allowed places used = absurd allowed
    by_move (Some (Win t)) allowed places used =
        goes_on (Some (Win t)) places used (led_on AtHome old new (past ++ before) (past ++ since) k.origins k.given (Some (Win t)) places used (λ w has. (tt, tt)) k.led)
    by_move (Some (Lose t)) allowed places used =
        goes_on (Some (Lose t)) places used (led_on AtHome old new (past ++ before) (past ++ since) k.origins k.given (Some (Lose t)) places used (λ w has. (tt, tt)) k.led)

    pub home_goes_on : MakesOneMove old new before since (IsHomeMove set m home later notes) → KeepsHome set m sub later.ordinals new (past ++ since) (lines ++ more)
    home_goes_on one = by_move one.move one.is_allowed one.places (between (moved_by one.move (only old)).used past before since one.used)
