-- For the counters that are told: what an event does to the session of a number, to the other ones and to their places.
use Rattle.std.proofs.Common.{◌≡◌, ◌≢◌, ◌⊎◌, ℕ, zero, suc, ◌+◌, ◌==◌, Bool, true, cond, not, nat_lt, List, [], ◌∷◌, ◌++◌, length, position, Option, Some, None, slice_get, slice_set, refl, sym, ap, ◌∙◌, subst, inl, inr, ⊎_elim, append-nil, length-set}
use Rattle.std.specs.List.{position_or_len}
use Rattle.std.proofs.lemmas.Bool.{cases_eq, eq-eqb, eqb-true}
use Rattle.std.proofs.lemmas.List.Quantifiers.{position-Some}
use Rattle.std.proofs.lemmas.Option.{get_or_from_slice_get, slice_get-get_or, slice_get_within}
use Rattle.auc_server.specs.Laws.{Fits}
use Rattle.auc_server.specs.Server.{ServerEnd}
use Rattle.auc_record.specs.Event.{Came}
use Rattle.auc_world.specs.Came.{session_at, session_of}
use Rattle.auc_world.specs.Net.{Net, session_place}
use Rattle.auc_world.specs.declared.net.Session.{Session}
use Rattle.auc_world.proofs.Facts.{IsQuiet, get_here, get_there}
use Rattle.auc_transcript.specs.Counters.{accepted_noted, resumed_noted}
use Rattle.auc_transcript.proofs.FirstLemmas.{StaysFirst, first_after_push, none_passes, passes_first, pushed_is_first}
use Rattle.auc_transcript.proofs.StayingLemmas.{found_has_number, has_number}
use Rattle.auc_transcript.proofs.ToldTurnLemmas.{FitsIf, accepted_counters, resumed_counters}

-- ---- the places of sessions

-- a session that becomes another one of its number stays in its place
set_position : {X : Type 0} (p : X → Bool) (xs : List X) (t : ℕ) (old new : X) → slice_get xs t ≡ Some old → p new ≡ p old → position p (slice_set xs t new) ≡ position p xs
set_position {X} p xs t old new there same =
    ap (λ (k : ℕ). cond (nat_lt k (length (slice_set xs t new))) (Some k) None) (go xs t there)
    ∙ ap (λ (n : ℕ). cond (nat_lt (position_or_len p xs) n) (Some (position_or_len p xs)) None) (length-set xs t new)
  where
    go : (xs : List X) (t : ℕ) → slice_get xs t ≡ Some old → position_or_len p (slice_set xs t new) ≡ position_or_len p xs
    go [] t there = absurd cc
    go (x ∷ xs) zero there = ap (λ (b : Bool). cond (not b) (1 + position_or_len p xs) 0) (same ∙ ap p (one x old there))
      where
        one : (x y : X) → ◌≡◌ {A = Option X} (Some x) (Some y) → y ≡ x
        one x y e = cc
    go (x ∷ xs) (suc t) there = ap (λ (n : ℕ). cond (not (p x)) (1 + n) 0) (go xs t there)

-- each session is the first of its number
abbrev pub IsUnique : Net → Type 0
IsUnique w = (i : ℕ) (s : Session) → slice_get w.sessions i ≡ Some s → session_place w.sessions s.number ≡ Some i

-- sessions are found by themselves
pub same_found : (w v : Net) → v.sessions ≡ w.sessions → (n : ℕ) → session_of v n ≡ session_of w n
same_found w v e n = by (session_place w.sessions n) refl
  where
    by : (o : Option ℕ) → session_place w.sessions n ≡ o → session_of v n ≡ session_of w n
    by None is = ap (session_at v) (ap (λ (l : List Session). session_place l n) e ∙ is) ∙ sym (ap (session_at w) is)
    by (Some i) is = ap (session_at v) (ap (λ (l : List Session). session_place l n) e ∙ is) ∙ ap (λ (l : List Session). slice_get l i) e ∙ sym (ap (session_at w) is)

-- ---- what is told and what a session has

pub record Fine (resumed accepted : List ℕ) (s : Session) : Type 0 where
  pub taken_up : resumed ≡ resumed_counters s.server
  pub taken : accepted ≡ accepted_counters s.peer
  pub fits : FitsIf s.server
  pub quiet : IsQuiet s.peer

-- of a session that isn't open nothing is told
abbrev pub Agrees : List ℕ → List ℕ → Option Session → Type 0
Agrees resumed accepted None = (resumed ≡ []) × (accepted ≡ [])
Agrees resumed accepted (Some s) = Fine resumed accepted s

more_none : (r a x y : List ℕ) (o : Option Session) → x ≡ [] → y ≡ [] → Agrees r a o → Agrees (r ++ x) (a ++ y) o
more_none r a x y o e f g =
    subst (λ (l : List ℕ). Agrees l (a ++ y) o) (sym (ap (λ (z : List ℕ). r ++ z) e ∙ append-nil r))
    (subst (λ (l : List ℕ). Agrees r l o) (sym (ap (λ (z : List ℕ). a ++ z) f ∙ append-nil a)) g)

-- what an event of the session of a number does
pub record Steps (w v : Net) (k : ℕ) (c : Came) : Type 0 where
  pub others : (n : ℕ) → n ≢ k → session_of v n ≡ session_of w n
  pub own : (r a : List ℕ) → Agrees r a (session_of w k) → Agrees (r ++ resumed_noted c) (a ++ accepted_noted c) (session_of v k)
  pub unique : IsUnique w → IsUnique v

-- what an event does that is in a session, or in none
abbrev pub StepsIn : Net → Net → Option ℕ → Came → Type 0
StepsIn w v None c = (k : ℕ) → Steps w v k c
StepsIn w v (Some k) c = Steps w v k c

pub stays : (w : Net) (k : ℕ) (c : Came) → resumed_noted c ≡ [] → accepted_noted c ≡ [] → Steps w w k c
stays w k c e f = record { others = λ n apart. refl; own = λ r a g. more_none r a (resumed_noted c) (accepted_noted c) (session_of w k) e f g; unique = λ u. u }

-- ---- a session of the number changes

module _ (w v : Net) (k t : ℕ) (old new : Session) (first : session_place w.sessions k ≡ Some t) (there : slice_get w.sessions t ≡ Some old) (same : new.number ≡ old.number)
    (is : v.sessions ≡ slice_set w.sessions t new) where
  places : (n : ℕ) → session_place v.sessions n ≡ session_place w.sessions n
  places n = ap (λ (l : List Session). session_place l n) is ∙ set_position (has_number n) w.sessions t old new there (ap (λ (m : ℕ). m == n) same)

  here : slice_get v.sessions t ≡ Some new
  here = ap (λ (l : List Session). slice_get l t) is ∙ get_here w.sessions t old new there

  elsewhere : (i : ℕ) → i ≢ t → slice_get v.sessions i ≡ slice_get w.sessions i
  elsewhere i apart = ap (λ (l : List Session). slice_get l i) is ∙ get_there w.sessions t i new apart

  number_of : (n i : ℕ) → session_place w.sessions n ≡ Some i → i ≡ t → n ≡ k
  number_of n i at' e =
      sym (eqb-true old.number n (passes_first (has_number n) w.sessions t old (record { first = at' ∙ ap Some e; there = there })))
      ∙ eqb-true old.number k (passes_first (has_number k) w.sessions t old (record { first = first; there = there }))

  others_stay : (n : ℕ) → n ≢ k → session_of v n ≡ session_of w n
  others_stay n apart = by (session_place w.sessions n) refl
    where
      by : (o : Option ℕ) → session_place w.sessions n ≡ o → session_of v n ≡ session_of w n
      by None e = ap (session_at v) (places n ∙ e) ∙ sym (ap (session_at w) e)
      by (Some i) e = ap (session_at v) (places n ∙ e) ∙ elsewhere i (λ same_place. apart (number_of n i e same_place)) ∙ sym (ap (session_at w) e)

  stays_unique : IsUnique w → IsUnique v
  stays_unique u i s at' =
      ⊎_elim
      (λ (e : i ≡ t).
      let one : s ≡ new = one_of s new (sym at' ∙ ap (λ (j : ℕ). slice_get v.sessions j) e ∙ here) in
      places s.number ∙ ap (session_place w.sessions) (ap (λ (x : Session). x.number) one ∙ same) ∙ u t old there ∙ ap Some (sym e))
      (λ (apart : i ≢ t). places s.number ∙ u i s (sym (elsewhere i apart) ∙ at'))
      (cases_eq i t)
    where
      one_of : (x y : Session) → ◌≡◌ {A = Option Session} (Some x) (Some y) → x ≡ y
      one_of x y e = cc

  pub turned : (c : Came) → ((r a : List ℕ) → Fine r a old → Fine (r ++ resumed_noted c) (a ++ accepted_noted c) new) → Steps w v k c
  turned c fine = record {
    others = others_stay;
    own = λ r a g.
        subst (Agrees (r ++ resumed_noted c) (a ++ accepted_noted c)) (sym (ap (session_at v) (places k ∙ first) ∙ here))
        (fine r a (subst (Agrees r a) (ap (session_at w) first ∙ there) g));
    unique = stays_unique;
  }

-- a server that has another state, and resumed what it had resumed
pub server_fine : (r a : List ℕ) (s : Session) (q : ServerEnd) → resumed_counters s.server ≡ resumed_counters (Some q) → Fits q → Fine r a s → Fine (r ++ []) (a ++ []) (record s { server = Some q })
server_fine r a s q e fits f = record { taken_up = append-nil r ∙ f.taken_up ∙ e; taken = append-nil a ∙ f.taken; fits = fits; quiet = f.quiet }

-- ---- a session that is opened

module _ (w v : Net) (k : ℕ) (new : Session) (none : session_place w.sessions k ≡ None) (numbered : new.number ≡ k) (is : v.sessions ≡ w.sessions ++ new ∷ []) where
  pushed : StaysFirst (has_number k) (w.sessions ++ new ∷ []) (length w.sessions) new
  pushed = pushed_is_first (has_number k) w.sessions new none (ap (λ (n : ℕ). n == k) numbered ∙ same_number k)
    where
      same_number : (n : ℕ) → (n == n) ≡ true
      same_number n = eq-eqb n n refl

  -- where it is found
  first_in : (n i : ℕ) (s : Session) → StaysFirst (has_number n) (w.sessions ++ new ∷ []) i s → session_of v n ≡ Some s
  first_in n i s f = ap (session_at v) (ap (λ (l : List Session). session_place l n) is ∙ f.first) ∙ ap (λ (l : List Session). slice_get l i) is ∙ f.there

  -- a session at a place is an old one, or the new one
  either : (i : ℕ) (s : Session) → slice_get (w.sessions ++ new ∷ []) i ≡ Some s → (slice_get w.sessions i ≡ Some s) ⊎ ((i ≡ length w.sessions) × (s ≡ new))
  either i s at' = go w.sessions i at'
    where
      one_of : (x y : Session) → ◌≡◌ {A = Option Session} (Some x) (Some y) → y ≡ x
      one_of x y e = cc

      no_session : (x : Session) → ◌≡◌ {A = Option Session} None (Some x) → ⊥
      no_session x e = cc

      go : (xs : List Session) (i : ℕ) → slice_get (xs ++ new ∷ []) i ≡ Some s → (slice_get xs i ≡ Some s) ⊎ ((i ≡ length xs) × (s ≡ new))
      go [] zero at' = inr (refl, one_of new s at')
      go [] (suc i) at' = absurd (no_session s at')
      go (x ∷ xs) zero at' = inl at'
      go (x ∷ xs) (suc i) at' = ⊎_elim (λ (e : slice_get xs i ≡ Some s). inl e) (λ (e : (i ≡ length xs) × (s ≡ new)). inr (ap suc e.0, e.1)) (go xs i at')

  others_found : (n : ℕ) → n ≢ k → session_of v n ≡ session_of w n
  others_found n apart = by (session_of w n) refl
    where
      found : (i : ℕ) (s : Session) → StaysFirst (has_number n) w.sessions i s → session_of v n ≡ Some s
      found i s f = first_in n i s (first_after_push (has_number n) w.sessions i s new f)

      some_of : (s : Session) → session_of w n ≡ Some s → (o : Option ℕ) → session_place w.sessions n ≡ o → session_at w o ≡ Some s → session_of v n ≡ Some s
      some_of s e None first at' = absurd cc
      some_of s e (Some i) first at' = found i s (record { first = first; there = at' })

      -- none of the number is among them
      lost : (o : Option Session) → session_of w n ≡ None → session_of v n ≡ o → o ≡ None
      lost None e f = refl
      lost (Some s) e f =
          let (i, there, has) = found_has_number v n s f in
          absurd (⊎_elim
          (λ (old : slice_get w.sessions i ≡ Some s). no_old i s old has)
          (λ (fresh : (i ≡ length w.sessions) × (s ≡ new)). apart (sym (eqb-true s.number n has) ∙ ap (λ (x : Session). x.number) fresh.1 ∙ numbered))
          (either i s (subst (λ (l : List Session). slice_get l i ≡ Some s) is there)))
        where
          no_place : (o : Option ℕ) → session_place w.sessions n ≡ o → session_at w o ≡ None → session_place w.sessions n ≡ None
          no_place None first at' = first
          no_place (Some i) first at' =
              let some = slice_get-get_or w.sessions i s (position-Some (has_number n) w.sessions i s first).0 in
              let no : ⊥ = cc in
              absurd no

          no_old : (i : ℕ) (s : Session) → slice_get w.sessions i ≡ Some s → has_number n s ≡ true → ⊥
          no_old i s old has =
              let fails = none_passes (has_number n) w.sessions (no_place (session_place w.sessions n) refl e) i s (slice_get_within w.sessions i s old) in
              let passes = ap (has_number n) (get_or_from_slice_get w.sessions i s s old) ∙ has in
              cc

      by : (o : Option Session) → session_of w n ≡ o → session_of v n ≡ o
      by None e = lost (session_of v n) e refl
      by (Some s) e = some_of s e (session_place w.sessions n) refl e

  opened_unique : IsUnique w → IsUnique v
  opened_unique u i s at' =
      let there = subst (λ (l : List Session). slice_get l i ≡ Some s) is at' in
      ap (λ (l : List Session). session_place l s.number) is
      ∙ ⊎_elim
      (λ (old : slice_get w.sessions i ≡ Some s). (first_after_push (has_number s.number) w.sessions i s new (record { first = u i s old; there = old })).first)
      (λ (fresh : (i ≡ length w.sessions) × (s ≡ new)).
      ap (session_place (w.sessions ++ new ∷ [])) (ap (λ (x : Session). x.number) fresh.1 ∙ numbered) ∙ pushed.first ∙ ap Some (sym fresh.0))
      (either i s there)

  pub opened_steps : (c : Came) → resumed_noted c ≡ [] → accepted_noted c ≡ [] → Fine [] [] new → Steps w v k c
  opened_steps c e f fine = record {
    others = others_found;
    own = λ r a g.
        let nothing : Agrees r a None = subst (Agrees r a) (ap (session_at w) none) g in
        more_none r a (resumed_noted c) (accepted_noted c) (session_of v k) e f
        (subst (Agrees r a) (sym (first_in k (length w.sessions) new pushed))
        (subst (λ (l : List ℕ). Fine l a new) (sym nothing.0) (subst (λ (l : List ℕ). Fine [] l new) (sym nothing.1) fine)));
    unique = opened_unique;
  }
