-- For the law of contexts: over all jobs and rounds no server resumes a counter twice, and no identity is resumed twice.
use Rattle.std.proofs.Common.{◌≡◌, ◌≢◌, ℕ, zero, suc, ◌^◌, ◌<◌, ◌≤◌, Bool, true, false, cond, List, [], ◌∷◌, ◌++◌, length, map, All, AllPairs, Option, Some, None, refl, sym, ap, ◌∙◌, subst, arith, append-nil}
use Rattle.std.specs.Option.{option_to_list}
use Rattle.std.proofs.lemmas.Bool.{eq-eqb}
use Rattle.std.proofs.lemmas.List.{length-map}
use Rattle.std.proofs.lemmas.List.Elements.{All-cons, All-head, All-nil, All-tail, All-weaker}
use Rattle.std.proofs.lemmas.List.Sorted.{IsPermutation-refl}
use Rattle.auc_aes.specs.Bytes.{IsBlock}
use Rattle.auc_memory.specs.declared.stop.Stop.{Stop}
use Rattle.auc_hmac.specs.declared.method.Method.{Method}
use Rattle.auc_hmac.specs.declared.method.Method.TheVariants as method
use Rattle.auc_history.proofs.Facts.{AllPairs-cons, AllPairs-head}
use Rattle.auc_ident.specs.Names.{AreNameable, EqualNamesAreOne}
use Rattle.auc_ident.specs.Ordinals.{last_ordinal}
use Rattle.auc_ident.specs.declared.names.NameKind.TheVariants as kinds
use Rattle.auc_lines.specs.declared.part.Part.{Part}
use Rattle.auc_reauth.specs.Machine.{AreDifferent, EachCounterOnce, EachIdentityOnce, HaveOwnNames, Used, used_by}
use Rattle.auc_reauth.specs.Store.{entry}
use Rattle.auc_server.specs.Laws.{OrdinalsRise}
use Rattle.auc_server.specs.Server.{ServerEnd, resumed_of}
use Rattle.auc_subs.specs.Setting.{Setting}
use Rattle.auc_server.specs.declared.server.Resumed.{Resumed}
use Rattle.auc_subs.specs.Subscriber.{AreSubscribers}
use Rattle.auc_subs.specs.declared.row.Row.{Row}
use Rattle.auc_world.specs.Net.{Net, same_method}
use Rattle.auc_world.specs.Places.{EachEventMovesHomesOnce}
use Rattle.auc_world.specs.Resumption.{AreApart, AreResumedOnce, counters_in, counters_resumed, resumed_for, resumed_in, resumptions}
use Rattle.auc_world.specs.Start.{Kept, fresh_kept, kept_of}
use Rattle.auc_world.specs.Transcript.{IsLawful, lines_of}
use Rattle.auc_world.specs.declared.net.Session.{Session}
use Rattle.auc_record.specs.declared.record.PartRecord.{PartRecord}
use Rattle.auc_transcript.specs.Counters.{IdentitiesComeOnce, all_sessions}
use Rattle.auc_transcript.specs.Keys.{AreNets, IsHeldApart}
use Rattle.auc_transcript.proofs.HomeJobLemmas.{HomeState, home_busy, home_idle}
use Rattle.auc_transcript.proofs.HomeKeepLemmas.{AtHome, IsNameUpTo, names_upto}
use Rattle.auc_transcript.proofs.ListLemmas.{AllPairs-right}
use Rattle.auc_transcript.proofs.MoveFoldLemmas.{led_alike, led_counters_differ, led_named, led_names_differ, led_to_nothing, stored_alone}
use Rattle.auc_transcript.proofs.RoundFoldLemmas.{rounds_fold}
use Rattle.auc_transcript.proofs.VectorLemmas.{released_once}

-- the laws of single turns, events and names that those of transcripts stand on
pub record HomeLaws : Type 0 where
  pub rise : OrdinalsRise
  pub names : EqualNamesAreOne
  pub moves : EachEventMovesHomesOnce
  pub identities : EachIdentityOnce

-- ---- all jobs and rounds

kept_first : (rows : List Row) (sub : ℕ) → kept_of (map (λ (row : Row). fresh_kept) rows) sub ≡ fresh_kept
kept_first [] sub = refl
kept_first (row ∷ rows) zero = refl
kept_first (row ∷ rows) (suc sub) = kept_first rows sub

begins_empty : (set : Setting) (m : Method) (sub : ℕ) → HomeState set m sub [] fresh_kept []
begins_empty set m sub = record {
  keeps = record {
    origins = [];
    given = [];
    led = led_alike AtHome (λ i. None) (stored_alone (entry m fresh_kept.home)) [] [] [] [] (places m) (IsPermutation-refl []) (led_to_nothing AtHome);
    drawn = λ n. omega arith;
    named = All-nil (IsNameUpTo set.names m sub fresh_kept.ordinals);
  };
  within = omega arith;
}
  where
    places : (m : Method) (i : ℕ) → stored_alone (entry m fresh_kept.home) i ≡ None
    places method.Aka zero = refl
    places method.Prime zero = refl
    places m (suc t) = refl

module _ (laws : HomeLaws) (set : Setting) (reserved : List ℕ) (stop : Option Stop) (parts : List Part) (records : List PartRecord) (nets : List (List Net)) (are : AreSubscribers set.rows)
    (block : IsBlock set.names) (held : All (IsHeldApart (length set.rows)) parts) (lawful : IsLawful set reserved stop parts records) (lead : AreNets set parts records nets) where
  home_ends : (m : Method) (sub : ℕ) → (k : Kept) × HomeState set m sub (lines_of records) k (all_sessions nets)
  home_ends m sub =
      rounds_fold set sub (lines_of records) (HomeState set m sub) (home_idle laws.rise set m sub)
      (λ early kept beside job lines net all sessions gives known has front size h.
      let inside = known sub has in
      let limit = are.limit in
      let most : ◌≡◌ {A = ℕ} (2 ^ 32) 4294967296 = refl in
      home_busy laws.rise laws.names laws.moves set block m sub (omega (arith, inside, limit, most)) (lines_of records)
      (released_once set reserved stop parts records sub lawful inside) early kept beside job lines net all sessions gives known has front size h)
      [] (map (λ (row : Row). fresh_kept) set.rows) parts records nets [] lead held ([], sym (append-nil (lines_of records))) (length-map set.rows (λ (row : Row). fresh_kept))
      (subst (λ (k : Kept). HomeState set m sub [] k []) (sym (kept_first set.rows sub)) (begins_empty set m sub))

  -- no server resumes a counter twice under the keys of one full authentication
  pub resumed_differ : EachCounterOnce → (m : Method) (sub : ℕ) → AllPairs AreDifferent (counters_resumed m sub (all_sessions nets))
  resumed_differ counters m sub =
      let (k, h) = home_ends m sub in
      led_counters_differ counters AtHome (stored_alone (entry m k.home)) (counters_resumed m sub (all_sessions nets)) h.keeps.origins h.keeps.given (λ x w meets. meets.0) h.keeps.led

  names_differ : (m : Method) (sub : ℕ) → AllPairs HaveOwnNames (counters_resumed m sub (all_sessions nets))
  names_differ m sub =
      let (k, h) = home_ends m sub in
      led_names_differ laws.identities AtHome (stored_alone (entry m k.home)) (counters_resumed m sub (all_sessions nets)) h.keeps.origins h.keeps.given (λ x w meets. meets.1) h.keeps.led

  all_named : (m : Method) (sub : ℕ) → All (λ u. IsNameUpTo set.names m sub last_ordinal u.identity) (counters_resumed m sub (all_sessions nets))
  all_named m sub =
      let (k, h) = home_ends m sub in
      let upto = names_upto set.names m sub k.ordinals last_ordinal h.keeps.given h.within h.keeps.named in
      led_named (IsNameUpTo set.names m sub last_ordinal) AtHome (stored_alone (entry m k.home)) (counters_resumed m sub (all_sessions nets)) h.keeps.origins h.keeps.given (λ x w meets. meets.1) h.keeps.led upto

  -- names of two methods are different
  methods_apart : (m n : Method) (sub : ℕ) (a b : List ℕ) → m ≢ n → IsNameUpTo set.names m sub last_ordinal a → IsNameUpTo set.names n sub last_ordinal b → a ≢ b
  methods_apart m n sub a b other x y same =
      other (laws.names set.names kinds.Reauth kinds.Reauth m n sub sub x.ordinal y.ordinal block (nameable x.few x.ordinal x.below) (nameable y.few y.ordinal y.below) (sym x.is ∙ same ∙ y.is)).method
    where
      nameable : sub < 2 ^ 32 → (ordinal : ℕ) → ordinal ≤ last_ordinal → AreNameable sub ordinal
      nameable few ordinal least = record { four = few; six = let most : ◌≡◌ {A = ℕ} (2 ^ 48) 281474976710656 = refl in omega (arith, least, most) }

-- ---- identities

-- names of two methods are apart, whatever names are
abbrev AreApartByMethod : (Method → ℕ → List ℕ → Type 0) → Type 0
AreApartByMethod Named = (m n : Method) (sub : ℕ) (a b : List ℕ) → m ≢ n → Named m sub a → Named n sub b → a ≢ b

method_same : (m : Method) → same_method m m ≡ true
method_same method.Aka = refl
method_same method.Prime = refl

method_is : (m other : Method) → same_method m other ≡ true → m ≡ other
method_is method.Aka method.Aka e = refl
method_is method.Aka method.Prime e = absurd cc
method_is method.Prime method.Aka e = absurd cc
method_is method.Prime method.Prime e = refl

method_other : (m other : Method) → same_method m other ≡ false → m ≢ other
method_other method.Aka method.Aka e = absurd cc
method_other method.Aka method.Prime e = λ same. cc
method_other method.Prime method.Aka e = λ same. cc
method_other method.Prime method.Prime e = absurd cc

-- what a server counts of its own method and subscriber
counts_own : (s : ServerEnd) (r : Resumed) → resumed_of s ≡ Some r → counters_in s.options.method r.sub (Some s) ≡ used_by r.context.counter r.context ∷ []
counts_own s r is =
    ap (λ (b : Bool). cond b (resumed_for r.sub (resumed_of s)) []) (method_same s.options.method) ∙ ap (resumed_for r.sub) is
    ∙ ap (λ (b : Bool). cond b (used_by r.context.counter r.context ∷ []) []) (eq-eqb r.sub r.sub refl)

All-left : {X : Type 0} (P : X → Type 0) (xs ys : List X) → All P (xs ++ ys) → All P xs
All-left P [] ys all = All-nil P
All-left P (x ∷ xs) ys all = All-cons P x xs (All-head P x (xs ++ ys) all) (All-left P xs ys (All-tail P x (xs ++ ys) all))

All-right : {X : Type 0} (P : X → Type 0) (xs ys : List X) → All P (xs ++ ys) → All P ys
All-right P [] ys all = all
All-right P (x ∷ xs) ys all = All-right P xs ys (All-tail P x (xs ++ ys) all)

-- no other identity of what some sessions resumed for a subscriber is this one
none_is : (identity : List ℕ) (sub : ℕ) (sessions : List Session) → ((m : Method) → All (λ u. identity ≢ u.identity) (counters_resumed m sub sessions))
    → All (λ r. sub ≡ r.sub → identity ≢ r.context.identity) (resumptions sessions)
none_is identity sub [] all = All-nil (λ (r : Resumed). sub ≡ r.sub → identity ≢ r.context.identity)
none_is identity sub (session ∷ sessions) all = by session.server refl (none_is identity sub sessions later)
  where
    P : Resumed → Type 0
    P r = sub ≡ r.sub → identity ≢ r.context.identity

    later : (m : Method) → All (λ u. identity ≢ u.identity) (counters_resumed m sub sessions)
    later m = All-right (λ (u : Used). identity ≢ u.identity) (counters_in m sub session.server) (counters_resumed m sub sessions) (all m)

    by : (o : Option ServerEnd) → session.server ≡ o → All (λ r. sub ≡ r.sub → identity ≢ r.context.identity) (resumptions sessions)
        → All (λ r. sub ≡ r.sub → identity ≢ r.context.identity) (resumed_in o ++ resumptions sessions)
    by None is rest = rest
    by (Some s) is rest = one (resumed_of s) refl
      where
        one : (o : Option Resumed) → resumed_of s ≡ o → All (λ r. sub ≡ r.sub → identity ≢ r.context.identity) (option_to_list o ++ resumptions sessions)
        one None e = rest
        one (Some r) e =
            All-cons (λ (x : Resumed). sub ≡ x.sub → identity ≢ x.context.identity) r (resumptions sessions)
            (λ same.
            let here = All-left (λ (u : Used). identity ≢ u.identity) (counters_in s.options.method sub session.server) (counters_resumed s.options.method sub sessions) (all s.options.method) in
            let own = ap (counters_in s.options.method sub) is ∙ ap (λ (n : ℕ). counters_in s.options.method n (Some s)) same ∙ counts_own s r e in
            All-head (λ (u : Used). identity ≢ u.identity) (used_by r.context.counter r.context) [] (subst (All (λ (u : Used). identity ≢ u.identity)) own here)) rest

module _ (Named : Method → ℕ → List ℕ → Type 0) (apart : AreApartByMethod Named) where
  -- if the identities of each method and subscriber are resumed once, so are all
  resumed_once : (sessions : List Session) → ((m : Method) (sub : ℕ) → AllPairs HaveOwnNames (counters_resumed m sub sessions))
      → ((m : Method) (sub : ℕ) → All (λ u. Named m sub u.identity) (counters_resumed m sub sessions)) → AreResumedOnce (resumptions sessions)
  resumed_once [] differ named = λ i j d less inside. absurd (omega (arith, inside))
  resumed_once (session ∷ sessions) differ named = by session.server refl (resumed_once sessions later_differ later_named)
    where
      later_differ : (m : Method) (sub : ℕ) → AllPairs HaveOwnNames (counters_resumed m sub sessions)
      later_differ m sub = AllPairs-right HaveOwnNames (counters_in m sub session.server) (counters_resumed m sub sessions) (differ m sub)

      later_named : (m : Method) (sub : ℕ) → All (λ u. Named m sub u.identity) (counters_resumed m sub sessions)
      later_named m sub = All-right (λ (u : Used). Named m sub u.identity) (counters_in m sub session.server) (counters_resumed m sub sessions) (named m sub)

      by : (o : Option ServerEnd) → session.server ≡ o → AreResumedOnce (resumptions sessions) → AreResumedOnce (resumed_in o ++ resumptions sessions)
      by None is rest = rest
      by (Some s) is rest = one (resumed_of s) refl
        where
          one : (o : Option Resumed) → resumed_of s ≡ o → AreResumedOnce (option_to_list o ++ resumptions sessions)
          one None e = rest
          one (Some r) e = AllPairs-cons AreApart r (resumptions sessions) (none_is r.context.identity r.sub sessions other) rest
            where
              own : counters_in s.options.method r.sub session.server ≡ used_by r.context.counter r.context ∷ []
              own = ap (counters_in s.options.method r.sub) is ∙ counts_own s r e

              first_named : Named s.options.method r.sub r.context.identity
              first_named =
                  All-head (λ (u : Used). Named s.options.method r.sub u.identity) (used_by r.context.counter r.context) []
                  (subst (All (λ (u : Used). Named s.options.method r.sub u.identity)) own
                  (All-left (λ (u : Used). Named s.options.method r.sub u.identity) (counters_in s.options.method r.sub session.server) (counters_resumed s.options.method r.sub sessions)
                  (named s.options.method r.sub)))

              own_method : All (λ u. r.context.identity ≢ u.identity) (counters_resumed s.options.method r.sub sessions)
              own_method =
                  AllPairs-head HaveOwnNames (used_by r.context.counter r.context) (counters_resumed s.options.method r.sub sessions)
                  (subst (λ (l : List Used). AllPairs HaveOwnNames (l ++ counters_resumed s.options.method r.sub sessions)) own (differ s.options.method r.sub))

              test : (m : Method) (b : Bool) → same_method s.options.method m ≡ b → All (λ u. r.context.identity ≢ u.identity) (counters_resumed m r.sub sessions)
              test m true same = subst (λ (n : Method). All (λ (u : Used). r.context.identity ≢ u.identity) (counters_resumed n r.sub sessions)) (method_is s.options.method m same) own_method
              test m false unlike =
                  All-weaker (λ (u : Used). Named m r.sub u.identity) (λ (u : Used). r.context.identity ≢ u.identity)
                  (λ u is. apart s.options.method m r.sub r.context.identity u.identity (method_other s.options.method m unlike) first_named is) (counters_resumed m r.sub sessions) (later_named m r.sub)

              other : (m : Method) → All (λ u. r.context.identity ≢ u.identity) (counters_resumed m r.sub sessions)
              other m = test m (same_method s.options.method m) refl

-- no identity is resumed twice, over all jobs and rounds
pub identities_come_once : HomeLaws → (set : Setting) (reserved : List ℕ) (stop : Option Stop) (parts : List Part) (records : List PartRecord) (nets : List (List Net)) → AreSubscribers set.rows → IsBlock set.names
    → All (IsHeldApart (length set.rows)) parts → IsLawful set reserved stop parts records → AreNets set parts records nets → IdentitiesComeOnce nets
identities_come_once laws set reserved stop parts records nets are block held lawful lead =
    resumed_once (λ (m : Method) (sub : ℕ) (a : List ℕ). IsNameUpTo set.names m sub last_ordinal a) (methods_apart laws set reserved stop parts records nets are block held lawful lead)
    (all_sessions nets) (names_differ laws set reserved stop parts records nets are block held lawful lead) (all_named laws set reserved stop parts records nets are block held lawful lead)
