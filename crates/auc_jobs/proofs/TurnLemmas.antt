-- For a worker: what it claimed and served, job by job.
use Rattle.std.proofs.Common.{◌≡◌, ℕ, zero, suc, ◌+◌, ◌<◌, ◌≤◌, Bool, true, false, List, [], ◌∷◌, ◌++◌, length, get_or, map, All, AllPairs, Any, Contains, Option, Some, None, flat_map, slice_get, slice_index, arith, refl, sym, ap, ◌∙◌, subst, inl, inr, append-nil, append_assoc}
use Rattle.std.proofs.lemmas.Grind.{flat_map-append}
use Rattle.std.proofs.lemmas.List.{length-append, map-append}
use Rattle.std.proofs.lemmas.List.Elements.{All-cons, All-head, All-nil, All-push, All-tail}
use Rattle.std.proofs.lemmas.List.Quantifiers.{all_pairs_push}
use Rattle.std.proofs.lemmas.Option.{get_or_from_slice_get}
use Rattle.auc_centre.specs.Adds.{AddsAtDesk, IsTold as IsNumberTold, kept_by}
use Rattle.auc_draw.specs.declared.rule.Deed.{Deed}
use Rattle.auc_draw.specs.declared.rule.Deed.TheVariants.{Claimed}
use Rattle.auc_draw.specs.Deeds.{entries_of, claims_of, kept_word, kept_of, released_in, released_of, held_by as pass_held_by, held_of as pass_held}
use Rattle.auc_draw.specs.Pass.{ClaimsJob, EndsClaims}
use Rattle.auc_draw.specs.Values.{PassValue}
use Rattle.auc_draw.proofs.Facts.{claims_more, entries_claimed}
use Rattle.auc_history.specs.declared.entry.Entry.{Entry}
use Rattle.auc_history.specs.History.{IsInOrder, drawn}
use Rattle.auc_history.proofs.Facts.{AllPairs-head, AllPairs-tail}
use Rattle.auc_lines.specs.declared.part.Line.{Line}
use Rattle.auc_lines.specs.Part.{AreApart, holds}
use Rattle.auc_subs.specs.Subscriber.{tops_of}
use Rattle.auc_record.specs.Entries.{entries_of_lines}
use Rattle.auc_record.specs.declared.record.LineRecord.{LineRecord}
use Rattle.auc_record.specs.Lines.{accepted, held_of, numbers_of}
use Rattle.auc_world.specs.Start.{start_of}
use Rattle.auc_world.proofs.Facts.{accepted-append, job_quiet}
use Rattle.auc_jobs.specs.declared.claiming.ClaimedJob.{ClaimedJob}
use Rattle.auc_jobs.specs.InnerClaims.{ServedTurn, turns, lines_done, entries_of_turn, IsGiven, IsSettledAt, IsPrinted, ClaimsAre, HasServed, IsBetween, IsLast, TakesTurn, HasFinished}
use Rattle.auc_jobs.specs.InnerRound.{ServesJob}
use Rattle.auc_jobs.specs.InnerServing.{before_at, IsTold, AreTold}
use Rattle.auc_jobs.specs.InnerSharing.{Shared, IsAfter, IsServable, BeginsAt, ServesAt}
use Rattle.auc_jobs.specs.Serving.{AreAllKnown, AreKnown}
use Rattle.auc_jobs.proofs.LineLemmas.{all_at}
use Rattle.auc_jobs.proofs.PieceLemmas.{not_given}
use Rattle.auc_jobs.proofs.TellingLemmas.{all_last, job_own, job_released, jobs_grown}

-- ---- lists of jobs

-- the jobs of a worker and one more
pub turns_push : (earlier : List LineRecord) (done : List ClaimedJob) (c : ClaimedJob) → turns earlier (done ++ c ∷ []) ≡ turns earlier done ++ (record { earlier = earlier ++ lines_done done; claimed = c }) ∷ []
turns_push earlier [] c = ap (λ (ls : List LineRecord). (record { earlier = ls; claimed = c }) ∷ []) (sym (append-nil earlier))
turns_push earlier (b ∷ done) c =
    ap (λ (ts : List ServedTurn). (record { earlier = earlier; claimed = b }) ∷ ts) (turns_push (earlier ++ b.served.lines) done c
    ∙ ap (λ (ls : List LineRecord). turns (earlier ++ b.served.lines) done ++ (record { earlier = ls; claimed = c }) ∷ []) (append_assoc earlier b.served.lines (lines_done done)))

-- their lines
lines_push : (done : List ClaimedJob) (c : ClaimedJob) → lines_done (done ++ c ∷ []) ≡ lines_done done ++ c.served.lines
lines_push done c = flat_map-append (λ (b : ClaimedJob). b.served.lines) done (c ∷ []) ∙ ap (λ (ls : List LineRecord). lines_done done ++ ls) (append-nil c.served.lines)

-- what holds of their places
below_all : (done : List ClaimedJob) (n : ℕ) → All (λ (k : ℕ). k < n) (map (λ (c : ClaimedJob). c.job) done) → All (λ (c : ClaimedJob). c.job < n) done
below_all [] n each = All-nil (λ (c : ClaimedJob). c.job < n)
below_all (c ∷ done) n each = All-cons (λ (b : ClaimedJob). b.job < n) c done (All-head (λ (k : ℕ). k < n) c.job (map (λ (b : ClaimedJob). b.job) done) each)
    (below_all done n (All-tail (λ (k : ℕ). k < n) c.job (map (λ (b : ClaimedJob). b.job) done) each))

-- ---- the claims

claims_here : (jobs : ℕ) (ended : Option ℕ) (claims served : List ℕ) → ended ≡ None → ClaimsAre jobs ended claims served → claims ≡ served
claims_here jobs None claims served is are = are
claims_here jobs (Some n) claims served is are = let no : ⊥ = cc in absurd no

claims_on : (jobs : ℕ) (ended : Option ℕ) (claims served : List ℕ) → ended ≡ None → claims ≡ served → ClaimsAre jobs ended claims served
claims_on jobs None claims served is are = are
claims_on jobs (Some n) claims served is are = let no : ⊥ = cc in absurd no

claims_ended : (jobs n : ℕ) (ended : Option ℕ) (claims served : List ℕ) → ended ≡ Some n → claims ≡ served ++ n ∷ [] → jobs ≤ n → ClaimsAre jobs ended claims served
claims_ended jobs n None claims served is are above = let no : ⊥ = cc in absurd no
claims_ended jobs n (Some m) claims served is are above =
    let same : m ≡ n = just m n is in (are ∙ ap (λ (k : ℕ). served ++ k ∷ []) (sym same), omega (arith, same, above))
  where
    just : (a b : ℕ) → Some a ≡ Some b → a ≡ b
    just a b e = cc

ends_claims : (jobs : ℕ) (ended : Option ℕ) (old new : List Deed) (n : ℕ) → ended ≡ None → EndsClaims jobs ended old new n → new ≡ old ++ Claimed n ∷ []
ends_claims jobs None old new n is ends = ends
ends_claims jobs (Some k) old new n is ends = let no : ⊥ = cc in absurd no

-- ---- the beginning

told_none : (sub : ℕ) (kept : Option ℕ) → kept ≡ None → IsTold sub kept []
told_none sub None is = λ word. refl
told_none sub (Some word) is = let no : ⊥ = cc in absurd no

pub between_first : (shared : Shared) (early : List LineRecord) (pass : PassValue) (done : List ClaimedJob) → pass.deeds ≡ [] → pass.ended ≡ None → done ≡ [] → IsAfter shared early → IsBetween shared early pass done
between_first shared early pass done deeds ended none begins =
    subst (λ (cs : List ClaimedJob). IsBetween shared early pass cs) (sym none) (record {
      served = record {
        claims = claims_on (length shared.jobs) pass.ended (claims_of pass.deeds) [] ended (ap claims_of deeds);
        below = All-nil (λ (c : ClaimedJob). c.job < length shared.jobs);
        rising = λ i j d below within. absurd (omega arith);
        made = λ sub. ap (entries_of sub) deeds;
        ordered = λ sub. All-nil (λ (t : ServedTurn). IsInOrder (entries_of_turn sub t));
        given = All-nil (IsGiven shared early);
        released = λ sub. All-nil (λ (c : ClaimedJob). All (Contains (released_of sub pass.deeds)) (numbers_of sub c.served.lines));
        withheld = λ sub. All-nil (λ (c : ClaimedJob). All (Contains (pass_held sub pass.deeds)) (held_of sub c.served.lines));
        settled = All-nil (IsSettledAt shared early);
        printed = All-nil (λ (c : ClaimedJob). IsPrinted shared c.served);
      };
      told = λ sub. told_none sub (kept_by pass sub) (ap (λ (ds : List Deed). kept_of (slice_index pass.tops sub) ds sub) deeds);
      earlier = begins;
    })

-- ---- before a job

-- jobs at two places are apart
pub apart_at : (jobs : List (List Line)) (i j : ℕ) (a b : List Line) → AllPairs AreApart jobs → i < j → j < length jobs → slice_get jobs i ≡ Some a → slice_get jobs j ≡ Some b → AreApart a b
apart_at jobs i j a b apart below within at_i at_j =
    subst (λ (x : List Line). AreApart x b) (get_or_from_slice_get jobs i a a at_i) (subst (λ (y : List Line). AreApart (get_or jobs i a) y) (get_or_from_slice_get jobs j b a at_j) (apart i j a below within))

-- by the lines of a worker's earlier jobs the USIMs of a later one accepted nothing
quiet_turns : (shared : Shared) (early earlier : List LineRecord) (done : List ClaimedJob) (job bits sub : ℕ) (asked : List Line) → AllPairs AreApart shared.jobs → job < length shared.jobs
    → slice_get shared.jobs job ≡ Some asked → holds sub asked ≡ true → All (λ c. c.job < job) done → All (IsGiven shared early) (turns earlier done) → accepted bits sub (lines_done done) ≡ []
quiet_turns shared early earlier [] job bits sub asked apart within at gives below given = refl
quiet_turns shared early earlier (c ∷ done) job bits sub asked apart within at gives below given =
    let t : ServedTurn = record { earlier = earlier; claimed = c } in
    let here = All-head (IsGiven shared early) t (turns (earlier ++ c.served.lines) done) given in
    accepted-append bits sub c.served.lines (lines_done done)
    ∙ ap (λ (ns : List (List ℕ)). ns ++ accepted bits sub (lines_done done)) (job_quiet shared.set (before_at early earlier []) shared.state.kept here.asked bits sub c.served.lines here.net here.given
    (not_given sub here.asked asked (apart_at shared.jobs c.job job here.asked asked apart (All-head (λ b. b.job < job) c done below) within here.there at) gives))
    ∙ quiet_turns shared early (earlier ++ c.served.lines) done job bits sub asked apart within at gives (All-tail (λ b. b.job < job) c done below)
    (All-tail (IsGiven shared early) t (turns (earlier ++ c.served.lines) done) given)

-- a claim leaves the words that the pass keeps
kept_claimed : (n : ℕ) (old new : PassValue) → new.deeds ≡ old.deeds ++ Claimed n ∷ [] → new.tops ≡ old.tops → (sub : ℕ) → kept_by new sub ≡ kept_by old sub
kept_claimed n old new is same sub =
    ap (λ (ts : List ℕ). kept_of (slice_index ts sub) new.deeds sub) same
    ∙ ap (kept_word (slice_index old.tops sub)) (ap (entries_of sub) is ∙ entries_claimed sub n old.deeds)

-- what is told by the words that a pass keeps
told_same : (old kept : ℕ → Option ℕ) (lines : List LineRecord) → ((sub : ℕ) → kept sub ≡ old sub) → AreTold old lines → AreTold kept lines
told_same old kept lines same told = λ sub. subst (λ (k : Option ℕ). IsTold sub k lines) (sym (same sub)) (told sub)

-- the places that a worker claimed so far
claims_were : (shared : Shared) (early : List LineRecord) (old mid : PassValue) (done : List ClaimedJob) (job : ℕ) → ClaimsJob (length shared.jobs) old mid (Some job) → HasServed shared early old done
    → claims_of old.deeds ≡ map (λ (c : ClaimedJob). c.job) done
claims_were shared early old mid done job claim served = claims_here (length shared.jobs) old.ended (claims_of old.deeds) (map (λ (c : ClaimedJob). c.job) done) claim.0 served.claims

-- they are below the one that it claims now
claims_below : (shared : Shared) (early : List LineRecord) (old mid : PassValue) (done : List ClaimedJob) (job : ℕ) → ClaimsJob (length shared.jobs) old mid (Some job) → HasServed shared early old done
    → All (λ (c : ClaimedJob). c.job < job) done
claims_below shared early old mid done job claim served =
    below_all done job (subst (λ (ks : List ℕ). All (λ n. n < job) ks) (claims_were shared early old mid done job claim served) claim.4)

-- so the claimed job can begin
pub claimed_begins : (shared : Shared) (early : List LineRecord) (old mid : PassValue) (done : List ClaimedJob) (job : ℕ) → AllPairs AreApart shared.jobs → ClaimsJob (length shared.jobs) old mid (Some job)
    → mid.tops ≡ old.tops → IsBetween shared early old done → BeginsAt shared early (lines_done done) (kept_by mid) job
claimed_begins shared early old mid done job apart claim tops between = record {
  begins = λ asked there. record {
    told = told_same (kept_by old) (kept_by mid) (lines_done done) (kept_claimed job old mid claim.2 tops) between.told;
    earlier = between.earlier.earlier;
    numbers = between.earlier.numbers;
    pasts = between.earlier.pasts;
    quiet = λ bits sub gives. quiet_turns shared early [] done job bits sub asked apart claim.1 there gives (claims_below shared early old mid done job claim between.served) between.served.given;
  };
}

-- ---- after a job

-- what the calls of a turn say
pub record Serves (shared : Shared) (old mid new : PassValue) (done : List ClaimedJob) (c : ClaimedJob) : Type 0 where
  pub apart : AllPairs AreApart shared.jobs
  pub known : AreAllKnown shared.set.rows shared.jobs
  pub claim : ClaimsJob (length shared.jobs) old mid (Some c.job)
  pub tops : mid.tops ≡ old.tops
  pub greatest : mid.tops ≡ tops_of shared.set.rows
  pub serves : ServesAt (λ i es ws. AddsAtDesk mid i es ws new) (kept_by mid) (kept_by new) shared c.job c.served

-- the job that was served in it
turn_served : (shared : Shared) (early : List LineRecord) (old mid new : PassValue) (done : List ClaimedJob) (c : ClaimedJob) → (s : Serves shared old mid new done c) → IsBetween shared early old done
    → ServesJob (λ i es ws. AddsAtDesk mid i es ws new) shared.set early (lines_done done) (kept_by new) shared.state.kept s.serves.asked c.served.lines c.served.devices c.served.sessions
turn_served shared early old mid new done c s between =
    s.serves.serves early (lines_done done) ((claimed_begins shared early old mid done c.job s.apart s.claim s.tops between).begins s.serves.asked s.serves.there)

between_more : (shared : Shared) (early : List LineRecord) (old mid new : PassValue) (done : List ClaimedJob) (c : ClaimedJob) → Serves shared old mid new done c → IsBetween shared early old done
    → IsBetween shared early new (done ++ c ∷ [])
between_more shared early old mid new done c s between = record {
  served = record {
    claims = claims_on (length shared.jobs) new.ended (claims_of new.deeds) (map (λ (b : ClaimedJob). b.job) (done ++ c ∷ [])) ((served.made 0).ended ∙ s.claim.3)
        ((served.made 0).claims ∙ ap claims_of s.claim.2 ∙ claims_more c.job old.deeds ∙ ap (λ (ks : List ℕ). ks ++ c.job ∷ []) (claims_were shared early old mid done c.job s.claim was)
        ∙ sym (map-append (λ (b : ClaimedJob). b.job) done (c ∷ [])));
    below = All-push (λ (b : ClaimedJob). b.job < length shared.jobs) done c was.below s.claim.1;
    rising = all_pairs_push (λ (a b : ClaimedJob). a.job < b.job) done c was.rising (claims_below shared early old mid done c.job s.claim was);
    made = λ sub. (served.made sub).made ∙ ap (λ (es : List Entry). es ++ entries_of_turn sub turn) (ap (entries_of sub) s.claim.2 ∙ entries_claimed sub c.job old.deeds ∙ was.made sub)
        ∙ ap (λ (es : List Entry). flat_map (entries_of_turn sub) (turns [] done) ++ es) (sym (append-nil (entries_of_turn sub turn)))
        ∙ sym (flat_map-append (entries_of_turn sub) (turns [] done) (turn ∷ [])) ∙ ap (flat_map (entries_of_turn sub)) (sym pushed);
    ordered = λ sub. subst (λ (ts : List ServedTurn). All (λ t. IsInOrder (entries_of_turn sub t)) ts) (sym pushed)
        (All-push (λ (t : ServedTurn). IsInOrder (entries_of_turn sub t)) (turns [] done) turn (was.ordered sub) (served.made sub).ordered);
    given = subst (λ (ts : List ServedTurn). All (IsGiven shared early) ts) (sym pushed)
        (All-push (IsGiven shared early) (turns [] done) turn was.given (record { asked = s.serves.asked; there = s.serves.there; net = served.net; given = served.given; ends = served.ends; left = served.left }));
    released = λ sub. All-push (λ (b : ClaimedJob). All (Contains (released_of sub new.deeds)) (numbers_of sub b.served.lines)) done c
        (jobs_grown (released_in sub) (λ (b : ClaimedJob). numbers_of sub b.served.lines) old.deeds more new.deeds done grows (was.released sub))
        (job_released shared.set.rows sub (lines_done done) c.served.lines (released_of sub new.deeds)
        (job_own shared.set (before_at early (lines_done done) []) (start_of shared.set shared.state.kept s.serves.asked) served.net s.serves.asked c.served.lines (all_at (AreKnown shared.set.rows) shared.jobs c.job s.serves.asked s.known s.serves.there) served.given)
        (served.made sub).ordered
        (subst (λ (ts : List ℕ). All (IsNumberTold (slice_index ts sub) (held_of sub c.served.lines) (released_of sub new.deeds)) (drawn (entries_of_lines sub (lines_done done) c.served.lines))) s.greatest (served.made sub).told));
    withheld = λ sub. All-push (λ (b : ClaimedJob). All (Contains (pass_held sub new.deeds)) (held_of sub b.served.lines)) done c
        (jobs_grown (pass_held_by sub) (λ (b : ClaimedJob). held_of sub b.served.lines) old.deeds more new.deeds done grows (was.withheld sub))
        (all_last (pass_held sub mid.deeds) (held_of sub c.served.lines) (pass_held sub new.deeds) (served.made sub).held);
    settled = All-push (IsSettledAt shared early) done c was.settled (record { asked = s.serves.asked; there = s.serves.there; settled = served.settled });
    printed = All-push (λ (b : ClaimedJob). IsPrinted shared b.served) done c was.printed s.serves.vectors;
  };
  told = subst (AreTold (kept_by new)) (sym (lines_push done c)) served.told;
  earlier = between.earlier;
}
  where
    turn : ServedTurn
    turn = record { earlier = lines_done done; claimed = c }

    was : HasServed shared early old done
    was = between.served

    served : ServesJob (λ i es ws. AddsAtDesk mid i es ws new) shared.set early (lines_done done) (kept_by new) shared.state.kept s.serves.asked c.served.lines c.served.devices c.served.sessions
    served = turn_served shared early old mid new done c s between

    more : List Deed
    more = Claimed c.job ∷ (served.made 0).grows.0

    grows : new.deeds ≡ old.deeds ++ more
    grows = (served.made 0).grows.1 ∙ ap (λ (ds : List Deed). ds ++ (served.made 0).grows.0) s.claim.2 ∙ append_assoc old.deeds (Claimed c.job ∷ []) (served.made 0).grows.0

    pushed : turns [] (done ++ c ∷ []) ≡ turns [] done ++ turn ∷ []
    pushed = turns_push [] done c

pub turn_on : (shared : Shared) (old mid new : PassValue) (done now : List ClaimedJob) (c : ClaimedJob) → Serves shared old mid new done c → now ≡ done ++ c ∷ []
    → ((early : List LineRecord) × IsBetween shared early old done) → TakesTurn shared true old done new now
turn_on shared old mid new done now c s is (early, between) = record {
  stands = λ before was. subst (λ (cs : List ClaimedJob). IsBetween shared before new cs) (sym is) (between_more shared before old mid new done c s was);
  some = λ yes. (
    ((turn_served shared early old mid new done c s between).made 0).ended ∙ s.claim.3,
    ap (λ (cs : List ClaimedJob). length cs) is ∙ length-append done (c ∷ []),
  );
  none = λ no. let bad : ⊥ = cc in absurd bad;
}

-- ---- no further job

between_out : (shared : Shared) (early : List LineRecord) (old new : PassValue) (done : List ClaimedJob) → old.ended ≡ None → new.tops ≡ old.tops → ClaimsJob (length shared.jobs) old new None → IsBetween shared early old done
    → IsBetween shared early new done
between_out shared early old new done unended tops claim between = record {
  served = record {
    claims = claims_ended (length shared.jobs) claim.0 new.ended (claims_of new.deeds) (map (λ (c : ClaimedJob). c.job) done) claim.2
        (ap claims_of step ∙ claims_more claim.0 old.deeds
        ∙ ap (λ (ks : List ℕ). ks ++ claim.0 ∷ []) (claims_here (length shared.jobs) old.ended (claims_of old.deeds) (map (λ (c : ClaimedJob). c.job) done) unended was.claims)) claim.1;
    below = was.below;
    rising = was.rising;
    made = λ sub. ap (entries_of sub) step ∙ entries_claimed sub claim.0 old.deeds ∙ was.made sub;
    ordered = was.ordered;
    given = was.given;
    released = λ sub. jobs_grown (released_in sub) (λ (c : ClaimedJob). numbers_of sub c.served.lines) old.deeds (Claimed claim.0 ∷ []) new.deeds done step (was.released sub);
    withheld = λ sub. jobs_grown (pass_held_by sub) (λ (c : ClaimedJob). held_of sub c.served.lines) old.deeds (Claimed claim.0 ∷ []) new.deeds done step (was.withheld sub);
    settled = was.settled;
    printed = was.printed;
  };
  told = told_same (kept_by old) (kept_by new) (lines_done done) (kept_claimed claim.0 old new step tops) between.told;
  earlier = between.earlier;
}
  where
    was : HasServed shared early old done
    was = between.served

    step : new.deeds ≡ old.deeds ++ Claimed claim.0 ∷ []
    step = ends_claims (length shared.jobs) old.ended old.deeds new.deeds claim.0 unended claim.3

-- some element of a list, by its place
any_head : (P : ℕ → Type 0) (x : ℕ) (xs : List ℕ) → P x → Any P (x ∷ xs)
any_head P x xs p = (zero, x, omega arith, refl, p)

any_tail : (P : ℕ → Type 0) (x : ℕ) (xs : List ℕ) → Any P xs → Any P (x ∷ xs)
any_tail P x xs (k, y, within, at, p) = (suc k, y, omega (arith, within), at, p)

any_last : (P : ℕ → Type 0) (xs : List ℕ) (x : ℕ) → P x → Any P (xs ++ x ∷ [])
any_last P [] x here = any_head P x [] here
any_last P (y ∷ xs) x here = any_tail P y (xs ++ x ∷ []) (any_last P xs x here)

last_claim : (jobs : ℕ) (old new : PassValue) → old.ended ≡ None → ClaimsJob jobs old new None → IsLast jobs (claims_of new.deeds)
last_claim jobs old new unended claim =
    inr (subst (λ (ks : List ℕ). Any (λ n. jobs ≤ n + 1) ks) (sym (ap claims_of (ends_claims jobs old.ended old.deeds new.deeds claim.0 unended claim.3) ∙ claims_more claim.0 old.deeds))
    (any_last (λ n. jobs ≤ n + 1) (claims_of old.deeds) claim.0 (omega (arith, claim.1))))

pub turn_out : (shared : Shared) (old new : PassValue) (done : List ClaimedJob) → old.ended ≡ None → new.tops ≡ old.tops → ClaimsJob (length shared.jobs) old new None → TakesTurn shared false old done new done
turn_out shared old new done unended tops claim = record {
  stands = λ early between. between_out shared early old new done unended tops claim between;
  some = λ is. let no : ⊥ = cc in absurd no;
  none = λ is. last_claim (length shared.jobs) old new unended claim;
}

-- as many rising places as there are jobs: the last one is that of the last job
rising_last : (from count : ℕ) (done : List ClaimedJob) → All (λ (c : ClaimedJob). from ≤ c.job) done → AllPairs (λ (b c : ClaimedJob). b.job < c.job) done → length done ≡ suc count
    → Any (λ n. from + suc count ≤ n + 1) (map (λ (c : ClaimedJob). c.job) done)
rising_last from count [] low rising many = absurd (omega (arith, many))
rising_last from zero (c ∷ done) low rising many = any_head (λ n. from + 1 ≤ n + 1) c.job (map (λ (b : ClaimedJob). b.job) done) (omega (arith, All-head (λ (b : ClaimedJob). from ≤ b.job) c done low))
rising_last from (suc count) (c ∷ done) low rising many =
    any_move (from + 1 + suc count) (from + suc (suc count)) (c.job ∷ map (λ (b : ClaimedJob). b.job) done) (omega arith) (any_tail (λ n. from + 1 + suc count ≤ n + 1) c.job (map (λ (b : ClaimedJob). b.job) done)
    (rising_last (from + 1) count done (above done (AllPairs-head (λ (a b : ClaimedJob). a.job < b.job) c done rising)) (AllPairs-tail (λ (a b : ClaimedJob). a.job < b.job) c done rising) (omega (arith, many))))
  where
    any_move : (a b : ℕ) (xs : List ℕ) → a ≡ b → Any (λ n. a ≤ n + 1) xs → Any (λ n. b ≤ n + 1) xs
    any_move a b xs same any = subst (λ (k : ℕ). Any (λ n. k ≤ n + 1) xs) same any

    above : (bs : List ClaimedJob) → All (λ (b : ClaimedJob). c.job < b.job) bs → All (λ (b : ClaimedJob). from + 1 ≤ b.job) bs
    above bs each k d within = omega (arith, each k d within, All-head (λ (b : ClaimedJob). from ≤ b.job) c done low)

all_served : (shared : Shared) (early : List LineRecord) (pass : PassValue) (done : List ClaimedJob) → pass.ended ≡ None → length done ≡ length shared.jobs → HasServed shared early pass done
    → IsLast (length shared.jobs) (claims_of pass.deeds)
all_served shared early pass done unended many served = by (length shared.jobs) refl
  where
    by : (n : ℕ) → length shared.jobs ≡ n → IsLast (length shared.jobs) (claims_of pass.deeds)
    by zero is = inl is
    by (suc n) is = inr (subst (λ (ks : List ℕ). Any (λ k. length shared.jobs ≤ k + 1) ks)
        (sym (claims_here (length shared.jobs) pass.ended (claims_of pass.deeds) (map (λ (c : ClaimedJob). c.job) done) unended served.claims))
        (subst (λ (m : ℕ). Any (λ k. m ≤ k + 1) (map (λ (c : ClaimedJob). c.job) done)) (let zero_on : 0 + suc n ≡ length shared.jobs = omega (arith, is) in zero_on)
        (rising_last 0 n done (λ k d within. omega arith) served.rising (many ∙ is))))

-- ---- what a worker owes

pub finished_then : (shared : Shared) (old new : PassValue) (done now : List ClaimedJob) (more : Bool) → more ≡ false → TakesTurn shared more old done new now
    → ((early : List LineRecord) → IsAfter shared early → IsBetween shared early old done) → HasFinished shared new now
finished_then shared old new done now more over turn between = record {
  served = λ early begins. (turn.stands early (between early begins)).served;
  last = turn.none over;
}

pub finished_last : (shared : Shared) (pass : PassValue) (done : List ClaimedJob) → pass.ended ≡ None → length done ≡ length shared.jobs → IsServable shared
    → ((early : List LineRecord) → IsAfter shared early → IsBetween shared early pass done) → HasFinished shared pass done
finished_last shared pass done unended many servable between = record {
  served = λ early begins. (between early begins).served;
  last =
      let (early, begins) = servable.begins in
      all_served shared early pass done unended many (between early begins).served;
}
