-- For the laws: whose USIMs the job of a run holds.
use Rattle.std.proofs.Common.{◌≡◌, ◌≢◌, ℕ, Bool, false, List, [], ◌∷◌, ◌++◌, AllPairs, map, fold, refl, sym, ◌∙◌, ap, subst, append_assoc, append-nil, arith}
use Rattle.std.specs.Prelude.{All, ◌||◌, if◌then◌else◌}
use Rattle.std.proofs.lemmas.Bool.{ne_eqb}
use Rattle.std.proofs.lemmas.List.Elements.{All-contains, All-head, All-tail, Contains-append_right}
use Rattle.auc_history.proofs.Facts.{AllPairs-head, AllPairs-tail}
use Rattle.auc_lines.specs.Part.{held_by, with_held}
use Rattle.auc_lines.specs.declared.part.Line.{Line}
use Rattle.auc_record.specs.Lines.{is_in}
use Rattle.auc_record.specs.declared.event.Event.{Event}
use Rattle.auc_record.specs.declared.event.Event.TheVariants as event
use Rattle.auc_events.specs.Promises.{EachJobHoldsItsSubscribers, OpensAmong}
use Rattle.auc_events.specs.Run.{line_for}
use Rattle.auc_events.proofs.HoldingLemmas.{holding}

-- the subscribers whose USIMs a job holds after some lines
abbrev held_after : List ℕ → List Line → List ℕ
held_after subs lines = fold (λ held l. with_held held (held_by l)) subs lines

-- a subscriber behind others isn't one of them
not_among : (front : List ℕ) (s : ℕ) (rest : List ℕ) → AllPairs ◌≢◌ (front ++ s ∷ rest) → is_in s front ≡ false
not_among [] s rest apart = refl
not_among (x ∷ front) s rest apart =
    let other : x ≢ s = All-contains (λ (n : ℕ). x ≢ n) (front ++ s ∷ rest) s (AllPairs-head ◌≢◌ x (front ++ s ∷ rest) apart)
    (Contains-append_right front (s ∷ rest) s (0, omega arith, refl)) in
    ap (λ (b : Bool). b || is_in s front) (ne_eqb x s other) ∙ not_among front s rest (AllPairs-tail ◌≢◌ x (front ++ s ∷ rest) apart)

-- each of the first lines adds its subscriber
first_held : (front subs : List ℕ) (lines : List Line) → AllPairs ◌≢◌ (front ++ subs) → held_after front (holding subs ++ lines) ≡ held_after (front ++ subs) lines
first_held front [] lines apart = ap (λ (held : List ℕ). held_after held lines) (sym (append-nil front))
first_held front (s ∷ subs) lines apart =
    ap (λ (b : Bool). held_after (if b then front else front ++ s ∷ []) (holding subs ++ lines)) (not_among front s subs apart)
    ∙ first_held (front ++ s ∷ []) subs lines (subst (AllPairs ◌≢◌) (sym (append_assoc front (s ∷ []) subs)) apart)
    ∙ ap (λ (held : List ℕ). held_after held lines) (append_assoc front (s ∷ []) subs)

-- the events add none
events_held : (subs : List ℕ) (events : List Event) → All (OpensAmong subs) events → held_after subs (map line_for events) ≡ subs
events_held subs [] among = refl
events_held subs (event.Open opening ∷ events) among =
    ap (λ (b : Bool). held_after (if b then subs else subs ++ opening.sub ∷ []) (map line_for events)) (All-head (OpensAmong subs) (event.Open opening) events among)
    ∙ events_held subs events (All-tail (OpensAmong subs) (event.Open opening) events among)
events_held subs (event.Start session ∷ events) among = events_held subs events (All-tail (OpensAmong subs) (event.Start session) events among)
events_held subs (event.Deliver session at' packet ∷ events) among = events_held subs events (All-tail (OpensAmong subs) (event.Deliver session at' packet) events among)
events_held subs (event.Repeat session ∷ events) among = events_held subs events (All-tail (OpensAmong subs) (event.Repeat session) events among)
events_held subs (event.GiveUp session at' ∷ events) among = events_held subs events (All-tail (OpensAmong subs) (event.GiveUp session at') events among)
events_held subs (event.Tamper packet place byte ∷ events) among = events_held subs events (All-tail (OpensAmong subs) (event.Tamper packet place byte) events among)
events_held subs (event.Cut packet count ∷ events) among = events_held subs events (All-tail (OpensAmong subs) (event.Cut packet count) events among)

pub each_job_holds_its_subscribers : EachJobHoldsItsSubscribers
each_job_holds_its_subscribers subs events apart among = first_held [] subs (map line_for events) apart ∙ events_held subs events among
