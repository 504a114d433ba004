-- What holds of a network after some turns, and of the numbers that a centre gives in a run.
use Rattle.std.proofs.Common.{◌≡◌, ◌≢◌, ℕ, zero, suc, ◌+◌, ◌<◌, ◌⊎◌, inl, inr, List, [], ◌∷◌, ◌++◌, get_or, slice_get, All, AllPairs, Contains, Option, Some, None, refl, sym, ap, subst, ◌∙◌, arith, append_assoc}
use Rattle.std.proofs.lemmas.List.Concat.{flat_map-cons}
use Rattle.std.proofs.lemmas.List.Elements.{All-cons, All-head, All-tail, Contains-append_left, Contains-append_right, Contains-append_cases}
use Rattle.std.specs.Option.{unwrap_or}
use Rattle.auc_memory.specs.declared.stop.Stop.{Stop}
use Rattle.auc_history.specs.declared.entry.Entry.{Entry}
use Rattle.auc_history.specs.declared.entry.Entry.TheVariants.{Drawn}
use Rattle.auc_history.specs.History.{IsBefore, IsInOrder}
use Rattle.auc_vector.specs.declared.centre.CentreRefusal.{CentreRefusal}
use Rattle.auc_sites.specs.declared.master.Judged.{Judged}
use Rattle.auc_sites.specs.declared.master.Judged.TheVariants as judged
use Rattle.auc_sites.specs.Drawing.{Goes, KeptWords, Top, entries_of, entries_of_end, withheld_of_end}
use Rattle.auc_sites.specs.Law.{EachNumberIsHandedOutOnce, EachRunHandsOutOnce, released}
use Rattle.auc_sites.specs.Lease.{IsRising}
use Rattle.auc_sites.specs.Network.{Network, Granting, SitesTurn, after_event, after_turns, sites_from, start}
use Rattle.auc_sites.specs.Run.{AsksIn, OthersCall, Runs, judgement_in}
use Rattle.auc_sites.specs.Site.{SiteState, new_site}
use Rattle.auc_sites.proofs.DrawingLemmas.{Joins, Rises, Stays, entry_stands}
use Rattle.auc_sites.proofs.EventLemmas.{AreNew, nothing_remembered, sound_event}
use Rattle.auc_sites.proofs.ListLemmas.{AllPairs-across, AllPairs-front, AllPairs-join, no_pairs, none_stands, within_stands}
use Rattle.auc_sites.proofs.SoundLemmas.{HoldsWell, IsSound, IsSpent, sound_given}

-- ---- turns

sound_turns : (numbers : List ℕ) (w : Network) (turns : List SitesTurn) → IsSound numbers w → AllPairs ◌≢◌ (numbers ++ released turns) → All (λ t. IsRising t.numbers) turns
    → IsSound (numbers ++ released turns) (after_turns w turns)
sound_turns numbers w [] sound differ rises = sound_given numbers [] w sound
sound_turns numbers w (t ∷ turns) sound differ rises =
    let cut : released (t ∷ turns) ≡ t.numbers ++ released turns = flat_map-cons (λ (u : SitesTurn). u.numbers) t turns in
    let joined : numbers ++ released (t ∷ turns) ≡ (numbers ++ t.numbers) ++ released turns =
    ap (λ (xs : List ℕ). numbers ++ xs) cut ∙ sym (append_assoc numbers t.numbers (released turns)) in
    let apart : AllPairs ◌≢◌ ((numbers ++ t.numbers) ++ released turns) = subst (AllPairs ◌≢◌) joined differ in
    let new : AreNew numbers t.numbers = λ n old new. AllPairs-across ◌≢◌ numbers t.numbers n n (AllPairs-front ◌≢◌ (numbers ++ t.numbers) (released turns) apart) old new refl in
    let step = sound_event numbers t.numbers t.end w t.event sound new (All-head (λ (u : SitesTurn). IsRising u.numbers) t turns rises) in
    let all = sound_turns (numbers ++ t.numbers) (after_event w t.event t.numbers t.end) turns step apart (All-tail (λ (u : SitesTurn). IsRising u.numbers) t turns rises) in
    subst (λ (xs : List ℕ). IsSound xs (after_turns (after_event w t.event t.numbers t.end) turns)) (sym joined) all

-- ---- the beginning

first_site : (id : ℕ) (boots : List ℕ) (i : ℕ) (s : SiteState) → slice_get (sites_from id boots) i ≡ Some s → (s.id ≡ id + i) × (s.held ≡ [])
first_site id [] i s is = absurd (cc)
first_site id (boot ∷ boots) zero s is =
    let same : new_site id boot ≡ s = ap (λ (o : Option SiteState). unwrap_or o s) is in
    (omega (arith, ap (λ (v : SiteState). v.id) same), sym (ap (λ (v : SiteState). v.held) same))
first_site id (boot ∷ boots) (suc i) s is = let deeper = first_site (id + 1) boots i s is in (omega (arith, deeper.0), deeper.1)

sound_start : (boots : List ℕ) → IsSound [] (start boots)
sound_start boots = record {
  one = λ g h n g_in h_in n_in n_too. absurd (none_stands g g_in);
  known = λ g n g_in n_in. absurd (none_stands g g_in);
  rise = λ g g_in. absurd (none_stands g g_in);
  sent = λ g sent. absurd (none_stands (Granting g) sent);
  last = λ i g is. absurd (nothing_remembered _ i g is);
  ids = λ i s is. let there = first_site 1 boots i s is in omega (arith, there.0);
  held = λ i s is. holds_nothing s (first_site 1 boots i s is).1;
  spent = λ n drawn. absurd (none_stands n drawn);
  differ = λ i j d i<j j<n. absurd (omega arith);
}
  where
    holds_nothing : (s : SiteState) → s.held ≡ [] → HoldsWell [] [] s
    holds_nothing s none = record {
      rise = subst IsRising (sym none) no_pairs;
      from = λ n held. absurd (none_stands n (subst (λ (xs : List ℕ). Contains xs n) none held));
      undrawn = λ n held. absurd (none_stands n (subst (λ (xs : List ℕ). Contains xs n) none held));
    }

-- each number is handed out once, if none is given twice
pub each_number_is_handed_out_once : EachNumberIsHandedOutOnce
each_number_is_handed_out_once boots turns given =
    let sound = sound_turns [] (start boots) turns (sound_start boots) given.differ given.rise in
    record {
      one_grant = sound.one;
      differ = sound.differ;
      known = λ k d k<n. known_at (after_turns (start boots) turns) sound k d k<n;
    }
  where
    by_spent : (w : Network) (n : ℕ) → IsSound (released turns) w → IsSpent w.grants w.sites n → Contains (released turns) n
    by_spent w n sound (g, g_in, n_in, past) = sound.known g n g_in n_in

    known_at : (w : Network) → IsSound (released turns) w → All (Contains (released turns)) w.drawn
    known_at w sound k d within = by_spent w (get_or w.drawn k d) sound (sound.spent (get_or w.drawn k d) (within_stands w.drawn k d within))

-- ---- the numbers of a centre

-- a stretch of a centre's calls in which these numbers were drawn, which rise
record Gave {S : Type 0} (goes : Goes S) (sub : ℕ) (numbers : List ℕ) (before after : S) : Type 0 where
  pub entries : List Entry
  pub withheld : List (ℕ × Stop)
  pub went : goes before sub entries withheld after
  pub drawn : (n : ℕ) → Contains numbers n → Contains entries (Drawn n)
  pub rising : IsRising numbers

-- two stretches, one after the other, are one
stretch_join : {S : Type 0} (goes : Goes S) (sub : ℕ) (ns ms : List ℕ) (before between after : S) → Joins goes → Rises goes
    → Gave goes sub ns before between → Gave goes sub ms between after → Gave goes sub (ns ++ ms) before after
stretch_join goes sub ns ms before between after joins rises first second = record {
  entries = first.entries ++ second.entries;
  withheld = first.withheld ++ second.withheld;
  went = went;
  drawn = λ n n_in. drawn_by n (Contains-append_cases ns ms n n_in);
  rising = AllPairs-join ◌<◌ ns ms first.rising second.rising (λ n m n_in m_in. below n m n_in m_in);
}
  where
    went : goes before sub (first.entries ++ second.entries) (first.withheld ++ second.withheld) after
    went = joins before between after sub first.entries second.entries first.withheld second.withheld first.went second.went

    drawn_by : (n : ℕ) → Contains ns n ⊎ Contains ms n → Contains (first.entries ++ second.entries) (Drawn n)
    drawn_by n (inl before) = Contains-append_left first.entries second.entries (Drawn n) (first.drawn n before)
    drawn_by n (inr behind) = Contains-append_right first.entries second.entries (Drawn n) (second.drawn n behind)

    below : (n m : ℕ) → Contains ns n → Contains ms m → n < m
    below n m n_in m_in =
        let order : IsInOrder (first.entries ++ second.entries) = rises before after sub (first.entries ++ second.entries) (first.withheld ++ second.withheld) went in
        let pair : IsBefore (Drawn n) (Drawn m) = AllPairs-across IsBefore first.entries second.entries (Drawn n) (Drawn m) order (first.drawn n n_in) (second.drawn m m_in) in
        pair

-- a stretch without a number
empty_stretch : {S : Type 0} (goes : Goes S) (sub : ℕ) (numbers : List ℕ) (before after : S) → Stays goes
    → numbers ≡ [] → after ≡ before → Gave goes sub numbers before after
empty_stretch goes sub numbers before after stays none same =
    subst (λ (ns : List ℕ). Gave goes sub ns before after) (sym none)
    (subst (Gave goes sub [] before) (sym same) (record {
      entries = [];
      withheld = [];
      went = stays before sub;
      drawn = λ n n_in. absurd (none_stands n n_in);
      rising = no_pairs;
    }))

-- the calls of others
others_stretch : {S : Type 0} (goes : Goes S) (sub : ℕ) (before after : S) → OthersCall goes sub before after
    → Gave goes sub [] before after
others_stretch goes sub before after (entries, withheld, went) = record {
  entries = entries;
  withheld = withheld;
  went = went;
  drawn = λ n n_in. absurd (none_stands n n_in);
  rising = no_pairs;
}

-- an event
turn_stretch : {S : Type 0} (goes : Goes S) (kept : KeptWords S) (top : Top S) (sub : ℕ)
    (asked : Option Judged) (numbers : List ℕ) (end : Option CentreRefusal) (before after : S) → Stays goes → AsksIn goes kept top sub asked numbers end before after
    → Gave goes sub numbers before after
turn_stretch goes kept top sub None numbers end before after stays (none, ends, same) = empty_stretch goes sub numbers before after stays none same
turn_stretch goes kept top sub (Some (judged.Again g)) numbers end before after stays (size, (none, ends, same)) = empty_stretch goes sub numbers before after stays none same
turn_stretch goes kept top sub (Some (judged.Old r)) numbers end before after stays (size, (none, ends, same)) = empty_stretch goes sub numbers before after stays none same
turn_stretch goes kept top sub (Some judged.New) numbers end before after stays (size, drew) = record {
  entries = entries_of numbers ++ entries_of_end (kept before sub) end;
  withheld = withheld_of_end end;
  went = drew.own;
  drawn = λ n n_in. Contains-append_left (entries_of numbers) (entries_of_end (kept before sub) end) (Drawn n) (entry_stands numbers n n_in);
  rising = drew.rising;
}

-- a run
record GaveInRun {S : Type 0} (goes : Goes S) (sub : ℕ) (turns : List SitesTurn) (before after : S) : Type 0 where
  pub all : Gave goes sub (released turns) before after
  pub each : All (λ t. IsRising t.numbers) turns

run_stretch : {S : Type 0} (goes : Goes S) (kept : KeptWords S) (top : Top S) (sub : ℕ)
    (w : Network) (before : S) (turns : List SitesTurn) (after : S) → Stays goes → Joins goes → Rises goes → Runs goes kept top sub w before turns after
    → GaveInRun goes sub turns before after
run_stretch goes kept top sub w before [] after stays joins rises others = record {
  all = others_stretch goes sub before after others;
  each = λ k d k<n. absurd (omega arith);
}
run_stretch {S = S} goes kept top sub w before (t ∷ turns) after stays joins rises (asked, answered, others, asks, more) =
    let first = stretch_join goes sub [] t.numbers before asked answered joins rises (others_stretch goes sub before asked others)
    (turn_stretch goes kept top sub (judgement_in w t.event) t.numbers t.end asked answered stays asks) in
    let rest = run_stretch goes kept top sub (after_event w t.event t.numbers t.end) answered turns after stays joins rises more in
    record {
      all = subst (λ (ns : List ℕ). Gave goes sub ns before after) (sym (flat_map-cons (λ (u : SitesTurn). u.numbers) t turns))
          (stretch_join goes sub t.numbers (released turns) before answered after joins rises first rest.all);
      each = All-cons (λ (u : SitesTurn). IsRising u.numbers) t turns first.rising rest.each;
    }

-- a run over a centre hands each number out once
pub each_run_hands_out_once : {S : Type 0} (goes : Goes S) (kept : KeptWords S) (top : Top S)
    → Stays goes → Joins goes → Rises goes → EachRunHandsOutOnce goes kept top
each_run_hands_out_once goes kept top stays joins rises sub boots turns before after run =
    let stretch = run_stretch goes kept top sub (start boots) before turns after stays joins rises run in
    each_number_is_handed_out_once boots turns (record {
      differ = λ i j d i<j j<n same. omega (arith, stretch.all.rising i j d i<j j<n, same);
      rise = stretch.each;
    })
