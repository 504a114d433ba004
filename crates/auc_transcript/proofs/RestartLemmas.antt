-- The law of restarts: one may follow every lawful transcript, since some limits meet what is asked of them.
use Rattle.std.proofs.Common.{◌≡◌, ℕ, zero, suc, ◌+◌, ◌<◌, ◌≤◌, ◌⊎◌, nat_le, min, max, List, [], ◌∷◌, Option, None, length, get_or, All, refl, sym, ◌∙◌, ap, subst, arith, inl, inr}
use Rattle.std.specs.Prelude.{if◌then◌else◌}
use Rattle.std.proofs.lemmas.Bool.{cases_lt}
use Rattle.std.proofs.lemmas.Bool.Decides.{nat_tests}
use Rattle.std.proofs.lemmas.List.Elements.{All-head, All-tail}
use Rattle.auc_memory.specs.declared.stop.Stop.{Stop}
use Rattle.auc_history.specs.Split.{times}
use Rattle.auc_history.proofs.Facts.{times_at}
use Rattle.auc_sqn.specs.Number.{max_seq}
use Rattle.auc_lines.specs.declared.part.Part.{Part}
use Rattle.auc_lines.specs.declared.part.Part.TheVariants.{Round, Restart}
use Rattle.auc_subs.specs.Subscriber.{top_at}
use Rattle.auc_subs.specs.declared.row.Row.{Row}
use Rattle.auc_record.specs.declared.record.PartRecord.{PartRecord}
use Rattle.auc_record.specs.declared.record.PartRecord.TheVariants as record_of
use Rattle.auc_record.specs.declared.record.RoundRecord.{RoundRecord}
use Rattle.auc_record.specs.Lines.{numbers_of, all_lines}
use Rattle.auc_subs.specs.Setting.{Setting}
use Rattle.auc_world.specs.Limits.{Raises}
use Rattle.auc_world.specs.Net.{Net}
use Rattle.auc_world.specs.Transcript.{Course, Leads, beginning, after_round, after_restart}
use Rattle.auc_transcript.specs.Headline.{EachTranscriptMayRestart}
use Rattle.auc_transcript.proofs.AboveLemmas.{top_is_number}
use Rattle.auc_transcript.proofs.CourseLemmas.{leads_more}
use Rattle.auc_world.proofs.Facts.{get_or-greater, length-opened}
use Rattle.auc_record.proofs.Facts.{length-reopened}
use Rattle.auc_transcript.proofs.LineLemmas.{All-times, times-numbers-append}
use Rattle.auc_transcript.proofs.ServedLemmas.{round_served}
use Rattle.auc_transcript.proofs.VectorLemmas.{numbers_within, round_between}

-- ---- limits that meet it

-- the limit stays if it covers the greatest closing word, and else it is a step above that
new_limit : ℕ → ℕ → ℕ
new_limit limit high = if nat_le high limit then limit else min (high + 64) max_seq

new_step : (limit high : ℕ) → (new_limit limit high ≡ limit) ⊎ ((new_limit limit high ≡ max_seq) ⊎ (limit + 64 ≤ new_limit limit high))
unfolding new_limit
new_step limit high = grind (arith, nat_tests)

new_covers : (limit high n : ℕ) → n ≤ high → n ≤ max_seq → n ≤ new_limit limit high
unfolding new_limit
new_covers limit high n = grind (arith, nat_tests)

new_near : (limit high : ℕ) → new_limit limit high ≤ max limit (high + 64)
unfolding new_limit
new_near limit high = grind (arith, nat_tests)

new_within : (limit high : ℕ) → limit ≤ max_seq → new_limit limit high ≤ max_seq
unfolding new_limit
new_within limit high = grind (arith, nat_tests)

-- the limits of so many subscribers, from one on
new_limits : ℕ → ℕ → List ℕ → List ℕ → List ℕ
new_limits zero first limits highs = []
new_limits (suc count) first limits highs = new_limit (get_or limits first 0) (get_or highs first 0) ∷ new_limits count (suc first) limits highs

new_at : (count first i : ℕ) (limits highs : List ℕ) → i < count → get_or (new_limits count first limits highs) i 0 ≡ new_limit (get_or limits (i + first) 0) (get_or highs (i + first) 0)
unfolding new_limits
new_at zero first i limits highs inside = absurd (omega arith)
new_at (suc count) first zero limits highs inside =
    let same : first ≡ 0 + first = omega arith in ap (λ (k : ℕ). new_limit (get_or limits k 0) (get_or highs k 0)) same
new_at (suc count) first (suc i) limits highs inside =
    let up : i + suc first ≡ suc i + first = omega arith in
    new_at count (suc first) i limits highs (omega arith) ∙ ap (λ (k : ℕ). new_limit (get_or limits k 0) (get_or highs k 0)) up

-- ---- what a transcript leads to

-- each number that was released is at most the greatest closing word, and it and each limit are numbers
record IsKept (rows : List Row) (at : Course) : Type 0 where
  below : (sub n : ℕ) → sub < length rows → 1 ≤ times n (numbers_of sub at.early) → (n ≤ get_or at.highs sub 0) × (n ≤ max_seq)
  within : (sub : ℕ) → sub < length rows → get_or at.limits sub 0 ≤ max_seq

-- it is so after a round
kept_round : (set : Setting) (at : Course) (round : RoundRecord) (words : List ℕ) (nets : List Net) → length words ≡ length set.rows
    → ((sub n : ℕ) → sub < length set.rows → 1 ≤ times n (numbers_of sub (all_lines round.jobs)) → (n ≤ get_or words sub 0) × (n ≤ max_seq))
    → IsKept set.rows at → IsKept set.rows (after_round set.rows at round words nets)
kept_round set at round words nets sizes here is = record {
  below = λ sub n inside some.
      let cut = times-numbers-append n sub at.early (all_lines round.jobs) in
      let greatest = get_or-greater words at.highs sub (omega (arith, sizes, inside)) in
      elim (cases_lt 0 (times n (numbers_of sub (all_lines round.jobs)))) [
        | inl these ↦ (let (low, few) = here sub n inside these in (omega (arith, greatest, low), few))
        | inr none ↦ (let (low, few) = is.below sub n inside (omega (arith, cut, none, some)) in (omega (arith, greatest, low), few))
      ];
  within = is.within;
}

-- it is so at the end
parts_kept : (set : Setting) (stop : Option Stop) (at : Course) (parts : List Part) (records : List PartRecord) (end : Course)
    → length at.openings ≡ length set.rows → IsKept set.rows at → Leads set stop at parts records end → IsKept set.rows end
parts_kept set stop at [] records end sizes is (none, same) = subst (λ (c : Course). IsKept set.rows c) (sym same) is
parts_kept set stop at (part ∷ parts) [] end sizes is leads = absurd leads
parts_kept set stop at (Round jobs ∷ parts) (record_of.Round round ∷ records) end sizes is (next, serves, rest) =
    let words = serves.words in
    let more = subst (λ (c : Course). Leads set stop c parts records end) serves.leads rest in
    let same = serves.lawful.sizes in
    let here = kept_round set at round words serves.lawful.nets (omega (arith, same, sizes))
    (λ sub n inside some.
    let splits = serves.lawful.split sub (omega (arith, inside, sizes)) in
    let served = round_served set at.early at.kept jobs round.jobs serves.lawful.nets serves.lawful.given in
    let (up, down) = round_between sub (get_or at.openings sub 0) (get_or words sub 0) n round splits.once some in
    let few = All-times (λ m. m ≤ top_at set.rows sub) n (numbers_of sub (all_lines round.jobs)) (numbers_within set sub at.early (all_lines round.jobs) served) some in
    let most = top_is_number set.rows sub inside in (down, omega (arith, few, most)))
    is in
    parts_kept set stop (after_round set.rows at round words serves.lawful.nets) parts records end (length-reopened set.rows words) here more
parts_kept set stop at (Round jobs ∷ parts) (record_of.Restart ∷ records) end sizes is (next, serves, rest) = absurd serves
parts_kept set stop at (Restart ∷ parts) (record_of.Round round ∷ records) end sizes is (next, serves, rest) = absurd serves
parts_kept set stop at (Restart ∷ parts) (record_of.Restart ∷ records) end sizes is (next, restarts, rest) =
    let limits = restarts.limits in
    let more = subst (λ (c : Course). Leads set stop c parts records end) restarts.leads rest in
    parts_kept set stop (after_restart set.rows at limits) parts records end (length-opened set.rows limits)
    (record { below = is.below; within = restarts.raises.within }) more

-- these limits are such as a restart may have
limits_meet : (rows : List Row) (at : Course) → IsKept rows at → Raises rows at.early at.limits at.highs (new_limits (length rows) 0 at.limits at.highs)
limits_meet rows at is = record {
  step = λ sub inside.
      subst (λ (n : ℕ). (n ≡ get_or at.limits sub 0) ⊎ ((n ≡ max_seq) ⊎ (get_or at.limits sub 0 + 64 ≤ n))) (sym (here sub inside))
      (new_step (get_or at.limits sub 0) (get_or at.highs sub 0));
  released = λ sub inside k d k<n.
      let (low, few) = is.below sub (get_or (numbers_of sub at.early) k d) inside (times_at (numbers_of sub at.early) k d k<n) in
      let same = here sub inside in
      let enough = new_covers (get_or at.limits sub 0) (get_or at.highs sub 0) (get_or (numbers_of sub at.early) k d) low few in
      omega (arith, same, enough);
  near = λ sub inside. let same = here sub inside in let most = new_near (get_or at.limits sub 0) (get_or at.highs sub 0) in omega (arith, same, most);
  within = λ sub inside.
      let same = here sub inside in
      let most = new_within (get_or at.limits sub 0) (get_or at.highs sub 0) (is.within sub inside) in omega (arith, same, most);
}
  where
    here : (sub : ℕ) → sub < length rows → get_or (new_limits (length rows) 0 at.limits at.highs) sub 0 ≡ new_limit (get_or at.limits sub 0) (get_or at.highs sub 0)
    here sub inside =
        let same : sub + 0 ≡ sub = omega arith in
        new_at (length rows) 0 sub at.limits at.highs inside ∙ ap (λ (k : ℕ). new_limit (get_or at.limits k 0) (get_or at.highs k 0)) same

-- numbers of a list, and 0 after its end
within_at : (numbers : List ℕ) (i : ℕ) → All (λ n. n ≤ max_seq) numbers → get_or numbers i 0 ≤ max_seq
within_at [] i all = omega arith
within_at (n ∷ numbers) zero all = All-head (λ m. m ≤ max_seq) n numbers all
within_at (n ∷ numbers) (suc i) all = within_at numbers i (All-tail (λ m. m ≤ max_seq) n numbers all)

-- a restart may follow every lawful transcript
pub may_restart : EachTranscriptMayRestart
may_restart set reserved parts records within (end, leads) =
    let first : IsKept set.rows (beginning set.rows reserved) = record { below = λ sub n inside some. absurd (omega (arith, some)); within = λ sub inside. within_at reserved sub within } in
    let is = parts_kept set None (beginning set.rows reserved) parts records end (length-opened set.rows reserved) first leads in
    let limits = new_limits (length set.rows) 0 end.limits end.highs in (
      after_restart set.rows end limits,
      leads_more set None (beginning set.rows reserved) parts records end Restart record_of.Restart (after_restart set.rows end limits) leads
          (record { limits = limits; raises = limits_meet set.rows end is; leads = refl }),
    )
