-- From part to part: a transcript gets one more part, and limits that rise from round to round are limits that a
-- restart may have.
use Rattle.std.proofs.Common.{◌≡◌, ℕ, ◌+◌, ◌<◌, ◌≤◌, ◌⊎◌, max, List, [], ◌∷◌, ◌++◌, Option, None, length, get_or, All, refl, sym, ◌∙◌, ap, subst, arith, inl, inr, append_assoc, append-nil}
use Rattle.std.proofs.lemmas.List.Concat.{flat_map-append}
use Rattle.std.proofs.lemmas.List.Elements.{All-nil, All-append, All-weaker}
use Rattle.auc_memory.specs.declared.stop.Stop.{Stop}
use Rattle.auc_sqn.specs.Number.{max_seq}
use Rattle.auc_lines.specs.declared.part.Part.{Part}
use Rattle.auc_lines.specs.declared.part.Part.TheVariants.{Round, Restart}
use Rattle.auc_subs.specs.declared.row.Row.{Row}
use Rattle.auc_record.specs.declared.record.LineRecord.{LineRecord}
use Rattle.auc_record.specs.declared.record.PartRecord.{PartRecord}
use Rattle.auc_record.specs.declared.record.PartRecord.TheVariants as record_of
use Rattle.auc_record.specs.Lines.{numbers_of, released_by, all_lines}
use Rattle.auc_subs.specs.Setting.{Setting}
use Rattle.auc_world.specs.Limits.{greater, Raises}
use Rattle.auc_world.specs.Transcript.{Course, Leads, ServesPart, after_restart, after_round, beginning, stop_before, lines_of}
use Rattle.auc_world.proofs.Facts.{get_or-greater, length-opened}
use Rattle.auc_record.proofs.Facts.{length-reopened}

-- ---- longer transcripts

-- a transcript without a stop stopped in no part
none_before : (records : List PartRecord) → stop_before None records ≡ None
none_before [] = refl
none_before (next ∷ more) = refl

-- a transcript stopped in no part that another part follows
none_before_more : (stop : Option Stop) (records : List PartRecord) (last : PartRecord) → stop_before stop (records ++ last ∷ []) ≡ None
none_before_more stop [] last = refl
none_before_more stop (next ∷ more) last = refl

-- a transcript without a stop, and one more part, in which the reservation may stop
pub leads_more : (set : Setting) (stop : Option Stop) (at : Course) (parts : List Part) (records : List PartRecord) (mid : Course) (part : Part) (last : PartRecord) (end : Course)
    → Leads set None at parts records mid → ServesPart set stop mid part last end → Leads set stop at (parts ++ part ∷ []) (records ++ last ∷ []) end
leads_more set stop at [] records mid part last end (none, same) serves =
    subst (λ (rs : List PartRecord). Leads set stop at (part ∷ []) (rs ++ last ∷ []) end) (sym none)
    (end, subst (λ (c : Course). ServesPart set stop c part last end) same serves, (refl, refl))
leads_more set stop at (first ∷ parts) [] mid part last end leads serves = absurd leads
leads_more set stop at (first ∷ parts) (one ∷ records) mid part last end (next, here, rest) serves = (
  next,
  subst (λ (s : Option Stop). ServesPart set s at first one next) (none_before records ∙ sym (none_before_more stop records last)) here,
  leads_more set stop next parts records mid part last end rest serves,
)

-- at the end of a transcript the lines so far are those of all rounds
pub early_of_end : (set : Setting) (stop : Option Stop) (at : Course) (parts : List Part) (records : List PartRecord) (end : Course)
    → Leads set stop at parts records end → end.early ≡ at.early ++ lines_of records
early_of_end set stop at [] records end (none, same) =
    let line : (at.early ++ lines_of records) ≡ at.early = ap (λ (rs : List PartRecord). at.early ++ lines_of rs) none ∙ append-nil at.early in
    ap (λ (c : Course). c.early) same ∙ sym line
early_of_end set stop at (part ∷ parts) [] end leads = absurd leads
early_of_end set stop at (Round jobs ∷ parts) (record_of.Round round ∷ records) end (next, serves, rest) =
    early_of_end set stop next parts records end rest ∙ ap (λ (c : Course). c.early ++ lines_of records) serves.leads
    ∙ append_assoc at.early (all_lines round.jobs) (lines_of records)
early_of_end set stop at (Round jobs ∷ parts) (record_of.Restart ∷ records) end (next, serves, rest) = absurd serves
early_of_end set stop at (Restart ∷ parts) (record_of.Round round ∷ records) end (next, serves, rest) = absurd serves
early_of_end set stop at (Restart ∷ parts) (record_of.Restart ∷ records) end (next, restarts, rest) =
    early_of_end set stop next parts records end rest ∙ ap (λ (c : Course). c.early ++ lines_of records) restarts.leads

-- ---- limits that rise

-- limits may stay if they cover what was released
pub raises_stays : (rows : List Row) (early : List LineRecord) (limits highs : List ℕ) → ((sub : ℕ) → sub < length rows → get_or limits sub 0 ≤ max_seq)
    → ((sub : ℕ) → sub < length rows → All (λ n. n ≤ get_or limits sub 0) (numbers_of sub early)) → Raises rows early limits highs limits
raises_stays rows early limits highs within covers =
    record { step = λ sub inside. inl refl; released = covers; near = λ sub inside. omega arith; within = within }

-- the limits at the beginning are such as a restart may have
pub raises_first : (rows : List Row) (reserved highs : List ℕ) → ((sub : ℕ) → sub < length rows → get_or reserved sub 0 ≤ max_seq) → Raises rows [] reserved highs reserved
raises_first rows reserved highs within = raises_stays rows [] reserved highs within (λ sub inside. All-nil (λ n. n ≤ get_or reserved sub 0))

-- so are the limits of a restart right after it
pub raises_again : (rows : List Row) (early : List LineRecord) (limits highs next : List ℕ) → Raises rows early limits highs next → Raises rows early next highs next
raises_again rows early limits highs next raises = raises_stays rows early next highs raises.within raises.released

-- two steps of a limit are one
steps_join : (limit mid next : ℕ) → (mid ≡ limit) ⊎ ((mid ≡ max_seq) ⊎ (limit + 64 ≤ mid)) → (next ≡ mid) ⊎ ((next ≡ max_seq) ⊎ (mid + 64 ≤ next)) → next ≤ max_seq
    → (next ≡ limit) ⊎ ((next ≡ max_seq) ⊎ (limit + 64 ≤ next))
steps_join limit mid next (inl stays) (inl again) within = inl (again ∙ stays)
steps_join limit mid next (inr (inl top)) (inl again) within = inr (inl (again ∙ top))
steps_join limit mid next (inr (inr up)) (inl again) within = inr (inr (omega (arith, again, up)))
steps_join limit mid next first (inr (inl top)) within = inr (inl top)
steps_join limit mid next (inl stays) (inr (inr up)) within = inr (inr (omega (arith, stays, up)))
steps_join limit mid next (inr (inl top)) (inr (inr up)) within = absurd (omega (arith, top, up, within))
steps_join limit mid next (inr (inr low)) (inr (inr up)) within = inr (inr (omega (arith, low, up)))

-- so are limits after a round, if they rose from such limits as the round's own numbers and words ask
pub raises_round : (rows : List Row) (early lines : List LineRecord) (limits highs mid words next : List ℕ) → length words ≡ length rows
    → Raises rows early limits highs mid → Raises rows lines mid words next → Raises rows (early ++ lines) limits (greater words highs) next
raises_round rows early lines limits highs mid words next sizes before here = record {
  step = λ sub inside.
      steps_join (get_or limits sub 0) (get_or mid sub 0) (get_or next sub 0) (before.step sub inside) (here.step sub inside) (here.within sub inside);
  released = λ sub inside.
      subst (λ (numbers : List ℕ). All (λ n. n ≤ get_or next sub 0) numbers) (sym (flat_map-append (released_by sub) early lines))
      (All-append (λ n. n ≤ get_or next sub 0) (numbers_of sub early) (numbers_of sub lines)
      (All-weaker (λ n. n ≤ get_or mid sub 0) (λ n. n ≤ get_or next sub 0)
      (λ n low. let up = rises sub inside in omega (arith, low, up)) (numbers_of sub early) (before.released sub inside))
      (here.released sub inside));
  near = λ sub inside.
      let first = before.near sub inside in
      let second = here.near sub inside in
      let greatest = get_or-greater words highs sub (omega (arith, sizes, inside)) in
      omega (arith, first, second, greatest);
  within = here.within;
}
  where
    rises : (sub : ℕ) → sub < length rows → get_or mid sub 0 ≤ get_or next sub 0
    rises sub inside =
        let low = before.within sub inside in
        elim (here.step sub inside) [
          | inl stays ↦ omega (arith, stays)
          | inr other ↦ elim other [
            | inl top ↦ omega (arith, top, low)
            | inr up ↦ omega (arith, up)
          ]
        ]

-- ---- back to the beginning

-- limits that rose from others by some restarts, no further than a step above the greatest closing word
record HaveRisen (rows : List Row) (reserved highs limits : List ℕ) : Type 0 where
  step : (sub : ℕ) → sub < length rows → (get_or limits sub 0 ≡ get_or reserved sub 0) ⊎ ((get_or limits sub 0 ≡ max_seq) ⊎ (get_or reserved sub 0 + 64 ≤ get_or limits sub 0))
  near : (sub : ℕ) → sub < length rows → get_or limits sub 0 ≤ max (get_or reserved sub 0) (get_or highs sub 0 + 64)

-- a restart raises them further
risen_further : (rows : List Row) (early : List LineRecord) (reserved highs limits next : List ℕ) → HaveRisen rows reserved highs limits → Raises rows early limits highs next
    → HaveRisen rows reserved highs next
risen_further rows early reserved highs limits next risen raises = record {
  step = λ sub inside.
      steps_join (get_or reserved sub 0) (get_or limits sub 0) (get_or next sub 0) (risen.step sub inside) (raises.step sub inside) (raises.within sub inside);
  near = λ sub inside. let first = risen.near sub inside in let second = raises.near sub inside in omega (arith, first, second);
}

-- the limits at the end of a transcript rose from those reserved at the beginning
parts_risen : (set : Setting) (stop : Option Stop) (reserved : List ℕ) (at : Course) (parts : List Part) (records : List PartRecord) (end : Course)
    → length at.openings ≡ length set.rows → HaveRisen set.rows reserved at.highs at.limits → Leads set stop at parts records end
    → HaveRisen set.rows reserved end.highs end.limits
parts_risen set stop reserved at [] records end sizes risen (none, same) =
    subst (λ (c : Course). HaveRisen set.rows reserved c.highs c.limits) (sym same) risen
parts_risen set stop reserved at (part ∷ parts) [] end sizes risen leads = absurd leads
parts_risen set stop reserved at (Round jobs ∷ parts) (record_of.Round round ∷ records) end sizes risen (next, serves, rest) =
    let words = serves.words in
    let more = subst (λ (c : Course). Leads set stop c parts records end) serves.leads rest in
    let same = serves.lawful.sizes in
    let here : HaveRisen set.rows reserved (greater words at.highs) at.limits = record {
      step = risen.step;
      near = λ sub inside.
          let low = risen.near sub inside in
          let greatest = get_or-greater words at.highs sub (omega (arith, same, sizes, inside)) in omega (arith, low, greatest);
    } in
    parts_risen set stop reserved (after_round set.rows at round words serves.lawful.nets) parts records end (length-reopened set.rows words) here more
parts_risen set stop reserved at (Round jobs ∷ parts) (record_of.Restart ∷ records) end sizes risen (next, serves, rest) = absurd serves
parts_risen set stop reserved at (Restart ∷ parts) (record_of.Round round ∷ records) end sizes risen (next, serves, rest) = absurd serves
parts_risen set stop reserved at (Restart ∷ parts) (record_of.Restart ∷ records) end sizes risen (next, restarts, rest) =
    let limits = restarts.limits in
    let more = subst (λ (c : Course). Leads set stop c parts records end) restarts.leads rest in
    let here = risen_further set.rows at.early reserved at.highs at.limits limits risen restarts.raises in
    parts_risen set stop reserved (after_restart set.rows at limits) parts records end (length-opened set.rows limits) here more

-- limits that a restart may have at the end of a transcript are limits that one may have if the limits before are those
-- reserved at the beginning
pub raises_whole : (set : Setting) (stop : Option Stop) (reserved : List ℕ) (parts : List Part) (records : List PartRecord) (end : Course) (next : List ℕ)
    → Leads set stop (beginning set.rows reserved) parts records end → Raises set.rows end.early end.limits end.highs next → Raises set.rows end.early reserved end.highs next
raises_whole set stop reserved parts records end next leads raises =
    let first : HaveRisen set.rows reserved [] reserved = record { step = λ sub inside. inl refl; near = λ sub inside. omega arith } in
    let risen = parts_risen set stop reserved (beginning set.rows reserved) parts records end (length-opened set.rows reserved) first leads in
    let further = risen_further set.rows end.early reserved end.highs end.limits next risen raises in
    record { step = further.step; released = raises.released; near = further.near; within = raises.within }
