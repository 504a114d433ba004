-- The law of limits: each released number is above what was reserved for its subscriber at first.
use Rattle.std.proofs.Common.{◌≡◌, ℕ, ◌+◌, ◌<◌, ◌≤◌, ◌⊎◌, min, Option, List, [], ◌∷◌, length, get_or, ap, subst, arith, inl, inr}
use Rattle.std.proofs.lemmas.Bool.{cases_lt}
use Rattle.auc_memory.specs.declared.stop.Stop.{Stop}
use Rattle.auc_history.specs.Split.{times}
use Rattle.auc_history.proofs.Facts.{times_at}
use Rattle.auc_sqn.specs.Number.{max_seq}
use Rattle.auc_subs.specs.Subscriber.{top_at}
use Rattle.auc_subs.specs.declared.row.Row.{Row}
use Rattle.auc_subs.proofs.Facts.{length-tops_of, tops_within}
use Rattle.auc_lines.specs.declared.part.Part.{Part}
use Rattle.auc_lines.specs.declared.part.Part.TheVariants.{Round, Restart}
use Rattle.auc_record.specs.declared.record.PartRecord.{PartRecord}
use Rattle.auc_record.specs.declared.record.PartRecord.TheVariants as record_of
use Rattle.auc_record.specs.Lines.{numbers_of, all_lines}
use Rattle.auc_subs.specs.Setting.{Setting}
use Rattle.auc_world.specs.Transcript.{Course, Leads, after_round, after_restart, beginning, lines_of}
use Rattle.auc_record.proofs.Facts.{get_or-reopened, length-reopened}
use Rattle.auc_world.proofs.Facts.{length-opened, opened_above}
use Rattle.auc_transcript.specs.Headline.{EachNumberIsAboveReserved}
use Rattle.auc_transcript.proofs.LineLemmas.{times-numbers-append}
use Rattle.auc_transcript.proofs.VectorLemmas.{numbers_within, round_between, transcript_served}

-- a limit that a restart may have isn't lower than a number that the limit before isn't lower than
step_up : (low limit next : ℕ) → low ≤ limit → low ≤ max_seq → (next ≡ limit) ⊎ ((next ≡ max_seq) ⊎ (limit + 64 ≤ next)) → low ≤ next
step_up low limit next at within (inl stays) = omega (arith, at, stays)
step_up low limit next at within (inr (inl top)) = omega (arith, within, top)
step_up low limit next at within (inr (inr up)) = omega (arith, at, up)

-- a subscriber's greatest number is a number
pub top_is_number : (rows : List Row) (sub : ℕ) → sub < length rows → top_at rows sub ≤ max_seq
top_is_number rows sub inside = let size = length-tops_of rows in tops_within rows sub 0 (omega (arith, size, inside))

-- where the opening and the limit of a subscriber aren't lower than a number, each number that is released later is above it
parts_above : (set : Setting) (stop : Option Stop) (sub low : ℕ) (at : Course) (parts : List Part) (records : List PartRecord) (end : Course) → sub < length set.rows
    → length at.openings ≡ length set.rows → low ≤ top_at set.rows sub → low ≤ get_or at.openings sub 0 → low ≤ get_or at.limits sub 0 → Leads set stop at parts records end
    → (n : ℕ) → 1 ≤ times n (numbers_of sub (lines_of records)) → low < n
parts_above set stop sub low at [] records end inside sizes within opens limit (nothing, stands) n some =
    let same = ap (λ (rs : List PartRecord). times n (numbers_of sub (lines_of rs))) nothing in absurd (omega (arith, same, some))
parts_above set stop sub low at (part ∷ parts) [] end inside sizes within opens limit leads n some = absurd leads
parts_above set stop sub low at (Round jobs ∷ parts) (record_of.Round round ∷ records) end inside sizes within opens limit (next, serves, rest) n some =
    let words = serves.words in
    let more = subst (λ (c : Course). Leads set stop c parts records end) serves.leads rest in
    let same = serves.lawful.sizes in
    let splits = serves.lawful.split sub (omega (arith, inside, sizes)) in
    let forward = splits.forward in
    let again = get_or-reopened set.rows words sub inside (omega (arith, same, sizes, inside)) in
    let cut = times-numbers-append n sub (all_lines round.jobs) (lines_of records) in
    elim (cases_lt 0 (times n (numbers_of sub (all_lines round.jobs)))) [
      | inl here ↦ (let (up, down) = round_between sub (get_or at.openings sub 0) (get_or words sub 0) n round splits.once here in omega (arith, opens, up))
      | inr none ↦ parts_above set stop sub low (after_round set.rows at round words serves.lawful.nets) parts records end inside (length-reopened set.rows words) within
          (omega (arith, again, forward, opens, within)) limit more n (omega (arith, cut, none, some))
    ]
parts_above set stop sub low at (Round jobs ∷ parts) (record_of.Restart ∷ records) end inside sizes within opens limit (next, serves, rest) n some = absurd serves
parts_above set stop sub low at (Restart ∷ parts) (record_of.Round round ∷ records) end inside sizes within opens limit (next, serves, rest) n some = absurd serves
parts_above set stop sub low at (Restart ∷ parts) (record_of.Restart ∷ records) end inside sizes within opens limit (next, restarts, rest) n some =
    let limits = restarts.limits in
    let more = subst (λ (c : Course). Leads set stop c parts records end) restarts.leads rest in
    let most = top_is_number set.rows sub inside in
    let up = step_up low (get_or at.limits sub 0) (get_or limits sub 0) limit (omega (arith, within, most)) (restarts.raises.step sub inside) in
    let opening = opened_above set.rows limits sub inside in
    parts_above set stop sub low (after_restart set.rows at limits) parts records end inside (length-opened set.rows limits) within (omega (arith, up, within, opening)) up more n some

-- each number is above what was reserved at first
pub above_reserved : EachNumberIsAboveReserved
above_reserved set reserved stop parts records lawful sub inside = λ k d there.
    let numbers = numbers_of sub (lines_of records) in
    let n = get_or numbers k d in
    let first = get_or reserved sub 0 in
    let low = min (top_at set.rows sub) first in
    let opening = opened_above set.rows reserved sub inside in
    let above = parts_above set stop sub low (beginning set.rows reserved) parts records lawful.0 inside (length-opened set.rows reserved)
    (omega arith) (omega (arith, opening)) (omega arith) lawful.1 n (times_at numbers k d there) in
    let within = numbers_within set sub [] (lines_of records) (transcript_served set reserved stop parts records lawful) k d there in
    omega (arith, above, within)
