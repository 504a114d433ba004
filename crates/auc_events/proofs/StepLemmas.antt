-- For runs: what a step adds to the lines of the job, and what stands after it.
use Rattle.std.proofs.Common.{◌≡◌, ℕ, List, [], ◌∷◌, ◌++◌, refl, sym, ◌∙◌, ap, subst}
use Rattle.std.specs.Prelude.{slice_index}
use Rattle.std.proofs.lemmas.List.{append_cancel_left}
use Rattle.auc_cards.specs.Usims.{HaveSecrets}
use Rattle.auc_core.specs.Step.{CoreState}
use Rattle.auc_jobs.proofs.Facts.{Applied, event_serves, placed_after, remember_pasts, secrets_after}
use Rattle.auc_jobs.specs.InnerServing.{Happens, ServesLine, JobStands, before_at}
use Rattle.auc_jobs.specs.InnerWorker.{AreAtDevices}
use Rattle.auc_subs.specs.Subscriber.{AreSubscribers, tops_of}
use Rattle.auc_vector.specs.Stretch.{IsStretch}
use Rattle.auc_record.specs.Event.{Came}
use Rattle.auc_world.specs.Came.{asking_of}
use Rattle.auc_record.specs.Entries.{entries_of_lines}
use Rattle.auc_world.specs.Given.{EventGives, LineGives, packet_in}
use Rattle.auc_record.specs.Lines.{held_of}
use Rattle.auc_world.specs.Net.{Net}
use Rattle.auc_record.specs.Released.{Released}
use Rattle.auc_subs.specs.Setting.{Setting}
use Rattle.auc_world.specs.World.{WorldState, usim_of}
use Rattle.auc_record.specs.declared.event.Event.{Event}
use Rattle.auc_record.specs.declared.event.Event.TheVariants as event
use Rattle.auc_record.specs.declared.record.LineRecord.{LineRecord}
use Rattle.auc_record.specs.declared.record.LineRecord.TheVariants.{Event as Happening}
use Rattle.auc_events.specs.Run.{IsStep, kept_in, line_for, top_in}
use Rattle.auc_events.proofs.WordLemmas.{AreLow, words_low}

-- no earlier round released a number
abbrev pub none_released : Released
none_released = []

-- what holds after some lines of the job: the words that the centre keeps are reported, each USIM remembers what the lines say that
-- it accepted and is its row's, each session is at the device of its subscriber, no word is above the mark, and the greatest numbers
-- are the rows'
pub record Holds (set : Setting) (own : List LineRecord) (world : WorldState) (core : CoreState) : Type 0 where
  pub stands : JobStands set.rows (before_at [] [] own) (kept_in core) none_released (usim_of set.rows world)
  pub secrets : HaveSecrets set.rows (usim_of set.rows world)
  pub placed : AreAtDevices set.rows world.net
  pub low : AreLow core
  pub tops : core.tops ≡ tops_of set.rows

abbrev pub record_for : Event → Came → LineRecord
record_for e result = Happening (record { event = e; result = result })

-- what a step gives: the record of its event, the entries of the centre's calls, and what holds then
pub record StepGives (set : Setting) (own : List LineRecord) (net : Net) (core : CoreState) (e : Event) (line : LineRecord) (new : WorldState) (next : CoreState) : Type 0 where
  pub given : EventGives set (before_at [] [] own) net e (line ∷ []) new.net
  pub made : (sub : ℕ) → IsStretch core sub (entries_of_lines sub own (line ∷ [])) (held_of sub (line ∷ [])) next
  pub holds : Holds set (own ++ line ∷ []) new next

-- the line that asks for an event gives what the event gives
pub line_gives : (set : Setting) (own : List LineRecord) (net next : Net) (e : Event) (lines : List LineRecord) → EventGives set (before_at [] [] own) net e lines next
    → LineGives set (before_at [] [] own) net (line_for e) lines next
line_gives set own net next (event.Open opening) lines given = given
line_gives set own net next (event.Start session) lines given = given
line_gives set own net next (event.Deliver session at' packet) lines given = given
line_gives set own net next (event.Repeat session) lines given = given
line_gives set own net next (event.GiveUp session at') lines given = given
line_gives set own net next (event.Tamper packet place byte) lines given = given
line_gives set own net next (event.Cut packet count) lines given = given

pub step_gives : (set : Setting) (own : List LineRecord) (old : WorldState) (core : CoreState) (e : Event) (result : Came) (new : WorldState) (next : CoreState) → AreSubscribers set.rows
    → IsStep set old core e result new next → Holds set own old core → StepGives set own old.net core e (record_for e result) new next
step_gives set own old core e result new next are step holds = record {
  given = subst (λ (lines : List LineRecord). EventGives set (before_at [] [] own) old.net e lines new.net) alike served.given.given;
  made = λ sub. subst (λ (lines : List LineRecord). IsStretch core sub (entries_of_lines sub own lines) (held_of sub lines) next) same (served.made sub);
  holds = record {
    stands = served.stands;
    secrets = secrets_after IsStretch kept_in top_in set old new e core next result applied;
    placed = placed_after IsStretch kept_in top_in set old new e core next result applied;
    low = words_low core next (asking_of set old.net e applied.applies.told) applied.applies.told.notes applied.applies.centre holds.low;
    tops = (served.made 0).tops ∙ holds.tops;
  };
}
  where
    line : LineRecord
    line = record_for e result

    applied : Applied IsStretch kept_in top_in set old new e core next result
    applied = record { applies = step.applied (remember_pasts old.devices); subscribers = are; secrets = holds.secrets; placed = holds.placed; same = step.devices }

    served : ServesLine (λ sub entries withheld. IsStretch core sub entries withheld next) set.rows (before_at [] [] own) (kept_in next) none_released (usim_of set.rows new)
        (λ added. Happens set (before_at [] [] own) old.net e (packet_in result) added new.net) (own ++ line ∷ [])
    served = event_serves IsStretch kept_in top_in set old new e core next result [] [] own (own ++ line ∷ []) none_released applied (λ sub inside. ap (λ (tops : List ℕ). slice_index tops sub) holds.tops) step.asked holds.stands refl

    same : served.lines ≡ line ∷ []
    same = sym (append_cancel_left own (line ∷ []) served.lines served.added)

    alike : served.given.line ∷ [] ≡ line ∷ []
    alike = sym served.given.is ∙ same
