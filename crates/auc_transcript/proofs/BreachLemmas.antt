-- The laws of networks and of the premise: a transcript has its networks, and each breach is told.
use Rattle.std.proofs.Common.{◌≡◌, ℕ, zero, ◌+◌, List, [], ◌∷◌, ◌++◌, map, Option, Some, None, All, Contains, refl, sym, ap, ◌∙◌, subst, arith}
use Rattle.std.proofs.lemmas.List.Elements.{All-cons, All-head, All-nil, All-tail}
use Rattle.auc_memory.specs.declared.stop.Stop.{Stop}
use Rattle.auc_lines.specs.declared.part.Part.{Part}
use Rattle.auc_lines.specs.declared.part.Part.TheVariants as part
use Rattle.auc_record.specs.Lines.{all_lines}
use Rattle.auc_world.specs.Net.{Net}
use Rattle.auc_world.specs.Sessions.{is_any, job_sessions, joined, premise_from, premise_with}
use Rattle.auc_subs.specs.Setting.{Setting}
use Rattle.auc_world.specs.Start.{Kept, fresh_kept, kept_by_jobs}
use Rattle.auc_world.specs.Transcript.{Course, Leads, after_restart, after_round, beginning}
use Rattle.auc_record.specs.declared.record.Breach.{Breach}
use Rattle.auc_world.specs.declared.net.Session.{Session}
use Rattle.auc_record.specs.declared.record.LineRecord.{LineRecord}
use Rattle.auc_record.specs.declared.record.PartRecord.{PartRecord}
use Rattle.auc_record.specs.declared.record.PartRecord.TheVariants as record_of
use Rattle.auc_record.specs.declared.record.Premise.{Premise}
use Rattle.auc_record.specs.declared.record.Premise.TheVariants as premise
use Rattle.auc_transcript.specs.Keys.{AreNetsAfter, BreachesAreTold, EachBreachIsTold, EachTranscriptHasItsNets, HasNoBreach, IsUnbroken}
use Rattle.auc_transcript.proofs.OneEventLemmas.{Laws}
use Rattle.auc_transcript.proofs.OneLineLemmas.{conses}
use Rattle.auc_transcript.proofs.OneToldLemmas.{jobs_one}

-- ---- the premise of a round

-- no breach of a job and of later ones
parted : (job : ℕ) (sessions : List Session) (broken : Option Breach) (later : Premise) → HasNoBreach (joined (premise_with job (is_any sessions) broken) later)
    → ((a : Session) → Contains sessions a → broken ≡ None) × HasNoBreach later
parted job [] broken later is = (λ a there. absurd (let inside = there.1 in omega arith), is)
parted job (s ∷ sessions) None premise.NoSession is = (λ a there. refl, tt)
parted job (s ∷ sessions) None premise.Held is = (λ a there. refl, tt)
parted job (s ∷ sessions) None (premise.Broken other breach) is = absurd is
parted job (s ∷ sessions) (Some breach) later is = absurd is

both : (job : ℕ) (sessions : List Session) (broken : Option Breach) (later : Premise) → ((a : Session) → Contains sessions a → broken ≡ None) → HasNoBreach later
    → HasNoBreach (joined (premise_with job (is_any sessions) broken) later)
both job [] broken later is more = more
both job (s ∷ sessions) None premise.NoSession is more = tt
both job (s ∷ sessions) None premise.Held is more = tt
both job (s ∷ sessions) None (premise.Broken other breach) is more = absurd more
both job (s ∷ sessions) (Some breach) later is more = absurd (let bad = is s (zero, omega arith, refl) in let no : ⊥ = cc in no)

to_unbroken : (number : ℕ) (nets : List Net) → HasNoBreach (premise_from number (map job_sessions nets)) → All IsUnbroken nets
to_unbroken number [] is = All-nil IsUnbroken
to_unbroken number (net ∷ nets) is =
    let (here, more) = parted number net.sessions net.broken (premise_from (number + 1) (map job_sessions nets)) is in
    All-cons IsUnbroken net nets here (to_unbroken (number + 1) nets more)

from_unbroken : (number : ℕ) (nets : List Net) → All IsUnbroken nets → HasNoBreach (premise_from number (map job_sessions nets))
from_unbroken number [] all = tt
from_unbroken number (net ∷ nets) all =
    both number net.sessions net.broken (premise_from (number + 1) (map job_sessions nets)) (All-head IsUnbroken net nets all)
    (from_unbroken (number + 1) nets (All-tail IsUnbroken net nets all))

-- ---- parts

parts_tell : Laws → (set : Setting) (stop : Option Stop) (at : Course) (parts : List Part) (records : List PartRecord) (end : Course) (nets : List (List Net))
    → Leads set stop at parts records end → AreNetsAfter set at.early at.kept parts records nets → BreachesAreTold records nets
parts_tell laws set stop at [] records end nets (none, is) lead = subst (λ (rs : List PartRecord). BreachesAreTold rs nets) (sym none) tt
parts_tell laws set stop at (part.Round jobs ∷ parts) [] end nets leads lead = absurd leads
parts_tell laws set stop at (part.Round jobs ∷ parts) (record_of.Restart ∷ records) end nets leads lead = absurd lead
parts_tell laws set stop at (part.Round jobs ∷ parts) (record_of.Round round ∷ records) end [] leads lead = absurd lead
parts_tell laws set stop at (part.Round jobs ∷ parts) (record_of.Round round ∷ records) end (first ∷ nets) (next, serves, rest) (gives, more) =
    let one = jobs_one laws set at.early at.early at.kept [] [] jobs round.jobs round.jobs serves.lawful.nets first serves.lawful.given gives refl in
    let is = serves.lawful.premise ∙ ap (λ (ns : List Net). premise_from 1 (map job_sessions ns)) one.1 in (
      (λ none. to_unbroken 1 first (subst HasNoBreach is none), λ all. subst HasNoBreach (sym is) (from_unbroken 1 first all)),
      parts_tell laws set stop (after_round set.rows at round serves.words serves.lawful.nets) parts records end nets
          (subst (λ (c : Course). Leads set stop c parts records end) serves.leads rest)
          (subst (λ (ns : List Net). AreNetsAfter set (at.early ++ all_lines round.jobs) (kept_by_jobs at.kept ns) parts records nets) (sym one.1) more),
    )
parts_tell laws set stop at (part.Restart ∷ parts) [] end nets leads lead = absurd leads
parts_tell laws set stop at (part.Restart ∷ parts) (record_of.Round round ∷ records) end nets leads lead = absurd lead
parts_tell laws set stop at (part.Restart ∷ parts) (record_of.Restart ∷ records) end nets (next, restarts, rest) lead =
    parts_tell laws set stop (after_restart set.rows at restarts.limits) parts records end nets
    (subst (λ (c : Course). Leads set stop c parts records end) restarts.leads rest) lead

-- each breach is told
pub each_breach_is_told : Laws → EachBreachIsTold
each_breach_is_told laws set reserved stop parts records nets (end, leads) lead = parts_tell laws set stop (beginning set.rows reserved) parts records end nets leads lead

-- the networks of some parts
parts_lead : (set : Setting) (stop : Option Stop) (at : Course) (parts : List Part) (records : List PartRecord) (end : Course) → Leads set stop at parts records end
    → (nets : List (List Net)) × AreNetsAfter set at.early at.kept parts records nets
parts_lead set stop at [] records end (none, is) = ([], (none, refl))
parts_lead set stop at (part.Round jobs ∷ parts) [] end leads = absurd leads
parts_lead set stop at (part.Round jobs ∷ parts) (record_of.Restart ∷ records) end (next, serves, rest) = absurd serves
parts_lead set stop at (part.Round jobs ∷ parts) (record_of.Round round ∷ records) end (next, serves, rest) =
    let (nets, are) = parts_lead set stop next parts records end rest in
    (serves.lawful.nets ∷ nets, (serves.lawful.given, subst (λ (c : Course). AreNetsAfter set c.early c.kept parts records nets) serves.leads are))
parts_lead set stop at (part.Restart ∷ parts) [] end leads = absurd leads
parts_lead set stop at (part.Restart ∷ parts) (record_of.Round round ∷ records) end (next, serves, rest) = absurd serves
parts_lead set stop at (part.Restart ∷ parts) (record_of.Restart ∷ records) end (next, restarts, rest) =
    let (nets, are) = parts_lead set stop next parts records end rest in
    (nets, subst (λ (c : Course). AreNetsAfter set c.early c.kept parts records nets) restarts.leads are)

-- there are no others
nets_one : Laws → (set : Setting) (early : List LineRecord) (kept : List Kept) (parts : List Part) (records : List PartRecord) (nets others : List (List Net))
    → AreNetsAfter set early kept parts records nets → AreNetsAfter set early kept parts records others → others ≡ nets
nets_one laws set early kept [] records nets others (none, is) (nothing, was) = was ∙ sym is
nets_one laws set early kept (part.Round jobs ∷ parts) [] nets others lead led = absurd lead
nets_one laws set early kept (part.Round jobs ∷ parts) (record_of.Restart ∷ records) nets others lead led = absurd lead
nets_one laws set early kept (part.Round jobs ∷ parts) (record_of.Round round ∷ records) [] others lead led = absurd lead
nets_one laws set early kept (part.Round jobs ∷ parts) (record_of.Round round ∷ records) (first ∷ nets) [] lead led = absurd led
nets_one laws set early kept (part.Round jobs ∷ parts) (record_of.Round round ∷ records) (first ∷ nets) (other ∷ others) (gives, more) (gave, also_more) =
    let one = jobs_one laws set early early kept [] [] jobs round.jobs round.jobs other first gave gives refl in
    conses other first others nets one.1 (nets_one laws set (early ++ all_lines round.jobs) (kept_by_jobs kept first) parts records nets others more
    (subst (λ (ns : List Net). AreNetsAfter set (early ++ all_lines round.jobs) (kept_by_jobs kept ns) parts records others) one.1 also_more))
nets_one laws set early kept (part.Restart ∷ parts) [] nets others lead led = absurd lead
nets_one laws set early kept (part.Restart ∷ parts) (record_of.Round round ∷ records) nets others lead led = absurd lead
nets_one laws set early kept (part.Restart ∷ parts) (record_of.Restart ∷ records) nets others lead led = nets_one laws set early kept parts records nets others lead led

-- each lawful transcript has its networks
pub each_transcript_has_its_nets : Laws → EachTranscriptHasItsNets
each_transcript_has_its_nets laws set reserved stop parts records (end, leads) =
    let (nets, are) = parts_lead set stop (beginning set.rows reserved) parts records end leads in
    (nets, are, λ others also. nets_one laws set [] (map (λ row. fresh_kept) set.rows) parts records nets others are also)
