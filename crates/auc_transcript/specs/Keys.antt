-- The two ends of an authentication have equal keys, in whichever jobs and rounds they are, if the premise of equal keys
-- held; and what the records of rounds tell of the premise.
use Rattle.std.specs.Prelude.{◌≡◌, ◌↔◌, ◌<◌, ℕ, true, List, [], ◌∷◌, ◌++◌, Option, None, length, map, All, AllPairs, Contains}
use Rattle.auc_aes.specs.Bytes.{IsBlock}
use Rattle.auc_memory.specs.declared.stop.Stop.{Stop}
use Rattle.auc_hmac.specs.declared.keys.KeySet.{KeySet}
use Rattle.auc_lines.specs.Part.{AreApart, holds}
use Rattle.auc_lines.specs.declared.part.Line.{Line}
use Rattle.auc_lines.specs.declared.part.Part.{Part}
use Rattle.auc_lines.specs.declared.part.Part.TheVariants.{Round, Restart}
use Rattle.auc_subs.specs.Subscriber.{AreSubscribers}
use Rattle.auc_world.specs.Agreement.{AreOfOne, IsRealm, PeerWon, ServerWon}
use Rattle.auc_world.specs.Given.{JobsGive}
use Rattle.auc_record.specs.Lines.{all_lines}
use Rattle.auc_world.specs.Net.{Net}
use Rattle.auc_subs.specs.Setting.{Setting}
use Rattle.auc_world.specs.Start.{Kept, fresh_kept, kept_by_jobs}
use Rattle.auc_world.specs.Transcript.{IsLawful}
use Rattle.auc_world.specs.declared.net.Inputs.{Inputs}
use Rattle.auc_world.specs.declared.net.Session.{Session}
use Rattle.auc_record.specs.declared.record.LineRecord.{LineRecord}
use Rattle.auc_record.specs.declared.record.PartRecord.{PartRecord}
use Rattle.auc_record.specs.declared.record.PartRecord.TheVariants as record_of
use Rattle.auc_record.specs.declared.record.Premise.{Premise}
use Rattle.auc_record.specs.declared.record.Premise.TheVariants as premise

-- ---- networks

-- the networks to which the jobs of some parts lead, a list for each round, after the lines of earlier rounds and with what
-- these left at homes and on devices
abbrev pub AreNetsAfter : Setting → List LineRecord → List Kept → List Part → List PartRecord → List (List Net) → Type 0
AreNetsAfter set early kept [] records nets = (records ≡ []) × (nets ≡ [])
AreNetsAfter set early kept (Round jobs ∷ parts) (record_of.Round round ∷ records) (first ∷ nets) =
    JobsGive set early kept [] jobs round.jobs first × AreNetsAfter set (early ++ all_lines round.jobs) (kept_by_jobs kept first) parts records nets
AreNetsAfter set early kept (Restart ∷ parts) (record_of.Restart ∷ records) nets = AreNetsAfter set early kept parts records nets
AreNetsAfter set early kept (part ∷ parts) records nets = ⊥

-- those of a whole transcript: before the first round nothing is kept
abbrev pub AreNets : Setting → List Part → List PartRecord → List (List Net) → Type 0
AreNets set parts records nets = AreNetsAfter set [] (map (λ row. fresh_kept) set.rows) parts records nets

-- the jobs of a round hold the USIMs of so many subscribers alone, and no two of them hold one
pub record AreHeldApart (count : ℕ) (jobs : List (List Line)) : Type 0 where
  pub known : All (λ job. (sub : ℕ) → holds sub job ≡ true → sub < count) jobs
  pub apart : AllPairs AreApart jobs

-- a part of a scenario: such a round, or a restart
abbrev pub IsHeldApart : ℕ → Part → Type 0
IsHeldApart count (Round jobs) = AreHeldApart count jobs
IsHeldApart count Restart = Unit {0}

-- ---- keys

-- a session of a job in which the premise of equal keys held: no delivery broke it
pub record IsOfUnbrokenJob (nets : List (List Net)) (a : Session) : Type 0 where
  pub round : List Net
  pub is_round : Contains nets round
  pub net : Net
  pub is_job : Contains round net
  pub is_in : Contains net.sessions a
  -- no delivery broke it in the job
  pub unbroken : net.broken ≡ None

-- a server and a peer that ended in Success over one challenge or in one fast re-authentication have equal keys, if the premise
-- held in the jobs of both
abbrev pub EndsAgree : List (List Net) → Type 0
EndsAgree nets = (a b : Session) (k l : KeySet) (i j : Inputs) → IsOfUnbrokenJob nets a → IsOfUnbrokenJob nets b
    → ServerWon a k i → PeerWon b l j → AreOfOne i j → k ≡ l

abbrev pub EachAuthenticationAgrees : Type 0
EachAuthenticationAgrees =
    (set : Setting) (reserved : List ℕ) (stop : Option Stop) (parts : List Part) (records : List PartRecord) (nets : List (List Net))
    → AreSubscribers set.rows → IsRealm set.realm → IsBlock set.names → All (IsHeldApart (length set.rows)) parts → IsLawful set reserved stop parts records
    → AreNets set parts records nets → EndsAgree nets

-- ---- what is told of the premise

-- no breach is told
abbrev pub HasNoBreach : Premise → Type 0
HasNoBreach premise.NoSession = Unit {0}
HasNoBreach premise.Held = Unit {0}
HasNoBreach (premise.Broken job breach) = ⊥

-- no delivery broke the premise in a job, unless the job has no session
abbrev pub IsUnbroken : Net → Type 0
IsUnbroken net = (a : Session) → Contains net.sessions a → net.broken ≡ None

-- each round tells of a breach exactly if a delivery broke the premise in one of its jobs
abbrev pub BreachesAreTold : List PartRecord → List (List Net) → Type 0
BreachesAreTold [] nets = Unit {0}
BreachesAreTold (record_of.Round round ∷ records) [] = ⊥
BreachesAreTold (record_of.Round round ∷ records) (first ∷ nets) = (HasNoBreach round.premise ↔ All IsUnbroken first) × BreachesAreTold records nets
BreachesAreTold (record_of.Restart ∷ records) nets = BreachesAreTold records nets

abbrev pub EachBreachIsTold : Type 0
EachBreachIsTold =
    (set : Setting) (reserved : List ℕ) (stop : Option Stop) (parts : List Part) (records : List PartRecord) (nets : List (List Net))
    → IsLawful set reserved stop parts records → AreNets set parts records nets → BreachesAreTold records nets

-- a lawful transcript leads to networks, and to no others
abbrev pub EachTranscriptHasItsNets : Type 0
EachTranscriptHasItsNets =
    (set : Setting) (reserved : List ℕ) (stop : Option Stop) (parts : List Part) (records : List PartRecord) → IsLawful set reserved stop parts records
    → (nets : List (List Net)) × AreNets set parts records nets × ((others : List (List Net)) → AreNets set parts records others → others ≡ nets)
