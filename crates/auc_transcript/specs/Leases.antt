-- Numbers that sites hand out. A master leases the numbers of vectors to its sites, over a network that loses, repeats and reorders
-- packets; sites and masters start again. Each number that a site hands out is that of a vector which the site's line released
-- before, and no number is handed out twice for a subscriber.
use Rattle.std.specs.Prelude.{◌≡◌, ◌≢◌, ℕ, ◌<◌, ◌==◌, List, [], ◌∷◌, ◌++◌, flat_map, length, map, All, AllPairs, Contains, Option, if◌then◌else◌}
use Rattle.auc_memory.specs.declared.stop.Stop.{Stop}
use Rattle.auc_lines.specs.Sites.{SitesValue}
use Rattle.auc_lines.specs.declared.part.Line.{Line}
use Rattle.auc_lines.specs.declared.part.Line.TheVariants as line
use Rattle.auc_lines.specs.declared.part.Part.{Part}
use Rattle.auc_lines.specs.declared.part.Part.TheVariants.{Round, Restart}
use Rattle.auc_sites.specs.Law.{HandsOutOnce, released}
use Rattle.auc_sites.specs.Network.{SitesTurn, after_turns}
use Rattle.auc_world.specs.Given.{Before}
use Rattle.auc_record.specs.Lines.{all_lines, numbers_of}
use Rattle.auc_world.specs.Net.{Net}
use Rattle.auc_subs.specs.Setting.{Setting}
use Rattle.auc_world.specs.Sites.{SitesGo, sites_start}
use Rattle.auc_world.specs.Start.{Kept, fresh_kept, kept_by_jobs, start_of}
use Rattle.auc_world.specs.Transcript.{IsLawful, lines_of}
use Rattle.auc_record.specs.declared.further.Further.{Further as Said}
use Rattle.auc_record.specs.declared.further.Further.TheVariants.{Kasme, HxresStar, Fiveg, Sites, Sim}
use Rattle.auc_record.specs.declared.record.LineRecord.{LineRecord}
use Rattle.auc_record.specs.declared.record.LineRecord.TheVariants.{Number, Sync, Give, Further, Event}
use Rattle.auc_record.specs.declared.record.PartRecord.{PartRecord}
use Rattle.auc_record.specs.declared.record.PartRecord.TheVariants as record_of
use Rattle.auc_record.specs.declared.sites.SitesNote.{SitesNote}
use Rattle.auc_record.specs.declared.sites.SitesNote.TheVariants as note
use Rattle.auc_transcript.specs.Keys.{AreNets}
use Rattle.auc_transcript.specs.Systems.{Gave}

-- ---- what lines say

-- the number that a site handed out in an event of its line, if one did
abbrev pub number_noted : SitesNote → List ℕ
number_noted (note.Asked site packet) = []
number_noted (note.Delivered packet outcome) = []
number_noted (note.Number site n) = n ∷ []
number_noted (note.Empty site) = []
number_noted (note.Restarted site) = []
number_noted note.MasterRestarted = []

abbrev pub handed_in : ℕ → Said → List ℕ
handed_in sub (Kasme key) = []
handed_in sub (HxresStar half) = []
handed_in sub (Fiveg s outcome) = []
handed_in sub (Sites s said) = if s == sub then number_noted said else []
handed_in sub (Sim s said) = []

-- the number that a line says that one of a subscriber's sites handed out
abbrev pub handed_by : ℕ → LineRecord → List ℕ
handed_by sub (Number s note) = []
handed_by sub (Sync s answer) = []
handed_by sub (Give s n answer) = []
handed_by sub (Further said) = handed_in sub said
handed_by sub (Event r) = []

-- the numbers that lines say that a subscriber's sites handed out
abbrev pub handed_out : ℕ → List LineRecord → List ℕ
handed_out sub lines = flat_map (handed_by sub) lines

-- after some lines, each number that lines say was handed out is that of a vector which a line before released
abbrev pub HandsOutAfter : ℕ → List LineRecord → List LineRecord → Type 0
HandsOutAfter sub before [] = Unit {0}
HandsOutAfter sub before (line ∷ lines) = All (Contains (numbers_of sub before)) (handed_by sub line) × HandsOutAfter sub (before ++ line ∷ []) lines

-- ---- the lines of a line for sites

-- what such a line gives, and the turns of its master and its sites
pub record HandsOut (set : Setting) (l : SitesValue) (lines : List LineRecord) : Type 0 where
  pub turns : List SitesTurn
  pub goes : SitesGo set l.sub l.size (sites_start l) l.schedule lines turns
  -- the centre gave the numbers of the lines' vectors, and the sites handed out the numbers that the lines say
  pub given : released turns ≡ numbers_of l.sub lines
  pub told : (after_turns (sites_start l) turns).drawn ≡ handed_out l.sub lines
  -- two grants with a common number are equal, no number is handed out by two draws, and each is one that the centre gave
  pub once : HandsOutOnce (released turns) (after_turns (sites_start l) turns)
  -- each is that of a vector which the line released before
  pub before : HandsOutAfter l.sub [] lines

-- ---- jobs, rounds

-- so does each such line of a job
abbrev pub JobHandsOut : Setting → Before → Net → List Line → List LineRecord → Net → Type 0
JobHandsOut set before start job records last = (front back : List Line) (l : SitesValue) → job ≡ front ++ line.Sites l ∷ back
    → Gave set before start front back (λ own. HandsOut set l own) records last

-- those of the jobs of a round, by the lines of earlier rounds and of earlier jobs
abbrev pub JobsHandOut : Setting → List LineRecord → List Kept → List LineRecord → List (List Line) → List (List LineRecord) → List Net → Type 0
JobsHandOut set early kept beside [] [] [] = Unit {0}
JobsHandOut set early kept beside (job ∷ jobs) (lines ∷ records) (net ∷ nets) =
    JobHandsOut set (record { early = early; beside = beside; own = [] }) (start_of set kept job) job lines net
    × JobsHandOut set early kept (beside ++ lines) jobs records nets
JobsHandOut set early kept beside jobs records nets = ⊥

-- those of the rounds of a transcript, after the lines of earlier rounds and with what these left at homes and on devices
abbrev pub SitesHandOutAfter : Setting → List LineRecord → List Kept → List Part → List PartRecord → List (List Net) → Type 0
SitesHandOutAfter set early kept [] records nets = Unit {0}
SitesHandOutAfter set early kept (Round jobs ∷ parts) (record_of.Round round ∷ records) (first ∷ nets) =
    JobsHandOut set early kept [] jobs round.jobs first
    × SitesHandOutAfter set (early ++ all_lines round.jobs) (kept_by_jobs kept first) parts records nets
SitesHandOutAfter set early kept (Restart ∷ parts) (record_of.Restart ∷ records) nets = SitesHandOutAfter set early kept parts records nets
SitesHandOutAfter set early kept (part ∷ parts) records nets = ⊥

-- ---- transcripts

-- in a whole transcript, with the networks to which its jobs lead
pub record LeasesAreKept (set : Setting) (parts : List Part) (records : List PartRecord) (nets : List (List Net)) : Type 0 where
  -- no number is handed out twice for one of the subscribers, whichever of its sites, lines, jobs and rounds there are
  pub differ : (sub : ℕ) → sub < length set.rows → AllPairs ◌≢◌ (handed_out sub (lines_of records))
  -- and this is so of each line for sites
  pub lines : SitesHandOutAfter set [] (map (λ row. fresh_kept) set.rows) parts records nets

-- ---- the law

abbrev pub EachLeasedNumberIsHandedOutOnce : Type 0
EachLeasedNumberIsHandedOutOnce =
    (set : Setting) (reserved : List ℕ) (stop : Option Stop) (parts : List Part) (records : List PartRecord) (nets : List (List Net))
    → IsLawful set reserved stop parts records → AreNets set parts records nets → LeasesAreKept set parts records nets
