-- Authentications in 5G (TS 33.501 §6.1.3.2). If nothing happens to RES* on its way, and both ends know the serving network by one
-- name, then both networks confirm the authentication exactly if the USIM accepts, and both ends have the same values.
use Rattle.std.specs.Prelude.{◌≡◌, ◌≢◌, ℕ, nat_le, Bool, true, false, Some, None, List, [], ◌∷◌, ◌++◌, map, slice_get, slice_index}
use Rattle.auc_5g.specs.Agree.{Agree}
use Rattle.auc_5g.specs.Keys.{home_of}
use Rattle.auc_5g.specs.declared.home_keys.HomeKeys.{HomeKeys}
use Rattle.auc_lines.specs.declared.part.FivegLine.{FivegLine}
use Rattle.auc_lines.specs.declared.part.Line.{Line}
use Rattle.auc_lines.specs.declared.part.Line.TheVariants as line
use Rattle.auc_lines.specs.declared.part.Part.{Part}
use Rattle.auc_lines.specs.declared.part.Part.TheVariants.{Round, Restart}
use Rattle.auc_random.specs.Random.{rand_of}
use Rattle.auc_subs.specs.Subscriber.{AreSubscribers}
use Rattle.auc_subs.specs.declared.row.Row.{Row}
use Rattle.auc_world.specs.Given.{Before, JobGives, behind, device_of_row, hxres_lines}
use Rattle.auc_record.specs.Draws.{OneGives}
use Rattle.auc_record.specs.Lines.{all_lines}
use Rattle.auc_world.specs.Net.{Net}
use Rattle.auc_subs.specs.Setting.{Setting}
use Rattle.auc_world.specs.Start.{Kept, fresh_kept, kept_by_jobs, start_of}
use Rattle.auc_record.specs.VectorAt.{vector_of_row}
use Rattle.auc_record.specs.declared.further.FivegOutcome.TheVariants as fiveg
use Rattle.auc_record.specs.declared.further.Further.TheVariants as further
use Rattle.auc_record.specs.declared.record.GiveVerdict.{GiveVerdict}
use Rattle.auc_record.specs.declared.record.GiveVerdict.TheVariants as given
use Rattle.auc_record.specs.declared.record.LineRecord.{LineRecord}
use Rattle.auc_record.specs.declared.record.LineRecord.TheVariants.{Give, Further}
use Rattle.auc_record.specs.declared.record.PartRecord.{PartRecord}
use Rattle.auc_record.specs.declared.record.PartRecord.TheVariants as record_of
use Rattle.auc_transcript.specs.Keys.{AreNets}

-- ---- one authentication

-- nothing happens to RES* on its way to the networks, and both ends know the serving network by one name
pub record IsHonest (authentication : FivegLine) : Type 0 where
  pub untouched : authentication.bit ≡ None
  pub named : authentication.home ≡ authentication.device

-- whether the separation bit of a row's AMF is set: its top bit (TS 33.102 Annex H)
abbrev pub has_separation : Row → Bool
has_separation row = nat_le 128 (slice_index row.amf 0)

-- what is said after a USIM's answer: if it accepted, both networks confirm RES*, and both ends have the home network's K_SEAF
abbrev pub confirmed_lines : FivegLine → HomeKeys → GiveVerdict → List LineRecord
confirmed_lines authentication home given.Accepted =
    hxres_lines authentication.hxres home ++ Further (further.Fiveg authentication.sub (fiveg.Confirmed home.k_seaf home.k_seaf)) ∷ []
confirmed_lines authentication home (given.Sync sqn_ms) = []
confirmed_lines authentication home given.Absent = []

-- the USIM answers a vector of the home network with these values: its answer, and what is said after it
abbrev pub IsAnsweredWith : FivegLine → ℕ → HomeKeys → List LineRecord → Type 0
IsAnsweredWith authentication n home lines = (answer : GiveVerdict) × (answer ≢ given.Absent)
    × (lines ≡ Give authentication.sub n answer ∷ confirmed_lines authentication home answer)

-- what follows the vector of a number in such an authentication
pub record IsConfirmed (set : Setting) (authentication : FivegLine) (n : ℕ) (lines : List LineRecord) : Type 0 where
  pub row : Row
  pub there : slice_get set.rows authentication.sub ≡ Some row
  -- the device makes the home network's XRES*, K_AUSF and K_SEAF of the vector
  pub agree : Agree (home_of (vector_of_row set row authentication.sub n) authentication.home)
      (device_of_row row n (rand_of set.key authentication.sub n) authentication.device)
  -- without the separation bit the vector is none of 5G
  pub clear : has_separation row ≡ false → lines ≡ Further (further.Fiveg authentication.sub fiveg.NoSeparation) ∷ []
  -- with it the USIM answers
  pub separated : has_separation row ≡ true
      → IsAnsweredWith authentication n (home_of (vector_of_row set row authentication.sub n) authentication.home) lines

-- ---- those of a job, of a round, of a transcript

-- a line between the other lines of a job gave some of the job's records, of which this holds: the lines before it gave the records
-- before them, and those after it the records after them
pub record Gave (set : Setting) (before : Before) (start : Net) (front back : List Line) (Holds : List LineRecord → Type 0) (records : List LineRecord) (last : Net) : Type 0 where
  pub early : List LineRecord
  pub own : List LineRecord
  pub late : List LineRecord
  pub records_are : records ≡ early ++ (own ++ late)
  -- the line leaves the network of the job's sessions as it is
  pub net : Net
  pub first : JobGives set before start front early net
  pub holds : Holds own
  pub rest : JobGives set (behind (behind before early) own) net back late last

-- each such line of a job gave a vector, and it was confirmed; or it gave none
abbrev pub JobConfirms : Setting → Before → Net → List Line → List LineRecord → Net → Type 0
JobConfirms set before start job records last = (front back : List Line) (authentication : FivegLine)
    → job ≡ front ++ line.Fiveg authentication ∷ back → IsHonest authentication
    → Gave set before start front back (λ own. OneGives set authentication.sub (λ n lines. IsConfirmed set authentication n lines) own) records last

-- those of the jobs of a round, by the lines of earlier rounds and of earlier jobs
abbrev pub JobsConfirm : Setting → List LineRecord → List Kept → List LineRecord → List (List Line) → List (List LineRecord) → List Net → Type 0
JobsConfirm set early kept beside [] [] [] = Unit {0}
JobsConfirm set early kept beside (job ∷ jobs) (lines ∷ records) (net ∷ nets) =
    JobConfirms set (record { early = early; beside = beside; own = [] }) (start_of set kept job) job lines net
    × JobsConfirm set early kept (beside ++ lines) jobs records nets
JobsConfirm set early kept beside jobs records nets = ⊥

-- those of the rounds of a transcript, after the lines of earlier rounds and with what these left at homes and on devices
abbrev pub AuthenticationsAreConfirmedAfter : Setting → List LineRecord → List Kept → List Part → List PartRecord → List (List Net) → Type 0
AuthenticationsAreConfirmedAfter set early kept [] records nets = Unit {0}
AuthenticationsAreConfirmedAfter set early kept (Round jobs ∷ parts) (record_of.Round round ∷ records) (first ∷ nets) =
    JobsConfirm set early kept [] jobs round.jobs first
    × AuthenticationsAreConfirmedAfter set (early ++ all_lines round.jobs) (kept_by_jobs kept first) parts records nets
AuthenticationsAreConfirmedAfter set early kept (Restart ∷ parts) (record_of.Restart ∷ records) nets =
    AuthenticationsAreConfirmedAfter set early kept parts records nets
AuthenticationsAreConfirmedAfter set early kept (part ∷ parts) records nets = ⊥

-- those of a whole transcript, with the networks to which its jobs lead
abbrev pub AuthenticationsAreConfirmed : Setting → List Part → List PartRecord → List (List Net) → Type 0
AuthenticationsAreConfirmed set parts records nets = AuthenticationsAreConfirmedAfter set [] (map (λ row. fresh_kept) set.rows) parts records nets

-- ---- the law

-- a lawful transcript leads to such networks (`Keys`)
abbrev pub EachHonestAuthenticationIsConfirmed : Type 0
EachHonestAuthenticationIsConfirmed = (set : Setting) (parts : List Part) (records : List PartRecord) (nets : List (List Net)) → AreSubscribers set.rows
    → AreNets set parts records nets → AuthenticationsAreConfirmed set parts records nets
