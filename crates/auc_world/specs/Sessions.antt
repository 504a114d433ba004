-- What a round tells of its sessions: which of them ended in Success at both ends with equal keys, and whether the premise of
-- equal keys held.
use Rattle.std.specs.Prelude.{ℕ, ◌+◌, ◌≤◌, ◌&&◌, Bool, true, false, List, [], ◌∷◌, flat_map, Option, Some, None, AllPairs, IsPermutation}
use Rattle.std.specs.Str.{bytes_eq}
use Rattle.auc_hmac.specs.declared.keys.KeySet.{KeySet}
use Rattle.auc_server.specs.Server.{ServerEnd}
use Rattle.auc_server.specs.declared.server.ServerState.{ServerState}
use Rattle.auc_server.specs.declared.server.ServerState.TheVariants as state
use Rattle.auc_vector.specs.declared.turn.Outcome.TheVariants as outcome
use Rattle.auc_world.specs.Net.{Net}
use Rattle.auc_record.specs.declared.record.Breach.{Breach}
use Rattle.auc_world.specs.declared.net.Session.{Session}
use Rattle.auc_record.specs.declared.record.JobSessions.{JobSessions}
use Rattle.auc_record.specs.declared.record.Premise.{Premise}
use Rattle.auc_record.specs.declared.record.Premise.TheVariants as premise
use Rattle.auc_record.specs.declared.record.SessionVerdict.{SessionVerdict}

-- ---- the keys

abbrev pub same_keys : KeySet → KeySet → Bool
same_keys a b =
    bytes_eq a.k_encr b.k_encr && (bytes_eq a.k_aut b.k_aut && (bytes_eq a.k_re b.k_re && (bytes_eq a.msk b.msk && bytes_eq a.emsk b.emsk)))

-- the keys under which a server ended in Success
abbrev pub keys_in : ServerState → Option KeySet
keys_in (state.Ended (outcome.Success keys) last) = Some keys
keys_in (state.Ended (outcome.Failure why) last) = None
keys_in state.AwaitIdentity = None
keys_in (state.Await kind) = None
keys_in (state.AwaitChallenge sent before) = None
keys_in (state.AwaitReauth sent) = None
keys_in (state.Notifying why last) = None

abbrev pub server_keys : Option ServerEnd → Option KeySet
server_keys None = None
server_keys (Some s) = keys_in s.state

-- the verdict on a session, if both ends ended in Success
abbrev pub verdict_with : ℕ → Option KeySet → Option KeySet → List SessionVerdict
verdict_with number (Some a) (Some b) = record { session = number; agree = same_keys a b } ∷ []
verdict_with number (Some a) None = []
verdict_with number None b = []

abbrev pub verdict_on : Session → List SessionVerdict
verdict_on s = verdict_with s.number (server_keys s.server) s.peer_keys

-- ---- a job

abbrev pub is_any : List Session → Bool
is_any [] = false
is_any (s ∷ sessions) = true

-- what a job's network tells of its sessions
abbrev pub job_sessions : Net → JobSessions
job_sessions w = record { verdicts = flat_map verdict_on w.sessions; any = is_any w.sessions; broken = w.broken }

-- ---- a round

-- the verdicts of a round's jobs, in the order of the sessions' numbers
pub record AreVerdicts (jobs : List JobSessions) (verdicts : List SessionVerdict) : Type 0 where
  pub same : IsPermutation (flat_map (λ job. job.verdicts) jobs) verdicts
  pub rising : AllPairs (λ a b. a.session ≤ b.session) verdicts

-- the premise of a job, and of jobs of which the first has a number
abbrev pub premise_with : ℕ → Bool → Option Breach → Premise
premise_with job false broken = premise.NoSession
premise_with job true None = premise.Held
premise_with job true (Some breach) = premise.Broken job breach

-- the premise of earlier jobs and of later ones: the first breach stays
abbrev pub joined : Premise → Premise → Premise
joined (premise.Broken job breach) later = premise.Broken job breach
joined premise.NoSession later = later
joined premise.Held premise.NoSession = premise.Held
joined premise.Held premise.Held = premise.Held
joined premise.Held (premise.Broken job breach) = premise.Broken job breach

abbrev pub premise_from : ℕ → List JobSessions → Premise
premise_from number [] = premise.NoSession
premise_from number (job ∷ jobs) = joined (premise_with number job.any job.broken) (premise_from (number + 1) jobs)
