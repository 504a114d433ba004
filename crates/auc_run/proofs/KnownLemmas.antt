-- For the top call: a scenario that was read asks only for what can be served.
use Rattle.std.proofs.Common.{◌≤◌, List, [], ◌∷◌, length, All, arith}
use Rattle.std.proofs.lemmas.List.{length-append}
use Rattle.std.proofs.lemmas.List.Elements.{All-nil, All-cons, All-head, All-tail, All-weaker}
use Rattle.auc_jobs.specs.Serving.{IsKnownLine, AreKnown}
use Rattle.auc_script.specs.Limits.{AreJobs, IsBlock, IsPart, IsWithin}
use Rattle.auc_reading.specs.Ranges.{IsLine}
use Rattle.auc_script.specs.Numbers.{most_jobs}
use Rattle.auc_lines.specs.Part.{jobs_of}
use Rattle.auc_lines.specs.declared.part.Line.{Line}
use Rattle.auc_lines.specs.declared.part.Line.TheVariants.{Draw, Sync, Give, Eps, Fiveg, Sites, Sim, Session, Start, Deliver, Repeat, GiveUp, Plain, Tamper, Cut}
use Rattle.auc_lines.specs.declared.part.Part.{Part}
use Rattle.auc_lines.specs.declared.part.Part.TheVariants.{Round, Restart}
use Rattle.auc_script.specs.declared.script.Script.{Script}
use Rattle.auc_subs.specs.Subscriber.{AreSubscribers}
use Rattle.auc_subs.specs.declared.row.Row.{Row}
use Rattle.auc_world.specs.Agreement.{IsRealm}
use Rattle.auc_run.specs.Inner.{IsKnownPart}

-- subscribers, a realm, and parts that can be served
pub record Known (rows : List Row) (script : Script) : Type 0 where
  pub subscribers : AreSubscribers rows
  pub realm : IsRealm script.realm
  pub parts : All (IsKnownPart rows) script.parts

-- a line
known_line : (rows : List Row) (line : Line) → IsLine rows line → IsKnownLine rows line
known_line rows (Draw sub count) is = is.0
known_line rows (Sync sub report count) is = (is.0, is.1)
known_line rows (Give sub n) is = (is.0, is.1, is.2)
known_line rows (Eps sub snid) is = is
known_line rows (Fiveg line) is =
    record { sub = is.0; home = record { some = is.1.0; short = is.1.1 }; device = record { some = is.2.0; short = is.2.1 }; bit = is.3 }
known_line rows (Sites line) is = is
known_line rows (Sim line) is = is
known_line rows (Session line) is = (is.0, is.1, is.2)
known_line rows (Start session) is = tt
known_line rows (Deliver session at' packet) is = tt
known_line rows (Repeat session) is = tt
known_line rows (GiveUp session at') is = tt
known_line rows (Plain session) is = tt
known_line rows (Tamper packet place byte) is = tt
known_line rows (Cut packet length) is = tt

-- a round that has not too many jobs
known_round : (rows : List Row) (jobs : List (List Line)) → AreJobs rows jobs → length jobs ≤ most_jobs → IsKnownPart rows (Round jobs)
known_round rows jobs are few = record {
  known = All-weaker (λ job. All (IsLine rows) job) (AreKnown rows)
      (λ job lines. All-weaker (IsLine rows) (IsKnownLine rows) (known_line rows) job lines) jobs are.lines;
  apart = are.apart;
  few = few;
}

-- that of a block
pub known_block : (rows : List Row) (jobs : List (List Line)) → IsBlock rows jobs → IsKnownPart rows (Round jobs)
known_block rows jobs block = known_round rows jobs block.are_jobs block.few

-- parts that have not too many jobs together
known_parts : (rows : List Row) (parts : List Part) → All (IsPart rows) parts → length (jobs_of parts) ≤ most_jobs → All (IsKnownPart rows) parts
known_parts rows [] each few = All-nil (IsKnownPart rows)
known_parts rows (Restart ∷ parts) each few =
    All-cons (IsKnownPart rows) Restart parts tt (known_parts rows parts (All-tail (IsPart rows) Restart parts each) few)
known_parts rows (Round jobs ∷ parts) each few =
    let cut = length-append jobs (jobs_of parts) in
    All-cons (IsKnownPart rows) (Round jobs) parts (known_round rows jobs (All-head (IsPart rows) (Round jobs) parts each) (omega (arith, cut)))
    (known_parts rows parts (All-tail (IsPart rows) (Round jobs) parts each) (omega (arith, cut)))

-- those of a script that was read
pub known : (rows : List Row) (script : Script) → IsWithin rows script → IsRealm script.realm → Known rows script
known rows script within realm =
    let jobs = within.parts.jobs in
    record { subscribers = within.subscribers; realm = realm; parts = known_parts rows script.parts within.parts.each (omega (arith, jobs)) }
