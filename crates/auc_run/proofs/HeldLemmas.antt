-- For the top call: jobs whose lines are known hold the USIMs of known subscribers alone.
use Rattle.std.proofs.Common.{◌≡◌, ℕ, ◌<◌, ◌||◌, Bool, true, false, List, [], ◌∷◌, length, All, refl, arith}
use Rattle.std.proofs.lemmas.Bool.{eqb-true}
use Rattle.std.proofs.lemmas.List.Elements.{All-head, All-tail, All-weaker}
use Rattle.auc_jobs.specs.Serving.{AreKnown, IsKnownLine}
use Rattle.auc_lines.specs.Part.{holds, is_held_by}
use Rattle.auc_lines.specs.declared.part.Line.{Line}
use Rattle.auc_lines.specs.declared.part.Line.TheVariants as line
use Rattle.auc_lines.specs.declared.part.Part.{Part}
use Rattle.auc_lines.specs.declared.part.Part.TheVariants.{Round, Restart}
use Rattle.auc_subs.specs.declared.row.Row.{Row}
use Rattle.auc_transcript.specs.Keys.{IsHeldApart}
use Rattle.auc_run.specs.Inner.{IsKnownPart}

-- a line
line_holds : (rows : List Row) (sub : ℕ) (l : Line) → IsKnownLine rows l → is_held_by sub l ≡ true → sub < length rows
line_holds rows sub (line.Draw s n) known held = absurd (cc)
line_holds rows sub (line.Sync s report n) known held = absurd (cc)
line_holds rows sub (line.Give s n) known held = let same = eqb-true s sub held in let here = known.0 in omega (arith, same, here)
line_holds rows sub (line.Eps s snid) known held = absurd (cc)
line_holds rows sub (line.Fiveg fiveg) known held = let same = eqb-true fiveg.sub sub held in let here = known.sub in omega (arith, same, here)
line_holds rows sub (line.Sites sites) known held = absurd (cc)
line_holds rows sub (line.Sim sim) known held = absurd (cc)
line_holds rows sub (line.Session opening) known held = let same = eqb-true opening.sub sub held in let here = known.0 in omega (arith, same, here)
line_holds rows sub (line.Start session) known held = absurd (cc)
line_holds rows sub (line.Deliver session at' packet) known held = absurd (cc)
line_holds rows sub (line.Repeat session) known held = absurd (cc)
line_holds rows sub (line.GiveUp session at') known held = absurd (cc)
line_holds rows sub (line.Plain session) known held = absurd (cc)
line_holds rows sub (line.Tamper packet place byte) known held = absurd (cc)
line_holds rows sub (line.Cut packet length) known held = absurd (cc)

-- a job
job_holds : (rows : List Row) (sub : ℕ) (job : List Line) → All (IsKnownLine rows) job → holds sub job ≡ true → sub < length rows
job_holds rows sub [] known held = absurd (cc)
job_holds rows sub (l ∷ job) known held =
    by (is_held_by sub l) refl held (λ more. job_holds rows sub job (All-tail (IsKnownLine rows) l job known) more)
  where
    by : (b : Bool) → is_held_by sub l ≡ b → (b || holds sub job) ≡ true → (holds sub job ≡ true → sub < length rows) → sub < length rows
    by true is held more = line_holds rows sub l (All-head (IsKnownLine rows) l job known) is
    by false is held more = more held

-- parts
part_apart : (rows : List Row) (part : Part) → IsKnownPart rows part → IsHeldApart (length rows) part
part_apart rows (Round jobs) known = record {
  known = All-weaker (AreKnown rows) (λ job. (sub : ℕ) → holds sub job ≡ true → sub < length rows) (λ job lines sub held. job_holds rows sub job lines held) jobs known.known;
  apart = known.apart;
}
part_apart rows Restart known = tt

pub held_apart : (rows : List Row) (parts : List Part) → All (IsKnownPart rows) parts → All (IsHeldApart (length rows)) parts
held_apart rows parts known = All-weaker (IsKnownPart rows) (IsHeldApart (length rows)) (part_apart rows) parts known
