-- What the parts of a scenario ask for, and whose USIMs their jobs hold.
use Rattle.std.specs.Prelude.{◌≡◌, ℕ, ◌*◌, zero, suc, ◌==◌, ◌≤◌, Bool, true, false, List, [], ◌∷◌, ◌++◌, length, fold, sum_by, Option, Some, None, if◌then◌else◌}
use Rattle.std.specs.List.{list_any}
use Rattle.auc_lines.specs.declared.part.Identity.{Identity}
use Rattle.auc_lines.specs.declared.part.Identity.TheVariants.{Held, Permanent, Text}
use Rattle.auc_lines.specs.declared.part.Line.{Line}
use Rattle.auc_lines.specs.declared.part.Line.TheVariants.{Draw, Give, Sync, Eps, Fiveg, Sites, Sim, Session, Start, Deliver, Repeat, GiveUp, Plain, Tamper, Cut}
use Rattle.auc_lines.specs.Sites.{deliveries_in}
use Rattle.auc_lines.specs.declared.part.Part.{Part}
use Rattle.auc_lines.specs.declared.part.Part.TheVariants.{Round, Restart}
use Rattle.auc_lines.specs.declared.part.Report.{Report}
use Rattle.auc_lines.specs.declared.part.Report.TheVariants.{Seq, Auts}

-- how many vectors a line asks for at most, a session for two and a line for sites for a lease at each delivery; and all lines of
-- some jobs
abbrev pub asked_by : Line → ℕ
asked_by (Draw sub count) = count
asked_by (Sync sub report count) = count
asked_by (Give sub number) = 0
asked_by (Eps sub snid) = 1
asked_by (Fiveg line) = 1
asked_by (Sites line) = line.size * deliveries_in line.schedule
asked_by (Sim line) = line.count
asked_by (Session line) = 2
asked_by (Start session) = 0
asked_by (Deliver session end packet) = 0
asked_by (Repeat session) = 0
asked_by (GiveUp session end) = 0
asked_by (Plain session) = 0
asked_by (Tamper packet place byte) = 0
asked_by (Cut packet length) = 0

abbrev pub asked : List (List Line) → ℕ
asked jobs = sum_by (λ job. sum_by asked_by job) jobs

-- the jobs of some parts
abbrev pub jobs_of : List Part → List (List Line)
jobs_of [] = []
jobs_of (Round jobs ∷ more) = jobs ++ jobs_of more
jobs_of (Restart ∷ more) = jobs_of more

-- the subscriber whose USIM a job holds because of a line: the line presents a vector to it, or opens a session of it
abbrev pub held_by : Line → Option ℕ
held_by (Draw sub count) = None
held_by (Sync sub report count) = None
held_by (Give sub number) = Some sub
held_by (Eps sub snid) = None
held_by (Fiveg line) = Some line.sub
held_by (Sites line) = None
held_by (Sim line) = None
held_by (Session line) = Some line.sub
held_by (Start session) = None
held_by (Deliver session end packet) = None
held_by (Repeat session) = None
held_by (GiveUp session end) = None
held_by (Plain session) = None
held_by (Tamper packet place byte) = None
held_by (Cut packet length) = None

-- the subscriber for whom a line may ask the centre for a number
abbrev pub asks_for : Line → Option ℕ
asks_for (Draw sub count) = Some sub
asks_for (Sync sub report zero) = None
asks_for (Sync sub report (suc count)) = Some sub
asks_for (Give sub number) = None
asks_for (Eps sub snid) = Some sub
asks_for (Fiveg line) = Some line.sub
asks_for (Sites line) = Some line.sub
asks_for (Sim line) = Some line.sub
asks_for (Session line) = Some line.sub
asks_for (Start session) = None
asks_for (Deliver session end packet) = None
asks_for (Repeat session) = None
asks_for (GiveUp session end) = None
asks_for (Plain session) = None
asks_for (Tamper packet place byte) = None
asks_for (Cut packet length) = None

abbrev pub is_that : ℕ → Option ℕ → Bool
is_that sub None = false
is_that sub (Some other) = other == sub

-- a line holds the USIM of a subscriber, a job has such a line
abbrev pub is_held_by : ℕ → Line → Bool
is_held_by sub line = is_that sub (held_by line)

abbrev pub holds : ℕ → List Line → Bool
holds sub job = list_any (is_held_by sub) job

-- no two jobs hold one USIM
abbrev pub AreApart : List Line → List Line → Type 0
AreApart a b = (sub : ℕ) → holds sub a ≡ true → holds sub b ≡ false

-- the subscribers whose USIMs a job holds, each once, in the order of the lines that name them first
abbrev pub with_held : List ℕ → Option ℕ → List ℕ
with_held subs None = subs
with_held subs (Some sub) = if list_any (λ other. other == sub) subs then subs else subs ++ sub ∷ []

abbrev pub held_subs : List Line → List ℕ
held_subs job = fold (λ subs line. with_held subs (held_by line)) [] job

-- the last of the 112 bits of an AUTS (TS 33.102 §6.3.3)
abbrev pub last_bit : ℕ
last_bit = 111

-- a bit of an AUTS, from 0 for the first byte's top bit, or none
abbrev pub IsBit : Option ℕ → Type 0
IsBit None = Unit {0}
IsBit (Some bit) = bit ≤ last_bit

-- what a synchronisation failure may report of a subscriber with numbers up to this one: one of them and a bit of AUTS, or any AUTS
-- and its RAND
abbrev pub IsReport : ℕ → Report → Type 0
IsReport top (Seq seq bit) = (seq ≤ top) × IsBit bit
IsReport top (Auts auts rand) = Unit {0}

-- the last of the 128 bits of RES* (TS 33.501 Annex A.4), and a bit of RES*, or none
abbrev pub last_star_bit : ℕ
last_star_bit = 127

abbrev pub IsStarBit : Option ℕ → Type 0
IsStarBit None = Unit {0}
IsStarBit (Some bit) = bit ≤ last_star_bit

-- an identity whose text, if it is one, has at most 255 bytes
abbrev pub IsShortIdentity : Identity → Type 0
IsShortIdentity Held = Unit {0}
IsShortIdentity Permanent = Unit {0}
IsShortIdentity (Text text) = length text ≤ 255
