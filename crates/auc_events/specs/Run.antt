-- Runs of events: each event of a list is applied by `World::apply` to a network of sessions with the devices of its subscribers, and
-- to a `CoreCentre`, whose state has each subscriber's word and its greatest number.
use Rattle.std.specs.Prelude.{◌≡◌, ℕ, ◌<◌, List, [], ◌∷◌, ◌++◌, All, IfSome, length, map, Option, Some, slice_get, slice_index}
use Rattle.auc_cards.specs.Usims.{IsOfRow}
use Rattle.auc_core.specs.Step.{CoreState}
use Rattle.auc_lines.specs.declared.part.Line.{Line}
use Rattle.auc_lines.specs.declared.part.Line.TheVariants as line
use Rattle.auc_sqn.specs.Past.{Remembers, opening_past}
use Rattle.auc_subs.specs.Subscriber.{AreSubscribers, tops_of}
use Rattle.auc_subs.specs.declared.row.Row.{Row}
use Rattle.auc_usim.specs.Usim.{Memory}
use Rattle.auc_vector.specs.Stretch.{IsStretch, kept_at}
use Rattle.auc_record.specs.Event.{Came, asked_in}
use Rattle.auc_subs.specs.Setting.{Setting}
use Rattle.auc_world.specs.Start.{Kept, fresh_kept, start_of}
use Rattle.auc_world.specs.World.{Applies, AreOfSame, IsKnownEvent, RememberPasts, WorldState, usim_of}
use Rattle.auc_record.specs.declared.event.Event.{Event}
use Rattle.auc_record.specs.declared.event.Event.TheVariants as event
use Rattle.auc_record.specs.declared.record.GiveVerdict.TheVariants as given
use Rattle.auc_record.specs.declared.record.LineRecord.{LineRecord}
use Rattle.auc_record.specs.declared.record.LineRecord.TheVariants as record_of

-- ---- lines and records

-- the line of a job that asks for an event
abbrev pub line_for : Event → Line
line_for (event.Open opening) = line.Session opening
line_for (event.Start session) = line.Start session
line_for (event.Deliver session at' packet) = line.Deliver session at' packet
line_for (event.Repeat session) = line.Repeat session
line_for (event.GiveUp session at') = line.GiveUp session at'
line_for (event.Tamper packet place byte) = line.Tamper packet place byte
line_for (event.Cut packet count) = line.Cut packet count

-- the job of some events. It holds the USIMs of the subscribers whose sessions they open. Lines before them present the vector of
-- number 1, which isn't released yet, to the USIMs of some subscribers, so that the job holds these, too
abbrev pub job_with : List ℕ → List Event → List Line
job_with subs events = map (λ sub. line.Give sub 1) subs ++ map line_for events

-- the records of events, each with what it came to
abbrev pub event_records : List Event → List Came → List LineRecord
event_records [] results = []
event_records (e ∷ events) [] = []
event_records (e ∷ events) (result ∷ results) = record_of.Event (record { event = e; result = result }) ∷ event_records events results

-- the records of their job
abbrev pub job_records : List ℕ → List Event → List Came → List LineRecord
job_records subs events results = map (λ sub. record_of.Give sub 1 given.Absent) subs ++ event_records events results

-- ---- a step

-- the word of a refused draw that a `CoreCentre` keeps of a subscriber, and the subscriber's greatest number
abbrev pub kept_in : CoreState → ℕ → Option ℕ
kept_in core sub = kept_at (slice_index core.tops sub) (slice_index core.words sub)

abbrev pub top_in : CoreState → ℕ → ℕ
top_in core sub = slice_index core.tops sub

-- what a call of `World::apply` that has the memory says of the network, of the devices and of the centre's words. The other
-- condition on the call, that the homes are the centre's subscribers, holds in every run (`EachRunMayGoOn`)
pub record IsStep (set : Setting) (old : WorldState) (core : CoreState) (e : Event) (result : Came) (new : WorldState) (next : CoreState) : Type 0 where
  pub known : IsKnownEvent (length set.rows) e
  pub applied : RememberPasts old.devices → Applies IsStretch kept_in top_in set old e core new result next
  pub asked : IfSome (asked_in result) (λ sub. sub < length set.rows)
  pub homes : AreOfSame old.net.homes new.net.homes
  pub devices : new.net.devices ≡ old.net.devices
  pub subs : length next.words ≡ length core.words

-- ---- a run

-- each event of a list is applied to what the one before it led to, and comes to its result
abbrev pub LeadsTo : Setting → WorldState → CoreState → List Event → List Came → WorldState → CoreState → Type 0
LeadsTo set world core [] results last end = (results ≡ []) × (last ≡ world) × (end ≡ core)
LeadsTo set world core (e ∷ events) [] last end = ⊥
LeadsTo set world core (e ∷ events) (result ∷ results) last end =
    (mid : WorldState) × (next : CoreState) × IsStep set world core e result mid next × LeadsTo set mid next events results last end

-- nothing is kept of any subscriber's names and contexts
abbrev pub all_fresh : List Row → List Kept
all_fresh rows = map (λ row. fresh_kept) rows

-- the centre's words before the first draw
abbrev pub first_words : List Row → List ℕ
first_words rows = map (λ row. row.seq) rows

-- the centre before the first draw: its words are the rows' numbers, and each subscriber has its row's greatest number
abbrev pub first_core : List Row → CoreState
first_core rows = record { words = first_words rows; tops = tops_of rows }

-- a USIM is its row's, and remembers its opening alone
pub record IsOpened (row : Row) (usim : Memory) : Type 0 where
  pub own : IsOfRow row usim
  pub past : Remembers usim.array (opening_past row.bits row.usim)

-- so is each
abbrev pub AreOpened : List Row → WorldState → Type 0
AreOpened rows world = (sub : ℕ) (row : Row) (usim : Memory) → slice_get rows sub ≡ Some row → usim_of rows world sub ≡ Some usim → IsOpened row usim

-- a run of events from a network in which nothing has happened, as `World::new` makes it of the homes and devices of the
-- subscribers whose USIMs the events' job holds, and from the centre at the rows' numbers
pub record IsRun (set : Setting) (subs : List ℕ) (events : List Event) (results : List Came) (last : WorldState) (core : CoreState) : Type 0 where
  pub subscribers : AreSubscribers set.rows
  pub known : All (λ sub. sub < length set.rows) subs
  pub first : WorldState
  pub begins : first.net ≡ start_of set (all_fresh set.rows) (job_with subs events)
  pub fresh : AreOpened set.rows first
  pub leads : LeadsTo set first (first_core set.rows) events results last core
