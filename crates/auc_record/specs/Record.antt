-- The subscribers that records name.
use Rattle.std.specs.Prelude.{ℕ, ◌<◌, Option, Some, None, All}
use Rattle.auc_record.specs.Event.{asked_in}
use Rattle.auc_record.specs.declared.further.Further.{Further as Said}
use Rattle.auc_record.specs.declared.further.Further.TheVariants.{Kasme, HxresStar, Fiveg, Sites, Sim}
use Rattle.auc_record.specs.declared.record.LineRecord.{LineRecord}
use Rattle.auc_record.specs.declared.record.LineRecord.TheVariants.{Number, Sync, Give, Further, Event}
use Rattle.auc_record.specs.declared.record.PartRecord.{PartRecord}
use Rattle.auc_record.specs.declared.record.PartRecord.TheVariants.{Round, Restart}
use Rattle.auc_record.specs.declared.record.RoundRecord.{RoundRecord}

-- the subscriber whom a record of a job's line names; an event's is the one for whom the centre was asked
abbrev pub further_subscriber : Said → Option ℕ
further_subscriber (Kasme key) = None
further_subscriber (HxresStar half) = None
further_subscriber (Fiveg sub outcome) = Some sub
further_subscriber (Sites sub note) = Some sub
further_subscriber (Sim sub note) = Some sub

abbrev pub subscriber_of : LineRecord → Option ℕ
subscriber_of (Number sub note) = Some sub
subscriber_of (Sync sub note) = Some sub
subscriber_of (Give sub n verdict) = Some sub
subscriber_of (Further said) = further_subscriber said
subscriber_of (Event r) = asked_in r.result

-- a subscriber, if there is one, is one of so many
abbrev pub IsBelow : ℕ → Option ℕ → Type 0
IsBelow count None = Unit {0}
IsBelow count (Some sub) = sub < count

-- each subscriber that a round's record names is one of the first `count` subscribers
pub record NamesBelow (count : ℕ) (round : RoundRecord) : Type 0 where
  pub jobs : All (All (λ line. IsBelow count (subscriber_of line))) round.jobs
  pub closings : All (λ closing. closing.sub < count) round.closings

-- the same of a part's record; a restart names none
abbrev pub PartNamesBelow : ℕ → PartRecord → Type 0
PartNamesBelow count (Round round) = NamesBelow count round
PartNamesBelow count Restart = Unit {0}
