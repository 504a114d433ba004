-- For Sites: what is said of a few events, by hand.
use Rattle.std.proofs.Common.{◌≡◌, ℕ, List, [], ◌∷◌, Some, refl}
use Rattle.auc_lines.specs.declared.sites.SiteEvent.{SiteEvent}
use Rattle.auc_lines.specs.declared.sites.SiteEvent.TheVariants.{Ask, Deliver, Draw, Restart, MasterRestart}
use Rattle.auc_sites.specs.Network.{Network, after_event, start}
use Rattle.auc_vector.specs.declared.centre.CentreRefusal.TheVariants as refusal
use Rattle.auc_world.specs.Sites.{note_of, refusal_in, turn_of}
use Rattle.auc_record.specs.declared.record.LineRecord.{LineRecord}
use Rattle.auc_record.specs.declared.record.LineRecord.TheVariants.{Number}
use Rattle.auc_vector.specs.declared.notes.NumberNote.TheVariants as number
use Rattle.auc_record.specs.declared.sites.SitesNote.{SitesNote}
use Rattle.auc_record.specs.declared.sites.SitesNote.TheVariants as note
use Rattle.auc_record.specs.declared.sites.SitesOutcome.TheVariants as outcome

-- an event, with what is drawn in it for the subscriber at place 7
record Step : Type 0 where
  event : SiteEvent
  drawn : List LineRecord

-- a number that was drawn for this subscriber, and a refusal since its numbers are spent
abbrev drew : ℕ → LineRecord
drew n = Number 7 (number.Drew n)

abbrev spent : LineRecord
spent = Number 7 (number.Exhausted 9)

abbrev quiet : SiteEvent → Step
quiet e = record { event = e; drawn = [] }

-- what is said of some events, one after the other
abbrev said : Network → List Step → List SitesNote
said w [] = []
said w (step ∷ steps) =
    let turn = turn_of w 7 step.event step.drawn in note_of w step.event turn ∷ said (after_event w turn.event turn.numbers turn.end) steps

abbrev two_sites : Network
two_sites = start (1 ∷ 1 ∷ [])

-- the second lease is taken first; site 1 forgets its lease at its restart, and waits for nothing
abbrev leases : List Step
leases =
    quiet (Ask 1) ∷ record { event = Deliver 1; drawn = drew 1 ∷ drew 2 ∷ [] } ∷ quiet (Ask 2)
    ∷ record { event = Deliver 3; drawn = drew 3 ∷ drew 4 ∷ [] } ∷ quiet (Deliver 4) ∷ quiet (Draw 2) ∷ quiet (Deliver 2) ∷ quiet (Draw 1) ∷ quiet (Restart 1)
    ∷ quiet (Draw 1) ∷ quiet (Deliver 2) ∷ []

leases_are_told : said two_sites leases
    ≡ note.Asked 1 1 ∷ note.Delivered 1 (outcome.Granted 2 2) ∷ note.Asked 2 3 ∷ note.Delivered 3 (outcome.Granted 2 4) ∷ note.Delivered 4 (outcome.Taken 2)
    ∷ note.Number 2 3 ∷ note.Delivered 2 (outcome.Taken 2) ∷ note.Number 1 1 ∷ note.Restarted 1 ∷ note.Empty 1 ∷ note.Delivered 2 outcome.NotMine ∷ []
leases_are_told = refl

-- a request comes again, and again after the master's restart; a later one makes it old. No packet has the number 0 or 9
abbrev requests : List Step
requests =
    quiet (Ask 1) ∷ quiet (Deliver 0) ∷ quiet (Deliver 9) ∷ record { event = Deliver 1; drawn = drew 1 ∷ [] } ∷ quiet (Deliver 1) ∷ quiet MasterRestart
    ∷ record { event = Deliver 1; drawn = drew 2 ∷ [] } ∷ quiet (Ask 1) ∷ record { event = Deliver 5; drawn = drew 3 ∷ spent ∷ [] } ∷ quiet (Deliver 1) ∷ []

requests_are_told : said two_sites requests
    ≡ note.Asked 1 1 ∷ note.Delivered 0 outcome.NoSuchPacket ∷ note.Delivered 9 outcome.NoSuchPacket ∷ note.Delivered 1 (outcome.Granted 1 2)
    ∷ note.Delivered 1 (outcome.Again 1 3) ∷ note.MasterRestarted ∷ note.Delivered 1 (outcome.Granted 1 4) ∷ note.Asked 1 5 ∷ note.Delivered 5 (outcome.Granted 1 6)
    ∷ note.Delivered 1 outcome.Old ∷ []
requests_are_told = refl

-- the first number is refused, twice
abbrev refusals : List Step
refusals = quiet (Ask 2) ∷ record { event = Deliver 1; drawn = spent ∷ [] } ∷ record { event = Deliver 1; drawn = spent ∷ [] } ∷ []

refusals_are_told : said two_sites refusals ≡ note.Asked 2 1 ∷ note.Delivered 1 outcome.Refused ∷ note.Delivered 1 outcome.Refused ∷ []
refusals_are_told = refl

last_is_the_refusal : refusal_in (drew 1 ∷ spent ∷ []) ≡ Some (refusal.Exhausted 9)
last_is_the_refusal = refl
