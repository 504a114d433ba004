-- The words of a line for sites, behind the subscriber's IMSI. Sites and packets have their numbers, from 1.
use Rattle.std.specs.Prelude.{ℕ, List, [], ◌∷◌, codes}
use Rattle.auc_record.specs.declared.sites.SitesNote.{SitesNote}
use Rattle.auc_record.specs.declared.sites.SitesNote.TheVariants as note
use Rattle.auc_record.specs.declared.sites.SitesOutcome.{SitesOutcome}
use Rattle.auc_record.specs.declared.sites.SitesOutcome.TheVariants as outcome
use Rattle.auc_print.specs.Numeral.{numeral}

-- what became of a packet that was delivered
abbrev pub delivery_words : SitesOutcome → List (List ℕ)
delivery_words (outcome.Granted count sent) = codes "granted" ∷ numeral count ∷ codes "sent" ∷ numeral sent ∷ []
delivery_words (outcome.Again count sent) = codes "again" ∷ numeral count ∷ codes "sent" ∷ numeral sent ∷ []
delivery_words outcome.Old = codes "old" ∷ []
delivery_words outcome.Refused = codes "refused" ∷ []
delivery_words (outcome.Taken count) = codes "taken" ∷ numeral count ∷ []
delivery_words outcome.NotMine = codes "notmine" ∷ []
delivery_words outcome.NoSuchPacket = codes "nosuchpacket" ∷ []

-- what happened in an event
abbrev pub sites_words : SitesNote → List (List ℕ)
sites_words (note.Asked site packet) = codes "ask" ∷ numeral site ∷ codes "sent" ∷ numeral packet ∷ []
sites_words (note.Delivered packet became) = codes "deliver" ∷ numeral packet ∷ delivery_words became
sites_words (note.Number site n) = codes "draw" ∷ numeral site ∷ codes "number" ∷ numeral n ∷ []
sites_words (note.Empty site) = codes "draw" ∷ numeral site ∷ codes "empty" ∷ []
sites_words (note.Restarted site) = codes "restart" ∷ numeral site ∷ []
sites_words note.MasterRestarted = codes "master" ∷ []
