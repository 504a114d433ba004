-- Runs over a centre: lists of turns in which the centre answers as its calls do. Others may call the centre between two
-- turns.
use Rattle.std.specs.Prelude.{◌≡◌, ℕ, List, [], ◌∷◌, slice_get, Option, Some, None}
use Rattle.auc_memory.specs.declared.stop.Stop.{Stop}
use Rattle.auc_history.specs.declared.entry.Entry.{Entry}
use Rattle.auc_vector.specs.declared.centre.CentreRefusal.{CentreRefusal}
use Rattle.auc_sites.specs.declared.master.Judged.{Judged}
use Rattle.auc_sites.specs.Drawing.{Goes, KeptWords, Top}
use Rattle.auc_sites.specs.Master.{judgement, last_grant}
use Rattle.auc_sites.specs.Network.{Network, Packet, Asking, Granting, Event, Ask, Deliver, Draw, Restart, RestartAt, MasterRestart, SitesTurn, after_event}
use Rattle.auc_sites.specs.Reply.{AsksBy}

-- calls of others, which make any entries of the subscriber
abbrev pub OthersCall : {S : Type 0} → Goes S → ℕ → S → S → Type 0
OthersCall goes sub before after = (entries : List Entry) × (withheld : List (ℕ × Stop)) × goes before sub entries withheld after

-- what the master makes of a packet that is delivered, if it is a request
abbrev pub judgement_on : Network → Option Packet → Option Judged
judgement_on w None = None
judgement_on w (Some (Asking r)) = Some (judgement (last_grant w.last r) r)
judgement_on w (Some (Granting g)) = None

-- what the master makes of a request in an event, if the event delivers one
abbrev pub judgement_in : Network → Event → Option Judged
judgement_in w (Ask i) = None
judgement_in w (Deliver p) = judgement_on w (slice_get w.packets p)
judgement_in w (Draw i) = None
judgement_in w (Restart i) = None
judgement_in w (RestartAt i boot) = None
judgement_in w MasterRestart = None

-- what happens at the centre in an event: what the call of the master says, for a request; and otherwise nothing
abbrev pub AsksIn : {S : Type 0} → Goes S → KeptWords S → Top S → ℕ → Option Judged → List ℕ → Option CentreRefusal → S → S → Type 0
AsksIn goes kept top sub None numbers end before after = (numbers ≡ []) × (end ≡ None) × (after ≡ before)
AsksIn goes kept top sub (Some judged) numbers end before after = (size : ℕ) × AsksBy goes kept top sub size judged numbers end before after

-- a run: some turns from a network on, the centre before them, and the centre after them
abbrev pub Runs : {S : Type 0} → Goes S → KeptWords S → Top S → ℕ → Network → S → List SitesTurn → S → Type 0
Runs goes kept top sub w before [] after = OthersCall goes sub before after
Runs {S = S} goes kept top sub w before (t ∷ turns) after = (asked : S) × (answered : S) × OthersCall goes sub before asked
    × AsksIn goes kept top sub (judgement_in w t.event) t.numbers t.end asked answered
    × Runs goes kept top sub (after_event w t.event t.numbers t.end) answered turns after
