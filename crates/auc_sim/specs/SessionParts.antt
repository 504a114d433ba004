-- The steps of the call that runs a session, as relations between what stood before and after them.
use Rattle.std.specs.Prelude.{◌≡◌, ℕ, List, [], ◌∷◌, ◌++◌, Option, Some, None}
use Rattle.auc_lines.specs.declared.part.End.{End}
use Rattle.auc_lines.specs.declared.sim.SimDelivery.{SimDelivery}
use Rattle.auc_lines.specs.declared.sim.SimSchedule.{SimSchedule}
use Rattle.auc_sim.specs.Session.{Delivers, DeliversAll, EndTurns, EndsWith, Scheduled, SimNet, made_in, peer_keys, server_keys}
use Rattle.auc_vector.specs.declared.sim_note.SimBecame.{SimBecame}
use Rattle.auc_vector.specs.declared.sim_note.SimNote.{SimNote}
use Rattle.auc_vector.specs.declared.sim_note.SimNote.TheVariants as note
use Rattle.auc_vector.specs.declared.why.SimWhy.{SimWhy}
use Rattle.auc_vector.specs.declared.turn.Step.{Step}

-- an end's turn on a packet, before its answer is sent; no turn is taken if there is no packet
abbrev pub Turned : End → SimNet → Option (List ℕ) → Option (Step SimWhy) → SimNet → Type 0
Turned to old None turned new = (turned ≡ None) × (new ≡ old)
Turned to old (Some bytes) turned new = (step : Step SimWhy) × (turned ≡ Some step) × EndTurns to old bytes step new × (new.packets ≡ old.packets)

-- a delivery, with the note of it; and the packet that it made
pub record Tells (old : SimNet) (d : SimDelivery) (before : List SimNote) (made : Option ℕ) (new : SimNet) (after : List SimNote) : Type 0 where
  pub became : SimBecame
  pub delivers : Delivers old d became new
  pub notes : after ≡ before ++ note.Delivered d.end d.packet became ∷ []
  pub made_is : made ≡ made_in became

-- the deliveries of a schedule, with the notes of them
pub record Follows (old : SimNet) (schedule : SimSchedule) (before : List SimNote) (new : SimNet) (after : List SimNote) : Type 0 where
  pub deliveries : List SimDelivery
  pub delivered : List SimNote
  pub notes : after ≡ before ++ delivered
  pub delivers : DeliversAll old deliveries delivered new
  pub scheduled : Scheduled schedule deliveries delivered

-- the note of how a session ended, if both ends ended in Success
pub record Finishes (end : SimNet) (before after : List SimNote) : Type 0 where
  pub ending : List SimNote
  pub notes : after ≡ before ++ ending
  pub ends : EndsWith (server_keys end.server.at) (peer_keys end.peer.at) ending
