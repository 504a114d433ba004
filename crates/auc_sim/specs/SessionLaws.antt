-- What holds of every session: the ends agree, and the plain session succeeds.
use Rattle.std.specs.Prelude.{◌≡◌, ◌≢◌, ℕ, ◌≤◌, true, false, List, [], ◌∷◌, All, AllPairs, length, map, Some, None}
use Rattle.auc_hmac.specs.declared.keys.KeySet.{KeySet}
use Rattle.auc_hmac.specs.declared.method.Method.TheVariants.{Aka}
use Rattle.auc_lines.specs.declared.part.End.TheVariants as end
use Rattle.auc_lines.specs.declared.sim.SimSchedule.{SimSchedule}
use Rattle.auc_lines.specs.declared.sim.SimSchedule.TheVariants.{Plain}
use Rattle.auc_milenage.specs.declared.secret.Secret.{Secret}
use Rattle.auc_sim.specs.Session.{SimInputs, SimRuns}
use Rattle.auc_sim.specs.Triplets.{card_of, of_vector}
use Rattle.auc_vector.specs.declared.sim_note.SimBecame.TheVariants.{Did}
use Rattle.auc_vector.specs.declared.sim_note.SimNote.{SimNote}
use Rattle.auc_vector.specs.declared.sim_note.SimNote.TheVariants as note
use Rattle.auc_sim_packet.specs.Keys.{rand_in}
use Rattle.auc_vector.specs.Vector.{vector_of}
use Rattle.auc_vector.specs.declared.turn.Outcome.TheVariants.{Success}
use Rattle.auc_vector.specs.declared.turn.Step.TheVariants.{Sent, Ended}

-- a USIM makes of the RAND of a vector the triplet of that vector
abbrev pub EachCardHasTheTripletOfItsVector : Type 0
EachCardHasTheTripletOfItsVector =
    (s : Secret) (amf rand : List ℕ) (bits n : ℕ) → of_vector (vector_of s Aka amf [] bits n rand) ≡ card_of s rand

-- both ends have one secret: each of the 2 or 3 triplets is the one that the peer's USIM makes of its RAND. The sizes are those
-- of every call
pub record AreMatched (inputs : SimInputs) : Type 0 where
  pub cards : inputs.triplets ≡ map (λ t. card_of inputs.secret t.rand) inputs.triplets
  pub least : 2 ≤ length inputs.triplets
  pub most : length inputs.triplets ≤ 3
  pub rands : All (λ t. length t.rand ≡ 16) inputs.triplets
  pub nonce : length inputs.nonce ≡ 16
  pub short : length inputs.identity ≤ 1016

-- then no session says that the ends disagree, whichever packets are delivered
abbrev pub EachSessionAgrees : Type 0
EachSessionAgrees =
    (inputs : SimInputs) (schedule : SimSchedule) (notes : List SimNote) → AreMatched inputs → SimRuns inputs schedule notes
    → All (λ said. said ≢ note.Ended false) notes

-- what is said of a session that succeeds: the server's Start; the peer's response, the server's Challenge, the peer's response
-- and Success in the packets 2 to 5; both ends end in Success under these keys, and agree
pub record Succeeds (notes : List SimNote) : Type 0 where
  pub start : List ℕ
  pub start_response : List ℕ
  pub challenge : List ℕ
  pub challenge_response : List ℕ
  pub success : List ℕ
  pub keys : KeySet
  pub notes_are : notes ≡ note.Started start
      ∷ note.Delivered end.Peer 1 (Did (Sent start_response) (Some 2))
      ∷ note.Delivered end.Server 2 (Did (Sent challenge) (Some 3))
      ∷ note.Delivered end.Peer 3 (Did (Sent challenge_response) (Some 4))
      ∷ note.Delivered end.Server 4 (Did (Ended (Success keys) success) (Some 5))
      ∷ note.Delivered end.Peer 5 (Did (Ended (Success keys) []) None)
      ∷ note.Ended true ∷ []

-- so it is of each plain session whose RANDs differ
abbrev pub EachPlainSessionSucceeds : Type 0
EachPlainSessionSucceeds =
    (inputs : SimInputs) (notes : List SimNote) → AreMatched inputs → AllPairs ◌≢◌ (map rand_in inputs.triplets) → SimRuns inputs Plain notes
    → Succeeds notes

-- a session runs in one way: its inputs and its schedule determine what is said of it
abbrev pub EachSessionHasOneRun : Type 0
EachSessionHasOneRun =
    (inputs : SimInputs) (schedule : SimSchedule) (notes others : List SimNote) → SimRuns inputs schedule notes → SimRuns inputs schedule others
    → notes ≡ others
