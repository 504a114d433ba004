-- Inner facts: how long the texts are that a peer keeps.
use Rattle.std.specs.Prelude.{ℕ, ◌≤◌, List, length, Option}
use Rattle.auc_peer.specs.Peer.{answer_or_none, network_named}
use Rattle.auc_peer.specs.declared.peer.Last.{Last}
use Rattle.auc_peer.specs.declared.peer.Source.{Source}
use Rattle.auc_request.specs.Request.{text_or_none}

-- the longest answer is an AKA-Identity response with an identity of 511 bytes, a name and a realm of 255 bytes each; a
-- network's name fits into an attribute
pub record IsBrief (last : Option Last) (identity : Option (List ℕ)) (source : Source) : Type 0 where
  pub answer : length (answer_or_none last) ≤ 526
  pub text : length (text_or_none identity) ≤ 511
  pub name : length (network_named source) ≤ 1016
