-- What an EAP peer knows of its session (RFC 4187 §3).
use Rattle.std.specs.Prelude.{ℕ, List, [], Option, Some, None}
use Rattle.auc_peer.specs.Told.{ToldSession}
use Rattle.auc_peer.specs.declared.decrypted.Decrypted.{Decrypted}
use Rattle.auc_peer.specs.declared.next.NextContext.{NextContext}
use Rattle.auc_peer.specs.declared.peer.Challenge.{Challenge}
use Rattle.auc_peer.specs.declared.peer.Last.{Last}
use Rattle.auc_peer.specs.declared.peer.PeerState.{PeerState}
use Rattle.auc_peer.specs.declared.peer.Source.{Source}
use Rattle.auc_peer.specs.declared.peer.Source.TheVariants as source
use Rattle.auc_reauth.specs.declared.context.Context.{Context}

pub record PeerEnd : Type 0 where
  -- what it was told before its session
  pub options : ToldSession
  -- where it stands
  pub state : PeerState
  -- the request that it answered last, if it has answered one
  pub last : Option Last
  -- the identity that it sent last, from which keys are derived (RFC 4187 §7), if it has sent one
  pub identity : Option (List ℕ)
  -- what its keys are made from beside the identity: what the last request with a right AT_MAC gave
  pub source : Source
  -- the AKA-Identity packets that it received and sent, of which AT_CHECKCODE is the hash (RFC 4187 §10.13)
  pub packets : List (List ℕ)
  -- what it decrypted last, from a request with a right AT_MAC
  pub inner : Decrypted
  -- what becomes of the device's context when the session ends in Success
  pub next : NextContext
  -- the index of its next initialisation vector, an odd number
  pub next_iv : ℕ

-- the answer that it sent last, none if it has sent none
abbrev pub answer_or_none : Option Last → List ℕ
answer_or_none None = []
answer_or_none (Some last) = last.answer

-- the challenge from which keys are made, if they are made from one
abbrev pub accepted_in : Source → Option Challenge
accepted_in source.Nothing = None
accepted_in (source.Challenge c name) = Some c
accepted_in (source.Context c) = None

-- the name of its network
abbrev pub network_named : Source → List ℕ
network_named source.Nothing = []
network_named (source.Challenge c name) = name
network_named (source.Context c) = []

-- the context that was resumed, if keys are made from one
abbrev pub resumed_from : Source → Option Context
resumed_from source.Nothing = None
resumed_from (source.Challenge c name) = None
resumed_from (source.Context c) = Some c
