-- What an EAP server knows of its session (RFC 4187 §3).
use Rattle.std.specs.Prelude.{ℕ, Bool, false, List, [], Option}
use Rattle.auc_packet.specs.Spelling.{packet_text}
use Rattle.auc_server.specs.Messages.{identity_request}
use Rattle.auc_server.specs.State.{last_of}
use Rattle.auc_server.specs.declared.options.ServerOptions.{ServerOptions}
use Rattle.auc_server.specs.declared.server.Challenged.{Challenged}
use Rattle.auc_server.specs.declared.server.Resumed.{Resumed}
use Rattle.auc_server.specs.declared.server.ServerState.{ServerState}
use Rattle.auc_server.specs.declared.server.ServerState.TheVariants as state

pub record ServerEnd : Type 0 where
  -- what it was told of its session
  pub options : ServerOptions
  -- what it waits for
  pub state : ServerState
  -- the Identifier of its last request
  pub id : ℕ
  -- its last request
  pub last : List ℕ
  -- the identity that it received last, empty before the first
  pub identity : List ℕ
  -- whether a synchronisation failure led to a new challenge
  pub synced : Bool
  -- the AKA-Identity packets that it sent, or received and didn't ignore, in their order; a repetition isn't counted again
  pub packets : List (List ℕ)
  -- the index of its next initialisation vector, an even number
  pub next_iv : ℕ

-- its last challenge, also after the session has ended
abbrev pub challenged_of : ServerEnd → Option Challenged
challenged_of s = (last_of s.state).challenged

-- its re-authentication, also after the session has ended
abbrev pub resumed_of : ServerEnd → Option Resumed
resumed_of s = (last_of s.state).resumed

-- after its first request, which asks for an identity under the Identifier 1
abbrev pub started : ServerOptions → ServerEnd
started options = record {
  options = options;
  state = state.AwaitIdentity;
  id = 1;
  last = packet_text (identity_request 1);
  identity = [];
  synced = false;
  packets = [];
  next_iv = 0;
}
