-- What a server sent last of each kind, by what it waits for.
use Rattle.std.specs.Prelude.{Some, None}
use Rattle.auc_server.specs.declared.server.Last.{Last}
use Rattle.auc_server.specs.declared.server.ServerState.{ServerState}
use Rattle.auc_server.specs.declared.server.ServerState.TheVariants as state

-- neither a challenge nor a re-authentication
abbrev pub nothing_sent : Last
nothing_sent = record { challenged = None; resumed = None }

-- nothing while an identity is awaited; a challenge after a counter that was too small follows the re-authentication
abbrev pub last_of : ServerState → Last
last_of state.AwaitIdentity = nothing_sent
last_of (state.Await kind) = nothing_sent
last_of (state.AwaitChallenge sent before) = record { challenged = Some sent; resumed = before }
last_of (state.AwaitReauth sent) = record { challenged = None; resumed = Some sent }
last_of (state.Notifying cause last) = last
last_of (state.Ended result last) = last
