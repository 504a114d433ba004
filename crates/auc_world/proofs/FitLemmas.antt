-- For worlds: the keys of a server stay those of its inputs, whatever it does.
use Rattle.std.proofs.Common.{◌≡◌, List, Some, sym, subst}
use Rattle.auc_packet.specs.Received.{Seen}
use Rattle.auc_server.proofs.Facts.{each_turn_fits, given_up_fits}
use Rattle.auc_server.specs.Laws.{Fits}
use Rattle.auc_server.specs.Server.{ServerEnd}
use Rattle.auc_subs.specs.Setting.{Setting}
use Rattle.auc_server.specs.Table.{gave_up, server_step}
use Rattle.auc_server.specs.declared.reply.Reply.{Reply}
use Rattle.auc_server.specs.declared.server.ServerState.{ServerState}
use Rattle.auc_server.specs.declared.server.ServerState.TheVariants as state
use Rattle.auc_server.specs.declared.setting.HomeRow.{HomeRow}
use Rattle.auc_vector.specs.declared.why.ServerWhy.{ServerWhy}
use Rattle.auc_vector.specs.declared.turn.Turn.{Turn}
use Rattle.auc_world.specs.World.{HasHeld}

-- one that takes a turn
pub turn_fits : (set : Setting) (homes : List HomeRow) (s new : ServerEnd) (seen : Seen) (said : Reply) (turn : Turn ServerWhy)
    → (new, turn) ≡ server_step set homes s seen said turn.notes → Fits s → Fits new
turn_fits set homes s new seen said turn same f =
    subst (λ (x : ServerEnd × Turn ServerWhy). Fits x.0) (sym same) (each_turn_fits set homes s seen said turn.notes f)

-- its subscribers are homes as before
pub gave_up_held : (homes : List HomeRow) (s : ServerEnd) (now : ServerState) → HasHeld homes (Some s) → HasHeld homes (Some (gave_up s now).0)
gave_up_held homes s (state.Ended result last) held = held
gave_up_held homes s state.AwaitIdentity held = (held.0, held.1, given_up_fits s held.2)
gave_up_held homes s (state.Await kind) held = (held.0, held.1, given_up_fits s held.2)
gave_up_held homes s (state.AwaitChallenge sent before) held = (held.0, held.1, given_up_fits s held.2)
gave_up_held homes s (state.AwaitReauth sent) held = (held.0, held.1, given_up_fits s held.2)
gave_up_held homes s (state.Notifying cause last) held = (held.0, held.1, given_up_fits s held.2)
