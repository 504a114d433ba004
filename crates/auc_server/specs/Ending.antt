-- Each session of a server ends: how many packets it may still send.
use Rattle.std.specs.Prelude.{◌≡◌, ◌⊎◌, ℕ, ◌<◌, ◌≤◌, Bool, true, false, List}
use Rattle.auc_packet.specs.Received.{Seen}
use Rattle.auc_vector.specs.declared.notes.Notes.{Notes}
use Rattle.auc_vector.specs.declared.turn.Reason.{Reason}
use Rattle.auc_vector.specs.declared.turn.Step.TheVariants as step
use Rattle.auc_vector.specs.declared.turn.Turn.{Turn}
use Rattle.auc_request.specs.declared.identities.IdentityRequest.TheVariants as asks
use Rattle.auc_server.specs.Server.{ServerEnd, started}
use Rattle.auc_subs.specs.Setting.{Setting}
use Rattle.auc_server.specs.Table.{server_step}
use Rattle.auc_server.specs.declared.options.ServerOptions.{ServerOptions}
use Rattle.auc_server.specs.declared.reply.Reply.{Reply}
use Rattle.auc_server.specs.declared.server.ServerState.{ServerState}
use Rattle.auc_server.specs.declared.server.ServerState.TheVariants as state
use Rattle.auc_server.specs.declared.setting.HomeRow.{HomeRow}
use Rattle.auc_vector.specs.declared.why.ServerWhy.{ServerWhy}

-- how many packets may follow a challenge: a synchronisation failure leads to one more
abbrev pub left_challenged : Bool → ℕ
left_challenged false = 3
left_challenged true = 2

-- how many packets may follow in a state, by whether a synchronisation failure led to a new challenge: the packet that ends the
-- session, a notification before it, the challenge after a synchronisation failure, the first challenge, a re-authentication, and the
-- three requests for an identity (RFC 4187 §4.1.4, §5, §6 and TS 33.102 §6.3.5)
abbrev pub packets_left_in : ServerState → Bool → ℕ
packets_left_in state.AwaitIdentity synced = 7
packets_left_in (state.Await asks.Any) synced = 6
packets_left_in (state.Await asks.Fullauth) synced = 5
packets_left_in (state.Await asks.Permanent) synced = 4
packets_left_in (state.AwaitReauth sent) synced = 4
packets_left_in (state.AwaitChallenge sent before) synced = left_challenged synced
packets_left_in (state.Notifying cause last) synced = 1
packets_left_in (state.Ended result last) synced = 0

-- how many packets a server sends at most in the turns that follow; a repetition isn't counted again
abbrev pub packets_left : ServerEnd → ℕ
packets_left s = packets_left_in s.state s.synced

-- after a turn that is ignored no more packets may follow, and after any other fewer
abbrev pub LeavesFewer : ServerEnd → ServerEnd → Turn ServerWhy → Type 0
LeavesFewer s new turn =
    ((cause : Reason) × (turn.step ≡ step.Ignored cause) × (packets_left new ≤ packets_left s)) ⊎ (packets_left new < packets_left s)

-- seven packets may follow the first request
abbrev pub FirstLeavesSeven : Type 0
FirstLeavesSeven = (options : ServerOptions) → packets_left (started options) ≡ 7

abbrev pub EachTurnLeavesFewer : Type 0
EachTurnLeavesFewer = (set : Setting) (homes : List HomeRow) (s : ServerEnd) (seen : Seen) (said : Reply) (notes : Notes)
    → LeavesFewer s (server_step set homes s seen said notes).0 (server_step set homes s seen said notes).1
