-- What a turn of a server does, by received bytes, before it does it.
use Rattle.std.specs.Prelude.{◌≡◌, ℕ, ◌≤◌, Bool, true, false, List, Option, Some, None}
use Rattle.auc_packet.specs.Received.{Seen}
use Rattle.auc_reauth.specs.Store.{method_of}
use Rattle.auc_request.specs.declared.identities.IdentityRequest.{IdentityRequest}
use Rattle.auc_subs.specs.Subscriber.{top_at}
use Rattle.auc_subs.specs.declared.row.Row as rows
use Rattle.auc_vector.specs.Notes.{Asking}
use Rattle.auc_vector.specs.declared.notes.Notes.{Notes}
use Rattle.auc_vector.specs.declared.turn.Turn.{Turn}
use Rattle.auc_server.specs.Contexts.{context_in, homes_resumed, homes_rewon, homes_won}
use Rattle.auc_server.specs.InnerRows.{IsHeldRow}
use Rattle.auc_server.specs.InnerServer.{HasNext}
use Rattle.auc_server.specs.Replies.{Replies}
use Rattle.auc_server.specs.Rows.{is_held, server_row, text_in}
use Rattle.auc_server.specs.Server.{ServerEnd}
use Rattle.auc_subs.specs.Setting.{Setting}
use Rattle.auc_server.specs.Steps.{asking, challenges_again}
use Rattle.auc_server.specs.Table.{challenged, failed, first_challenge, homes_challenged, homes_done, identified, identity_asked, ignored, noted, notified, packets_after, reauthenticated, requested, resumed, resynchronised, server_does, silent, succeeded, unknown}
use Rattle.auc_server.specs.declared.options.ServerOptions.{ServerOptions}
use Rattle.auc_server.specs.declared.plan.Deed.{Deed}
use Rattle.auc_server.specs.declared.plan.Deed.TheVariants as deed
use Rattle.auc_server.specs.declared.plan.Plan.{Plan}
use Rattle.auc_server.specs.declared.plan.Plan.TheVariants as plan
use Rattle.auc_server.specs.declared.rows.Row.{Row}
use Rattle.auc_server.specs.declared.rows.Row.TheVariants as row
use Rattle.auc_server.specs.declared.reply.Reply.{Reply}
use Rattle.auc_server.specs.declared.server.ServerState.TheVariants as state
use Rattle.auc_server.specs.declared.setting.HomeRow.{HomeRow}
use Rattle.auc_vector.specs.declared.why.ServerWhy.{ServerWhy}

-- ---- what it does

-- without the centre
abbrev pub deed_does : Setting → List HomeRow → ServerEnd → Deed → ServerEnd × Turn ServerWhy
deed_does set homes s (deed.Ignore cause) = ignored s cause
deed_does set homes s (deed.Ask kind said request) = requested (identified s said.text said.packets) (state.Await kind) request silent false
deed_does set homes s (deed.Refuse said rooms) = unknown s said.text said.packets
deed_does set homes s (deed.Resume sub said rooms) = resumed set homes s said.text said.packets sub
deed_does set homes s (deed.Notify notice rooms) = notified s notice.why (noted notice.resync None) notice.checked
deed_does set homes s (deed.Succeed sent room) = succeeded s sent
deed_does set homes s (deed.SucceedAgain sent room) = reauthenticated s sent
deed_does set homes s (deed.Fail cause room) = failed s cause

-- with the notes of what the centre answered
abbrev pub plan_does : Setting → List HomeRow → ServerEnd → Plan → Notes → ServerEnd × Turn ServerWhy
plan_does set homes s (plan.Challenge sub said rooms) notes = first_challenge set homes s said.text said.packets sub notes.number
plan_does set homes s (plan.TooSmall sub rooms) notes = challenged set homes s sub true None notes.number
plan_does set homes s (plan.Resynchronise sub seq rooms) notes = resynchronised set homes s sub notes.resync notes.number
plan_does set homes s (plan.Alone d) notes = deed_does set homes s d

-- ---- the homes afterwards

abbrev pub homes_by : List HomeRow → ServerEnd → Deed → List HomeRow
homes_by homes s (deed.Resume sub said rooms) = homes_resumed s.options said.text homes sub (context_in s.options.method said.text homes sub)
homes_by homes s (deed.Succeed sent room) = homes_won s.options.method homes sent
homes_by homes s (deed.SucceedAgain sent room) = homes_rewon s.options.method homes sent
homes_by homes s other = homes

abbrev pub homes_planned : List HomeRow → ServerEnd → Plan → Notes → List HomeRow
homes_planned homes s (plan.Challenge sub said rooms) notes = homes_challenged s.options homes sub notes.number
homes_planned homes s (plan.TooSmall sub rooms) notes = homes_challenged s.options homes sub notes.number
homes_planned homes s (plan.Resynchronise sub seq rooms) notes = homes_challenged s.options homes sub notes.number
homes_planned homes s (plan.Alone d) notes = homes_by homes s d

-- ---- what it asks the centre for

abbrev pub plan_asks : Plan → Option Asking
plan_asks (plan.Challenge sub said rooms) = Some (record { sub = sub; reported = None })
plan_asks (plan.TooSmall sub rooms) = Some (record { sub = sub; reported = None })
plan_asks (plan.Resynchronise sub seq rooms) = Some (record { sub = sub; reported = Some seq })
plan_asks (plan.Alone d) = None

-- whether a number is needed after what was asked: after a SEQ that was reported, only if the USIM is challenged again
abbrev pub needed : Option ℕ → Notes → Bool
needed None notes = true
needed (Some seq) notes = challenges_again notes.resync

abbrev pub needs_of : Option Asking → Notes → Bool
needs_of None notes = false
needs_of (Some request) notes = needed request.reported notes

-- ---- what it needs

-- master keys of the session's method, and a next counter if another identity is given
abbrev pub IsFitAlone : ServerOptions → Deed → Type 0
IsFitAlone o (deed.Succeed sent room) = method_of sent.master ≡ o.method
IsFitAlone o (deed.SucceedAgain sent room) = (method_of sent.context.master ≡ o.method) × HasNext sent
IsFitAlone o other = Unit {0}

-- a home, a SEQ that is one of its subscriber's numbers, and a copy of the network name
abbrev pub IsFit : ServerOptions → List rows.Row → List HomeRow → Plan → Type 0
IsFit o all homes (plan.Challenge sub said rooms) = (is_held homes sub ≡ true) × (rooms ≡ o.name)
IsFit o all homes (plan.TooSmall sub rooms) = (is_held homes sub ≡ true) × (rooms ≡ o.name)
IsFit o all homes (plan.Resynchronise sub seq rooms) = (is_held homes sub ≡ true) × (seq ≤ top_at all sub) × (rooms ≡ o.name)
IsFit o all homes (plan.Alone d) = IsFitAlone o d

-- memory, unless what was received is ignored
abbrev pub NeedsMemory : Row → Type 0
NeedsMemory (row.Ignore cause) = ⊥
NeedsMemory other = Unit {0}

-- ---- a plan for received bytes

-- a request for another identity, which is one of the AKA-Identity packets afterwards
abbrev pub Asks : ServerEnd → Seen → IdentityRequest → Deed → Type 0
Asks s seen kind (deed.Ask asked said request) =
    (asked ≡ kind) × (said.text ≡ text_in seen.reading) × (said.packets ≡ packets_after s seen (row.Ask kind)) × (request ≡ identity_asked s kind)
Asks s seen kind other = ⊥

-- the row of the table for some reply to a re-authentication
pub record IsPlan (set : Setting) (homes : List HomeRow) (s : ServerEnd) (seen : Seen) (p : Plan) : Type 0 where
  pub reply : Reply
  pub replies : Replies s.state seen.reading reply
  pub does : (notes : Notes) → plan_does set homes s p notes ≡ server_does set homes s (text_in seen.reading) (packets_after s seen (server_row set homes s seen reply)) (server_row set homes s seen reply) notes
  pub homes_are : (notes : Notes) → homes_planned homes s p notes ≡ homes_done homes s (text_in seen.reading) (server_row set homes s seen reply) notes
  pub asks : plan_asks p ≡ asking (server_row set homes s seen reply)
  pub held : IsHeldRow s.options.method set.rows homes (server_row set homes s seen reply)
  pub fits : IsFit s.options set.rows homes p
