-- What holds of every turn of a server.
use Rattle.std.specs.Prelude.{◌≡◌, ◌⊎◌, ℕ, ◌+◌, ◌≤◌, Bool, true, false, List, [], Option, Some, None}
use Rattle.auc_hmac.specs.declared.keys.KeySet.{KeySet}
use Rattle.auc_packet.specs.Received.{Seen, is_sealed}
use Rattle.auc_reauth.specs.Server.{entry_named}
use Rattle.auc_reauth.specs.Store.{entry}
use Rattle.auc_reauth.specs.declared.context.Context.{Context}
use Rattle.auc_vector.specs.Keys.{keys_of, master_of}
use Rattle.auc_vector.specs.Notes.{Asking}
use Rattle.auc_vector.specs.declared.notes.Notes.{Notes}
use Rattle.auc_vector.specs.declared.notes.NumberNote.TheVariants as number
use Rattle.auc_vector.specs.declared.parts.Vector.{Vector}
use Rattle.auc_vector.specs.declared.turn.Outcome.TheVariants as outcome
use Rattle.auc_vector.specs.declared.turn.Step.TheVariants as step
use Rattle.auc_vector.specs.declared.turn.Turn.{Turn}
use Rattle.auc_server.specs.Contexts.{homes_left}
use Rattle.auc_server.specs.Ordinals.{home_at, home_place}
use Rattle.auc_server.specs.Rows.{server_row, text_in}
use Rattle.auc_server.specs.Server.{ServerEnd, challenged_of, resumed_of}
use Rattle.auc_subs.specs.Setting.{Setting}
use Rattle.auc_server.specs.Steps.{asking}
use Rattle.auc_server.specs.Table.{challenge_of, gave_up, homes_after, resumed_keys, resumption, server_step, vector_at}
use Rattle.auc_server.specs.declared.reply.Reply.{Reply}
use Rattle.auc_server.specs.declared.server.Challenged.{Challenged}
use Rattle.auc_server.specs.declared.server.Last.{Last}
use Rattle.auc_server.specs.declared.server.Resumed.{Resumed}
use Rattle.auc_server.specs.declared.server.ServerState.{ServerState}
use Rattle.auc_server.specs.declared.server.ServerState.TheVariants as state
use Rattle.auc_server.specs.declared.setting.HomeRow.{HomeRow}
use Rattle.auc_vector.specs.declared.why.ServerWhy.{ServerWhy}

-- keys of the last challenge, under which received bytes have a right AT_MAC
pub record AreProved (s : ServerEnd) (seen : Seen) (keys : KeySet) : Type 0 where
  pub sent : Challenged
  pub last : challenged_of s ≡ Some sent
  pub keys_are : keys ≡ sent.keys
  pub right : is_sealed s.options.method keys.k_aut [] seen ≡ true

-- keys of the re-authentication, under which received bytes and NONCE_S have a right AT_MAC
pub record AreRenewed (s : ServerEnd) (seen : Seen) (keys : KeySet) : Type 0 where
  pub sent : Resumed
  pub last : resumed_of s ≡ Some sent
  pub keys_are : keys ≡ resumed_keys s sent
  pub right : is_sealed s.options.method keys.k_aut sent.nonce seen ≡ true

-- Success comes only in a turn whose bytes have a right AT_MAC under the session's keys, and the turn says so
abbrev pub SuccessNeedsARightMac : Type 0
SuccessNeedsARightMac = (set : Setting) (homes : List HomeRow) (s : ServerEnd) (seen : Seen) (said : Reply) (notes : Notes) (keys : KeySet) (bytes : List ℕ)
    → (server_step set homes s seen said notes).1.step ≡ step.Ended (outcome.Success keys) bytes
    → (AreProved s seen keys ⊎ AreRenewed s seen keys) × ((server_step set homes s seen said notes).1.checked ≡ true)

-- the last challenge has these keys
abbrev pub Has : Option Challenged → KeySet → Type 0
Has challenged keys = (sent : Challenged) × (challenged ≡ Some sent) × (keys ≡ sent.keys)

-- the re-authentication has these keys
abbrev pub HasRenewed : ServerEnd → KeySet → Type 0
HasRenewed s keys = (sent : Resumed) × (resumed_of s ≡ Some sent) × (keys ≡ resumed_keys s sent)

-- whether an identity is awaited
abbrev pub awaits_identity : ServerState → Bool
awaits_identity state.AwaitIdentity = true
awaits_identity (state.Await kind) = true
awaits_identity other = false

-- the keys of the last challenge, and the master key for later re-authentications, are those of its vector under the identity
-- that was received last; the keys of Success are those of the last challenge or of the re-authentication
pub record Fits (s : ServerEnd) : Type 0 where
  pub keys : (sent : Challenged) → challenged_of s ≡ Some sent → sent.keys ≡ keys_of s.options.method s.identity sent.vector.ik sent.vector.ck
  pub master : (sent : Challenged) → challenged_of s ≡ Some sent → sent.master ≡ master_of s.options.method s.identity sent.vector.ik sent.vector.ck
  pub success : (keys : KeySet) (last : Last) → s.state ≡ state.Ended (outcome.Success keys) last → Has (challenged_of s) keys ⊎ HasRenewed s keys

-- no turn makes the keys others than those of their inputs
abbrev pub EachTurnFits : Type 0
EachTurnFits = (set : Setting) (homes : List HomeRow) (s : ServerEnd) (seen : Seen) (said : Reply) (notes : Notes) → Fits s
    → Fits (server_step set homes s seen said notes).0

-- ---- what a turn does to the last challenge

-- it stays, and so does the identity that its keys are made from
pub record KeepsChallenge (s new : ServerEnd) : Type 0 where
  pub challenge : challenged_of new ≡ challenged_of s
  pub identity : (sent : Challenged) → challenged_of s ≡ Some sent → new.identity ≡ s.identity

-- a challenge is sent: the vector of a number that the centre gave for the subscriber that the turn asked it for
pub record SendsChallenge (set : Setting) (asked : Option Asking) (new : ServerEnd) (turn : Turn ServerWhy) : Type 0 where
  pub request : Asking
  pub of : asked ≡ Some request
  pub n : ℕ
  pub drawn : turn.notes.number ≡ Some (number.Drew n)
  pub vector : Vector
  pub of_number : vector_at set new.options request.sub n ≡ Some vector
  pub next : Option (List ℕ)
  pub challenge : challenged_of new ≡ Some (challenge_of new request.sub n vector next)
  pub sent : turn.step ≡ step.Sent new.last

-- a turn keeps the last challenge, or sends a new one
abbrev pub EachTurnKeepsOrChallenges : Type 0
EachTurnKeepsOrChallenges = (set : Setting) (homes : List HomeRow) (s : ServerEnd) (seen : Seen) (said : Reply) (notes : Notes) → Fits s
    → KeepsChallenge s (server_step set homes s seen said notes).0
    ⊎ SendsChallenge set (asking (server_row set homes s seen said)) (server_step set homes s seen said notes).0 (server_step set homes s seen said notes).1

-- ---- what a turn does to the re-authentication

-- it stays, and so does the identity that its keys are made from
pub record KeepsResumption (s new : ServerEnd) : Type 0 where
  pub resumption : resumed_of new ≡ resumed_of s
  pub identity : (sent : Resumed) → resumed_of s ≡ Some sent → new.identity ≡ s.identity

-- the context that the received identity names is taken up again: its counter is noted, and it leaves its home
pub record Resumes (set : Setting) (homes : List HomeRow) (s : ServerEnd) (seen : Seen) (new : ServerEnd) (turn : Turn ServerWhy) (later : List HomeRow) : Type 0 where
  pub sub : ℕ
  pub context : Context
  pub place : ℕ
  pub home : home_place homes sub ≡ Some place
  pub named : entry_named s.options.method (text_in seen.reading) (home_at homes place).store ≡ Some context
  pub resumption_is : resumed_of new ≡ Some (resumption set (homes_left s.options.method (text_in seen.reading) homes sub) s sub context)
  pub noted : turn.notes.resumed ≡ Some context.counter
  pub sent : turn.step ≡ step.Sent new.last
  pub gone : entry s.options.method (home_at later place).store ≡ None

-- a turn keeps the re-authentication and notes none, or takes a context up again
abbrev pub EachTurnKeepsOrResumes : Type 0
EachTurnKeepsOrResumes = (set : Setting) (homes : List HomeRow) (s : ServerEnd) (seen : Seen) (said : Reply) (notes : Notes) → Fits s
    → (KeepsResumption s (server_step set homes s seen said notes).0 × ((server_step set homes s seen said notes).1.notes.resumed ≡ None))
    ⊎ Resumes set homes s seen (server_step set homes s seen said notes).0 (server_step set homes s seen said notes).1 (homes_after set homes s seen said notes)

-- ---- the options

-- they stay in every turn, and if the server gives up; sending the last request again changes nothing
pub record OptionsStay : Type 0 where
  pub turn : (set : Setting) (homes : List HomeRow) (s : ServerEnd) (seen : Seen) (said : Reply) (notes : Notes)
      → (server_step set homes s seen said notes).0.options ≡ s.options
  pub given_up : (s : ServerEnd) → (gave_up s s.state).0.options ≡ s.options

-- ---- the ordinals of names

-- a home's ordinals stay, or the next one or two are used
pub record IsAfter (home later : HomeRow) : Type 0 where
  pub sub : later.sub ≡ home.sub
  pub more : ℕ
  pub few : more ≤ 2
  pub ordinals : later.ordinals ≡ home.ordinals + more

-- no turn gives an ordinal back
abbrev pub OrdinalsRise : Type 0
OrdinalsRise = (set : Setting) (homes : List HomeRow) (s : ServerEnd) (seen : Seen) (said : Reply) (notes : Notes) (place : ℕ)
    → IsAfter (home_at homes place) (home_at (homes_after set homes s seen said notes) place)
