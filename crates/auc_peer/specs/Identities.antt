-- The identities that a peer sends of its device (RFC 4187 §4.1), and what the device adopts when a session succeeds.
use Rattle.std.specs.Prelude.{◌≤◌, ℕ, List, length, Option, Some, None, if◌then◌else◌}
use Rattle.std.specs.Str.{bytes_eq}
use Rattle.auc_hmac.specs.declared.method.Method.{Method}
use Rattle.auc_ident.specs.Permanent.{permanent_text, with_realm}
use Rattle.auc_peer.specs.Subscription.{Subscription, identity_text}
use Rattle.auc_peer.specs.declared.identity.FirstIdentity.{FirstIdentity}
use Rattle.auc_peer.specs.declared.identity.FirstIdentity.TheVariants as first
use Rattle.auc_request.specs.declared.identities.IdentityRequest.{IdentityRequest}
use Rattle.auc_request.specs.declared.identities.IdentityRequest.TheVariants as request
use Rattle.auc_peer.specs.declared.next.NextContext.{NextContext}
use Rattle.auc_peer.specs.declared.next.NextContext.TheVariants as next
use Rattle.auc_reauth.specs.Device.{Keeps, with_context, with_pseudonym}
use Rattle.auc_reauth.specs.Store.{entry, method_of}
use Rattle.auc_reauth.specs.declared.context.Context.{Context}

abbrev pub pseudonym_or : List ℕ → Option (List ℕ) → List ℕ
pseudonym_or permanent None = permanent
pseudonym_or permanent (Some pseudonym) = pseudonym

-- the name for a full authentication of a method: the pseudonym if the device has one, else the permanent one (§4.1.1.9)
abbrev pub full_name : Method → Subscription → Keeps → List ℕ
full_name m s keeps = pseudonym_or (permanent_text m s.imsi) (entry m keeps.pseudonyms)

-- the identity for a full authentication
abbrev pub full_text : Method → Subscription → Keeps → List ℕ
full_text m s keeps = with_realm (full_name m s keeps) s.realm

abbrev pub context_or : List ℕ → Option Context → List ℕ
context_or name None = name
context_or name (Some c) = c.identity

-- the identity that a device holds of a method: that of its context if it has one, else the one for a full authentication
abbrev pub held_text : Method → Subscription → Keeps → List ℕ
held_text m s keeps = with_realm (context_or (full_name m s keeps) (entry m keeps.contexts)) s.realm

-- the identity that answers the Identity request of EAP, by what a peer was told
abbrev pub first_text : Method → Subscription → Keeps → FirstIdentity → List ℕ
first_text m s keeps first.Held = held_text m s keeps
first_text m s keeps first.Permanent = identity_text m s
first_text m s keeps (first.Text text) = text

-- a first identity that is given as a text has at most 255 bytes
abbrev pub IsShortFirst : FirstIdentity → Type 0
IsShortFirst first.Held = Unit {0}
IsShortFirst first.Permanent = Unit {0}
IsShortFirst (first.Text text) = length text ≤ 255

-- the identity that answers an AKA-Identity request (§4.1.4)
abbrev pub asked_text : Method → Subscription → Keeps → IdentityRequest → List ℕ
asked_text m s keeps request.Any = held_text m s keeps
asked_text m s keeps request.Fullauth = full_text m s keeps
asked_text m s keeps request.Permanent = identity_text m s

-- ---- what a device adopts

-- with the next pseudonym of a method, if there is one
abbrev pub with_next_pseudonym : Method → Option (List ℕ) → Keeps → Keeps
with_next_pseudonym m None keeps = keeps
with_next_pseudonym m (Some pseudonym) keeps = with_pseudonym m pseudonym keeps

-- a context under its next identity, or none if there is none
abbrev pub under : Option (List ℕ) → Context → Option Context
under None c = None
under (Some identity) c = Some (record c { identity = identity })

-- with the next identity for a context, if it still has the one under which the peer was re-authenticated
abbrev pub renamed : Method → List ℕ → Option (List ℕ) → Option Context → Keeps → Keeps
renamed m from to None keeps = keeps
renamed m from to (Some c) keeps = if bytes_eq c.identity from then with_context m (under to c) keeps else keeps

-- with the next context
abbrev pub with_next_context : Method → NextContext → Keeps → Keeps
with_next_context m next.Same keeps = keeps
with_next_context m (next.New c) keeps = with_context (method_of c.master) (Some c) keeps
with_next_context m (next.Renamed from to) keeps = renamed m from to (entry m keeps.contexts) keeps

-- what a device keeps after a session of a method has succeeded
abbrev pub adopted : Method → Option (List ℕ) → NextContext → Keeps → Keeps
adopted m pseudonym following keeps = with_next_context m following (with_next_pseudonym m pseudonym keeps)
