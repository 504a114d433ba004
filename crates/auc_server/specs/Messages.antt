-- The messages of a server of EAP-AKA (RFC 4187 §9) or EAP-AKA' (RFC 9048 §3).
use Rattle.std.specs.Prelude.{ℕ, Bool, true, false, List, [], ◌∷◌, ◌++◌, Option, Some, None}
use Rattle.auc_attr.specs.declared.attr.Attr.{Attr}
use Rattle.auc_attr.specs.declared.attr.Attr.TheVariants as attr
use Rattle.auc_hmac.specs.declared.keys.KeySet.{KeySet}
use Rattle.auc_hmac.specs.declared.method.Method.{Method}
use Rattle.auc_hmac.specs.declared.method.Method.TheVariants as method
use Rattle.auc_ident.specs.Permanent.{with_realm}
use Rattle.auc_packet.specs.declared.packet.Packet.{Packet}
use Rattle.auc_packet.specs.declared.packet.Packet.TheVariants as packet
use Rattle.auc_packet.specs.declared.sealing.Draft.{Draft}
use Rattle.auc_packet.specs.declared.subtype.Subtype.TheVariants as subtype
use Rattle.auc_packet.specs.Sealed.{sealed}
use Rattle.auc_seal.specs.Encrypted.{encrypted}
use Rattle.auc_vector.specs.declared.parts.Vector.{Vector}
use Rattle.auc_request.specs.declared.identities.IdentityRequest.{IdentityRequest}
use Rattle.auc_request.specs.declared.identities.IdentityRequest.TheVariants as asks
use Rattle.auc_server.specs.declared.naming.GivenNames.{GivenNames}
use Rattle.auc_server.specs.declared.naming.NewNames.{NewNames}
use Rattle.auc_server.specs.declared.naming.NewNames.TheVariants as names
use Rattle.auc_server.specs.declared.options.ServerOptions.{ServerOptions}
use Rattle.auc_server.specs.declared.server.Resumed.{Resumed}

-- the first request, which has no text (RFC 3748 §5.1)
abbrev pub identity_request : ℕ → Packet
identity_request id = packet.Identity true id []

-- the attributes of a Challenge that a method has by itself: the network name and the key derivation function of EAP-AKA'
-- (RFC 9048 §3.1 and §3.2), and the bit D of a server of EAP-AKA that would rather use EAP-AKA' (RFC 9048 §4)
abbrev pub attrs_by : Method → List ℕ → Bool → List Attr
attrs_by method.Prime name bidding = attr.KdfInput name ∷ attr.Kdf 1 ∷ []
attrs_by method.Aka name true = attr.Bidding true ∷ []
attrs_by method.Aka name false = []

-- the attributes that a Challenge encrypts: the next pseudonym, which has no realm, and the next re-authentication identity
-- with the realm (RFC 4187 §10.10 and §10.11)
abbrev pub names_in : List ℕ → NewNames → List Attr
names_in realm (names.Pseudonym text) = attr.NextPseudonym text ∷ []
names_in realm (names.Identity text) = attr.NextReauthId (with_realm text realm) ∷ []
names_in realm (names.Both text other) = attr.NextPseudonym text ∷ attr.NextReauthId (with_realm other realm) ∷ []

-- AT_IV and AT_ENCR_DATA, if names are given (RFC 4187 §10.12)
abbrev pub attrs_given : List ℕ → List ℕ → Option GivenNames → List Attr
attrs_given realm k_encr None = []
attrs_given realm k_encr (Some given) = encrypted k_encr given.iv (names_in realm given.names)

-- the attributes of a Challenge before AT_CHECKCODE
abbrev pub attrs_before : ServerOptions → List ℕ → List ℕ → List ℕ → List ℕ → Option GivenNames → List Attr
attrs_before options realm rand autn k_encr given =
    attr.Rand rand ∷ attr.Autn autn ∷ (attrs_by options.method options.name options.bidding ++ attrs_given realm k_encr given)

-- Challenge (RFC 4187 §9.3), but for its AT_MAC, with a value of AT_CHECKCODE
abbrev pub challenge_draft : ServerOptions → List ℕ → ℕ → List ℕ → List ℕ → List ℕ → Option GivenNames → List ℕ → Draft
challenge_draft options realm id rand autn k_encr given check = record {
  method = options.method;
  request = true;
  id = id;
  subtype = subtype.Challenge;
  attrs = attrs_before options realm rand autn k_encr given ++ attr.Checkcode check ∷ [];
}

-- Challenge, with AT_MAC under K_aut
unfoldable pub challenge_bytes : ServerOptions → List ℕ → ℕ → Vector → KeySet → Option GivenNames → List ℕ → List ℕ
challenge_bytes options realm id v keys given check =
    sealed keys.k_aut [] (challenge_draft options realm id v.rand v.autn keys.k_encr given check)

-- AT_NEXT_REAUTH_ID, if an identity is given (RFC 4187 §10.11)
abbrev pub next_in : List ℕ → Option (List ℕ) → List Attr
next_in realm None = []
next_in realm (Some text) = attr.NextReauthId (with_realm text realm) ∷ []

-- the attributes that a Reauthentication request encrypts: AT_COUNTER, AT_NONCE_S and the next identity (RFC 4187 §9.7)
abbrev pub reauth_in : List ℕ → Resumed → List Attr
reauth_in realm r = attr.Counter r.context.counter ∷ attr.NonceS r.nonce ∷ next_in realm r.next

-- Reauthentication (RFC 4187 §9.7), but for its AT_MAC, with an initialisation vector and a value of AT_CHECKCODE
abbrev pub reauth_draft : Method → List ℕ → ℕ → List ℕ → Resumed → List ℕ → Draft
reauth_draft by realm id iv r check = record {
  method = by;
  request = true;
  id = id;
  subtype = subtype.Reauthentication;
  attrs = encrypted r.context.k_encr iv (reauth_in realm r) ++ attr.Checkcode check ∷ [];
}

-- Reauthentication, with AT_MAC under K_aut
unfoldable pub reauth_bytes : Method → List ℕ → ℕ → List ℕ → Resumed → List ℕ → List ℕ
reauth_bytes by realm id iv r check = sealed r.context.k_aut [] (reauth_draft by realm id iv r check)

-- the attribute by which an identity is asked for (RFC 4187 §10.2 to §10.4)
abbrev pub id_req : IdentityRequest → Attr
id_req asks.Any = attr.AnyIdReq
id_req asks.Fullauth = attr.FullauthIdReq
id_req asks.Permanent = attr.PermanentIdReq

-- AKA-Identity (RFC 4187 §9.1)
abbrev pub aka_identity : Method → ℕ → IdentityRequest → Packet
aka_identity by id kind = packet.Aka true id by subtype.Identity (id_req kind ∷ [])

-- Notification of a general failure, before the challenge was answered or after (RFC 4187 §9.10 and §10.19)
abbrev pub notification : Method → ℕ → Packet
notification by id = packet.Aka true id by subtype.Notification (attr.Notification 16384 ∷ [])
