-- The messages that a peer sends, by its method (RFC 4187 §9, RFC 9048 §3).
use Rattle.std.specs.Prelude.{ℕ, Bool, true, false, List, [], ◌∷◌, ◌++◌}
use Rattle.auc_attr.specs.declared.attr.Attr.{Attr}
use Rattle.auc_attr.specs.declared.attr.Attr.TheVariants as attr
use Rattle.auc_hmac.specs.declared.method.Method.{Method}
use Rattle.auc_hmac.specs.declared.method.Method.TheVariants as method
use Rattle.auc_packet.specs.Sealed.{sealed}
use Rattle.auc_packet.specs.declared.packet.Packet.{Packet}
use Rattle.auc_packet.specs.declared.packet.Packet.TheVariants as packet
use Rattle.auc_packet.specs.declared.sealing.Draft.{Draft}
use Rattle.auc_packet.specs.declared.subtype.Subtype.{Subtype}
use Rattle.auc_packet.specs.declared.subtype.Subtype.TheVariants as subtype
use Rattle.auc_seal.specs.Encrypted.{encrypted}

-- a response of a method
abbrev pub response : Method → ℕ → Subtype → List Attr → Packet
response m id s list = packet.Aka false id m s list

-- the Identity response of EAP (RFC 3748 §5.1)
abbrev pub identity_response : ℕ → List ℕ → Packet
identity_response id text = packet.Identity false id text

-- the AKA-Identity response (RFC 4187 §9.2)
abbrev pub identified : Method → ℕ → List ℕ → Packet
identified m id text = response m id subtype.Identity (attr.Identity text ∷ [])

-- Client-Error, with code 0 (§9.9 and §10.20)
abbrev pub client_error : Method → ℕ → Packet
client_error m id = response m id subtype.ClientError (attr.ClientErrorCode 0 ∷ [])

-- Authentication-Reject (§9.5)
abbrev pub reject : Method → ℕ → Packet
reject m id = response m id subtype.AuthenticationReject []

-- the Notification response (§9.11)
abbrev pub notified : Method → ℕ → Packet
notified m id = response m id subtype.Notification []

-- the AT_KDF of a Synchronization-Failure: the key derivation function of the Challenge (RFC 9048 §3.2)
abbrev pub own_kdf : Method → List Attr
own_kdf method.Aka = []
own_kdf method.Prime = attr.Kdf 1 ∷ []

-- Synchronization-Failure (RFC 4187 §9.6)
abbrev pub sync_failure : Method → ℕ → List ℕ → Packet
sync_failure m id auts = response m id subtype.SynchronizationFailure (attr.Auts auts ∷ own_kdf m)

-- AT_CHECKCODE with the peer's own value, if the request had AT_CHECKCODE (§10.13)
abbrev pub own_checkcode : Bool → List ℕ → List Attr
own_checkcode true own = attr.Checkcode own ∷ []
own_checkcode false own = []

-- a Challenge response, to which AT_MAC is added
abbrev pub draft_of : Method → ℕ → List Attr → Draft
draft_of m id list = record {
  method = m;
  request = false;
  id = id;
  subtype = subtype.Challenge;
  attrs = list;
}

-- the bytes of the Challenge response (§9.4): AT_RES, AT_CHECKCODE and AT_MAC
unfoldable pub response_bytes : Method → ℕ → List ℕ → List ℕ → Bool → List ℕ → List ℕ
response_bytes m id k_aut res has own = sealed k_aut [] (draft_of m id (attr.Res res ∷ own_checkcode has own))

-- ---- fast re-authentication

-- what a Reauthentication response encrypts: AT_COUNTER, and AT_COUNTER_TOO_SMALL if the counter is (§10.16 and §10.17)
abbrev pub counter_attrs : ℕ → Bool → List Attr
counter_attrs counter true = attr.Counter counter ∷ attr.CounterTooSmall ∷ []
counter_attrs counter false = attr.Counter counter ∷ []

-- a Reauthentication response, to which AT_MAC is added
abbrev pub reauth_draft : Method → ℕ → List ℕ → List ℕ → ℕ → Bool → Bool → List ℕ → Draft
reauth_draft m id k_encr iv counter small has own = record {
  method = m;
  request = false;
  id = id;
  subtype = subtype.Reauthentication;
  attrs = encrypted k_encr iv (counter_attrs counter small) ++ own_checkcode has own;
}

-- the bytes of the Reauthentication response (§9.8), whose AT_MAC authenticates NONCE_S besides (§10.15)
unfoldable pub reauth_bytes : Method → ℕ → List ℕ → List ℕ → List ℕ → List ℕ → ℕ → Bool → Bool → List ℕ → List ℕ
reauth_bytes m id k_encr k_aut iv nonce counter small has own = sealed k_aut nonce (reauth_draft m id k_encr iv counter small has own)
