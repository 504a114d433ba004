-- What a peer takes from its device beside the USIM's index array. No turn changes it.
use Rattle.std.specs.Prelude.{ℕ, List}
use Rattle.auc_memory.specs.Identity.{Identity}
use Rattle.auc_hmac.specs.declared.method.Method.{Method}
use Rattle.auc_ident.specs.Permanent.{permanent_text, with_realm}
use Rattle.auc_milenage.specs.declared.secret.Secret.{Secret}
use Rattle.auc_peer.specs.Device.{DeviceState}

-- the IMSI, the realm, and the secret of the USIM
pub record Subscription : Type 0 where
  pub imsi : Identity
  pub realm : List ℕ
  pub secret : Secret

abbrev pub subscription_of : DeviceState → Subscription
subscription_of device = record { imsi = device.imsi; realm = device.realm; secret = device.usim.secret }

-- the permanent identity of a method (RFC 4187 §4.1.1.6, RFC 9048 §5.1)
abbrev pub identity_text : Method → Subscription → List ℕ
identity_text m s = with_realm (permanent_text m s.imsi) s.realm
