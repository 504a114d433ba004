-- What a peer is told before its session.
use Rattle.std.specs.Prelude.{ℕ, Bool, List, Option}
use Rattle.auc_hmac.specs.declared.method.Method.{Method}
use Rattle.auc_peer.specs.declared.identity.FirstIdentity.{FirstIdentity}

-- the session's number, the method, the network's name that the peer means, whether the device has EAP-AKA', and the first
-- identity
pub record ToldSession : Type 0 where
  pub session : ℕ
  pub method : Method
  pub name : Option (List ℕ)
  pub has_prime : Bool
  pub first : FirstIdentity
