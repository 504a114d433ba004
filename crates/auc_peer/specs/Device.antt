-- What a subscriber's device holds.
use Rattle.std.specs.Prelude.{ℕ, List}
use Rattle.auc_memory.specs.Identity.{Identity}
use Rattle.auc_reauth.specs.Device.{Keeps}
use Rattle.auc_usim.specs.Usim.{Memory}

-- the IMSI of the subscription, what the USIM keeps, the pseudonyms and contexts that were given, and the realm of the
-- subscriber's identities (RFC 4187 §4.1.1.5), empty if there is none
pub record DeviceState : Type 0 where
  pub imsi : Identity
  pub usim : Memory
  pub store : Keeps
  pub realm : List ℕ
