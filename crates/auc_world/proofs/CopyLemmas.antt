-- For laws on events: what comes of a changed packet.
use Rattle.std.proofs.Common.{◌≡◌, ℕ, List, Option, Some, None, refl}
use Rattle.auc_record.specs.Event.{Came, asked_in, device_in, event_vector, number_in, resync_in, usim_in}
use Rattle.auc_world.specs.Came.{came_changed}
use Rattle.auc_world.specs.declared.net.SentPacket.{SentPacket}

-- nobody was asked or received anything, and nothing was released
pub record IsSilent (came : Came) : Type 0 where
  pub asked : asked_in came ≡ None
  pub device : device_in came ≡ None
  pub number : number_in came ≡ None
  pub resync : resync_in came ≡ None
  pub usim : usim_in came ≡ None
  pub vector : event_vector came ≡ None

-- so is a changed packet, and one that can't be changed
pub changed_is_silent : (packets : List SentPacket) (sent : Option SentPacket) (copy : Option (List ℕ)) → IsSilent (came_changed packets sent copy)
changed_is_silent packets None copy = record { asked = refl; device = refl; number = refl; resync = refl; usim = refl; vector = refl }
changed_is_silent packets (Some sent) None = record { asked = refl; device = refl; number = refl; resync = refl; usim = refl; vector = refl }
changed_is_silent packets (Some sent) (Some bytes) = record { asked = refl; device = refl; number = refl; resync = refl; usim = refl; vector = refl }
