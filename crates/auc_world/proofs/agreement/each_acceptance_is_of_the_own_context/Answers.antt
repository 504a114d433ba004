use Rattle.std.proofs.Common.{Option, Some, None, slice_get}
use Rattle.auc_peer.specs.Laws.{AcceptedIsOfTheContext}
use Rattle.auc_peer.specs.Subscription.{Subscription}
use Rattle.auc_subs.specs.Setting.{Setting}
use Rattle.auc_world.specs.Happened.{Delivery, ToldEvent, delivery_in}
use Rattle.auc_world.specs.Net.{Net, keeps_at}
use Rattle.auc_world.specs.Resumption.{AcceptsIn, AcceptsItsOwn}
use Rattle.auc_world.proofs.agreement.each_acceptance_is_of_the_own_context.Goals as goal

at_device : AcceptedIsOfTheContext → (set : Setting) (w : Net) (d : Delivery) (told : ToldEvent) (device : Option Subscription) → AcceptsItsOwn set w d told device
at_device law set w d told None = tt
at_device law set w d told (Some device) = λ counter e. law set.key device (keeps_at w d.session.device) d.session.peer told.seen told.notes.usim told.inner counter e

in_delivery : AcceptedIsOfTheContext → (set : Setting) (w : Net) (told : ToldEvent) (d : Option Delivery) → AcceptsIn set w told d
in_delivery law set w told None = tt
in_delivery law set w told (Some d) = at_device law set w d told (slice_get w.devices d.session.device)

pub returns : goal.returns
returns c = λ set w session packet told. in_delivery c.each_accepted_counter_is_of_the_context.ensures set w told (delivery_in w session packet)
