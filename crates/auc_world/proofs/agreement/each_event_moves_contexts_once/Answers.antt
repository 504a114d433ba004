use Rattle.auc_world.proofs.DeviceMoveLemmas.{events_move_devices_once}
use Rattle.auc_world.proofs.PlaceMoveLemmas.{events_move_homes_once}
use Rattle.auc_world.proofs.agreement.each_event_moves_contexts_once.Goals as goal

pub returns-clause-homes : goal.returns-clause-homes
returns-clause-homes c = events_move_homes_once c.each_turn_keeps_the_keys_of_its_inputs.ensures

pub returns-clause-devices : goal.returns-clause-devices
returns-clause-devices c = events_move_devices_once (record {
  moves = c.each_turn_moves_at_most_one_context.ensures;
  of_method = c.each_turn_keeps_contexts_of_the_method.ensures;
  leaves = c.each_turn_leaves_the_other_method.ensures;
  options = c.each_turn_keeps_what_keys_are_made_from.ensures;
})
