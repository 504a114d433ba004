use Rattle.std.proofs.Common.{◌≡◌, ◌<◌, ◌≤◌, ℕ, [], map, length, get_or}
use Rattle.auc_aes.specs.Inner.{block_of_words}
use Rattle.auc_aes.specs.Lanes.{coordinates, key_coordinates}
use Rattle.auc_aes.proofs.lane_keys.lane_keys.Given as goal

abbrev pub invariant-loop-i : goal.invariant-loop-i
invariant-loop-i l = record {
  size : length l.keys ≡ 11;
  first : get_or l.keys 0 [] ≡ map coordinates (block_of_words (get_or l.round_keys 0 []));
  inner : (j : ℕ) → 1 ≤ j → j < l.i → get_or l.keys j [] ≡ map key_coordinates (block_of_words (get_or l.round_keys j []));
}
