-- The schedule of a `sim` line: what its deliveries say.
use Rattle.std.specs.Prelude.{ℕ, List, codes, Option, Some, None, Result, Ok, Err, if◌then◌else◌}
use Rattle.auc_lines.specs.declared.part.End.{End}
use Rattle.auc_lines.specs.declared.part.End.TheVariants as end
use Rattle.auc_lines.specs.declared.sim.SimDelivery.{SimDelivery}
use Rattle.auc_lines.specs.declared.sim.SimSchedule.{SimSchedule}
use Rattle.auc_lines.specs.declared.sim.SimSchedule.TheVariants.{Plain, Steps}
use Rattle.auc_text.specs.Text.{is_text}
use Rattle.auc_subs.specs.Steps.{◌>>=◌}
use Rattle.auc_reading.specs.declared.refusal.ScriptWhy.{ScriptWhy}
use Rattle.auc_reading.specs.declared.refusal.ScriptWhy.TheVariants as why
use Rattle.auc_reading.specs.Field.{number_between}
use Rattle.auc_reading.specs.Numbers.{last_packet}
use Rattle.auc_reading.specs.Schedule.{all_of, behind}

-- the number of a packet that reaches an end, if a letter stood before it; or what the delivery is without the letter
abbrev pub to_end : End → Option (List ℕ) → Result SimDelivery ScriptWhy → Result SimDelivery ScriptWhy
to_end at' None other = other
to_end at' (Some number) other = number_between 0 last_packet number >>= λ packet. Ok (record { end = at'; packet = packet })

-- a delivery: `pK` to the peer, or `sK` to the server
abbrev pub delivery_of : List ℕ → Result SimDelivery ScriptWhy
delivery_of text = to_end end.Peer (behind (codes "p") text) (to_end end.Server (behind (codes "s") text) (Err why.Fields))

-- what a schedule says: `plain`, or deliveries
abbrev pub deliveries_of : List ℕ → Result SimSchedule ScriptWhy
deliveries_of schedule =
    if is_text schedule (codes "plain") then Ok Plain
    else all_of delivery_of schedule >>= λ deliveries. Ok (Steps deliveries)
