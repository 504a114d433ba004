-- Inner facts: what only private contracts of this crate cite. An attribute between its list and its bytes.
use Rattle.std.specs.Prelude.{ℕ, List}
use Rattle.auc_sim_packet.specs.declared.conversion.SimValue.{SimValue}
use Rattle.auc_sim_packet.specs.declared.conversion.SimValue.TheVariants as values

abbrev pub value_bytes : SimValue → List ℕ
value_bytes (values.Slice v) = v.now
value_bytes (values.Number v) = v
