-- Inner facts: what only private contracts of this crate cite. Two or three triplets as a list.
use Rattle.std.specs.Prelude.{List}
use Rattle.auc_sim.specs.declared.several.Several.{Several}
use Rattle.auc_sim.specs.declared.several.Several.TheVariants as several
use Rattle.auc_sim_packet.specs.declared.parts.Triplet.{Triplet}

abbrev pub listed : Several → List Triplet
listed (several.Two triplets) = triplets
listed (several.Three triplets) = triplets
