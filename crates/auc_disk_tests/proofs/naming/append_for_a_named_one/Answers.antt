use Rattle.std.proofs.Common.{All, Contains, List, subst, sym}
use Rattle.auc_memory.specs.Identity.{Identity}
use Rattle.auc_disk_tests.proofs.naming.append_for_a_named_one.Goals as goal

pub name_some-requires : goal.name_some-requires
name_some-requires g c = subst (λ (all : List Identity). All (Contains all) c.third_and_first.result.items) (sym c.requires.all.0) c.third_and_first.ensures.among
