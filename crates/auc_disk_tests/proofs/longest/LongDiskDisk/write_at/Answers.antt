use Rattle.auc_disk.specs.InnerTorn.{Torn-same}
use Rattle.auc_disk_tests.proofs.longest.LongDiskDisk.write_at.Goals as goal

pub returns-clause-crash : goal.returns-clause-crash
returns-clause-crash g = λ image any. (image, tt, Torn-same _ _ image)
