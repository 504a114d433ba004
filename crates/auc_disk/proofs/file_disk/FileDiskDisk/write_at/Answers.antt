use Rattle.std.proofs.Common.{length}
use Rattle.auc_disk.specs.InnerTorn.{Torn-same}
use Rattle.auc_disk.proofs.file_disk.FileDiskDisk.write_at.Goals as goal

pub returns-clause-crash : goal.returns-clause-crash
returns-clause-crash g c = λ image any. (image, tt, Torn-same c.args.at (length c.args.bytes.now) image)
