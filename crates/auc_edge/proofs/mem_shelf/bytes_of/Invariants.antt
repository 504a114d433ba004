use Rattle.std.proofs.Common.{◌≡◌, drop}
use Rattle.auc_edge.specs.Shelf.{file_of}
use Rattle.auc_edge.proofs.mem_shelf.bytes_of.Given as goal

abbrev pub invariant-loop-file : goal.invariant-loop-file
invariant-loop-file l = file_of (drop l.file-index l.files) l.name ≡ file_of l.files l.name
