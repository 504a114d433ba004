use Rattle.std.proofs.Common.{◌≡◌, All, length, map, take}
use Rattle.auc_named.specs.InnerNaming.{IsOwnLine}
use Rattle.auc_named.specs.Named.{line_of}
use Rattle.auc_named.proofs.own_lines.own_job.Given as goal

abbrev pub invariant-loop-line : goal.invariant-loop-line
invariant-loop-line l = record {
  own : All (IsOwnLine (length l.places)) l.own;
  same : map (line_of l.places) l.own ≡ take l.line-index l.job;
}
