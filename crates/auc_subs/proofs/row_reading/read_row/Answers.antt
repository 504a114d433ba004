use Rattle.std.proofs.Common.{rules}
use Rattle.auc_subs.proofs.row_reading.read_row.Goals as goal

pub returns-clause-row : goal.returns-clause-row
returns-clause-row c = record {
  identity = search rules;
  key = search rules;
  operator = search rules;
  management = search rules;
  management_bytes = search rules;
  few = search rules;
  limit = search rules;
  drawn = search rules;
  accepted = search rules;
}
