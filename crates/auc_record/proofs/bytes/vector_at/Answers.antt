use Rattle.auc_record.proofs.VectorLemmas.{vector_of_row}
use Rattle.auc_record.proofs.bytes.vector_at.Goals as goal

pub returns : goal.returns
returns c = record {
  row = vector_of_row c.args.set.now.key c.args.set.now.rows c.args.sub c.args.n c.vectors_of.result c.vector_of.result c.vectors_of.ensures c.vector_of.ensures.value;
}
