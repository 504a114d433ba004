use Rattle.auc_subs.proofs.FileLemmas.{went_on}
use Rattle.csv.specs.Records.{fields_of}
use Rattle.auc_subs.proofs.file.next_record.Goals as goal

pub returns : goal.returns
returns c left before =
    went_on c.args.file.now c.read_byte_record.new.self left c.in-Ok.found (fields_of c.read_byte_record.new.row) before (c.in-Ok.ensures.reads before.untrimmed before.ready) (c.in-Ok.ensures.ready before.untrimmed)
