use Rattle.std.proofs.Common.{◌∙◌, arith}
use Rattle.std.proofs.lemmas.Grind.{common_steps}
use Rattle.auc_subs.specs.File.{records_of}
use Rattle.auc_subs.proofs.subscribers.Subscribers.read.Goals as goal

pub returns-in_err-count-clause-refused : goal.returns-in_err-count-clause-refused
returns-in_err-count-clause-refused c number why is =
    c.read_header.ensures.refused (records_of c.args.bytes.now) c.reader-file.ensures number why (grind (arith, common_steps))

pub returns-in_err-read_rows-clause-refused : goal.returns-in_err-read_rows-clause-refused
returns-in_err-read_rows-clause-refused c number why is =
    let header = c.in_ok-count.ensures.read (records_of c.args.bytes.now) c.reader-file.ensures in
    header.2 ∙ rw c.new-subs.ensures at (c.read_rows.ensures.refused header.0 header.1 number why (grind (arith, common_steps)))

pub returns-clause-read : goal.returns-clause-read
returns-clause-read c =
    let header = c.in_ok-count.ensures.read (records_of c.args.bytes.now) c.reader-file.ensures in
    header.2 ∙ rw c.new-subs.ensures at (c.in_ok-read_rows.ensures.read header.0 header.1)
