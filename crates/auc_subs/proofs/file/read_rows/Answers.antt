use Rattle.std.proofs.Common.{◌∙◌, arith}
use Rattle.std.proofs.lemmas.Grind.{common_steps}
use Rattle.csv.specs.Records.{fields_of}
use Rattle.auc_subs.specs.declared.refusal.SubsRefusal.TheVariants as refusal
use Rattle.auc_subs.proofs.FileLemmas.{row_put, row_refused, all_put}
use Rattle.auc_subs.proofs.file.read_rows.Goals as goal

pub loop-subs-preserved : goal.loop-subs-preserved
loop-subs-preserved c left before =
    let so_far = c.loop-subs.invariant left before in
    let went = rw c.if-branch.true at (c.in_ok-next_record.ensures so_far.0 so_far.1) in
    (went.0, went.2, so_far.2 ∙ row_put c.args.count c.loop-subs.subs c.put_record.new.subs so_far.0 went.0 (fields_of c.next_record.new.fields) went.1 c.in_ok-put_record.ensures.added)

pub returns-in_err-put_record-clause-refused : goal.returns-in_err-put_record-clause-refused
returns-in_err-put_record-clause-refused c left before number why is =
    let so_far = c.loop-subs.invariant left before in
    let went = rw c.if-branch.true at (c.in_ok-next_record.ensures so_far.0 so_far.1) in
    so_far.2 ∙ row_refused c.args.count c.loop-subs.subs (refusal.Row number why) so_far.0 went.0 (fields_of c.next_record.new.fields) went.1 (c.put_record.ensures.refused number why (grind (arith, common_steps)))

pub returns-clause-read : goal.returns-clause-read
returns-clause-read c left before =
    let so_far = c.loop-subs.invariant left before in
    so_far.2 ∙ all_put c.args.count c.loop-subs.subs so_far.0 (rw c.if-branch.false at (c.in_ok-next_record.ensures so_far.0 so_far.1))
