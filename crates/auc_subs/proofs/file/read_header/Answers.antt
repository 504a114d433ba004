use Rattle.std.proofs.Common.{sym, ◌∙◌}
use Rattle.csv.specs.Records.{fields_of}
use Rattle.auc_subs.specs.declared.refusal.SubsRefusal.TheVariants as refusal
use Rattle.auc_subs.specs.declared.refusal.SubsWhy.TheVariants as why
use Rattle.auc_subs.proofs.FileLemmas.{header_count, header_read, header_wrong, header_missing, same_refusal}
use Rattle.auc_subs.proofs.file.read_header.Goals as goal
use Rattle.auc_subs.proofs.file.read_header.Goals.{else-branch-via-then-branch+else-is_header, else-branch-via-else-branch}

pub returns-then-is_header-clause-read : goal.returns-then-is_header-clause-read
returns-then-is_header-clause-read c left before =
    rw c.len.ensures (header_read c.next_record.new.file left (fields_of c.next_record.new.fields) (rw c.if-branch.true at (c.in_ok-next_record.ensures left before)) (sym c.is_header.ensures ∙ c.if-is_header.true))

pub returns-then-is_header-clause-count : goal.returns-then-is_header-clause-count
returns-then-is_header-clause-count c = rw c.len.ensures (header_count (fields_of c.next_record.new.fields) (sym c.is_header.ensures ∙ c.if-is_header.true))

pub returns-else-branch-clause-refused : goal.returns-else-branch-clause-refused
returns-else-branch-clause-refused c left before number why' is =
    elim c.else-branch.branch [
      | else-branch-via-then-branch+else-is_header w ↦ same_refusal _ (refusal.Row 0 why.Header) _ (header_wrong c.next_record.new.file left (fields_of c.next_record.new.fields) (rw w.if-branch.true at (c.in_ok-next_record.ensures left before)) (sym w.is_header.ensures ∙ w.if-is_header.false)) is
      | else-branch-via-else-branch w ↦ same_refusal _ (refusal.Row 0 why.Header) _ (header_missing left (rw w.if-branch.false at (c.in_ok-next_record.ensures left before))) is
    ]
