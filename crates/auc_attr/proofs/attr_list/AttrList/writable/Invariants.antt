use Rattle.std.proofs.Common.{drop}
use Rattle.auc_attr.proofs.WritingLemmas.{IsJudgedTo}
use Rattle.auc_attr.specs.Spelling.{writable}
use Rattle.auc_attr.proofs.attr_list.AttrList.writable.Given as goal

abbrev pub invariant-loop-attr : goal.invariant-loop-attr
invariant-loop-attr l = IsJudgedTo l.seen (drop l.attr-index l.attr-items) (writable l.self)
