use Rattle.std.proofs.Common.{drop, length}
use Rattle.auc_attr.specs.Spelling.{spelling}
use Rattle.auc_attr.proofs.WritingLemmas.{IsCountedTo}
use Rattle.auc_attr.proofs.attr_list.AttrList.size.Given as goal

abbrev pub invariant-loop-attr : goal.invariant-loop-attr
invariant-loop-attr l = IsCountedTo l.size (drop l.attr-index l.attr-items) (length (spelling l.self))
