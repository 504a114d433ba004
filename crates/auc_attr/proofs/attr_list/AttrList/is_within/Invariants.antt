use Rattle.std.proofs.Common.{drop, length}
use Rattle.auc_attr.specs.Spelling.{spelling}
use Rattle.auc_attr.proofs.WritingLemmas.{IsLeftTo}
use Rattle.auc_attr.proofs.attr_list.AttrList.is_within.Given as goal

abbrev pub invariant-loop-attr : goal.invariant-loop-attr
invariant-loop-attr l = IsLeftTo l.left (drop l.attr-index l.attr-items) l.most (length (spelling l.self))
