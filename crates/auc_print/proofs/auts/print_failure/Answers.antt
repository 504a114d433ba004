-- The line is that of the subscriber's row.
use Rattle.std.proofs.Common.{◌≡◌, ap, List, Some, slice_get, subst}
use Rattle.auc_subs.specs.declared.row.Row.{Row}
use Rattle.auc_subs.specs.Setting.{Setting}
use Rattle.auc_print.proofs.PieceLemmas.{failure_printed}
use Rattle.auc_print.proofs.auts.print_failure.Goals as goal

pub returns : goal.returns
returns c =
    let at = subst (λ (rows : List Row). slice_get rows c.args.sub ≡ Some c.row.result.now) (ap (λ (s : Setting). s.rows) c.set.view_is) c.row.ensures.place in
    failure_printed c.print_line.result c.args.out.now c.print_line.new.out c.args.set.now.rows c.args.sub c.row.result.now c.args.rand c.in-Some.rand c.args.sqn_ms
    c.make_auts-auts.result at c.in-Some.is c.make_auts-auts.ensures c.print_line.ensures
