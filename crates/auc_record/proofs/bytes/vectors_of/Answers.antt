use Rattle.std.proofs.Common.{◌≡◌, List, ap, subst}
use Rattle.std.specs.Prelude.{slice_get, Some}
use Rattle.auc_subs.specs.declared.row.Row.{Row}
use Rattle.auc_subs.specs.Setting.{Setting}
use Rattle.auc_record.proofs.bytes.vectors_of.Goals as goal

pub returns : goal.returns
returns c =
    let rows : c.set.inside.subs.now ≡ c.args.set.now.rows = ap (λ (set : Setting). set.rows) c.set.view_is in
    let key : c.set.inside.rands.now ≡ c.args.set.now.key = ap (λ (set : Setting). set.key) c.set.view_is in
    record {
      row = c.row-row.result.now;
      there = subst (λ (rows : List Row). slice_get rows c.args.sub ≡ Some c.row-row.result.now) rows c.row-row.ensures.place;
      is_row = c.row-row.ensures.row;
      made = rw (← key, ← c.stream.ensures) c.new.ensures;
    }
