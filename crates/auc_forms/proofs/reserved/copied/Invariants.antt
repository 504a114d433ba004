use Rattle.std.proofs.Common.{◌≡◌, ◌≤◌, take, All}
use Rattle.auc_forms.proofs.reserved.copied.Given as goal

abbrev pub invariant-loop-place : goal.invariant-loop-place
invariant-loop-place l = record { front : l.all.items ≡ take l.place l.limits.written; digits : All (λ limit. limit.imsi.digits ≤ 15) l.all.items }
