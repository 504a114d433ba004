use Rattle.std.proofs.Common.{◌≡◌, ◌≢◌, ℕ, [], All, Ok, length}
use Rattle.auc_vector.specs.Centre.{AnswersNext}
use Rattle.auc_sites.specs.Drawing.{entries_of}
use Rattle.auc_sites.proofs.drawing.draw_lease.Given as goal

abbrev pub invariant-loop-i : goal.invariant-loop-i
invariant-loop-i g l = record {
  count : length l.lease ≡ l._i;
  given : All (λ n. AnswersNext (g.C.Centre.top l.initial.centre l.sub) (g.C.Centre.kept l.initial.centre l.sub) (Ok n)) l.lease;
  own : g.C.Centre.goes l.initial.centre l.sub (entries_of l.lease) [] l.centre;
  others : (i : ℕ) → i ≢ l.sub → g.C.Centre.goes l.initial.centre i [] [] l.centre;
  here : g.C.Centre.kept l.centre l.sub ≡ g.C.Centre.kept l.initial.centre l.sub;
  still : (i : ℕ) → i ≢ l.sub → g.C.Centre.kept l.centre i ≡ g.C.Centre.kept l.initial.centre i;
  subs : g.C.Centre.subs l.centre ≡ g.C.Centre.subs l.initial.centre;
  top : (i : ℕ) → g.C.Centre.top l.centre i ≡ g.C.Centre.top l.initial.centre i;
  name : g.C.Centre.name l.centre ≡ g.C.Centre.name l.initial.centre;
}
