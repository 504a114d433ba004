-- The test stops where an entry can't come, and ends where the entries lead.
use Rattle.std.proofs.Common.{sym, ◌∙◌, eq-eqb}
use Rattle.std.proofs.lemmas.Bool.{eqb-true}
use Rattle.auc_history.proofs.Walk.{no_history, legal_where_it_ends}
use Rattle.auc_history.proofs.legal.is_legal.Goals as goal

pub returns-in-None : goal.returns-in-None
returns-in-None c = (
  λ no. absurd (let never : ⊥ = cc in never),
  λ legal. absurd (no_history c.args.top c.args.opening c.loop-entry.word c.args.closing c.loop-entry.entry-index _ c.args.entries.now
      c.loop-entry-test.true (sym c.after.ensures ∙ c.in-None.is) c.loop-entry.invariant legal),
)

pub returns : goal.returns
returns c =
    let same = legal_where_it_ends c.args.top c.args.opening c.loop-entry.word c.args.closing c.loop-entry.entry-index c.args.entries.now c.loop-entry-test.false c.loop-entry.invariant in
    (λ yes. same.0 (eqb-true _ _ yes), λ legal. eq-eqb _ _ (same.1 legal))
