use Rattle.std.proofs.Common.{length, ◌≤◌, ◌+◌, List, ℕ, sym, subst}
use Rattle.std.proofs.Math.Nat.{le_trans}
use Rattle.auc_peer.proofs.MessageLemmas.{identified_may_of, identified_size_of}
use Rattle.auc_peer.proofs.messages.identified.Goals as goal

pub put-requires-clause-may : goal.put-requires-clause-may
put-requires-clause-may c = identified_may_of c.args.heading.method c.args.heading.id c.args.text c.one.result c.requires.short c.one.ensures

pub put-requires-clause-left : goal.put-requires-clause-left
put-requires-clause-left c = le_trans (identified_size_of c.args.heading.method c.args.heading.id c.args.text c.one.result c.one.ensures) c.requires.left

pub returns-clause-size : goal.returns-clause-size
returns-clause-size c =
    subst (λ (bytes : List ℕ). length bytes ≤ 15 + length c.args.text) (sym c.put.ensures)
    (identified_size_of c.args.heading.method c.args.heading.id c.args.text c.one.result c.one.ensures)
