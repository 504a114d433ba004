use Rattle.std.proofs.Common.{List, ℕ, Option, sym, ap, ◌∙◌}
use Rattle.auc_ident.specs.Permanent.{username}
use Rattle.auc_peer.specs.Table.{context_named}
use Rattle.auc_reauth.specs.Server.{if_named}
use Rattle.auc_peer.proofs.reauth.named.Goals as goal

-- src/reauth.rt:32:1
pub returns-in-Some : goal.returns-in-Some
returns-in-Some c =
    c.if_named.ensures ∙ ap (λ (name : List ℕ). if_named name c.args.context) (c.username.ensures ∙ ap username c.as_slice.ensures)
    ∙ sym (ap (λ (o : Option (List ℕ)). context_named o c.args.context) c.in-Some.is)
