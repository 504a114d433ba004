-- Each reply is that of what the master made of the request.
use Rattle.std.proofs.Common.{◌≡◌, ℕ, List, [], Option, None, refl, sym, subst, ◌∙◌}
use Rattle.auc_vector.specs.declared.centre.CentreRefusal.{CentreRefusal}
use Rattle.auc_sites.specs.declared.grant.Grant.{Grant}
use Rattle.auc_sites.specs.declared.master.Judged.{Judged}
use Rattle.auc_sites.specs.declared.master.Judged.TheVariants.{Again, Old, New}
use Rattle.auc_sites.specs.declared.master.Reply.{Reply}
use Rattle.auc_sites.specs.declared.request.Request.{Request}
use Rattle.auc_sites.specs.Drawing.{Goes, KeptWords, Top}
use Rattle.auc_sites.specs.Master.{judgement, last_grant}
use Rattle.auc_sites.specs.Reply.{AsksBy, Replies, last_after, reply_by}
use Rattle.auc_sites.proofs.master.Master.on_request.Goals as goal

replies_by : {S : Type 0} (goes : Goes S) (kept : KeptWords S) (top : Top S) (sub size : ℕ)
    (old new : List (Option Grant)) (r : Request) (j : Judged) (numbers : List ℕ) (end : Option CentreRefusal) (reply : Reply) (before after : S)
    → judgement (last_grant old r) r ≡ j → AsksBy goes kept top sub size j numbers end before after → reply ≡ reply_by j r numbers end → new ≡ last_after old reply
    → Replies goes kept top sub size old r before reply new after
replies_by goes kept top sub size old new r j numbers end reply before after is asked reply_is last_is = record {
  numbers = numbers;
  end = end;
  asked = subst (λ (k : Judged). AsksBy goes kept top sub size k numbers end before after) (sym is) asked;
  reply_is = subst (λ (k : Judged). reply ≡ reply_by k r numbers end) (sym is) reply_is;
  last_is = last_is;
}

pub returns-in-Again-clause-reply : goal.returns-in-Again-clause-reply
returns-in-Again-clause-reply g c =
    replies_by g.C.Centre.goes g.C.Centre.kept g.C.Centre.top c.args.sub c.args.size c.args.self.now c.args.self.now c.args.r (Again c.in-Again.grant) [] None _ _ _
    (sym c.judge.ensures ∙ c.in-Again.is) (refl, refl, refl) refl refl

pub returns-in-Old-clause-reply : goal.returns-in-Old-clause-reply
returns-in-Old-clause-reply g c =
    replies_by g.C.Centre.goes g.C.Centre.kept g.C.Centre.top c.args.sub c.args.size c.args.self.now c.args.self.now c.args.r (Old c.in-Old.last) [] None _ _ _
    (sym c.judge.ensures ∙ c.in-Old.is) (refl, refl, refl) refl refl

pub returns-in-New-clause-reply : goal.returns-in-New-clause-reply
returns-in-New-clause-reply g c =
    replies_by g.C.Centre.goes g.C.Centre.kept g.C.Centre.top c.args.sub c.args.size c.args.self.now _ c.args.r New c.draw_lease-drawing.result.lease c.draw_lease-drawing.result.end _ _ _
    (sym c.judge.ensures ∙ c.in-New.is) c.draw_lease-drawing.ensures.drew c.grant_drawn.ensures.value c.grant_drawn.ensures.after
