use Rattle.std.proofs.Common.{◌+◌, ◌≤◌, ◌∙◌, List, ℕ, ap, length, subst, sym}
use Rattle.auc_sites.specs.Network.{after_reply, with_last}
use Rattle.auc_sites.specs.SiteNet.{NetState, after_new_grant}
use Rattle.auc_sites.specs.declared.master.Reply.TheVariants as reply
use Rattle.auc_world.specs.Given.{Before}
use Rattle.auc_record.specs.declared.record.LineRecord.{LineRecord}
use Rattle.auc_record.specs.declared.sites.SitesOutcome.TheVariants as outcome
use Rattle.auc_jobs.specs.InnerSites.{GrantDoes, IsLease}
use Rattle.auc_jobs.proofs.SiteLemmas.{grant_granted, grant_refused, lease_of_line}
use Rattle.auc_jobs.proofs.WorkerLemmas.{also_serves}
use Rattle.auc_jobs.proofs.worker.Worker.grant.Goals as goal

pub returns-then-count-eq0-clause-served : goal.returns-then-count-eq0-clause-served
returns-then-count-eq0-clause-served g c = λ w same. (
  with_last w w.last,
  same,
  also_serves g.C.Centre.kept g.C.Centre.goes c.args.self.now c.lease.new.self (λ (lines : Before) (drawn : List LineRecord). IsLease c.args.self.now.set c.sub.result c.size.result c.in_ok-lease.lease drawn)
      (λ (lines : Before) (drawn : List LineRecord). GrantDoes c.args.self.now.set c.args.line.now c.args.request outcome.Refused w drawn (with_last w w.last))
      (λ lines drawn is.
      grant_refused c.args.self.now.set c.args.line.now c.args.request w c.in_ok-lease.lease drawn (subst (λ (n : ℕ). 1 ≤ n) c.size.ensures.value c.size.ensures.first) (sym c.len-count.ensures.value ∙ c.if-count-eq0.true)
      (lease_of_line c.args.self.now.set c.args.line.now c.sub.result c.size.result c.in_ok-lease.lease drawn c.sub.ensures c.size.ensures.value is)) c.in_ok-lease.ensures.drawn,
)

pub returns-clause-served : goal.returns-clause-served
returns-clause-served g c = λ w same. (
  after_reply w (reply.Granted (record { request = c.args.request; lease = c.in_ok-lease.lease })),
  c.in_ok-sent.ensures.after ∙ ap (λ (n : NetState). after_new_grant n (record { request = c.args.request; lease = c.in_ok-lease.lease })) same,
  also_serves g.C.Centre.kept g.C.Centre.goes c.args.self.now c.lease.new.self (λ (lines : Before) (drawn : List LineRecord). IsLease c.args.self.now.set c.sub.result c.size.result c.in_ok-lease.lease drawn)
      (λ (lines : Before) (drawn : List LineRecord).
      GrantDoes c.args.self.now.set c.args.line.now c.args.request (outcome.Granted c.len-count.result c.in_ok-sent.sent) w drawn
      (after_reply w (reply.Granted (record { request = c.args.request; lease = c.in_ok-lease.lease }))))
      (λ lines drawn is.
      grant_granted c.args.self.now.set c.args.line.now c.args.request w c.in_ok-lease.lease c.len-count.result c.in_ok-sent.sent drawn (λ none. c.if-count-eq0.false (c.len-count.ensures.value ∙ none))
      c.len-count.ensures.value (c.in_ok-sent.ensures.sent ∙ ap (λ (n : NetState). length n.packets + 1) same)
      (lease_of_line c.args.self.now.set c.args.line.now c.sub.result c.size.result c.in_ok-lease.lease drawn c.sub.ensures c.size.ensures.value is)) c.in_ok-lease.ensures.drawn,
)
