use Rattle.std.proofs.Common.{◌≡◌, ◌≢◌, ◌<◌, ℕ, List, All, get_or, length, sym, ◌∙◌, ap, subst, arith}
use Rattle.std.specs.Prelude.{AllPairs, Err, None, slice_index}
use Rattle.std.proofs.lemmas.Grind.{common_steps}
use Rattle.auc_memory.specs.Identity.{Identity}
use Rattle.auc_draw.specs.Values.{KeeperValue}
use Rattle.auc_keeper.specs.Keeper.{MayRise, Since}
use Rattle.auc_keeper.proofs.GroupLemmas.{set_other}
use Rattle.auc_keeper.proofs.KeeperLemmas.{group_each, group_limits, group_since, group_stopped_since, not_failed, ok_err}
use Rattle.auc_keeper.proofs.keeper.Keeper.reserve_all.Goals as goal

pub invariant_of-self : goal.invariant_of-self
invariant_of-self g c =
    let subs : All (λ (item : ℕ × ℕ). (item.0 < length c.args.book.now.openings) × (item.0 < length c.self.inside.journal.imsis)) c.args.items.now = rw (← c.self.view_is) at c.requires.subs in
    let rise : All (λ (item : ℕ × ℕ). MayRise c.self.inside.pass item.0 item.1) c.args.items.now = rw (← c.self.view_is) at c.requires.limits in
    record {
      differ = subst (λ (l : List Identity). AllPairs (λ a b. a ≢ b) l) (sym c.append_group.ensures.subscribers) c.self.invariant.differ;
      limits =
          ap (λ (p : KeeperValue). p.limits) c.raise_all.ensures
          ∙ group_limits (record { journal = c.self.inside.journal; pass = c.self.inside.pass }) c.append_group.new.self c.args.items.now c.self.invariant.differ c.self.invariant.limits c.requires.differ
          (λ j d more. (subs j d more).1) rise c.append_group.ensures.subscribers c.in-Ok.ensures.limits;
      same = ap (λ (p : KeeperValue). p.stop) c.raise_all.ensures ∙ c.self.invariant.same;
      ready = λ none. not_failed c.append_group.new.self.failed c.append_group.result _ _ c.in-Ok.is c.append_group.ensures.failed;
    }

pub returns-in-Ok-clause-answers : goal.returns-in-Ok-clause-answers
returns-in-Ok-clause-answers g c =
    let subs : All (λ (item : ℕ × ℕ). (item.0 < length c.args.book.now.openings) × (item.0 < length c.self.inside.journal.imsis)) c.args.items.now = rw (← c.self.view_is) at c.requires.subs in
    let rise : All (λ (item : ℕ × ℕ). MayRise c.self.inside.pass item.0 item.1) c.args.items.now = rw (← c.self.view_is) at c.requires.limits in
    let each = group_each (record { journal = c.self.inside.journal; pass = c.self.inside.pass }) c.append_group.new.self c.args.items.now c.self.invariant.differ c.self.invariant.limits c.requires.differ
    (λ j d more. (subs j d more).1) rise c.append_group.ensures.subscribers c.in-Ok.ensures.limits in
    rw (← c.self.view_is)
    (record {
      limits = c.in-Ok.ensures.limits;
      place = c.in-Ok.ensures.place;
      all = c.append_group.ensures.all;
      imsis = c.append_group.ensures.subscribers;
      ready = not_failed c.append_group.new.self.failed c.append_group.result _ _ c.in-Ok.is c.append_group.ensures.failed;
      raised = c.raise_all.ensures;
      each = λ j d more. ((each j d more).0, ap (λ (p : KeeperValue). slice_index p.limits (get_or c.args.items.now j d).0) c.raise_all.ensures ∙ (each j d more).1);
    })

pub returns-in-Ok-clause-others : goal.returns-in-Ok-clause-others
returns-in-Ok-clause-others g c = rw (← c.self.view_is)
    (λ sub others. ap (λ (p : KeeperValue). slice_index p.limits sub) c.raise_all.ensures ∙ set_other c.args.items.now c.self.inside.pass.limits sub others)

pub returns-in-Ok-clause-since : goal.returns-in-Ok-clause-since
returns-in-Ok-clause-since g c =
    let subs : All (λ (item : ℕ × ℕ). (item.0 < length c.args.book.now.openings) × (item.0 < length c.self.inside.journal.imsis)) c.args.items.now = rw (← c.self.view_is) at c.requires.subs in
    let rise : All (λ (item : ℕ × ℕ). MayRise c.self.inside.pass item.0 item.1) c.args.items.now = rw (← c.self.view_is) at c.requires.limits in
    let running : c.self.inside.pass.stop ≡ None = rw (← c.self.view_is) at c.requires.running in
    rw (← c.self.view_is)
    (λ opening was.
    subst (λ (p : KeeperValue). Since g.D.Disk.seen g.D.Disk.may_leave g.D.Disk.faults g.D.Disk.moment g.D.Disk.left_since opening (record { journal = c.append_group.new.self; pass = p })) (sym c.raise_all.ensures)
    (group_since g.D.Disk.seen g.D.Disk.may_leave g.D.Disk.faults g.D.Disk.moment g.D.Disk.left_since opening (record { journal = c.self.inside.journal; pass = c.self.inside.pass }) c.append_group.new.self c.args.items.now
    running c.self.invariant.differ c.self.invariant.limits c.requires.differ (λ j d more. (subs j d more).1) rise c.append_group.ensures.all c.append_group.ensures.subscribers
    (not_failed c.append_group.new.self.failed c.append_group.result _ _ c.in-Ok.is c.append_group.ensures.failed)
    (c.append_group.ensures.quiet (λ is. ok_err c.append_group.result _ _ c.in-Ok.is is)) c.in-Ok.ensures.limits c.append_group.ensures.bounded c.append_group.ensures.any_moment was))

pub returns-in-Err-StoreFault-clause-since : goal.returns-in-Err-StoreFault-clause-since
returns-in-Err-StoreFault-clause-since g c =
    let subs : All (λ (item : ℕ × ℕ). (item.0 < length c.args.book.now.openings) × (item.0 < length c.self.inside.journal.imsis)) c.args.items.now = rw (← c.self.view_is) at c.requires.subs in
    let rise : All (λ (item : ℕ × ℕ). MayRise c.self.inside.pass item.0 item.1) c.args.items.now = rw (← c.self.view_is) at c.requires.limits in
    let running : c.self.inside.pass.stop ≡ None = rw (← c.self.view_is) at c.requires.running in
    rw (← c.self.view_is)
    (λ opening was.
    subst (λ (p : KeeperValue). Since g.D.Disk.seen g.D.Disk.may_leave g.D.Disk.faults g.D.Disk.moment g.D.Disk.left_since opening (record { journal = c.append_group.new.self; pass = p })) (sym c.stop.ensures)
    (group_stopped_since g.D.Disk.seen g.D.Disk.may_leave g.D.Disk.faults g.D.Disk.moment g.D.Disk.left_since opening (record { journal = c.self.inside.journal; pass = c.self.inside.pass }) c.append_group.new.self c.args.items.now
    running (λ j d more. (subs j d more).1) rise c.append_group.ensures.all c.append_group.ensures.subscribers c.in-Err-StoreFault.ensures.kept.0
    (c.append_group.ensures.failed.1 (c.in-Err-StoreFault.is ∙ ap Err c.in-Err-StoreFault.field-0-is)) (grind (arith, common_steps))
    c.append_group.ensures.bounded c.append_group.ensures.any_moment was))
