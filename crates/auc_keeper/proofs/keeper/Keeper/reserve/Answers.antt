use Rattle.std.proofs.Common.{◌≡◌, ◌≢◌, ◌≤◌, ◌<◌, ℕ, List, length, refl, sym, ◌∙◌, ap, subst, arith}
use Rattle.std.specs.Prelude.{AllPairs, Err, None, slice_index, slice_set}
use Rattle.std.proofs.lemmas.Grind.{common_steps, get_or-set_at}
use Rattle.std.proofs.lemmas.List.{length-map}
use Rattle.auc_memory.specs.Identity.{Identity}
use Rattle.auc_draw.specs.Values.{KeeperValue}
use Rattle.auc_journal.specs.Image.{reserved_in}
use Rattle.auc_journal.specs.Journal.{reserved_at}
use Rattle.auc_journal.proofs.Facts.{limits_raised, reserved_raised}
use Rattle.auc_keeper.specs.Keeper.{Since}
use Rattle.auc_keeper.proofs.KeeperLemmas.{full_place, not_failed, ok_err, reserved_since, stopped_since}
use Rattle.auc_keeper.proofs.keeper.Keeper.reserve.Goals as goal

pub invariant_of-self : goal.invariant_of-self
invariant_of-self g c =
    let there : c.args.sub < length c.self.inside.journal.imsis = rw (← c.self.view_is) at c.requires.sub.1 in
    let above : reserved_at c.self.inside.journal c.args.sub < c.args.n = rw (← c.self.view_is) at c.requires.above in
    let less : reserved_at c.self.inside.journal c.args.sub < c.next_limit-limit.result = omega (arith, above, c.requires.number, c.next_limit-limit.ensures) in
    record {
      differ = subst (λ (l : List Identity). AllPairs (λ a b. a ≢ b) l) (sym c.append.ensures.subscribers) c.self.invariant.differ;
      limits =
          ap (λ (p : KeeperValue). p.limits) c.raise.ensures
          ∙ ap (λ (l : List ℕ). slice_set l c.args.sub c.next_limit-limit.result) c.self.invariant.limits
          ∙ sym (limits_raised c.self.inside.journal c.append.new.self c.args.sub c.next_limit-limit.result c.append.ensures.subscribers c.in-Ok.ensures.limits c.self.invariant.differ there less);
      same = ap (λ (p : KeeperValue). p.stop) c.raise.ensures ∙ c.self.invariant.same;
      ready = λ none. not_failed c.append.new.self.failed c.append.result _ _ c.in-Ok.is c.append.ensures.failed;
    }

pub returns-in-Ok-clause-told : goal.returns-in-Ok-clause-told
returns-in-Ok-clause-told g c =
    let there : c.args.sub < length c.self.inside.journal.imsis = rw (← c.self.view_is) at c.requires.sub.1 in
    let above : reserved_at c.self.inside.journal c.args.sub < c.args.n = rw (← c.self.view_is) at c.requires.above in
    let less : reserved_at c.self.inside.journal c.args.sub < c.next_limit-limit.result = omega (arith, above, c.requires.number, c.next_limit-limit.ensures) in
    let size : length c.self.inside.pass.limits ≡ length c.self.inside.journal.imsis = ap length c.self.invariant.limits ∙ length-map c.self.inside.journal.imsis (reserved_in c.self.inside.journal.limits) in (
      omega (arith, c.requires.number, c.next_limit-limit.ensures),
      ap (λ (p : KeeperValue). slice_index p.limits c.args.sub) c.raise.ensures
          ∙ get_or-set_at c.self.inside.pass.limits c.args.sub c.args.sub c.next_limit-limit.result 0 refl (omega (arith, size, there)),
      reserved_raised c.self.inside.journal c.append.new.self c.args.sub c.next_limit-limit.result c.append.ensures.subscribers c.in-Ok.ensures.limits less,
    )

pub returns-in-Ok-clause-since : goal.returns-in-Ok-clause-since
returns-in-Ok-clause-since g c =
    let there : c.args.sub < length c.self.inside.journal.imsis = rw (← c.self.view_is) at c.requires.sub.1 in
    let above : reserved_at c.self.inside.journal c.args.sub < c.args.n = rw (← c.self.view_is) at c.requires.above in
    let less : reserved_at c.self.inside.journal c.args.sub < c.next_limit-limit.result = omega (arith, above, c.requires.number, c.next_limit-limit.ensures) in
    let running : c.self.inside.pass.stop ≡ None = rw (← c.self.view_is) at c.requires.running in
    let near : c.args.n ≤ slice_index c.self.inside.pass.seen c.args.sub = rw (← c.self.view_is) at c.requires.seen in
    rw (← c.self.view_is)
    (λ opening was.
    subst (λ (p : KeeperValue). Since g.D.Disk.seen g.D.Disk.may_leave g.D.Disk.faults g.D.Disk.moment g.D.Disk.left_since opening (record { journal = c.append.new.self; pass = p })) (sym c.raise.ensures)
    (reserved_since g.D.Disk.seen g.D.Disk.may_leave g.D.Disk.faults g.D.Disk.moment g.D.Disk.left_since opening (record { journal = c.self.inside.journal; pass = c.self.inside.pass }) c.append.new.self c.args.sub c.next_limit-limit.result
    running c.self.invariant.differ there less (omega (arith, near, c.next_limit-limit.ensures)) c.append.ensures.all c.append.ensures.subscribers (not_failed c.append.new.self.failed c.append.result _ _ c.in-Ok.is c.append.ensures.failed)
    (c.append.ensures.quiet (λ is. ok_err c.append.result _ _ c.in-Ok.is is)) c.in-Ok.ensures.limits c.append.ensures.bounded c.append.ensures.any_moment was))

pub returns-in-Err-clause-since : goal.returns-in-Err-clause-since
returns-in-Err-clause-since g c =
    let there : c.args.sub < length c.self.inside.journal.imsis = rw (← c.self.view_is) at c.requires.sub.1 in
    let running : c.self.inside.pass.stop ≡ None = rw (← c.self.view_is) at c.requires.running in
    let near : c.args.n ≤ slice_index c.self.inside.pass.seen c.args.sub = rw (← c.self.view_is) at c.requires.seen in
    let above : reserved_at c.self.inside.journal c.args.sub < c.args.n = rw (← c.self.view_is) at c.requires.above in
    rw (← c.self.view_is)
    (λ opening was.
    subst (λ (p : KeeperValue). Since g.D.Disk.seen g.D.Disk.may_leave g.D.Disk.faults g.D.Disk.moment g.D.Disk.left_since opening (record { journal = c.append.new.self; pass = p })) (sym c.stop.ensures)
    (stopped_since g.D.Disk.seen g.D.Disk.may_leave g.D.Disk.faults g.D.Disk.moment g.D.Disk.left_since opening (record { journal = c.self.inside.journal; pass = c.self.inside.pass }) c.append.new.self c.args.sub c.next_limit-limit.result c.cause_of-why.result
    running there (omega (arith, near, c.next_limit-limit.ensures)) (omega (arith, above, near)) c.append.ensures.all c.append.ensures.subscribers c.in-Err.ensures.kept.0
    (λ is. c.cause_of-why.ensures.fault.1 (grind (arith, common_steps)), λ is. c.append.ensures.failed.1 (c.in-Err.is ∙ ap Err (c.cause_of-why.ensures.fault.0 is)))
    (λ is. grind (arith, common_steps))
    (λ other. c.append.ensures.quiet (λ is. grind (arith, common_steps)))
    (λ is. full_place c.in-Err.refusal c.append.new.self.place (c.cause_of-why.ensures.full is) (λ len full. grind (arith, common_steps)))
    c.append.ensures.bounded c.append.ensures.any_moment was))
