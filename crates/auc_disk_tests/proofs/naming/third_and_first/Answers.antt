use Rattle.std.proofs.Common.{◌≡◌, ◌++◌, ◌∷◌, [], All, Contains, subst, sym, arith}
use Rattle.std.proofs.lemmas.List.Elements.{All-nil, All-push, Contains-get_or}
use Rattle.auc_memory.specs.Identity.{Identity}
use Rattle.auc_disk_tests.proofs.naming.third_and_first.Goals as goal

pub returns-clause-among : goal.returns-clause-among
returns-clause-among g c =
    let third : Identity = c.index-all-2.result in
    let first : Identity = c.index-all-0.result in
    let there : Contains c.args.all.now third = subst (Contains c.args.all.now) (sym c.index-all-2.is) (Contains-get_or c.args.all.now 2 third (omega arith)) in
    let too : Contains c.args.all.now first = subst (Contains c.args.all.now) (sym c.index-all-0.is) (Contains-get_or c.args.all.now 0 first (omega arith)) in
    let one : All (Contains c.args.all.now) (third ∷ []) = All-push (Contains c.args.all.now) [] third (All-nil (Contains c.args.all.now)) there in
    let are : c.push-2.new.self.items ≡ third ∷ first ∷ [] = grind arith in
    subst (All (Contains c.args.all.now)) (sym are) (All-push (Contains c.args.all.now) (third ∷ []) first one too)
