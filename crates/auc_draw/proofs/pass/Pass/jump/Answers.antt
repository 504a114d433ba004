use Rattle.std.proofs.Common.{◌≡◌, ℕ, ◌<◌, ◌≤◌, ◌-◌, List, length, slice_index, arith, ap, sym, ◌∙◌, subst}
use Rattle.auc_draw.specs.declared.pass.Jump.TheVariants.{Moved, Stood}
use Rattle.auc_draw.specs.Deeds.{entries_of}
use Rattle.auc_draw.specs.InnerPass.{Notes}
use Rattle.auc_draw.specs.InnerRule.{jump_entry, marks_in}
use Rattle.auc_draw.specs.Pass.{Jumps}
use Rattle.auc_draw.proofs.StepLemmas.{jumps_ok}
use Rattle.auc_draw.proofs.PassLemmas.{steps, kept_none, kept_some, unmarked_at, order_of, number_notes, jump_unmarked, jumps_moved, jumps_stood, jumps_kept, made_narrow}
use Rattle.auc_draw.proofs.pass.Pass.jump.Goals as goal

pub returns-then-mark-ne0-clause-jumps : goal.returns-then-mark-ne0-clause-jumps
returns-then-mark-ne0-clause-jumps c =
    let tops = c.self.inside.seat.me.0.tops in
    let marks = c.self.inside.marks.items in
    let deeds = c.self.inside.seat.me.0.own in
    let same = ap (λ h. h.id) c.self.view_is ∙ c.requires.own.0 ∙ sym (ap (λ b. b.id) c.book.view_is) in
    let known : c.args.sub < length c.self.inside.marks.items = omega (arith, c.self.invariant.sized, c.book.invariant.sized, ap (λ z. z.words) same, ap (λ b. length b.openings) c.book.view_is, c.requires.sub) in
    let own = ap (λ h. h.tops) c.self.view_is ∙ c.requires.own.1 in
    let kept = kept_some tops marks deeds c.args.sub c.index-mark.result.now c.self.invariant.notes known c.index-mark.ensures c.if-mark-ne0.true in
    let number = subst (λ (ts : List ℕ). c.args.to ≤ slice_index ts c.args.sub) (sym own) c.requires.number in
    subst (λ (ts : List ℕ). Jumps (slice_index ts c.args.sub) c.args.sub c.args.to c.args.self.now.deeds c.args.self.now.deeds (Stood (c.index-mark.result.now - 1))) own
    (jumps_kept (slice_index tops c.args.sub) c.args.self.now.deeds deeds c.args.sub c.args.to (c.index-mark.result.now - 1) kept (ap (λ h. h.deeds) c.self.view_is) number)

pub move_up-found-requires-clause-allowed : goal.move_up-found-requires-clause-allowed
move_up-found-requires-clause-allowed c =
    let tops = c.self.inside.seat.me.0.tops in
    let marks = c.self.inside.marks.items in
    let deeds = c.self.inside.seat.me.0.own in
    let same = ap (λ h. h.id) c.self.view_is ∙ c.requires.own.0 ∙ sym (ap (λ b. b.id) c.book.view_is) in
    let known : c.args.sub < length c.self.inside.marks.items = omega (arith, c.self.invariant.sized, c.book.invariant.sized, ap (λ z. z.words) same, ap (λ b. length b.openings) c.book.view_is, c.requires.sub) in
    let own = ap (λ h. h.tops) c.self.view_is ∙ c.requires.own.1 in
    let none = kept_none tops marks deeds c.args.sub c.index-mark.result.now c.self.invariant.notes known c.index-mark.ensures c.if-mark-ne0.false in
    let key = ap (λ b. b.tops) c.book.view_is in
    let held = ap (λ k. k.tops.items) c.book.invariant.key in
    let shared = own ∙ sym key ∙ sym held in
    jumps_ok _ _ _ _ _ _ _ _ (omega (arith, ap (λ k. length k.openings.items) c.book.invariant.key, ap (λ b. length b.openings) c.book.view_is, c.requires.sub))
    (subst (λ (ts : List ℕ). c.args.to ≤ slice_index ts c.args.sub) (sym key ∙ sym held) c.requires.number) c.self.invariant.active
    (subst (λ (ts : List ℕ). marks_in (slice_index ts c.args.sub) (entries_of c.args.sub deeds) ≡ 0) shared (unmarked_at (slice_index tops c.args.sub) deeds c.args.sub none))

pub invariant_of-self : goal.invariant_of-self
invariant_of-self c =
    let tops = c.self.inside.seat.me.0.tops in
    let marks = c.self.inside.marks.items in
    let deeds = c.self.inside.seat.me.0.own in
    let same = ap (λ h. h.id) c.self.view_is ∙ c.requires.own.0 ∙ sym (ap (λ b. b.id) c.book.view_is) in
    let known : c.args.sub < length c.self.inside.marks.items = omega (arith, c.self.invariant.sized, c.book.invariant.sized, ap (λ z. z.words) same, ap (λ b. length b.openings) c.book.view_is, c.requires.sub) in
    let none = kept_none tops marks deeds c.args.sub c.index-mark.result.now c.self.invariant.notes known c.index-mark.ensures c.if-mark-ne0.false in
    let found = c.move_up-found.result in
    let new = c.move_up-found.new.seat.me.0.own in
    let stepped = steps tops marks c.self.inside.seat.me c.move_up-found.new.seat.me c.args.sub (jump_entry c.args.to c.move_up-found.result) c.self.invariant.notes known none c.move_up-found.ensures.adds in
    record {
      sized = c.self.invariant.sized ∙ ap (λ z. z.words) (sym c.move_up-found.ensures.own);
      notes = subst (λ (ts : List ℕ). Notes ts marks new) (sym (ap (λ m. m.0.tops) c.move_up-found.ensures.adds.0)) (number_notes tops marks deeds c.args.sub (jump_entry c.args.to c.move_up-found.result) new stepped (jump_unmarked (slice_index tops c.args.sub) c.args.to found));
      active = ap (λ m. m.0.active) c.move_up-found.ensures.adds.0 ∙ c.self.invariant.active;
      bare = ap (λ m. m.1) c.move_up-found.ensures.adds.0 ∙ c.self.invariant.bare;
      narrow = λ none. made_narrow deeds c.args.sub (jump_entry c.args.to c.move_up-found.result) new stepped.is (c.self.invariant.narrow none);
    }

pub returns-then-found-to-clause-jumps : goal.returns-then-found-to-clause-jumps
returns-then-found-to-clause-jumps c =
    let tops = c.self.inside.seat.me.0.tops in
    let marks = c.self.inside.marks.items in
    let deeds = c.self.inside.seat.me.0.own in
    let same = ap (λ h. h.id) c.self.view_is ∙ c.requires.own.0 ∙ sym (ap (λ b. b.id) c.book.view_is) in
    let known : c.args.sub < length c.self.inside.marks.items = omega (arith, c.self.invariant.sized, c.book.invariant.sized, ap (λ z. z.words) same, ap (λ b. length b.openings) c.book.view_is, c.requires.sub) in
    let own = ap (λ h. h.tops) c.self.view_is ∙ c.requires.own.1 in
    let none = kept_none tops marks deeds c.args.sub c.index-mark.result.now c.self.invariant.notes known c.index-mark.ensures c.if-mark-ne0.false in
    let found = c.move_up-found.result in
    let new = c.move_up-found.new.seat.me.0.own in
    let stepped = steps tops marks c.self.inside.seat.me c.move_up-found.new.seat.me c.args.sub (jump_entry c.args.to c.move_up-found.result) c.self.invariant.notes known none c.move_up-found.ensures.adds in
    subst (λ (ts : List ℕ). Jumps (slice_index ts c.args.sub) c.args.sub c.args.to c.args.self.now.deeds new (Moved found)) own
    (jumps_moved tops marks c.args.self.now.deeds deeds c.args.sub c.args.to found new stepped (ap (λ h. h.deeds) c.self.view_is) c.if-found-to.true)

pub returns-then-found-to-clause-ordered : goal.returns-then-found-to-clause-ordered
returns-then-found-to-clause-ordered c =
    let tops = c.self.inside.seat.me.0.tops in
    let marks = c.self.inside.marks.items in
    let deeds = c.self.inside.seat.me.0.own in
    let same = ap (λ h. h.id) c.self.view_is ∙ c.requires.own.0 ∙ sym (ap (λ b. b.id) c.book.view_is) in
    let known : c.args.sub < length c.self.inside.marks.items = omega (arith, c.self.invariant.sized, c.book.invariant.sized, ap (λ z. z.words) same, ap (λ b. length b.openings) c.book.view_is, c.requires.sub) in
    let none = kept_none tops marks deeds c.args.sub c.index-mark.result.now c.self.invariant.notes known c.index-mark.ensures c.if-mark-ne0.false in
    let found = c.move_up-found.result in
    let new = c.move_up-found.new.seat.me.0.own in
    let stepped = steps tops marks c.self.inside.seat.me c.move_up-found.new.seat.me c.args.sub (jump_entry c.args.to c.move_up-found.result) c.self.invariant.notes known none c.move_up-found.ensures.adds in
    order_of tops marks deeds c.args.sub (jump_entry c.args.to c.move_up-found.result) new stepped

pub invariant_of-self-2 : goal.invariant_of-self-2
invariant_of-self-2 c =
    let tops = c.self.inside.seat.me.0.tops in
    let marks = c.self.inside.marks.items in
    let deeds = c.self.inside.seat.me.0.own in
    let same = ap (λ h. h.id) c.self.view_is ∙ c.requires.own.0 ∙ sym (ap (λ b. b.id) c.book.view_is) in
    let known : c.args.sub < length c.self.inside.marks.items = omega (arith, c.self.invariant.sized, c.book.invariant.sized, ap (λ z. z.words) same, ap (λ b. length b.openings) c.book.view_is, c.requires.sub) in
    let none = kept_none tops marks deeds c.args.sub c.index-mark.result.now c.self.invariant.notes known c.index-mark.ensures c.if-mark-ne0.false in
    let found = c.move_up-found.result in
    let new = c.move_up-found.new.seat.me.0.own in
    let stepped = steps tops marks c.self.inside.seat.me c.move_up-found.new.seat.me c.args.sub (jump_entry c.args.to c.move_up-found.result) c.self.invariant.notes known none c.move_up-found.ensures.adds in
    record {
      sized = c.self.invariant.sized ∙ ap (λ z. z.words) (sym c.move_up-found.ensures.own);
      notes = subst (λ (ts : List ℕ). Notes ts marks new) (sym (ap (λ m. m.0.tops) c.move_up-found.ensures.adds.0)) (number_notes tops marks deeds c.args.sub (jump_entry c.args.to c.move_up-found.result) new stepped (jump_unmarked (slice_index tops c.args.sub) c.args.to found));
      active = ap (λ m. m.0.active) c.move_up-found.ensures.adds.0 ∙ c.self.invariant.active;
      bare = ap (λ m. m.1) c.move_up-found.ensures.adds.0 ∙ c.self.invariant.bare;
      narrow = λ none. made_narrow deeds c.args.sub (jump_entry c.args.to c.move_up-found.result) new stepped.is (c.self.invariant.narrow none);
    }

pub returns-clause-jumps : goal.returns-clause-jumps
returns-clause-jumps c =
    let tops = c.self.inside.seat.me.0.tops in
    let marks = c.self.inside.marks.items in
    let deeds = c.self.inside.seat.me.0.own in
    let same = ap (λ h. h.id) c.self.view_is ∙ c.requires.own.0 ∙ sym (ap (λ b. b.id) c.book.view_is) in
    let known : c.args.sub < length c.self.inside.marks.items = omega (arith, c.self.invariant.sized, c.book.invariant.sized, ap (λ z. z.words) same, ap (λ b. length b.openings) c.book.view_is, c.requires.sub) in
    let own = ap (λ h. h.tops) c.self.view_is ∙ c.requires.own.1 in
    let none = kept_none tops marks deeds c.args.sub c.index-mark.result.now c.self.invariant.notes known c.index-mark.ensures c.if-mark-ne0.false in
    let found = c.move_up-found.result in
    let new = c.move_up-found.new.seat.me.0.own in
    let stepped = steps tops marks c.self.inside.seat.me c.move_up-found.new.seat.me c.args.sub (jump_entry c.args.to c.move_up-found.result) c.self.invariant.notes known none c.move_up-found.ensures.adds in
    subst (λ (ts : List ℕ). Jumps (slice_index ts c.args.sub) c.args.sub c.args.to c.args.self.now.deeds new (Stood found)) own
    (jumps_stood tops marks c.args.self.now.deeds deeds c.args.sub c.args.to found new stepped (ap (λ h. h.deeds) c.self.view_is) c.if-found-to.false)

pub returns-clause-ordered : goal.returns-clause-ordered
returns-clause-ordered c =
    let tops = c.self.inside.seat.me.0.tops in
    let marks = c.self.inside.marks.items in
    let deeds = c.self.inside.seat.me.0.own in
    let same = ap (λ h. h.id) c.self.view_is ∙ c.requires.own.0 ∙ sym (ap (λ b. b.id) c.book.view_is) in
    let known : c.args.sub < length c.self.inside.marks.items = omega (arith, c.self.invariant.sized, c.book.invariant.sized, ap (λ z. z.words) same, ap (λ b. length b.openings) c.book.view_is, c.requires.sub) in
    let none = kept_none tops marks deeds c.args.sub c.index-mark.result.now c.self.invariant.notes known c.index-mark.ensures c.if-mark-ne0.false in
    let found = c.move_up-found.result in
    let new = c.move_up-found.new.seat.me.0.own in
    let stepped = steps tops marks c.self.inside.seat.me c.move_up-found.new.seat.me c.args.sub (jump_entry c.args.to c.move_up-found.result) c.self.invariant.notes known none c.move_up-found.ensures.adds in
    order_of tops marks deeds c.args.sub (jump_entry c.args.to c.move_up-found.result) new stepped
