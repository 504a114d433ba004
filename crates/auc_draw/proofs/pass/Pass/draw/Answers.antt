use Rattle.std.proofs.Common.{◌≡◌, ℕ, ◌<◌, ◌≤◌, ◌+◌, ◌-◌, List, length, slice_index, slice_set, arith, ap, sym, ◌∙◌, subst, length-set}
use Rattle.auc_history.specs.declared.entry.Entry.TheVariants.{Drawn}
use Rattle.auc_sqn.specs.Number.{max_seq}
use Rattle.auc_draw.specs.declared.pass.Draw.TheVariants.{Number, Exhausted}
use Rattle.auc_draw.specs.InnerLimits.{limit_at}
use Rattle.auc_draw.specs.InnerPass.{Notes}
use Rattle.auc_draw.specs.InnerRule.{marks_in}
use Rattle.auc_draw.specs.Deeds.{entries_of}
use Rattle.auc_draw.specs.Pass.{Draws}
use Rattle.auc_draw.proofs.StepLemmas.{draws_ok}
use Rattle.auc_draw.proofs.PassLemmas.{default_free, steps, kept_none, kept_some, unmarked_at, order_of, number_notes, mark_notes, drawn_unmarked, drawn_marked, draws_number, draws_mark, draws_kept, made_narrow, top_low}
use Rattle.auc_draw.proofs.pass.Pass.draw.Goals as goal

pub returns-then-mark-ne0-clause-draws : goal.returns-then-mark-ne0-clause-draws
returns-then-mark-ne0-clause-draws c =
    let tops = c.self.inside.seat.me.0.tops in
    let marks = c.self.inside.marks.items in
    let deeds = c.self.inside.seat.me.0.own in
    let same = ap (λ h. h.id) c.self.view_is ∙ c.requires.own.0 ∙ sym (ap (λ b. b.id) c.book.view_is) in
    let known : c.args.sub < length c.self.inside.marks.items = omega (arith, c.self.invariant.sized, c.book.invariant.sized, ap (λ z. z.words) same, ap (λ b. length b.openings) c.book.view_is, c.requires.sub) in
    let own = ap (λ h. h.tops) c.self.view_is ∙ c.requires.own.1 in
    let kept = kept_some tops marks deeds c.args.sub c.index-mark.result.now c.self.invariant.notes known c.index-mark.ensures c.if-mark-ne0.true in
    subst (λ (ts : List ℕ). Draws (slice_index ts c.args.sub) c.args.sub c.args.self.now.deeds c.args.self.now.deeds (Exhausted (c.index-mark.result.now - 1))) own
    (draws_kept (slice_index tops c.args.sub) c.args.self.now.deeds deeds c.args.sub (c.index-mark.result.now - 1) kept (ap (λ h. h.deeds) c.self.view_is))

pub returns-then-mark-ne0-clause-top : goal.returns-then-mark-ne0-clause-top
returns-then-mark-ne0-clause-top c =
    let low = top_low c.book.inside.key.tops.items c.args.sub (omega (arith, c.book.invariant.topped, ap (λ b. length b.openings) c.book.view_is, c.requires.sub)) c.book.invariant.low in
    subst (λ (ts : List ℕ). slice_index ts c.args.sub ≤ max_seq) (ap (λ b. b.tops) c.book.view_is) low

pub add_one-found-requires-clause-allowed : goal.add_one-found-requires-clause-allowed
add_one-found-requires-clause-allowed c =
    let tops = c.self.inside.seat.me.0.tops in
    let marks = c.self.inside.marks.items in
    let deeds = c.self.inside.seat.me.0.own in
    let same = ap (λ h. h.id) c.self.view_is ∙ c.requires.own.0 ∙ sym (ap (λ b. b.id) c.book.view_is) in
    let known : c.args.sub < length c.self.inside.marks.items = omega (arith, c.self.invariant.sized, c.book.invariant.sized, ap (λ z. z.words) same, ap (λ b. length b.openings) c.book.view_is, c.requires.sub) in
    let own = ap (λ h. h.tops) c.self.view_is ∙ c.requires.own.1 in
    let none = kept_none tops marks deeds c.args.sub c.index-mark.result.now c.self.invariant.notes known c.index-mark.ensures c.if-mark-ne0.false in
    let low = top_low c.book.inside.key.tops.items c.args.sub (omega (arith, c.book.invariant.topped, ap (λ b. length b.openings) c.book.view_is, c.requires.sub)) c.book.invariant.low in
    let key = ap (λ k. k.tops.items) c.book.invariant.key in
    let shared = own ∙ sym (ap (λ b. b.tops) c.book.view_is) ∙ sym key in
    draws_ok _ _ _ _ _ _ _ (omega (arith, ap (λ k. length k.openings.items) c.book.invariant.key, ap (λ b. length b.openings) c.book.view_is, c.requires.sub))
    (subst (λ (ts : List ℕ). slice_index ts c.args.sub ≤ max_seq) (sym key) low) c.self.invariant.active
    (subst (λ (ts : List ℕ). marks_in (slice_index ts c.args.sub) (entries_of c.args.sub deeds) ≡ 0) shared (unmarked_at (slice_index tops c.args.sub) deeds c.args.sub none))

pub invariant_of-self : goal.invariant_of-self
invariant_of-self c =
    let tops = c.self.inside.seat.me.0.tops in
    let marks = c.self.inside.marks.items in
    let deeds = c.self.inside.seat.me.0.own in
    let same = ap (λ h. h.id) c.self.view_is ∙ c.requires.own.0 ∙ sym (ap (λ b. b.id) c.book.view_is) in
    let known : c.args.sub < length c.self.inside.marks.items = omega (arith, c.self.invariant.sized, c.book.invariant.sized, ap (λ z. z.words) same, ap (λ b. length b.openings) c.book.view_is, c.requires.sub) in
    let own = ap (λ h. h.tops) c.self.view_is ∙ c.requires.own.1 in
    let none = kept_none tops marks deeds c.args.sub c.index-mark.result.now c.self.invariant.notes known c.index-mark.ensures c.if-mark-ne0.false in
    let found = c.add_one-found.result in
    let new = c.add_one-found.new.seat.me.0.own in
    let stepped = steps tops marks c.self.inside.seat.me c.add_one-found.new.seat.me c.args.sub (Drawn (c.add_one-found.result + 1)) c.self.invariant.notes known none c.add_one-found.ensures.adds.0 in
    let here : c.args.sub < length c.book.inside.key.tops.items = omega (arith, c.book.invariant.topped, ap (λ b. length b.openings) c.book.view_is, c.requires.sub) in
    let top_is = default_free c.book.inside.key.tops.items c.args.sub c.index-top.result.now c.index-top.result.now here c.index-top.ensures ∙ ap (λ ts. slice_index ts c.args.sub) (ap (λ b. b.tops) c.book.view_is ∙ sym own) in
    record {
      sized = c.self.invariant.sized ∙ ap (λ z. z.words) (sym c.add_one-found.ensures.own);
      notes = subst (λ (ts : List ℕ). Notes ts marks new) (sym (ap (λ m. m.0.tops) c.add_one-found.ensures.adds.0.0)) (number_notes tops marks deeds c.args.sub (Drawn (c.add_one-found.result + 1)) new stepped (drawn_unmarked (slice_index tops c.args.sub) (found + 1) (omega (arith, top_is, c.if-found-top.true))));
      active = ap (λ m. m.0.active) c.add_one-found.ensures.adds.0.0 ∙ c.self.invariant.active;
      bare = ap (λ m. m.1) c.add_one-found.ensures.adds.0.0 ∙ c.self.invariant.bare;
      narrow = λ none. made_narrow deeds c.args.sub (Drawn (c.add_one-found.result + 1)) new stepped.is (c.self.invariant.narrow none);
    }

pub returns-then-found-top-clause-draws : goal.returns-then-found-top-clause-draws
returns-then-found-top-clause-draws c =
    let tops = c.self.inside.seat.me.0.tops in
    let marks = c.self.inside.marks.items in
    let deeds = c.self.inside.seat.me.0.own in
    let same = ap (λ h. h.id) c.self.view_is ∙ c.requires.own.0 ∙ sym (ap (λ b. b.id) c.book.view_is) in
    let known : c.args.sub < length c.self.inside.marks.items = omega (arith, c.self.invariant.sized, c.book.invariant.sized, ap (λ z. z.words) same, ap (λ b. length b.openings) c.book.view_is, c.requires.sub) in
    let own = ap (λ h. h.tops) c.self.view_is ∙ c.requires.own.1 in
    let none = kept_none tops marks deeds c.args.sub c.index-mark.result.now c.self.invariant.notes known c.index-mark.ensures c.if-mark-ne0.false in
    let found = c.add_one-found.result in
    let new = c.add_one-found.new.seat.me.0.own in
    let stepped = steps tops marks c.self.inside.seat.me c.add_one-found.new.seat.me c.args.sub (Drawn (c.add_one-found.result + 1)) c.self.invariant.notes known none c.add_one-found.ensures.adds.0 in
    let here : c.args.sub < length c.book.inside.key.tops.items = omega (arith, c.book.invariant.topped, ap (λ b. length b.openings) c.book.view_is, c.requires.sub) in
    let top_is = default_free c.book.inside.key.tops.items c.args.sub c.index-top.result.now c.index-top.result.now here c.index-top.ensures ∙ ap (λ ts. slice_index ts c.args.sub) (ap (λ b. b.tops) c.book.view_is ∙ sym own) in
    subst (λ (ts : List ℕ). Draws (slice_index ts c.args.sub) c.args.sub c.args.self.now.deeds new (Number (found + 1))) own
    (draws_number tops marks c.args.self.now.deeds deeds c.args.sub found new stepped (ap (λ h. h.deeds) c.self.view_is) (omega (arith, top_is, c.if-found-top.true)))

pub returns-then-found-top-clause-top : goal.returns-then-found-top-clause-top
returns-then-found-top-clause-top c =
    let low = top_low c.book.inside.key.tops.items c.args.sub (omega (arith, c.book.invariant.topped, ap (λ b. length b.openings) c.book.view_is, c.requires.sub)) c.book.invariant.low in
    subst (λ (ts : List ℕ). slice_index ts c.args.sub ≤ max_seq) (ap (λ b. b.tops) c.book.view_is) low

pub returns-then-found-top-clause-ordered : goal.returns-then-found-top-clause-ordered
returns-then-found-top-clause-ordered c =
    let tops = c.self.inside.seat.me.0.tops in
    let marks = c.self.inside.marks.items in
    let deeds = c.self.inside.seat.me.0.own in
    let same = ap (λ h. h.id) c.self.view_is ∙ c.requires.own.0 ∙ sym (ap (λ b. b.id) c.book.view_is) in
    let known : c.args.sub < length c.self.inside.marks.items = omega (arith, c.self.invariant.sized, c.book.invariant.sized, ap (λ z. z.words) same, ap (λ b. length b.openings) c.book.view_is, c.requires.sub) in
    let none = kept_none tops marks deeds c.args.sub c.index-mark.result.now c.self.invariant.notes known c.index-mark.ensures c.if-mark-ne0.false in
    let found = c.add_one-found.result in
    let new = c.add_one-found.new.seat.me.0.own in
    let stepped = steps tops marks c.self.inside.seat.me c.add_one-found.new.seat.me c.args.sub (Drawn (c.add_one-found.result + 1)) c.self.invariant.notes known none c.add_one-found.ensures.adds.0 in
    order_of tops marks deeds c.args.sub (Drawn (c.add_one-found.result + 1)) new stepped

pub invariant_of-self-2 : goal.invariant_of-self-2
invariant_of-self-2 c =
    let tops = c.self.inside.seat.me.0.tops in
    let marks = c.self.inside.marks.items in
    let deeds = c.self.inside.seat.me.0.own in
    let same = ap (λ h. h.id) c.self.view_is ∙ c.requires.own.0 ∙ sym (ap (λ b. b.id) c.book.view_is) in
    let known : c.args.sub < length c.self.inside.marks.items = omega (arith, c.self.invariant.sized, c.book.invariant.sized, ap (λ z. z.words) same, ap (λ b. length b.openings) c.book.view_is, c.requires.sub) in
    let own = ap (λ h. h.tops) c.self.view_is ∙ c.requires.own.1 in
    let none = kept_none tops marks deeds c.args.sub c.index-mark.result.now c.self.invariant.notes known c.index-mark.ensures c.if-mark-ne0.false in
    let found = c.add_one-found.result in
    let new = c.add_one-found.new.seat.me.0.own in
    let stepped = steps tops marks c.self.inside.seat.me c.add_one-found.new.seat.me c.args.sub (Drawn (c.add_one-found.result + 1)) c.self.invariant.notes known none c.add_one-found.ensures.adds.0 in
    let here : c.args.sub < length c.book.inside.key.tops.items = omega (arith, c.book.invariant.topped, ap (λ b. length b.openings) c.book.view_is, c.requires.sub) in
    let top_is = default_free c.book.inside.key.tops.items c.args.sub c.index-top.result.now c.index-top.result.now here c.index-top.ensures ∙ ap (λ ts. slice_index ts c.args.sub) (ap (λ b. b.tops) c.book.view_is ∙ sym own) in
    record {
      sized = ap (λ k. limit_at k k) (length-set marks c.args.sub (found + 1)) ∙ c.self.invariant.sized ∙ ap (λ z. z.words) (sym c.add_one-found.ensures.own);
      notes = subst (λ (ts : List ℕ). Notes ts (slice_set marks c.args.sub (found + 1)) new) (sym (ap (λ m. m.0.tops) c.add_one-found.ensures.adds.0.0)) (mark_notes tops marks deeds c.args.sub found (Drawn (c.add_one-found.result + 1)) new stepped (drawn_marked (slice_index tops c.args.sub) found (omega (arith, top_is, c.if-found-top.false))));
      active = ap (λ m. m.0.active) c.add_one-found.ensures.adds.0.0 ∙ c.self.invariant.active;
      bare = ap (λ m. m.1) c.add_one-found.ensures.adds.0.0 ∙ c.self.invariant.bare;
      narrow = λ none. made_narrow deeds c.args.sub (Drawn (c.add_one-found.result + 1)) new stepped.is (c.self.invariant.narrow none);
    }

pub returns-clause-draws : goal.returns-clause-draws
returns-clause-draws c =
    let tops = c.self.inside.seat.me.0.tops in
    let marks = c.self.inside.marks.items in
    let deeds = c.self.inside.seat.me.0.own in
    let same = ap (λ h. h.id) c.self.view_is ∙ c.requires.own.0 ∙ sym (ap (λ b. b.id) c.book.view_is) in
    let known : c.args.sub < length c.self.inside.marks.items = omega (arith, c.self.invariant.sized, c.book.invariant.sized, ap (λ z. z.words) same, ap (λ b. length b.openings) c.book.view_is, c.requires.sub) in
    let own = ap (λ h. h.tops) c.self.view_is ∙ c.requires.own.1 in
    let none = kept_none tops marks deeds c.args.sub c.index-mark.result.now c.self.invariant.notes known c.index-mark.ensures c.if-mark-ne0.false in
    let found = c.add_one-found.result in
    let new = c.add_one-found.new.seat.me.0.own in
    let stepped = steps tops marks c.self.inside.seat.me c.add_one-found.new.seat.me c.args.sub (Drawn (c.add_one-found.result + 1)) c.self.invariant.notes known none c.add_one-found.ensures.adds.0 in
    let here : c.args.sub < length c.book.inside.key.tops.items = omega (arith, c.book.invariant.topped, ap (λ b. length b.openings) c.book.view_is, c.requires.sub) in
    let top_is = default_free c.book.inside.key.tops.items c.args.sub c.index-top.result.now c.index-top.result.now here c.index-top.ensures ∙ ap (λ ts. slice_index ts c.args.sub) (ap (λ b. b.tops) c.book.view_is ∙ sym own) in
    subst (λ (ts : List ℕ). Draws (slice_index ts c.args.sub) c.args.sub c.args.self.now.deeds new (Exhausted found)) own
    (draws_mark tops marks c.args.self.now.deeds deeds c.args.sub found new stepped (ap (λ h. h.deeds) c.self.view_is) (omega (arith, top_is, c.if-found-top.false)))

pub returns-clause-top : goal.returns-clause-top
returns-clause-top c =
    let low = top_low c.book.inside.key.tops.items c.args.sub (omega (arith, c.book.invariant.topped, ap (λ b. length b.openings) c.book.view_is, c.requires.sub)) c.book.invariant.low in
    subst (λ (ts : List ℕ). slice_index ts c.args.sub ≤ max_seq) (ap (λ b. b.tops) c.book.view_is) low

pub returns-clause-ordered : goal.returns-clause-ordered
returns-clause-ordered c =
    let tops = c.self.inside.seat.me.0.tops in
    let marks = c.self.inside.marks.items in
    let deeds = c.self.inside.seat.me.0.own in
    let same = ap (λ h. h.id) c.self.view_is ∙ c.requires.own.0 ∙ sym (ap (λ b. b.id) c.book.view_is) in
    let known : c.args.sub < length c.self.inside.marks.items = omega (arith, c.self.invariant.sized, c.book.invariant.sized, ap (λ z. z.words) same, ap (λ b. length b.openings) c.book.view_is, c.requires.sub) in
    let none = kept_none tops marks deeds c.args.sub c.index-mark.result.now c.self.invariant.notes known c.index-mark.ensures c.if-mark-ne0.false in
    let found = c.add_one-found.result in
    let new = c.add_one-found.new.seat.me.0.own in
    let stepped = steps tops marks c.self.inside.seat.me c.add_one-found.new.seat.me c.args.sub (Drawn (c.add_one-found.result + 1)) c.self.invariant.notes known none c.add_one-found.ensures.adds.0 in
    order_of tops marks deeds c.args.sub (Drawn (c.add_one-found.result + 1)) new stepped
