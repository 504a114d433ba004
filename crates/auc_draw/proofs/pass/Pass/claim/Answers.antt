use Rattle.std.proofs.Common.{ℕ, List, length, arith, ap, sym, ◌∙◌, subst}
use Rattle.auc_draw.specs.InnerPass.{Notes}
use Rattle.auc_draw.proofs.StepLemmas.{claims_ok}
use Rattle.auc_draw.proofs.PassLemmas.{claimed_notes, claimed_narrow, none_left}
use Rattle.auc_draw.proofs.pass.Pass.claim.Goals as goal

pub take_number-found-requires-clause-allowed : goal.take_number-found-requires-clause-allowed
take_number-found-requires-clause-allowed c =
    let none = none_left c.self.inside.ended c.is_some.result c.is_some.ensures c.if-is_some.false in
    claims_ok _ _ _ _ _ _ _ (omega (arith, ap (λ k. length k.openings.items) c.book.invariant.key, c.len.ensures)) c.self.invariant.active (c.self.invariant.narrow none)

pub invariant_of-self : goal.invariant_of-self
invariant_of-self c =
    let marks = c.self.inside.marks.items in
    let deeds = c.self.inside.seat.me.0.own in
    let found = c.take_number-found.result in
    let new = c.take_number-found.new.seat.me.0.own in
    let more = ap (λ m. m.0.own) c.take_number-found.ensures.adds.0 in
    let notes = claimed_notes c.self.inside.seat.me.0.tops marks deeds found new more c.self.invariant.notes in
    record {
      sized = c.self.invariant.sized ∙ ap (λ z. z.words) (sym c.take_number-found.ensures.own);
      notes = subst (λ (ts : List ℕ). Notes ts marks new) (sym (ap (λ m. m.0.tops) c.take_number-found.ensures.adds.0)) notes;
      active = ap (λ m. m.0.active) c.take_number-found.ensures.adds.0 ∙ c.self.invariant.active;
      bare = ap (λ m. m.1) c.take_number-found.ensures.adds.0 ∙ c.self.invariant.bare;
      narrow = λ none. claimed_narrow deeds found new more (c.self.invariant.narrow none) (omega (arith, c.if-found-jobs.true, c.ranges.jobs.fits));
    }

pub returns-then-found-jobs-clause-ordered : goal.returns-then-found-jobs-clause-ordered
returns-then-found-jobs-clause-ordered c =
    let marks = c.self.inside.marks.items in
    let deeds = c.self.inside.seat.me.0.own in
    let found = c.take_number-found.result in
    let new = c.take_number-found.new.seat.me.0.own in
    let more = ap (λ m. m.0.own) c.take_number-found.ensures.adds.0 in
    let notes = claimed_notes c.self.inside.seat.me.0.tops marks deeds found new more c.self.invariant.notes in
    notes.ordered

pub invariant_of-self-2 : goal.invariant_of-self-2
invariant_of-self-2 c =
    let marks = c.self.inside.marks.items in
    let deeds = c.self.inside.seat.me.0.own in
    let found = c.take_number-found.result in
    let new = c.take_number-found.new.seat.me.0.own in
    let more = ap (λ m. m.0.own) c.take_number-found.ensures.adds.0 in
    let notes = claimed_notes c.self.inside.seat.me.0.tops marks deeds found new more c.self.invariant.notes in
    record {
      sized = c.self.invariant.sized ∙ ap (λ z. z.words) (sym c.take_number-found.ensures.own);
      notes = subst (λ (ts : List ℕ). Notes ts marks new) (sym (ap (λ m. m.0.tops) c.take_number-found.ensures.adds.0)) notes;
      active = ap (λ m. m.0.active) c.take_number-found.ensures.adds.0 ∙ c.self.invariant.active;
      bare = ap (λ m. m.1) c.take_number-found.ensures.adds.0 ∙ c.self.invariant.bare;
      narrow = λ none. absurd (let no : ⊥ = cc in no);
    }

pub returns-clause-ordered : goal.returns-clause-ordered
returns-clause-ordered c =
    let marks = c.self.inside.marks.items in
    let deeds = c.self.inside.seat.me.0.own in
    let found = c.take_number-found.result in
    let new = c.take_number-found.new.seat.me.0.own in
    let more = ap (λ m. m.0.own) c.take_number-found.ensures.adds.0 in
    let notes = claimed_notes c.self.inside.seat.me.0.tops marks deeds found new more c.self.invariant.notes in
    notes.ordered
