use Rattle.std.proofs.Common.{ℕ, List, length, arith, ap, sym, ◌∙◌, subst}
use Rattle.auc_draw.specs.InnerLimits.{stop_of}
use Rattle.auc_draw.specs.InnerPass.{Notes}
use Rattle.auc_draw.proofs.StopLemmas.{stopped_ok}
use Rattle.auc_draw.proofs.PassLemmas.{quiet_notes, quiet_narrow, stopped_quietly}
use Rattle.auc_draw.proofs.pass.Pass.stopped.Goals as goal

pub read_stop-requires-clause-allowed : goal.read_stop-requires-clause-allowed
read_stop-requires-clause-allowed c = stopped_ok _ _ _ _ _ _ _ (omega (arith, c.stop_place-place.ensures, c.len.ensures, ap (λ k. length k.openings.items) c.book.invariant.key)) c.self.invariant.active

pub invariant_of-self : goal.invariant_of-self
invariant_of-self c =
    let deeds = c.self.inside.seat.me.0.own in
    let new = c.read_stop.new.seat.me.0.own in
    let more = stopped_quietly (stop_of c.read_stop.result) c.self.inside.seat.me c.read_stop.new.seat.me c.read_stop.ensures.adds.0 in
    record {
      sized = c.self.invariant.sized ∙ ap (λ z. z.words) (sym c.read_stop.ensures.own);
      notes = subst (λ (ts : List ℕ). Notes ts c.self.inside.marks.items new) (sym (ap (λ m. m.0.tops) c.read_stop.ensures.adds.0)) (quiet_notes c.self.inside.seat.me.0.tops c.self.inside.marks.items deeds new more.added more.is more.quiet c.self.invariant.notes);
      active = ap (λ m. m.0.active) c.read_stop.ensures.adds.0 ∙ c.self.invariant.active;
      bare = ap (λ m. m.1) c.read_stop.ensures.adds.0 ∙ c.self.invariant.bare;
      narrow = λ none. quiet_narrow deeds new more.added more.is more.quiet (c.self.invariant.narrow none);
    }

pub returns-clause-ordered : goal.returns-clause-ordered
returns-clause-ordered c =
    let deeds = c.self.inside.seat.me.0.own in
    let new = c.read_stop.new.seat.me.0.own in
    let more = stopped_quietly (stop_of c.read_stop.result) c.self.inside.seat.me c.read_stop.new.seat.me c.read_stop.ensures.adds.0 in
    (quiet_notes c.self.inside.seat.me.0.tops c.self.inside.marks.items deeds new more.added more.is more.quiet c.self.invariant.notes).ordered
