use Rattle.std.proofs.Common.{ℕ, List, length, arith, ap, sym, ◌∙◌, subst}
use Rattle.auc_draw.specs.InnerPass.{Notes}
use Rattle.auc_draw.proofs.StopLemmas.{release_ok}
use Rattle.auc_draw.proofs.PassLemmas.{quiet_notes, quiet_narrow, releases_quietly, drawn_here}
use Rattle.auc_draw.proofs.pass.Pass.release.Goals as goal

pub read_limit-requires-clause-allowed : goal.read_limit-requires-clause-allowed
read_limit-requires-clause-allowed c = release_ok _ _ _ _ _ _ _ _ _
    (omega (arith, c.len-subs.ensures, ap (λ k. length k.openings.items) c.book.invariant.key))
    (omega (arith, ap (λ k. length k.openings.items) c.book.invariant.key, ap (λ b. length b.openings) c.book.view_is, c.requires.sub))
    c.self.invariant.active (drawn_here c.self.inside.seat.table_id c.self.inside.seat.me.0.tops c.self.inside.seat.me.0.own c.self.inside.ended c.args.self.now c.args.sub c.args.n c.self.view_is c.requires.drawn)

pub invariant_of-self : goal.invariant_of-self
invariant_of-self c =
    let deeds = c.self.inside.seat.me.0.own in
    let new = c.read_limit.new.seat.me.0.own in
    let more = releases_quietly c.args.sub c.args.n deeds new c.read_limit.result c.read_limit.ensures.releases in
    record {
      sized = c.self.invariant.sized ∙ ap (λ z. z.words) (sym c.read_limit.ensures.own);
      notes = subst (λ (ts : List ℕ). Notes ts c.self.inside.marks.items new) (sym c.read_limit.ensures.tops) (quiet_notes c.self.inside.seat.me.0.tops c.self.inside.marks.items deeds new more.added more.is more.quiet c.self.invariant.notes);
      active = c.read_limit.ensures.same.0 ∙ c.self.invariant.active;
      bare = c.read_limit.ensures.same.1 ∙ c.self.invariant.bare;
      narrow = λ none. quiet_narrow deeds new more.added more.is more.quiet (c.self.invariant.narrow none);
    }

pub returns-clause-ordered : goal.returns-clause-ordered
returns-clause-ordered c =
    let deeds = c.self.inside.seat.me.0.own in
    let new = c.read_limit.new.seat.me.0.own in
    let more = releases_quietly c.args.sub c.args.n deeds new c.read_limit.result c.read_limit.ensures.releases in
    (quiet_notes c.self.inside.seat.me.0.tops c.self.inside.marks.items deeds new more.added more.is more.quiet c.self.invariant.notes).ordered
