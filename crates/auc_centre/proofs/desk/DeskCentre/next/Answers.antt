use Rattle.std.proofs.Common.{◌+◌, [], ◌∷◌, slice_index, sym, ◌∙◌}
use Rattle.auc_draw.proofs.Facts.{just_drawn}
use Rattle.auc_draw.specs.declared.pass.Draw.TheVariants.{Exhausted as exhausted, Number}
use Rattle.auc_history.specs.declared.entry.Entry.TheVariants.{Drawn}
use Rattle.auc_vector.specs.Centre.{unless_spent}
use Rattle.auc_centre.specs.Adds.{kept_by}
use Rattle.auc_centre.proofs.StepLemmas.{adds_elsewhere}
use Rattle.auc_centre.proofs.DeskLemmas.{IsSettled, answers_by, draws_by, kept_elsewhere, same_tops, refusal_steps, refusal_adds, refusal_answers, settled_answers, settled_adds, settled_elsewhere, settled_kept, settled_still}
use Rattle.auc_centre.proofs.desk.DeskCentre.next.Goals as goal

pub settle-requires-clause-drawn : goal.settle-requires-clause-drawn
settle-requires-clause-drawn g c =
    let desk = c.args.self.now in
    just_drawn (slice_index desk.book.now.tops c.args.sub) c.args.sub c.in-Number.n desk.pass.now.deeds c.draw.new.self.deeds c.in-Number.ensures.draws

pub returns-in-Exhausted-clause-answer : goal.returns-in-Exhausted-clause-answer
returns-in-Exhausted-clause-answer g c =
    let desk = c.args.self.now in
    let draws = draws_by desk.book.now.tops desk.pass.now.tops c.args.sub desk.pass.now.deeds c.draw.new.self.deeds (exhausted c.in-Exhausted.word) (desk.shared.1 ∙ sym desk.own.1) c.in-Exhausted.ensures.draws in
    (c.in-Exhausted.ensures.draws.0, refusal_answers c.args.sub c.in-Exhausted.word desk.pass.now c.draw.new.self draws)

pub returns-in-Exhausted-clause-goes : goal.returns-in-Exhausted-clause-goes
returns-in-Exhausted-clause-goes g c =
    let desk = c.args.self.now in
    let draws = draws_by desk.book.now.tops desk.pass.now.tops c.args.sub desk.pass.now.deeds c.draw.new.self.deeds (exhausted c.in-Exhausted.word) (desk.shared.1 ∙ sym desk.own.1) c.in-Exhausted.ensures.draws in
    refusal_adds c.args.sub c.in-Exhausted.word desk.pass.now c.draw.new.self draws c.draw.ensures.ended c.draw.ensures.own.1 c.draw.ensures.ordered

pub returns-in-Exhausted-clause-others : goal.returns-in-Exhausted-clause-others
returns-in-Exhausted-clause-others g c i apart =
    let desk = c.args.self.now in
    let draws = draws_by desk.book.now.tops desk.pass.now.tops c.args.sub desk.pass.now.deeds c.draw.new.self.deeds (exhausted c.in-Exhausted.word) (desk.shared.1 ∙ sym desk.own.1) c.in-Exhausted.ensures.draws in
    adds_elsewhere desk.pass.now c.draw.new.self i c.args.sub (unless_spent (kept_by desk.pass.now c.args.sub) (Drawn (c.in-Exhausted.word + 1) ∷ [])) [] apart
    (refusal_steps c.args.sub c.in-Exhausted.word desk.pass.now c.draw.new.self draws c.draw.ensures.ended c.draw.ensures.own.1 c.draw.ensures.ordered)

pub returns-in-Exhausted-clause-kept : goal.returns-in-Exhausted-clause-kept
returns-in-Exhausted-clause-kept g c =
    let desk = c.args.self.now in
    let draws = draws_by desk.book.now.tops desk.pass.now.tops c.args.sub desk.pass.now.deeds c.draw.new.self.deeds (exhausted c.in-Exhausted.word) (desk.shared.1 ∙ sym desk.own.1) c.in-Exhausted.ensures.draws in
    same_tops desk.pass.now c.draw.new.self c.args.sub c.draw.ensures.own.1 ∙ draws.3

pub returns-in-Exhausted-clause-still : goal.returns-in-Exhausted-clause-still
returns-in-Exhausted-clause-still g c i apart =
    let desk = c.args.self.now in
    let draws = draws_by desk.book.now.tops desk.pass.now.tops c.args.sub desk.pass.now.deeds c.draw.new.self.deeds (exhausted c.in-Exhausted.word) (desk.shared.1 ∙ sym desk.own.1) c.in-Exhausted.ensures.draws in
    kept_elsewhere desk.pass.now c.draw.new.self i c.args.sub (unless_spent (kept_by desk.pass.now c.args.sub) (Drawn (c.in-Exhausted.word + 1) ∷ [])) [] apart
    (refusal_steps c.args.sub c.in-Exhausted.word desk.pass.now c.draw.new.self draws c.draw.ensures.ended c.draw.ensures.own.1 c.draw.ensures.ordered)

pub returns-in-Number-clause-answer : goal.returns-in-Number-clause-answer
returns-in-Number-clause-answer g c =
    let desk = c.args.self.now in
    let draws = draws_by desk.book.now.tops desk.pass.now.tops c.args.sub desk.pass.now.deeds c.draw.new.self.deeds (Number c.in-Number.n) (desk.shared.1 ∙ sym desk.own.1) c.in-Number.ensures.draws in
    let settled : IsSettled c.args.sub c.in-Number.n desk.pass.now c.draw.new.self c.settle.new.pass c.settle.result =
    record { draws = draws; ended = c.draw.ensures.ended; tops = c.draw.ensures.own.1; ordered = c.draw.ensures.ordered; settles = c.settle.ensures.settles } in
    answers_by desk.pass.now.tops desk.book.now.tops c.args.sub (kept_by desk.pass.now c.args.sub) c.settle.result (desk.own.1 ∙ sym desk.shared.1)
    (settled_answers c.args.sub c.in-Number.n desk.pass.now c.draw.new.self c.settle.new.pass c.settle.result settled)

pub returns-in-Number-clause-goes : goal.returns-in-Number-clause-goes
returns-in-Number-clause-goes g c =
    let desk = c.args.self.now in
    let draws = draws_by desk.book.now.tops desk.pass.now.tops c.args.sub desk.pass.now.deeds c.draw.new.self.deeds (Number c.in-Number.n) (desk.shared.1 ∙ sym desk.own.1) c.in-Number.ensures.draws in
    let settled : IsSettled c.args.sub c.in-Number.n desk.pass.now c.draw.new.self c.settle.new.pass c.settle.result =
    record { draws = draws; ended = c.draw.ensures.ended; tops = c.draw.ensures.own.1; ordered = c.draw.ensures.ordered; settles = c.settle.ensures.settles } in
    settled_adds c.args.sub c.in-Number.n desk.pass.now c.draw.new.self c.settle.new.pass c.settle.result settled

pub returns-in-Number-clause-others : goal.returns-in-Number-clause-others
returns-in-Number-clause-others g c i apart =
    let desk = c.args.self.now in
    let draws = draws_by desk.book.now.tops desk.pass.now.tops c.args.sub desk.pass.now.deeds c.draw.new.self.deeds (Number c.in-Number.n) (desk.shared.1 ∙ sym desk.own.1) c.in-Number.ensures.draws in
    let settled : IsSettled c.args.sub c.in-Number.n desk.pass.now c.draw.new.self c.settle.new.pass c.settle.result =
    record { draws = draws; ended = c.draw.ensures.ended; tops = c.draw.ensures.own.1; ordered = c.draw.ensures.ordered; settles = c.settle.ensures.settles } in
    settled_elsewhere i c.args.sub c.in-Number.n desk.pass.now c.draw.new.self c.settle.new.pass c.settle.result apart settled

pub returns-in-Number-clause-kept : goal.returns-in-Number-clause-kept
returns-in-Number-clause-kept g c =
    let desk = c.args.self.now in
    let draws = draws_by desk.book.now.tops desk.pass.now.tops c.args.sub desk.pass.now.deeds c.draw.new.self.deeds (Number c.in-Number.n) (desk.shared.1 ∙ sym desk.own.1) c.in-Number.ensures.draws in
    let settled : IsSettled c.args.sub c.in-Number.n desk.pass.now c.draw.new.self c.settle.new.pass c.settle.result =
    record { draws = draws; ended = c.draw.ensures.ended; tops = c.draw.ensures.own.1; ordered = c.draw.ensures.ordered; settles = c.settle.ensures.settles } in
    settled_kept c.args.sub c.in-Number.n desk.pass.now c.draw.new.self c.settle.new.pass c.settle.result settled

pub returns-in-Number-clause-still : goal.returns-in-Number-clause-still
returns-in-Number-clause-still g c i apart =
    let desk = c.args.self.now in
    let draws = draws_by desk.book.now.tops desk.pass.now.tops c.args.sub desk.pass.now.deeds c.draw.new.self.deeds (Number c.in-Number.n) (desk.shared.1 ∙ sym desk.own.1) c.in-Number.ensures.draws in
    let settled : IsSettled c.args.sub c.in-Number.n desk.pass.now c.draw.new.self c.settle.new.pass c.settle.result =
    record { draws = draws; ended = c.draw.ensures.ended; tops = c.draw.ensures.own.1; ordered = c.draw.ensures.ordered; settles = c.settle.ensures.settles } in
    settled_still i c.args.sub c.in-Number.n desk.pass.now c.draw.new.self c.settle.new.pass c.settle.result apart settled
