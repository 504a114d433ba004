use Rattle.std.proofs.Common.{[], ◌∷◌, refl, sym, ◌∙◌}
use Rattle.auc_draw.specs.declared.pass.Jump.TheVariants.{Moved as moved_from, Stood}
use Rattle.auc_history.specs.declared.entry.Entry.TheVariants.{Moved, Look}
use Rattle.auc_vector.specs.Centre.{unless_spent}
use Rattle.auc_centre.specs.Adds.{kept_by}
use Rattle.auc_centre.proofs.StepLemmas.{adds_elsewhere}
use Rattle.auc_centre.proofs.DeskLemmas.{jumps_by, kept_stays, moves, move_steps, move_adds, move_unless_kept, look_steps, standing_adds, standing_answers}
use Rattle.auc_centre.proofs.desk.DeskCentre.resync.Goals as goal

pub returns-in-Moved-clause-answer : goal.returns-in-Moved-clause-answer
returns-in-Moved-clause-answer g c =
    let desk = c.args.self.now in
    let jumps = jumps_by desk.book.now.tops desk.pass.now.tops c.args.sub c.args.seq_ms desk.pass.now.deeds c.jump.new.self.deeds (moved_from c.in-Moved.from) (desk.shared.1 ∙ sym desk.own.1) c.in-Moved.ensures.jumps in
    (jumps.0, moves c.in-Moved.from c.args.seq_ms jumps.1)

pub returns-in-Moved-clause-goes : goal.returns-in-Moved-clause-goes
returns-in-Moved-clause-goes g c =
    let desk = c.args.self.now in
    let jumps = jumps_by desk.book.now.tops desk.pass.now.tops c.args.sub c.args.seq_ms desk.pass.now.deeds c.jump.new.self.deeds (moved_from c.in-Moved.from) (desk.shared.1 ∙ sym desk.own.1) c.in-Moved.ensures.jumps in
    move_adds c.args.sub c.args.seq_ms c.in-Moved.from desk.pass.now c.jump.new.self
    (move_steps c.args.sub c.args.seq_ms c.in-Moved.from desk.pass.now c.jump.new.self jumps c.jump.ensures.ended c.jump.ensures.own.1 c.jump.ensures.ordered)

pub returns-in-Moved-clause-others : goal.returns-in-Moved-clause-others
returns-in-Moved-clause-others g c i apart =
    let desk = c.args.self.now in
    let jumps = jumps_by desk.book.now.tops desk.pass.now.tops c.args.sub c.args.seq_ms desk.pass.now.deeds c.jump.new.self.deeds (moved_from c.in-Moved.from) (desk.shared.1 ∙ sym desk.own.1) c.in-Moved.ensures.jumps in
    adds_elsewhere desk.pass.now c.jump.new.self i c.args.sub (Moved c.in-Moved.from c.args.seq_ms ∷ []) [] apart
    (move_steps c.args.sub c.args.seq_ms c.in-Moved.from desk.pass.now c.jump.new.self jumps c.jump.ensures.ended c.jump.ensures.own.1 c.jump.ensures.ordered)

pub returns-in-Moved-clause-kept : goal.returns-in-Moved-clause-kept
returns-in-Moved-clause-kept g c i =
    let desk = c.args.self.now in
    let jumps = jumps_by desk.book.now.tops desk.pass.now.tops c.args.sub c.args.seq_ms desk.pass.now.deeds c.jump.new.self.deeds (moved_from c.in-Moved.from) (desk.shared.1 ∙ sym desk.own.1) c.in-Moved.ensures.jumps in
    let steps = move_steps c.args.sub c.args.seq_ms c.in-Moved.from desk.pass.now c.jump.new.self jumps c.jump.ensures.ended c.jump.ensures.own.1 c.jump.ensures.ordered in
    kept_stays i c.args.sub (Moved c.in-Moved.from c.args.seq_ms) desk.pass.now c.jump.new.self (λ top. refl)
    (move_unless_kept c.args.sub c.args.seq_ms c.in-Moved.from desk.pass.now c.jump.new.self jumps steps)

pub returns-in-Stood-clause-answer : goal.returns-in-Stood-clause-answer
returns-in-Stood-clause-answer g c =
    let desk = c.args.self.now in
    let jumps = jumps_by desk.book.now.tops desk.pass.now.tops c.args.sub c.args.seq_ms desk.pass.now.deeds c.jump.new.self.deeds (Stood c.in-Stood.seen) (desk.shared.1 ∙ sym desk.own.1) c.in-Stood.ensures.jumps in
    standing_answers (kept_by desk.pass.now c.args.sub) c.args.seq_ms c.in-Stood.seen c.answer_standing.result jumps.0 c.answer_standing.ensures

pub returns-in-Stood-clause-goes : goal.returns-in-Stood-clause-goes
returns-in-Stood-clause-goes g c =
    let desk = c.args.self.now in
    let jumps = jumps_by desk.book.now.tops desk.pass.now.tops c.args.sub c.args.seq_ms desk.pass.now.deeds c.jump.new.self.deeds (Stood c.in-Stood.seen) (desk.shared.1 ∙ sym desk.own.1) c.in-Stood.ensures.jumps in
    let steps = look_steps c.args.sub c.args.seq_ms c.in-Stood.seen desk.pass.now c.jump.new.self jumps c.jump.ensures.ended c.jump.ensures.own.1 c.jump.ensures.ordered in
    standing_adds c.args.sub c.args.seq_ms c.in-Stood.seen desk.pass.now c.jump.new.self c.answer_standing.result steps c.answer_standing.ensures

pub returns-in-Stood-clause-others : goal.returns-in-Stood-clause-others
returns-in-Stood-clause-others g c i apart =
    let desk = c.args.self.now in
    let jumps = jumps_by desk.book.now.tops desk.pass.now.tops c.args.sub c.args.seq_ms desk.pass.now.deeds c.jump.new.self.deeds (Stood c.in-Stood.seen) (desk.shared.1 ∙ sym desk.own.1) c.in-Stood.ensures.jumps in
    adds_elsewhere desk.pass.now c.jump.new.self i c.args.sub (unless_spent (kept_by desk.pass.now c.args.sub) (Look c.in-Stood.seen ∷ [])) [] apart
    (look_steps c.args.sub c.args.seq_ms c.in-Stood.seen desk.pass.now c.jump.new.self jumps c.jump.ensures.ended c.jump.ensures.own.1 c.jump.ensures.ordered)

pub returns-in-Stood-clause-kept : goal.returns-in-Stood-clause-kept
returns-in-Stood-clause-kept g c i =
    let desk = c.args.self.now in
    let jumps = jumps_by desk.book.now.tops desk.pass.now.tops c.args.sub c.args.seq_ms desk.pass.now.deeds c.jump.new.self.deeds (Stood c.in-Stood.seen) (desk.shared.1 ∙ sym desk.own.1) c.in-Stood.ensures.jumps in
    kept_stays i c.args.sub (Look c.in-Stood.seen) desk.pass.now c.jump.new.self (λ top. refl)
    (look_steps c.args.sub c.args.seq_ms c.in-Stood.seen desk.pass.now c.jump.new.self jumps c.jump.ensures.ended c.jump.ensures.own.1 c.jump.ensures.ordered)
