use Rattle.std.proofs.Common.{◌∷◌, ◌++◌, [], Option, inr, refl}
use Rattle.auc_memory.specs.declared.stop.Stop.{Stop}
use Rattle.auc_run.specs.Inner.{MakesRound}
use Rattle.auc_run.specs.InnerFaults.{RoseInRound}
use Rattle.auc_run.specs.Output.{setting_of}
use Rattle.auc_refusal.specs.Replies.{end_line}
use Rattle.auc_run.proofs.BlockLemmas.{asked_quiet}
use Rattle.auc_run.proofs.KnownLemmas.{known_block}
use Rattle.auc_run.proofs.OutputLemmas.{IfOk-ok, OnErr-at}
use Rattle.auc_run.proofs.ServiceEnds.{ends_memory, round_fault, round_quiet, round_said, round_stops, served, turned_true}
use Rattle.auc_run.proofs.blocks.serve_jobs.Goals as goal

pub returns-in-Ok-clause-turned : goal.returns-in-Ok-clause-turned
returns-in-Ok-clause-turned g c = λ block waiting asked.
    let rows = c.args.input.now.subs in
    let header = c.args.input.now.script in
    let is_made = λ (stop : Option Stop).
    MakesRound g.D.Disk.seen g.D.Disk.may_leave g.D.Disk.moment g.D.Disk.left_since (setting_of rows header) header.full c.args.stand.number c.args.stand.state c.args.stand.journal c.args.jobs stop
    c.make_jobs-stand.result.stand.state c.make_jobs-stand.result.stand.journal [] c.make_jobs-stand.result.stand.text in
    let made = IfOk-ok c.make_jobs-stand.result.result c.in-Ok.stop is_made (cc c.in-Ok.is) c.make_jobs-stand.ensures.made in
    rw (c.turned.ensures.answer, c.turned.ensures.stand, c.round_answer.ensures, c.make_jobs-stand.ensures.number)
    (served g.D.Disk.seen g.D.Disk.may_leave g.D.Disk.moment g.D.Disk.left_since rows header waiting block c.make_jobs-stand.result.stand.text c.args.jobs c.args.stand.number c.args.stand.state c.make_jobs-stand.result.stand.state c.forget.new.self
    c.args.stand.journal c.make_jobs-stand.result.stand.journal c.in-Ok.stop c.say_reply-said.result (g.W.Wire.turns c.args.wire.now) (g.W.Wire.turns c.say_reply-said.new.wire)
    asked (known_block rows c.args.jobs c.requires.known) made (c.forget.ensures.forgotten, c.forget.ensures.stands) c.say_reply-said.ensures.said c.say_reply-said.ensures.stopped)

pub returns-in-Ok-clause-goes : goal.returns-in-Ok-clause-goes
returns-in-Ok-clause-goes g c = rw c.turned.ensures.answer (turned_true c.round_answer.result)

pub returns-in-Ok-clause-refused : goal.returns-in-Ok-clause-refused
returns-in-Ok-clause-refused g c =
    rw (c.turned.ensures.answer, c.round_answer.ensures)
    (round_stops c.say_reply-said.result c.in-Ok.stop (c.make_jobs-stand.result.stand.text ++ end_line) (g.W.Wire.turns c.args.wire.now) (g.W.Wire.turns c.say_reply-said.new.wire) c.say_reply-said.ensures.stopped)

pub returns-in-Ok-clause-wire : goal.returns-in-Ok-clause-wire
returns-in-Ok-clause-wire g c = record {
  rose = λ is. c.say_reply-said.ensures.wire.rose (round_said c.say_reply-said.result c.in-Ok.stop (rw (c.turned.ensures.answer, c.round_answer.ensures) at is));
  same = λ other. c.say_reply-said.ensures.wire.same (λ is. other (rw (c.turned.ensures.answer, c.round_answer.ensures, is) refl));
}

pub returns-in-Ok-clause-store : goal.returns-in-Ok-clause-store
returns-in-Ok-clause-store g c =
    let rose : RoseInRound c.in-Ok.stop (g.D.Disk.faults c.args.stand.journal.disk) (g.D.Disk.faults c.make_jobs-stand.result.stand.journal.disk) =
    IfOk-ok c.make_jobs-stand.result.result c.in-Ok.stop _ (cc c.in-Ok.is) c.make_jobs-stand.ensures.store in
    rw c.turned.ensures.stand (record {
      rose = λ is. rose.rose (round_fault c.say_reply-said.result c.in-Ok.stop (c.make_jobs-stand.result.stand.text ++ end_line) (g.W.Wire.turns c.args.wire.now) (g.W.Wire.turns c.say_reply-said.new.wire) c.say_reply-said.ensures.stopped
          (rw (c.turned.ensures.answer, c.round_answer.ensures) at is));
      same = λ quiet. rose.same (round_quiet c.say_reply-said.result c.in-Ok.stop (c.make_jobs-stand.result.stand.text ++ end_line) (g.W.Wire.turns c.args.wire.now) (g.W.Wire.turns c.say_reply-said.new.wire) c.say_reply-said.ensures.stopped
          (rw (c.turned.ensures.answer, c.round_answer.ensures) at quiet));
    })

pub returns-clause-turned : goal.returns-clause-turned
returns-clause-turned g c = λ block waiting asked.
    rw (c.turned-in-Err.ensures.answer, c.turned-in-Err.ensures.stand)
    (ends_memory g.D.Disk.seen g.D.Disk.may_leave g.D.Disk.moment g.D.Disk.left_since c.args.input.now.subs c.args.input.now.script (block ∷ []) waiting c.args.stand.number c.args.stand.state c.args.stand.journal c.make_jobs-stand.result.stand.journal
    (g.W.Wire.turns c.args.wire.now) (g.W.Wire.turns c.args.wire.now) refl
    (λ from reserved at on. OnErr-at c.make_jobs-stand.result.result c.in-Err.field-0 _ (cc c.in-Err.is) c.make_jobs-stand.ensures.ends from reserved at [] on (inr (asked_quiet c.args.input.now.subs block c.args.jobs asked))))
