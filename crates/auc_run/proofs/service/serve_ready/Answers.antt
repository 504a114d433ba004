use Rattle.std.proofs.Common.{inl, refl, ap}
use Rattle.auc_journal.specs.Journal.{limits_of}
use Rattle.auc_refusal.specs.Refusal.{status_in}
use Rattle.auc_run.specs.Output.{setting_of}
use Rattle.auc_refusal.specs.declared.status.Status.TheVariants as status
use Rattle.auc_run.proofs.ServiceTold.{memory_no_journal, remembers_begun, write_no_journal}
use Rattle.auc_run.proofs.ServiceTop.{ready_fails, ready_runs, ready_serves, remembers_blocks}
use Rattle.auc_run.proofs.AlwaysLemmas.{always_opening, always_remembers}
use Rattle.auc_run.proofs.service.serve_ready.Goals as goal

pub returns-in_default-clause-remembers : goal.returns-in_default-clause-remembers
returns-in_default-clause-remembers g c = λ from begins.
    rw c.refused.ensures.refused
    (remembers_begun g.D.Disk.seen g.D.Disk.may_leave g.D.Disk.moment g.D.Disk.left_since g.D.Disk.faults c.args.input.now.subs from c.refused.result.disk c.args.journal status.NoMemory begins c.refused.ensures.disk memory_no_journal)

pub serve_blocks-requires-clause-serving : goal.serve_blocks-requires-clause-serving
serve_blocks-requires-clause-serving g c = λ κs within.
    let rows = c.args.input.now.subs in
    let script = c.args.input.now.script in
    let heard = c.requires.heard in
    let serving = ready_serves g.D.Disk.seen g.D.Disk.may_leave g.D.Disk.moment g.D.Disk.left_since g.D.Disk.faults rows script c.requires.journal.0 heard.0 c.args.ear.now.waiting.items c.in-Ok.state c.args.journal heard.1
    (g.W.Wire.turns c.args.wire.now) (g.W.Wire.turns c.say_whole.new.wire) c.requires.journal.1 c.in-Ok.ensures.opened c.in-Ok.ensures.names (c.in-Ok.ensures.stands (setting_of rows script) refl) c.in-Ok.ensures.limits
    heard.2 c.in-Ok-say_whole.ensures.said in
    (c.requires.journal.0, limits_of c.args.journal, heard.0, heard.1, serving.0, serving.1, serving.2)

pub returns-in-Ok-say_whole-clause-ran : goal.returns-in-Ok-say_whole-clause-ran
returns-in-Ok-say_whole-clause-ran g c = λ from first start begins took.
    let rows = c.args.input.now.subs in
    let script = c.args.input.now.script in
    inl (ready_runs g.D.Disk.seen g.D.Disk.may_leave g.D.Disk.moment g.D.Disk.left_since g.D.Disk.faults rows script from first c.args.ear.now.waiting.items c.in-Ok.state c.args.journal (status_in c.serve_blocks.result.result) c.serve_blocks.result.disk
    start (g.W.Wire.turns c.args.wire.now) (g.W.Wire.turns c.say_whole.new.wire) (g.W.Wire.turns c.serve_blocks.new.wire) begins c.in-Ok.ensures.opened c.in-Ok.ensures.names
    (c.in-Ok.ensures.stands (setting_of rows script) refl) c.in-Ok.ensures.limits took c.in-Ok-say_whole.ensures.said c.serve_blocks.ensures.ends)

pub returns-in-Ok-say_whole-clause-store_full : goal.returns-in-Ok-say_whole-clause-store_full
returns-in-Ok-say_whole-clause-store_full g c = λ full from begins.
    let rows = c.args.input.now.subs in
    let script = c.args.input.now.script in
    let heard = c.requires.heard in
    let runs = ready_runs g.D.Disk.seen g.D.Disk.may_leave g.D.Disk.moment g.D.Disk.left_since g.D.Disk.faults rows script from heard.0 c.args.ear.now.waiting.items c.in-Ok.state c.args.journal (status_in c.serve_blocks.result.result) c.serve_blocks.result.disk
    heard.1 (g.W.Wire.turns c.args.wire.now) (g.W.Wire.turns c.say_whole.new.wire) (g.W.Wire.turns c.serve_blocks.new.wire) begins c.in-Ok.ensures.opened c.in-Ok.ensures.names
    (c.in-Ok.ensures.stands (setting_of rows script) refl) c.in-Ok.ensures.limits heard.2 c.in-Ok-say_whole.ensures.said c.serve_blocks.ensures.ends in
    runs.2.full_at (ap status_in full)

pub returns-in-Ok-say_whole-clause-remembers : goal.returns-in-Ok-say_whole-clause-remembers
returns-in-Ok-say_whole-clause-remembers g c = λ from begins.
    let rows = c.args.input.now.subs in
    let script = c.args.input.now.script in
    let heard = c.requires.heard in
    let runs = ready_runs g.D.Disk.seen g.D.Disk.may_leave g.D.Disk.moment g.D.Disk.left_since g.D.Disk.faults rows script from heard.0 c.args.ear.now.waiting.items c.in-Ok.state c.args.journal (status_in c.serve_blocks.result.result) c.serve_blocks.result.disk
    heard.1 (g.W.Wire.turns c.args.wire.now) (g.W.Wire.turns c.say_whole.new.wire) (g.W.Wire.turns c.serve_blocks.new.wire) begins c.in-Ok.ensures.opened c.in-Ok.ensures.names
    (c.in-Ok.ensures.stands (setting_of rows script) refl) c.in-Ok.ensures.limits heard.2 c.in-Ok-say_whole.ensures.said c.serve_blocks.ensures.ends in
    remembers_blocks g.D.Disk.seen g.D.Disk.may_leave g.D.Disk.moment g.D.Disk.left_since rows script from (limits_of c.args.journal) heard.0 (status_in c.serve_blocks.result.result) c.serve_blocks.result.disk runs.0 runs.2

pub returns-in-Err-clause-ran : goal.returns-in-Err-clause-ran
returns-in-Err-clause-ran g c = λ from first start begins took.
    let rows = c.args.input.now.subs in
    let script = c.args.input.now.script in
    rw c.from.ensures (ready_fails g.D.Disk.seen g.D.Disk.may_leave g.D.Disk.moment g.D.Disk.left_since g.D.Disk.faults rows script from first c.args.ear.now.waiting.items c.in-Ok.state c.args.journal c.into_disk.result
    start (g.W.Wire.turns c.args.wire.now) (g.W.Wire.turns c.say_whole.new.wire) begins c.in-Ok.ensures.opened c.in-Ok.ensures.names
    (c.in-Ok.ensures.stands (setting_of rows script) refl) c.in-Ok.ensures.limits took c.in-Err.ensures.front c.into_disk.ensures)

pub returns-in-Err-clause-remembers : goal.returns-in-Err-clause-remembers
returns-in-Err-clause-remembers g c = λ from begins.
    rw c.from.ensures
    (remembers_begun g.D.Disk.seen g.D.Disk.may_leave g.D.Disk.moment g.D.Disk.left_since g.D.Disk.faults c.args.input.now.subs from c.into_disk.result c.args.journal status.WriteFault begins c.into_disk.ensures write_no_journal)

pub returns-in_default-clause-always : goal.returns-in_default-clause-always
returns-in_default-clause-always g c = λ from begins. always_opening g.D.Disk.seen g.D.Disk.may_leave g.D.Disk.moment g.D.Disk.left_since from c.args.journal.disk c.refused.result.disk begins.always c.refused.ensures.disk

pub returns-in-Ok-say_whole-clause-always : goal.returns-in-Ok-say_whole-clause-always
returns-in-Ok-say_whole-clause-always g c = λ from begins.
    let rows = c.args.input.now.subs in
    let script = c.args.input.now.script in
    let heard = c.requires.heard in
    let runs = ready_runs g.D.Disk.seen g.D.Disk.may_leave g.D.Disk.moment g.D.Disk.left_since g.D.Disk.faults rows script from heard.0 c.args.ear.now.waiting.items c.in-Ok.state c.args.journal (status_in c.serve_blocks.result.result) c.serve_blocks.result.disk
    heard.1 (g.W.Wire.turns c.args.wire.now) (g.W.Wire.turns c.say_whole.new.wire) (g.W.Wire.turns c.serve_blocks.new.wire) begins c.in-Ok.ensures.opened c.in-Ok.ensures.names
    (c.in-Ok.ensures.stands (setting_of rows script) refl) c.in-Ok.ensures.limits heard.2 c.in-Ok-say_whole.ensures.said c.serve_blocks.ensures.ends in
    always_remembers g.D.Disk.seen g.D.Disk.may_leave g.D.Disk.moment g.D.Disk.left_since (status_in c.serve_blocks.result.result) rows from c.serve_blocks.result.disk (limits_of c.args.journal) runs.2.end runs.2.always

pub returns-in-Err-clause-always : goal.returns-in-Err-clause-always
returns-in-Err-clause-always g c = λ from begins. always_opening g.D.Disk.seen g.D.Disk.may_leave g.D.Disk.moment g.D.Disk.left_since from c.args.journal.disk c.into_disk.result begins.always c.into_disk.ensures
