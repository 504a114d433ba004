use Rattle.std.proofs.Common.{◌≡◌, ◌∙◌, List, ap, subst, sym, ℕ}
use Rattle.auc_world.specs.Given.{Before}
use Rattle.auc_subs.specs.Setting.{Setting}
use Rattle.auc_world.specs.Sim.{SimGives}
use Rattle.auc_record.specs.declared.record.LineRecord.{LineRecord}
use Rattle.auc_jobs.specs.InnerSim.{AreNotesOf, said_lines}
use Rattle.auc_jobs.specs.InnerSites.{IsLease}
use Rattle.auc_jobs.specs.InnerWorker.{WorkerState}
use Rattle.auc_jobs.proofs.LineLemmas.{on_ok_map}
use Rattle.auc_jobs.proofs.SimLemmas.{sim_ends, sim_then}
use Rattle.auc_jobs.proofs.WorkerLemmas.{also_serves, more_serves}
use Rattle.auc_jobs.proofs.worker.Worker.sim.Goals as goal

pub returns-then-len-count-clause-given : goal.returns-then-len-count-clause-given
returns-then-len-count-clause-given g c =
    also_serves g.C.Centre.kept g.C.Centre.goes c.args.self.now c.lease.new.self (λ (before : Before) (drawn : List LineRecord). IsLease c.args.self.now.set c.sub.result c.count.result c.in_ok-numbers.numbers drawn)
    (λ (before : Before) (lines : List LineRecord). SimGives c.args.self.now.set c.args.line.now lines)
    (λ before lines is. sim_ends c.args.self.now.set c.args.line.now c.sub.result c.count.result c.in_ok-numbers.numbers c.sub.ensures c.count.ensures.value lines
    (λ all. c.if-len-count.true (c.len.ensures.value ∙ all ∙ c.count.ensures.value ∙ sym c.count-2.ensures.value)) is) c.in_ok-numbers.ensures.drawn

pub returns-clause-given : goal.returns-clause-given
returns-clause-given g c =
    let are : AreNotesOf c.args.self.now.set c.args.line.now c.in_ok-numbers.numbers c.in_ok-notes.notes =
    subst (λ (s : Setting). AreNotesOf s c.args.line.now c.in_ok-numbers.numbers c.in_ok-notes.notes) c.in_ok-numbers.ensures.same.worker.set
    (subst (λ (w : WorkerState g.row.C.Denot). AreNotesOf w.set c.args.line.now c.in_ok-numbers.numbers c.in_ok-notes.notes) c.self.view_is c.in_ok-notes.ensures) in
    on_ok_map c.say_notes.result c.say_notes.ensures.said (λ said.
    more_serves g.C.Centre.kept g.C.Centre.goes c.args.self.now c.lease.new.self c.say_notes.new.self
    (λ (before : Before) (drawn : List LineRecord). IsLease c.args.self.now.set c.sub.result c.count.result c.in_ok-numbers.numbers drawn)
    (λ (s : Setting) (before : Before) (lines : List LineRecord). lines ≡ said_lines c.sub-2.result c.in_ok-notes.notes)
    (λ (before : Before) (lines : List LineRecord). SimGives c.args.self.now.set c.args.line.now lines)
    (λ i es fs ws vs. g.met.C.Centre.joins c.args.self.now.centre c.lease.new.self.centre c.say_notes.new.self.centre i es fs ws vs)
    c.in_ok-numbers.ensures.same.worker.set c.in_ok-numbers.ensures.same.worker.released c.in_ok-numbers.ensures.drawn said
    (λ before front rest is lines.
    sim_then c.args.self.now.set c.args.line.now c.sub.result c.count.result c.in_ok-numbers.numbers c.sub.ensures c.count.ensures.value c.in_ok-notes.notes front rest
    (sym c.len.ensures.value ∙ c.if-len-count.false ∙ c.count-2.ensures.value ∙ sym c.count.ensures.value) are is
    (lines ∙ ap (λ (sub : ℕ). said_lines sub c.in_ok-notes.notes) (c.sub-2.ensures ∙ sym c.sub.ensures))))
