use Rattle.std.proofs.Common.{◌≡◌, ◌++◌, [], ◌∷◌, List, refl, reverse}
use Rattle.auc_world.specs.Given.{Before}
use Rattle.auc_subs.specs.Setting.{Setting}
use Rattle.auc_record.specs.declared.further.Further.TheVariants as further
use Rattle.auc_record.specs.declared.record.LineRecord.{LineRecord}
use Rattle.auc_record.specs.declared.record.LineRecord.TheVariants.{Further}
use Rattle.auc_jobs.specs.InnerSim.{said_lines}
use Rattle.auc_jobs.proofs.SimLemmas.{notes_all, notes_begin, notes_more}
use Rattle.auc_jobs.proofs.WorkerLemmas.{also_serves, goes_on_beside, more_serves, none_serves}
use Rattle.auc_jobs.proofs.worker.Worker.say_notes.Goals as goal

pub loop-note-init : goal.loop-note-init
loop-note-init g c = record {
  same = record {
    worker = record { borrow = refl; lent = refl; set = refl; released = refl };
    keyed = λ sub. refl;
    net = refl;
  };
  said =
      also_serves g.C.Centre.kept g.C.Centre.goes c.args.self.now c.args.self.now (λ (before : Before) (lines : List LineRecord). lines ≡ [])
      (λ (before : Before) (lines : List LineRecord). lines ++ said_lines c.args.sub (reverse c.in_ok-left.left) ≡ said_lines c.args.sub c.args.notes)
      (λ before lines none. notes_begin c.args.sub c.args.notes c.in_ok-left.left lines c.in_ok-left.ensures none)
      (none_serves g.C.Centre.kept g.C.Centre.goes c.args.self.now (λ i. g.met.C.Centre.stays c.args.self.now.centre i));
}

pub loop-note-preserved : goal.loop-note-preserved
loop-note-preserved g c = record {
  same = goes_on_beside _ _ _ c.args.self.now c.loop-note.self c.say.new.self c.loop-note.invariant.same c.in_ok-say.ensures.same;
  said =
      more_serves g.C.Centre.kept g.C.Centre.goes c.args.self.now c.loop-note.self c.say.new.self
      (λ (before : Before) (lines : List LineRecord). lines ++ said_lines c.args.sub (reverse c.loop-note.left) ≡ said_lines c.args.sub c.args.notes)
      (λ (s : Setting) (before : Before) (lines : List LineRecord). lines ≡ Further (further.Sim c.args.sub c.in-Some.note) ∷ [])
      (λ (before : Before) (lines : List LineRecord). lines ++ said_lines c.args.sub (reverse c.pop.new.self) ≡ said_lines c.args.sub c.args.notes)
      (λ i es fs ws vs. g.met.C.Centre.joins c.args.self.now.centre c.loop-note.self.centre c.say.new.self.centre i es fs ws vs)
      c.loop-note.invariant.same.worker.set c.loop-note.invariant.same.worker.released c.loop-note.invariant.said c.in_ok-say.ensures.said
      (λ before front rest said is. notes_more c.args.sub c.in-Some.note c.args.notes c.loop-note.left c.pop.new.self front rest c.in-Some.ensures.popped said is);
}

pub returns-clause-said : goal.returns-clause-said
returns-clause-said g c =
    also_serves g.C.Centre.kept g.C.Centre.goes c.args.self.now c.loop-note.self
    (λ (before : Before) (lines : List LineRecord). lines ++ said_lines c.args.sub (reverse c.loop-note.left) ≡ said_lines c.args.sub c.args.notes)
    (λ (before : Before) (lines : List LineRecord). lines ≡ said_lines c.args.sub c.args.notes)
    (λ before lines said. notes_all c.args.sub c.args.notes c.loop-note.left lines c.in_default.ensures.none said) c.loop-note.invariant.said
