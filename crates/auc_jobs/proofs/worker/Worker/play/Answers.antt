use Rattle.std.proofs.Common.{◌≡◌, ℕ, List, ap, arith, sym, subst}
use Rattle.std.specs.Prelude.{Option}
use Rattle.auc_lines.specs.declared.part.End.{End}
use Rattle.auc_lines.specs.declared.part.End.TheVariants as end
use Rattle.auc_world.specs.Ending.{deliveries_left}
use Rattle.auc_world.specs.Given.{Before, PlainGives}
use Rattle.auc_subs.specs.Setting.{Setting}
use Rattle.auc_record.specs.declared.event.Event.TheVariants as event
use Rattle.auc_record.specs.declared.record.LineRecord.{LineRecord}
use Rattle.auc_jobs.specs.InnerServing.{Happens, ServesLine, before_at}
use Rattle.auc_jobs.specs.InnerUsims.{usim_of}
use Rattle.auc_jobs.proofs.JobLemmas.{serves_as}
use Rattle.auc_jobs.proofs.PlayLemmas.{PlaysOn, if_made, play_more, plays_all, plays_fewer, plays_first}
use Rattle.auc_jobs.proofs.WorkerLemmas.{goes_on_more, same_serves}
use Rattle.auc_jobs.proofs.worker.Worker.play.Goals as goal

pub loop-made-init : goal.loop-made-init
loop-made-init g c = record {
  same = c.in_ok-made.ensures.same;
  played = λ early beside stands.
      let before : Before = before_at early beside c.args.self.now.lines in
      serves_as (λ i es ws. g.C.Centre.goes c.args.self.now.centre i es ws c.happen.new.self.centre) c.args.self.now.set.rows before (g.C.Centre.kept c.happen.new.self.centre)
      c.args.self.now.released (usim_of c.args.self.now.set.rows c.happen.new.self.world)
      (λ lines. Happens c.args.self.now.set before c.args.self.now.world.net (event.Start c.args.session) c.in_ok-made.made lines c.happen.new.self.world.net)
      (PlaysOn c.args.self.now.set before c.args.self.now.world.net c.args.session c.happen.new.self.world.net end.Peer c.in_ok-made.made) c.happen.new.self.lines
      (λ lines h. plays_first c.args.self.now.set before c.args.self.now.world.net c.happen.new.self.world.net c.args.session c.in_ok-made.made lines h)
      (c.in_ok-made.ensures.happened early beside stands);
}

pub returns-clause-played : goal.returns-clause-played
returns-clause-played g c = λ early beside stands.
    let before : Before = before_at early beside c.args.self.now.lines in
    serves_as (λ i es ws. g.C.Centre.goes c.args.self.now.centre i es ws c.loop-made.self.centre) c.args.self.now.set.rows before (g.C.Centre.kept c.loop-made.self.centre)
    c.args.self.now.released (usim_of c.args.self.now.set.rows c.loop-made.self.world)
    (PlaysOn c.args.self.now.set before c.args.self.now.world.net c.args.session c.loop-made.self.world.net c.loop-made.end c.loop-made.made)
    (λ lines. PlainGives c.args.self.now.set before c.args.self.now.world.net c.args.session lines c.loop-made.self.world.net) c.loop-made.self.lines
    (λ lines on. plays_all c.args.self.now.set before c.args.self.now.world.net c.loop-made.self.world.net c.args.session c.loop-made.end c.loop-made.made lines c.in_default.is on)
    (c.loop-made.invariant.played early beside stands)

pub loop-made-preserved : goal.loop-made-preserved
loop-made-preserved g c = record {
  same = goes_on_more _ _ _ c.args.self.now c.loop-made.self c.happen-in-Some.new.self c.loop-made.invariant.same c.in_ok-made-2.ensures.same;
  played = λ early beside stands.
      subst (λ (e : End). ServesLine (λ i es ws. g.C.Centre.goes c.args.self.now.centre i es ws c.happen-in-Some.new.self.centre) c.args.self.now.set.rows
      (before_at early beside c.args.self.now.lines) (g.C.Centre.kept c.happen-in-Some.new.self.centre) c.args.self.now.released (usim_of c.args.self.now.set.rows c.happen-in-Some.new.self.world)
      (PlaysOn c.args.self.now.set (before_at early beside c.args.self.now.lines) c.args.self.now.world.net c.args.session c.happen-in-Some.new.self.world.net e c.in_ok-made-2.made) c.happen-in-Some.new.self.lines)
      (sym c.other-end.ensures)
      (play_more (λ i es ws. g.C.Centre.goes c.args.self.now.centre i es ws c.loop-made.self.centre) (λ i es ws. g.C.Centre.goes c.loop-made.self.centre i es ws c.happen-in-Some.new.self.centre)
      (λ i es ws. g.C.Centre.goes c.args.self.now.centre i es ws c.happen-in-Some.new.self.centre) c.args.self.now.set early beside c.args.self.now.lines c.loop-made.self.lines c.happen-in-Some.new.self.lines
      (g.C.Centre.kept c.loop-made.self.centre) (g.C.Centre.kept c.happen-in-Some.new.self.centre) c.args.self.now.released (usim_of c.args.self.now.set.rows c.loop-made.self.world)
      (usim_of c.args.self.now.set.rows c.happen-in-Some.new.self.world) c.args.self.now.world.net c.loop-made.self.world.net c.happen-in-Some.new.self.world.net c.args.session c.in-Some.packet c.loop-made.end
      c.loop-made.made c.in_ok-made-2.made c.in-Some.is
      (λ i es fs ws vs. g.met.C.Centre.joins c.args.self.now.centre c.loop-made.self.centre c.happen-in-Some.new.self.centre i es fs ws vs) (c.loop-made.invariant.played early beside stands)
      (same_serves g.C.Centre.kept g.C.Centre.goes c.loop-made.self c.happen-in-Some.new.self
      (λ (s : Setting) (before : Before) (lines : List LineRecord). Happens s before c.loop-made.self.world.net (event.Deliver c.args.session c.loop-made.end c.in-Some.packet) c.in_ok-made-2.made lines c.happen-in-Some.new.self.world.net)
      c.args.self.now.set c.args.self.now.released c.loop-made.invariant.same.worker.set c.loop-made.invariant.same.worker.released c.in_ok-made-2.ensures.happened early beside));
}

pub loop-made-smaller : goal.loop-made-smaller
loop-made-smaller g c =
    let at' : End = c.loop-made.end in
    let net = c.loop-made.self.world.net in
    let next = c.happen-in-Some.new.self.world.net in
    let less = plays_fewer c.each_plain_session_ends.ensures.delivery c.loop-made.self.set net next c.args.session c.in-Some.packet at' c.in_ok-made-2.made c.in_ok-made-2.ensures.led in
    let before : if_made c.loop-made.made (deliveries_left net c.args.session at') ≡ deliveries_left net c.args.session at' =
    ap (λ (o : Option ℕ). if_made o (deliveries_left net c.args.session at')) c.in-Some.is in
    let after = ap (λ (e : End). if_made c.in_ok-made-2.made (deliveries_left next c.args.session e)) c.other-end.ensures in
    omega (arith, less, before, after)
