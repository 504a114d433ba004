use Rattle.std.proofs.Common.{ℕ, ◌≤◌, subst, sym}
use Rattle.auc_subs.specs.Subscriber.{top_at}
use Rattle.auc_server.specs.InnerAsking.{IsRedrawn}
use Rattle.auc_server.specs.InnerPlan.{IsFit}
use Rattle.auc_server.specs.InnerServer.{IsNumbered}
use Rattle.auc_server.specs.declared.challenge.Drawn.{Drawn}
use Rattle.auc_server.proofs.HomeLemmas.{home_of}
use Rattle.auc_server.proofs.server.Server.take.Goals as goal

pub draw-number-requires : goal.draw-number-requires
draw-number-requires g c =
    (home_of _ _ _ c.args.homes.now c.in-Challenge.sub c.requires.served.each (subst (IsFit c.args.self.now.options c.args.set.now.rows c.args.homes.now) c.in-Challenge.is c.requires.fits).0).known

pub challenge-requires-clause-listed : goal.challenge-requires-clause-listed
challenge-requires-clause-listed g c =
    (home_of _ _ _ c.args.homes.now c.in-Challenge.sub c.requires.served.each (subst (IsFit c.args.self.now.options c.args.set.now.rows c.args.homes.now) c.in-Challenge.is c.requires.fits).0).listed

pub challenge-requires-clause-number : goal.challenge-requires-clause-number
challenge-requires-clause-number g c =
    subst (λ (d : Drawn). IsNumbered (top_at c.args.set.now.rows c.in-Challenge.sub) d.number) (sym c.without_report.ensures)
    (subst (λ (top : ℕ). IsNumbered top c.draw-number.result)
    (home_of _ _ _ c.args.homes.now c.in-Challenge.sub c.requires.served.each (subst (IsFit c.args.self.now.options c.args.set.now.rows c.args.homes.now) c.in-Challenge.is c.requires.fits).0).greatest
    c.draw-number.ensures.number)

pub draw-number-requires-in-TooSmall : goal.draw-number-requires-in-TooSmall
draw-number-requires-in-TooSmall g c =
    (home_of _ _ _ c.args.homes.now c.in-TooSmall.sub c.requires.served.each (subst (IsFit c.args.self.now.options c.args.set.now.rows c.args.homes.now) c.in-TooSmall.is c.requires.fits).0).known

pub challenge-requires-in-TooSmall-clause-listed : goal.challenge-requires-in-TooSmall-clause-listed
challenge-requires-in-TooSmall-clause-listed g c =
    (home_of _ _ _ c.args.homes.now c.in-TooSmall.sub c.requires.served.each (subst (IsFit c.args.self.now.options c.args.set.now.rows c.args.homes.now) c.in-TooSmall.is c.requires.fits).0).listed

pub challenge-requires-in-TooSmall-clause-number : goal.challenge-requires-in-TooSmall-clause-number
challenge-requires-in-TooSmall-clause-number g c =
    subst (λ (d : Drawn). IsNumbered (top_at c.args.set.now.rows c.in-TooSmall.sub) d.number) (sym c.without_report-in-TooSmall.ensures)
    (subst (λ (top : ℕ). IsNumbered top c.draw-number-in-TooSmall.result)
    (home_of _ _ _ c.args.homes.now c.in-TooSmall.sub c.requires.served.each (subst (IsFit c.args.self.now.options c.args.set.now.rows c.args.homes.now) c.in-TooSmall.is c.requires.fits).0).greatest
    c.draw-number-in-TooSmall.ensures.number)

pub redraw-answered-requires-clause-known : goal.redraw-answered-requires-clause-known
redraw-answered-requires-clause-known g c =
    (home_of _ _ _ c.args.homes.now c.in-Resynchronise.sub c.requires.served.each (subst (IsFit c.args.self.now.options c.args.set.now.rows c.args.homes.now) c.in-Resynchronise.is c.requires.fits).0).known

pub redraw-answered-requires-clause-seq : goal.redraw-answered-requires-clause-seq
redraw-answered-requires-clause-seq g c =
    let fits = subst (IsFit c.args.self.now.options c.args.set.now.rows c.args.homes.now) c.in-Resynchronise.is c.requires.fits in
    subst (λ (top : ℕ). c.in-Resynchronise.seq ≤ top) (sym (home_of _ _ _ c.args.homes.now c.in-Resynchronise.sub c.requires.served.each fits.0).greatest) fits.1

pub resynchronise-requires-clause-listed : goal.resynchronise-requires-clause-listed
resynchronise-requires-clause-listed g c =
    (home_of _ _ _ c.args.homes.now c.in-Resynchronise.sub c.requires.served.each (subst (IsFit c.args.self.now.options c.args.set.now.rows c.args.homes.now) c.in-Resynchronise.is c.requires.fits).0).listed

pub resynchronise-requires-clause-own : goal.resynchronise-requires-clause-own
resynchronise-requires-clause-own g c =
    subst (λ (top : ℕ). IsRedrawn top c.redraw-answered.result)
    (home_of _ _ _ c.args.homes.now c.in-Resynchronise.sub c.requires.served.each (subst (IsFit c.args.self.now.options c.args.set.now.rows c.args.homes.now) c.in-Resynchronise.is c.requires.fits).0).greatest
    c.redraw-answered.ensures.own
