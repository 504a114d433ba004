use Rattle.auc_draw.proofs.Facts.{just_drawn}
use Rattle.auc_number_tests.proofs.draw.draw_and_release.Goals as goal

pub release-requires-clause-drawn : goal.release-requires-clause-drawn
release-requires-clause-drawn c = just_drawn _ 0 c.in-Number.n c.args.pass.now.deeds c.draw.new.self.deeds c.in-Number.ensures.draws
