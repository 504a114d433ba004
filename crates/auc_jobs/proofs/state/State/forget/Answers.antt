use Rattle.auc_jobs.proofs.StateLemmas.{stands_forgotten}
use Rattle.auc_jobs.proofs.state.State.forget.Goals as goal

pub returns-clause-stands : goal.returns-clause-stands
returns-clause-stands c =
    stands_forgotten (record { words = c.self.inside.words.items; usims = c.self.inside.cards.usims; kept = c.self.inside.cards.kept; released = c.self.inside.released }) c.args.self.now c.new.result c.self.view_is c.new.ensures
