use Rattle.auc_jobs.proofs.StateLemmas.{stands_opened}
use Rattle.auc_jobs.proofs.state.State.open_at.Goals as goal

pub returns-clause-stands : goal.returns-clause-stands
returns-clause-stands c =
    stands_opened (record { words = c.self.inside.words.items; usims = c.self.inside.cards.usims; kept = c.self.inside.cards.kept; released = c.self.inside.released }) c.args.self.now c.args.words.items c.self.view_is c.requires
