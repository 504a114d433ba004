use Rattle.std.proofs.Common.{◌≡◌, ℕ, List, map}
use Rattle.auc_draw.specs.Book.{Closes}
use Rattle.auc_jobs.proofs.CrewLemmas.{closes_at}
use Rattle.auc_jobs.proofs.KeepingLemmas.{if_ok_map}
use Rattle.auc_jobs.proofs.workers.last_words.Goals as goal

pub returns : goal.returns
returns c =
    let lists = map (λ p. p.deeds) c.args.passes.items in
    if_ok_map (λ (words : List ℕ). words ≡ c.close-closed.result.words) (λ words. Closes c.args.book lists c.args.keeper (record { words = words; lists = lists }))
    c.words.result (λ words is. closes_at c.args.book lists c.args.keeper c.close-closed.result words c.close-closed.ensures is) c.words.ensures
