use Rattle.std.proofs.Common.{List, get_or, ◌∙◌, ap}
use Rattle.auc_memory.specs.Identity.{Identity}
use Rattle.auc_journal.proofs.RoomLemmas.{among_all, at_place}
use Rattle.auc_journal.proofs.places.Places.at.Goals as goal

pub returns-clause-value : goal.returns-clause-value
returns-clause-value c =
    let found : Identity = c.index-imsis-sub.result in
    at_place c.args.self.now.imsis c.args.sub found c.requires (c.index-imsis-sub.is ∙ ap (λ (l : List Identity). get_or l c.args.sub found) c.imsis.ensures.value)

pub returns-clause-among : goal.returns-clause-among
returns-clause-among c =
    let found : Identity = c.index-imsis-sub.result in
    among_all c.args.self.now.all c.args.self.now.imsis c.args.sub found c.imsis.ensures.among c.requires (c.index-imsis-sub.is ∙ ap (λ (l : List Identity). get_or l c.args.sub found) c.imsis.ensures.value)
