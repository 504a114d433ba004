use Rattle.std.proofs.Common.{Bool, ◌||◌, ◌&&◌, ◌∙◌, ap}
use Rattle.std.specs.Prelude.{◌==◌}
use Rattle.auc_released.proofs.RoomLemmas.{roomier_has}
use Rattle.auc_released.proofs.numbers.Numbers.add.Goals as goal

pub returns-clause-added : goal.returns-clause-added
returns-clause-added c = λ s m.
    c.note.ensures.added s m ∙ ap (λ (b : Bool). b || (s == c.args.number.sub && m == c.args.number.n)) (roomier_has c.args.self.now c.make_room.new.self c.in_ok-make_room.ensures.roomier s m)
