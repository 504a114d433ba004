use Rattle.std.proofs.Common.{◌≡◌, ◌/◌, ◌∙◌, None, Some, slice_get, subst, sym}
use Rattle.std.specs.Map.{keys_of, lookup}
use Rattle.indexmap.proofs.CallerLemmas.{insert_entry-new}
use Rattle.auc_released.specs.Numbers.{Released, is_same_block}
use Rattle.auc_released.specs.Room.{IsRoomier}
use Rattle.auc_released.proofs.RoomLemmas.{has_room, roomier_one}
use Rattle.auc_released.proofs.numbers.Numbers.make_room.Goals as goal

pub returns-in-Some-clause-there : goal.returns-in-Some-clause-there
returns-in-Some-clause-there c =
    has_room c.self.inside.words.entries c.in-Some.place c.args.number.sub c.args.number.n
    (subst (λ (es : Released). slice_get (keys_of es) c.in-Some.place ≡ Some (c.args.number.sub, c.args.number.n / 64)) (sym c.self.view_is) c.in-Some.ensures.found)

pub returns-in_ok-insert-in-None-clause-roomier : goal.returns-in_ok-insert-in-None-clause-roomier
returns-in_ok-insert-in-None-clause-roomier c =
    subst (λ (es : Released). IsRoomier es c.insert.new.self.entries) c.self.view_is
    (roomier_one c.self.inside.words.entries c.insert.new.self.entries (c.args.number.sub, c.args.number.n / 64)
    (c.in_ok-insert-in-None.ensures.entries ∙ insert_entry-new is_same_block c.self.inside.words (c.args.number.sub, c.args.number.n / 64) 0
    (subst (λ (es : Released). lookup (is_same_block (c.args.number.sub, c.args.number.n / 64)) es ≡ None) (sym c.self.view_is) c.in-None.ensures.absent)))
