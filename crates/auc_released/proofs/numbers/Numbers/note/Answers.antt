use Rattle.std.proofs.Common.{◌≡◌, ℕ, ◌*◌, ◌/◌, ◌%◌, ◌^◌, ◌||◌, ◌&&◌, Some, slice_get, subst, sym}
use Rattle.std.specs.Prelude.{◌==◌}
use Rattle.std.specs.Int.RustNames.{bit_or}
use Rattle.std.specs.Map.{keys_of}
use Rattle.indexmap.specs.IndexMap.{with_value_at}
use Rattle.auc_released.specs.Numbers.{Released, has}
use Rattle.auc_released.specs.Room.{KeepsRoom}
use Rattle.auc_released.proofs.RoomLemmas.{word_found, word_set, word_set_room, word_set_has}
use Rattle.auc_released.proofs.numbers.Numbers.note.Goals as goal

pub returns-in-Some-clause-added : goal.returns-in-Some-clause-added
returns-in-Some-clause-added c =
    let words = c.self.inside.words in
    let key = c.pair_mut-word.result.0.now in
    let word = c.pair_mut-word.result.1.now in
    let e = c.pair_mut-word.ensures in
    let at = subst (λ (es : Released). slice_get (keys_of es) c.in-Some.place ≡ Some (c.args.number.sub, c.args.number.n / 64)) (sym c.self.view_is) c.in-Some.ensures.found in
    let after = bit_or word (1 * 2 ^ (c.args.number.n % 64) % 2 ^ 64) in
    subst (λ (es : Released). (s m : ℕ) → has (with_value_at words c.in-Some.place after).entries s m ≡ (has es s m || (s == c.args.number.sub && m == c.args.number.n))) c.self.view_is
    (word_set_has words.entries (with_value_at words c.in-Some.place after).entries c.args.number.sub c.args.number.n word
    (word_found words c.in-Some.place key (c.args.number.sub, c.args.number.n / 64) word e.unique e.value at)
    (word_set words c.in-Some.place key (c.args.number.sub, c.args.number.n / 64) word e.unique e.value at after))

pub returns-in-Some-clause-room : goal.returns-in-Some-clause-room
returns-in-Some-clause-room c =
    let words = c.self.inside.words in
    let key = c.pair_mut-word.result.0.now in
    let word = c.pair_mut-word.result.1.now in
    let e = c.pair_mut-word.ensures in
    let at = subst (λ (es : Released). slice_get (keys_of es) c.in-Some.place ≡ Some (c.args.number.sub, c.args.number.n / 64)) (sym c.self.view_is) c.in-Some.ensures.found in
    let after = bit_or word (1 * 2 ^ (c.args.number.n % 64) % 2 ^ 64) in
    subst (λ (es : Released). KeepsRoom es (with_value_at words c.in-Some.place after).entries) c.self.view_is
    (word_set_room words.entries (with_value_at words c.in-Some.place after).entries (c.args.number.sub, c.args.number.n / 64) after
    (word_set words c.in-Some.place key (c.args.number.sub, c.args.number.n / 64) word e.unique e.value at after))
