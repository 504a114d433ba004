use Rattle.std.proofs.Common.{◌≡◌, ◌≤◌, ℕ, Bool, true, false, length, Some, None, refl, ◌∙◌, ap, cond, ltb, arith}
use Rattle.std.specs.Option.{unwrap_or}
use Rattle.std.specs.List.{position_or_len}
use Rattle.std.specs.Str.{bytes_eq}
use Rattle.std.proofs.lemmas.Bool.{ltb-false}
use Rattle.std.proofs.lemmas.List.Sums.{prefix_len-le-length}
use Rattle.auc_edge.specs.Shelf.{File}
use Rattle.auc_edge.proofs.mem_shelf.place_of.Goals as goal

-- the place if there is one, else the length, is one number
either_way : (place size : ℕ) (test : Bool) → ltb place size ≡ test → place ≤ size → unwrap_or (cond test (Some place) None) size ≡ place
either_way place size true e h = refl
either_way place size false e h = let past = ltb-false place size e in omega arith

pub returns : goal.returns
returns c =
    let p : File → Bool = λ file. bytes_eq file.name c.args.name.now in
    c.unwrap_or.ensures ∙ ap (λ found. unwrap_or found (length c.args.files.now)) c.position_of.ensures
    ∙ either_way (position_or_len p c.args.files.now) (length c.args.files.now) (ltb (position_or_len p c.args.files.now) (length c.args.files.now)) refl (prefix_len-le-length _ c.args.files.now)
