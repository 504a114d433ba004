use Rattle.std.proofs.Common.{[], ◌∷◌, get_or, refl, ap, ◌∙◌}
use Rattle.auc_aes.specs.Field.{sub_byte}
use Rattle.auc_aes.proofs.WordLemmas.{next_key_is}
use Rattle.auc_aes.proofs.round.next_key.Goals as goal

pub returns : goal.returns
returns c =
    next_key_is c.args.key c.args.constant c.substitute_word.result c.word.result
    (c.substitute_word.ensures
    ∙ ap (λ t. sub_byte (get_or t 1 0) ∷ sub_byte (get_or t 2 0) ∷ sub_byte (get_or t 3 0) ∷ sub_byte (get_or t 0 0) ∷ []) c.to_be_bytes.ensures)
    c.word.ensures _ _ _ _ refl refl refl refl
