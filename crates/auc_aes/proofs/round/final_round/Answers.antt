use Rattle.std.proofs.Common.{ap, ◌∙◌}
use Rattle.auc_aes.proofs.WordLemmas.{final_round_is, substitutes}
use Rattle.auc_aes.proofs.round.final_round.Goals as goal

pub returns : goal.returns
returns c =
    final_round_is c.args.state c.args.round_key c.substitute_word.result c.substitute_word-2.result c.substitute_word-3.result c.substitute_word-4.result
    (c.substitute_word.ensures ∙ ap substitutes c.shifted.ensures) (c.substitute_word-2.ensures ∙ ap substitutes c.shifted-2.ensures)
    (c.substitute_word-3.ensures ∙ ap substitutes c.shifted-3.ensures) (c.substitute_word-4.ensures ∙ ap substitutes c.shifted-4.ensures)
