use Rattle.std.proofs.Common.{ap, ◌∙◌}
use Rattle.auc_aes.proofs.WordLemmas.{full_round_is, mixed_substitutes}
use Rattle.auc_aes.proofs.round.full_round.Goals as goal

pub returns : goal.returns
returns c =
    full_round_is c.args.state c.args.round_key c.mix.result c.mix-2.result c.mix-3.result c.mix-4.result
    (c.mix.ensures ∙ ap mixed_substitutes c.shifted.ensures) (c.mix-2.ensures ∙ ap mixed_substitutes c.shifted-2.ensures)
    (c.mix-3.ensures ∙ ap mixed_substitutes c.shifted-3.ensures) (c.mix-4.ensures ∙ ap mixed_substitutes c.shifted-4.ensures)
