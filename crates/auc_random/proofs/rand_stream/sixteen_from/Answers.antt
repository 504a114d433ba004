use Rattle.std.proofs.Common.{◌∙◌, ap}
use Rattle.rand_chacha.specs.ChaCha.{ChaCha}
use Rattle.auc_random.proofs.RandomLemmas.{sixteen_there}
use Rattle.auc_random.proofs.rand_stream.sixteen_from.Goals as goal

pub returns : goal.returns
returns c =
    c.bytes_of.ensures
    ∙ sixteen_there c.args.key c.next_four.result c.set_stream.new.self c.seek.new.words c.args.stream c.args.place c.requires
    (ap (λ (g : ChaCha). g.key) c.set_stream.ensures ∙ cc) (cc) c.seek.ensures c.next_four.ensures.words
