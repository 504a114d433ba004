use Rattle.std.proofs.Common.{[], map, ap, ◌∙◌}
use Rattle.auc_hmac.specs.declared.method.Method.TheVariants.{Aka}
use Rattle.auc_vector.specs.Many.{keyed_by, vectors_of}
use Rattle.auc_vector.proofs.ManyLemmas.{all_keyed}
use Rattle.auc_vector.proofs.many.vectors.Goals as goal

pub returns-in-Prime : goal.returns-in-Prime
returns-in-Prime c =
    c.key_all.ensures ∙ ap (map (keyed_by c.args.method c.args.name.now))
    (c.fill_all.ensures ∙ ap (λ s. vectors_of s Aka c.args.amf [] c.args.bits c.args.first c.args.rands.now) c.new.ensures)
    ∙ all_keyed c.args.s.now c.args.method c.args.amf c.args.name.now c.args.bits c.args.first c.args.rands.now
