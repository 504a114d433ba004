use Rattle.std.proofs.Common.{[], sym, ◌∙◌, arith}
use Rattle.std.proofs.lemmas.List.{ext_get_or}
use Rattle.auc_hmac.specs.declared.method.Method.TheVariants.{Aka}
use Rattle.auc_vector.specs.Many.{vectors_of}
use Rattle.auc_vector.proofs.ManyLemmas.{none, length-vectors_of, vectors_at}
use Rattle.auc_vector.proofs.many.fill.Goals as goal

pub returns : goal.returns
returns c =
    ext_get_or none c.loop-i.out (vectors_of c.args.m.now Aka c.args.amf [] c.args.bits c.args.first c.args.rands.now)
    (c.loop-i.invariant.size ∙ sym (length-vectors_of c.args.m.now Aka c.args.amf [] c.args.bits c.args.first c.args.rands.now)) (λ i under.
    c.loop-i.invariant.done c.ciphers-ciphers.ensures i (omega (arith, c.loop-i.invariant.size))
    ∙ sym (vectors_at c.args.m.now Aka c.args.amf [] c.args.bits c.args.first c.args.rands.now i (omega (arith, c.loop-i.invariant.size))))
