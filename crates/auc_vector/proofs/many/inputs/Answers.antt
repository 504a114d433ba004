use Rattle.std.proofs.Common.{◌+◌, ◌*◌, ◌<◌, ℕ, List, [], length, get_or, ap, ◌∙◌, arith}
use Rattle.std.proofs.lemmas.List.{get_or-map, length-map}
use Rattle.auc_milenage.specs.Milenage.{in1_of, temp_of}
use Rattle.auc_sqn.specs.Number.{sqn_bytes}
use Rattle.auc_vector.proofs.ManyLemmas.{inputs_next, with_four_size}
use Rattle.auc_vector.proofs.many.inputs.Goals as goal

pub loop-i-preserved : goal.loop-i-preserved
loop-i-preserved c = record {
  size = with_four_size c.loop-i.blocks (4 * c.loop-i.i) c.inputs-made.result ∙ c.loop-i.invariant.size;
  done = λ rands e.
      let temp : List ℕ → List ℕ = temp_of c.args.m.now.k c.args.m.now.opc in
      let there : c.loop-i.i < length rands = omega (arith, ap length e, length-map rands temp) in
      inputs_next c.args.m.now c.args.amf c.args.bits c.args.first rands c.loop-i.blocks c.inputs-made.result c.loop-i.i c.loop-i.invariant.size (omega arith)
      (c.loop-i.invariant.done rands e)
      (c.inputs-made.ensures (get_or rands c.loop-i.i []) (sqn_bytes c.args.bits (c.args.first + c.loop-i.i)) c.args.amf
      (ap (λ l. get_or l c.loop-i.i []) e ∙ get_or-map temp rands c.loop-i.i [] [] there)
      (c.in1.ensures ∙ ap (λ q. in1_of q c.args.amf) c.sqn_of.ensures));
}
