use Rattle.std.proofs.Common.{◌++◌, [], get_or, take, drop, refl, ap, ◌∙◌, arith}
use Rattle.auc_aes.specs.Bytes.{xor}
use Rattle.auc_milenage.specs.Milenage.{in1_of}
use Rattle.auc_sqn.specs.Number.{sqn_bytes}
use Rattle.auc_vector.proofs.ManyLemmas.{made_is}
use Rattle.auc_vector.proofs.many.made.Goals as goal

pub returns : goal.returns
returns c give =
    made_is c.args.m.now c.args.amf c.args.rand (get_or c.args.ciphers 0 []) (get_or c.args.ciphers 1 []) (get_or c.args.ciphers 2 [])
    (get_or c.args.ciphers 3 []) _ _ _ _ c.args.bits c.args.n give
    (c.autn.ensures (sqn_bytes c.args.bits c.args.n) c.args.amf refl (omega arith) (c.in1.ensures ∙ ap (λ q. in1_of q c.args.amf) c.sqn_of.ensures)
    ∙ ap (λ o. xor (sqn_bytes c.args.bits c.args.n) (take 6 o) ++ c.args.amf ++ take 8 c.out-out1.result) c.out-out2.ensures
    ∙ ap (λ o. xor (sqn_bytes c.args.bits c.args.n) (take 6 (xor (get_or c.args.ciphers 1 []) c.args.m.now.opc)) ++ c.args.amf ++ take 8 o) c.out-out1.ensures)
    (c.second_half.ensures ∙ ap (drop 8) c.out-out2.ensures) c.out.ensures c.out-2.ensures
