use Rattle.std.proofs.Common.{ap, ◌∙◌}
use Rattle.auc_aes.specs.Bytes.{xor, rot}
use Rattle.auc_aes.specs.Cipher.{aes}
use Rattle.auc_milenage.specs.Milenage.{in1_of, out1, r1}
use Rattle.auc_milenage.proofs.milenage.Milenage.out1.Goals as goal

pub returns : goal.returns
unfolding out1
returns c =
    rw (← c.self.view_is) (c.xor-3.ensures
    ∙ ap (λ b. xor b c.self.inside.opc) (c.encrypt.ensures ∙ ap (aes c.self.inside.key) (c.xor-input.ensures
    ∙ ap (λ b. xor b c.to_be_bytes.result) (c.xor-2.ensures
    ∙ ap (xor c.args.temp) (c.rot-turned.ensures ∙ ap (λ b. rot b r1)
    (c.xor.ensures ∙ ap (λ b. xor b c.self.inside.opc) c.in1.ensures)))
    ∙ ap (xor (xor c.args.temp (rot (xor (in1_of c.args.sqn c.args.amf) c.self.inside.opc) r1))) c.to_be_bytes.ensures)))
