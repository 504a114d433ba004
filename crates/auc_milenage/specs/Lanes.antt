-- Many RANDs of one secret: the blocks that are encrypted together, and what their ciphers are.
use Rattle.std.specs.Prelude.{◌≡◌, ℕ, List}
use Rattle.std.specs.Int.{w128, to_be_bytes}
use Rattle.auc_aes.specs.Bytes.{xor, rot}
use Rattle.auc_milenage.specs.Milenage.{temp_of, out1, out, r1, r2, r3, r4, c1, c2, c3, c4}
use Rattle.auc_milenage.specs.declared.secret.Secret.{Secret}

-- the block that is encrypted for OUT1
unfoldable pub input1 : List ℕ → List ℕ → List ℕ → List ℕ
input1 opc temp in1 = xor (xor temp (rot (xor in1 opc) r1)) (to_be_bytes w128 c1)

-- the block that is encrypted for one of OUT2 to OUT5, by its constants r and c
unfoldable pub input : ℕ → ℕ → List ℕ → List ℕ → List ℕ
input r c opc temp = xor (rot (xor temp opc) r) (to_be_bytes w128 c)

-- four ciphers that are, with OPc added, OUT1 to OUT4 of a RAND, an SQN and an AMF
pub record GiveOuts (s : Secret) (rand sqn amf a b c d : List ℕ) : Type 0 where
  pub first : xor a s.opc ≡ out1 s.k s.opc (temp_of s.k s.opc rand) sqn amf
  pub second : xor b s.opc ≡ out r2 c2 s.k s.opc (temp_of s.k s.opc rand)
  pub third : xor c s.opc ≡ out r3 c3 s.k s.opc (temp_of s.k s.opc rand)
  pub fourth : xor d s.opc ≡ out r4 c4 s.k s.opc (temp_of s.k s.opc rand)
