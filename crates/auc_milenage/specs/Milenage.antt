-- The Milenage functions by the equations of TS 35.206 §4.1, on lists of bytes, with its symbols.
use Rattle.std.specs.Prelude.{ℕ, List, [], ◌∷◌, ◌++◌, take, drop}
use Rattle.std.specs.Int.{w128, to_be_bytes}
use Rattle.auc_aes.specs.Bytes.{xor, rot}
use Rattle.auc_aes.specs.Cipher.{aes}

-- OPc
unfoldable pub opc_of : List ℕ → List ℕ → List ℕ
opc_of k op = xor op (aes k op)

-- ---- the constants

abbrev pub r1 : ℕ
r1 = 64

abbrev pub r2 : ℕ
r2 = 0

abbrev pub r3 : ℕ
r3 = 32

abbrev pub r4 : ℕ
r4 = 64

abbrev pub r5 : ℕ
r5 = 96

-- c1 to c5 are numbers of 128 bits
abbrev pub c1 : ℕ
c1 = 0

abbrev pub c2 : ℕ
c2 = 1

abbrev pub c3 : ℕ
c3 = 2

abbrev pub c4 : ℕ
c4 = 4

abbrev pub c5 : ℕ
c5 = 8

-- ---- the blocks

-- TEMP
unfoldable pub temp_of : List ℕ → List ℕ → List ℕ → List ℕ
temp_of k opc rand = aes k (xor rand opc)

-- IN1
unfoldable pub in1_of : List ℕ → List ℕ → List ℕ
in1_of sqn amf = sqn ++ amf ++ sqn ++ amf

-- OUT1
unfoldable pub out1 : List ℕ → List ℕ → List ℕ → List ℕ → List ℕ → List ℕ
out1 k opc temp sqn amf =
    xor (aes k (xor (xor temp (rot (xor (in1_of sqn amf) opc) r1)) (to_be_bytes w128 c1))) opc

-- OUT2 to OUT5, each by its constants r and c
unfoldable pub out : ℕ → ℕ → List ℕ → List ℕ → List ℕ → List ℕ
out r c k opc temp = xor (aes k (xor (rot (xor temp opc) r) (to_be_bytes w128 c))) opc

-- ---- the functions

-- f1: MAC-A, the first half of OUT1
unfoldable pub f1 : List ℕ → List ℕ → List ℕ → List ℕ → List ℕ → List ℕ
f1 k opc rand sqn amf = take 8 (out1 k opc (temp_of k opc rand) sqn amf)

-- f1*: MAC-S, the second half of OUT1
unfoldable pub f1_star : List ℕ → List ℕ → List ℕ → List ℕ → List ℕ → List ℕ
f1_star k opc rand sqn amf = drop 8 (out1 k opc (temp_of k opc rand) sqn amf)

-- f2: RES, the second half of OUT2
unfoldable pub f2 : List ℕ → List ℕ → List ℕ → List ℕ
f2 k opc rand = drop 8 (out r2 c2 k opc (temp_of k opc rand))

-- f3: CK, which is OUT3
unfoldable pub f3 : List ℕ → List ℕ → List ℕ → List ℕ
f3 k opc rand = out r3 c3 k opc (temp_of k opc rand)

-- f4: IK, which is OUT4
unfoldable pub f4 : List ℕ → List ℕ → List ℕ → List ℕ
f4 k opc rand = out r4 c4 k opc (temp_of k opc rand)

-- f5: AK, the first 6 bytes of OUT2
unfoldable pub f5 : List ℕ → List ℕ → List ℕ → List ℕ
f5 k opc rand = take 6 (out r2 c2 k opc (temp_of k opc rand))

-- f5*: AK of a resynchronisation, the first 6 bytes of OUT5
unfoldable pub f5_star : List ℕ → List ℕ → List ℕ → List ℕ
f5_star k opc rand = take 6 (out r5 c5 k opc (temp_of k opc rand))

-- AUTS: SQN_MS masked by f5*, then MAC-S over the AMF of two zero bytes (TS 33.102 §6.3.3)
unfoldable pub auts : List ℕ → List ℕ → List ℕ → List ℕ → List ℕ
auts k opc rand sqn_ms = xor sqn_ms (f5_star k opc rand) ++ f1_star k opc rand sqn_ms (0 ∷ 0 ∷ [])
