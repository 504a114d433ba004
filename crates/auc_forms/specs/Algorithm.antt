-- The forms `vector K OPC RAND SQN AMF`, with or without the word `autn` behind it, and `auts K OPC RAND SQN`: the seven functions
-- of Milenage (TS 35.206 §4.1), AUTN (TS 33.102 §6.3.2) and AUTS (TS 33.102 §6.3.3).
use Rattle.std.specs.Prelude.{ℕ, ◌==◌, ◌&&◌, ◌++◌, Bool, List, [], length, codes, Option, Some, None, if◌then◌else◌, slice_index_or}
use Rattle.std.specs.Option.{option_and_then, option_map}
use Rattle.std.specs.Str.{bytes_eq}
use Rattle.hex.specs.Hex.{encode_lower}
use Rattle.auc_aes.specs.Bytes.{xor}
use Rattle.auc_milenage.specs.Milenage.{f1, f1_star, f2, f3, f4, f5, f5_star, auts}
use Rattle.auc_text.specs.Field.{octets_in}
use Rattle.auc_forms.specs.declared.algorithm.AlgorithmForm.{AlgorithmForm}
use Rattle.auc_forms.specs.declared.algorithm.AlgorithmForm.TheVariants.{Functions, WithAutn, Auts}
use Rattle.auc_forms.specs.declared.algorithm.AlgorithmWords.{AlgorithmWords}
use Rattle.auc_forms.specs.declared.algorithm.AutsWords.{AutsWords}

-- AUTN: SQN masked by AK, AMF, and MAC-A
abbrev pub autn_at : AlgorithmWords → List ℕ
autn_at v = xor v.sqn (f5 v.k v.opc v.rand) ++ v.amf ++ f1 v.k v.opc v.rand v.sqn v.amf

-- ---- the words

-- the values that five texts spell
abbrev pub values_in : List ℕ → List ℕ → List ℕ → List ℕ → List ℕ → Option AlgorithmWords
values_in k opc rand sqn amf =
    option_and_then (λ k. option_and_then (λ opc. option_and_then (λ rand. option_and_then (λ sqn. option_and_then (λ amf.
    Some (record { k = k; opc = opc; rand = rand; sqn = sqn; amf = amf }))
    (octets_in 2 amf)) (octets_in 6 sqn)) (octets_in 16 rand)) (octets_in 16 opc)) (octets_in 16 k)

-- the values of an AUTS that four texts spell
abbrev pub auts_values_in : List ℕ → List ℕ → List ℕ → List ℕ → Option AutsWords
auts_values_in k opc rand sqn_ms =
    option_and_then (λ k. option_and_then (λ opc. option_and_then (λ rand. option_and_then (λ sqn_ms.
    Some (record { k = k; opc = opc; rand = rand; sqn_ms = sqn_ms }))
    (octets_in 6 sqn_ms)) (octets_in 16 rand)) (octets_in 16 opc)) (octets_in 16 k)

-- a word, from 0
abbrev pub word_at : List (List ℕ) → ℕ → List ℕ
word_at words place = slice_index_or words place []

-- whether there are so many words, of which the first is this one
abbrev pub begins_form : ℕ → List ℕ → List (List ℕ) → Bool
begins_form count first words = length words == count && bytes_eq (word_at words 0) first

-- the values at the places 1 to 5
abbrev pub values_behind : List (List ℕ) → Option AlgorithmWords
values_behind words = values_in (word_at words 1) (word_at words 2) (word_at words 3) (word_at words 4) (word_at words 5)

-- the values of an AUTS at the places 1 to 4
abbrev pub auts_values_behind : List (List ℕ) → Option AutsWords
auts_values_behind words = auts_values_in (word_at words 1) (word_at words 2) (word_at words 3) (word_at words 4)

-- the form that the words have with its values, and none if they have none of these forms
abbrev pub algorithm_named : List (List ℕ) → Option AlgorithmForm
algorithm_named words =
    if begins_form 6 (codes "vector") words then option_map Functions (values_behind words) else
    if begins_form 7 (codes "vector") words && bytes_eq (word_at words 6) (codes "autn") then option_map WithAutn (values_behind words) else
    if begins_form 5 (codes "auts") words then option_map Auts (auts_values_behind words) else None

-- ---- the lines

-- a value's line: its name, and the value in hexadecimal
abbrev pub value_line : List ℕ → List ℕ → List ℕ
value_line name value = name ++ codes " " ++ encode_lower value ++ codes "\n"

-- the seven lines of the functions
unfoldable pub function_lines : AlgorithmWords → List ℕ
function_lines v =
    value_line (codes "f1") (f1 v.k v.opc v.rand v.sqn v.amf)
    ++ value_line (codes "f1*") (f1_star v.k v.opc v.rand v.sqn v.amf)
    ++ value_line (codes "f2") (f2 v.k v.opc v.rand)
    ++ value_line (codes "f3") (f3 v.k v.opc v.rand)
    ++ value_line (codes "f4") (f4 v.k v.opc v.rand)
    ++ value_line (codes "f5") (f5 v.k v.opc v.rand)
    ++ value_line (codes "f5*") (f5_star v.k v.opc v.rand)

-- the line of AUTN
abbrev pub autn_line : AlgorithmWords → List ℕ
autn_line v = value_line (codes "autn") (autn_at v)

-- the line of AUTS
abbrev pub auts_line : AutsWords → List ℕ
auts_line v = value_line (codes "auts") (auts v.k v.opc v.rand v.sqn_ms)

-- the lines of a form
abbrev pub algorithm_text : AlgorithmForm → List ℕ
algorithm_text (Functions v) = function_lines v
algorithm_text (WithAutn v) = function_lines v ++ autn_line v
algorithm_text (Auts v) = auts_line v
