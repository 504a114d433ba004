-- For the value of AT_MAC: what is authenticated, in pieces, and how long the value is.
use Rattle.std.proofs.Common.{◌≡◌, ℕ, zero, suc, ◌+◌, ◌-◌, ◌*◌, ◌≤◌, List, ◌++◌, length, take, drop, ap, sym, ◌∙◌, refl, arith, append_assoc, length-append}
use Rattle.std.specs.Prelude.{slice_index}
use Rattle.std.specs.Int.{w32, to_be_bytes}
use Rattle.std.proofs.lemmas.List.{length-take-le}
use Rattle.std.proofs.Math.Seq.{take-append-add}
use Rattle.sha1.specs.Sha1.{sha1, digest_bytes}
use Rattle.sha2.proofs.Facts256.{length-sha256}
use Rattle.auc_hmac.specs.Hmac.{hmac, hmac_sha1, hmac_sha256}
use Rattle.auc_hmac.specs.Mac.{no_mac, mac_of, mac_input}
use Rattle.auc_hmac.specs.declared.method.Method.{Method}
use Rattle.auc_hmac.specs.declared.method.Method.TheVariants as methods

-- as many bytes as a front has, and some of those after it
take_behind : (front rest : List ℕ) (n m : ℕ) → m ≡ length front + n → take m (front ++ rest) ≡ front ++ take n rest
take_behind front rest n m e = ap (λ k. take k (front ++ rest)) e ∙ take-append-add front rest n

-- the bytes up to a size, cut around a block in the place of 16 others
cut_around : (bytes block : List ℕ) (place size : ℕ) → length block ≡ 16 → place + 16 ≤ size → size ≤ length bytes
    → take size (take place bytes ++ (block ++ drop (place + 16) bytes)) ≡ take place bytes ++ (block ++ take (size - (place + 16)) (drop (place + 16) bytes))
cut_around bytes block place size whole within given =
    let front : length (take place bytes) ≡ place = length-take-le place bytes (omega arith) in
    take_behind (take place bytes) (block ++ drop (place + 16) bytes) (size - place) size (omega arith)
    ∙ ap (λ (t : List ℕ). take place bytes ++ t) (take_behind block (drop (place + 16) bytes) (size - (place + 16)) (size - place) (omega arith))

-- what is authenticated, in pieces
pub input_is : (packet extra : List ℕ) (place size : ℕ) → place + 16 ≤ size → size ≤ length packet
    → ((take place packet ++ no_mac) ++ take (size - (place + 16)) (drop (place + 16) packet)) ++ extra ≡ mac_input size packet place extra
input_is packet extra place size within given =
    ap (λ (t : List ℕ). t ++ extra)
    (append_assoc (take place packet) no_mac (take (size - (place + 16)) (drop (place + 16) packet)) ∙ sym (cut_around packet no_mac place size refl within given))

-- n words of a hash value have 4 n bytes
words_length : (h : List ℕ) (n : ℕ) → length (digest_bytes h n) ≡ n * 4
unfolding digest_bytes
words_length h zero = refl
words_length h (suc n) =
    let last : length (to_be_bytes w32 (slice_index h n)) ≡ 4 = refl in
    omega (arith, words_length h n, last, length-append (digest_bytes h n) (to_be_bytes w32 (slice_index h n)))

-- SHA-1 gives 20 bytes
length-sha1 : (m : List ℕ) → length (sha1 m) ≡ 20
unfolding sha1
length-sha1 m = words_length _ 5

length-hmac_sha1 : (key text : List ℕ) → length (hmac_sha1 key text) ≡ 20
unfolding hmac
length-hmac_sha1 key text = length-sha1 _

length-hmac_sha256 : (key text : List ℕ) → length (hmac_sha256 key text) ≡ 32
unfolding hmac
length-hmac_sha256 key text = length-sha256 _

-- the value of AT_MAC has 16 bytes
pub length-mac_of : (method : Method) (k_aut input : List ℕ) → length (mac_of method k_aut input) ≡ 16
length-mac_of methods.Aka k_aut input = length-take-le 16 (hmac_sha1 (take 16 k_aut) input) (omega (arith, length-hmac_sha1 (take 16 k_aut) input))
length-mac_of methods.Prime k_aut input = length-take-le 16 (hmac_sha256 k_aut input) (omega (arith, length-hmac_sha256 k_aut input))
