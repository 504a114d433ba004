-- The value of AT_MAC (RFC 4187 §10.15, RFC 9048 §3.4.2) as a function of bytes. A packet is seen as the list of its
-- bytes; its size is how many of them Length counts, and the place is that of the first of the 16 bytes of the value.
use Rattle.std.specs.Prelude.{ℕ, ◌+◌, List, ◌++◌, take, drop, replicate}
use Rattle.auc_hmac.specs.Hmac.{hmac_sha1, hmac_sha256}
use Rattle.auc_hmac.specs.declared.mac.MacInput.{MacInput}
use Rattle.auc_hmac.specs.declared.method.Method.{Method}
use Rattle.auc_hmac.specs.declared.method.Method.TheVariants as methods

-- the value while the code is calculated
abbrev pub no_mac : List ℕ
no_mac = replicate 16 0

-- the value that a packet has
abbrev pub mac_value : List ℕ → ℕ → List ℕ
mac_value packet place = take 16 (drop place packet)

-- HMAC-SHA1-128 under a K_aut of 16 bytes, and HMAC-SHA-256-128 under one of 32
abbrev pub mac_of : Method → List ℕ → List ℕ → List ℕ
mac_of methods.Aka k_aut input = take 16 (hmac_sha1 (take 16 k_aut) input)
mac_of methods.Prime k_aut input = take 16 (hmac_sha256 k_aut input)

-- what is authenticated: the bytes of the packet that Length counts, with the value of AT_MAC zero, and then
-- further bytes that the message authenticates
abbrev pub mac_input : ℕ → List ℕ → ℕ → List ℕ → List ℕ
mac_input size packet place extra = take size (take place packet ++ (no_mac ++ drop (place + 16) packet)) ++ extra

-- the right value for a packet
abbrev pub mac_at : Method → List ℕ → ℕ → List ℕ → ℕ → List ℕ → List ℕ
mac_at method k_aut size packet place extra = mac_of method k_aut (mac_input size packet place extra)

-- the pieces of what is authenticated, as one string
abbrev pub input_text : MacInput → List ℕ
input_text input = input.front.now ++ no_mac ++ input.back.now ++ input.extra.now
