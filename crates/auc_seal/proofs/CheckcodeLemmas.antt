-- For the checkcode that is given one more packet.
use Rattle.std.proofs.Common.{◌≡◌, ℕ, false, List, [], ◌∷◌, ◌++◌, refl, sym, ap, ◌∙◌, subst}
use Rattle.std.specs.List.{concat}
use Rattle.std.proofs.lemmas.List.{append-nil}
use Rattle.std.proofs.lemmas.List.Folds.{concat-append}
use Rattle.auc_hmac.specs.declared.method.Method.{Method}
use Rattle.auc_seal.specs.declared.checkcode.Checkcode.{Checkcode}
use Rattle.auc_seal.specs.declared.checkcode.Hasher.{Hasher}
use Rattle.auc_seal.specs.Checkcode.{HoldsBytes, HoldsPackets, is_none}

-- the bytes of packets and one more
concat_more : (packets : List (List ℕ)) (packet : List ℕ) → concat (packets ++ packet ∷ []) ≡ concat packets ++ packet
concat_more packets packet = concat-append packets (packet ∷ []) ∙ ap (λ (t : List ℕ). concat packets ++ t) (append-nil packet)

some_more : (packets : List (List ℕ)) (packet : List ℕ) → false ≡ is_none (packets ++ packet ∷ [])
some_more [] packet = refl
some_more (first ∷ packets) packet = refl

-- the checkcode has one packet more, where its hash was fed it
pub one_more : (code : Checkcode) (hasher : Hasher) (method : Method) (packets : List (List ℕ)) (packet : List ℕ) → HoldsPackets code method packets
    → ((m : Method) (fed : List ℕ) → HoldsBytes code.hasher m fed → HoldsBytes hasher m (fed ++ packet))
    → HoldsPackets (record { hasher = hasher; is_empty = false }) method (packets ++ packet ∷ [])
one_more code hasher method packets packet holds feeds = record {
  hashed = subst (λ (bytes : List ℕ). HoldsBytes hasher method bytes) (sym (concat_more packets packet)) (feeds method (concat packets) holds.hashed);
  counted = some_more packets packet;
}
