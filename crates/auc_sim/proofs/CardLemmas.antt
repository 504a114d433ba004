-- The RANDs of two or three triplets, one after another, are taken apart again, and their cards are the triplets.
use Rattle.std.proofs.Common.{◌≡◌, ℕ, ◌*◌, ◌≤◌, ◌==◌, if◌then◌else◌, List, [], ◌∷◌, ◌++◌, All, length, map, flat_map, take, arith, refl, sym, ap, ◌∙◌, length-append, append_assoc}
use Rattle.std.proofs.lemmas.List.{take_at, drop_at}
use Rattle.std.proofs.lemmas.List.Elements.{All-head, All-tail}
use Rattle.auc_hmac.specs.Piece.{piece}
use Rattle.auc_milenage.specs.declared.secret.Secret.{Secret}
use Rattle.auc_sim.specs.Peer.{cards, rands_in}
use Rattle.auc_sim.specs.Session.{SimInputs}
use Rattle.auc_sim.specs.SessionLaws.{AreMatched}
use Rattle.auc_sim.specs.Triplets.{card_of}
use Rattle.auc_sim_packet.specs.Keys.{rand_in}
use Rattle.auc_sim_packet.specs.declared.parts.Triplet.{Triplet}

abbrev HasRand : Triplet → Type 0
HasRand t = length t.rand ≡ 16

-- the RANDs have 16 bytes each
pub rand_sizes : (ts : List Triplet) → All HasRand ts → length (flat_map rand_in ts) ≡ 16 * length ts
rand_sizes [] all = refl
rand_sizes (t ∷ ts) all =
    let first : length t.rand ≡ 16 = All-head HasRand t ts all in
    let rest : length (flat_map rand_in ts) ≡ 16 * length ts = rand_sizes ts (All-tail HasRand t ts all) in
    omega (arith, length-append t.rand (flat_map rand_in ts), first, rest)

-- ---- two or three RANDs

two_of : List ℕ → List (List ℕ)
two_of value = piece 0 16 value ∷ piece 16 16 value ∷ []

three_of : List ℕ → List (List ℕ)
three_of value = piece 0 16 value ∷ piece 16 16 value ∷ piece 32 16 value ∷ []

-- by the number of the bytes
by_size : (value : List ℕ) (n : ℕ) → length value ≡ n → rands_in value ≡ (if n == 48 then three_of value else two_of value)
unfolding two_of three_of
by_size value n size = ap (λ (k : ℕ). if k == 48 then three_of value else two_of value) size

first_piece : (a b : List ℕ) → length a ≡ 16 → piece 0 16 (a ++ b) ≡ a
first_piece a b size = take_at a b 16 size

next_piece : (a b : List ℕ) (from : ℕ) → length a ≡ from → piece from 16 (a ++ b) ≡ take 16 b
next_piece a b from size = ap (take 16) (drop_at a b from size)

two_are : (a b : List ℕ) → length a ≡ 16 → length b ≡ 16 → rands_in (a ++ (b ++ [])) ≡ a ∷ b ∷ []
unfolding two_of
two_are a b ha hb =
    let size : length (a ++ (b ++ [])) ≡ 32 = omega (arith, length-append a (b ++ []), length-append b [], ha, hb) in
    let first : piece 0 16 (a ++ (b ++ [])) ≡ a = first_piece a (b ++ []) ha in
    let second : piece 16 16 (a ++ (b ++ [])) ≡ b = next_piece a (b ++ []) 16 ha ∙ take_at b [] 16 hb in
    by_size (a ++ (b ++ [])) 32 size ∙ ap (λ (x : List ℕ). x ∷ piece 16 16 (a ++ (b ++ [])) ∷ []) first ∙ ap (λ (x : List ℕ). a ∷ x ∷ []) second

three_are : (a b c : List ℕ) → length a ≡ 16 → length b ≡ 16 → length c ≡ 16 → rands_in (a ++ (b ++ (c ++ []))) ≡ a ∷ b ∷ c ∷ []
unfolding three_of
three_are a b c ha hb hc =
    let value : List ℕ = a ++ (b ++ (c ++ [])) in
    let size : length value ≡ 48 = omega (arith, length-append a (b ++ (c ++ [])), length-append b (c ++ []), length-append c [], ha, hb, hc) in
    let front : length (a ++ b) ≡ 32 = omega (arith, length-append a b, ha, hb) in
    let first : piece 0 16 value ≡ a = first_piece a (b ++ (c ++ [])) ha in
    let second : piece 16 16 value ≡ b = next_piece a (b ++ (c ++ [])) 16 ha ∙ take_at b (c ++ []) 16 hb in
    let third : piece 32 16 value ≡ c = ap (piece 32 16) (sym (append_assoc a b (c ++ []))) ∙ next_piece (a ++ b) (c ++ []) 32 front ∙ take_at c [] 16 hc in
    by_size value 48 size ∙ ap (λ (x : List ℕ). x ∷ piece 16 16 value ∷ piece 32 16 value ∷ []) first ∙ ap (λ (x : List ℕ). a ∷ x ∷ piece 32 16 value ∷ []) second ∙ ap (λ (x : List ℕ). a ∷ b ∷ x ∷ []) third

-- the RANDs are what the peer takes out of AT_RAND
rands_of_list : (ts : List Triplet) → 2 ≤ length ts → length ts ≤ 3 → All HasRand ts → rands_in (flat_map rand_in ts) ≡ map rand_in ts
rands_of_list [] least most all = absurd (omega arith)
rands_of_list (a ∷ []) least most all = absurd (omega arith)
rands_of_list (a ∷ b ∷ []) least most all =
    let after = All-tail HasRand a (b ∷ []) all in
    two_are a.rand b.rand (All-head HasRand a (b ∷ []) all) (All-head HasRand b [] after)
rands_of_list (a ∷ b ∷ c ∷ []) least most all =
    let after = All-tail HasRand a (b ∷ c ∷ []) all in
    let last = All-tail HasRand b (c ∷ []) after in
    three_are a.rand b.rand c.rand (All-head HasRand a (b ∷ c ∷ []) all) (All-head HasRand b (c ∷ []) after) (All-head HasRand c [] last)
rands_of_list (a ∷ b ∷ c ∷ d ∷ ts) least most all = absurd (omega arith)

pub rands_are : (inputs : SimInputs) → AreMatched inputs → rands_in (flat_map rand_in inputs.triplets) ≡ map rand_in inputs.triplets
rands_are inputs matched = rands_of_list inputs.triplets matched.least matched.most matched.rands

-- the cards of RANDs of triplets
cards_of : (s : Secret) (ts : List Triplet) → cards s (map rand_in ts) ≡ map (λ t. card_of s t.rand) ts
cards_of s [] = refl
cards_of s (t ∷ ts) = ap (λ (rest : List Triplet). card_of s t.rand ∷ rest) (cards_of s ts)

pub cards_of_rands : (inputs : SimInputs) → AreMatched inputs → cards inputs.secret (map rand_in inputs.triplets) ≡ inputs.triplets
cards_of_rands inputs matched = cards_of inputs.secret inputs.triplets ∙ sym matched.cards

pub cards_are : (inputs : SimInputs) → AreMatched inputs → cards inputs.secret (rands_in (flat_map rand_in inputs.triplets)) ≡ inputs.triplets
cards_are inputs matched = ap (cards inputs.secret) (rands_are inputs matched) ∙ cards_of_rands inputs matched
