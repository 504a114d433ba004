-- The messages of both ends may be written.
use Rattle.std.proofs.Common.{◌≡◌, ◌⊎◌, ℕ, zero, suc, ◌+◌, ◌*◌, ◌≤◌, true, false, List, [], ◌∷◌, ◌++◌, length, flat_map, replicate, inl, inr, refl, sym, subst, arith, length-append}
use Rattle.std.proofs.lemmas.Bool.{le-leb}
use Rattle.std.proofs.lemmas.List.{length-replicate}
use Rattle.auc_attr.specs.Item.{item}
use Rattle.auc_attr.specs.Spelling.{fill, fits, sim_fits_item, sim_item_text, shape_text}
use Rattle.auc_attr.specs.Table.{sim_row_of}
use Rattle.auc_hmac.specs.Mac.{no_mac}
use Rattle.auc_sim_packet.specs.Keys.{rand_in}
use Rattle.auc_sim_packet.specs.Messages.{challenge_request, challenge_response, client_error, start_request, start_response, version_one}
use Rattle.auc_sim_packet.specs.Sealed.{MayBeSealedSim}
use Rattle.auc_sim_packet.specs.Spelling.{MayBeWrittenSim, spelling, writable}
use Rattle.auc_sim_packet.specs.declared.attr.SimAttr.{SimAttr}
use Rattle.auc_sim_packet.specs.declared.attr.SimAttr.TheVariants as attr
use Rattle.auc_sim_packet.specs.declared.packet.SimPacket.TheVariants as packet
use Rattle.auc_sim_packet.specs.declared.parts.Triplet.{Triplet}

-- ---- Success and Failure

pub success_may : (id : ℕ) → MayBeWrittenSim (packet.Success id)
success_may id = record { parts = refl; size = omega arith }

pub failure_may : (id : ℕ) → MayBeWrittenSim (packet.Failure id)
failure_may id = record { parts = refl; size = omega arith }

-- ---- Client-Error

client_writable : (code : ℕ) → writable (attr.ClientErrorCode code ∷ []) ≡ true
unfolding fits sim_fits_item sim_row_of
client_writable code = refl

client_size : (code : ℕ) → length (spelling (attr.ClientErrorCode code ∷ [])) ≡ 4
unfolding sim_item_text sim_row_of shape_text
client_size code = refl

pub client_error_may : (id code : ℕ) → MayBeWrittenSim (client_error id code)
client_error_may id code = record { parts = client_writable code; size = omega (arith, client_size code) }

pub client_may_of : (id code : ℕ) (list : List SimAttr) → list ≡ attr.ClientErrorCode code ∷ [] → MayBeWrittenSim (packet.Sim false id 14 list)
client_may_of id code list e = subst (λ (l : List SimAttr). MayBeWrittenSim (packet.Sim false id 14 l)) (sym e) (client_error_may id code)

-- ---- the Start request

start_writable : writable (attr.PermanentIdReq ∷ attr.VersionList version_one ∷ []) ≡ true
unfolding fits sim_fits_item sim_row_of
start_writable = refl

start_size : length (spelling (attr.PermanentIdReq ∷ attr.VersionList version_one ∷ [])) ≡ 12
unfolding sim_item_text sim_row_of shape_text
start_size = refl

pub start_request_may : MayBeWrittenSim start_request
start_request_may = record { parts = start_writable; size = omega (arith, start_size) }

pub start_may_of : (list : List SimAttr) → list ≡ attr.PermanentIdReq ∷ attr.VersionList version_one ∷ [] → MayBeWrittenSim (packet.Sim true 1 10 list)
start_may_of list e = subst (λ (l : List SimAttr). MayBeWrittenSim (packet.Sim true 1 10 l)) (sym e) start_request_may

-- ---- the Start response

identity_writable : (nonce identity : List ℕ) → length nonce ≡ 16 → length identity ≤ 1016
    → writable (attr.NonceMt nonce ∷ attr.SelectedVersion 1 ∷ attr.Identity identity ∷ []) ≡ true
unfolding fits sim_fits_item sim_row_of
identity_writable nonce identity whole short = rw (whole, le-leb (length identity) 1016 (omega (arith, short))) refl

nonce_size : (nonce : List ℕ) → length nonce ≡ 16 → length (sim_item_text (item 7 nonce)) ≡ 20
unfolding sim_item_text sim_row_of shape_text
nonce_size nonce whole = omega (arith, length-append nonce [], whole)

version_size : length (spelling (attr.SelectedVersion 1 ∷ [])) ≡ 4
unfolding sim_item_text sim_row_of shape_text
version_size = refl

-- the text, its length and the least fill
identity_size : (identity : List ℕ) → length (spelling (attr.Identity identity ∷ [])) ≤ 7 + length identity
unfolding sim_item_text sim_row_of shape_text
identity_size identity =
    let zeros : List ℕ = replicate (fill (length identity)) 0 in
    omega (arith, length-append identity zeros, length-append (identity ++ zeros) [], length-replicate {A = ℕ} (fill (length identity)) 0)

response_size : (nonce identity : List ℕ) → length nonce ≡ 16
    → length (spelling (attr.NonceMt nonce ∷ attr.SelectedVersion 1 ∷ attr.Identity identity ∷ [])) ≤ 31 + length identity
response_size nonce identity whole =
    let last : List ℕ = spelling (attr.Identity identity ∷ []) in
    let version : List ℕ = sim_item_text (item 16 (0 ∷ 1 ∷ [])) in
    omega (
      arith,
      length-append (sim_item_text (item 7 nonce)) (version ++ last),
      length-append version last,
      length-append version [],
      nonce_size nonce whole,
      version_size,
      identity_size identity,
    )

pub start_response_may : (id : ℕ) (nonce identity : List ℕ) → length nonce ≡ 16 → length identity ≤ 1016 → MayBeWrittenSim (start_response id nonce identity)
start_response_may id nonce identity whole short = record { parts = identity_writable nonce identity whole short; size = omega (arith, response_size nonce identity whole, short) }

pub start_response_may_of : (id : ℕ) (nonce identity : List ℕ) (list : List SimAttr) → length nonce ≡ 16 → length identity ≤ 1016
    → list ≡ attr.NonceMt nonce ∷ attr.SelectedVersion 1 ∷ attr.Identity identity ∷ [] → MayBeWrittenSim (packet.Sim false id 10 list)
start_response_may_of id nonce identity list whole short e =
    subst (λ (l : List SimAttr). MayBeWrittenSim (packet.Sim false id 10 l)) (sym e) (start_response_may id nonce identity whole short)

-- ---- messages with AT_MAC

mac_size : length (spelling (attr.Mac no_mac ∷ [])) ≡ 20
unfolding sim_item_text sim_row_of shape_text
mac_size = refl

mac_writable : writable (attr.Mac no_mac ∷ []) ≡ true
unfolding fits sim_fits_item sim_row_of
mac_writable = refl

pub challenge_response_may : (id : ℕ) → MayBeSealedSim (challenge_response id)
challenge_response_may id = record { parts = mac_writable; size = omega (arith, mac_size) }

pub challenge_response_may_of : (id : ℕ) (list : List SimAttr) → list ≡ [] → MayBeSealedSim (record { request = false; id = id; subtype = 11; attrs = list })
challenge_response_may_of id list e =
    subst (λ (l : List SimAttr). MayBeSealedSim (record { request = false; id = id; subtype = 11; attrs = l })) (sym e) (challenge_response_may id)

rands_writable : (rands : List ℕ) → (length rands ≡ 32) ⊎ (length rands ≡ 48) → writable (attr.Rand rands ∷ attr.Mac no_mac ∷ []) ≡ true
unfolding fits sim_fits_item sim_row_of
rands_writable rands (inl e) = rw e refl
rands_writable rands (inr e) = rw e refl

rand_size : (rands : List ℕ) → length (sim_item_text (item 1 rands)) ≡ 4 + length rands
unfolding sim_item_text sim_row_of shape_text
rand_size rands = omega (arith, length-append rands [])

short_rands : (rands : List ℕ) → (length rands ≡ 32) ⊎ (length rands ≡ 48) → length rands ≤ 48
short_rands rands (inl e) = omega (arith, e)
short_rands rands (inr e) = omega (arith, e)

challenge_size : (rands : List ℕ) → length (spelling (attr.Rand rands ∷ attr.Mac no_mac ∷ [])) ≡ 24 + length rands
challenge_size rands = omega (arith, length-append (sim_item_text (item 1 rands)) (spelling (attr.Mac no_mac ∷ [])), rand_size rands, mac_size)

-- two or three RANDs of 16 bytes
two_or_three : (n size : ℕ) → 2 ≤ n → n ≤ 3 → size ≡ 16 * n → (size ≡ 32) ⊎ (size ≡ 48)
two_or_three zero size least most e = absurd (omega (arith, least))
two_or_three (suc zero) size least most e = absurd (omega (arith, least))
two_or_three (suc (suc zero)) size least most e = inl (omega (arith, e))
two_or_three (suc (suc (suc zero))) size least most e = inr (omega (arith, e))
two_or_three (suc (suc (suc (suc n)))) size least most e = absurd (omega (arith, most))

pub challenge_may : (triplets : List Triplet) → 2 ≤ length triplets → length triplets ≤ 3 → length (flat_map rand_in triplets) ≡ 16 * length triplets
    → MayBeSealedSim (challenge_request triplets)
challenge_may triplets least most e =
    let rands : List ℕ = flat_map rand_in triplets in
    let whole : (length rands ≡ 32) ⊎ (length rands ≡ 48) = two_or_three (length triplets) (length rands) least most e in
    record { parts = rands_writable rands whole; size = omega (arith, challenge_size rands, short_rands rands whole) }

pub challenge_may_of : (triplets : List Triplet) (list : List SimAttr) → 2 ≤ length triplets → length triplets ≤ 3
    → length (flat_map rand_in triplets) ≡ 16 * length triplets → list ≡ attr.Rand (flat_map rand_in triplets) ∷ []
    → MayBeSealedSim (record { request = true; id = 2; subtype = 11; attrs = list })
challenge_may_of triplets list least most size e =
    subst (λ (l : List SimAttr). MayBeSealedSim (record { request = true; id = 2; subtype = 11; attrs = l })) (sym e) (challenge_may triplets least most size)
