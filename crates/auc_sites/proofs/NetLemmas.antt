-- A network in memory: its state at the beginning.
use Rattle.std.proofs.Common.{◌≡◌, ℕ, zero, suc, ◌+◌, ◌≤◌, List, [], ◌∷◌, ◌++◌, All, length, replicate, Option, None, refl, sym, ap, subst, ◌∙◌, arith}
use Rattle.std.proofs.lemmas.List.{length-replicate}
use Rattle.std.proofs.lemmas.List.Elements.{All-cons}
use Rattle.auc_sites.specs.declared.grant.Grant.{Grant}
use Rattle.auc_sites.specs.declared.packet.Packet.{Packet}
use Rattle.auc_sites.specs.Master.{HasSite, nothing_granted}
use Rattle.auc_sites.specs.Network.{sites_from}
use Rattle.auc_sites.specs.Site.{SiteState, new_site}
use Rattle.auc_sites.specs.SiteNet.{IsNetState, site_of}

-- one site more
sites_more : (id boot count : ℕ) → sites_from id (replicate (suc count) boot) ≡ sites_from id (replicate count boot) ++ new_site (id + count) boot ∷ []
sites_more id boot zero = ap (λ (i : ℕ). new_site i boot ∷ []) (omega arith)
sites_more id boot (suc count) =
    ap (λ (ss : List SiteState). new_site id boot ∷ ss) (sites_more (id + 1) boot count)
    ∙ ap (λ (i : ℕ). new_site id boot ∷ (sites_from (id + 1) (replicate count boot) ++ new_site i boot ∷ [])) (omega arith)

pub sites_pushed : (boot count : ℕ) (sites more : List SiteState) (s : SiteState) → sites ≡ sites_from 1 (replicate count boot) → s ≡ new_site (count + 1) boot
    → more ≡ sites ++ s ∷ [] → more ≡ sites_from 1 (replicate (count + 1) boot)
sites_pushed boot count sites more s so_far new pushed =
    let id : count + 1 ≡ 1 + count = omega arith in
    let next : suc count ≡ count + 1 = omega arith in
    pushed ∙ ap (λ (ss : List SiteState). ss ++ s ∷ []) so_far
    ∙ ap (λ (t : SiteState). sites_from 1 (replicate count boot) ++ t ∷ []) (new ∙ ap (λ (i : ℕ). new_site i boot) id)
    ∙ sym (sites_more 1 boot count) ∙ ap (λ (n : ℕ). sites_from 1 (replicate n boot)) next

-- there are as many as boot numbers
count_sites : (id : ℕ) (boots : List ℕ) → length (sites_from id boots) ≡ length boots
count_sites id [] = refl
count_sites id (boot ∷ boots) = ap suc (count_sites (id + 1) boots)

-- the master knows each of them
know_sites : (last : List (Option Grant)) (id : ℕ) (boots : List ℕ) → 1 ≤ id → id + length boots ≤ length last + 1 → All (λ s. HasSite last s.id) (sites_from id boots)
know_sites last id [] first room = λ k d k<n. absurd (omega arith)
know_sites last id (boot ∷ boots) first room =
    All-cons (λ (s : SiteState). HasSite last s.id) (new_site id boot) (sites_from (id + 1) boots) (first, omega (arith, room))
    (know_sites last (id + 1) boots (omega arith) (omega (arith, room)))

-- none has asked
none_asks : (count id : ℕ) (boots : List ℕ) → All (λ s. s.asks ≤ count) (sites_from id boots)
none_asks count id [] = λ k d k<n. absurd (omega arith)
none_asks count id (boot ∷ boots) = All-cons (λ (s : SiteState). s.asks ≤ count) (new_site id boot) (sites_from (id + 1) boots) (omega arith) (none_asks count (id + 1) boots)

first_state : (count : ℕ) → IsNetState (record { sites = sites_from 1 (replicate count 1); last = nothing_granted count; packets = [] })
first_state count =
    let boots = length-replicate {A = ℕ} count 1 in
    let lasts = length-replicate {A = Option Grant} count None in
    let sites = count_sites 1 (replicate count 1) in
    record {
      size = omega (arith, boots, lasts, sites);
      sites = know_sites (nothing_granted count) 1 (replicate count 1) (omega arith) (omega (arith, boots, lasts));
      asks = none_asks 0 1 (replicate count 1);
      packets = λ k d k<n. absurd (omega arith);
    }

pub begins : (count : ℕ) (sites : List SiteState) (last : List (Option Grant)) (packets : List Packet) → sites ≡ sites_from 1 (replicate count 1)
    → last ≡ nothing_granted count → packets ≡ [] → IsNetState (record { sites = sites; last = last; packets = packets })
begins count sites last packets first none unsent = rw (first, none, unsent) (first_state count)
