-- What holds of a network at any time, and what keeps it: a packet, a changed site, a number that is handed out, a grant.
use Rattle.std.proofs.Common.{◌≡◌, ◌≢◌, ℕ, ◌+◌, ◌<◌, ◌≤◌, ◌⊎◌, inl, inr, true, List, [], ◌∷◌, ◌++◌, slice_get, slice_set, AllPairs, Contains, Option, Some, sym, ap, subst, ◌∙◌, arith}
use Rattle.std.proofs.lemmas.List.{get_or_default}
use Rattle.std.proofs.lemmas.List.Elements.{Contains-append_left, Contains-append_right, Contains-push, Contains-push_cases}
use Rattle.std.proofs.lemmas.List.Quantifiers.{all_pairs_push}
use Rattle.std.specs.Option.{unwrap_or}
use Rattle.auc_sites.specs.declared.grant.Grant.{Grant}
use Rattle.auc_sites.specs.declared.request.Request.{Request}
use Rattle.auc_sites.specs.Lease.{IsRising}
use Rattle.auc_sites.specs.Master.{place_of, with_grant}
use Rattle.auc_sites.specs.Network.{Network, Packet, Asking, Granting, with_last, with_new_grant, with_number, with_packet, with_site}
use Rattle.auc_sites.specs.Site.{SiteState}
use Rattle.auc_sites.proofs.ListLemmas.{set_cases}

-- ---- the invariant

-- a request is past at a site: the site doesn't wait for it, and never will again
abbrev pub IsPast : SiteState → Request → Type 0
IsPast s r = (r.boot < s.boot) ⊎ ((r.boot ≡ s.boot) × (r.ask ≤ s.asks) × (s.waits ≡ true → r.ask < s.asks))

-- a number is of a grant for a site, whose request is past there
abbrev pub IsFrom : List Grant → SiteState → ℕ → Type 0
IsFrom grants s n = (g : Grant) × Contains grants g × Contains g.lease n × (g.request.site ≡ s.id) × IsPast s g.request

-- a number is of a grant whose request is past at its site, whichever that is
abbrev pub IsSpent : List Grant → List SiteState → ℕ → Type 0
IsSpent grants sites n = (g : Grant) × Contains grants g × Contains g.lease n
    × ((i : ℕ) (s : SiteState) → slice_get sites i ≡ Some s → g.request.site ≡ s.id → IsPast s g.request)

-- what a site holds: rising numbers of grants whose requests are past there, and none that was handed out
pub record HoldsWell (grants : List Grant) (drawn : List ℕ) (s : SiteState) : Type 0 where
  pub rise : IsRising s.held
  pub from : (n : ℕ) → Contains s.held n → IsFrom grants s n
  pub undrawn : (n : ℕ) → Contains s.held n → Contains drawn n → ⊥

-- two grants with a common number are equal
abbrev pub AreOne : List Grant → Type 0
AreOne grants = (g h : Grant) (n : ℕ) → Contains grants g → Contains grants h → Contains g.lease n → Contains h.lease n → g ≡ h

-- of a network, and of the numbers that the centre has given
pub record IsSound (numbers : List ℕ) (w : Network) : Type 0 where
  -- the grants: a number is of one of them alone, is one that was given, and they rise
  pub one : AreOne w.grants
  pub known : (g : Grant) (n : ℕ) → Contains w.grants g → Contains g.lease n → Contains numbers n
  pub rise : (g : Grant) → Contains w.grants g → IsRising g.lease
  -- a grant that was sent or is remembered was made
  pub sent : (g : Grant) → Contains w.packets (Granting g) → Contains w.grants g
  pub last : (i : ℕ) (g : Grant) → slice_get w.last i ≡ Some (Some g) → Contains w.grants g
  -- the sites: their numbers count from 1, and what they hold
  pub ids : (i : ℕ) (s : SiteState) → slice_get w.sites i ≡ Some s → s.id ≡ i + 1
  pub held : (i : ℕ) (s : SiteState) → slice_get w.sites i ≡ Some s → HoldsWell w.grants w.drawn s
  -- the numbers that were handed out: of grants whose requests are past, and none twice
  pub spent : (n : ℕ) → Contains w.drawn n → IsSpent w.grants w.sites n
  pub differ : AllPairs ◌≢◌ w.drawn

-- further numbers were given
pub sound_given : (numbers more : List ℕ) (w : Network) → IsSound numbers w → IsSound (numbers ++ more) w
sound_given numbers more w sound = record {
  one = sound.one;
  known = λ g n g_in n_in. Contains-append_left numbers more n (sound.known g n g_in n_in);
  rise = sound.rise;
  sent = sound.sent;
  last = sound.last;
  ids = sound.ids;
  held = sound.held;
  spent = sound.spent;
  differ = sound.differ;
}

-- ---- a packet

-- a grant in a packet was made
abbrev pub IsKnown : List Grant → Packet → Type 0
IsKnown grants (Asking r) = Unit {0}
IsKnown grants (Granting g) = Contains grants g

known_packet : (grants : List Grant) (p : Packet) (g : Grant) → IsKnown grants p → p ≡ Granting g → Contains grants g
known_packet grants p g known same = let there : IsKnown grants (Granting g) = subst (IsKnown grants) same known in there

pub sound_packet : (numbers : List ℕ) (w : Network) (p : Packet) → IsSound numbers w → IsKnown w.grants p → IsSound numbers (with_packet w p)
sound_packet numbers w p sound known = record {
  one = sound.one;
  known = sound.known;
  rise = sound.rise;
  sent = λ g sent. by_cases g (Contains-push_cases w.packets p (Granting g) sent);
  last = sound.last;
  ids = sound.ids;
  held = sound.held;
  spent = sound.spent;
  differ = sound.differ;
}
  where
    by_cases : (g : Grant) → Contains w.packets (Granting g) ⊎ (p ≡ Granting g) → Contains w.grants g
    by_cases g (inl before) = sound.sent g before
    by_cases g (inr same) = known_packet w.grants p g known same

-- ---- a site in another state

-- what is past stays past
abbrev pub KeepsPast : SiteState → SiteState → Type 0
KeepsPast old new = (r : Request) → IsPast old r → IsPast new r

pub sound_site : (numbers : List ℕ) (w : Network) (i : ℕ) (old new : SiteState) → IsSound numbers w → slice_get w.sites i ≡ Some old
    → new.id ≡ old.id → KeepsPast old new → HoldsWell w.grants w.drawn new → IsSound numbers (with_site w i new)
sound_site numbers w i old new sound there same_id past holds = record {
  one = sound.one;
  known = sound.known;
  rise = sound.rise;
  sent = sound.sent;
  last = sound.last;
  ids = λ j s is. ids_by j s (set_cases w.sites i j new s is);
  held = λ j s is. held_by j s (set_cases w.sites i j new s is);
  spent = λ n drawn. spent_by n (sound.spent n drawn);
  differ = sound.differ;
}
  where
    ids_by : (j : ℕ) (s : SiteState) → ((j ≡ i) × (s ≡ new)) ⊎ ((j ≢ i) × (slice_get w.sites j ≡ Some s)) → s.id ≡ j + 1
    ids_by j s (inl (same, is)) =
        let was : old.id ≡ i + 1 = sound.ids i old there in
        let now : s.id ≡ new.id = ap (λ (v : SiteState). v.id) is in
        omega (arith, was, now, same, same_id)
    ids_by j s (inr (other, is)) = sound.ids j s is

    held_by : (j : ℕ) (s : SiteState) → ((j ≡ i) × (s ≡ new)) ⊎ ((j ≢ i) × (slice_get w.sites j ≡ Some s)) → HoldsWell w.grants w.drawn s
    held_by j s (inl (same, is)) = subst (HoldsWell w.grants w.drawn) (sym is) holds
    held_by j s (inr (other, is)) = sound.held j s is

    past_at : (g : Grant) → ((k : ℕ) (v : SiteState) → slice_get w.sites k ≡ Some v → g.request.site ≡ v.id → IsPast v g.request) → (j : ℕ) (s : SiteState)
        → ((j ≡ i) × (s ≡ new)) ⊎ ((j ≢ i) × (slice_get w.sites j ≡ Some s)) → g.request.site ≡ s.id → IsPast s g.request
    past_at g gone j s (inl (same, is)) its =
        let now : s.id ≡ new.id = ap (λ (v : SiteState). v.id) is in
        let before : IsPast old g.request = gone i old there (omega (arith, its, now, same_id)) in
        subst (λ (v : SiteState). IsPast v g.request) (sym is) (past g.request before)
    past_at g gone j s (inr (other, is)) its = gone j s is its

    spent_by : (n : ℕ) → IsSpent w.grants w.sites n → IsSpent w.grants (slice_set w.sites i new) n
    spent_by n (g, g_in, n_in, gone) = (g, g_in, n_in, λ j s is its. past_at g gone j s (set_cases w.sites i j new s is) its)

-- ---- a number that is handed out

pub sound_number : (numbers : List ℕ) (w : Network) (n : ℕ) → IsSound numbers w → IsSpent w.grants w.sites n → (Contains w.drawn n → ⊥)
    → ((i : ℕ) (s : SiteState) → slice_get w.sites i ≡ Some s → Contains s.held n → ⊥) → IsSound numbers (with_number w (Some n))
sound_number numbers w n sound spent new unheld = record {
  one = sound.one;
  known = sound.known;
  rise = sound.rise;
  sent = sound.sent;
  last = sound.last;
  ids = sound.ids;
  held = λ i s is. record {
    rise = (sound.held i s is).rise;
    from = (sound.held i s is).from;
    undrawn = λ m held drawn. undrawn_by i s is m held (Contains-push_cases w.drawn n m drawn);
  };
  spent = λ m drawn. spent_by m (Contains-push_cases w.drawn n m drawn);
  differ = all_pairs_push ◌≢◌ w.drawn n sound.differ (λ k d k<n same. new (k, k<n, get_or_default w.drawn k n d k<n ∙ same));
}
  where
    undrawn_by : (i : ℕ) (s : SiteState) → slice_get w.sites i ≡ Some s → (m : ℕ) → Contains s.held m → Contains w.drawn m ⊎ (n ≡ m) → ⊥
    undrawn_by i s is m held (inl before) = (sound.held i s is).undrawn m held before
    undrawn_by i s is m held (inr same) = unheld i s is (subst (Contains s.held) (sym same) held)

    spent_by : (m : ℕ) → Contains w.drawn m ⊎ (n ≡ m) → IsSpent w.grants w.sites m
    spent_by m (inl before) = sound.spent m before
    spent_by m (inr same) = subst (IsSpent w.grants w.sites) same spent

-- ---- a grant of new numbers

-- the master remembers it and sends it
pub sound_grant : (numbers : List ℕ) (w : Network) (g : Grant) → IsSound numbers w → IsRising g.lease → ((n : ℕ) → Contains numbers n → Contains g.lease n → ⊥)
    → IsSound (numbers ++ g.lease) (with_new_grant (with_last w (with_grant w.last g)) g)
sound_grant numbers w g sound rises fresh = record {
  one = λ a b n a_in b_in n_a n_b. one_by a b n (Contains-push_cases w.grants g a a_in) (Contains-push_cases w.grants g b b_in) n_a n_b;
  known = λ a n a_in n_in. known_by a n (Contains-push_cases w.grants g a a_in) n_in;
  rise = λ a a_in. rise_by a (Contains-push_cases w.grants g a a_in);
  sent = λ a sent. sent_by a (Contains-push_cases w.packets (Granting g) (Granting a) sent);
  last = λ i a is. last_by i a (set_cases w.last (place_of g.request.site) i (Some g) (Some a) is);
  ids = sound.ids;
  held = λ i s is. record {
    rise = (sound.held i s is).rise;
    from = λ n held. from_by s n ((sound.held i s is).from n held);
    undrawn = (sound.held i s is).undrawn;
  };
  spent = λ n drawn. spent_by n (sound.spent n drawn);
  differ = sound.differ;
}
  where
    with_it : {n : ℕ} {a : Grant} → g ≡ a → Contains a.lease n → Contains g.lease n
    with_it {n = n} is n_in = subst (λ (h : Grant). Contains h.lease n) (sym is) n_in

    one_by : (a b : Grant) (n : ℕ) → Contains w.grants a ⊎ (g ≡ a) → Contains w.grants b ⊎ (g ≡ b) → Contains a.lease n → Contains b.lease n → a ≡ b
    one_by a b n (inl before) (inl too) n_a n_b = sound.one a b n before too n_a n_b
    one_by a b n (inl before) (inr is) n_a n_b = absurd (fresh n (sound.known a n before n_a) (with_it is n_b))
    one_by a b n (inr is) (inl before) n_a n_b = absurd (fresh n (sound.known b n before n_b) (with_it is n_a))
    one_by a b n (inr is) (inr too) n_a n_b = sym is ∙ too

    known_by : (a : Grant) (n : ℕ) → Contains w.grants a ⊎ (g ≡ a) → Contains a.lease n → Contains (numbers ++ g.lease) n
    known_by a n (inl before) n_in = Contains-append_left numbers g.lease n (sound.known a n before n_in)
    known_by a n (inr is) n_in = Contains-append_right numbers g.lease n (with_it is n_in)

    rise_by : (a : Grant) → Contains w.grants a ⊎ (g ≡ a) → IsRising a.lease
    rise_by a (inl before) = sound.rise a before
    rise_by a (inr is) = subst (λ (h : Grant). IsRising h.lease) is rises

    sent_by : (a : Grant) → Contains w.packets (Granting a) ⊎ (Granting g ≡ Granting a) → Contains (w.grants ++ g ∷ []) a
    sent_by a (inl before) = Contains-append_left w.grants (g ∷ []) a (sound.sent a before)
    sent_by a (inr is) = known_packet (w.grants ++ g ∷ []) (Granting g) a (Contains-push w.grants g) is

    last_by : (i : ℕ) (a : Grant) → ((i ≡ place_of g.request.site) × (Some a ≡ Some g)) ⊎ ((i ≢ place_of g.request.site) × (slice_get w.last i ≡ Some (Some a))) → Contains (w.grants ++ g ∷ []) a
    last_by i a (inl (same, is)) = subst (Contains (w.grants ++ g ∷ [])) (sym (ap (λ (o : Option Grant). unwrap_or o g) is)) (Contains-push w.grants g)
    last_by i a (inr (other, is)) = Contains-append_left w.grants (g ∷ []) a (sound.last i a is)

    from_by : (s : SiteState) (n : ℕ) → IsFrom w.grants s n → IsFrom (w.grants ++ g ∷ []) s n
    from_by s n (h, h_in, n_in, its, past) = (h, Contains-append_left w.grants (g ∷ []) h h_in, n_in, its, past)

    spent_by : (n : ℕ) → IsSpent w.grants w.sites n → IsSpent (w.grants ++ g ∷ []) w.sites n
    spent_by n (h, h_in, n_in, past) = (h, Contains-append_left w.grants (g ∷ []) h h_in, n_in, past)
