-- Each event keeps what holds of a network.
use Rattle.std.proofs.Common.{◌≡◌, ◌≢◌, ℕ, zero, suc, ◌+◌, ◌<◌, ◌⊎◌, inl, inr, Bool, true, false, nat_lt, ◌&&◌, ◌==◌, if◌then◌else◌, List, [], ◌∷◌, ◌++◌, length, slice_get, slice_set, Contains, Option, Some, None, refl, sym, ap, subst, ◌∙◌, arith, eqb-true}
use Rattle.std.proofs.lemmas.Bool.{ltb-true}
use Rattle.auc_vector.specs.declared.centre.CentreRefusal.{CentreRefusal}
use Rattle.auc_sites.specs.declared.grant.Grant.{Grant}
use Rattle.auc_sites.specs.declared.master.Judged.TheVariants as judged
use Rattle.auc_sites.specs.declared.request.Request.{Request}
use Rattle.auc_sites.specs.Lease.{IsRising}
use Rattle.auc_sites.specs.Master.{judgement, last_grant, nothing_granted, or_none, place_of}
use Rattle.auc_sites.specs.Network.{Network, Packet, Asking, Granting, Event, Ask, Deliver, Draw, Restart, RestartAt, MasterRestart, after_asking, after_delivery, after_drawing, after_event, after_reply, after_restarting, after_restarting_at, after_taking, with_last, with_number, with_packet, with_site}
use Rattle.auc_sites.specs.Reply.{reply_by, reply_to_new}
use Rattle.auc_sites.specs.Request.{is_before, same_request}
use Rattle.auc_sites.specs.Site.{SiteState, after_ask, after_draw, can_restart, is_awaited, last_request, new_site, next_number}
use Rattle.auc_sites.proofs.ListLemmas.{first_alone, no_pairs, none_stands, place_stands, rest_stands, rising_rest, set_cases}
use Rattle.auc_sites.proofs.SoundLemmas.{HoldsWell, IsFrom, IsPast, IsSound, IsSpent, KeepsPast, sound_given, sound_grant, sound_number, sound_packet, sound_site}

-- a site that holds no more than before, and keeps what is past
holds_less : (grants : List Grant) (drawn : List ℕ) (old new : SiteState) → ((n : ℕ) → Contains new.held n → Contains old.held n) → IsRising new.held
    → new.id ≡ old.id → KeepsPast old new → HoldsWell grants drawn old → HoldsWell grants drawn new
holds_less grants drawn old new held rises same_id past holds = record {
  rise = rises;
  from = λ n n_in. from_by n (holds.from n (held n n_in));
  undrawn = λ n n_in. holds.undrawn n (held n n_in);
}
  where
    from_by : (n : ℕ) → IsFrom grants old n → IsFrom grants new n
    from_by n (g, g_in, n_in, its, gone) = (g, g_in, n_in, its ∙ sym same_id, past g.request gone)

-- ---- a site asks

ask_keeps : (s : SiteState) → KeepsPast s (after_ask s)
ask_keeps s r (inl before) = inl before
ask_keeps s r (inr (boot, ask, waited)) = inr (boot, omega (arith, ask), λ waits. omega (arith, ask))

sound_ask : (numbers : List ℕ) (w : Network) (i : ℕ) (there : Option SiteState) → slice_get w.sites i ≡ there → IsSound numbers w → IsSound numbers (after_asking w i there)
sound_ask numbers w i None is sound = sound
sound_ask numbers w i (Some s) is sound =
    let holds = holds_less w.grants w.drawn s (after_ask s) (λ n n_in. n_in) (sound.held i s is).rise refl (ask_keeps s) (sound.held i s is) in
    let placed = sound_site numbers w i s (after_ask s) sound is refl (ask_keeps s) holds in
    sound_packet numbers (with_site w i (after_ask s)) (Asking (last_request (after_ask s))) placed tt

-- ---- a site starts again

-- under a greater boot number everything is past
start_keeps : (s : SiteState) (boot : ℕ) → s.boot < boot → KeepsPast s (new_site s.id boot)
start_keeps s boot greater r (inl before) = inl (omega (arith, before, greater))
start_keeps s boot greater r (inr (same, ask, waited)) = inl (omega (arith, same, greater))

sound_new_site : (numbers : List ℕ) (w : Network) (i boot : ℕ) (s : SiteState) → slice_get w.sites i ≡ Some s → s.boot < boot → IsSound numbers w
    → IsSound numbers (with_site w i (new_site s.id boot))
sound_new_site numbers w i boot s is greater sound =
    sound_site numbers w i s (new_site s.id boot) sound is refl (start_keeps s boot greater)
    (holds_less w.grants w.drawn s (new_site s.id boot) (λ n n_in. absurd (none_stands n n_in)) no_pairs refl (start_keeps s boot greater) (sound.held i s is))

sound_same_site : (numbers : List ℕ) (w : Network) (i : ℕ) (s : SiteState) → slice_get w.sites i ≡ Some s → IsSound numbers w → IsSound numbers (with_site w i s)
sound_same_site numbers w i s is sound = sound_site numbers w i s s sound is refl (λ r past. past) (sound.held i s is)

sound_restart : (numbers : List ℕ) (w : Network) (i : ℕ) (there : Option SiteState) → slice_get w.sites i ≡ there → IsSound numbers w → IsSound numbers (after_restarting w i there)
sound_restart numbers w i None is sound = sound
sound_restart numbers w i (Some s) is sound = by_test (can_restart s)
  where
    by_test : (b : Bool) → IsSound numbers (with_site w i (if b then new_site s.id (s.boot + 1) else s))
    by_test true = sound_new_site numbers w i (s.boot + 1) s is (omega arith) sound
    by_test false = sound_same_site numbers w i s is sound

sound_restart_at : (numbers : List ℕ) (w : Network) (i boot : ℕ) (there : Option SiteState) → slice_get w.sites i ≡ there → IsSound numbers w
    → IsSound numbers (after_restarting_at w i boot there)
sound_restart_at numbers w i boot None is sound = sound
sound_restart_at numbers w i boot (Some s) is sound = by_test (nat_lt s.boot boot) refl
  where
    by_test : (b : Bool) → nat_lt s.boot boot ≡ b → IsSound numbers (with_site w i (if b then new_site s.id boot else s))
    by_test true greater = sound_new_site numbers w i boot s is (ltb-true s.boot boot greater) sound
    by_test false lower = sound_same_site numbers w i s is sound

-- ---- a grant comes to a site

-- a grant is for the request that a site waits for
record IsAwaited (s : SiteState) (g : Grant) : Type 0 where
  pub waits : s.waits ≡ true
  pub id : g.request.site ≡ s.id
  pub boot : g.request.boot ≡ s.boot
  pub ask : g.request.ask ≡ s.asks

both : (a b : Bool) → (a && b) ≡ true → (a ≡ true) × (b ≡ true)
both true true is = (refl, refl)
both true false is = absurd (cc)
both false b is = absurd (cc)

awaited_from : (s : SiteState) (g : Grant) → is_awaited s g ≡ true → IsAwaited s g
awaited_from s g is =
    let outer = both s.waits (same_request g.request (last_request s)) is in
    let front = both ((g.request.site == s.id) && (g.request.boot == s.boot)) (g.request.ask == s.asks) outer.1 in
    let first = both (g.request.site == s.id) (g.request.boot == s.boot) front.0 in
    record {
      waits = outer.0;
      id = eqb-true g.request.site s.id first.0;
      boot = eqb-true g.request.boot s.boot first.1;
      ask = eqb-true g.request.ask s.asks front.1;
    }

-- a request that a site waits for isn't past
not_past : (s : SiteState) (g : Grant) → IsAwaited s g → IsPast s g.request → ⊥
not_past s g awaited (inl before) = omega (arith, before, awaited.boot)
not_past s g awaited (inr (boot, ask, waited)) = omega (arith, waited awaited.waits, awaited.ask)

-- the site with the numbers of a grant
abbrev taking : SiteState → Grant → SiteState
taking s g = record { id = s.id; boot = s.boot; asks = s.asks; waits = false; held = g.lease }

taking_keeps : (s : SiteState) (g : Grant) → KeepsPast s (taking s g)
taking_keeps s g r (inl before) = inl before
taking_keeps s g r (inr (boot, ask, waited)) = inr (boot, ask, λ waits. absurd (cc))

sound_take : (numbers : List ℕ) (w : Network) (i : ℕ) (g : Grant) (there : Option SiteState) → slice_get w.sites i ≡ there → Contains w.grants g → IsSound numbers w
    → IsSound numbers (after_taking w i g there)
sound_take numbers w i g None is g_in sound = sound
sound_take numbers w i g (Some s) is g_in sound = by_test (is_awaited s g) refl
  where
    -- a number that was handed out is of no other grant, and that one's request is past
    undrawn : IsAwaited s g → (n : ℕ) → Contains g.lease n → IsSpent w.grants w.sites n → ⊥
    undrawn awaited n n_in (h, h_in, n_too, gone) =
        let same = sound.one h g n h_in g_in n_too n_in in
        let its : h.request.site ≡ s.id = ap (λ (v : Grant). v.request.site) same ∙ awaited.id in
        not_past s g awaited (subst (λ (v : Grant). IsPast s v.request) same (gone i s is its))

    holds : IsAwaited s g → HoldsWell w.grants w.drawn (taking s g)
    holds awaited = record {
      rise = sound.rise g g_in;
      from = λ n n_in. (g, g_in, n_in, awaited.id, inr (awaited.boot, omega (arith, awaited.ask), λ waits. absurd (cc)));
      undrawn = λ n n_in drawn. undrawn awaited n n_in (sound.spent n drawn);
    }

    by_test : (b : Bool) → is_awaited s g ≡ b → IsSound numbers (with_site w i (if b then taking s g else s))
    by_test true test = sound_site numbers w i s (taking s g) sound is refl (taking_keeps s g) (holds (awaited_from s g test))
    by_test false test = sound_same_site numbers w i s is sound

-- ---- a site hands out a number

draw_keeps : (s : SiteState) → KeepsPast s (after_draw s)
draw_keeps s r (inl before) = inl before
draw_keeps s r (inr past) = inr past

sound_draw : (numbers : List ℕ) (w : Network) (i : ℕ) (there : Option SiteState) → slice_get w.sites i ≡ there → IsSound numbers w → IsSound numbers (after_drawing w i there)
sound_draw numbers w i None is sound = sound
sound_draw numbers w i (Some s) is sound = by_number (next_number s) refl
  where
    placed : IsSound numbers (with_site w i (after_draw s))
    placed = sound_site numbers w i s (after_draw s) sound is refl (draw_keeps s)
        (holds_less w.grants w.drawn s (after_draw s) (rest_stands s.held) (rising_rest s.held (sound.held i s is).rise) refl (draw_keeps s) (sound.held i s is))

    past_at : (g : Grant) → g.request.site ≡ s.id → IsPast s g.request → (j : ℕ) (v : SiteState) → ((j ≡ i) × (v ≡ after_draw s)) ⊎ ((j ≢ i) × (slice_get w.sites j ≡ Some v))
        → g.request.site ≡ v.id → IsPast v g.request
    past_at g its past j v (inl (same, is_new)) too = subst (λ (u : SiteState). IsPast u g.request) (sym is_new) (draw_keeps s g.request past)
    past_at g its past j v (inr (other, there)) too =
        let here = sound.ids i s is in
        let elsewhere = sound.ids j v there in
        absurd (other (omega (arith, here, elsewhere, its, too)))

    spent_by : (n : ℕ) → IsFrom w.grants s n → IsSpent w.grants (slice_set w.sites i (after_draw s)) n
    spent_by n (g, g_in, n_in, its, past) = (g, g_in, n_in, λ j v there too. past_at g its past j v (set_cases w.sites i j (after_draw s) v there) too)

    -- no two sites hold a number
    other_grant : (n j : ℕ) (v : SiteState) → j ≢ i → slice_get w.sites j ≡ Some v → IsFrom w.grants s n → IsFrom w.grants v n → ⊥
    other_grant n j v other there (g, g_in, n_in, its, past) (h, h_in, n_too, too, past_too) =
        let same = ap (λ (u : Grant). u.request.site) (sound.one g h n g_in h_in n_in n_too) in
        let here = sound.ids i s is in
        let elsewhere = sound.ids j v there in
        other (omega (arith, here, elsewhere, same, its, too))

    unheld : (n : ℕ) → next_number s ≡ Some n → (j : ℕ) (v : SiteState) → ((j ≡ i) × (v ≡ after_draw s)) ⊎ ((j ≢ i) × (slice_get w.sites j ≡ Some v)) → Contains v.held n → ⊥
    unheld n first j v (inl (same, is_new)) held = first_alone s.held n (sound.held i s is).rise first (subst (λ (u : SiteState). Contains u.held n) is_new held)
    unheld n first j v (inr (other, there)) held =
        other_grant n j v other there ((sound.held i s is).from n (place_stands s.held 0 n first)) ((sound.held j v there).from n held)

    by_number : (number : Option ℕ) → next_number s ≡ number → IsSound numbers (with_number (with_site w i (after_draw s)) number)
    by_number None first = placed
    by_number (Some n) first =
        sound_number numbers (with_site w i (after_draw s)) n placed
        (spent_by n ((sound.held i s is).from n (place_stands s.held 0 n first)))
        ((sound.held i s is).undrawn n (place_stands s.held 0 n first))
        (λ j v there held. unheld n first j v (set_cases w.sites i j (after_draw s) v there) held)

-- ---- a request comes to the master

-- numbers of which none was given before
abbrev pub AreNew : List ℕ → List ℕ → Type 0
AreNew numbers more = (n : ℕ) → Contains numbers n → Contains more n → ⊥

sound_new_request : (numbers ns : List ℕ) (end : Option CentreRefusal) (w : Network) (r : Request) → IsSound numbers w → AreNew numbers ns → IsRising ns
    → IsSound (numbers ++ ns) (after_reply w (reply_to_new r ns end))
sound_new_request numbers [] None w r sound new rises = sound_grant numbers w (record { request = r; lease = [] }) sound rises new
sound_new_request numbers [] (Some why) w r sound new rises = sound_given numbers [] w sound
sound_new_request numbers (n ∷ ns) end w r sound new rises = sound_grant numbers w (record { request = r; lease = n ∷ ns }) sound rises new

sound_request : (numbers ns : List ℕ) (end : Option CentreRefusal) (w : Network) (r : Request) (last : Option Grant) → ((g : Grant) → last ≡ Some g → Contains w.grants g)
    → IsSound numbers w → AreNew numbers ns → IsRising ns → IsSound (numbers ++ ns) (after_reply w (reply_by (judgement last r) r ns end))
sound_request numbers ns end w r None last_in sound new rises = sound_new_request numbers ns end w r sound new rises
sound_request numbers ns end w r (Some g) last_in sound new rises = by_tests (same_request g.request r) (is_before r g.request)
  where
    by_tests : (b c : Bool) → IsSound (numbers ++ ns) (after_reply w (reply_by (if b then judged.Again g else if c then judged.Old g.request else judged.New) r ns end))
    by_tests true c = sound_given numbers ns (with_packet w (Granting g)) (sound_packet numbers w (Granting g) sound (last_in g refl))
    by_tests false true = sound_given numbers ns w sound
    by_tests false false = sound_new_request numbers ns end w r sound new rises

some_from_or_none : (o : Option (Option Grant)) (g : Grant) → or_none o ≡ Some g → o ≡ Some (Some g)
some_from_or_none None g is = absurd (cc)
some_from_or_none (Some last) g is = ap Some is

-- ---- the events

sound_delivery : (numbers ns : List ℕ) (end : Option CentreRefusal) (w : Network) (k : ℕ) (packet : Option Packet) → slice_get w.packets k ≡ packet → IsSound numbers w
    → AreNew numbers ns → IsRising ns → IsSound (numbers ++ ns) (after_delivery w ns end packet)
sound_delivery numbers ns end w k None is sound new rises = sound_given numbers ns w sound
sound_delivery numbers ns end w k (Some (Asking r)) is sound new rises =
    sound_request numbers ns end w r (last_grant w.last r) (λ g last. sound.last (place_of r.site) g (some_from_or_none (slice_get w.last (place_of r.site)) g last)) sound new rises
sound_delivery numbers ns end w k (Some (Granting g)) is sound new rises =
    sound_given numbers ns (after_taking w (place_of g.request.site) g (slice_get w.sites (place_of g.request.site)))
    (sound_take numbers w (place_of g.request.site) g (slice_get w.sites (place_of g.request.site)) refl (sound.sent g (place_stands w.packets k (Granting g) is)) sound)

pub nothing_remembered : (count i : ℕ) (g : Grant) → slice_get (nothing_granted count) i ≡ Some (Some g) → ⊥
nothing_remembered zero i g is = absurd (cc)
nothing_remembered (suc count) zero g is = absurd (cc)
nothing_remembered (suc count) (suc i) g is = nothing_remembered count i g is

sound_master_restart : (numbers : List ℕ) (w : Network) → IsSound numbers w → IsSound numbers (with_last w (nothing_granted (length w.last)))
sound_master_restart numbers w sound = record {
  one = sound.one;
  known = sound.known;
  rise = sound.rise;
  sent = sound.sent;
  last = λ i g is. absurd (nothing_remembered (length w.last) i g is);
  ids = sound.ids;
  held = sound.held;
  spent = sound.spent;
  differ = sound.differ;
}

pub sound_event : (numbers ns : List ℕ) (end : Option CentreRefusal) (w : Network) (e : Event) → IsSound numbers w → AreNew numbers ns → IsRising ns
    → IsSound (numbers ++ ns) (after_event w e ns end)
sound_event numbers ns end w (Ask i) sound new rises = sound_given numbers ns (after_asking w i (slice_get w.sites i)) (sound_ask numbers w i (slice_get w.sites i) refl sound)
sound_event numbers ns end w (Deliver k) sound new rises = sound_delivery numbers ns end w k (slice_get w.packets k) refl sound new rises
sound_event numbers ns end w (Draw i) sound new rises = sound_given numbers ns (after_drawing w i (slice_get w.sites i)) (sound_draw numbers w i (slice_get w.sites i) refl sound)
sound_event numbers ns end w (Restart i) sound new rises = sound_given numbers ns (after_restarting w i (slice_get w.sites i)) (sound_restart numbers w i (slice_get w.sites i) refl sound)
sound_event numbers ns end w (RestartAt i boot) sound new rises =
    sound_given numbers ns (after_restarting_at w i boot (slice_get w.sites i)) (sound_restart_at numbers w i boot (slice_get w.sites i) refl sound)
sound_event numbers ns end w MasterRestart sound new rises = sound_given numbers ns (with_last w (nothing_granted (length w.last))) (sound_master_restart numbers w sound)
