-- What stands in memory of a network goes with it through each event.
use Rattle.std.proofs.Common.{◌≡◌, ℕ, [], slice_get, Option, Some, None, refl}
use Rattle.auc_sites.specs.declared.grant.Grant.{Grant}
use Rattle.auc_sites.specs.declared.master.Judged.{Judged}
use Rattle.auc_sites.specs.declared.master.Judged.TheVariants as judged
use Rattle.auc_sites.specs.declared.request.Request.{Request}
use Rattle.auc_sites.specs.Master.{judgement, last_grant, place_of}
use Rattle.auc_sites.specs.Network.{Ask, Asking, Deliver, Draw, Event, Granting, MasterRestart, Network, Packet, Restart, RestartAt, after_asking, after_delivery, after_drawing, after_event, after_reply, after_restarting, after_restarting_at, after_taking, with_number, with_site}
use Rattle.auc_sites.specs.Reply.{reply_by}
use Rattle.auc_sites.specs.Site.{SiteState, after_draw, next_number}
use Rattle.auc_sites.specs.SiteNet.{after, network_of, state_of}

-- a delivery without draws
pub state_after_delivery : (w : Network) (p : Option Packet) → state_of (after_delivery (network_of (state_of w)) [] None p) ≡ state_of (after_delivery w [] None p)
state_after_delivery w None = refl
state_after_delivery w (Some (Asking r)) = by_judgement (judgement (last_grant w.last r) r)
  where
    by_judgement : (j : Judged) → state_of (after_reply (network_of (state_of w)) (reply_by j r [] None)) ≡ state_of (after_reply w (reply_by j r [] None))
    by_judgement (judged.Again g) = refl
    by_judgement (judged.Old last) = refl
    by_judgement judged.New = refl
state_after_delivery w (Some (Granting g)) = by_site (slice_get w.sites (place_of g.request.site))
  where
    by_site : (there : Option SiteState) → state_of (after_taking (network_of (state_of w)) (place_of g.request.site) g there) ≡ state_of (after_taking w (place_of g.request.site) g there)
    by_site None = refl
    by_site (Some s) = refl

-- an event without draws
pub state_after : (w : Network) (e : Event) → after e (state_of w) ≡ state_of (after_event w e [] None)
state_after w (Ask i) = by_site (slice_get w.sites i)
  where
    by_site : (there : Option SiteState) → state_of (after_asking (network_of (state_of w)) i there) ≡ state_of (after_asking w i there)
    by_site None = refl
    by_site (Some s) = refl
state_after w (Deliver p) = state_after_delivery w (slice_get w.packets p)
state_after w (Draw i) = by_site (slice_get w.sites i)
  where
    by_number : (v u : Network) → state_of v ≡ state_of u → (n : Option ℕ) → state_of (with_number v n) ≡ state_of (with_number u n)
    by_number v u same None = same
    by_number v u same (Some n) = same

    by_site : (there : Option SiteState) → state_of (after_drawing (network_of (state_of w)) i there) ≡ state_of (after_drawing w i there)
    by_site None = refl
    by_site (Some s) = by_number (with_site (network_of (state_of w)) i (after_draw s)) (with_site w i (after_draw s)) refl (next_number s)
state_after w (Restart i) = by_site (slice_get w.sites i)
  where
    by_site : (there : Option SiteState) → state_of (after_restarting (network_of (state_of w)) i there) ≡ state_of (after_restarting w i there)
    by_site None = refl
    by_site (Some s) = refl
state_after w (RestartAt i boot) = by_site (slice_get w.sites i)
  where
    by_site : (there : Option SiteState) → state_of (after_restarting_at (network_of (state_of w)) i boot there) ≡ state_of (after_restarting_at w i boot there)
    by_site None = refl
    by_site (Some s) = refl
state_after w MasterRestart = refl
