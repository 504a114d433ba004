-- For lines for sites: the numbers of a lease, what an event draws and where it leads, and the events of a line.
use Rattle.std.proofs.Common.{◌≡◌, ℕ, zero, suc, ◌+◌, ◌-◌, ◌≤◌, List, [], ◌∷◌, ◌++◌, drop, length, refl, sym, ◌∙◌, ap, arith, subst, append_assoc, append-nil, eq-eqb}
use Rattle.std.specs.Prelude.{IfOk, Option, Some, None, Result, Ok, Err, replicate, slice_get}
use Rattle.std.proofs.lemmas.List.{length-replicate}
use Rattle.std.proofs.lemmas.Option.{slice_get_past}
use Rattle.auc_memory.specs.declared.stop.Stop.{Stop}
use Rattle.auc_history.specs.declared.entry.Entry.{Entry}
use Rattle.auc_lines.specs.Sites.{SitesValue}
use Rattle.auc_lines.specs.declared.sites.SiteEvent.{SiteEvent}
use Rattle.auc_lines.specs.declared.sites.SiteEvent.TheVariants as asked
use Rattle.auc_sites.proofs.Facts.{state_after, state_after_delivery}
use Rattle.auc_sites.specs.Master.{judgement, last_grant, place_of}
use Rattle.auc_sites.specs.Network.{Network, SitesTurn, after_delivery, after_event, after_reply, start, with_last}
use Rattle.auc_sites.specs.Reply.{reply_by, reply_to_new}
use Rattle.auc_sites.specs.Run.{judgement_in, judgement_on}
use Rattle.auc_sites.specs.Site.{SiteState, answer_to}
use Rattle.auc_sites.specs.SiteNet.{Delivers, NetState, after as state_behind, after_delivery_of, delivery_by, delivery_of, delivery_to, number_of, packet_numbered, state_of}
use Rattle.auc_sites.specs.declared.grant.Grant.{Grant}
use Rattle.auc_sites.specs.declared.master.Judged.{Judged}
use Rattle.auc_sites.specs.declared.master.Judged.TheVariants as judged
use Rattle.auc_sites.specs.declared.master.Reply.TheVariants as reply
use Rattle.auc_sites.specs.declared.packet.Packet.{Packet}
use Rattle.auc_sites.specs.declared.packet.Packet.TheVariants.{Asking, Granting}
use Rattle.auc_sites.specs.declared.request.Request.{Request}
use Rattle.auc_sites.specs.declared.site.Taken.{Taken}
use Rattle.auc_sites.specs.declared.site.Taken.TheVariants as taken
use Rattle.auc_sites.specs.declared.site_net.Delivery.{Delivery}
use Rattle.auc_sites.specs.declared.site_net.Delivery.TheVariants as delivery
use Rattle.auc_vector.specs.declared.centre.CentreRefusal.{CentreRefusal}
use Rattle.auc_world.proofs.Facts.{lease_ends}
use Rattle.auc_world.specs.Given.{Before}
use Rattle.auc_record.specs.Draws.{DrawGives}
use Rattle.auc_record.specs.Lines.{numbers_of}
use Rattle.auc_subs.specs.Setting.{Setting}
use Rattle.auc_world.specs.Sites.{LeaseGives, SiteEventGives, SitesGives, SitesGo, event_of, note_of, note_of_draw, note_of_number, outcome_of_answer, outcome_of_grant, outcome_of_packet, outcome_of_reply, packet_place, refusal_in, sites_start, turn_of}
use Rattle.auc_record.specs.declared.further.Further.TheVariants as further
use Rattle.auc_record.specs.declared.record.LineRecord.{LineRecord}
use Rattle.auc_record.specs.declared.record.LineRecord.TheVariants.{Number, Sync, Give, Further, Event as Happening}
use Rattle.auc_vector.specs.declared.notes.NumberNote.TheVariants as number
use Rattle.auc_record.specs.declared.sites.SitesNote.{SitesNote}
use Rattle.auc_record.specs.declared.sites.SitesNote.TheVariants as note
use Rattle.auc_record.specs.declared.sites.SitesOutcome.{SitesOutcome}
use Rattle.auc_record.specs.declared.sites.SitesOutcome.TheVariants as outcome
use Rattle.auc_jobs.specs.InnerServing.{IsNext}
use Rattle.auc_jobs.specs.InnerSites.{DeliveryDoes, DrawsIn, EventDoes, GrantDoes, IsLease, outcome_known}
use Rattle.auc_jobs.specs.InnerWorker.{WorkerServes, WorkerState}
use Rattle.auc_jobs.proofs.DrawingLemmas.{GoesOn, draw_all, draw_begins, draw_ends, draw_more}
use Rattle.auc_jobs.proofs.LineLemmas.{numbers_of-append}
use Rattle.auc_jobs.proofs.WorkerLemmas.{also_serves, more_serves, none_serves}

-- ---- the numbers of a lease

-- with so many vectors left, the lines so far go on as those of a draw, and the lease has their numbers
abbrev pub LeaseGoesOn : Setting → ℕ → ℕ → ℕ → List ℕ → List LineRecord → Type 0
LeaseGoesOn set sub left size lease front = GoesOn set sub left size front × (lease ≡ numbers_of sub front)

-- at the beginning it has none
pub lease_begins : (set : Setting) (sub left size : ℕ) (front : List LineRecord) → left ≡ size → front ≡ [] → LeaseGoesOn set sub left size [] front
lease_begins set sub left size front all none =
    (subst (λ (n : ℕ). GoesOn set sub n size front) (sym all) (draw_begins set sub size front none), sym (ap (numbers_of sub) none))

-- the number of a vector
one_number : (sub n : ℕ) → numbers_of sub (Number sub (number.Drew n) ∷ []) ≡ n ∷ []
one_number sub n = rw (eq-eqb sub sub refl) refl

-- it has the number of each further vector
pub lease_more : (set : Setting) (sub left next size n : ℕ) (number : Option ℕ) (lease more : List ℕ) (front lines : List LineRecord) → left ≡ suc next → number ≡ Some n
    → more ≡ lease ++ n ∷ [] → LeaseGoesOn set sub left size lease front → IsNext set sub number lines → LeaseGoesOn set sub next size more (front ++ lines)
lease_more set sub left next size n number lease more front lines counted some pushed on is =
    let one : IsNext set sub (Some n) lines = subst (λ (o : Option ℕ). IsNext set sub o lines) some is in (
      draw_more set sub left next size (Some n) front lines counted refl on.0 one,
      pushed ∙ ap (λ (ns : List ℕ). ns ++ n ∷ []) on.1
          ∙ ap (λ (ns : List ℕ). numbers_of sub front ++ ns) (sym (ap (numbers_of sub) one.0 ∙ one_number sub n))
          ∙ sym (numbers_of-append sub front lines),
    )

-- what ends the draws has no number
no_number : (set : Setting) (sub : ℕ) (lines : List LineRecord) → IsNext set sub None lines → numbers_of sub lines ≡ []
no_number set sub [] is = refl
no_number set sub (Number s (number.Drew n) ∷ lines) is = absurd is.2
no_number set sub (Number s (number.Exhausted word) ∷ lines) is = rw (eq-eqb s sub is.0) (ap (numbers_of sub) is.2)
no_number set sub (Number s (number.Withheld n stop) ∷ lines) is = rw (eq-eqb s sub is.0) (ap (numbers_of sub) is.3)
no_number set sub (Sync s answer ∷ lines) is = absurd is
no_number set sub (Give s n answer ∷ lines) is = absurd is
no_number set sub (Further said ∷ lines) is = absurd is
no_number set sub (Happening r ∷ lines) is = absurd is

pub lease_ends_early : (set : Setting) (sub left next size : ℕ) (number : Option ℕ) (lease : List ℕ) (front lines : List LineRecord) → left ≡ suc next → number ≡ None
    → LeaseGoesOn set sub left size lease front → IsNext set sub number lines → IsLease set sub size lease (front ++ lines)
lease_ends_early set sub left next size number lease front lines counted none on is =
    let last : IsNext set sub None lines = subst (λ (o : Option ℕ). IsNext set sub o lines) none is in
    record {
      draws = draw_ends set sub left next size None front lines counted refl on.0 last;
      numbers = on.1 ∙ sym (append-nil (numbers_of sub front)) ∙ ap (λ (ns : List ℕ). numbers_of sub front ++ ns) (sym (no_number set sub lines last)) ∙ sym (numbers_of-append sub front lines);
    }

pub lease_whole : (set : Setting) (sub left size : ℕ) (lease : List ℕ) (front : List LineRecord) → left ≡ 0 → LeaseGoesOn set sub left size lease front → IsLease set sub size lease front
lease_whole set sub left size lease front none on = record { draws = draw_all set sub left size front none on.0; numbers = on.1 }

-- ---- events in which nothing is drawn

module _ {C : Type 0} where
  pub draws_none : (kept : C → ℕ → Option ℕ) (goes : C → ℕ → List Entry → List (ℕ × Stop) → C → Type 0) (w : WorkerState C) (before after : NetState)
      (Does : Network → List LineRecord → Network → Type 0) → ((i : ℕ) → goes w.centre i [] [] w.centre)
      → ((v : Network) → before ≡ state_of v → (next : Network) × (after ≡ state_of next) × Does v [] next) → DrawsIn kept goes w w before after Does
  draws_none kept goes w before after Does stays leads v is = by (leads v is)
    where
      by : (next : Network) × (after ≡ state_of next) × Does v [] next → (next : Network) × (after ≡ state_of next) × WorkerServes kept goes w w (λ lines drawn. Does v drawn next)
      by (next, shown, does) = (
        next,
        shown,
        also_serves kept goes w w (λ (lines : Before) (drawn : List LineRecord). drawn ≡ []) (λ (lines : Before) (drawn : List LineRecord). Does v drawn next)
            (λ lines drawn none. subst (λ (ls : List LineRecord). Does v ls next) (sym none) does) (none_serves kept goes w stays),
      )

-- such an event
pub event_quiet : (set : Setting) (line : SitesValue) (e : SiteEvent) (note : SitesNote) (v : Network) (before after : NetState) → before ≡ state_of v
    → after ≡ state_behind (event_of v e) before → LeaseGives set line.sub line.size (judgement_in v (event_of v e)) [] → note ≡ note_of v e (turn_of v line.sub e [])
    → (next : Network) × (after ≡ state_of next) × EventDoes set line e note v [] next
event_quiet set line e note v before after same leads draws noted = (
  after_event v (event_of v e) [] None,
  leads ∙ ap (state_behind (event_of v e)) same ∙ state_after v (event_of v e),
  record { draws = draws; noted = noted; leads = refl },
)

-- what is said of a site that hands out a number
pub site_number_said : (site : ℕ) (o : Option SiteState) → note_of_number site (number_of o) ≡ note_of_draw site o
site_number_said site None = refl
site_number_said site (Some s) = refl

-- ---- a delivery

-- the packet of a number
pub numbered : (v : Network) (packet : ℕ) → packet_numbered v.packets packet ≡ slice_get v.packets (packet_place v packet)
numbered v zero = sym (slice_get_past v.packets (length v.packets) (omega arith))
numbered v (suc place) = refl

-- what a delivery comes to that is no new request
record IsKnown (set : Setting) (line : SitesValue) (packet : ℕ) (v : Network) (p : Option Packet) (d : Delivery) (o : SitesOutcome) : Type 0 where
  pub draws : LeaseGives set line.sub line.size (judgement_on v p) []
  pub became : o ≡ outcome_of_packet v (turn_of v line.sub (asked.Deliver packet) []) p
  pub leads : after_delivery_of (state_of v) p d ≡ state_of (after_delivery v [] None p)

same_ok : (a b : SitesOutcome) → ◌≡◌ {A = Result SitesOutcome Request} (Ok a) (Ok b) → b ≡ a
same_ok a b e = cc

module _ (set : Setting) (line : SitesValue) (packet : ℕ) (v : Network) (o : SitesOutcome) where
  known_request : (r : Request) (j : Judged) → judgement (last_grant v.last r) r ≡ j → outcome_known (delivery_by j r (length v.packets + 1)) ≡ Ok o
      → IsKnown set line packet v (Some (Asking r)) (delivery_by j r (length v.packets + 1)) o
  known_request r (judged.Again g) is known = record {
    draws = subst (λ (j : Judged). LeaseGives set line.sub line.size (Some j) []) (sym is) refl;
    became = same_ok _ o known ∙ ap (λ (j : Judged). outcome_of_reply (length v.packets + 1) (reply_by j r [] None)) (sym is);
    leads = state_after_delivery v (Some (Asking r));
  }
  known_request r (judged.Old last) is known = record {
    draws = subst (λ (j : Judged). LeaseGives set line.sub line.size (Some j) []) (sym is) refl;
    became = same_ok _ o known ∙ ap (λ (j : Judged). outcome_of_reply (length v.packets + 1) (reply_by j r [] None)) (sym is);
    leads = ap (λ (j : Judged). state_of (after_reply v (reply_by j r [] None))) (sym is);
  }
  known_request r judged.New is known = absurd (cc)

  known_answer : (g : Grant) (d : Delivery) (answer : Taken) → d ≡ delivery.Answered answer → outcome_known d ≡ Ok o → o ≡ outcome_of_answer answer
  known_answer g d (taken.Taken count) is known = same_ok _ o (ap outcome_known (sym is) ∙ known)
  known_answer g d (taken.NotMine awaited) is known = same_ok _ o (ap outcome_known (sym is) ∙ known)

  known_grant : (g : Grant) (there : Option SiteState) → slice_get v.sites (place_of g.request.site) ≡ there → outcome_known (delivery_to there g) ≡ Ok o
      → IsKnown set line packet v (Some (Granting g)) (delivery_to there g) o
  known_grant g None is known = record {
    draws = refl;
    became = same_ok _ o known ∙ ap (outcome_of_grant g) (sym is);
    leads = state_after_delivery v (Some (Granting g));
  }
  known_grant g (Some s) is known = record {
    draws = refl;
    became = known_answer g (delivery_to (Some s) g) (answer_to s g) refl known ∙ ap (outcome_of_grant g) (sym is);
    leads = state_after_delivery v (Some (Granting g));
  }

  known_packet : (p : Option Packet) → outcome_known (delivery_of (state_of v) p) ≡ Ok o → IsKnown set line packet v p (delivery_of (state_of v) p) o
  known_packet None known = record { draws = refl; became = same_ok _ o known; leads = refl }
  known_packet (Some (Asking r)) known = known_request r (judgement (last_grant v.last r) r) refl known
  known_packet (Some (Granting g)) known = known_grant g (slice_get v.sites (place_of g.request.site)) refl known

  pub delivery_known : (before after : NetState) (d : Delivery) → before ≡ state_of v → Delivers before (packet_numbered before.packets packet) d after
      → outcome_known d ≡ Ok o → (next : Network) × (after ≡ state_of next) × DeliveryDoes set line packet o v [] next
  delivery_known before after d same delivers known = by d (here.answer) (here.after') known
    where
      p : Option Packet
      p = slice_get v.packets (packet_place v packet)

      here : Delivers (state_of v) p d after
      here =
          subst (λ (q : Option Packet). Delivers (state_of v) q d after) (numbered v packet)
          (subst (λ (n : NetState). Delivers n (packet_numbered n.packets packet) d after) same delivers)

      by : (e : Delivery) → e ≡ delivery_of (state_of v) p → after ≡ after_delivery_of (state_of v) p e → outcome_known e ≡ Ok o
          → (next : Network) × (after ≡ state_of next) × DeliveryDoes set line packet o v [] next
      by e is leads it =
          let known_is : IsKnown set line packet v p (delivery_of (state_of v) p) o = known_packet p (ap outcome_known (sym is) ∙ it) in (
            after_delivery v [] None p,
            leads ∙ ap (after_delivery_of (state_of v) p) is ∙ known_is.leads,
            record { draws = known_is.draws; became = known_is.became; leads = refl },
          )

-- ---- a new request

-- what a delivery says of the packet that is one
pub record IsNewRequest (n : NetState) (p : Option Packet) (d : Delivery) (r : Request) : Type 0 where
  pub packet : p ≡ Some (Asking r)
  pub judged : judgement (last_grant n.last r) r ≡ judged.New
  pub is : d ≡ delivery.New r

same_err : (q r : Request) → ◌≡◌ {A = Result SitesOutcome Request} (Err q) (Err r) → q ≡ r
same_err q r e = cc

new_answer : (answer : Taken) (r : Request) → outcome_known (delivery.Answered answer) ≡ Err r → ⊥
new_answer (taken.Taken count) r e = cc
new_answer (taken.NotMine awaited) r e = cc

new_request : (n : NetState) (q r : Request) (j : Judged) → judgement (last_grant n.last q) q ≡ j → outcome_known (delivery_by j q (length n.packets + 1)) ≡ Err r
    → IsNewRequest n (Some (Asking q)) (delivery_by j q (length n.packets + 1)) r
new_request n q r (judged.Again g) is new = absurd (cc)
new_request n q r (judged.Old last) is new = absurd (cc)
new_request n q r judged.New is new =
    subst (λ (s : Request). IsNewRequest n (Some (Asking q)) (delivery.New q) s) (same_err q r new) (record { packet = refl; judged = is; is = refl })

new_packet : (n : NetState) (p : Option Packet) (r : Request) → outcome_known (delivery_of n p) ≡ Err r → IsNewRequest n p (delivery_of n p) r
new_packet n None r new = absurd (cc)
new_packet n (Some (Asking q)) r new = new_request n q r (judgement (last_grant n.last q) q) refl new
new_packet n (Some (Granting g)) r new = by (slice_get n.sites (place_of g.request.site)) new
  where
    by : (there : Option SiteState) → outcome_known (delivery_to there g) ≡ Err r → IsNewRequest n (Some (Granting g)) (delivery_to there g) r
    by None e = absurd (cc)
    by (Some s) e = absurd (new_answer (answer_to s g) r e)

pub new_is : (n : NetState) (p : Option Packet) (d : Delivery) (r : Request) (after : NetState) → Delivers n p d after → outcome_known d ≡ Err r → IsNewRequest n p d r
new_is n p d r after delivers new =
    subst (λ (e : Delivery). IsNewRequest n p e r) (sym delivers.answer) (new_packet n p r (ap outcome_known (sym delivers.answer) ∙ new))

-- nothing has happened at it
pub new_waits : (n : NetState) (p : Option Packet) (d : Delivery) (r : Request) (after : NetState) → Delivers n p d after → IsNewRequest n p d r → after ≡ n
new_waits n p d r after delivers new = delivers.after' ∙ ap (after_delivery_of n p) new.is

-- what the grant for it does is what its delivery does
pub grant_delivers : (set : Setting) (line : SitesValue) (packet : ℕ) (o : SitesOutcome) (v : Network) (before : NetState) (d : Delivery) (r : Request) (drawn : List LineRecord) (next : Network)
    → before ≡ state_of v → IsNewRequest before (packet_numbered before.packets packet) d r → GrantDoes set line r o v drawn next → DeliveryDoes set line packet o v drawn next
grant_delivers set line packet o v before d r drawn next same new does = record {
  draws = rw (there, here.judged) does.draws;
  became = rw (there, here.judged) does.became;
  leads = rw (there, here.judged) does.leads;
}
  where
    here : IsNewRequest (state_of v) (packet_numbered v.packets packet) d r
    here = subst (λ (n : NetState). IsNewRequest n (packet_numbered n.packets packet) d r) same new

    there : slice_get v.packets (packet_place v packet) ≡ Some (Asking r)
    there = sym (numbered v packet) ∙ here.packet

module _ {C : Type 0} where
  pub draws_granted : (kept : C → ℕ → Option ℕ) (goes : C → ℕ → List Entry → List (ℕ × Stop) → C → Type 0) (old new : WorkerState C) (set : Setting) (line : SitesValue) (packet : ℕ) (o : SitesOutcome)
      (before mid after : NetState) (d : Delivery) (r : Request) → Delivers before (packet_numbered before.packets packet) d mid → outcome_known d ≡ Err r
      → DrawsIn kept goes old new mid after (GrantDoes set line r o) → DrawsIn kept goes old new before after (DeliveryDoes set line packet o)
  draws_granted kept goes old new set line packet o before mid after d r delivers new_one grants v same = by (grants v (new_waits before _ d r mid delivers is ∙ same))
    where
      is : IsNewRequest before (packet_numbered before.packets packet) d r
      is = new_is before (packet_numbered before.packets packet) d r mid delivers new_one

      by : (next : Network) × (after ≡ state_of next) × WorkerServes kept goes old new (λ lines drawn. GrantDoes set line r o v drawn next)
          → (next : Network) × (after ≡ state_of next) × WorkerServes kept goes old new (λ lines drawn. DeliveryDoes set line packet o v drawn next)
      by (next, shown, serves) = (
        next,
        shown,
        also_serves kept goes old new (λ (lines : Before) (drawn : List LineRecord). GrantDoes set line r o v drawn next) (λ (lines : Before) (drawn : List LineRecord). DeliveryDoes set line packet o v drawn next)
            (λ lines drawn does. grant_delivers set line packet o v before d r drawn next same is does) serves,
      )

  -- what a delivery does is what its event does
  pub draws_delivered : (kept : C → ℕ → Option ℕ) (goes : C → ℕ → List Entry → List (ℕ × Stop) → C → Type 0) (old new : WorkerState C) (set : Setting) (line : SitesValue) (packet : ℕ) (o : SitesOutcome)
      (before after : NetState) → DrawsIn kept goes old new before after (DeliveryDoes set line packet o)
      → DrawsIn kept goes old new before after (EventDoes set line (asked.Deliver packet) (note.Delivered packet o))
  draws_delivered kept goes old new set line packet o before after delivers v same = by (delivers v same)
    where
      by : (next : Network) × (after ≡ state_of next) × WorkerServes kept goes old new (λ lines drawn. DeliveryDoes set line packet o v drawn next)
          → (next : Network) × (after ≡ state_of next) × WorkerServes kept goes old new (λ lines drawn. EventDoes set line (asked.Deliver packet) (note.Delivered packet o) v drawn next)
      by (next, shown, serves) = (
        next,
        shown,
        also_serves kept goes old new (λ (lines : Before) (drawn : List LineRecord). DeliveryDoes set line packet o v drawn next)
            (λ (lines : Before) (drawn : List LineRecord). EventDoes set line (asked.Deliver packet) (note.Delivered packet o) v drawn next)
            (λ lines drawn does. record { draws = does.draws; noted = ap (note.Delivered packet) does.became; leads = does.leads }) serves,
      )

-- what follows from what holds of a result that is Ok
pub if_ok_map : {A E : Type 0} (P Q : A → Type 0) (result : Result A E) → IfOk result P → ((a : A) → P a → Q a) → IfOk result Q
if_ok_map P Q (Ok a) holds f = f a holds
if_ok_map P Q (Err e) holds f = tt

-- ---- a grant

-- a lease of a line's subscriber and size
pub lease_of_line : (set : Setting) (line : SitesValue) (sub size : ℕ) (lease : List ℕ) (drawn : List LineRecord) → sub ≡ line.sub → size ≡ line.size
    → IsLease set sub size lease drawn → IsLease set line.sub line.size lease drawn
lease_of_line set line sub size lease drawn of_sub of_size is =
    subst (λ (s : ℕ). IsLease set s line.size lease drawn) of_sub (subst (λ (n : ℕ). IsLease set sub n lease drawn) of_size is)

no_numbers : (ns : List ℕ) → length ns ≡ 0 → ns ≡ []
no_numbers [] none = refl
no_numbers (n ∷ ns) none = absurd (omega (arith, none))

-- no number was drawn
pub grant_refused : (set : Setting) (line : SitesValue) (r : Request) (v : Network) (lease : List ℕ) (drawn : List LineRecord) → 1 ≤ line.size → length lease ≡ 0
    → IsLease set line.sub line.size lease drawn → GrantDoes set line r outcome.Refused v drawn (with_last v v.last)
grant_refused set line r v lease drawn some none is = record {
  draws = is.draws;
  became = rw (numbers, refused.1) refl;
  leads = rw (numbers, refused.1) refl;
}
  where
    numbers : numbers_of line.sub drawn ≡ []
    numbers = sym is.numbers ∙ no_numbers lease none

    one_more : (size : ℕ) → 1 ≤ size → size ≡ suc (size - 1)
    one_more size least = omega (arith, least)

    refused : (why : CentreRefusal) × (refusal_in drawn ≡ Some why)
    refused = lease_ends set line.sub (line.size - 1) drawn (subst (λ (size : ℕ). DrawGives set line.sub size drawn) (one_more line.size some) is.draws) numbers

-- some were
granted_reply : (r : Request) (ns : List ℕ) (end : Option CentreRefusal) → (length ns ≡ 0 → ⊥) → reply_to_new r ns end ≡ reply.Granted (record { request = r; lease = ns })
granted_reply r [] end some = absurd (some refl)
granted_reply r (n ∷ ns) end some = refl

pub grant_granted : (set : Setting) (line : SitesValue) (r : Request) (v : Network) (lease : List ℕ) (count sent : ℕ) (drawn : List LineRecord) → (length lease ≡ 0 → ⊥) → count ≡ length lease
    → sent ≡ length v.packets + 1 → IsLease set line.sub line.size lease drawn
    → GrantDoes set line r (outcome.Granted count sent) v drawn (after_reply v (reply.Granted (record { request = r; lease = lease })))
grant_granted set line r v lease count sent drawn some counted number is = record {
  draws = is.draws;
  became = rw (counted, number) (ap (outcome_of_reply (length v.packets + 1)) (sym replied));
  leads = ap (after_reply v) (sym replied);
}
  where
    replied : reply_to_new r (numbers_of line.sub drawn) (refusal_in drawn) ≡ reply.Granted (record { request = r; lease = lease })
    replied =
        granted_reply r (numbers_of line.sub drawn) (refusal_in drawn) (λ none. some (ap length is.numbers ∙ none))
        ∙ ap (λ (ns : List ℕ). reply.Granted (record { request = r; lease = ns })) (sym is.numbers)

-- ---- the events of a line

-- with these events left, the lines so far and what the rest gives are what the line gives
abbrev pub SitesGoOn : Setting → SitesValue → List SiteEvent → Network → List LineRecord → Type 0
SitesGoOn set line left w front = (rest : List LineRecord) (more : List SitesTurn) → SitesGo set line.sub line.size w left rest more → SitesGives set line (front ++ rest)

pub sites_begin : (set : Setting) (line : SitesValue) (left : List SiteEvent) (w : Network) (front : List LineRecord) → w ≡ sites_start line → left ≡ line.schedule → front ≡ []
    → SitesGoOn set line left w front
sites_begin set line left w front first all none = rw (first, all, none) (λ rest more go. (more, go))

-- what an event gives with what is said of it
pub record TurnGives (set : Setting) (line : SitesValue) (w : Network) (e : SiteEvent) (next : Network) (lines : List LineRecord) : Type 0 where
  pub turn : SitesTurn
  pub gives : SiteEventGives set line.sub line.size w e lines turn
  pub leads : next ≡ after_event w turn.event turn.numbers turn.end

pub turn_gives : (set : Setting) (line : SitesValue) (w : Network) (e : SiteEvent) (note : SitesNote) (next : Network) (drawn said : List LineRecord)
    → EventDoes set line e note w drawn next → said ≡ Further (further.Sites line.sub note) ∷ [] → TurnGives set line w e next (drawn ++ said)
turn_gives set line w e note next drawn said does is = record {
  turn = turn_of w line.sub e drawn;
  gives = record {
    drawn = drawn;
    draws = does.draws;
    turn_is = refl;
    lines_are = ap (λ (lines : List LineRecord). drawn ++ lines) (is ∙ ap (λ (n : SitesNote). Further (further.Sites line.sub n) ∷ []) does.noted);
  };
  leads = does.leads;
}

pub sites_more : (set : Setting) (line : SitesValue) (left more_left : List SiteEvent) (e : SiteEvent) (w next : Network) (front lines : List LineRecord) → left ≡ e ∷ more_left
    → SitesGoOn set line left w front → TurnGives set line w e next lines → SitesGoOn set line more_left next (front ++ lines)
sites_more set line left more_left e w next front lines first on t = λ rest more go.
    let after : SitesGo set line.sub line.size (after_event w t.turn.event t.turn.numbers t.turn.end) more_left rest more =
    subst (λ (v : Network). SitesGo set line.sub line.size v more_left rest more) t.leads go in
    let whole : SitesGo set line.sub line.size w (e ∷ more_left) (lines ++ rest) (t.turn ∷ more) = (lines, rest, refl, t.gives, after) in
    rw append_assoc (on (lines ++ rest) (t.turn ∷ more) (subst (λ (es : List SiteEvent). SitesGo set line.sub line.size w es (lines ++ rest) (t.turn ∷ more)) (sym first) whole))

pub sites_all : (set : Setting) (line : SitesValue) (left : List SiteEvent) (w : Network) (front : List LineRecord) → left ≡ [] → SitesGoOn set line left w front → SitesGives set line front
sites_all set line left w front none on =
    let nothing : SitesGo set line.sub line.size w [] [] [] = (refl, refl) in
    subst (SitesGives set line) (append-nil front) (on [] [] (subst (λ (es : List SiteEvent). SitesGo set line.sub line.size w es [] []) (sym none) nothing))

-- ---- a worker's events

-- what a line for sites has at its beginning
pub start_sites : (count : ℕ) (n : NetState) → n ≡ state_of (start (replicate count 1)) → length n.last ≡ count
start_sites count n is = ap (λ (m : NetState). length m.last) is ∙ length-replicate {A = Option Grant} (length (replicate count 1)) None ∙ length-replicate {A = ℕ} count 1

pub start_packets : (count : ℕ) (n : NetState) → n ≡ state_of (start (replicate count 1)) → length n.packets ≤ 0
start_packets count n is = rw is (omega arith)

module _ {C : Type 0} (kept : C → ℕ → Option ℕ) (goes : C → ℕ → List Entry → List (ℕ × Stop) → C → Type 0) where
  -- what a worker has served of a line with these events left, in a network of this state
  abbrev pub HasServed : WorkerState C → WorkerState C → SitesValue → List SiteEvent → NetState → Type 0
  HasServed old new line left state = (w : Network) × (state ≡ state_of w) × WorkerServes kept goes old new (λ lines. SitesGoOn old.set line left w)

  -- a further event, with what is said of it
  step_with : ((a b c : C) (i : ℕ) (es fs : List Entry) (ws vs : List (ℕ × Stop)) → goes a i es ws b → goes b i fs vs c → goes a i (es ++ fs) (ws ++ vs) c)
      → (old here mid new : WorkerState C) (line : SitesValue) (e : SiteEvent) (note : SitesNote) (left more_left : List SiteEvent) (before after : NetState)
      → here.set ≡ old.set → here.released ≡ old.released → mid.set ≡ here.set → mid.released ≡ here.released → left ≡ e ∷ more_left → HasServed old here line left before
      → DrawsIn kept goes here mid before after (EventDoes here.set line e note)
      → WorkerServes kept goes mid new (λ lines said. said ≡ Further (further.Sites line.sub note) ∷ []) → HasServed old new line more_left after
  step_with joins old here mid new line e note left more_left before after set released mid_set mid_released first (w, shown, on) draws said = by (draws w shown)
    where
      by : (next : Network) × (after ≡ state_of next) × WorkerServes kept goes here mid (λ lines drawn. EventDoes here.set line e note w drawn next) → HasServed old new line more_left after
      by (next, then_shown, does) = (
        next,
        then_shown,
        more_serves kept goes old here new (λ (lines : Before). SitesGoOn old.set line left w) (λ (s : Setting) (lines : Before) (own : List LineRecord). TurnGives s line w e next own)
            (λ (lines : Before). SitesGoOn old.set line more_left next) (joins old.centre here.centre new.centre) set released on
            (more_serves kept goes here mid new (λ (lines : Before) (drawn : List LineRecord). EventDoes here.set line e note w drawn next)
            (λ (s : Setting) (lines : Before) (own : List LineRecord). own ≡ Further (further.Sites line.sub note) ∷ []) (λ (lines : Before). TurnGives here.set line w e next) (joins here.centre mid.centre new.centre)
            mid_set mid_released does said (λ lines front rest first_does is. turn_gives here.set line w e note next front rest first_does is))
            (λ lines front rest go turn. sites_more old.set line left more_left e w next front rest first go turn),
      )

  -- the one at a place of the line's events
  pub sites_step : ((a b c : C) (i : ℕ) (es fs : List Entry) (ws vs : List (ℕ × Stop)) → goes a i es ws b → goes b i fs vs c → goes a i (es ++ fs) (ws ++ vs) c)
      → (old here mid new : WorkerState C) (line : SitesValue) (e : SiteEvent) (note : SitesNote) (events : List SiteEvent) (place : ℕ) (before after : NetState)
      → here.set ≡ old.set → here.released ≡ old.released → mid.set ≡ here.set → mid.released ≡ here.released → events ≡ line.schedule → drop place events ≡ e ∷ drop (place + 1) events
      → HasServed old here line (drop place line.schedule) before → DrawsIn kept goes here mid before after (EventDoes here.set line e note)
      → WorkerServes kept goes mid new (λ lines said. said ≡ Further (further.Sites line.sub note) ∷ []) → HasServed old new line (drop (place + 1) line.schedule) after
  sites_step joins old here mid new line e note events place before after set released mid_set mid_released all first served draws said =
      step_with joins old here mid new line e note (drop place line.schedule) (drop (place + 1) line.schedule) before after set released mid_set mid_released
      (subst (λ (es : List SiteEvent). drop place es ≡ e ∷ drop (place + 1) es) all first) served draws said

  -- all events
  pub sites_end : (old new : WorkerState C) (line : SitesValue) (left : List SiteEvent) (state : NetState) → left ≡ [] → HasServed old new line left state
      → WorkerServes kept goes old new (λ lines. SitesGives old.set line)
  sites_end old new line left state none (w, shown, on) =
      also_serves kept goes old new (λ (lines : Before). SitesGoOn old.set line left w) (λ (lines : Before). SitesGives old.set line) (λ lines front go. sites_all old.set line left w front none go) on
