-- For the law of leases: what a line for sites hands out, by the law of a master and its sites.
use Rattle.std.proofs.Common.{◌≡◌, ℕ, ◌<◌, ◌==◌, List, [], ◌∷◌, ◌++◌, replicate, All, Contains, Option, Some, None, refl, sym, ap, ◌∙◌, subst, arith, append_assoc, append-nil, slice_get, zero, suc}
use Rattle.std.proofs.lemmas.Bool.{cond-true, eq-eqb}
use Rattle.std.proofs.lemmas.List.Concat.{flat_map-append}
use Rattle.std.proofs.lemmas.List.Elements.{All-cons, All-head, All-nil, All-tail}
use Rattle.auc_lines.specs.Sites.{SitesValue}
use Rattle.auc_lines.specs.declared.sites.SiteEvent.{SiteEvent}
use Rattle.auc_lines.specs.declared.sites.SiteEvent.TheVariants as asked
use Rattle.auc_sites.specs.Law.{AreGivenOnce, EachNumberIsHandedOutOnce, released}
use Rattle.auc_sites.specs.Lease.{IsRising}
use Rattle.auc_sites.specs.Master.{judgement, last_grant, place_of}
use Rattle.auc_sites.specs.Network.{Event as SitesEvent, Network, SitesTurn, after_asking, after_delivery, after_drawing, after_event, after_reply, after_restarting, after_taking, after_turns, start, with_number, with_site}
use Rattle.auc_sites.specs.Reply.{reply_by}
use Rattle.auc_sites.specs.Run.{judgement_in}
use Rattle.auc_sites.specs.Site.{SiteState, after_draw, next_number}
use Rattle.auc_sites.specs.declared.grant.Grant.{Grant}
use Rattle.auc_sites.specs.declared.master.Judged.{Judged}
use Rattle.auc_sites.specs.declared.master.Judged.TheVariants as judged
use Rattle.auc_sites.specs.declared.master.Reply.{Reply}
use Rattle.auc_sites.specs.declared.master.Reply.TheVariants as reply
use Rattle.auc_sites.specs.declared.packet.Packet.{Packet}
use Rattle.auc_sites.specs.declared.packet.Packet.TheVariants.{Asking, Granting}
use Rattle.auc_vector.specs.declared.centre.CentreRefusal.{CentreRefusal}
use Rattle.auc_record.specs.Draws.{DrawGives, OneGives}
use Rattle.auc_record.specs.Lines.{numbers_of, released_by}
use Rattle.auc_subs.specs.Setting.{Setting}
use Rattle.auc_world.specs.Sites.{LeaseGives, SiteEventGives, SitesGives, SitesGo, event_of, note_of, note_of_draw, note_of_number, packet_place, sites_start}
use Rattle.auc_record.specs.declared.further.Further.TheVariants as further
use Rattle.auc_record.specs.declared.record.LineRecord.{LineRecord}
use Rattle.auc_record.specs.declared.record.LineRecord.TheVariants.{Number, Sync, Give, Further, Event}
use Rattle.auc_vector.specs.declared.notes.NumberNote.TheVariants as number
use Rattle.auc_world.proofs.Facts.{turns_append}
use Rattle.auc_transcript.specs.Leases.{HandsOut, HandsOutAfter, handed_by, handed_out, number_noted}
use Rattle.auc_transcript.proofs.ListLemmas.{AllPairs-left, AllPairs-right, all_right}

-- ---- lines

-- a line that says of no number that it was handed out
abbrev pub IsSilent : ℕ → LineRecord → Type 0
IsSilent sub l = handed_by sub l ≡ []

pub silent_out : (sub : ℕ) (lines : List LineRecord) → All (IsSilent sub) lines → handed_out sub lines ≡ []
silent_out sub [] silent = refl
silent_out sub (l ∷ lines) silent =
    ap (λ (ns : List ℕ). ns ++ handed_out sub lines) (All-head (IsSilent sub) l lines silent) ∙ silent_out sub lines (All-tail (IsSilent sub) l lines silent)

silent_after : (sub : ℕ) (before lines : List LineRecord) → All (IsSilent sub) lines → HandsOutAfter sub before lines
silent_after sub before [] silent = tt
silent_after sub before (l ∷ lines) silent = (
  subst (All (Contains (numbers_of sub before))) (sym (All-head (IsSilent sub) l lines silent)) (All-nil (Contains (numbers_of sub before))),
  silent_after sub (before ++ l ∷ []) lines (All-tail (IsSilent sub) l lines silent),
)

after-append : (sub : ℕ) (before xs ys : List LineRecord) → HandsOutAfter sub before xs → HandsOutAfter sub (before ++ xs) ys → HandsOutAfter sub before (xs ++ ys)
after-append sub before [] ys these those = subst (λ (b : List LineRecord). HandsOutAfter sub b ys) (append-nil before) those
after-append sub before (x ∷ xs) ys (first, these) those =
    (first, after-append sub (before ++ x ∷ []) xs ys these (subst (λ (b : List LineRecord). HandsOutAfter sub b ys) (sym (append_assoc before (x ∷ []) xs)) those))

-- a request for a vector, and what follows its number
pub one_silent : (set : Setting) (who sub : ℕ) (Follows : ℕ → List LineRecord → Type 0) (lines : List LineRecord)
    → ((n : ℕ) (rest : List LineRecord) → Follows n rest → All (IsSilent sub) rest) → OneGives set who Follows lines → All (IsSilent sub) lines
one_silent set who sub Follows [] silent gives = absurd gives
one_silent set who sub Follows (Number s (number.Drew n) ∷ lines) silent (same, is, more) = All-cons (IsSilent sub) (Number s (number.Drew n)) lines refl (silent n lines more)
one_silent set who sub Follows (Number s (number.Withheld n stop) ∷ lines) silent (same, first, last, none) =
    All-cons (IsSilent sub) (Number s (number.Withheld n stop)) lines refl (subst (All (IsSilent sub)) (sym none) (All-nil (IsSilent sub)))
one_silent set who sub Follows (Number s (number.Exhausted word) ∷ lines) silent (same, spent, none) =
    All-cons (IsSilent sub) (Number s (number.Exhausted word)) lines refl (subst (All (IsSilent sub)) (sym none) (All-nil (IsSilent sub)))
one_silent set who sub Follows (Sync s answer ∷ lines) silent gives = absurd gives
one_silent set who sub Follows (Give s n answer ∷ lines) silent gives = absurd gives
one_silent set who sub Follows (Further said ∷ lines) silent gives = absurd gives
one_silent set who sub Follows (Event r ∷ lines) silent gives = absurd gives

-- a request for so many
pub draw_silent : (set : Setting) (who count sub : ℕ) (lines : List LineRecord) → DrawGives set who count lines → All (IsSilent sub) lines
draw_silent set who zero sub lines none = subst (All (IsSilent sub)) (sym none) (All-nil (IsSilent sub))
draw_silent set who (suc count) sub lines gives =
    one_silent set who sub (λ n rest. DrawGives set who count rest) lines (λ n rest more. draw_silent set who count sub rest more) gives

pub lease_silent : (set : Setting) (who size sub : ℕ) (made : Option Judged) (lines : List LineRecord) → LeaseGives set who size made lines → All (IsSilent sub) lines
lease_silent set who size sub None lines none = subst (All (IsSilent sub)) (sym none) (All-nil (IsSilent sub))
lease_silent set who size sub (Some (judged.Again g)) lines none = subst (All (IsSilent sub)) (sym none) (All-nil (IsSilent sub))
lease_silent set who size sub (Some (judged.Old last)) lines none = subst (All (IsSilent sub)) (sym none) (All-nil (IsSilent sub))
lease_silent set who size sub (Some judged.New) lines gives = draw_silent set who size sub lines gives

-- ---- the numbers of turns

each_rises : (turns : List SitesTurn) → IsRising (released turns) → All (λ t. IsRising t.numbers) turns
each_rises [] rising = All-nil (λ (t : SitesTurn). IsRising t.numbers)
each_rises (t ∷ turns) rising =
    All-cons (λ (u : SitesTurn). IsRising u.numbers) t turns (AllPairs-left ◌<◌ t.numbers (released turns) rising) (each_rises turns (AllPairs-right ◌<◌ t.numbers (released turns) rising))

-- numbers that rise are given once
given_once : (turns : List SitesTurn) → IsRising (released turns) → AreGivenOnce turns
given_once turns rising = record {
  differ = λ i j d i<j j<n same. let less = rising i j d i<j j<n in absurd (omega (arith, less, same));
  rise = each_rises turns rising;
}

-- ---- an event at the sites

-- the numbers that were handed out, and the one that is noted
module _ (w : Network) (t : SitesTurn) (numbers : List ℕ) (end : Option CentreRefusal) where
  -- nothing more
  none_more : w.drawn ≡ w.drawn ++ []
  none_more = sym (append-nil w.drawn)

  after_replies : (r : Reply) → (after_reply w r).drawn ≡ w.drawn ++ []
  after_replies (reply.Granted g) = none_more
  after_replies (reply.Again g) = none_more
  after_replies (reply.Old last) = none_more
  after_replies (reply.Refused why) = none_more

  after_takes : (i : ℕ) (g : Grant) (o : Option SiteState) → (after_taking w i g o).drawn ≡ w.drawn ++ []
  after_takes i g None = none_more
  after_takes i g (Some s) = none_more

  after_delivers : (o : Option Packet) → (after_delivery w numbers end o).drawn ≡ w.drawn ++ []
  after_delivers None = none_more
  after_delivers (Some (Asking r)) = after_replies (reply_by (judgement (last_grant w.last r) r) r numbers end)
  after_delivers (Some (Granting g)) = after_takes (place_of g.request.site) g (slice_get w.sites (place_of g.request.site))

  after_asks : (i : ℕ) (o : Option SiteState) → (after_asking w i o).drawn ≡ w.drawn ++ []
  after_asks i None = none_more
  after_asks i (Some s) = none_more

  after_restarts : (i : ℕ) (o : Option SiteState) → (after_restarting w i o).drawn ≡ w.drawn ++ []
  after_restarts i None = none_more
  after_restarts i (Some s) = none_more

  after_draws : (site i : ℕ) (o : Option SiteState) → (after_drawing w i o).drawn ≡ w.drawn ++ number_noted (note_of_draw site o)
  after_draws site i None = none_more
  after_draws site i (Some s) = by (next_number s)
    where
      by : (o : Option ℕ) → (with_number (with_site w i (after_draw s)) o).drawn ≡ w.drawn ++ number_noted (note_of_number site o)
      by None = none_more
      by (Some n) = refl

  noted : (e : SiteEvent) → (after_event w (event_of w e) numbers end).drawn ≡ w.drawn ++ number_noted (note_of w e t)
  noted (asked.Ask site) = after_asks (place_of site) (slice_get w.sites (place_of site))
  noted (asked.Deliver packet) = after_delivers (slice_get w.packets (packet_place w packet))
  noted (asked.Draw site) = after_draws site (place_of site) (slice_get w.sites (place_of site))
  noted (asked.Restart site) = after_restarts (place_of site) (slice_get w.sites (place_of site))
  noted asked.MasterRestart = none_more

-- ---- all events

-- the turns so far led to a network, and gave the numbers of the lines so far
record Stands (sub : ℕ) (boots : List ℕ) (done : List SitesTurn) (before : List LineRecord) (w : Network) : Type 0 where
  is : w ≡ after_turns (start boots) done
  given : released done ≡ numbers_of sub before

-- what events give, after others
record Goes (sub : ℕ) (before lines : List LineRecord) (w : Network) (turns : List SitesTurn) : Type 0 where
  given : released turns ≡ numbers_of sub lines
  told : (after_turns w turns).drawn ≡ w.drawn ++ handed_out sub lines
  known : HandsOutAfter sub before lines

module _ (law : EachNumberIsHandedOutOnce) (set : Setting) (sub size : ℕ) (boots : List ℕ) where
  -- the line of an event
  abbrev said : Network → SiteEvent → SitesTurn → LineRecord
  said w e t = Further (further.Sites sub (note_of w e t))

  says : (w : Network) (e : SiteEvent) (t : SitesTurn) → handed_by sub (said w e t) ≡ number_noted (note_of w e t)
  says w e t = cond-true (sub == sub) (number_noted (note_of w e t)) [] (eq-eqb sub sub refl)

  module _ (done : List SitesTurn) (before : List LineRecord) (w : Network) (st : Stands sub boots done before w) (e : SiteEvent) (front : List LineRecord) (turn : SitesTurn)
      (gives : SiteEventGives set sub size w e front turn) (rising : IsRising (numbers_of sub (before ++ front))) where
    abbrev next : Network
    next = after_event w turn.event turn.numbers turn.end

    abbrev line : LineRecord
    line = said w e turn

    silent : All (IsSilent sub) gives.drawn
    silent = lease_silent set sub size sub (judgement_in w (event_of w e)) gives.drawn gives.draws

    -- the line of the event releases nothing
    numbers : numbers_of sub front ≡ numbers_of sub gives.drawn
    numbers = ap (numbers_of sub) gives.lines_are ∙ flat_map-append (released_by sub) gives.drawn (line ∷ []) ∙ append-nil (numbers_of sub gives.drawn)

    given_here : turn.numbers ≡ numbers_of sub front
    given_here = ap (λ (t : SitesTurn). t.numbers) gives.turn_is ∙ sym numbers

    drawn_here : next.drawn ≡ w.drawn ++ number_noted (note_of w e turn)
    drawn_here = ap (λ (x : SitesEvent). (after_event w x turn.numbers turn.end).drawn) (ap (λ (t : SitesTurn). t.event) gives.turn_is) ∙ noted w turn turn.numbers turn.end e

    told_here : next.drawn ≡ w.drawn ++ handed_out sub front
    told_here =
        drawn_here
        ∙ ap (λ (ns : List ℕ). w.drawn ++ ns)
        (sym (ap (handed_out sub) gives.lines_are ∙ flat_map-append (handed_by sub) gives.drawn (line ∷ [])
        ∙ ap (λ (ns : List ℕ). ns ++ handed_out sub (line ∷ [])) (silent_out sub gives.drawn silent) ∙ append-nil (handed_by sub line) ∙ says w e turn))

    released_here : released (done ++ turn ∷ []) ≡ numbers_of sub (before ++ front)
    released_here =
        flat_map-append (λ (t : SitesTurn). t.numbers) done (turn ∷ []) ∙ ap (λ (ns : List ℕ). released done ++ ns) (append-nil turn.numbers ∙ given_here)
        ∙ ap (λ (ns : List ℕ). ns ++ numbers_of sub front) st.given ∙ sym (flat_map-append (released_by sub) before front)

    leads_here : next ≡ after_turns (start boots) (done ++ turn ∷ [])
    leads_here = ap (λ (v : Network). after_event v turn.event turn.numbers turn.end) st.is ∙ sym (turns_append (start boots) done turn)

    stands_here : Stands sub boots (done ++ turn ∷ []) (before ++ front) next
    stands_here = record { is = leads_here; given = released_here }

    -- what the sites have handed out are numbers that were released before the line of the event
    known_here : All (Contains (numbers_of sub (before ++ gives.drawn))) next.drawn
    known_here =
        let once = law boots (done ++ turn ∷ []) (given_once (done ++ turn ∷ []) (subst IsRising (sym released_here) rising)) in
        let same : numbers_of sub (before ++ front) ≡ numbers_of sub (before ++ gives.drawn) =
        flat_map-append (released_by sub) before front ∙ ap (λ (ns : List ℕ). numbers_of sub before ++ ns) numbers ∙ sym (flat_map-append (released_by sub) before gives.drawn) in
        subst (λ (v : Network). All (Contains (numbers_of sub (before ++ gives.drawn))) v.drawn) (sym leads_here)
        (subst (λ (ns : List ℕ). All (Contains ns) (after_turns (start boots) (done ++ turn ∷ [])).drawn) (released_here ∙ same) once.known)

    before_here : HandsOutAfter sub before front
    before_here =
        let P : ℕ → Type 0 = Contains (numbers_of sub (before ++ gives.drawn)) in
        let own : All P (number_noted (note_of w e turn)) = all_right P w.drawn (number_noted (note_of w e turn)) (subst (All P) drawn_here known_here) in
        subst (HandsOutAfter sub before) (sym gives.lines_are)
        (after-append sub before gives.drawn (line ∷ []) (silent_after sub before gives.drawn silent) (subst (All P) (sym (says w e turn)) own, tt))

  -- events one after the other
  goes_on : (done : List SitesTurn) (before : List LineRecord) (w : Network) → Stands sub boots done before w → (events : List SiteEvent) (lines : List LineRecord) (turns : List SitesTurn)
      → SitesGo set sub size w events lines turns → IsRising (numbers_of sub (before ++ lines)) → Goes sub before lines w turns
  goes_on done before w st [] lines turns (none, ends) rising = record {
    given = ap released ends ∙ sym (ap (numbers_of sub) none);
    told = ap (λ (ts : List SitesTurn). (after_turns w ts).drawn) ends ∙ sym (ap (λ (ls : List LineRecord). w.drawn ++ handed_out sub ls) none ∙ append-nil w.drawn);
    known = subst (HandsOutAfter sub before) (sym none) tt;
  }
  goes_on done before w st (e ∷ events) lines [] goes rising = absurd goes
  goes_on done before w st (e ∷ events) lines (turn ∷ turns) (front, rest, cut, gives, more) rising =
      let all : IsRising (numbers_of sub ((before ++ front) ++ rest)) =
      subst (λ (ls : List LineRecord). IsRising (numbers_of sub ls)) (ap (λ (ls : List LineRecord). before ++ ls) cut ∙ sym (append_assoc before front rest)) rising in
      let first : IsRising (numbers_of sub (before ++ front)) =
      AllPairs-left ◌<◌ (numbers_of sub (before ++ front)) (numbers_of sub rest) (subst IsRising (flat_map-append (released_by sub) (before ++ front) rest) all) in
      let later = after_event w turn.event turn.numbers turn.end in
      let after = goes_on (done ++ turn ∷ []) (before ++ front) later (stands_here done before w st e front turn gives first) events rest turns more all in
      record {
        given = ap (λ (ns : List ℕ). ns ++ released turns) (given_here done before w st e front turn gives first) ∙ ap (λ (ns : List ℕ). numbers_of sub front ++ ns) after.given
            ∙ sym (ap (numbers_of sub) cut ∙ flat_map-append (released_by sub) front rest);
        told = after.told ∙ ap (λ (ns : List ℕ). ns ++ handed_out sub rest) (told_here done before w st e front turn gives first)
            ∙ append_assoc w.drawn (handed_out sub front) (handed_out sub rest)
            ∙ ap (λ (ns : List ℕ). w.drawn ++ ns) (sym (ap (handed_out sub) cut ∙ flat_map-append (handed_by sub) front rest));
        known = subst (HandsOutAfter sub before) (sym cut)
            (after-append sub before front rest (before_here done before w st e front turn gives first) after.known);
      }

-- a line for sites, if its numbers rise
pub sites_hand_out : EachNumberIsHandedOutOnce → (set : Setting) (l : SitesValue) (lines : List LineRecord) → SitesGives set l lines → IsRising (numbers_of l.sub lines) → HandsOut set l lines
sites_hand_out law set l lines (turns, goes) rising =
    let all = goes_on law set l.sub l.size (replicate l.sites 1) [] [] (sites_start l) (record { is = refl; given = refl }) l.schedule lines turns goes rising in
    record {
      turns = turns;
      goes = goes;
      given = all.given;
      told = all.told;
      once = law (replicate l.sites 1) turns (given_once turns (subst IsRising (sym all.given) rising));
      before = all.known;
    }
