-- For `World::apply`: an event, by what its kind comes to.
use Rattle.std.proofs.Common.{◌≡◌, ◌<◌, ℕ, zero, suc, List, [], ◌∷◌, length, Option, Some, None, Result, Ok, Err, refl, sym, ap, ◌∙◌, subst, arith}
use Rattle.std.specs.Prelude.{IfOk, OnErr, map, slice_get}
use Rattle.auc_memory.specs.declared.stop.Stop.{Stop}
use Rattle.auc_history.specs.declared.entry.Entry.{Entry}
use Rattle.auc_lines.specs.declared.part.SessionLine.{SessionLine}
use Rattle.auc_lines.specs.declared.part.End.{End}
use Rattle.auc_lines.specs.declared.part.End.TheVariants as end
use Rattle.auc_peer.specs.Subscription.{Subscription}
use Rattle.auc_server.specs.Server.{ServerEnd}
use Rattle.auc_subs.specs.Setting.{Setting}
use Rattle.auc_server.specs.declared.setting.HomeRow.{HomeRow}
use Rattle.auc_vector.specs.Notes.{AskedCentre}
use Rattle.auc_world.proofs.ServingLemmas.{delivery_to, has_packet, nothing_told, unjudged}
use Rattle.auc_world.specs.Came.{AreReceived, AsksIn, RepliesIn, TellsNotes, asking_in, came, came_delivered, came_in, came_opened, came_repeated, came_started, presented_in, received_at, server_came_to_give_up, session_of, came_changed}
use Rattle.auc_record.specs.Event.{Came}
use Rattle.auc_world.specs.Happened.{Delivery, ToldEvent, at_place, at_session, delivered, delivery_at, delivery_in, found_by, happened, in_session, opened, repeat, server_gives_up, start, with_copy}
use Rattle.auc_world.specs.InnerWorld.{Answers, IsReached, IsUnreached, ServesPacket, came_of, net_of, refusal_of, copy_by}
use Rattle.auc_world.specs.Net.{Net, device_place, judged, packet_at, session_place}
use Rattle.auc_world.specs.World.{Applies, AreHanded, AreOfSame, WorldState}
use Rattle.auc_world.specs.declared.acting.Deed.{Deed}
use Rattle.auc_world.specs.declared.acting.Deed.TheVariants as deed
use Rattle.auc_world.specs.declared.changing.Change.TheVariants as change
use Rattle.auc_record.specs.declared.event.Event.TheVariants as event
use Rattle.auc_record.specs.declared.event.WorldRefusal.{WorldRefusal}
use Rattle.auc_world.specs.declared.net.SentPacket.{SentPacket}
use Rattle.auc_world.specs.declared.net.Session.{Session}

-- what holds of each answer
pub each_ok : {A E : Type 0} (r : Result A E) (P Q : A → Type 0) → ((a : A) → P a → Q a) → IfOk r P → IfOk r Q
each_ok (Ok a) P Q then p = then a p
each_ok (Err e) P Q then p = tt

pub both_ok : {A E : Type 0} (r : Result A E) (P R Q : A → Type 0) → ((a : A) → P a → R a → Q a) → IfOk r P → IfOk r R → IfOk r Q
both_ok (Ok a) P R Q then p q = then a p q
both_ok (Err e) P R Q then p q = tt

-- ---- homes and devices

abbrev ends : Net → List HomeRow × List Subscription
ends w = (w.homes, w.devices)

-- an event that an end does by itself changes neither
pub opened_ends : (w : Net) (opening : SessionLine) (found place : Option ℕ) → ends (opened w opening found place) ≡ ends w
opened_ends w opening (Some other) place = refl
opened_ends w opening None None = refl
opened_ends w opening None (Some place) = refl

server_ends : (w : Net) (place : ℕ) (session : Session) (s : Option ServerEnd) (what : Deed) → session.server ≡ s → ends (net_of w what place session) ≡ ends w
server_ends w place session None deed.Start is = ap (λ (o : Option ServerEnd). ends (start w place session o)) is
server_ends w place session (Some s) deed.Start is = ap (λ (o : Option ServerEnd). ends (start w place session o)) is
server_ends w place session None deed.Repeat is = ap (λ (o : Option ServerEnd). ends (repeat w place session o)) is
server_ends w place session (Some s) deed.Repeat is = ap (λ (o : Option ServerEnd). ends (repeat w place session o)) is
server_ends w place session None (deed.GiveUp end.Server) is = ap (λ (o : Option ServerEnd). ends (server_gives_up w place session o)) is
server_ends w place session (Some s) (deed.GiveUp end.Server) is = ap (λ (o : Option ServerEnd). ends (server_gives_up w place session o)) is
server_ends w place session s (deed.GiveUp end.Peer) is = refl

place_ends : (w : Net) (what : Deed) (place : ℕ) (s : Option Session) → ends (in_session w (net_of w what) place s) ≡ ends w
place_ends w what place None = refl
place_ends w what place (Some session) = server_ends w place session session.server what refl

found_ends : (w : Net) (what : Deed) (place : Option ℕ) → ends (at_place w (net_of w what) place) ≡ ends w
found_ends w what None = refl
found_ends w what (Some place) = place_ends w what place (slice_get w.sessions place)

pub acted_ends : (w : Net) (what : Deed) (number : ℕ) → ends (at_session w number (net_of w what)) ≡ ends w
acted_ends w what number = found_ends w what (session_place w.sessions number)

either_ends : {A E : Type 0} (r : Result A E) (old new : WorldState) (net : Net) → ends net ≡ ends old.net → IfOk r (λ _. new ≡ record old { net = net }) → OnErr r (new ≡ old)
    → ends new.net ≡ ends old.net
either_ends (Ok a) old new net same leads kept = ap (λ (w : WorldState). ends w.net) leads ∙ same
either_ends (Err e) old new net same leads kept = ap (λ (w : WorldState). ends w.net) kept

-- so they are the same after it, and after a lack of memory
module _ {A E : Type 0} (r : Result A E) (old new : WorldState) (net : Net) (same : ends net ≡ ends old.net) (leads : IfOk r (λ _. new ≡ record old { net = net })) (kept : OnErr r (new ≡ old)) where
  pub same_homes : AreOfSame old.net.homes new.net.homes
  same_homes = ap (λ (e : List HomeRow × List Subscription). map (λ (home : HomeRow). home.sub) e.0) (either_ends r old new net same leads kept)

  pub same_devices : new.net.devices ≡ old.net.devices
  same_devices = ap (λ (e : List HomeRow × List Subscription). e.1) (either_ends r old new net same leads kept)

-- ---- an event in which nothing is found

-- the breach stays
kept_breach : (w new : Net) → new.broken ≡ w.broken → new ≡ record new { broken = judged w.packets w.broken None }
kept_breach w new same = let stays : new.broken ≡ judged w.packets w.broken None = same ∙ unjudged w.packets w.broken in λ j. record new { broken = stays j }

opened_breach : (w : Net) (opening : SessionLine) (found place : Option ℕ) → (opened w opening found place).broken ≡ w.broken
opened_breach w opening (Some other) place = refl
opened_breach w opening None None = refl
opened_breach w opening None (Some place) = refl

opened_tells : (found place : Option ℕ) → TellsNotes nothing_told (came_opened found place)
opened_tells (Some other) place = tt
opened_tells None None = tt
opened_tells None (Some place) = refl

server_breach : (w : Net) (place : ℕ) (session : Session) (s : Option ServerEnd) (what : Deed) → session.server ≡ s → (net_of w what place session).broken ≡ w.broken
server_breach w place session None deed.Start is = ap (λ (o : Option ServerEnd). (start w place session o).broken) is
server_breach w place session (Some s) deed.Start is = ap (λ (o : Option ServerEnd). (start w place session o).broken) is
server_breach w place session None deed.Repeat is = ap (λ (o : Option ServerEnd). (repeat w place session o).broken) is
server_breach w place session (Some s) deed.Repeat is = ap (λ (o : Option ServerEnd). (repeat w place session o).broken) is
server_breach w place session None (deed.GiveUp end.Server) is = ap (λ (o : Option ServerEnd). (server_gives_up w place session o).broken) is
server_breach w place session (Some s) (deed.GiveUp end.Server) is = ap (λ (o : Option ServerEnd). (server_gives_up w place session o).broken) is
server_breach w place session s (deed.GiveUp end.Peer) is = refl

place_breach : (w : Net) (what : Deed) (place : ℕ) (s : Option Session) → (in_session w (net_of w what) place s).broken ≡ w.broken
place_breach w what place None = refl
place_breach w what place (Some session) = server_breach w place session session.server what refl

session_breach : (w : Net) (what : Deed) (place : Option ℕ) → (at_place w (net_of w what) place).broken ≡ w.broken
session_breach w what None = refl
session_breach w what (Some place) = place_breach w what place (slice_get w.sessions place)

server_tells : (w : Net) (session : Session) (s : Option ServerEnd) (what : Deed) → session.server ≡ s → TellsNotes nothing_told (came_of w what session)
server_tells w session None deed.Start is = subst (λ (o : Option ServerEnd). TellsNotes nothing_told (came_started w session.options o)) (sym is) refl
server_tells w session (Some s) deed.Start is = subst (λ (o : Option ServerEnd). TellsNotes nothing_told (came_started w session.options o)) (sym is) tt
server_tells w session None deed.Repeat is = subst (λ (o : Option ServerEnd). TellsNotes nothing_told (came_repeated w o)) (sym is) tt
server_tells w session (Some s) deed.Repeat is = subst (λ (o : Option ServerEnd). TellsNotes nothing_told (came_repeated w o)) (sym is) refl
server_tells w session None (deed.GiveUp end.Server) is = subst (λ (o : Option ServerEnd). TellsNotes nothing_told (server_came_to_give_up w o)) (sym is) tt
server_tells w session (Some s) (deed.GiveUp end.Server) is = subst (λ (o : Option ServerEnd). TellsNotes nothing_told (server_came_to_give_up w o)) (sym is) refl
server_tells w session s (deed.GiveUp end.Peer) is = refl

session_tells : (w : Net) (what : Deed) (s : Option Session) → TellsNotes nothing_told (came_in (came_of w what) s)
session_tells w what None = tt
session_tells w what (Some session) = server_tells w session session.server what refl

change_tells : (packets : List SentPacket) (sent : Option SentPacket) (copy : Option (List ℕ)) → TellsNotes nothing_told (came_changed packets sent copy)
change_tells packets None copy = tt
change_tells packets (Some sent) None = tt
change_tells packets (Some sent) (Some bytes) = refl

has_session : (sessions : List Session) (place : ℕ) → place < length sessions → (session : Session) × (slice_get sessions place ≡ Some session)
has_session [] place within = absurd (omega arith)
has_session (session ∷ sessions) zero within = (session, refl)
has_session (session ∷ sessions) (suc place) within = has_session sessions place (omega arith)

module _ {S : Type 0} (goes : S → ℕ → List Entry → List (ℕ × Stop) → S → Type 0) (kept : S → ℕ → Option ℕ) (top : S → ℕ → ℕ) (set : Setting) (old new : WorldState)
    (before after : S) (stays : (a : S) (i : ℕ) → goes a i [] [] a) where
  -- a session is opened
  pub open_applies : (opening : SessionLine) (result : Came) → result ≡ came_opened (session_place old.net.sessions opening.session) (device_place set.rows old.net.devices opening.sub)
      → new ≡ record old { net = opened old.net opening (session_place old.net.sessions opening.session) (device_place set.rows old.net.devices opening.sub) }
      → Applies goes kept top set old (event.Open opening) before new result before
  open_applies opening result is leads = record {
    told = nothing_told;
    is = is;
    leads = ap (λ (w : WorldState). w.net) leads
        ∙ kept_breach old.net (opened old.net opening (session_place old.net.sessions opening.session) (device_place set.rows old.net.devices opening.sub))
        (opened_breach old.net opening (session_place old.net.sessions opening.session) (device_place set.rows old.net.devices opening.sub));
    received = tt;
    notes = opened_tells (session_place old.net.sessions opening.session) (device_place set.rows old.net.devices opening.sub);
    replies = tt;
    centre = ((λ i. stays before i), (λ i. refl));
    drawn = tt;
    usims = ap (λ (w : WorldState). w.devices) leads;
  }

  -- an end does something by itself
  module _ (number : ℕ) (result : Came) where
    leads_to : (what : Deed) → new ≡ record old { net = at_session old.net number (net_of old.net what) }
        → new.net ≡ record (at_session old.net number (net_of old.net what)) { broken = judged old.net.packets old.net.broken None }
    leads_to what leads = ap (λ (w : WorldState). w.net) leads ∙ kept_breach old.net (at_session old.net number (net_of old.net what)) (session_breach old.net what (session_place old.net.sessions number))

    pub start_applies : result ≡ came_in (came_of old.net deed.Start) (session_of old.net number) → new ≡ record old { net = at_session old.net number (net_of old.net deed.Start) }
        → Applies goes kept top set old (event.Start number) before new result before
    start_applies is leads = record {
      told = nothing_told;
      is = is;
      leads = leads_to deed.Start leads;
      received = tt;
      notes = session_tells old.net deed.Start (session_of old.net number);
      replies = tt;
      centre = ((λ i. stays before i), (λ i. refl));
      drawn = tt;
      usims = ap (λ (w : WorldState). w.devices) leads;
    }

    pub repeat_applies : result ≡ came_in (came_of old.net deed.Repeat) (session_of old.net number) → new ≡ record old { net = at_session old.net number (net_of old.net deed.Repeat) }
        → Applies goes kept top set old (event.Repeat number) before new result before
    repeat_applies is leads = record {
      told = nothing_told;
      is = is;
      leads = leads_to deed.Repeat leads;
      received = tt;
      notes = session_tells old.net deed.Repeat (session_of old.net number);
      replies = tt;
      centre = ((λ i. stays before i), (λ i. refl));
      drawn = tt;
      usims = ap (λ (w : WorldState). w.devices) leads;
    }

    pub give_up_applies : (at' : End) → result ≡ came_in (came_of old.net (deed.GiveUp at')) (session_of old.net number)
        → new ≡ record old { net = at_session old.net number (net_of old.net (deed.GiveUp at')) } → Applies goes kept top set old (event.GiveUp number at') before new result before
    give_up_applies at' is leads = record {
      told = nothing_told;
      is = is;
      leads = leads_to (deed.GiveUp at') leads;
      received = tt;
      notes = session_tells old.net (deed.GiveUp at') (session_of old.net number);
      replies = tt;
      centre = ((λ i. stays before i), (λ i. refl));
      drawn = tt;
      usims = ap (λ (w : WorldState). w.devices) leads;
    }

  -- a packet is changed
  module _ (packet : ℕ) (result : Came) where
    copy_leads : (copy : Option (List ℕ)) → new ≡ record old { net = with_copy old.net copy }
        → new.net ≡ record (with_copy old.net copy) { broken = judged old.net.packets old.net.broken None }
    copy_leads copy leads = ap (λ (w : WorldState). w.net) leads ∙ kept_breach old.net (with_copy old.net copy) refl

    pub tamper_applies : (place byte : ℕ)
        → result ≡ came_changed old.net.packets (packet_at old.net.packets packet) (copy_by (change.Byte place byte) (packet_at old.net.packets packet))
        → new ≡ record old { net = with_copy old.net (copy_by (change.Byte place byte) (packet_at old.net.packets packet)) }
        → Applies goes kept top set old (event.Tamper packet place byte) before new result before
    tamper_applies place byte is leads =
        let copy = copy_by (change.Byte place byte) (packet_at old.net.packets packet) in record {
          told = nothing_told;
          is = is;
          leads = copy_leads copy leads;
          received = tt;
          notes = change_tells old.net.packets (packet_at old.net.packets packet) copy;
          replies = tt;
          centre = ((λ i. stays before i), (λ i. refl));
          drawn = tt;
          usims = ap (λ (w : WorldState). w.devices) leads;
        }

    pub cut_applies : (count : ℕ)
        → result ≡ came_changed old.net.packets (packet_at old.net.packets packet) (copy_by (change.Cut count) (packet_at old.net.packets packet))
        → new ≡ record old { net = with_copy old.net (copy_by (change.Cut count) (packet_at old.net.packets packet)) }
        → Applies goes kept top set old (event.Cut packet count) before new result before
    cut_applies count is leads =
        let copy = copy_by (change.Cut count) (packet_at old.net.packets packet) in record {
          told = nothing_told;
          is = is;
          leads = copy_leads copy leads;
          received = tt;
          notes = change_tells old.net.packets (packet_at old.net.packets packet) copy;
          replies = tt;
          centre = ((λ i. stays before i), (λ i. refl));
          drawn = tt;
          usims = ap (λ (w : WorldState). w.devices) leads;
        }

  -- ---- a delivery

  came_unreached : (at' : End) (told : ToldEvent) (p : Option SentPacket) → Err (refusal_of p) ≡ came_delivered set old.net at' told p None
  came_unreached end.Server told None = refl
  came_unreached end.Server told (Some sent) = refl
  came_unreached end.Peer told None = refl
  came_unreached end.Peer told (Some sent) = refl

  -- a packet that reaches nobody
  pub unreached_applies : (number packet : ℕ) (at' : End) (why : WorldRefusal) → IsUnreached old.net number packet why
      → Applies goes kept top set old (event.Deliver number at' packet) before old (Err why) before
  unreached_applies number packet end.Server why un = record {
    told = nothing_told;
    is = ap Err un.1 ∙ came_unreached end.Server nothing_told (packet_at old.net.packets packet)
        ∙ ap (came_delivered set old.net end.Server nothing_told (packet_at old.net.packets packet)) (sym un.0);
    leads = (λ j. record old.net { broken = unjudged old.net.packets old.net.broken j })
        ∙ ap (λ (d : Option Delivery). record (delivered set old.net end.Server nothing_told d) { broken = judged old.net.packets old.net.broken (found_by set old.net end.Server nothing_told d) }) (sym un.0);
    received = subst (λ (d : Option Delivery). AreReceived (received_at old.net end.Server d) nothing_told.seen) (sym un.0) tt;
    notes = subst (TellsNotes nothing_told) (ap Err un.1 ∙ came_unreached end.Server nothing_told (packet_at old.net.packets packet)
        ∙ ap (came_delivered set old.net end.Server nothing_told (packet_at old.net.packets packet)) (sym un.0)) tt;
    replies = subst (RepliesIn end.Server nothing_told) (sym un.0) tt;
    centre = subst (λ (d : Option Delivery). AskedCentre goes kept top (asking_in set old.net end.Server nothing_told d) nothing_told.notes before before) (sym un.0) ((λ i. stays before i), (λ i. refl));
    drawn = subst (AsksIn set old.net end.Server nothing_told) (sym un.0) tt;
    usims = subst (λ (d : Option Delivery). AreHanded (presented_in old.net end.Server nothing_told d) nothing_told old.devices old.devices) (sym un.0) refl;
  }
  unreached_applies number packet end.Peer why un = record {
    told = nothing_told;
    is = ap Err un.1 ∙ came_unreached end.Peer nothing_told (packet_at old.net.packets packet)
        ∙ ap (came_delivered set old.net end.Peer nothing_told (packet_at old.net.packets packet)) (sym un.0);
    leads = (λ j. record old.net { broken = unjudged old.net.packets old.net.broken j })
        ∙ ap (λ (d : Option Delivery). record (delivered set old.net end.Peer nothing_told d) { broken = judged old.net.packets old.net.broken (found_by set old.net end.Peer nothing_told d) }) (sym un.0);
    received = subst (λ (d : Option Delivery). AreReceived (received_at old.net end.Peer d) nothing_told.seen) (sym un.0) tt;
    notes = subst (TellsNotes nothing_told) (ap Err un.1 ∙ came_unreached end.Peer nothing_told (packet_at old.net.packets packet)
        ∙ ap (came_delivered set old.net end.Peer nothing_told (packet_at old.net.packets packet)) (sym un.0)) tt;
    replies = subst (RepliesIn end.Peer nothing_told) (sym un.0) tt;
    centre = subst (λ (d : Option Delivery). AskedCentre goes kept top (asking_in set old.net end.Peer nothing_told d) nothing_told.notes before before) (sym un.0) ((λ i. stays before i), (λ i. refl));
    drawn = subst (AsksIn set old.net end.Peer nothing_told) (sym un.0) tt;
    usims = subst (λ (d : Option Delivery). AreHanded (presented_in old.net end.Peer nothing_told d) nothing_told old.devices old.devices) (sym un.0) refl;
  }

  -- the delivery of a packet that reaches a session
  record Arrives (number place packet : ℕ) : Type 0 where
    d : Delivery
    at_place : delivery_at old.net packet (Some place) ≡ Some d
    within : delivery_in old.net number packet ≡ Some d
    sent : SentPacket
    of_number : packet_at old.net.packets packet ≡ Some sent

  arrives : (number place packet : ℕ) → session_place old.net.sessions number ≡ Some place → IsReached old.net place packet → Arrives number place packet
  arrives number place packet found reached =
      let session = has_session old.net.sessions place reached.session in
      let sent = has_packet old.net.packets packet reached.first reached.last in
      let there : delivery_at old.net packet (Some place) ≡ Some (delivery_to place packet session.0 sent.sent) = rw (session.1, sent.of_number) refl in
      record {
        d = delivery_to place packet session.0 sent.sent;
        at_place = there;
        within = ap (delivery_at old.net packet) found ∙ there;
        sent = sent.sent;
        of_number = sent.of_number;
      }

  module _ (number place packet : ℕ) (result : Came) (found : session_place old.net.sessions number ≡ Some place) (reached : IsReached old.net place packet) where
    abbrev here : Arrives number place packet
    here = arrives number place packet found reached

    is_there : (at' : End) (told : ToldEvent) → came_delivered set old.net at' told (Some here.sent) (Some here.d) ≡ came set old.net (event.Deliver number at' packet) told
    is_there at' told = ap (λ (p : Option SentPacket). came_delivered set old.net at' told p (Some here.d)) (sym here.of_number)
        ∙ ap (came_delivered set old.net at' told (packet_at old.net.packets packet)) (sym here.within)

    leads_there : (at' : End) (told : ToldEvent) → record (delivered set old.net at' told (Some here.d)) { broken = judged old.net.packets old.net.broken (found_by set old.net at' told (Some here.d)) }
        ≡ happened set old.net (event.Deliver number at' packet) told
    leads_there at' told =
        ap (λ (d : Option Delivery). record (delivered set old.net at' told d) { broken = judged old.net.packets old.net.broken (found_by set old.net at' told d) }) (sym here.within)

    -- one that reaches a server
    pub served_applies : ((d : Delivery) → delivery_at old.net packet (Some place) ≡ Some d → ServesPacket goes kept top set old d before new result after)
        → Applies goes kept top set old (event.Deliver number end.Server packet) before new result after
    served_applies serves =
        let s = serves here.d here.at_place in
        let is : result ≡ came set old.net (event.Deliver number end.Server packet) s.told = s.is ∙ is_there end.Server s.told in
        record {
          told = s.told;
          is = is;
          leads = s.leads ∙ leads_there end.Server s.told;
          received = subst (λ (d : Option Delivery). AreReceived (received_at old.net end.Server d) s.told.seen) (sym here.within) s.received;
          notes = subst (TellsNotes s.told) is s.notes;
          replies = subst (RepliesIn end.Server s.told) (sym here.within) s.replies;
          centre = subst (λ (d : Option Delivery). AskedCentre goes kept top (asking_in set old.net end.Server s.told d) s.told.notes before after) (sym here.within) s.centre;
          drawn = subst (AsksIn set old.net end.Server s.told) (sym here.within) s.drawn;
          usims = subst (λ (d : Option Delivery). AreHanded (presented_in old.net end.Server s.told d) s.told old.devices new.devices) (sym here.within) s.devices;
        }

    -- one that reaches a peer
    pub answered_applies : ((d : Delivery) → delivery_at old.net packet (Some place) ≡ Some d → Answers set old d new result)
        → Applies goes kept top set old (event.Deliver number end.Peer packet) before new result before
    answered_applies answers =
        let s = answers here.d here.at_place in
        let is : result ≡ came set old.net (event.Deliver number end.Peer packet) s.told = s.is ∙ is_there end.Peer s.told in
        record {
          told = s.told;
          is = is;
          leads = s.leads ∙ leads_there end.Peer s.told;
          received = subst (λ (d : Option Delivery). AreReceived (received_at old.net end.Peer d) s.told.seen) (sym here.within) s.received;
          notes = subst (TellsNotes s.told) is s.notes;
          replies = subst (RepliesIn end.Peer s.told) (sym here.within) tt;
          centre = subst (λ (d : Option Delivery). AskedCentre goes kept top (asking_in set old.net end.Peer s.told d) s.told.notes before before) (sym here.within) ((λ i. stays before i), (λ i. refl));
          drawn = subst (AsksIn set old.net end.Peer s.told) (sym here.within) tt;
          usims = subst (λ (d : Option Delivery). AreHanded (presented_in old.net end.Peer s.told d) s.told old.devices new.devices) (sym here.within) s.usims;
        }
