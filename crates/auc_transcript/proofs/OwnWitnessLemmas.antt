-- For the witness of acceptances: a session in which the peer sends a text leads to a network in which it has sent it.
use Rattle.std.proofs.Common.{◌≡◌, ℕ, ◌≤◌, true, List, [], ◌∷◌, ◌++◌, Option, Some, None, Result, Ok, refl, sym, ap, ◌∙◌, subst, arith, append-nil}
use Rattle.auc_attr.specs.Frame.{Frame, Named, frame_at, frame_faults}
use Rattle.auc_attr.specs.Mac.{IsMacOf}
use Rattle.auc_attr.specs.declared.frame.FrameFault.{FrameFault}
use Rattle.auc_attr.proofs.Facts.{frame_again}
use Rattle.auc_ident.specs.Permanent.{username}
use Rattle.auc_lines.specs.declared.part.End.TheVariants as end
use Rattle.auc_lines.specs.declared.part.Line.TheVariants as line
use Rattle.auc_packet.specs.Laws.{WrittenIsRead}
use Rattle.auc_packet.specs.Packet.{ReadsPacket}
use Rattle.auc_packet.specs.Received.{IsReceived, Seen}
use Rattle.auc_packet.specs.Spelling.{packet_text}
use Rattle.auc_packet.specs.declared.packet.Packet.{Packet}
use Rattle.auc_packet.specs.declared.packet.Packet.TheVariants as packet
use Rattle.auc_packet.specs.declared.received.Reading.TheVariants as reading
use Rattle.auc_peer.specs.declared.decrypted.Decrypted.TheVariants as decrypted
use Rattle.auc_reauth.specs.Store.{entry}
use Rattle.auc_reauth.specs.declared.context.Context.{Context}
use Rattle.auc_server.specs.Table.{silent}
use Rattle.auc_server.specs.declared.reply.Reply.TheVariants as reply
use Rattle.auc_vector.specs.declared.notes.CounterNote.TheVariants as counts
use Rattle.auc_world.specs.Happened.{ToldEvent, happened}
use Rattle.auc_world.specs.Net.{Net, keeps_at}
use Rattle.auc_subs.specs.Setting.{Setting}
use Rattle.auc_world.specs.Start.{start_of}
use Rattle.auc_record.specs.declared.event.Event.TheVariants as event
use Rattle.auc_record.specs.declared.event.EventRecord.{EventRecord}
use Rattle.auc_world.specs.declared.net.Session.{Session}
use Rattle.auc_transcript.specs.Counters.{HappensIn, IsOwn, LinesLead}
use Rattle.auc_transcript.specs.Witnesses.{AcceptanceIsOwn, accepts, context, opening_with, peer_sent, setting, subscriber, text_sent}
use Rattle.auc_transcript.proofs.WitnessLemmas.{kept, place}

-- the request for an identity, and what it is received as
abbrev request : Packet
request = packet.Identity true 1 []

abbrev seen : Seen
seen = record { bytes = packet_text request; reading = reading.Read request; place = None }

received : WrittenIsRead → IsReceived seen
received written =
    let reads : ReadsPacket (packet_text request) request =
    subst (λ (b : List ℕ). ReadsPacket b request) (append-nil (packet_text request)) (written request [] (record { attrs = refl; size = omega arith })) in
    record { reads = (reads, refl); placed = subst (λ (o : Result Frame FrameFault). IsMacOf o None) (sym (frame_again (Named true 1 []) (packet_text request) reads)) refl }

-- what is told of each of the events
abbrev told : ToldEvent
told = record { seen = seen; notes = silent; inner = decrypted.Unreadable; reply = reply.Wrong }

module _ (key text x : List ℕ) (c : ℕ) where
  abbrev set : Setting
  set = setting key

  -- the networks before the events, one after the other
  abbrev begun : Net
  begun = start_of set (kept (context x c)) (line.Session (opening_with 2 text) ∷ line.Start 2 ∷ line.Deliver 2 end.Peer 1 ∷ line.Deliver 2 end.Peer 3 ∷ [])

  abbrev opened : Net
  opened = happened set begun (event.Open (opening_with 2 text)) told

  abbrev started : Net
  started = happened set opened (event.Start 2) told

  abbrev sent : Net
  sent = happened set started (event.Deliver 2 end.Peer 1) told

  leads : WrittenIsRead → LinesLead set place begun (text_sent 2 text) sent
  unfolding frame_at frame_faults
  leads written = (
    opened,
    record { told = told; lines_are = refl; leads = refl; received = tt; notes = refl; replies = tt; centre = tt; usim = tt },
    (
      started,
      record { told = told; lines_are = refl; leads = refl; received = tt; notes = refl; replies = tt; centre = tt; usim = tt },
      (
        sent,
        record {
          told = told;
          lines_are = refl;
          leads = refl;
          received = (received written, refl);
          notes = refl;
          replies = tt;
          centre = tt;
          usim = record { row = subscriber; there = refl; answers = refl; decrypts = tt };
        },
        refl,
      ),
    ),
  )

  -- what the peer of the session sent, and the context of its device
  abbrev identity_in : Option Session → Option (List ℕ)
  identity_in None = None
  identity_in (Some s) = s.peer.identity

  abbrev context_in : Option Session → Option Context
  context_in None = None
  context_in (Some s) = entry s.peer.options.method (keeps_at sent s.device).contexts

  same_text : (a b : List ℕ) → ◌≡◌ {A = Option (List ℕ)} (Some a) (Some b) → a ≡ b
  same_text a b e = cc

  same_context : (a b : Context) → ◌≡◌ {A = Option Context} (Some a) (Some b) → a ≡ b
  same_context a b e = cc

  decides : (n : ℕ) → IsOwn set sent 2 n → (username text ≡ x) × (c ≤ n)
  unfolding frame_at frame_faults
  decides n own =
      let is = own.resumes in
      let same : text ≡ is.text = same_text text is.text (ap identity_in own.there ∙ is.sent) in
      let has : context x c ≡ is.context = same_context (context x c) is.context (ap context_in own.there ∙ is.has) in
      (ap username same ∙ is.same ∙ sym (ap (λ (k : Context). k.identity) has), subst (λ (k : Context). k.counter ≤ n) (sym has) is.is_open)

pub acceptance_is_own : WrittenIsRead → AcceptanceIsOwn
acceptance_is_own written key text x c n net promise =
    let r : EventRecord = record { event = event.Deliver 2 end.Peer 3; result = Ok (peer_sent (record silent { counter = Some (counts.Taken n) }) [] 4) } in
    let here : HappensIn (setting key) place (begun key text x c) (text_sent 2 text ++ accepts 2 n ∷ []) r (sent key text x c) =
    record { front = text_sent 2 text; rest = []; lines_are = refl; leads = leads key text x c written } in
    decides key text x c n (promise.own.1.0.0 r (sent key text x c) here 0 n (omega arith))
