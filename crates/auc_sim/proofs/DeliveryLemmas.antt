-- One more delivery, for the loops over the deliveries of a session.
use Rattle.std.proofs.Common.{◌≡◌, ℕ, ◌+◌, ◌*◌, ◌<◌, ◌≤◌, true, List, [], ◌∷◌, ◌++◌, length, Option, Some, None, arith, refl, sym, ap, ◌∙◌, append_assoc, subst}
use Rattle.std.proofs.lemmas.List.{append-nil}
use Rattle.std.proofs.Math.ListN.{length-append}
use Rattle.auc_lines.specs.declared.part.End.{End}
use Rattle.auc_lines.specs.declared.part.End.TheVariants as end
use Rattle.auc_lines.specs.declared.sim.SimDelivery.{SimDelivery}
use Rattle.auc_lines.specs.declared.sim.SimSchedule.TheVariants.{Plain, Steps}
use Rattle.auc_sim.specs.EndLaws.{sends}
use Rattle.auc_sim.specs.Server.{SimServerState, left_of, server_turn}
use Rattle.auc_sim.specs.Session.{Alternates, Becomes, Delivers, DeliversAll, EndTurns, SimNet, made_in, number_sent, other, packet_numbered, sent_in, with_sent}
use Rattle.auc_sim.specs.SessionParts.{Follows, Tells}
use Rattle.auc_vector.specs.declared.sim_note.SimBecame.{SimBecame}
use Rattle.auc_vector.specs.declared.sim_note.SimNote.{SimNote}
use Rattle.auc_vector.specs.declared.sim_note.SimNote.TheVariants as note
use Rattle.auc_sim.specs.declared.server.SimAwait.{SimAwait}
use Rattle.auc_sim.specs.declared.server.SimAwait.TheVariants as await
use Rattle.auc_vector.specs.declared.why.SimWhy.{SimWhy}
use Rattle.auc_sim_packet.specs.Received.{SimSeen}
use Rattle.auc_vector.specs.declared.turn.Step.{Step}
use Rattle.auc_vector.specs.declared.turn.Step.TheVariants as step
use Rattle.auc_sim.proofs.FewerLemmas.{turn_fewer}

-- ---- how many packets there are

-- at most one packet is sent at a time
one_sent : (packets : List (List ℕ)) (bytes : List ℕ) → length (with_sent packets bytes) ≤ length packets + 1
one_sent packets [] = omega arith
one_sent packets (byte ∷ bytes) = rw (length-append packets ((byte ∷ bytes) ∷ [])) (omega arith)

-- so a delivery adds at most one
grows_by : (to : End) (old new : SimNet) (found : Option (List ℕ)) (became : SimBecame) → Becomes to old found became new
    → length new.packets ≤ length old.packets + 1
grows_by to old new None became (became_is, same) = rw same (omega arith)
grows_by to old new (Some bytes) became r = rw r.packets (one_sent old.packets (sent_in r.step))

pub grows : (old new : SimNet) (d : SimDelivery) (before after : List SimNote) (made : Option ℕ) → Tells old d before made new after
    → length new.packets ≤ length old.packets + 1
grows old new d before after made t = grows_by d.end old new (packet_numbered old.packets d.packet) t.became t.delivers

-- ---- the deliveries of a list

-- a delivery after some others
pub delivers_more : (old mid new : SimNet) (ds : List SimDelivery) (told : List SimNote) (d : SimDelivery) (became : SimBecame)
    → DeliversAll old ds told mid → Delivers mid d became new
    → DeliversAll old (ds ++ d ∷ []) (told ++ note.Delivered d.end d.packet became ∷ []) new
delivers_more old mid new [] told d became (none, same) last =
    let here : Delivers old d became new = subst (λ (net : SimNet). Delivers net d became new) same last in
    (became, new, [], ap (λ (t : List SimNote). t ++ note.Delivered d.end d.packet became ∷ []) none, here, (refl, refl))
delivers_more old mid new (e ∷ ds) told d became (first, after, rest, is, here, others) last = (
  first,
  after,
  rest ++ note.Delivered d.end d.packet became ∷ [],
  ap (λ (t : List SimNote). t ++ note.Delivered d.end d.packet became ∷ []) is,
  here,
  delivers_more after mid new ds rest d became others last,
)

-- so the deliveries of a list go on
pub steps_more : (old mid new : SimNet) (ds : List SimDelivery) (before told after : List SimNote) (d : SimDelivery) (made : Option ℕ)
    → Follows old (Steps ds) before mid told → Tells mid d told made new after → Follows old (Steps (ds ++ d ∷ [])) before new after
steps_more old mid new ds before told after d made f t =
    let last : List SimNote = note.Delivered d.end d.packet t.became ∷ [] in
    let here : DeliversAll old ds f.delivered mid = subst (λ (all : List SimDelivery). DeliversAll old all f.delivered mid) f.scheduled f.delivers in
    record {
      deliveries = ds ++ d ∷ [];
      delivered = f.delivered ++ last;
      notes = t.notes ∙ ap (λ (notes : List SimNote). notes ++ last) f.notes ∙ append_assoc before f.delivered last;
      delivers = delivers_more old mid new ds f.delivered d t.became here t.delivers;
      scheduled = refl;
    }

-- ---- the plain schedule

-- some deliveries of the plain schedule, after which this packet is to be delivered to this end, or none
pub record PlainSoFar (old : SimNet) (before : List SimNote) (to : End) (next : Option ℕ) (new : SimNet) (after : List SimNote) : Type 0 where
  pub deliveries : List SimDelivery
  pub delivered : List SimNote
  pub notes : after ≡ before ++ delivered
  pub delivers : DeliversAll old deliveries delivered new
  pub goes_on : (ds : List SimDelivery) (rest : List SimNote) → Alternates ds rest to next → Alternates (deliveries ++ ds) (delivered ++ rest) end.Peer (Some 1)

-- at first packet 1 is to be delivered to the peer
pub plain_begins : (net : SimNet) (notes : List SimNote) → PlainSoFar net notes end.Peer (Some 1) net notes
plain_begins net notes = record {
  deliveries = [];
  delivered = [];
  notes = sym (append-nil notes);
  delivers = (refl, refl);
  goes_on = λ ds rest more. more;
}

-- after a delivery it is the packet that it made, at the other end
pub plain_more : (old mid new : SimNet) (before told after : List SimNote) (to : End) (packet : ℕ) (made : Option ℕ)
    → PlainSoFar old before to (Some packet) mid told → Tells mid (record { end = to; packet = packet }) told made new after
    → PlainSoFar old before (other to) made new after
plain_more old mid new before told after to packet made f t =
    let d : SimDelivery = record { end = to; packet = packet } in
    let last : SimNote = note.Delivered to packet t.became in
    record {
      deliveries = f.deliveries ++ d ∷ [];
      delivered = f.delivered ++ last ∷ [];
      notes = t.notes ∙ ap (λ (notes : List SimNote). notes ++ last ∷ []) f.notes ∙ append_assoc before f.delivered (last ∷ []);
      delivers = delivers_more old mid new f.deliveries f.delivered d t.became f.delivers t.delivers;
      goes_on = λ ds rest more. rw (append_assoc f.deliveries (d ∷ []) ds, append_assoc f.delivered (last ∷ []) rest)
          (f.goes_on (d ∷ ds) (last ∷ rest) (t.became, rest, refl, refl, rw (← t.made_is) more));
    }

-- at the end nothing is to be delivered
pub plain_ends : (old new : SimNet) (before after : List SimNote) (to : End) → PlainSoFar old before to None new after → Follows old Plain before new after
plain_ends old new before after to f = record {
  deliveries = f.deliveries;
  delivered = f.delivered;
  notes = f.notes;
  delivers = f.delivers;
  scheduled = rw (← append-nil f.deliveries, ← append-nil f.delivered) (f.goes_on [] [] tt);
}

-- ---- how long the plain schedule is

-- how many deliveries may follow, if this packet is to be delivered to this end, or none
abbrev pub rounds : End → Option ℕ → SimAwait → ℕ
rounds to None at = 0
rounds end.Peer (Some packet) at = 2 + 2 * left_of at
rounds end.Server (Some packet) at = 1 + 2 * left_of at

-- at most 6
pub six_rounds : (to : End) (next : Option ℕ) (at : SimAwait) → rounds to next at ≤ 6
six_rounds to None at = omega arith
six_rounds end.Peer (Some packet) await.AwaitStart = omega arith
six_rounds end.Peer (Some packet) (await.AwaitChallenge keys) = omega arith
six_rounds end.Peer (Some packet) (await.Ended outcome) = omega arith
six_rounds end.Server (Some packet) await.AwaitStart = omega arith
six_rounds end.Server (Some packet) (await.AwaitChallenge keys) = omega arith
six_rounds end.Server (Some packet) (await.Ended outcome) = omega arith

-- what is sent has a number
sent_number : (did : Step SimWhy) (packets : List (List ℕ)) (n : ℕ) → number_sent packets (sent_in did) ≡ Some n → sends did ≡ true
sent_number (step.Sent bytes) packets n is = refl
sent_number (step.Ended outcome bytes) packets n is = refl
sent_number (step.Ignored cause) packets n is = cc

-- a server that sends has fewer of its states left
lowered : (old new : SimServerState) (seen : SimSeen) (did : Step SimWhy) (packets : List (List ℕ)) (n : ℕ) → (new, did) ≡ server_turn old seen
    → number_sent packets (sent_in did) ≡ Some n → left_of new.at < left_of old.at
lowered old new seen did packets n same is =
    subst (λ (turn : SimServerState × Step SimWhy). sends turn.1 ≡ true → left_of turn.0.at < left_of old.at) (sym same) (turn_fewer old seen) (sent_number did packets n is)

-- each delivery leaves fewer
falls_by : (old new : SimNet) (to : End) (packet : ℕ) (found : Option (List ℕ)) (became : SimBecame) → Becomes to old found became new
    → rounds (other to) (made_in became) new.server.at < rounds to (Some packet) old.server.at
falls_by old new to packet None became (became_is, same) = rw became_is (ends to)
  where
    ends : (to : End) → rounds (other to) None new.server.at < rounds to (Some packet) old.server.at
    ends end.Server = omega arith
    ends end.Peer = omega arith
falls_by old new to packet (Some bytes) became r = rw r.became_is (by to r.turns (number_sent old.packets (sent_in r.step)) refl)
  where
    by : (to : End) → EndTurns to old bytes r.step new → (made : Option ℕ) → number_sent old.packets (sent_in r.step) ≡ made
        → rounds (other to) made new.server.at < rounds to (Some packet) old.server.at
    by end.Server turns None is = omega arith
    by end.Peer turns None is = omega arith
    by end.Server (turns, same) (Some n) is =
        let lower : left_of new.server.at < left_of old.server.at = lowered old.server new.server turns.seen r.step old.packets n turns.same is in
        omega arith
    by end.Peer (turns, same) (Some n) is = rw same (omega arith)

pub falls : (old new : SimNet) (to : End) (packet : ℕ) (before after : List SimNote) (made : Option ℕ)
    → Tells old (record { end = to; packet = packet }) before made new after
    → rounds (other to) made new.server.at < rounds to (Some packet) old.server.at
falls old new to packet before after made t = rw t.made_is (falls_by old new to packet (packet_numbered old.packets packet) t.became t.delivers)
