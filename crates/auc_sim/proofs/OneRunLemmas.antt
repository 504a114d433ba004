-- A session runs in one way: equal bytes are received alike, so an end's turn on them is one, and so is each delivery.
use Rattle.std.proofs.Common.{◌≡◌, ◌↔◌, ℕ, IsTrue, Bool, true, false, List, [], ◌∷◌, ◌++◌, Option, Some, None, refl, sym, ap, ◌∙◌, subst}
use Rattle.auc_hmac.specs.declared.keys.KeySet.{KeySet}
use Rattle.auc_lines.specs.declared.part.End.{End}
use Rattle.auc_lines.specs.declared.part.End.TheVariants as end
use Rattle.auc_lines.specs.declared.sim.SimDelivery.{SimDelivery}
use Rattle.auc_lines.specs.declared.sim.SimSchedule.{SimSchedule}
use Rattle.auc_lines.specs.declared.sim.SimSchedule.TheVariants.{Plain, Steps}
use Rattle.auc_sim.specs.Peer.{PeerTurns, SimPeerState, peer_turn}
use Rattle.auc_sim.specs.Server.{ServerTurns, SimServerState, server_turn}
use Rattle.auc_sim.specs.Session.{Alternates, Becomes, Delivers, DeliversAll, EndsWith, Receives, Scheduled, SimNet, made_in, number_sent, other, packet_numbered, peer_keys, sent_in, server_keys, with_sent}
use Rattle.auc_sim.specs.SessionLaws.{EachSessionHasOneRun}
use Rattle.auc_vector.specs.declared.sim_note.SimBecame.{SimBecame}
use Rattle.auc_vector.specs.declared.sim_note.SimBecame.TheVariants.{Did}
use Rattle.auc_vector.specs.declared.sim_note.SimNote.{SimNote}
use Rattle.auc_vector.specs.declared.sim_note.SimNote.TheVariants as note
use Rattle.auc_vector.specs.declared.why.SimWhy.{SimWhy}
use Rattle.auc_vector.specs.declared.turn.Step.{Step}
use Rattle.auc_sim_packet.proofs.Facts.{one_received}

-- ---- a turn

server_once : (old : SimServerState) (bytes : List ℕ) (did also_did : Step SimWhy) (new also : SimServerState) → ServerTurns old bytes did new → ServerTurns old bytes also_did also
    → ◌≡◌ {A = SimServerState × Step SimWhy} (new, did) (also, also_did)
server_once old bytes did also_did new also t u = t.same ∙ ap (server_turn old) (one_received t.seen u.seen (t.of ∙ sym u.of) t.received u.received) ∙ sym u.same

peer_once : (old : SimPeerState) (bytes : List ℕ) (did also_did : Step SimWhy) (new also : SimPeerState) → PeerTurns old bytes did new → PeerTurns old bytes also_did also
    → ◌≡◌ {A = SimPeerState × Step SimWhy} (new, did) (also, also_did)
peer_once old bytes did also_did new also t u = t.same ∙ ap (peer_turn old) (one_received t.seen u.seen (t.of ∙ sym u.of) t.received u.received) ∙ sym u.same

-- ---- a delivery

one_net : (s t : SimServerState) (p q : SimPeerState) (xs ys : List (List ℕ)) → s ≡ t → p ≡ q → xs ≡ ys
    → ◌≡◌ {A = SimNet} (record { server = s; peer = p; packets = xs }) (record { server = t; peer = q; packets = ys })
one_net s t p q xs ys e f g = cc

-- what becomes of a packet, and both ends after it
abbrev AreOne : SimBecame → SimBecame → SimNet → SimNet → Type 0
AreOne became also_became new also = (became ≡ also_became) × (new ≡ also)

receives_once : (to : End) (old : SimNet) (bytes : List ℕ) (became also_became : SimBecame) (new also : SimNet) → Receives to old bytes became new → Receives to old bytes also_became also
    → AreOne became also_became new also
receives_once end.Server old bytes became also_became new also r s =
    let both = server_once old.server bytes r.step s.step new.server also.server r.turns.0 s.turns.0 in
    let steps : r.step ≡ s.step = ap (λ (x : SimServerState × Step SimWhy). x.1) both in (
      r.became_is ∙ ap (λ (d : Step SimWhy). Did d (number_sent old.packets (sent_in d))) steps ∙ sym s.became_is,
      one_net new.server also.server new.peer also.peer new.packets also.packets (ap (λ (x : SimServerState × Step SimWhy). x.0) both) (r.turns.1 ∙ sym s.turns.1)
          (r.packets ∙ ap (λ (d : Step SimWhy). with_sent old.packets (sent_in d)) steps ∙ sym s.packets),
    )
receives_once end.Peer old bytes became also_became new also r s =
    let both = peer_once old.peer bytes r.step s.step new.peer also.peer r.turns.0 s.turns.0 in
    let steps : r.step ≡ s.step = ap (λ (x : SimPeerState × Step SimWhy). x.1) both in (
      r.became_is ∙ ap (λ (d : Step SimWhy). Did d (number_sent old.packets (sent_in d))) steps ∙ sym s.became_is,
      one_net new.server also.server new.peer also.peer new.packets also.packets (r.turns.1 ∙ sym s.turns.1) (ap (λ (x : SimPeerState × Step SimWhy). x.0) both)
          (r.packets ∙ ap (λ (d : Step SimWhy). with_sent old.packets (sent_in d)) steps ∙ sym s.packets),
    )

becomes_once : (to : End) (old : SimNet) (found : Option (List ℕ)) (became also_became : SimBecame) (new also : SimNet) → Becomes to old found became new → Becomes to old found also_became also
    → AreOne became also_became new also
becomes_once to old None became also_became new also (is, same) (was, alike) = (is ∙ sym was, same ∙ sym alike)
becomes_once to old (Some bytes) became also_became new also r s = receives_once to old bytes became also_became new also r s

delivers_once : (old : SimNet) (d : SimDelivery) (became also_became : SimBecame) (new also : SimNet) → Delivers old d became new → Delivers old d also_became also
    → AreOne became also_became new also
delivers_once old d became also_became new also first second =
    becomes_once d.end old (packet_numbered old.packets d.packet) became also_became new also first second

-- ---- all deliveries

all_once : (old : SimNet) (ds : List SimDelivery) (notes others : List SimNote) (new also : SimNet) → DeliversAll old ds notes new → DeliversAll old ds others also
    → (notes ≡ others) × (new ≡ also)
all_once old [] notes others new also (none, is) (nothing, was) = (none ∙ sym nothing, is ∙ sym was)
all_once old (d ∷ ds) notes others new also (became, mid, rest, are, first, more) (also_became, also_mid, also_rest, also_are, also_first, also_more) =
    let one = delivers_once old d became also_became mid also_mid first also_first in
    let (rests, ends) = all_once mid ds rest also_rest new also more (subst (λ (w : SimNet). DeliversAll w ds also_rest also) (sym one.1) also_more) in (
      are ∙ ap (λ (b : SimBecame). note.Delivered d.end d.packet b ∷ rest) one.0 ∙ ap (λ (ns : List SimNote). note.Delivered d.end d.packet also_became ∷ ns) rests ∙ sym also_are,
      ends,
    )

-- what one note says, and those behind it
same_became : (a b : End) (m n : ℕ) (x y : SimBecame) (xs ys : List SimNote) → note.Delivered a m x ∷ xs ≡ note.Delivered b n y ∷ ys → x ≡ y
same_became a b m n x y xs ys e = cc

same_rest : (a b : End) (m n : ℕ) (x y : SimBecame) (xs ys : List SimNote) → note.Delivered a m x ∷ xs ≡ note.Delivered b n y ∷ ys → xs ≡ ys
same_rest a b m n x y xs ys e = cc

conses : (x y : SimDelivery) (xs ys : List SimDelivery) → x ≡ y → xs ≡ ys → x ∷ xs ≡ y ∷ ys
conses x y xs ys e f = cc

-- the deliveries of the plain schedule are one list
plain_once : (old : SimNet) (ds es : List SimDelivery) (notes others : List SimNote) (new also : SimNet) (to : End) (next : Option ℕ) → Alternates ds notes to next → Alternates es others to next
    → DeliversAll old ds notes new → DeliversAll old es others also → ds ≡ es
plain_once old [] [] notes others new also to next first second gives gave = refl
plain_once old [] (e ∷ es) notes others new also to None first second gives gave = absurd second
plain_once old [] (e ∷ es) notes others new also to (Some packet) first second gives gave = absurd first
plain_once old (d ∷ ds) [] notes others new also to None first second gives gave = absurd first
plain_once old (d ∷ ds) [] notes others new also to (Some packet) first second gives gave = absurd second
plain_once old (d ∷ ds) (e ∷ es) notes others new also to None first second gives gave = absurd first
plain_once old (d ∷ ds) (e ∷ es) notes others new also to (Some packet) (x, xs, d_is, notes_are, first) (y, ys, e_is, others_are, second) (b, mid, rest, are, delivers, gives)
    (c, also_mid, also_rest, also_are, also_delivers, gave) =
    let same : d ≡ e = d_is ∙ sym e_is in
    let one = delivers_once old d b c mid also_mid delivers (subst (λ (f : SimDelivery). Delivers old f c also_mid) (sym same) also_delivers) in
    let here = sym notes_are ∙ are in
    let there = sym others_are ∙ also_are in
    let made : made_in x ≡ made_in b = ap made_in (same_became to d.end packet d.packet x b xs rest here) in
    let also_made : made_in y ≡ made_in b = ap made_in (same_became to e.end packet e.packet y c ys also_rest there ∙ sym one.0) in
    let mine = subst (λ (ns : List SimNote). Alternates ds ns (other to) (made_in b)) (same_rest to d.end packet d.packet x b xs rest here)
    (subst (Alternates ds xs (other to)) made first) in
    let theirs = subst (λ (ns : List SimNote). Alternates es ns (other to) (made_in b)) (same_rest to e.end packet e.packet y c ys also_rest there)
    (subst (Alternates es ys (other to)) also_made second) in
    conses d e ds es same
    (plain_once mid ds es rest also_rest new also (other to) (made_in b) mine theirs gives (subst (λ (w : SimNet). DeliversAll w es also_rest also) (sym one.1) gave))

scheduled_once : (schedule : SimSchedule) (old : SimNet) (ds es : List SimDelivery) (notes others : List SimNote) (new also : SimNet) → Scheduled schedule ds notes → Scheduled schedule es others
    → DeliversAll old ds notes new → DeliversAll old es others also → ds ≡ es
scheduled_once (Steps all) old ds es notes others new also is was gives gave = is ∙ sym was
scheduled_once Plain old ds es notes others new also is was gives gave = plain_once old ds es notes others new also end.Peer (Some 1) is was gives gave

-- ---- how a session ended

bools_once : (P : Type 0) (a b : Bool) → IsTrue a ↔ P → IsTrue b ↔ P → a ≡ b
bools_once P true true first second = refl
bools_once P false false first second = refl
bools_once P true false first second = sym (second.1 (first.0 refl))
bools_once P false true first second = first.1 (second.0 refl)

ends_once : (server peer : Option KeySet) (notes others : List SimNote) → EndsWith server peer notes → EndsWith server peer others → notes ≡ others
ends_once None peer notes others none nothing = none ∙ sym nothing
ends_once (Some s) None notes others none nothing = none ∙ sym nothing
ends_once (Some s) (Some p) notes others (agree, are, equal) (also_agree, also_are, also_equal) =
    are ∙ ap (λ (a : Bool). note.Ended a ∷ []) (bools_once (s ≡ p) agree also_agree equal also_equal) ∙ sym also_are

-- ---- the session

pub each_session_has_one_run : EachSessionHasOneRun
each_session_has_one_run inputs schedule notes others r s =
    let firsts : r.first ≡ s.first = r.starts.first_is ∙ sym s.starts.first_is in
    let starts : r.start ≡ s.start =
    one_net r.start.server s.start.server r.start.peer s.start.peer r.start.packets s.start.packets (r.starts.server ∙ sym s.starts.server) (r.starts.peer ∙ sym s.starts.peer)
    (r.starts.packets ∙ ap (λ (bytes : List ℕ). bytes ∷ []) firsts ∙ sym s.starts.packets) in
    let gave = subst (λ (w : SimNet). DeliversAll w s.deliveries s.delivered s.end) (sym starts) s.delivers in
    let same = scheduled_once schedule r.start r.deliveries s.deliveries r.delivered s.delivered r.end s.end r.scheduled s.scheduled r.delivers gave in
    let all = all_once r.start r.deliveries r.delivered s.delivered r.end s.end r.delivers (subst (λ (ds : List SimDelivery). DeliversAll r.start ds s.delivered s.end) (sym same) gave) in
    let endings = ends_once (server_keys r.end.server.at) (peer_keys r.end.peer.at) r.ending s.ending r.ends
    (subst (λ (w : SimNet). EndsWith (server_keys w.server.at) (peer_keys w.peer.at) s.ending) (sym all.1) s.ends) in
    r.notes_are ∙ ap (λ (bytes : List ℕ). note.Started bytes ∷ (r.delivered ++ r.ending)) firsts ∙ ap (λ (ns : List SimNote). note.Started s.first ∷ (ns ++ r.ending)) all.0
    ∙ ap (λ (ns : List SimNote). note.Started s.first ∷ (s.delivered ++ ns)) endings ∙ sym s.notes_are
