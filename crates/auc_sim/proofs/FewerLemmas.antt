-- A server that sends bytes may send fewer packets from then on.
use Rattle.std.proofs.Common.{◌≡◌, ℕ, ◌==◌, ◌<◌, Bool, true, false, cond, not, List, Option, Some, None, refl, subst, arith}
use Rattle.auc_hmac.specs.declared.keys.KeySet.{KeySet}
use Rattle.auc_sim.specs.EndLaws.{sends}
use Rattle.auc_sim.specs.Server.{SimServerState, challenging, current_id, ended, ignored, left_of, on_awaited, on_challenge, on_code, on_packet, on_parts, on_response, server_turn, turn_at}
use Rattle.auc_sim.specs.declared.server.SimAwait.{SimAwait}
use Rattle.auc_sim.specs.declared.server.SimAwait.TheVariants as await
use Rattle.auc_vector.specs.declared.why.SimWhy.{SimWhy}
use Rattle.auc_vector.specs.declared.why.SimWhy.TheVariants as why
use Rattle.auc_sim_packet.specs.Attributes.{code_of, first_value, has, identity_of, nonce_of, selected_of}
use Rattle.auc_sim_packet.specs.Keys.{all_sres, sim_key_set}
use Rattle.auc_sim_packet.specs.Messages.{CHALLENGE, CLIENT_ERROR, START, version_one}
use Rattle.auc_sim_packet.specs.Received.{SimSeen, is_sim_sealed}
use Rattle.auc_sim_packet.specs.declared.attr.SimAttr.{SimAttr}
use Rattle.auc_sim_packet.specs.declared.packet.SimPacket.{SimPacket}
use Rattle.auc_sim_packet.specs.declared.packet.SimPacket.TheVariants as packet
use Rattle.auc_vector.specs.declared.turn.Outcome.{Outcome}
use Rattle.auc_vector.specs.declared.turn.Outcome.TheVariants as outcome
use Rattle.auc_vector.specs.declared.turn.Reason.{Reason}
use Rattle.auc_vector.specs.declared.turn.Reason.TheVariants as reason
use Rattle.auc_vector.specs.declared.turn.Step.{Step}

-- after a turn that sent bytes fewer are left
abbrev pub Fewer : SimServerState → SimServerState × Step SimWhy → Type 0
Fewer s turn = sends turn.1 ≡ true → left_of turn.0.at < left_of s.at

picked : (s : SimServerState) (b : Bool) (x y : SimServerState × Step SimWhy) → Fewer s x → Fewer s y → Fewer s (cond b x y)
picked s true x y f g = f
picked s false x y f g = g

no_send : false ≡ true → ⊥
no_send e = cc

ignored_fewer : (s : SimServerState) (cause : Reason) → Fewer s (ignored s cause)
ignored_fewer s cause = λ e. absurd (no_send e)

ended_fewer : (s : SimServerState) (end : Outcome SimWhy) → 0 < left_of s.at → Fewer s (ended s end)
ended_fewer s end some = λ e. some

challenging_fewer : (s : SimServerState) (nonce : List ℕ) (keys : KeySet) → 1 < left_of s.at → Fewer s (challenging s nonce keys)
challenging_fewer s nonce keys more = λ e. more

parts_fewer : (s : SimServerState) (nonce identity : Option (List ℕ)) (version : Option ℕ) → 1 < left_of s.at → Fewer s (on_parts s nonce identity version)
parts_fewer s (Some nonce) (Some identity) (Some version) more =
    picked s (version == 1) _ _ (challenging_fewer s nonce (sim_key_set s.identity s.triplets nonce version_one) more) (ignored_fewer s reason.Unexpected)
parts_fewer s (Some nonce) (Some identity) None more = ignored_fewer s reason.Unexpected
parts_fewer s (Some nonce) None version more = ignored_fewer s reason.Unexpected
parts_fewer s None identity version more = ignored_fewer s reason.Unexpected

challenge_fewer : (s : SimServerState) (keys : KeySet) (seen : SimSeen) (list : List SimAttr) → 0 < left_of s.at → Fewer s (on_challenge s keys seen list)
challenge_fewer s keys seen list some =
    picked s (not (has list 11)) _ _ (ignored_fewer s reason.Unexpected)
    (picked s (is_sim_sealed keys.k_aut (all_sres s.triplets) seen) _ _ (ended_fewer s (outcome.Success keys) some) (ended_fewer s (outcome.Failure why.WrongMac) some))

code_fewer : (s : SimServerState) (code : Option ℕ) → 0 < left_of s.at → Fewer s (on_code s code)
code_fewer s None some = ignored_fewer s reason.Unexpected
code_fewer s (Some code) some = ended_fewer s (outcome.Failure (why.ClientError code)) some

awaited_fewer : (s : SimServerState) (at : SimAwait) (seen : SimSeen) (subtype : ℕ) (list : List SimAttr) → at ≡ s.at → Fewer s (on_awaited s at seen subtype list)
awaited_fewer s await.AwaitStart seen subtype list e =
    picked s (subtype == START) _ _
    (parts_fewer s (first_value nonce_of list) (first_value identity_of list) (first_value selected_of list)
    (subst (λ (a : SimAwait). 1 < left_of a) e (omega arith)))
    (ignored_fewer s reason.Unexpected)
awaited_fewer s (await.AwaitChallenge keys) seen subtype list e =
    picked s (subtype == CHALLENGE) _ _ (challenge_fewer s keys seen list (subst (λ (a : SimAwait). 0 < left_of a) e (omega arith)))
    (ignored_fewer s reason.Unexpected)
awaited_fewer s (await.Ended end) seen subtype list e = ignored_fewer s reason.Unexpected

response_fewer : (s : SimServerState) (seen : SimSeen) (subtype : ℕ) (list : List SimAttr) → 0 < left_of s.at → Fewer s (on_response s seen subtype list)
response_fewer s seen subtype list some =
    picked s (subtype == CLIENT_ERROR) _ _ (code_fewer s (first_value code_of list) some) (awaited_fewer s s.at seen subtype list refl)

packet_fewer : (s : SimServerState) (seen : SimSeen) (p : Option SimPacket) → 0 < left_of s.at → Fewer s (on_packet s seen p)
packet_fewer s seen None some = ignored_fewer s reason.NotForMe
packet_fewer s seen (Some (packet.Success id)) some = ignored_fewer s reason.NotForMe
packet_fewer s seen (Some (packet.Failure id)) some = ignored_fewer s reason.NotForMe
packet_fewer s seen (Some (packet.Sim true id subtype list)) some = ignored_fewer s reason.NotForMe
packet_fewer s seen (Some (packet.Sim false id subtype list)) some =
    picked s (id == current_id s.at) _ _ (response_fewer s seen subtype list some) (ignored_fewer s reason.NotForMe)

at_fewer : (s : SimServerState) (at : SimAwait) (seen : SimSeen) → at ≡ s.at → Fewer s (turn_at s at seen)
at_fewer s await.AwaitStart seen e = packet_fewer s seen seen.packet (subst (λ (a : SimAwait). 0 < left_of a) e (omega arith))
at_fewer s (await.AwaitChallenge keys) seen e = packet_fewer s seen seen.packet (subst (λ (a : SimAwait). 0 < left_of a) e (omega arith))
at_fewer s (await.Ended end) seen e = ignored_fewer s reason.Closed

pub turn_fewer : (s : SimServerState) (seen : SimSeen) → sends (server_turn s seen).1 ≡ true → left_of (server_turn s seen).0.at < left_of s.at
turn_fewer s seen = at_fewer s s.at seen refl
