-- For Net: the premise of a few deliveries, by hand.
use Rattle.std.proofs.Common.{◌≡◌, ℕ, true, false, List, [], ◌∷◌, ◌++◌, Option, Some, None, refl}
use Rattle.auc_hmac.specs.declared.keys.Master.TheVariants as master
use Rattle.auc_hmac.specs.declared.method.Method.TheVariants as method
use Rattle.auc_world.specs.Happened.{changed_in}
use Rattle.auc_world.specs.Net.{Finding, copies, judged}
use Rattle.auc_lines.specs.declared.part.End.{End}
use Rattle.auc_lines.specs.declared.part.End.TheVariants as end
use Rattle.auc_record.specs.declared.event.Event.TheVariants as event
use Rattle.auc_record.specs.declared.record.Breach.{Breach}
use Rattle.auc_world.specs.declared.net.FastInputs.{FastInputs}
use Rattle.auc_world.specs.declared.net.FullInputs.{FullInputs}
use Rattle.auc_world.specs.declared.net.Inputs.{Inputs}
use Rattle.auc_world.specs.declared.net.Inputs.TheVariants as inputs
use Rattle.auc_world.specs.declared.net.SentPacket.{SentPacket}

-- two identities under one challenge
abbrev full : FullInputs
full = record { method = method.Prime; name = 87 ∷ []; sub = 3; rand = 7 ∷ []; autn = 8 ∷ []; identity = 48 ∷ 49 ∷ [] }

abbrev own : Inputs
own = inputs.Full full

abbrev foreign : Inputs
foreign = inputs.Full (record full { identity = 48 ∷ 50 ∷ [] })

-- two contexts of one identity
abbrev fast : FastInputs
fast = record { method = method.Prime; sub = 3; identity = 52 ∷ []; k_encr = 1 ∷ []; k_aut = 2 ∷ []; master = master.Prime (3 ∷ []) }

abbrev resumed : Inputs
resumed = inputs.Fast fast

abbrev of_other_context : Inputs
of_other_context = inputs.Fast (record fast { master = master.Prime (4 ∷ []) })

-- a request without keys, a challenge, and its answer
abbrev packets : List SentPacket
packets =
    record { bytes = 1 ∷ []; sender = Some end.Server; inputs = None } ∷ record { bytes = 1 ∷ 2 ∷ []; sender = Some end.Server; inputs = Some own }
    ∷ record { bytes = 2 ∷ 2 ∷ []; sender = Some end.Peer; inputs = Some own } ∷ record { bytes = 3 ∷ 3 ∷ []; sender = Some end.Server; inputs = Some resumed } ∷ []

abbrev to : End → ℕ → Breach
to at' packet = record { session = 1; end = at'; packet = packet }

-- a right MAC is found
abbrev right : End → ℕ → Inputs → List ℕ → Option Finding
right at' packet under bytes = Some (record { checked = true; inputs = Some under; bytes = bytes; delivery = to at' packet })

-- nothing is lost: the peer has the challenge, and the server the answer
challenge_is_honest : judged packets None (right end.Peer 2 own (1 ∷ 2 ∷ [])) ≡ None
challenge_is_honest = refl

answer_is_honest : judged packets None (right end.Server 3 own (2 ∷ 2 ∷ [])) ≡ None
answer_is_honest = refl

-- the challenge again, to a peer that has another identity
replay_breaks : judged packets None (right end.Peer 2 foreign (1 ∷ 2 ∷ [])) ≡ Some (to end.Peer 2)
replay_breaks = refl

-- the challenge again, to a peer of another network, and to one of EAP-AKA
abbrev of_other_network : Inputs
of_other_network = inputs.Full (record full { name = 88 ∷ [] })

abbrev of_other_method : Inputs
of_other_method = inputs.Full (record full { method = method.Aka })

other_network_breaks : judged packets None (right end.Peer 2 of_other_network (1 ∷ 2 ∷ [])) ≡ Some (to end.Peer 2)
other_network_breaks = refl

other_method_breaks : judged packets None (right end.Peer 2 of_other_method (1 ∷ 2 ∷ [])) ≡ Some (to end.Peer 2)
other_method_breaks = refl

-- a re-authentication at a peer with its context, at one with another context, and the same bytes as a challenge
resumption_is_honest : judged packets None (right end.Peer 4 resumed (3 ∷ 3 ∷ [])) ≡ None
resumption_is_honest = refl

other_context_breaks : judged packets None (right end.Peer 4 of_other_context (3 ∷ 3 ∷ [])) ≡ Some (to end.Peer 4)
other_context_breaks = refl

other_kind_breaks : judged packets None (right end.Peer 4 own (3 ∷ 3 ∷ [])) ≡ Some (to end.Peer 4)
other_kind_breaks = refl

-- the answer comes back to a peer
reflection_breaks : judged packets None (right end.Peer 3 own (2 ∷ 2 ∷ [])) ≡ Some (to end.Peer 3)
reflection_breaks = refl

-- bytes that nobody sent, and bytes that were sent without keys
forgery_breaks : judged packets None (right end.Peer 5 own (9 ∷ [])) ≡ Some (to end.Peer 5)
forgery_breaks = refl

keyless_request_breaks : judged packets None (right end.Peer 1 own (1 ∷ [])) ≡ Some (to end.Peer 1)
keyless_request_breaks = refl

-- without a right MAC nothing breaks, and the first breach stays
wrong_mac_breaks_nothing : judged packets None (Some (record { checked = false; inputs = Some own; bytes = 9 ∷ []; delivery = to end.Peer 4 })) ≡ None
wrong_mac_breaks_nothing = refl

first_breach_stays : judged packets (Some (to end.Peer 2)) (right end.Peer 3 own (9 ∷ [])) ≡ Some (to end.Peer 2)
first_breach_stays = refl

-- ---- changed packets

-- a byte of packet 3 is another; all of it is cut away; and it has two bytes
tampered_answer : changed_in packets (event.Tamper 3 1 9) ≡ Some (2 ∷ 9 ∷ [])
tampered_answer = refl

cut_answer : changed_in packets (event.Cut 3 0) ≡ Some []
cut_answer = refl

no_third_byte : changed_in packets (event.Tamper 3 2 9) ≡ None
no_third_byte = refl

cut_keeps_fewer : changed_in packets (event.Cut 3 2) ≡ None
cut_keeps_fewer = refl

-- a changed challenge is no server's; one that a server sent stays its own
abbrev after_changes : List SentPacket
after_changes = packets ++ (copies (Some (1 ∷ 5 ∷ [])) ++ copies (Some (1 ∷ 2 ∷ [])))

changed_challenge_breaks : judged after_changes None (right end.Peer 5 own (1 ∷ 5 ∷ [])) ≡ Some (to end.Peer 5)
changed_challenge_breaks = refl

challenge_changed_back_is_honest : judged after_changes None (right end.Peer 6 own (1 ∷ 2 ∷ [])) ≡ None
challenge_changed_back_is_honest = refl
