use Rattle.std.proofs.Common.{◌≡◌, ℕ, List, [], ◌++◌, ap, sym, ◌∙◌, arith}
use Rattle.auc_memory.specs.Reserved.{Reserved}
use Rattle.auc_sim_packet.specs.InnerSealed.{front_of}
use Rattle.auc_sim_packet.proofs.SealedLemmas.{front_writable, front_small, sealed_is}
use Rattle.auc_sim_packet.proofs.sealing.sealed_sim.Goals as goal

pub size_of_attrs-requires-clause-writable : goal.size_of_attrs-requires-clause-writable
size_of_attrs-requires-clause-writable c = front_writable c.args.draft.now c.requires

pub size_of_attrs-requires-clause-small : goal.size_of_attrs-requires-clause-small
size_of_attrs-requires-clause-small c = omega (arith, front_small c.args.draft.now c.requires)

pub put_front-requires-clause-writable : goal.put_front-requires-clause-writable
put_front-requires-clause-writable c = front_writable c.args.draft.now c.requires

pub put_front-requires-clause-small : goal.put_front-requires-clause-small
put_front-requires-clause-small c = front_small c.args.draft.now c.requires

pub returns : goal.returns
returns c =
    let none : c.in_ok-room.room.written ≡ [] = ap (λ (r : Reserved ℕ). r.written) c.in_ok-room.ensures in
    let front : c.as_slice.result.now ≡ front_of c.args.draft.now =
    c.as_slice.ensures ∙ ap (λ (r : Reserved ℕ). r.written) c.put_front.ensures ∙ ap (λ (t : List ℕ). t ++ front_of c.args.draft.now) none in
    c.into_octets.ensures ∙ ap (λ (r : Reserved ℕ). r.written) c.put.ensures ∙ ap (λ (t : List ℕ). t ++ c.last_mac-mac.result) (sym c.as_slice.ensures)
    ∙ sealed_is c.args.draft.now c.args.k_aut.now c.args.extra.now c.as_slice.result.now c.last_mac-mac.result front c.last_mac-mac.ensures
