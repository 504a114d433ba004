use Rattle.std.proofs.Common.{◌≡◌, ◌∙◌, ◌≤◌, List, ap, arith, length, subst, sym, ℕ}
use Rattle.std.specs.Prelude.{Some, slice_get, slice_index}
use Rattle.auc_random.specs.Random.{sim_nonce}
use Rattle.auc_sim.specs.Identity.{sim_identity}
use Rattle.auc_vector.specs.declared.sim_note.SimNote.{SimNote}
use Rattle.auc_sim_packet.specs.declared.parts.Triplet.{Triplet}
use Rattle.auc_jobs.specs.InnerSim.{AreNotesOf, AreTripletsOf}
use Rattle.auc_subs.specs.Setting.{Setting}
use Rattle.auc_jobs.proofs.SimLemmas.{identity_size, session_is, triplets_size}
use Rattle.auc_jobs.proofs.SiteLemmas.{if_ok_map}
use Rattle.auc_jobs.proofs.sim.session_notes.Goals as goal

pub number-requires : goal.number-requires
number-requires c = omega (arith, c.requires.least)

pub run_session-requires-clause-least : goal.run_session-requires-clause-least
run_session-requires-clause-least c =
    let size = triplets_size c.args.set.now c.sub-3.result c.sub.result c.args.numbers.now c.in_ok-triplets.triplets c.as_slice-2.result.now c.row-row.result.now (c.sub-3.ensures ∙ sym c.sub.ensures)
    (subst (λ (s : Setting). slice_get s.rows c.sub.result ≡ Some c.row-row.result.now) c.set.view_is c.row-row.ensures.place) c.in_ok-triplets.ensures c.as_slice-2.ensures in
    omega (arith, c.requires.least, size)

pub run_session-requires-clause-most : goal.run_session-requires-clause-most
run_session-requires-clause-most c =
    let size = triplets_size c.args.set.now c.sub-3.result c.sub.result c.args.numbers.now c.in_ok-triplets.triplets c.as_slice-2.result.now c.row-row.result.now (c.sub-3.ensures ∙ sym c.sub.ensures)
    (subst (λ (s : Setting). slice_get s.rows c.sub.result ≡ Some c.row-row.result.now) c.set.view_is c.row-row.ensures.place) c.in_ok-triplets.ensures c.as_slice-2.ensures in
    omega (arith, c.requires.most, size)

pub run_session-requires-clause-short : goal.run_session-requires-clause-short
run_session-requires-clause-short c =
    let there : slice_get c.args.set.now.rows c.sub.result ≡ Some c.row-row.result.now = subst (λ (s : Setting). slice_get s.rows c.sub.result ≡ Some c.row-row.result.now) c.set.view_is c.row-row.ensures.place in
    let is : c.as_slice.result.now ≡ sim_identity c.row-row.result.now.imsi c.args.set.now.realm =
    c.as_slice.ensures ∙ c.in_ok-identity.ensures ∙ ap (λ (s : Setting). sim_identity c.row-row.result.now.imsi s.realm) c.set.view_is in
    subst (λ (text : List ℕ). length text ≤ 1016) (sym is)
    (identity_size c.args.set.now.rows c.sub.result c.row-row.result.now c.args.set.now.realm c.requires.subscribers there (subst (λ (s : Setting). length s.realm ≤ 255) c.set.view_is c.set.invariant))

pub returns : goal.returns
returns c =
    let there : slice_get c.args.set.now.rows c.args.line.now.sub ≡ Some c.row-row.result.now =
    ap (slice_get c.args.set.now.rows) (sym c.sub.ensures) ∙ subst (λ (s : Setting). slice_get s.rows c.sub.result ≡ Some c.row-row.result.now) c.set.view_is c.row-row.ensures.place in
    let is : c.as_slice.result.now ≡ sim_identity c.row-row.result.now.imsi c.args.set.now.realm =
    c.as_slice.ensures ∙ c.in_ok-identity.ensures ∙ ap (λ (s : Setting). sim_identity c.row-row.result.now.imsi s.realm) c.set.view_is in
    let are : AreTripletsOf c.args.set.now c.args.line.now.sub c.args.numbers.now c.as_slice-2.result.now =
    subst (λ (ts : List Triplet). AreTripletsOf c.args.set.now c.args.line.now.sub c.args.numbers.now ts) (sym c.as_slice-2.ensures)
    (subst (λ (sub : ℕ). AreTripletsOf c.args.set.now sub c.args.numbers.now c.in_ok-triplets.triplets) c.sub-3.ensures c.in_ok-triplets.ensures) in
    let random : c.sim_nonce-nonce.result ≡ sim_nonce c.args.set.now.key c.args.line.now.sub (slice_index c.args.numbers.now 0) =
    c.sim_nonce-nonce.ensures ∙ ap (λ (s : Setting). sim_nonce s.key c.sub-2.result c.number.result) c.set.view_is
    ∙ ap (λ (sub : ℕ). sim_nonce c.args.set.now.key sub c.number.result) c.sub-2.ensures ∙ ap (sim_nonce c.args.set.now.key c.args.line.now.sub) c.number.ensures.value in
    if_ok_map _ (AreNotesOf c.args.set.now c.args.line.now c.args.numbers.now) c.run_session.result c.run_session.ensures (λ (notes : List SimNote) runs.
    session_is c.args.set.now c.args.line.now c.args.numbers.now c.row-row.result.now notes c.as_slice.result.now c.as_slice-2.result.now c.sim_nonce-nonce.result c.schedule.result.now there is are random
    c.schedule.ensures.value runs)
