use Rattle.std.proofs.Common.{◌≡◌, ℕ, List, length, ap, sym, ◌∙◌, refl, subst, arith}
use Rattle.std.specs.Prelude.{slice_get, Some}
use Rattle.auc_record.specs.Lines.{all_lines}
use Rattle.auc_world.specs.Sessions.{AreVerdicts, premise_from}
use Rattle.auc_subs.specs.Setting.{Setting}
use Rattle.auc_record.specs.declared.record.JobSessions.{JobSessions}
use Rattle.auc_record.specs.declared.record.LineRecord.{LineRecord}
use Rattle.auc_record.specs.declared.counting.Count.{Count}
use Rattle.auc_record.specs.Counts.{AreCounted, counted_closings}
use Rattle.auc_jobs.specs.InnerRound.{IsAdvanced}
use Rattle.auc_jobs.specs.State.{Standing}
use Rattle.auc_jobs.proofs.RoundLemmas.{advanced_as, as_many_sessions, closes_above, leads_on, stands_after}
use Rattle.auc_jobs.proofs.round.sum_up.Goals as goal

pub closings-requires-clause-words : goal.closings-requires-clause-words
closings-requires-clause-words c =
    let opened : c.state.inside.words.items ≡ c.args.state.now.words = ap (λ (s : Standing). s.words) c.state.view_is in
    let served = c.requires.served c.requires.state.0 c.requires.state.1 in
    ap (λ (ws : List ℕ). length ws) c.as_slice-2.ensures ∙ served.size ∙ sym (ap (λ (ws : List ℕ). length ws) (c.as_slice.ensures.value ∙ opened))

pub closings-requires-clause-forward : goal.closings-requires-clause-forward
closings-requires-clause-forward c = λ k count there.
    let opened : c.state.inside.words.items ≡ c.args.state.now.words = ap (λ (s : Standing). s.words) c.state.view_is in
    let served = c.requires.served c.requires.state.0 c.requires.state.1 in
    let counted : AreCounted (all_lines c.args.done.now.jobs.records) c.in_ok-counts.counts.items =
    subst (λ (records : List (List LineRecord)). AreCounted (all_lines records) c.in_ok-counts.counts.items) c.as_slice-records.ensures c.in_ok-counts.ensures.counted in
    let counts : length c.in_ok-counts.counts.items ≡ length c.args.state.now.words =
    c.in_ok-counts.ensures.size ∙ c.len.ensures ∙ sym c.as_slice.ensures.len ∙ ap (λ (ws : List ℕ). length ws) (c.as_slice.ensures.value ∙ opened) in
    rw (c.as_slice.ensures.value ∙ opened, c.as_slice-2.ensures)
    (closes_above c.args.round.now.set.now c.requires.state.0 c.args.state.now.kept c.args.state.now.words c.args.done.now.words c.args.round.now.jobs.now c.args.done.now.jobs.records c.args.done.now.jobs.devices c.args.done.now.jobs.sessions c.in_ok-counts.counts.items
    k count counts served.pieces c.requires.bound counted (subst (λ (cs : List Count). slice_get cs k ≡ Some count) c.deref.ensures.value there))

pub round_premise-premise-requires : goal.round_premise-premise-requires
round_premise-premise-requires c =
    let served = c.requires.served c.requires.state.0 c.requires.state.1 in
    let many = as_many_sessions c.args.round.now.set.now c.requires.state.0 c.args.state.now.kept c.args.state.now.words c.args.done.now.words c.args.round.now.jobs.now c.args.done.now.jobs.records c.args.done.now.jobs.devices c.args.done.now.jobs.sessions served.pieces in
    let same = ap (λ (ss : List JobSessions). length ss) c.as_slice-4.ensures in
    omega (arith, many, same, c.requires.round.few)

pub advance-requires : goal.advance-requires
advance-requires c =
    let served = c.requires.served c.requires.state.0 c.requires.state.1 in
    ap (λ (ws : List ℕ). length ws) c.as_slice-6.ensures ∙ served.size ∙ c.requires.state.1.subscribers.size ∙ sym (ap (λ (s : Setting). length s.rows) c.set.view_is)

pub returns-clause-leads : goal.returns-clause-leads
returns-clause-leads c = λ number early stands.
    let opened : c.state.inside.words.items ≡ c.args.state.now.words = ap (λ (s : Standing). s.words) c.state.view_is in
    let served = c.requires.served early stands in
    let counted : AreCounted (all_lines c.args.done.now.jobs.records) c.in_ok-counts.counts.items =
    subst (λ (records : List (List LineRecord)). AreCounted (all_lines records) c.in_ok-counts.counts.items) c.as_slice-records.ensures c.in_ok-counts.ensures.counted in
    let counts : length c.in_ok-counts.counts.items ≡ length c.args.state.now.words =
    c.in_ok-counts.ensures.size ∙ c.len.ensures ∙ sym c.as_slice.ensures.len ∙ ap (λ (ws : List ℕ). length ws) (c.as_slice.ensures.value ∙ opened) in
    let closed : c.in_ok-closings.closings ≡ counted_closings 0 c.args.state.now.words c.args.done.now.words c.in_ok-counts.counts.items =
    c.in_ok-closings.ensures ∙ rw (c.as_slice.ensures.value ∙ opened, c.as_slice-2.ensures, c.deref.ensures.value) refl in
    let advanced : IsAdvanced c.args.round.now.set.now.rows c.args.state.now c.args.done.now.jobs.records c.args.done.now.jobs.devices c.args.done.now.words c.advance.new.self =
    advanced_as _ c.args.round.now.set.now.rows c.args.state.now c.args.state.now _ _ _ _ _ _ c.advance.new.self (ap (λ (s : Setting). s.rows) c.set.view_is) refl c.as_slice-records.ensures c.as_slice-5.ensures c.as_slice-6.ensures c.in_ok-advance.ensures.advanced in
    leads_on c.args.round.now.set.now c.args.done.now.stop early c.args.state.now c.advance.new.self c.args.done.now.words c.args.round.now.jobs.now c.args.done.now.jobs.records c.args.done.now.jobs.devices c.args.done.now.jobs.sessions
    c.in_ok-counts.counts.items number c.in_ok-closings.closings c.in_ok-verdicts.verdicts c.round_premise-premise.result c.requires.round.apart served.pieces c.requires.bound served.size counts counted closed
    c.requires.withholds (subst (λ (js : List JobSessions). AreVerdicts js c.in_ok-verdicts.verdicts) c.as_slice-3.ensures c.in_ok-verdicts.ensures)
    (c.round_premise-premise.ensures ∙ ap (premise_from 1) c.as_slice-4.ensures)
    advanced
    (stands_after c.args.round.now.set.now early c.args.state.now c.advance.new.self c.args.round.now.jobs.now c.args.done.now.jobs.records c.args.done.now.jobs.devices c.args.done.now.jobs.sessions c.args.done.now.words
    c.requires.round.apart stands served advanced)
