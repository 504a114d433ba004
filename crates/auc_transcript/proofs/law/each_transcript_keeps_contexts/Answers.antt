-- The law is a lemma on transcripts for each of its parts, by the laws of moves, of names, of events, of bytes and of a peer's turns.
use Rattle.std.proofs.Common.{[], AllPairs, map, subst, sym}
use Rattle.auc_reauth.specs.Machine.{AreDifferent}
use Rattle.auc_subs.specs.declared.row.Row.{Row}
use Rattle.auc_world.specs.Start.{fresh_kept}
use Rattle.auc_transcript.specs.Counters.{CountersAreTold}
use Rattle.auc_transcript.proofs.ContextLemmas.{counters_accepted_once}
use Rattle.auc_transcript.proofs.HomeLawLemmas.{HomeLaws, identities_come_once, resumed_differ}
use Rattle.auc_transcript.proofs.OwnContextLemmas.{acceptances_are_own}
use Rattle.auc_transcript.proofs.ToldCounterLemmas.{accepted_is_told, counters_are_told, resumed_is_told}
use Rattle.auc_transcript.proofs.law.each_transcript_keeps_contexts.Goals as goal

pub returns : goal.returns
returns c set reserved stop parts records nets are block held lawful lead =
    let homes : HomeLaws = record {
      rise = c.no_turn_gives_an_ordinal_back.ensures;
      names = c.each_name_is_given_once.ensures;
      moves = c.each_event_moves_contexts_once.ensures.homes;
      identities = c.no_identity_is_resumed_twice.ensures;
    } in
    let told : CountersAreTold records nets = counters_are_told c.each_accepted_counter_is_of_the_context.ensures set [] (map (λ (row : Row). fresh_kept) set.rows) parts records nets lead in
    record {
      told = told;
      counters = record {
        resumed = λ m sub. subst (AllPairs AreDifferent) (sym (resumed_is_told m sub records nets told)) (resumed_differ homes set reserved stop parts records nets are block held lawful lead c.no_counter_is_used_twice.ensures m sub);
        accepted = λ m sub. subst (AllPairs AreDifferent) (sym (accepted_is_told m sub records nets told))
            (counters_accepted_once c.no_counter_is_used_twice.ensures c.each_event_moves_contexts_once.ensures.devices set parts records nets are held lead m sub);
      };
      identities = identities_come_once homes set reserved stop parts records nets are block held lawful lead;
      own = acceptances_are_own (record {
        received = c.equal_bytes_are_received_alike.ensures;
        walk = c.bytes_have_one_reading_or_one_fault.ensures;
        opening = c.opening_has_one_answer.ensures;
        runs = c.each_session_has_one_run.ensures;
      }) c.each_acceptance_is_of_the_own_context.ensures set parts records nets lead;
    }
