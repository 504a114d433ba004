use Rattle.std.proofs.Common.{List, Option, ap, map, refl, subst, sym, ◌∙◌}
use Rattle.auc_draw.specs.Values.{ClosedValue}
use Rattle.auc_memory.specs.declared.stop.Stop.{Stop}
use Rattle.auc_record.specs.declared.record.LineRecord.{LineRecord}
use Rattle.auc_jobs.specs.InnerKeeping.{told_stop}
use Rattle.auc_jobs.specs.InnerRound.{GoesByLimits}
use Rattle.auc_jobs.specs.InnerSharing.{Shared}
use Rattle.auc_jobs.proofs.CollectLemmas.{passes_own}
use Rattle.auc_jobs.proofs.CrewLemmas.{Closing, served_by_workers, limited_by_workers, printed_by_workers, closed_within}
use Rattle.auc_jobs.proofs.workers.close.Goals as goal

pub last_words-requires-clause-own : goal.last_words-requires-clause-own
last_words-requires-clause-own c = passes_own c.args.book.id c.args.book.tops c.args.round.now c.args.all.items c.in-Ok.both.0.items c.in-Ok.ensures.passed c.requires.worked.done

pub returns : goal.returns
returns c =
    let passes = c.in-Ok.both.0.items in
    let done = c.in-Ok.both.1.items in
    let sorted = c.in_ok-in_order.field-0.items in
    let jobs = c.in_ok-jobs.jobs in
    let words = c.in_ok-words.words in
    let closed : ClosedValue = record { words = words; lists = map (λ p. p.deeds) passes } in
    let told = c.told_stop-stop.ensures ∙ ap (λ (records : List (List LineRecord)). told_stop c.args.stop records) c.as_slice.ensures in
    let closing : Closing c.args.book.id c.args.round.now c.args.book.openings c.args.book c.args.keeper c.args.all.items passes closed done sorted = record {
      recut = c.recut_split_is_a_split.ensures;
      some = c.requires.worked.some;
      finished = c.requires.worked.done;
      collected = c.in-Ok.ensures;
      closes = record { numbers = refl; tops = c.requires.worked.tops; closes = c.in_ok-words.ensures };
      same = c.in_ok-in_order.ensures.same;
      rising = c.in_ok-in_order.ensures.sorted;
      apart = c.requires.round.round.apart;
      known = c.requires.round.round.known;
      sized = c.requires.worked.sized;
    } in
    record {
      served = served_by_workers c.args.book.id c.args.round.now c.args.book.openings c.args.book c.args.keeper c.args.all.items passes closed done
          sorted jobs.records jobs.devices jobs.sessions words closing c.in_ok-jobs.ensures.records c.in_ok-jobs.ensures.devices c.in_ok-jobs.ensures.sessions refl;
      limits = subst (λ (s : Option Stop). GoesByLimits c.args.round.now.set s jobs.records c.args.book.limits words c.args.keeper.limits) (sym told)
          (limited_by_workers c.args.book.id c.args.round.now c.args.book.openings c.args.book c.args.keeper c.args.all.items passes closed done sorted jobs.records words c.args.stop
          closing c.requires.round c.in_ok-jobs.ensures.records refl c.requires.worked.stopped);
      looked = c.in_ok-words.ensures.looked;
      vectors = printed_by_workers c.args.book.id c.args.round.now c.args.book.openings c.args.book c.args.keeper c.args.all.items passes closed done
          sorted jobs.records jobs.vectors c.round.inside.round.now.full closing c.requires.round (ap (λ (s : Shared). s.full) c.round.view_is) c.in_ok-jobs.ensures.records c.in_ok-jobs.ensures.vectors;
      bound = closed_within c.args.round.now.set.rows c.args.book (map (λ p. p.deeds) passes) c.args.keeper closed words c.requires.worked.tops c.in_ok-words.ensures refl;
      stop = told ∙ ap (λ (s : Option Stop). told_stop s jobs.records) c.requires.worked.stopped;
    }
