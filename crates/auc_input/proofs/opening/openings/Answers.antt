use Rattle.std.proofs.Common.{◌∙◌, ◌≤◌, ℕ, List, arith, map, max, min, ap, subst, sym}
use Rattle.std.specs.Prelude.{slice_index}
use Rattle.std.proofs.lemmas.List.{take_all}
use Rattle.auc_journal.specs.Image.{reserved_in}
use Rattle.auc_journal.specs.Journal.{limits_of}
use Rattle.auc_subs.specs.Subscriber.{top_at}
use Rattle.auc_world.proofs.Facts.{opened_within}
use Rattle.auc_input.proofs.OpeningLemmas.{opened_all, opened_more, word_of}
use Rattle.auc_input.proofs.opening.openings.Goals as goal

pub loop-sub-init : goal.loop-sub-init
loop-sub-init g c = record {
  words_are = c.new-words.ensures.items;
  limits = λ i below. absurd (omega (arith, below));
}

pub loop-sub-preserved : goal.loop-sub-preserved
loop-sub-preserved g c =
    let least = c.min.ensures ∙ ap (λ (n : ℕ). min n c.top.result) c.max.ensures ∙ ap (λ (n : ℕ). min (max c.row-row.result.now.seq c.reserved.result) n) c.top.ensures in
    opened_more c.args.subs.now c.args.journal.now c.loop-sub.sub c.reserved.result c.min.result c.row-row.result.now c.loop-sub.words.items c.push.new.self.items c.requires
    c.row-row.ensures.place (omega (arith, c.len-sub-end.ensures.count)) c.reserved.ensures.value c.reserved.ensures.number least c.in_ok-push.ensures.items c.loop-sub.invariant

pub returns-clause-words : goal.returns-clause-words
returns-clause-words g c =
    opened_all c.args.subs.now c.args.journal.now c.loop-sub.words.items c.requires
    (c.loop-sub.invariant.words_are ∙ ap (map (word_of (λ imsi. reserved_in c.args.journal.now.limits imsi))) (take_all c.loop-sub.sub c.args.subs.now (omega (arith, c.len-sub-end.ensures.count))))

pub returns-clause-numbers : goal.returns-clause-numbers
returns-clause-numbers g c = λ sub inside.
    subst (λ (words : List ℕ). slice_index words sub ≤ top_at c.args.subs.now sub) (sym (returns-clause-words g c)) (opened_within c.args.subs.now (limits_of c.args.journal.now) sub)

pub returns-clause-limits : goal.returns-clause-limits
returns-clause-limits g c = λ sub inside. c.loop-sub.invariant.limits sub (omega (arith, inside, c.len-sub-end.ensures.count))
