use Rattle.std.proofs.Common.{◌≡◌, ◌+◌, ◌∙◌, nat_eq, Some, drop, ap, sym}
use Rattle.std.specs.List.{position}
use Rattle.std.proofs.lemmas.List.{take_rest}
use Rattle.auc_block.specs.Block.{is_end}
use Rattle.auc_block.proofs.HearingLemmas.{found_end, found_open, line_at, line_is, searched_line}
use Rattle.auc_block.proofs.search.find_end.Goals as goal

pub returns-then-is_end : goal.returns-then-is_end
returns-then-is_end c =
    let text = c.args.text.now in
    let found : position (λ byte. nat_eq byte 10) (drop c.loop-size.place text) ≡ Some c.in-Some.size =
    ap (position (λ byte. nat_eq byte 10)) (sym (take_rest text c.loop-size.place)) ∙ sym c.in-Some.ensures.place in
    let line = line_at text c.loop-size.begin c.loop-size.place c.in-Some.size c.loop-size.invariant found in
    found_end text c.loop-size.begin (c.loop-size.place + c.in-Some.size) line
    (ap is_end (sym (line_is text c.loop-size.begin (c.loop-size.place + c.in-Some.size) line)) ∙ sym c.is_end.ensures ∙ c.if-is_end.true)

pub loop-size-preserved : goal.loop-size-preserved
loop-size-preserved c =
    let text = c.args.text.now in
    let found : position (λ byte. nat_eq byte 10) (drop c.loop-size.place text) ≡ Some c.in-Some.size =
    ap (position (λ byte. nat_eq byte 10)) (sym (take_rest text c.loop-size.place)) ∙ sym c.in-Some.ensures.place in
    let line = line_at text c.loop-size.begin c.loop-size.place c.in-Some.size c.loop-size.invariant found in
    searched_line text c.loop-size.begin (c.loop-size.place + c.in-Some.size) line
    (ap is_end (sym (line_is text c.loop-size.begin (c.loop-size.place + c.in-Some.size) line)) ∙ sym c.is_end.ensures ∙ c.if-is_end.false)

pub returns : goal.returns
returns c =
    let text = c.args.text.now in
    found_open text c.loop-size.begin c.loop-size.place c.loop-size.invariant
    (ap (position (λ byte. nat_eq byte 10)) (sym (take_rest text c.loop-size.place)) ∙ sym c.in_default.ensures.place)
