use Rattle.std.proofs.Common.{rules, ◌≡◌, ◌+◌, ◌-◌, ◌<◌, ◌≤◌, ◌∙◌, get_or, length, drop, take, Some, sym, ap, subst, arith}
use Rattle.std.specs.Prelude.{slice_get}
use Rattle.std.specs.List.{concat}
use Rattle.auc_load.specs.Pieces.{Source, vectors_from, vectors_of_piece}
use Rattle.auc_load.proofs.PieceLemmas.{closing_more, ends, none_after, numbers_within, piece_more}
use Rattle.auc_record.specs.declared.record.Closing.{Closing}
use Rattle.auc_load.proofs.pieces.piece.Goals as goal

abbrev no_closing : Closing
no_closing = record { sub = 0; first = 0; last = 0; drawn = 0; skipped = 0; released = 0; withheld = 0 }

pub append_numbers-requires-clause-last : goal.append_numbers-requires-clause-last
append_numbers-requires-clause-last c =
    let source = c.args.source.now in
    let closing = get_or c.source.inside.closings.now c.loop-k.k no_closing in
    let known : c.loop-k.k < length source.closings = search rules in
    let same : closing ≡ get_or source.closings c.loop-k.k no_closing = ap (λ (s : Source). get_or s.closings c.loop-k.k no_closing) c.source.view_is in
    let there = subst (λ (s : Source). slice_get s.rows closing.sub ≡ Some c.row-row.result.now) c.source.view_is c.row-row.ensures.place in
    let last = ap (λ (d : Closing). d.last) same in
    let place = c.loop-k.invariant.place no_closing known in
    let least = c.min-count.ensures in
    numbers_within source c.loop-k.k (c.loop-k.before + c.min-count.result) no_closing closing c.row-row.result.now c.requires.source known same there (omega (arith, last, place, least))

pub returns-then-left-eq0 : goal.returns-then-left-eq0
returns-then-left-eq0 c =
    let source = c.args.source.now in
    let xs = vectors_from source c.args.start in
    let closing = get_or c.source.inside.closings.now c.loop-k.k no_closing in
    let known : c.loop-k.k < length source.closings = search rules in
    let same : closing ≡ get_or source.closings c.loop-k.k no_closing = ap (λ (s : Source). get_or s.closings c.loop-k.k no_closing) c.source.view_is in
    let there = subst (λ (s : Source). slice_get s.rows closing.sub ≡ Some c.row-row.result.now) c.source.view_is c.row-row.ensures.place in
    let last = ap (λ (d : Closing). d.last) same in
    let place = c.loop-k.invariant.place no_closing known in
    let least = c.min-count.ensures in
    let zero = c.if-left-eq0.true in
    let most = c.loop-k.invariant.most in
    let whole : (vectors_of_piece - c.loop-k.left) + c.min-count.result ≡ vectors_of_piece = omega (arith, zero, most, least) in
    piece_more source c.loop-k.k c.loop-k.before c.min-count.result (vectors_of_piece - c.loop-k.left) no_closing closing c.row-row.result.now xs c.source.inside.rands.now c.loop-k.bytes c.append_numbers.new.bytes
    c.requires.source known same there (ap (λ (s : Source). s.key) c.source.view_is) (omega (arith, last, place, least)) c.loop-k.invariant.ahead c.loop-k.invariant.bytes c.in_ok-append_numbers.ensures
    ∙ ap (λ n. concat (take n xs)) whole

pub loop-k-preserved : goal.loop-k-preserved
loop-k-preserved c =
    let source = c.args.source.now in
    let xs = vectors_from source c.args.start in
    let closing = get_or c.source.inside.closings.now c.loop-k.k no_closing in
    let known : c.loop-k.k < length source.closings = search rules in
    let same : closing ≡ get_or source.closings c.loop-k.k no_closing = ap (λ (s : Source). get_or s.closings c.loop-k.k no_closing) c.source.view_is in
    let there = subst (λ (s : Source). slice_get s.rows closing.sub ≡ Some c.row-row.result.now) c.source.view_is c.row-row.ensures.place in
    let last = ap (λ (d : Closing). d.last) same in
    let place = c.loop-k.invariant.place no_closing known in
    let least = c.min-count.ensures in
    let some = c.if-left-eq0.false in
    let most = c.loop-k.invariant.most in
    let sum : (vectors_of_piece - c.loop-k.left) + c.min-count.result ≡ vectors_of_piece - (c.loop-k.left - c.min-count.result) = omega (arith, most, least) in
    record {
      some = omega (arith, some);
      most = omega (arith, most);
      place = λ d next. omega arith;
      bytes = piece_more source c.loop-k.k c.loop-k.before c.min-count.result (vectors_of_piece - c.loop-k.left) no_closing closing c.row-row.result.now xs c.source.inside.rands.now c.loop-k.bytes c.append_numbers.new.bytes
          c.requires.source known same there (ap (λ (s : Source). s.key) c.source.view_is) (omega (arith, last, place, least)) c.loop-k.invariant.ahead c.loop-k.invariant.bytes c.in_ok-append_numbers.ensures
          ∙ ap (λ n. concat (take n xs)) sum;
      ahead = closing_more source c.loop-k.k c.loop-k.before c.min-count.result (vectors_of_piece - c.loop-k.left) no_closing xs known (omega (arith, last, place, least, some)) c.loop-k.invariant.ahead
          ∙ ap (λ n. drop n xs) sum;
    }

pub returns : goal.returns
returns c =
    let source = c.args.source.now in
    let xs = vectors_from source c.args.start in
    let beyond : length source.closings ≤ c.loop-k.k = search rules in
    c.loop-k.invariant.bytes
    ∙ ap concat (ends (vectors_of_piece - c.loop-k.left) vectors_of_piece xs
    (sym c.loop-k.invariant.ahead ∙ none_after source (record { closing = c.loop-k.k; before = c.loop-k.before }) beyond) (omega arith))
