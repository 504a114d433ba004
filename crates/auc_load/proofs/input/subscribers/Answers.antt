use Rattle.std.proofs.Common.{◌∙◌, ◌++◌, ◌∷◌, [], List, ℕ, length, map, sym, ap, arith}
use Rattle.std.specs.List.{range_with_len}
use Rattle.std.proofs.lemmas.List.FromFn.{length-map-range_with_len, map-range_with_len_more}
use Rattle.auc_load.specs.Input.{load_key, row_at}
use Rattle.auc_load.proofs.InputLemmas.{place_is_new}
use Rattle.auc_subs.specs.declared.row.Row.{Row}
use Rattle.auc_subs.specs.Subscriber.{place_of}
use Rattle.auc_load.proofs.input.subscribers.Goals as goal

pub push-requires-clause-new : goal.push-requires-clause-new
push-requires-clause-new c =
    let key = load_key c.args.load.now.key in
    let row = c.row.ensures.value ∙ ap (λ (k : List ℕ). row_at k c.loop-i.i) (c.new-rands.ensures ∙ c.key_of.ensures) in
    ap (λ (rows : List Row). place_of rows c.row.result.imsi) c.loop-i.invariant
    ∙ ap (λ (r : Row). place_of (map (row_at key) (range_with_len 0 c.loop-i.i)) r.imsi) row
    ∙ place_is_new key c.loop-i.i

pub push-requires-clause-room : goal.push-requires-clause-room
push-requires-clause-room c =
    let same = ap length c.loop-i.invariant in
    let many = length-map-range_with_len (row_at (load_key c.args.load.now.key)) 0 c.loop-i.i in
    let most = c.requires.subscribers in
    let next = c.loop-i-test.true in
    omega (arith, same, many, most, next)

pub loop-i-preserved : goal.loop-i-preserved
loop-i-preserved c =
    let key = load_key c.args.load.now.key in
    let row = c.row.ensures.value ∙ ap (λ (k : List ℕ). row_at k c.loop-i.i) (c.new-rands.ensures ∙ c.key_of.ensures) in
    c.in_ok-push.ensures.added
    ∙ ap (λ (rows : List Row). rows ++ c.row.result ∷ []) c.loop-i.invariant
    ∙ ap (λ (r : Row). map (row_at key) (range_with_len 0 c.loop-i.i) ++ r ∷ []) row
    ∙ sym (map-range_with_len_more (row_at key) 0 c.loop-i.i c.loop-i.i (omega arith))
