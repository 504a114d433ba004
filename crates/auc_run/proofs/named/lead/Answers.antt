use Rattle.std.proofs.Common.{◌≡◌, ◌∙◌, ◌++◌, ◌+◌, ◌<◌, List, ℕ, [], ◌∷◌, ap, arith, length, slice_index, slice_set, sym, take}
use Rattle.std.proofs.lemmas.List.{length-take, take_all, take_more}
use Rattle.auc_named.specs.Named.{put_words}
use Rattle.auc_named.proofs.Facts.{length-put_words}
use Rattle.auc_jobs.specs.State.{Standing}
use Rattle.auc_run.proofs.NamedLemmas.{put_more}
use Rattle.auc_run.proofs.named.lead.Goals as goal

pub overflow_cast-i : goal.overflow_cast-i
overflow_cast-i c = omega (arith, c.loop-i-test.true, c.requires.few)

pub set_word-requires : goal.set_word-requires
set_word-requires c =
    let many : length c.loop-i.state.words ≡ length c.args.state.now.words =
    ap (λ (s : Standing). length s.words) c.loop-i.invariant ∙ length-put_words c.args.state.now.words (take c.loop-i.i c.args.places.now) (take c.loop-i.i c.args.next.now.words) in
    let low : slice_index c.args.places.now c.loop-i.i < length c.args.state.now.words = c.requires.within c.loop-i.i 0 c.loop-i-test.true in
    omega (arith, many, low)

pub loop-i-preserved : goal.loop-i-preserved
loop-i-preserved c =
    let i = c.loop-i.i in
    let places = c.args.places.now in
    let own = c.args.next.now.words in
    let words = c.args.state.now.words in
    let size = c.requires.size in
    let inside = c.loop-i-test.true in
    let in_own : i < length own = omega (arith, inside, size) in
    let first = length-take i own in
    let second = length-take i places in
    let sizes : length (take i own) ≡ length (take i places) = omega (arith, first, second, size) in
    c.set_word.ensures ∙ ap (λ (s : Standing). record s { words = slice_set s.words (slice_index places i) c.word.result }) c.loop-i.invariant
    ∙ ap (λ (ws : List ℕ). record c.args.state.now { words = ws })
    (ap (slice_set (put_words words (take i places) (take i own)) (slice_index places i)) c.word.ensures
    ∙ sym (ap (λ (ps : List ℕ). put_words words ps (take (i + 1) own)) (take_more places i 0 inside)
    ∙ ap (put_words words (take i places ++ slice_index places i ∷ [])) (take_more own i 0 in_own)
    ∙ put_more words (take i places) (take i own) (slice_index places i) (slice_index own i) sizes))

pub returns : goal.returns
returns c =
    let size = c.requires.size in
    let all = c.loop-i-test.false in
    c.loop-i.invariant
    ∙ ap (λ (ws : List ℕ). record c.args.state.now { words = ws })
    (ap (λ (ps : List ℕ). put_words c.args.state.now.words ps (take c.loop-i.i c.args.next.now.words)) (take_all c.loop-i.i c.args.places.now all)
    ∙ ap (put_words c.args.state.now.words c.args.places.now) (take_all c.loop-i.i c.args.next.now.words (omega (arith, size, all))))
