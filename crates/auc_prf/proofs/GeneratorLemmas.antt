-- For the generator: what a string of 20 bytes has to do with the number that it spells.
use Rattle.std.proofs.Common.{ℕ, suc, ◌≡◌, ◌<◌, ◌≤◌, ◌+◌, ◌-◌, ◌*◌, List, [], ◌++◌, length, take, arith, refl, append_assoc}
use Rattle.std.proofs.lemmas.Slice.{take-put_mid}
use Rattle.auc_prf.specs.Generator.{bytes_of, compressed, number_of, word_of, words, xkey_after}
use Rattle.auc_prf.proofs.NumberLemmas.{AreBytes, bytes_of-number_of, number_of-bytes_of}
use borrow.Rule.Slice.PartMut.{put_mid}

-- the word of a number is what the compression makes of its bytes
pub word_of-number_of : (xkey word : List ℕ) → length xkey ≡ 20 → AreBytes xkey → word ≡ compressed xkey → word_of (number_of xkey) ≡ number_of word
unfolding word_of
word_of-number_of xkey word size are is = rw (bytes_of-number_of xkey size are, is) refl

-- no words are no bytes
pub words_none : (xkey : ℕ) → words 0 xkey ≡ []
unfolding words
words_none xkey = refl

-- the first of several words
words_next : (count xkey : ℕ) → words (suc count) xkey ≡ bytes_of (word_of xkey) ++ words count (xkey_after xkey)
unfolding words
words_next count xkey = refl

-- after a word was written, it and the words still to come are the words from the start on
pub stream_next : (out xkey word next all : List ℕ) (i : ℕ) → i < 8 → 20 * i ≤ length out → length word ≡ 20
    → word ≡ bytes_of (word_of (number_of xkey)) → next ≡ bytes_of (xkey_after (number_of xkey))
    → take (20 * i) out ++ words (8 - i) (number_of xkey) ≡ all
    → take (20 * (i + 1)) (put_mid (20 * i) (20 * i + 20 - 20 * i) out word) ++ words (8 - (i + 1)) (number_of next) ≡ all
stream_next out xkey word next all i below fits size word_is next_is before =
    let left : 8 - i ≡ suc (8 - (i + 1)) = omega arith in
    let number : number_of next ≡ xkey_after (number_of xkey) = rw next_is (number_of-bytes_of (1 + number_of xkey + word_of (number_of xkey))) in
    let split : take (20 * i) out ++ (word ++ words (8 - (i + 1)) (xkey_after (number_of xkey))) ≡ all = rw (left, words_next, ← word_is) at before in
    rw (take-put_mid (20 * i) (20 * i + 20 - 20 * i) out word (20 * (i + 1)) (omega arith) fits, append_assoc, number) split
