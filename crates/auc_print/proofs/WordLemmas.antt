-- What lines of several kinds have in them are words, for the lemmas on lines.
use Rattle.std.proofs.Common.{ℕ, ◌≡◌, refl, Bool, true, false, List, [], ◌∷◌, codes}
use Rattle.hex.specs.Hex.{encode_lower}
use Rattle.auc_memory.specs.declared.stop.Stop.{Stop}
use Rattle.auc_memory.specs.declared.stop.Stop.TheVariants.{Fault, Full}
use Rattle.auc_lines.specs.declared.part.End.{End}
use Rattle.auc_lines.specs.declared.part.End.TheVariants as end
use Rattle.auc_vector.specs.declared.turn.Outcome.TheVariants as outcome
use Rattle.auc_vector.specs.declared.turn.Reason.{Reason}
use Rattle.auc_vector.specs.declared.turn.Reason.TheVariants as reason
use Rattle.auc_vector.specs.declared.turn.Step.{Step}
use Rattle.auc_vector.specs.declared.turn.Step.TheVariants as step
use Rattle.auc_print.specs.EventText.{agree_word, end_word, reason_word, stop_word, what_words}
use Rattle.auc_print.specs.Numeral.{numeral}
use Rattle.auc_print.proofs.NumeralLemmas.{numeral_word}
use Rattle.auc_print.proofs.SpacedLemmas.{IsWord, AllWords, hex_word, is_word, word_from_test}

-- the word of a stop is a word
pub stop_word_is : (stop : Stop) → IsWord (stop_word stop)
stop_word_is Fault = word_from_test (codes "fault") refl
stop_word_is Full = word_from_test (codes "full") refl

-- that of an end
pub end_word_is : (at' : End) → IsWord (end_word at')
end_word_is end.Server = word_from_test (codes "server") refl
end_word_is end.Peer = word_from_test (codes "peer") refl

-- a word before a number, two numbers, a number and a stop, bytes, and nothing
pub one_number : (word : List ℕ) (n : ℕ) → is_word word ≡ true → AllWords (word ∷ numeral n ∷ [])
one_number word n test = (word_from_test word test, (numeral_word n, tt))

pub two_numbers : (word : List ℕ) (m n : ℕ) → is_word word ≡ true → AllWords (word ∷ numeral m ∷ numeral n ∷ [])
two_numbers word m n test = (word_from_test word test, (numeral_word m, (numeral_word n, tt)))

pub a_stop : (word : List ℕ) (n : ℕ) (stop : Stop) → is_word word ≡ true → AllWords (word ∷ numeral n ∷ stop_word stop ∷ [])
a_stop word n stop test = (word_from_test word test, (numeral_word n, (stop_word_is stop, tt)))

pub some_bytes : (word bytes : List ℕ) → is_word word ≡ true → AllWords (word ∷ encode_lower bytes ∷ [])
some_bytes word bytes test = (word_from_test word test, (hex_word bytes, tt))

pub no_more : (word : List ℕ) → is_word word ≡ true → AllWords (word ∷ [])
no_more word test = (word_from_test word test, tt)

-- the word that says why what was received is ignored
pub reason_word_is : (a : Reason) → IsWord (reason_word a)
reason_word_is reason.Closed = word_from_test (codes "closed") refl
reason_word_is reason.NotForMe = word_from_test (codes "notforme") refl
reason_word_is reason.OtherType = word_from_test (codes "othertype") refl
reason_word_is reason.Malformed = word_from_test (codes "malformed") refl
reason_word_is reason.Unexpected = word_from_test (codes "unexpected") refl
reason_word_is reason.Missing = word_from_test (codes "missing") refl
reason_word_is reason.NoContext = word_from_test (codes "nocontext") refl

-- the words of what an end did besides sending, if those of each cause of a Failure are words
pub what_words_are : {W : Type 0} (why_words : W → List (List ℕ)) → ((why : W) → AllWords (why_words why)) → (a : Step W) → AllWords (what_words why_words a)
what_words_are why_words are (step.Sent bytes) = tt
what_words_are why_words are (step.Ended (outcome.Success keys) bytes) = (word_from_test (codes "ended") refl, (word_from_test (codes "success") refl, tt))
what_words_are why_words are (step.Ended (outcome.Failure why) bytes) = (word_from_test (codes "ended") refl, (word_from_test (codes "failure") refl, are why))
what_words_are why_words are (step.Ignored why) = (word_from_test (codes "ignored") refl, (reason_word_is why, tt))

-- the word of a verdict on a session
pub agree_word_is : (agree : Bool) → IsWord (agree_word agree)
agree_word_is true = word_from_test (codes "agree") refl
agree_word_is false = word_from_test (codes "differ") refl
