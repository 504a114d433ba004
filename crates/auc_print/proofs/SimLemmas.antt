-- The words of a line for a session of EAP-SIM determine what is told of it, for the lemmas on what follows from a vector.
use Rattle.std.proofs.Common.{ℕ, ◌≡◌, ◌∙◌, refl, sym, ap, true, false, List, [], ◌∷◌, drop, if◌then◌else◌, codes, bytes_eq, Option, Some, None, arith}
use Rattle.auc_lines.specs.declared.part.End.TheVariants as end
use Rattle.auc_vector.specs.declared.sim_note.SimBecame.{SimBecame}
use Rattle.auc_vector.specs.declared.sim_note.SimBecame.TheVariants as became
use Rattle.auc_vector.specs.declared.sim_note.SimNote.{SimNote}
use Rattle.auc_vector.specs.declared.sim_note.SimNote.TheVariants as note
use Rattle.auc_vector.specs.declared.why.SimWhy.{SimWhy}
use Rattle.auc_vector.specs.declared.why.SimWhy.TheVariants as why
use Rattle.auc_vector.specs.declared.turn.Outcome.TheVariants as outcome
use Rattle.auc_vector.specs.declared.turn.Step.{Step}
use Rattle.auc_vector.specs.declared.turn.Step.TheVariants as step
use Rattle.auc_record.specs.Told.{told_became, told_note_of_sim, told_what}
use Rattle.auc_print.specs.EventText.{what_words}
use Rattle.auc_print.specs.SimText.{answer_words, became_words, sim_why_words, sim_words}
use Rattle.auc_print.proofs.EventLemmas.{agree_injective, end_injective, what_injective, word_at}
use Rattle.auc_print.proofs.NumeralLemmas.{numeral_injective, numeral_word}
use Rattle.auc_print.proofs.SpacedLemmas.{AllWords, word_from_test, words_append}
use Rattle.auc_print.proofs.WordLemmas.{agree_word_is, end_word_is, no_more, one_number, what_words_are}

-- ---- the words are words

why_words_are : (a : SimWhy) → AllWords (sim_why_words a)
why_words_are why.WrongMac = no_more (codes "wrongmac") refl
why_words_are (why.ClientError code) = one_number (codes "clienterror") code refl
why_words_are why.Version = no_more (codes "version") refl
why_words_are why.NotFresh = no_more (codes "notfresh") refl
why_words_are why.FailureReceived = no_more (codes "failurereceived") refl

answer_words_are : (sent : Option ℕ) → AllWords (answer_words sent)
answer_words_are None = tt
answer_words_are (Some packet) = one_number (codes "sent") packet refl

became_words_are : (a : SimBecame) → AllWords (became_words a)
became_words_are became.NoSuchPacket = no_more (codes "nosuchpacket") refl
became_words_are (became.Did what sent) =
    words_append (answer_words sent) (what_words sim_why_words what) (answer_words_are sent) (what_words_are sim_why_words why_words_are what)

pub sim_words_are : (a : SimNote) → AllWords (sim_words a)
sim_words_are (note.Started bytes) = (word_from_test (codes "start") refl, one_number (codes "sent") 1 refl)
sim_words_are (note.Delivered at' packet it) = (end_word_is at', (numeral_word packet, became_words_are it))
sim_words_are (note.Ended agree) = (agree_word_is agree, tt)

-- ---- why an end ends in Failure

-- a number for each cause, by its first word
abbrev why_of_word : List ℕ → ℕ
why_of_word word =
    if bytes_eq word (codes "wrongmac") then 0
    else if bytes_eq word (codes "clienterror") then 1
    else if bytes_eq word (codes "version") then 2
    else if bytes_eq word (codes "notfresh") then 3 else 4

-- the same number, by the cause
abbrev why_number : SimWhy → ℕ
why_number why.WrongMac = 0
why_number (why.ClientError code) = 1
why_number why.Version = 2
why_number why.NotFresh = 3
why_number why.FailureReceived = 4

-- the first word says which cause it is
why_is : (a : SimWhy) → why_number a ≡ why_of_word (word_at (sim_why_words a) 0)
why_is why.WrongMac = refl
why_is (why.ClientError code) = refl
why_is why.Version = refl
why_is why.NotFresh = refl
why_is why.FailureReceived = refl

-- a cause is determined by its words
why_injective : (a b : SimWhy) → sim_why_words a ≡ sim_why_words b → a ≡ b
why_injective why.WrongMac why.WrongMac e = refl
why_injective (why.ClientError m) (why.ClientError n) e = ap why.ClientError (numeral_injective m n (ap (λ ws. word_at ws 1) e))
why_injective why.Version why.Version e = refl
why_injective why.NotFresh why.NotFresh e = refl
why_injective why.FailureReceived why.FailureReceived e = refl
why_injective a b e =
    let kinds : why_number a ≡ why_number b = why_is a ∙ ap (λ ws. why_of_word (word_at ws 0)) e ∙ sym (why_is b) in
    absurd (omega arith)

-- ---- what became of a packet

-- 2 for the words of a packet that isn't there, 1 for those of an end that sent one, and 0 for others
abbrev became_of_word : List ℕ → ℕ
became_of_word word =
    if bytes_eq word (codes "nosuchpacket") then 2
    else if bytes_eq word (codes "sent") then 1 else 0

-- the same number, by whether an end sent a packet
abbrev sent_number : Option ℕ → ℕ
sent_number None = 0
sent_number (Some packet) = 1

-- the first word says whether an end sent a packet
sent_is : (what : Step SimWhy) (sent : Option ℕ) → sent_number sent ≡ became_of_word (word_at (became_words (became.Did what sent)) 0)
sent_is (step.Sent bytes) None = refl
sent_is (step.Ended (outcome.Success keys) bytes) None = refl
sent_is (step.Ended (outcome.Failure cause) bytes) None = refl
sent_is (step.Ignored cause) None = refl
sent_is what (Some packet) = refl

sent_low : (sent : Option ℕ) → sent_number sent ≡ 2 → ⊥
sent_low None e = omega (arith, e)
sent_low (Some packet) e = omega (arith, e)

-- what is told of an end is determined by its words
did_injective : (a b : Step SimWhy) (p q : Option ℕ) → became_words (became.Did a p) ≡ became_words (became.Did b q)
    → (told_what a ≡ told_what b) × (p ≡ q)
did_injective a b None None e = (what_injective sim_why_words why_injective a b e, refl)
did_injective a b (Some m) (Some n) e = (
  what_injective sim_why_words why_injective a b (ap (λ ws. drop 2 ws) e),
  ap (λ (packet : ℕ). Some packet) (numeral_injective m n (ap (λ ws. word_at ws 1) e)),
)
did_injective a b p q e =
    let kinds : sent_number p ≡ sent_number q = sent_is a p ∙ ap (λ ws. became_of_word (word_at ws 0)) e ∙ sym (sent_is b q) in
    absurd (omega arith)

-- an end that did something has other words than a packet that isn't there
no_such_packet : (what : Step SimWhy) (sent : Option ℕ) → became_words (became.Did what sent) ≡ codes "nosuchpacket" ∷ [] → ⊥
no_such_packet what sent e = sent_low sent (sent_is what sent ∙ ap (λ ws. became_of_word (word_at ws 0)) e)

-- what is told of it is determined by its words
became_injective : (a b : SimBecame) → became_words a ≡ became_words b → told_became a ≡ told_became b
became_injective became.NoSuchPacket became.NoSuchPacket e = refl
became_injective (became.Did a p) (became.Did b q) e =
    let found : (told_what a ≡ told_what b) × (p ≡ q) = did_injective a b p q e in
    let did : told_what a ≡ told_what b = found.0 in
    let sent : p ≡ q = found.1 in (cc)
became_injective became.NoSuchPacket (became.Did b q) e = absurd (no_such_packet b q (sym e))
became_injective (became.Did a p) became.NoSuchPacket e = absurd (no_such_packet a p e)

-- ---- what happened

-- a number for each kind of line, by its first word
abbrev note_of_word : List ℕ → ℕ
note_of_word word =
    if bytes_eq word (codes "start") then 0
    else if bytes_eq word (codes "agree") then 2
    else if bytes_eq word (codes "differ") then 2 else 1

-- the same number, by what happened
abbrev note_number : SimNote → ℕ
note_number (note.Started bytes) = 0
note_number (note.Delivered at' packet it) = 1
note_number (note.Ended agree) = 2

-- the first word says which kind it is
note_is : (a : SimNote) → note_number a ≡ note_of_word (word_at (sim_words a) 0)
note_is (note.Started bytes) = refl
note_is (note.Delivered end.Server packet it) = refl
note_is (note.Delivered end.Peer packet it) = refl
note_is (note.Ended true) = refl
note_is (note.Ended false) = refl

-- what is told of what happened is determined by its words
pub sim_injective : (a b : SimNote) → sim_words a ≡ sim_words b → told_note_of_sim a ≡ told_note_of_sim b
sim_injective (note.Started bytes) (note.Started others) e = refl
sim_injective (note.Delivered x p a) (note.Delivered y q b) e =
    let place : x ≡ y = end_injective x y (ap (λ ws. word_at ws 0) e) in
    let packet : p ≡ q = numeral_injective p q (ap (λ ws. word_at ws 1) e) in
    let it : told_became a ≡ told_became b = became_injective a b (ap (λ ws. drop 2 ws) e) in (cc)
sim_injective (note.Ended a) (note.Ended b) e = ap note.Ended (agree_injective a b (ap (λ ws. word_at ws 0) e))
sim_injective a b e =
    let kinds : note_number a ≡ note_number b = note_is a ∙ ap (λ ws. note_of_word (word_at ws 0)) e ∙ sym (note_is b) in
    absurd (omega arith)
