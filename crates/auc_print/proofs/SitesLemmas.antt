-- The words of a line for sites determine what happened, for the lemmas on what follows from a vector.
use Rattle.std.proofs.Common.{ℕ, ◌≡◌, ◌∙◌, refl, sym, ap, List, drop, if◌then◌else◌, codes, bytes_eq, arith}
use Rattle.auc_record.specs.declared.sites.SitesNote.{SitesNote}
use Rattle.auc_record.specs.declared.sites.SitesNote.TheVariants as note
use Rattle.auc_record.specs.declared.sites.SitesOutcome.{SitesOutcome}
use Rattle.auc_record.specs.declared.sites.SitesOutcome.TheVariants as outcome
use Rattle.auc_print.specs.SitesText.{delivery_words, sites_words}
use Rattle.auc_print.proofs.EventLemmas.{word_at}
use Rattle.auc_print.proofs.NumeralLemmas.{numeral_injective, numeral_word}
use Rattle.auc_print.proofs.SpacedLemmas.{AllWords, word_from_test}

-- the words are words
delivery_words_are : (a : SitesOutcome) → AllWords (delivery_words a)
delivery_words_are (outcome.Granted count sent) =
    (word_from_test (codes "granted") refl, (numeral_word count, (word_from_test (codes "sent") refl, (numeral_word sent, tt))))
delivery_words_are (outcome.Again count sent) =
    (word_from_test (codes "again") refl, (numeral_word count, (word_from_test (codes "sent") refl, (numeral_word sent, tt))))
delivery_words_are outcome.Old = (word_from_test (codes "old") refl, tt)
delivery_words_are outcome.Refused = (word_from_test (codes "refused") refl, tt)
delivery_words_are (outcome.Taken count) = (word_from_test (codes "taken") refl, (numeral_word count, tt))
delivery_words_are outcome.NotMine = (word_from_test (codes "notmine") refl, tt)
delivery_words_are outcome.NoSuchPacket = (word_from_test (codes "nosuchpacket") refl, tt)

pub sites_words_are : (a : SitesNote) → AllWords (sites_words a)
sites_words_are (note.Asked site packet) =
    (word_from_test (codes "ask") refl, (numeral_word site, (word_from_test (codes "sent") refl, (numeral_word packet, tt))))
sites_words_are (note.Delivered packet became) =
    (word_from_test (codes "deliver") refl, (numeral_word packet, delivery_words_are became))
sites_words_are (note.Number site n) =
    (word_from_test (codes "draw") refl, (numeral_word site, (word_from_test (codes "number") refl, (numeral_word n, tt))))
sites_words_are (note.Empty site) =
    (word_from_test (codes "draw") refl, (numeral_word site, (word_from_test (codes "empty") refl, tt)))
sites_words_are (note.Restarted site) = (word_from_test (codes "restart") refl, (numeral_word site, tt))
sites_words_are note.MasterRestarted = (word_from_test (codes "master") refl, tt)

-- a number for each outcome of a delivery, by its first word
abbrev outcome_of_word : List ℕ → ℕ
outcome_of_word word =
    if bytes_eq word (codes "granted") then 0
    else if bytes_eq word (codes "again") then 1
    else if bytes_eq word (codes "old") then 2
    else if bytes_eq word (codes "refused") then 3
    else if bytes_eq word (codes "taken") then 4
    else if bytes_eq word (codes "notmine") then 5 else 6

-- the same number, by the outcome
abbrev outcome_number : SitesOutcome → ℕ
outcome_number (outcome.Granted count sent) = 0
outcome_number (outcome.Again count sent) = 1
outcome_number outcome.Old = 2
outcome_number outcome.Refused = 3
outcome_number (outcome.Taken count) = 4
outcome_number outcome.NotMine = 5
outcome_number outcome.NoSuchPacket = 6

-- the first word says which outcome it is
outcome_is : (a : SitesOutcome) → outcome_number a ≡ outcome_of_word (word_at (delivery_words a) 0)
outcome_is (outcome.Granted count sent) = refl
outcome_is (outcome.Again count sent) = refl
outcome_is outcome.Old = refl
outcome_is outcome.Refused = refl
outcome_is (outcome.Taken count) = refl
outcome_is outcome.NotMine = refl
outcome_is outcome.NoSuchPacket = refl

-- an outcome is determined by its words
delivery_injective : (a b : SitesOutcome) → delivery_words a ≡ delivery_words b → a ≡ b
delivery_injective (outcome.Granted m p) (outcome.Granted n q) e =
    let count : m ≡ n = numeral_injective m n (ap (λ ws. word_at ws 1) e) in
    let sent : p ≡ q = numeral_injective p q (ap (λ ws. word_at ws 3) e) in (cc)
delivery_injective (outcome.Again m p) (outcome.Again n q) e =
    let count : m ≡ n = numeral_injective m n (ap (λ ws. word_at ws 1) e) in
    let sent : p ≡ q = numeral_injective p q (ap (λ ws. word_at ws 3) e) in (cc)
delivery_injective outcome.Old outcome.Old e = refl
delivery_injective outcome.Refused outcome.Refused e = refl
delivery_injective (outcome.Taken m) (outcome.Taken n) e =
    let count : m ≡ n = numeral_injective m n (ap (λ ws. word_at ws 1) e) in (cc)
delivery_injective outcome.NotMine outcome.NotMine e = refl
delivery_injective outcome.NoSuchPacket outcome.NoSuchPacket e = refl
delivery_injective a b e =
    let kinds : outcome_number a ≡ outcome_number b = outcome_is a ∙ ap (λ ws. outcome_of_word (word_at ws 0)) e ∙ sym (outcome_is b) in
    absurd (omega arith)

-- a number for each kind of event, by its first word and its third
abbrev note_of_words : List (List ℕ) → ℕ
note_of_words words =
    if bytes_eq (word_at words 0) (codes "ask") then 0
    else if bytes_eq (word_at words 0) (codes "deliver") then 1
    else if bytes_eq (word_at words 0) (codes "draw") then (if bytes_eq (word_at words 2) (codes "number") then 2 else 3)
    else if bytes_eq (word_at words 0) (codes "restart") then 4 else 5

-- the same number, by the event
abbrev note_number : SitesNote → ℕ
note_number (note.Asked site packet) = 0
note_number (note.Delivered packet became) = 1
note_number (note.Number site n) = 2
note_number (note.Empty site) = 3
note_number (note.Restarted site) = 4
note_number note.MasterRestarted = 5

-- the words say which kind it is
note_is : (a : SitesNote) → note_number a ≡ note_of_words (sites_words a)
note_is (note.Asked site packet) = refl
note_is (note.Delivered packet became) = refl
note_is (note.Number site n) = refl
note_is (note.Empty site) = refl
note_is (note.Restarted site) = refl
note_is note.MasterRestarted = refl

-- what happened is determined by its words
pub sites_injective : (a b : SitesNote) → sites_words a ≡ sites_words b → a ≡ b
sites_injective (note.Asked s p) (note.Asked t q) e =
    let site : s ≡ t = numeral_injective s t (ap (λ ws. word_at ws 1) e) in
    let packet : p ≡ q = numeral_injective p q (ap (λ ws. word_at ws 3) e) in (cc)
sites_injective (note.Delivered p a) (note.Delivered q b) e =
    let packet : p ≡ q = numeral_injective p q (ap (λ ws. word_at ws 1) e) in
    let became : a ≡ b = delivery_injective a b (ap (λ ws. drop 2 ws) e) in (cc)
sites_injective (note.Number s m) (note.Number t n) e =
    let site : s ≡ t = numeral_injective s t (ap (λ ws. word_at ws 1) e) in
    let number : m ≡ n = numeral_injective m n (ap (λ ws. word_at ws 3) e) in (cc)
sites_injective (note.Empty s) (note.Empty t) e =
    let site : s ≡ t = numeral_injective s t (ap (λ ws. word_at ws 1) e) in (cc)
sites_injective (note.Restarted s) (note.Restarted t) e =
    let site : s ≡ t = numeral_injective s t (ap (λ ws. word_at ws 1) e) in (cc)
sites_injective note.MasterRestarted note.MasterRestarted e = refl
sites_injective a b e =
    let kinds : note_number a ≡ note_number b = note_is a ∙ ap note_of_words e ∙ sym (note_is b) in
    absurd (omega arith)
