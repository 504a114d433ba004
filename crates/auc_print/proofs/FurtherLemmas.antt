-- The words of a line on what follows from a vector, for sites, or for a session of EAP-SIM determine what is told of it, for the lemmas on lines.
use Rattle.std.proofs.Common.{ℕ, ◌≡◌, ◌∙◌, refl, sym, ap, List, drop, length, if◌then◌else◌, codes, bytes_eq, arith}
use Rattle.auc_memory.specs.Identity.{Identity}
use Rattle.auc_record.specs.Record.{IsBelow, further_subscriber}
use Rattle.auc_record.specs.Told.{told_further, told_note_of_sim, told_outcome_of_5g}
use Rattle.auc_record.specs.declared.further.FivegOutcome.{FivegOutcome}
use Rattle.auc_record.specs.declared.further.FivegOutcome.TheVariants.{NoSeparation, ServingRefused, HomeRefused, Confirmed}
use Rattle.auc_record.specs.declared.further.Further.{Further}
use Rattle.auc_record.specs.declared.further.Further.TheVariants.{Kasme, HxresStar, Fiveg, Sites, Sim}
use Rattle.auc_print.specs.OneText.{AreIdentities, FurtherFits}
use Rattle.auc_print.specs.Text.{fiveg_word, further_words}
use Rattle.auc_print.proofs.EventLemmas.{word_at}
use Rattle.auc_print.proofs.HexLemmas.{hex_injective}
use Rattle.auc_print.proofs.ImsiLemmas.{imsi_injective, imsi_word}
use Rattle.auc_print.proofs.SimLemmas.{sim_injective, sim_words_are}
use Rattle.auc_print.proofs.SitesLemmas.{sites_injective, sites_words_are}
use Rattle.auc_print.proofs.SpacedLemmas.{IsWord, AreWords, hex_word, word_from_test}

-- the words are words
fiveg_word_is : (outcome : FivegOutcome) → IsWord (fiveg_word outcome)
fiveg_word_is NoSeparation = word_from_test (codes "noseparation") refl
fiveg_word_is ServingRefused = word_from_test (codes "servingrefused") refl
fiveg_word_is HomeRefused = word_from_test (codes "homerefused") refl
fiveg_word_is (Confirmed home device) = word_from_test (codes "confirmed") refl

pub further_words_are : (identities : List Identity) (said : Further) → AreWords (further_words identities said)
further_words_are identities (Kasme key) = (word_from_test (codes "kasme") refl, (hex_word key, tt))
further_words_are identities (HxresStar half) = (word_from_test (codes "hxresstar") refl, (hex_word half, tt))
further_words_are identities (Fiveg sub outcome) =
    (word_from_test (codes "fiveg") refl, (imsi_word identities sub, (fiveg_word_is outcome, tt)))
further_words_are identities (Sites sub note) =
    (word_from_test (codes "sites") refl, (imsi_word identities sub, sites_words_are note))
further_words_are identities (Sim sub note) =
    (word_from_test (codes "sim") refl, (imsi_word identities sub, sim_words_are note))

-- a number for each outcome of a 5G authentication, by its word
abbrev outcome_of_word : List ℕ → ℕ
outcome_of_word word =
    if bytes_eq word (codes "noseparation") then 0
    else if bytes_eq word (codes "servingrefused") then 1
    else if bytes_eq word (codes "homerefused") then 2 else 3

-- the same number, by the outcome
abbrev outcome_number : FivegOutcome → ℕ
outcome_number NoSeparation = 0
outcome_number ServingRefused = 1
outcome_number HomeRefused = 2
outcome_number (Confirmed home device) = 3

-- the word says which outcome it is
outcome_is : (outcome : FivegOutcome) → outcome_number outcome ≡ outcome_of_word (fiveg_word outcome)
outcome_is NoSeparation = refl
outcome_is ServingRefused = refl
outcome_is HomeRefused = refl
outcome_is (Confirmed home device) = refl

-- what is told of an outcome is determined by its word; the keys of both ends aren't told
outcome_injective : (a b : FivegOutcome) → fiveg_word a ≡ fiveg_word b → told_outcome_of_5g a ≡ told_outcome_of_5g b
outcome_injective NoSeparation NoSeparation e = refl
outcome_injective ServingRefused ServingRefused e = refl
outcome_injective HomeRefused HomeRefused e = refl
outcome_injective (Confirmed h d) (Confirmed i f) e = refl
outcome_injective a b e =
    let kinds : outcome_number a ≡ outcome_number b = outcome_is a ∙ ap outcome_of_word e ∙ sym (outcome_is b) in
    absurd (omega arith)

-- a number for each kind of what follows from a vector, by its first word
abbrev further_of_word : List ℕ → ℕ
further_of_word word =
    if bytes_eq word (codes "kasme") then 0
    else if bytes_eq word (codes "hxresstar") then 1
    else if bytes_eq word (codes "fiveg") then 2
    else if bytes_eq word (codes "sites") then 3 else 4

-- the same number, by what follows
abbrev further_number : Further → ℕ
further_number (Kasme key) = 0
further_number (HxresStar half) = 1
further_number (Fiveg sub outcome) = 2
further_number (Sites sub note) = 3
further_number (Sim sub note) = 4

-- the first word says which kind it is
further_is : (identities : List Identity) (said : Further) → further_number said ≡ further_of_word (word_at (further_words identities said) 0)
further_is identities (Kasme key) = refl
further_is identities (HxresStar half) = refl
further_is identities (Fiveg sub outcome) = refl
further_is identities (Sites sub note) = refl
further_is identities (Sim sub note) = refl

-- what is told of it is determined by its words
pub further_injective : (identities : List Identity) (a b : Further) → AreIdentities identities → IsBelow (length identities) (further_subscriber a)
    → FurtherFits a → further_words identities a ≡ further_words identities b → told_further a ≡ told_further b
further_injective identities (Kasme a) (Kasme b) are below fits e = ap Kasme (hex_injective a b fits (ap (λ ws. word_at ws 1) e))
further_injective identities (HxresStar a) (HxresStar b) are below fits e = ap HxresStar (hex_injective a b fits (ap (λ ws. word_at ws 1) e))
further_injective identities (Fiveg s a) (Fiveg t b) are below fits e =
    let sub : s ≡ t = imsi_injective identities s t are below (ap (λ ws. word_at ws 1) e) in
    let outcome : told_outcome_of_5g a ≡ told_outcome_of_5g b = outcome_injective a b (ap (λ ws. word_at ws 2) e) in (cc)
further_injective identities (Sites s a) (Sites t b) are below fits e =
    let sub : s ≡ t = imsi_injective identities s t are below (ap (λ ws. word_at ws 1) e) in
    let note : a ≡ b = sites_injective a b (ap (λ ws. drop 2 ws) e) in (cc)
further_injective identities (Sim s a) (Sim t b) are below fits e =
    let sub : s ≡ t = imsi_injective identities s t are below (ap (λ ws. word_at ws 1) e) in
    let note : told_note_of_sim a ≡ told_note_of_sim b = sim_injective a b (ap (λ ws. drop 2 ws) e) in (cc)
further_injective identities a b are below fits e =
    let kinds : further_number a ≡ further_number b
    = further_is identities a ∙ ap (λ ws. further_of_word (word_at ws 0)) e ∙ sym (further_is identities b) in
    absurd (omega arith)
