-- The words of an event's line determine what is told of the event: each piece is cut off at its first word.
use Rattle.std.proofs.Common.{ℕ, ◌<◌, ◌≤◌, ◌≡◌, ◌∙◌, refl, sym, ap, subst, Bool, true, false, ◌==◌, min, List, [], ◌∷◌, ◌++◌, get_or, drop, append_assoc, if◌then◌else◌, codes, bytes_eq, Option, Some, None, Result, Ok, Err, arith}
use Rattle.auc_memory.specs.declared.stop.Stop.{Stop}
use Rattle.auc_memory.specs.declared.stop.Stop.TheVariants.{Fault, Full}
use Rattle.auc_lines.specs.declared.part.End.{End}
use Rattle.auc_lines.specs.declared.part.End.TheVariants as end
use Rattle.auc_vector.specs.declared.why.PeerWhy.{PeerWhy}
use Rattle.auc_vector.specs.declared.why.PeerWhy.TheVariants as peer_why
use Rattle.auc_vector.specs.declared.why.ServerWhy.{ServerWhy}
use Rattle.auc_vector.specs.declared.why.ServerWhy.TheVariants as server_why
use Rattle.auc_vector.specs.declared.notes.CounterNote.{CounterNote}
use Rattle.auc_vector.specs.declared.notes.CounterNote.TheVariants as counter
use Rattle.auc_vector.specs.declared.notes.Notes.{Notes}
use Rattle.auc_vector.specs.declared.notes.NumberNote.{NumberNote}
use Rattle.auc_vector.specs.declared.notes.NumberNote.TheVariants as number
use Rattle.auc_vector.specs.declared.notes.ResyncNote.{ResyncNote}
use Rattle.auc_vector.specs.declared.notes.ResyncNote.TheVariants as resync
use Rattle.auc_vector.specs.declared.notes.UsimNote.{UsimNote}
use Rattle.auc_vector.specs.declared.notes.UsimNote.TheVariants as usim
use Rattle.auc_vector.specs.declared.turn.Outcome.{Outcome}
use Rattle.auc_vector.specs.declared.turn.Outcome.TheVariants as outcome
use Rattle.auc_vector.specs.declared.turn.Reason.{Reason}
use Rattle.auc_vector.specs.declared.turn.Reason.TheVariants as reason
use Rattle.auc_vector.specs.declared.turn.Step.{Step}
use Rattle.auc_vector.specs.declared.turn.Step.TheVariants as step
use Rattle.auc_record.specs.Told.{told_came, told_event, told_opening, told_outcome, told_record, told_step, told_what}
use Rattle.auc_record.specs.declared.event.Event.{Event}
use Rattle.auc_record.specs.declared.event.Event.TheVariants as event
use Rattle.auc_record.specs.declared.event.EventRecord.{EventRecord}
use Rattle.auc_record.specs.declared.event.Note.{Note}
use Rattle.auc_record.specs.declared.event.NoteStep.{NoteStep}
use Rattle.auc_record.specs.declared.event.NoteStep.TheVariants as did
use Rattle.auc_record.specs.declared.event.WorldRefusal.{WorldRefusal}
use Rattle.auc_record.specs.declared.event.WorldRefusal.TheVariants as refused
use Rattle.auc_print.specs.EventText.{agree_word, came_words, counter_words, end_word, event_words, notes_words, number_words, outcome_words, peer_words, reason_word, refusal_words, resumed_words, resync_words, sent_words, server_words, step_words, stop_word, usim_words, what_words}
use Rattle.auc_record.specs.Ends.{CameAt, IsStepAt, end_of}
use Rattle.auc_print.specs.OneText.{CameFits, EventFits, UsimFits}
use Rattle.auc_print.proofs.HexLemmas.{hex_injective}
use Rattle.auc_print.proofs.NumeralLemmas.{numeral_injective}

-- the word at a place
abbrev pub word_at : List (List ℕ) → ℕ → List ℕ
word_at words i = get_or words i []

-- ---- a number for each first word of a note or of a step, in their order

abbrev mark_of_word : List ℕ → ℕ
mark_of_word word =
    if bytes_eq word (codes "moved") then 0
    else if bytes_eq word (codes "inrange") then 1
    else if bytes_eq word (codes "beyond") then 2
    else if bytes_eq word (codes "badauts") then 3
    else if bytes_eq word (codes "drew") then 4
    else if bytes_eq word (codes "exhausted") then 5
    else if bytes_eq word (codes "withheld") then 6
    else if bytes_eq word (codes "resumed") then 7
    else if bytes_eq word (codes "accepted") then 8
    else if bytes_eq word (codes "sync") then 9
    else if bytes_eq word (codes "wrongmac") then 10
    else if bytes_eq word (codes "counter") then 11
    else if bytes_eq word (codes "small") then 12
    else if bytes_eq word (codes "sent") then 13
    else if bytes_eq word (codes "made") then 13
    else if bytes_eq word (codes "open") then 14
    else if bytes_eq word (codes "ended") then 15
    else if bytes_eq word (codes "ignored") then 16
    else if bytes_eq word (codes "nosuchpacket") then 17
    else if bytes_eq word (codes "nosuchend") then 18
    else if bytes_eq word (codes "started") then 19
    else if bytes_eq word (codes "nosuchplace") then 20 else 21

abbrev pub mark : List (List ℕ) → ℕ
mark [] = 21
mark (word ∷ words) = mark_of_word word

-- ---- words

-- a stop is determined by its word
pub stop_injective : (a b : Stop) → stop_word a ≡ stop_word b → a ≡ b
stop_injective Fault Fault e = refl
stop_injective Fault Full e = let second : get_or (stop_word Fault) 1 0 ≡ get_or (stop_word Full) 1 0 = ap (λ w. get_or w 1 0) e in absurd (omega arith)
stop_injective Full Fault e = let second : get_or (stop_word Full) 1 0 ≡ get_or (stop_word Fault) 1 0 = ap (λ w. get_or w 1 0) e in absurd (omega arith)
stop_injective Full Full e = refl

-- so is an end
pub end_injective : (a b : End) → end_word a ≡ end_word b → a ≡ b
end_injective end.Server end.Server e = refl
end_injective end.Server end.Peer e = let first : get_or (end_word end.Server) 0 0 ≡ get_or (end_word end.Peer) 0 0 = ap (λ w. get_or w 0 0) e in absurd (omega arith)
end_injective end.Peer end.Server e = let first : get_or (end_word end.Peer) 0 0 ≡ get_or (end_word end.Server) 0 0 = ap (λ w. get_or w 0 0) e in absurd (omega arith)
end_injective end.Peer end.Peer e = refl

-- and whether keys are equal
pub agree_injective : (a b : Bool) → agree_word a ≡ agree_word b → a ≡ b
agree_injective true true e = refl
agree_injective true false e = let first : get_or (agree_word true) 0 0 ≡ get_or (agree_word false) 0 0 = ap (λ w. get_or w 0 0) e in absurd (omega arith)
agree_injective false true e = let first : get_or (agree_word false) 0 0 ≡ get_or (agree_word true) 0 0 = ap (λ w. get_or w 0 0) e in absurd (omega arith)
agree_injective false false e = refl

-- ---- the notes, each with its bound: what comes after it has a number that is at least this

-- what the centre made of an AUTS
abbrev resync_rank : Option ResyncNote → ℕ
resync_rank None = 4
resync_rank (Some (resync.Moved a0 a1)) = 0
resync_rank (Some (resync.InRange a0 a1)) = 1
resync_rank (Some (resync.Beyond a0 a1)) = 2
resync_rank (Some resync.BadAuts) = 3

resync_mark : (a : Option ResyncNote) (r : List (List ℕ)) → 4 ≤ mark r → min 4 (mark (resync_words a ++ r)) ≡ resync_rank a
resync_mark None r later = omega arith
resync_mark (Some (resync.Moved a0 a1)) r later = refl
resync_mark (Some (resync.InRange a0 a1)) r later = refl
resync_mark (Some (resync.Beyond a0 a1)) r later = refl
resync_mark (Some resync.BadAuts) r later = refl

resync_begins : (a : Option ResyncNote) (r : List (List ℕ)) → 4 ≤ mark r → 0 ≤ mark (resync_words a ++ r)
resync_begins None r later = omega (arith, later)
resync_begins (Some (resync.Moved a0 a1)) r later = omega arith
resync_begins (Some (resync.InRange a0 a1)) r later = omega arith
resync_begins (Some (resync.Beyond a0 a1)) r later = omega arith
resync_begins (Some resync.BadAuts) r later = omega arith

resync_low : (a : ResyncNote) → resync_rank (Some a) < 4
resync_low (resync.Moved a0 a1) = omega arith
resync_low (resync.InRange a0 a1) = omega arith
resync_low (resync.Beyond a0 a1) = omega arith
resync_low resync.BadAuts = omega arith

pub resync_same : (a b : ResyncNote) (r s : List (List ℕ)) → 4 ≤ mark r → 4 ≤ mark s → resync_words (Some a) ++ r ≡ resync_words (Some b) ++ s → (Some a ≡ Some b) × (r ≡ s)
resync_same (resync.Moved a0 a1) (resync.Moved b0 b1) r s p q e =
    let v0 : a0 ≡ b0 = numeral_injective a0 b0 (ap (λ ws. word_at ws 1) e) in
    let v1 : a1 ≡ b1 = numeral_injective a1 b1 (ap (λ ws. word_at ws 2) e) in
    let rest : r ≡ s = ap (λ ws. drop 3 ws) e in ((cc), rest)
resync_same (resync.InRange a0 a1) (resync.InRange b0 b1) r s p q e =
    let v0 : a0 ≡ b0 = numeral_injective a0 b0 (ap (λ ws. word_at ws 1) e) in
    let v1 : a1 ≡ b1 = numeral_injective a1 b1 (ap (λ ws. word_at ws 2) e) in
    let rest : r ≡ s = ap (λ ws. drop 3 ws) e in ((cc), rest)
resync_same (resync.Beyond a0 a1) (resync.Beyond b0 b1) r s p q e =
    let v0 : a0 ≡ b0 = numeral_injective a0 b0 (ap (λ ws. word_at ws 1) e) in
    let v1 : a1 ≡ b1 = numeral_injective a1 b1 (ap (λ ws. word_at ws 2) e) in
    let rest : r ≡ s = ap (λ ws. drop 3 ws) e in ((cc), rest)
resync_same resync.BadAuts resync.BadAuts r s p q e =
    let rest : r ≡ s = ap (λ ws. drop 1 ws) e in ((cc), rest)
resync_same a b r s p q e =
    let kinds : resync_rank (Some a) ≡ resync_rank (Some b) = sym (resync_mark (Some a) r p) ∙ ap (λ ws. min 4 (mark ws)) e ∙ resync_mark (Some b) s q in absurd (omega arith)

resync_cut : (a b : Option ResyncNote) (r s : List (List ℕ)) → 4 ≤ mark r → 4 ≤ mark s → resync_words a ++ r ≡ resync_words b ++ s → (a ≡ b) × (r ≡ s)
resync_cut None None r s p q e = (refl, e)
resync_cut None (Some b) r s p q e =
    let low = resync_low b in
    let kinds : resync_rank None ≡ resync_rank (Some b) = sym (resync_mark None r p) ∙ ap (λ ws. min 4 (mark ws)) e ∙ resync_mark (Some b) s q in absurd (omega (arith, low, kinds))
resync_cut (Some a) None r s p q e =
    let low = resync_low a in
    let kinds : resync_rank (Some a) ≡ resync_rank None = sym (resync_mark (Some a) r p) ∙ ap (λ ws. min 4 (mark ws)) e ∙ resync_mark None s q in absurd (omega (arith, low, kinds))
resync_cut (Some a) (Some b) r s p q e = resync_same a b r s p q e

-- what it answered to a draw
abbrev number_rank : Option NumberNote → ℕ
number_rank None = 7
number_rank (Some (number.Drew a0)) = 4
number_rank (Some (number.Exhausted a0)) = 5
number_rank (Some (number.Withheld a0 a1)) = 6

number_mark : (a : Option NumberNote) (r : List (List ℕ)) → 7 ≤ mark r → min 7 (mark (number_words a ++ r)) ≡ number_rank a
number_mark None r later = omega arith
number_mark (Some (number.Drew a0)) r later = refl
number_mark (Some (number.Exhausted a0)) r later = refl
number_mark (Some (number.Withheld a0 a1)) r later = refl

number_begins : (a : Option NumberNote) (r : List (List ℕ)) → 7 ≤ mark r → 4 ≤ mark (number_words a ++ r)
number_begins None r later = omega (arith, later)
number_begins (Some (number.Drew a0)) r later = omega arith
number_begins (Some (number.Exhausted a0)) r later = omega arith
number_begins (Some (number.Withheld a0 a1)) r later = omega arith

number_low : (a : NumberNote) → number_rank (Some a) < 7
number_low (number.Drew a0) = omega arith
number_low (number.Exhausted a0) = omega arith
number_low (number.Withheld a0 a1) = omega arith

number_same : (a b : NumberNote) (r s : List (List ℕ)) → 7 ≤ mark r → 7 ≤ mark s → number_words (Some a) ++ r ≡ number_words (Some b) ++ s → (Some a ≡ Some b) × (r ≡ s)
number_same (number.Drew a0) (number.Drew b0) r s p q e =
    let v0 : a0 ≡ b0 = numeral_injective a0 b0 (ap (λ ws. word_at ws 1) e) in
    let rest : r ≡ s = ap (λ ws. drop 2 ws) e in ((cc), rest)
number_same (number.Exhausted a0) (number.Exhausted b0) r s p q e =
    let v0 : a0 ≡ b0 = numeral_injective a0 b0 (ap (λ ws. word_at ws 1) e) in
    let rest : r ≡ s = ap (λ ws. drop 2 ws) e in ((cc), rest)
number_same (number.Withheld a0 a1) (number.Withheld b0 b1) r s p q e =
    let v0 : a0 ≡ b0 = numeral_injective a0 b0 (ap (λ ws. word_at ws 1) e) in
    let v1 : a1 ≡ b1 = stop_injective a1 b1 (ap (λ ws. word_at ws 2) e) in
    let rest : r ≡ s = ap (λ ws. drop 3 ws) e in ((cc), rest)
number_same a b r s p q e =
    let kinds : number_rank (Some a) ≡ number_rank (Some b) = sym (number_mark (Some a) r p) ∙ ap (λ ws. min 7 (mark ws)) e ∙ number_mark (Some b) s q in absurd (omega arith)

number_cut : (a b : Option NumberNote) (r s : List (List ℕ)) → 7 ≤ mark r → 7 ≤ mark s → number_words a ++ r ≡ number_words b ++ s → (a ≡ b) × (r ≡ s)
number_cut None None r s p q e = (refl, e)
number_cut None (Some b) r s p q e =
    let low = number_low b in
    let kinds : number_rank None ≡ number_rank (Some b) = sym (number_mark None r p) ∙ ap (λ ws. min 7 (mark ws)) e ∙ number_mark (Some b) s q in absurd (omega (arith, low, kinds))
number_cut (Some a) None r s p q e =
    let low = number_low a in
    let kinds : number_rank (Some a) ≡ number_rank None = sym (number_mark (Some a) r p) ∙ ap (λ ws. min 7 (mark ws)) e ∙ number_mark None s q in absurd (omega (arith, low, kinds))
number_cut (Some a) (Some b) r s p q e = number_same a b r s p q e

-- the counter of a context
abbrev resumed_rank : Option ℕ → ℕ
resumed_rank None = 8
resumed_rank (Some a0) = 7

resumed_mark : (a : Option ℕ) (r : List (List ℕ)) → 8 ≤ mark r → min 8 (mark (resumed_words a ++ r)) ≡ resumed_rank a
resumed_mark None r later = omega arith
resumed_mark (Some a0) r later = refl

resumed_begins : (a : Option ℕ) (r : List (List ℕ)) → 8 ≤ mark r → 7 ≤ mark (resumed_words a ++ r)
resumed_begins None r later = omega (arith, later)
resumed_begins (Some a0) r later = omega arith

resumed_cut : (a b : Option ℕ) (r s : List (List ℕ)) → 8 ≤ mark r → 8 ≤ mark s → resumed_words a ++ r ≡ resumed_words b ++ s → (a ≡ b) × (r ≡ s)
resumed_cut None None r s p q e = (refl, e)
resumed_cut (Some a0) (Some b0) r s p q e =
    let v0 : a0 ≡ b0 = numeral_injective a0 b0 (ap (λ ws. word_at ws 1) e) in
    let rest : r ≡ s = ap (λ ws. drop 2 ws) e in ((cc), rest)
resumed_cut a b r s p q e =
    let kinds : resumed_rank a ≡ resumed_rank b = sym (resumed_mark a r p) ∙ ap (λ ws. min 8 (mark ws)) e ∙ resumed_mark b s q in absurd (omega arith)

-- what the USIM answered
abbrev usim_rank : Option UsimNote → ℕ
usim_rank None = 11
usim_rank (Some (usim.Accepted a0)) = 8
usim_rank (Some (usim.Sync a0)) = 9
usim_rank (Some usim.WrongMac) = 10

usim_mark : (a : Option UsimNote) (r : List (List ℕ)) → 11 ≤ mark r → min 11 (mark (usim_words a ++ r)) ≡ usim_rank a
usim_mark None r later = omega arith
usim_mark (Some (usim.Accepted a0)) r later = refl
usim_mark (Some (usim.Sync a0)) r later = refl
usim_mark (Some usim.WrongMac) r later = refl

usim_begins : (a : Option UsimNote) (r : List (List ℕ)) → 11 ≤ mark r → 8 ≤ mark (usim_words a ++ r)
usim_begins None r later = omega (arith, later)
usim_begins (Some (usim.Accepted a0)) r later = omega arith
usim_begins (Some (usim.Sync a0)) r later = omega arith
usim_begins (Some usim.WrongMac) r later = omega arith

usim_low : (a : UsimNote) → usim_rank (Some a) < 11
usim_low (usim.Accepted a0) = omega arith
usim_low (usim.Sync a0) = omega arith
usim_low usim.WrongMac = omega arith

usim_same : (a b : UsimNote) (r s : List (List ℕ)) → UsimFits (Some a) → 11 ≤ mark r → 11 ≤ mark s → usim_words (Some a) ++ r ≡ usim_words (Some b) ++ s → (Some a ≡ Some b) × (r ≡ s)
usim_same (usim.Accepted a0) (usim.Accepted b0) r s fits p q e =
    let v0 : a0 ≡ b0 = hex_injective a0 b0 fits (ap (λ ws. word_at ws 1) e) in
    let rest : r ≡ s = ap (λ ws. drop 2 ws) e in ((cc), rest)
usim_same (usim.Sync a0) (usim.Sync b0) r s fits p q e =
    let v0 : a0 ≡ b0 = hex_injective a0 b0 fits (ap (λ ws. word_at ws 1) e) in
    let rest : r ≡ s = ap (λ ws. drop 2 ws) e in ((cc), rest)
usim_same usim.WrongMac usim.WrongMac r s fits p q e =
    let rest : r ≡ s = ap (λ ws. drop 1 ws) e in ((cc), rest)
usim_same a b r s fits p q e =
    let kinds : usim_rank (Some a) ≡ usim_rank (Some b) = sym (usim_mark (Some a) r p) ∙ ap (λ ws. min 11 (mark ws)) e ∙ usim_mark (Some b) s q in absurd (omega arith)

usim_cut : (a b : Option UsimNote) (r s : List (List ℕ)) → UsimFits a → 11 ≤ mark r → 11 ≤ mark s → usim_words a ++ r ≡ usim_words b ++ s → (a ≡ b) × (r ≡ s)
usim_cut None None r s fits p q e = (refl, e)
usim_cut None (Some b) r s fits p q e =
    let low = usim_low b in
    let kinds : usim_rank None ≡ usim_rank (Some b) = sym (usim_mark None r p) ∙ ap (λ ws. min 11 (mark ws)) e ∙ usim_mark (Some b) s q in absurd (omega (arith, low, kinds))
usim_cut (Some a) None r s fits p q e =
    let low = usim_low a in
    let kinds : usim_rank (Some a) ≡ usim_rank None = sym (usim_mark (Some a) r p) ∙ ap (λ ws. min 11 (mark ws)) e ∙ usim_mark None s q in absurd (omega (arith, low, kinds))
usim_cut (Some a) (Some b) r s fits p q e = usim_same a b r s fits p q e

-- what became of a counter
abbrev counter_rank : Option CounterNote → ℕ
counter_rank None = 13
counter_rank (Some (counter.Taken a0)) = 11
counter_rank (Some (counter.Small a0)) = 12

counter_mark : (a : Option CounterNote) (r : List (List ℕ)) → 13 ≤ mark r → min 13 (mark (counter_words a ++ r)) ≡ counter_rank a
counter_mark None r later = omega arith
counter_mark (Some (counter.Taken a0)) r later = refl
counter_mark (Some (counter.Small a0)) r later = refl

counter_begins : (a : Option CounterNote) (r : List (List ℕ)) → 13 ≤ mark r → 11 ≤ mark (counter_words a ++ r)
counter_begins None r later = omega (arith, later)
counter_begins (Some (counter.Taken a0)) r later = omega arith
counter_begins (Some (counter.Small a0)) r later = omega arith

counter_low : (a : CounterNote) → counter_rank (Some a) < 13
counter_low (counter.Taken a0) = omega arith
counter_low (counter.Small a0) = omega arith

counter_same : (a b : CounterNote) (r s : List (List ℕ)) → 13 ≤ mark r → 13 ≤ mark s → counter_words (Some a) ++ r ≡ counter_words (Some b) ++ s → (Some a ≡ Some b) × (r ≡ s)
counter_same (counter.Taken a0) (counter.Taken b0) r s p q e =
    let v0 : a0 ≡ b0 = numeral_injective a0 b0 (ap (λ ws. word_at ws 1) e) in
    let rest : r ≡ s = ap (λ ws. drop 2 ws) e in ((cc), rest)
counter_same (counter.Small a0) (counter.Small b0) r s p q e =
    let v0 : a0 ≡ b0 = numeral_injective a0 b0 (ap (λ ws. word_at ws 1) e) in
    let rest : r ≡ s = ap (λ ws. drop 2 ws) e in ((cc), rest)
counter_same a b r s p q e =
    let kinds : counter_rank (Some a) ≡ counter_rank (Some b) = sym (counter_mark (Some a) r p) ∙ ap (λ ws. min 13 (mark ws)) e ∙ counter_mark (Some b) s q in absurd (omega arith)

counter_cut : (a b : Option CounterNote) (r s : List (List ℕ)) → 13 ≤ mark r → 13 ≤ mark s → counter_words a ++ r ≡ counter_words b ++ s → (a ≡ b) × (r ≡ s)
counter_cut None None r s p q e = (refl, e)
counter_cut None (Some b) r s p q e =
    let low = counter_low b in
    let kinds : counter_rank None ≡ counter_rank (Some b) = sym (counter_mark None r p) ∙ ap (λ ws. min 13 (mark ws)) e ∙ counter_mark (Some b) s q in absurd (omega (arith, low, kinds))
counter_cut (Some a) None r s p q e =
    let low = counter_low a in
    let kinds : counter_rank (Some a) ≡ counter_rank None = sym (counter_mark (Some a) r p) ∙ ap (λ ws. min 13 (mark ws)) e ∙ counter_mark None s q in absurd (omega (arith, low, kinds))
counter_cut (Some a) (Some b) r s p q e = counter_same a b r s p q e

-- the packet that was sent or made
abbrev sent_rank : Option ℕ → ℕ
sent_rank None = 14
sent_rank (Some a0) = 13

sent_mark : (d : NoteStep) (a : Option ℕ) (r : List (List ℕ)) → 14 ≤ mark r → min 14 (mark (sent_words d a ++ r)) ≡ sent_rank a
sent_mark d None r later = omega arith
sent_mark did.Opened (Some a0) r later = refl
sent_mark (did.Server what) (Some a0) r later = refl
sent_mark (did.Peer what) (Some a0) r later = refl
sent_mark (did.Made bytes) (Some a0) r later = refl

sent_begins : (d : NoteStep) (a : Option ℕ) (r : List (List ℕ)) → 14 ≤ mark r → 13 ≤ mark (sent_words d a ++ r)
sent_begins d a r later = let rank = sent_mark d a r later in let low = sent_low a in omega (arith, rank, low)
  where
    sent_low : (b : Option ℕ) → 13 ≤ sent_rank b
    sent_low None = omega arith
    sent_low (Some b0) = omega arith

sent_cut : (d f : NoteStep) (a b : Option ℕ) (r s : List (List ℕ)) → 14 ≤ mark r → 14 ≤ mark s → sent_words d a ++ r ≡ sent_words f b ++ s
    → (a ≡ b) × (r ≡ s)
sent_cut d f None None r s p q e = (refl, e)
sent_cut d f (Some a0) (Some b0) r s p q e =
    let v0 : a0 ≡ b0 = numeral_injective a0 b0 (ap (λ ws. word_at ws 1) e) in
    let rest : r ≡ s = ap (λ ws. drop 2 ws) e in ((cc), rest)
sent_cut d f a b r s p q e =
    let kinds : sent_rank a ≡ sent_rank b = sym (sent_mark d a r p) ∙ ap (λ ws. min 14 (mark ws)) e ∙ sent_mark f b s q in absurd (omega arith)

-- ---- all notes

abbrev notes_before : Notes → List (List ℕ) → List (List ℕ)
notes_before notes r =
    resync_words notes.resync ++ (number_words notes.number ++ (resumed_words notes.resumed ++ (usim_words notes.usim ++ (counter_words notes.counter ++ r))))

pub notes_flat : (notes : Notes) (r : List (List ℕ)) → notes_words notes ++ r ≡ notes_before notes r
notes_flat notes r =
    let a = resync_words notes.resync in
    let b = number_words notes.number in
    let c = resumed_words notes.resumed in
    let d = usim_words notes.usim in
    let e = counter_words notes.counter in
    append_assoc a (b ++ (c ++ (d ++ e))) r ∙ ap (λ t. a ++ t)
    (append_assoc b (c ++ (d ++ e)) r ∙ ap (λ t. b ++ t) (append_assoc c (d ++ e) r ∙ ap (λ t. c ++ t) (append_assoc d e r)))

notes_are : (m n : Notes) → m.resync ≡ n.resync → m.number ≡ n.number → m.resumed ≡ n.resumed → m.usim ≡ n.usim → m.counter ≡ n.counter → m ≡ n
notes_are m n a b c d e =
    let make : Option ResyncNote → Option NumberNote → Option ℕ → Option UsimNote → Option CounterNote → Notes
    = λ v w x y z. record { resync = v; number = w; resumed = x; usim = y; counter = z } in
    ap (λ v. make v m.number m.resumed m.usim m.counter) a ∙ ap (λ w. make n.resync w m.resumed m.usim m.counter) b
    ∙ ap (λ x. make n.resync n.number x m.usim m.counter) c ∙ ap (λ y. make n.resync n.number n.resumed y m.counter) d
    ∙ ap (λ z. make n.resync n.number n.resumed n.usim z) e

notes_cut : (m n : Notes) (r s : List (List ℕ)) → UsimFits m.usim → 13 ≤ mark r → 13 ≤ mark s → notes_words m ++ r ≡ notes_words n ++ s → (m ≡ n) × (r ≡ s)
notes_cut m n r s fits p q e =
    let counters_p = counter_begins m.counter r p in
    let counters_q = counter_begins n.counter s q in
    let usims_p = usim_begins m.usim _ counters_p in
    let usims_q = usim_begins n.usim _ counters_q in
    let resumed_p = resumed_begins m.resumed _ usims_p in
    let resumed_q = resumed_begins n.resumed _ usims_q in
    let numbers_p = number_begins m.number _ resumed_p in
    let numbers_q = number_begins n.number _ resumed_q in
    let first = resync_cut m.resync n.resync _ _ numbers_p numbers_q (sym (notes_flat m r) ∙ e ∙ notes_flat n s) in
    let second = number_cut m.number n.number _ _ resumed_p resumed_q first.1 in
    let third = resumed_cut m.resumed n.resumed _ _ usims_p usims_q second.1 in
    let fourth = usim_cut m.usim n.usim _ _ fits counters_p counters_q third.1 in
    let fifth = counter_cut m.counter n.counter r s p q fourth.1 in
    (notes_are m n first.0 second.0 third.0 fourth.0 fifth.0, fifth.1)

-- ---- why what was received is ignored, why an end ends in Failure, and why nothing comes of an event

abbrev reason_of_word : List ℕ → ℕ
reason_of_word word =
    if bytes_eq word (codes "closed") then 0
    else if bytes_eq word (codes "notforme") then 1
    else if bytes_eq word (codes "othertype") then 2
    else if bytes_eq word (codes "malformed") then 3
    else if bytes_eq word (codes "unexpected") then 4
    else if bytes_eq word (codes "missing") then 5 else 6

abbrev reason_number : Reason → ℕ
reason_number reason.Closed = 0
reason_number reason.NotForMe = 1
reason_number reason.OtherType = 2
reason_number reason.Malformed = 3
reason_number reason.Unexpected = 4
reason_number reason.Missing = 5
reason_number reason.NoContext = 6

reason_is : (a : Reason) → reason_number a ≡ reason_of_word (reason_word a)
reason_is reason.Closed = refl
reason_is reason.NotForMe = refl
reason_is reason.OtherType = refl
reason_is reason.Malformed = refl
reason_is reason.Unexpected = refl
reason_is reason.Missing = refl
reason_is reason.NoContext = refl

reason_injective : (a b : Reason) → reason_word a ≡ reason_word b → a ≡ b
reason_injective reason.Closed reason.Closed e = refl
reason_injective reason.NotForMe reason.NotForMe e = refl
reason_injective reason.OtherType reason.OtherType e = refl
reason_injective reason.Malformed reason.Malformed e = refl
reason_injective reason.Unexpected reason.Unexpected e = refl
reason_injective reason.Missing reason.Missing e = refl
reason_injective reason.NoContext reason.NoContext e = refl
reason_injective a b e = let kinds : reason_number a ≡ reason_number b = reason_is a ∙ ap (λ w. reason_of_word w) e ∙ sym (reason_is b) in absurd (omega arith)

abbrev server_of_word : List ℕ → ℕ
server_of_word word =
    if bytes_eq word (codes "unknownidentity") then 0
    else if bytes_eq word (codes "wrongmac") then 1
    else if bytes_eq word (codes "wrongres") then 2
    else if bytes_eq word (codes "wrongcheckcode") then 3
    else if bytes_eq word (codes "wrongcounter") then 4
    else if bytes_eq word (codes "secondsync") then 5
    else if bytes_eq word (codes "badauts") then 6
    else if bytes_eq word (codes "beyond") then 7
    else if bytes_eq word (codes "exhausted") then 8
    else if bytes_eq word (codes "stopped") then 9
    else if bytes_eq word (codes "rejected") then 10
    else if bytes_eq word (codes "clienterror") then 11 else 12

abbrev server_number : ServerWhy → ℕ
server_number server_why.UnknownIdentity = 0
server_number server_why.WrongMac = 1
server_number server_why.WrongRes = 2
server_number server_why.WrongCheckcode = 3
server_number server_why.WrongCounter = 4
server_number server_why.SecondSync = 5
server_number server_why.BadAuts = 6
server_number (server_why.Beyond a0 a1) = 7
server_number (server_why.Exhausted a0) = 8
server_number (server_why.Stopped a0 a1) = 9
server_number server_why.Rejected = 10
server_number (server_why.ClientError a0) = 11
server_number server_why.GivenUp = 12

server_is : (a : ServerWhy) → server_number a ≡ server_of_word (word_at (server_words a) 0)
server_is server_why.UnknownIdentity = refl
server_is server_why.WrongMac = refl
server_is server_why.WrongRes = refl
server_is server_why.WrongCheckcode = refl
server_is server_why.WrongCounter = refl
server_is server_why.SecondSync = refl
server_is server_why.BadAuts = refl
server_is (server_why.Beyond a0 a1) = refl
server_is (server_why.Exhausted a0) = refl
server_is (server_why.Stopped a0 a1) = refl
server_is server_why.Rejected = refl
server_is (server_why.ClientError a0) = refl
server_is server_why.GivenUp = refl

server_injective : (a b : ServerWhy) → server_words a ≡ server_words b → a ≡ b
server_injective server_why.UnknownIdentity server_why.UnknownIdentity e = refl
server_injective server_why.WrongMac server_why.WrongMac e = refl
server_injective server_why.WrongRes server_why.WrongRes e = refl
server_injective server_why.WrongCheckcode server_why.WrongCheckcode e = refl
server_injective server_why.WrongCounter server_why.WrongCounter e = refl
server_injective server_why.SecondSync server_why.SecondSync e = refl
server_injective server_why.BadAuts server_why.BadAuts e = refl
server_injective (server_why.Beyond a0 a1) (server_why.Beyond b0 b1) e =
    let v0 : a0 ≡ b0 = numeral_injective a0 b0 (ap (λ ws. word_at ws 1) e) in
    let v1 : a1 ≡ b1 = numeral_injective a1 b1 (ap (λ ws. word_at ws 2) e) in
    (cc)
server_injective (server_why.Exhausted a0) (server_why.Exhausted b0) e =
    let v0 : a0 ≡ b0 = numeral_injective a0 b0 (ap (λ ws. word_at ws 1) e) in
    (cc)
server_injective (server_why.Stopped a0 a1) (server_why.Stopped b0 b1) e =
    let v0 : a0 ≡ b0 = numeral_injective a0 b0 (ap (λ ws. word_at ws 1) e) in
    let v1 : a1 ≡ b1 = stop_injective a1 b1 (ap (λ ws. word_at ws 2) e) in
    (cc)
server_injective server_why.Rejected server_why.Rejected e = refl
server_injective (server_why.ClientError a0) (server_why.ClientError b0) e =
    let v0 : a0 ≡ b0 = numeral_injective a0 b0 (ap (λ ws. word_at ws 1) e) in
    (cc)
server_injective server_why.GivenUp server_why.GivenUp e = refl
server_injective a b e = let kinds : server_number a ≡ server_number b = server_is a ∙ ap (λ ws. server_of_word (word_at ws 0)) e ∙ sym (server_is b) in absurd (omega arith)

abbrev peer_of_word : List ℕ → ℕ
peer_of_word word =
    if bytes_eq word (codes "malformed") then 0
    else if bytes_eq word (codes "missing") then 1
    else if bytes_eq word (codes "badkdf") then 2
    else if bytes_eq word (codes "badname") then 3
    else if bytes_eq word (codes "noseparation") then 4
    else if bytes_eq word (codes "downgrade") then 5
    else if bytes_eq word (codes "wrongautn") then 6
    else if bytes_eq word (codes "wrongmac") then 7
    else if bytes_eq word (codes "wrongcheckcode") then 8
    else if bytes_eq word (codes "undecryptable") then 9
    else if bytes_eq word (codes "notified") then 10
    else if bytes_eq word (codes "failurereceived") then 11 else 12

abbrev peer_number : PeerWhy → ℕ
peer_number peer_why.Malformed = 0
peer_number peer_why.Missing = 1
peer_number peer_why.BadKdf = 2
peer_number peer_why.BadName = 3
peer_number peer_why.NoSeparation = 4
peer_number peer_why.Downgrade = 5
peer_number peer_why.WrongAutn = 6
peer_number peer_why.WrongMac = 7
peer_number peer_why.WrongCheckcode = 8
peer_number peer_why.Undecryptable = 9
peer_number (peer_why.Notified a0) = 10
peer_number peer_why.FailureReceived = 11
peer_number peer_why.GivenUp = 12

peer_is : (a : PeerWhy) → peer_number a ≡ peer_of_word (word_at (peer_words a) 0)
peer_is peer_why.Malformed = refl
peer_is peer_why.Missing = refl
peer_is peer_why.BadKdf = refl
peer_is peer_why.BadName = refl
peer_is peer_why.NoSeparation = refl
peer_is peer_why.Downgrade = refl
peer_is peer_why.WrongAutn = refl
peer_is peer_why.WrongMac = refl
peer_is peer_why.WrongCheckcode = refl
peer_is peer_why.Undecryptable = refl
peer_is (peer_why.Notified a0) = refl
peer_is peer_why.FailureReceived = refl
peer_is peer_why.GivenUp = refl

peer_injective : (a b : PeerWhy) → peer_words a ≡ peer_words b → a ≡ b
peer_injective peer_why.Malformed peer_why.Malformed e = refl
peer_injective peer_why.Missing peer_why.Missing e = refl
peer_injective peer_why.BadKdf peer_why.BadKdf e = refl
peer_injective peer_why.BadName peer_why.BadName e = refl
peer_injective peer_why.NoSeparation peer_why.NoSeparation e = refl
peer_injective peer_why.Downgrade peer_why.Downgrade e = refl
peer_injective peer_why.WrongAutn peer_why.WrongAutn e = refl
peer_injective peer_why.WrongMac peer_why.WrongMac e = refl
peer_injective peer_why.WrongCheckcode peer_why.WrongCheckcode e = refl
peer_injective peer_why.Undecryptable peer_why.Undecryptable e = refl
peer_injective (peer_why.Notified a0) (peer_why.Notified b0) e =
    let v0 : a0 ≡ b0 = numeral_injective a0 b0 (ap (λ ws. word_at ws 1) e) in
    (cc)
peer_injective peer_why.FailureReceived peer_why.FailureReceived e = refl
peer_injective peer_why.GivenUp peer_why.GivenUp e = refl
peer_injective a b e = let kinds : peer_number a ≡ peer_number b = peer_is a ∙ ap (λ ws. peer_of_word (word_at ws 0)) e ∙ sym (peer_is b) in absurd (omega arith)

abbrev refusal_of_word : List ℕ → ℕ
refusal_of_word word =
    if bytes_eq word (codes "nosuchpacket") then 0
    else if bytes_eq word (codes "nosuchend") then 1
    else if bytes_eq word (codes "started") then 2 else 3

abbrev refusal_number : WorldRefusal → ℕ
refusal_number refused.NoSuchPacket = 0
refusal_number refused.NoSuchEnd = 1
refusal_number refused.Started = 2
refusal_number refused.NoSuchPlace = 3

refusal_is : (a : WorldRefusal) → refusal_number a ≡ refusal_of_word (word_at (refusal_words a) 0)
refusal_is refused.NoSuchPacket = refl
refusal_is refused.NoSuchEnd = refl
refusal_is refused.Started = refl
refusal_is refused.NoSuchPlace = refl

refusal_injective : (a b : WorldRefusal) → refusal_words a ≡ refusal_words b → a ≡ b
refusal_injective refused.NoSuchPacket refused.NoSuchPacket e = refl
refusal_injective refused.NoSuchEnd refused.NoSuchEnd e = refl
refusal_injective refused.Started refused.Started e = refl
refusal_injective refused.NoSuchPlace refused.NoSuchPlace e = refl
refusal_injective a b e = let kinds : refusal_number a ≡ refusal_number b = refusal_is a ∙ ap (λ ws. refusal_of_word (word_at ws 0)) e ∙ sym (refusal_is b) in absurd (omega arith)

-- ---- the step

-- a number for each kind of step that an end takes besides sending, by its words
abbrev what_of_words : List (List ℕ) → ℕ
what_of_words words = if mark words == 15 then 1 else if mark words == 16 then 2 else 0

abbrev what_number : {W : Type 0} → Step W → ℕ
what_number (step.Sent bytes) = 0
what_number (step.Ended result bytes) = 1
what_number (step.Ignored why) = 2

what_is : {W : Type 0} (why_words : W → List (List ℕ)) (a : Step W) → what_number a ≡ what_of_words (what_words why_words a)
what_is why_words (step.Sent bytes) = refl
what_is why_words (step.Ended (outcome.Success keys) bytes) = refl
what_is why_words (step.Ended (outcome.Failure why) bytes) = refl
what_is why_words (step.Ignored why) = refl

-- the second word says Success or Failure
two_outcomes : codes "success" ≡ codes "failure" → ⊥
two_outcomes e = let first : get_or (codes "success") 0 0 ≡ get_or (codes "failure") 0 0 = ap (λ w. get_or w 0 0) e in omega arith

-- what is told of an outcome is determined by its words, if each why is
outcome_injective : {W : Type 0} (why_words : W → List (List ℕ)) → ((v w : W) → why_words v ≡ why_words w → v ≡ w) → (a b : Outcome W)
    → outcome_words why_words a ≡ outcome_words why_words b → told_outcome a ≡ told_outcome b
outcome_injective why_words same (outcome.Success keys) (outcome.Success other) e = refl
outcome_injective {W} why_words same (outcome.Failure v) (outcome.Failure w) e =
    ap (λ (x : W). outcome.Failure x) (same v w (ap (λ ws. drop 2 ws) e))
outcome_injective why_words same (outcome.Success keys) (outcome.Failure w) e = absurd (two_outcomes (ap (λ ws. word_at ws 1) e))
outcome_injective why_words same (outcome.Failure v) (outcome.Success keys) e = absurd (two_outcomes (sym (ap (λ ws. word_at ws 1) e)))

-- what is told of a step is determined by its words
pub what_injective : {W : Type 0} (why_words : W → List (List ℕ)) → ((v w : W) → why_words v ≡ why_words w → v ≡ w) → (a b : Step W)
    → what_words why_words a ≡ what_words why_words b → told_what a ≡ told_what b
what_injective why_words same (step.Sent bytes) (step.Sent others) e = refl
what_injective {W} why_words same (step.Ended v bytes) (step.Ended w others) e =
    ap (λ (x : Outcome W). step.Ended x []) (outcome_injective why_words same v w e)
what_injective {W} why_words same (step.Ignored v) (step.Ignored w) e =
    let make : Reason → Step W = λ x. step.Ignored x in ap make (reason_injective v w (ap (λ ws. word_at ws 1) e))
what_injective why_words same a b e =
    let kinds : what_number a ≡ what_number b = what_is why_words a ∙ ap what_of_words e ∙ sym (what_is why_words b) in absurd (omega arith)

-- a number for each end, and none
abbrev end_number : Option End → ℕ
end_number None = 0
end_number (Some end.Server) = 1
end_number (Some end.Peer) = 2

abbrev side_number : NoteStep → ℕ
side_number did.Opened = 0
side_number (did.Server what) = 1
side_number (did.Peer what) = 2
side_number (did.Made bytes) = 0

at_side : (at' : Option End) (a : NoteStep) → IsStepAt at' a → end_number at' ≡ side_number a
at_side None did.Opened is = refl
at_side None (did.Made bytes) is = refl
at_side (Some end.Server) (did.Server what) is = refl
at_side (Some end.Peer) (did.Peer what) is = refl
at_side None (did.Server what) is = absurd is
at_side None (did.Peer what) is = absurd is
at_side (Some end.Server) did.Opened is = absurd is
at_side (Some end.Server) (did.Peer what) is = absurd is
at_side (Some end.Server) (did.Made bytes) is = absurd is
at_side (Some end.Peer) did.Opened is = absurd is
at_side (Some end.Peer) (did.Server what) is = absurd is
at_side (Some end.Peer) (did.Made bytes) is = absurd is

-- what is told of a step at an end is determined by its words
step_injective : (at' : Option End) (a b : NoteStep) → IsStepAt at' a → IsStepAt at' b → step_words a ≡ step_words b → told_step a ≡ told_step b
step_injective at' did.Opened did.Opened p q e = refl
step_injective at' (did.Server a) (did.Server b) p q e = ap did.Server (what_injective server_words server_injective a b e)
step_injective at' (did.Peer a) (did.Peer b) p q e = ap did.Peer (what_injective peer_words peer_injective a b e)
step_injective at' (did.Made a) (did.Made b) p q e = refl
step_injective at' did.Opened (did.Made b) p q e =
    let marks : mark (step_words did.Opened) ≡ mark (step_words (did.Made b)) = ap mark e in absurd (omega arith)
step_injective at' (did.Made a) did.Opened p q e =
    let marks : mark (step_words (did.Made a)) ≡ mark (step_words did.Opened) = ap mark e in absurd (omega arith)
step_injective at' a b p q e = let sides : side_number a ≡ side_number b = sym (at_side at' a p) ∙ at_side at' b q in absurd (omega arith)

-- whether words begin as those of a refusal do: 1 if so
abbrev refused_of_words : List (List ℕ) → ℕ
refused_of_words words =
    if mark words == 17 then 1 else if mark words == 18 then 1 else if mark words == 19 then 1 else if mark words == 20 then 1 else 0

-- the number of a step's first word, which is that of no refusal
what_mark : {W : Type 0} (why_words : W → List (List ℕ)) (a : Step W) → (14 ≤ mark (what_words why_words a)) × (refused_of_words (what_words why_words a) ≡ 0)
what_mark why_words (step.Sent bytes) = (omega arith, refl)
what_mark why_words (step.Ended (outcome.Success keys) bytes) = (omega arith, refl)
what_mark why_words (step.Ended (outcome.Failure why) bytes) = (omega arith, refl)
what_mark why_words (step.Ignored why) = (omega arith, refl)

step_mark : (a : NoteStep) → (14 ≤ mark (step_words a)) × (refused_of_words (step_words a) ≡ 0)
step_mark did.Opened = (omega arith, refl)
step_mark (did.Server what) = what_mark server_words what
step_mark (did.Peer what) = what_mark peer_words what
step_mark (did.Made bytes) = (omega arith, refl)

-- ---- what came of an event

-- no notes
abbrev no_notes : Notes
no_notes = record { resync = None; number = None; resumed = None; usim = None; counter = None }

refusal_begins : (why : WorldRefusal) → 17 ≤ mark (refusal_words why)
refusal_begins refused.NoSuchPacket = omega arith
refusal_begins refused.NoSuchEnd = omega arith
refusal_begins refused.Started = omega arith
refusal_begins refused.NoSuchPlace = omega arith

refusal_refused : (why : WorldRefusal) → refused_of_words (refusal_words why) ≡ 1
refusal_refused refused.NoSuchPacket = refl
refusal_refused refused.NoSuchEnd = refl
refusal_refused refused.Started = refl
refusal_refused refused.NoSuchPlace = refl

-- no step has the words of a refusal
no_refusal : (a : NoteStep) (why : WorldRefusal) → step_words a ≡ refusal_words why → ⊥
no_refusal a why e =
    let same : refused_of_words (step_words a) ≡ refused_of_words (refusal_words why) = ap refused_of_words e in
    let none = (step_mark a).1 in
    let is = refusal_refused why in omega (arith, same, none, is)

-- what an end did after a note, with the words of its step
came_cut : (d f : NoteStep) (m n : Notes) (packet other : Option ℕ) (r s : List (List ℕ)) → UsimFits m.usim → 14 ≤ mark r → 14 ≤ mark s
    → notes_words m ++ (sent_words d packet ++ r) ≡ notes_words n ++ (sent_words f other ++ s) → (m ≡ n) × (packet ≡ other) × (r ≡ s)
came_cut d f m n packet other r s fits p q e =
    let notes = notes_cut m n _ _ fits (sent_begins d packet r p) (sent_begins f other s q) e in
    let sent = sent_cut d f packet other r s p q notes.1 in
    (notes.0, sent.0, sent.1)

note_is : (a b : Note) → a.notes ≡ b.notes → a.packet ≡ b.packet → told_step a.step ≡ told_step b.step → told_came (Ok a) ≡ told_came (Ok b)
note_is a b notes packet did_so =
    let make : Notes → Option ℕ → NoteStep → Result Note WorldRefusal = λ n p s. Ok (record { notes = n; step = s; packet = p; asked = None; device = None; vector = None }) in
    ap (λ n. make n a.packet (told_step a.step)) notes ∙ ap (λ p. make b.notes p (told_step a.step)) packet ∙ ap (λ s. make b.notes b.packet s) did_so

-- what is told of what came of an event is determined by its words
pub came_injective : (at' : Option End) (a b : Result Note WorldRefusal) → CameFits a → CameAt at' a → CameAt at' b → came_words a ≡ came_words b → told_came a ≡ told_came b
came_injective at' (Ok a) (Ok b) fits p q e =
    let found = came_cut a.step b.step a.notes b.notes a.packet b.packet _ _ fits (step_mark a.step).0 (step_mark b.step).0 e in
    note_is a b found.0 found.1 (step_injective at' a.step b.step p q found.2)
came_injective at' (Err v) (Err w) fits p q e = ap Err (refusal_injective v w e)
came_injective at' (Ok a) (Err w) fits p q e =
    let begins = refusal_begins w in
    let found = came_cut a.step did.Opened a.notes no_notes a.packet None _ (refusal_words w) fits (step_mark a.step).0 (omega (arith, begins)) e in
    absurd (no_refusal a.step w found.2)
came_injective at' (Err v) (Ok b) fits p q e =
    let begins = refusal_begins v in
    let found = came_cut did.Opened b.step no_notes b.notes None b.packet (refusal_words v) _ tt (omega (arith, begins)) (step_mark b.step).0 e in
    absurd (no_refusal b.step v (sym found.2))

-- ---- the event

abbrev event_of_word : List ℕ → ℕ
event_of_word word =
    if bytes_eq word (codes "session") then 0
    else if bytes_eq word (codes "start") then 1
    else if bytes_eq word (codes "deliver") then 2
    else if bytes_eq word (codes "repeat") then 3
    else if bytes_eq word (codes "giveup") then 4
    else if bytes_eq word (codes "tamper") then 5 else 6

abbrev event_number : Event → ℕ
event_number (event.Open opening) = 0
event_number (event.Start session) = 1
event_number (event.Deliver session at' packet) = 2
event_number (event.Repeat session) = 3
event_number (event.GiveUp session at') = 4
event_number (event.Tamper packet place byte) = 5
event_number (event.Cut packet count) = 6

event_is : (a : Event) (r : List (List ℕ)) → event_number a ≡ event_of_word (word_at (event_words a ++ r) 0)
event_is (event.Open opening) r = refl
event_is (event.Start session) r = refl
event_is (event.Deliver session at' packet) r = refl
event_is (event.Repeat session) r = refl
event_is (event.GiveUp session at') r = refl
event_is (event.Tamper packet place byte) r = refl
event_is (event.Cut packet count) r = refl

event_cut : (a b : Event) (r s : List (List ℕ)) → EventFits a → event_words a ++ r ≡ event_words b ++ s → (told_event a ≡ told_event b) × (r ≡ s)
event_cut (event.Open a) (event.Open b) r s fits e =
    let session : a.session ≡ b.session = numeral_injective a.session b.session (ap (λ ws. word_at ws 1) e) in
    (ap (λ (t : ℕ). event.Open (told_opening t)) session, ap (λ ws. drop 2 ws) e)
event_cut (event.Start a) (event.Start b) r s fits e =
    let session : a ≡ b = numeral_injective a b (ap (λ ws. word_at ws 1) e) in (ap event.Start session, ap (λ ws. drop 2 ws) e)
event_cut (event.Deliver a at' packet) (event.Deliver b other another) r s fits e =
    let session : a ≡ b = numeral_injective a b (ap (λ ws. word_at ws 1) e) in
    let place : at' ≡ other = end_injective at' other (ap (λ ws. word_at ws 2) e) in
    let same : packet ≡ another = numeral_injective packet another (ap (λ ws. word_at ws 3) e) in
    let rest : r ≡ s = ap (λ ws. drop 4 ws) e in ((cc), rest)
event_cut (event.Repeat a) (event.Repeat b) r s fits e =
    let session : a ≡ b = numeral_injective a b (ap (λ ws. word_at ws 1) e) in (ap event.Repeat session, ap (λ ws. drop 2 ws) e)
event_cut (event.GiveUp a at') (event.GiveUp b other) r s fits e =
    let session : a ≡ b = numeral_injective a b (ap (λ ws. word_at ws 1) e) in
    let place : at' ≡ other = end_injective at' other (ap (λ ws. word_at ws 2) e) in
    let rest : r ≡ s = ap (λ ws. drop 3 ws) e in ((cc), rest)
event_cut (event.Tamper a place byte) (event.Tamper b other another) r s fits e =
    let packet : a ≡ b = numeral_injective a b (ap (λ ws. word_at ws 1) e) in
    let same_place : place ≡ other = numeral_injective place other (ap (λ ws. word_at ws 2) e) in
    let digits : byte ∷ [] ≡ another ∷ [] = hex_injective (byte ∷ []) (another ∷ []) fits (ap (λ ws. word_at ws 3) e) in
    let same_byte : byte ≡ another = ap (λ bytes. get_or bytes 0 0) digits in
    let rest : r ≡ s = ap (λ ws. drop 4 ws) e in ((cc), rest)
event_cut (event.Cut a count) (event.Cut b other) r s fits e =
    let packet : a ≡ b = numeral_injective a b (ap (λ ws. word_at ws 1) e) in
    let same : count ≡ other = numeral_injective count other (ap (λ ws. word_at ws 2) e) in
    let rest : r ≡ s = ap (λ ws. drop 3 ws) e in ((cc), rest)
event_cut a b r s fits e =
    let kinds : event_number a ≡ event_number b = event_is a r ∙ ap (λ ws. event_of_word (word_at ws 0)) e ∙ sym (event_is b s) in absurd (omega arith)

-- the end that an event concerns is told
end_told : (e : Event) → end_of (told_event e) ≡ end_of e
end_told (event.Open opening) = refl
end_told (event.Start session) = refl
end_told (event.Deliver session at' packet) = refl
end_told (event.Repeat session) = refl
end_told (event.GiveUp session at') = refl
end_told (event.Tamper packet place byte) = refl
end_told (event.Cut packet count) = refl

-- what is told of an event's record is determined by its words
pub event_injective : (a b : EventRecord) → EventFits a.event → CameFits a.result → CameAt (end_of a.event) a.result → CameAt (end_of b.event) b.result
    → event_words a.event ++ came_words a.result ≡ event_words b.event ++ came_words b.result → told_record a ≡ told_record b
event_injective a b fit fits p q e =
    let found = event_cut a.event b.event _ _ fit e in
    let place : end_of b.event ≡ end_of a.event = sym (end_told b.event) ∙ ap end_of (sym found.0) ∙ end_told a.event in
    let came = came_injective (end_of a.event) a.result b.result fits p (subst (λ at'. CameAt at' b.result) place q) found.1 in
    let make : Event → Result Note WorldRefusal → EventRecord = λ e r. record { event = e; result = r } in
    ap (λ e. make e (told_came a.result)) found.0 ∙ ap (λ r. make (told_event b.event) r) came
