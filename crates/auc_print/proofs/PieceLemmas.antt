-- The words of a line in pieces, for the functions that print them.
use Rattle.std.proofs.Common.{ℕ, zero, suc, true, List, [], ◌∷◌, ◌++◌, take, drop, slice_get, slice_index, ◌/◌, ◌%◌, codes, Option, Some, Result, Ok, Err, OnOk, OnErr, subst, ◌≡◌, refl, ap, sym, ◌∙◌, append_assoc}
use Rattle.std.proofs.lemmas.List.{append-nil, get_or-map}
use Rattle.std.proofs.lemmas.List.Concat.{flat_map-append}
use Rattle.std.proofs.lemmas.Option.{get_or_from_slice_get, slice_get_within}
use Rattle.std.proofs.lemmas.Result.{on_ok_weaker}
use Rattle.hex.specs.Hex.{encode_lower, encode_with, lower_digits}
use Rattle.auc_memory.specs.Identity.{digits_of}
use Rattle.auc_memory.specs.declared.no_memory.NoMemory.{NoMemory}
use Rattle.auc_milenage.specs.Milenage.{auts}
use Rattle.auc_subs.specs.declared.row.Row.{Row}
use Rattle.auc_vector.specs.declared.notes.Notes.{Notes}
use Rattle.auc_vector.specs.declared.parts.Vector.{Vector as AuthVector}
use Rattle.auc_vector.specs.declared.turn.Outcome.TheVariants as outcome
use Rattle.auc_vector.specs.declared.turn.Step.TheVariants as step
use Rattle.auc_subs.specs.Setting.{Setting}
use Rattle.auc_record.specs.declared.event.EventRecord.{EventRecord}
use Rattle.auc_record.specs.declared.event.Note.{Note}
use Rattle.auc_record.specs.declared.event.NoteStep.{NoteStep}
use Rattle.auc_record.specs.declared.event.NoteStep.TheVariants as did
use Rattle.auc_record.specs.declared.record.Breach.{Breach}
use Rattle.auc_record.specs.declared.record.LineRecord.{LineRecord}
use Rattle.auc_print.specs.AutsText.{auts_after, auts_lines, auts_words}
use Rattle.auc_print.specs.EventText.{came_words, counter_words, end_word, event_words, notes_words, number_words, packet_words, resumed_words, resync_words, sent_words, step_words, usim_words}
use Rattle.auc_print.specs.Inner.{IsFrontOf, Prints, after_spaces, answer_text, bytes_text, did_words, lines_text, more_text, shown_after, why_words}
use Rattle.auc_print.specs.Numeral.{numeral}
use Rattle.auc_print.specs.Text.{broken_words, identities_of, imsi_of, record_words, shown_lines, spaced}
use Rattle.auc_print.proofs.TextLemmas.{front_more}

-- words after words
pub spaces_more : (out a b : List ℕ) (v w : List (List ℕ)) → a ≡ out ++ after_spaces v → b ≡ a ++ after_spaces w → b ≡ out ++ after_spaces (v ++ w)
spaces_more out a b v w e f =
    f ∙ ap (λ x. x ++ after_spaces w) e ∙ append_assoc out (after_spaces v) (after_spaces w)
    ∙ ap (λ t. out ++ t) (sym (flat_map-append (λ word. 32 ∷ word) v w))

-- the words of the notes
pub notes_printed : (notes : Notes) (r n m u k : List (List ℕ)) (out a b c d e : List ℕ) → r ≡ resync_words notes.resync
    → n ≡ number_words notes.number → m ≡ resumed_words notes.resumed → u ≡ usim_words notes.usim → k ≡ counter_words notes.counter
    → a ≡ out ++ after_spaces r → b ≡ a ++ after_spaces n → c ≡ b ++ after_spaces m → d ≡ c ++ after_spaces u → e ≡ d ++ after_spaces k
    → e ≡ out ++ after_spaces (notes_words notes)
notes_printed notes r n m u k out a b c d e r_is n_is m_is u_is k_is p q s t v =
    let same : r ++ (n ++ (m ++ (u ++ k))) ≡ notes_words notes = cc in
    spaces_more out a e r _ p (spaces_more a b e n _ q (spaces_more b c e m _ s (spaces_more c d e u k t v))) ∙ ap (λ ws. out ++ after_spaces ws) same

-- what an end did, and the cause of a Failure
step_joined : (s : NoteStep) → did_words s ++ why_words s ≡ step_words s
step_joined did.Opened = refl
step_joined (did.Server (step.Sent bytes)) = refl
step_joined (did.Server (step.Ended (outcome.Success keys) bytes)) = refl
step_joined (did.Server (step.Ended (outcome.Failure why) bytes)) = refl
step_joined (did.Server (step.Ignored why)) = refl
step_joined (did.Peer (step.Sent bytes)) = refl
step_joined (did.Peer (step.Ended (outcome.Success keys) bytes)) = refl
step_joined (did.Peer (step.Ended (outcome.Failure why) bytes)) = refl
step_joined (did.Peer (step.Ignored why)) = refl
step_joined (did.Made bytes) = refl

-- the words of a note
pub note_printed : (note : Note) (s v w : List (List ℕ)) (out a b c d : List ℕ) → s ≡ sent_words note.step note.packet → v ≡ did_words note.step → w ≡ why_words note.step
    → a ≡ out ++ after_spaces (notes_words note.notes) → b ≡ a ++ after_spaces s → c ≡ b ++ after_spaces v → d ≡ c ++ after_spaces w
    → d ≡ out ++ after_spaces (came_words (Ok note))
note_printed note s v w out a b c d s_is v_is w_is p q r t =
    let did_is : v ++ w ≡ did_words note.step ++ why_words note.step = cc in
    let step_is : v ++ w ≡ step_words note.step = did_is ∙ step_joined note.step in
    let more : s ++ (v ++ w) ≡ sent_words note.step note.packet ++ step_words note.step = cc in
    spaces_more out a d (notes_words note.notes) (s ++ (v ++ w)) p (spaces_more a b d s (v ++ w) q (spaces_more b c d v w r t))
    ∙ ap (λ ws. out ++ after_spaces (notes_words note.notes ++ ws)) more

-- a line is a front, words after it and a line feed
pub line_printed : (front : List ℕ) (words : List (List ℕ)) (out a b c : List ℕ) → a ≡ out ++ front → b ≡ a ++ after_spaces words → c ≡ b ++ codes "\n"
    → c ≡ out ++ ((front ++ after_spaces words) ++ codes "\n")
line_printed front words out a b c e f g =
    g ∙ ap (λ x. x ++ codes "\n") (f ∙ ap (λ x. x ++ after_spaces words) e ∙ append_assoc out front (after_spaces words))
    ∙ append_assoc out (front ++ after_spaces words) (codes "\n")

-- a line whose front is a word and an IMSI
pub named_printed : (first imsi : List ℕ) (words : List (List ℕ)) (out a b c : List ℕ) → a ≡ out ++ (first ++ 32 ∷ imsi) → b ≡ a ++ after_spaces words
    → c ≡ b ++ codes "\n" → c ≡ out ++ spaced (first ∷ imsi ∷ words)
named_printed first imsi words out a b c e f g =
    line_printed (first ++ 32 ∷ imsi) words out a b c e f g
    ∙ ap (λ t. out ++ (t ++ codes "\n")) (append_assoc first (32 ∷ imsi) (after_spaces words))

-- the line of a breach
pub broken_printed : (job : ℕ) (breach : Breach) (j s p : List (List ℕ)) (e out c : List ℕ) → j ≡ numeral job ∷ [] → s ≡ numeral breach.session ∷ [] → e ≡ end_word breach.end
    → p ≡ numeral breach.packet ∷ [] → c ≡ out ++ spaced (codes "premise" ∷ codes "broken" ∷ (j ++ (s ++ (e ∷ (p ++ [])))))
    → c ≡ out ++ spaced (broken_words job breach)
broken_printed job breach j s p e out c j_is s_is e_is p_is printed = rw (j_is, s_is, e_is, p_is) at printed

-- the line of a packet
pub packet_printed : (packet : ℕ) (n : List (List ℕ)) (bytes out c : List ℕ) → n ≡ numeral packet ∷ [] → c ≡ out ++ spaced (codes "packet" ∷ (n ++ encode_lower bytes ∷ []))
    → c ≡ out ++ lines_text (packet_words packet bytes ∷ [])
packet_printed packet n bytes out c same printed =
    printed ∙ ap (λ (m : List (List ℕ)). out ++ spaced (codes "packet" ∷ (m ++ encode_lower bytes ∷ []))) same
    ∙ ap (λ t. out ++ t) (sym (append-nil (spaced (packet_words packet bytes))))

-- what begins with a front still does so after a text was appended, or wasn't
pub append_front : {A E : Type 0} (r : Result A E) (a b c x : List ℕ) → IsFrontOf a b → OnOk r (c ≡ b ++ x) → OnErr r (c ≡ b) → IsFrontOf a c
append_front (Ok v) a b c x p e f = front_more a b c p (record { rest = x; is = e })
append_front (Err v) a b c x p e f = subst (IsFrontOf a) (sym f) p

-- one append of a text
pub prints_from : (r : Result (Unit {0}) NoMemory) (old new text : List ℕ) → OnOk r (new ≡ old ++ text) → OnErr r (new ≡ old) → Prints r old new text
prints_from r old new text p f = record {
  printed = p;
  grows = append_front r old old new text (record { rest = []; is = sym (append-nil old) }) p f;
}

-- one append after another, which had memory
pub prints_after : (r : Result (Unit {0}) NoMemory) (old mid new front text : List ℕ) → mid ≡ old ++ front → Prints r mid new text → Prints r old new (front ++ text)
prints_after r old mid new front text same last = record {
  printed = on_ok_weaker r (λ e. e ∙ ap (λ t. t ++ text) same ∙ append_assoc old front text) last.printed;
  grows = front_more old mid new (record { rest = front; is = same }) last.grows;
}

-- a line alone
pub one_line : (r : Result (Unit {0}) NoMemory) (old new : List ℕ) (words : List (List ℕ)) → Prints r old new (spaced words) → Prints r old new (lines_text (words ∷ []))
one_line r old new words line = subst (λ (t : List ℕ). Prints r old new t) (sym (append-nil (spaced words))) line

-- the IMSI of a subscriber's row
pub imsi_at : (rows : List Row) (sub : ℕ) (row : Row) → slice_get rows sub ≡ Some row → imsi_of (identities_of rows) sub ≡ digits_of row.imsi
imsi_at rows sub row at =
    ap digits_of
    (get_or-map (λ (r : Row). r.imsi) rows sub row (record { digits = 0; number = 0 }) (slice_get_within rows sub row at)
    ∙ ap (λ (r : Row). r.imsi) (get_or_from_slice_get rows sub row row at))

-- the line of AUTS, of a subscriber that has a row
pub failure_printed : (r : Result (Unit {0}) NoMemory) (old new : List ℕ) (rows : List Row) (sub : ℕ) (row : Row) (found : Option (List ℕ)) (rand sqn_ms sent : List ℕ)
    → slice_get rows sub ≡ Some row → found ≡ Some rand → sent ≡ auts row.secret.k row.secret.opc rand sqn_ms → Prints r old new (spaced (auts_words sent rand))
    → Prints r old new (lines_text (auts_lines (slice_get rows sub) found sqn_ms))
failure_printed r old new rows sub row found rand sqn_ms sent at is same line = rw (at, is, ← same) (one_line r old new (auts_words sent rand) line)

-- the line of a record, and what a full print adds
pub answer_printed : (set : Setting) (job : List LineRecord) (answer : LineRecord) (vectors : List AuthVector) (rows : List Row) (r : Result (Unit {0}) NoMemory) (old a b c d : List ℕ)
    → rows ≡ set.rows → a ≡ old ++ spaced (record_words (identities_of rows) answer) → b ≡ a ++ bytes_text (shown_after answer vectors)
    → c ≡ b ++ lines_text (auts_after set job answer) → Prints r c d (lines_text (shown_lines answer)) → Prints r old d (answer_text set true job answer vectors)
answer_printed set job answer vectors rows r old a b c d same e f g last =
    let first : a ≡ old ++ spaced (record_words (identities_of set.rows) answer)
    = subst (λ (rs : List Row). a ≡ old ++ spaced (record_words (identities_of rs) answer)) same e in
    prints_after r old a d (spaced (record_words (identities_of set.rows) answer)) (bytes_text (shown_after answer vectors) ++ more_text set true job answer) first
    (prints_after r a b d (bytes_text (shown_after answer vectors)) (more_text set true job answer) f
    (prints_after r b c d (lines_text (auts_after set job answer)) (lines_text (shown_lines answer)) g last))

-- the line of an event
pub event_printed : (r : EventRecord) (first : List ℕ) (deed : List (List ℕ)) (out a b c d : List ℕ) → first ∷ deed ≡ event_words r.event → a ≡ out ++ first
    → b ≡ a ++ after_spaces deed → c ≡ b ++ after_spaces (came_words r.result) → d ≡ c ++ codes "\n"
    → d ≡ out ++ spaced (event_words r.event ++ came_words r.result)
event_printed r first deed out a b c d same e f g h =
    line_printed first (deed ++ came_words r.result) out a c d e (spaces_more a b c deed (came_words r.result) f g) h
    ∙ ap (λ ws. out ++ spaced (ws ++ came_words r.result)) same

-- ---- digits

-- the digits of bytes are those of a front and of the rest
pub encode_cut : (n : ℕ) (bytes : List ℕ) → encode_lower bytes ≡ encode_lower (take n bytes) ++ encode_lower (drop n bytes)
unfolding encode_with
encode_cut zero bytes = refl
encode_cut (suc n) [] = refl
encode_cut (suc n) (byte ∷ bytes) =
    let first : ℕ = slice_index lower_digits (byte / 16) in
    let second : ℕ = slice_index lower_digits (byte % 16) in
    ap (λ t. first ∷ second ∷ t) (encode_cut n bytes)

-- more digits were appended
pub digits_more : (n : ℕ) (out next old bytes front rest left : List ℕ) → out ++ encode_lower rest ≡ old ++ encode_lower bytes → front ≡ take n rest → left ≡ drop n rest
    → next ≡ out ++ encode_lower front → next ++ encode_lower left ≡ old ++ encode_lower bytes
digits_more n out next old bytes front rest left e f g h =
    ap (λ x. x ++ encode_lower left) h ∙ append_assoc out (encode_lower front) (encode_lower left)
    ∙ ap (λ x. out ++ (encode_lower x ++ encode_lower left)) f ∙ ap (λ x. out ++ (encode_lower (take n rest) ++ encode_lower x)) g
    ∙ ap (λ t. out ++ t) (sym (encode_cut n rest)) ∙ e
