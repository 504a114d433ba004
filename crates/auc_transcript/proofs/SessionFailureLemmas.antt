-- The laws of vectors that sessions present: in reach they fail exactly by their places, and their MACs are right.
use Rattle.std.proofs.Common.{◌≡◌, ◌↔◌, ℕ, ◌≤◌, List, [], ◌∷◌, ◌++◌, map, Option, Some, Contains, sym, ap, ◌∙◌, subst}
use Rattle.std.specs.Prelude.{slice_get}
use Rattle.std.proofs.lemmas.List.Elements.{All-contains}
use Rattle.auc_memory.specs.declared.stop.Stop.{Stop}
use Rattle.auc_lines.specs.declared.part.Part.{Part}
use Rattle.auc_packet.specs.Received.{OneReceived, Seen, attrs_in}
use Rattle.auc_peer.specs.Asking.{answer_noted}
use Rattle.auc_peer.specs.declared.peer.Challenge.{Challenge}
use Rattle.auc_request.specs.Request.{autn_of as autn_value, first_value, rand_of as rand_value}
use Rattle.auc_sqn.specs.Past.{Past}
use Rattle.auc_sqn.specs.declared.verdict.Verdict.{Verdict}
use Rattle.auc_sqn.specs.declared.verdict.Verdict.TheVariants.{Fresh, Old, Far, Aged}
use Rattle.auc_subs.specs.Subscriber.{AreSubscribers, top_at}
use Rattle.auc_subs.specs.declared.row.Row.{Row}
use Rattle.auc_subs.proofs.Facts.{top_at-row}
use Rattle.auc_usim.specs.Usim.{IsAnswer}
use Rattle.auc_random.specs.Random.{rand_of}
use Rattle.auc_vector.specs.Vector.{autn_of}
use Rattle.auc_vector.specs.declared.notes.UsimNote.{UsimNote}
use Rattle.auc_vector.specs.declared.notes.UsimNote.TheVariants as usim
use Rattle.auc_world.specs.Given.{Before, UsimAnswers, past_before, past_by, verdict_by}
use Rattle.auc_record.specs.Lines.{accepted, all_lines, numbers_of}
use Rattle.auc_subs.specs.Setting.{Setting}
use Rattle.auc_world.specs.Transcript.{IsLawful, Leads, beginning, lines_of, stretches_of}
use Rattle.auc_record.specs.declared.record.GiveVerdict.TheVariants as given
use Rattle.auc_record.specs.declared.record.LineRecord.{LineRecord}
use Rattle.auc_record.specs.declared.record.LineRecord.TheVariants.{Event}
use Rattle.auc_record.specs.declared.record.PartRecord.{PartRecord}
use Rattle.auc_record.specs.declared.record.PartRecord.TheVariants as record_of
use Rattle.auc_transcript.specs.Headline.{FailsByPlace, IsFailure}
use Rattle.auc_transcript.specs.Presented.{EachFailureInSessionsIsByPlace, EachFailureInSessionsOfRoundsIsByPlace, EachPresentedVectorHasARightMac, IsNotedFailure, IsPresentedInSession, packet_of_number, packets_in}
use Rattle.auc_transcript.specs.Rounds.{FailsByPlaceInRounds, entries_of_rounds}
use Rattle.auc_transcript.proofs.FailureLemmas.{fails_in_stretches}
use Rattle.auc_transcript.proofs.HandedLemmas.{IsReadIn}
use Rattle.auc_transcript.proofs.LineLemmas.{times-from_contains}
use Rattle.auc_transcript.proofs.PresentedLemmas.{event_handed, given_of, vector_challenge, vector_given}
use Rattle.auc_transcript.proofs.SingleLemmas.{fails_in_rounds}
use Rattle.auc_transcript.proofs.VectorLemmas.{numbers_within, row_is, transcript_served}
use Rattle.auc_transcript.proofs.WalkLemmas.{Occurred, occurred_at, round_at}

one_of : {X : Type 0} (o : Option X) (a b : X) → o ≡ Some a → o ≡ Some b → a ≡ b
one_of o a b e f = cc

challenges : (a b c d : List ℕ) → a ≡ c → b ≡ d → ◌≡◌ {A = Challenge} (record { rand = a; autn = b }) (record { rand = c; autn = d })
challenges a b c d e f = cc

-- ---- the answer

-- the event of a presented vector
occurred : (set : Setting) (reserved : List ℕ) (stop : Option Stop) (parts : List Part) (records : List PartRecord) (before : List LineRecord) (sub n : ℕ) (row : Row) (answer : UsimNote)
    → AreSubscribers set.rows → IsLawful set reserved stop parts records → (p : IsPresentedInSession set records before sub n row answer)
    → Occurred set (record { early = lines_of p.stands.early; beside = all_lines p.stands.beside; own = p.own }) p.delivery
occurred set reserved stop parts records before sub n row answer are (end, leads) p =
    let s = p.stands in
    occurred_at set (record { early = lines_of s.early; beside = all_lines s.beside; own = [] }) p.own s.after p.delivery
    (round_at set stop (beginning set.rows reserved) parts s.early s.late s.round s.beside s.others (p.own ++ Event p.delivery ∷ s.after) end are
    (subst (λ (rs : List PartRecord). Leads set stop (beginning set.rows reserved) parts rs end) s.records_are leads) s.jobs_are)

-- a vector that was released has a number that a vector may have
released_within : (set : Setting) (reserved : List ℕ) (stop : Option Stop) (parts : List Part) (records : List PartRecord) (sub n : ℕ) → IsLawful set reserved stop parts records
    → Contains (numbers_of sub (lines_of records)) n → n ≤ top_at set.rows sub
released_within set reserved stop parts records sub n lawful released =
    All-contains (λ m. m ≤ top_at set.rows sub) (numbers_of sub (lines_of records)) n
    (numbers_within set sub [] (lines_of records) (transcript_served set reserved stop parts records lawful)) released

-- the USIM answers by its past
answered : OneReceived → (set : Setting) (reserved : List ℕ) (stop : Option Stop) (parts : List Part) (records : List PartRecord) (before : List LineRecord) (sub n : ℕ) (row : Row)
    (answer : UsimNote) → AreSubscribers set.rows → IsLawful set reserved stop parts records → IsPresentedInSession set records before sub n row answer
    → UsimAnswers row.bits (verdict_by row (past_by row sub before) n) (past_by row sub before) (given_of answer)
answered received set reserved stop parts records before sub n row answer are lawful p =
    let place : Before = record { early = lines_of p.stands.early; beside = all_lines p.stands.beside; own = p.own } in
    let (bytes, at', is) = event_handed set place p.delivery p.session p.packet sub answer (occurred set reserved stop parts records before sub n row answer are lawful p) p.delivers p.answered in
    let same_row : is.row ≡ row = one_of (slice_get set.rows sub) is.row row is.there p.there in
    let same_bytes : bytes ≡ p.seen.bytes = one_of (packet_of_number (packets_in p.own) p.packet) bytes p.seen.bytes at' p.is_packet in
    let same_seen : is.seen ≡ p.seen = received is.seen p.seen (is.of_bytes ∙ same_bytes) is.received p.received in
    let rand = rand_of set.key sub n in
    let autn = autn_of row.secret.k row.secret.opc rand row.amf row.bits n in
    let (rand_read, autn_read) = subst (λ (s : Seen). IsReadIn s.reading is.challenge) same_seen is.is_read in
    let same : is.challenge ≡ vector_challenge row n rand =
    challenges is.challenge.rand is.challenge.autn rand autn
    (one_of (first_value rand_value (attrs_in p.seen.reading)) is.challenge.rand rand rand_read p.rand)
    (one_of (first_value autn_value (attrs_in p.seen.reading)) is.challenge.autn autn autn_read p.autn) in
    let past : past_before place row sub ≡ past_by row sub before = ap (λ (ls : List LineRecord). past_by row sub ls) (sym p.stands.before_is) in
    let of_row = subst (λ (r : Row). IsAnswer r.secret r.bits r.age (past_before place r sub) is.challenge.rand is.challenge.autn (answer_noted r.secret is.challenge answer)) same_row is.answers in
    let of_vector = subst (λ (c : Challenge). IsAnswer row.secret row.bits row.age (past_before place row sub) c.rand c.autn (answer_noted row.secret c answer)) same of_row in
    let within = subst (λ (top : ℕ). n ≤ top) (top_at-row set.rows sub row p.there) (released_within set reserved stop parts records sub n lawful p.released) in
    subst (λ (x : Past). UsimAnswers row.bits (verdict_by row x n) x (given_of answer)) past
    (vector_given row (past_before place row sub) n rand answer (row_is set.rows sub row are p.there) within of_vector)

-- a note is a failure if the answer is one
noted_failure : (P : Type 0) (note : UsimNote) → IsFailure (given_of note) ↔ P → IsNotedFailure note ↔ P
noted_failure P (usim.Accepted sqn) is = is
noted_failure P (usim.Sync sqn_ms) is = is
noted_failure P usim.WrongMac is = is

-- ---- the laws

-- each released vector in reach that a session presents fails exactly by its place
pub each_failure_in_sessions_is_by_place : OneReceived → EachFailureInSessionsIsByPlace
each_failure_in_sessions_is_by_place received set reserved stop parts records are lawful before sub n row answer p reach =
    noted_failure (FailsByPlace row.bits row.age (stretches_of sub records) (accepted row.bits sub before) n) answer
    (fails_in_stretches set reserved stop parts records before sub n row (given_of answer) are lawful p.there (times-from_contains n (numbers_of sub (lines_of records)) p.released)
    (answered received set reserved stop parts records before sub n row answer are lawful p) reach)

-- the same of transcripts without a restart
pub each_failure_in_sessions_of_rounds_is_by_place : OneReceived → EachFailureInSessionsOfRoundsIsByPlace
each_failure_in_sessions_of_rounds_is_by_place received set reserved stop parts rounds are lawful before sub n row answer p reach =
    let records = map record_of.Round rounds in
    noted_failure (FailsByPlaceInRounds row.bits row.age (entries_of_rounds sub rounds) (accepted row.bits sub before) n) answer
    (fails_in_rounds set reserved stop parts rounds before sub n row (given_of answer) are lawful p.there (times-from_contains n (numbers_of sub (lines_of records)) p.released)
    (answered received set reserved stop parts records before sub n row answer are lawful p) reach)

-- an answer by a verdict isn't that of a wrong MAC
not_absent : (bits : ℕ) (v : Verdict) (past : Past) → UsimAnswers bits v past given.Absent → ⊥
not_absent bits Fresh past same = cc
not_absent bits (Old entry) past (sqn_ms, is, same) = cc
not_absent bits (Far greatest) past (sqn_ms, is, same) = cc
not_absent bits (Aged greatest) past (sqn_ms, is, same) = cc

-- no USIM finds a wrong MAC in a released vector of its subscriber
pub each_presented_vector_has_a_right_mac : OneReceived → EachPresentedVectorHasARightMac
each_presented_vector_has_a_right_mac received set reserved stop parts records are lawful before sub n row answer p = λ wrong.
    let past = past_by row sub before in
    not_absent row.bits (verdict_by row past n) past
    (subst (λ (note : UsimNote). UsimAnswers row.bits (verdict_by row past n) past (given_of note)) wrong
    (answered received set reserved stop parts records before sub n row answer are lawful p))
