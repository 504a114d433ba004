-- For lines for EAP-SIM: the triplets and the identity of a session, and the lines that say what happens in it.
use Rattle.std.proofs.Common.{◌≡◌, ℕ, zero, suc, ◌+◌, ◌≤◌, ◌/◌, ◌%◌, Bool, true, false, List, [], ◌∷◌, ◌++◌, length, take, refl, sym, ◌∙◌, ap, arith, subst, append_assoc, append-nil, eq-eqb, length-append}
use Rattle.std.specs.Prelude.{◌==◌, All, IfSome, Option, Some, reverse, slice_get, slice_index}
use Rattle.std.proofs.lemmas.Bool.{ne_eqb}
use Rattle.std.proofs.lemmas.List.{length-map, reverse-append, reverse-reverse, take_all}
use Rattle.std.proofs.lemmas.List.Elements.{All-cons, All-nil}
use Rattle.auc_memory.specs.Identity.{digits_of, last_digits}
use Rattle.auc_ident.specs.Permanent.{with_realm}
use Rattle.auc_lines.specs.Sim.{SimValue}
use Rattle.auc_lines.specs.declared.sim.SimSchedule.{SimSchedule}
use Rattle.auc_random.specs.Random.{sim_nonce}
use Rattle.auc_sim.specs.Identity.{sim_identity}
use Rattle.auc_sim.specs.Session.{SimInputs, SimRuns}
use Rattle.auc_sim.specs.Triplets.{of_vector}
use Rattle.auc_vector.specs.declared.sim_note.SimNote.{SimNote}
use Rattle.auc_sim_packet.specs.declared.parts.Triplet.{Triplet}
use Rattle.auc_subs.specs.Subscriber.{AreSubscribers, IsRow, top_at}
use Rattle.auc_subs.specs.declared.row.Row.{Row}
use Rattle.auc_record.specs.Lines.{numbers_of}
use Rattle.auc_subs.specs.Setting.{Setting}
use Rattle.auc_world.specs.Sim.{SimFollows, SimFollowsIf, SimGives, sim_inputs}
use Rattle.auc_record.specs.VectorAt.{vector_of_row}
use Rattle.auc_record.specs.declared.further.Further.TheVariants as further
use Rattle.auc_record.specs.declared.record.LineRecord.{LineRecord}
use Rattle.auc_record.specs.declared.record.LineRecord.TheVariants.{Further}
use Rattle.auc_jobs.specs.InnerSim.{AreNotesOf, AreTripletsOf, IsNumber, said_lines}
use Rattle.auc_jobs.specs.InnerSites.{IsLease}
use Rattle.auc_jobs.proofs.LineLemmas.{all_at}

-- ---- numbers

-- a number that was drawn
pub numbers_one : (rows : List Row) (sub : ℕ) (number : Option ℕ) (n : ℕ) → number ≡ Some n → IfSome number (λ m. (1 ≤ m) × (m ≤ top_at rows sub)) → All (IsNumber rows sub) (n ∷ [])
numbers_one rows sub number n some within =
    let (first, last) = subst (λ (o : Option ℕ). IfSome o (λ m. (1 ≤ m) × (m ≤ top_at rows sub))) some within in
    All-cons (IsNumber rows sub) n [] (record { first = first; last = last }) (All-nil (IsNumber rows sub))

-- ---- triplets

-- those of all numbers
pub triplets_all : (set : Setting) (sub i : ℕ) (numbers : List ℕ) (triplets : List Triplet) → length numbers ≤ i → AreTripletsOf set sub (take i numbers) triplets → AreTripletsOf set sub numbers triplets
triplets_all set sub i numbers triplets past so_far = subst (λ (ns : List ℕ). AreTripletsOf set sub ns triplets) (take_all i numbers past) so_far

-- as many as the numbers
pub triplets_size : (set : Setting) (sub place : ℕ) (numbers : List ℕ) (triplets given : List Triplet) (row : Row) → sub ≡ place → slice_get set.rows place ≡ Some row
    → AreTripletsOf set sub numbers triplets → given ≡ triplets → length given ≡ length numbers
triplets_size set sub place numbers triplets given row same there are is =
    ap length is ∙ ap length (are row (ap (slice_get set.rows) same ∙ there)) ∙ length-map numbers (λ n. of_vector (vector_of_row set row sub n))

-- ---- the identity

digits_size : (count number : ℕ) → length (last_digits count number) ≡ count
digits_size zero number = refl
digits_size (suc count) number = omega (arith, length-append (last_digits count (number / 10)) ((48 + number % 10) ∷ []), digits_size count (number / 10))

realm_size : (text realm : List ℕ) → length (with_realm text realm) ≤ length text + 1 + length realm
realm_size text [] = omega arith
realm_size text (letter ∷ letters) = omega (arith, length-append text (64 ∷ letter ∷ letters))

-- it isn't too long for a packet
pub identity_size : (rows : List Row) (sub : ℕ) (row : Row) (realm : List ℕ) → AreSubscribers rows → slice_get rows sub ≡ Some row → length realm ≤ 255
    → length (sim_identity row.imsi realm) ≤ 1016
identity_size rows sub row realm are there short =
    let is : IsRow row = all_at IsRow rows sub row are.each there in
    let digits : length (digits_of row.imsi) ≡ row.imsi.digits = digits_size row.imsi.digits row.imsi.number in
    let few = is.identity.most in
    omega (arith, realm_size (49 ∷ digits_of row.imsi) realm, digits, few, short)

-- ---- the session

-- what happens in it is by its inputs
pub session_is : (set : Setting) (line : SimValue) (numbers : List ℕ) (row : Row) (notes : List SimNote) (identity : List ℕ) (triplets : List Triplet) (nonce : List ℕ) (schedule : SimSchedule)
    → slice_get set.rows line.sub ≡ Some row → identity ≡ sim_identity row.imsi set.realm → AreTripletsOf set line.sub numbers triplets → nonce ≡ sim_nonce set.key line.sub (slice_index numbers 0)
    → schedule ≡ line.schedule → SimRuns (record { identity = identity; triplets = triplets; secret = row.secret; nonce = nonce }) schedule notes → AreNotesOf set line numbers notes
session_is set line numbers row notes identity triplets nonce schedule there is are random by runs = record {
  row = row;
  there = there;
  runs = subst (λ (inputs : SimInputs). SimRuns inputs line.schedule notes) same (subst (λ (s : SimSchedule). SimRuns given s notes) by runs);
}
  where
    given : SimInputs
    given = record { identity = identity; triplets = triplets; secret = row.secret; nonce = nonce }

    same : given ≡ sim_inputs set row line.sub numbers
    same = rw (is, random, are row there) refl

-- ---- the lines that say it

-- at the beginning all notes are left, the last one first
pub notes_begin : (sub : ℕ) (notes left : List SimNote) (lines : List LineRecord) → left ≡ reverse notes → lines ≡ [] → lines ++ said_lines sub (reverse left) ≡ said_lines sub notes
notes_begin sub notes left lines turned none = rw (turned, none, reverse-reverse notes) refl

-- one more is said
pub notes_more : (sub : ℕ) (note : SimNote) (notes left next : List SimNote) (front rest : List LineRecord) → left ≡ next ++ note ∷ [] → front ++ said_lines sub (reverse left) ≡ said_lines sub notes
    → rest ≡ Further (further.Sim sub note) ∷ [] → (front ++ rest) ++ said_lines sub (reverse next) ≡ said_lines sub notes
notes_more sub note notes left next front rest popped said is =
    ap (λ (ls : List LineRecord). (front ++ ls) ++ said_lines sub (reverse next)) is
    ∙ append_assoc front (Further (further.Sim sub note) ∷ []) (said_lines sub (reverse next))
    ∙ ap (λ (ns : List SimNote). front ++ said_lines sub ns) (sym (ap reverse popped ∙ reverse-append next (note ∷ []))) ∙ said

-- all are
pub notes_all : (sub : ℕ) (notes left : List SimNote) (lines : List LineRecord) → left ≡ [] → lines ++ said_lines sub (reverse left) ≡ said_lines sub notes → lines ≡ said_lines sub notes
notes_all sub notes left lines none said = sym (append-nil lines) ∙ ap (λ (ns : List SimNote). lines ++ said_lines sub (reverse ns)) (sym none) ∙ said

-- ---- the line

module _ (set : Setting) (line : SimValue) (sub count : ℕ) (numbers : List ℕ) (of_sub : sub ≡ line.sub) (of_count : count ≡ line.count) where
  of_line : (drawn : List LineRecord) → IsLease set sub count numbers drawn → IsLease set line.sub line.count numbers drawn
  of_line drawn is = subst (λ (s : ℕ). IsLease set s line.count numbers drawn) of_sub (subst (λ (n : ℕ). IsLease set sub n numbers drawn) of_count is)

  -- not all vectors were released
  pub sim_ends : (lines : List LineRecord) → (length numbers ≡ count → ⊥) → IsLease set sub count numbers lines → SimGives set line lines
  sim_ends lines fewer is = record {
    drawn = lines;
    rest = [];
    lines_are = sym (append-nil lines);
    draws = (of_line lines is).draws;
    follows = subst (λ (whole : Bool). SimFollowsIf whole set line (numbers_of line.sub lines) []) (sym none) refl;
  }
    where
      none : (length (numbers_of line.sub lines) == line.count) ≡ false
      none = ne_eqb (length (numbers_of line.sub lines)) line.count (λ all. fewer (ap length (of_line lines is).numbers ∙ all ∙ sym of_count))

  -- all were
  pub sim_then : (notes : List SimNote) (front rest : List LineRecord) → length numbers ≡ count → AreNotesOf set line numbers notes → IsLease set sub count numbers front
      → rest ≡ said_lines sub notes → SimGives set line (front ++ rest)
  sim_then notes front rest all are is said = record {
    drawn = front;
    rest = rest;
    lines_are = refl;
    draws = (of_line front is).draws;
    follows = subst (λ (whole : Bool). SimFollowsIf whole set line (numbers_of line.sub front) rest) (sym whole) follows;
  }
    where
      same : numbers ≡ numbers_of line.sub front
      same = (of_line front is).numbers

      whole : (length (numbers_of line.sub front) == line.count) ≡ true
      whole = eq-eqb (length (numbers_of line.sub front)) line.count (sym (ap length same) ∙ all ∙ of_count)

      follows : SimFollows set line (numbers_of line.sub front) rest
      follows = record {
        row = are.row;
        there = are.there;
        notes = notes;
        runs = subst (λ (ns : List ℕ). SimRuns (sim_inputs set are.row line.sub ns) line.schedule notes) same are.runs;
        lines_are = said ∙ ap (λ (s : ℕ). said_lines s notes) of_sub;
      }
