-- The law of sessions of EAP-SIM: in a transcript each line for one keeps the laws of `auc_sim`, since its triplets are those that
-- a USIM with the subscriber's secret makes.
use Rattle.std.proofs.Common.{◌≡◌, ◌≢◌, ℕ, ◌+◌, ◌*◌, ◌/◌, ◌%◌, ◌^◌, ◌≤◌, ◌==◌, zero, suc, Bool, true, false, List, [], ◌∷◌, ◌++◌, length, map, All, AllPairs, Some, slice_get, refl, ap, ◌∙◌, subst, arith, eq-eqb}
use Rattle.std.specs.Prelude.{slice_index}
use Rattle.std.proofs.lemmas.Bool.{eqb-true}
use Rattle.std.proofs.lemmas.List.{length-append, length-map}
use Rattle.std.proofs.lemmas.List.Elements.{All-cons, All-nil}
use Rattle.auc_memory.specs.Identity.{digits_of, last_digits}
use Rattle.auc_ident.specs.Permanent.{with_realm}
use Rattle.auc_lines.specs.Sim.{IsSimValue, SimValue}
use Rattle.auc_lines.specs.declared.part.Line.{Line}
use Rattle.auc_lines.specs.declared.part.Line.TheVariants as line
use Rattle.auc_lines.specs.declared.part.Part.{Part}
use Rattle.auc_lines.specs.declared.part.Part.TheVariants as part
use Rattle.auc_lines.specs.declared.sim.SimSchedule.{SimSchedule}
use Rattle.auc_random.specs.Random.{rand_of, sim_nonce}
use Rattle.auc_sim.specs.Identity.{sim_identity}
use Rattle.auc_sim.specs.Session.{SimRuns}
use Rattle.auc_sim.specs.SessionLaws.{AreMatched, EachCardHasTheTripletOfItsVector, EachPlainSessionSucceeds, EachSessionAgrees}
use Rattle.auc_sim.specs.Triplets.{card_of, of_vector}
use Rattle.auc_sim_packet.specs.Keys.{rand_in}
use Rattle.auc_sim_packet.specs.declared.parts.Triplet.{Triplet}
use Rattle.auc_subs.specs.Subscriber.{AreSubscribers, IsRow}
use Rattle.auc_subs.specs.declared.row.Row.{Row}
use Rattle.auc_world.specs.Agreement.{IsRealm}
use Rattle.auc_world.specs.Given.{Before, JobGives, JobsGive, behind}
use Rattle.auc_record.specs.Lines.{all_lines, numbers_of}
use Rattle.auc_world.specs.Net.{Net}
use Rattle.auc_subs.specs.Setting.{Setting}
use Rattle.auc_world.specs.Sim.{SimFollows, SimFollowsIf, SimGives, sim_inputs}
use Rattle.auc_world.specs.Start.{Kept, fresh_kept, kept_by_jobs, start_of}
use Rattle.auc_record.specs.VectorAt.{vector_of_row}
use Rattle.auc_record.specs.declared.record.LineRecord.{LineRecord}
use Rattle.auc_record.specs.declared.record.PartRecord.{PartRecord}
use Rattle.auc_record.specs.declared.record.PartRecord.TheVariants as record_of
use Rattle.auc_world.proofs.Facts.{rand_block, sixteen_block}
use Rattle.auc_transcript.specs.Keys.{AreNetsAfter}
use Rattle.auc_transcript.specs.SimSessions.{EachSimSessionAgrees, HasSession, JobSimsHold, JobsSimsHold, SimLineHolds, SimSessionsAgreeAfter}
use Rattle.auc_transcript.proofs.DeviceEventLemmas.{row_is}
use Rattle.auc_transcript.proofs.OneLineLemmas.{conses}
use Rattle.auc_transcript.proofs.PlainLineLemmas.{splits}

-- the laws of triplets and sessions
pub record Laws : Type 0 where
  pub card : EachCardHasTheTripletOfItsVector
  pub agree : EachSessionAgrees
  pub complete : EachPlainSessionSucceeds

-- ---- the inputs of a session

abbrev triplets_of : Setting → Row → ℕ → List ℕ → List Triplet
triplets_of set row sub numbers = map (λ n. of_vector (vector_of_row set row sub n)) numbers

-- the triplets are those that the subscriber's USIM makes of their RANDs
are_of_card : EachCardHasTheTripletOfItsVector → (set : Setting) (row : Row) (sub : ℕ) (numbers : List ℕ)
    → triplets_of set row sub numbers ≡ map (λ t. card_of row.secret t.rand) (triplets_of set row sub numbers)
are_of_card law set row sub [] = refl
are_of_card law set row sub (n ∷ numbers) =
    let rand = rand_of set.key sub n in
    conses (of_vector (vector_of_row set row sub n)) (card_of row.secret rand) (triplets_of set row sub numbers) (map (λ t. card_of row.secret t.rand) (triplets_of set row sub numbers))
    (law row.secret row.amf rand row.bits n) (are_of_card law set row sub numbers)

-- the RANDs are those of the vectors, of 16 bytes each
rands_are : (set : Setting) (row : Row) (sub : ℕ) (numbers : List ℕ) → map (rand_of set.key sub) numbers ≡ map rand_in (triplets_of set row sub numbers)
rands_are set row sub [] = refl
rands_are set row sub (n ∷ numbers) = ap (λ (rands : List (List ℕ)). rand_of set.key sub n ∷ rands) (rands_are set row sub numbers)

rands_sized : (set : Setting) (row : Row) (sub : ℕ) (numbers : List ℕ) → All (λ t. length t.rand ≡ 16) (triplets_of set row sub numbers)
rands_sized set row sub [] = All-nil (λ (t : Triplet). length t.rand ≡ 16)
rands_sized set row sub (n ∷ numbers) =
    All-cons (λ (t : Triplet). length t.rand ≡ 16) (of_vector (vector_of_row set row sub n)) (triplets_of set row sub numbers) (rand_block set.key sub n).size
    (rands_sized set row sub numbers)

-- NONCE_MT has 16 bytes
nonce_sized : (key : List ℕ) (sub n : ℕ) → length (sim_nonce key sub n) ≡ 16
unfolding sim_nonce
nonce_sized key sub n = (sixteen_block key (2 ^ 42 + sub) (4 * n)).size

-- the identity is short
realm_short : (text realm : List ℕ) → length text ≤ 16 → length realm ≤ 255 → length (with_realm text realm) ≤ 1016
realm_short text [] short few = omega (arith, short)
realm_short text (letter ∷ letters) short few =
    let size : length (text ++ 64 ∷ letter ∷ letters) ≡ length text + suc (length (letter ∷ letters)) = length-append text (64 ∷ letter ∷ letters) in
    omega (arith, short, few, size)

digits_sized : (count number : ℕ) → length (last_digits count number) ≡ count
digits_sized zero number = refl
digits_sized (suc count) number = omega (arith, length-append (last_digits count (number / 10)) ((48 + number % 10) ∷ []), digits_sized count (number / 10))

identity_short : (row : Row) (realm : List ℕ) → IsRow row → IsRealm realm → length (sim_identity row.imsi realm) ≤ 1016
identity_short row realm is has_realm =
    let size : length (digits_of row.imsi) ≡ row.imsi.digits = digits_sized row.imsi.digits row.imsi.number in
    let most = is.identity.most in
    realm_short (49 ∷ digits_of row.imsi) realm (let whole : length (49 ∷ digits_of row.imsi) ≡ suc (length (digits_of row.imsi)) = refl in omega (arith, whole, size, most)) has_realm.short

-- ---- a line

module _ (laws : Laws) (set : Setting) (are : AreSubscribers set.rows) (realm : IsRealm set.realm) where
  are_matched : (row : Row) (l : SimValue) (numbers : List ℕ) → slice_get set.rows l.sub ≡ Some row → IsSimValue l → length numbers ≡ l.count → AreMatched (sim_inputs set row l.sub numbers)
  are_matched row l numbers there is all =
      let size : length (triplets_of set row l.sub numbers) ≡ length numbers = length-map numbers (λ n. of_vector (vector_of_row set row l.sub n)) in
      let least = is.least in
      let most = is.most in
      record {
        cards = are_of_card laws.card set row l.sub numbers;
        least = omega (arith, size, all, least);
        most = omega (arith, size, all, most);
        rands = rands_sized set row l.sub numbers;
        nonce = nonce_sized set.key l.sub (slice_index numbers 0);
        short = identity_short row set.realm (row_is set.rows l.sub row are there) realm;
      }

  session_holds : (l : SimValue) (numbers : List ℕ) (lines : List LineRecord) → IsSimValue l → length numbers ≡ l.count → SimFollows set l numbers lines → HasSession set l numbers lines
  session_holds l numbers lines is all follows =
      let inputs = sim_inputs set follows.row l.sub numbers in
      let matched = are_matched follows.row l numbers follows.there is all in
      record {
        notes = follows.notes;
        lines_are = follows.lines_are;
        agree = laws.agree inputs l.schedule follows.notes matched follows.runs;
        complete = λ plain differ.
            laws.complete inputs follows.notes matched (subst (AllPairs ◌≢◌) (rands_are set follows.row l.sub numbers) differ)
            (subst (λ (s : SimSchedule). SimRuns inputs s follows.notes) plain follows.runs);
      }

  line_holds : (l : SimValue) (lines : List LineRecord) → IsSimValue l → SimGives set l lines → SimLineHolds set l lines
  line_holds l lines is gives = record {
    drawn = gives.drawn;
    rest = gives.rest;
    lines_are = gives.lines_are;
    draws = gives.draws;
    fewer = λ other. none (length numbers == l.count) refl other gives.follows;
    all = λ same.
        session_holds l numbers gives.rest is same (subst (λ (b : Bool). SimFollowsIf b set l numbers gives.rest) (eq-eqb (length numbers) l.count same) gives.follows);
  }
    where
      numbers : List ℕ
      numbers = numbers_of l.sub gives.drawn

      none : (all : Bool) → (length numbers == l.count) ≡ all → length numbers ≢ l.count → SimFollowsIf all set l numbers gives.rest → gives.rest ≡ []
      none false is other nothing = nothing
      none true is other follows = absurd (other (eqb-true (length numbers) l.count is))

  -- ---- jobs, rounds and transcripts

  job_holds : (before : Before) (start last : Net) (job : List Line) (records : List LineRecord) → JobGives set before start job records last → JobSimsHold set before start job records last
  job_holds before start last job records gives front back l cut is =
      let s = splits set before start front (line.Sim l ∷ back) records last (subst (λ (ls : List Line). JobGives set before start ls records last) cut gives) in
      let (own, rest, next, parts, (line_gives, same), more) = s.more in
      record {
        early = s.early;
        own = own;
        late = rest;
        records_are = s.cut ∙ ap (λ (ls : List LineRecord). s.early ++ ls) parts;
        net = s.mid;
        first = s.first;
        holds = line_holds l own is line_gives;
        rest = subst (λ (b : Before). JobGives set (behind b own) s.mid back rest last) s.after_is
            (subst (λ (w : Net). JobGives set (behind s.after own) w back rest last) same more);
      }

  jobs_hold : (early : List LineRecord) (kept : List Kept) (beside : List LineRecord) (jobs : List (List Line)) (records : List (List LineRecord)) (nets : List Net)
      → JobsGive set early kept beside jobs records nets → JobsSimsHold set early kept beside jobs records nets
  jobs_hold early kept beside [] [] [] gives = tt
  jobs_hold early kept beside [] [] (net ∷ nets) (none, is) = absurd (let no : ⊥ = cc in no)
  jobs_hold early kept beside [] (lines ∷ records) nets (none, is) = absurd (let no : ⊥ = cc in no)
  jobs_hold early kept beside (job ∷ jobs) [] nets gives = absurd gives
  jobs_hold early kept beside (job ∷ jobs) (lines ∷ records) [] gives = absurd gives
  jobs_hold early kept beside (job ∷ jobs) (lines ∷ records) (net ∷ nets) (gives, more) = (
    job_holds (record { early = early; beside = beside; own = [] }) (start_of set kept job) net job lines gives,
    jobs_hold early kept (beside ++ lines) jobs records nets more,
  )

  parts_hold : (early : List LineRecord) (kept : List Kept) (parts : List Part) (records : List PartRecord) (nets : List (List Net)) → AreNetsAfter set early kept parts records nets
      → SimSessionsAgreeAfter set early kept parts records nets
  parts_hold early kept [] records nets gives = tt
  parts_hold early kept (part.Round jobs ∷ parts) [] nets gives = absurd gives
  parts_hold early kept (part.Round jobs ∷ parts) (record_of.Restart ∷ records) nets gives = absurd gives
  parts_hold early kept (part.Round jobs ∷ parts) (record_of.Round round ∷ records) [] gives = absurd gives
  parts_hold early kept (part.Round jobs ∷ parts) (record_of.Round round ∷ records) (first ∷ nets) (gives, more) = (
    jobs_hold early kept [] jobs round.jobs first gives,
    parts_hold (early ++ all_lines round.jobs) (kept_by_jobs kept first) parts records nets more,
  )
  parts_hold early kept (part.Restart ∷ parts) [] nets gives = absurd gives
  parts_hold early kept (part.Restart ∷ parts) (record_of.Round round ∷ records) nets gives = absurd gives
  parts_hold early kept (part.Restart ∷ parts) (record_of.Restart ∷ records) nets gives = parts_hold early kept parts records nets gives

-- the law
pub each_sim_session_agrees : Laws → EachSimSessionAgrees
each_sim_session_agrees laws set parts records nets are realm lead = parts_hold laws set are realm [] (map (λ (row : Row). fresh_kept) set.rows) parts records nets lead
