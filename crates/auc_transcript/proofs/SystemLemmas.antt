-- The law of 5G: an authentication in which nothing happens to RES* on its way is confirmed exactly if the USIM accepts.
use Rattle.std.proofs.Common.{◌≡◌, ◌≢◌, ℕ, ◌≤◌, Bool, true, false, List, [], ◌∷◌, ◌++◌, length, take, map, Option, Some, None, refl, sym, ap, ◌∙◌, subst, arith, append_assoc}
use Rattle.std.specs.Prelude.{if◌then◌else◌, nat_le, not, slice_index}
use Rattle.std.specs.Str.{bytes_eq}
use Rattle.std.proofs.lemmas.Bool.{eq-eqb, or_right}
use Rattle.std.proofs.lemmas.List.{take_at}
use Rattle.std.proofs.lemmas.Slice.Eq.{bytes_eq-Decides}
use Rattle.auc_5g.specs.Agree.{Agree, EachDeviceAgreesWithItsHome}
use Rattle.auc_5g.specs.Keys.{front_of, home_of}
use Rattle.auc_5g.specs.declared.device_keys.DeviceKeys.{DeviceKeys}
use Rattle.auc_5g.specs.declared.home_keys.HomeKeys.{HomeKeys}
use Rattle.auc_aes.specs.Bytes.{xor}
use Rattle.auc_aes.proofs.Facts.{length_xor}
use Rattle.auc_history.specs.Split.{times}
use Rattle.auc_history.proofs.Facts.{times_at}
use Rattle.auc_lines.specs.declared.part.FivegLine.{FivegLine}
use Rattle.auc_lines.specs.declared.part.Line.{Line}
use Rattle.auc_lines.specs.declared.part.Line.TheVariants as line
use Rattle.auc_lines.specs.declared.part.Part.{Part}
use Rattle.auc_lines.specs.declared.part.Part.TheVariants as part
use Rattle.auc_milenage.specs.Milenage.{f1, f5}
use Rattle.auc_milenage.proofs.Facts.{f5_size}
use Rattle.auc_random.specs.Random.{rand_of}
use Rattle.auc_request.specs.Request.{is_separated}
use Rattle.auc_sqn.specs.Number.{sqn_bytes}
use Rattle.auc_sqn.specs.Past.{Past}
use Rattle.auc_sqn.specs.declared.verdict.Verdict.{Verdict}
use Rattle.auc_sqn.specs.declared.verdict.Verdict.TheVariants.{Fresh, Old, Far, Aged}
use Rattle.auc_subs.specs.Subscriber.{AreSubscribers, IsRow}
use Rattle.auc_subs.specs.declared.row.Row.{Row}
use Rattle.auc_vector.specs.Vector.{autn_of}
use Rattle.auc_world.specs.Given.{Authenticates, AuthenticatesIf, Before, FivegFollows, IsGiven, JobGives, JobsGive, UsimAnswers, behind, device_of_row, hxres_lines, is_released, judged_lines, outcome_of, past_before, turned, verdict_by}
use Rattle.auc_record.specs.Draws.{OneGives}
use Rattle.auc_record.specs.Event.{number_released}
use Rattle.auc_record.specs.Lines.{is_in, all_lines, numbers_of}
use Rattle.auc_world.specs.Net.{Net}
use Rattle.auc_subs.specs.Setting.{Setting}
use Rattle.auc_world.specs.Start.{Kept, fresh_kept, kept_by_jobs, start_of}
use Rattle.auc_record.specs.VectorAt.{vector_of_row}
use Rattle.auc_record.specs.declared.further.FivegOutcome.{FivegOutcome}
use Rattle.auc_record.specs.declared.further.FivegOutcome.TheVariants as fiveg
use Rattle.auc_record.specs.declared.further.Further.TheVariants as further
use Rattle.auc_record.specs.declared.record.GiveVerdict.{GiveVerdict}
use Rattle.auc_record.specs.declared.record.GiveVerdict.TheVariants as given
use Rattle.auc_record.specs.declared.record.LineRecord.{LineRecord}
use Rattle.auc_record.specs.declared.record.LineRecord.TheVariants.{Number, Sync, Give, Further, Event}
use Rattle.auc_vector.specs.declared.notes.NumberNote.TheVariants as number
use Rattle.auc_record.specs.declared.record.PartRecord.{PartRecord}
use Rattle.auc_record.specs.declared.record.PartRecord.TheVariants as record_of
use Rattle.auc_transcript.specs.Keys.{AreNetsAfter}
use Rattle.auc_transcript.specs.Systems.{AuthenticationsAreConfirmedAfter, EachHonestAuthenticationIsConfirmed, IsAnsweredWith, IsConfirmed, IsHonest, JobConfirms, JobsConfirm, confirmed_lines, has_separation}
use Rattle.auc_transcript.proofs.DeviceEventLemmas.{row_is}
use Rattle.auc_transcript.proofs.LineLemmas.{is_in-from_times, times-numbers-append}
use Rattle.auc_transcript.proofs.PlainLineLemmas.{splits}

-- ---- AUTN

-- where a list ends, the next one begins
at_end : (front rest : List ℕ) → slice_index (front ++ rest) (length front) ≡ slice_index rest 0
at_end [] rest = refl
at_end (x ∷ front) rest = at_end front rest

begins : (amf mac : List ℕ) → length amf ≡ 2 → slice_index (amf ++ mac) 0 ≡ slice_index amf 0
begins [] mac two = absurd (omega (arith, two))
begins (x ∷ rest) mac two = refl

-- the masked SQN has 6 bytes
masked_size : (row : Row) (rand : List ℕ) (n : ℕ) → IsRow row → length (xor (sqn_bytes row.bits n) (f5 row.secret.k row.secret.opc rand)) ≡ 6
masked_size row rand n is =
    let six : length (sqn_bytes row.bits n) ≡ 6 = refl in
    length_xor (sqn_bytes row.bits n) (f5 row.secret.k row.secret.opc rand) (six ∙ sym (f5_size row.secret.k row.secret.opc rand is.key is.operator)) ∙ six

-- AUTN begins with it
masked_is : (row : Row) (rand : List ℕ) (n : ℕ) → IsRow row
    → xor (sqn_bytes row.bits n) (f5 row.secret.k row.secret.opc rand) ≡ take 6 (autn_of row.secret.k row.secret.opc rand row.amf row.bits n)
unfolding autn_of
masked_is row rand n is =
    let masked = xor (sqn_bytes row.bits n) (f5 row.secret.k row.secret.opc rand) in
    let mac = f1 row.secret.k row.secret.opc rand (sqn_bytes row.bits n) row.amf in
    sym (ap (take 6) (append_assoc masked row.amf mac) ∙ take_at masked (row.amf ++ mac) 6 (masked_size row rand n is))

-- and AMF stands behind it
separation_is : (row : Row) (rand : List ℕ) (n : ℕ) → IsRow row → is_separated (autn_of row.secret.k row.secret.opc rand row.amf row.bits n) ≡ has_separation row
unfolding autn_of
separation_is row rand n is =
    let masked = xor (sqn_bytes row.bits n) (f5 row.secret.k row.secret.opc rand) in
    let mac = f1 row.secret.k row.secret.opc rand (sqn_bytes row.bits n) row.amf in
    let rest = row.amf ++ mac in
    ap (nat_le 128)
    (ap (λ (l : List ℕ). slice_index l 6) (append_assoc masked row.amf mac) ∙ ap (slice_index (masked ++ rest)) (sym (masked_size row rand n is))
    ∙ at_end masked rest ∙ begins row.amf mac is.management)

-- ---- what follows a vector

-- the device of an authentication with one name has the home network's values
honest_agrees : EachDeviceAgreesWithItsHome → (set : Setting) (row : Row) (l : FivegLine) (n : ℕ) → IsRow row → l.home ≡ l.device
    → Agree (home_of (vector_of_row set row l.sub n) l.home) (device_of_row row n (rand_of set.key l.sub n) l.device)
honest_agrees law set row l n is named =
    let rand = rand_of set.key l.sub n in
    subst (λ (name : List ℕ). Agree (home_of (vector_of_row set row l.sub n) l.home) (device_of_row row n rand name)) named
    (law (vector_of_row set row l.sub n) (f5 row.secret.k row.secret.opc rand) (sqn_bytes row.bits n) l.home (masked_is row rand n is))

-- the networks confirm its RES*
confirms : (home : HomeKeys) (device : DeviceKeys) → Agree home device → front_of home.rand home.xres_star ≡ home.hxres_star
    → outcome_of home device device.res_star ≡ fiveg.Confirmed home.k_seaf home.k_seaf
confirms home device agree half =
    ap (outcome_of home device) agree.star
    ∙ ap (λ (b : Bool). if not b then fiveg.ServingRefused else by_home (bytes_eq home.xres_star home.xres_star)) (one (front_of home.rand home.xres_star) home.hxres_star half)
    ∙ ap by_home (one home.xres_star home.xres_star refl) ∙ ap (fiveg.Confirmed home.k_seaf) agree.seaf
  where
    by_home : Bool → FivegOutcome
    by_home b = if not b then fiveg.HomeRefused else fiveg.Confirmed home.k_seaf device.k_seaf

    one : (xs ys : List ℕ) → xs ≡ ys → bytes_eq xs ys ≡ true
    one xs ys same = (bytes_eq-Decides xs ys).1 same

judged_is : (l : FivegLine) (home : HomeKeys) (device : DeviceKeys) (answer : GiveVerdict) → l.bit ≡ None → Agree home device → front_of home.rand home.xres_star ≡ home.hxres_star
    → judged_lines l home device answer ≡ confirmed_lines l home answer
judged_is l home device given.Accepted untouched agree half =
    ap (λ (outcome : FivegOutcome). hxres_lines l.hxres home ++ Further (further.Fiveg l.sub outcome) ∷ [])
    (ap (λ (bit : Option ℕ). outcome_of home device (turned bit device.res_star)) untouched ∙ confirms home device agree half)
judged_is l home device (given.Sync sqn_ms) untouched agree half = refl
judged_is l home device given.Absent untouched agree half = refl

-- a vector that was released just before is there
is_there : (before : Before) (sub n : ℕ) → is_released (behind before (Number sub (number.Drew n) ∷ [])) sub n ≡ true
is_there before sub n =
    let here : numbers_of sub (Number sub (number.Drew n) ∷ []) ≡ n ∷ [] = ap (λ (b : Bool). number_released (if b then Some (number.Drew n) else None) ++ []) (eq-eqb sub sub refl) in
    let once : 1 ≤ times n (numbers_of sub (Number sub (number.Drew n) ∷ [])) = subst (λ (ns : List ℕ). 1 ≤ times n ns) (sym here) (times_at (n ∷ []) 0 n (omega arith)) in
    let cut = times-numbers-append n sub before.own (Number sub (number.Drew n) ∷ []) in
    or_right (is_in n (numbers_of sub before.early)) (is_in n (numbers_of sub (before.own ++ Number sub (number.Drew n) ∷ [])))
    (is_in-from_times n (numbers_of sub (before.own ++ Number sub (number.Drew n) ∷ [])) (omega (arith, cut, once)))

-- so its USIM answers
answers : (bits : ℕ) (v : Verdict) (past : Past) (answer : GiveVerdict) → UsimAnswers bits v past answer → answer ≢ given.Absent
answers bits Fresh past answer is same = let no : ⊥ = cc in no
answers bits (Old entry) past answer (sqn_ms, highest, is) same = let no : ⊥ = cc in no
answers bits (Far greatest) past answer (sqn_ms, highest, is) same = let no : ⊥ = cc in no
answers bits (Aged greatest) past answer (sqn_ms, highest, is) same = let no : ⊥ = cc in no

present : (row : Row) (b : Bool) (past : Past) (n : ℕ) (answer : GiveVerdict) → b ≡ true → IsGiven row b past n answer → answer ≢ given.Absent
present row true past n answer is given = answers row.bits (verdict_by row past n) past answer given
present row false past n answer is given = absurd (let no : ⊥ = cc in no)

follows_confirmed : EachDeviceAgreesWithItsHome → (set : Setting) (before : Before) (l : FivegLine) (n : ℕ) (lines : List LineRecord) → AreSubscribers set.rows → IsHonest l
    → FivegFollows set (behind before (Number l.sub (number.Drew n) ∷ [])) l n lines → IsConfirmed set l n lines
follows_confirmed law set before l n lines are honest f = record {
  row = row;
  there = f.there;
  agree = agree;
  clear = λ clear. subst (λ (b : Bool). AuthenticatesIf b set place l row n lines) (bit ∙ clear) f.follows;
  separated = λ separated. answered (subst (λ (b : Bool). AuthenticatesIf b set place l row n lines) (bit ∙ separated) f.follows);
}
  where
    row : Row
    row = f.row

    place : Before
    place = behind before (Number l.sub (number.Drew n) ∷ [])

    home : HomeKeys
    home = home_of (vector_of_row set row l.sub n) l.home

    device : DeviceKeys
    device = device_of_row row n (rand_of set.key l.sub n) l.device

    is : IsRow row
    is = row_is set.rows l.sub row are f.there

    bit : is_separated (vector_of_row set row l.sub n).autn ≡ has_separation row
    bit = separation_is row (rand_of set.key l.sub n) n is

    agree : Agree home device
    agree = honest_agrees law set row l n is honest.named

    answered : Authenticates set place l row n lines → IsAnsweredWith l n home lines
    answered a = (
      a.gives.answer,
      present a.gives.row (is_released place l.sub n) (past_before place a.gives.row l.sub) n a.gives.answer (is_there before l.sub n) a.gives.given,
      a.lines_are ∙ ap (λ (ls : List LineRecord). ls ++ a.more) a.gives.lines_are
          ∙ ap (λ (ls : List LineRecord). Give l.sub n a.gives.answer ∷ ls) (a.judged ∙ judged_is l home device a.gives.answer honest.untouched agree refl),
    )

-- a request for a vector, if more is known of what follows
one_more : (set : Setting) (sub : ℕ) (F G : ℕ → List LineRecord → Type 0) (lines : List LineRecord) → ((n : ℕ) (rest : List LineRecord) → F n rest → G n rest) → OneGives set sub F lines
    → OneGives set sub G lines
one_more set sub F G [] more gives = absurd gives
one_more set sub F G (Number s (number.Drew n) ∷ lines) more (same, is, follows) = (same, is, more n lines follows)
one_more set sub F G (Number s (number.Withheld n stop) ∷ lines) more gives = gives
one_more set sub F G (Number s (number.Exhausted word) ∷ lines) more gives = gives
one_more set sub F G (Sync s answer ∷ lines) more gives = absurd gives
one_more set sub F G (Give s n answer ∷ lines) more gives = absurd gives
one_more set sub F G (Further said ∷ lines) more gives = absurd gives
one_more set sub F G (Event r ∷ lines) more gives = absurd gives

-- ---- jobs, rounds and transcripts

module _ (law : EachDeviceAgreesWithItsHome) (set : Setting) (are : AreSubscribers set.rows) where
  job_confirms : (before : Before) (start last : Net) (job : List Line) (records : List LineRecord) → JobGives set before start job records last → JobConfirms set before start job records last
  job_confirms before start last job records gives front back l cut honest =
      let s = splits set before start front (line.Fiveg l ∷ back) records last (subst (λ (ls : List Line). JobGives set before start ls records last) cut gives) in
      let (own, rest, next, parts, (line_gives, same), more) = s.more in
      record {
        early = s.early;
        own = own;
        late = rest;
        records_are = s.cut ∙ ap (λ (ls : List LineRecord). s.early ++ ls) parts;
        net = s.mid;
        first = s.first;
        holds = one_more set l.sub (λ n lines. FivegFollows set (behind s.after (Number l.sub (number.Drew n) ∷ [])) l n lines) (λ n lines. IsConfirmed set l n lines) own
            (λ n lines f. follows_confirmed law set s.after l n lines are honest f) line_gives;
        rest = subst (λ (b : Before). JobGives set (behind b own) s.mid back rest last) s.after_is
            (subst (λ (w : Net). JobGives set (behind s.after own) w back rest last) same more);
      }

  jobs_confirm : (early : List LineRecord) (kept : List Kept) (beside : List LineRecord) (jobs : List (List Line)) (records : List (List LineRecord)) (nets : List Net)
      → JobsGive set early kept beside jobs records nets → JobsConfirm set early kept beside jobs records nets
  jobs_confirm early kept beside [] [] [] gives = tt
  jobs_confirm early kept beside [] [] (net ∷ nets) (none, is) = absurd (let no : ⊥ = cc in no)
  jobs_confirm early kept beside [] (lines ∷ records) nets (none, is) = absurd (let no : ⊥ = cc in no)
  jobs_confirm early kept beside (job ∷ jobs) [] nets gives = absurd gives
  jobs_confirm early kept beside (job ∷ jobs) (lines ∷ records) [] gives = absurd gives
  jobs_confirm early kept beside (job ∷ jobs) (lines ∷ records) (net ∷ nets) (gives, more) = (
    job_confirms (record { early = early; beside = beside; own = [] }) (start_of set kept job) net job lines gives,
    jobs_confirm early kept (beside ++ lines) jobs records nets more,
  )

  confirmed_after : (early : List LineRecord) (kept : List Kept) (parts : List Part) (records : List PartRecord) (nets : List (List Net)) → AreNetsAfter set early kept parts records nets
      → AuthenticationsAreConfirmedAfter set early kept parts records nets
  confirmed_after early kept [] records nets gives = tt
  confirmed_after early kept (part.Round jobs ∷ parts) [] nets gives = absurd gives
  confirmed_after early kept (part.Round jobs ∷ parts) (record_of.Restart ∷ records) nets gives = absurd gives
  confirmed_after early kept (part.Round jobs ∷ parts) (record_of.Round round ∷ records) [] gives = absurd gives
  confirmed_after early kept (part.Round jobs ∷ parts) (record_of.Round round ∷ records) (first ∷ nets) (gives, more) = (
    jobs_confirm early kept [] jobs round.jobs first gives,
    confirmed_after (early ++ all_lines round.jobs) (kept_by_jobs kept first) parts records nets more,
  )
  confirmed_after early kept (part.Restart ∷ parts) [] nets gives = absurd gives
  confirmed_after early kept (part.Restart ∷ parts) (record_of.Round round ∷ records) nets gives = absurd gives
  confirmed_after early kept (part.Restart ∷ parts) (record_of.Restart ∷ records) nets gives = confirmed_after early kept parts records nets gives

-- the law
pub each_honest_authentication_is_confirmed : EachDeviceAgreesWithItsHome → EachHonestAuthenticationIsConfirmed
each_honest_authentication_is_confirmed law set parts records nets are lead =
    confirmed_after law set are [] (map (λ (row : Row). fresh_kept) set.rows) parts records nets lead
