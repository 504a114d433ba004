-- What a turn asks a centre for: a resynchronisation and then a number, or nothing.
use Rattle.std.proofs.Common.{◌≡◌, ◌≢◌, ℕ, true, false, List, [], ◌++◌, Option, Some, None, is_some, refl, sym, ◌∙◌, subst}
use Rattle.auc_memory.specs.declared.stop.Stop.{Stop}
use Rattle.auc_history.specs.declared.entry.Entry.{Entry}
use Rattle.auc_vector.specs.Notes.{AnswersNote, AnswersNumber, AnswersReport, AskedOf, entries_noted, entries_resynced, kept_noted, withheld_noted}
use Rattle.auc_vector.specs.declared.notes.Notes.{Notes}
use Rattle.auc_vector.specs.declared.notes.NumberNote.{NumberNote}
use Rattle.auc_vector.specs.declared.notes.NumberNote.TheVariants as number
use Rattle.auc_vector.specs.declared.notes.ResyncNote.{ResyncNote}
use Rattle.auc_vector.specs.declared.notes.ResyncNote.TheVariants as resync
use Rattle.auc_vector.specs.declared.turn.Turn.{Turn}
use Rattle.auc_server.specs.InnerAsking.{IsRedrawn, number_noted, resync_noted}
use Rattle.auc_server.specs.InnerServer.{IsNumbered}
use Rattle.auc_server.specs.Server.{ServerEnd}
use Rattle.auc_subs.specs.Setting.{Setting}
use Rattle.auc_server.specs.Steps.{challenges_again}
use Rattle.auc_server.specs.Table.{challenged, noted, resynchronised, resynchronising}
use Rattle.auc_server.specs.declared.asking.Redrawn.{Redrawn}
use Rattle.auc_server.specs.declared.asking.Redrawn.TheVariants as redrawn
use Rattle.auc_server.specs.declared.plan.Plan.{Plan}
use Rattle.auc_server.specs.declared.setting.HomeRow.{HomeRow}
use Rattle.auc_vector.specs.declared.why.ServerWhy.{ServerWhy}

-- a centre draws a number of the subscriber
pub numbered : (top : ℕ) (kept : Option ℕ) (drawn : NumberNote) → AnswersNote top kept drawn → IsNumbered top drawn
numbered top kept (number.Drew n) answer = (answer.1, answer.2)
numbered top kept (number.Exhausted w) answer = tt
numbered top kept (number.Withheld n stop) answer = tt

-- an answer to a SEQ lets the USIM be challenged again, unless the number is too far above the SEQ
pub again_unless : (kept : Option ℕ) (seq : ℕ) (r : ResyncNote) → AnswersReport kept (Some seq) (Some r) → ((seen at : ℕ) → r ≡ resync.Beyond seen at → ⊥)
    → challenges_again (Some r) ≡ true
again_unless kept seq (resync.Moved seen at) answer beyond = refl
again_unless kept seq (resync.InRange seen at) answer beyond = refl
again_unless kept seq (resync.Beyond seen at) answer beyond = absurd (beyond seen at refl)
again_unless kept seq resync.BadAuts answer beyond = absurd answer

again_step : (set : Setting) (homes : List HomeRow) (s : ServerEnd) (sub : ℕ) (r : ResyncNote) (d : NumberNote) → challenges_again (Some r) ≡ true
    → challenged set homes (resynchronising s) sub false (Some r) (Some d) ≡ resynchronised set homes s sub (Some r) (Some d)
again_step set homes s sub (resync.Moved seen at) d again = refl
again_step set homes s sub (resync.InRange seen at) d again = refl
again_step set homes s sub (resync.Beyond seen at) d again = absurd cc
again_step set homes s sub resync.BadAuts d again = absurd cc

-- a challenge after a resynchronisation is the table's
pub challenged_again : (set : Setting) (homes : List HomeRow) (s new : ServerEnd) (turn : Turn ServerWhy) (sub top : ℕ) (answered : Redrawn) (r : ResyncNote) (d : NumberNote)
    → answered ≡ redrawn.Again r d → IsRedrawn top answered → (new, turn) ≡ challenged set homes (resynchronising s) sub false (Some r) (Some d)
    → (new, turn) ≡ resynchronised set homes s sub (resync_noted answered) (number_noted answered)
challenged_again set homes s new turn sub top answered r d is own step =
    subst (λ (a : Redrawn). (new, turn) ≡ resynchronised set homes s sub (resync_noted a) (number_noted a)) (sym is)
    (step ∙ again_step set homes s sub r d (subst (IsRedrawn top) is own).0)

-- a number was asked for exactly if the USIM is challenged again
pub draws_again : (top : ℕ) (answered : Redrawn) → IsRedrawn top answered → is_some (number_noted answered) ≡ challenges_again (resync_noted answered)
draws_again top (redrawn.Again r d) own = sym own.0
draws_again top (redrawn.Beyond seen at) own = refl

-- what holds of a plan and of notes holds of equal ones
pub as_noted : (P : Plan → Notes → Type 0) (p is : Plan) (notes are : Notes) → p ≡ is → notes ≡ are → P is are → P p notes
as_noted P p is notes are same alike holds = subst (λ (x : Plan). P x notes) (sym same) (subst (λ (n : Notes). P is n) (sym alike) holds)

module _ {S : Type 0} (goes : S → ℕ → List Entry → List (ℕ × Stop) → S → Type 0) (kept : S → ℕ → Option ℕ) (top : S → ℕ → ℕ) where
  -- a number alone was asked for
  pub asked_once : (a b : S) (sub : ℕ) (d : NumberNote) → AnswersNote (top a sub) (kept a sub) d
      → goes a sub (entries_noted (kept a sub) (Some d)) (withheld_noted (Some d)) b → ((i : ℕ) → i ≢ sub → goes a i [] [] b)
      → kept b sub ≡ kept_noted (kept a sub) (Some d) → ((i : ℕ) → i ≢ sub → kept b i ≡ kept a i)
      → AskedOf goes kept top (record { sub = sub; reported = None }) (noted None (Some d)) a b
  asked_once a b sub d answer own others keeps still = record {
    own = own;
    others = others;
    resynced = tt;
    number = answer;
    keeps = keeps;
    still = still;
  }

module _ {S : Type 0} (goes : S → ℕ → List Entry → List (ℕ × Stop) → S → Type 0) (kept : S → ℕ → Option ℕ) (top : S → ℕ → ℕ)
    (joins : (a b c : S) (i : ℕ) (es fs : List Entry) (ws vs : List (ℕ × Stop)) → goes a i es ws b → goes b i fs vs c → goes a i (es ++ fs) (ws ++ vs) c) where
  pub asked_twice : (a b c : S) (sub seq : ℕ) (notes : Notes) (r : ResyncNote) → notes.resync ≡ Some r
      → ((i : ℕ) → kept b i ≡ kept a i) → ((i : ℕ) → top b i ≡ top a i) → AnswersReport (kept a sub) (Some seq) (Some r)
      → goes a sub (entries_resynced (kept a sub) (Some r)) [] b → ((i : ℕ) → i ≢ sub → goes a i [] [] b)
      → AnswersNumber (top b sub) (kept b sub) notes.number
      → goes b sub (entries_noted (kept b sub) notes.number) (withheld_noted notes.number) c → ((i : ℕ) → i ≢ sub → goes b i [] [] c)
      → kept c sub ≡ kept_noted (kept b sub) notes.number → ((i : ℕ) → i ≢ sub → kept c i ≡ kept b i)
      → AskedOf goes kept top (record { sub = sub; reported = Some seq }) notes a c
  asked_twice a b c sub seq notes r is same alike answer first others drawn second later keeps still =
      let entries : List Entry = entries_resynced (kept a sub) (Some r) in
      let both = joins a b c sub entries (entries_noted (kept a sub) notes.number) [] (withheld_noted notes.number) first
      (subst (λ (k : Option ℕ). goes b sub (entries_noted k notes.number) (withheld_noted notes.number) c) (same sub) second) in
      record {
        own = subst (λ (n : Option ResyncNote). goes a sub (entries_resynced (kept a sub) n ++ entries_noted (kept a sub) notes.number) (withheld_noted notes.number) c) (sym is) both;
        others = λ i other. joins a b c i [] [] [] [] (others i other) (later i other);
        resynced = subst (λ (n : Option ResyncNote). AnswersReport (kept a sub) (Some seq) n) (sym is) answer;
        number = subst (λ (t : ℕ). AnswersNumber t (kept a sub) notes.number) (alike sub) (subst (λ (k : Option ℕ). AnswersNumber (top b sub) k notes.number) (same sub) drawn);
        keeps = subst (λ (k : Option ℕ). kept c sub ≡ kept_noted k notes.number) (same sub) keeps;
        still = λ i other. still i other ∙ same i;
      }
