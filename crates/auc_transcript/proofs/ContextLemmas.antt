-- The law of contexts: no counter is used twice, no identity is resumed twice, and each acceptance is of the own context.
use Rattle.std.proofs.Common.{◌≡◌, ℕ, zero, suc, List, [], ◌∷◌, length, map, All, AllPairs, None, refl, sym, subst, arith, append-nil}
use Rattle.std.proofs.lemmas.List.{length-map}
use Rattle.std.proofs.lemmas.List.Sorted.{IsPermutation-refl}
use Rattle.auc_hmac.specs.declared.method.Method.{Method}
use Rattle.auc_hmac.specs.declared.method.Method.TheVariants as method
use Rattle.auc_lines.specs.declared.part.Part.{Part}
use Rattle.auc_reauth.specs.Machine.{AreDifferent, EachCounterOnce, IsFresh}
use Rattle.auc_reauth.specs.Store.{entry}
use Rattle.auc_subs.specs.Subscriber.{AreSubscribers}
use Rattle.auc_subs.specs.declared.row.Row.{Row}
use Rattle.auc_world.specs.Net.{Net}
use Rattle.auc_world.specs.Places.{EachEventMovesDevicesOnce}
use Rattle.auc_world.specs.Resumption.{counters_accepted}
use Rattle.auc_subs.specs.Setting.{Setting}
use Rattle.auc_world.specs.Start.{Kept, fresh_kept, kept_of}
use Rattle.auc_world.specs.Transcript.{lines_of}
use Rattle.auc_record.specs.declared.record.PartRecord.{PartRecord}
use Rattle.auc_transcript.specs.Counters.{all_sessions}
use Rattle.auc_transcript.specs.Keys.{AreNets, IsHeldApart}
use Rattle.auc_transcript.proofs.DeviceFoldLemmas.{DeviceState, device_busy, device_idle}
use Rattle.auc_transcript.proofs.MoveFoldLemmas.{led_alike, led_counters_differ, led_to_nothing, stored_alone}
use Rattle.auc_transcript.proofs.RoundFoldLemmas.{rounds_fold}

-- ---- counters that devices accept

-- before the first round there is no context
pub kept_first : (rows : List Row) (sub : ℕ) → kept_of (map (λ (row : Row). fresh_kept) rows) sub ≡ fresh_kept
kept_first [] sub = refl
kept_first (row ∷ rows) zero = refl
kept_first (row ∷ rows) (suc sub) = kept_first rows sub

-- no device accepts a counter twice
pub counters_accepted_once : EachCounterOnce → EachEventMovesDevicesOnce → (set : Setting) (parts : List Part) (records : List PartRecord) (nets : List (List Net)) → AreSubscribers set.rows
    → All (IsHeldApart (length set.rows)) parts → AreNets set parts records nets → (m : Method) (sub : ℕ) → AllPairs AreDifferent (counters_accepted m sub (all_sessions nets))
counters_accepted_once once moves set parts records nets are held lead m sub =
    let (k, last) = rounds_fold set sub (lines_of records) (DeviceState m sub)
    (λ early kept beside job lines net k sessions gives known free st. device_idle set are m sub early kept beside job lines net k sessions gives known free st)
    (λ early kept beside job lines net all sessions gives known holds front size st. device_busy moves set are m sub early kept beside job lines net all sessions gives known holds size st)
    [] (map (λ (row : Row). fresh_kept) set.rows) parts records nets [] lead held ([], sym (append-nil (lines_of records))) (length-map set.rows (λ (row : Row). fresh_kept))
    (subst (λ (k : Kept). DeviceState m sub [] k []) (sym (kept_first set.rows sub)) begins) in
    led_counters_differ once IsFresh (stored_alone (entry m k.device.contexts)) (counters_accepted m sub (all_sessions nets)) last.origins last.given (λ move w fresh. fresh) last.led
  where
    nothing : (m : Method) (i : ℕ) → stored_alone (entry m fresh_kept.device.contexts) i ≡ None
    nothing method.Aka zero = refl
    nothing method.Prime zero = refl
    nothing m (suc t) = refl

    begins : DeviceState m sub [] fresh_kept []
    begins = record {
      origins = [];
      given = [];
      led = led_alike IsFresh (λ i. None) (stored_alone (entry m fresh_kept.device.contexts)) [] [] [] [] (nothing m) (IsPermutation-refl []) (led_to_nothing IsFresh);
      from = λ k d inside. absurd (omega arith);
    }
