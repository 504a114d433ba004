-- For a job that a worker serves at a centre: from what the workers share to the worker, and back.
use Rattle.std.proofs.Common.{◌≡◌, ℕ, ◌<◌, List, [], length, map, get_or, Some, slice_get, refl, sym, ap, ◌∙◌, subst}
use Rattle.std.specs.Prelude.{Option, Result, Ok, Err, IfOk, if◌then◌else◌}
use Rattle.std.proofs.lemmas.Option.{slice_get_read}
use Rattle.auc_memory.specs.declared.no_memory.NoMemory.{NoMemory}
use Rattle.auc_memory.specs.declared.stop.Stop.{Stop}
use Rattle.auc_history.specs.declared.entry.Entry.{Entry}
use Rattle.auc_lines.specs.declared.part.Line.{Line}
use Rattle.auc_record.specs.declared.record.LineRecord.{LineRecord}
use Rattle.auc_subs.specs.Setting.{Setting}
use Rattle.auc_record.specs.Vectors.{vectors_in}
use Rattle.auc_jobs.specs.declared.jobs.ServedJob.{ServedJob}
use Rattle.auc_record.specs.Released.{Released}
use Rattle.auc_jobs.specs.InnerRound.{JobBegins, ServesJob}
use Rattle.auc_jobs.specs.InnerSharing.{Shared, BeginsAt, IsServable, ServesAt}
use Rattle.auc_jobs.specs.Serving.{AreAllKnown, AreKnown}
use Rattle.auc_jobs.specs.Usims.{HaveSecrets}
use Rattle.auc_jobs.proofs.LineLemmas.{all_at}
use Rattle.auc_world.specs.World.{WorldState, usim_of}
use Rattle.auc_jobs.specs.InnerWorker.{WorkerState}
use Rattle.auc_jobs.proofs.WorkerLemmas.{Does, Ends, does_job}
use Rattle.auc_world.specs.Sessions.{job_sessions}

-- the job of a place
pub job_at : (inside shared : Shared) (job : ℕ) (item asked : List Line) → inside ≡ shared → job < length shared.jobs → item ≡ get_or inside.jobs job item → asked ≡ get_or inside.jobs job item
    → slice_get inside.jobs job ≡ Some asked
job_at inside shared job item asked is within there read =
    slice_get_read inside.jobs (length inside.jobs) job item refl (subst (λ (s : Shared). job < length s.jobs) (sym is) within) there ∙ ap Some (there ∙ sym read)

-- it begins
pub job_begins_at : (inside shared : Shared) (early beside : List LineRecord) (kept now : ℕ → Option ℕ) (job : ℕ) (set : Setting) (released : Released) (asked : List Line)
    → inside ≡ shared → set ≡ inside.set → released ≡ inside.state.released → now ≡ kept → slice_get inside.jobs job ≡ Some asked → BeginsAt shared early beside kept job
    → JobBegins set.rows early beside now released inside.state.usims asked
job_begins_at inside shared early beside kept now job set released asked is same_set same_released same_kept there begins =
    let at : BeginsAt inside early beside kept job = subst (λ (s : Shared). BeginsAt s early beside kept job) (sym is) begins in
    subst (λ (s : Setting). JobBegins s.rows early beside now released inside.state.usims asked) (sym same_set)
    (subst (λ (rs : Released). JobBegins inside.set.rows early beside now rs inside.state.usims asked) (sym same_released)
    (subst (λ (k : ℕ → Option ℕ). JobBegins inside.set.rows early beside k inside.state.released inside.state.usims asked) (sym same_kept) (at.begins asked there)))

-- and is served
module _ {C : Type 0} (kept : C → ℕ → Option ℕ) (goes : C → ℕ → List Entry → List (ℕ × Stop) → C → Type 0) where
  served_inside : (inside : Shared) (worker after : WorkerState C) (name next : ℕ) (job : ℕ) (asked : List Line) (served : ServedJob) → worker.set ≡ inside.set → worker.released ≡ inside.state.released
      → slice_get inside.jobs job ≡ Some asked → Does kept goes name next worker after inside.state.usims inside.state.kept asked → Ends worker after served.devices → served.lines ≡ after.lines
      → served.sessions ≡ job_sessions after.world.net → served.vectors ≡ (if inside.full then vectors_in inside.set served.lines else [])
      → ServesAt (λ i es ws. goes worker.centre i es ws after.centre) (kept worker.centre) (kept after.centre) inside job served
  served_inside inside worker after name next job asked served same_set same_released there does ends lines sessions vectors = record {
    asked = asked;
    there = there;
    serves = λ early beside begins.
        subst (λ (s : Setting). ServesJob (λ i es ws. goes worker.centre i es ws after.centre) s early beside (kept after.centre) inside.state.kept asked served.lines served.devices served.sessions) same_set
        (does_job kept goes name next worker after inside.state.usims inside.state.kept asked served.devices served.lines served.sessions does ends lines sessions early beside
        (subst (λ (s : Setting). JobBegins s.rows early beside (kept worker.centre) worker.released inside.state.usims asked) (sym same_set)
        (subst (λ (rs : Released). JobBegins inside.set.rows early beside (kept worker.centre) rs inside.state.usims asked) (sym same_released) begins)));
    vectors = vectors;
  }

  pub served_at : (inside shared : Shared) (worker after : WorkerState C) (name next : ℕ) (first last : C) (job : ℕ) (asked : List Line) (served : ServedJob) → inside ≡ shared
      → worker.set ≡ inside.set → worker.released ≡ inside.state.released → worker.centre ≡ first → after.centre ≡ last → slice_get inside.jobs job ≡ Some asked
      → Does kept goes name next worker after inside.state.usims inside.state.kept asked → Ends worker after served.devices → served.lines ≡ after.lines → served.sessions ≡ job_sessions after.world.net
      → served.vectors ≡ (if inside.full then vectors_in inside.set served.lines else []) → ServesAt (λ i es ws. goes first i es ws last) (kept first) (kept last) shared job served
  served_at inside shared worker after name next first last job asked served is same_set same_released begun ended there does ends lines sessions vectors =
      subst (λ (s : Shared). ServesAt (λ i es ws. goes first i es ws last) (kept first) (kept last) s job served) is
      (subst (λ (x : C). ServesAt (λ i es ws. goes x i es ws last) (kept x) (kept last) inside job served) begun
      (subst (λ (x : C). ServesAt (λ i es ws. goes worker.centre i es ws x) (kept worker.centre) (kept x) inside job served) ended
      (served_inside inside worker after name next job asked served same_set same_released there does ends lines sessions vectors)))

  pub served_result : (inside shared : Shared) (worker after : WorkerState C) (name next : ℕ) (first last : C) (job : ℕ) (asked : List Line) (lines : List LineRecord) (world : WorldState)
      (result : Result ServedJob NoMemory) → inside ≡ shared → worker.set ≡ inside.set → worker.released ≡ inside.state.released → worker.centre ≡ first → after.centre ≡ last
      → slice_get inside.jobs job ≡ Some asked → Does kept goes name next worker after inside.state.usims inside.state.kept asked → lines ≡ after.lines → world ≡ after.world
      → HaveSecrets after.set.rows (usim_of after.set.rows world) → IfOk result (λ s. s.lines ≡ lines) → IfOk result (λ s. s.devices.homes ≡ world.net.homes)
      → IfOk result (λ s. s.devices.devices ≡ world.devices) → IfOk result (λ s. map (λ device. device.store) s.devices.devices ≡ world.net.stores)
      → IfOk result (λ s. s.sessions ≡ job_sessions world.net)
      → IfOk result (λ s. s.vectors ≡ (if inside.full then vectors_in inside.set lines else []))
      → IfOk result (λ s. ServesAt (λ i es ws. goes first i es ws last) (kept first) (kept last) shared job s)
  served_result inside shared worker after name next first last job asked lines world (Err why) is same_set same_released begun ended there does own moved secrets a b c stores d e = tt
  served_result inside shared worker after name next first last job asked lines world (Ok s) is same_set same_released begun ended there does own moved secrets a b c stores d e =
      served_at inside shared worker after name next first last job asked s is same_set same_released begun ended there does
      (record {
        homes = b ∙ ap (λ (w : WorldState). w.net.homes) moved;
        devices = c ∙ ap (λ (w : WorldState). w.devices) moved;
        stores = stores ∙ ap (λ (w : WorldState). w.net.stores) moved;
        secrets = subst (λ (w : WorldState). HaveSecrets after.set.rows (usim_of after.set.rows w)) moved secrets;
      })
      (a ∙ own) (d ∙ ap (λ (w : WorldState). job_sessions w.net) moved)
      (e ∙ ap (λ (ls : List LineRecord). if inside.full then vectors_in inside.set ls else []) (sym a))

-- the lines of the job of a place are known
pub known_at : (inside shared : Shared) (job : ℕ) (asked : List Line) → inside ≡ shared → IsServable shared → slice_get inside.jobs job ≡ Some asked → AreKnown inside.set.rows asked
known_at inside shared job asked is servable there =
    all_at (AreKnown inside.set.rows) inside.jobs job asked (subst (λ (s : Shared). AreAllKnown s.set.rows s.jobs) (sym is) servable.round.known) there
