-- For the loops over what the workers come to.
use Rattle.std.proofs.Common.{◌≡◌, ℕ, Bool, true, false, List, [], ◌∷◌, ◌++◌, map, All, flat_map, sym, ap, ◌∙◌, subst, append-nil, append_assoc, refl}
use Rattle.std.specs.Prelude.{if◌then◌else◌}
use Rattle.std.proofs.lemmas.Grind.{flat_map-append}
use Rattle.std.proofs.lemmas.List.{map-append}
use Rattle.std.proofs.lemmas.List.Elements.{All-cons, All-head, All-nil, All-push, All-tail}
use Rattle.atomic_table.specs.Seated.{TableId}
use Rattle.auc_draw.specs.Book.{IsOf}
use Rattle.auc_draw.specs.Values.{PassValue}
use Rattle.auc_vector.specs.declared.parts.Vector.{Vector as AuthVector}
use Rattle.auc_jobs.specs.declared.claiming.ClaimedJob.{ClaimedJob}
use Rattle.auc_jobs.specs.declared.claiming.WorkerJobs.{WorkerJobs}
use Rattle.auc_jobs.specs.InnerClaims.{AreCollected, IsDone}
use Rattle.auc_jobs.specs.InnerSharing.{Shared}

-- what some workers come to, and one more
pub collected_more : (all : List WorkerJobs) (d : WorkerJobs) (passes more : List PassValue) (done now : List ClaimedJob) → AreCollected all passes done → more ≡ passes ++ d.pass ∷ [] → now ≡ done ++ d.jobs.items
    → d.is_whole ≡ true → AreCollected (all ++ d ∷ []) more now
collected_more all d passes more done now are passed served whole = record {
  passed = passed ∙ ap (λ (ps : List PassValue). ps ++ d.pass ∷ []) are.passed ∙ sym (map-append (λ (x : WorkerJobs). x.pass) all (d ∷ []));
  served = served ∙ ap (λ (cs : List ClaimedJob). cs ++ d.jobs.items) are.served ∙ ap (λ (cs : List ClaimedJob). flat_map (λ (x : WorkerJobs). x.jobs.items) all ++ cs) (sym (append-nil d.jobs.items))
      ∙ sym (flat_map-append (λ (x : WorkerJobs). x.jobs.items) all (d ∷ []));
  whole = All-push (λ (x : WorkerJobs). x.is_whole ≡ true) all d are.whole whole;
}

-- the passes are the book's
pub passes_own : (id : TableId) (tops : List ℕ) (shared : Shared) (all : List WorkerJobs) (passes : List PassValue) → passes ≡ map (λ d. d.pass) all → All (IsDone id tops shared) all → All (IsOf id tops) passes
passes_own id tops shared all passes is done =
    subst (λ (ps : List PassValue). All (IsOf id tops) ps) (sym is) (each all done)
  where
    each : (ds : List WorkerJobs) → All (IsDone id tops shared) ds → All (IsOf id tops) (map (λ (d : WorkerJobs). d.pass) ds)
    each [] done = All-nil (IsOf id tops)
    each (d ∷ ds) done = All-cons (IsOf id tops) d.pass (map (λ (x : WorkerJobs). x.pass) ds) (All-head (IsDone id tops shared) d ds done).own (each ds (All-tail (IsDone id tops shared) d ds done))

-- an item that a loop took, before the items that are left
pub turned : {X : Type 0} (yielded rest more all : List X) (x : X) → yielded ++ rest ≡ all → rest ≡ x ∷ more → (yielded ++ x ∷ []) ++ more ≡ all
turned yielded rest more all x is left = append_assoc yielded (x ∷ []) more ∙ ap (λ (xs : List _). yielded ++ xs) (sym left) ∙ is

-- the vectors of some jobs and of one more
pub vectors_more : (full : Bool) (jobs : List ClaimedJob) (c : ClaimedJob) (old new : List (List AuthVector)) → old ≡ (if full then map (λ b. b.served.vectors) jobs else [])
    → new ≡ (if full then old ++ c.served.vectors ∷ [] else old) → new ≡ (if full then map (λ b. b.served.vectors) (jobs ++ c ∷ []) else [])
vectors_more true jobs c old new was is = is ∙ ap (λ (vs : List (List AuthVector)). vs ++ c.served.vectors ∷ []) was ∙ sym (map-append (λ (b : ClaimedJob). b.served.vectors) jobs (c ∷ []))
vectors_more false jobs c old new was is = is ∙ was

pub vectors_none : (full : Bool) → [] ≡ (if full then map (λ (b : ClaimedJob). b.served.vectors) [] else [])
vectors_none true = refl
vectors_none false = refl
