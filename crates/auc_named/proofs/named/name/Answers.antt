use Rattle.std.proofs.Common.{◌<◌, All, List, ℕ, length, subst, sym}
use Rattle.auc_named.specs.InnerNaming.{IsAtAPlace}
use Rattle.auc_named.proofs.NamingLemmas.{jobs_there, places_within}
use Rattle.auc_named.proofs.named.name.Goals as goal

pub own_jobs-requires-clause-there : goal.own_jobs-requires-clause-there
own_jobs-requires-clause-there c =
    subst (λ (ps : List ℕ). All (λ job. All (IsAtAPlace ps) job) c.args.jobs.now) (sym c.as_slice.ensures.value)
    (jobs_there c.in_ok-places.places.items c.args.jobs.now c.requires.plain c.in_ok-places.ensures.each)

pub own_rows-requires-clause-within : goal.own_rows-requires-clause-within
own_rows-requires-clause-within c =
    subst (All (λ place. place < length c.args.subs.now)) (sym c.as_slice-2.ensures.value)
    (places_within c.args.subs.now c.args.jobs.now c.in_ok-places.places.items c.requires.plain c.requires.known c.in_ok-places.ensures)
