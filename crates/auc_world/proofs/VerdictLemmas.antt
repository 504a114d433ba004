-- For `verdicts`: the verdicts on a job's first sessions.
use Rattle.std.proofs.Common.{◌≡◌, ℕ, ◌+◌, List, ◌∷◌, [], ◌++◌, take, Some, ap, ◌∙◌, subst}
use Rattle.std.specs.Prelude.{flat_map, slice_get}
use Rattle.std.proofs.lemmas.List.{append-nil, take_more}
use Rattle.std.proofs.lemmas.List.Concat.{flat_map-append}
use Rattle.std.proofs.lemmas.Option.{get_or_from_slice_get, slice_get_within}
use Rattle.auc_world.specs.Sessions.{verdict_on}
use Rattle.auc_world.specs.declared.net.Session.{Session}
use Rattle.auc_record.specs.declared.record.SessionVerdict.{SessionVerdict}

pub one_more : (sessions : List Session) (place : ℕ) (session : Session) → slice_get sessions place ≡ Some session
    → flat_map verdict_on (take (place + 1) sessions) ≡ flat_map verdict_on (take place sessions) ++ verdict_on session
one_more sessions place session there =
    let front : take (place + 1) sessions ≡ take place sessions ++ session ∷ [] =
    subst (λ s. take (place + 1) sessions ≡ take place sessions ++ s ∷ []) (get_or_from_slice_get sessions place session session there)
    (take_more sessions place session (slice_get_within sessions place session there)) in
    ap (flat_map verdict_on) front ∙ flat_map-append verdict_on (take place sessions) (session ∷ [])
    ∙ ap (λ (all : List SessionVerdict). flat_map verdict_on (take place sessions) ++ all) (append-nil (verdict_on session))
