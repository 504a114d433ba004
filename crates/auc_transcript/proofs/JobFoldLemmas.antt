-- For the laws of contexts: what each event of a job keeps, the job keeps.
use Rattle.std.proofs.Common.{◌≡◌, ℕ, List, [], ◌∷◌, All, Option, Some, None, sym, ap, ◌∙◌, subst}
use Rattle.std.proofs.lemmas.List.Elements.{All-nil}
use Rattle.auc_lines.specs.declared.part.End.{End}
use Rattle.auc_lines.specs.declared.part.End.TheVariants as end
use Rattle.auc_lines.specs.declared.part.Line.{Line}
use Rattle.auc_world.specs.Given.{Before, EventGives, JobGives, LineGives, PlainGives, RelayGives, behind, packet_of}
use Rattle.auc_world.specs.Net.{Net, other}
use Rattle.auc_subs.specs.Setting.{Setting}
use Rattle.auc_record.specs.declared.event.Event.{Event}
use Rattle.auc_record.specs.declared.event.Event.TheVariants as event
use Rattle.auc_record.specs.declared.record.LineRecord.{LineRecord}
use Rattle.auc_transcript.specs.Headline.{IsOutsideSessions}
use Rattle.auc_transcript.proofs.KindLemmas.{behind_on, by_kind, event_gives, quiet_gives}

-- what lines without an event keep, and what each event keeps
module _ (set : Setting) (P : Before → Net → Type 0) (quiet : (place : Before) (w : Net) (lines : List LineRecord) → All IsOutsideSessions lines → P place w → P (behind place lines) w)
    (happens : (place : Before) (w next : Net) (e : Event) (lines : List LineRecord) → EventGives set place w e lines next → P place w → P (behind place lines) next) where
  quiet_keeps : (place : Before) (w next : Net) (lines : List LineRecord) → All IsOutsideSessions lines → next ≡ w → P place w → P (behind place lines) next
  quiet_keeps place w next lines outside same p = subst (P (behind place lines)) (sym same) (quiet place w lines outside p)

  relay_keeps : (place : Before) (w next : Net) (session : ℕ) (at' : End) (o : Option ℕ) (lines : List LineRecord) → RelayGives set place w session at' o lines next
      → P place w → P (behind place lines) next
  relay_keeps place w next session at' None [] gives p = quiet_keeps place w next [] (All-nil IsOutsideSessions) gives p
  relay_keeps place w next session at' None (line ∷ lines) gives p = absurd gives
  relay_keeps place w next session at' (Some packet) [] gives p = absurd gives
  relay_keeps place w next session at' (Some packet) (line ∷ lines) (mid, first, more) p =
      subst (λ (b : Before). P b next) (behind_on place (line ∷ []) lines)
      (relay_keeps (behind place (line ∷ [])) mid next session (other at') (packet_of line) lines more
      (happens place w mid (event.Deliver session at' packet) (line ∷ []) first p))

  plain_keeps : (place : Before) (w next : Net) (session : ℕ) (lines : List LineRecord) → PlainGives set place w session lines next → P place w → P (behind place lines) next
  plain_keeps place w next session [] gives p = absurd gives
  plain_keeps place w next session (line ∷ lines) (mid, first, more) p =
      subst (λ (b : Before). P b next) (behind_on place (line ∷ []) lines)
      (relay_keeps (behind place (line ∷ [])) mid next session end.Peer (packet_of line) lines more (happens place w mid (event.Start session) (line ∷ []) first p))

  line_keeps : (place : Before) (w next : Net) (l : Line) (lines : List LineRecord) → LineGives set place w l lines next → P place w → P (behind place lines) next
  line_keeps place w next l lines = by_kind (λ x. LineGives set place w x lines next → P place w → P (behind place lines) next)
      (λ x is gives p. let (outside, same) = quiet_gives x is set place w next lines gives in quiet_keeps place w next lines outside same p)
      (λ e gives p. happens place w next e lines (event_gives set place w next e lines gives) p)
      (λ session gives p. plain_keeps place w next session lines gives p) l

  -- a job
  pub job_keeps_outside : (place : Before) (w last : Net) (job : List Line) (lines : List LineRecord) → JobGives set place w job lines last → P place w → P (behind place lines) last
  job_keeps_outside place w last [] lines (none, same) p = quiet_keeps place w last lines (subst (All IsOutsideSessions) (sym none) (All-nil IsOutsideSessions)) same p
  job_keeps_outside place w last (l ∷ job) lines (front, rest, next, cut, gives, more) p =
      subst (λ (b : Before). P b last) (behind_on place front rest ∙ ap (behind place) (sym cut))
      (job_keeps_outside (behind place front) next last job rest more (line_keeps place w next l front gives p))

-- and what lines keep, whatever they are
module _ (set : Setting) (P : Before → Net → Type 0) (quiet : (place : Before) (w : Net) (lines : List LineRecord) → P place w → P (behind place lines) w)
    (happens : (place : Before) (w next : Net) (e : Event) (lines : List LineRecord) → EventGives set place w e lines next → P place w → P (behind place lines) next) where
  pub job_keeps : (place : Before) (w last : Net) (job : List Line) (lines : List LineRecord) → JobGives set place w job lines last → P place w → P (behind place lines) last
  job_keeps = job_keeps_outside set P (λ place w lines outside p. quiet place w lines p) happens
