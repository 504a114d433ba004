-- For the crates that serve lines for sites: one event behind some, and a lease that ends before its first number.
use Rattle.std.proofs.Common.{◌≡◌, ℕ, suc, List, [], ◌∷◌, ◌++◌, Some, refl, sym, ap, ◌∙◌, subst, append-nil, append_assoc}
use Rattle.auc_lines.specs.declared.sites.SiteEvent.{SiteEvent}
use Rattle.auc_sites.specs.Network.{Network, SitesTurn, after_event, after_turns}
use Rattle.auc_vector.specs.declared.centre.CentreRefusal.{CentreRefusal}
use Rattle.auc_vector.specs.declared.centre.CentreRefusal.TheVariants as refusal
use Rattle.auc_record.specs.Draws.{DrawGives}
use Rattle.auc_record.specs.Lines.{numbers_of}
use Rattle.auc_subs.specs.Setting.{Setting}
use Rattle.auc_world.specs.Sites.{SiteEventGives, SitesGo, refusal_in}
use Rattle.auc_record.specs.declared.record.LineRecord.{LineRecord}
use Rattle.auc_record.specs.declared.record.LineRecord.TheVariants.{Number, Sync, Give, Further, Event as Told}
use Rattle.auc_vector.specs.declared.notes.NumberNote.TheVariants as number
use Rattle.auc_world.proofs.SimLemmas.{numbers_first}

-- ---- one event more

-- the network after one turn more
pub turns_append : (w : Network) (turns : List SitesTurn) (turn : SitesTurn) → after_turns w (turns ++ turn ∷ []) ≡ after_event (after_turns w turns) turn.event turn.numbers turn.end
turns_append w [] turn = refl
turns_append w (t ∷ turns) turn = turns_append (after_event w t.event t.numbers t.end) turns turn

-- some events, and one more behind them
pub sites_append : (set : Setting) (sub size : ℕ) (w : Network) (events : List SiteEvent) (lines : List LineRecord) (turns : List SitesTurn) (e : SiteEvent) (own : List LineRecord) (turn : SitesTurn)
    → SitesGo set sub size w events lines turns → SiteEventGives set sub size (after_turns w turns) e own turn → SitesGo set sub size w (events ++ e ∷ []) (lines ++ own) (turns ++ turn ∷ [])
sites_append set sub size w [] lines turns e own turn (none, nothing) gives =
    subst (λ (ts : List SitesTurn). SitesGo set sub size w (e ∷ []) (lines ++ own) (ts ++ turn ∷ [])) (sym nothing) (
      own,
      [],
      ap (λ (ls : List LineRecord). ls ++ own) none ∙ sym (append-nil own),
      subst (λ (ts : List SitesTurn). SiteEventGives set sub size (after_turns w ts) e own turn) nothing gives,
      (refl, refl),
    )
sites_append set sub size w (first ∷ events) lines [] e own turn go gives = absurd go
sites_append set sub size w (first ∷ events) lines (t ∷ turns) e own turn (front, rest, is, here, more) gives = (
  front,
  rest ++ own,
  ap (λ (ls : List LineRecord). ls ++ own) is ∙ append_assoc front rest own,
  here,
  sites_append set sub size (after_event w t.event t.numbers t.end) events rest turns e own turn more gives,
)

-- ---- what is drawn

-- if the first number is refused, there is a refusal
pub lease_ends : (set : Setting) (sub count : ℕ) (lines : List LineRecord) → DrawGives set sub (suc count) lines → numbers_of sub lines ≡ [] → (why : CentreRefusal) × (refusal_in lines ≡ Some why)
lease_ends set sub count [] gives none = absurd gives
lease_ends set sub count (Number s (number.Drew n) ∷ lines) gives none =
    absurd (cc (none, numbers_first s sub (number.Drew n) lines gives.0))
lease_ends set sub count (Number s (number.Withheld n stop) ∷ lines) gives none = (refusal.Withheld n stop, refl)
lease_ends set sub count (Number s (number.Exhausted word) ∷ lines) gives none = (refusal.Exhausted word, refl)
lease_ends set sub count (Sync s answer ∷ lines) gives none = absurd gives
lease_ends set sub count (Give s n answer ∷ lines) gives none = absurd gives
lease_ends set sub count (Further said ∷ lines) gives none = absurd gives
lease_ends set sub count (Told r ∷ lines) gives none = absurd gives
