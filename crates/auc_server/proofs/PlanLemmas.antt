-- A turn that does what was planned, as a turn of the table.
use Rattle.std.proofs.Common.{◌≡◌, ℕ, Bool, false, List, Option, Some, None, is_some, refl, ap, ◌∙◌, subst}
use Rattle.auc_memory.specs.declared.stop.Stop.{Stop}
use Rattle.auc_history.specs.declared.entry.Entry.{Entry}
use Rattle.auc_packet.specs.Received.{IsReceived, Seen}
use Rattle.auc_vector.specs.Notes.{AskedCentre, Asking}
use Rattle.auc_vector.specs.declared.notes.Notes.{Notes}
use Rattle.auc_vector.specs.declared.turn.Turn.{Turn}
use Rattle.auc_reauth.specs.declared.context.Context.{Context}
use Rattle.auc_server.specs.Contexts.{context_in, homes_left}
use Rattle.auc_server.specs.InnerPlan.{IsPlan, deed_does, homes_planned, needs_of, plan_asks, plan_does}
use Rattle.auc_server.specs.Rows.{server_row}
use Rattle.auc_server.specs.Server.{ServerEnd}
use Rattle.auc_subs.specs.Setting.{Setting}
use Rattle.auc_server.specs.Steps.{Steps, asking, needs_number}
use Rattle.auc_server.specs.Table.{resumed_with}
use Rattle.auc_server.specs.declared.plan.Deed.{Deed}
use Rattle.auc_server.specs.declared.plan.Deed.TheVariants as deed
use Rattle.auc_server.specs.declared.plan.Plan.{Plan}
use Rattle.auc_server.specs.declared.rows.Row.{Row}
use Rattle.auc_server.specs.declared.rows.Row.TheVariants as row
use Rattle.auc_server.specs.declared.setting.HomeRow.{HomeRow}
use Rattle.auc_vector.specs.declared.why.ServerWhy.{ServerWhy}

-- a row needs a number as what it asks for does
needs_same : (r : Row) (notes : Notes) → needs_of (asking r) notes ≡ needs_number r notes
needs_same (row.Challenge sub) notes = refl
needs_same (row.TooSmall sub) notes = refl
needs_same (row.Resynchronise sub seq) notes = refl
needs_same other notes = refl

-- whether a turn notes a number
abbrev draws : ServerEnd × Turn ServerWhy → Bool
draws t = is_some t.1.notes.number

resumed_draws : (set : Setting) (left : List HomeRow) (s : ServerEnd) (text : List ℕ) (packets : List (List ℕ)) (sub : ℕ) (c : Option Context)
    → draws (resumed_with set left s text packets sub c) ≡ false
resumed_draws set left s text packets sub None = refl
resumed_draws set left s text packets sub (Some c) = refl

-- what asks the centre for nothing notes no number
pub deed_draws : (set : Setting) (homes : List HomeRow) (s : ServerEnd) (d : Deed) → draws (deed_does set homes s d) ≡ false
deed_draws set homes s (deed.Resume sub said rooms) =
    resumed_draws set (homes_left s.options.method said.text homes sub) s said.text said.packets sub (context_in s.options.method said.text homes sub)
deed_draws set homes s other = refl

module _ {S : Type 0} (goes : S → ℕ → List Entry → List (ℕ × Stop) → S → Type 0) (kept : S → ℕ → Option ℕ) (top : S → ℕ → ℕ) where
  pub planned : (set : Setting) (homes later : List HomeRow) (s new : ServerEnd) (seen : Seen) (p : Plan) (before after : S) (turn : Turn ServerWhy)
      → IsReceived seen → IsPlan set homes s seen p → (new, turn) ≡ plan_does set homes s p turn.notes
      → later ≡ homes_planned homes s p turn.notes → AskedCentre goes kept top (plan_asks p) turn.notes before after
      → is_some turn.notes.number ≡ needs_of (plan_asks p) turn.notes → Steps goes kept top set homes s seen.bytes before new turn later after
  planned set homes later s new seen p before after turn received is step done asked drawn =
      let r = server_row set homes s seen is.reply in record {
        seen = seen;
        received = received;
        of = refl;
        reply = is.reply;
        replies = is.replies;
        same = step ∙ is.does turn.notes;
        homes_are = done ∙ is.homes_are turn.notes;
        asked = subst (λ (a : Option Asking). AskedCentre goes kept top a turn.notes before after) is.asks asked;
        drawn = drawn ∙ ap (λ (a : Option Asking). needs_of a turn.notes) is.asks ∙ needs_same r turn.notes;
      }
