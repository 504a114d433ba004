-- No turn of a server gives an ordinal back.
use Rattle.std.proofs.Common.{◌≡◌, ℕ, zero, suc, ◌+◌, ◌==◌, Bool, true, false, List, [], ◌∷◌, slice_set, Option, Some, None, if◌then◌else◌, refl, ◌∙◌, arith, ◌≤◌}
use Rattle.auc_ident.specs.Ordinals.{last_ordinal}
use Rattle.auc_vector.specs.declared.notes.Notes.{Notes}
use Rattle.auc_vector.specs.declared.notes.NumberNote.{NumberNote}
use Rattle.auc_vector.specs.declared.notes.NumberNote.TheVariants as number
use Rattle.auc_hmac.specs.declared.method.Method.{Method}
use Rattle.auc_reauth.specs.declared.context.Context.{Context}
use Rattle.auc_server.specs.Contexts.{context_after, context_in, won_context, gives_next, homes_kept, homes_left, homes_resumed, homes_rewon, homes_won, with_context, with_context_at, without, without_at}
use Rattle.auc_server.specs.Laws.{IsAfter, OrdinalsRise}
use Rattle.auc_server.specs.Ordinals.{home_at, home_place, homes_given, homes_with, ordinal_after, with_next}
use Rattle.auc_server.specs.Rows.{server_row, text_in}
use Rattle.auc_server.specs.Server.{ServerEnd}
use Rattle.auc_server.specs.Table.{homes_challenged, homes_done, homes_named}
use Rattle.auc_server.specs.declared.options.ServerOptions.{ServerOptions}
use Rattle.auc_server.specs.declared.rows.Row.{Row}
use Rattle.auc_server.specs.declared.rows.Row.TheVariants as row
use Rattle.auc_server.specs.declared.server.Challenged.{Challenged}
use Rattle.auc_server.specs.declared.server.Resumed.{Resumed}
use Rattle.auc_server.specs.declared.setting.HomeRow.{HomeRow}

same : (home : HomeRow) → IsAfter home home
same home = record { sub = refl; more = 0; few = omega arith; ordinals = omega arith }

-- at most one ordinal is used
pub record IsNear (home later : HomeRow) : Type 0 where
  pub sub : later.sub ≡ home.sub
  pub more : ℕ
  pub few : more ≤ 1
  pub ordinals : later.ordinals ≡ home.ordinals + more

still : (home : HomeRow) → IsNear home home
still home = record { sub = refl; more = 0; few = omega arith; ordinals = omega arith }

next_by : (home : HomeRow) (b : Bool) → IsNear home (with_next home (if b then None else Some (home.ordinals + 1)))
next_by home true = still home
next_by home false = record { sub = refl; more = 1; few = omega arith; ordinals = refl }

set_near : (homes : List HomeRow) (place other : ℕ) (new : HomeRow) → IsNear (home_at homes place) new → IsNear (home_at homes other) (home_at (slice_set homes place new) other)
set_near [] place other new after = still (home_at [] other)
set_near (home ∷ homes) zero zero new after = after
set_near (home ∷ homes) zero (suc other) new after = still (home_at homes other)
set_near (home ∷ homes) (suc place) zero new after = still home
set_near (home ∷ homes) (suc place) (suc other) new after = set_near homes place other new after

with_near : (homes : List HomeRow) (place : Option ℕ) (other : ℕ) → IsNear (home_at homes other) (home_at (homes_with homes place) other)
with_near homes None other = still (home_at homes other)
with_near homes (Some place) other =
    set_near homes place other (with_next (home_at homes place) (ordinal_after (home_at homes place)))
    (next_by (home_at homes place) ((home_at homes place).ordinals == last_ordinal))

pub given_near : (gives : Bool) (homes : List HomeRow) (sub other : ℕ) → IsNear (home_at homes other) (home_at (homes_given gives homes sub) other)
given_near false homes sub other = still (home_at homes other)
given_near true homes sub other = with_near homes (home_place homes sub) other

-- two in a row
both_near : (home mid later : HomeRow) → IsNear home mid → IsNear mid later → IsAfter home later
both_near home mid later a b = record {
  sub = b.sub ∙ a.sub;
  more = a.more + b.more;
  few = omega (arith, a.few, b.few);
  ordinals = omega (arith, a.ordinals, b.ordinals);
}

one_near : (home later : HomeRow) → IsNear home later → IsAfter home later
one_near home later a = both_near home later later a (still later)

named_rises : (options : ServerOptions) (homes : List HomeRow) (sub other : ℕ) → IsAfter (home_at homes other) (home_at (homes_named options homes sub) other)
named_rises options homes sub other =
    both_near (home_at homes other) (home_at (homes_given options.pseudonym homes sub) other) (home_at (homes_named options homes sub) other)
    (given_near options.pseudonym homes sub other) (given_near options.reauth (homes_given options.pseudonym homes sub) sub other)

challenged_rises : (options : ServerOptions) (homes : List HomeRow) (sub : ℕ) (drawn : Option NumberNote) (other : ℕ)
    → IsAfter (home_at homes other) (home_at (homes_challenged options homes sub drawn) other)
challenged_rises options homes sub None other = same (home_at homes other)
challenged_rises options homes sub (Some (number.Drew n)) other = named_rises options homes sub other
challenged_rises options homes sub (Some (number.Exhausted w)) other = same (home_at homes other)
challenged_rises options homes sub (Some (number.Withheld n stop)) other = same (home_at homes other)

-- another store changes no ordinal
pub left_near : (by : Method) (text : List ℕ) (homes : List HomeRow) (place : Option ℕ) (other : ℕ) → IsNear (home_at homes other) (home_at (without_at by text homes place) other)
left_near by text homes None other = still (home_at homes other)
left_near by text homes (Some place) other =
    set_near homes place other (without by text (home_at homes place)) (record { sub = refl; more = 0; few = omega arith; ordinals = omega arith })

kept_near : (by : Method) (homes : List HomeRow) (sub : ℕ) (c : Option Context) (other : ℕ) → IsNear (home_at homes other) (home_at (homes_kept by homes sub c) other)
kept_near by homes sub None other = still (home_at homes other)
kept_near by homes sub (Some c) other = at (home_place homes sub)
  where
    at : (place : Option ℕ) → IsNear (home_at homes other) (home_at (with_context_at by c homes place) other)
    at None = still (home_at homes other)
    at (Some place) =
        set_near homes place other (with_context by c (home_at homes place)) (record { sub = refl; more = 0; few = omega arith; ordinals = omega arith })

won_rises : (by : Method) (homes : List HomeRow) (sent : Challenged) (other : ℕ) → IsAfter (home_at homes other) (home_at (homes_won by homes sent) other)
won_rises by homes sent other =
    one_near (home_at homes other) (home_at (homes_kept by homes sent.sub (won_context sent)) other) (kept_near by homes sent.sub (won_context sent) other)

rewon_rises : (by : Method) (homes : List HomeRow) (sent : Resumed) (other : ℕ) → IsAfter (home_at homes other) (home_at (homes_rewon by homes sent) other)
rewon_rises by homes sent other =
    one_near (home_at homes other) (home_at (homes_kept by homes sent.sub (context_after sent)) other) (kept_near by homes sent.sub (context_after sent) other)

resumed_rises : (options : ServerOptions) (text : List ℕ) (homes : List HomeRow) (sub : ℕ) (c : Option Context) (other : ℕ)
    → IsAfter (home_at homes other) (home_at (homes_resumed options text homes sub c) other)
resumed_rises options text homes sub None other = same (home_at homes other)
resumed_rises options text homes sub (Some c) other =
    both_near (home_at homes other) (home_at (homes_left options.method text homes sub) other) (home_at (homes_resumed options text homes sub (Some c)) other)
    (left_near options.method text homes (home_place homes sub) other) (given_near (gives_next options c) (homes_left options.method text homes sub) sub other)

done_rises : (homes : List HomeRow) (s : ServerEnd) (text : List ℕ) (r : Row) (notes : Notes) (other : ℕ) → IsAfter (home_at homes other) (home_at (homes_done homes s text r notes) other)
done_rises homes s text (row.Challenge sub) notes other = challenged_rises s.options homes sub notes.number other
done_rises homes s text (row.TooSmall sub) notes other = challenged_rises s.options homes sub notes.number other
done_rises homes s text (row.Resynchronise sub seq) notes other = challenged_rises s.options homes sub notes.number other
done_rises homes s text (row.Resume sub) notes other = resumed_rises s.options text homes sub (context_in s.options.method text homes sub) other
done_rises homes s text (row.Success sent) notes other = won_rises s.options.method homes sent other
done_rises homes s text (row.Reauthenticated sent) notes other = rewon_rises s.options.method homes sent other
done_rises homes s text rest notes other = same (home_at homes other)

pub ordinals_rise : OrdinalsRise
ordinals_rise set homes s seen said notes place = done_rises homes s (text_in seen.reading) (server_row set homes s seen said) notes place
