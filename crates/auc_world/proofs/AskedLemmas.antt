-- For worlds: the subscriber for whom a server asks the centre has a row.
use Rattle.std.proofs.Common.{◌≡◌, ℕ, ◌<◌, ◌==◌, Bool, true, false, List, [], ◌∷◌, length, refl, sym, subst, ⊎_elim}
use Rattle.std.specs.Prelude.{Option, Some, None, IfSome, if◌then◌else◌}
use Rattle.std.specs.Option.{option_or}
use Rattle.std.proofs.lemmas.Bool.{eqb-true, false≢true, or_cases}
use Rattle.std.proofs.lemmas.List.Elements.{All-head, All-tail}
use Rattle.auc_memory.specs.Identity.{Identity}
use Rattle.auc_server.specs.Asked.{asked_after, sub_named, sub_of}
use Rattle.auc_server.specs.Rows.{held_place, if_held, is_held, named_place, permanent_subscriber, pseudonym_subscriber, subscriber_in}
use Rattle.auc_server.specs.Server.{ServerEnd, challenged_of, resumed_of}
use Rattle.auc_subs.specs.Setting.{Setting}
use Rattle.auc_server.specs.Steps.{IsHeld, IsHeldToo, IsHome}
use Rattle.auc_server.specs.declared.server.Challenged.{Challenged}
use Rattle.auc_server.specs.declared.server.Resumed.{Resumed}
use Rattle.auc_server.specs.declared.setting.HomeRow.{HomeRow}
use Rattle.auc_subs.specs.Subscriber.{place_of}
use Rattle.auc_subs.specs.declared.row.Row.{Row}
use Rattle.auc_vector.specs.declared.notes.NumberNote.{NumberNote}
use Rattle.auc_vector.specs.declared.notes.ResyncNote.{ResyncNote}
use Rattle.auc_vector.specs.declared.notes.ResyncNote.TheVariants as resync
use Rattle.auc_lines.specs.declared.part.End.TheVariants as end
use Rattle.auc_world.specs.Came.{came_in, came_opened, came_repeated, came_started, server_came_to_give_up}
use Rattle.auc_record.specs.Event.{asked_in}
use Rattle.auc_world.specs.InnerWorld.{came_of}
use Rattle.auc_world.specs.Net.{Net}
use Rattle.auc_world.specs.World.{AreHomes}
use Rattle.auc_world.specs.declared.acting.Deed.{Deed}
use Rattle.auc_world.specs.declared.acting.Deed.TheVariants as deed
use Rattle.auc_world.specs.declared.net.Session.{Session}

-- a home has a row
held_listed : (rows : List Row) (subs : ℕ) (top : ℕ → ℕ) (homes : List HomeRow) (sub : ℕ) → AreHomes rows subs top homes → is_held homes sub ≡ true → sub < length rows
held_listed rows subs top [] sub all is = absurd (false≢true is)
held_listed rows subs top (h ∷ homes) sub all is =
    ⊎_elim
    (λ (e : (h.sub == sub) ≡ true). subst (λ (k : ℕ). k < length rows) (eqb-true h.sub sub e) (All-head (λ home. IsHome rows subs top home.sub) h homes all).listed)
    (λ (rest : is_held homes sub ≡ true). held_listed rows subs top homes sub (All-tail (λ home. IsHome rows subs top home.sub) h homes all) rest)
    (or_cases (h.sub == sub) (is_held homes sub) is)

found_listed : (rows : List Row) (subs : ℕ) (top : ℕ → ℕ) (homes : List HomeRow) (o : Option ℕ) → AreHomes rows subs top homes → IfSome (if_held homes o) (λ sub. sub < length rows)
found_listed rows subs top homes None all = tt
found_listed rows subs top homes (Some sub) all = by (is_held homes sub) refl
  where
    by : (b : Bool) → is_held homes sub ≡ b → IfSome (if b then Some sub else None) (λ sub. sub < length rows)
    by true is = held_listed rows subs top homes sub all is
    by false is = tt

place_listed : (rows : List Row) (subs : ℕ) (top : ℕ → ℕ) (homes : List HomeRow) (o : Option Identity) → AreHomes rows subs top homes → IfSome (held_place rows homes o) (λ sub. sub < length rows)
place_listed rows subs top homes None all = tt
place_listed rows subs top homes (Some imsi) all = found_listed rows subs top homes (place_of rows imsi) all

named_listed : (rows : List Row) (subs : ℕ) (top : ℕ → ℕ) (homes : List HomeRow) (o : Option (ℕ × ℕ)) → AreHomes rows subs top homes → IfSome (named_place homes o) (λ sub. sub < length rows)
named_listed rows subs top homes None all = tt
named_listed rows subs top homes (Some of) all = found_listed rows subs top homes (Some of.0) all

either_listed : (n : ℕ) (o p : Option ℕ) → IfSome o (λ sub. sub < n) → IfSome p (λ sub. sub < n) → IfSome (option_or o p) (λ sub. sub < n)
either_listed n None p first second = second
either_listed n (Some sub) p first second = first

challenged_listed : (rows : List Row) (subs : ℕ) (top : ℕ → ℕ) (homes : List HomeRow) (o : Option Challenged) → AreHomes rows subs top homes → IsHeld homes o
    → IfSome (sub_of o) (λ sub. sub < length rows)
challenged_listed rows subs top homes None all held = tt
challenged_listed rows subs top homes (Some sent) all held = held_listed rows subs top homes sent.sub all held

resumed_listed : (rows : List Row) (subs : ℕ) (top : ℕ → ℕ) (homes : List HomeRow) (o : Option Resumed) (found : Option ℕ) → AreHomes rows subs top homes → IsHeldToo homes o
    → IfSome found (λ sub. sub < length rows) → IfSome (sub_named o found) (λ sub. sub < length rows)
resumed_listed rows subs top homes None found all held is = is
resumed_listed rows subs top homes (Some r) found all held is = held_listed rows subs top homes r.sub all held

-- so has the one for whom the centre was asked
pub asked_listed : (set : Setting) (subs : ℕ) (top : ℕ → ℕ) (homes : List HomeRow) (s : ServerEnd) (resynced : Option ResyncNote) (drawn : Option NumberNote)
    → AreHomes set.rows subs top homes → IsHeld homes (challenged_of s) → IsHeldToo homes (resumed_of s) → IfSome (asked_after set homes s resynced drawn) (λ sub. sub < length set.rows)
asked_listed set subs top homes s None None all held too = tt
asked_listed set subs top homes s None (Some drawn) all held too =
    resumed_listed set.rows subs top homes (resumed_of s) (subscriber_in s.options.method set homes s.identity) all too
    (either_listed (length set.rows) (permanent_subscriber s.options.method set homes s.identity) (pseudonym_subscriber s.options.method set homes s.identity)
    (place_listed set.rows subs top homes _ all) (named_listed set.rows subs top homes _ all))
asked_listed set subs top homes s (Some resync.BadAuts) drawn all held too = tt
asked_listed set subs top homes s (Some (resync.Moved seen seq)) drawn all held too = challenged_listed set.rows subs top homes (challenged_of s) all held
asked_listed set subs top homes s (Some (resync.InRange seen seq)) drawn all held too = challenged_listed set.rows subs top homes (challenged_of s) all held
asked_listed set subs top homes s (Some (resync.Beyond seen seq)) drawn all held too = challenged_listed set.rows subs top homes (challenged_of s) all held

-- ---- other events

pub asks_nobody : (n : ℕ) (o : Option ℕ) → o ≡ None → IfSome o (λ sub. sub < n)
asks_nobody n o is = subst (λ (p : Option ℕ). IfSome p (λ sub. sub < n)) (sym is) tt

pub opened_asks_nobody : (old place : Option ℕ) → asked_in (came_opened old place) ≡ None
opened_asks_nobody (Some first) place = refl
opened_asks_nobody None None = refl
opened_asks_nobody None (Some place) = refl

pub acted_asks_nobody : (w : Net) (what : Deed) (o : Option Session) → asked_in (came_in (came_of w what) o) ≡ None
acted_asks_nobody w what None = refl
acted_asks_nobody w deed.Start (Some session) = by session.server
  where
    by : (o : Option ServerEnd) → asked_in (came_started w session.options o) ≡ None
    by None = refl
    by (Some s) = refl
acted_asks_nobody w deed.Repeat (Some session) = by session.server
  where
    by : (o : Option ServerEnd) → asked_in (came_repeated w o) ≡ None
    by None = refl
    by (Some s) = refl
acted_asks_nobody w (deed.GiveUp end.Server) (Some session) = by session.server
  where
    by : (o : Option ServerEnd) → asked_in (server_came_to_give_up w o) ≡ None
    by None = refl
    by (Some s) = refl
acted_asks_nobody w (deed.GiveUp end.Peer) (Some session) = refl
