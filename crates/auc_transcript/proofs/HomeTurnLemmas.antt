-- For the law of contexts: what a turn of a server does to its homes' ordinals, for whom it asks the centre if it leaves a context,
-- and that it takes up no context of a subscriber that isn't one of the homes.
use Rattle.std.proofs.Common.{◌≡◌, ◌≢◌, ◌⊎◌, ℕ, zero, suc, ◌+◌, ◌≤◌, ◌==◌, Bool, true, false, List, [], ◌∷◌, get_or, All, Option, Some, None, slice_set, refl, sym, ap, ◌∙◌, subst, arith, inl, inr}
use Rattle.std.specs.Prelude.{if◌then◌else◌}
use Rattle.std.proofs.lemmas.Bool.{eqb-true}
use Rattle.std.proofs.lemmas.Bool.Decides.{nat_tests}
use Rattle.std.proofs.lemmas.List.Quantifiers.{position-Some}
use Rattle.auc_hmac.specs.declared.method.Method.{Method}
use Rattle.auc_ident.specs.Ordinals.{last_ordinal}
use Rattle.auc_packet.specs.Received.{Seen}
use Rattle.auc_reauth.specs.Server.{no_contexts}
use Rattle.auc_reauth.specs.declared.context.Context.{Context}
use Rattle.auc_server.specs.Contexts.{context_after, context_in, won_context, found_at, gives_next, homes_kept, homes_left, homes_resumed, homes_rewon, homes_won, with_context, with_context_at, without, without_at}
use Rattle.auc_server.specs.Moves.{of_sub, waiting}
use Rattle.auc_server.specs.Ordinals.{home_at, home_place, homes_given, homes_with, ordinal_after, with_next}
use Rattle.auc_server.specs.Rows.{server_row, text_in}
use Rattle.auc_server.specs.Server.{ServerEnd, resumed_of}
use Rattle.auc_subs.specs.Setting.{Setting}
use Rattle.auc_server.specs.Steps.{asking}
use Rattle.auc_server.specs.Table.{asked, challenge_of, challenged, challenged_with, homes_after, homes_challenged, homes_done, homes_named, identified, names_given, next_given, noted, packets_after, resumed_with, resynchronised, resynchronising, server_does, server_step, vector_at}
use Rattle.auc_server.specs.declared.naming.GivenNames.{GivenNames}
use Rattle.auc_server.specs.declared.options.ServerOptions.{ServerOptions}
use Rattle.auc_server.specs.declared.reply.Reply.{Reply}
use Rattle.auc_server.specs.declared.rows.Row.{Row}
use Rattle.auc_server.specs.declared.rows.Row.TheVariants as row
use Rattle.auc_server.specs.declared.server.Challenged.{Challenged}
use Rattle.auc_server.specs.declared.server.Resumed.{Resumed}
use Rattle.auc_server.specs.declared.setting.HomeRow.{HomeRow}
use Rattle.auc_vector.specs.declared.why.ServerWhy.{ServerWhy}
use Rattle.auc_vector.specs.Notes.{Asking}
use Rattle.auc_vector.specs.declared.notes.Notes.{Notes}
use Rattle.auc_vector.specs.declared.notes.NumberNote.{NumberNote}
use Rattle.auc_vector.specs.declared.notes.NumberNote.TheVariants as number
use Rattle.auc_vector.specs.declared.notes.ResyncNote.{ResyncNote}
use Rattle.auc_vector.specs.declared.notes.ResyncNote.TheVariants as resync
use Rattle.auc_vector.specs.declared.parts.Vector.{Vector}
use Rattle.auc_vector.specs.declared.turn.Turn.{Turn}

-- ---- ordinals

-- the home at a place has used no ordinal above the last of all
abbrev pub IsWithin : ℕ → List HomeRow → Type 0
IsWithin place homes = (home_at homes place).ordinals ≤ last_ordinal

set_within : (at place : ℕ) (homes : List HomeRow) (new : HomeRow) → (IsWithin at homes → new.ordinals ≤ last_ordinal) → IsWithin place homes → IsWithin place (slice_set homes at new)
set_within at place [] new fits within = within
set_within zero zero (home ∷ homes) new fits within = fits within
set_within zero (suc place) (home ∷ homes) new fits within = within
set_within (suc at) zero (home ∷ homes) new fits within = within
set_within (suc at) (suc place) (home ∷ homes) new fits within = set_within at place homes new fits within

next_within : (home : HomeRow) → home.ordinals ≤ last_ordinal → (with_next home (ordinal_after home)).ordinals ≤ last_ordinal
next_within home fits = by (home.ordinals == last_ordinal) refl
  where
    by : (b : Bool) → (home.ordinals == last_ordinal) ≡ b → (with_next home (if b then None else Some (home.ordinals + 1))).ordinals ≤ last_ordinal
    by true e = fits
    by false e = below home.ordinals fits e
      where
        below : (n : ℕ) → n ≤ last_ordinal → (n == last_ordinal) ≡ false → n + 1 ≤ last_ordinal
        below n least other = grind (arith, nat_tests)

module _ (place : ℕ) where
  with_within : (homes : List HomeRow) (at : Option ℕ) → IsWithin place homes → IsWithin place (homes_with homes at)
  with_within homes None within = within
  with_within homes (Some at) within =
      set_within at place homes (with_next (home_at homes at) (ordinal_after (home_at homes at))) (next_within (home_at homes at)) within

  given_within : (gives : Bool) (homes : List HomeRow) (sub : ℕ) → IsWithin place homes → IsWithin place (homes_given gives homes sub)
  given_within false homes sub within = within
  given_within true homes sub within = with_within homes (home_place homes sub) within

  named_within : (options : ServerOptions) (homes : List HomeRow) (sub : ℕ) → IsWithin place homes → IsWithin place (homes_named options homes sub)
  named_within options homes sub within = given_within options.reauth (homes_given options.pseudonym homes sub) sub (given_within options.pseudonym homes sub within)

  challenged_within : (options : ServerOptions) (homes : List HomeRow) (sub : ℕ) (drawn : Option NumberNote) → IsWithin place homes
      → IsWithin place (homes_challenged options homes sub drawn)
  challenged_within options homes sub None within = within
  challenged_within options homes sub (Some (number.Drew n)) within = named_within options homes sub within
  challenged_within options homes sub (Some (number.Exhausted w)) within = within
  challenged_within options homes sub (Some (number.Withheld n stop)) within = within

  left_within : (by : Method) (text : List ℕ) (homes : List HomeRow) (at : Option ℕ) → IsWithin place homes → IsWithin place (without_at by text homes at)
  left_within by text homes None within = within
  left_within by text homes (Some at) within = set_within at place homes (without by text (home_at homes at)) (λ fits. fits) within

  kept_within : (by : Method) (homes : List HomeRow) (sub : ℕ) (c : Option Context) → IsWithin place homes → IsWithin place (homes_kept by homes sub c)
  kept_within by homes sub None within = within
  kept_within by homes sub (Some c) within = one (home_place homes sub)
    where
      one : (at : Option ℕ) → IsWithin place (with_context_at by c homes at)
      one None = within
      one (Some at) = set_within at place homes (with_context by c (home_at homes at)) (λ fits. fits) within

  won_within : (by : Method) (homes : List HomeRow) (sent : Challenged) → IsWithin place homes → IsWithin place (homes_won by homes sent)
  won_within by homes sent within = kept_within by homes sent.sub (won_context sent) within

  rewon_within : (by : Method) (homes : List HomeRow) (sent : Resumed) → IsWithin place homes → IsWithin place (homes_rewon by homes sent)
  rewon_within by homes sent within = kept_within by homes sent.sub (context_after sent) within

  resumed_within : (options : ServerOptions) (text : List ℕ) (homes : List HomeRow) (sub : ℕ) (c : Option Context) → IsWithin place homes
      → IsWithin place (homes_resumed options text homes sub c)
  resumed_within options text homes sub None within = within
  resumed_within options text homes sub (Some c) within =
      given_within (gives_next options c) (homes_left options.method text homes sub) sub (left_within options.method text homes (home_place homes sub) within)

  done_within : (homes : List HomeRow) (s : ServerEnd) (text : List ℕ) (r : Row) (notes : Notes) → IsWithin place homes → IsWithin place (homes_done homes s text r notes)
  done_within homes s text (row.Challenge sub) notes within = challenged_within s.options homes sub notes.number within
  done_within homes s text (row.TooSmall sub) notes within = challenged_within s.options homes sub notes.number within
  done_within homes s text (row.Resynchronise sub seq) notes within = challenged_within s.options homes sub notes.number within
  done_within homes s text (row.Resume sub) notes within = resumed_within s.options text homes sub (context_in s.options.method text homes sub) within
  done_within homes s text (row.Success sent) notes within = won_within s.options.method homes sent within
  done_within homes s text (row.Reauthenticated sent) notes within = rewon_within s.options.method homes sent within
  done_within homes s text (row.Ignore cause) notes within = within
  done_within homes s text (row.Ask kind) notes within = within
  done_within homes s text row.UnknownIdentity notes within = within
  done_within homes s text row.WrongMac notes within = within
  done_within homes s text row.WrongRes notes within = within
  done_within homes s text row.WrongCheckcode notes within = within
  done_within homes s text row.WrongCounter notes within = within
  done_within homes s text row.SecondSync notes within = within
  done_within homes s text row.BadAuts notes within = within
  done_within homes s text row.Rejected notes within = within
  done_within homes s text (row.ClientError code) notes within = within
  done_within homes s text (row.Notified cause) notes within = within

  -- no turn uses one above it
  pub turn_within : (set : Setting) (homes : List HomeRow) (s : ServerEnd) (seen : Seen) (said : Reply) (notes : Notes) → IsWithin place homes
      → IsWithin place (homes_after set homes s seen said notes)
  turn_within set homes s seen said notes within = done_within homes s (text_in seen.reading) (server_row set homes s seen said) notes within

-- ---- whose number is asked for

-- what is asked for is a number of this subscriber
abbrev pub AsksFor : ℕ → Option Asking → Type 0
AsksFor sub None = ⊥
AsksFor sub (Some request) = request.sub ≡ sub

-- a turn that drew a number and leaves a context of a subscriber asked for the subscriber's number, if the context wasn't there before
module _ (sub : ℕ) (c : Context) (n : ℕ) where
  abbrev pub Waits : ServerEnd → Type 0
  Waits s = waiting s.state ≡ Some (sub, c)

  abbrev pub Leaves : ServerEnd → Option Asking → ServerEnd × Turn ServerWhy → Type 0
  Leaves s asked turn = Waits turn.0 → turn.1.notes.number ≡ Some (number.Drew n) → Waits s ⊎ AsksFor sub asked

  not_none : ◌≡◌ {A = Option (ℕ × Context)} None (Some (sub, c)) → ⊥
  not_none e = cc

  not_drawn : ◌≡◌ {A = Option NumberNote} None (Some (number.Drew n)) → ⊥
  not_drawn e = cc

  pair_is : (a b : ℕ × Context) → ◌≡◌ {A = Option (ℕ × Context)} (Some a) (Some b) → a ≡ b
  pair_is a b e = cc

  of_is : (other : ℕ) (x : Option Context) → of_sub other x ≡ Some (sub, c) → other ≡ sub
  of_is other None e = absurd (not_none e)
  of_is other (Some y) e = ap (λ (p : ℕ × Context). p.0) (pair_is (other, y) (sub, c) e)

  with_leaves : (realm : List ℕ) (s : ServerEnd) (other m : ℕ) (o : Option Vector) (given : Option GivenNames) (notes : Notes) (checked : Bool)
      → Waits (challenged_with realm s other m o given notes checked).0 → Waits s ⊎ (other ≡ sub)
  with_leaves realm s other m None given notes checked waits = inl waits
  with_leaves realm s other m (Some v) given notes checked waits = inr (of_is other (won_context (challenge_of s other m v (next_given given))) waits)

  challenge_leaves : (set : Setting) (homes : List HomeRow) (s : ServerEnd) (other : ℕ) (checked : Bool) (resynced : Option ResyncNote) (drawn : Option NumberNote)
      → Waits (challenged set homes s other checked resynced drawn).0 → Waits s ⊎ (other ≡ sub)
  challenge_leaves set homes s other checked resynced None waits = inl waits
  challenge_leaves set homes s other checked resynced (Some (number.Drew m)) waits =
      with_leaves set.realm s other m (vector_at set s.options other m) (names_given set homes s other) (noted resynced (Some (number.Drew m))) checked waits
  challenge_leaves set homes s other checked resynced (Some (number.Exhausted w)) waits = absurd (not_none waits)
  challenge_leaves set homes s other checked resynced (Some (number.Withheld m stop)) waits = absurd (not_none waits)

  sync_leaves : (set : Setting) (homes : List HomeRow) (s : ServerEnd) (other : ℕ) (resynced : Option ResyncNote) (drawn : Option NumberNote)
      → Waits (resynchronised set homes s other resynced drawn).0 → Waits s ⊎ (other ≡ sub)
  sync_leaves set homes s other None drawn waits = inl waits
  sync_leaves set homes s other (Some resync.BadAuts) drawn waits = inl waits
  sync_leaves set homes s other (Some (resync.Beyond seen seq)) drawn waits = absurd (not_none waits)
  sync_leaves set homes s other (Some (resync.InRange seen seq)) drawn waits =
      challenge_leaves set homes (resynchronising s) other false (Some (resync.InRange seen seq)) drawn waits
  sync_leaves set homes s other (Some (resync.Moved seen seq)) drawn waits =
      challenge_leaves set homes (resynchronising s) other false (Some (resync.Moved seen seq)) drawn waits

  resume_leaves : (set : Setting) (homes : List HomeRow) (s : ServerEnd) (text : List ℕ) (packets : List (List ℕ)) (other : ℕ) (o : Option Context)
      → Leaves s None (resumed_with set homes s text packets other o)
  resume_leaves set homes s text packets other None waits drawn = inl waits
  resume_leaves set homes s text packets other (Some x) waits drawn = absurd (not_drawn drawn)

  does_leaves : (set : Setting) (homes : List HomeRow) (s : ServerEnd) (text : List ℕ) (packets : List (List ℕ)) (r : Row) (notes : Notes)
      → Leaves s (asking r) (server_does set homes s text packets r notes)
  does_leaves set homes s text packets (row.Ignore cause) notes waits drawn = inl waits
  does_leaves set homes s text packets (row.Ask kind) notes waits drawn = absurd (not_none waits)
  does_leaves set homes s text packets row.UnknownIdentity notes waits drawn = absurd (not_none waits)
  does_leaves set homes s text packets (row.Challenge other) notes waits drawn = challenge_leaves set homes (identified s text packets) other false None notes.number waits
  does_leaves set homes s text packets (row.Resume other) notes waits drawn =
      resume_leaves set (homes_left s.options.method text homes other) s text packets other (context_in s.options.method text homes other) waits drawn
  does_leaves set homes s text packets row.WrongCounter notes waits drawn = absurd (not_none waits)
  does_leaves set homes s text packets (row.TooSmall other) notes waits drawn = challenge_leaves set homes s other true None notes.number waits
  does_leaves set homes s text packets (row.Reauthenticated sent) notes waits drawn = absurd (not_none waits)
  does_leaves set homes s text packets row.WrongMac notes waits drawn = absurd (not_none waits)
  does_leaves set homes s text packets row.WrongRes notes waits drawn = absurd (not_none waits)
  does_leaves set homes s text packets row.WrongCheckcode notes waits drawn = absurd (not_none waits)
  does_leaves set homes s text packets (row.Success sent) notes waits drawn = absurd (not_none waits)
  does_leaves set homes s text packets row.SecondSync notes waits drawn = absurd (not_none waits)
  does_leaves set homes s text packets row.BadAuts notes waits drawn = absurd (not_none waits)
  does_leaves set homes s text packets (row.Resynchronise other seq) notes waits drawn = sync_leaves set homes s other notes.resync notes.number waits
  does_leaves set homes s text packets row.Rejected notes waits drawn = absurd (not_none waits)
  does_leaves set homes s text packets (row.ClientError code) notes waits drawn = absurd (not_none waits)
  does_leaves set homes s text packets (row.Notified cause) notes waits drawn = absurd (not_none waits)

  pub turn_leaves : (set : Setting) (homes : List HomeRow) (s : ServerEnd) (seen : Seen) (said : Reply) (notes : Notes)
      → Leaves s (asking (server_row set homes s seen said)) (server_step set homes s seen said notes)
  turn_leaves set homes s seen said notes =
      does_leaves set homes s (text_in seen.reading) (packets_after s seen (server_row set homes s seen said)) (server_row set homes s seen said) notes

-- ---- subscribers whose homes aren't there

-- none of the homes is the subscriber's
abbrev pub AreOthers : ℕ → List HomeRow → Type 0
AreOthers sub homes = All (λ home. home.sub ≢ sub) homes

-- what a server resumed, if it did, isn't of the subscriber
abbrev pub IsOfAnother : ℕ → Option Resumed → Type 0
IsOfAnother sub None = Unit {0}
IsOfAnother sub (Some r) = r.sub ≢ sub

nobody : HomeRow
nobody = record { sub = 0; ordinals = 0; store = no_contexts }

another_place : (sub other place : ℕ) (homes : List HomeRow) → AreOthers sub homes → home_place homes other ≡ Some place → other ≢ sub
another_place sub other place homes others found same =
    let (inside, is, first) = position-Some (λ (home : HomeRow). home.sub == other) homes place nobody found in
    others place nobody inside (eqb-true (get_or homes place nobody).sub other is ∙ same)

challenge_keeps : (set : Setting) (homes : List HomeRow) (s : ServerEnd) (other : ℕ) (checked : Bool) (resynced : Option ResyncNote) (drawn : Option NumberNote)
    → resumed_of (challenged set homes s other checked resynced drawn).0 ≡ resumed_of s
challenge_keeps set homes s other checked resynced None = refl
challenge_keeps set homes s other checked resynced (Some (number.Drew m)) = by (vector_at set s.options other m)
  where
    by : (o : Option Vector)
        → resumed_of (challenged_with set.realm s other m o (names_given set homes s other) (noted resynced (Some (number.Drew m))) checked).0 ≡ resumed_of s
    by None = refl
    by (Some v) = refl
challenge_keeps set homes s other checked resynced (Some (number.Exhausted w)) = refl
challenge_keeps set homes s other checked resynced (Some (number.Withheld m stop)) = refl

sync_keeps : (set : Setting) (homes : List HomeRow) (s : ServerEnd) (other : ℕ) (resynced : Option ResyncNote) (drawn : Option NumberNote)
    → resumed_of (resynchronised set homes s other resynced drawn).0 ≡ resumed_of s
sync_keeps set homes s other None drawn = refl
sync_keeps set homes s other (Some resync.BadAuts) drawn = refl
sync_keeps set homes s other (Some (resync.Beyond seen seq)) drawn = refl
sync_keeps set homes s other (Some (resync.InRange seen seq)) drawn = challenge_keeps set homes (resynchronising s) other false (Some (resync.InRange seen seq)) drawn
sync_keeps set homes s other (Some (resync.Moved seen seq)) drawn = challenge_keeps set homes (resynchronising s) other false (Some (resync.Moved seen seq)) drawn

module _ (sub : ℕ) where
  resume_apart : (set : Setting) (homes : List HomeRow) (s : ServerEnd) (text : List ℕ) (packets : List (List ℕ)) (other : ℕ) (place : Option ℕ) → AreOthers sub homes
      → home_place homes other ≡ place → IsOfAnother sub (resumed_of s)
      → IsOfAnother sub (resumed_of (resumed_with set (homes_left s.options.method text homes other) s text packets other (found_at s.options.method text homes place)).0)
  resume_apart set homes s text packets other None others is apart = apart
  resume_apart set homes s text packets other (Some place) others is apart = by (found_at s.options.method text homes (Some place))
    where
      by : (o : Option Context) → IsOfAnother sub (resumed_of (resumed_with set (homes_left s.options.method text homes other) s text packets other o).0)
      by None = apart
      by (Some c) = another_place sub other place homes others is

  does_apart : (set : Setting) (homes : List HomeRow) (s : ServerEnd) (text : List ℕ) (packets : List (List ℕ)) (r : Row) (notes : Notes) → AreOthers sub homes
      → IsOfAnother sub (resumed_of s) → IsOfAnother sub (resumed_of (server_does set homes s text packets r notes).0)
  does_apart set homes s text packets (row.Ignore cause) notes others apart = apart
  does_apart set homes s text packets (row.Ask kind) notes others apart = tt
  does_apart set homes s text packets row.UnknownIdentity notes others apart = apart
  does_apart set homes s text packets (row.Challenge other) notes others apart =
      subst (IsOfAnother sub) (sym (challenge_keeps set homes (identified s text packets) other false None notes.number)) apart
  does_apart set homes s text packets (row.Resume other) notes others apart = resume_apart set homes s text packets other (home_place homes other) others refl apart
  does_apart set homes s text packets row.WrongCounter notes others apart = apart
  does_apart set homes s text packets (row.TooSmall other) notes others apart = subst (IsOfAnother sub) (sym (challenge_keeps set homes s other true None notes.number)) apart
  does_apart set homes s text packets (row.Reauthenticated sent) notes others apart = apart
  does_apart set homes s text packets row.WrongMac notes others apart = apart
  does_apart set homes s text packets row.WrongRes notes others apart = apart
  does_apart set homes s text packets row.WrongCheckcode notes others apart = apart
  does_apart set homes s text packets (row.Success sent) notes others apart = apart
  does_apart set homes s text packets row.SecondSync notes others apart = apart
  does_apart set homes s text packets row.BadAuts notes others apart = apart
  does_apart set homes s text packets (row.Resynchronise other seq) notes others apart =
      subst (IsOfAnother sub) (sym (sync_keeps set homes s other notes.resync notes.number)) apart
  does_apart set homes s text packets row.Rejected notes others apart = apart
  does_apart set homes s text packets (row.ClientError code) notes others apart = apart
  does_apart set homes s text packets (row.Notified cause) notes others apart = apart

  -- no turn takes up a context of the subscriber
  pub turn_apart : (set : Setting) (homes : List HomeRow) (s : ServerEnd) (seen : Seen) (said : Reply) (notes : Notes) → AreOthers sub homes
      → IsOfAnother sub (resumed_of s) → IsOfAnother sub (resumed_of (server_step set homes s seen said notes).0)
  turn_apart set homes s seen said notes others apart =
      does_apart set homes s (text_in seen.reading) (packets_after s seen (server_row set homes s seen said)) (server_row set homes s seen said) notes others apart
