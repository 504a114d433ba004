-- Each turn of a server makes at most one move of contexts at each home.
use Rattle.std.proofs.Common.{◌≡◌, ◌≢◌, ◌<◌, ◌≤◌, ◌+◌, ℕ, zero, suc, ◌==◌, nat_lt, not, Bool, true, false, cond, List, [], ◌∷◌, length, map, Option, Some, None, refl, sym, ap, ◌∙◌, subst, arith}
use Rattle.std.proofs.lemmas.Bool.Decides.{nat_tests}
use Rattle.std.proofs.lemmas.List.{get_or-set_other, get_or-set_same, length-map}
use Rattle.std.specs.List.{position, prefix_len}
use Rattle.std.proofs.lemmas.List.Quantifiers.{position-Some}
use Rattle.std.specs.Str.{bytes_eq}
use Rattle.auc_ident.specs.Names.{name_text}
use Rattle.auc_ident.specs.Ordinals.{last_ordinal}
use Rattle.auc_ident.specs.Permanent.{username}
use Rattle.auc_ident.specs.declared.names.NameKind.TheVariants as kinds
use Rattle.auc_hmac.specs.declared.method.Method.{Method}
use Rattle.auc_hmac.specs.declared.method.Method.TheVariants as method
use Rattle.auc_packet.specs.Received.{Seen}
use Rattle.auc_reauth.specs.Machine.{Challenge, HomePast, Lose, Resume, Win, next_in}
use Rattle.auc_reauth.specs.Server.{Contexts, entry_named, if_named, no_contexts}
use Rattle.auc_reauth.specs.Store.{entry, with_entry}
use Rattle.auc_reauth.specs.declared.context.Context.{Context}
use Rattle.auc_vector.specs.declared.notes.Notes.{Notes}
use Rattle.auc_vector.specs.declared.notes.NumberNote.{NumberNote}
use Rattle.auc_vector.specs.declared.notes.NumberNote.TheVariants as number
use Rattle.auc_vector.specs.declared.notes.ResyncNote.{ResyncNote}
use Rattle.auc_vector.specs.declared.notes.ResyncNote.TheVariants as resync
use Rattle.auc_vector.specs.declared.parts.Vector.{Vector}
use Rattle.auc_server.specs.Contexts.{context_after, context_in, won_context, first_context, found_at, gives_next, homes_kept, homes_left, homes_resumed, homes_rewon, homes_won, later_context, with_context, with_context_at, without, without_at}
use Rattle.auc_server.specs.Moves.{EachTurnMakesOneMove, IsNewName, IsNewOrNone, Makes, HomeStands, is_at, of_sub, waiting, waiting_at}
use Rattle.auc_server.specs.Ordinals.{home_at, home_place, homes_given, homes_with, ordinal_after, ordinal_at, ordinal_given, with_next}
use Rattle.auc_server.specs.Rows.{server_row, subscriber_in, text_in}
use Rattle.auc_server.specs.Server.{ServerEnd}
use Rattle.auc_subs.specs.Setting.{Setting}
use Rattle.auc_server.specs.Table.{asked, both_of, challenge_of, challenged, challenged_with, homes_challenged, homes_done, failed, homes_named, identified, identity_given, ignored, name_of, names_given, next_given, noted, notified, packets_after, pseudonym_given, random_at, reauthenticated, resumed_with, resumption, resynchronised, resynchronising, server_does, silent, succeeded, under, unknown, vector_at}
use Rattle.auc_server.specs.declared.naming.GivenNames.{GivenNames}
use Rattle.auc_server.specs.declared.options.ServerOptions.{ServerOptions}
use Rattle.auc_server.specs.declared.rows.Row.{Row}
use Rattle.auc_server.specs.declared.rows.Row.TheVariants as row
use Rattle.auc_server.specs.declared.server.Challenged.{Challenged}
use Rattle.auc_server.specs.declared.server.Resumed.{Resumed}
use Rattle.auc_server.specs.declared.server.ServerState.TheVariants as state
use Rattle.auc_server.specs.declared.setting.HomeRow.{HomeRow}
use Rattle.auc_vector.specs.declared.why.ServerWhy.TheVariants as why
use Rattle.auc_server.proofs.HomeLemmas.{challenged_subs, given_subs, left_subs, resumed_subs}
use Rattle.auc_server.proofs.LawLemmas.{Says, says_row}
use Rattle.auc_server.proofs.OrdinalLemmas.{IsNear, given_near, left_near}
use Rattle.auc_server.proofs.ResumeLemmas.{gone, given_store}

-- ---- numbers

same_number : (m n : ℕ) → (m == n) ≡ true → m ≡ n
same_number m n = grind (arith, nat_tests)

other_number : (m n : ℕ) → (m == n) ≡ false → m ≢ n
other_number m n = grind (arith, nat_tests)

is_same : (n : ℕ) → (n == n) ≡ true
is_same n = grind (arith, nat_tests)

not_first : (n : ℕ) → (zero == suc n) ≡ false
not_first n = grind (arith, nat_tests)

not_later : (n : ℕ) → (suc n == zero) ≡ false
not_later n = grind (arith, nat_tests)

-- ---- the place of a home

by_prefix : (homes : List HomeRow) (sub : ℕ)
    → prefix_len (λ (home : HomeRow). not (home.sub == sub)) homes ≡ prefix_len (λ (n : ℕ). not (n == sub)) (map (λ (home : HomeRow). home.sub) homes)
by_prefix [] sub = refl
by_prefix (home ∷ homes) sub = ap (λ (n : ℕ). cond (not (home.sub == sub)) (1 + n) 0) (by_prefix homes sub)

place_by : (m n k l : ℕ) → m ≡ n → k ≡ l → cond (nat_lt m k) (Some m) None ≡ cond (nat_lt n l) (Some n) None
place_by m n k l e f = rw (e, f) refl

by_subs : (homes : List HomeRow) (sub : ℕ) → home_place homes sub ≡ position (λ (n : ℕ). n == sub) (map (λ (home : HomeRow). home.sub) homes)
by_subs homes sub =
    place_by (prefix_len (λ (home : HomeRow). not (home.sub == sub)) homes) (prefix_len (λ (n : ℕ). not (n == sub)) (map (λ (home : HomeRow). home.sub) homes)) (length homes)
    (length (map (λ (home : HomeRow). home.sub) homes)) (by_prefix homes sub) (sym (length-map homes (λ (home : HomeRow). home.sub)))

-- it stays if the homes' subscribers do
place_stays : (homes later : List HomeRow) (sub : ℕ) → map (λ (home : HomeRow). home.sub) later ≡ map (λ (home : HomeRow). home.sub) homes → home_place later sub ≡ home_place homes sub
place_stays homes later sub same = by_subs later sub ∙ ap (position (λ (n : ℕ). n == sub)) same ∙ sym (by_subs homes sub)

waiting_stays : (place : ℕ) (homes later : List HomeRow) (left : Option (ℕ × Context)) → map (λ (home : HomeRow). home.sub) later ≡ map (λ (home : HomeRow). home.sub) homes
    → waiting_at place later left ≡ waiting_at place homes left
waiting_stays place homes later None same = refl
waiting_stays place homes later (Some c) same = ap (λ (p : Option ℕ). cond (is_at place p) (Some c.1) None) (place_stays homes later c.0 same)

-- ---- moves

-- none, if the home and what the session would leave stay
stay : (t place : ℕ) (set : Setting) (homes later : List HomeRow) (s new : ServerEnd) (notes : Notes) (w : HomePast) → new.options ≡ s.options
    → (home_at later place).store ≡ (home_at homes place).store → map (λ (home : HomeRow). home.sub) later ≡ map (λ (home : HomeRow). home.sub) homes
    → waiting new.state ≡ waiting s.state → HomeStands t place homes s w → Makes t place set homes later new notes w
stay t place set homes later s new notes w options store subs left at = record {
  move = None;
  of = tt;
  stands = record {
    store = at.store ∙ ap (λ (c : Contexts). entry s.options.method c) (sym store) ∙ ap (λ (o : ServerOptions). entry o.method (home_at later place).store) (sym options);
    session = at.session ∙ sym (waiting_stays place homes later (waiting s.state) subs) ∙ ap (waiting_at place later) (sym left);
  };
}

-- the session loses what it would have left
lose : (t place : ℕ) (set : Setting) (homes later : List HomeRow) (s new : ServerEnd) (notes : Notes) (w : HomePast) → new.options ≡ s.options
    → (home_at later place).store ≡ (home_at homes place).store → waiting_at place later (waiting new.state) ≡ None → HomeStands t place homes s w → Makes t place set homes later new notes w
lose t place set homes later s new notes w options store left at = record {
  move = Some (Lose t);
  of = refl;
  stands = record {
    store = ap (λ (b : Bool). cond b None (w.place zero)) (not_first t) ∙ at.store ∙ ap (λ (c : Contexts). entry s.options.method c) (sym store) ∙ ap (λ (o : ServerOptions). entry o.method (home_at later place).store) (sym options);
    session = ap (λ (b : Bool). cond b None (w.place (suc t))) (is_same (suc t)) ∙ sym left;
  };
}

-- a context comes from a Challenge
comes : (t place : ℕ) (set : Setting) (homes later : List HomeRow) (s new : ServerEnd) (notes : Notes) (w : HomePast) (c : Context) → new.options ≡ s.options
    → (home_at later place).store ≡ (home_at homes place).store → waiting_at place later (waiting new.state) ≡ Some c → notes.number ≡ Some (number.Drew c.origin)
    → IsNewName set.names new.options.method (home_at homes place) (home_at later place) c.identity → HomeStands t place homes s w → Makes t place set homes later new notes w
comes t place set homes later s new notes w c options store left drawn name at = record {
  move = Some (Challenge t c);
  of = (refl, drawn, name);
  stands = record {
    store = ap (λ (b : Bool). cond b (Some c) (w.place zero)) (not_first t) ∙ at.store ∙ ap (λ (c : Contexts). entry s.options.method c) (sym store) ∙ ap (λ (o : ServerOptions). entry o.method (home_at later place).store) (sym options);
    session = ap (λ (b : Bool). cond b (Some c) (w.place (suc t))) (is_same (suc t)) ∙ sym left;
  };
}

-- ---- a challenge

named_store : (options : ServerOptions) (homes : List HomeRow) (sub place : ℕ) → (home_at (homes_named options homes sub) place).store ≡ (home_at homes place).store
named_store options homes sub place =
    given_store options.reauth (homes_given options.pseudonym homes sub) sub place ∙ given_store options.pseudonym homes sub place

challenged_store : (options : ServerOptions) (homes : List HomeRow) (sub : ℕ) (drawn : Option NumberNote) (place : ℕ)
    → (home_at (homes_challenged options homes sub drawn) place).store ≡ (home_at homes place).store
challenged_store options homes sub None place = refl
challenged_store options homes sub (Some (number.Drew n)) place = named_store options homes sub place
challenged_store options homes sub (Some (number.Exhausted w)) place = refl
challenged_store options homes sub (Some (number.Withheld n stop)) place = refl

origin_by : (b : Bool) (c d : Context) → cond b (Some c) None ≡ Some d → c.origin ≡ d.origin
origin_by true c d e = ap origin_or e
  where
    origin_or : Option Context → ℕ
    origin_or None = 0
    origin_or (Some x) = x.origin
origin_by false c d e = absurd cc

-- the context of a challenge has the number that was drawn
origin_is : (place : ℕ) (homes : List HomeRow) (sent : Challenged) (next : Option (List ℕ)) (c : Context) → waiting_at place homes (of_sub sent.sub (first_context sent next)) ≡ Some c → sent.number ≡ c.origin
origin_is place homes sent None c e = absurd cc
origin_is place homes sent (Some identity) c e =
    origin_by (is_at place (home_place homes sent.sub))
    (record { origin = sent.number; identity = identity; k_encr = sent.keys.k_encr; k_aut = sent.keys.k_aut; master = sent.master; counter = 1 }) c e

abbrev nobody : HomeRow
nobody = record { sub = 0; ordinals = 0; store = no_contexts }

-- the place of a home is one of the list
within : (homes : List HomeRow) (sub place : ℕ) → home_place homes sub ≡ Some place → place < length homes
within homes sub place e = (position-Some (λ (home : HomeRow). home.sub == sub) homes place nobody e).0

named_by : (b : Bool) (c d : Context) → cond b (Some c) None ≡ Some d → (b ≡ true) × (c.identity ≡ d.identity)
named_by true c d e = (refl, ap identity_or e)
  where
    identity_or : Option Context → List ℕ
    identity_or None = []
    identity_or (Some x) = x.identity
named_by false c d e = absurd cc

at_is : (place : ℕ) (p : Option ℕ) → is_at place p ≡ true → p ≡ Some place
at_is place None e = absurd cc
at_is place (Some q) e = ap (λ (n : ℕ). Some n) (same_number q place e)

-- the context of a challenge has the identity that was given, and stands at the home of the challenged subscriber
name_is : (P : List ℕ → Type 0) (place : ℕ) (homes : List HomeRow) (sent : Challenged) (next : Option (List ℕ)) (c : Context) → waiting_at place homes (of_sub sent.sub (first_context sent next)) ≡ Some c
    → ((identity : List ℕ) → next ≡ Some identity → home_place homes sent.sub ≡ Some place → P identity) → P c.identity
name_is P place homes sent None c e names = absurd cc
name_is P place homes sent (Some identity) c e names =
    let by = named_by (is_at place (home_place homes sent.sub))
    (record { origin = sent.number; identity = identity; k_encr = sent.keys.k_encr; k_aut = sent.keys.k_aut; master = sent.master; counter = 1 }) c e in
    subst P by.1 (names identity refl (at_is place (home_place homes sent.sub) by.0))

-- ---- the names that a turn gives

named_one : (set : Setting) (s : ServerEnd) (sub : ℕ) (ordinal : Option ℕ) (identity : List ℕ) → name_of set kinds.Reauth s sub ordinal ≡ Some identity
    → (n : ℕ) × (ordinal ≡ Some n) × (identity ≡ name_text set.names kinds.Reauth s.options.method sub n)
named_one set s sub None identity e = absurd cc
named_one set s sub (Some n) identity e = (n, refl, ap text_or (sym e))
  where
    text_or : Option (List ℕ) → List ℕ
    text_or None = []
    text_or (Some text) = text

after_by : (b : Bool) (home : HomeRow) (n : ℕ) → cond b None (Some (home.ordinals + 1)) ≡ Some n
    → (n ≡ home.ordinals + 1) × ((with_next home (cond b None (Some (home.ordinals + 1)))).ordinals ≡ n)
after_by true home n e = absurd cc
after_by false home n e = (number_is e, sym (number_is e))
  where
    number_or : Option ℕ → ℕ
    number_or None = 0
    number_or (Some m) = m

    number_is : Some (home.ordinals + 1) ≡ Some n → n ≡ home.ordinals + 1
    number_is f = ap number_or (sym f)

-- the ordinal that is given is the one after the home's last, and the last after it
given_is : (gives : Bool) (homes : List HomeRow) (sub place n : ℕ) → home_place homes sub ≡ Some place → ordinal_given gives homes sub ≡ Some n
    → (n ≡ (home_at homes place).ordinals + 1) × ((home_at (homes_given gives homes sub) place).ordinals ≡ n)
given_is false homes sub place n e f = absurd cc
given_is true homes sub place n e f =
    let home = home_at homes place in
    let by = after_by (home.ordinals == last_ordinal) home n (ap (ordinal_at homes) (sym e) ∙ f) in (
      by.0,
      ap (λ (p : Option ℕ). (home_at (homes_with homes p) place).ordinals) e
          ∙ ap (λ (h : HomeRow). h.ordinals) (get_or-set_same homes place (with_next home (ordinal_after home)) nobody (within homes sub place e)) ∙ by.1,
    )

-- the home of a subscriber is its own
own_home : (homes : List HomeRow) (sub place : ℕ) → home_place homes sub ≡ Some place → (home_at homes place).sub ≡ sub
own_home homes sub place e = same_number (home_at homes place).sub sub (position-Some (λ (home : HomeRow). home.sub == sub) homes place nobody e).1

-- a name by the homes in between, whose ordinals are no lower
new_name : (set : Setting) (s : ServerEnd) (gives : Bool) (homes mid : List HomeRow) (sub place : ℕ) (identity : List ℕ) → home_place homes sub ≡ Some place → home_place mid sub ≡ Some place
    → (home_at homes place).ordinals ≤ (home_at mid place).ordinals → name_of set kinds.Reauth s sub (ordinal_given gives mid sub) ≡ Some identity
    → IsNewName set.names s.options.method (home_at homes place) (home_at (homes_given gives mid sub) place) identity
new_name set s gives homes mid sub place identity e f least is =
    let named = named_one set s sub (ordinal_given gives mid sub) identity is in
    let given = given_is gives mid sub place named.0 f named.1 in record {
      ordinal = named.0;
      above = omega (arith, given.0, least);
      used = omega (arith, given.1);
      is = named.2 ∙ ap (λ (n : ℕ). name_text set.names kinds.Reauth s.options.method n named.0) (sym (own_home homes sub place e));
    }

near_least : (home later : HomeRow) → IsNear home later → home.ordinals ≤ later.ordinals
near_least home later near = omega (arith, near.ordinals)

next_of_given : (iv : List ℕ) (p i : Option (List ℕ)) → next_given (under iv (both_of p i)) ≡ i
next_of_given iv None None = refl
next_of_given iv (Some p) None = refl
next_of_given iv None (Some i) = refl
next_of_given iv (Some p) (Some i) = refl

-- the identity that a challenge gives
challenge_name : (set : Setting) (homes : List HomeRow) (s old : ServerEnd) (sub place : ℕ) (identity : List ℕ) → s.options ≡ old.options → home_place homes sub ≡ Some place
    → next_given (names_given set homes s sub) ≡ Some identity
    → IsNewName set.names s.options.method (home_at homes place) (home_at (homes_named old.options homes sub) place) identity
challenge_name set homes s old sub place identity options e f =
    let mid = homes_given s.options.pseudonym homes sub in
    let next = sym (next_of_given (random_at set s s.next_iv) (pseudonym_given set homes s sub) (identity_given set homes s sub)) ∙ f in
    subst (λ (o : ServerOptions). IsNewName set.names s.options.method (home_at homes place) (home_at (homes_named o homes sub) place) identity) options
    (new_name set s s.options.reauth homes mid sub place identity e (place_stays homes mid sub (given_subs s.options.pseudonym homes sub) ∙ e)
    (near_least (home_at homes place) (home_at mid place) (given_near s.options.pseudonym homes sub place)) next)

sent_makes : (t place : ℕ) (set : Setting) (homes later : List HomeRow) (s old : ServerEnd) (realm : List ℕ) (sub n : ℕ) (v : Vector) (given : Option GivenNames) (resynced : Option ResyncNote) (checked : Bool) (w : HomePast)
    → s.options ≡ old.options → (home_at later place).store ≡ (home_at homes place).store → (left : Option Context)
    → waiting_at place later (of_sub sub (won_context (challenge_of s sub n v (next_given given)))) ≡ left
    → ((identity : List ℕ) → next_given given ≡ Some identity → home_place later sub ≡ Some place → IsNewName set.names s.options.method (home_at homes place) (home_at later place) identity)
    → HomeStands t place homes old w
    → Makes t place set homes later (challenged_with realm s sub n (Some v) given (noted resynced (Some (number.Drew n))) checked).0 (noted resynced (Some (number.Drew n))) w
sent_makes t place set homes later s old realm sub n v given resynced checked w options store None left names at =
    lose t place set homes later old (challenged_with realm s sub n (Some v) given (noted resynced (Some (number.Drew n))) checked).0 (noted resynced (Some (number.Drew n))) w options store left at
sent_makes t place set homes later s old realm sub n v given resynced checked w options store (Some c) left names at =
    comes t place set homes later old (challenged_with realm s sub n (Some v) given (noted resynced (Some (number.Drew n))) checked).0 (noted resynced (Some (number.Drew n))) w c options store left
    (ap (λ (m : ℕ). Some (number.Drew m)) (origin_is place later (challenge_of s sub n v (next_given given)) (next_given given) c left))
    (name_is (λ (identity : List ℕ). IsNewName set.names s.options.method (home_at homes place) (home_at later place) identity) place later (challenge_of s sub n v (next_given given)) (next_given given) c left
    names) at

with_makes : (t place : ℕ) (set : Setting) (homes later : List HomeRow) (s old : ServerEnd) (realm : List ℕ) (sub n : ℕ) (v : Option Vector) (given : Option GivenNames) (resynced : Option ResyncNote) (checked : Bool) (w : HomePast)
    → s.options ≡ old.options → waiting s.state ≡ waiting old.state → (home_at later place).store ≡ (home_at homes place).store
    → map (λ (home : HomeRow). home.sub) later ≡ map (λ (home : HomeRow). home.sub) homes
    → ((identity : List ℕ) → next_given given ≡ Some identity → home_place later sub ≡ Some place → IsNewName set.names s.options.method (home_at homes place) (home_at later place) identity)
    → HomeStands t place homes old w
    → Makes t place set homes later (challenged_with realm s sub n v given (noted resynced (Some (number.Drew n))) checked).0
    (challenged_with realm s sub n v given (noted resynced (Some (number.Drew n))) checked).1.notes w
with_makes t place set homes later s old realm sub n None given resynced checked w options left store subs names at =
    stay t place set homes later old s (challenged_with realm s sub n None given (noted resynced (Some (number.Drew n))) checked).1.notes w options store subs left at
with_makes t place set homes later s old realm sub n (Some v) given resynced checked w options left store subs names at =
    sent_makes t place set homes later s old realm sub n v given resynced checked w options store
    (waiting_at place later (of_sub sub (won_context (challenge_of s sub n v (next_given given))))) refl names at

challenged_makes : (t place : ℕ) (set : Setting) (homes : List HomeRow) (s old : ServerEnd) (sub : ℕ) (checked : Bool) (resynced : Option ResyncNote) (drawn : Option NumberNote) (w : HomePast)
    → s.options ≡ old.options → waiting s.state ≡ waiting old.state → HomeStands t place homes old w
    → Makes t place set homes (homes_challenged old.options homes sub drawn) (challenged set homes s sub checked resynced drawn).0 (challenged set homes s sub checked resynced drawn).1.notes w
challenged_makes t place set homes s old sub checked resynced None w options left at =
    stay t place set homes homes old s (challenged set homes s sub checked resynced None).1.notes w options refl refl left at
challenged_makes t place set homes s old sub checked resynced (Some (number.Drew n)) w options left at =
    with_makes t place set homes (homes_named old.options homes sub) s old set.realm sub n (vector_at set s.options sub n) (names_given set homes s sub) resynced checked w options left
    (named_store old.options homes sub place) (challenged_subs old.options homes sub (Some (number.Drew n)))
    (λ identity e there. challenge_name set homes s old sub place identity options
    (sym (place_stays homes (homes_named old.options homes sub) sub (challenged_subs old.options homes sub (Some (number.Drew n)))) ∙ there) e) at
challenged_makes t place set homes s old sub checked resynced (Some (number.Exhausted x)) w options left at =
    lose t place set homes homes old (challenged set homes s sub checked resynced (Some (number.Exhausted x))).0 (challenged set homes s sub checked resynced (Some (number.Exhausted x))).1.notes w
    options refl refl at
challenged_makes t place set homes s old sub checked resynced (Some (number.Withheld n stop)) w options left at =
    lose t place set homes homes old (challenged set homes s sub checked resynced (Some (number.Withheld n stop))).0
    (challenged set homes s sub checked resynced (Some (number.Withheld n stop))).1.notes w options refl refl at

resynchronised_makes : (t place : ℕ) (set : Setting) (homes : List HomeRow) (s : ServerEnd) (sub : ℕ) (resynced : Option ResyncNote) (drawn : Option NumberNote) (w : HomePast) → HomeStands t place homes s w
    → Makes t place set homes (homes_challenged s.options homes sub drawn) (resynchronised set homes s sub resynced drawn).0 (resynchronised set homes s sub resynced drawn).1.notes w
resynchronised_makes t place set homes s sub None drawn w at =
    stay t place set homes (homes_challenged s.options homes sub drawn) s s (resynchronised set homes s sub None drawn).1.notes w refl
    (challenged_store s.options homes sub drawn place) (challenged_subs s.options homes sub drawn) refl at
resynchronised_makes t place set homes s sub (Some resync.BadAuts) drawn w at =
    stay t place set homes (homes_challenged s.options homes sub drawn) s s (resynchronised set homes s sub (Some resync.BadAuts) drawn).1.notes w refl
    (challenged_store s.options homes sub drawn place) (challenged_subs s.options homes sub drawn) refl at
resynchronised_makes t place set homes s sub (Some (resync.Beyond seen seq)) drawn w at =
    lose t place set homes (homes_challenged s.options homes sub drawn) s (resynchronised set homes s sub (Some (resync.Beyond seen seq)) drawn).0
    (resynchronised set homes s sub (Some (resync.Beyond seen seq)) drawn).1.notes w refl (challenged_store s.options homes sub drawn place) refl at
resynchronised_makes t place set homes s sub (Some (resync.InRange seen seq)) drawn w at =
    challenged_makes t place set homes (resynchronising s) s sub false (Some (resync.InRange seen seq)) drawn w refl refl at
resynchronised_makes t place set homes s sub (Some (resync.Moved seen seq)) drawn w at =
    challenged_makes t place set homes (resynchronising s) s sub false (Some (resync.Moved seen seq)) drawn w refl refl at

-- ---- success

with_is : (by : Method) (c : Context) (contexts : Contexts) → entry by (with_entry by (Some c) contexts) ≡ Some c
with_is method.Aka c contexts = refl
with_is method.Prime c contexts = refl

put_here : (by : Method) (homes : List HomeRow) (sub place : ℕ) (c : Context) → home_place homes sub ≡ Some place
    → entry by (home_at (with_context_at by c homes (Some place)) place).store ≡ Some c
put_here by homes sub place c e =
    ap (λ (h : HomeRow). entry by h.store) (get_or-set_same homes place (with_context by c (home_at homes place)) nobody (within homes sub place e))
    ∙ with_is by c (home_at homes place).store

put_there : (by : Method) (homes : List HomeRow) (at' place : ℕ) (c : Context) → (at' == place) ≡ false → (home_at (with_context_at by c homes (Some at')) place).store ≡ (home_at homes place).store
put_there by homes at' place c other =
    ap (λ (h : HomeRow). h.store) (get_or-set_other homes at' place (with_context by c (home_at homes at')) nobody (λ same. other_number at' place other (sym same)))

-- at the home of the session what it would leave goes to the store; at another home nothing is done
wins_by : (t place : ℕ) (set : Setting) (homes : List HomeRow) (s new : ServerEnd) (notes : Notes) (w : HomePast) (sub : ℕ) (c : Context) (at' : ℕ) (b : Bool) → (at' == place) ≡ b → home_place homes sub ≡ Some at'
    → new.options ≡ s.options → waiting s.state ≡ Some (sub, c) → waiting new.state ≡ None → HomeStands t place homes s w
    → Makes t place set homes (with_context_at s.options.method c homes (Some at')) new notes w
wins_by t place set homes s new notes w sub c at' true here e options before after at =
    let same = same_number at' place here in record {
      move = Some (Win t);
      of = refl;
      stands = record {
        store = at.session ∙ ap (waiting_at place homes) before ∙ ap (λ (p : Option ℕ). cond (is_at place p) (Some c) None) e
            ∙ ap (λ (b : Bool). cond b (Some c) None) here
            ∙ sym (subst (λ (p : ℕ). entry s.options.method (home_at (with_context_at s.options.method c homes (Some at')) p).store ≡ Some c) same (put_here s.options.method homes sub at' c e))
            ∙ ap (λ (o : ServerOptions). entry o.method (home_at (with_context_at s.options.method c homes (Some at')) place).store) (sym options);
        session = ap (λ (b : Bool). cond b (w.place (suc t)) (cond (suc t == suc t) None (w.place (suc t)))) (not_later t)
            ∙ ap (λ (b : Bool). cond b None (w.place (suc t))) (is_same (suc t)) ∙ ap (waiting_at place (with_context_at s.options.method c homes (Some at'))) (sym after);
      };
    }
wins_by t place set homes s new notes w sub c at' false other e options before after at =
    lose t place set homes (with_context_at s.options.method c homes (Some at')) s new notes w options (put_there s.options.method homes at' place c other)
    (ap (waiting_at place (with_context_at s.options.method c homes (Some at'))) after) at

wins_at : (t place : ℕ) (set : Setting) (homes : List HomeRow) (s new : ServerEnd) (notes : Notes) (w : HomePast) (sub : ℕ) (c : Context) (at' : Option ℕ) → home_place homes sub ≡ at'
    → new.options ≡ s.options → waiting s.state ≡ Some (sub, c) → waiting new.state ≡ None → HomeStands t place homes s w
    → Makes t place set homes (with_context_at s.options.method c homes at') new notes w
wins_at t place set homes s new notes w sub c None e options before after at =
    lose t place set homes homes s new notes w options refl (ap (waiting_at place homes) after) at
wins_at t place set homes s new notes w sub c (Some at') e options before after at =
    wins_by t place set homes s new notes w sub c at' (at' == place) refl e options before after at

wins : (t place : ℕ) (set : Setting) (homes : List HomeRow) (s new : ServerEnd) (notes : Notes) (w : HomePast) (sub : ℕ) (c : Option Context) → new.options ≡ s.options
    → waiting s.state ≡ of_sub sub c → waiting new.state ≡ None → HomeStands t place homes s w → Makes t place set homes (homes_kept s.options.method homes sub c) new notes w
wins t place set homes s new notes w sub None options before after at = lose t place set homes homes s new notes w options refl (ap (waiting_at place homes) after) at
wins t place set homes s new notes w sub (Some c) options before after at = wins_at t place set homes s new notes w sub c (home_place homes sub) refl options before after at

succeeded_makes : (t place : ℕ) (set : Setting) (homes : List HomeRow) (s : ServerEnd) (sent : Challenged) (before : Option Resumed) (w : HomePast) → s.state ≡ state.AwaitChallenge sent before
    → HomeStands t place homes s w → Makes t place set homes (homes_won s.options.method homes sent) (succeeded s sent).0 (succeeded s sent).1.notes w
succeeded_makes t place set homes s sent before w now at =
    wins t place set homes s (succeeded s sent).0 (succeeded s sent).1.notes w sent.sub (won_context sent) refl (ap waiting now) refl at

renewed_makes : (t place : ℕ) (set : Setting) (homes : List HomeRow) (s : ServerEnd) (sent : Resumed) (w : HomePast) → s.state ≡ state.AwaitReauth sent → HomeStands t place homes s w
    → Makes t place set homes (homes_rewon s.options.method homes sent) (reauthenticated s sent).0 (reauthenticated s sent).1.notes w
renewed_makes t place set homes s sent w now at =
    wins t place set homes s (reauthenticated s sent).0 (reauthenticated s sent).1.notes w sent.sub (context_after sent) refl (ap waiting now) refl at

-- ---- a context that is taken up again

found_by : (b : Bool) (k c : Context) → cond b (Some k) None ≡ Some c → ◌≡◌ {A = Option Context} (Some k) (Some c)
found_by true k c e = e
found_by false k c e = absurd cc

if_named_is : (name : List ℕ) (kept : Option Context) (c : Context) → if_named name kept ≡ Some c → kept ≡ Some c
if_named_is name None c e = absurd cc
if_named_is name (Some k) c e = found_by (bytes_eq k.identity name) k c e

-- what is found is there
found_is : (by : Method) (text : List ℕ) (contexts : Contexts) (c : Context) → entry_named by text contexts ≡ Some c → entry by contexts ≡ Some c
found_is by text contexts c e = if_named_is (username text) (entry by contexts) c e

left_there : (by : Method) (text : List ℕ) (homes : List HomeRow) (at' place : ℕ) → (at' == place) ≡ false → (home_at (without_at by text homes (Some at')) place).store ≡ (home_at homes place).store
left_there by text homes at' place other =
    ap (λ (h : HomeRow). h.store) (get_or-set_other homes at' place (without by text (home_at homes at')) nobody (λ same. other_number at' place other (sym same)))

next_is : (next : Option (List ℕ)) (c : Context) (sub place : ℕ) (homes : List HomeRow) → is_at place (home_place homes sub) ≡ true
    → next_in next (Some c) ≡ waiting_at place homes (of_sub sub (later_context c next))
next_is None c sub place homes here = refl
next_is (Some identity) c sub place homes here = ap (λ (b : Bool). cond b (Some (record c { identity = identity; counter = c.counter + 1 })) None) (sym here)

no_next : (next : Option (List ℕ)) (c : Context) (sub place : ℕ) (homes : List HomeRow) → is_at place (home_place homes sub) ≡ false
    → waiting_at place homes (of_sub sub (later_context c next)) ≡ None
no_next None c sub place homes other = refl
no_next (Some identity) c sub place homes other = ap (λ (b : Bool). cond b (Some (record c { identity = identity; counter = c.counter + 1 })) None) other

new_or_none : (names : List ℕ) (by : Method) (home later : HomeRow) (next : Option (List ℕ)) → ((identity : List ℕ) → next ≡ Some identity → IsNewName names by home later identity)
    → IsNewOrNone names by home later next
new_or_none names by home later None each = tt
new_or_none names by home later (Some identity) each = each identity refl

resumes_by : (t place : ℕ) (set : Setting) (homes : List HomeRow) (s : ServerEnd) (text : List ℕ) (packets : List (List ℕ)) (sub at' : ℕ) (c : Context) (w : HomePast) (b : Bool) → (at' == place) ≡ b
    → home_place homes sub ≡ Some at' → entry_named s.options.method text (home_at homes at').store ≡ Some c → HomeStands t place homes s w
    → Makes t place set homes (homes_resumed s.options text homes sub (Some c)) (resumed_with set (homes_left s.options.method text homes sub) s text packets sub (Some c)).0
    (resumed_with set (homes_left s.options.method text homes sub) s text packets sub (Some c)).1.notes w
resumes_by t place set homes s text packets sub at' c w true here e f at =
    let same = same_number at' place here in
    let left = homes_left s.options.method text homes sub in
    let own : home_place homes sub ≡ Some place = e ∙ ap (λ (n : ℕ). Some n) same in
    let later = homes_resumed s.options text homes sub (Some c) in
    let r = resumption set (homes_left s.options.method text homes sub) s sub c in
    let there : w.place zero ≡ Some c = at.store ∙ found_is s.options.method text (home_at homes place).store c (subst (λ (p : ℕ). entry_named s.options.method text (home_at homes p).store ≡ Some c) same f) in
    let placed : is_at place (home_place later sub) ≡ true = ap (is_at place) (place_stays homes later sub (resumed_subs s.options text homes sub (Some c)) ∙ e) ∙ here in record {
      move = Some (Resume t r.next);
      of = (
        refl,
        c,
        there,
        refl,
        new_or_none set.names s.options.method (home_at homes place) (home_at later place) r.next (λ identity is.
            new_name set s (gives_next s.options c) homes left sub place identity own (place_stays homes left sub (left_subs s.options.method text homes (home_place homes sub)) ∙ own)
            (near_least (home_at homes place) (home_at left place) (left_near s.options.method text homes (home_place homes sub) place)) is),
      );
      stands = record {
        store = ap (λ (b : Bool). cond b (next_in r.next (w.place zero)) None) (not_first t)
            ∙ sym (subst (λ (p : ℕ). entry s.options.method (home_at later p).store ≡ None) same (gone s.options text homes sub at' c e f));
        session = ap (λ (b : Bool). cond b (next_in r.next (w.place zero)) (cond (suc t == zero) None (w.place (suc t)))) (is_same (suc t)) ∙ ap (next_in r.next) there ∙ next_is r.next c sub place later placed;
      };
    }
resumes_by t place set homes s text packets sub at' c w false other e f at =
    let later = homes_resumed s.options text homes sub (Some c) in
    let r = resumption set (homes_left s.options.method text homes sub) s sub c in
    lose t place set homes later s (resumed_with set (homes_left s.options.method text homes sub) s text packets sub (Some c)).0
    (resumed_with set (homes_left s.options.method text homes sub) s text packets sub (Some c)).1.notes w refl
    (given_store (gives_next s.options c) (homes_left s.options.method text homes sub) sub place
    ∙ ap (λ (p : Option ℕ). (home_at (without_at s.options.method text homes p) place).store) e ∙ left_there s.options.method text homes at' place other)
    (no_next r.next c sub place later (ap (is_at place) (place_stays homes later sub (resumed_subs s.options text homes sub (Some c)) ∙ e) ∙ other)) at

resumed_makes : (t place : ℕ) (set : Setting) (homes : List HomeRow) (s : ServerEnd) (text : List ℕ) (packets : List (List ℕ)) (sub : ℕ) (at' : Option ℕ) (c : Option Context) (w : HomePast)
    → home_place homes sub ≡ at' → found_at s.options.method text homes at' ≡ c → HomeStands t place homes s w
    → Makes t place set homes (homes_resumed s.options text homes sub c) (resumed_with set (homes_left s.options.method text homes sub) s text packets sub c).0
    (resumed_with set (homes_left s.options.method text homes sub) s text packets sub c).1.notes w
resumed_makes t place set homes s text packets sub at' None w e f at =
    stay t place set homes homes s s (resumed_with set (homes_left s.options.method text homes sub) s text packets sub None).1.notes w refl refl refl refl at
resumed_makes t place set homes s text packets sub None (Some c) w e f at = absurd cc
resumed_makes t place set homes s text packets sub (Some at') (Some c) w e f at = resumes_by t place set homes s text packets sub at' c w (at' == place) refl e f at

-- ---- the rows

-- a row that ends what the session would leave
ends : (t place : ℕ) (set : Setting) (homes : List HomeRow) (s new : ServerEnd) (notes : Notes) (w : HomePast) → new.options ≡ s.options → waiting new.state ≡ None → HomeStands t place homes s w
    → Makes t place set homes homes new notes w
ends t place set homes s new notes w options left at = lose t place set homes homes s new notes w options refl (ap (waiting_at place homes) left) at

does_makes : (found : Option ℕ) (t place : ℕ) (set : Setting) (homes : List HomeRow) (s : ServerEnd) (seen : Seen) (text : List ℕ) (packets : List (List ℕ)) (r : Row) (notes : Notes) (w : HomePast)
    → Says found s seen r → HomeStands t place homes s w
    → Makes t place set homes (homes_done homes s text r notes) (server_does set homes s text packets r notes).0 (server_does set homes s text packets r notes).1.notes w
does_makes found t place set homes s seen text packets (row.Ignore cause) notes w says at = stay t place set homes homes s s (ignored s cause).1.notes w refl refl refl refl at
does_makes found t place set homes s seen text packets (row.Ask kind) notes w says at =
    ends t place set homes s (asked s text packets kind).0 (asked s text packets kind).1.notes w refl refl at
does_makes found t place set homes s seen text packets row.UnknownIdentity notes w says at =
    ends t place set homes s (unknown s text packets).0 (unknown s text packets).1.notes w refl refl at
does_makes found t place set homes s seen text packets (row.Challenge sub) notes w says at =
    challenged_makes t place set homes (identified s text packets) s sub false None notes.number w refl refl at
does_makes found t place set homes s seen text packets (row.Resume sub) notes w says at =
    resumed_makes t place set homes s text packets sub (home_place homes sub) (context_in s.options.method text homes sub) w refl refl at
does_makes found t place set homes s seen text packets (row.TooSmall sub) notes w says at =
    challenged_makes t place set homes s s sub true None notes.number w refl refl at
does_makes found t place set homes s seen text packets row.WrongCounter notes w says at =
    ends t place set homes s (notified s why.WrongCounter silent true).0 (notified s why.WrongCounter silent true).1.notes w refl refl at
does_makes found t place set homes s seen text packets (row.Reauthenticated sent) notes w says at =
    renewed_makes t place set homes s sent w says.waits at
does_makes found t place set homes s seen text packets row.WrongMac notes w says at =
    ends t place set homes s (notified s why.WrongMac silent false).0 (notified s why.WrongMac silent false).1.notes w refl refl at
does_makes found t place set homes s seen text packets row.WrongRes notes w says at =
    ends t place set homes s (notified s why.WrongRes silent true).0 (notified s why.WrongRes silent true).1.notes w refl refl at
does_makes found t place set homes s seen text packets row.WrongCheckcode notes w says at =
    ends t place set homes s (notified s why.WrongCheckcode silent true).0 (notified s why.WrongCheckcode silent true).1.notes w refl refl at
does_makes found t place set homes s seen text packets (row.Success sent) notes w says at =
    succeeded_makes t place set homes s sent says.before w says.waits at
does_makes found t place set homes s seen text packets row.SecondSync notes w says at =
    ends t place set homes s (notified s why.SecondSync silent false).0 (notified s why.SecondSync silent false).1.notes w refl refl at
does_makes found t place set homes s seen text packets row.BadAuts notes w says at =
    ends t place set homes s (notified s why.BadAuts (noted (Some resync.BadAuts) None) false).0 (noted (Some resync.BadAuts) None) w refl refl at
does_makes found t place set homes s seen text packets (row.Resynchronise sub seq) notes w says at =
    resynchronised_makes t place set homes s sub notes.resync notes.number w at
does_makes found t place set homes s seen text packets row.Rejected notes w says at =
    ends t place set homes s (failed s why.Rejected).0 (failed s why.Rejected).1.notes w refl refl at
does_makes found t place set homes s seen text packets (row.ClientError code) notes w says at =
    ends t place set homes s (failed s (why.ClientError code)).0 (failed s (why.ClientError code)).1.notes w refl refl at
does_makes found t place set homes s seen text packets (row.Notified cause) notes w says at =
    ends t place set homes s (failed s cause).0 (failed s cause).1.notes w refl refl at

-- each turn
pub each_turn_makes_one_move : EachTurnMakesOneMove
each_turn_makes_one_move set homes s seen said notes t place w at =
    does_makes (subscriber_in s.options.method set homes (text_in seen.reading)) t place set homes s seen (text_in seen.reading)
    (packets_after s seen (server_row set homes s seen said)) (server_row set homes s seen said) notes w (says_row set homes s seen said) at
