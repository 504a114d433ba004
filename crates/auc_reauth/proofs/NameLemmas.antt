-- For the law on identities: a server resumes none twice.
use Rattle.std.proofs.Common.{◌≡◌, ◌≢◌, ℕ, zero, suc, ◌+◌, List, [], ◌∷◌, ◌++◌, Option, None, Some, refl, sym}
use Rattle.std.specs.Option.{option_to_list}
use Rattle.std.proofs.lemmas.List.Elements.{All-head, All-weaker}
use Rattle.auc_reauth.specs.Machine.{Accept, Adopt, Challenge, EachGivesNew, EachIdentityOnce, GivesNew, HaveOwnNames, HomePast, IsNew, Lose, Move, Places, Resume, Used, Win, after, empty_home, moved, next_in, used_by, used_in, with_place}
use Rattle.auc_reauth.specs.declared.context.Context.{Context}
use Rattle.auc_reauth.proofs.PlaceLemmas.{Holds, holds_cleared, holds_empty, holds_put, holds_seen, holds_used, no_other}

-- what was used under another identity
abbrev IsOther : Used → Context → Type 0
IsOther u x = u.identity ≢ x.identity

abbrev name_of : Context → List ℕ
name_of x = x.identity

abbrev name_used : Used → List ℕ
name_used u = u.identity

others_are_other : (u : Used) (x : Context) → u.identity ≢ x.identity → IsOther u x
others_are_other u x other = other

abbrev Named : Places → List Used → List (List ℕ) → Type 0
Named places used seen = Holds name_of name_used IsOther HaveOwnNames others_are_other places used seen

cleared : (p : ℕ) (places : Places) (used : List Used) (seen : List (List ℕ)) → Named places used seen → Named (with_place p None places) used seen
cleared p places used seen h = holds_cleared name_of name_used IsOther HaveOwnNames others_are_other p places used seen h

seen_too : (places : Places) (used : List Used) (seen : List (List ℕ)) (k : List ℕ) → Named places used seen → Named places used (k ∷ seen)
seen_too places used seen k h = holds_seen name_of name_used IsOther HaveOwnNames others_are_other places used seen k h

-- a context with a new identity comes to a place
new_comes : (p : ℕ) (y : Context) (places : Places) (used : List Used) (seen : List (List ℕ)) → IsNew y.identity seen → Named places used seen
    → Named (with_place p (Some y) places) used (y.identity ∷ seen)
new_comes p y places used seen new h =
    holds_put name_of name_used IsOther HaveOwnNames others_are_other p y places used (y.identity ∷ seen) (seen_too places used seen y.identity h)
    (record {
      own = λ i x e. h.new i x e y.identity new;
      later = h.past y.identity new;
      known = λ k other. All-head (λ n. n ≢ k) y.identity seen other;
    })

-- the store's context leaves it, and its identity is used
used_up : (c : Context) (places : Places) (used : List Used) (seen : List (List ℕ)) → places zero ≡ Some c → Named places used seen
    → Named (with_place zero None places) (used_by c.counter c ∷ used) seen
used_up c places used seen there h =
    holds_used name_of name_used IsOther HaveOwnNames others_are_other zero c (used_by c.counter c) places used seen there refl
    (All-weaker (λ u. IsOther u c) (HaveOwnNames (used_by c.counter c)) (λ u other e. other (sym e)) used (h.before zero c there)) h

resumed : (t : ℕ) (identity : Option (List ℕ)) (c : Option Context) (w : HomePast) → GivesNew (Resume t identity) w → w.place zero ≡ c → Named w.place w.used w.given
    → Named (with_place (suc t) (next_in identity c) (with_place zero None w.place)) (used_in c ++ w.used) (option_to_list identity ++ w.given)
resumed t None None w new there h = cleared (suc t) (with_place zero None w.place) w.used w.given (cleared zero w.place w.used w.given h)
resumed t None (Some c) w new there h =
    cleared (suc t) (with_place zero None w.place) (used_by c.counter c ∷ w.used) w.given (used_up c w.place w.used w.given there h)
resumed t (Some identity) None w new there h =
    seen_too (with_place (suc t) None (with_place zero None w.place)) w.used w.given identity
    (cleared (suc t) (with_place zero None w.place) w.used w.given (cleared zero w.place w.used w.given h))
resumed t (Some identity) (Some c) w new there h =
    new_comes (suc t) (record c { identity = identity; counter = c.counter + 1 }) (with_place zero None w.place) (used_by c.counter c ∷ w.used) w.given new
    (used_up c w.place w.used w.given there h)

won : (t : ℕ) (c : Option Context) (places : Places) (used : List Used) (seen : List (List ℕ)) → places (suc t) ≡ c → Named places used seen
    → Named (with_place zero c (with_place (suc t) None places)) used seen
won t None places used seen there h = cleared zero (with_place (suc t) None places) used seen (cleared (suc t) places used seen h)
won t (Some c) places used seen there h =
    holds_put name_of name_used IsOther HaveOwnNames others_are_other zero c (with_place (suc t) None places) used seen (cleared (suc t) places used seen h)
    (record {
      own = λ i x e. no_other name_of name_used IsOther HaveOwnNames others_are_other (suc t) places used seen c h there i x e;
      later = h.before (suc t) c there;
      known = h.new (suc t) c there;
    })

-- ---- all moves

abbrev IsNamed : HomePast → Type 0
IsNamed w = Named w.place w.used w.given

stays_named : (m : Move) (w : HomePast) → GivesNew m w → IsNamed w → IsNamed (moved m w)
stays_named (Challenge t c) w new h = new_comes (suc t) c w.place w.used w.given new h
stays_named (Resume t identity) w new h = resumed t identity (w.place zero) w new refl h
stays_named (Accept counter) w new h = absurd new
stays_named (Win t) w new h = won t (w.place (suc t)) w.place w.used w.given refl h
stays_named (Lose t) w new h = cleared (suc t) w.place w.used w.given h
stays_named (Adopt identity) w new h = absurd new

all_named : (ms : List Move) (w : HomePast) → EachGivesNew ms w → IsNamed w → IsNamed (after ms w)
all_named [] w new h = h
all_named (m ∷ ms) w new h = all_named ms (moved m w) new.1 (stays_named m w new.0 h)

pub each_identity_once : EachIdentityOnce
each_identity_once ms new = (all_named ms empty_home new (holds_empty name_of name_used IsOther HaveOwnNames others_are_other)).differ
