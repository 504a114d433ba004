-- For resumed sessions: an identity that names a context has 33 bytes before its realm, and isn't a permanent one.
use Rattle.std.proofs.Common.{◌≡◌, ℕ, zero, suc, ◌≤◌, Bool, true, false, if◌then◌else◌, List, [], ◌∷◌, length, position, Option, Some, None, refl, sym, ap, ◌∙◌, arith}
use Rattle.std.proofs.lemmas.Slice.Eq.{bytes_eq-Decides}
use Rattle.std.specs.Prelude.{◌==◌, slice_index}
use Rattle.std.specs.Str.{bytes_eq}
use Rattle.auc_hmac.specs.declared.method.Method.{Method}
use Rattle.auc_hmac.specs.declared.method.Method.TheVariants as method
use Rattle.auc_ident.specs.Names.{if_named, name_digit, name_text, named, resolved}
use Rattle.auc_ident.specs.Permanent.{leading, up_to, username}
use Rattle.auc_ident.specs.declared.names.NameKind.{NameKind}
use Rattle.auc_ident.specs.declared.names.NameKind.TheVariants as kinds
use Rattle.auc_reauth.specs.Server.{if_named as if_kept}
use Rattle.auc_reauth.specs.Store.{entry}
use Rattle.auc_reauth.specs.declared.context.Context.{Context}
use Rattle.auc_server.specs.Contexts.{context_in, found_at}
use Rattle.auc_server.specs.Ordinals.{home_at, home_place}
use Rattle.auc_server.specs.Rows.{context_subscriber, named_place, with_context_in}
use Rattle.auc_subs.specs.Setting.{Setting}
use Rattle.auc_server.specs.declared.setting.HomeRow.{HomeRow}
use Rattle.auc_world.proofs.PlainKeyLemmas.{name_size}

-- ---- the name

-- an identity that is resolved has a name before its realm
abbrev IsNameOf : List ℕ → NameKind → Method → List ℕ → Type 0
IsNameOf key kind m text = (found : ℕ × ℕ) × (name_text key kind m found.0 found.1 ≡ username text)

is_name : (key : List ℕ) (kind : NameKind) (m : Method) (text : List ℕ) (of : ℕ × ℕ) → resolved key kind m text ≡ Some of → IsNameOf key kind m text
unfolding resolved
is_name key kind m text of e = by (named key (username text)) e
  where
    by : (o : Option (ℕ × ℕ)) → if_named key kind m (username text) o ≡ Some of → IsNameOf key kind m text
    by None e = absurd cc
    by (Some found) e = test (bytes_eq (name_text key kind m found.0 found.1) (username text)) refl e
      where
        test : (b : Bool) → bytes_eq (name_text key kind m found.0 found.1) (username text) ≡ b → (if b then Some found else None) ≡ Some of → IsNameOf key kind m text
        test true same e = (found, (bytes_eq-Decides (name_text key kind m found.0 found.1) (username text)).0 same)
        test false same e = absurd cc

-- ---- the context

-- an identity that names a subscriber's context is resolved
resolves : (m : Method) (set : Setting) (homes : List HomeRow) (text : List ℕ) (sub : ℕ) → context_subscriber m set homes text ≡ Some sub → IsNameOf set.names kinds.Reauth m text
resolves m set homes text sub e = by (resolved set.names kinds.Reauth m text) refl e
  where
    by : (o : Option (ℕ × ℕ)) → resolved set.names kinds.Reauth m text ≡ o → with_context_in m homes text (named_place homes o) ≡ Some sub → IsNameOf set.names kinds.Reauth m text
    by None is e = absurd cc
    by (Some of) is e = is_name set.names kinds.Reauth m text of is

-- so its name has 33 bytes
pub named_size : (m : Method) (set : Setting) (homes : List HomeRow) (text : List ℕ) (sub : ℕ) → context_subscriber m set homes text ≡ Some sub → length (username text) ≡ 33
named_size m set homes text sub e =
    let (found, is) = resolves m set homes text sub e in
    ap (λ (l : List ℕ). length l) (sym is) ∙ name_size set.names kinds.Reauth m found.0 found.1

some_context : (a b : Context) → ◌≡◌ {A = Option Context} (Some a) (Some b) → a ≡ b
some_context a b e = cc

-- and the context has it
kept_named : (name : List ℕ) (own : Option Context) (c : Context) → if_kept name own ≡ Some c → name ≡ c.identity
kept_named name None c e = absurd cc
kept_named name (Some own) c e = by (bytes_eq own.identity name) refl e
  where
    by : (b : Bool) → bytes_eq own.identity name ≡ b → (if b then Some own else None) ≡ Some c → name ≡ c.identity
    by true same f = sym ((bytes_eq-Decides own.identity name).0 same) ∙ ap (λ (x : Context). x.identity) (some_context own c f)
    by false same f = absurd cc

pub context_named : (m : Method) (text : List ℕ) (homes : List HomeRow) (sub : ℕ) (c : Context) → context_in m text homes sub ≡ Some c → username text ≡ c.identity
context_named m text homes sub c e = by (home_place homes sub) e
  where
    by : (place : Option ℕ) → found_at m text homes place ≡ Some c → username text ≡ c.identity
    by None f = absurd cc
    by (Some place) f = kept_named (username text) (entry m (home_at homes place).store) c f

-- ---- its first letter

first_kept : (end : Option ℕ) (text : List ℕ) → 1 ≤ length (up_to end text) → slice_index (up_to end text) 0 ≡ slice_index text 0
first_kept None text some = refl
first_kept (Some end) [] some = absurd (nothing end some)
  where
    nothing : (n : ℕ) → 1 ≤ length (up_to (Some n) []) → ⊥
    nothing zero some = omega (arith, some)
    nothing (suc n) some = omega (arith, some)
first_kept (Some zero) (letter ∷ letters) some = absurd (omega (arith, some))
first_kept (Some (suc end)) (letter ∷ letters) some = refl

first_letter : (m : Method) (key text : List ℕ) (found : ℕ × ℕ) → name_text key kinds.Reauth m found.0 found.1 ≡ username text → slice_index text 0 ≡ name_digit kinds.Reauth m
first_letter m key text found is =
    let long : length (username text) ≡ 33 = ap (λ (l : List ℕ). length l) (sym is) ∙ name_size key kinds.Reauth m found.0 found.1 in
    sym (first_kept (position (λ (byte : ℕ). byte == 64) text) text (omega (arith, long))) ∙ ap (λ (l : List ℕ). slice_index l 0) (sym is)

-- it isn't that of a permanent identity
pub no_permanent : (m : Method) (set : Setting) (homes : List HomeRow) (text : List ℕ) (sub : ℕ) → context_subscriber m set homes text ≡ Some sub → slice_index text 0 ≡ leading m → ⊥
no_permanent m set homes text sub e begins =
    let (found, is) = resolves m set homes text sub e in differ m (sym begins ∙ first_letter m set.names text found is)
  where
    differ : (m : Method) → leading m ≡ name_digit kinds.Reauth m → ⊥
    differ method.Aka e = omega (arith, e)
    differ method.Prime e = omega (arith, e)
