-- For worlds: homes of the same subscribers are the same to a server that looks for a subscriber among them.
use Rattle.std.proofs.Common.{◌≡◌, ℕ, ◌==◌, ◌||◌, Bool, List, [], ◌∷◌, All, drop, get_or, map, Option, Some, None, refl, sym, ap, ◌∙◌, subst, if◌then◌else◌}
use Rattle.std.proofs.lemmas.List.Elements.{All-cons, All-head, All-nil, All-tail}
use Rattle.std.specs.List.{list_any}
use Rattle.std.specs.Option.{option_or}
use Rattle.auc_memory.specs.Identity.{Identity}
use Rattle.auc_ident.specs.Names.{resolved}
use Rattle.auc_ident.specs.Permanent.{permanent_in, username}
use Rattle.auc_ident.specs.declared.names.NameKind.TheVariants as kinds
use Rattle.auc_server.specs.Asked.{asked_after, sub_named}
use Rattle.auc_server.specs.Rows.{held_place, if_held, is_held, named_place, permanent_subscriber, pseudonym_subscriber, subscriber_in}
use Rattle.auc_server.specs.Server.{ServerEnd, challenged_of, resumed_of}
use Rattle.auc_subs.specs.Setting.{Setting}
use Rattle.auc_server.specs.declared.server.Challenged.{Challenged}
use Rattle.auc_server.specs.declared.server.Resumed.{Resumed}
use Rattle.auc_server.specs.declared.setting.HomeRow.{HomeRow}
use Rattle.auc_server.specs.Steps.{IsHeld, IsHeldToo}
use Rattle.auc_subs.specs.Subscriber.{place_of}
use Rattle.auc_vector.specs.declared.notes.NumberNote.{NumberNote}
use Rattle.auc_vector.specs.declared.notes.ResyncNote.{ResyncNote}
use Rattle.auc_vector.specs.declared.notes.ResyncNote.TheVariants as resync
use Rattle.auc_world.specs.World.{AreOfSame, HasHeld}

-- whether a subscriber is held is read from the homes' subscribers
held_by_subs : (homes : List HomeRow) (j : ℕ) → is_held homes j ≡ list_any (λ (n : ℕ). n == j) (map (λ (home : HomeRow). home.sub) homes)
held_by_subs [] j = refl
held_by_subs (home ∷ homes) j = ap (λ (b : Bool). (home.sub == j) || b) (held_by_subs homes j)

pub is_held_alike : (homes later : List HomeRow) (j : ℕ) → AreOfSame homes later → is_held later j ≡ is_held homes j
is_held_alike homes later j same = held_by_subs later j ∙ ap (list_any (λ (n : ℕ). n == j)) same ∙ sym (held_by_subs homes j)

-- what holds of each home's subscriber holds again
pub homes_alike : (P : ℕ → Type 0) (homes later : List HomeRow) → AreOfSame homes later → All (λ home. P home.sub) homes → All (λ home. P home.sub) later
homes_alike P homes [] same each = All-nil (λ (h : HomeRow). P h.sub)
homes_alike P [] (l ∷ later) same each = absurd cc
homes_alike P (h ∷ homes) (l ∷ later) same each =
    let Q : HomeRow → Type 0 = λ (home : HomeRow). P home.sub in
    let first : l.sub ≡ h.sub = ap (λ (subs : List ℕ). get_or subs 0 0) same in
    let rest : AreOfSame homes later = ap (λ (subs : List ℕ). drop 1 subs) same in
    All-cons Q l later (subst P (sym first) (All-head Q h homes each)) (homes_alike P homes later rest (All-tail Q h homes each))

-- a challenged subscriber stays one of them, and so does one that re-authenticates
pub challenged_alike : (homes later : List HomeRow) (c : Option Challenged) → AreOfSame homes later → IsHeld homes c → IsHeld later c
challenged_alike homes later None same held = tt
challenged_alike homes later (Some sent) same held = is_held_alike homes later sent.sub same ∙ held

pub resumed_alike : (homes later : List HomeRow) (r : Option Resumed) → AreOfSame homes later → IsHeldToo homes r → IsHeldToo later r
resumed_alike homes later None same held = tt
resumed_alike homes later (Some r) same held = is_held_alike homes later r.sub same ∙ held

pub held_alike : (homes later : List HomeRow) (s : Option ServerEnd) → AreOfSame homes later → HasHeld homes s → HasHeld later s
held_alike homes later None same held = tt
held_alike homes later (Some s) same held =
    (challenged_alike homes later (challenged_of s) same held.0, resumed_alike homes later (resumed_of s) same held.1, held.2)

if_alike : (homes later : List HomeRow) (o : Option ℕ) → AreOfSame homes later → if_held later o ≡ if_held homes o
if_alike homes later None same = refl
if_alike homes later (Some sub) same = ap (λ (b : Bool). if b then Some sub else None) (is_held_alike homes later sub same)

permanent_alike : (set : Setting) (homes later : List HomeRow) (o : Option Identity) → AreOfSame homes later → held_place set.rows later o ≡ held_place set.rows homes o
permanent_alike set homes later None same = refl
permanent_alike set homes later (Some imsi) same = if_alike homes later (place_of set.rows imsi) same

named_alike : (homes later : List HomeRow) (o : Option (ℕ × ℕ)) → AreOfSame homes later → named_place later o ≡ named_place homes o
named_alike homes later None same = refl
named_alike homes later (Some of) same = if_alike homes later (Some of.0) same

-- for whom the centre was asked is told by either
pub asked_same : (set : Setting) (homes later : List HomeRow) (s : ServerEnd) (resynced : Option ResyncNote) (drawn : Option NumberNote) → AreOfSame homes later
    → asked_after set later s resynced drawn ≡ asked_after set homes s resynced drawn
asked_same set homes later s None None same = refl
asked_same set homes later s None (Some drawn) same =
    let m = s.options.method in
    let found : subscriber_in m set later s.identity ≡ subscriber_in m set homes s.identity =
    ap (λ (o : Option ℕ). option_or o (pseudonym_subscriber m set later s.identity)) (permanent_alike set homes later (permanent_in m (username s.identity)) same)
    ∙ ap (option_or (permanent_subscriber m set homes s.identity)) (named_alike homes later (resolved set.names kinds.Pseudonym m s.identity) same) in
    ap (sub_named (resumed_of s)) found
asked_same set homes later s (Some resync.BadAuts) drawn same = refl
asked_same set homes later s (Some (resync.Moved seen seq)) drawn same = refl
asked_same set homes later s (Some (resync.InRange seen seq)) drawn same = refl
asked_same set homes later s (Some (resync.Beyond seen seq)) drawn same = refl
