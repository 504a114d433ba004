-- For Agreement: a network knows a breach exactly if a delivery wasn't honest, and it is the first one.
use Rattle.std.proofs.Common.{◌≡◌, ℕ, ◌==◌, ◌&&◌, not, Bool, true, false, if◌then◌else◌, List, [], ◌∷◌, Option, Some, None, refl, sym, ap, ◌∙◌, eq-eqb}
use Rattle.std.proofs.lemmas.Bool.{and_from, and_parts, eqb-true, false≢true}
use Rattle.std.proofs.lemmas.List.Folds.{Any-from_list_any, list_any-from_Any}
use Rattle.std.proofs.lemmas.Slice.Eq.{bytes_eq-Decides}
use Rattle.std.specs.Str.{bytes_eq}
use Rattle.auc_hmac.specs.declared.keys.Master.{Master}
use Rattle.auc_hmac.specs.declared.keys.Master.TheVariants as master
use Rattle.auc_hmac.specs.declared.method.Method.{Method}
use Rattle.auc_hmac.specs.declared.method.Method.TheVariants as method
use Rattle.auc_subs.specs.Setting.{Setting}
use Rattle.auc_world.specs.Agreement.{BreachIsFirst, BrokenTells, Happening, IsFirst, IsHonest, IsHonestAt, IsHonestFinding, Noted, Occurs, SentBefore, after, after_one}
use Rattle.auc_world.specs.Happened.{found}
use Rattle.auc_world.specs.Net.{Finding, Net, breaks, judged, other, same_challenge, same_end, same_fast, same_full, same_inputs, same_fast_keys, same_master, same_method, share_inputs, was_sent, is_sender}
use Rattle.auc_lines.specs.declared.part.End.{End}
use Rattle.auc_lines.specs.declared.part.End.TheVariants as end
use Rattle.auc_record.specs.declared.record.Breach.{Breach}
use Rattle.auc_world.specs.declared.net.FastInputs.{FastInputs}
use Rattle.auc_world.specs.declared.net.FullInputs.{FullInputs}
use Rattle.auc_world.specs.declared.net.Inputs.{Inputs}
use Rattle.auc_world.specs.declared.net.Inputs.TheVariants as inputs
use Rattle.auc_world.specs.declared.net.SentPacket.{SentPacket}

-- ---- what was sent

one_end : (a b : End) → same_end a b ≡ true → a ≡ b
one_end end.Server end.Server e = refl
one_end end.Peer end.Peer e = refl
one_end end.Server end.Peer e = absurd (false≢true e)
one_end end.Peer end.Server e = absurd (false≢true e)

end_itself : (a : End) → same_end a a ≡ true
end_itself end.Server = refl
end_itself end.Peer = refl

one_method : (a b : Method) → same_method a b ≡ true → a ≡ b
one_method method.Aka method.Aka e = refl
one_method method.Prime method.Prime e = refl
one_method method.Aka method.Prime e = absurd (false≢true e)
one_method method.Prime method.Aka e = absurd (false≢true e)

method_itself : (a : Method) → same_method a a ≡ true
method_itself method.Aka = refl
method_itself method.Prime = refl

one_full : (a b : FullInputs) → same_full a b ≡ true → a ≡ b
one_full a b e =
    let (by, named) = and_parts (same_method a.method b.method) (bytes_eq a.name b.name && same_challenge a b) e in
    let (name, whole) = and_parts (bytes_eq a.name b.name) (same_challenge a b) named in
    let (sub, rest) = and_parts (a.sub == b.sub) (bytes_eq a.rand b.rand && (bytes_eq a.autn b.autn && bytes_eq a.identity b.identity)) whole in
    let (rand, tail) = and_parts (bytes_eq a.rand b.rand) (bytes_eq a.autn b.autn && bytes_eq a.identity b.identity) rest in
    let (autn, identity) = and_parts (bytes_eq a.autn b.autn) (bytes_eq a.identity b.identity) tail in
    let m = one_method a.method b.method by in
    let n = (bytes_eq-Decides a.name b.name).0 name in
    let s = eqb-true a.sub b.sub sub in
    let r = (bytes_eq-Decides a.rand b.rand).0 rand in
    let t = (bytes_eq-Decides a.autn b.autn).0 autn in
    let i = (bytes_eq-Decides a.identity b.identity).0 identity in
    λ j. record { method = m j; name = n j; sub = s j; rand = r j; autn = t j; identity = i j }

full_itself : (a : FullInputs) → same_full a a ≡ true
full_itself a =
    and_from (same_method a.method a.method) (bytes_eq a.name a.name && same_challenge a a) (method_itself a.method)
    (and_from (bytes_eq a.name a.name) (same_challenge a a) ((bytes_eq-Decides a.name a.name).1 refl)
    (and_from (a.sub == a.sub) (bytes_eq a.rand a.rand && (bytes_eq a.autn a.autn && bytes_eq a.identity a.identity)) (eq-eqb a.sub a.sub refl)
    (and_from (bytes_eq a.rand a.rand) (bytes_eq a.autn a.autn && bytes_eq a.identity a.identity) ((bytes_eq-Decides a.rand a.rand).1 refl)
    (and_from (bytes_eq a.autn a.autn) (bytes_eq a.identity a.identity) ((bytes_eq-Decides a.autn a.autn).1 refl) ((bytes_eq-Decides a.identity a.identity).1 refl)))))

one_master : (a b : Master) → same_master a b ≡ true → a ≡ b
one_master (master.Aka a) (master.Aka b) e = ap master.Aka ((bytes_eq-Decides a b).0 e)
one_master (master.Prime a) (master.Prime b) e = ap master.Prime ((bytes_eq-Decides a b).0 e)
one_master (master.Aka a) (master.Prime b) e = absurd (false≢true e)
one_master (master.Prime a) (master.Aka b) e = absurd (false≢true e)

master_itself : (a : Master) → same_master a a ≡ true
master_itself (master.Aka a) = (bytes_eq-Decides a a).1 refl
master_itself (master.Prime a) = (bytes_eq-Decides a a).1 refl

one_fast : (a b : FastInputs) → same_fast a b ≡ true → a ≡ b
one_fast a b e =
    let (sub, whole) = and_parts (a.sub == b.sub) (same_method a.method b.method && (bytes_eq a.identity b.identity && same_fast_keys a b)) e in
    let (by, rest) = and_parts (same_method a.method b.method) (bytes_eq a.identity b.identity && same_fast_keys a b) whole in
    let (identity, keys) = and_parts (bytes_eq a.identity b.identity) (same_fast_keys a b) rest in
    let (encr, tail) = and_parts (bytes_eq a.k_encr b.k_encr) (bytes_eq a.k_aut b.k_aut && same_master a.master b.master) keys in
    let (aut, own) = and_parts (bytes_eq a.k_aut b.k_aut) (same_master a.master b.master) tail in
    let s = eqb-true a.sub b.sub sub in
    let m = one_method a.method b.method by in
    let i = (bytes_eq-Decides a.identity b.identity).0 identity in
    let k = (bytes_eq-Decides a.k_encr b.k_encr).0 encr in
    let l = (bytes_eq-Decides a.k_aut b.k_aut).0 aut in
    let o = one_master a.master b.master own in
    λ j. record { method = m j; sub = s j; identity = i j; k_encr = k j; k_aut = l j; master = o j }

fast_itself : (a : FastInputs) → same_fast a a ≡ true
fast_itself a =
    and_from (a.sub == a.sub) (same_method a.method a.method && (bytes_eq a.identity a.identity && same_fast_keys a a)) (eq-eqb a.sub a.sub refl)
    (and_from (same_method a.method a.method) (bytes_eq a.identity a.identity && same_fast_keys a a) (method_itself a.method)
    (and_from (bytes_eq a.identity a.identity) (same_fast_keys a a) ((bytes_eq-Decides a.identity a.identity).1 refl)
    (and_from (bytes_eq a.k_encr a.k_encr) (bytes_eq a.k_aut a.k_aut && same_master a.master a.master) ((bytes_eq-Decides a.k_encr a.k_encr).1 refl)
    (and_from (bytes_eq a.k_aut a.k_aut) (same_master a.master a.master) ((bytes_eq-Decides a.k_aut a.k_aut).1 refl) (master_itself a.master)))))

one_inputs : (a b : Inputs) → same_inputs a b ≡ true → a ≡ b
one_inputs (inputs.Full a) (inputs.Full b) e = ap inputs.Full (one_full a b e)
one_inputs (inputs.Fast a) (inputs.Fast b) e = ap inputs.Fast (one_fast a b e)
one_inputs (inputs.Full a) (inputs.Fast b) e = absurd (false≢true e)
one_inputs (inputs.Fast a) (inputs.Full b) e = absurd (false≢true e)

inputs_itself : (a : Inputs) → same_inputs a a ≡ true
inputs_itself (inputs.Full a) = full_itself a
inputs_itself (inputs.Fast a) = fast_itself a

shared : (a b : Option Inputs) → share_inputs a b ≡ true → (own : Inputs) × (a ≡ Some own) × (b ≡ Some own)
shared (Some a) (Some b) e = (a, refl, ap Some (sym (one_inputs a b e)))
shared (Some a) None e = absurd (false≢true e)
shared None (Some b) e = absurd (false≢true e)
shared None None e = absurd (false≢true e)

share : (a b : Option Inputs) (own : Inputs) → a ≡ Some own → b ≡ Some own → share_inputs a b ≡ true
share a b own e f = ap (λ (o : Option Inputs). share_inputs o b) e ∙ ap (λ (o : Option Inputs). share_inputs (Some own) o) f ∙ inputs_itself own

one_sender : (a : Option End) (b : End) → is_sender a b ≡ true → a ≡ Some b
one_sender None b e = absurd (false≢true e)
one_sender (Some a) b e = ap Some (one_end a b e)

-- whether a packet is one that was sent so
abbrev test : End → Option Inputs → List ℕ → SentPacket → Bool
test from inputs bytes p = is_sender p.sender from && (share_inputs p.inputs inputs && bytes_eq p.bytes bytes)

tells_sent : (from : End) (inputs : Option Inputs) (bytes : List ℕ) (packets : List SentPacket) → was_sent from inputs bytes packets ≡ true → SentBefore from inputs bytes packets
tells_sent from inputs bytes packets e =
    let (place, p, within, at', passes) = Any-from_list_any (test from inputs bytes) packets e in
    let (role, rest) = and_parts (is_sender p.sender from) (share_inputs p.inputs inputs && bytes_eq p.bytes bytes) passes in
    let (shares, same) = and_parts (share_inputs p.inputs inputs) (bytes_eq p.bytes bytes) rest in
    let (own, here, there) = shared p.inputs inputs shares in
    record {
      packet = p;
      is_in = (place, within, at');
      role = one_sender p.sender from role;
      own = own;
      with_inputs = here;
      same_inputs = there;
      with_bytes = (bytes_eq-Decides p.bytes bytes).0 same;
    }

sent_tells : (from : End) (inputs : Option Inputs) (bytes : List ℕ) (packets : List SentPacket) → SentBefore from inputs bytes packets → was_sent from inputs bytes packets ≡ true
sent_tells from inputs bytes packets s =
    let p = s.packet in
    list_any-from_Any (test from inputs bytes) packets (
      s.is_in.0,
      p,
      s.is_in.1,
      s.is_in.2,
      and_from (is_sender p.sender from) (share_inputs p.inputs inputs && bytes_eq p.bytes bytes) (ap (λ (x : Option End). is_sender x from) s.role ∙ end_itself from)
          (and_from (share_inputs p.inputs inputs) (bytes_eq p.bytes bytes) (share p.inputs inputs s.own s.with_inputs s.same_inputs) ((bytes_eq-Decides p.bytes bytes).1 s.with_bytes)),
    )

-- ---- one delivery

abbrev sent_to : List SentPacket → Finding → Bool
sent_to packets f = was_sent (other f.delivery.end) f.inputs f.bytes packets

was_then : (checked sent : Bool) → (checked && not sent) ≡ false → checked ≡ true → sent ≡ true
was_then true true e f = refl
was_then true false e f = absurd (false≢true (sym e))
was_then false sent e f = absurd (false≢true f)

no_breach : (checked sent : Bool) → (checked ≡ true → sent ≡ true) → (checked && not sent) ≡ false
no_breach true true h = refl
no_breach true false h = absurd (false≢true (h refl))
no_breach false sent h = refl

honest_if : (packets : List SentPacket) (f : Finding) → breaks packets f ≡ false → IsHonestFinding packets (Some f)
honest_if packets f e = λ checked. tells_sent (other f.delivery.end) f.inputs f.bytes packets (was_then f.checked (sent_to packets f) e checked)

unbroken_if : (packets : List SentPacket) (f : Finding) → IsHonestFinding packets (Some f) → breaks packets f ≡ false
unbroken_if packets f h = no_breach f.checked (sent_to packets f) (λ checked. sent_tells (other f.delivery.end) f.inputs f.bytes packets (h checked))

unbroken : (b : Bool) (d : Breach) → (if b then Some d else None) ≡ None → b ≡ false
unbroken true d e = absurd cc
unbroken false d e = refl

pub judged_honest : (packets : List SentPacket) (broken : Option Breach) (f : Option Finding) → judged packets broken f ≡ None → (broken ≡ None) × IsHonestFinding packets f
judged_honest packets (Some first) f e = absurd cc
judged_honest packets None None e = (refl, tt)
judged_honest packets None (Some f) e = (refl, honest_if packets f (unbroken (breaks packets f) f.delivery e))

honest_judged : (packets : List SentPacket) (broken : Option Breach) (f : Option Finding) → broken ≡ None → IsHonestFinding packets f → judged packets broken f ≡ None
honest_judged packets (Some first) f e h = absurd cc
honest_judged packets None None e h = refl
honest_judged packets None (Some f) e h = ap (λ (b : Bool). if b then Some f.delivery else None) (unbroken_if packets f h)

one_honest : (set : Setting) (w : Net) (h : Happening) → (after_one set w h).broken ≡ None → (w.broken ≡ None) × IsHonestAt set w h
one_honest set w (Occurs e told) b = judged_honest w.packets w.broken (found set w e told) b
one_honest set w (Noted number) b = (b, tt)

honest_one : (set : Setting) (w : Net) (h : Happening) → w.broken ≡ None → IsHonestAt set w h → (after_one set w h).broken ≡ None
honest_one set w (Occurs e told) b is = honest_judged w.packets w.broken (found set w e told) b is
honest_one set w (Noted number) b is = b

-- ---- a run

pub honest_run : (set : Setting) (w : Net) (hs : List Happening) → (after set w hs).broken ≡ None → (w.broken ≡ None) × IsHonest set w hs
honest_run set w [] b = (b, tt)
honest_run set w (h ∷ hs) b =
    let (next, rest) = honest_run set (after_one set w h) hs b in
    let (first, here) = one_honest set w h next in (first, (here, rest))

run_honest : (set : Setting) (w : Net) (hs : List Happening) → (w.broken ≡ None) × IsHonest set w hs → (after set w hs).broken ≡ None
run_honest set w [] (b, is) = b
run_honest set w (h ∷ hs) (b, (here, rest)) = run_honest set (after_one set w h) hs (honest_one set w h b here, rest)

pub broken_tells : BrokenTells
broken_tells set w hs = (honest_run set w hs, run_honest set w hs)

-- ---- the first breach

one_stays : (set : Setting) (w : Net) (h : Happening) (b : Breach) → w.broken ≡ Some b → (after_one set w h).broken ≡ Some b
one_stays set w (Occurs e told) b is = ap (λ (o : Option Breach). judged w.packets o (found set w e told)) is
one_stays set w (Noted number) b is = is

stays : (set : Setting) (w : Net) (hs : List Happening) (b : Breach) → w.broken ≡ Some b → (after set w hs).broken ≡ Some b
stays set w [] b is = is
stays set w (h ∷ hs) b is = stays set (after_one set w h) hs b (one_stays set w h b is)

-- a delivery that breaks the premise
record Breaks (packets : List SentPacket) (f : Option Finding) (b : Breach) : Type 0 where
  pub finding : Finding
  pub is : f ≡ Some finding
  pub named : finding.delivery ≡ b
  pub dishonest : IsHonestFinding packets f → ⊥

picked : (b : Bool) (d e : Breach) → (if b then Some d else None) ≡ Some e → (b ≡ true) × (d ≡ e)
picked true d e h = (refl, cc)
picked false d e h = absurd cc

breaks_then : (packets : List SentPacket) (f : Option Finding) (b : Breach) → judged packets None f ≡ Some b → Breaks packets f b
breaks_then packets None b e = absurd cc
breaks_then packets (Some f) b e =
    let (broke, named) = picked (breaks packets f) f.delivery b e in
    record { finding = f; is = refl; named = named; dishonest = λ honest. false≢true (sym (unbroken_if packets f honest) ∙ broke) }

first_here : (set : Setting) (w : Net) (h : Happening) (hs : List Happening) (b : Breach) → w.broken ≡ None → (after_one set w h).broken ≡ Some b → IsFirst set w (h ∷ hs) b
first_here set w (Occurs e told) hs b none is =
    let here = breaks_then w.packets (found set w e told) b (sym (ap (λ (o : Option Breach). judged w.packets o (found set w e told)) none) ∙ is) in
    record {
      before = [];
      at' = Occurs e told;
      rest = hs;
      all = refl;
      honest = tt;
      finding = here.finding;
      found_then = here.is;
      named = here.named;
      dishonest = here.dishonest;
    }
first_here set w (Noted number) hs b none is = absurd (no_both w.broken b none is)
  where
    no_both : (o : Option Breach) (c : Breach) → o ≡ None → o ≡ Some c → ⊥
    no_both o c e f = cc

later : (set : Setting) (w : Net) (h : Happening) (hs : List Happening) (b : Breach) → IsHonestAt set w h → IsFirst set (after_one set w h) hs b → IsFirst set w (h ∷ hs) b
later set w h hs b here f = record {
  before = h ∷ f.before;
  at' = f.at';
  rest = f.rest;
  all = ap (λ (l : List Happening). h ∷ l) f.all;
  honest = (here, f.honest);
  finding = f.finding;
  found_then = f.found_then;
  named = f.named;
  dishonest = f.dishonest;
}

same_breach : (o : Option Breach) (a b : Breach) → o ≡ Some a → o ≡ Some b → a ≡ b
same_breach o a b e f = cc

no_breach_yet : (o : Option Breach) (b : Breach) → o ≡ None → o ≡ Some b → ⊥
no_breach_yet o b e f = cc

pub breach_is_first : BreachIsFirst
breach_is_first set w [] b none is = absurd (no_breach_yet w.broken b none is)
breach_is_first set w (h ∷ hs) b none is =
    by (after_one set w h).broken refl (λ quiet. breach_is_first set (after_one set w h) hs b quiet is)
  where
    by : (o : Option Breach) → (after_one set w h).broken ≡ o → ((after_one set w h).broken ≡ None → IsFirst set (after_one set w h) hs b) → IsFirst set w (h ∷ hs) b
    by None e rest = later set w h hs b (one_honest set w h e).1 (rest e)
    by (Some c) e rest =
        first_here set w h hs b none (e ∙ ap Some (same_breach (after set w (h ∷ hs)).broken c b (stays set (after_one set w h) hs c e) is))
