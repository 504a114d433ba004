-- For a session that is played: what its events have given so far.
use Rattle.std.proofs.Common.{◌≡◌, ℕ, ◌<◌, List, [], ◌∷◌, ◌++◌, refl, sym, subst, append_assoc, append-nil, arith}
use Rattle.std.specs.Prelude.{Option, Some, None}
use Rattle.auc_memory.specs.declared.stop.Stop.{Stop}
use Rattle.auc_history.specs.declared.entry.Entry.{Entry}
use Rattle.auc_lines.specs.declared.part.End.{End}
use Rattle.auc_lines.specs.declared.part.End.TheVariants as end
use Rattle.auc_usim.specs.Usim.{Memory}
use Rattle.auc_world.specs.Ending.{EachDeliveryLeavesFewer, deliveries_left}
use Rattle.auc_world.specs.Given.{Before, PlainGives, RelayGives, behind}
use Rattle.auc_world.specs.Net.{Net, other}
use Rattle.auc_record.specs.Released.{Released}
use Rattle.auc_subs.specs.Setting.{Setting}
use Rattle.auc_record.specs.declared.event.Event.TheVariants as event
use Rattle.auc_record.specs.declared.record.LineRecord.{LineRecord}
use Rattle.auc_jobs.specs.InnerPlaying.{Leads}
use Rattle.auc_jobs.specs.InnerServing.{Happens, ServesLine, JobStands, before_at}
use Rattle.auc_jobs.proofs.JobLemmas.{serves_marked, serves_more}

-- the events so far and what the packet at an end gives are what the session gives
abbrev pub PlaysOn : Setting → Before → Net → ℕ → Net → End → Option ℕ → List LineRecord → Type 0
PlaysOn set before start session net at' made front = (rest : List LineRecord) (last : Net) → RelayGives set (behind before front) net session at' made rest last
    → PlainGives set before start session (front ++ rest) last

-- it started
pub plays_first : (set : Setting) (before : Before) (start net : Net) (session : ℕ) (made : Option ℕ) (lines : List LineRecord) → Happens set before start (event.Start session) made lines net
    → PlaysOn set before start session net end.Peer made lines
plays_first set before start net session made lines h =
    subst (PlaysOn set before start session net end.Peer made) (sym h.is)
    (λ rest last given. (net, h.given, subst (λ (o : Option ℕ). RelayGives set (behind before (h.line ∷ [])) net session end.Peer o rest last) (sym h.makes) given))

-- a packet reached an end
plays_more : (set : Setting) (before : Before) (start net next : Net) (session packet : ℕ) (at' : End) (made : Option ℕ) (front added : List LineRecord)
    → PlaysOn set before start session net at' (Some packet) front → Happens set (behind before front) net (event.Deliver session at' packet) made added next
    → PlaysOn set before start session next (other at') made (front ++ added)
plays_more set before start net next session packet at' made front added on h =
    subst (λ (ls : List LineRecord). PlaysOn set before start session next (other at') made (front ++ ls)) (sym h.is)
    (λ rest last given.
    subst (λ (ls : List LineRecord). PlainGives set before start session ls last) (sym (append_assoc front (h.line ∷ []) rest))
    (on (h.line ∷ rest) last (
      next,
      h.given,
      subst (λ (o : Option ℕ). RelayGives set (behind (behind before front) (h.line ∷ [])) next session (other at') o rest last) (sym h.makes)
          (subst (λ (ls : List LineRecord). RelayGives set (record { early = before.early; beside = before.beside; own = ls }) next session (other at') made rest last) (sym (append_assoc before.own front (h.line ∷ []))) given),
    )))

-- none is left
pub plays_all : (set : Setting) (before : Before) (start net : Net) (session : ℕ) (at' : End) (made : Option ℕ) (front : List LineRecord) → made ≡ None
    → PlaysOn set before start session net at' made front → PlainGives set before start session front net
plays_all set before start net session at' made front none on =
    let nothing : RelayGives set (behind before front) net session at' None [] net = refl in
    subst (λ (ls : List LineRecord). PlainGives set before start session ls net) (append-nil front)
    (on [] net (subst (λ (o : Option ℕ). RelayGives set (behind before front) net session at' o [] net) (sym none) nothing))

-- with the lines that are added
pub play_more : (goes more whole : ℕ → List Entry → List (ℕ × Stop) → Type 0) (set : Setting) (early beside own between new : List LineRecord) (mid kept : ℕ → Option ℕ)
    (released : Released) (first_usims usims : ℕ → Option Memory) (start net next : Net) (session packet : ℕ) (at' : End) (was made : Option ℕ) → was ≡ Some packet
    → ((i : ℕ) (es fs : List Entry) (ws vs : List (ℕ × Stop)) → goes i es ws → more i fs vs → whole i (es ++ fs) (ws ++ vs))
    → ServesLine goes set.rows (before_at early beside own) mid released first_usims (PlaysOn set (before_at early beside own) start session net at' was) between
    → (JobStands set.rows (before_at early beside between) mid released first_usims
    → ServesLine more set.rows (before_at early beside between) kept released usims (λ lines. Happens set (before_at early beside between) net (event.Deliver session at' packet) made lines next) new)
    → ServesLine whole set.rows (before_at early beside own) kept released usims (PlaysOn set (before_at early beside own) start session next (other at') made) new
play_more goes more whole set early beside own between new mid kept released first_usims usims start net next session packet at' was made is joins first then_more =
    serves_more goes more whole set.rows early beside own between new mid kept released first_usims usims
    (λ lines. (between ≡ own ++ lines) × PlaysOn set (before_at early beside own) start session net at' was lines)
    (λ lines. Happens set (before_at early beside between) net (event.Deliver session at' packet) made lines next)
    (PlaysOn set (before_at early beside own) start session next (other at') made) joins
    (serves_marked goes set.rows (before_at early beside own) mid released first_usims (PlaysOn set (before_at early beside own) start session net at' was) between first) then_more
    (λ front rest marked h.
    plays_more set (before_at early beside own) start net next session packet at' made front rest
    (subst (λ (o : Option ℕ). PlaysOn set (before_at early beside own) start session net at' o front) is marked.1)
    (subst (λ (ls : List LineRecord). Happens set (before_at early beside ls) net (event.Deliver session at' packet) made rest next) marked.0 h))

-- ---- the end

-- how many deliveries may follow, if a packet is on its way
abbrev pub if_made : Option ℕ → ℕ → ℕ
if_made None left = 0
if_made (Some packet) left = left

one_left : (net : Net) (session : ℕ) (at' : End) → 0 < deliveries_left net session at'
one_left net session end.Server = omega arith
one_left net session end.Peer = omega arith

-- fewer after each one
pub plays_fewer : EachDeliveryLeavesFewer → (set : Setting) (net next : Net) (session packet : ℕ) (at' : End) (made : Option ℕ) → Leads set net (event.Deliver session at' packet) made next
    → if_made made (deliveries_left next session (other at')) < deliveries_left net session at'
plays_fewer law set net next session packet at' None l = one_left net session at'
plays_fewer law set net next session packet at' (Some answer) l =
    subst (λ (n : Net). deliveries_left n session (other at') < deliveries_left net session at') (sym l.leads) (law set net session packet answer at' l.told l.makes)
