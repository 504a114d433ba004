-- The frames of several subscribers, one more at a time.
use Rattle.std.proofs.Common.{◌≡◌, ℕ, suc, Option, Some, ◌+◌, ◌*◌, ◌<◌, ◌≤◌, List, [], ◌∷◌, ◌++◌, zero, length, take, get_or, All, sym, ◌∙◌, ap, subst, arith, append_assoc}
use Rattle.std.proofs.Math.ListN.{length-map}
use Rattle.std.proofs.Math.Seq.{take-suc}
use Rattle.std.proofs.lemmas.List.{map-append, take_all}
use Rattle.std.proofs.lemmas.List.Elements.{All-append}
use Rattle.auc_memory.specs.Identity.{Identity, IsIdentity}
use Rattle.auc_sqn.specs.Number.{max_seq}
use Rattle.auc_journal.specs.InnerBody.{IsBody, IsFrame}
use Rattle.auc_journal.specs.Settled.{IsAppendingAll, IsSettled, LeavesOnly}
use Rattle.auc_journal.specs.Image.{Frame, group_of}
use Rattle.auc_journal.specs.Journal.{frame_at, frames_at}
use Rattle.auc_journal.proofs.BodyLemmas.{entries_length, group_good}

-- one more
pub frames_more : (imsis : List Identity) (items : List (ℕ × ℕ)) (i : ℕ) (d : ℕ × ℕ) → i < length items → frames_at imsis (take i items) ++ frame_at imsis (get_or items i d) ∷ [] ≡ frames_at imsis (take (i + 1) items)
frames_more imsis items i d inside = sym (ap (frames_at imsis) (ap (λ (n : ℕ). take n items) (next i) ∙ take-suc items i d inside) ∙ map-append (frame_at imsis) (take i items) (get_or items i d ∷ []))
  where
    next : (n : ℕ) → n + 1 ≡ suc n
    next n = omega arith

-- behind others
pub behind_more : (limits : List Frame) (imsis : List Identity) (items : List (ℕ × ℕ)) (i : ℕ) (d : ℕ × ℕ) (imsi : Identity) → i < length items → imsi ≡ (frame_at imsis (get_or items i d)).imsi
    → (limits ++ frames_at imsis (take i items)) ++ record { imsi = imsi; limit = (get_or items i d).1 } ∷ [] ≡ limits ++ frames_at imsis (take (i + 1) items)
behind_more limits imsis items i d imsi inside is =
    append_assoc limits (frames_at imsis (take i items)) (record { imsi = imsi; limit = (get_or items i d).1 } ∷ [])
    ∙ ap (λ (x : Identity). limits ++ (frames_at imsis (take i items) ++ record { imsi = x; limit = (get_or items i d).1 } ∷ [])) is
    ∙ ap (λ (l : List Frame). limits ++ l) (frames_more imsis items i d inside)

-- how many bytes they take, with their gate
pub group_size : (imsis : List Identity) (items : List (ℕ × ℕ)) → 1 + length (group_of (frames_at imsis items)) ≡ 4 + 17 * length items
group_size imsis items = let e = entries_length (frames_at imsis items) in let l = length-map items (frame_at imsis) in omega (arith, e, l)

-- one frame that may be written
one_fit : (frame : Frame) → IsFrame frame → All IsFrame (frame ∷ [])
one_fit frame fit zero d inside = fit
one_fit frame fit (suc k) d inside = absurd (omega (arith, inside))

-- one more
pub fit_more : (imsis : List Identity) (items : List (ℕ × ℕ)) (i : ℕ) (d : ℕ × ℕ) (imsi : Identity) → i < length items → imsi ≡ (frame_at imsis (get_or items i d)).imsi → IsIdentity imsi.digits imsi.number
    → (1 ≤ (get_or items i d).1) × ((get_or items i d).1 ≤ max_seq) → All IsFrame (frames_at imsis (take i items)) → All IsFrame (frames_at imsis (take (i + 1) items))
fit_more imsis items i d imsi inside is identity limit was =
    subst (λ (l : List Frame). All IsFrame l) (frames_more imsis items i d inside)
    (All-append IsFrame (frames_at imsis (take i items)) (frame_at imsis (get_or items i d) ∷ []) was
    (one_fit (frame_at imsis (get_or items i d)) (record { identity = subst (λ (x : Identity). IsIdentity x.digits x.number) is identity; least = limit.0; most = limit.1 })))

-- all of them
pub fit_all : (imsis : List Identity) (items : List (ℕ × ℕ)) (i : ℕ) → i ≡ length items → All IsFrame (frames_at imsis (take i items)) → All IsFrame (frames_at imsis items)
fit_all imsis items i all = subst (λ (l : List (ℕ × ℕ)). All IsFrame (frames_at imsis l)) (take_all i items (omega (arith, all)))

-- their body
pub group_body : (imsis : List Identity) (items : List (ℕ × ℕ)) → (2 ≤ length items) × (length items ≤ 256) → All IsFrame (frames_at imsis items) → IsBody (group_of (frames_at imsis items)) (frames_at imsis items)
group_body imsis items count fit =
    let l = length-map items (frame_at imsis) in
    group_good (frames_at imsis items) (omega (arith, l, count.0)) (omega (arith, l, count.1)) fit

module _ {D : Type 0} (seen : D → Option (List ℕ)) (may_leave : D → List ℕ → Type 0) (moment : D → ℕ) (left_since : D → ℕ → List ℕ → Type 0)
    (old new : D) (place : ℕ) (imsis own : List Identity) (is : imsis ≡ own) (items : List (ℕ × ℕ)) where
  -- what a crash leaves of their append, for the journal's own identities
  pub group_moment : ((frames : List Frame) → IsSettled seen may_leave old frames place → (file : List ℕ) → seen old ≡ Some file
      → LeavesOnly moment left_since old new (IsAppendingAll frames place (frames_at imsis items) (1 + length (group_of (frames_at imsis items)))))
      → (frames : List Frame) → IsSettled seen may_leave old frames place → (file : List ℕ) → seen old ≡ Some file
      → LeavesOnly moment left_since old new (IsAppendingAll frames place (frames_at own items) (4 + 17 * length items))
  group_moment raw frames settled file told =
      subst (λ (l : List Identity). LeavesOnly moment left_since old new (IsAppendingAll frames place (frames_at l items) (4 + 17 * length items))) is
      (subst (λ (n : ℕ). LeavesOnly moment left_since old new (IsAppendingAll frames place (frames_at imsis items) n)) (group_size imsis items) (raw frames settled file told))

  -- and what it leaves after Ok
  pub group_settles : (to : ℕ) → ((frames : List Frame) → IsSettled seen may_leave old frames place → IsSettled seen may_leave new (frames ++ frames_at imsis items) to)
      → (frames : List Frame) → IsSettled seen may_leave old frames place → IsSettled seen may_leave new (frames ++ frames_at own items) to
  group_settles to raw frames settled = subst (λ (l : List Identity). IsSettled seen may_leave new (frames ++ frames_at l items) to) is (raw frames settled)
