-- The calls of an append, one after the other: what a crash may have left so far.
use Rattle.std.proofs.Common.{◌≡◌, ◌⊎◌, inl, inr, ⊎_elim, ℕ, ◌+◌, ◌≤◌, List, [], ◌∷◌, ◌++◌, length, Option, Some, None, refl, sym, ◌∙◌, ap, subst, arith, length-append}
use Rattle.auc_disk.specs.Disk.{Elapses, Follows, Only, OnlyTold, Puts, Torn, put}
use Rattle.auc_journal.specs.Settled.{LeavesOnly}
use Rattle.auc_disk.proofs.Facts.{some_is}
use Rattle.auc_journal.specs.Image.{Frame, most}
use Rattle.auc_journal.specs.InnerBody.{IsBody}
use Rattle.auc_journal.specs.Settled.{AtRest, IsAppendingAll, IsSettled}
use Rattle.auc_journal.proofs.AppendLemmas.{put_staged, rest_closable, staged, write_behind, write_gate, written}
use Rattle.auc_journal.proofs.MomentLemmas.{goes_on, started}

pub told_or_not : (told : Option (List ℕ)) → (told ≡ None) ⊎ ((file : List ℕ) × (told ≡ Some file))
told_or_not None = inl refl
told_or_not (Some file) = inr (file, refl)

pub none_is : (told : Option (List ℕ)) (last : List ℕ) → told ≡ None → told ≡ Some last → ⊥
none_is told last none some = cc

module _ {D : Type 0} (seen : D → Option (List ℕ)) (may_leave : D → List ℕ → Type 0) (moment : D → ℕ) (left_since : D → ℕ → List ℕ → Type 0) where
  -- time goes on by a call
  abbrev pub Passes : D → D → Type 0
  Passes old new = Elapses (moment old) (moment new) (left_since old) (left_since new) (may_leave new)

  -- a call leaves no more than before it
  abbrev pub LeavesNoMore : D → D → Type 0
  LeavesNoMore old new = (image : List ℕ) → may_leave new image → may_leave old image

  -- if there is no call at all
  pub no_call : ((disk : D) (image : List ℕ) → left_since disk (moment disk) image → may_leave disk image)
      → (old : D) (frames : List Frame) (place : ℕ) (added : List Frame) (size : ℕ) → IsSettled seen may_leave old frames place → (file : List ℕ) → seen old ≡ Some file
      → LeavesOnly moment left_since old old (IsAppendingAll frames place added size)
  no_call only_now old frames place added size settled file told =
      let rest = settled.at_rest file told in
      let here : IsAppendingAll frames place added size file = (inl rest.read, rest_closable file frames place rest) in
      started moment left_since old (IsAppendingAll frames place added size) (λ image left. subst (IsAppendingAll frames place added size) (sym (settled.durable file told image (only_now old image left))) here)

  -- a disk that reveals nothing reveals nothing after a write
  none_put : (old new : D) (at : ℕ) (bytes : List ℕ) → Puts (seen old) at bytes (seen new) → seen old ≡ None → seen new ≡ None
  none_put old new at bytes puts none = subst (λ (o : Option (List ℕ)). Puts o at bytes (seen new)) none puts

  -- what holds if the disk revealed its bytes holds of every disk
  pub settled_by : (old wrote synced opened ended : D) (at to : ℕ) (bytes gate : List ℕ) (frames : List Frame) (place : ℕ)
      → Puts (seen old) at bytes (seen wrote) → seen synced ≡ seen wrote → Puts (seen synced) to gate (seen opened) → seen ended ≡ seen opened
      → ((file : List ℕ) → seen old ≡ Some file → (last : List ℕ) → seen ended ≡ Some last → AtRest last frames place × Only last (may_leave ended)) → IsSettled seen may_leave ended frames place
  settled_by old wrote synced opened ended at to bytes gate frames place puts same opens kept known = record { at_rest = λ last is. (both last is).0; durable = λ last is. (both last is).1 }
    where
      nothing : seen old ≡ None → seen ended ≡ None
      nothing none = kept ∙ none_put synced opened to gate opens (same ∙ none_put old wrote at bytes puts none)

      both : (last : List ℕ) → seen ended ≡ Some last → AtRest last frames place × Only last (may_leave ended)
      both last is = ⊎_elim (λ none. absurd (none_is (seen ended) last (nothing none) is)) (λ told. known told.0 told.1 last is) (told_or_not (seen old))

  module _ (only_now : (disk : D) (image : List ℕ) → left_since disk (moment disk) image → may_leave disk image)
      (old : D) (frames : List Frame) (place : ℕ) (added : List Frame) (body bytes : List ℕ) (good : IsBody body added) (spelled : bytes ≡ body ++ 0 ∷ []) (room : place + 2 + length body ≤ most)
      (settled : IsSettled seen may_leave old frames place) (file : List ℕ) (told : seen old ≡ Some file) where
    abbrev P : List ℕ → Type 0
    P = IsAppendingAll frames place added (1 + length body)

    abbrev Lasts : D → Type 0
    Lasts new = LeavesOnly moment left_since old new P

    abbrev rest : AtRest file frames place
    rest = settled.at_rest file told

    abbrev only : Only file (may_leave old)
    only = settled.durable file told

    abbrev file_staged : List ℕ
    file_staged = staged file frames place added body good rest room 0

    size : length bytes ≡ 1 + length body
    size = omega (arith, ap length spelled, length-append body (0 ∷ []))

    -- before the first call
    pub at_start : Lasts old
    at_start = no_call only_now old frames place added (1 + length body) settled file told

    behind_leaves : (wrote : D) → Follows (Torn (place + 1) (length bytes)) (may_leave old) (may_leave wrote) → (image : List ℕ) → may_leave wrote image → P image
    behind_leaves wrote crash image now =
        let from = crash image now in
        let torn : Torn (place + 1) (1 + length body) file image = subst (λ (n : ℕ). Torn (place + 1) n file image) size (subst (λ (l : List ℕ). Torn (place + 1) (length bytes) l image) (only from.0 from.1) from.2) in
        write_behind file frames place added body good rest room image torn

    -- after the body was written
    pub after_body : (wrote : D) → Follows (Torn (place + 1) (length bytes)) (may_leave old) (may_leave wrote) → Passes old wrote → Lasts wrote
    after_body wrote crash time = goes_on moment left_since old old wrote P (may_leave wrote) at_start time (behind_leaves wrote crash)

    -- after the first sync
    pub after_sync : (wrote synced : D) → Follows (Torn (place + 1) (length bytes)) (may_leave old) (may_leave wrote) → Passes old wrote → LeavesNoMore wrote synced → Passes wrote synced → Lasts synced
    after_sync wrote synced crash time keeps later =
        goes_on moment left_since old wrote synced P (may_leave synced) (after_body wrote crash time) later (λ image now. behind_leaves wrote crash image (keeps image now))

    staged_seen : (wrote : D) → Puts (seen old) (place + 1) bytes (seen wrote) → seen wrote ≡ Some file_staged
    staged_seen wrote puts =
        let is : seen wrote ≡ Some (put file (place + 1) bytes) = subst (λ (o : Option (List ℕ)). Puts o (place + 1) bytes (seen wrote)) told puts in
        is ∙ ap (λ (l : List ℕ). Some (put file (place + 1) l)) spelled ∙ ap Some (put_staged file frames place added body good rest room)

    staged_only : (wrote synced : D) → Puts (seen old) (place + 1) bytes (seen wrote) → OnlyTold (seen wrote) (may_leave synced) → Only file_staged (may_leave synced)
    staged_only wrote synced puts durable = subst (λ (o : Option (List ℕ)). OnlyTold o (may_leave synced)) (staged_seen wrote puts) durable

    gate_leaves : (wrote synced opened : D) → Puts (seen old) (place + 1) bytes (seen wrote) → OnlyTold (seen wrote) (may_leave synced) → Follows (Torn place 1) (may_leave synced) (may_leave opened)
        → (image : List ℕ) → may_leave opened image → P image
    gate_leaves wrote synced opened puts durable crash image now =
        let from = crash image now in
        write_gate file frames place added body good rest room image (subst (λ (l : List ℕ). Torn place 1 l image) (staged_only wrote synced puts durable from.0 from.1) from.2)

    -- after the gate was written
    pub after_gate : (wrote synced opened : D) → Lasts synced → Puts (seen old) (place + 1) bytes (seen wrote) → OnlyTold (seen wrote) (may_leave synced) → Follows (Torn place 1) (may_leave synced) (may_leave opened) → Passes synced opened → Lasts opened
    after_gate wrote synced opened so_far puts durable crash time = goes_on moment left_since old synced opened P (may_leave opened) so_far time (gate_leaves wrote synced opened puts durable crash)

    -- after the second sync
    pub at_end : (wrote synced opened ended : D) → Lasts opened → Puts (seen old) (place + 1) bytes (seen wrote) → OnlyTold (seen wrote) (may_leave synced) → Follows (Torn place 1) (may_leave synced) (may_leave opened)
        → LeavesNoMore opened ended → Passes opened ended → Lasts ended
    at_end wrote synced opened ended so_far puts durable crash keeps time =
        goes_on moment left_since old opened ended P (may_leave ended) so_far time (λ image now. gate_leaves wrote synced opened puts durable crash image (keeps image now))

    opened_seen : (wrote synced opened : D) → Puts (seen old) (place + 1) bytes (seen wrote) → seen synced ≡ seen wrote → Puts (seen synced) place (1 ∷ []) (seen opened) → seen opened ≡ Some (put file_staged place (1 ∷ []))
    opened_seen wrote synced opened puts same opens = subst (λ (o : Option (List ℕ)). Puts o place (1 ∷ []) (seen opened)) (same ∙ staged_seen wrote puts) opens

    pub has_frame : (wrote synced opened ended : D) → Puts (seen old) (place + 1) bytes (seen wrote) → seen synced ≡ seen wrote → Puts (seen synced) place (1 ∷ []) (seen opened) → OnlyTold (seen opened) (may_leave ended)
        → AtRest (put file_staged place (1 ∷ [])) (frames ++ added) (place + (1 + length body)) × Only (put file_staged place (1 ∷ [])) (may_leave ended)
    has_frame wrote synced opened ended puts same opens durable = (
      written file frames place added body good rest room,
      subst (λ (o : Option (List ℕ)). OnlyTold o (may_leave ended)) (opened_seen wrote synced opened puts same opens) durable,
    )

    pub has_seen : (wrote synced opened ended : D) → Puts (seen old) (place + 1) bytes (seen wrote) → seen synced ≡ seen wrote → Puts (seen synced) place (1 ∷ []) (seen opened) → seen ended ≡ seen opened
        → seen ended ≡ Some (put file_staged place (1 ∷ []))
    has_seen wrote synced opened ended puts same opens kept = kept ∙ opened_seen wrote synced opened puts same opens

    pub settles : (wrote synced opened ended : D) → Puts (seen old) (place + 1) bytes (seen wrote) → seen synced ≡ seen wrote → Puts (seen synced) place (1 ∷ []) (seen opened) → seen ended ≡ seen opened → OnlyTold (seen opened) (may_leave ended)
        → (last : List ℕ) → seen ended ≡ Some last → AtRest last (frames ++ added) (place + (1 + length body)) × Only last (may_leave ended)
    settles wrote synced opened ended puts same opens kept durable last is =
        let as_put : put file_staged place (1 ∷ []) ≡ last = some_is (sym (has_seen wrote synced opened ended puts same opens kept) ∙ is) in
        subst (λ (l : List ℕ). AtRest l (frames ++ added) (place + (1 + length body)) × Only l (may_leave ended)) as_put (has_frame wrote synced opened ended puts same opens durable)
