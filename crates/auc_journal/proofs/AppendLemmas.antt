-- What a crash leaves in each step of an append.
use Rattle.std.proofs.Common.{◌≡◌, ◌≢◌, ◌⊎◌, inl, inr, ℕ, ◌+◌, ◌≤◌, List, [], ◌∷◌, ◌++◌, length, get_or, take, drop, refl, sym, ◌∙◌, ap, subst, arith, append_assoc, length-append, length-drop, take-append-drop}
use Rattle.std.specs.Prelude.{false, ◌==◌, min, Result, Ok}
use Rattle.std.proofs.lemmas.Bool.Decides.{nat_tests}
use Rattle.std.proofs.lemmas.Bool.{cases_eq}
use Rattle.std.proofs.lemmas.List.{take_at, drop_at, drop_more, drop-drop}
use Rattle.auc_disk.specs.Disk.{Torn, put}
use Rattle.auc_disk.proofs.Facts.{put-within}
use Rattle.auc_journal.specs.Image.{Frame, Reading, behind, header, is_body, most, read_frames, read_image, size_in}
use Rattle.auc_journal.specs.InnerBody.{IsBody}
use Rattle.auc_journal.specs.Settled.{AtRest, HasBody, IsAppendingAll, IsClosable}
use Rattle.auc_journal.proofs.FrameLemmas.{behind-more, ok_is, open_gate, pass_over}
use Rattle.auc_journal.proofs.PartLemmas.{IsFrames, Parts, length-file, parts_of, reads}

-- a body behind the others
pub one_more : (octets body : List ℕ) (frames added : List Frame) (place : ℕ) → IsBody body added → IsFrames octets frames place → IsFrames (octets ++ 1 ∷ body) (frames ++ added) (place + 1 + length body)
one_more octets body frames added place good are = record {
  size = omega (arith, length-append octets (1 ∷ body), are.size);
  again = λ tail.
      ap (λ (l : List ℕ). read_frames 0 16 l) (append_assoc octets (1 ∷ body) tail)
      ∙ are.again (1 ∷ body ++ tail)
      ∙ ap (behind frames) (open_gate place (body ++ tail) (good.is tail))
      ∙ (λ i. behind frames (behind (good.says tail i) (read_frames (good.size tail i) (place + 1 + good.size tail i) (body ++ tail))))
      ∙ ap (λ (r : Result Reading ℕ). behind frames (behind added r)) (pass_over (place + 1 + length body) body tail)
      ∙ behind-more frames added (read_frames 0 (place + 1 + length body) tail);
}

module _ (octets : List ℕ) (frames : List Frame) (place : ℕ) (are : IsFrames octets frames place) where
  -- a file of these frames, a gate and what stands behind it
  abbrev pub file_with : ℕ → List ℕ → List ℕ
  file_with gate stale = header ++ (octets ++ gate ∷ stale)

  split : (gate : ℕ) (stale : List ℕ) → file_with gate stale ≡ (header ++ octets) ++ gate ∷ stale
  split gate stale = sym (append_assoc header octets (gate ∷ stale))

  split_behind : (gate : ℕ) (stale : List ℕ) → file_with gate stale ≡ ((header ++ octets) ++ gate ∷ []) ++ stale
  split_behind gate stale = split gate stale ∙ sym (append_assoc (header ++ octets) (gate ∷ []) stale)

  front_size : length (header ++ octets) ≡ place
  front_size = omega (arith, length-file octets, are.size)

  front_gate_size : (gate : ℕ) → length ((header ++ octets) ++ gate ∷ []) ≡ place + 1
  front_gate_size gate = omega (arith, length-append (header ++ octets) (gate ∷ []), front_size)

  pub length-with : (gate : ℕ) (stale : List ℕ) → length (file_with gate stale) ≡ place + 1 + length stale
  length-with gate stale = omega (arith, ap length (split gate stale), length-append (header ++ octets) (gate ∷ stale), front_size)

  take_front : (gate : ℕ) (stale : List ℕ) → take place (file_with gate stale) ≡ header ++ octets
  take_front gate stale = ap (λ (l : List ℕ). take place l) (split gate stale) ∙ take_at (header ++ octets) (gate ∷ stale) place front_size

  take_gate : (gate : ℕ) (stale : List ℕ) → take (place + 1) (file_with gate stale) ≡ (header ++ octets) ++ gate ∷ []
  take_gate gate stale = ap (λ (l : List ℕ). take (place + 1) l) (split_behind gate stale) ∙ take_at ((header ++ octets) ++ gate ∷ []) stale (place + 1) (front_gate_size gate)

  drop_gate : (gate : ℕ) (stale : List ℕ) → drop (place + 1) (file_with gate stale) ≡ stale
  drop_gate gate stale = ap (λ (l : List ℕ). drop (place + 1) l) (split_behind gate stale) ∙ drop_at ((header ++ octets) ++ gate ∷ []) stale (place + 1) (front_gate_size gate)

  pub drop_place : (gate : ℕ) (stale : List ℕ) → drop place (file_with gate stale) ≡ gate ∷ stale
  drop_place gate stale = ap (λ (l : List ℕ). drop place l) (split gate stale) ∙ drop_at (header ++ octets) (gate ∷ stale) place front_size

  -- a file of frames and a closed gate is at rest
  pub rests : (stale : List ℕ) → length (file_with 0 stale) ≤ most → AtRest (file_with 0 stale) frames place
  rests stale fits = record {
    read = reads frames place 0 stale refl octets are fits;
    gate = ap (λ (l : List ℕ). take 1 l) (drop_place 0 stale);
  }

  -- a body and a closed gate behind a gate
  pub has_body : (gate : ℕ) (body tail : List ℕ) (added : List Frame) → IsBody body added → HasBody (file_with gate (body ++ 0 ∷ tail)) place
  has_body gate body tail added good =
      let file = file_with gate (body ++ 0 ∷ tail) in
      let behind_gate : drop (place + 1) file ≡ body ++ 0 ∷ tail = drop_gate gate (body ++ 0 ∷ tail) in
      let size : size_in (drop (place + 1) file) ≡ length body = ap size_in behind_gate ∙ good.size (0 ∷ tail) in
      let next : drop (place + 1 + size_in (drop (place + 1) file)) file ≡ 0 ∷ tail =
      ap (λ (k : ℕ). drop (place + 1 + k) file) size
      ∙ sym (drop-drop (length body) (place + 1) file)
      ∙ ap (λ (l : List ℕ). drop (length body) l) behind_gate
      ∙ drop_at body (0 ∷ tail) (length body) refl in (ap is_body behind_gate ∙ good.is (0 ∷ tail), ap (λ (l : List ℕ). take 1 l) next)

  -- a write behind the closed gate leaves the gate, whatever a crash leaves of the write
  pub torn_behind : (stale : List ℕ) (n : ℕ) (image : List ℕ) → Torn (place + 1) n (file_with 0 stale) image → length (file_with 0 stale) ≤ most → place + 1 + n ≤ most → AtRest image frames place
  torn_behind stale n image torn fits room =
      let long = length-with 0 stale in
      let m : min (place + 1) (length (file_with 0 stale)) ≡ place + 1 = omega (arith, long) in
      let front : take (place + 1) image ≡ (header ++ octets) ++ 0 ∷ [] =
      ap (λ (k : ℕ). take k image) (sym m) ∙ torn.before ∙ ap (λ (k : ℕ). take k (file_with 0 stale)) m ∙ take_gate 0 stale in
      let whole : image ≡ file_with 0 (drop (place + 1) image) =
      sym (take-append-drop (place + 1) image) ∙ ap (λ (l : List ℕ). l ++ drop (place + 1) image) front ∙ sym (split_behind 0 (drop (place + 1) image)) in
      subst (λ (l : List ℕ). AtRest l frames place) (sym whole) (rests (drop (place + 1) image) (omega (arith, ap length whole, torn.no_longer, fits, room)))

  -- bytes behind the gate
  pub put_behind : (stale bytes : List ℕ) → put (file_with 0 stale) (place + 1) bytes ≡ file_with 0 (bytes ++ drop (length bytes) stale)
  put_behind stale bytes =
      put-within 0 (file_with 0 stale) (place + 1) bytes (omega (arith, length-with 0 stale))
      ∙ (λ i. take_gate 0 stale i ++ bytes ++ drop (place + 1 + length bytes) (file_with 0 stale))
      ∙ ap (λ (l : List ℕ). (((header ++ octets) ++ 0 ∷ []) ++ bytes) ++ l) (sym (drop-drop (length bytes) (place + 1) (file_with 0 stale)) ∙ ap (λ (l : List ℕ). drop (length bytes) l) (drop_gate 0 stale))
      ∙ append_assoc ((header ++ octets) ++ 0 ∷ []) bytes (drop (length bytes) stale)
      ∙ sym (split_behind 0 (bytes ++ drop (length bytes) stale))

  -- what a crash leaves of a write of the gate is the file with some gate
  pub torn_gate : (gate : ℕ) (stale image : List ℕ) → Torn place 1 (file_with gate stale) image → (other : ℕ) × (image ≡ file_with other stale)
  torn_gate gate stale image torn =
      let long = length-with gate stale in
      let m : min place (length (file_with gate stale)) ≡ place = omega (arith, long) in
      let front : take place image ≡ header ++ octets =
      ap (λ (k : ℕ). take k image) (sym m) ∙ torn.before ∙ ap (λ (k : ℕ). take k (file_with gate stale)) m ∙ take_front gate stale in
      let other = get_or image place 0 in
      let rest : drop place image ≡ other ∷ stale =
      drop_more image place 0 (omega (arith, torn.no_shorter, long)) ∙ ap (λ (l : List ℕ). other ∷ l) (torn.after ∙ drop_gate gate stale) in
      (other, sym (take-append-drop place image) ∙ (λ i. front i ++ rest i) ∙ sym (split other stale))

  pub put_gate : (gate new : ℕ) (stale : List ℕ) → put (file_with gate stale) place (new ∷ []) ≡ file_with new stale
  put_gate gate new stale =
      put-within 0 (file_with gate stale) place (new ∷ []) (omega (arith, length-with gate stale))
      ∙ (λ i. take_front gate stale i ++ new ∷ [] ++ drop_gate gate stale i)
      ∙ append_assoc (header ++ octets) (new ∷ []) stale
      ∙ sym (split new stale)

is_shut : (gate : ℕ) → gate ≢ 1 → (gate == 1) ≡ false
is_shut gate shut = grind (arith, nat_tests)

-- a file of frames and a closed gate is at rest
pub at_rest_of : (octets stale : List ℕ) (frames : List Frame) (place : ℕ) → IsFrames octets frames place → length (header ++ (octets ++ 0 ∷ stale)) ≤ most → AtRest (header ++ (octets ++ 0 ∷ stale)) frames place
at_rest_of octets stale frames place are fits = rests octets frames place are stale fits

-- the gate of a file at rest is closed
pub rest_closable : (file : List ℕ) (frames : List Frame) (place : ℕ) → AtRest file frames place → IsClosable file
rest_closable file frames place rest = λ reading is.
    let same : record { frames = frames; end = place } ≡ reading = ok_is (sym rest.read ∙ is) in
    inr (inl (subst (λ (r : Reading). take 1 (drop r.end file) ≡ 0 ∷ []) same rest.gate))

-- a gate that has a body can be closed
pub body_closable : (file : List ℕ) (frames : List Frame) (place : ℕ) → read_image file ≡ Ok (record { frames = frames; end = place }) → HasBody file place → IsClosable file
body_closable file frames place read body = λ reading is.
    let same : record { frames = frames; end = place } ≡ reading = ok_is (sym read ∙ is) in
    inr (inr (subst (λ (r : Reading). HasBody file r.end) same body))

-- a file of frames, some gate, and a body with a closed gate behind it
module _ (octets : List ℕ) (frames : List Frame) (place : ℕ) (are : IsFrames octets frames place) (body : List ℕ) (added : List Frame) (good : IsBody body added) (tail : List ℕ) where
  more : IsFrames (octets ++ 1 ∷ body) (frames ++ added) (place + (1 + length body))
  more = subst (IsFrames (octets ++ 1 ∷ body) (frames ++ added)) (sums place (length body)) (one_more octets body frames added place good are)
    where
      sums : (a b : ℕ) → a + 1 + b ≡ a + (1 + b)
      sums a b = omega arith

  -- with an open gate it is at rest with what the body says
  pub opened_rests : length (file_with octets frames place are 1 (body ++ 0 ∷ tail)) ≤ most → AtRest (file_with octets frames place are 1 (body ++ 0 ∷ tail)) (frames ++ added) (place + (1 + length body))
  opened_rests fits =
      let as_more : file_with octets frames place are 1 (body ++ 0 ∷ tail) ≡ header ++ ((octets ++ 1 ∷ body) ++ 0 ∷ tail) = ap (λ (l : List ℕ). header ++ l) (sym (append_assoc octets (1 ∷ body) (0 ∷ tail))) in
      subst (λ (l : List ℕ). AtRest l (frames ++ added) (place + (1 + length body))) (sym as_more)
      (at_rest_of (octets ++ 1 ∷ body) tail (frames ++ added) (place + (1 + length body)) more (subst (λ (l : List ℕ). length l ≤ most) as_more fits))

  -- and with any gate it is read as the frames, or as these with what the body says
  pub by_gate : (gate : ℕ) → length (file_with octets frames place are gate (body ++ 0 ∷ tail)) ≤ most → IsAppendingAll frames place added (1 + length body) (file_with octets frames place are gate (body ++ 0 ∷ tail))
  by_gate gate fits = by (cases_eq gate 1)
    where
      opens : gate ≡ 1 → AtRest (file_with octets frames place are gate (body ++ 0 ∷ tail)) (frames ++ added) (place + (1 + length body))
      opens is =
          subst (λ (g : ℕ). AtRest (file_with octets frames place are g (body ++ 0 ∷ tail)) (frames ++ added) (place + (1 + length body))) (sym is)
          (opened_rests (subst (λ (g : ℕ). length (file_with octets frames place are g (body ++ 0 ∷ tail)) ≤ most) is fits))

      by : (gate ≡ 1) ⊎ (gate ≢ 1) → IsAppendingAll frames place added (1 + length body) (file_with octets frames place are gate (body ++ 0 ∷ tail))
      by (inl is) = (inr (opens is).read, rest_closable (file_with octets frames place are gate (body ++ 0 ∷ tail)) (frames ++ added) (place + (1 + length body)) (opens is))
      by (inr shut) =
          let read = reads frames place gate (body ++ 0 ∷ tail) (is_shut gate shut) octets are fits in
          (inl read, body_closable (file_with octets frames place are gate (body ++ 0 ∷ tail)) frames place read (has_body octets frames place are gate body tail added good))

-- the steps of an append of a body to a file at rest
module _ (file : List ℕ) (frames : List Frame) (place : ℕ) (added : List Frame) (body : List ℕ) (good : IsBody body added) (rest : AtRest file frames place) (room : place + 2 + length body ≤ most) where
  abbrev pub parts : Parts file frames place
  parts = parts_of file frames place rest

  -- how many bytes the gate and the body have
  abbrev pub step : ℕ
  step = 1 + length body

  abbrev pub after : List ℕ
  after = body ++ 0 ∷ drop step parts.stale

  -- the file with the body behind a gate
  abbrev pub staged : ℕ → List ℕ
  staged gate = file_with parts.octets frames place parts.are gate after

  fits : length (header ++ (parts.octets ++ 0 ∷ parts.stale)) ≤ most
  fits = subst (λ (l : List ℕ). length l ≤ most) parts.whole parts.fits

  staged_fits : (gate : ℕ) → length (staged gate) ≤ most
  staged_fits gate =
      omega (
        arith,
        room,
        fits,
        length-with parts.octets frames place parts.are gate after,
        length-with parts.octets frames place parts.are 0 parts.stale,
        length-append body (0 ∷ drop step parts.stale),
        length-drop step parts.stale,
      )

  pub write_behind : (image : List ℕ) → Torn (place + 1) step file image → IsAppendingAll frames place added step image
  write_behind image torn =
      let left : AtRest image frames place =
      torn_behind parts.octets frames place parts.are parts.stale step image (subst (λ (l : List ℕ). Torn (place + 1) step l image) parts.whole torn) fits (omega (arith, room)) in
      (inl left.read, rest_closable image frames place left)

  pub put_staged : put file (place + 1) (body ++ 0 ∷ []) ≡ staged 0
  put_staged =
      let long : length (body ++ 0 ∷ []) ≡ step = omega (arith, length-append body (0 ∷ [])) in
      ap (λ (l : List ℕ). put l (place + 1) (body ++ 0 ∷ [])) parts.whole
      ∙ put_behind parts.octets frames place parts.are parts.stale (body ++ 0 ∷ [])
      ∙ ap (λ (n : ℕ). file_with parts.octets frames place parts.are 0 ((body ++ 0 ∷ []) ++ drop n parts.stale)) long
      ∙ ap (λ (l : List ℕ). file_with parts.octets frames place parts.are 0 l) (append_assoc body (0 ∷ []) (drop step parts.stale))

  pub write_gate : (image : List ℕ) → Torn place 1 (staged 0) image → IsAppendingAll frames place added step image
  write_gate image torn =
      let left = torn_gate parts.octets frames place parts.are 0 after image torn in
      subst (IsAppendingAll frames place added step) (sym left.1) (by_gate parts.octets frames place parts.are body added good (drop step parts.stale) left.0 (staged_fits left.0))

  pub written : AtRest (put (staged 0) place (1 ∷ [])) (frames ++ added) (place + step)
  written =
      subst (λ (l : List ℕ). AtRest l (frames ++ added) (place + step)) (sym (put_gate parts.octets frames place parts.are 0 1 after))
      (opened_rests parts.octets frames place parts.are body added good (drop step parts.stale) (staged_fits 1))
