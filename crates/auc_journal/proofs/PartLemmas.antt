-- A file that is read: its header, the bytes of its frames, and what stands behind them.
use Rattle.std.proofs.Common.{◌≡◌, ℕ, ◌+◌, ◌≤◌, ◌<◌, List, [], ◌∷◌, ◌++◌, length, take, drop, refl, sym, ◌∙◌, ap, subst, arith, append_assoc, length-append, length-drop, take-append-drop}
use Rattle.std.specs.Prelude.{Bool, true, false, ◌==◌, ◌&&◌, nat_lt, nat_le, if◌then◌else◌, Result, Ok, Err}
use Rattle.std.specs.Str.{bytes_eq}
use Rattle.std.proofs.lemmas.Bool.Decides.{nat_tests}
use Rattle.std.proofs.lemmas.Slice.Eq.{bytes_eq-Decides}
use Rattle.std.proofs.lemmas.List.{length-take, drop_at}
use Rattle.auc_journal.specs.Image.{Frame, Reading, behind, header, most, read_frames, read_image, with_gate}
use Rattle.auc_journal.specs.Settled.{AtRest}
use Rattle.auc_journal.proofs.FrameLemmas.{Front, behind-end, front_of, ok_is, shut_gate}

-- bytes that are these frames, up to a place
pub record IsFrames (octets : List ℕ) (frames : List Frame) (place : ℕ) : Type 0 where
  pub size : 16 + length octets ≡ place
  pub again : (tail : List ℕ) → read_frames 0 16 (octets ++ tail) ≡ behind frames (read_frames 0 place tail)

-- what is read of the bytes behind a header
abbrev pub read_rest : List ℕ → Result Reading ℕ
read_rest tail =
    if nat_lt most (length (header ++ tail)) then Err most
    else if nat_le (length (header ++ tail)) 17 then Ok (record { frames = []; end = 16 })
    else with_gate (length (header ++ tail)) (read_frames 0 16 tail)

pub length-file : (tail : List ℕ) → length (header ++ tail) ≡ 16 + length tail
length-file tail = length-append header tail

-- a file of at most 17 bytes has no frame, and a longer one what is read of its rest
rest_short : (tail : List ℕ) → nat_lt most (length (header ++ tail)) ≡ false → nat_le (length (header ++ tail)) 17 ≡ true → read_rest tail ≡ Ok (record { frames = []; end = 16 })
rest_short tail small short =
    λ i. if small i then Err most else if short i then Ok (record { frames = []; end = 16 }) else with_gate (length (header ++ tail)) (read_frames 0 16 tail)

rest_long : (tail : List ℕ) (reading : Reading) → nat_lt most (length (header ++ tail)) ≡ false → nat_le (length (header ++ tail)) 17 ≡ false → read_frames 0 16 tail ≡ Ok reading
    → ((length (header ++ tail) == most) && (reading.end == most)) ≡ false → read_rest tail ≡ Ok reading
rest_long tail reading small long is gate =
    (λ i. if small i then Err most else if long i then Ok (record { frames = []; end = 16 }) else with_gate (length (header ++ tail)) (is i))
    ∙ ap (λ (b : Bool). if b then Err most else Ok reading) gate

has_gate : (len place : ℕ) → place < len → len ≤ most → ((len == most) && (place == most)) ≡ false
has_gate len place below fits = grind (arith, nat_tests)

is_small : (len : ℕ) → len ≤ most → nat_lt most len ≡ false
is_small len fits = grind (arith, nat_tests)

le_from : (len : ℕ) → nat_le len 17 ≡ true → len ≤ 17
le_from len short = grind (arith, nat_tests)

fits_from : (len : ℕ) → nat_lt most len ≡ false → len ≤ most
fits_from len small = grind (arith, nat_tests)

-- a gate that isn't open ends the reading
module _ (frames : List Frame) (place gate : ℕ) (stale : List ℕ) (shut : (gate == 1) ≡ false) where
  ends : (octets : List ℕ) → IsFrames octets frames place → read_frames 0 16 (octets ++ gate ∷ stale) ≡ Ok (record { frames = frames; end = place })
  ends octets are = are.again (gate ∷ stale) ∙ ap (behind frames) (shut_gate place gate stale shut) ∙ behind-end frames place

  by_length : (octets : List ℕ) → IsFrames octets frames place → length (header ++ (octets ++ gate ∷ stale)) ≤ most → (short : Bool) → nat_le (length (header ++ (octets ++ gate ∷ stale))) 17 ≡ short
      → read_image (header ++ (octets ++ gate ∷ stale)) ≡ Ok (record { frames = frames; end = place })
  by_length octets are fits false long =
      let len = length-file (octets ++ gate ∷ stale) in
      rest_long (octets ++ gate ∷ stale) (record { frames = frames; end = place }) (is_small _ fits) long (ends octets are)
      (has_gate (length (header ++ (octets ++ gate ∷ stale))) place (omega (arith, len, length-append octets (gate ∷ stale), are.size)) fits)
  by_length [] are fits true short =
      let same : (record { frames = []; end = 16 }) ≡ (record { frames = frames; end = place }) = ok_is (sym (shut_gate 16 gate stale shut) ∙ ends [] are) in
      rest_short (gate ∷ stale) (is_small _ fits) short ∙ ap Ok same
  by_length (frame ∷ octets) are fits true short =
      absurd (omega (arith, le_from _ short, length-file ((frame ∷ octets) ++ gate ∷ stale), length-append octets (gate ∷ stale)))

  pub reads : (octets : List ℕ) → IsFrames octets frames place → length (header ++ (octets ++ gate ∷ stale)) ≤ most → read_image (header ++ (octets ++ gate ∷ stale)) ≡ Ok (record { frames = frames; end = place })
  reads octets are fits = by_length octets are fits (nat_le (length (header ++ (octets ++ gate ∷ stale))) 17) refl

-- the parts of a file that is read: its frames, what stands behind them, and room for a gate
pub record Read (file : List ℕ) (frames : List Frame) (place : ℕ) : Type 0 where
  pub octets : List ℕ
  pub rest : List ℕ
  pub are : IsFrames octets frames place
  pub whole : file ≡ header ++ (octets ++ rest)
  pub fits : length file ≤ most
  pub room : place + 1 ≤ most

no_frames : IsFrames [] [] 16
no_frames = record { size = refl; again = λ tail. refl }

read_short : (tail : List ℕ) (reading : Reading) → length (header ++ tail) ≤ most → (record { frames = []; end = 16 }) ≡ reading → Read (header ++ tail) reading.frames reading.end
read_short tail reading fits is =
    subst (λ (r : Reading). Read (header ++ tail) r.frames r.end) is (record { octets = []; rest = tail; are = no_frames; whole = refl; fits = fits; room = omega arith })

room_from : (len place : ℕ) → place ≤ len → len ≤ most → ((len == most) && (place == most)) ≡ false → place + 1 ≤ most
room_from len place below fits gate = grind (arith, nat_tests)

read_long : (tail : List ℕ) (reading : Reading) → length (header ++ tail) ≤ most → ((length (header ++ tail) == most) && (reading.end == most)) ≡ false → Front 0 16 tail reading → Read (header ++ tail) reading.frames reading.end
read_long tail reading fits gate front = record {
  octets = front.octets;
  rest = front.rest;
  are = record { size = omega (arith, front.size); again = front.again };
  whole = ap (λ (l : List ℕ). header ++ l) (sym front.whole);
  fits = fits;
  room = room_from (length (header ++ tail)) reading.end (omega (arith, length-file tail, front.size, ap length front.whole, length-append front.octets front.rest)) fits gate;
}

gate_by : (test : Bool) (inner reading : Reading) → (if test then Err most else Ok inner) ≡ Ok reading → (test ≡ false) × (inner ≡ reading)
gate_by true inner reading is = absurd (cc)
gate_by false inner reading is = (refl, ok_is is)

inner_by : (tail : List ℕ) (reading : Reading) (inner : Result Reading ℕ) → read_frames 0 16 tail ≡ inner → length (header ++ tail) ≤ most → with_gate (length (header ++ tail)) inner ≡ Ok reading → Read (header ++ tail) reading.frames reading.end
inner_by tail reading (Err place) read fits is = absurd (cc)
inner_by tail reading (Ok inner) read fits is =
    let passed = gate_by ((length (header ++ tail) == most) && (inner.end == most)) inner reading is in
    subst (λ (r : Reading). Read (header ++ tail) r.frames r.end) passed.1 (read_long tail inner fits passed.0 (front_of 0 16 tail inner (omega arith) read))

read_tail : (tail : List ℕ) (reading : Reading) (large short : Bool) → nat_lt most (length (header ++ tail)) ≡ large
    → (if large then Err most else if short then Ok (record { frames = []; end = 16 }) else with_gate (length (header ++ tail)) (read_frames 0 16 tail)) ≡ Ok reading → Read (header ++ tail) reading.frames reading.end
read_tail tail reading true short l is = absurd (cc)
read_tail tail reading false true l is = read_short tail reading (fits_from _ l) (ok_is is)
read_tail tail reading false false l is = inner_by tail reading (read_frames 0 16 tail) refl (fits_from _ l) is

-- what is read of a file with these bytes behind its header
abbrev read_with : List ℕ → List ℕ → Result Reading ℕ
read_with tail file =
    if nat_lt most (length file) then Err most
    else if nat_le (length file) 17 then Ok (record { frames = []; end = 16 })
    else with_gate (length file) (read_frames 0 16 tail)

headed : (file : List ℕ) (reading : Reading) (test : Bool) → bytes_eq (take 16 file) header ≡ test → (if test then read_with (drop 16 file) file else Err 0) ≡ Ok reading → Read file reading.frames reading.end
headed file reading false t is = absurd (cc)
headed file reading true t is =
    let front : take 16 file ≡ header = (bytes_eq-Decides (take 16 file) header).0 t in
    let whole : header ++ drop 16 file ≡ file = ap (λ (l : List ℕ). l ++ drop 16 file) (sym front) ∙ take-append-drop 16 file in
    let read : read_rest (drop 16 file) ≡ Ok reading = ap (read_with (drop 16 file)) whole ∙ is in
    subst (λ (l : List ℕ). Read l reading.frames reading.end) whole
    (read_tail (drop 16 file) reading (nat_lt most (length (header ++ drop 16 file))) (nat_le (length (header ++ drop 16 file)) 17) refl read)

-- each file that isn't empty and is read has such parts
pub read_of : (file : List ℕ) (frames : List Frame) (place : ℕ) → 1 ≤ length file → read_image file ≡ Ok (record { frames = frames; end = place }) → Read file frames place
read_of [] frames place long is = absurd (omega (arith, long))
read_of (byte ∷ bytes) frames place long is = headed (byte ∷ bytes) (record { frames = frames; end = place }) (bytes_eq (take 16 (byte ∷ bytes)) header) refl is

-- what stands at the place where the reading ended
pub drop_end : (file : List ℕ) (frames : List Frame) (place : ℕ) (read : Read file frames place) → drop place file ≡ read.rest
drop_end file frames place read =
    ap (λ (l : List ℕ). drop place l) (read.whole ∙ sym (append_assoc header read.octets read.rest))
    ∙ drop_at (header ++ read.octets) read.rest place (omega (arith, length-file read.octets, read.are.size))

-- the parts of a file at rest
pub record Parts (file : List ℕ) (frames : List Frame) (place : ℕ) : Type 0 where
  pub octets : List ℕ
  pub stale : List ℕ
  pub are : IsFrames octets frames place
  pub whole : file ≡ header ++ (octets ++ 0 ∷ stale)
  pub fits : length file ≤ most

pub zero_first : (rest : List ℕ) → take 1 rest ≡ 0 ∷ [] → rest ≡ 0 ∷ drop 1 rest
zero_first [] is = absurd (cc)
zero_first (byte ∷ rest) is = ap (λ (l : List ℕ). l ++ rest) is

not_empty : (file : List ℕ) (place : ℕ) → take 1 (drop place file) ≡ 0 ∷ [] → 1 ≤ length file
not_empty file place gate =
    let long = ap length gate in
    let drops = length-drop place file in
    let takes = length-take 1 (drop place file) in
    omega (arith, long, drops, takes)

pub parts_of : (file : List ℕ) (frames : List Frame) (place : ℕ) → AtRest file frames place → Parts file frames place
parts_of file frames place rest =
    let read = read_of file frames place (not_empty file place rest.gate) rest.read in
    let first : take 1 read.rest ≡ 0 ∷ [] = ap (λ (l : List ℕ). take 1 l) (sym (drop_end file frames place read)) ∙ rest.gate in
    record {
      octets = read.octets;
      stale = drop 1 read.rest;
      are = read.are;
      whole = read.whole ∙ ap (λ (l : List ℕ). header ++ (read.octets ++ l)) (zero_first read.rest first);
      fits = read.fits;
    }
