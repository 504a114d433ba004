-- What an opening that closes a gate takes away: nothing, if the gate can be closed. For refused openings.
use Rattle.std.proofs.Common.{◌≡◌, ◌⊎◌, inl, inr, ⊎_elim, ℕ, ◌+◌, ◌≤◌, List, [], ◌∷◌, ◌++◌, length, get_or, take, drop, Option, refl, sym, ◌∙◌, ap, subst, arith, length-append, length-drop, take-append-drop}
use Rattle.std.specs.Prelude.{◌<◌, max, true, Result, Ok, Err}
use Rattle.std.proofs.lemmas.List.{drop_more, drop-drop, length-take, take_at}
use Rattle.auc_memory.specs.Identity.{Identity}
use Rattle.auc_disk.specs.Disk.{put}
use Rattle.auc_disk.proofs.Facts.{put-within}
use Rattle.auc_journal.specs.Image.{Frame, Keeps, Reading, frames_in, header, is_body, most, read_image, reserved_by, reserved_in, size_in}
use Rattle.auc_journal.specs.InnerBody.{IsBody}
use Rattle.auc_journal.specs.Opening.{IsOpening, LeavesFound}
use Rattle.auc_journal.specs.Settled.{HasBody, IsAppendingAll, IsClosable}
use Rattle.auc_journal.specs.declared.open_why.OpenWhy.{OpenWhy}
use Rattle.auc_journal.proofs.AppendLemmas.{by_gate, file_with, length-with, put_gate}
use Rattle.auc_journal.proofs.DurableLemmas.{keeps_append, reserved-read}
use Rattle.auc_journal.proofs.FrontLemmas.{SameBody, body_front, body_parts, size_least}
use Rattle.auc_journal.proofs.OpenLemmas.{end_within, new_or_none}
use Rattle.auc_journal.proofs.PartLemmas.{Read, drop_end, read_of, zero_first}

-- what is kept and can be closed
abbrev pub IsKeptBy : List ℕ → List ℕ → Type 0
IsKeptBy file image = Keeps file image × IsClosable image

-- a file of at most 17 bytes can be closed, and reserves nothing
pub short_closable : (file : List ℕ) → length file ≤ 17 → IsClosable file
short_closable file short = λ reading is. inl short

short_end : (file : List ℕ) (reading : Reading) → length file ≤ 17 → read_image file ≡ Ok reading → reading ≡ record { frames = []; end = 16 }
short_end file reading short is = ⊎_elim (λ new. ok_same (sym is ∙ new)) (λ none. absurd (no_ok (sym is ∙ none))) (new_or_none file short).1
  where
    ok_same : (let ok : Result Reading ℕ = Ok reading in ok) ≡ Ok (record { frames = []; end = 16 }) → reading ≡ record { frames = []; end = 16 }
    ok_same same = cc

    no_ok : (let ok : Result Reading ℕ = Ok reading in ok) ≡ Err 0 → ⊥
    no_ok same = cc

short_keeps : (file image : List ℕ) (reading : Reading) → length file ≤ 17 → read_image file ≡ Ok reading → Keeps file image
short_keeps file image reading short is = λ imsi.
    let none : reserved_by file imsi ≡ 0 = reserved-read file [] 16 imsi (is ∙ ap Ok (short_end file reading short is)) in
    omega (arith, none)

-- the length of a file after a byte was written inside it or at its end
length-put : (file : List ℕ) (place byte : ℕ) → place ≤ length file → length (put file place (byte ∷ [])) ≤ max (length file) (place + 1)
length-put file place byte within =
    let is : put file place (byte ∷ []) ≡ take place file ++ (byte ∷ []) ++ drop (place + 1) file = put-within 0 file place (byte ∷ []) within in
    omega (arith, ap length is, length-append (take place file ++ (byte ∷ [])) (drop (place + 1) file), length-append (take place file) (byte ∷ []), length-take place file, length-drop (place + 1) file)

short_kept : (file image : List ℕ) (reading : Reading) (byte : ℕ) → 1 ≤ length file → length file ≤ 17 → read_image file ≡ Ok reading → image ≡ put file reading.end (byte ∷ []) → IsKeptBy file image
short_kept file image reading byte some short is torn =
    let end : reading.end ≡ 16 = ap (λ (r : Reading). r.end) (short_end file reading short is) in
    let within = end_within file reading.frames reading.end (read_of file reading.frames reading.end some is) in
    let long = length-put file reading.end byte within in
    (short_keeps file image reading short is, short_closable image (omega (arith, ap length torn, long, end, short)))

-- the bytes of a body say the same, whatever stands behind them
body_says : (rest : List ℕ) → is_body rest ≡ true → IsBody (take (size_in rest) rest) (frames_in rest)
body_says rest is = record {
  size = λ tail. (same tail).size ∙ sym size;
  is = λ tail. (same tail).is;
  says = λ tail. (same tail).says;
}
  where
    size : length (take (size_in rest) rest) ≡ size_in rest
    size = omega (arith, length-take (size_in rest) rest, (body_parts rest is).0)

    same : (tail : List ℕ) → SameBody rest (take (size_in rest) rest ++ tail)
    same tail = body_front rest (take (size_in rest) rest ++ tail) (size_in rest) is (omega arith) (sym (take_at (take (size_in rest) rest) tail (size_in rest) size))

-- a file whose gate has a body, of which a crash leaves some byte on the gate
body_kept : (file image : List ℕ) (reading : Reading) (byte : ℕ) → 1 ≤ length file → read_image file ≡ Ok reading → HasBody file reading.end → image ≡ put file reading.end (byte ∷ []) → IsKeptBy file image
body_kept file image reading byte some is has torn =
    (keeps_append file image reading.frames reading.end added (1 + length body) low appended.0, appended.1)
  where
    read : Read file reading.frames reading.end
    read = read_of file reading.frames reading.end some is

    beyond : List ℕ
    beyond = drop (reading.end + 1) file

    n : ℕ
    n = size_in beyond

    body : List ℕ
    body = take n beyond

    added : List Frame
    added = frames_in beyond

    good : IsBody body added
    good = body_says beyond has.0

    tail : List ℕ
    tail = drop 1 (drop (reading.end + 1 + n) file)

    gate : ℕ
    gate = get_or file reading.end 0

    long : reading.end < length file
    long = omega (arith, size_least beyond has.0, (body_parts beyond has.0).0, length-drop (reading.end + 1) file)

    behind : beyond ≡ body ++ 0 ∷ tail
    behind =
        sym (take-append-drop n beyond)
        ∙ ap (λ (l : List ℕ). body ++ l) (drop-drop n (reading.end + 1) file ∙ zero_first (drop (reading.end + 1 + n) file) has.1)

    rest : read.rest ≡ gate ∷ (body ++ 0 ∷ tail)
    rest = sym (drop_end file reading.frames reading.end read) ∙ drop_more file reading.end 0 long ∙ ap (λ (l : List ℕ). gate ∷ l) behind

    whole : file ≡ file_with read.octets reading.frames reading.end read.are gate (body ++ 0 ∷ tail)
    whole = read.whole ∙ ap (λ (l : List ℕ). header ++ (read.octets ++ l)) rest

    left : image ≡ file_with read.octets reading.frames reading.end read.are byte (body ++ 0 ∷ tail)
    left = torn ∙ ap (λ (l : List ℕ). put l reading.end (byte ∷ [])) whole ∙ put_gate read.octets reading.frames reading.end read.are gate byte (body ++ 0 ∷ tail)

    fits : length (file_with read.octets reading.frames reading.end read.are byte (body ++ 0 ∷ tail)) ≤ most
    fits =
        omega (arith, read.fits, ap length whole, length-with read.octets reading.frames reading.end read.are gate (body ++ 0 ∷ tail), length-with read.octets reading.frames reading.end read.are byte (body ++ 0 ∷ tail))

    appended : IsAppendingAll reading.frames reading.end added (1 + length body) image
    appended = subst (IsAppendingAll reading.frames reading.end added (1 + length body)) (sym left) (by_gate read.octets reading.frames reading.end read.are body added good tail byte fits)

    low : (imsi : Identity) → reserved_by file imsi ≤ reserved_in reading.frames imsi
    low = λ imsi. let same = reserved-read file reading.frames reading.end imsi is in omega (arith, same)

torn_kept : (file image : List ℕ) (reading : Reading) (byte : ℕ) → 1 ≤ length file → IsClosable file → read_image file ≡ Ok reading → (take 1 (drop reading.end file) ≡ 0 ∷ [] → ⊥)
    → image ≡ put file reading.end (byte ∷ []) → IsKeptBy file image
torn_kept file image reading byte some closable is unclosed torn = by (closable reading is)
  where
    by : (length file ≤ 17) ⊎ (take 1 (drop reading.end file) ≡ 0 ∷ []) ⊎ HasBody file reading.end → IsKeptBy file image
    by (inl short) = short_kept file image reading byte some short is torn
    by (inr (inl shut)) = absurd (unclosed shut)
    by (inr (inr has)) = body_kept file image reading byte some is has torn

file_kept : (file image : List ℕ) → IsClosable file → image ≡ file → IsKeptBy file image
file_kept file image closable same = subst (IsKeptBy file) (sym same) ((λ imsi. omega arith), closable)

-- each image that an opening may leave of a file whose gate can be closed
pub opening_keeps : (file image : List ℕ) → IsClosable file → IsOpening file image → IsKeptBy file image
opening_keeps [] image closable new = ((λ imsi. omega arith), short_closable image new.0)
opening_keeps (byte ∷ bytes) image closable (inl same) = file_kept (byte ∷ bytes) image closable same
opening_keeps (byte ∷ bytes) image closable (inr torn) = torn_kept (byte ∷ bytes) image torn.0 torn.1 (omega arith) closable torn.2 torn.3 torn.4

-- an image that is the file keeps what the file reserves, and what is kept twice is kept
pub keeps_same : (file image : List ℕ) → image ≡ file → Keeps file image
keeps_same file image same = subst (Keeps file) (sym same) (λ imsi. omega arith)

pub keeps_twice : (file image later : List ℕ) → Keeps file image → Keeps image later → Keeps file later
keeps_twice file image later first second = λ imsi. omega (arith, first imsi, second imsi)

-- a disk that no call touched leaves what was found
pub untouched_found : {D : Type 0} (seen : D → Option (List ℕ)) (may_leave : D → List ℕ → Type 0) (refusal : OpenWhy) (disk : D) → LeavesFound seen may_leave refusal disk disk
untouched_found seen may_leave refusal disk = record { same = λ other. (refl, λ image now. now); keeps = λ told closable image now. file_kept told.0 image closable (told.2 image now) }
