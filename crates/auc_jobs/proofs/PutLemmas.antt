-- For what stands after a round: its jobs' own USIMs, and what their homes and devices keep, were put back.
use Rattle.std.proofs.Common.{◌≡◌, ℕ, ◌<◌, ◌⊎◌, Bool, true, false, List, [], ◌∷◌, ◌++◌, AllPairs, fold, length, map, refl, sym, ◌∙◌, ap, subst, append-nil, append_assoc, inl, inr}
use Rattle.std.specs.Prelude.{All, Option, Some, None, is_some, slice_get, slice_set}
use Rattle.std.proofs.lemmas.Bool.{false≢true}
use Rattle.std.proofs.lemmas.List.{length-set}
use Rattle.std.proofs.lemmas.Option.{slice_get_within}
use Rattle.auc_cards.specs.Stores.{put_back as put_devices, put_own}
use Rattle.auc_history.proofs.Facts.{AllPairs-tail}
use Rattle.std.proofs.lemmas.List.Elements.{All-head}
use Rattle.auc_lines.specs.declared.part.Line.{Line}
use Rattle.auc_lines.specs.Part.{AreApart, holds}
use Rattle.auc_peer.specs.declared.device.Device.{Device}
use Rattle.auc_reauth.specs.Device.{Keeps}
use Rattle.auc_server.specs.declared.setting.HomeRow.{HomeRow}
use Rattle.auc_sqn.specs.Past.{Remembers}
use Rattle.auc_subs.specs.declared.row.Row.{Row}
use Rattle.auc_usim.specs.Usim.{Memory}
use Rattle.auc_record.specs.declared.record.LineRecord.{LineRecord}
use Rattle.auc_world.specs.Given.{past_by, past_of}
use Rattle.auc_record.specs.Lines.{accepted, all_lines}
use Rattle.auc_world.specs.Net.{Net}
use Rattle.auc_world.specs.Pieces.{IsQuiet}
use Rattle.auc_world.specs.Start.{Kept, kept_by_jobs, kept_now, kept_with, put_back}
use Rattle.auc_world.proofs.Facts.{accepted-append}
use Rattle.auc_cards.specs.Usims.{IsOfRow}
use Rattle.auc_jobs.specs.Usims.{AreOfRows, AreBehind}
use Rattle.auc_jobs.specs.InnerRound.{IsSettled, AreSettled, left_in, left_on}
use Rattle.auc_jobs.specs.InnerUsims.{OwnDevices, usim_in, put_at, ArePut, ArePutBack}
use Rattle.auc_jobs.proofs.PieceLemmas.{quiet_rest}

-- the subscribers' USIMs after some lines
pub record ArePlaced (rows : List Row) (lines : List LineRecord) (usims : List Memory) : Type 0 where
  pub of_rows : AreOfRows rows usims
  pub behind : AreBehind rows lines (slice_get usims)

-- what a place has is the job's USIM, if the job gives there, or what it had
put_is : (b : Bool) (own old : Option Memory) (usim : Memory) → is_some own ≡ b → put_at own old ≡ Some usim → ((b ≡ true) × (own ≡ Some usim)) ⊎ ((b ≡ false) × (old ≡ Some usim))
put_is true None old usim has is = absurd (false≢true has)
put_is true (Some kept) old usim has is = inl (refl, is)
put_is false None old usim has is = inr (refl, is)
put_is false (Some kept) old usim has is = absurd (false≢true (sym has))

put_cases : (rows : List Row) (early lines : List LineRecord) (old new : List Memory) (job : List Line) (own : ℕ → Option Memory) (sub : ℕ) (usim : Memory) → IsSettled rows early job lines own
    → ArePut old own new → slice_get new sub ≡ Some usim → ((holds sub job ≡ true) × (own sub ≡ Some usim)) ⊎ ((holds sub job ≡ false) × (slice_get old sub ≡ Some usim))
put_cases rows early lines old new job own sub usim settled put there =
    let inside : sub < length old = subst (λ (n : ℕ). sub < n) put.sizes (slice_get_within new sub usim there) in
    put_is (holds sub job) (own sub) (slice_get old sub) usim (settled.keyed sub) (sym (put.each sub inside) ∙ there)

-- what it accepted
own_accepted : (bits sub : ℕ) (early front lines : List LineRecord) → accepted bits sub front ≡ [] → accepted bits sub (early ++ lines) ≡ accepted bits sub (early ++ (front ++ lines))
own_accepted bits sub early front lines quiet =
    accepted-append bits sub early lines
    ∙ sym (accepted-append bits sub early (front ++ lines)
    ∙ ap (λ (sqns : List (List ℕ)). accepted bits sub early ++ sqns) (accepted-append bits sub front lines ∙ ap (λ (sqns : List (List ℕ)). sqns ++ accepted bits sub lines) quiet))

old_accepted : (bits sub : ℕ) (early front lines : List LineRecord) → accepted bits sub lines ≡ [] → accepted bits sub (early ++ front) ≡ accepted bits sub (early ++ (front ++ lines))
old_accepted bits sub early front lines quiet =
    accepted-append bits sub early front
    ∙ sym (accepted-append bits sub early (front ++ lines)
    ∙ ap (λ (sqns : List (List ℕ)). accepted bits sub early ++ sqns)
    (accepted-append bits sub front lines ∙ ap (λ (sqns : List (List ℕ)). accepted bits sub front ++ sqns) quiet ∙ append-nil (accepted bits sub front)))

-- a job's own USIMs were put back
placed_job : (rows : List Row) (early front lines : List LineRecord) (old new : List Memory) (job : List Line) (own : ℕ → Option Memory) → IsQuiet front job
    → IsSettled rows early job lines own → ArePut old own new → ArePlaced rows (early ++ front) old → ArePlaced rows (early ++ (front ++ lines)) new
placed_job rows early front lines old new job own quiet settled put placed = record {
  of_rows = record { sizes = put.sizes ∙ placed.of_rows.sizes; secrets = λ sub row usim at there. secret sub row usim at (put_cases rows early lines old new job own sub usim settled put there) };
  behind = λ sub row usim at there. remember sub row usim at (put_cases rows early lines old new job own sub usim settled put there);
}
  where
    secret : (sub : ℕ) (row : Row) (usim : Memory) → slice_get rows sub ≡ Some row
        → ((holds sub job ≡ true) × (own sub ≡ Some usim)) ⊎ ((holds sub job ≡ false) × (slice_get old sub ≡ Some usim)) → IsOfRow row usim
    secret sub row usim at (inl (gives, is)) = settled.secrets sub row usim at is
    secret sub row usim at (inr (other, is)) = placed.of_rows.secrets sub row usim at is

    remember : (sub : ℕ) (row : Row) (usim : Memory) → slice_get rows sub ≡ Some row
        → ((holds sub job ≡ true) × (own sub ≡ Some usim)) ⊎ ((holds sub job ≡ false) × (slice_get old sub ≡ Some usim))
        → Remembers usim.array (past_by row sub (early ++ (front ++ lines)))
    remember sub row usim at (inl (gives, is)) =
        subst (λ (sqns : List (List ℕ)). Remembers usim.array (past_of row.bits row.usim sqns)) (own_accepted row.bits sub early front lines (quiet row.bits sub gives)) (settled.behind sub row usim at is)
    remember sub row usim at (inr (other, is)) =
        subst (λ (sqns : List (List ℕ)). Remembers usim.array (past_of row.bits row.usim sqns)) (old_accepted row.bits sub early front lines (settled.quiet row.bits sub other)) (placed.behind sub row usim at is)

-- those of all jobs were
pub placed_jobs : (rows : List Row) (early front : List LineRecord) (old new : List Memory) (jobs : List (List Line)) (records : List (List LineRecord)) (own : List OwnDevices)
    → AllPairs AreApart jobs → All (IsQuiet front) jobs → AreSettled rows early jobs records own → ArePutBack old own new → ArePlaced rows (early ++ front) old
    → ArePlaced rows (early ++ (front ++ all_lines records)) new
placed_jobs rows early front old new [] records own apart quiet settled put placed =
    subst (λ (usims : List Memory). ArePlaced rows (early ++ (front ++ all_lines records)) usims) (sym (subst (λ (os : List OwnDevices). ArePutBack old os new) settled.1 put))
    (subst (λ (lines : List LineRecord). ArePlaced rows (early ++ lines) old) (sym (ap (λ (rs : List (List LineRecord)). front ++ all_lines rs) settled.0 ∙ append-nil front)) placed)
placed_jobs rows early front old new (job ∷ jobs) [] own apart quiet settled put placed = absurd settled
placed_jobs rows early front old new (job ∷ jobs) (lines ∷ records) [] apart quiet settled put placed = absurd settled
placed_jobs rows early front old new (job ∷ jobs) (lines ∷ records) (usims ∷ own) apart quiet (here, rest) (mid, put, more) placed =
    subst (λ (ls : List LineRecord). ArePlaced rows (early ++ ls) new) (append_assoc front lines (all_lines records))
    (placed_jobs rows early (front ++ lines) mid new jobs records own (AllPairs-tail AreApart job jobs apart) (quiet_rest front lines job jobs quiet apart here.quiet) rest more
    (placed_job rows early front lines old mid job (usim_in usims) (All-head (IsQuiet front) job jobs quiet) here put placed))

-- ---- what homes and devices keep

-- it is put back alike by the devices and by what they keep
same_back : (stores : List Kept) (homes : List HomeRow) (devices : List Device) → put_devices stores homes devices ≡ put_back stores homes (map (λ (device : Device). device.store) devices)
same_back stores [] devices = refl
same_back stores (home ∷ homes) [] = refl
same_back stores (home ∷ homes) (device ∷ devices) = ap (λ (ks : List Kept). slice_set ks home.sub (kept_now home device.store)) (same_back stores homes devices)

put_alike : (stores : List Kept) (own : OwnDevices) (net : Net) → left_on own ≡ left_in net → put_own stores own ≡ kept_with stores net
put_alike stores own net left = same_back stores own.homes own.devices ∙ ap (λ (l : List HomeRow × List Keeps). put_back stores l.0 l.1) left

-- of all jobs of a round
pub put_all_alike : (stores : List Kept) (own : List OwnDevices) (nets : List Net) → map left_on own ≡ map left_in nets → fold put_own stores own ≡ kept_by_jobs stores nets
put_all_alike stores [] [] left = refl
put_all_alike stores [] (net ∷ nets) left = let no : ⊥ = cc in absurd no
put_all_alike stores (first ∷ own) [] left = let no : ⊥ = cc in absurd no
put_all_alike stores (first ∷ own) (net ∷ nets) left =
    let here : left_on first ≡ left_in net = cc in
    let rest : map left_on own ≡ map left_in nets = cc in
    put_all_alike (put_own stores first) own nets rest ∙ ap (λ (ks : List Kept). kept_by_jobs ks nets) (put_alike stores first net here)

-- and is of as many subscribers as before
length-put_back : (stores : List Kept) (homes : List HomeRow) (devices : List Device) → length (put_devices stores homes devices) ≡ length stores
length-put_back stores [] devices = refl
length-put_back stores (home ∷ homes) [] = refl
length-put_back stores (home ∷ homes) (device ∷ devices) = length-set (put_devices stores homes devices) home.sub (kept_now home device.store) ∙ length-put_back stores homes devices

pub length-put_all : (stores : List Kept) (own : List OwnDevices) → length (fold put_own stores own) ≡ length stores
length-put_all stores [] = refl
length-put_all stores (first ∷ own) = length-put_all (put_own stores first) own ∙ length-put_back stores first.homes first.devices
