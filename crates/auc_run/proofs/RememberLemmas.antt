-- For the journal: no run lowers what it found reserved, for any identity.
use Rattle.std.proofs.Common.{◌≡◌, ℕ, List, Option, inl, inr, refl, sym, ◌∙◌, subst}
use Rattle.auc_memory.specs.Identity.{Identity}
use Rattle.auc_journal.specs.Durable.{IsDurable, IsTold}
use Rattle.auc_journal.specs.Image.{Keeps}
use Rattle.auc_journal.specs.Journal.{JournalState}
use Rattle.auc_journal.specs.Opening.{LeavesFound}
use Rattle.auc_journal.specs.Settled.{IsClosable}
use Rattle.auc_journal.specs.declared.open_why.OpenWhy.{OpenWhy}
use Rattle.auc_journal.specs.declared.open_why.OpenWhy.TheVariants as unopened
use Rattle.auc_journal.proofs.Facts.{keeps_same}
use Rattle.auc_lines.specs.declared.part.Part.{Part}
use Rattle.auc_subs.specs.Setting.{Setting}
use Rattle.auc_world.specs.Transcript.{Course}
use Rattle.std.specs.Prelude.{Bool}
use Rattle.auc_run.specs.Crash.{Remembers}
use Rattle.auc_refusal.specs.Causes.{open_refusal}
use Rattle.auc_refusal.specs.Told.{Tells}
use Rattle.auc_run.specs.Inner.{RunsParts}
use Rattle.auc_run.specs.Outcome.{IsStopOf}
use Rattle.auc_refusal.specs.Refusal.{status_of}
use Rattle.auc_refusal.specs.declared.refusal.Refusal.{Refusal}
use Rattle.auc_refusal.specs.declared.refusal.Refusal.TheVariants as refused
use Rattle.auc_refusal.specs.declared.status.Status.{Status}
use Rattle.auc_refusal.specs.declared.status.Status.TheVariants as status

-- what a crash leaves of a journal on a disk
pub durable_keeps : {D : Type 0} (seen : D → Option (List ℕ)) (may_leave : D → List ℕ → Type 0) (from disk : D) (most : Identity → ℕ) (journal : JournalState D)
    → IsDurable seen may_leave from most journal → disk ≡ journal.disk
    → (told : IsTold seen may_leave from) → (image : List ℕ) → may_leave disk image → Keeps told.0 image × IsClosable image
durable_keeps {D} seen may_leave from disk most journal durable same told image leaves = durable.keeps told image (subst (λ (d : D). may_leave d image) same leaves)

-- the same bytes
closable_same : (file image : List ℕ) → image ≡ file → IsClosable file → IsClosable image
closable_same file image same is = subst IsClosable (sym same) is

-- no call of the disk was made
pub remembers_same : {D : Type 0} (seen : D → Option (List ℕ)) (may_leave : D → List ℕ → Type 0) (ended : Status) (old new : D) → new ≡ old → Remembers seen may_leave ended old new
remembers_same {D} seen may_leave ended old new same =
    subst (λ (d : D). Remembers seen may_leave ended old d) (sym same)
    (record {
      keeps = λ told premise image leaves. keeps_same told.0 image (told.2 image leaves);
      closable = λ told is image leaves. closable_same told.0 image (told.2 image leaves) is;
      stays = λ is. (refl, λ image leaves. leaves);
    })

-- the journal wasn't opened
pub remembers_unopened : {D : Type 0} (seen : D → Option (List ℕ)) (may_leave : D → List ℕ → Type 0) (why : OpenWhy) (old new : D) → LeavesFound seen may_leave why old new
    → Remembers seen may_leave (status_of (open_refusal why)) old new
remembers_unopened seen may_leave unopened.StoreFault old new found = record {
  keeps = λ told premise image leaves. let both = found.keeps told (premise refl) image leaves in both.0;
  closable = λ told is image leaves. let both = found.keeps told is image leaves in both.1;
  stays = λ is. absurd (apart is);
}
  where
    apart : status.StoreFault ≡ status.NotJournal → ⊥
    apart same = cc
remembers_unopened seen may_leave (unopened.NotJournal place) old new found =
    let same = found.same apart in
    record {
      keeps = λ told premise image leaves. keeps_same told.0 image (told.2 image (same.1 image leaves));
      closable = λ told is image leaves. closable_same told.0 image (told.2 image (same.1 image leaves)) is;
      stays = λ is. same;
    }
  where
    apart : unopened.NotJournal place ≡ unopened.StoreFault → ⊥
    apart same = cc
remembers_unopened seen may_leave unopened.NoMemory old new found =
    let same = found.same apart in
    record {
      keeps = λ told premise image leaves. keeps_same told.0 image (told.2 image (same.1 image leaves));
      closable = λ told is image leaves. closable_same told.0 image (told.2 image (same.1 image leaves)) is;
      stays = λ is. absurd (other is);
    }
  where
    apart : unopened.NoMemory ≡ unopened.StoreFault → ⊥
    apart same = cc

    other : status.NoMemory ≡ status.NotJournal → ⊥
    other same = cc

-- the rounds were served so far
pub remembers_parts : {D : Type 0} (seen : D → Option (List ℕ)) (may_leave : D → List ℕ → Type 0) (moment : D → ℕ) (left_since : D → ℕ → List ℕ → Type 0) (set : Setting) (full : Bool) (from : D) (reserved : List ℕ) (at : Course) (parts : List Part)
    (ended : Status) (disk : D) (old new : Option (List ℕ)) → RunsParts seen may_leave moment left_since set full from reserved at parts ended disk old new → Remembers seen may_leave ended from disk
remembers_parts seen may_leave moment left_since set full from reserved at parts ended disk old new runs = record {
  keeps = λ told premise image leaves. let both = runs.keeps told image leaves in both.0;
  closable = λ told is image leaves. let both = runs.keeps told image leaves in both.1;
  stays = λ is. absurd (subst (λ (s : Status). IsStopOf s runs.stop) is runs.stopped);
}

-- ---- how the refusal was told

-- a disk that failed is told by its status
store_told : (refusal : Refusal) (ended : Status) (mid new : Option (List ℕ)) → Tells refusal ended mid new → status_of refusal ≡ status.StoreFault → ended ≡ status.StoreFault
store_told refusal ended mid new (inl (is, line)) fault = is ∙ fault
store_told refused.Usage ended mid new (inr untold) fault = cc fault
store_told (refused.Subscribers row why) ended mid new (inr untold) fault = cc fault
store_told (refused.Scenario row why) ended mid new (inr untold) fault = cc fault
store_told (refused.NotJournal place) ended mid new (inr untold) fault = cc fault
store_told refused.ReadFault ended mid new (inr untold) fault = absurd untold
store_told refused.WriteFault ended mid new (inr untold) fault = absurd untold
store_told refused.StoreFault ended mid new (inr untold) fault = absurd untold
store_told refused.StoreFull ended mid new (inr untold) fault = absurd untold
store_told refused.TooLong ended mid new (inr untold) fault = absurd untold
store_told refused.NoMemory ended mid new (inr untold) fault = absurd untold

-- only a file that is no journal is told so
journal_told : (refusal : Refusal) (ended : Status) (mid new : Option (List ℕ)) → Tells refusal ended mid new → ended ≡ status.NotJournal → status_of refusal ≡ status.NotJournal
journal_told refusal ended mid new (inl (is, line)) at = sym is ∙ at
journal_told refused.Usage ended mid new (inr is) at = cc (is, at)
journal_told (refused.Subscribers row why) ended mid new (inr (inl is)) at = cc (is, at)
journal_told (refused.Subscribers row why) ended mid new (inr (inr is)) at = cc (is, at)
journal_told (refused.Scenario row why) ended mid new (inr (inl is)) at = cc (is, at)
journal_told (refused.Scenario row why) ended mid new (inr (inr is)) at = cc (is, at)
journal_told (refused.NotJournal place) ended mid new (inr untold) at = refl
journal_told refused.ReadFault ended mid new (inr untold) at = absurd untold
journal_told refused.WriteFault ended mid new (inr untold) at = absurd untold
journal_told refused.StoreFault ended mid new (inr untold) at = absurd untold
journal_told refused.StoreFull ended mid new (inr untold) at = absurd untold
journal_told refused.TooLong ended mid new (inr untold) at = absurd untold
journal_told refused.NoMemory ended mid new (inr untold) at = absurd untold

pub remembers_told : {D : Type 0} (seen : D → Option (List ℕ)) (may_leave : D → List ℕ → Type 0) (refusal : Refusal) (ended : Status) (old disk : D) (mid new : Option (List ℕ))
    → Remembers seen may_leave (status_of refusal) old disk → Tells refusal ended mid new → Remembers seen may_leave ended old disk
remembers_told seen may_leave refusal ended old disk mid new remembers tells = record {
  keeps = λ told premise. remembers.keeps told (λ is. premise (store_told refusal ended mid new tells is));
  closable = remembers.closable;
  stays = λ is. remembers.stays (journal_told refusal ended mid new tells is);
}
