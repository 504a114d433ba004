-- For the top call of a service: which statuses and refusals go together, and what a disk remembers before blocks were served.
use Rattle.std.proofs.Common.{◌≡◌, ◌≢◌, ◌⊎◌, ℕ, List, map, Option, Some, None, inl, inr, refl, sym, ◌∙◌, ap, subst}
use Rattle.auc_block.specs.declared.turn.Turn.{Turn}
use Rattle.auc_block.specs.declared.turn.Turn.TheVariants.{Said}
use Rattle.auc_memory.specs.Faults.{Rose}
use Rattle.auc_journal.specs.Image.{reserved_in}
use Rattle.auc_journal.specs.Journal.{JournalState}
use Rattle.auc_run.specs.Crash.{Remembers}
use Rattle.auc_input.specs.Opening.{Begins}
use Rattle.auc_refusal.specs.Told.{Tells, SaysTold, IsTold}
use Rattle.auc_run.specs.Service.{EndsUnnamed}
use Rattle.auc_refusal.specs.declared.refusal.Refusal.{Refusal}
use Rattle.auc_refusal.specs.declared.refusal.Refusal.TheVariants as refused
use Rattle.auc_refusal.specs.declared.status.Status.{Status}
use Rattle.auc_refusal.specs.declared.status.Status.TheVariants as status
use Rattle.auc_subs.specs.declared.row.Row.{Row}
use Rattle.auc_run.proofs.RememberLemmas.{durable_keeps}
use Rattle.auc_input.proofs.Facts.{heard_said, said_said}

-- ---- words of no form

-- the word `usage` was said, or some first bytes of it
pub usage_unnamed : (ended : Status) (old new : Option (List Turn)) → SaysTold refused.Usage ended old new → ended ≢ status.NoMemory → EndsUnnamed ended old new
usage_unnamed ended old new (said, says, is_told) spared = record {
  turns = map Said says.pieces;
  took = says.turns;
  silent = heard_said says.pieces;
  is_told = subst (IsTold refused.Usage ended) (sym (said_said says.pieces ∙ says.whole)) is_told;
  spared = spared;
}

-- the file of the subscribers is that of the words
pub read_named : (words : Option (Option (List ℕ))) (subscribers : Option (List ℕ)) (old mid new : ℕ) (Failed : List ℕ → Type 0) → words ≡ Some subscribers → new ≡ mid
    → Rose old mid ⊎ ((name : List ℕ) × (subscribers ≡ Some name) × Failed name) → Rose old new ⊎ ((name : List ℕ) × (words ≡ Some (Some name)) × Failed name)
read_named words subscribers old mid new Failed named same (inl rose) = inl (subst (Rose old) (sym same) rose)
read_named words subscribers old mid new Failed named same (inr (name, is, failed)) = inr (name, named ∙ ap (λ (s : Option (List ℕ)). Some s) is, failed)

-- ---- which refusal it was

-- a fault of reading is told by its status alone
pub read_refused : (refusal : Refusal) (ended : Status) → Tells refusal ended None None → ended ≡ status.ReadFault → refusal ≡ refused.ReadFault
read_refused refused.ReadFault ended tells at = refl
read_refused refused.Usage ended (inl (is, line)) at = cc (is, at)
read_refused refused.Usage ended (inr is) at = cc (is, at)
read_refused (refused.Subscribers row fault) ended (inl (is, line)) at = cc (is, at)
read_refused (refused.Subscribers row fault) ended (inr (inl is)) at = cc (is, at)
read_refused (refused.Subscribers row fault) ended (inr (inr is)) at = cc (is, at)
read_refused (refused.Scenario row fault) ended (inl (is, line)) at = cc (is, at)
read_refused (refused.Scenario row fault) ended (inr (inl is)) at = cc (is, at)
read_refused (refused.Scenario row fault) ended (inr (inr is)) at = cc (is, at)
read_refused (refused.NotJournal place) ended (inl (is, line)) at = cc (is, at)
read_refused (refused.NotJournal place) ended (inr (inl is)) at = cc (is, at)
read_refused (refused.NotJournal place) ended (inr (inr is)) at = cc (is, at)
read_refused refused.WriteFault ended (inl (is, line)) at = cc (is, at)
read_refused refused.WriteFault ended (inr untold) at = absurd untold
read_refused refused.StoreFault ended (inl (is, line)) at = cc (is, at)
read_refused refused.StoreFault ended (inr untold) at = absurd untold
read_refused refused.StoreFull ended (inl (is, line)) at = cc (is, at)
read_refused refused.StoreFull ended (inr untold) at = absurd untold
read_refused refused.TooLong ended (inl (is, line)) at = cc (is, at)
read_refused refused.TooLong ended (inr untold) at = absurd untold
read_refused refused.NoMemory ended (inl (is, line)) at = cc (is, at)
read_refused refused.NoMemory ended (inr untold) at = absurd untold

pub read_write : (ended : Status) → ended ≡ status.ReadFault → ended ≢ status.WriteFault
read_write ended is same = cc (is, same)

-- ---- the disk

-- nothing was served: no journal is lowered
pub remembers_begun : {D : Type 0} (seen : D → Option (List ℕ)) (may_leave : D → List ℕ → Type 0) (moment : D → ℕ) (left_since : D → ℕ → List ℕ → Type 0) (faults : D → ℕ) (rows : List Row) (from disk : D) (journal : JournalState D) (ended : Status)
    → Begins seen may_leave moment left_since faults rows from journal → disk ≡ journal.disk → ended ≢ status.NotJournal → Remembers seen may_leave ended from disk
remembers_begun seen may_leave moment left_since faults rows from disk journal ended begins same other = record {
  keeps = λ told premise image leaves. let both = durable_keeps seen may_leave from disk (λ imsi. reserved_in journal.limits imsi) journal begins.durable same told image leaves in both.0;
  closable = λ told is image leaves. let both = durable_keeps seen may_leave from disk (λ imsi. reserved_in journal.limits imsi) journal begins.durable same told image leaves in both.1;
  stays = λ is. absurd (other is);
}

pub memory_no_journal : status.NoMemory ≢ status.NotJournal
memory_no_journal same = cc

pub write_no_journal : status.WriteFault ≢ status.NotJournal
write_no_journal same = cc
