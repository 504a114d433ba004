-- The refusals of the crates below, as those of a run.
use Rattle.auc_block.specs.declared.trouble.Trouble.{Trouble}
use Rattle.auc_compact.specs.declared.refusal.CompactRefusal.{CompactRefusal}
use Rattle.auc_edge.specs.declared.read_refusal.ReadRefusal.{ReadRefusal}
use Rattle.auc_journal.specs.declared.open_why.OpenWhy.{OpenWhy}
use Rattle.auc_subs.specs.declared.refusal.SubsRefusal.{SubsRefusal}
use Rattle.auc_refusal.specs.declared.refusal.Refusal.{Refusal}
use Rattle.auc_compact.specs.declared.refusal.CompactRefusal.TheVariants as unmade
use Rattle.auc_edge.specs.declared.read_refusal.ReadRefusal.TheVariants as unread
use Rattle.auc_journal.specs.declared.open_why.OpenWhy.TheVariants as unopened
use Rattle.auc_subs.specs.declared.refusal.SubsRefusal.TheVariants as wrong_subs
use Rattle.auc_refusal.specs.declared.refusal.Refusal.TheVariants as refused
use Rattle.auc_block.specs.declared.trouble.Trouble.TheVariants as trouble

-- the refusals of the crates below, as those of a run
abbrev pub read_refusal : ReadRefusal → Refusal
read_refusal unread.ReadFault = refused.ReadFault
read_refusal unread.TooLong = refused.TooLong
read_refusal unread.NoMemory = refused.NoMemory

abbrev pub subs_refusal : SubsRefusal → Refusal
subs_refusal (wrong_subs.Row row fault) = refused.Subscribers row fault
subs_refusal wrong_subs.NoMemory = refused.NoMemory

abbrev pub open_refusal : OpenWhy → Refusal
open_refusal unopened.StoreFault = refused.StoreFault
open_refusal (unopened.NotJournal place) = refused.NotJournal place
open_refusal unopened.NoMemory = refused.NoMemory

abbrev pub compact_refusal : CompactRefusal → Refusal
compact_refusal unmade.TooLong = refused.TooLong
compact_refusal unmade.NoMemory = refused.NoMemory

-- the refusal of a block that isn't heard
abbrev pub trouble_refusal : Trouble → Refusal
trouble_refusal trouble.Failed = refused.ReadFault
trouble_refusal trouble.NoMemory = refused.NoMemory
trouble_refusal trouble.Endless = refused.TooLong
