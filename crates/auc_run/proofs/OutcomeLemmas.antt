-- For the top call: what was written is the text of exactly one lawful transcript.
use Rattle.std.proofs.Common.{◌≡◌, ℕ, List, [], ◌∷◌, ◌++◌, length, All, Option, Some, refl, sym, subst}
use Rattle.std.proofs.lemmas.List.Elements.{All-nil, All-cons, All-head, All-tail}
use Rattle.auc_edge.specs.Shelf.{File}
use Rattle.auc_memory.specs.declared.stop.Stop.{Stop}
use Rattle.auc_memory.specs.declared.stop.Stop.TheVariants.{Full}
use Rattle.auc_journal.specs.Durable.{IsTold}
use Rattle.auc_journal.specs.Journal.{JournalState, limits_of}
use Rattle.auc_journal.specs.Settled.{LeavesOnly}
use Rattle.auc_lines.specs.declared.part.Part.{Part}
use Rattle.auc_record.specs.Ends.{AreAtTheirEnds}
use Rattle.auc_print.specs.OneText.{IsPrintable, PartFits}
use Rattle.auc_print.proofs.Facts.{are_identities, one_transcript}
use Rattle.auc_world.proofs.Facts.{lawful_at_ends, length-opened, sixteen_block}
use Rattle.auc_script.specs.declared.script.Script.{Script}
use Rattle.auc_subs.specs.Subscriber.{AreSubscribers}
use Rattle.auc_subs.specs.declared.row.Row.{Row}
use Rattle.auc_transcript.proofs.Facts.{above_reserved, keeps_numbers_apart, accepts_none_twice, each_failure_is_by_place}
use Rattle.auc_world.specs.Agreement.{IsRealm}
use Rattle.auc_world.specs.Transcript.{Course, Leads, beginning}
use Rattle.auc_record.specs.declared.record.PartRecord.{PartRecord}
use Rattle.auc_input.specs.Opening.{limits_in, Begins}
use Rattle.auc_run.specs.Crash.{IsKept, MayHaveLeft, MayLeave}
use Rattle.auc_input.specs.Reading.{IsRead}
use Rattle.auc_run.specs.Inner.{IsKnownPart, IsLeftInRun, Laws, RunsParts}
use Rattle.auc_run.specs.Outcome.{IsStopOf, IsWritten, RunsFiles, RunsFull}
use Rattle.auc_run.specs.Output.{IsOutput, IsTranscript, setting_of, text_of}
use Rattle.auc_input.specs.Words.{Files}
use Rattle.auc_refusal.specs.declared.status.Status.{Status}
use Rattle.auc_refusal.specs.declared.status.Status.TheVariants.{StoreFull}
use Rattle.auc_run.proofs.AlwaysLemmas.{any_time}
use Rattle.auc_run.proofs.HeldLemmas.{held_apart}
use Rattle.auc_run.proofs.KnownLemmas.{Known}
use Rattle.auc_run.proofs.PrintableLemmas.{parts_named}

-- subscribers, a realm, and parts that can be served
pub record Fits (rows : List Row) (script : Script) (parts : List Part) : Type 0 where
  pub subscribers : AreSubscribers rows
  pub realm : IsRealm script.realm
  pub known : All (IsKnownPart rows) parts

-- a lawful transcript is printable, if the SQNs in its answers of USIMs consist of bytes
printable : (rows : List Row) (script : Script) (reserved : List ℕ) (stop : Option Stop) (parts : List Part) (records : List PartRecord) → Fits rows script parts
    → IsTranscript rows script reserved stop parts records → All PartFits records → IsPrintable (length rows) records
printable rows script reserved stop parts records fits (end, leads) fit = record {
  named = parts_named (setting_of rows script) stop (beginning rows reserved) parts records end (length-opened rows reserved) fits.known leads;
  fit = fit;
}

-- its events are at their ends
at_ends : (rows : List Row) (script : Script) (reserved : List ℕ) (stop : Option Stop) (parts : List Part) (records : List PartRecord)
    → IsTranscript rows script reserved stop parts records → AreAtTheirEnds records
at_ends rows script reserved stop parts records (end, leads) = lawful_at_ends (setting_of rows script) stop (beginning rows reserved) parts records end leads

-- so its text is its own: the same text tells the same, and what is told determines the transcript
one_of_text : Laws → (rows : List Row) (script : Script) (reserved : List ℕ) (stop : Option Stop) (parts : List Part) (records others : List PartRecord) → Fits rows script parts
    → All PartFits records → IsTranscript rows script reserved stop parts records → IsTranscript rows script reserved stop parts others
    → text_of rows script records ≡ text_of rows script others → records ≡ others
one_of_text laws rows script reserved stop parts records others fits fit lawful is same =
    let set = setting_of rows script in
    laws.told set parts reserved reserved stop stop records others lawful is
    (one_transcript set script.full records others (are_identities rows fits.subscribers) (printable rows script reserved stop parts records fits lawful fit)
    (at_ends rows script reserved stop parts records lawful) (at_ends rows script reserved stop parts others is) same)

-- the text of a lawful transcript of a scenario that was read is what the product promises
pub is_output : Laws → (rows : List Row) (script : Script) (reserved : List ℕ) (stop : Option Stop) (parts : List Part) (records : List PartRecord) (end : Course) → Fits rows script parts
    → All PartFits records → Leads (setting_of rows script) stop (beginning rows reserved) parts records end
    → IsOutput rows script reserved stop parts end (text_of rows script records)
is_output laws rows script reserved stop parts records end fits fit leads =
    let set = setting_of rows script in
    let own = laws.nets set reserved stop parts records (end, leads) in
    let names = sixteen_block script.key 1099511627776 0 in
    let apart = held_apart rows parts fits.known in
    record {
      transcript = records;
      leads = leads;
      is_text = refl;
      only = λ other is same. sym (one_of_text laws rows script reserved stop parts records other fits fit (end, leads) is same);
      above = above_reserved set reserved stop parts records (end, leads);
      differ = keeps_numbers_apart set reserved stop parts records fits.subscribers (end, leads);
      accepts_none_twice = accepts_none_twice set reserved stop parts records fits.subscribers (end, leads);
      fails_by_place = each_failure_is_by_place set reserved stop parts records fits.subscribers (end, leads);
      fails_by_place_in_sessions = laws.in_sessions set reserved stop parts records fits.subscribers (end, leads);
      finds_right_macs = laws.macs set reserved stop parts records fits.subscribers (end, leads);
      nets = own.0;
      are_nets = own.1;
      keys = laws.keys set reserved stop parts records own.0 fits.subscribers fits.realm names apart (end, leads) own.1;
      breaches = laws.breaches set reserved stop parts records own.0 (end, leads) own.1;
      contexts = laws.contexts set reserved stop parts records own.0 fits.subscribers names apart (end, leads) own.1;
      plain = laws.plain set reserved stop parts records own.0 fits.subscribers fits.realm (end, leads) own.1;
      resumed = laws.resumed set reserved stop parts records own.0 fits.subscribers fits.realm (end, leads) own.1;
      authentications = laws.authentications set parts records own.0 fits.subscribers own.1;
      leases = laws.leases set reserved stop parts records own.0 (end, leads) own.1;
      sim_sessions = laws.sim_sessions set parts records own.0 fits.subscribers fits.realm own.1;
    }

-- and its transcript is this one
pub output_told : (laws : Laws) (rows : List Row) (script : Script) (reserved : List ℕ) (stop : Option Stop) (parts : List Part) (records : List PartRecord) (end : Course) (fits : Fits rows script parts)
    (fit : All PartFits records) (leads : Leads (setting_of rows script) stop (beginning rows reserved) parts records end)
    → (is_output laws rows script reserved stop parts records end fits fit leads).transcript ≡ records
unfolding is_output
output_told laws rows script reserved stop parts records end fits fit leads = refl

-- what holds of some parts holds of the first of them
front : (P : Part → Type 0) (xs ys : List Part) → All P (xs ++ ys) → All P xs
front P [] ys all = All-nil P
front P (x ∷ xs) ys all = All-cons P x xs (All-head P x (xs ++ ys) all) (front P xs ys (All-tail P x (xs ++ ys) all))

front_fits : (rows : List Row) (script : Script) (served left : List Part) → Known rows script → script.parts ≡ served ++ left → Fits rows script served
front_fits rows script served left known cut = record {
  subscribers = known.subscribers;
  realm = known.realm;
  known = front (IsKnownPart rows) served left (subst (All (IsKnownPart rows)) cut known.parts);
}

-- a scenario that was read was run
pub files_run : Laws → {D : Type 0} (seen : D → Option (List ℕ)) (may_leave : D → List ℕ → Type 0) (moment : D → ℕ) (left_since : D → ℕ → List ℕ → Type 0) (faults : D → ℕ) (told : Option (List File)) (files : Files) (script : Script) (rows : List Row)
    (from disk : D) (journal : JournalState D) (ended : Status) (old new : Option (List ℕ))
    → IsRead told files rows script → Known rows script → Begins seen may_leave moment left_since faults rows from journal
    → RunsParts seen may_leave moment left_since (setting_of rows script) script.full from (limits_of journal) (beginning rows (limits_of journal)) script.parts ended disk old new
    → RunsFiles told files (seen from) (MayLeave seen may_leave from disk) (MayHaveLeft seen may_leave moment left_since from disk) ended old new
files_run laws {D} seen may_leave moment left_since faults told files script rows from disk journal ended old new read known begins runs =
    with_limits (limits_in rows begins.found)
    (subst (λ (reserved : List ℕ). RunsParts seen may_leave moment left_since (setting_of rows script) script.full from reserved (beginning rows reserved) script.parts ended disk old new) begins.limits runs) refl
  where
    with_limits : (reserved : List ℕ) → RunsParts seen may_leave moment left_since (setting_of rows script) script.full from reserved (beginning rows reserved) script.parts ended disk old new
        → reserved ≡ limits_in rows begins.found → RunsFiles told files (seen from) (MayLeave seen may_leave from disk) (MayHaveLeft seen may_leave moment left_since from disk) ended old new
    with_limits reserved runs is = record {
      first = read.first;
      text = read.text;
      are_read = read.are_read;
      script = script;
      rows = rows;
      is_script = read.is_script;
      found = begins.found;
      is_found = begins.is_found;
      served = runs.served;
      left = runs.left;
      cut = runs.cut;
      whole = runs.whole;
      stop = runs.stop;
      stopped = runs.stopped;
      output = text_of rows script runs.records;
      end = runs.end;
      is_output = subst (λ (limits : List ℕ). IsOutput rows script limits runs.stop runs.served runs.end (text_of rows script runs.records)) is
          (is_output laws rows script reserved runs.stop runs.served runs.records runs.end (front_fits rows script runs.served runs.left known runs.cut) runs.fits runs.leads);
      written = runs.written;
      kept = subst (λ (limits : List ℕ). (image : List ℕ) → MayLeave seen may_leave from disk image → IsKept ended rows limits runs.end image) is runs.kept;
      always = any_time seen may_leave moment left_since ended rows from disk (limits_in rows begins.found) runs.end
          (subst (λ (limits : List ℕ). (told : IsTold seen may_leave from) → LeavesOnly moment left_since from disk (IsLeftInRun told.0 ended rows limits runs.end)) is runs.always);
    }

-- it was run until its journal was full
pub files_full : {D : Type 0} (seen : D → Option (List ℕ)) (may_leave : D → List ℕ → Type 0) (moment : D → ℕ) (left_since : D → ℕ → List ℕ → Type 0) (faults : D → ℕ) (told : Option (List File)) (files : Files) (script : Script) (rows : List Row)
    (from disk : D) (journal : JournalState D) (ended : Status) (old new : Option (List ℕ))
    → IsRead told files rows script → Begins seen may_leave moment left_since faults rows from journal
    → RunsParts seen may_leave moment left_since (setting_of rows script) script.full from (limits_of journal) (beginning rows (limits_of journal)) script.parts ended disk old new
    → ended ≡ StoreFull → RunsFull seen may_leave told files from disk old new
files_full seen may_leave moment left_since faults told files script rows from disk journal ended old new read begins runs is =
    let full : runs.stop ≡ Some Full = subst (λ (e : Status). IsStopOf e runs.stop) is runs.stopped in
    record {
      first = read.first;
      text = read.text;
      are_read = read.are_read;
      script = script;
      rows = rows;
      is_script = read.is_script;
      found = begins.found;
      is_found = begins.is_found;
      served = runs.served;
      left = runs.left;
      cut = runs.cut;
      transcript = runs.records;
      lawful = subst (λ (stop : Option Stop). IsTranscript rows script (limits_in rows begins.found) stop runs.served runs.records) full
          (subst (λ (limits : List ℕ). IsTranscript rows script limits runs.stop runs.served runs.records) begins.limits (runs.end, runs.leads));
      written = subst (λ (e : Status). IsWritten e old new (text_of rows script runs.records)) is runs.written;
      ends = runs.ends_full is;
    }
