-- What a centre answered to a SEQ that a USIM reported, and the number that it was asked for then.
use Rattle.std.specs.Prelude.{◌≡◌, ℕ, true, Option, Some, None}
use Rattle.auc_vector.specs.declared.notes.Notes.{Notes}
use Rattle.auc_vector.specs.declared.notes.NumberNote.{NumberNote}
use Rattle.auc_vector.specs.declared.notes.ResyncNote.{ResyncNote}
use Rattle.auc_vector.specs.declared.notes.ResyncNote.TheVariants as resync
use Rattle.auc_server.specs.InnerServer.{IsNumbered}
use Rattle.auc_server.specs.Steps.{challenges_again}
use Rattle.auc_server.specs.Table.{noted}
use Rattle.auc_server.specs.declared.asking.Redrawn.{Redrawn}
use Rattle.auc_server.specs.declared.asking.Redrawn.TheVariants as redrawn

-- the note of the SEQ
abbrev pub resync_noted : Redrawn → Option ResyncNote
resync_noted (redrawn.Again resynced drawn) = Some resynced
resync_noted (redrawn.Beyond seen seq) = Some (resync.Beyond seen seq)

-- the note of the number, if one was asked for
abbrev pub number_noted : Redrawn → Option NumberNote
number_noted (redrawn.Again resynced drawn) = Some drawn
number_noted (redrawn.Beyond seen seq) = None

abbrev pub redrawn_noted : Redrawn → Notes
redrawn_noted answered = noted (resync_noted answered) (number_noted answered)

-- a number, up to the subscriber's greatest, is asked for after a SEQ that lets the USIM be challenged again
abbrev pub IsRedrawn : ℕ → Redrawn → Type 0
IsRedrawn top (redrawn.Again resynced drawn) = (challenges_again (Some resynced) ≡ true) × IsNumbered top drawn
IsRedrawn top (redrawn.Beyond seen seq) = Unit {0}
