-- For whom a server asked the centre in a turn, by the server and the notes after it.
use Rattle.std.specs.Prelude.{ℕ, List, Option, Some, None}
use Rattle.auc_vector.specs.declared.notes.NumberNote.{NumberNote}
use Rattle.auc_vector.specs.declared.notes.ResyncNote.{ResyncNote}
use Rattle.auc_vector.specs.declared.notes.ResyncNote.TheVariants as resync
use Rattle.auc_server.specs.Rows.{subscriber_in}
use Rattle.auc_server.specs.Server.{ServerEnd, challenged_of, resumed_of}
use Rattle.auc_subs.specs.Setting.{Setting}
use Rattle.auc_server.specs.declared.server.Challenged.{Challenged}
use Rattle.auc_server.specs.declared.server.Resumed.{Resumed}
use Rattle.auc_server.specs.declared.setting.HomeRow.{HomeRow}

-- the subscriber of a challenge, if there was one
abbrev pub sub_of : Option Challenged → Option ℕ
sub_of None = None
sub_of (Some sent) = Some sent.sub

-- the subscriber of a re-authentication, or if there was none, the one whose identity was received
abbrev pub sub_named : Option Resumed → Option ℕ → Option ℕ
sub_named None found = found
sub_named (Some r) found = Some r.sub

-- a number was drawn for the subscriber whose identity was received or whose re-authentication came to nothing, or after a
-- resynchronisation for the one that was challenged
abbrev pub asked_after : Setting → List HomeRow → ServerEnd → Option ResyncNote → Option NumberNote → Option ℕ
asked_after set homes s None None = None
asked_after set homes s None (Some drawn) = sub_named (resumed_of s) (subscriber_in s.options.method set homes s.identity)
asked_after set homes s (Some resync.BadAuts) drawn = None
asked_after set homes s (Some (resync.Moved seen seq)) drawn = sub_of (challenged_of s)
asked_after set homes s (Some (resync.InRange seen seq)) drawn = sub_of (challenged_of s)
asked_after set homes s (Some (resync.Beyond seen seq)) drawn = sub_of (challenged_of s)
