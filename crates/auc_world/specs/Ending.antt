-- Each plain session ends: how many deliveries may follow in it.
use Rattle.std.specs.Prelude.{◌≡◌, ℕ, ◌+◌, ◌*◌, ◌<◌, ◌≤◌, List, length, Option, Some, None}
use Rattle.auc_lines.specs.declared.part.End.{End}
use Rattle.auc_lines.specs.declared.part.End.TheVariants as end
use Rattle.auc_server.specs.Ending.{packets_left}
use Rattle.auc_server.specs.Server.{ServerEnd}
use Rattle.auc_world.specs.Came.{came, session_of}
use Rattle.auc_world.specs.Given.{Before, PlainGives, packet_in}
use Rattle.auc_world.specs.Happened.{ToldEvent, happened}
use Rattle.auc_world.specs.Net.{Net, other}
use Rattle.auc_subs.specs.Setting.{Setting}
use Rattle.auc_record.specs.declared.event.Event.TheVariants as event
use Rattle.auc_world.specs.declared.net.Session.{Session}
use Rattle.auc_record.specs.declared.record.LineRecord.{LineRecord}

-- how many packets a session's server may still send; eight, if it hasn't started
abbrev pub server_left : Option ServerEnd → ℕ
server_left None = 8
server_left (Some s) = packets_left s

abbrev pub session_left : Option Session → ℕ
session_left None = 0
session_left (Some s) = server_left s.server

-- how many deliveries may follow at most, if a packet of a session is on its way to an end: each packet that the server may still
-- send is delivered, and so is the answer to it
abbrev pub deliveries_left : Net → ℕ → End → ℕ
deliveries_left w session end.Server = 2 * session_left (session_of w session) + 1
deliveries_left w session end.Peer = 2 * session_left (session_of w session) + 2

-- sixteen, after a session was started
abbrev pub StartLeavesSixteen : Type 0
StartLeavesSixteen = (set : Setting) (w : Net) (session packet : ℕ) (told : ToldEvent) → packet_in (came set w (event.Start session) told) ≡ Some packet
    → deliveries_left (happened set w (event.Start session) told) session end.Peer ≡ 16

-- fewer, after a delivery to an end that answers
abbrev pub EachDeliveryLeavesFewer : Type 0
EachDeliveryLeavesFewer = (set : Setting) (w : Net) (session packet answer : ℕ) (at' : End) (told : ToldEvent)
    → packet_in (came set w (event.Deliver session at' packet) told) ≡ Some answer
    → deliveries_left (happened set w (event.Deliver session at' packet) told) session (other at') < deliveries_left w session at'

-- a plain session has its start and at most sixteen deliveries
abbrev pub EachPlainSessionEnds : Type 0
EachPlainSessionEnds = (set : Setting) (before : Before) (w next : Net) (session : ℕ) (lines : List LineRecord) → PlainGives set before w session lines next
    → length lines ≤ 17
