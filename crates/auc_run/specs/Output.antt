-- What a run of a scenario writes.
use Rattle.std.specs.Prelude.{◌≡◌, ℕ, Option, List, length}
use Rattle.auc_memory.specs.declared.stop.Stop.{Stop}
use Rattle.auc_ident.specs.Names.{names_key}
use Rattle.auc_lines.specs.declared.part.Part.{Part}
use Rattle.auc_print.specs.Text.{transcript_text}
use Rattle.auc_script.specs.declared.script.Script.{Script}
use Rattle.auc_subs.specs.declared.row.Row.{Row}
use Rattle.auc_subs.specs.Setting.{Setting}
use Rattle.auc_transcript.specs.Completeness.{PlainSessionsAgree, ResumedSessionsAgree}
use Rattle.auc_transcript.specs.Counters.{KeepsContexts}
use Rattle.auc_transcript.specs.Headline.{AreAboveReserved, VectorsDiffer, AcceptsNoneTwice, FailsExactlyByPlace}
use Rattle.auc_transcript.specs.Keys.{AreNets, BreachesAreTold, EndsAgree}
use Rattle.auc_transcript.specs.Leases.{LeasesAreKept}
use Rattle.auc_transcript.specs.Presented.{FailsExactlyByPlaceInSessions, FindsRightMacs}
use Rattle.auc_transcript.specs.SimSessions.{SimSessionsAgree}
use Rattle.auc_transcript.specs.Systems.{AuthenticationsAreConfirmed}
use Rattle.auc_world.specs.Net.{Net}
use Rattle.auc_world.specs.Transcript.{Course, Leads, IsLawful, beginning, lines_of}
use Rattle.auc_record.specs.declared.record.PartRecord.{PartRecord}

-- the keys of the random bytes and of the names, the rows and the realm with which the lines of a script are served
abbrev pub setting_of : List Row → Script → Setting
setting_of rows script = record { key = script.key; names = names_key script.key; rows = rows; realm = script.realm }

-- a transcript is a lawful one of some parts of a script, before which these numbers were reserved. The reservation of
-- numbers may have stopped in its last part
abbrev pub IsTranscript : List Row → Script → List ℕ → Option Stop → List Part → List PartRecord → Type 0
IsTranscript rows script reserved stop parts records = IsLawful (setting_of rows script) reserved stop parts records

-- the text of a transcript, as the script asks for it
abbrev pub text_of : List Row → Script → List PartRecord → List ℕ
text_of rows script records = transcript_text (setting_of rows script) script.full records

-- a text is that of exactly one lawful transcript of some parts of a script, in which each released number is above what was
-- reserved for its subscriber before, no two vectors of a subscriber carry the same SQN, no USIM accepts an SQN twice, and between resynchronisations and restarts a released vector gets a
-- synchronisation failure exactly if it, or one drawn a positive multiple of 2 ^ bits places later, or the age limit or more later, was
-- accepted before, by the subscriber's index length and age limit, whether a `give` line or a session presents it; a USIM to which a
-- session presents it finds its MAC right. A server and a peer that
-- ended in Success over one challenge or in one fast re-authentication have equal keys, if no delivery broke the premise in their
-- jobs, and each round tells of a breach exactly if one did. No counter is used twice under the keys of one full
-- authentication. A session that has its plain line and no other event line ends in Success at both ends, and its round says that
-- they agree, unless a record of it tells why not, or its line gives a text for the first identity or has options that keep the
-- peer from accepting a challenge; and so does one whose server takes up a context again that its device has with the same counter.
-- A 5G authentication with one name of the serving network at both ends and with no bit turned over is confirmed exactly if the
-- USIM accepts the vector, and both ends have the same XRES*, K_AUSF and K_SEAF. No number is handed out twice for a subscriber by the
-- sites of any lines, and each is that of a vector that its line released before. Two ends of a session of EAP-SIM that both end in
-- Success have equal keys, whatever is lost, repeated or reordered; and both do if each packet is delivered once to the other end, and
-- the RANDs of the session's vectors differ
pub record IsOutput (rows : List Row) (script : Script) (reserved : List ℕ) (stop : Option Stop) (parts : List Part) (end : Course) (text : List ℕ) : Type 0 where
  pub transcript : List PartRecord
  -- it is lawful, and this is where it ends
  pub leads : Leads (setting_of rows script) stop (beginning rows reserved) parts transcript end
  pub is_text : text ≡ text_of rows script transcript
  pub only : (other : List PartRecord) → IsTranscript rows script reserved stop parts other → text ≡ text_of rows script other → other ≡ transcript
  pub above : AreAboveReserved (length rows) reserved (lines_of transcript)
  pub differ : VectorsDiffer rows transcript
  pub accepts_none_twice : AcceptsNoneTwice rows transcript
  pub fails_by_place : FailsExactlyByPlace rows transcript
  pub fails_by_place_in_sessions : FailsExactlyByPlaceInSessions (setting_of rows script) transcript
  pub finds_right_macs : FindsRightMacs (setting_of rows script) transcript
  -- the networks of its jobs' sessions, a list for each round
  pub nets : List (List Net)
  pub are_nets : AreNets (setting_of rows script) parts transcript nets
  pub keys : EndsAgree nets
  pub breaches : BreachesAreTold transcript nets
  -- the counters that are told are those that were used, none is told twice, no identity is resumed twice, and each acceptance is of
  -- the context that the device has at that moment
  pub contexts : KeepsContexts (setting_of rows script) parts transcript nets
  pub plain : PlainSessionsAgree rows parts transcript nets
  pub resumed : ResumedSessionsAgree (setting_of rows script) parts transcript nets
  pub authentications : AuthenticationsAreConfirmed (setting_of rows script) parts transcript nets
  pub leases : LeasesAreKept (setting_of rows script) parts transcript nets
  pub sim_sessions : SimSessionsAgree (setting_of rows script) parts transcript nets
