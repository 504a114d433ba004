-- For requests of one subscriber: what holds of each of their lines.
use Rattle.std.proofs.Common.{◌≡◌, ℕ, zero, suc, Bool, true, false, List, [], ◌∷◌, ◌++◌, length, map, sym, subst}
use Rattle.std.specs.Prelude.{◌==◌, All, Option, None, Some}
use Rattle.std.proofs.lemmas.List.Elements.{All-append, All-cons, All-nil}
use Rattle.auc_5g.specs.declared.device_keys.DeviceKeys.{DeviceKeys}
use Rattle.auc_5g.specs.declared.home_keys.HomeKeys.{HomeKeys}
use Rattle.auc_5g.specs.Keys.{home_of}
use Rattle.auc_lines.specs.Sim.{SimValue}
use Rattle.auc_lines.specs.Sites.{SitesValue}
use Rattle.auc_lines.specs.declared.part.FivegLine.{FivegLine}
use Rattle.auc_lines.specs.declared.sites.SiteEvent.{SiteEvent}
use Rattle.auc_lines.specs.declared.part.Report.{Report}
use Rattle.auc_random.specs.Random.{rand_of}
use Rattle.auc_request.specs.Request.{is_separated}
use Rattle.auc_vector.specs.declared.sim_note.SimNote.{SimNote}
use Rattle.auc_sites.specs.Network.{Network, SitesTurn, after_event}
use Rattle.auc_sites.specs.Run.{judgement_in}
use Rattle.auc_sites.specs.declared.master.Judged.{Judged}
use Rattle.auc_sites.specs.declared.master.Judged.TheVariants as judged
use Rattle.auc_vector.specs.declared.parts.Vector.{Vector as AuthVector}
use Rattle.auc_record.specs.declared.further.Further.{Further as Said}
use Rattle.auc_record.specs.declared.further.Further.TheVariants as further
use Rattle.auc_record.specs.declared.record.GiveVerdict.{GiveVerdict}
use Rattle.auc_record.specs.declared.record.GiveVerdict.TheVariants as given
use Rattle.auc_record.specs.declared.record.LineRecord.{LineRecord}
use Rattle.auc_record.specs.declared.record.LineRecord.TheVariants.{Number, Sync, Give, Further, Event}
use Rattle.auc_record.specs.Vectors.{IsReleasableLine}
use Rattle.auc_vector.specs.declared.notes.NumberNote.{NumberNote}
use Rattle.auc_vector.specs.declared.notes.NumberNote.TheVariants as number
use Rattle.auc_vector.specs.declared.notes.ResyncNote.{ResyncNote}
use Rattle.auc_vector.specs.declared.notes.ResyncNote.TheVariants as resync
use Rattle.auc_world.specs.Given.{AuthenticatesIf, Before, EpsGives, FivegFollows, FivegGives, GiveGives, SyncGives, VectorsFollow, behind, device_of_row, hxres_lines, judged_lines, kasme_line, outcome_of, turned}
use Rattle.auc_record.specs.Draws.{DrawGives, OneGives}
use Rattle.auc_subs.specs.Setting.{Setting}
use Rattle.auc_record.specs.Lines.{numbers_of}
use Rattle.auc_world.specs.Sim.{SimFollowsIf, SimGives}
use Rattle.auc_world.specs.Sites.{LeaseGives, SitesGives, SitesGo, event_of, sites_start}
use Rattle.auc_record.specs.VectorAt.{vector_at, vector_of_row}
use Rattle.auc_jobs.specs.InnerSim.{said_lines}

-- each line that a request of a subscriber may give is so
pub record AreSo (set : Setting) (sub : ℕ) (P : LineRecord → Type 0) : Type 0 where
  pub number : (note : NumberNote) → IsReleasableLine set (Number sub note) → P (Number sub note)
  pub sync : (note : ResyncNote) → P (Sync sub note)
  pub give : (n : ℕ) (answer : GiveVerdict) → P (Give sub n answer)
  pub further : (said : Said) → P (Further said)

module _ (set : Setting) (sub : ℕ) (P : LineRecord → Type 0) (are : AreSo set sub P) where
  one : (line : LineRecord) → P line → All P (line ∷ [])
  one line is = All-cons P line [] is (All-nil P)

  none : (lines : List LineRecord) → lines ≡ [] → All P lines
  none lines is = subst (All P) (sym is) (All-nil P)

  -- the line of an answer
  asked : (s : ℕ) (note : NumberNote) → s ≡ sub → IsReleasableLine set (Number sub note) → P (Number s note)
  asked s note same is = subst (λ (k : ℕ). P (Number k note)) (sym same) (are.number note is)

  -- a request for a vector, and what follows it
  one_lines : (Follows : ℕ → List LineRecord → Type 0) (lines : List LineRecord) → ((n : ℕ) (rest : List LineRecord) → Follows n rest → All P rest) → OneGives set sub Follows lines → All P lines
  one_lines Follows [] follows gives = absurd gives
  one_lines Follows (Number s (number.Drew n) ∷ lines) follows (same, is, more) = All-cons P _ lines (asked s (number.Drew n) same is) (follows n lines more)
  one_lines Follows (Number s (number.Exhausted word) ∷ lines) follows (same, spent, ends) = All-cons P _ lines (asked s (number.Exhausted word) same tt) (none lines ends)
  one_lines Follows (Number s (number.Withheld n stop) ∷ lines) follows (same, first, last, ends) = All-cons P _ lines (asked s (number.Withheld n stop) same tt) (none lines ends)
  one_lines Follows (Sync s answer ∷ lines) follows gives = absurd gives
  one_lines Follows (Give s n answer ∷ lines) follows gives = absurd gives
  one_lines Follows (Further said ∷ lines) follows gives = absurd gives
  one_lines Follows (Event r ∷ lines) follows gives = absurd gives

  -- so many vectors
  pub draw_lines : (count : ℕ) (lines : List LineRecord) → DrawGives set sub count lines → All P lines
  draw_lines zero lines gives = none lines gives
  draw_lines (suc count) lines gives = one_lines (λ n rest. DrawGives set sub count rest) lines (λ n rest more. draw_lines count rest more) gives

  -- an AUTS, and the vectors that follow
  follow_lines : (count : ℕ) (note : ResyncNote) (lines : List LineRecord) → VectorsFollow set sub count note lines → All P lines
  follow_lines count (resync.Moved seen seq_ms) lines follow = draw_lines count lines follow
  follow_lines count (resync.InRange seen seq_ms) lines follow = draw_lines count lines follow
  follow_lines count (resync.Beyond seen seq_ms) lines follow = none lines follow
  follow_lines count resync.BadAuts lines follow = none lines follow

  pub sync_lines : (report : Report) (count : ℕ) (lines : List LineRecord) → SyncGives set sub report count lines → All P lines
  sync_lines report count lines gives =
      subst (All P) (sym gives.lines_are) (All-cons P (Sync sub gives.note) gives.more (are.sync gives.note) (follow_lines count gives.note gives.more gives.follows))

  -- a presented vector
  pub give_lines : (before : Before) (n : ℕ) (lines : List LineRecord) → GiveGives set before sub n lines → All P lines
  give_lines before n lines gives = subst (All P) (sym gives.lines_are) (one (Give sub n gives.answer) (are.give n gives.answer))

  -- a vector and its K_ASME
  kasme_lines : (snid : List ℕ) (vectors : List AuthVector) → All P (map (kasme_line snid) vectors)
  kasme_lines snid [] = All-nil P
  kasme_lines snid (v ∷ vectors) = All-cons P (kasme_line snid v) (map (kasme_line snid) vectors) (are.further _) (kasme_lines snid vectors)

  pub eps_lines : (snid : List ℕ) (lines : List LineRecord) → EpsGives set sub snid lines → All P lines
  eps_lines snid lines gives =
      one_lines (λ n rest. rest ≡ map (kasme_line snid) (vector_at set sub n)) lines (λ n rest is. subst (All P) (sym is) (kasme_lines snid (vector_at set sub n))) gives

-- a 5G authentication
module _ (set : Setting) (line : FivegLine) (P : LineRecord → Type 0) (are : AreSo set line.sub P) where
  judged_lines_are : (home : HomeKeys) (device : DeviceKeys) (answer : GiveVerdict) → All P (judged_lines line home device answer)
  judged_lines_are home device given.Accepted = by line.hxres
    where
      last : LineRecord
      last = Further (further.Fiveg line.sub (outcome_of home device (turned line.bit device.res_star)))

      by : (told : Bool) → All P (hxres_lines told home ++ last ∷ [])
      by true = All-cons P _ (last ∷ []) (are.further _) (one set line.sub P are last (are.further _))
      by false = one set line.sub P are last (are.further _)
  judged_lines_are home device (given.Sync sqn_ms) = All-nil P
  judged_lines_are home device given.Absent = All-nil P

  follows_lines : (before : Before) (n : ℕ) (lines : List LineRecord) → FivegFollows set before line n lines → All P lines
  follows_lines before n lines f = by (is_separated (vector_of_row set f.row line.sub n).autn) f.follows
    where
      by : (separated : Bool) → AuthenticatesIf separated set before line f.row n lines → All P lines
      by false is = subst (All P) (sym is) (one set line.sub P are _ (are.further _))
      by true is =
          subst (All P) (sym is.lines_are) (All-append P is.front is.more (give_lines set line.sub P are before n is.front is.gives)
          (subst (All P) (sym is.judged)
          (judged_lines_are (home_of (vector_of_row set f.row line.sub n) line.home) (device_of_row f.row n (rand_of set.key line.sub n) line.device) is.gives.answer)))

  pub fiveg_lines : (before : Before) (lines : List LineRecord) → FivegGives set before line lines → All P lines
  fiveg_lines before lines gives =
      one_lines set line.sub P are (λ n rest. FivegFollows set (behind before (Number line.sub (number.Drew n) ∷ [])) line n rest) lines
      (λ n rest f. follows_lines (behind before (Number line.sub (number.Drew n) ∷ [])) n rest f) gives

-- the events of a line for sites
module _ (set : Setting) (line : SitesValue) (P : LineRecord → Type 0) (are : AreSo set line.sub P) where
  lease_lines : (judged : Option Judged) (lines : List LineRecord) → LeaseGives set line.sub line.size judged lines → All P lines
  lease_lines None lines gives = none set line.sub P are lines gives
  lease_lines (Some (judged.Again g)) lines gives = none set line.sub P are lines gives
  lease_lines (Some (judged.Old last)) lines gives = none set line.sub P are lines gives
  lease_lines (Some judged.New) lines gives = draw_lines set line.sub P are line.size lines gives

  go_lines : (w : Network) (events : List SiteEvent) (lines : List LineRecord) (turns : List SitesTurn) → SitesGo set line.sub line.size w events lines turns → All P lines
  go_lines w [] lines turns (is, ends) = none set line.sub P are lines is
  go_lines w (e ∷ events) lines [] gives = absurd gives
  go_lines w (e ∷ events) lines (turn ∷ turns) (front, rest, is, here, more) =
      subst (All P) (sym is) (All-append P front rest
      (subst (All P) (sym here.lines_are) (All-append P here.drawn _ (lease_lines (judgement_in w (event_of w e)) here.drawn here.draws) (one set line.sub P are _ (are.further _))))
      (go_lines (after_event w turn.event turn.numbers turn.end) events rest turns more))

  pub sites_lines : (lines : List LineRecord) → SitesGives set line lines → All P lines
  sites_lines lines (turns, gives) = go_lines (sites_start line) line.schedule lines turns gives

-- the vectors and the session of a line for EAP-SIM
module _ (set : Setting) (line : SimValue) (P : LineRecord → Type 0) (are : AreSo set line.sub P) where
  note_lines : (notes : List SimNote) → All P (said_lines line.sub notes)
  note_lines [] = All-nil P
  note_lines (note ∷ notes) = All-cons P _ (said_lines line.sub notes) (are.further _) (note_lines notes)

  session_lines : (whole : Bool) (numbers : List ℕ) (lines : List LineRecord) → SimFollowsIf whole set line numbers lines → All P lines
  session_lines false numbers lines follows = none set line.sub P are lines follows
  session_lines true numbers lines follows = subst (All P) (sym follows.lines_are) (note_lines follows.notes)

  pub sim_lines : (lines : List LineRecord) → SimGives set line lines → All P lines
  sim_lines lines gives =
      subst (All P) (sym gives.lines_are) (All-append P gives.drawn gives.rest (draw_lines set line.sub P are line.count gives.drawn gives.draws)
      (session_lines (length (numbers_of line.sub gives.drawn) == line.count) (numbers_of line.sub gives.drawn) gives.rest gives.follows))
