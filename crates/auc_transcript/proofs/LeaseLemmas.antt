-- The law of leases: in a lawful transcript no number is handed out twice at the sites of a subscriber, and each line for sites keeps the
-- law of a master and its sites.
use Rattle.std.proofs.Common.{◌≡◌, ◌≢◌, ℕ, ◌<◌, ◌==◌, ◌⊎◌, Bool, true, false, List, [], ◌∷◌, ◌++◌, length, get_or, map, All, AllPairs, Contains, Option, Some, None, inl, inr, refl, sym, ap, ◌∙◌, subst, arith, append-nil, ⊎_elim}
use Rattle.std.proofs.lemmas.Bool.{cond-false, eqb-true}
use Rattle.std.proofs.lemmas.List.Concat.{flat_map-append}
use Rattle.std.proofs.lemmas.List.Elements.{All-append, All-cons, All-head, All-nil, All-tail, Contains-append_left, Contains-append_right}
use Rattle.auc_5g.specs.Keys.{home_of}
use Rattle.auc_5g.specs.declared.device_keys.DeviceKeys.{DeviceKeys}
use Rattle.auc_5g.specs.declared.home_keys.HomeKeys.{HomeKeys}
use Rattle.auc_history.proofs.Facts.{differ_from_times}
use Rattle.auc_lines.specs.Sites.{SitesValue}
use Rattle.auc_lines.specs.declared.part.End.{End}
use Rattle.auc_lines.specs.declared.part.End.TheVariants as end
use Rattle.auc_lines.specs.declared.part.FivegLine.{FivegLine}
use Rattle.auc_lines.specs.declared.part.Line.{Line}
use Rattle.auc_lines.specs.declared.part.Line.TheVariants as line
use Rattle.auc_lines.specs.declared.part.Part.{Part}
use Rattle.auc_lines.specs.declared.part.Part.TheVariants as part
use Rattle.auc_lines.specs.declared.sites.SiteEvent.{SiteEvent}
use Rattle.auc_random.specs.Random.{rand_of}
use Rattle.auc_request.specs.Request.{is_separated}
use Rattle.auc_sites.specs.Law.{EachNumberIsHandedOutOnce, released}
use Rattle.auc_sites.specs.Lease.{IsRising}
use Rattle.auc_sites.specs.Network.{Network, SitesTurn, after_event}
use Rattle.auc_sites.specs.Run.{judgement_in}
use Rattle.auc_sites.specs.declared.master.Judged.{Judged}
use Rattle.auc_sites.specs.declared.master.Judged.TheVariants as judged
use Rattle.auc_subs.specs.declared.row.Row.{Row}
use Rattle.auc_vector.specs.declared.parts.Vector.{Vector as AuthVector}
use Rattle.auc_world.specs.Came.{came}
use Rattle.auc_world.specs.Given.{AuthenticatesIf, Before, EventGives, FivegFollows, JobGives, JobsGive, LineGives, PlainGives, RelayGives, VectorsFollow, behind, device_of_row, hxres_lines, judged_lines, kasme_line, outcome_of, packet_of, turned}
use Rattle.auc_record.specs.Draws.{DrawGives, IsReleasable}
use Rattle.auc_record.specs.Lines.{all_lines, numbers_of, released_by}
use Rattle.auc_world.specs.Net.{Net, other}
use Rattle.auc_subs.specs.Setting.{Setting}
use Rattle.auc_world.specs.Sites.{LeaseGives, SitesGives, SitesGo, event_of, note_of, sites_start}
use Rattle.auc_world.specs.Start.{Kept, fresh_kept, kept_by_jobs, start_of}
use Rattle.auc_world.specs.Transcript.{lines_of}
use Rattle.auc_record.specs.VectorAt.{vector_at, vector_of_row}
use Rattle.auc_record.specs.declared.event.Event.{Event as Happens}
use Rattle.auc_record.specs.declared.event.Event.TheVariants as event
use Rattle.auc_record.specs.declared.further.Further.TheVariants as further
use Rattle.auc_record.specs.declared.record.GiveVerdict.{GiveVerdict}
use Rattle.auc_record.specs.declared.record.GiveVerdict.TheVariants as given
use Rattle.auc_record.specs.declared.record.LineRecord.{LineRecord}
use Rattle.auc_record.specs.declared.record.LineRecord.TheVariants.{Number, Sync, Give, Further, Event}
use Rattle.auc_vector.specs.declared.notes.NumberNote.TheVariants as number
use Rattle.auc_record.specs.declared.record.PartRecord.{PartRecord}
use Rattle.auc_record.specs.declared.record.PartRecord.TheVariants as record_of
use Rattle.auc_vector.specs.declared.notes.ResyncNote.{ResyncNote}
use Rattle.auc_vector.specs.declared.notes.ResyncNote.TheVariants as resync
use Rattle.auc_world.proofs.Facts.{draw_releasable, sim_each}
use Rattle.auc_transcript.specs.Keys.{AreNetsAfter}
use Rattle.auc_transcript.specs.Leases.{EachLeasedNumberIsHandedOutOnce, JobHandsOut, JobsHandOut, SitesHandOutAfter, handed_by, handed_out, number_noted}
use Rattle.auc_transcript.proofs.HandingLemmas.{IsSilent, draw_silent, lease_silent, one_silent, silent_out, sites_hand_out}
use Rattle.auc_transcript.proofs.ListLemmas.{AllPairs-left, AllPairs-right, all_of, pairs_across, pairs_join}
use Rattle.auc_transcript.proofs.PlainLineLemmas.{splits}
use Rattle.auc_transcript.proofs.RisingLemmas.{JobsRise, transcript_rises}
use Rattle.auc_transcript.proofs.VectorLemmas.{released_once}

-- ---- lines that say of no number that it was handed out

module _ (sub : ℕ) where
  abbrev Silent : List LineRecord → Type 0
  Silent lines = All (IsSilent sub) lines

  one_line : (l : LineRecord) → IsSilent sub l → Silent (l ∷ [])
  one_line l is = All-cons (IsSilent sub) l [] is (All-nil (IsSilent sub))

  follows_silent : (set : Setting) (who count : ℕ) (note : ResyncNote) (lines : List LineRecord) → VectorsFollow set who count note lines → Silent lines
  follows_silent set who count (resync.Moved seen seq_ms) lines gives = draw_silent set who count sub lines gives
  follows_silent set who count (resync.InRange seen seq_ms) lines gives = draw_silent set who count sub lines gives
  follows_silent set who count (resync.Beyond seen seq_ms) lines none = subst Silent (sym none) (All-nil (IsSilent sub))
  follows_silent set who count resync.BadAuts lines none = subst Silent (sym none) (All-nil (IsSilent sub))

  kasme_silent : (snid : List ℕ) (vectors : List AuthVector) → Silent (map (kasme_line snid) vectors)
  kasme_silent snid [] = All-nil (IsSilent sub)
  kasme_silent snid (v ∷ vectors) = All-cons (IsSilent sub) (kasme_line snid v) (map (kasme_line snid) vectors) refl (kasme_silent snid vectors)

  judged_silent : (l : FivegLine) (home : HomeKeys) (device : DeviceKeys) (answer : GiveVerdict) → Silent (judged_lines l home device answer)
  judged_silent l home device given.Accepted = by l.hxres
    where
      last : LineRecord
      last = Further (further.Fiveg l.sub (outcome_of home device (turned l.bit device.res_star)))

      by : (told : Bool) → Silent (hxres_lines told home ++ last ∷ [])
      by true = All-cons (IsSilent sub) _ (last ∷ []) refl (one_line last refl)
      by false = one_line last refl
  judged_silent l home device (given.Sync sqn_ms) = All-nil (IsSilent sub)
  judged_silent l home device given.Absent = All-nil (IsSilent sub)

  fiveg_silent : (set : Setting) (before : Before) (l : FivegLine) (n : ℕ) (lines : List LineRecord) → FivegFollows set before l n lines → Silent lines
  fiveg_silent set before l n lines f = by (is_separated (vector_of_row set f.row l.sub n).autn) f.follows
    where
      by : (separated : Bool) → AuthenticatesIf separated set before l f.row n lines → Silent lines
      by false is = subst Silent (sym is) (one_line _ refl)
      by true is =
          let home = home_of (vector_of_row set f.row l.sub n) l.home in
          let device = device_of_row f.row n (rand_of set.key l.sub n) l.device in
          subst Silent (sym is.lines_are)
          (All-append (IsSilent sub) is.front is.more (subst Silent (sym is.gives.lines_are) (one_line (Give l.sub n is.gives.answer) refl))
          (subst Silent (sym is.judged) (judged_silent l home device is.gives.answer)))

  -- events
  event_silent : (set : Setting) (before : Before) (net next : Net) (e : Happens) (lines : List LineRecord) → EventGives set before net e lines next → Silent lines
  event_silent set before net next e lines gives = subst Silent (sym gives.lines_are) (one_line (Event (record { event = e; result = came set net e gives.told })) refl)

  relay_silent : (set : Setting) (before : Before) (net next : Net) (session : ℕ) (at' : End) (o : Option ℕ) (lines : List LineRecord) → RelayGives set before net session at' o lines next → Silent lines
  relay_silent set before net next session at' None [] gives = All-nil (IsSilent sub)
  relay_silent set before net next session at' None (l ∷ lines) gives = absurd gives
  relay_silent set before net next session at' (Some packet) [] gives = absurd gives
  relay_silent set before net next session at' (Some packet) (l ∷ lines) (mid, first, more) =
      All-append (IsSilent sub) (l ∷ []) lines (event_silent set before net mid (event.Deliver session at' packet) (l ∷ []) first)
      (relay_silent set (behind before (l ∷ [])) mid next session (other at') (packet_of l) lines more)

  plain_silent : (set : Setting) (before : Before) (net next : Net) (session : ℕ) (lines : List LineRecord) → PlainGives set before net session lines next → Silent lines
  plain_silent set before net next session [] gives = absurd gives
  plain_silent set before net next session (l ∷ lines) (mid, first, more) =
      All-append (IsSilent sub) (l ∷ []) lines (event_silent set before net mid (event.Start session) (l ∷ []) first)
      (relay_silent set (behind before (l ∷ [])) mid next session end.Peer (packet_of l) lines more)

  -- a line for sites of another subscriber
  others_silent : (set : Setting) (who size : ℕ) (w : Network) (events : List SiteEvent) (lines : List LineRecord) (turns : List SitesTurn) → (who == sub) ≡ false → SitesGo set who size w events lines turns
      → Silent lines
  others_silent set who size w [] lines turns apart (none, ends) = subst Silent (sym none) (All-nil (IsSilent sub))
  others_silent set who size w (e ∷ events) lines [] apart goes = absurd goes
  others_silent set who size w (e ∷ events) lines (turn ∷ turns) apart (front, rest, cut, gives, more) =
      let last = Further (further.Sites who (note_of w e turn)) in
      subst Silent (sym cut)
      (All-append (IsSilent sub) front rest
      (subst Silent (sym gives.lines_are)
      (All-append (IsSilent sub) gives.drawn (last ∷ []) (lease_silent set who size sub (judgement_in w (event_of w e)) gives.drawn gives.draws)
      (one_line last (cond-false (who == sub) (number_noted (note_of w e turn)) [] apart))))
      (others_silent set who size (after_event w turn.event turn.numbers turn.end) events rest turns apart more))

-- ---- what lines hand out

-- no number twice, and each is one that the lines release
record Hands (sub : ℕ) (lines : List LineRecord) : Type 0 where
  differ : AllPairs ◌≢◌ (handed_out sub lines)
  from : All (Contains (numbers_of sub lines)) (handed_out sub lines)

hands_none : (sub : ℕ) (lines : List LineRecord) → handed_out sub lines ≡ [] → Hands sub lines
hands_none sub lines none = record {
  differ = subst (AllPairs ◌≢◌) (sym none) (λ i j d i<j j<n. absurd (omega arith));
  from = subst (All (Contains (numbers_of sub lines))) (sym none) (All-nil (Contains (numbers_of sub lines)));
}

silent_hands : (sub : ℕ) (lines : List LineRecord) → All (IsSilent sub) lines → Hands sub lines
silent_hands sub lines silent = hands_none sub lines (silent_out sub lines silent)

hands-append : (sub : ℕ) (xs ys : List LineRecord) → AllPairs ◌≢◌ (numbers_of sub (xs ++ ys)) → Hands sub xs → Hands sub ys → Hands sub (xs ++ ys)
hands-append sub xs ys pairs first rest = record {
  differ = subst (AllPairs ◌≢◌) (sym handed)
      (pairs_join ◌≢◌ (handed_out sub xs) (handed_out sub ys) first.differ rest.differ
      (λ k d inside i c within. apart (get_or (handed_out sub xs) i c) (get_or (handed_out sub ys) k d) (first.from i c within) (rest.from k d inside)));
  from = subst (λ (ns : List ℕ). All (Contains ns) (handed_out sub (xs ++ ys))) (sym numbers)
      (subst (All (Contains (numbers_of sub xs ++ numbers_of sub ys))) (sym handed)
      (All-append (Contains (numbers_of sub xs ++ numbers_of sub ys)) (handed_out sub xs) (handed_out sub ys)
      (λ k d inside. Contains-append_left (numbers_of sub xs) (numbers_of sub ys) (get_or (handed_out sub xs) k d) (first.from k d inside))
      (λ k d inside. Contains-append_right (numbers_of sub xs) (numbers_of sub ys) (get_or (handed_out sub ys) k d) (rest.from k d inside))));
}
  where
    handed : handed_out sub (xs ++ ys) ≡ handed_out sub xs ++ handed_out sub ys
    handed = flat_map-append (handed_by sub) xs ys

    numbers : numbers_of sub (xs ++ ys) ≡ numbers_of sub xs ++ numbers_of sub ys
    numbers = flat_map-append (released_by sub) xs ys

    apart : (x y : ℕ) → Contains (numbers_of sub xs) x → Contains (numbers_of sub ys) y → x ≢ y
    apart x y left right =
        all_of (λ n. n ≢ y) (numbers_of sub xs) x
        (all_of (λ m. All (λ n. n ≢ m) (numbers_of sub xs)) (numbers_of sub ys) y (pairs_across ◌≢◌ (numbers_of sub xs) (numbers_of sub ys) (subst (AllPairs ◌≢◌) numbers pairs)) right) left

-- numbers that rise differ
rising_differ : (numbers : List ℕ) → IsRising numbers → AllPairs ◌≢◌ numbers
rising_differ numbers rising i j d i<j j<n same = let less = rising i j d i<j j<n in absurd (omega (arith, less, same))

-- the parts of lines whose numbers rise
rising_left : (sub : ℕ) (xs ys : List LineRecord) → IsRising (numbers_of sub (xs ++ ys)) → IsRising (numbers_of sub xs)
rising_left sub xs ys rising = AllPairs-left ◌<◌ (numbers_of sub xs) (numbers_of sub ys) (subst IsRising (flat_map-append (released_by sub) xs ys) rising)

rising_right : (sub : ℕ) (xs ys : List LineRecord) → IsRising (numbers_of sub (xs ++ ys)) → IsRising (numbers_of sub ys)
rising_right sub xs ys rising = AllPairs-right ◌<◌ (numbers_of sub xs) (numbers_of sub ys) (subst IsRising (flat_map-append (released_by sub) xs ys) rising)

-- ---- jobs

-- the subscriber of released numbers has a row
draw_known : (set : Setting) (who count : ℕ) (lines : List LineRecord) → DrawGives set who count lines → (numbers_of who lines ≡ []) ⊎ (who < length set.rows)
draw_known set who count lines gives = by (numbers_of who lines) (draw_releasable set who count lines gives)
  where
    by : (numbers : List ℕ) → All (IsReleasable set who) numbers → (numbers ≡ []) ⊎ (who < length set.rows)
    by [] all = inl refl
    by (n ∷ numbers) all = inr (All-head (IsReleasable set who) n numbers all).known

lease_known : (set : Setting) (who size : ℕ) (made : Option Judged) (lines : List LineRecord) → LeaseGives set who size made lines → (numbers_of who lines ≡ []) ⊎ (who < length set.rows)
lease_known set who size None lines none = inl (ap (numbers_of who) none)
lease_known set who size (Some (judged.Again g)) lines none = inl (ap (numbers_of who) none)
lease_known set who size (Some (judged.Old last)) lines none = inl (ap (numbers_of who) none)
lease_known set who size (Some judged.New) lines gives = draw_known set who size lines gives

sites_known : (set : Setting) (who size : ℕ) (w : Network) (events : List SiteEvent) (lines : List LineRecord) (turns : List SitesTurn) → SitesGo set who size w events lines turns
    → (numbers_of who lines ≡ []) ⊎ (who < length set.rows)
sites_known set who size w [] lines turns (none, ends) = inl (ap (numbers_of who) none)
sites_known set who size w (e ∷ events) lines [] goes = absurd goes
sites_known set who size w (e ∷ events) lines (turn ∷ turns) (front, rest, cut, gives, more) =
    ⊎_elim
    (λ (none : numbers_of who gives.drawn ≡ []).
    ⊎_elim (λ (also : numbers_of who rest ≡ []). inl (parts ∙ ap (λ (ns : List ℕ). ns ++ numbers_of who rest) none ∙ also)) (λ (known : who < length set.rows). inr known)
    (sites_known set who size (after_event w turn.event turn.numbers turn.end) events rest turns more))
    (λ (known : who < length set.rows). inr known) (lease_known set who size (judgement_in w (event_of w e)) gives.drawn gives.draws)
  where
    own : List LineRecord
    own = Further (further.Sites who (note_of w e turn)) ∷ []

    parts : numbers_of who lines ≡ numbers_of who gives.drawn ++ numbers_of who rest
    parts =
        ap (numbers_of who) cut ∙ flat_map-append (released_by who) front rest
        ∙ ap (λ (ns : List ℕ). ns ++ numbers_of who rest)
        (ap (numbers_of who) gives.lines_are ∙ flat_map-append (released_by who) gives.drawn own ∙ append-nil (numbers_of who gives.drawn))

-- the numbers of each subscriber rise
abbrev AreRising : Setting → List LineRecord → Type 0
AreRising set lines = (sub : ℕ) → sub < length set.rows → IsRising (numbers_of sub lines)

sites_rise : (set : Setting) (l : SitesValue) (lines : List LineRecord) → SitesGives set l lines → AreRising set lines → IsRising (numbers_of l.sub lines)
sites_rise set l lines (turns, goes) rising =
    ⊎_elim (λ (none : numbers_of l.sub lines ≡ []). subst IsRising (sym none) (λ i j d i<j j<n. absurd (omega arith))) (λ (known : l.sub < length set.rows). rising l.sub known)
    (sites_known set l.sub l.size (sites_start l) l.schedule lines turns goes)

module _ (law : EachNumberIsHandedOutOnce) (set : Setting) where
  site_hands : (sub : ℕ) (l : SitesValue) (lines : List LineRecord) → SitesGives set l lines → IsRising (numbers_of sub lines) → Hands sub lines
  site_hands sub l lines gives rising = by (l.sub == sub) refl
    where
      own : l.sub ≡ sub → Hands sub lines
      own same =
          let h = sites_hand_out law set l lines gives (subst (λ (s : ℕ). IsRising (numbers_of s lines)) (sym same) rising) in
          subst (λ (s : ℕ). Hands s lines) same (record {
            differ = subst (AllPairs ◌≢◌) h.told h.once.differ;
            from = subst (λ (ns : List ℕ). All (Contains ns) (handed_out l.sub lines)) h.given
                (subst (All (Contains (released h.turns))) h.told h.once.known);
          })

      by : (b : Bool) → (l.sub == sub) ≡ b → Hands sub lines
      by true is = own (eqb-true l.sub sub is)
      by false is = silent_hands sub lines (others_silent sub set l.sub l.size (sites_start l) l.schedule lines gives.0 is gives.1)

  line_hands : (sub : ℕ) (before : Before) (net next : Net) (l : Line) (lines : List LineRecord) → LineGives set before net l lines next → IsRising (numbers_of sub lines) → Hands sub lines
  line_hands sub before net next (line.Draw who count) lines (gives, same) rising = silent_hands sub lines (draw_silent set who count sub lines gives)
  line_hands sub before net next (line.Sync who report count) lines (gives, same) rising =
      silent_hands sub lines
      (subst (All (IsSilent sub)) (sym gives.lines_are)
      (All-cons (IsSilent sub) (Sync who gives.note) gives.more refl (follows_silent sub set who count gives.note gives.more gives.follows)))
  line_hands sub before net next (line.Give who n) lines (gives, same) rising =
      silent_hands sub lines (subst (All (IsSilent sub)) (sym gives.lines_are) (one_line sub (Give who n gives.answer) refl))
  line_hands sub before net next (line.Eps who snid) lines (gives, same) rising =
      silent_hands sub lines
      (one_silent set who sub (λ n rest. rest ≡ map (kasme_line snid) (vector_at set who n)) lines
      (λ n rest is. subst (All (IsSilent sub)) (sym is) (kasme_silent sub snid (vector_at set who n))) gives)
  line_hands sub before net next (line.Fiveg l) lines (gives, same) rising =
      silent_hands sub lines
      (one_silent set l.sub sub (λ n rest. FivegFollows set (behind before (Number l.sub (number.Drew n) ∷ [])) l n rest) lines
      (λ n rest f. fiveg_silent sub set (behind before (Number l.sub (number.Drew n) ∷ [])) l n rest f) gives)
  line_hands sub before net next (line.Sites l) lines (gives, same) rising = site_hands sub l lines gives rising
  line_hands sub before net next (line.Sim l) lines (gives, same) rising =
      silent_hands sub lines (sim_each (IsSilent sub) set l lines (λ note. refl) gives (draw_silent set l.sub l.count sub gives.drawn gives.draws))
  line_hands sub before net next (line.Session opening) lines gives rising = silent_hands sub lines (event_silent sub set before net next (event.Open opening) lines gives)
  line_hands sub before net next (line.Start session) lines gives rising = silent_hands sub lines (event_silent sub set before net next (event.Start session) lines gives)
  line_hands sub before net next (line.Deliver session at' packet) lines gives rising =
      silent_hands sub lines (event_silent sub set before net next (event.Deliver session at' packet) lines gives)
  line_hands sub before net next (line.Repeat session) lines gives rising = silent_hands sub lines (event_silent sub set before net next (event.Repeat session) lines gives)
  line_hands sub before net next (line.GiveUp session at') lines gives rising =
      silent_hands sub lines (event_silent sub set before net next (event.GiveUp session at') lines gives)
  line_hands sub before net next (line.Plain session) lines gives rising = silent_hands sub lines (plain_silent sub set before net next session lines gives)
  line_hands sub before net next (line.Tamper packet place byte) lines gives rising =
      silent_hands sub lines (event_silent sub set before net next (event.Tamper packet place byte) lines gives)
  line_hands sub before net next (line.Cut packet count) lines gives rising = silent_hands sub lines (event_silent sub set before net next (event.Cut packet count) lines gives)

  job_hands : (sub : ℕ) (before : Before) (net last : Net) (job : List Line) (records : List LineRecord) → JobGives set before net job records last → IsRising (numbers_of sub records) → Hands sub records
  job_hands sub before net last [] records (none, same) rising = hands_none sub records (ap (handed_out sub) none)
  job_hands sub before net last (l ∷ job) records (front, rest, next, cut, gives, more) rising =
      let all = subst (λ (ls : List LineRecord). IsRising (numbers_of sub ls)) cut rising in
      subst (Hands sub) (sym cut)
      (hands-append sub front rest (rising_differ (numbers_of sub (front ++ rest)) all) (line_hands sub before net next l front gives (rising_left sub front rest all))
      (job_hands sub (behind before front) next last job rest more (rising_right sub front rest all)))

  -- each line for sites of a job
  job_hands_out : (before : Before) (start last : Net) (job : List Line) (records : List LineRecord) → JobGives set before start job records last → AreRising set records
      → JobHandsOut set before start job records last
  job_hands_out before start last job records gives rising front back l cut =
      let s = splits set before start front (line.Sites l ∷ back) records last (subst (λ (ls : List Line). JobGives set before start ls records last) cut gives) in
      let (own, rest, next, parts, (line_gives, same), more) = s.more in
      let cuts : records ≡ s.early ++ (own ++ rest) = s.cut ∙ ap (λ (ls : List LineRecord). s.early ++ ls) parts in
      let owns : AreRising set own = λ sub known.
      rising_left sub own rest (rising_right sub s.early (own ++ rest) (subst (λ (ls : List LineRecord). IsRising (numbers_of sub ls)) cuts (rising sub known))) in
      record {
        early = s.early;
        own = own;
        late = rest;
        records_are = cuts;
        net = s.mid;
        first = s.first;
        holds = sites_hand_out law set l own line_gives (sites_rise set l own line_gives owns);
        rest = subst (λ (b : Before). JobGives set (behind b own) s.mid back rest last) s.after_is
            (subst (λ (w : Net). JobGives set (behind s.after own) w back rest last) same more);
      }

  -- ---- rounds

  jobs_hand : (sub : ℕ) (early : List LineRecord) (kept : List Kept) (beside : List LineRecord) (jobs : List (List Line)) (records : List (List LineRecord)) (nets : List Net)
      → JobsGive set early kept beside jobs records nets → All (λ job. IsRising (numbers_of sub job)) records → AllPairs ◌≢◌ (numbers_of sub (all_lines records)) → Hands sub (all_lines records)
  jobs_hand sub early kept beside [] records nets (none, is) rising differ = hands_none sub (all_lines records) (ap (λ (rs : List (List LineRecord)). handed_out sub (all_lines rs)) none)
  jobs_hand sub early kept beside (job ∷ jobs) [] nets gives rising differ = absurd gives
  jobs_hand sub early kept beside (job ∷ jobs) (lines ∷ records) [] gives rising differ = absurd gives
  jobs_hand sub early kept beside (job ∷ jobs) (lines ∷ records) (net ∷ nets) (gives, more) rising differ =
      let P : List LineRecord → Type 0 = λ (own : List LineRecord). IsRising (numbers_of sub own) in
      let rest = AllPairs-right ◌≢◌ (numbers_of sub lines) (numbers_of sub (all_lines records)) (subst (AllPairs ◌≢◌) (flat_map-append (released_by sub) lines (all_lines records)) differ) in
      hands-append sub lines (all_lines records) differ
      (job_hands sub (record { early = early; beside = beside; own = [] }) (start_of set kept job) net job lines gives (All-head P lines records rising))
      (jobs_hand sub early kept (beside ++ lines) jobs records nets more (All-tail P lines records rising) rest)

  jobs_hand_out : (early : List LineRecord) (kept : List Kept) (beside : List LineRecord) (jobs : List (List Line)) (records : List (List LineRecord)) (nets : List Net)
      → JobsGive set early kept beside jobs records nets → ((sub : ℕ) → sub < length set.rows → All (λ job. IsRising (numbers_of sub job)) records) → JobsHandOut set early kept beside jobs records nets
  jobs_hand_out early kept beside [] [] [] gives rising = tt
  jobs_hand_out early kept beside [] [] (net ∷ nets) (none, is) rising = absurd (let no : ⊥ = cc in no)
  jobs_hand_out early kept beside [] (lines ∷ records) nets (none, is) rising = absurd (let no : ⊥ = cc in no)
  jobs_hand_out early kept beside (job ∷ jobs) [] nets gives rising = absurd gives
  jobs_hand_out early kept beside (job ∷ jobs) (lines ∷ records) [] gives rising = absurd gives
  jobs_hand_out early kept beside (job ∷ jobs) (lines ∷ records) (net ∷ nets) (gives, more) rising = (
    job_hands_out (record { early = early; beside = beside; own = [] }) (start_of set kept job) net job lines gives
        (λ sub known. All-head (λ (own : List LineRecord). IsRising (numbers_of sub own)) lines records (rising sub known)),
    jobs_hand_out early kept (beside ++ lines) jobs records nets more (λ sub known. All-tail (λ (own : List LineRecord). IsRising (numbers_of sub own)) lines records (rising sub known)),
  )

  -- ---- transcripts

  parts_hand : (sub : ℕ) (early : List LineRecord) (kept : List Kept) (parts : List Part) (records : List PartRecord) (nets : List (List Net)) → AreNetsAfter set early kept parts records nets
      → All (JobsRise sub) records → AllPairs ◌≢◌ (numbers_of sub (lines_of records)) → Hands sub (lines_of records)
  parts_hand sub early kept [] records nets (none, is) rising differ = hands_none sub (lines_of records) (ap (λ (rs : List PartRecord). handed_out sub (lines_of rs)) none)
  parts_hand sub early kept (part.Round jobs ∷ parts) [] nets gives rising differ = absurd gives
  parts_hand sub early kept (part.Round jobs ∷ parts) (record_of.Restart ∷ records) nets gives rising differ = absurd gives
  parts_hand sub early kept (part.Round jobs ∷ parts) (record_of.Round round ∷ records) [] gives rising differ = absurd gives
  parts_hand sub early kept (part.Round jobs ∷ parts) (record_of.Round round ∷ records) (first ∷ nets) (gives, more) rising differ =
      let own = all_lines round.jobs in
      let cut = subst (AllPairs ◌≢◌) (flat_map-append (released_by sub) own (lines_of records)) differ in
      hands-append sub own (lines_of records) differ
      (jobs_hand sub early kept [] jobs round.jobs first gives (All-head (JobsRise sub) (record_of.Round round) records rising) (AllPairs-left ◌≢◌ (numbers_of sub own) (numbers_of sub (lines_of records)) cut))
      (parts_hand sub (early ++ own) (kept_by_jobs kept first) parts records nets more (All-tail (JobsRise sub) (record_of.Round round) records rising)
      (AllPairs-right ◌≢◌ (numbers_of sub own) (numbers_of sub (lines_of records)) cut))
  parts_hand sub early kept (part.Restart ∷ parts) [] nets gives rising differ = absurd gives
  parts_hand sub early kept (part.Restart ∷ parts) (record_of.Round round ∷ records) nets gives rising differ = absurd gives
  parts_hand sub early kept (part.Restart ∷ parts) (record_of.Restart ∷ records) nets gives rising differ =
      parts_hand sub early kept parts records nets gives (All-tail (JobsRise sub) record_of.Restart records rising) differ

  parts_hand_out : (early : List LineRecord) (kept : List Kept) (parts : List Part) (records : List PartRecord) (nets : List (List Net)) → AreNetsAfter set early kept parts records nets
      → ((sub : ℕ) → sub < length set.rows → All (JobsRise sub) records) → SitesHandOutAfter set early kept parts records nets
  parts_hand_out early kept [] records nets gives rising = tt
  parts_hand_out early kept (part.Round jobs ∷ parts) [] nets gives rising = absurd gives
  parts_hand_out early kept (part.Round jobs ∷ parts) (record_of.Restart ∷ records) nets gives rising = absurd gives
  parts_hand_out early kept (part.Round jobs ∷ parts) (record_of.Round round ∷ records) [] gives rising = absurd gives
  parts_hand_out early kept (part.Round jobs ∷ parts) (record_of.Round round ∷ records) (first ∷ nets) (gives, more) rising = (
    jobs_hand_out early kept [] jobs round.jobs first gives (λ sub known. All-head (JobsRise sub) (record_of.Round round) records (rising sub known)),
    parts_hand_out (early ++ all_lines round.jobs) (kept_by_jobs kept first) parts records nets more (λ sub known. All-tail (JobsRise sub) (record_of.Round round) records (rising sub known)),
  )
  parts_hand_out early kept (part.Restart ∷ parts) [] nets gives rising = absurd gives
  parts_hand_out early kept (part.Restart ∷ parts) (record_of.Round round ∷ records) nets gives rising = absurd gives
  parts_hand_out early kept (part.Restart ∷ parts) (record_of.Restart ∷ records) nets gives rising =
      parts_hand_out early kept parts records nets gives (λ sub known. All-tail (JobsRise sub) record_of.Restart records (rising sub known))

-- the law
pub each_leased_number_is_handed_out_once : EachNumberIsHandedOutOnce → EachLeasedNumberIsHandedOutOnce
each_leased_number_is_handed_out_once law set reserved stop parts records nets lawful lead =
    let kept = map (λ (row : Row). fresh_kept) set.rows in
    let rising : (sub : ℕ) → sub < length set.rows → All (JobsRise sub) records = λ (sub : ℕ) (known : sub < length set.rows). transcript_rises set reserved stop parts records sub lawful known in
    record {
      differ = λ sub known.
          (parts_hand law set sub [] kept parts records nets lead (rising sub known)
          (differ_from_times (numbers_of sub (lines_of records)) (released_once set reserved stop parts records sub lawful known))).differ;
      lines = parts_hand_out law set [] kept parts records nets lead rising;
    }
