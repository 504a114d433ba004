-- For the law of one told transcript: two lists of records that a line without an event gives are one, if the same is told of them.
use Rattle.std.proofs.Common.{◌≡◌, ℕ, zero, suc, ◌==◌, Bool, true, false, List, [], ◌∷◌, ◌++◌, length, map, Option, Some, None, refl, sym, ap, subst, ◌∙◌, append_assoc}
use Rattle.std.specs.Prelude.{slice_get}
use Rattle.std.proofs.lemmas.List.{append_cancel_left, map-append}
use Rattle.auc_5g.specs.Keys.{home_of}
use Rattle.auc_lines.specs.Sim.{SimValue}
use Rattle.auc_lines.specs.Sites.{SitesValue}
use Rattle.auc_lines.specs.declared.part.FivegLine.{FivegLine}
use Rattle.auc_lines.specs.declared.sites.SiteEvent.{SiteEvent}
use Rattle.auc_lines.specs.declared.part.Report.{Report}
use Rattle.auc_random.specs.Random.{rand_of}
use Rattle.auc_request.specs.Request.{is_separated}
use Rattle.auc_sim.specs.Session.{SimRuns}
use Rattle.auc_sim.specs.SessionLaws.{EachSessionHasOneRun}
use Rattle.auc_sites.specs.Network.{Network, SitesTurn, after_event}
use Rattle.auc_sites.specs.Run.{judgement_in}
use Rattle.auc_sites.specs.declared.master.Judged.{Judged}
use Rattle.auc_sites.specs.declared.master.Judged.TheVariants as judged
use Rattle.auc_subs.specs.declared.row.Row.{Row}
use Rattle.auc_world.specs.Given.{Authenticates, AuthenticatesIf, Before, EpsGives, FivegFollows, FivegGives, SyncGives, VectorsFollow, behind, device_of_row, judged_lines, kasme_line}
use Rattle.auc_record.specs.Draws.{DrawGives, OneGives}
use Rattle.auc_record.specs.Lines.{numbers_of}
use Rattle.auc_subs.specs.Setting.{Setting}
use Rattle.auc_world.specs.Sim.{SimFollowsIf, SimGives, sim_inputs}
use Rattle.auc_world.specs.Sites.{LeaseGives, SiteEventGives, SitesGives, SitesGo, event_of, note_of, sites_start, turn_of}
use Rattle.auc_record.specs.Told.{told_job, told_line}
use Rattle.auc_record.specs.VectorAt.{vector_at, vector_of_row}
use Rattle.auc_record.specs.declared.further.Further.TheVariants as further
use Rattle.auc_record.specs.declared.record.GiveVerdict.{GiveVerdict}
use Rattle.auc_record.specs.declared.record.LineRecord.{LineRecord}
use Rattle.auc_record.specs.declared.record.LineRecord.TheVariants.{Number, Sync, Give, Further, Event}
use Rattle.auc_vector.specs.declared.notes.NumberNote.TheVariants as number
use Rattle.auc_vector.specs.declared.notes.ResyncNote.{ResyncNote}
use Rattle.auc_vector.specs.declared.notes.ResyncNote.TheVariants as resync
use Rattle.auc_world.proofs.Facts.{noted}

-- ---- lists

pub heads : {X : Type 0} (x y : X) (xs ys : List X) → x ∷ xs ≡ y ∷ ys → x ≡ y
heads x y xs ys e = cc

pub tails : {X : Type 0} (x y : X) (xs ys : List X) → x ∷ xs ≡ y ∷ ys → xs ≡ ys
tails x y xs ys e = cc

pub conses : {X : Type 0} (x y : X) (xs ys : List X) → x ≡ y → xs ≡ ys → x ∷ xs ≡ y ∷ ys
conses x y xs ys e f = cc

-- if lines are the same, the same is told of what follows them
pub same_rest : (xs ys rest others : List LineRecord) → xs ≡ ys → told_job (xs ++ rest) ≡ told_job (ys ++ others) → told_job rest ≡ told_job others
same_rest xs ys rest others is same =
    append_cancel_left (told_job xs) (told_job rest) (told_job others)
    (sym (map-append told_line xs rest) ∙ same ∙ ap (λ (ls : List LineRecord). told_job (ls ++ others)) (sym is) ∙ map-append told_line xs others)

-- ---- lines other than events

-- a line that is told whole
abbrev IsWhole : LineRecord → Type 0
IsWhole (Number sub note) = Unit {0}
IsWhole (Sync sub answer) = Unit {0}
IsWhole (Give sub n answer) = Unit {0}
IsWhole (Further said) = ⊥
IsWhole (Event r) = ⊥

told_whole : (line : LineRecord) → IsWhole line → told_line line ≡ line
told_whole (Number sub note) is = refl
told_whole (Sync sub answer) is = refl
told_whole (Give sub n answer) is = refl
told_whole (Further said) is = absurd is
told_whole (Event r) is = absurd is

whole_one : (a b : LineRecord) → IsWhole a → IsWhole b → told_line a ≡ told_line b → a ≡ b
whole_one a b is was same = sym (told_whole a is) ∙ same ∙ told_whole b was

-- ---- a request for a vector, and what follows its number

first_whole : (set : Setting) (sub : ℕ) (F : ℕ → List LineRecord → Type 0) (line : LineRecord) (lines : List LineRecord) → OneGives set sub F (line ∷ lines) → IsWhole line
first_whole set sub F (Number s note) lines gives = tt
first_whole set sub F (Sync s answer) lines gives = absurd gives
first_whole set sub F (Give s n answer) lines gives = absurd gives
first_whole set sub F (Further said) lines gives = absurd gives
first_whole set sub F (Event r) lines gives = absurd gives

module _ (set : Setting) (sub : ℕ) (F G : ℕ → List LineRecord → Type 0) where
  -- what follows one number is one
  abbrev FollowsOnce : List LineRecord → List LineRecord → Type 0
  FollowsOnce rest others = (n : ℕ) (xs ys : List LineRecord) → F n xs → G n ys → told_job (xs ++ rest) ≡ told_job (ys ++ others) → xs ≡ ys

  after_first : (line : LineRecord) (xs ys rest others : List LineRecord) → OneGives set sub F (line ∷ xs) → OneGives set sub G (line ∷ ys)
      → told_job (xs ++ rest) ≡ told_job (ys ++ others) → FollowsOnce rest others → xs ≡ ys
  after_first (Number s (number.Drew n)) xs ys rest others (same_sub, is, gives) (also_sub, was, gave) same once = once n xs ys gives gave same
  after_first (Number s (number.Withheld n stop)) xs ys rest others (same_sub, first, last, none) (also_sub, from, to, nothing) same once = none ∙ sym nothing
  after_first (Number s (number.Exhausted word)) xs ys rest others (same_sub, spent, none) (also_sub, was, nothing) same once = none ∙ sym nothing
  after_first (Sync s answer) xs ys rest others gives gave same once = absurd gives
  after_first (Give s n answer) xs ys rest others gives gave same once = absurd gives
  after_first (Further said) xs ys rest others gives gave same once = absurd gives
  after_first (Event r) xs ys rest others gives gave same once = absurd gives

  -- two such lists are one, if what follows one number is one
  pub one_one : (xs ys rest others : List LineRecord) → FollowsOnce rest others → OneGives set sub F xs → OneGives set sub G ys → told_job (xs ++ rest) ≡ told_job (ys ++ others) → xs ≡ ys
  one_one [] ys rest others once gives gave same = absurd gives
  one_one (x ∷ xs) [] rest others once gives gave same = absurd gave
  one_one (x ∷ xs) (y ∷ ys) rest others once gives gave same =
      let cut = heads (told_line x) (told_line y) (told_job (xs ++ rest)) (told_job (ys ++ others)) same in
      let first = whole_one x y (first_whole set sub F x xs gives) (first_whole set sub G y ys gave) cut in
      let after = tails (told_line x) (told_line y) (told_job (xs ++ rest)) (told_job (ys ++ others)) same in
      conses x y xs ys first (after_first x xs ys rest others gives (subst (λ (l : LineRecord). OneGives set sub G (l ∷ ys)) (sym first) gave) after once)

-- ---- lines of a job

-- as many lines as asked for, unless one ends them: where they end is told
pub draw_one : (set : Setting) (sub count : ℕ) (xs ys rest others : List LineRecord) → DrawGives set sub count xs → DrawGives set sub count ys → told_job (xs ++ rest) ≡ told_job (ys ++ others)
    → xs ≡ ys
draw_one set sub zero xs ys rest others gives gave same = gives ∙ sym gave
draw_one set sub (suc count) xs ys rest others gives gave same =
    let More : ℕ → List LineRecord → Type 0 = λ (n : ℕ) (more : List LineRecord). DrawGives set sub count more in
    one_one set sub More More xs ys rest others (λ n more also_more is was told. draw_one set sub count more also_more rest others is was told) gives gave same

-- what follows a resynchronisation
follow_one : (set : Setting) (sub count : ℕ) (note : ResyncNote) (xs ys rest others : List LineRecord) → VectorsFollow set sub count note xs → VectorsFollow set sub count note ys
    → told_job (xs ++ rest) ≡ told_job (ys ++ others) → xs ≡ ys
follow_one set sub count (resync.Moved seen seq_ms) xs ys rest others gives gave same = draw_one set sub count xs ys rest others gives gave same
follow_one set sub count (resync.InRange seen seq_ms) xs ys rest others gives gave same = draw_one set sub count xs ys rest others gives gave same
follow_one set sub count (resync.Beyond seen seq_ms) xs ys rest others none nothing same = none ∙ sym nothing
follow_one set sub count resync.BadAuts xs ys rest others none nothing same = none ∙ sym nothing

sync_notes : (s t : ℕ) (a b : ResyncNote) → Sync s a ≡ Sync t b → a ≡ b
sync_notes s t a b e = cc

give_verdicts : (s t m n : ℕ) (a b : GiveVerdict) → Give s m a ≡ Give t n b → a ≡ b
give_verdicts s t m n a b e = cc

pub sync_one : (set : Setting) (sub : ℕ) (report : Report) (count : ℕ) (xs ys rest others : List LineRecord) → SyncGives set sub report count xs → SyncGives set sub report count ys
    → told_job (xs ++ rest) ≡ told_job (ys ++ others) → xs ≡ ys
sync_one set sub report count xs ys rest others gives gave same =
    let a = gives.note in
    let b = gave.note in
    let cut : Sync sub a ∷ told_job (gives.more ++ rest) ≡ Sync sub b ∷ told_job (gave.more ++ others) =
    ap (λ (ls : List LineRecord). told_job (ls ++ rest)) (sym gives.lines_are) ∙ same ∙ ap (λ (ls : List LineRecord). told_job (ls ++ others)) gave.lines_are in
    let notes = sync_notes sub sub a b (heads (Sync sub a) (Sync sub b) (told_job (gives.more ++ rest)) (told_job (gave.more ++ others)) cut) in
    let more = follow_one set sub count a gives.more gave.more rest others gives.follows (subst (λ (note : ResyncNote). VectorsFollow set sub count note gave.more) (sym notes) gave.follows)
    (tails (Sync sub a) (Sync sub b) (told_job (gives.more ++ rest)) (told_job (gave.more ++ others)) cut) in
    gives.lines_are ∙ conses (Sync sub a) (Sync sub b) gives.more gave.more (ap (Sync sub) notes) more ∙ sym gave.lines_are

-- lines that a USIM's answer to a vector determines: the answer is told
pub answered_one : (sub n : ℕ) (more : GiveVerdict → List LineRecord) (xs ys rest others : List LineRecord) (a b : GiveVerdict) → xs ≡ Give sub n a ∷ more a → ys ≡ Give sub n b ∷ more b
    → told_job (xs ++ rest) ≡ told_job (ys ++ others) → xs ≡ ys
answered_one sub n more xs ys rest others a b is was same =
    let cut : Give sub n a ∷ told_job (more a ++ rest) ≡ Give sub n b ∷ told_job (more b ++ others) =
    ap (λ (ls : List LineRecord). told_job (ls ++ rest)) (sym is) ∙ same ∙ ap (λ (ls : List LineRecord). told_job (ls ++ others)) was in
    let answers = give_verdicts sub sub n n a b (heads (Give sub n a) (Give sub n b) (told_job (more a ++ rest)) (told_job (more b ++ others)) cut) in
    is ∙ ap (λ (v : GiveVerdict). Give sub n v ∷ more v) answers ∙ sym was

some_rows : (o : Option Row) (a b : Row) → o ≡ Some a → o ≡ Some b → a ≡ b
some_rows o a b e f = cc

-- what follows a vector in a 5G authentication, whatever came before: the row is known, and the answer is told
fiveg_follows_one : (set : Setting) (before also_before : Before) (l : FivegLine) (n : ℕ) (xs ys rest others : List LineRecord) → FivegFollows set before l n xs → FivegFollows set also_before l n ys
    → told_job (xs ++ rest) ≡ told_job (ys ++ others) → xs ≡ ys
fiveg_follows_one set before also_before l n xs ys rest others f g same =
    by (is_separated (vector_of_row set row l.sub n).autn) f.follows
    (subst (λ (r : Row). AuthenticatesIf (is_separated (vector_of_row set r l.sub n).autn) set also_before l r n ys) (some_rows (slice_get set.rows l.sub) g.row f.row g.there f.there) g.follows)
  where
    row : Row
    row = f.row

    judged : GiveVerdict → List LineRecord
    judged answer = judged_lines l (home_of (vector_of_row set row l.sub n) l.home) (device_of_row row n (rand_of set.key l.sub n) l.device) answer

    lines : (place : Before) (zs : List LineRecord) (is : Authenticates set place l row n zs) → zs ≡ Give l.sub n is.gives.answer ∷ judged is.gives.answer
    lines place zs is =
        is.lines_are ∙ ap (λ (ls : List LineRecord). ls ++ is.more) is.gives.lines_are ∙ ap (λ (ls : List LineRecord). Give l.sub n is.gives.answer ∷ ls) is.judged

    by : (separated : Bool) → AuthenticatesIf separated set before l row n xs → AuthenticatesIf separated set also_before l row n ys → xs ≡ ys
    by false is was = is ∙ sym was
    by true is was = answered_one l.sub n judged xs ys rest others is.gives.answer was.gives.answer (lines before xs is) (lines also_before ys was) same

pub eps_one : (set : Setting) (sub : ℕ) (snid : List ℕ) (xs ys rest others : List LineRecord) → EpsGives set sub snid xs → EpsGives set sub snid ys → told_job (xs ++ rest) ≡ told_job (ys ++ others)
    → xs ≡ ys
eps_one set sub snid xs ys rest others gives gave same =
    let Keys : ℕ → List LineRecord → Type 0 = λ (n : ℕ) (more : List LineRecord). more ≡ map (kasme_line snid) (vector_at set sub n) in
    one_one set sub Keys Keys xs ys rest others (λ n more also_more keys also_keys told. keys ∙ sym also_keys) gives gave same

pub fiveg_one : (set : Setting) (before also_before : Before) (l : FivegLine) (xs ys rest others : List LineRecord) → FivegGives set before l xs → FivegGives set also_before l ys
    → told_job (xs ++ rest) ≡ told_job (ys ++ others) → xs ≡ ys
fiveg_one set before also_before l xs ys rest others gives gave same =
    let place : ℕ → Before = λ (n : ℕ). behind before (Number l.sub (number.Drew n) ∷ []) in
    let also_place : ℕ → Before = λ (n : ℕ). behind also_before (Number l.sub (number.Drew n) ∷ []) in
    one_one set l.sub (λ n more. FivegFollows set (place n) l n more) (λ n more. FivegFollows set (also_place n) l n more) xs ys rest others
    (λ n more also_more f g told. fiveg_follows_one set (place n) (also_place n) l n more also_more rest others f g told) gives gave same

-- ---- sites

-- what is drawn for a request of which the master makes one thing
lease_one : (set : Setting) (sub size : ℕ) (made : Option Judged) (xs ys rest others : List LineRecord) → LeaseGives set sub size made xs → LeaseGives set sub size made ys
    → told_job (xs ++ rest) ≡ told_job (ys ++ others) → xs ≡ ys
lease_one set sub size None xs ys rest others none nothing same = none ∙ sym nothing
lease_one set sub size (Some (judged.Again g)) xs ys rest others none nothing same = none ∙ sym nothing
lease_one set sub size (Some (judged.Old last)) xs ys rest others none nothing same = none ∙ sym nothing
lease_one set sub size (Some judged.New) xs ys rest others gives gave same = draw_one set sub size xs ys rest others gives gave same

-- an event: what is drawn determines its turn, and what is said of it
record SaysOne (xs ys : List LineRecord) (turn other : SitesTurn) : Type 0 where
  lines_are : xs ≡ ys
  turns_are : turn ≡ other

site_event_one : (set : Setting) (sub size : ℕ) (w : Network) (e : SiteEvent) (xs ys rest others : List LineRecord) (turn other : SitesTurn) → SiteEventGives set sub size w e xs turn
    → SiteEventGives set sub size w e ys other → told_job (xs ++ rest) ≡ told_job (ys ++ others) → SaysOne xs ys turn other
site_event_one set sub size w e xs ys rest others turn other gives gave same =
    record { lines_are = gives.lines_are ∙ ap (λ (ls : List LineRecord). ls ++ said turn) drawn ∙ ap (λ (t : SitesTurn). gave.drawn ++ said t) turns ∙ sym gave.lines_are; turns_are = turns }
  where
    said : SitesTurn → List LineRecord
    said t = Further (further.Sites sub (note_of w e t)) ∷ []

    cut : told_job (gives.drawn ++ (said turn ++ rest)) ≡ told_job (gave.drawn ++ (said other ++ others))
    cut = ap told_job (sym (ap (λ (ls : List LineRecord). ls ++ rest) gives.lines_are ∙ append_assoc gives.drawn (said turn) rest)) ∙ same
        ∙ ap told_job (ap (λ (ls : List LineRecord). ls ++ others) gave.lines_are ∙ append_assoc gave.drawn (said other) others)

    drawn : gives.drawn ≡ gave.drawn
    drawn = lease_one set sub size (judgement_in w (event_of w e)) gives.drawn gave.drawn (said turn ++ rest) (said other ++ others) gives.draws gave.draws cut

    turns : turn ≡ other
    turns = gives.turn_is ∙ ap (turn_of w sub e) drawn ∙ sym gave.turn_is

sites_go_one : (set : Setting) (sub size : ℕ) (w : Network) (events : List SiteEvent) (xs ys rest others : List LineRecord) (turns also_turns : List SitesTurn) → SitesGo set sub size w events xs turns
    → SitesGo set sub size w events ys also_turns → told_job (xs ++ rest) ≡ told_job (ys ++ others) → xs ≡ ys
sites_go_one set sub size w [] xs ys rest others turns also_turns (none, ends) (nothing, also) same = none ∙ sym nothing
sites_go_one set sub size w (e ∷ events) xs ys rest others [] also_turns gives gave same = absurd gives
sites_go_one set sub size w (e ∷ events) xs ys rest others (turn ∷ turns) [] gives gave same = absurd gave
sites_go_one set sub size w (e ∷ events) xs ys rest others (turn ∷ turns) (other ∷ also_turns) (front, back, cut, first, more) (also_front, also_back, also_cut, also_first, also_more) same =
    let parts : xs ++ rest ≡ front ++ (back ++ rest) = ap (λ (ls : List LineRecord). ls ++ rest) cut ∙ append_assoc front back rest in
    let also_parts : ys ++ others ≡ also_front ++ (also_back ++ others) = ap (λ (ls : List LineRecord). ls ++ others) also_cut ∙ append_assoc also_front also_back others in
    let told : told_job (front ++ (back ++ rest)) ≡ told_job (also_front ++ (also_back ++ others)) = ap told_job (sym parts) ∙ same ∙ ap told_job also_parts in
    let one = site_event_one set sub size w e front also_front (back ++ rest) (also_back ++ others) turn other first also_first told in
    let gave_more = subst (λ (t : SitesTurn). SitesGo set sub size (after_event w t.event t.numbers t.end) events also_back also_turns) (sym one.turns_are) also_more in
    let backs = sites_go_one set sub size (after_event w turn.event turn.numbers turn.end) events back also_back rest others turns also_turns more gave_more
    (same_rest front also_front (back ++ rest) (also_back ++ others) one.lines_are told) in
    cut ∙ ap (λ (ls : List LineRecord). ls ++ back) one.lines_are ∙ ap (λ (ls : List LineRecord). also_front ++ ls) backs ∙ sym also_cut

pub sites_one : (set : Setting) (l : SitesValue) (xs ys rest others : List LineRecord) → SitesGives set l xs → SitesGives set l ys → told_job (xs ++ rest) ≡ told_job (ys ++ others) → xs ≡ ys
sites_one set l xs ys rest others (turns, gives) (also_turns, gave) same = sites_go_one set l.sub l.size (sites_start l) l.schedule xs ys rest others turns also_turns gives gave same

-- ---- sessions of EAP-SIM

-- what is drawn is told, and the session runs in one way
pub sim_one : EachSessionHasOneRun → (set : Setting) (l : SimValue) (xs ys rest others : List LineRecord) → SimGives set l xs → SimGives set l ys
    → told_job (xs ++ rest) ≡ told_job (ys ++ others) → xs ≡ ys
sim_one law set l xs ys rest others gives gave same =
    gives.lines_are ∙ ap (λ (ls : List LineRecord). ls ++ gives.rest) drawn ∙ ap (λ (ls : List LineRecord). gave.drawn ++ ls) follow ∙ sym gave.lines_are
  where
    cut : told_job (gives.drawn ++ (gives.rest ++ rest)) ≡ told_job (gave.drawn ++ (gave.rest ++ others))
    cut = ap told_job (sym (ap (λ (ls : List LineRecord). ls ++ rest) gives.lines_are ∙ append_assoc gives.drawn gives.rest rest)) ∙ same
        ∙ ap told_job (ap (λ (ls : List LineRecord). ls ++ others) gave.lines_are ∙ append_assoc gave.drawn gave.rest others)

    drawn : gives.drawn ≡ gave.drawn
    drawn = draw_one set l.sub l.count gives.drawn gave.drawn (gives.rest ++ rest) (gave.rest ++ others) gives.draws gave.draws cut

    by : (all : Bool) (numbers : List ℕ) → SimFollowsIf all set l numbers gives.rest → SimFollowsIf all set l numbers gave.rest → gives.rest ≡ gave.rest
    by false numbers none nothing = none ∙ sym nothing
    by true numbers f g =
        let runs = subst (λ (r : Row). SimRuns (sim_inputs set r l.sub numbers) l.schedule g.notes) (some_rows (slice_get set.rows l.sub) g.row f.row g.there f.there) g.runs in
        f.lines_are ∙ ap (noted l.sub) (law (sim_inputs set f.row l.sub numbers) l.schedule f.notes g.notes f.runs runs) ∙ sym g.lines_are

    follow : gives.rest ≡ gave.rest
    follow = by (length (numbers_of l.sub gives.drawn) == l.count) (numbers_of l.sub gives.drawn) gives.follows
        (subst (λ (ds : List LineRecord). SimFollowsIf (length (numbers_of l.sub ds) == l.count) set l (numbers_of l.sub ds) gave.rest) (sym drawn) gave.follows)
