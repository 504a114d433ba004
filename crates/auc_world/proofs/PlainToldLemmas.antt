-- For plain sessions: what the lines of a session tell at each stage of it, and what is left of that after a line.
use Rattle.std.proofs.Common.{◌≡◌, ℕ, ◌+◌, ◌-◌, ◌≤◌, true, false, List, [], ◌∷◌, ◌++◌, length, Option, Some, None, Ok, refl, sym, ap, ◌∙◌, arith, inl, inr, length-append}
use Rattle.std.specs.Prelude.{All, flat_map}
use Rattle.std.specs.Option.{option_to_list}
use Rattle.std.proofs.lemmas.List.Elements.{All-head, All-tail}
use Rattle.auc_server.specs.Rows.{is_held}
use Rattle.auc_server.specs.declared.setting.HomeRow.{HomeRow}
use Rattle.auc_vector.specs.declared.notes.Notes.{Notes}
use Rattle.auc_world.specs.Agreement.{AreSized}
use Rattle.auc_record.specs.Event.{Came, asked_in, number_in, number_released, resync_in, usim_in}
use Rattle.auc_world.specs.Plain.{IsAskedFor, TellAnother, TellChallenge, TellNoCause, counter_accepted, counter_resumed, counter_taken, is_refused, is_unresolved, results, sqn_reported}
use Rattle.auc_record.specs.declared.event.Event.{Event}
use Rattle.auc_record.specs.declared.event.Note.{Note}
use Rattle.auc_record.specs.declared.record.LineRecord.{LineRecord}
use Rattle.auc_record.specs.declared.record.LineRecord.TheVariants as record_of

-- the stages of a session: before a challenge or a re-authentication, after a re-authentication was sent, after a challenge was
-- sent; or nothing is known of the lines
pub data Stage : Type 0 where
  Early : Stage
  Again : Stage
  Late : Stage
  Free : Stage

-- lines tell no cause of a failure but for a re-authentication
pub record TellNone (sub syncs : ℕ) (lines : List LineRecord) : Type 0 where
  pub own : All (λ came. IsAskedFor sub (asked_in came)) (results lines)
  pub given : All (λ came. is_refused (number_in came) ≡ false) (results lines)
  pub resolved : All (λ came. is_unresolved (resync_in came) ≡ false) (results lines)
  pub once : length (flat_map (λ came. sqn_reported (usim_in came)) (results lines)) ≤ syncs

-- what lines tell at a stage
abbrev pub TellSo : Stage → ℕ → ℕ → List LineRecord → Type 0
TellSo Early sub syncs lines = TellNone sub syncs lines × TellChallenge lines
TellSo Again sub syncs lines = TellNone sub syncs lines × TellAnother lines
TellSo Late sub syncs lines = TellNone sub syncs lines
TellSo Free sub syncs lines = Unit {0}

-- before a challenge or a re-authentication the homes have the subscriber, and K_encr and counter of their contexts have their sizes
abbrev pub IsSizedAt : Stage → List HomeRow → ℕ → Type 0
IsSizedAt Early homes sub = AreSized homes × (is_held homes sub ≡ true)
IsSizedAt Again homes sub = Unit {0}
IsSizedAt Late homes sub = Unit {0}
IsSizedAt Free homes sub = Unit {0}

pub at_first : (sub syncs : ℕ) (lines : List LineRecord) → TellNoCause sub syncs lines → TellSo Early sub syncs lines
at_first sub syncs lines t = (record { own = t.own; given = t.given; resolved = t.resolved; once = t.once }, t.challenge)

more : (sub few syncs : ℕ) (lines : List LineRecord) → few ≤ syncs → TellNone sub few lines → TellNone sub syncs lines
more sub few syncs lines less t =
    let once = t.once in record { own = t.own; given = t.given; resolved = t.resolved; once = omega (arith, once, less) }

-- a smaller number of synchronisation failures is one of them
pub loosened : (stage : Stage) (sub few syncs : ℕ) (lines : List LineRecord) → few ≤ syncs → TellSo stage sub few lines → TellSo stage sub syncs lines
loosened Early sub few syncs lines less t = (more sub few syncs lines less t.0, t.1)
loosened Again sub few syncs lines less t = (more sub few syncs lines less t.0, t.1)
loosened Late sub few syncs lines less t = more sub few syncs lines less t
loosened Free sub few syncs lines less t = tt

-- ---- one line

-- the line of an event that came to something
abbrev pub line_of : Event → Note → LineRecord
line_of e note = record_of.Event (record { event = e; result = Ok note })

-- a line tells no cause
pub record Spared (sub syncs : ℕ) (asked : Option ℕ) (notes : Notes) (lines : List LineRecord) : Type 0 where
  pub own : IsAskedFor sub asked
  pub given : is_refused notes.number ≡ false
  pub resolved : is_unresolved notes.resync ≡ false
  pub once : length (sqn_reported notes.usim) ≤ syncs
  pub later : TellNone sub (syncs - length (sqn_reported notes.usim)) lines

spared : (sub syncs : ℕ) (e : Event) (note : Note) (lines : List LineRecord) → TellNone sub syncs (line_of e note ∷ lines) → Spared sub syncs note.asked note.notes lines
spared sub syncs e note lines t =
    let own : Came = Ok note in
    let rest = results lines in
    let reported : Came → List (List ℕ) = λ c. sqn_reported (usim_in c) in
    let long : length (reported own ++ flat_map reported rest) ≡ length (reported own) + length (flat_map reported rest) = length-append (reported own) (flat_map reported rest) in
    let once = t.once in
    record {
      own = All-head (λ (c : Came). IsAskedFor sub (asked_in c)) own rest t.own;
      given = All-head (λ (c : Came). is_refused (number_in c) ≡ false) own rest t.given;
      resolved = All-head (λ (c : Came). is_unresolved (resync_in c) ≡ false) own rest t.resolved;
      once = omega (arith, long, once);
      later = record {
        own = All-tail (λ (c : Came). IsAskedFor sub (asked_in c)) own rest t.own;
        given = All-tail (λ (c : Came). is_refused (number_in c) ≡ false) own rest t.given;
        resolved = All-tail (λ (c : Came). is_unresolved (resync_in c) ≡ false) own rest t.resolved;
        once = omega (arith, long, once);
      };
    }

-- what a line and those after it tell at a stage
abbrev pub IsSpared : Stage → ℕ → ℕ → Option ℕ → Notes → List LineRecord → Type 0
IsSpared Early sub syncs asked notes lines = Spared sub syncs asked notes lines
IsSpared Again sub syncs asked notes lines = Spared sub syncs asked notes lines
IsSpared Late sub syncs asked notes lines = Spared sub syncs asked notes lines
IsSpared Free sub syncs asked notes lines = Unit {0}

pub is_spared : (stage : Stage) (sub syncs : ℕ) (e : Event) (note : Note) (lines : List LineRecord) → TellSo stage sub syncs (line_of e note ∷ lines) → IsSpared stage sub syncs note.asked note.notes lines
is_spared Early sub syncs e note lines t = spared sub syncs e note lines t.0
is_spared Again sub syncs e note lines t = spared sub syncs e note lines t.0
is_spared Late sub syncs e note lines t = spared sub syncs e note lines t
is_spared Free sub syncs e note lines t = tt

-- ---- a line that tells neither of a number nor of a counter

pub record IsQuiet (notes : Notes) : Type 0 where
  pub resumed : notes.resumed ≡ None
  pub drawn : number_released notes.number ≡ []
  pub taken : counter_taken notes.counter ≡ []

another : (e : Event) (note : Note) (lines : List LineRecord) → number_released note.notes.number ≡ [] → counter_taken note.notes.counter ≡ [] → TellAnother (line_of e note ∷ lines) → TellAnother lines
another e note lines drawn taken t =
    let numbers = flat_map (λ (c : Came). number_released (number_in c)) (results lines) in
    let counters = flat_map counter_accepted (results lines) in
    record {
      drawn = λ none. t.drawn (ap (λ (l : List ℕ). l ++ numbers) drawn ∙ none);
      none = sym (ap (λ (l : List ℕ). l ++ counters) taken) ∙ t.none;
    }

no_counter : (c : ℕ) (rest : List ℕ) → c ∷ rest ≡ [] → ⊥
no_counter c rest e = cc

challenge : (e : Event) (note : Note) (lines : List LineRecord) → IsQuiet note.notes → TellChallenge (line_of e note ∷ lines) → TellChallenge lines
challenge e note lines quiet (inl none) =
    inl (sym (ap (λ (o : Option ℕ). option_to_list o ++ flat_map counter_resumed (results lines)) quiet.resumed) ∙ none)
challenge e note lines quiet (inr t) = inr (another e note lines quiet.drawn quiet.taken t)

-- the stage stays
pub stays : (stage : Stage) (sub syncs : ℕ) (e : Event) (note : Note) (lines : List LineRecord) → IsQuiet note.notes → TellSo stage sub syncs (line_of e note ∷ lines)
    → TellSo stage sub (syncs - length (sqn_reported note.notes.usim)) lines
stays Early sub syncs e note lines quiet t = ((spared sub syncs e note lines t.0).later, challenge e note lines quiet t.1)
stays Again sub syncs e note lines quiet t = ((spared sub syncs e note lines t.0).later, another e note lines quiet.drawn quiet.taken t.1)
stays Late sub syncs e note lines quiet t = (spared sub syncs e note lines t).later
stays Free sub syncs e note lines quiet t = tt

-- a context was taken up again: a number is drawn later, and no counter is accepted
pub goes_again : (sub syncs counter : ℕ) (e : Event) (note : Note) (lines : List LineRecord) → note.notes.resumed ≡ Some counter → number_released note.notes.number ≡ [] → counter_taken note.notes.counter ≡ []
    → TellSo Early sub syncs (line_of e note ∷ lines) → TellSo Again sub (syncs - length (sqn_reported note.notes.usim)) lines
goes_again sub syncs counter e note lines resumed drawn taken (t, inl none) =
    absurd (no_counter counter (flat_map counter_resumed (results lines)) (sym (ap (λ (o : Option ℕ). option_to_list o ++ flat_map counter_resumed (results lines)) resumed) ∙ none))
goes_again sub syncs counter e note lines resumed drawn taken (t, inr more) = ((spared sub syncs e note lines t).later, another e note lines drawn taken more)

-- after that no counter was accepted in a line
pub accepts_none : (sub syncs counter : ℕ) (e : Event) (note : Note) (lines : List LineRecord) → counter_taken note.notes.counter ≡ counter ∷ [] → TellSo Again sub syncs (line_of e note ∷ lines) → ⊥
accepts_none sub syncs counter e note lines taken (t, a) =
    no_counter counter (flat_map counter_accepted (results lines)) (sym (ap (λ (l : List ℕ). l ++ flat_map counter_accepted (results lines)) taken) ∙ a.none)

-- and there is a line that draws a number
pub draws_one : (sub syncs : ℕ) → TellSo Again sub syncs [] → ⊥
draws_one sub syncs (t, a) = a.drawn refl
