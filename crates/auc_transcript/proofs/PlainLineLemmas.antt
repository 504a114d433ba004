-- For plain sessions: a plain line between the other lines of its job. The lines before it open its session and leave it new,
-- and those after it leave the session as it is.
use Rattle.std.proofs.Common.{◌≡◌, ◌≢◌, ◌⊎◌, ℕ, true, List, [], ◌∷◌, ◌++◌, flat_map, All, Contains, Option, Some, None, slice_get, refl, sym, ap, ◌∙◌, subst, inl, inr, append_assoc}
use Rattle.std.specs.Option.{option_or}
use Rattle.std.proofs.lemmas.List.Elements.{All-head, All-nil, All-tail, Contains-append_left}
use Rattle.auc_lines.specs.Part.{held_subs}
use Rattle.auc_lines.specs.declared.part.Line.{Line}
use Rattle.auc_lines.specs.declared.part.Line.TheVariants as line
use Rattle.auc_lines.specs.declared.part.SessionLine.{SessionLine}
use Rattle.auc_peer.specs.Subscription.{Subscription}
use Rattle.auc_subs.specs.Setting.{Setting}
use Rattle.auc_subs.specs.declared.row.Row.{Row}
use Rattle.auc_world.specs.Came.{session_of}
use Rattle.auc_world.specs.Given.{Before, JobGives, LineGives, PlainGives, behind}
use Rattle.auc_world.specs.Net.{Net, device_place}
use Rattle.auc_world.specs.Start.{Kept, start_of, subscription_at}
use Rattle.auc_world.specs.declared.net.Session.{Session}
use Rattle.auc_record.specs.declared.record.LineRecord.{LineRecord}
use Rattle.auc_transcript.specs.Completeness.{opening_by, opening_in, session_named}
use Rattle.auc_transcript.proofs.KeptNameLemmas.{AreKept, KeepsNames, line_has, start_has}
use Rattle.auc_transcript.proofs.KindLemmas.{behind_none, behind_on, opens_only}
use Rattle.auc_transcript.proofs.OpeningLemmas.{first_suits, opening_among}
use Rattle.auc_transcript.proofs.ReadyLemmas.{IsOfSubs, device_is_there, homes_are_of, session_is_held}
use Rattle.auc_transcript.proofs.SizeLemmas.{AreKeptSized, IsReached, line_reaches, reached_itself, reached_sized, start_sized}
use Rattle.auc_transcript.proofs.StayingLemmas.{AreNew, IsNew, Leaves, SuitsAt, has_number, leaves_itself, leaves_on, line_leaves, opens}

-- the session is open
abbrev pub IsOpen : Net → ℕ → Type 0
IsOpen net session = (s : Session) × (session_of net session ≡ Some s)

-- a network of a job's subscribers in which each session of a line's number is new
pub record IsFresh (set : Setting) (kept : List Kept) (job : List Line) (opening : SessionLine) (net : Net) : Type 0 where
  pub of : IsOfSubs set (held_subs job) net
  pub new : AreNew set.rows net.devices opening net.sessions
  pub reached : IsReached set (start_of set kept job) net

-- ---- the lines before

-- the session is open, or is opened by one of some lines
abbrev IsBegun : SessionLine → Net → List Line → Type 0
IsBegun opening net lines = IsOpen net opening.session ⊎ (opening_in opening.session lines ≡ Some opening)

no_session : (o : Option Session) (s : Session) → o ≡ Some s → o ≡ None → ⊥
no_session o s e f = cc

begun_suits : (opening : SessionLine) (net : Net) (l : Line) (lines : List Line) → IsBegun opening net (l ∷ lines) → session_of net opening.session ≡ None → SuitsAt opening l
begun_suits opening net l lines (inl (s, is)) none = absurd (no_session (session_of net opening.session) s is none)
begun_suits opening net l lines (inr first) none = first_suits opening l lines first

fresh_on : (set : Setting) (kept : List Kept) (job : List Line) (opening : SessionLine) (net next : Net) (Suits : Type 0) → AreKeptSized kept → (session_of net opening.session ≡ None → Suits)
    → IsFresh set kept job opening net → Leaves set.rows opening net next Suits → KeepsNames next → IsReached set (start_of set kept job) next → IsFresh set kept job opening next
fresh_on set kept job opening net next Suits sized suits fresh leaves names reached = record {
  of = record { devices = leaves.devices ∙ fresh.of.devices; homes = leaves.homes ∙ fresh.of.homes; names = names; sized = reached_sized set kept job next sized reached };
  new = leaves.new suits fresh.new;
  reached = reached;
}

-- the session is open after the line that opens it
begun_after : (set : Setting) (before : Before) (net next : Net) (opening : SessionLine) (place : ℕ) (l : Line) (front : List Line) (lines : List LineRecord) (Suits : Type 0)
    → device_place set.rows net.devices opening.sub ≡ Some place → Leaves set.rows opening net next Suits → LineGives set before net l lines next → IsBegun opening net (l ∷ front)
    → IsBegun opening next front
begun_after set before net next opening place l front lines Suits placed leaves gives (inl (s, is)) = inl (s, leaves.stays s is)
begun_after set before net next opening place l front lines Suits placed leaves gives (inr first) = by (opening_by opening.session l) refl first
  where
    by : (o : Option SessionLine) → opening_by opening.session l ≡ o → option_or o (opening_in opening.session front) ≡ Some opening → IsBegun opening next front
    by (Some other) is same =
        let one : other ≡ opening = cc in
        let (line_is, named) = opens_only opening.session opening l (is ∙ ap Some one) in
        inl (opens set before net next opening place lines placed (subst (λ (x : Line). LineGives set before net x lines next) line_is gives))
    by None is rest = inr rest

-- some lines that open the session, with no event of it among them
arrives : (set : Setting) (kept : List Kept) (job : List Line) (before : Before) (net mid : Net) (opening : SessionLine) (place : ℕ) (front : List Line) (records : List LineRecord) → AreKeptSized kept
    → device_place set.rows (flat_map (subscription_at set) (held_subs job)) opening.sub ≡ Some place → IsFresh set kept job opening net → IsBegun opening net front
    → All (λ l. session_named l ≢ Some opening.session) front → JobGives set before net front records mid → IsFresh set kept job opening mid × IsOpen mid opening.session
arrives set kept job before net mid opening place [] records sized placed fresh (inl found) apart (none, same) =
    (subst (IsFresh set kept job opening) (sym same) fresh, subst (λ (n : Net). IsOpen n opening.session) (sym same) found)
arrives set kept job before net mid opening place [] records sized placed fresh (inr first) apart gives = absurd (let no : ⊥ = cc in no)
arrives set kept job before net mid opening place (l ∷ front) records sized placed fresh begun apart (lines, rest, next, cut, gives, more) =
    let P : Line → Type 0 = λ (x : Line). session_named x ≢ Some opening.session in
    let leaves = line_leaves set opening before net next l lines (All-head P l front apart) gives in
    let here = ap (λ (ds : List Subscription). device_place set.rows ds opening.sub) fresh.of.devices ∙ placed in
    arrives set kept job (behind before lines) next mid opening place front rest sized placed
    (fresh_on set kept job opening net next (SuitsAt opening l) sized (begun_suits opening net l front begun) fresh leaves (line_has set before net next l lines gives fresh.of.names)
    (line_reaches set (start_of set kept job) before net next l lines gives fresh.reached))
    (begun_after set before net next opening place l front lines (SuitsAt opening l) here leaves gives begun) (All-tail P l front apart) more

-- ---- the lines after

pub job_leaves : (set : Setting) (opening : SessionLine) (before : Before) (net last : Net) (job : List Line) (records : List LineRecord) → All (λ l. session_named l ≢ Some opening.session) job
    → JobGives set before net job records last → Leaves set.rows opening net last ⊥
job_leaves set opening before net last [] records apart (none, same) = leaves_itself set.rows opening net last ⊥ same
job_leaves set opening before net last (l ∷ job) records apart (lines, rest, next, cut, gives, more) =
    let P : Line → Type 0 = λ (x : Line). session_named x ≢ Some opening.session in
    leaves_on set.rows opening net next last (SuitsAt opening l) ⊥ ⊥ (λ no. absurd no) (λ no. no) (line_leaves set opening before net next l lines (All-head P l job apart) gives)
    (job_leaves set opening (behind before lines) next last job rest (All-tail P l job apart) more)

-- ---- the plain line

-- the front of some lines, and the rest of them
pub record IsSplit (set : Setting) (before : Before) (net : Net) (front back : List Line) (records : List LineRecord) (last : Net) : Type 0 where
  pub early : List LineRecord
  pub late : List LineRecord
  pub cut : records ≡ early ++ late
  pub mid : Net
  pub first : JobGives set before net front early mid
  pub after : Before
  pub after_is : after ≡ behind before early
  pub more : JobGives set after mid back late last

pub splits : (set : Setting) (before : Before) (net : Net) (front back : List Line) (records : List LineRecord) (last : Net) → JobGives set before net (front ++ back) records last
    → IsSplit set before net front back records last
splits set before net [] back records last gives = record {
  early = [];
  late = records;
  cut = refl;
  mid = net;
  first = (refl, refl);
  after = before;
  after_is = sym (behind_none before);
  more = gives;
}
splits set before net (l ∷ front) back records last (lines, rest, next, cut, gives, more) =
    let s = splits set (behind before lines) next front back rest last more in record {
      early = lines ++ s.early;
      late = s.late;
      cut = cut ∙ ap (λ (ls : List LineRecord). lines ++ ls) s.cut ∙ sym (append_assoc lines s.early s.late);
      mid = s.mid;
      first = (lines, s.early, next, refl, gives, s.first);
      after = s.after;
      after_is = s.after_is ∙ behind_on before lines s.early;
      more = s.more;
    }

-- the plain line of a session that a line opens, between the other lines of a job
pub record IsPlainLine (set : Setting) (before : Before) (kept : List Kept) (front : List Line) (opening : SessionLine) (back : List Line) (records : List LineRecord) (last : Net) : Type 0 where
  pub early : List LineRecord
  pub own : List LineRecord
  pub rest : List LineRecord
  pub cut : records ≡ early ++ (own ++ rest)
  pub net : Net
  pub next : Net
  pub leads : JobGives set before (start_of set kept (front ++ line.Plain opening.session ∷ back)) front early net
  pub fresh : IsFresh set kept (front ++ line.Plain opening.session ∷ back) opening net
  pub found : IsOpen net opening.session
  pub at' : Before
  pub gives : PlainGives set at' net opening.session own next
  pub after : Before
  pub more : JobGives set after next back rest last

-- of its network, and of what follows
joined_line : (set : Setting) (before : Before) (kept : List Kept) (front : List Line) (opening : SessionLine) (back : List Line) (records early late : List LineRecord) (net last : Net) (after : Before)
    → records ≡ early ++ late → JobGives set before (start_of set kept (front ++ line.Plain opening.session ∷ back)) front early net
    → IsFresh set kept (front ++ line.Plain opening.session ∷ back) opening net × IsOpen net opening.session → JobGives set after net (line.Plain opening.session ∷ back) late last
    → IsPlainLine set before kept front opening back records last
joined_line set before kept front opening back records early late net last after cut leads (fresh, found) (own, rest, next, parts, gives, more) = record {
  early = early;
  own = own;
  rest = rest;
  cut = cut ∙ ap (λ (ls : List LineRecord). early ++ ls) parts;
  net = net;
  next = next;
  leads = leads;
  fresh = fresh;
  found = found;
  at' = after;
  gives = gives;
  after = behind after own;
  more = more;
}

-- the plain line of a job
pub plain_line : (set : Setting) (before : Before) (kept : List Kept) (front : List Line) (opening : SessionLine) (back : List Line) (records : List LineRecord) (last : Net) (row : Row) → AreKept kept
    → AreKeptSized kept → slice_get set.rows opening.sub ≡ Some row → opening_in opening.session front ≡ Some opening → All (λ l. session_named l ≢ Some opening.session) front
    → JobGives set before (start_of set kept (front ++ line.Plain opening.session ∷ back)) (front ++ line.Plain opening.session ∷ back) records last
    → IsPlainLine set before kept front opening back records last
plain_line set before kept front opening back records last row named sized known first apart gives =
    let job = front ++ line.Plain opening.session ∷ back in
    let subs = held_subs job in
    let net = start_of set kept job in
    let there = (opening_among opening.session front opening first).1 in
    let opened : Contains job (line.Session opening) = Contains-append_left front (line.Plain opening.session ∷ back) (line.Session opening) there in
    let (place, placed) = device_is_there set subs opening.sub row known (session_is_held opening job opened) in
    let fresh : IsFresh set kept job opening net = record {
      of = record { devices = refl; homes = homes_are_of kept subs; names = start_has set kept job named; sized = start_sized set kept job sized };
      new = All-nil (λ s. has_number opening.session s ≡ true → IsNew set.rows net.devices opening s);
      reached = reached_itself set net;
    } in
    let s = splits set before net front (line.Plain opening.session ∷ back) records last gives in
    joined_line set before kept front opening back records s.early s.late s.mid last s.after s.cut s.first
    (arrives set kept job before net s.mid opening place front s.early sized placed fresh (inr first) apart s.first) s.more
