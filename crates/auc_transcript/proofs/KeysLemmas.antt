-- The law of equal keys: the two ends of an authentication agree, whichever jobs they are of.
use Rattle.std.proofs.Common.{◌≡◌, ◌⊎◌, ℕ, zero, suc, ◌+◌, ◌≤◌, ◌<◌, List, [], ◌∷◌, ◌++◌, length, get_or, All, Contains, Option, refl, sym, ap, ◌∙◌, subst, arith, inl, inr, ⊎_elim, append_assoc}
use Rattle.std.specs.Prelude.{flat_map, map}
use Rattle.std.proofs.lemmas.List.Concat.{flat_map-append}
use Rattle.std.proofs.lemmas.List.Elements.{All-contains, Contains-append_left, Contains-append_right}
use Rattle.auc_memory.specs.declared.stop.Stop.{Stop}
use Rattle.auc_history.proofs.Facts.{times-append}
use Rattle.auc_history.specs.Split.{times}
use Rattle.auc_hmac.specs.declared.keys.KeySet.{KeySet}
use Rattle.auc_lines.specs.declared.part.Line.{Line}
use Rattle.auc_lines.specs.declared.part.Part.{Part}
use Rattle.auc_lines.specs.declared.part.Part.TheVariants as part
use Rattle.auc_released.specs.declared.numbers.Number.{Number}
use Rattle.auc_server.specs.declared.server.Resumed.{Resumed}
use Rattle.auc_subs.specs.Subscriber.{AreSubscribers, top_at}
use Rattle.auc_world.proofs.Facts.{AgainOf, AllLaws, HoldsOf, IsDrawn, IsKnown, IsOfJob, Laws, agreed, counted_once, job_runs, number_counts, of_sub, one_challenge_is_of_one_number, peer_success_is_drawn, peer_success_is_resumed, server_success_is_drawn, server_success_is_resumed}
use Rattle.auc_world.specs.Agreement.{AreOfOne, AreOfOneChallenge, AreReleasedOnce, IsRealm, PeerWon, ServerWon}
use Rattle.auc_world.specs.Given.{JobsGive}
use Rattle.auc_record.specs.Lines.{all_lines, numbers_of, released_by}
use Rattle.auc_world.specs.Net.{Net}
use Rattle.auc_world.specs.Resumption.{AreApart, AreResumedOnce, resumed_in, resumptions}
use Rattle.auc_subs.specs.Setting.{Setting}
use Rattle.auc_world.specs.Start.{Kept, fresh_kept, kept_by_jobs}
use Rattle.auc_world.specs.Transcript.{IsLawful, lines_of}
use Rattle.auc_world.specs.declared.net.FullInputs.{FullInputs}
use Rattle.auc_world.specs.declared.net.Inputs.{Inputs}
use Rattle.auc_world.specs.declared.net.Inputs.TheVariants as inputs
use Rattle.auc_world.specs.declared.net.Session.{Session}
use Rattle.auc_record.specs.declared.record.LineRecord.{LineRecord}
use Rattle.auc_record.specs.declared.record.PartRecord.{PartRecord}
use Rattle.auc_record.specs.declared.record.PartRecord.TheVariants as record_of
use Rattle.auc_transcript.specs.Counters.{EachTranscriptKeepsContexts, IdentitiesComeOnce, all_sessions}
use Rattle.auc_transcript.specs.Keys.{AreNets, AreNetsAfter, EachAuthenticationAgrees, EndsAgree}
use Rattle.auc_transcript.proofs.LineLemmas.{All-times}
use Rattle.auc_transcript.proofs.ListLemmas.{AllPairs-left, AllPairs-right, pairs_across}
use Rattle.auc_transcript.proofs.SizeLemmas.{AreKeptSized, first_sized, round_sized, start_sized}
use Rattle.auc_transcript.proofs.VectorLemmas.{numbers_within, released_once, transcript_served}

-- ---- the networks of a transcript's lines

-- lines are those of jobs that led to these networks, one job after the other
abbrev AreOfLines : Setting → List Net → List LineRecord → Type 0
AreOfLines set [] lines = lines ≡ []
AreOfLines set (net ∷ nets) lines =
    (front : List LineRecord) × (rest : List LineRecord) × (lines ≡ front ++ rest) × IsOfJob set net front × AreOfLines set nets rest

of_lines-append : (set : Setting) (xs ys : List Net) (a b : List LineRecord) → AreOfLines set xs a → AreOfLines set ys b → AreOfLines set (xs ++ ys) (a ++ b)
of_lines-append set [] ys a b none more = subst (λ (ls : List LineRecord). AreOfLines set ys (ls ++ b)) (sym none) more
of_lines-append set (x ∷ xs) ys a b (front, rest, cut, is, more) others =
    (front, rest ++ b, ap (λ (ls : List LineRecord). ls ++ b) cut ∙ append_assoc front rest b, is, of_lines-append set xs ys rest b more others)

jobs_are_of : AllLaws → (set : Setting) (early : List LineRecord) (kept : List Kept) (beside : List LineRecord) (jobs : List (List Line)) (records : List (List LineRecord)) (nets : List Net) → AreSubscribers set.rows
    → IsRealm set.realm → AreKeptSized kept → JobsGive set early kept beside jobs records nets → AreOfLines set nets (all_lines records)
jobs_are_of laws set early kept beside [] records nets are realm sized (none, is) =
    subst (λ (ns : List Net). AreOfLines set ns (all_lines records)) (sym is) (ap all_lines none)
jobs_are_of laws set early kept beside (job ∷ jobs) [] nets are realm sized gives = absurd gives
jobs_are_of laws set early kept beside (job ∷ jobs) (lines ∷ records) [] are realm sized gives = absurd gives
jobs_are_of laws set early kept beside (job ∷ jobs) (lines ∷ records) (net ∷ nets) are realm sized (first, more) = (
  lines,
  all_lines records,
  refl,
  job_runs laws set (record { early = early; beside = beside; own = [] }) kept job lines net are realm (start_sized set kept job sized) first,
  jobs_are_of laws set early kept (beside ++ lines) jobs records nets are realm sized more,
)

-- all networks, one round after the other
abbrev all_nets : List (List Net) → List Net
all_nets nets = flat_map (λ (round : List Net). round) nets

nets_are_of : AllLaws → (set : Setting) (early : List LineRecord) (kept : List Kept) (parts : List Part) (records : List PartRecord) (nets : List (List Net)) → AreSubscribers set.rows
    → IsRealm set.realm → AreKeptSized kept → AreNetsAfter set early kept parts records nets → AreOfLines set (all_nets nets) (lines_of records)
nets_are_of laws set early kept [] records nets are realm sized (none, is) =
    subst (λ (ns : List (List Net)). AreOfLines set (all_nets ns) (lines_of records)) (sym is) (ap lines_of none)
nets_are_of laws set early kept (part.Round jobs ∷ parts) [] nets are realm sized gives = absurd gives
nets_are_of laws set early kept (part.Round jobs ∷ parts) (record_of.Restart ∷ records) nets are realm sized gives = absurd gives
nets_are_of laws set early kept (part.Round jobs ∷ parts) (record_of.Round round ∷ records) [] are realm sized gives = absurd gives
nets_are_of laws set early kept (part.Round jobs ∷ parts) (record_of.Round round ∷ records) (first ∷ nets) are realm sized (gives, more) =
    of_lines-append set first (all_nets nets) (all_lines round.jobs) (lines_of records) (jobs_are_of laws set early kept [] jobs round.jobs first are realm sized gives)
    (nets_are_of laws set (early ++ all_lines round.jobs) (kept_by_jobs kept first) parts records nets are realm (round_sized set early kept jobs round.jobs first sized gives) more)
nets_are_of laws set early kept (part.Restart ∷ parts) [] nets are realm sized gives = absurd gives
nets_are_of laws set early kept (part.Restart ∷ parts) (record_of.Round round ∷ records) nets are realm sized gives = absurd gives
nets_are_of laws set early kept (part.Restart ∷ parts) (record_of.Restart ∷ records) nets are realm sized gives = nets_are_of laws set early kept parts records nets are realm sized gives

-- a network of a round is one of all
is_one_of_all : (nets : List (List Net)) (round : List Net) (net : Net) → Contains nets round → Contains round net → Contains (all_nets nets) net
is_one_of_all [] round net (k, inside, at) there = absurd (omega arith)
is_one_of_all (first ∷ nets) round net (zero, inside, at) there =
    Contains-append_left first (all_nets nets) net (subst (λ (r : List Net). Contains r net) (sym at) there)
is_one_of_all (first ∷ nets) round net (suc k, inside, at) there =
    Contains-append_right first (all_nets nets) net (is_one_of_all nets round net (k, omega arith, at) there)

-- ---- one job, and two

-- what a job's network released stands in longer lines too
longer : (set : Setting) (net : Net) (lines more : List LineRecord) → ((sub n : ℕ) → times n (numbers_of sub lines) ≤ times n (numbers_of sub more)) → IsOfJob set net lines → IsOfJob set net more
longer set net lines more all is = record {
  counts = λ sub n. let here = is.counts sub n in let further = all sub n in omega (arith, here, further);
  known = is.known;
  sized = is.sized;
  holds = is.holds;
}

counts_of : (sub n : ℕ) (lines front rest : List LineRecord) → lines ≡ front ++ rest → times n (numbers_of sub lines) ≡ times n (numbers_of sub front) + times n (numbers_of sub rest)
counts_of sub n lines front rest cut =
    ap (λ (ls : List LineRecord). times n (numbers_of sub ls)) cut ∙ ap (times n) (flat_map-append (released_by sub) front rest) ∙ times-append n (numbers_of sub front) (numbers_of sub rest)

-- one of the networks is that of a job of the lines
one_net : (set : Setting) (nets : List Net) (lines : List LineRecord) (x : Net) → AreOfLines set nets lines → Contains nets x → IsOfJob set x lines
one_net set [] lines x are (k, inside, at) = absurd (omega arith)
one_net set (net ∷ nets) lines x (front, rest, cut, is, more) (zero, inside, at) =
    longer set x front lines (λ sub n. let all = counts_of sub n lines front rest cut in omega (arith, all)) (subst (λ (w : Net). IsOfJob set w front) at is)
one_net set (net ∷ nets) lines x (front, rest, cut, is, more) (suc k, inside, at) =
    longer set x rest lines (λ sub n. let all = counts_of sub n lines front rest cut in omega (arith, all)) (one_net set nets rest x more (k, omega arith, at))

-- ---- resumptions

-- the sessions of some networks
abbrev sessions_of : List Net → List Session
sessions_of nets = flat_map (λ (net : Net). net.sessions) nets

resumptions-append : (xs ys : List Session) → resumptions (xs ++ ys) ≡ resumptions xs ++ resumptions ys
resumptions-append xs ys = flat_map-append (λ (s : Session). resumed_in s.server) xs ys

-- those of all rounds are those of all networks
sessions_are : (nets : List (List Net)) → all_sessions nets ≡ sessions_of (all_nets nets)
sessions_are [] = refl
sessions_are (first ∷ nets) =
    ap (λ (xs : List Session). sessions_of first ++ xs) (sessions_are nets) ∙ sym (flat_map-append (λ (net : Net). net.sessions) first (all_nets nets))

once_first : (net : Net) (nets : List Net) → AreResumedOnce (resumptions (sessions_of (net ∷ nets))) → AreResumedOnce (resumptions net.sessions ++ resumptions (sessions_of nets))
once_first net nets once = subst AreResumedOnce (resumptions-append net.sessions (sessions_of nets)) once

once_later : (net : Net) (nets : List Net) → AreResumedOnce (resumptions (sessions_of (net ∷ nets))) → AreResumedOnce (resumptions (sessions_of nets))
once_later net nets once = AllPairs-right AreApart (resumptions net.sessions) (resumptions (sessions_of nets)) (once_first net nets once)

-- no identity is resumed twice in one of the networks
one_once : (nets : List Net) (x : Net) → Contains nets x → AreResumedOnce (resumptions (sessions_of nets)) → AreResumedOnce (resumptions x.sessions)
one_once [] x (k, inside, at) once = absurd (omega arith)
one_once (net ∷ nets) x (zero, inside, at) once =
    subst (λ (w : Net). AreResumedOnce (resumptions w.sessions)) at (AllPairs-left AreApart (resumptions net.sessions) (resumptions (sessions_of nets)) (once_first net nets once))
one_once (net ∷ nets) x (suc k, inside, at) once = one_once nets x (k, omega arith, at) (once_later net nets once)

-- what one of some networks resumed stands among what all resumed
one_resumed : (nets : List Net) (x : Net) (r : Resumed) → Contains nets x → Contains (resumptions x.sessions) r → Contains (resumptions (sessions_of nets)) r
one_resumed [] x r (k, inside, at) there = absurd (omega arith)
one_resumed (net ∷ nets) x r (zero, inside, at) there =
    subst (λ (rs : List Resumed). Contains rs r) (sym (resumptions-append net.sessions (sessions_of nets)))
    (Contains-append_left (resumptions net.sessions) (resumptions (sessions_of nets)) r (subst (λ (w : Net). Contains (resumptions w.sessions) r) (sym at) there))
one_resumed (net ∷ nets) x r (suc k, inside, at) there =
    subst (λ (rs : List Resumed). Contains rs r) (sym (resumptions-append net.sessions (sessions_of nets)))
    (Contains-append_right (resumptions net.sessions) (resumptions (sessions_of nets)) r (one_resumed nets x r (k, omega arith, at) there))

-- what the first network resumed and what another one did are apart
first_apart : (net : Net) (nets : List Net) (y : Net) (r u : Resumed) → AreResumedOnce (resumptions (sessions_of (net ∷ nets))) → Contains (resumptions net.sessions) r → Contains nets y
    → Contains (resumptions y.sessions) u → AreApart r u
first_apart net nets y r u once here there later =
    let across = pairs_across AreApart (resumptions net.sessions) (resumptions (sessions_of nets)) (once_first net nets once) in
    let all = All-contains (λ (v : Resumed). All (λ (s : Resumed). AreApart s v) (resumptions net.sessions)) (resumptions (sessions_of nets)) u across (one_resumed nets y u there later) in
    All-contains (λ (s : Resumed). AreApart s u) (resumptions net.sessions) r all here

-- two jobs: what both released stands in the lines, and what they resumed is apart
record AreTwo (x y : Net) (lines : List LineRecord) (nets : List Net) : Type 0 where
  counts : (sub n : ℕ) → times n (of_sub sub x.released) + times n (of_sub sub y.released) ≤ times n (numbers_of sub lines)
  apart : AreResumedOnce (resumptions (sessions_of nets)) → (r u : Resumed) → Contains (resumptions x.sessions) r → Contains (resumptions y.sessions) u → AreApart r u

-- two of the networks are one, or those of two jobs
two_nets : (set : Setting) (nets : List Net) (lines : List LineRecord) (x y : Net) → AreOfLines set nets lines → Contains nets x → Contains nets y → (x ≡ y) ⊎ AreTwo x y lines nets
two_nets set [] lines x y are (k, inside, at) there = absurd (omega arith)
two_nets set (net ∷ nets) lines x y (front, rest, cut, is, more) (zero, inside, at) (zero, also_inside, also_at) = inl (sym at ∙ also_at)
two_nets set (net ∷ nets) lines x y (front, rest, cut, is, more) (zero, inside, at) (suc k, also_inside, also_at) =
    inr (record {
      counts = λ sub n.
          let all = counts_of sub n lines front rest cut in
          let here = (subst (λ (w : Net). IsOfJob set w front) at is).counts sub n in
          let there = (one_net set nets rest y more (k, omega arith, also_at)).counts sub n in
          omega (arith, all, here, there);
      apart = λ once r u first later. first_apart net nets y r u once (subst (λ (w : Net). Contains (resumptions w.sessions) r) (sym at) first) (k, omega arith, also_at) later;
    })
two_nets set (net ∷ nets) lines x y (front, rest, cut, is, more) (suc k, inside, at) (zero, also_inside, also_at) =
    inr (record {
      counts = λ sub n.
          let all = counts_of sub n lines front rest cut in
          let here = (subst (λ (w : Net). IsOfJob set w front) also_at is).counts sub n in
          let there = (one_net set nets rest x more (k, omega arith, at)).counts sub n in
          omega (arith, all, here, there);
      apart = λ once r u first later. λ sub same.
          first_apart net nets x u r once (subst (λ (w : Net). Contains (resumptions w.sessions) u) (sym also_at) later) (k, omega arith, at) first (sym sub) (sym same);
    })
two_nets set (net ∷ nets) lines x y (front, rest, cut, is, more) (suc k, inside, at) (suc l, also_inside, also_at) =
    ⊎_elim (λ (same : x ≡ y). inl same)
    (λ (two : AreTwo x y rest nets). inr (record {
      counts = λ sub n. let all = counts_of sub n lines front rest cut in let here = two.counts sub n in omega (arith, all, here);
      apart = λ once. two.apart (once_later net nets once);
    }))
    (two_nets set nets rest x y more (k, omega arith, at) (l, omega arith, also_at))

-- ---- numbers

-- a released number counts among its subscriber's
counted : (released : List Number) (sub n : ℕ) → Contains released (record { sub = sub; n = n }) → 1 ≤ times n (of_sub sub released)
counted released sub n (k, inside, at) =
    subst (λ (x : Number). 1 ≤ times x.n (of_sub x.sub released)) at (number_counts released k (record { sub = sub; n = n }) inside)

-- each number of the lines is one that a vector of its subscriber may have, and is released once
record AreOnce (set : Setting) (lines : List LineRecord) : Type 0 where
  once : (sub : ℕ) → sub < length set.rows → (n : ℕ) → times n (numbers_of sub lines) ≤ 1
  within : (sub : ℕ) → All (λ n. n ≤ top_at set.rows sub) (numbers_of sub lines)

-- so a job releases each once
job_releases_once : (set : Setting) (net : Net) (lines : List LineRecord) → AreOnce set lines → IsOfJob set net lines → AreReleasedOnce set.rows net.released
job_releases_once set net lines are is = record {
  once = counted_once net.released (IsKnown set) is.known (λ x known. let few = is.counts x.sub x.n in let one = are.once x.sub known x.n in omega (arith, few, one));
  numbers = λ k d inside.
      let x = get_or net.released k d in
      let some = number_counts net.released k d inside in
      let more = is.counts x.sub x.n in
      All-times (λ n. n ≤ top_at set.rows x.sub) x.n (numbers_of x.sub lines) (are.within x.sub) (omega (arith, some, more));
}

-- ---- the law

-- no two jobs have ends of one challenge
challenges_apart : Laws → (set : Setting) (lines : List LineRecord) (nets : List Net) (x y : Net) (i j : FullInputs) → AreSubscribers set.rows → AreOnce set lines → IsOfJob set x lines
    → IsOfJob set y lines → AreTwo x y lines nets → IsDrawn set x.released i → IsDrawn set y.released j → AreOfOneChallenge i j → ⊥
challenges_apart laws set lines nets x y i j are once is was two d e alike =
    let first = job_releases_once set x lines once is in
    let second = job_releases_once set y lines once was in
    let same = one_challenge_is_of_one_number laws set x.released y.released i j are first.numbers second.numbers d e alike in
    let known = All-contains (IsKnown set) x.released (record { sub = i.sub; n = d.n }) is.known d.is_in in
    let here = counted x.released i.sub d.n d.is_in in
    let there = subst (λ (sub : ℕ). 1 ≤ times d.n (of_sub sub y.released)) (sym alike.sub)
    (subst (λ (n : ℕ). 1 ≤ times n (of_sub j.sub y.released)) (sym same) (counted y.released j.sub e.n e.is_in)) in
    let all = two.counts i.sub d.n in
    let one = once.once i.sub known d.n in
    omega (arith, here, there, all, one)

-- nor of one authentication
apart : AllLaws → (set : Setting) (lines : List LineRecord) (nets : List Net) (x y : Net) (a b : Session) (k l : KeySet) (i j : Inputs) → AreSubscribers set.rows → AreOnce set lines
    → AreResumedOnce (resumptions (sessions_of nets)) → IsOfJob set x lines → IsOfJob set y lines → AreTwo x y lines nets → HoldsOf set x × AgainOf set x → HoldsOf set y × AgainOf set y
    → Contains x.sessions a → Contains y.sessions b → ServerWon a k i → PeerWon b l j → AreOfOne i j → ⊥
apart laws set lines nets x y a b k l (inputs.Full i) (inputs.Full j) are once resumed is was two (holds, again) (held, also) in_x in_y won also_won alike =
    challenges_apart laws.ends set lines nets x y i j are once is was two (server_success_is_drawn set x a k i holds in_x won) (peer_success_is_drawn set y b l j held in_y also_won) alike
apart laws set lines nets x y a b k l (inputs.Fast i) (inputs.Fast j) are once resumed is was two (holds, again) (held, also) in_x in_y won also_won alike =
    let r = server_success_is_resumed set x a k i again in_x won in
    let u = peer_success_is_resumed set y b l j also in_y also_won in
    two.apart resumed r.resumed u.resumed r.is_in u.is_in (r.sub ∙ alike.sub ∙ sym u.sub) (r.identity ∙ alike.identity ∙ sym u.identity)
apart laws set lines nets x y a b k l (inputs.Full i) (inputs.Fast j) are once resumed is was two holds held in_x in_y won also_won alike = absurd alike
apart laws set lines nets x y a b k l (inputs.Fast i) (inputs.Full j) are once resumed is was two holds held in_x in_y won also_won alike = absurd alike

-- the two ends of an authentication have equal keys, if no identity is resumed twice
pub ends_agree : AllLaws → (set : Setting) (reserved : List ℕ) (stop : Option Stop) (parts : List Part) (records : List PartRecord) (nets : List (List Net)) → AreSubscribers set.rows
    → IsRealm set.realm → IsLawful set reserved stop parts records → AreNets set parts records nets → IdentitiesComeOnce nets → EndsAgree nets
ends_agree laws set reserved stop parts records nets are realm lawful lead identities a b k l i j one other won also_won alike =
    let lines = lines_of records in
    let jobs = all_nets nets in
    let all = nets_are_of laws set [] (map (λ row. fresh_kept) set.rows) parts records nets are realm (first_sized set.rows) lead in
    let x_in = is_one_of_all nets one.round one.net one.is_round one.is_job in
    let y_in = is_one_of_all nets other.round other.net other.is_round other.is_job in
    let once : AreOnce set lines = record {
      once = λ sub inside. released_once set reserved stop parts records sub lawful inside;
      within = λ sub. numbers_within set sub [] lines (transcript_served set reserved stop parts records lawful);
    } in
    let resumed : AreResumedOnce (resumptions (sessions_of jobs)) = subst (λ (xs : List Session). AreResumedOnce (resumptions xs)) (sessions_are nets) identities in
    let is = one_net set jobs lines one.net all x_in in
    let was = one_net set jobs lines other.net all y_in in
    let holds = is.holds (job_releases_once set one.net lines once is) one.unbroken in
    let also_holds = was.holds (job_releases_once set other.net lines once was) other.unbroken in
    ⊎_elim
    (λ (same : one.net ≡ other.net). agreed set one.net holds.0 holds.1 (one_once jobs one.net x_in resumed) a b k l i j one.is_in
    (subst (λ (w : Net). Contains w.sessions b) (sym same) other.is_in) won also_won alike)
    (λ (two : AreTwo one.net other.net lines jobs). absurd
    (apart laws set lines jobs one.net other.net a b k l i j are once resumed is was two holds also_holds one.is_in other.is_in won also_won alike))
    (two_nets set jobs lines one.net other.net all x_in y_in)

-- the law
pub each_authentication_agrees : AllLaws → EachTranscriptKeepsContexts → EachAuthenticationAgrees
each_authentication_agrees laws contexts set reserved stop parts records nets are realm names apart lawful lead =
    ends_agree laws set reserved stop parts records nets are realm lawful lead (contexts set reserved stop parts records nets are names apart lawful lead).identities
