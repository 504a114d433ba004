-- The lines of parts determine what is told of the parts: a job's records end at a line of another kind, and so do the jobs and the closings.
use Rattle.std.proofs.Common.{ℕ, ◌+◌, ◌≤◌, ◌≡◌, ◌∙◌, refl, sym, ap, subst, List, [], ◌∷◌, ◌++◌, map, flat_map, append_assoc, arith}
use Rattle.auc_record.specs.declared.record.LineRecord.{LineRecord}
use Rattle.auc_record.specs.declared.record.Closing.{Closing}
use Rattle.auc_record.specs.declared.record.PartRecord.{PartRecord}
use Rattle.auc_record.specs.declared.record.PartRecord.TheVariants.{Round, Restart}
use Rattle.auc_record.specs.declared.record.Premise.{Premise}
use Rattle.auc_record.specs.declared.record.Premise.TheVariants as premise
use Rattle.auc_record.specs.declared.record.RoundRecord.{RoundRecord}
use Rattle.auc_record.specs.declared.record.SessionVerdict.{SessionVerdict}
use Rattle.auc_record.specs.Told.{told, told_job, told_line, told_part}
use Rattle.auc_print.specs.Text.{Line, RoundLine, JobLine, RecordLine, ClosedLine, SessionLine, HeldLine, BrokenLine, RestartLine, end_lines, jobs_lines, part_lines, premise_lines}
use Rattle.auc_print.proofs.LineLemmas.{told_of}

-- the lines of parts as they are told: those of records without the records beside them
abbrev bare : LineRecord → Line
bare answer = RecordLine [] answer

abbrev bare_jobs : ℕ → List (List LineRecord) → List Line
bare_jobs number [] = []
bare_jobs number (job ∷ jobs) = JobLine number ∷ (map bare job ++ bare_jobs (number + 1) jobs)

abbrev bare_round : RoundRecord → List Line
bare_round round = RoundLine round.number ∷ (bare_jobs 1 round.jobs ++ end_lines round)

abbrev bare_part : PartRecord → List Line
bare_part (Round round) = bare_round round
bare_part Restart = RestartLine ∷ []

-- the rank of a kind of line, the innermost first: a record of a job, a job, a closing, a session, the premise, a round or a
-- restart
abbrev rank : Line → ℕ
rank (RecordLine job answer) = 0
rank (JobLine number) = 1
rank (ClosedLine closing) = 2
rank (SessionLine verdict) = 3
rank HeldLine = 4
rank (BrokenLine job breach) = 4
rank (RoundLine number) = 5
rank RestartLine = 5

-- there are no lines, or the first one has at least this rank
abbrev Begins : ℕ → List Line → Type 0
Begins least [] = Unit {0}
Begins least (line ∷ lines) = least ≤ rank line

-- lines of one kind end where those of a higher rank begin
tagged_cut : {A : Type 0} (tag : A → Line) (level : ℕ) → ((x : A) → rank (tag x) ≡ level) → ((x y : A) → tag x ≡ tag y → x ≡ y)
    → (xs ys : List A) (r s : List Line) → Begins (level + 1) r → Begins (level + 1) s → map tag xs ++ r ≡ map tag ys ++ s → (xs ≡ ys) × (r ≡ s)
tagged_cut tag level level_is same [] [] r s p q e = (refl, e)
tagged_cut tag level level_is same [] (y ∷ ys) r s p q e =
    let begins : level + 1 ≤ rank (tag y) = subst (Begins (level + 1)) e p in absurd (omega (arith, level_is y))
tagged_cut tag level level_is same (x ∷ xs) [] r s p q e =
    let begins : level + 1 ≤ rank (tag x) = subst (Begins (level + 1)) (sym e) q in absurd (omega (arith, level_is x))
tagged_cut tag level level_is same (x ∷ xs) (y ∷ ys) r s p q e =
    let tags : tag x ≡ tag y = cc in
    let tails : map tag xs ++ r ≡ map tag ys ++ s = cc in
    let rest : (xs ≡ ys) × (r ≡ s) = tagged_cut tag level level_is same xs ys r s p q tails in
    let head : x ≡ y = same x y tags in
    let tail : xs ≡ ys = rest.0 in
    ((cc), rest.1)

-- the records of a job end where the next job, the closings or the next part begin
records_cut : (xs ys : List LineRecord) (r s : List Line) → Begins 1 r → Begins 1 s → map bare xs ++ r ≡ map bare ys ++ s → (xs ≡ ys) × (r ≡ s)
records_cut = tagged_cut bare 0 (λ x. refl) (λ x y e. cc)

-- the closings end where the sessions, the premise or the next part begin
closings_cut : (xs ys : List Closing) (r s : List Line) → Begins 3 r → Begins 3 s → map ClosedLine xs ++ r ≡ map ClosedLine ys ++ s → (xs ≡ ys) × (r ≡ s)
closings_cut = tagged_cut ClosedLine 2 (λ x. refl) (λ x y e. cc)

-- the sessions end where the premise or the next part begins
sessions_cut : (xs ys : List SessionVerdict) (r s : List Line) → Begins 4 r → Begins 4 s → map SessionLine xs ++ r ≡ map SessionLine ys ++ s → (xs ≡ ys) × (r ≡ s)
sessions_cut = tagged_cut SessionLine 3 (λ x. refl) (λ x y e. cc)

-- the premise ends where the next part begins
no_begin : (line : Line) (r s : List Line) → rank line ≡ 4 → Begins 5 r → r ≡ line ∷ s → ⊥
no_begin line r s is begins e = let above : 5 ≤ rank line = subst (Begins 5) e begins in omega (arith, above, is)

premise_cut : (p q : Premise) (r s : List Line) → Begins 5 r → Begins 5 s → premise_lines p ++ r ≡ premise_lines q ++ s → (p ≡ q) × (r ≡ s)
premise_cut premise.NoSession premise.NoSession r s a b e = (refl, e)
premise_cut premise.NoSession premise.Held r s a b e = absurd (no_begin HeldLine r s refl a e)
premise_cut premise.NoSession (premise.Broken job breach) r s a b e = absurd (no_begin (BrokenLine job breach) r s refl a e)
premise_cut premise.Held premise.NoSession r s a b e = absurd (no_begin HeldLine s r refl b (sym e))
premise_cut (premise.Broken job breach) premise.NoSession r s a b e = absurd (no_begin (BrokenLine job breach) s r refl b (sym e))
premise_cut premise.Held premise.Held r s a b e = let rest : r ≡ s = cc in (refl, rest)
premise_cut premise.Held (premise.Broken job breach) r s a b e = let heads : HeldLine ≡ BrokenLine job breach = cc in absurd (cc)
premise_cut (premise.Broken job breach) premise.Held r s a b e = let heads : BrokenLine job breach ≡ HeldLine = cc in absurd (cc)
premise_cut (premise.Broken i a) (premise.Broken j b) r s x y e =
    let heads : BrokenLine i a ≡ BrokenLine j b = cc in
    let rest : r ≡ s = cc in
    ((cc), rest)

-- what comes after a job doesn't begin with a record
jobs_begin : (number : ℕ) (jobs : List (List LineRecord)) (r : List Line) → Begins 2 r → Begins 1 (bare_jobs number jobs ++ r)
jobs_begin number [] [] b = tt
jobs_begin number [] (line ∷ r) b = omega arith
jobs_begin number (job ∷ jobs) r b = omega arith

-- the jobs end where the closings or the next part begin
jobs_cut : (number : ℕ) (js ks : List (List LineRecord)) (r s : List Line) → Begins 2 r → Begins 2 s
    → bare_jobs number js ++ r ≡ bare_jobs number ks ++ s → (js ≡ ks) × (r ≡ s)
jobs_cut number [] [] r s p q e = (refl, e)
jobs_cut number [] (k ∷ ks) r s p q e = let begins : 2 ≤ 1 = subst (Begins 2) e p in absurd (omega arith)
jobs_cut number (j ∷ js) [] r s p q e = let begins : 2 ≤ 1 = subst (Begins 2) (sym e) q in absurd (omega arith)
jobs_cut number (j ∷ js) (k ∷ ks) r s p q e =
    let tails : (map bare j ++ bare_jobs (number + 1) js) ++ r ≡ (map bare k ++ bare_jobs (number + 1) ks) ++ s = cc in
    let found : (j ≡ k) × (bare_jobs (number + 1) js ++ r ≡ bare_jobs (number + 1) ks ++ s)
    = records_cut j k _ _ (jobs_begin (number + 1) js r p) (jobs_begin (number + 1) ks s q)
    (sym (append_assoc (map bare j) (bare_jobs (number + 1) js) r) ∙ tails
    ∙ append_assoc (map bare k) (bare_jobs (number + 1) ks) s) in
    let rest : (js ≡ ks) × (r ≡ s) = jobs_cut (number + 1) js ks r s p q found.1 in
    let head : j ≡ k = found.0 in
    let tail : js ≡ ks = rest.0 in
    ((cc), rest.1)

-- what comes after a round begins with a round or a restart
parts_begin : (parts : List PartRecord) → Begins 5 (flat_map bare_part parts)
parts_begin [] = tt
parts_begin (Round round ∷ parts) = omega arith
parts_begin (Restart ∷ parts) = omega arith

-- what comes after the sessions begins with the premise or the next part
premise_begins : (p : Premise) (r : List Line) → Begins 5 r → Begins 4 (premise_lines p ++ r)
premise_begins premise.NoSession [] b = tt
premise_begins premise.NoSession (line ∷ r) b = omega arith
premise_begins premise.Held r b = omega arith
premise_begins (premise.Broken job breach) r b = omega arith

-- what comes after the closings begins with a session or what comes after them
sessions_begin : (sessions : List SessionVerdict) (r : List Line) → Begins 4 r → Begins 3 (map SessionLine sessions ++ r)
sessions_begin [] [] b = tt
sessions_begin [] (line ∷ r) b = omega arith
sessions_begin (verdict ∷ sessions) r b = omega arith

-- what comes after the jobs begins with a closing or what comes after them
closings_begin : (closings : List Closing) (r : List Line) → Begins 3 r → Begins 2 (map ClosedLine closings ++ r)
closings_begin [] [] b = tt
closings_begin [] (line ∷ r) b = omega arith
closings_begin (closing ∷ closings) r b = omega arith

-- rounds with the same fields are the same
round_is : (a b : RoundRecord) → a.number ≡ b.number → a.jobs ≡ b.jobs → a.closings ≡ b.closings → a.sessions ≡ b.sessions → a.premise ≡ b.premise → a ≡ b
round_is a b number jobs closings sessions held =
    let make : ℕ → List (List LineRecord) → List Closing → List SessionVerdict → Premise → RoundRecord
    = λ n js cs vs p. record { number = n; jobs = js; closings = cs; sessions = vs; premise = p } in
    ap (λ n. make n a.jobs a.closings a.sessions a.premise) number ∙ ap (λ js. make b.number js a.closings a.sessions a.premise) jobs
    ∙ ap (λ cs. make b.number b.jobs cs a.sessions a.premise) closings ∙ ap (λ vs. make b.number b.jobs b.closings vs a.premise) sessions
    ∙ ap (λ p. make b.number b.jobs b.closings b.sessions p) held

-- the lines of a round in pieces, with what comes after it
pieces : (round : RoundRecord) (r : List Line) → (bare_jobs 1 round.jobs ++ end_lines round) ++ r
    ≡ bare_jobs 1 round.jobs ++ (map ClosedLine round.closings ++ (map SessionLine round.sessions ++ (premise_lines round.premise ++ r)))
pieces round r =
    let jobs : List Line = bare_jobs 1 round.jobs in
    let closed : List Line = map ClosedLine round.closings in
    let judged : List Line = map SessionLine round.sessions in
    let last : List Line = premise_lines round.premise in
    append_assoc jobs (closed ++ (judged ++ last)) r ∙ ap (λ t. jobs ++ t)
    (append_assoc closed (judged ++ last) r ∙ ap (λ t. closed ++ t) (append_assoc judged last r))

-- what comes after each piece of a round
ends : (round : RoundRecord) (parts : List PartRecord) → Begins 4 (premise_lines round.premise ++ flat_map bare_part parts)
ends round parts = premise_begins round.premise _ (parts_begin parts)

after_closings : (round : RoundRecord) (parts : List PartRecord) → Begins 3 (map SessionLine round.sessions ++ (premise_lines round.premise ++ flat_map bare_part parts))
after_closings round parts = sessions_begin round.sessions _ (ends round parts)

after_jobs : (round : RoundRecord) (parts : List PartRecord)
    → Begins 2 (map ClosedLine round.closings ++ (map SessionLine round.sessions ++ (premise_lines round.premise ++ flat_map bare_part parts)))
after_jobs round parts = closings_begin round.closings _ (after_closings round parts)

-- rounds with the same lines are the same, and so is what comes after them
round_cut : (a b : RoundRecord) (parts others : List PartRecord) → bare_round a ++ flat_map bare_part parts ≡ bare_round b ++ flat_map bare_part others
    → (a ≡ b) × (flat_map bare_part parts ≡ flat_map bare_part others)
round_cut a b parts others e =
    let heads : RoundLine a.number ≡ RoundLine b.number = cc in
    let number : a.number ≡ b.number = cc in
    let tails : (bare_jobs 1 a.jobs ++ end_lines a) ++ flat_map bare_part parts ≡ (bare_jobs 1 b.jobs ++ end_lines b) ++ flat_map bare_part others = cc in
    let jobs = jobs_cut 1 a.jobs b.jobs _ _ (after_jobs a parts) (after_jobs b others)
    (sym (pieces a (flat_map bare_part parts)) ∙ tails ∙ pieces b (flat_map bare_part others)) in
    let closings = closings_cut a.closings b.closings _ _ (after_closings a parts) (after_closings b others) jobs.1 in
    let sessions = sessions_cut a.sessions b.sessions _ _ (ends a parts) (ends b others) closings.1 in
    let held = premise_cut a.premise b.premise _ _ (parts_begin parts) (parts_begin others) sessions.1 in
    (round_is a b number jobs.0 closings.0 sessions.0 held.0, held.1)

-- parts with the same lines are the same
pub parts_injective : (parts others : List PartRecord) → flat_map bare_part parts ≡ flat_map bare_part others → parts ≡ others
parts_injective [] [] e = refl
parts_injective [] (Round b ∷ others) e = absurd (cc)
parts_injective [] (Restart ∷ others) e = absurd (cc)
parts_injective (Round a ∷ parts) [] e = absurd (cc)
parts_injective (Restart ∷ parts) [] e = absurd (cc)
parts_injective (Restart ∷ parts) (Restart ∷ others) e =
    let tails : flat_map bare_part parts ≡ flat_map bare_part others = cc in ap (λ more. Restart ∷ more) (parts_injective parts others tails)
parts_injective (Round a ∷ parts) (Restart ∷ others) e = let heads : RoundLine a.number ≡ RestartLine = cc in absurd (cc)
parts_injective (Restart ∷ parts) (Round b ∷ others) e = let heads : RestartLine ≡ RoundLine b.number = cc in absurd (cc)
parts_injective (Round a ∷ parts) (Round b ∷ others) e =
    let found : (a ≡ b) × (flat_map bare_part parts ≡ flat_map bare_part others) = round_cut a b parts others e in
    let round : a ≡ b = found.0 in
    let rest : parts ≡ others = parts_injective parts others found.1 in
    (cc)

-- ---- what is told

map_append : {A B : Type 0} (f : A → B) (xs ys : List A) → map f (xs ++ ys) ≡ map f xs ++ map f ys
map_append f [] ys = refl
map_append f (x ∷ xs) ys = ap (λ t. f x ∷ t) (map_append f xs ys)

told_records : (all job : List LineRecord) → map told_of (map (RecordLine all) job) ≡ map bare (told_job job)
told_records all [] = refl
told_records all (answer ∷ job) = ap (λ t. bare (told_line answer) ∷ t) (told_records all job)

told_jobs : (number : ℕ) (jobs : List (List LineRecord)) → map told_of (jobs_lines number jobs) ≡ bare_jobs number (map told_job jobs)
told_jobs number [] = refl
told_jobs number (job ∷ jobs) =
    ap (λ t. JobLine number ∷ t)
    (map_append told_of (map (RecordLine job) job) (jobs_lines (number + 1) jobs) ∙ ap (λ t. t ++ map told_of (jobs_lines (number + 1) jobs)) (told_records job job)
    ∙ ap (λ t. map bare (told_job job) ++ t) (told_jobs (number + 1) jobs))

told_closings : (closings : List Closing) → map told_of (map ClosedLine closings) ≡ map ClosedLine closings
told_closings [] = refl
told_closings (closing ∷ closings) = ap (λ t. ClosedLine closing ∷ t) (told_closings closings)

told_sessions : (sessions : List SessionVerdict) → map told_of (map SessionLine sessions) ≡ map SessionLine sessions
told_sessions [] = refl
told_sessions (verdict ∷ sessions) = ap (λ t. SessionLine verdict ∷ t) (told_sessions sessions)

told_premise : (p : Premise) → map told_of (premise_lines p) ≡ premise_lines p
told_premise premise.NoSession = refl
told_premise premise.Held = refl
told_premise (premise.Broken job breach) = refl

told_end : (round : RoundRecord) → map told_of (end_lines round) ≡ end_lines round
told_end round =
    map_append told_of (map ClosedLine round.closings) (map SessionLine round.sessions ++ premise_lines round.premise)
    ∙ ap (λ t. t ++ map told_of (map SessionLine round.sessions ++ premise_lines round.premise)) (told_closings round.closings)
    ∙ ap (λ t. map ClosedLine round.closings ++ t)
    (map_append told_of (map SessionLine round.sessions) (premise_lines round.premise)
    ∙ ap (λ t. t ++ map told_of (premise_lines round.premise)) (told_sessions round.sessions)
    ∙ ap (λ t. map SessionLine round.sessions ++ t) (told_premise round.premise))

told_part_lines : (part : PartRecord) → map told_of (part_lines part) ≡ bare_part (told_part part)
told_part_lines Restart = refl
told_part_lines (Round round) =
    ap (λ t. RoundLine round.number ∷ t)
    (map_append told_of (jobs_lines 1 round.jobs) (end_lines round) ∙ ap (λ t. t ++ map told_of (end_lines round)) (told_jobs 1 round.jobs)
    ∙ ap (λ t. bare_jobs 1 (map told_job round.jobs) ++ t) (told_end round))

-- what is told of the lines of parts are the lines, as they are told, of what is told of the parts
pub told_lines : (parts : List PartRecord) → map told_of (flat_map part_lines parts) ≡ flat_map bare_part (told parts)
told_lines [] = refl
told_lines (part ∷ parts) =
    map_append told_of (part_lines part) (flat_map part_lines parts) ∙ ap (λ t. t ++ map told_of (flat_map part_lines parts)) (told_part_lines part)
    ∙ ap (λ t. bare_part (told_part part) ++ t) (told_lines parts)
