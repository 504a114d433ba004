-- The parts of a schedule one by one, for the functions of `sites_line` and `sim_line`. `says` tells what a part says.
use Rattle.std.proofs.Common.{ℕ, ◌≡◌, ◌<◌, ◌≤◌, ◌+◌, ◌∙◌, nat_le, Bool, true, List, ◌∷◌, ◌++◌, [], length, drop, get_or, Result, Ok, Err, IfOk, Bor, arith, map, refl, sym, ap, append-nil, append_assoc}
use Rattle.std.specs.List.{list_all}
use Rattle.std.proofs.lemmas.List.{drop_all, drop_more, length-map}
use Rattle.std.proofs.lemmas.List.Folds.{list_all-map}
use Rattle.auc_subs.specs.Steps.{◌>>=◌}
use Rattle.auc_reading.specs.declared.refusal.ScriptWhy.{ScriptWhy}
use Rattle.auc_reading.specs.declared.refusal.ScriptWhy.TheVariants.{Fields}
use Rattle.auc_reading.specs.declared.refusal.LineRefusal.{LineRefusal}
use Rattle.auc_reading.specs.Field.{require}
use Rattle.auc_reading.specs.Numbers.{most_events}
use Rattle.auc_reading.specs.Schedule.{all_of, each_of, is_there, parts_in}

-- what some parts said, in front of what others say
abbrev pub onto : {A : Type 0} → List A → Result (List A) ScriptWhy → Result (List A) ScriptWhy
onto front (Ok more) = Ok (front ++ more)
onto front (Err why) = Err why

-- nothing in front
pub onto_none : {A : Type 0} → (read : Result (List A) ScriptWhy) → read ≡ onto [] read
onto_none (Ok more) = refl
onto_none (Err why) = refl

-- one part more is read
onto_one : {A : Type 0} → (front : List A) (first : A) (read : Result (List A) ScriptWhy)
    → onto front (read >>= λ others. Ok (first ∷ others)) ≡ onto (front ++ first ∷ []) read
onto_one front first (Ok more) = ap Ok (sym (append_assoc front (first ∷ []) more))
onto_one front first (Err why) = refl

each_more : {A : Type 0} → (says : List ℕ → Result A ScriptWhy) (text : List ℕ) (more : List (List ℕ)) (front : List A) (first : A) → says text ≡ Ok first
    → onto front (each_of says (text ∷ more)) ≡ onto (front ++ first ∷ []) (each_of says more)
each_more says text more front first is = rw is (onto_one front first (each_of says more))

-- a part is refused
each_refused : {A : Type 0} → (says : List ℕ → Result A ScriptWhy) (text : List ℕ) (more : List (List ℕ)) (front : List A) (why : ScriptWhy) → says text ≡ Err why
    → onto front (each_of says (text ∷ more)) ≡ Err why
each_refused says text more front why is = rw is refl

-- texts, as they are lent
abbrev pub lent : List (Bor (List ℕ)) → List (List ℕ)
lent texts = map (λ text. text.now) texts

-- all parts are read, if so many were read and the rest is
abbrev pub AreRead : {A : Type 0} → (List ℕ → Result A ScriptWhy) → List (Bor (List ℕ)) → ℕ → List A → Type 0
AreRead says texts i front = each_of says (lent texts) ≡ onto front (each_of says (lent (drop i texts)))

-- the rest begins with the next text
rest_is : (texts : List (Bor (List ℕ))) (i : ℕ) (d : Bor (List ℕ)) → i < length texts → lent (drop i texts) ≡ (get_or texts i d).now ∷ lent (drop (i + 1) texts)
rest_is texts i d inside = ap lent (drop_more texts i d inside)

pub read_begins : {A : Type 0} → (says : List ℕ → Result A ScriptWhy) (texts : List (Bor (List ℕ))) → AreRead says texts 0 []
read_begins says texts = onto_none (each_of says (lent texts))

pub read_goes_on : {A : Type 0} → (says : List ℕ → Result A ScriptWhy) (texts : List (Bor (List ℕ))) (i : ℕ) (d : Bor (List ℕ)) (front : List A) (first : A) → i < length texts
    → AreRead says texts i front → Ok first ≡ says (get_or texts i d).now → AreRead says texts (i + 1) (front ++ first ∷ [])
read_goes_on says texts i d front first inside read ok =
    read ∙ ap (λ (rest : List (List ℕ)). onto front (each_of says rest)) (rest_is texts i d inside)
    ∙ each_more says (get_or texts i d).now (lent (drop (i + 1) texts)) front first (sym ok)

pub read_ends : {A : Type 0} → (says : List ℕ → Result A ScriptWhy) (texts : List (Bor (List ℕ))) (i : ℕ) (d : Bor (List ℕ)) (front : List A) (why : ScriptWhy) → i < length texts
    → AreRead says texts i front → Err why ≡ says (get_or texts i d).now → each_of says (lent texts) ≡ Err why
read_ends says texts i d front why inside read refused =
    read ∙ ap (λ (rest : List (List ℕ)). onto front (each_of says rest)) (rest_is texts i d inside)
    ∙ each_refused says (get_or texts i d).now (lent (drop (i + 1) texts)) front why (sym refused)

pub read_whole : {A : Type 0} → (says : List ℕ → Result A ScriptWhy) (texts : List (Bor (List ℕ))) (i : ℕ) (front : List A) → length texts ≤ i → AreRead says texts i front → each_of says (lent texts) ≡ Ok front
read_whole says texts i front past read =
    read ∙ ap (λ (rest : List (Bor (List ℕ))). onto front (each_of says (lent rest))) (drop_all i texts past) ∙ ap Ok (append-nil front)

-- what a schedule says, by its texts as they are lent
pub schedule_by : {A : Type 0} → (says : List ℕ → Result A ScriptWhy) (schedule : List ℕ) (texts now : List (Bor (List ℕ))) (b : Bool) → nat_le (length (parts_in schedule)) most_events ≡ true
    → lent texts ≡ parts_in schedule → now ≡ texts → b ≡ list_all (λ text. is_there text.now) now
    → all_of says schedule ≡ (require b Fields >>= λ whole. each_of says (lent texts))
schedule_by says schedule texts now b few same lending whole =
    let all : list_all is_there (lent texts) ≡ b
    = list_all-map is_there (λ (text : Bor (List ℕ)). text.now) texts ∙ sym (rw lending at whole) in
    rw (few, ← same, all) refl

-- how many parts are read
pub count_of : (schedule : List ℕ) (texts now : List (Bor (List ℕ))) (n : ℕ) → n ≡ length (parts_in schedule) → lent texts ≡ parts_in schedule → now ≡ texts → length now ≡ n
count_of schedule texts now n counted same lending =
    ap (λ (ts : List (Bor (List ℕ))). length ts) lending ∙ sym (length-map texts (λ (text : Bor (List ℕ)). text.now)) ∙ ap (λ (ts : List (List ℕ)). length ts) same ∙ sym counted

pub some_read : {A : Type 0} → (read : Result (List A) LineRefusal) (n : ℕ) → IfOk read (λ all. length all ≡ n) → 1 ≤ n → IfOk read (λ all. 1 ≤ length all)
some_read (Ok all) n counted some = omega (arith, counted, some)
some_read (Err refused) n counted some = tt

pub few_read : {A : Type 0} → (read : Result (List A) LineRefusal) (n : ℕ) → IfOk read (λ all. length all ≡ n) → n ≤ most_events → IfOk read (λ all. length all ≤ most_events)
few_read (Ok all) n counted few = omega (arith, counted, few)
few_read (Err refused) n counted few = tt
