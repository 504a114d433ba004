-- The words `load KEY SUBSCRIBERS JOBS WORKERS`, of which the last four are decimal numbers of 1 to 20 digits.
use Rattle.std.specs.Prelude.{ℕ, ◌==◌, ◌^◌, ◌-◌, ◌≤◌, nat_le, List, [], length, codes, Option, Some, None, if◌then◌else◌, slice_index_or}
use Rattle.std.specs.Option.{option_and_then}
use Rattle.std.specs.Str.{bytes_eq}
use Rattle.auc_subs.specs.Subscriber.{most_subscribers}
use Rattle.auc_text.specs.Field.{number_in}
use Rattle.auc_load.specs.declared.words.LoadWords.{LoadWords}

-- the greatest KEY
abbrev pub greatest_key : ℕ
greatest_key = 2 ^ 64 - 1

-- how many jobs and workers there may be
abbrev pub most_load_jobs : ℕ
most_load_jobs = 200000

abbrev pub most_load_workers : ℕ
most_load_workers = 64

-- a number from 1 to a greatest
abbrev pub positive : Option ℕ → Option ℕ
positive None = None
positive (Some number) = if nat_le 1 number then Some number else None

abbrev pub count_in : ℕ → List ℕ → Option ℕ
count_in greatest text = positive (number_in 20 greatest text)

-- the numbers that four texts spell
abbrev pub numbers_in : List ℕ → List ℕ → List ℕ → List ℕ → Option LoadWords
numbers_in key subscribers jobs workers =
    option_and_then (λ key. option_and_then (λ subscribers. option_and_then (λ jobs. option_and_then (λ workers.
    Some (record { key = key; subscribers = subscribers; jobs = jobs; workers = workers }))
    (count_in most_load_workers workers)) (count_in most_load_jobs jobs)) (count_in most_subscribers subscribers))
    (number_in 20 greatest_key key)

-- a word, from 0
abbrev pub load_word : List (List ℕ) → ℕ → List ℕ
load_word words place = slice_index_or words place []

-- the numbers that the words say, and none if the words have no such form
abbrev pub load_named : List (List ℕ) → Option LoadWords
load_named words =
    if length words == 5 then
    (if bytes_eq (load_word words 0) (codes "load")
    then numbers_in (load_word words 1) (load_word words 2) (load_word words 3) (load_word words 4) else None)
    else None

-- the ranges of the numbers
pub record IsLoad (load : LoadWords) : Type 0 where
  pub key : load.key ≤ greatest_key
  pub one_subscriber : 1 ≤ load.subscribers
  pub subscribers : load.subscribers ≤ most_subscribers
  pub one_job : 1 ≤ load.jobs
  pub jobs : load.jobs ≤ most_load_jobs
  pub one_worker : 1 ≤ load.workers
  pub workers : load.workers ≤ most_load_workers
