-- The summary of a load: five lines, the last with the SHA-256 of all vectors by subscriber and number.
use Rattle.std.specs.Prelude.{ℕ, ◌*◌, ◌%◌, ◌==◌, List, [], ◌∷◌, ◌++◌, map, codes, decimal, flat_map, count_by, if◌then◌else◌}
use Rattle.std.specs.List.{range_with_len}
use Rattle.hex.specs.Hex.{encode_lower}
use Rattle.sha2.specs.Sha256.{sha256}
use Rattle.auc_hmac.specs.declared.method.Method.TheVariants as method
use Rattle.auc_load.specs.Input.{load_key, row_at, vectors_of_a_job}
use Rattle.auc_load.specs.declared.words.LoadWords.{LoadWords}
use Rattle.auc_subs.specs.declared.row.Row.{Row}
use Rattle.auc_random.specs.Random.{rand_of}
use Rattle.auc_vector.specs.Vector.{vector_of}
use Rattle.auc_vector.specs.declared.parts.Vector.{Vector}
use Rattle.auc_record.specs.declared.record.Closing.{Closing}

-- how many vectors the jobs draw for a subscriber
abbrev pub drawn_for : LoadWords → ℕ → ℕ
drawn_for load sub = vectors_of_a_job * count_by (λ other. other == sub) (map (λ j. j % load.subscribers) (range_with_len 0 load.jobs))

-- how a round closes a subscriber of which so many vectors were drawn and released, from number 0; not at all, if none
-- were
abbrev pub closing_with : ℕ → ℕ → List Closing
closing_with sub count =
    if 0 == count then []
    else record { sub = sub; first = 0; last = count; drawn = count; skipped = 0; released = count; withheld = 0 } ∷ []

-- how the round of a load closes its subscribers
abbrev pub load_closings : LoadWords → List Closing
load_closings load = flat_map (λ sub. closing_with sub (drawn_for load sub)) (range_with_len 0 load.subscribers)

-- the bytes of a vector
abbrev pub vector_bytes : Vector → List ℕ
vector_bytes v = v.rand ++ v.autn ++ v.xres ++ v.ck ++ v.ik

-- the bytes of a subscriber's vectors of EAP-AKA, of the numbers from 1 to a count
abbrev pub subscriber_bytes : List ℕ → Row → ℕ → ℕ → List ℕ
subscriber_bytes key row sub count =
    flat_map (λ n. vector_bytes (vector_of row.secret method.Aka row.amf [] row.bits n (rand_of key sub n))) (range_with_len 1 count)

-- the bytes of all vectors, by subscriber and number
abbrev pub all_bytes : LoadWords → List ℕ
all_bytes load = flat_map (λ sub. subscriber_bytes (load_key load.key) (row_at (load_key load.key) sub) sub (drawn_for load sub))
    (range_with_len 0 load.subscribers)

-- a line: a word and a value
abbrev pub summary_line : List ℕ → List ℕ → List ℕ
summary_line word value = word ++ codes " " ++ value ++ codes "\n"

-- the five lines
abbrev pub load_text : LoadWords → List ℕ
load_text load =
    summary_line (codes "subscribers") (decimal load.subscribers)
    ++ summary_line (codes "jobs") (decimal load.jobs)
    ++ summary_line (codes "workers") (decimal load.workers)
    ++ summary_line (codes "vectors") (decimal (vectors_of_a_job * load.jobs))
    ++ summary_line (codes "sha256") (encode_lower (sha256 (all_bytes load)))
