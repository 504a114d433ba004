-- The input of a load: the key of the random bytes, the subscribers and the jobs, by the words' numbers.
use Rattle.std.specs.Prelude.{ℕ, ◌+◌, ◌*◌, ◌%◌, ◌^◌, List, [], ◌∷◌, ◌++◌, map, None, replicate}
use Rattle.std.specs.Int.{w64, to_be_bytes}
use Rattle.std.specs.List.{range_with_len}
use Rattle.auc_lines.specs.declared.part.Line.{Line}
use Rattle.auc_lines.specs.declared.part.Line.TheVariants.{Draw}
use Rattle.auc_load.specs.declared.words.LoadWords.{LoadWords}
use Rattle.auc_subs.specs.declared.row.Row.{Row}
use Rattle.auc_random.specs.Random.{sixteen_at}

-- the key of the random bytes: 24 zero bytes, and KEY in 8 bytes with the most significant first
abbrev pub load_key : ℕ → List ℕ
load_key key = replicate 24 0 ++ to_be_bytes w64 key

-- the stream from which the subscribers' K and OPc come
abbrev pub secrets_stream : ℕ
secrets_stream = 2 ^ 41

-- subscriber i: the IMSI is 00101 and i in ten digits; K and OPc are the 16 bytes at the places 8 i and 8 i + 4; the index has
-- 5 bits, and there is no age limit
abbrev pub row_at : List ℕ → ℕ → Row
row_at key i = record {
  imsi = record { digits = 15; number = 101 * 10 ^ 10 + i };
  secret = record { k = sixteen_at key secrets_stream (8 * i); opc = sixteen_at key secrets_stream (8 * i + 4) };
  amf = 128 ∷ 0 ∷ [];
  seq = 0;
  usim = 0;
  bits = 5;
  age = None;
}

-- the subscribers, from 0
abbrev pub load_rows : LoadWords → List Row
load_rows load = map (row_at (load_key load.key)) (range_with_len 0 load.subscribers)

-- how many vectors a job draws
abbrev pub vectors_of_a_job : ℕ
vectors_of_a_job = 5

-- job j, from 0, draws for subscriber j modulo their number
abbrev pub job_at : ℕ → ℕ → List Line
job_at subscribers j = Draw (j % subscribers) vectors_of_a_job ∷ []

-- the jobs of the one round
abbrev pub load_jobs : LoadWords → List (List Line)
load_jobs load = map (job_at load.subscribers) (range_with_len 0 load.jobs)
