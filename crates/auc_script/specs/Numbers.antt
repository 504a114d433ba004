-- The limits of a scenario. Those of one line stand in `auc_reading/specs/Numbers`.
use Rattle.std.specs.Prelude.{ℕ}

-- how many vectors all lines together may ask for
abbrev pub most_vectors : ℕ
most_vectors = 1000000

-- how many rounds, jobs and sessions there may be
abbrev pub most_rounds : ℕ
most_rounds = 1000

abbrev pub most_jobs : ℕ
most_jobs = 200000

abbrev pub most_sessions : ℕ
most_sessions = 100000

-- how many packets a `plain` line counts for, and all lines of a job may
abbrev pub packets_of_plain : ℕ
packets_of_plain = 40

abbrev pub most_packets : ℕ
most_packets = 1000000

-- how many threads may serve a round
abbrev pub most_workers : ℕ
most_workers = 64

-- how many bytes a realm may have
abbrev pub longest_realm : ℕ
longest_realm = 255
