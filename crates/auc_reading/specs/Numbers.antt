-- The limits of one line.
use Rattle.std.specs.Prelude.{ℕ}

-- how many vectors one line may ask for
abbrev pub most_count : ℕ
most_count = 1000

-- the greatest number of a session, and of a packet
abbrev pub last_session : ℕ
last_session = 999999

abbrev pub last_packet : ℕ
last_packet = 4294967295

-- the greatest place in a packet, and the greatest length of its front
abbrev pub last_place : ℕ
last_place = 4294967295

-- how many bytes a name of a network may have, and the text of an identity
abbrev pub longest_name : ℕ
longest_name = 255

abbrev pub longest_text : ℕ
longest_text = 255

-- how many sites a line for sites may have, how many numbers a lease, and how many events its schedule, or deliveries that of a
-- session of EAP-SIM
abbrev pub most_sites : ℕ
most_sites = 64

abbrev pub most_leased : ℕ
most_leased = 32

abbrev pub most_events : ℕ
most_events = 200

-- how many triplets a session of EAP-SIM may have (RFC 4186 §10.9)
abbrev pub least_triplets : ℕ
least_triplets = 2

abbrev pub most_triplets : ℕ
most_triplets = 3
