-- What the fields of a job's line say, by the word before them.
use Rattle.std.specs.Prelude.{ℕ, nat_le, List, length, Result, Ok}
use Rattle.std.specs.Option.{ok_or}
use Rattle.auc_memory.specs.Identity.{identity_of}
use Rattle.auc_sqn.specs.Number.{max_seq}
use Rattle.auc_subs.specs.declared.row.Row.{Row}
use Rattle.auc_text.specs.Field.{octets_in}
use Rattle.auc_subs.specs.Subscriber.{place_of, top_at}
use Rattle.auc_lines.specs.declared.part.Line.{Line}
use Rattle.auc_lines.specs.declared.part.Line.TheVariants.{Draw, Give, Sync, Eps, Fiveg, Sites, Sim, Session, Start, Deliver, Repeat, GiveUp, Plain, Tamper, Cut}
use Rattle.auc_lines.specs.declared.part.Report.TheVariants.{Seq, Auts}
use Rattle.auc_lines.specs.Part.{last_bit, last_star_bit}
use Rattle.auc_reading.specs.Numbers.{last_packet, last_place, last_session, least_triplets, most_count, most_leased, most_sites, most_triplets}
use Rattle.auc_reading.specs.declared.refusal.ScriptWhy.{ScriptWhy}
use Rattle.auc_reading.specs.declared.refusal.ScriptWhy.TheVariants as why
use Rattle.auc_reading.specs.declared.word.JobWord.{JobWord}
use Rattle.auc_reading.specs.declared.word.JobWord.TheVariants as job
use Rattle.auc_subs.specs.Steps.{◌>>=◌}
use Rattle.auc_reading.specs.Field.{bit_in, byte_in, end_in, four_fields, number_between, one_field, require, three_fields, two_fields}
use Rattle.auc_reading.specs.FivegLine.{fiveg_fields, fiveg_line, hxres_in}
use Rattle.auc_reading.specs.SimLine.{deliveries_of}
use Rattle.auc_reading.specs.SitesLine.{events_of}
use Rattle.auc_reading.specs.SessionLine.{are_names, are_options, is_identity, method_in, seven_fields, session_line}

-- what a job's line says: the forms of the fields from left to right, then whose they are
abbrev pub draw_of : List Row → List (List ℕ) → Result Line ScriptWhy
draw_of rows fields = do
  two ← two_fields fields
  identity ← ok_or (identity_of two.0) why.Fields
  count ← number_between 1 most_count two.1
  sub ← ok_or (place_of rows identity) why.UnknownSubscriber
  Ok (Draw sub count)

abbrev pub sync_of : List Row → List (List ℕ) → Result Line ScriptWhy
sync_of rows fields = do
  four ← four_fields fields
  identity ← ok_or (identity_of four.0) why.Fields
  seq ← number_between 0 max_seq four.1
  bit ← bit_in last_bit four.2
  count ← number_between 0 most_count four.3
  sub ← ok_or (place_of rows identity) why.UnknownSubscriber
  within ← require (nat_le seq (top_at rows sub)) why.Limit
  Ok (Sync sub (Seq seq bit) count)

abbrev pub auts_of : List Row → List (List ℕ) → Result Line ScriptWhy
auts_of rows fields = do
  four ← four_fields fields
  identity ← ok_or (identity_of four.0) why.Fields
  auts ← ok_or (octets_in 14 four.1) why.Hex
  rand ← ok_or (octets_in 16 four.2) why.Hex
  count ← number_between 0 most_count four.3
  sub ← ok_or (place_of rows identity) why.UnknownSubscriber
  Ok (Sync sub (Auts auts rand) count)

abbrev pub give_of : List Row → List (List ℕ) → Result Line ScriptWhy
give_of rows fields = do
  two ← two_fields fields
  identity ← ok_or (identity_of two.0) why.Fields
  number ← number_between 1 max_seq two.1
  sub ← ok_or (place_of rows identity) why.UnknownSubscriber
  Ok (Give sub number)

abbrev pub eps_of : List Row → List (List ℕ) → Result Line ScriptWhy
eps_of rows fields = do
  two ← two_fields fields
  identity ← ok_or (identity_of two.0) why.Fields
  snid ← ok_or (octets_in 3 two.1) why.Hex
  sub ← ok_or (place_of rows identity) why.UnknownSubscriber
  Ok (Eps sub snid)

abbrev pub fiveg_of : List Row → List (List ℕ) → Result Line ScriptWhy
fiveg_of rows fields = do
  all ← fiveg_fields fields
  identity ← ok_or (identity_of all.imsi) why.Fields
  bit ← bit_in last_star_bit all.bit
  hxres ← hxres_in all.fifth
  sub ← ok_or (place_of rows identity) why.UnknownSubscriber
  Ok (Fiveg (fiveg_line sub bit hxres all))

abbrev pub sites_of : List Row → List (List ℕ) → Result Line ScriptWhy
sites_of rows fields = do
  four ← four_fields fields
  identity ← ok_or (identity_of four.0) why.Fields
  sites ← number_between 1 most_sites four.1
  size ← number_between 1 most_leased four.2
  events ← events_of sites four.3
  sub ← ok_or (place_of rows identity) why.UnknownSubscriber
  Ok (Sites (record { sub = sub; sites = sites; size = size; schedule = events }))

abbrev pub sim_of : List Row → List (List ℕ) → Result Line ScriptWhy
sim_of rows fields = do
  three ← three_fields fields
  identity ← ok_or (identity_of three.0) why.Fields
  count ← number_between least_triplets most_triplets three.1
  schedule ← deliveries_of three.2
  sub ← ok_or (place_of rows identity) why.UnknownSubscriber
  Ok (Sim (record { sub = sub; count = count; schedule = schedule }))

abbrev pub session_of : List Row → List (List ℕ) → Result Line ScriptWhy
session_of rows fields = do
  seven ← seven_fields fields
  session ← number_between 1 last_session seven.session
  identity ← ok_or (identity_of seven.imsi) why.Fields
  method ← ok_or (method_in seven.method) why.Fields
  names ← require (are_names method seven.sname seven.pname) why.Fields
  options ← require (are_options seven.options) why.Fields
  first ← require (is_identity seven.identity) why.Fields
  sub ← ok_or (place_of rows identity) why.UnknownSubscriber
  Ok (Session (session_line session sub method seven))

-- the number of a session that the one field of a line is
abbrev pub number_of_session : List (List ℕ) → Result ℕ ScriptWhy
number_of_session fields = do
  text ← one_field fields
  number_between 1 last_session text

abbrev pub deliver_of : List (List ℕ) → Result Line ScriptWhy
deliver_of fields = do
  three ← three_fields fields
  session ← number_between 1 last_session three.0
  end ← end_in three.1
  packet ← number_between 0 last_packet three.2
  Ok (Deliver session end packet)

abbrev pub give_up_of : List (List ℕ) → Result Line ScriptWhy
give_up_of fields = do
  two ← two_fields fields
  session ← number_between 1 last_session two.0
  end ← end_in two.1
  Ok (GiveUp session end)

abbrev pub tamper_of : List (List ℕ) → Result Line ScriptWhy
tamper_of fields = do
  three ← three_fields fields
  packet ← number_between 0 last_packet three.0
  place ← number_between 0 last_place three.1
  byte ← byte_in three.2
  Ok (Tamper packet place byte)

abbrev pub cut_of : List (List ℕ) → Result Line ScriptWhy
cut_of fields = do
  two ← two_fields fields
  packet ← number_between 0 last_packet two.0
  length ← number_between 0 last_place two.1
  Ok (Cut packet length)

abbrev pub line_of : List Row → JobWord → List (List ℕ) → Result Line ScriptWhy
line_of rows job.Draw fields = draw_of rows fields
line_of rows job.Sync fields = sync_of rows fields
line_of rows job.Auts fields = auts_of rows fields
line_of rows job.Give fields = give_of rows fields
line_of rows job.Eps fields = eps_of rows fields
line_of rows job.Fiveg fields = fiveg_of rows fields
line_of rows job.Sites fields = sites_of rows fields
line_of rows job.Sim fields = sim_of rows fields
line_of rows job.Session fields = session_of rows fields
line_of rows job.Start fields = number_of_session fields >>= λ session. Ok (Start session)
line_of rows job.Deliver fields = deliver_of fields
line_of rows job.Repeat fields = number_of_session fields >>= λ session. Ok (Repeat session)
line_of rows job.GiveUp fields = give_up_of fields
line_of rows job.Plain fields = number_of_session fields >>= λ session. Ok (Plain session)
line_of rows job.Tamper fields = tamper_of fields
line_of rows job.Cut fields = cut_of fields
