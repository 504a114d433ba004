-- The schedule of a `sites` line: what its events say.
use Rattle.std.specs.Prelude.{ℕ, List, codes, Option, Some, None, Result, Ok, Err, if◌then◌else◌}
use Rattle.auc_lines.specs.declared.sites.SiteEvent.{SiteEvent}
use Rattle.auc_lines.specs.declared.sites.SiteEvent.TheVariants.{Ask, Deliver, Draw, Restart, MasterRestart}
use Rattle.auc_text.specs.Text.{is_text}
use Rattle.auc_subs.specs.Steps.{◌>>=◌}
use Rattle.auc_reading.specs.declared.refusal.ScriptWhy.{ScriptWhy}
use Rattle.auc_reading.specs.declared.refusal.ScriptWhy.TheVariants as why
use Rattle.auc_reading.specs.Field.{number_between}
use Rattle.auc_reading.specs.Numbers.{last_packet}
use Rattle.auc_reading.specs.Schedule.{all_of, behind}

-- the number of a site behind a word, and the event of that site; or what the event is without the word
abbrev pub of_site : ℕ → (ℕ → SiteEvent) → Option (List ℕ) → Result SiteEvent ScriptWhy → Result SiteEvent ScriptWhy
of_site sites event None other = other
of_site sites event (Some number) other = number_between 1 sites number >>= λ site. Ok (event site)

-- `dP`, or no event
abbrev pub of_packet : Option (List ℕ) → Result SiteEvent ScriptWhy
of_packet None = Err why.Fields
of_packet (Some number) = number_between 0 last_packet number >>= λ packet. Ok (Deliver packet)

-- an event of so many sites: `master`, `ask:S`, `draw:S`, `re:S` or `dP`
abbrev pub event_of : ℕ → List ℕ → Result SiteEvent ScriptWhy
event_of sites text =
    if is_text text (codes "master") then Ok MasterRestart
    else of_site sites (λ site. Ask site) (behind (codes "ask:") text)
    (of_site sites (λ site. Draw site) (behind (codes "draw:") text)
    (of_site sites (λ site. Restart site) (behind (codes "re:") text)
    (of_packet (behind (codes "d") text))))

-- what a schedule of so many sites says
abbrev pub events_of : ℕ → List ℕ → Result (List SiteEvent) ScriptWhy
events_of sites schedule = all_of (event_of sites) schedule
