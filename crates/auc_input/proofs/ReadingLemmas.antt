-- For the reading of the input: the refusals of its steps are those of the whole.
use Rattle.std.proofs.Common.{List, Option, refl, inl, inr}
use Rattle.auc_edge.specs.Shelf.{File}
use Rattle.auc_subs.specs.declared.row.Row.{Row}
use Rattle.auc_input.specs.Reading.{ReadingStops, ScenarioStops, SubscribersStop, BeginsWith}
use Rattle.auc_input.specs.Words.{Files}
use Rattle.auc_refusal.specs.declared.refusal.Refusal.{Refusal}
use Rattle.auc_refusal.specs.declared.refusal.Refusal.TheVariants as refused

-- the subscribers aren't read
pub subscribers_stop : (told : Option (List File)) (files : Files) (refusal : Refusal)
    → SubscribersStop told files.subscribers refusal → ReadingStops told files refusal
subscribers_stop told files (refused.Subscribers row fault) stop = stop
subscribers_stop told files refused.TooLong (name, named, long) = (name, inl named, long)
subscribers_stop told files refused.ReadFault stop = tt
subscribers_stop told files refused.NoMemory stop = tt
subscribers_stop told files (refused.Scenario line fault) stop = absurd stop
subscribers_stop told files refused.Usage stop = absurd stop
subscribers_stop told files refused.WriteFault stop = absurd stop
subscribers_stop told files refused.StoreFault stop = absurd stop
subscribers_stop told files (refused.NotJournal place) stop = absurd stop
subscribers_stop told files refused.StoreFull stop = absurd stop

-- the scenario isn't read, after the subscribers
pub scenario_stops : (told : Option (List File)) (files : Files) (rows : List Row) (refusal : Refusal)
    → BeginsWith told files.subscribers rows → ScenarioStops told files.scenario rows refusal → ReadingStops told files refusal
scenario_stops told files rows (refused.Scenario line fault) begins (text, has, is) = (rows, text, record { begins = begins; has = has }, is)
scenario_stops told files rows refused.TooLong begins long = (files.scenario, inr (rows, begins, refl), long)
scenario_stops told files rows refused.ReadFault begins stop = tt
scenario_stops told files rows refused.NoMemory begins stop = tt
scenario_stops told files rows (refused.Subscribers row fault) begins stop = absurd stop
scenario_stops told files rows refused.Usage begins stop = absurd stop
scenario_stops told files rows refused.WriteFault begins stop = absurd stop
scenario_stops told files rows refused.StoreFault begins stop = absurd stop
scenario_stops told files rows (refused.NotJournal place) begins stop = absurd stop
scenario_stops told files rows refused.StoreFull begins stop = absurd stop
