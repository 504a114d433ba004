-- For runs: what their events give, one after the other.
use Rattle.std.proofs.Common.{◌≡◌, ℕ, List, [], ◌∷◌, ◌++◌, length, map, refl, sym, ◌∙◌, ap, subst}
use Rattle.std.specs.Prelude.{slice_index}
use Rattle.auc_core.specs.Step.{CoreState}
use Rattle.auc_memory.specs.declared.stop.Stop.{Stop}
use Rattle.auc_history.proofs.Facts.{IsLegal-append, IsLegal-nil}
use Rattle.auc_history.specs.History.{IsLegal}
use Rattle.auc_history.specs.declared.entry.Entry.{Entry}
use Rattle.auc_jobs.proofs.Facts.{entries_of_lines-append, held_of-append}
use Rattle.auc_jobs.specs.InnerServing.{before_at}
use Rattle.auc_subs.specs.Subscriber.{AreSubscribers}
use Rattle.auc_vector.specs.Stretch.{IsStretch}
use Rattle.auc_record.specs.Event.{Came}
use Rattle.auc_record.specs.Entries.{entries_of_lines}
use Rattle.auc_world.specs.Given.{JobGives}
use Rattle.auc_record.specs.Lines.{held_of}
use Rattle.auc_world.specs.Net.{Net}
use Rattle.auc_subs.specs.Setting.{Setting}
use Rattle.auc_world.specs.World.{WorldState}
use Rattle.auc_record.specs.declared.event.Event.{Event}
use Rattle.auc_record.specs.declared.record.LineRecord.{LineRecord}
use Rattle.auc_events.specs.Run.{LeadsTo, line_for, event_records}
use Rattle.auc_events.proofs.StepLemmas.{Holds, StepGives, line_gives, record_for, step_gives}
use Rattle.auc_events.proofs.WordLemmas.{AreLow}

-- two stretches of the centre's calls, one after the other
joined : (a b c : CoreState) (sub : ℕ) (es fs : List Entry) (ws vs : List (ℕ × Stop)) → IsStretch a sub es ws b → IsStretch b sub fs vs c → IsStretch a sub (es ++ fs) (ws ++ vs) c
joined a b c sub es fs ws vs first second = record {
  legal = IsLegal-append (slice_index a.tops sub) (slice_index a.words sub) (slice_index b.words sub) (slice_index c.words sub) es fs first.legal
      (subst (λ (tops : List ℕ). IsLegal (slice_index tops sub) (slice_index b.words sub) (slice_index c.words sub) fs) first.tops second.legal);
  nothing = ap (λ (xs : List (ℕ × Stop)). xs ++ vs) first.nothing ∙ second.nothing;
  tops = second.tops ∙ first.tops;
}

-- no call
stays : (a : CoreState) (sub : ℕ) → IsStretch a sub [] [] a
stays a sub = record { legal = IsLegal-nil (slice_index a.tops sub) (slice_index a.words sub); nothing = refl; tops = refl }

-- what events give after some lines of the job
pub record RunGives (set : Setting) (own : List LineRecord) (net : Net) (core : CoreState) (events : List Event) (records : List LineRecord) (last : Net) (end : CoreState) : Type 0 where
  pub given : JobGives set (before_at [] [] own) net (map line_for events) records last
  pub made : (sub : ℕ) → IsStretch core sub (entries_of_lines sub own records) (held_of sub records) end
  pub size : length end.words ≡ length core.words
  pub low : AreLow end

-- a step, and what the further events give after it
more_gives : (set : Setting) (own : List LineRecord) (net : Net) (core : CoreState) (e : Event) (events : List Event) (line : LineRecord) (records : List LineRecord) (mid : WorldState) (next : CoreState) (last : Net) (end : CoreState)
    → length next.words ≡ length core.words → StepGives set own net core e line mid next → RunGives set (own ++ line ∷ []) mid.net next events records last end → RunGives set own net core (e ∷ events) (line ∷ records) last end
more_gives set own net core e events line records mid next last end size here rest = record {
  given = (line ∷ [], records, mid.net, refl, line_gives set own net mid.net e (line ∷ []) here.given, rest.given);
  made = λ sub.
      subst (λ (es : List Entry). IsStretch core sub es (held_of sub (line ∷ records)) end) (sym (entries_of_lines-append sub own (line ∷ []) records))
      (subst (λ (ws : List (ℕ × Stop)). IsStretch core sub (entries_of_lines sub own (line ∷ []) ++ entries_of_lines sub (own ++ line ∷ []) records) ws end) (sym (held_of-append sub (line ∷ []) records))
      (joined core next end sub (entries_of_lines sub own (line ∷ [])) (entries_of_lines sub (own ++ line ∷ []) records) (held_of sub (line ∷ [])) (held_of sub records) (here.made sub) (rest.made sub)));
  size = rest.size ∙ size;
  low = rest.low;
}

pub run_gives : (set : Setting) (own : List LineRecord) (world : WorldState) (core : CoreState) (events : List Event) (results : List Came) (last : WorldState) (end : CoreState) → AreSubscribers set.rows
    → LeadsTo set world core events results last end → Holds set own world core → RunGives set own world.net core events (event_records events results) last.net end
run_gives set own world core [] results last end are (none, same, is) holds = record {
  given = (refl, ap (λ (w : WorldState). w.net) same);
  made = λ sub. subst (λ (c : CoreState). IsStretch core sub [] [] c) (sym is) (stays core sub);
  size = ap (λ (c : CoreState). length c.words) is;
  low = subst AreLow (sym is) holds.low;
}
run_gives set own world core (e ∷ events) [] last end are leads holds = absurd leads
run_gives set own world core (e ∷ events) (result ∷ results) last end are (mid, next, step, more) holds =
    let line : LineRecord = record_for e result in
    let here : StepGives set own world.net core e line mid next = step_gives set own world core e result mid next are step holds in
    more_gives set own world.net core e events line (event_records events results) mid next last.net end step.subs here
    (run_gives set (own ++ line ∷ []) mid next events results last end are more here.holds)
