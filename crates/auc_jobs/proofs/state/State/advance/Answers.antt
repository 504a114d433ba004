use Rattle.std.proofs.Common.{◌∙◌, ◌++◌, ◌<◌, ◌≤◌, ℕ, List, ap, fold, length, slice_index, subst, sym}
use Rattle.auc_cards.specs.Stores.{put_own}
use Rattle.auc_subs.specs.Subscriber.{top_at}
use Rattle.auc_record.specs.Lines.{all_lines}
use Rattle.auc_record.specs.declared.record.LineRecord.{LineRecord}
use Rattle.auc_jobs.specs.InnerUsims.{ArePutBack}
use Rattle.auc_record.specs.Released.{AreReleased}
use Rattle.auc_jobs.specs.State.{Standing}
use Rattle.auc_jobs.proofs.state.State.advance.Goals as goal

pub returns-clause-advanced : goal.returns-clause-advanced
returns-clause-advanced c =
    let same = c.in_ok-openings.ensures.items_if_clones_equal (λ x y is. is) ∙ c.as_slice.ensures in
    record {
      opened = same ∙ c.in_ok-opened.ensures.value;
      within = subst (λ (words : List ℕ). (sub : ℕ) → sub < length c.args.subs.now → slice_index words sub ≤ top_at c.args.subs.now sub) (sym same) c.in_ok-opened.ensures.bound;
      put = subst (λ (s : Standing). ArePutBack s.usims c.args.devices.now c.put_back.new.self.usims) c.self.view_is c.put_back.ensures.usims;
      keeps = c.put_back.ensures.kept ∙ ap (λ (s : Standing). fold put_own s.kept c.args.devices.now) c.self.view_is;
      noted = subst (λ (s : Standing). (before : List LineRecord) → AreReleased s.released before → AreReleased c.note_all.new.released (before ++ all_lines c.args.records.now)) c.self.view_is
          c.in_ok-note_all.ensures.noted;
    }
