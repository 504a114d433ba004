use Rattle.std.proofs.Common.{◌≡◌, List, None, length}
use Rattle.auc_draw.specs.Book.{IsOf}
use Rattle.auc_record.specs.declared.record.LineRecord.{LineRecord}
use Rattle.auc_jobs.specs.InnerClaims.{IsBetween}
use Rattle.auc_jobs.specs.InnerSharing.{IsAfter}
use Rattle.auc_jobs.proofs.claiming.serve_claims.Given as goal

abbrev pub invariant-loop-turn : goal.invariant-loop-turn
invariant-loop-turn g l = record {
  own : IsOf l.initial.pass.id l.initial.pass.tops l.pass;
  claims : l.pass.ended ≡ None;
  many : length l.done.items ≡ l._turn;
  stands : (early : List LineRecord) → IsAfter l.shared.round.now early → IsBetween l.shared.round.now early l.pass l.done.items;
}
