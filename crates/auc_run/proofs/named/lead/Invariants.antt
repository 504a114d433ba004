use Rattle.std.proofs.Common.{◌≡◌, take}
use Rattle.auc_named.specs.Named.{put_words}
use Rattle.auc_run.proofs.named.lead.Given as goal

abbrev pub invariant-loop-i : goal.invariant-loop-i
invariant-loop-i l = l.state ≡ record l.initial.state { words = put_words l.initial.state.words (take l.i l.places) (take l.i l.next.words) }
