use Rattle.std.proofs.Common.{◌≡◌, ◌^◌, ◌<◌, take}
use Rattle.auc_memory.specs.Identity.{number_of}
use Rattle.auc_memory.proofs.imsi.number_of.Given as goal

abbrev pub invariant-loop-digit : goal.invariant-loop-digit
invariant-loop-digit l = record { value : l.number ≡ number_of (take l.digit-index l.text); fits : l.number < 10 ^ l.digit-index }
