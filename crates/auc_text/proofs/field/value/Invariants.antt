use Rattle.std.proofs.Common.{◌≡◌, ◌<◌, ◌^◌, take}
use Rattle.auc_memory.specs.Identity.{number_of}
use Rattle.auc_text.proofs.field.value.Given as goal

abbrev pub invariant-loop-byte : goal.invariant-loop-byte
invariant-loop-byte l = record { value : l.number ≡ number_of (take l.byte-index l.text); below : l.number < 10 ^ l.byte-index }
