use Rattle.std.proofs.Common.{◌≡◌, ◌-◌, length, take}
use Rattle.sha1.specs.Sha1.{first_words, schedule}
use Rattle.auc_prf.proofs.schedule.schedule.Given as goal

-- the block's own words so far
abbrev pub invariant-own : goal.invariant-own
invariant-own l = (length l.words ≡ 80) × (take l.t l.words ≡ first_words l.block l.t)

-- the words so far
abbrev pub invariant-further : goal.invariant-further
invariant-further l = (length l.words ≡ 80) × (take l.t l.words ≡ schedule l.block (l.t - 16))
