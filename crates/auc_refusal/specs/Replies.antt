-- What a service replies to a block, beside the text of a round.
use Rattle.std.specs.List.{count_by}
use Rattle.std.specs.Prelude.{ℕ, ◌+◌, List, length, ◌∷◌, ◌++◌, [], codes, ◌==◌, nat_lt, if◌then◌else◌}
use Rattle.auc_reading.specs.declared.refusal.ScriptWhy.{ScriptWhy}
use Rattle.auc_refusal.specs.Refusal.{line_of}
use Rattle.auc_refusal.specs.declared.refusal.Refusal.TheVariants as refused
use Rattle.auc_reading.specs.declared.refusal.ScriptWhy.TheVariants as why

-- how many bytes a block may have, without its line `end`
abbrev pub most_block : ℕ
most_block = 1048576

-- the last line of each reply, and the reply to a header that is right
abbrev pub end_line : List ℕ
end_line = codes "end\n"

abbrev pub ready_reply : List ℕ
ready_reply = codes "ready\n" ++ end_line

-- the reply that refuses a line
abbrev pub refusal_reply : ℕ → ScriptWhy → List ℕ
refusal_reply line fault = line_of (refused.Scenario line fault) ++ end_line

-- the number of the last line of a text, from 1; the text ends in it, or with the LF before it
abbrev pub last_line : List ℕ → ℕ
last_line text = count_by (λ byte. byte == 10) text + 1

-- what is wrong with a block that the end of the input cuts off, by what was heard of it
abbrev pub cut_off : List ℕ → ℕ × ScriptWhy
cut_off left = if nat_lt most_block (length left) then (0, why.Limit) else (last_line left, why.Unfinished)

-- the reply to it; there is none if nothing of it was heard
abbrev pub reply_to_rest : List ℕ → List ℕ
reply_to_rest [] = []
reply_to_rest (byte ∷ more) = refusal_reply (cut_off (byte ∷ more)).0 (cut_off (byte ∷ more)).1
