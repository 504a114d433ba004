-- Words that are decimal numbers, or octets in hexadecimal digits. A word is the list of its bytes.
use Rattle.std.specs.Prelude.{ℕ, ◌&&◌, nat_le, List, length, Option, Some, None, if◌then◌else◌}
use Rattle.std.specs.List.{list_all}
use Rattle.std.specs.Char.{is_ascii_digit}
use Rattle.std.specs.Result.{result_ok}
use Rattle.auc_memory.specs.Identity.{number_of}
use Rattle.hex.specs.Hex.{decode_sized}

-- the number that 1 to `digits` decimal digits are, if it is at most the greatest
abbrev pub number_in : ℕ → ℕ → List ℕ → Option ℕ
number_in digits greatest text =
    if nat_le 1 (length text) && nat_le (length text) digits && list_all is_ascii_digit text
    && nat_le (number_of text) greatest
    then Some (number_of text) else None

-- the `count` bytes that twice as many hexadecimal digits of either case are
abbrev pub octets_in : ℕ → List ℕ → Option (List ℕ)
octets_in count text = result_ok (decode_sized text count)
