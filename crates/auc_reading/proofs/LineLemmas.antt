-- What is known of a line that was read without memory, for `read_line`.
use Rattle.std.proofs.Common.{◌≡◌, ◌<◌, true, List, length, Result, Ok, Err, IfOk, IfSome, refl}
use Rattle.auc_subs.specs.declared.row.Row.{Row}
use Rattle.auc_lines.specs.declared.part.Line.{Line}
use Rattle.auc_lines.specs.declared.part.Line.TheVariants.{Draw, Give, Sync, Eps, Fiveg, Sites, Sim, Session, Start, Deliver, Repeat, GiveUp, Plain, Tamper, Cut}
use Rattle.auc_lines.specs.Part.{held_by}
use Rattle.auc_reading.specs.declared.refusal.ScriptWhy.{ScriptWhy}
use Rattle.auc_reading.specs.Refusal.{Says}
use Rattle.auc_reading.specs.InnerRefusal.{as_said}
use Rattle.auc_reading.specs.Ranges.{IsLine}
use Rattle.auc_reading.specs.Texts.{has_fit_texts}

-- what was read is what it should say
pub says_same : {A : Type 0} (read : Result A ScriptWhy) → Says read (as_said read)
says_same (Ok part) = refl
says_same (Err why) = refl

-- there is the subscriber whose USIM a line holds
known_line : (rows : List Row) (line : Line) → IsLine rows line → IfSome (held_by line) (λ sub. sub < length rows)
known_line rows (Draw sub count) is = tt
known_line rows (Sync sub report count) is = tt
known_line rows (Give sub number) is = is.0
known_line rows (Eps sub snid) is = tt
known_line rows (Fiveg line) is = is.0
known_line rows (Sites line) is = tt
known_line rows (Sim line) is = tt
known_line rows (Session line) is = is.0
known_line rows (Start session) is = tt
known_line rows (Deliver session end packet) is = tt
known_line rows (Repeat session) is = tt
known_line rows (GiveUp session end) is = tt
known_line rows (Plain session) is = tt
known_line rows (Tamper packet place byte) is = tt
known_line rows (Cut packet length) is = tt

pub known_said : (rows : List Row) (read : Result Line ScriptWhy) → IfOk read (IsLine rows) → IfOk (as_said read) (λ line. IfSome (held_by line) (λ sub. sub < length rows))
known_said rows (Ok line) is = known_line rows line is
known_said rows (Err why) is = tt

-- and the line is within its ranges, its texts too
pub line_said : (rows : List Row) (read : Result Line ScriptWhy) → IfOk read (IsLine rows) → IfOk (as_said read) (λ line. has_fit_texts line ≡ true → IsLine rows line)
line_said rows (Ok line) is = λ fit. is
line_said rows (Err why) is = tt
