-- What a session's line says, by its parts, for `read_session`.
use Rattle.std.proofs.Common.{ℕ, ◌≡◌, ◌&&◌, Bool, true, false, List, Result, Ok, refl}
use Rattle.std.specs.Option.{ok_or}
use Rattle.auc_memory.specs.Identity.{Identity, identity_of}
use Rattle.auc_hmac.specs.declared.method.Method.{Method}
use Rattle.auc_lines.specs.declared.part.Line.{Line}
use Rattle.auc_lines.specs.declared.part.Line.TheVariants.{Session}
use Rattle.auc_subs.specs.declared.row.Row.{Row}
use Rattle.auc_subs.specs.Subscriber.{place_of}
use Rattle.auc_subs.specs.Steps.{◌>>=◌}
use Rattle.auc_reading.specs.declared.refusal.ScriptWhy.{ScriptWhy}
use Rattle.auc_reading.specs.declared.refusal.ScriptWhy.TheVariants.{Fields, UnknownSubscriber}
use Rattle.auc_reading.specs.Field.{number_between, require}
use Rattle.auc_reading.specs.Numbers.{last_session}
use Rattle.auc_reading.specs.JobLine.{session_of}
use Rattle.auc_reading.specs.SessionLine.{SessionFields, are_names, are_options, is_identity, method_in, session_line, seven_fields}

-- three tests of one cause are one test
three_tests : (a b c : Bool) (next : Result Line ScriptWhy) → (require a Fields >>= λ names. require b Fields >>= λ options. require c Fields >>= λ first. next)
    ≡ (require (a && b && c) Fields >>= λ fit. next)
three_tests true true true next = refl
three_tests true true false next = refl
three_tests true false c next = refl
three_tests false b c next = refl

-- what the line says, by its number, its subscriber's identity and its method
pub session_by : (rows : List Row) (fields : List (List ℕ)) (f : SessionFields) (session : ℕ) (imsi : Identity) (method : Method) → seven_fields fields ≡ Ok f
    → Ok session ≡ number_between 1 last_session f.session → Ok imsi ≡ ok_or (identity_of f.imsi) Fields → Ok method ≡ ok_or (method_in f.method) Fields
    → session_of rows fields ≡ (require (are_names method f.sname f.pname && are_options f.options && is_identity f.identity) Fields
    >>= λ fit. ok_or (place_of rows imsi) UnknownSubscriber >>= λ sub. Ok (Session (session_line session sub method f)))
session_by rows fields f session imsi method is number identity which =
    rw (is, ← number, ← identity, ← which)
    (three_tests (are_names method f.sname f.pname) (are_options f.options) (is_identity f.identity) (ok_or (place_of rows imsi) UnknownSubscriber >>= λ sub. Ok (Session (session_line session sub method f))))
