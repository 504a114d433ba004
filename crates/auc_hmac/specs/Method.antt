-- The EAP types of the methods.
use Rattle.std.specs.Prelude.{ℕ}
use Rattle.auc_hmac.specs.declared.method.Method.{Method}
use Rattle.auc_hmac.specs.declared.method.Method.TheVariants as methods

-- the EAP type of a method (RFC 4187 §8.1, RFC 9048 §3)
abbrev pub method_type : Method → ℕ
method_type methods.Aka = 23
method_type methods.Prime = 50
