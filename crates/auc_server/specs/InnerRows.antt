-- Which subscribers a row names, and what holds of the challenge or the re-authentication in it.
use Rattle.std.specs.Prelude.{◌≡◌, ◌≤◌, true, List}
use Rattle.auc_hmac.specs.declared.method.Method.{Method}
use Rattle.auc_reauth.specs.Store.{method_of}
use Rattle.auc_subs.specs.Subscriber.{top_at}
use Rattle.auc_subs.specs.declared.row.Row as rows
use Rattle.auc_server.specs.InnerServer.{HasNext}
use Rattle.auc_server.specs.Rows.{is_held}
use Rattle.auc_server.specs.declared.rows.Row.{Row}
use Rattle.auc_server.specs.declared.rows.Row.TheVariants as row
use Rattle.auc_server.specs.declared.setting.HomeRow.{HomeRow}

-- a subscriber that is named is one of the homes, and a SEQ is one of its numbers; master keys are of the session's method, and
-- a counter has a next one where it is needed
abbrev pub IsHeldRow : Method → List rows.Row → List HomeRow → Row → Type 0
IsHeldRow by all homes (row.Challenge sub) = is_held homes sub ≡ true
IsHeldRow by all homes (row.Resume sub) = is_held homes sub ≡ true
IsHeldRow by all homes (row.TooSmall sub) = is_held homes sub ≡ true
IsHeldRow by all homes (row.Resynchronise sub seq) = (is_held homes sub ≡ true) × (seq ≤ top_at all sub)
IsHeldRow by all homes (row.Success sent) = method_of sent.master ≡ by
IsHeldRow by all homes (row.Reauthenticated sent) = (method_of sent.context.master ≡ by) × HasNext sent
IsHeldRow by all homes other = Unit {0}
