use Rattle.std.proofs.Common.{refl}
use Rattle.std.proofs.lemmas.Result.{err_from_is_err_and}
use Rattle.std.specs.Option.{option_copied}
use Rattle.auc_input.proofs.TurnLemmas.{turns_none}
use Rattle.auc_input.proofs.HeaderLemmas.{early_header, early_subscribers}
use Rattle.auc_input.proofs.header.read_header.Goals as goal

pub returns-in_err-subs-clause-refused : goal.returns-in_err-subs-clause-refused
returns-in_err-subs-clause-refused g c = λ seen.
    let now = g.W.Wire.turns c.args.wire.now in
    let p = err_from_is_err_and c.from_residual.result c.from_residual.ensures.1 in
    rw (p.1, p.2) (early_subscribers (g.H.Shelf.files c.args.shelf.now) (option_copied c.args.form.now.subscribers) seen c.in_err-subs.field-0.0 now (turns_none now now refl) c.in_err-subs.ensures.refused)

pub returns-in_err-script-clause-refused : goal.returns-in_err-script-clause-refused
returns-in_err-script-clause-refused g c = λ seen.
    let p = err_from_is_err_and c.from_residual-in_err-script.result c.from_residual-in_err-script.ensures.1 in
    rw (p.1, p.2) (early_header (g.H.Shelf.files c.args.shelf.now) (option_copied c.args.form.now.subscribers) seen c.in_ok-subs.subs c.in_err-script.field-0.0
    (g.W.Wire.turns c.args.wire.now) (g.W.Wire.turns c.hear_header.new.wire) c.in_ok-subs.ensures.read c.in_err-script.ensures.refused)
