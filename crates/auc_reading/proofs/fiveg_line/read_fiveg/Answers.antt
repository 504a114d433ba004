use Rattle.std.proofs.Common.{rules, ◌<◌, length}
use Rattle.std.specs.Option.{option_copied}
use Rattle.auc_reading.proofs.FivegLemmas.{names_from, star_bit}
use Rattle.auc_reading.specs.FivegLine.{FivegFields}
use Rattle.auc_reading.specs.InnerFields.{all_five}
use Rattle.auc_reading.proofs.fiveg_line.read_fiveg.Goals as goal

pub returns-clause-line : goal.returns-clause-line
returns-clause-line c = λ fit.
    let fields : FivegFields = all_five c.in_ok-imsi.imsi.now c.in_ok-imsi.home.now c.in_ok-imsi.device.now c.in_ok-imsi.bit.now (option_copied c.in_ok-imsi.fifth) in
    let names = names_from c.args.fields.now fields c.in_ok-home.home c.in_ok-home.device c.in_ok-imsi.ensures c.in_ok-home.ensures.home c.in_ok-home.ensures.device fit in
    let known : c.in_ok-sub.sub < length c.args.subs.now = search rules in
    (known, names.0, names.1, star_bit c.in_ok-bit.bit c.in_ok-bit.ensures.bit)
