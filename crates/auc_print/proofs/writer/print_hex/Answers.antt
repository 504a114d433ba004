-- The digits of 16 bytes more were appended.
use Rattle.std.proofs.Common.{refl, arith}
use Rattle.std.proofs.lemmas.List.{length-drop, take_all}
use Rattle.auc_print.proofs.PieceLemmas.{digits_more}
use Rattle.auc_print.proofs.TextLemmas.{front_more}
use Rattle.auc_print.proofs.writer.print_hex.Goals as goal

pub loop-rest-preserved : goal.loop-rest-preserved
loop-rest-preserved c =
    let l = c.loop-rest in
    let appended = c.in_ok-append_hex_digits.ensures.appended in
    record {
      printed = digits_more 16 l.out _ _ c.args.bytes.now _ l.rest.now _ l.invariant.printed refl (take_all _ _ (omega (arith, length-drop 16 l.rest.now))) appended;
      grows = front_more _ _ _ l.invariant.grows (record { rest = _; is = appended });
    }
