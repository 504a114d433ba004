use Rattle.std.proofs.Common.{arith, rules, ◌≡◌, ◌≤◌, nat_le, true, length}
use Rattle.std.proofs.lemmas.Bool.Decides.{nat_tests}
use Rattle.auc_reading.specs.declared.refusal.ScriptWhy.TheVariants.{Fields}
use Rattle.auc_reading.proofs.FieldLemmas.{must_hold}
use Rattle.auc_reading.specs.SimLine.{delivery_of}
use Rattle.auc_reading.proofs.ScheduleLemmas.{count_of, few_read, schedule_by, some_read}
use Rattle.auc_reading.proofs.sim_line.read_steps.Goals as goal

pub returns-in_err-require-2-clause-value : goal.returns-in_err-require-2-clause-value
returns-in_err-require-2-clause-value c =
    let few = rw c.part_count.ensures.value at (must_hold (nat_le c.part_count.result 200) Fields c.in_ok-require.field-0 c.in_ok-require.ensures) in
    rw (schedule_by delivery_of c.args.schedule.now c.in_ok-texts.texts.items c.as_slice.result.now c.are_there.result few c.in_ok-texts.ensures c.as_slice.ensures.value c.are_there.ensures, ← c.in_err-require-2.ensures) (search rules)

pub returns-clause-value : goal.returns-clause-value
returns-clause-value c =
    let few = rw c.part_count.ensures.value at (must_hold (nat_le c.part_count.result 200) Fields c.in_ok-require.field-0 c.in_ok-require.ensures) in
    let whole : c.are_there.result ≡ true = must_hold c.are_there.result Fields c.in_ok-require-2.field-0 c.in_ok-require-2.ensures in
    rw (schedule_by delivery_of c.args.schedule.now c.in_ok-texts.texts.items c.as_slice.result.now c.are_there.result few c.in_ok-texts.ensures c.as_slice.ensures.value c.are_there.ensures, whole) (rw c.as_slice-2.ensures.value at c.read_deliveries.ensures.value)

pub returns-clause-some : goal.returns-clause-some
returns-clause-some c =
    let count = count_of c.args.schedule.now c.in_ok-texts.texts.items c.as_slice-2.result.now c.part_count.result c.part_count.ensures.value c.in_ok-texts.ensures c.as_slice-2.ensures.value in
    some_read c.read_deliveries.result (length c.as_slice-2.result.now) c.read_deliveries.ensures.count (omega (arith, count, c.part_count.ensures.some))

pub returns-clause-few : goal.returns-clause-few
returns-clause-few c =
    let count = count_of c.args.schedule.now c.in_ok-texts.texts.items c.as_slice-2.result.now c.part_count.result c.part_count.ensures.value c.in_ok-texts.ensures c.as_slice-2.ensures.value in
    let test = must_hold (nat_le c.part_count.result 200) Fields c.in_ok-require.field-0 c.in_ok-require.ensures in
    let few : c.part_count.result ≤ 200 = grind (arith, nat_tests) in
    few_read c.read_deliveries.result (length c.as_slice-2.result.now) c.read_deliveries.ensures.count (omega (arith, count, few))
