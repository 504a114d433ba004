use Rattle.std.proofs.Common.{◌+◌, ◌∷◌, ◌∙◌, drop, ap, subst, sym, refl, arith}
use Rattle.std.proofs.lemmas.List.{drop_more, drop_all}
use Rattle.auc_lines.specs.declared.part.Part.{Part}
use Rattle.auc_edge.specs.Sink.{Appends, AppendsFront}
use Rattle.auc_refusal.specs.Refusal.{status_of}
use Rattle.auc_refusal.specs.declared.status.Status.TheVariants as status
use Rattle.auc_run.proofs.OutputLemmas.{IfErr-at, OnErr-at, OnOk-at, Serving-all, Serving-none, Serving-part, Serving-stops, done_full, not_done, write_full}
use Rattle.auc_run.proofs.rounds.serve_all.Goals as goal

pub loop-part-init : goal.loop-part-init
loop-part-init g c = record {
  number = omega arith;
  quiet = refl;
  quiet_store = refl;
  serving = λ from reserved at on.
      Serving-none g.D.Disk.seen g.D.Disk.may_leave g.D.Disk.moment g.D.Disk.left_since c.args.options.now.set c.args.options.now.full from reserved at c.args.stand.number c.args.stand.state c.args.stand.journal c.args.stand.text
      c.args.parts.now (g.K.Sink.written c.args.out.now) on c.requires.text;
}

pub serve_part-next-requires-clause-stands : goal.serve_part-next-requires-clause-stands
serve_part-next-requires-clause-stands g c = λ κs within.
    let begin = c.requires.stands in
    let serving = c.loop-part.invariant.serving begin.0 begin.1 begin.2 begin.3 in
    (begin.0, begin.1, serving.mid, serving.on)

pub loop-part-preserved : goal.loop-part-preserved
loop-part-preserved g c =
    let before = c.loop-part.invariant in
    let number = c.serve_part-next.ensures.number in
    record {
      number = omega (arith, before.number, number);
      quiet = c.serve_part-next.ensures.output.same (λ same. cc (same, c.in-Ok.is)) ∙ before.quiet;
      quiet_store = c.serve_part-next.ensures.store.same (rw c.in-Ok.is tt) ∙ before.quiet_store;
      serving = λ from reserved at on.
          let serving = before.serving from reserved at on in
          Serving-part g.D.Disk.seen g.D.Disk.may_leave g.D.Disk.moment g.D.Disk.left_since c.args.options.now.set c.args.options.now.full from reserved at c.loop-part.stand.number c.serve_part-next.result.stand.number
          c.loop-part.stand.state c.serve_part-next.result.stand.state c.loop-part.stand.journal c.serve_part-next.result.stand.journal c.loop-part.stand.text c.serve_part-next.result.stand.text
          c.part-item.result (drop c.loop-part.part-index c.args.parts.now) (drop (c.loop-part.part-index + 1) c.args.parts.now) c.args.parts.now
          (g.K.Sink.written c.args.out.now) (g.K.Sink.written c.loop-part.out) (g.K.Sink.written c.serve_part-next.new.out)
          (drop_more _ _ c.part-item.result c.loop-part-test.true ∙ ap (λ (part : Part). part ∷ drop (c.loop-part.part-index + 1) c.args.parts.now) (sym c.part-item.is)) serving
          (OnOk-at c.serve_part-next.result.result c.in-Ok.field-0 _ (cc c.in-Ok.is) c.serve_part-next.ensures.goes from reserved serving.mid serving.on);
    }

pub returns-in-Err-clause-ran : goal.returns-in-Err-clause-ran
returns-in-Err-clause-ran g c = λ from reserved at on.
    let serving = c.loop-part.invariant.serving from reserved at on in
    Serving-stops g.D.Disk.seen g.D.Disk.may_leave g.D.Disk.moment g.D.Disk.left_since c.args.options.now.set c.args.options.now.full from reserved at c.loop-part.stand.number c.loop-part.stand.state c.loop-part.stand.journal
    c.serve_part-next.result.stand.journal c.loop-part.stand.text c.part-item.result (drop c.loop-part.part-index c.args.parts.now) (drop (c.loop-part.part-index + 1) c.args.parts.now) c.args.parts.now
    (status_of c.in-Err.refusal) c.into_disk.result (g.K.Sink.written c.args.out.now) (g.K.Sink.written c.loop-part.out) (g.K.Sink.written c.serve_part-next.new.out)
    (drop_more _ _ c.part-item.result c.loop-part-test.true ∙ ap (λ (part : Part). part ∷ drop (c.loop-part.part-index + 1) c.args.parts.now) (sym c.part-item.is)) serving (not_done c.in-Err.refusal)
    (IfErr-at c.serve_part-next.result.result c.in-Err.refusal _ (cc c.in-Err.is) c.serve_part-next.ensures.ends from reserved serving.mid serving.on) c.into_disk.ensures

pub returns-in-Ok-result-clause-ran : goal.returns-in-Ok-result-clause-ran
returns-in-Ok-result-clause-ran g c = λ from reserved at on.
    let serving = c.loop-part.invariant.serving from reserved at on in
    Serving-all g.D.Disk.seen g.D.Disk.may_leave g.D.Disk.moment g.D.Disk.left_since c.args.options.now.set c.args.options.now.full from reserved at c.loop-part.stand.number c.loop-part.stand.state c.loop-part.stand.journal c.loop-part.stand.text
    (drop c.loop-part.part-index c.args.parts.now) c.args.parts.now status.Done c.into_disk-disk.result (g.K.Sink.written c.args.out.now) (g.K.Sink.written c.loop-part.out) (g.K.Sink.written c.write_whole-result.new.out)
    (drop_all _ _ c.loop-part-test.false) serving
    (subst (Appends (g.K.Sink.written c.loop-part.out) (g.K.Sink.written c.write_whole-result.new.out)) c.as_slice.ensures (OnOk-at c.write_whole-result.result _ _ c.in-Ok-result.is c.write_whole-result.ensures.written))
    refl done_full c.into_disk-disk.ensures

pub returns-in-Err-result-clause-ran : goal.returns-in-Err-result-clause-ran
returns-in-Err-result-clause-ran g c = λ from reserved at on.
    let serving = c.loop-part.invariant.serving from reserved at on in
    Serving-all g.D.Disk.seen g.D.Disk.may_leave g.D.Disk.moment g.D.Disk.left_since c.args.options.now.set c.args.options.now.full from reserved at c.loop-part.stand.number c.loop-part.stand.state c.loop-part.stand.journal c.loop-part.stand.text
    (drop c.loop-part.part-index c.args.parts.now) c.args.parts.now status.WriteFault c.into_disk-disk.result (g.K.Sink.written c.args.out.now) (g.K.Sink.written c.loop-part.out) (g.K.Sink.written c.write_whole-result.new.out)
    (drop_all _ _ c.loop-part-test.false) serving
    (subst (AppendsFront (g.K.Sink.written c.loop-part.out) (g.K.Sink.written c.write_whole-result.new.out)) c.as_slice.ensures (OnErr-at c.write_whole-result.result _ _ c.in-Err-result.is c.write_whole-result.ensures.front))
    tt write_full c.into_disk-disk.ensures
