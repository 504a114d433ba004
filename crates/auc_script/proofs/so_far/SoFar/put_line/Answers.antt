use Rattle.std.proofs.Common.{◌∙◌, arith}
use Rattle.auc_text.specs.Text.{words_of}
use Rattle.auc_script.specs.InnerSoFar.{scenario, with_line}
use Rattle.auc_script.proofs.SoFarLemmas.{all_pass, job_room, kept_line_at, line_is, none_opened, passes_with, ready, refused_line}
use Rattle.auc_script.proofs.so_far.SoFar.put_line.Goals as goal

pub asked_with-requires : goal.asked_with-requires
asked_with-requires c = ready c.args.subs.now c.args.self.now c.in-Some.round c.in-Some-job.field-0 c.in_ok-line.line c.requires (cc c.in-Some.is) (cc c.in-Some-job.is) c.in_ok-line.ensures.known c.in_ok-line.ensures.line

pub note-requires : goal.note-requires
note-requires c = record {
  known = (ready c.args.subs.now c.args.self.now c.in-Some.round c.in-Some-job.field-0 c.in_ok-line.line c.requires (cc c.in-Some.is) (cc c.in-Some-job.is) c.in_ok-line.ensures.known c.in_ok-line.ensures.line).known;
  room = omega (arith, job_room c.args.subs.now c.args.self.now c.in-Some.round (cc c.in-Some.is) c.requires);
}

pub note-noted-requires : goal.note-noted-requires
note-noted-requires c =
    let passes = passes_with c.args.subs.now c.args.self.now c.in-Some.round c.in_ok-line.line c.in-Ok.asked c.in_ok-line.ensures.line c.in-Ok.ensures in
    record {
      order = passes.0.order;
      known = none_opened c.args.subs.now c.args.self.now c.in-Some.round c.in-Some-job.field-0 c.requires (cc c.in-Some.is) (cc c.in-Some-job.is);
      room = omega (arith, passes.0.packets);
    }

pub returns-in_ok-noted-in-Ok-clause-becomes : goal.returns-in_ok-noted-in-Ok-clause-becomes
returns-in_ok-noted-in-Ok-clause-becomes c =
    let passes = passes_with c.args.subs.now c.args.self.now c.in-Some.round c.in_ok-line.line c.in-Ok.asked c.in_ok-line.ensures.line c.in-Ok.ensures in
    rw c.in_ok-put_in_round-in-Ok.ensures (line_is c.args.subs.now c.args.self.now c.args.word (words_of c.args.fields.now) c.in-Some.round c.in-Some-job.field-0 c.in_ok-line.line c.requires (cc c.in-Some.is) (cc c.in-Some-job.is) c.in_ok-line.ensures.value
    ∙ all_pass c.args.subs.now c.args.self.now c.in-Some.round.jobs c.in_ok-line.line (record (scenario c.args.subs.now c.args.self.now) { round = with_line c.args.self.now.round c.in_ok-line.line }) passes.0)

pub returns-in_ok-noted-in-Ok-clause-kept : goal.returns-in_ok-noted-in-Ok-clause-kept
returns-in_ok-noted-in-Ok-clause-kept c =
    let passes = passes_with c.args.subs.now c.args.self.now c.in-Some.round c.in_ok-line.line c.in-Ok.asked c.in_ok-line.ensures.line c.in-Ok.ensures in
    kept_line_at c.args.subs.now c.args.self.now c.in-Some.round c.in-Some-job.field-0 c.in_ok-line.line c.put_in_round.new.round c.in-Ok.asked c.note.new.self c.note-noted.new.self c.requires (cc c.in-Some.is) (cc c.in-Some-job.is) passes.0 passes.1 c.note.ensures.before c.note.ensures.marks (rw c.in_ok-noted-in-Ok.was at c.note-noted.ensures) c.in_ok-put_in_round-in-Ok.ensures

pub returns-in-Err-clause-becomes : goal.returns-in-Err-clause-becomes
returns-in-Err-clause-becomes c =
    refused_line c.args.subs.now c.args.self.now c.args.word (words_of c.args.fields.now) c.in-Some.round c.in-Some-job.field-0 c.in_ok-line.line c.in-Err.why c.requires (cc c.in-Some.is) (cc c.in-Some-job.is) c.in_ok-line.ensures.value c.in-Err.ensures
