use Rattle.std.proofs.Common.{ℕ, List, refl, subst}
use Rattle.auc_ident.specs.Names.{names_key}
use Rattle.auc_journal.specs.Journal.{limits_of}
use Rattle.auc_lines.specs.declared.part.Part.{Part}
use Rattle.auc_subs.specs.Setting.{Setting}
use Rattle.auc_world.specs.Transcript.{beginning}
use Rattle.auc_refusal.specs.Refusal.{status_in}
use Rattle.auc_run.specs.Inner.{RunsParts}
use Rattle.auc_run.specs.Output.{setting_of}
use Rattle.auc_run.proofs.OutputLemmas.{Serving-nothing}
use Rattle.auc_run.proofs.StandLemmas.{begins_stand}
use Rattle.auc_run.proofs.rounds.serve_parts.Goals as goal

pub returns-in_default-clause-ran : goal.returns-in_default-clause-ran
returns-in_default-clause-ran g c = λ from begins.
    rw c.refused.ensures.refused
    (Serving-nothing g.D.Disk.seen g.D.Disk.may_leave g.D.Disk.moment g.D.Disk.left_since g.D.Disk.faults (setting_of c.args.subs.now c.args.script.now) c.args.script.now.full from c.args.journal c.args.script.now.parts
    c.refused.result.disk (g.K.Sink.written c.args.out.now) begins c.refused.ensures.disk)

pub serve_all-requires-clause-stands : goal.serve_all-requires-clause-stands
serve_all-requires-clause-stands g c = λ κs within.
    let set : Setting = record { key = c.new-rands.result; names = c.new-names.result; rows = c.args.subs.now; realm = c.as_slice.result.now } in
    let reserved = limits_of c.args.journal in (
      c.requires.journal.0,
      reserved,
      beginning c.args.subs.now reserved,
      begins_stand g.D.Disk.seen g.D.Disk.may_leave g.D.Disk.moment g.D.Disk.left_since g.D.Disk.faults set c.requires.journal.0 c.in-Ok.state c.args.journal c.requires.journal.1 c.in-Ok.ensures.opened c.in-Ok.ensures.names (c.in-Ok.ensures.stands set refl) c.in-Ok.ensures.limits,
    )

pub returns-clause-ran : goal.returns-clause-ran
returns-clause-ran g c = λ from begins.
    let rows = c.args.subs.now in
    let script = c.args.script.now in
    let full = script.full in
    let set : Setting = record { key = c.new-rands.result; names = c.new-names.result; rows = rows; realm = c.as_slice.result.now } in
    let reserved = limits_of c.args.journal in
    let begin = beginning rows reserved in
    let ended = status_in c.serve_all.result.result in
    let disk = c.serve_all.result.disk in
    let old = g.K.Sink.written c.args.out.now in
    let new = g.K.Sink.written c.serve_all.new.out in
    let ran = c.serve_all.ensures.ran from reserved begin
    (begins_stand g.D.Disk.seen g.D.Disk.may_leave g.D.Disk.moment g.D.Disk.left_since g.D.Disk.faults set from c.in-Ok.state c.args.journal begins c.in-Ok.ensures.opened c.in-Ok.ensures.names (c.in-Ok.ensures.stands set refl) c.in-Ok.ensures.limits) in
    let of_script = subst (λ (parts : List Part). RunsParts g.D.Disk.seen g.D.Disk.may_leave g.D.Disk.moment g.D.Disk.left_since set full from reserved begin parts ended disk old new) c.as_slice-2.ensures ran in
    let of_key = subst (λ (key : List ℕ). RunsParts g.D.Disk.seen g.D.Disk.may_leave g.D.Disk.moment g.D.Disk.left_since (record { key = key; names = c.new-names.result; rows = rows; realm = c.as_slice.result.now }) full from reserved begin script.parts ended disk old new)
    c.new-rands.ensures of_script in
    let of_names = subst (λ (names : List ℕ). RunsParts g.D.Disk.seen g.D.Disk.may_leave g.D.Disk.moment g.D.Disk.left_since (record { key = script.key; names = names; rows = rows; realm = c.as_slice.result.now }) full from reserved begin script.parts ended disk old new)
    c.new-names.ensures of_key in
    subst (λ (r : List ℕ). RunsParts g.D.Disk.seen g.D.Disk.may_leave g.D.Disk.moment g.D.Disk.left_since (record { key = script.key; names = names_key script.key; rows = rows; realm = r }) full from reserved begin script.parts ended disk old new) c.as_slice.ensures of_names
