use Rattle.std.proofs.Common.{◌≡◌, ◌⊎◌, ℕ, List, Option, None, refl, sym, subst}
use Rattle.std.specs.Option.{option_copied}
use Rattle.auc_memory.specs.Faults.{Rose}
use Rattle.auc_run.specs.Crash.{MayHaveLeft, MayLeave}
use Rattle.auc_run.specs.Service.{EndsUnserved, ServesBlocks}
use Rattle.auc_input.specs.Words.{service_named}
use Rattle.auc_run.proofs.RememberLemmas.{remembers_told}
use Rattle.auc_run.proofs.ServiceTold.{read_named, read_refused, read_write, usage_unnamed}
use Rattle.auc_run.proofs.ServiceTop.{service_told}
use Rattle.auc_run.proofs.AlwaysLemmas.{always_same}
use Rattle.auc_run.proofs.service.serve.Goals as goal

pub returns-in_default-clause-usage_ran : goal.returns-in_default-clause-usage_ran
returns-in_default-clause-usage_ran g c = λ none.
    usage_unnamed c.say_refusal.result (g.W.Wire.turns c.args.wire.now) (g.W.Wire.turns c.say_refusal.new.wire) c.say_refusal.ensures.told (c.say_refusal.ensures.spared refl)

pub returns-in-Err-clause-ran : goal.returns-in-Err-clause-ran
returns-in-Err-clause-ran g c = λ subscribers named.
    let files = g.H.Shelf.files c.args.shelf.now in
    let seen = g.D.Disk.seen c.args.disk in
    let leaves = MayLeave g.D.Disk.seen g.D.Disk.may_leave c.args.disk c.serve_words-disk.result.disk in
    let ever = MayHaveLeft g.D.Disk.seen g.D.Disk.may_leave g.D.Disk.moment g.D.Disk.left_since c.args.disk c.serve_words-disk.result.disk in
    let old = g.W.Wire.turns c.args.wire.now in
    let new = g.W.Wire.turns c.say_refusal-in-Err.new.wire in
    let same : option_copied c.in-Some.form.subscribers ≡ subscribers = cc (c.in-Some.ensures, named) in
    subst (λ (s : Option (List ℕ)). ServesBlocks files s seen leaves ever c.say_refusal-in-Err.result old new ⊎ EndsUnserved files s seen c.say_refusal-in-Err.result old new) same
    (service_told files (option_copied c.in-Some.form.subscribers) seen leaves ever c.in-Err.refusal c.say_refusal-in-Err.result old (g.W.Wire.turns c.serve_words-disk.new.wire) new
    (rw c.in-Err.is at c.serve_words-disk.ensures.ran) c.say_refusal-in-Err.ensures.tells c.say_refusal-in-Err.ensures.wordless c.say_refusal-in-Err.ensures.told)

pub returns-in-Err-clause-remembers : goal.returns-in-Err-clause-remembers
returns-in-Err-clause-remembers g c =
    remembers_told g.D.Disk.seen g.D.Disk.may_leave c.in-Err.refusal c.say_refusal-in-Err.result c.args.disk c.serve_words-disk.result.disk None None
    (rw c.in-Err.is at c.serve_words-disk.ensures.remembers) c.say_refusal-in-Err.ensures.tells

pub returns-in-Err-clause-read_fault : goal.returns-in-Err-clause-read_fault
returns-in-Err-clause-read_fault g c = λ at.
    let is = read_refused c.in-Err.refusal c.say_refusal-in-Err.result c.say_refusal-in-Err.ensures.tells at in
    let quiet : g.W.Wire.faults c.say_refusal-in-Err.new.wire ≡ g.W.Wire.faults c.serve_words-disk.new.wire = c.say_refusal-in-Err.ensures.quiet (read_write c.say_refusal-in-Err.result at) in
    read_named (service_named c.args.words.now) (option_copied c.in-Some.form.subscribers) (g.W.Wire.faults c.args.wire.now) (g.W.Wire.faults c.serve_words-disk.new.wire) (g.W.Wire.faults c.say_refusal-in-Err.new.wire)
    (λ name. Rose (g.H.Shelf.faults c.args.shelf.now name) (g.H.Shelf.faults c.serve_words-disk.new.shelf name)) (sym c.in-Some.ensures) quiet
    ((rw (c.in-Err.is, is) at c.serve_words-disk.ensures.input.read) refl)

pub returns-in_default-clause-always : goal.returns-in_default-clause-always
returns-in_default-clause-always g c =
    let laws = g.met.D.Disk g.world.𝓛 g.world.𝓜 g.world.𝓡 ((λ s x. x), (λ x. x), (λ x. x), λ x. x) in
    always_same g.D.Disk.seen g.D.Disk.may_leave g.D.Disk.moment g.D.Disk.left_since laws.only_now c.args.disk c.args.disk refl
