use Rattle.auc_text.specs.Text.{words_of}
use Rattle.auc_reading.specs.JobLine.{auts_of, cut_of, deliver_of, draw_of, eps_of, give_of, give_up_of, sync_of, tamper_of}
use Rattle.auc_reading.proofs.LineLemmas.{known_said, line_said, says_same}
use Rattle.auc_reading.proofs.job_line.read_line.Goals as goal

pub returns-in-Draw-clause-value : goal.returns-in-Draw-clause-value
returns-in-Draw-clause-value c = rw (c.in-Draw.is, c.said.ensures, c.read_draw.ensures.value) (says_same (draw_of c.args.subs.now (words_of c.args.fields.now)))

pub returns-in-Draw-clause-known : goal.returns-in-Draw-clause-known
returns-in-Draw-clause-known c = rw c.said.ensures (known_said c.args.subs.now c.read_draw.result c.read_draw.ensures.line)

pub returns-in-Draw-clause-line : goal.returns-in-Draw-clause-line
returns-in-Draw-clause-line c = rw c.said.ensures (line_said c.args.subs.now c.read_draw.result c.read_draw.ensures.line)

pub returns-in-Sync-clause-value : goal.returns-in-Sync-clause-value
returns-in-Sync-clause-value c = rw (c.in-Sync.is, c.said-in-Sync.ensures, c.read_sync.ensures.value) (says_same (sync_of c.args.subs.now (words_of c.args.fields.now)))

pub returns-in-Sync-clause-known : goal.returns-in-Sync-clause-known
returns-in-Sync-clause-known c = rw c.said-in-Sync.ensures (known_said c.args.subs.now c.read_sync.result c.read_sync.ensures.line)

pub returns-in-Sync-clause-line : goal.returns-in-Sync-clause-line
returns-in-Sync-clause-line c = rw c.said-in-Sync.ensures (line_said c.args.subs.now c.read_sync.result c.read_sync.ensures.line)

pub returns-in-Auts-clause-value : goal.returns-in-Auts-clause-value
returns-in-Auts-clause-value c = rw (c.in-Auts.is, c.said-in-Auts.ensures, c.read_auts.ensures.value) (says_same (auts_of c.args.subs.now (words_of c.args.fields.now)))

pub returns-in-Auts-clause-known : goal.returns-in-Auts-clause-known
returns-in-Auts-clause-known c = rw c.said-in-Auts.ensures (known_said c.args.subs.now c.read_auts.result c.read_auts.ensures.line)

pub returns-in-Auts-clause-line : goal.returns-in-Auts-clause-line
returns-in-Auts-clause-line c = rw c.said-in-Auts.ensures (line_said c.args.subs.now c.read_auts.result c.read_auts.ensures.line)

pub returns-in-Give-clause-value : goal.returns-in-Give-clause-value
returns-in-Give-clause-value c = rw (c.in-Give.is, c.said-in-Give.ensures, c.read_give.ensures.value) (says_same (give_of c.args.subs.now (words_of c.args.fields.now)))

pub returns-in-Give-clause-known : goal.returns-in-Give-clause-known
returns-in-Give-clause-known c = rw c.said-in-Give.ensures (known_said c.args.subs.now c.read_give.result c.read_give.ensures.line)

pub returns-in-Give-clause-line : goal.returns-in-Give-clause-line
returns-in-Give-clause-line c = rw c.said-in-Give.ensures (line_said c.args.subs.now c.read_give.result c.read_give.ensures.line)

pub returns-in-Eps-clause-value : goal.returns-in-Eps-clause-value
returns-in-Eps-clause-value c = rw (c.in-Eps.is, c.said-in-Eps.ensures, c.read_eps.ensures.value) (says_same (eps_of c.args.subs.now (words_of c.args.fields.now)))

pub returns-in-Eps-clause-known : goal.returns-in-Eps-clause-known
returns-in-Eps-clause-known c = rw c.said-in-Eps.ensures (known_said c.args.subs.now c.read_eps.result c.read_eps.ensures.line)

pub returns-in-Eps-clause-line : goal.returns-in-Eps-clause-line
returns-in-Eps-clause-line c = rw c.said-in-Eps.ensures (line_said c.args.subs.now c.read_eps.result c.read_eps.ensures.line)

pub returns-in-Deliver-clause-value : goal.returns-in-Deliver-clause-value
returns-in-Deliver-clause-value c = rw (c.in-Deliver.is, c.said-in-Deliver.ensures, c.read_deliver.ensures.value) (says_same (deliver_of (words_of c.args.fields.now)))

pub returns-in-Deliver-clause-known : goal.returns-in-Deliver-clause-known
returns-in-Deliver-clause-known c = rw c.said-in-Deliver.ensures (known_said c.args.subs.now c.read_deliver.result (c.read_deliver.ensures.line c.args.subs.now))

pub returns-in-Deliver-clause-line : goal.returns-in-Deliver-clause-line
returns-in-Deliver-clause-line c = rw c.said-in-Deliver.ensures (line_said c.args.subs.now c.read_deliver.result (c.read_deliver.ensures.line c.args.subs.now))

pub returns-in-GiveUp-clause-value : goal.returns-in-GiveUp-clause-value
returns-in-GiveUp-clause-value c = rw (c.in-GiveUp.is, c.said-in-GiveUp.ensures, c.read_give_up.ensures.value) (says_same (give_up_of (words_of c.args.fields.now)))

pub returns-in-GiveUp-clause-known : goal.returns-in-GiveUp-clause-known
returns-in-GiveUp-clause-known c = rw c.said-in-GiveUp.ensures (known_said c.args.subs.now c.read_give_up.result (c.read_give_up.ensures.line c.args.subs.now))

pub returns-in-GiveUp-clause-line : goal.returns-in-GiveUp-clause-line
returns-in-GiveUp-clause-line c = rw c.said-in-GiveUp.ensures (line_said c.args.subs.now c.read_give_up.result (c.read_give_up.ensures.line c.args.subs.now))

pub returns-in-Tamper-clause-value : goal.returns-in-Tamper-clause-value
returns-in-Tamper-clause-value c = rw (c.in-Tamper.is, c.said-in-Tamper.ensures, c.read_tamper.ensures.value) (says_same (tamper_of (words_of c.args.fields.now)))

pub returns-in-Tamper-clause-known : goal.returns-in-Tamper-clause-known
returns-in-Tamper-clause-known c = rw c.said-in-Tamper.ensures (known_said c.args.subs.now c.read_tamper.result (c.read_tamper.ensures.line c.args.subs.now))

pub returns-in-Tamper-clause-line : goal.returns-in-Tamper-clause-line
returns-in-Tamper-clause-line c = rw c.said-in-Tamper.ensures (line_said c.args.subs.now c.read_tamper.result (c.read_tamper.ensures.line c.args.subs.now))

pub returns-in-Cut-clause-value : goal.returns-in-Cut-clause-value
returns-in-Cut-clause-value c = rw (c.in-Cut.is, c.said-in-Cut.ensures, c.read_cut.ensures.value) (says_same (cut_of (words_of c.args.fields.now)))

pub returns-in-Cut-clause-known : goal.returns-in-Cut-clause-known
returns-in-Cut-clause-known c = rw c.said-in-Cut.ensures (known_said c.args.subs.now c.read_cut.result (c.read_cut.ensures.line c.args.subs.now))

pub returns-in-Cut-clause-line : goal.returns-in-Cut-clause-line
returns-in-Cut-clause-line c = rw c.said-in-Cut.ensures (line_said c.args.subs.now c.read_cut.result (c.read_cut.ensures.line c.args.subs.now))
