use Rattle.std.proofs.Common.{arith}
use Rattle.auc_attr.proofs.FrontLemmas.{found_from, fits_from, shorter_from, fault_from, named_from}
use Rattle.auc_attr.proofs.front.item_at.Goals as goal

pub returns-clause-found : goal.returns-clause-found
returns-clause-found c = found_from c.args.table c.args.stood c.args.bytes.now _ c.requires (λ i. omega (arith, c.type_inv.bytes i)) c.item_by_steps.ensures

pub returns-clause-fits : goal.returns-clause-fits
returns-clause-fits c = fits_from c.args.table c.args.stood c.args.bytes.now _ c.requires (λ i. omega (arith, c.type_inv.bytes i)) c.item_by_steps.ensures

pub returns-clause-shorter : goal.returns-clause-shorter
returns-clause-shorter c = shorter_from c.args.table c.args.stood c.args.bytes.now _ c.requires (λ i. omega (arith, c.type_inv.bytes i)) c.item_by_steps.ensures

pub returns-clause-fault : goal.returns-clause-fault
returns-clause-fault c = fault_from c.args.table c.args.stood c.args.bytes.now _ c.requires c.item_by_steps.ensures

pub returns-clause-named : goal.returns-clause-named
returns-clause-named c = named_from c.args.table c.args.stood c.args.bytes.now _ c.requires c.item_by_steps.ensures
