use Rattle.std.proofs.Common.{rules}
use Rattle.auc_peer.proofs.MessageLemmas.{sync_short_of}
use Rattle.auc_peer.proofs.messages.sync_failure.Goals as goal

pub response-requires-clause-short : goal.response-requires-clause-short
response-requires-clause-short c = sync_short_of c.args.heading.method c.args.heading.id c.args.auts _ (search rules) c.sync_attrs-attrs.ensures
