use Rattle.auc_peer.proofs.MessageLemmas.{client_short_of, empty_short_of}
use Rattle.auc_peer.proofs.messages.plain_bytes.Goals as goal

pub response-requires-clause-short : goal.response-requires-clause-short
response-requires-clause-short c = client_short_of c.args.heading.method c.args.heading.id _ c.one-attrs.ensures

pub response-requires-in-Reject-clause-short : goal.response-requires-in-Reject-clause-short
response-requires-in-Reject-clause-short c = empty_short_of c.args.heading.method c.args.heading.id _ _ c.none-attrs.ensures

pub response-requires-in-Notified-clause-short : goal.response-requires-in-Notified-clause-short
response-requires-in-Notified-clause-short c = empty_short_of c.args.heading.method c.args.heading.id _ _ c.none-attrs-in-Notified.ensures
