use Rattle.std.proofs.Common.{[], ◌++◌}
use Rattle.auc_hmac.proofs.Facts.{length-mac_of}
use Rattle.auc_hmac.specs.Mac.{no_mac}
use Rattle.auc_packet.specs.Sealed.{draft_mac, with_mac}
use Rattle.auc_packet.specs.Spelling.{packet_text}
use Rattle.auc_peer.specs.Messages.{draft_of}
use Rattle.auc_peer.proofs.MessageLemmas.{written_size}
use Rattle.auc_peer.proofs.messages.sealed_response.Goals as goal

pub returns-clause-size : goal.returns-clause-size
returns-clause-size c =
    let draft = draft_of c.args.heading.method c.args.heading.id c.args.attrs in
    written_size _ _ _ _ c.requires.empty c.put_sealed.ensures c.into_octets.ensures
    (c.requires.short.any (draft_mac c.args.k_aut.now [] draft) (length-mac_of c.args.heading.method c.args.k_aut.now (packet_text (with_mac draft no_mac) ++ [])))
