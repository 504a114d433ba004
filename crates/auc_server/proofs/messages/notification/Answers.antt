use Rattle.std.proofs.Common.{◌≤◌, true, List, length, sym, subst}
use Rattle.auc_attr.specs.declared.attr.Attr.{Attr}
use Rattle.auc_packet.specs.declared.packet.Packet.TheVariants as packet
use Rattle.auc_packet.specs.declared.subtype.Subtype.TheVariants as subtype
use Rattle.auc_packet.specs.Spelling.{MayBeWritten, packet_text}
use Rattle.auc_server.proofs.MessageLemmas.{notification_may, notification_size}
use Rattle.auc_server.proofs.messages.notification.Goals as goal

pub message-requires-clause-writable : goal.message-requires-clause-writable
message-requires-clause-writable c =
    subst (λ (list : List Attr). MayBeWritten (packet.Aka true c.args.id c.args.method subtype.Notification list)) (sym c.one.ensures) (notification_may c.args.method c.args.id)

pub message-requires-clause-small : goal.message-requires-clause-small
message-requires-clause-small c =
    subst (λ (list : List Attr). length (packet_text (packet.Aka true c.args.id c.args.method subtype.Notification list)) ≤ 728) (sym c.one.ensures) (notification_size c.args.method c.args.id)
