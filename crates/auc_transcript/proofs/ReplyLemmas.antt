-- For OneTold: what a server makes of the reply to its re-authentication follows from what it received.
use Rattle.std.proofs.Common.{◌≡◌, ℕ, List, Option, Result, Ok, Err, sym, ap, ◌∙◌, subst}
use Rattle.auc_attr.specs.declared.attr.Attr.{Attr}
use Rattle.auc_attr.specs.declared.refusal.AttrRefusal.{AttrRefusal}
use Rattle.auc_attr.specs.Item.{Item}
use Rattle.auc_attr.specs.Laws.{OneWalk}
use Rattle.auc_attr.specs.Value.{IsValueIn, value_of}
use Rattle.auc_packet.specs.declared.packet.Packet.TheVariants as packet
use Rattle.auc_packet.specs.declared.received.Reading.{Reading}
use Rattle.auc_packet.specs.declared.received.Reading.TheVariants as reading
use Rattle.auc_request.specs.Request.{number_in}
use Rattle.auc_seal.specs.Laws.{OneOpening}
use Rattle.auc_seal.specs.declared.refusal.SealRefusal.{SealRefusal}
use Rattle.auc_server.specs.Replies.{Counts, IsReply, IsReplyBy, IsReplyIn, Replies, reply_of}
use Rattle.auc_server.specs.declared.reply.Reply.{Reply}
use Rattle.auc_server.specs.declared.server.Resumed.{Resumed}
use Rattle.auc_server.specs.declared.server.ServerState.{ServerState}
use Rattle.auc_server.specs.declared.server.ServerState.TheVariants as state

-- the value of a type has one answer
value_of_bytes : OneWalk → (kind : ℕ) (bytes : List ℕ) (x y : Option (List ℕ)) → IsValueIn kind bytes x → IsValueIn kind bytes y → x ≡ y
value_of_bytes walk kind bytes x y v w =
    let same = walk bytes v.0 w.0 v.1 w.1 v.2 w.2 in
    v.3 ∙ ap (λ (is : List Item). value_of kind v.1 is) same.0 ∙ ap (λ (end : Option AttrRefusal). value_of kind end w.0) same.1 ∙ sym w.3

value_once : OneWalk → (kind : ℕ) (bytes other : List ℕ) (x y : Option (List ℕ)) → bytes ≡ other → IsValueIn kind bytes x → IsValueIn kind other y → x ≡ y
value_once walk kind bytes other x y e v w = value_of_bytes walk kind bytes x y v (subst (λ (t : List ℕ). IsValueIn kind t y) (sym e) w)

-- so has the reply in decrypted attributes
counts_once : OneWalk → (counter : ℕ) (bytes other : List ℕ) (a b : Reply) → bytes ≡ other → Counts counter bytes a → Counts counter other b → a ≡ b
counts_once walk counter bytes other a b e c d =
    let found : c.found ≡ d.found = c.number.same ∙ ap number_in (value_once walk 19 bytes other c.number.value d.number.value e c.number.there d.number.there) ∙ sym d.number.same in
    c.is ∙ ap (λ (n : Option ℕ). reply_of counter n c.value) found ∙ ap (reply_of counter d.found) (value_once walk 20 bytes other c.value d.value e c.small d.small) ∙ sym d.is

ok_same : (bytes other : List ℕ) → ◌≡◌ {A = Result (List ℕ) SealRefusal} (Ok bytes) (Ok other) → bytes ≡ other
ok_same bytes other e = cc

ok_or_err : (bytes : List ℕ) (refused : SealRefusal) → ◌≡◌ {A = Result (List ℕ) SealRefusal} (Ok bytes) (Err refused) → ⊥
ok_or_err bytes refused e = cc

by_once : OneWalk → (counter : ℕ) (x y : Result (List ℕ) SealRefusal) (a b : Reply) → x ≡ y → IsReplyBy counter x a → IsReplyBy counter y b → a ≡ b
by_once walk counter (Ok bytes) (Ok other) a b e f g = counts_once walk counter bytes other a b (ok_same bytes other e) f g
by_once walk counter (Err refused) (Err other) a b e f g = f ∙ sym g
by_once walk counter (Ok bytes) (Err refused) a b e f g = absurd (ok_or_err bytes refused e)
by_once walk counter (Err refused) (Ok bytes) a b e f g = absurd (ok_or_err bytes refused (sym e))

reply_once : OneWalk → OneOpening → (k_encr : List ℕ) (counter : ℕ) (list : List Attr) (a b : Reply) → IsReply k_encr counter list a → IsReply k_encr counter list b → a ≡ b
reply_once walk one k_encr counter list a b f g = by_once walk counter f.opened g.opened a b (one k_encr list f.opened g.opened f.opens g.opens) f.is g.is

in_once : OneWalk → OneOpening → (sent : Resumed) (r : Reading) (a b : Reply) → IsReplyIn sent r a → IsReplyIn sent r b → a ≡ b
in_once walk one sent (reading.Read (packet.Aka request id m kind list)) a b f g = reply_once walk one sent.context.k_encr sent.context.counter list a b f g
in_once walk one sent (reading.Read (packet.Identity request id text)) a b f g = f ∙ sym g
in_once walk one sent (reading.Read (packet.Success id)) a b f g = f ∙ sym g
in_once walk one sent (reading.Read (packet.Failure id)) a b f g = f ∙ sym g
in_once walk one sent (reading.Fault fault) a b f g = f ∙ sym g

-- a reply is one
pub replies_once : OneWalk → OneOpening → (now : ServerState) (r : Reading) (a b : Reply) → Replies now r a → Replies now r b → a ≡ b
replies_once walk one (state.AwaitReauth sent) r a b f g = in_once walk one sent r a b f g
replies_once walk one state.AwaitIdentity r a b f g = f ∙ sym g
replies_once walk one (state.Await kind) r a b f g = f ∙ sym g
replies_once walk one (state.AwaitChallenge sent before) r a b f g = f ∙ sym g
replies_once walk one (state.Notifying cause last) r a b f g = f ∙ sym g
replies_once walk one (state.Ended result last) r a b f g = f ∙ sym g
