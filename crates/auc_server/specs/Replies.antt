-- What the response to a fast re-authentication has encrypted (RFC 4187 §9.8).
use Rattle.std.specs.Prelude.{◌≡◌, ℕ, ◌==◌, List, Option, Some, None, Result, Ok, Err, if◌then◌else◌}
use Rattle.auc_attr.specs.declared.attr.Attr.{Attr}
use Rattle.auc_attr.specs.Value.{IsValueIn}
use Rattle.auc_packet.specs.declared.packet.Packet.TheVariants as packet
use Rattle.auc_packet.specs.declared.received.Reading.{Reading}
use Rattle.auc_packet.specs.declared.received.Reading.TheVariants as reading
use Rattle.auc_request.specs.Request.{Has, number_in}
use Rattle.auc_seal.specs.Encrypted.{Opens}
use Rattle.auc_seal.specs.declared.refusal.SealRefusal.{SealRefusal}
use Rattle.auc_server.specs.declared.reply.Reply.{Reply}
use Rattle.auc_server.specs.declared.reply.Reply.TheVariants as reply
use Rattle.auc_server.specs.declared.server.Resumed.{Resumed}
use Rattle.auc_server.specs.declared.server.ServerState.{ServerState}
use Rattle.auc_server.specs.declared.server.ServerState.TheVariants as state

abbrev pub small_or_right : Option (List ℕ) → Reply
small_or_right None = reply.Right
small_or_right (Some value) = reply.TooSmall

-- the reply to a counter, by the counter in decrypted attributes and the value of AT_COUNTER_TOO_SMALL (RFC 4187 §10.16 and
-- §10.17)
abbrev pub reply_of : ℕ → Option ℕ → Option (List ℕ) → Reply
reply_of counter None value = reply.Wrong
reply_of counter (Some n) value = if n == counter then small_or_right value else reply.Wrong

pub record Counts (counter : ℕ) (bytes : List ℕ) (r : Reply) : Type 0 where
  pub found : Option ℕ
  pub number : Has number_in 19 bytes found
  pub value : Option (List ℕ)
  pub small : IsValueIn 20 bytes value
  pub is : r ≡ reply_of counter found value

-- the reply of what a list's encrypted attributes are under K_encr; if they can't be read, it is a wrong one
abbrev pub IsReplyBy : ℕ → Result (List ℕ) SealRefusal → Reply → Type 0
IsReplyBy counter (Ok bytes) r = Counts counter bytes r
IsReplyBy counter (Err refused) r = r ≡ reply.Wrong

pub record IsReply (k_encr : List ℕ) (counter : ℕ) (list : List Attr) (r : Reply) : Type 0 where
  pub opened : Result (List ℕ) SealRefusal
  pub opens : Opens k_encr list opened
  pub is : IsReplyBy counter opened r

-- of a message
abbrev pub IsReplyIn : Resumed → Reading → Reply → Type 0
IsReplyIn sent (reading.Read (packet.Aka request id m kind list)) r = IsReply sent.context.k_encr sent.context.counter list r
IsReplyIn sent other r = r ≡ reply.Wrong

-- while no answer to a re-authentication is awaited, nothing is decrypted
abbrev pub Replies : ServerState → Reading → Reply → Type 0
Replies (state.AwaitReauth sent) received r = IsReplyIn sent received r
Replies other received r = r ≡ reply.Wrong
