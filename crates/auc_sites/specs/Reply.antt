-- What a master replies to a request, and what it remembers then.
use Rattle.std.specs.Prelude.{◌≡◌, ℕ, List, [], ◌∷◌, Option, Some, None}
use Rattle.auc_vector.specs.declared.centre.CentreRefusal.{CentreRefusal}
use Rattle.auc_sites.specs.declared.grant.Grant.{Grant}
use Rattle.auc_sites.specs.declared.master.Judged.{Judged}
use Rattle.auc_sites.specs.declared.master.Judged.TheVariants as judged
use Rattle.auc_sites.specs.declared.master.Reply.{Reply}
use Rattle.auc_sites.specs.declared.master.Reply.TheVariants.{Granted, Again, Old, Refused}
use Rattle.auc_sites.specs.declared.request.Request.{Request}
use Rattle.auc_sites.specs.Drawing.{Drew, Goes, KeptWords, Top}
use Rattle.auc_sites.specs.Master.{judgement, last_grant, with_grant}

-- the reply to a new request, for which these numbers were drawn and then this refusal came, if one did: a grant of the
-- numbers, or the refusal if there are none
abbrev pub reply_to_new : Request → List ℕ → Option CentreRefusal → Reply
reply_to_new r [] None = Granted (record { request = r; lease = [] })
reply_to_new r [] (Some why) = Refused why
reply_to_new r (n ∷ ns) end = Granted (record { request = r; lease = n ∷ ns })

-- the reply to a request, by what the master makes of it
abbrev pub reply_by : Judged → Request → List ℕ → Option CentreRefusal → Reply
reply_by (judged.Again g) r numbers end = Again g
reply_by (judged.Old last) r numbers end = Old last
reply_by judged.New r numbers end = reply_to_new r numbers end

-- what the master remembers after a reply: it grants nothing new but by Granted
abbrev pub last_after : List (Option Grant) → Reply → List (Option Grant)
last_after last (Granted g) = with_grant last g
last_after last (Again g) = last
last_after last (Old r) = last
last_after last (Refused why) = last

-- what happens at the centre: it is asked for a new request, and for no other
abbrev pub AsksBy : {S : Type 0} → Goes S → KeptWords S → Top S → ℕ → ℕ → Judged → List ℕ → Option CentreRefusal → S → S → Type 0
AsksBy goes kept top sub size (judged.Again g) numbers end before after = (numbers ≡ []) × (end ≡ None) × (after ≡ before)
AsksBy goes kept top sub size (judged.Old last) numbers end before after = (numbers ≡ []) × (end ≡ None) × (after ≡ before)
AsksBy goes kept top sub size judged.New numbers end before after = Drew goes kept top sub size numbers end before after

-- the reply to a request, what the master remembers then, and what happened at the centre
pub record Replies {S : Type 0} (goes : Goes S) (kept : KeptWords S) (top : Top S) (sub size : ℕ) (old : List (Option Grant)) (r : Request) (before : S) (reply : Reply) (new : List (Option Grant)) (after : S) : Type 0 where
  pub numbers : List ℕ
  pub end : Option CentreRefusal
  pub asked : AsksBy goes kept top sub size (judgement (last_grant old r) r) numbers end before after
  pub reply_is : reply ≡ reply_by (judgement (last_grant old r) r) r numbers end
  pub last_is : new ≡ last_after old reply
