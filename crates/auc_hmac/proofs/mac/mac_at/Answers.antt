use Rattle.std.proofs.Common.{ℕ, List, ap, ◌∙◌}
use Rattle.auc_hmac.specs.Mac.{mac_of}
use Rattle.auc_hmac.proofs.MacLemmas.{input_is}
use Rattle.auc_hmac.proofs.mac.mac_at.Goals as goal

pub returns : goal.returns
returns c =
    c.mac_of.ensures
    ∙ ap (λ (input : List ℕ). mac_of c.args.method c.args.k_aut.now input) (input_is c.args.packet.now c.args.extra.now c.args.place c.args.size c.requires.within c.requires.given)
