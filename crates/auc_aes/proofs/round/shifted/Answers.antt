use Rattle.std.proofs.Common.{refl}
use Rattle.auc_aes.proofs.round.shifted.Goals as goal

pub returns : goal.returns
returns c =
    rw (c.to_be_bytes.ensures, c.to_be_bytes-2.ensures, c.to_be_bytes-3.ensures, c.to_be_bytes-4.ensures) refl
